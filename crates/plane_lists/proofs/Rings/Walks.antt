-- The edges of a sided list make walks.
use Rattle.std.proofs.Common.{List, [], ap, arith, inl, inr, length, refl, subst, suc, sym, zero, ℕ, ◌++◌, ◌+◌, ◌<◌, ◌∙◌, ◌∷◌, ◌≡◌, ◌≤◌, ◌⊎◌}
use Rattle.plane_lists.specs.Rings.Nesting.{edges_of}
use Rattle.plane_lists.specs.Rings.Walk.{AreWalks, Follow, HasSameEdges, IsCycle, IsSuccessor, last}
use Rattle.plane.specs.Edge.{Edge}
use Rattle.lists.specs.Member.{In}
use Rattle.plane_lists.specs.Lists.Sided.{IsSided}
use Rattle.plane_lists.proofs.Rings.Nests.{in-edges}
use Rattle.plane_lists.proofs.Rings.Parts.{Once, once-apart, same-back, same-in, same-once, sided-once}
use Rattle.plane_lists.proofs.Rings.Pieces.{last-in}
use Rattle.plane_lists.proofs.Rings.Successors.{next_one}
use Rattle.plane_lists.proofs.Rings.Turns.{next_there}
use Rattle.lists.proofs.ListsKit.{in-all, in-either, in-left, in-right, pairs-left, pairs-right, total, total-++, total-is}

pub take : {X : Type 0} (y : X) (xs : List X) → In y xs → (a : List X) × (b : List X) × (xs ≡ a ++ (y ∷ b))
take y [] i = absurd i
take y (x ∷ xs) (inl e) = ([], xs, ap (λ w. w ∷ xs) (sym e))
take y (x ∷ xs) (inr i) = let r = take y xs i in (x ∷ r.0, r.1, ap (λ l. x ∷ l) r.2)

length-append : (xs ys : List Edge) → length (xs ++ ys) ≡ length xs + length ys
length-append [] ys = omega arith
length-append (x ∷ xs) ys = let h = length-append xs ys in omega arith

last-or : (x : Edge) (p : List Edge) → In (last x p) (x ∷ p)
last-or x [] = inl refl
last-or x (y ∷ ys) = inr (last-in x y ys)

module _ (es : List Edge) (sd : IsSided es) where
  abbrev T : Edge → Edge → Type 0
  T = IsSuccessor es

  follow-push : (x : Edge) (p : List Edge) (y : Edge) → Follow T x p → T (last x p) y → Follow T x (p ++ (y ∷ []))
  follow-push x [] y h t = (t, tt)
  follow-push x (q ∷ p) y h t = (h.0, follow-push q p y h.1 t)

  follow-before : (x : Edge) (p : List Edge) → Follow T x p → (y : Edge) → In y p → (c : Edge) × In c (x ∷ p) × T c y
  follow-before x [] h y i = absurd i
  follow-before x (q ∷ p) h y (inl e) = (x, inl refl, subst (λ w. T x w) (sym e) h.0)
  follow-before x (q ∷ p) h y (inr i) = let r = follow-before q p h.1 y i in (r.0, inr r.1, r.2)

  -- the successor of the last is not inside
  not-inside : (x : Edge) (p : List Edge) → ((a : Edge) → In a (x ∷ p) → In a es) → Once (x ∷ p) → Follow T x p → (y : Edge) → In y p → T (last x p) y → ⊥
  not-inside x [] m o h y i t = i
  not-inside x (q ∷ p) m o h y (inl e) t =
      let k = next_one es sd x (last q p) q (m x (inl refl)) (m (last q p) (inr (last-or q p))) h.0 (subst (λ w. T (last q p) w) e t) in
      in-all (λ (y : Edge). x ≡ y → ⊥) (q ∷ p) (last q p) o.0 (last-or q p) k
  not-inside x (q ∷ p) m o h y (inr i) t = not-inside q p (λ a j. m a (inr j)) o.1 h.1 y i t

  abbrev Closed : List Edge → Type 0
  Closed xs = (a : Edge) → In a xs → (b : Edge) × In b xs × T a b

  record IsState (x : Edge) (p rest : List Edge) : Type 0 where
    pub member : (a : Edge) → In a (x ∷ (p ++ rest)) → In a es
    pub once : Once (x ∷ (p ++ rest))
    pub steps : Follow T x p
    pub closed : Closed (x ∷ (p ++ rest))

  abbrev Result : List Edge → Type 0
  Result xs = (ws : List (List Edge)) × ((w : List Edge) → In w ws → IsCycle T w) × HasSameEdges (edges_of ws) xs

  cycles-more : (w : List Edge) (ws : List (List Edge)) → IsCycle T w → ((u : List Edge) → In u ws → IsCycle T u) → (u : List Edge) → In u (w ∷ ws) → IsCycle T u
  cycles-more w ws c h u (inl e) = subst (λ l. IsCycle T l) (sym e) c
  cycles-more w ws c h u (inr i) = h u i

  abbrev Rec : List Edge → Type 0
  Rec rest = (x : Edge) (p r : List Edge) → length r < length rest → IsState x p r → Result (x ∷ (p ++ r))

  out-of-in : (x : Edge) (p rest : List Edge) → IsState x p rest → (a b : Edge) → In a rest → T a b → (In b p) ⊎ (In b rest) → In b rest
  out-of-in x p rest s a b i t (inr j) = j
  out-of-in x p rest s a b i t (inl j) =
      let c = follow-before x p s.steps b j in
      let k = next_one es sd a c.0 b (s.member a (in-right (x ∷ p) rest a i)) (s.member c.0 (in-left (x ∷ p) rest c.0 c.1)) t c.2 in
      absurd (once-apart (x ∷ p) rest s.once c.0 c.1 (subst (λ w. In w rest) k i))

  out-of : (x : Edge) (p rest : List Edge) → IsState x p rest → T (last x p) x → (a b : Edge) → In a rest → T a b → (b ≡ x) ⊎ In b (p ++ rest) → In b rest
  out-of x p rest s l a b i t (inl e) =
      let k = next_one es sd a (last x p) x (s.member a (in-right (x ∷ p) rest a i)) (s.member (last x p) (in-left (x ∷ p) rest (last x p) (last-or x p))) (subst (λ w. T a w) e t) l in
      absurd (once-apart (x ∷ p) rest s.once (last x p) (last-or x p) (subst (λ w. In w rest) k i))
  out-of x p rest s l a b i t (inr j) = out-of-in x p rest s a b i t (in-either p rest b j)

  -- the path is a walk; the rest is closed
  close : (x : Edge) (p rest : List Edge) → IsState x p rest → T (last x p) x → Rec rest → Result (x ∷ (p ++ rest))
  close x p [] s l rec = ((x ∷ p) ∷ [], cycles-more (x ∷ p) [] (record { end = last x p; closed = refl; steps = (l, s.steps) }) (λ u i. absurd i), λ f. refl)
  close x p (r ∷ rs) s l rec =
      let st : IsState r [] rs = record {
        member = λ a i. s.member a (in-right (x ∷ p) (r ∷ rs) a i);
        once = pairs-right (λ (x y : Edge). x ≡ y → ⊥) (x ∷ p) (r ∷ rs) s.once;
        steps = tt;
        closed = λ a i. let n = s.closed a (in-right (x ∷ p) (r ∷ rs) a i) in (n.0, out-of x p (r ∷ rs) s l a n.0 i n.2 n.1, n.2);
      } in
      let k = rec r [] rs (omega arith) st in (
        (x ∷ p) ∷ k.0,
        cycles-more (x ∷ p) k.0 (record { end = last x p; closed = refl; steps = (l, s.steps) }) k.1,
        λ f.
            let a = total-is f (edges_of ((x ∷ p) ∷ k.0)) in let b = total-++ f (x ∷ p) (edges_of k.0) in let c = total-is f (edges_of k.0) in let d = k.2 f in
            let e = total-++ f (x ∷ p) (r ∷ rs) in let g = total-is f (x ∷ (p ++ (r ∷ rs))) in let h = total-is f (r ∷ rs) in
            sym a ∙ b ∙ ap (λ n. total f (x ∷ p) + n) (c ∙ d ∙ sym h) ∙ sym e ∙ g,
      )

  moved : (x : Edge) (p : List Edge) (y : Edge) (a b : List Edge) → HasSameEdges (x ∷ ((p ++ (y ∷ [])) ++ (a ++ b))) (x ∷ (p ++ (a ++ (y ∷ b))))
  moved x p y a b f =
      let s = total-++ f (p ++ (y ∷ [])) (a ++ b) in let t = total-++ f p (y ∷ []) in let u = total-++ f a b in let v = total-++ f p (a ++ (y ∷ b)) in let w = total-++ f a (y ∷ b) in
      let q : total f (x ∷ ((p ++ (y ∷ [])) ++ (a ++ b))) ≡ total f (x ∷ (p ++ (a ++ (y ∷ b)))) = omega arith in
      sym (total-is f (x ∷ ((p ++ (y ∷ [])) ++ (a ++ b)))) ∙ q ∙ total-is f (x ∷ (p ++ (a ++ (y ∷ b))))

  extend : (x : Edge) (p : List Edge) (y : Edge) (a b : List Edge) → IsState x p (a ++ (y ∷ b)) → T (last x p) y → Rec (a ++ (y ∷ b)) → Result (x ∷ (p ++ (a ++ (y ∷ b))))
  extend x p y a b s t rec =
      let old = x ∷ (p ++ (a ++ (y ∷ b))) in let new = x ∷ ((p ++ (y ∷ [])) ++ (a ++ b)) in
      let m = moved x p y a b in
      let st : IsState x (p ++ (y ∷ [])) (a ++ b) = record {
        member = λ z i. s.member z (same-in new old m z i);
        once = same-once new old m s.once;
        steps = follow-push x p y s.steps t;
        closed = λ z i. let n = s.closed z (same-in new old m z i) in (n.0, same-in old new (same-back new old m) n.0 n.1, n.2);
      } in
      let k = rec x (p ++ (y ∷ [])) (a ++ b) (let g = length-append a b in let h = length-append a (y ∷ b) in omega arith) st in
      (k.0, k.1, λ f. k.2 f ∙ m f)

  once-first : (x : Edge) (p rest : List Edge) → Once (x ∷ (p ++ rest)) → Once (x ∷ p)
  once-first x p rest o = pairs-left (λ (x y : Edge). x ≡ y → ⊥) (x ∷ p) rest o

  go-in : (x : Edge) (p rest : List Edge) → IsState x p rest → Rec rest → (y : Edge) → T (last x p) y → (In y p) ⊎ (In y rest) → Result (x ∷ (p ++ rest))
  go-in x p rest s rec y t (inl i) =
      absurd (not-inside x p (λ a j. s.member a (in-left (x ∷ p) rest a j)) (once-first x p rest s.once) s.steps y i t)
  go-in x p rest s rec y t (inr i) =
      let k = take y rest i in
      subst (λ l. Result (x ∷ (p ++ l))) (sym k.2) (extend x p y k.0 k.1 (subst (λ l. IsState x p l) k.2 s) t (subst Rec k.2 rec))

  go : (x : Edge) (p rest : List Edge) → IsState x p rest → Rec rest → (y : Edge) → T (last x p) y → (y ≡ x) ⊎ In y (p ++ rest) → Result (x ∷ (p ++ rest))
  go x p rest s rec y t (inl e) = close x p rest s (subst (λ w. T (last x p) w) e t) rec
  go x p rest s rec y t (inr i) = go-in x p rest s rec y t (in-either p rest y i)

  step : (x : Edge) (p rest : List Edge) → IsState x p rest → Rec rest → Result (x ∷ (p ++ rest))
  step x p rest s rec = let n = s.closed (last x p) (in-left (x ∷ p) rest (last x p) (last-or x p)) in go x p rest s rec n.0 n.2 n.1

  build : (n : ℕ) (x : Edge) (p rest : List Edge) → length rest ≤ n → IsState x p rest → Result (x ∷ (p ++ rest))
  build zero x p rest l s = step x p rest s (λ x' p' r lt st. absurd (omega arith))
  build (suc m) x p rest l s = step x p rest s (λ x' p' r lt st. build m x' p' r (omega arith) st)

  all-closed : Closed es
  all-closed a i = let n = next_there es sd a i in (n.0, (n.1).member, n.1)

  from-list : (xs : List Edge) → es ≡ xs → Result xs
  from-list [] q = ([], λ w i. absurd i, λ f. refl)
  from-list (x ∷ xs) q = build (length xs) x [] xs (omega arith) (record {
    member = λ a i. subst (λ l. In a l) (sym q) i;
    once = subst Once q (sided-once es sd);
    steps = tt;
    closed = subst Closed q all-closed;
  })

  -- the edges of a sided list are parted into walks
  pub walks_there : (ws : List (List Edge)) × AreWalks es ws
  walks_there =
      let r = from-list es refl in (
        r.0,
        record {
          walk = λ w i. record { here = λ e j. same-in (edges_of r.0) es r.2 e (in-edges r.0 w e i j); cycle = r.1 w i };
          whole = r.2;
        },
      )
