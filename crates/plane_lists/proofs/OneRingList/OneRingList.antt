-- A sided list has one ring list alone.
use Rattle.std.proofs.Common.{List, [], ap, arith, inl, inr, length, refl, subst, sym, ℕ, ◌++◌, ◌+◌, ◌<◌, ◌∙◌, ◌∷◌, ◌≡◌, ◌⊎◌}
use Rattle.std.specs.List.{sum_by}
use Rattle.plane_lists.specs.Rings.Nesting.{edges_of}
use Rattle.lists.specs.Rotated.{IsRotated}
use Rattle.plane_lists.specs.Rings.Walk.{AreCuts, AreWalks, IsWalk}
use Rattle.plane.specs.Edge.{Edge}
use Rattle.lists.specs.Member.{In}
use Rattle.plane_lists.specs.Lists.Ring.{IsPath, IsRing}
use Rattle.plane_lists.specs.Lists.Sided.{IsSided}
use Rattle.plane_lists.specs.OneRingList.RingListOf.{AreSameRings, IsRingListOf, LiesInWalk}
use Rattle.plane_lists.proofs.NestingKit.{in-edges, Once, once-apart, same-back, same-in, same-once, sided-once, append-assoc, piece_walk, pieces_same, ring_list, rotated-total, walk_path, take, walks_there, in-edges-out}
use Rattle.plane_lists.proofs.WindingKit.{path-split}
use Rattle.lists.proofs.ListsKit.{in-either, in-left, in-right, in-rotated, pairs-left, pairs-right, rotated-in, total, total-++, total-is}
use Rattle.plane_lists.proofs.OneRingList.CyclicLists.{Turned}
use Rattle.plane_lists.proofs.OneRingList.Returns.{share_one_point}
use Rattle.plane_lists.proofs.OneRingList.RingsOfWalk.{once-turned, rings-turned, walk-turned, walk-within}

-- ---- a walk doesn't meet two points by turns
module _ (es : List Edge) (sd : IsSided es) where
  -- a walk that is parted into two lists which begin at one point
  pub parted-shares : (p q : List Edge) (e g : Edge) → IsWalk es ((e ∷ p) ++ (g ∷ q)) → Once ((e ∷ p) ++ (g ∷ q)) → e.from ≡ g.from → (f h : Edge) → In f (e ∷ p) → In h (g ∷ q) → f.from ≡ h.from → f.from ≡ e.from
  parted-shares p q e g k o s f h i j t =
      let w = walk_path es sd ((e ∷ p) ++ (g ∷ q)) k in
      let m = path-split w.0 w.0 (e ∷ p) (g ∷ q) w.1 in
      let a : w.0 ≡ e.from = sym (w.1).0 in
      let b : m.0 ≡ e.from = sym (m.2).0 ∙ sym s in
      let path : IsPath e.from (e ∷ p) e.from = subst (λ v. IsPath e.from (e ∷ p) v) b (subst (λ v. IsPath v (e ∷ p) m.0) a m.1) in
      share_one_point es sd (e ∷ p) (g ∷ q) k o e.from path f h i j t

  pub no-turns : (a b c d t : List Edge) (e f g h : Edge) → IsWalk es (a ++ ((e ∷ b) ++ ((f ∷ c) ++ ((g ∷ d) ++ (h ∷ t))))) → Once (a ++ ((e ∷ b) ++ ((f ∷ c) ++ ((g ∷ d) ++ (h ∷ t))))) → e.from ≡ g.from → f.from ≡ h.from → e.from ≡ f.from
  no-turns a b c d t e f g h k o p q =
      let u = (e ∷ b) ++ (f ∷ c) in let v = (g ∷ d) ++ (h ∷ t) in
      let s : (e ∷ b) ++ ((f ∷ c) ++ v) ≡ u ++ v = append-assoc (e ∷ b) (f ∷ c) v in
      let r : (u ++ v) ++ a ≡ u ++ (v ++ a) = sym (append-assoc u v a) in
      let k' : IsWalk es (u ++ (v ++ a)) = subst (IsWalk es) r (walk-turned es a (u ++ v) (subst (λ l. IsWalk es (a ++ l)) s k)) in
      let o' : Once (u ++ (v ++ a)) = subst Once r (once-turned a (u ++ v) (subst (λ l. Once (a ++ l)) s o)) in
      sym (parted-shares (b ++ (f ∷ c)) ((d ++ (h ∷ t)) ++ a) e g k' o' p f h (in-right (e ∷ b) (f ∷ c) f (inl refl)) (in-left v a h (in-right (g ∷ d) (h ∷ t) h (inl refl))) q)

  -- ---- rings of walks
  pub walk-of : (e : Edge) → In e es → (w : List Edge) × IsWalk es w × Once w × In e w
  walk-of e i =
      let r = walks_there es sd in let ws = r.0 in
      let o : Once (edges_of ws) = same-once (edges_of ws) es (r.1).whole (sided-once es sd) in
      let f = find ws o e (same-in es (edges_of ws) (same-back (edges_of ws) es (r.1).whole) e i) in
      (f.0, (r.1).walk f.0 f.1, f.2, f.3)
    where
      find-by : (w : List Edge) (ws : List (List Edge)) → Once (w ++ edges_of ws) → (e : Edge) → (In e w) ⊎ (In e (edges_of ws)) → (In e (edges_of ws) → (v : List Edge) × In v ws × Once v × In e v) → (v : List Edge) × In v (w ∷ ws) × Once v × In e v
      find-by w ws o e (inl i) h = (w, inl refl, pairs-left (λ (x y : Edge). x ≡ y → ⊥) w (edges_of ws) o, i)
      find-by w ws o e (inr i) h = let r = h i in (r.0, inr r.1, r.2, r.3)

      find : (ws : List (List Edge)) → Once (edges_of ws) → (e : Edge) → In e (edges_of ws) → (v : List Edge) × In v ws × Once v × In e v
      find [] o e i = absurd i
      find (w ∷ ws) o e i = find-by w ws o e (in-either w (edges_of ws) e i) (λ j. find ws (pairs-right (λ (x y : Edge). x ≡ y → ⊥) w (edges_of ws) o) e j)

  rotated-of : (r s : List Edge) → Turned r s → IsRotated r s
  rotated-of r s t = record { front = t.0; back = t.1; old = t.2; new = t.3 }

  pub rings-one : (r s : List Edge) → IsRing r → IsRing s → LiesInWalk es r → LiesInWalk es s → (e : Edge) → In e r → In e s → IsRotated r s
  rings-one r s hr hs lr ls e i j =
      let m = (lr.1).here e (lr.2 e i) in
      let w = walk-of e m in
      rotated-of r s (rings-turned es sd w.0 w.1 w.2 r s hr hs (λ x k. walk-within es sd w.0 w.1 lr.0 lr.1 e (lr.2 e i) w.3 x (lr.2 x k)) (λ x k. walk-within es sd w.0 w.1 ls.0 ls.1 e (ls.2 e j) w.3 x (ls.2 x k)) e i j)

-- ---- lists of rings

edges-between : (f : Edge → ℕ) (a : List (List Edge)) (q : List Edge) (b : List (List Edge)) → total f (edges_of (a ++ (q ∷ b))) ≡ total f q + total f (edges_of (a ++ b))
edges-between f [] q b = total-++ f q (edges_of b)
edges-between f (x ∷ a) q b =
    let h = edges-between f a q b in let c = total-++ f x (edges_of (a ++ (q ∷ b))) in let d = total-++ f x (edges_of (a ++ b)) in omega arith

total-between : (f : List Edge → ℕ) (a : List (List Edge)) (q : List Edge) (b : List (List Edge)) → total f (a ++ (q ∷ b)) ≡ f q + total f (a ++ b)
total-between f [] q b = refl
total-between f (x ∷ a) q b = let h = total-between f a q b in omega arith

pub first-of : (r : List Edge) → 0 < length r → (x : Edge) × In x r
first-of [] h = absurd (omega arith)
first-of (x ∷ xs) h = (x, inl refl)

between-by : {X : Type 0} (a : List X) (y : X) (b : List X) (x : X) → (In x a) ⊎ ((x ≡ y) ⊎ In x b) → (x ≡ y) ⊎ In x (a ++ b)
between-by a y b x (inl i) = inr (in-left a b x i)
between-by a y b x (inr (inl q)) = inl q
between-by a y b x (inr (inr i)) = inr (in-right a b x i)

in-between : {X : Type 0} (a : List X) (y : X) (b : List X) (x : X) → In x (a ++ (y ∷ b)) → (x ≡ y) ⊎ In x (a ++ b)
in-between a y b x i = between-by a y b x (in-either a (y ∷ b) x i)

into-by : {X : Type 0} (a : List X) (y : X) (b : List X) (x : X) → (In x a) ⊎ (In x b) → In x (a ++ (y ∷ b))
into-by a y b x (inl i) = in-left a (y ∷ b) x i
into-by a y b x (inr i) = in-right a (y ∷ b) x (inr i)

abbrev pub NoneEmpty : List (List Edge) → Type 0
NoneEmpty rs = (r : List Edge) → In r rs → 0 < length r

-- each ring of the one list is one of the other
abbrev pub Found : List (List Edge) → List (List Edge) → Type 0
Found rs qs = (r : List Edge) → In r rs → (q : List Edge) × In q qs × IsRotated r q

none-left : (q : List Edge) (qs : List (List Edge)) → 0 < length q → ((f : Edge → ℕ) → total f (edges_of []) ≡ total f (edges_of (q ∷ qs))) → ⊥
none-left [] qs l h = absurd (omega arith)
none-left (x ∷ q) qs l h = let a = h (λ e. 1) in absurd (omega arith)

rest-found : (r : List Edge) (rs : List (List Edge)) (a : List (List Edge)) (q : List Edge) (b : List (List Edge)) → Once (r ++ edges_of rs) → IsRotated r q → (s : List Edge) → 0 < length s → In s rs → (u : List Edge) → IsRotated s u → (u ≡ q) ⊎ In u (a ++ b) → In u (a ++ b)
rest-found r rs a q b o t s l i u v (inl e) =
    let x = first-of s l in
    let j : In x.0 q = subst (λ k. In x.0 k) e (in-rotated s u v x.0 x.1) in
    absurd (once-apart r (edges_of rs) o x.0 (rotated-in r q t x.0 j) (in-edges rs s x.0 i x.1))
rest-found r rs a q b o t s l i u v (inr j) = j

pub same-rings : (rs qs : List (List Edge)) → Once (edges_of rs) → NoneEmpty rs → NoneEmpty qs → ((f : Edge → ℕ) → total f (edges_of rs) ≡ total f (edges_of qs)) → Found rs qs → AreSameRings rs qs
same-rings [] [] o l m h k = record { begun = []; rotated = refl; moved = λ f. refl }
same-rings [] (q ∷ qs) o l m h k = absurd (none-left q qs (m q (inl refl)) h)
same-rings (r ∷ rs) qs o l m h k =
    let g = k r (inl refl) in let q = g.0 in let p = take q qs g.1 in let a = p.0 in let b = p.1 in
    let rest = same-rings rs (a ++ b) (pairs-right (λ (x y : Edge). x ≡ y → ⊥) r (edges_of rs) o) (λ s i. l s (inr i))
    (λ s i. m s (subst (λ ls. In s ls) (sym p.2) (into-by a q b s (in-either a b s i))))
    (λ f.
    let c = h f in let d = total-++ f r (edges_of rs) in let e = ap (λ ls. total f (edges_of ls)) p.2 in let n = edges-between f a q b in let t = rotated-total f r q g.2 in omega arith)
    (λ s i.
    let v = k s (inr i) in
    (v.0, rest-found r rs a q b o g.2 s (l s (inr i)) i v.0 v.2 (in-between a q b v.0 (subst (λ ls. In v.0 ls) p.2 v.1)), v.2)) in
    record {
      begun = q ∷ rest.begun;
      rotated = (q, rest.begun, refl, g.2, rest.rotated);
      moved = λ f.
          let c = rest.moved f in let d = total-is f (q ∷ rest.begun) in let e = total-is f rest.begun in let n = total-is f (a ++ b) in let t = total-between f a q b in
          let u = ap (sum_by f) p.2 in let v = total-is f (a ++ (q ∷ b)) in omega arith;
    }

module _ (es : List Edge) (sd : IsSided es) where
  pub found : (rs qs : List (List Edge)) → IsRingListOf es rs → IsRingListOf es qs → Found rs qs
  found rs qs m n r i =
      let x = first-of r (m.some r i) in
      let j = same-in (edges_of rs) es m.edges x.0 (in-edges rs r x.0 i x.1) in
      let q = in-edges-out qs x.0 (same-in es (edges_of qs) (same-back (edges_of qs) es n.edges) x.0 j) in
      (q.0, q.1, rings-one es sd r q.0 (m.ring r i) (n.ring q.0 q.1) (m.walks r i) (n.walks q.0 q.1) x.0 x.1 q.2)

  -- a sided list has one ring list
  pub ring-list-one : (rs qs : List (List Edge)) → IsRingListOf es rs → IsRingListOf es qs → AreSameRings rs qs
  ring-list-one rs qs m n =
      same-rings rs qs (same-once (edges_of rs) es m.edges (sided-once es sd)) m.some n.some
      (λ f. total-is f (edges_of rs) ∙ m.edges f ∙ sym (n.edges f) ∙ sym (total-is f (edges_of qs))) (found rs qs m n)

  pub cuts-ring-list : (ws rs : List (List Edge)) → AreWalks es ws → AreCuts ws rs → IsRingListOf es rs
  cuts-ring-list ws rs aw k =
      let uncrossed = ring_list es sd ws rs aw k in
      record {
        edges = pieces_same es sd ws rs aw k;
        walks = λ r i. let p = (piece_walk es sd ws rs aw k r i).1 in (p.0, aw.walk p.0 p.1, p.2);
        ring = uncrossed.ring;
        some = λ r i. let long = uncrossed.long r i in omega arith;
      }
