-- Parts of a sided list, and a sided list in another order.
use Rattle.std.proofs.Common.{All, Bool, List, [], ap, arith, cond, false, inl, inr, length, refl, subst, sym, true, ℕ, ◌++◌, ◌+◌, ◌<◌, ◌∙◌, ◌∷◌, ◌≡◌, ◌≤◌, ◌⊎◌}
use lib.IntN.{pos, ℤ, ◌-ℤ◌}
use Rattle.plane_lists.specs.Rings.Walk.{HasSameEdges}
use Rattle.plane.specs.Bit.{bit}
use Rattle.plane.specs.Conflict.{IsClearOf}
use Rattle.plane.specs.Edge.{Edge, IsRisingEdge, reversed, same_edge, segment_of}
use Rattle.plane.specs.Order.{order}
use Rattle.plane.specs.RayCrossing.{IsOffEdge, down_crossing, up_crossing}
use Rattle.plane.specs.Scale.{scaled_edge}
use Rattle.plane.specs.Sign.{is_plus}
use Rattle.plane.specs.Vector.{Vector, east, from_to, one_at, same_point}
use Rattle.plane_lists.specs.Lists.ConflictFree.{IsConflictFree}
use Rattle.plane_lists.specs.Lists.EdgeList.{down_count, up_count, winding_number}
use Rattle.lists.specs.Member.{EachPair, In}
use Rattle.plane_lists.specs.Lists.Ring.{IsPath, segments_of}
use Rattle.plane_lists.specs.Lists.ScaledEdges.{scaled_edges}
use Rattle.plane_lists.specs.Lists.Sided.{IsSided}
use Rattle.plane_lists.proofs.Rings.Successors.{clear-two, no-loop-segments, rise, segment-one}
use Rattle.plane.proofs.PlaneKit.{clear_differs, same_edge-refl, same_edge-true, same_edge_by, same_point-refl}
use Rattle.lists.proofs.ListsKit.{all-in, in-all, in-either, in-left, in-map, in-map-out, in-right, pairs-across, pairs-left, pairs-right, total, total-is, total-map}
use Rattle.plane_lists.proofs.WindingKit.{total-member, segment-direct-by}

abbrev pub Apart : List Edge → List Edge → Type 0
Apart xs ys = (x : Edge) → In x xs → In x ys → ⊥

-- no element twice
abbrev pub Once : List Edge → Type 0
Once xs = EachPair (λ (x y : Edge). x ≡ y → ⊥) xs

pub once-apart : (xs ys : List Edge) → Once (xs ++ ys) → Apart xs ys
once-apart xs ys o x i j = pairs-across (λ (x y : Edge). x ≡ y → ⊥) xs ys x x o i j refl

pub in-covers : (a p b : List Edge) (x : Edge) → In x (a ++ b) → In x (a ++ (p ++ b))
in-covers [] p b x i = in-right p b x i
in-covers (y ∷ a) p b x (inl e) = inl e
in-covers (y ∷ a) p b x (inr i) = inr (in-covers a p b x i)

pub in-middle : (a p b : List Edge) (x : Edge) → In x p → In x (a ++ (p ++ b))
in-middle a p b x i = in-right a (p ++ b) x (in-left p b x i)

pub once-cut : (a p b : List Edge) → Once (a ++ (p ++ b)) → Once (a ++ b)
once-cut [] p b o = pairs-right (λ (x y : Edge). x ≡ y → ⊥) p b o
once-cut (x ∷ a) p b o = (all-in (λ (y : Edge). x ≡ y → ⊥) (a ++ b) (λ y i. in-all (λ (y : Edge). x ≡ y → ⊥) (a ++ (p ++ b)) y o.0 (in-covers a p b y i)), once-cut a p b o.1)

pub once-middle : (a p b : List Edge) → Once (a ++ (p ++ b)) → Once p
once-middle a p b o = pairs-left (λ (x y : Edge). x ≡ y → ⊥) p b (pairs-right (λ (x y : Edge). x ≡ y → ⊥) a (p ++ b) o)

apart-by : (a p b : List Edge) → Once (a ++ (p ++ b)) → (x : Edge) → In x p → (In x a) ⊎ (In x b) → ⊥
apart-by a p b o x i (inl j) = once-apart a (p ++ b) o x j (in-left p b x i)
apart-by a p b o x i (inr j) = once-apart p b (pairs-right (λ (x y : Edge). x ≡ y → ⊥) a (p ++ b) o) x i j

pub apart-rest : (a p b : List Edge) → Once (a ++ (p ++ b)) → Apart p (a ++ b)
apart-rest a p b o x i j = apart-by a p b o x i (in-either a b x j)

-- ---- how often an edge stands in a list
abbrev here : Edge → List Edge → ℕ
here z xs = total (λ (y : Edge). bit (same_edge z y)) xs

differ-of : (x y : Edge) → (x ≡ y → ⊥) → (b : Bool) → same_edge x y ≡ b → b ≡ false
differ-of x y n true h = absurd (n (same_edge-true x y h))
differ-of x y n false h = refl

pub differ : (x y : Edge) → (x ≡ y → ⊥) → same_edge x y ≡ false
differ x y n = differ-of x y n (same_edge x y) refl

none-here : (x : Edge) (xs : List Edge) → All (λ (y : Edge). x ≡ y → ⊥) xs → here x xs ≡ 0
none-here x [] h = refl
none-here x (y ∷ ys) h =
    let a = ap bit (differ x y (in-all (λ (y : Edge). x ≡ y → ⊥) (y ∷ ys) y h (inl refl))) in
    let b = none-here x ys (all-in (λ (y : Edge). x ≡ y → ⊥) ys (λ z i. in-all (λ (y : Edge). x ≡ y → ⊥) (y ∷ ys) z h (inr i))) in omega arith

count-step : (z x : Edge) (xs : List Edge) → All (λ (y : Edge). x ≡ y → ⊥) xs → here z xs ≤ 1 → (b : Bool) → same_edge z x ≡ b → bit b + here z xs ≤ 1
count-step z x xs h l true e = let k = ap (λ w. here w xs) (same_edge-true z x e) in let n = none-here x xs h in omega arith
count-step z x xs h l false e = omega arith

once-count : (z : Edge) (xs : List Edge) → Once xs → here z xs ≤ 1
once-count z [] o = omega arith
once-count z (x ∷ xs) o = count-step z x xs o.0 (once-count z xs o.1) (same_edge z x) refl

one-here : (x y : Edge) → x ≡ y → bit (same_edge x y) ≡ 1
one-here x y e = ap bit (ap (λ w. same_edge x w) (sym e) ∙ same_edge-refl x)

count-once : (xs : List Edge) → ((x : Edge) → In x xs → here x xs ≤ 1) → Once xs
count-once [] h = tt
count-once (x ∷ xs) h = (
  all-in (λ (y : Edge). x ≡ y → ⊥) xs (λ y i e.
      let a = h x (inl refl) in let b = one-here x x refl in let c = one-here x y e in let d = total-member (λ (y : Edge). bit (same_edge x y)) xs y i in absurd (omega arith)),
  count-once xs (λ y i. let a = h y (inr i) in omega arith),
)

some-by : (p : Edge → Bool) (x : Edge) (xs : List Edge) → (b : Bool) → p x ≡ b → 1 ≤ bit b + total (λ y. bit (p y)) xs → (1 ≤ total (λ y. bit (p y)) xs → (y : Edge) × In y xs × (p y ≡ true)) → (y : Edge) × In y (x ∷ xs) × (p y ≡ true)
some-by p x xs true e h k = (x, inl refl, e)
some-by p x xs false e h k = let r = k (omega arith) in (r.0, inr r.1, r.2)

some-of : (p : Edge → Bool) (xs : List Edge) → 1 ≤ total (λ y. bit (p y)) xs → (y : Edge) × In y xs × (p y ≡ true)
some-of p [] h = absurd (omega arith)
some-of p (x ∷ xs) h = some-by p x xs (p x) refl h (some-of p xs)

same-edges-total : (xs ys : List Edge) → HasSameEdges xs ys → (f : Edge → ℕ) → total f xs ≡ total f ys
same-edges-total xs ys s f = total-is f xs ∙ s f ∙ sym (total-is f ys)

pub same-back : (xs ys : List Edge) → HasSameEdges xs ys → HasSameEdges ys xs
same-back xs ys s f = sym (s f)

pub same-in : (xs ys : List Edge) → HasSameEdges xs ys → (x : Edge) → In x xs → In x ys
same-in xs ys s x i =
    let a = total-member (λ (y : Edge). bit (same_edge x y)) xs x i in let b = one-here x x refl in let c = same-edges-total xs ys s (λ (y : Edge). bit (same_edge x y)) in
    let r = some-of (same_edge x) ys (omega arith) in
    subst (λ w. In w ys) (sym (same_edge-true x r.0 r.2)) r.1

pub same-once : (xs ys : List Edge) → HasSameEdges xs ys → Once ys → Once xs
same-once xs ys s o = count-once xs (λ x i. let a = same-edges-total xs ys s (λ (y : Edge). bit (same_edge x y)) in let b = once-count x ys o in omega arith)

once-segments : (xs : List Edge) → ((x : Edge) → In x xs → IsRisingEdge (segment_of x)) → EachPair IsClearOf (segments_of xs) → Once xs
once-segments [] r p = tt
once-segments (x ∷ xs) r p = (
  all-in (λ (y : Edge). x ≡ y → ⊥) xs (λ y i e.
      let k = clear_differs (segment_of x) (segment_of y) (r x (inl refl)) (in-all (IsClearOf (segment_of x)) (segments_of xs) (segment_of y) p.0 (in-map segment_of xs y i)) in
      absurd (cc (sym (same_edge-refl (segment_of x)) ∙ ap (λ w. same_edge (segment_of x) (segment_of w)) e ∙ k))),
  once-segments xs (λ y i. r y (inr i)) p.1,
)

scaled-sum : (k : ℤ) (f : Edge → ℕ) (xs ys : List Edge) → HasSameEdges xs ys → total f (scaled_edges k xs) ≡ total f (scaled_edges k ys)
scaled-sum k f xs ys s = total-map f (scaled_edge k) xs ∙ same-edges-total xs ys s (λ e. f (scaled_edge k e)) ∙ sym (total-map f (scaled_edge k) ys)

pub same-winding : (k : ℤ) (p : Vector) (xs ys : List Edge) → HasSameEdges xs ys → winding_number east p (scaled_edges k xs) ≡ winding_number east p (scaled_edges k ys)
same-winding k p xs ys s =
    let f = λ (e : Edge). up_crossing east (from_to p e.from) (from_to p e.to) in let g = λ (e : Edge). down_crossing east (from_to p e.from) (from_to p e.to) in
    let a : up_count east p (scaled_edges k xs) ≡ up_count east p (scaled_edges k ys) = sym (total-is f (scaled_edges k xs)) ∙ scaled-sum k f xs ys s ∙ total-is f (scaled_edges k ys) in
    let b : down_count east p (scaled_edges k xs) ≡ down_count east p (scaled_edges k ys) = sym (total-is g (scaled_edges k xs)) ∙ scaled-sum k g xs ys s ∙ total-is g (scaled_edges k ys) in
    ap (λ n. pos n -ℤ pos (down_count east p (scaled_edges k xs))) a ∙ ap (λ n. pos (up_count east p (scaled_edges k ys)) -ℤ pos n) b

pub reversed-by : (b : Bool) (x : Edge) → IsRisingEdge (cond b x (reversed x)) → segment_of (reversed x) ≡ cond b x (reversed x)
reversed-by true x r = segment-direct-by false x r
reversed-by false x r = segment-direct-by true (reversed x) r

module _ (es : List Edge) (sd : IsSided es) where
  pub sided-once : Once es
  sided-once = once-segments es (rise es sd) sd.plain.clear

  plain-pairs : (xs : List Edge) → ((x : Edge) → In x xs → In x es) → Once xs → EachPair IsClearOf (segments_of xs)
  plain-pairs [] sub o = tt
  plain-pairs (x ∷ xs) sub o = (
    all-in (IsClearOf (segment_of x)) (segments_of xs) (λ t j.
        let r = in-map-out segment_of xs t j in
        subst (IsClearOf (segment_of x)) (sym r.2) (clear-two es sd x r.0 (sub x (inl refl)) (sub r.0 (inr r.1)) (differ x r.0 (in-all (λ (y : Edge). x ≡ y → ⊥) xs r.0 o.0 r.1)))),
    plain-pairs xs (λ y i. sub y (inr i)) o.1,
  )

  pub plain-of : (xs : List Edge) → ((x : Edge) → In x xs → In x es) → Once xs → IsConflictFree (segments_of xs)
  plain-of xs sub o = record {
    rising = all-in IsRisingEdge (segments_of xs) (λ t j. let r = in-map-out segment_of xs t j in subst IsRisingEdge (sym r.2) (rise es sd r.0 (sub r.0 r.1)));
    clear = plain-pairs xs sub o;
  }

  -- a sided list stays so in another order
  pub sided_same : (xs : List Edge) → HasSameEdges xs es → IsSided xs
  sided_same xs s = record {
    plain = plain-of xs (same-in xs es s) (same-once xs es s sided-once);
    balanced = λ v. s (λ (e : Edge). one_at v e.from) ∙ sd.balanced v ∙ sym (s (λ (e : Edge). one_at v e.to));
    counted = λ k hk p off. subst (λ n. (n ≡ pos 0) ⊎ (n ≡ pos 1)) (sym (same-winding k p xs es s))
        (sd.counted k hk p (all-in (IsOffEdge p) (scaled_edges k es) (λ t j.
        let r = in-map-out (scaled_edge k) es t j in
        subst (IsOffEdge p) (sym r.2) (in-all (IsOffEdge p) (scaled_edges k xs) (scaled_edge k r.0) off (in-map (scaled_edge k) xs r.0 (same-in es xs (same-back xs es s) r.0 r.1))))));
  }

  one-long : (x : Edge) → In x es → (v : Vector) → x.from ≡ v → v ≡ x.to → ⊥
  one-long x i v h k = no-loop-segments v x (ap (same_point v) h ∙ same_point-refl v) (ap (same_point v) (sym k) ∙ same_point-refl v) (rise es sd x i)

  two-long : (x y : Edge) → In x es → In y es → (x ≡ y → ⊥) → x.from ≡ y.to → y.from ≡ x.to → ⊥
  two-long x y i j n h k =
      let q : y ≡ reversed x = same_edge_by y.from y.to x.to x.from k (sym h) in
      n (segment-one es sd x y i j (sym (ap segment_of q ∙ reversed-by (is_plus (order x.from x.to)) x (rise es sd x i))))

  -- a ring has three edges at least
  pub ring_long : (xs : List Edge) → ((x : Edge) → In x xs → In x es) → Once xs → 0 < length xs → (a : Vector) → IsPath a xs a → 3 ≤ length xs
  ring_long [] sub o l a p = absurd (omega arith)
  ring_long (x ∷ []) sub o l a p = absurd (one-long x (sub x (inl refl)) a p.0 (sym p.1))
  ring_long (x ∷ (y ∷ [])) sub o l a p =
      absurd (two-long x y (sub x (inl refl)) (sub y (inr (inl refl))) (in-all (λ (y : Edge). x ≡ y → ⊥) (y ∷ []) y o.0 (inl refl)) (p.0 ∙ sym p.1.1) p.1.0)
  ring_long (x ∷ (y ∷ (z ∷ zs))) sub o l a p = omega arith
