-- A ring's signed count is everywhere its parity, or everywhere the negative of its parity.
use Rattle.std.proofs.Common.{All, Bool, List, [], ap, arith, cond, eqb, eqb-true, false, inl, inr, not, refl, sym, true, ℕ, ◌%◌, ◌+◌, ◌∙◌, ◌∷◌, ◌≡◌, ◌≤◌}
use Rattle.plane.specs.Bit.{bit}
use Rattle.plane.specs.Edge.{Edge, reversed, segment_of}
use Rattle.plane.specs.Order.{order}
use Rattle.plane.specs.RayCrossing.{down_by, up_by}
use Rattle.plane.specs.Sign.{Null, Sign, is_plus, negated, sign}
use Rattle.plane.specs.Vector.{Vector, cross, east, from_to, one_at, same_point}
use Rattle.plane_lists.specs.Lists.ConflictFree.{IsConflictFree}
use Rattle.plane_lists.specs.Lists.EdgeList.{IsBalanced, IsEvenAtPoints, crossing_count, down_count, up_count}
use Rattle.lists.specs.Member.{EachPair, In}
use Rattle.plane_lists.specs.Lists.OddSide.{directed, directed_edge, runs_up_by_odd_side}
use Rattle.plane_lists.specs.Lists.Ring.{IsPath, IsRing, segments_of}
use Rattle.plane.proofs.PlaneKit.{same_point-true, cross-negated, crossings_at, down_seen, up_seen}
use Rattle.plane.proofs.SignKit.{all4-out, both, left-out, right-out, same_bool, bit-same}
use Rattle.plane_lists.proofs.Lists.Balance.{directed_balanced}
use Rattle.plane_lists.proofs.Lists.Levels.{signed_parity}
use Rattle.lists.proofs.ListsKit.{both_conds, in-all, total, total-+, total-is, total-map, total-same}
use Rattle.plane_lists.proofs.Lists.Sums.{at-self}

pub total-member : {X : Type 0} (g : X → ℕ) (xs : List X) (f : X) → In f xs → g f ≤ total g xs
total-member g [] f i = absurd i
total-member g (x ∷ xs) f (inl e) = let a = ap g e in omega arith
total-member g (x ∷ xs) f (inr i) = let a = total-member g xs f i in omega arith

-- ---- how often a point is left and entered
pub path-ends : (v a b : Vector) (xs : List Edge) → IsPath a xs b → total (λ (e : Edge). one_at v e.from) xs + one_at v b ≡ total (λ (e : Edge). one_at v e.to) xs + one_at v a
path-ends v a b [] h = let e = ap (one_at v) h in omega arith
path-ends v a b (x ∷ xs) h = let i = path-ends v x.to b xs h.1 in let e = ap (one_at v) h.0 in omega arith

pub closed-balanced : (a : Vector) (p : List Edge) → IsPath a p a → IsBalanced p
closed-balanced a p h v =
    let k = path-ends v a a p h in let b = total-is (λ (e : Edge). one_at v e.from) p in let c = total-is (λ (e : Edge). one_at v e.to) p in omega arith

none-total : (xs : List Edge) → total (λ (e : Edge). 0) xs ≡ 0
none-total [] = refl
none-total (x ∷ xs) = let a = none-total xs in omega arith

once-step : (v : Vector) (x : Edge) (xs : List Edge) → All (λ (f : Edge). same_point x.from f.from ≡ false) xs → total (λ (e : Edge). one_at v e.from) xs ≤ 1 → (b : Bool) → same_point v x.from ≡ b →
    cond {A = ℕ} b 1 0 + total (λ (e : Edge). one_at v e.from) xs ≤ 1
once-step v x xs h l true e =
    let q = same_point-true v x.from e in
    let z = total-same (λ (e : Edge). one_at v e.from) (λ e. 0) xs (λ y i. ap (λ b. cond b 1 0) (ap (λ w. same_point w y.from) q ∙ in-all (λ (f : Edge). same_point x.from f.from ≡ false) xs y h i)) in
    let n = none-total xs in omega arith
once-step v x xs h l false e = omega arith

pub once-most : (v : Vector) (xs : List Edge) → EachPair (λ (e f : Edge). same_point e.from f.from ≡ false) xs → total (λ (e : Edge). one_at v e.from) xs ≤ 1
once-most v [] h = omega arith
once-most v (x ∷ xs) h = once-step v x xs h.0 (once-most v xs h.1) (same_point v x.from) refl

-- ---- the directions of the odd side, against the ring's own
dir-by : (r b : Bool) (e : Edge) → cond r (cond b e (reversed e)) (reversed (cond b e (reversed e))) ≡ cond (same_bool r b) e (reversed e)
dir-by true true e = refl
dir-by true false e = refl
dir-by false true e = refl
dir-by false false e = refl

-- whether the odd side directs the edge as the ring does
abbrev pub keeps : List Edge → Edge → Bool
keeps es e = same_bool (runs_up_by_odd_side (segments_of es) (segment_of e)) (is_plus (order e.from e.to))

pub direct-is : (es : List Edge) (e : Edge) → directed_edge (segments_of es) (segment_of e) ≡ cond (keeps es e) e (reversed e)
direct-is es e = dir-by (runs_up_by_odd_side (segments_of es) (segment_of e)) (is_plus (order e.from e.to)) e

pub ends-swap : (v : Vector) (b : Bool) (e : Edge) → one_at v (cond b e (reversed e)).from + one_at v (cond b e (reversed e)).to ≡ one_at v e.from + one_at v e.to
ends-swap v true e = refl
ends-swap v false e = omega arith

pub ring-balanced : (es : List Edge) → IsRing es → (v : Vector) → total (λ (e : Edge). one_at v e.from) es ≡ total (λ (e : Edge). one_at v e.to) es
ring-balanced es r v = let h = path-ends v r.start r.start es r.path in omega arith

pub ring-even : (es : List Edge) → IsRing es → IsEvenAtPoints (segments_of es)
ring-even es r v =
    let a = sym (total-is (λ (e : Edge). one_at v e.from + one_at v e.to) (segments_of es)) ∙ total-map (λ (e : Edge). one_at v e.from + one_at v e.to) segment_of es in
    let b = total-same (λ e. one_at v (segment_of e).from + one_at v (segment_of e).to) (λ (e : Edge). one_at v e.from + one_at v e.to) es (λ e i. ends-swap v (is_plus (order e.from e.to)) e) in
    let c = total-+ (λ (e : Edge). one_at v e.from) (λ (e : Edge). one_at v e.to) es in let d = ring-balanced es r v in omega arith

from-by : (v : Vector) (k : Bool) (e : Edge) → one_at v (cond k e (reversed e)).from ≡ cond k (one_at v e.from) 0 + cond k 0 (one_at v e.to)
from-by v true e = omega arith
from-by v false e = omega arith

to-by : (v : Vector) (k : Bool) (e : Edge) → one_at v (cond k e (reversed e)).to ≡ cond k (one_at v e.to) 0 + cond k 0 (one_at v e.from)
to-by v true e = omega arith
to-by v false e = omega arith

one-by : (k : Bool) (n : ℕ) → n ≡ 1 → (cond k n 0 ≡ bit k) × (cond k 0 n ≡ bit (not k))
one-by true n h = (h, refl)
one-by false n h = (refl, h)

pub bit-sum : (b : Bool) → bit b + bit (not b) ≡ 1
bit-sum true = refl
bit-sum false = refl

-- two edges one after the other
next-keeps : (es : List Edge) → IsRing es → IsConflictFree (segments_of es) → (e f : Edge) → In e es → In f es → f.from ≡ e.to → keeps es f ≡ keeps es e
next-keeps es r p e f i j q =
    let v = e.to in let k = keeps es in
    let bal = directed_balanced (segments_of es) p (ring-even es r) v in
    let a = sym (total-is (λ (e : Edge). one_at v e.from) (directed (segments_of es))) ∙ total-map (λ (e : Edge). one_at v e.from) (directed_edge (segments_of es)) (segments_of es) ∙ total-map (λ (e : Edge). one_at v (directed_edge (segments_of es) e).from) segment_of es in
    let b = sym (total-is (λ (e : Edge). one_at v e.to) (directed (segments_of es))) ∙ total-map (λ (e : Edge). one_at v e.to) (directed_edge (segments_of es)) (segments_of es) ∙ total-map (λ (e : Edge). one_at v (directed_edge (segments_of es) e).to) segment_of es in
    let A = λ (x : Edge). cond (k x) (one_at v x.from) 0 in let B = λ (x : Edge). cond (k x) 0 (one_at v x.to) in
    let C = λ (x : Edge). cond (k x) (one_at v x.to) 0 in let D = λ (x : Edge). cond (k x) 0 (one_at v x.from) in
    let a' = total-same (λ (x : Edge). one_at v (directed_edge (segments_of es) (segment_of x)).from) (λ x. A x + B x) es (λ x i. ap (λ (d : Edge). one_at v d.from) (direct-is es x) ∙ from-by v (k x) x) in
    let b' = total-same (λ (x : Edge). one_at v (directed_edge (segments_of es) (segment_of x)).to) (λ x. C x + D x) es (λ x i. ap (λ (d : Edge). one_at v d.to) (direct-is es x) ∙ to-by v (k x) x) in
    let s1 = total-+ A B es in let s2 = total-+ C D es in let s3 = total-+ A D es in let s4 = total-+ C B es in
    let t1 = total-same (λ x. A x + D x) (λ (x : Edge). one_at v x.from) es (λ x i. both_conds (k x) (one_at v x.from)) in
    let t2 = total-same (λ x. C x + B x) (λ (x : Edge). one_at v x.to) es (λ x i. both_conds (k x) (one_at v x.to)) in
    let most = once-most v es r.once in let same = ring-balanced es r v in
    let here : one_at v f.from ≡ 1 = ap (λ w. one_at v w) q ∙ at-self v in let there : one_at v e.to ≡ 1 = at-self v in
    let m1 = total-member A es f j in let m2 = total-member D es f j in let m3 = total-member C es e i in let m4 = total-member B es e i in
    let o = one-by (k f) (one_at v f.from) here in let u = one-by (k e) (one_at v e.to) there in
    let o0 = o.0 in let o1 = o.1 in let u0 = u.0 in let u1 = u.1 in
    let w = bit-sum (k f) in let w' = bit-sum (k e) in
    bit-same (k f) (k e) (omega arith)

along : (es : List Edge) → IsRing es → IsConflictFree (segments_of es) → (e : Edge) → In e es → (a b : Vector) (xs : List Edge) → IsPath a xs b → e.to ≡ a → ((x : Edge) → In x xs → In x es) →
    (x : Edge) → In x xs → keeps es x ≡ keeps es e
along es r p e i a b [] h q k x j = absurd j
along es r p e i a b (y ∷ ys) h q k x (inl g) = ap (keeps es) g ∙ next-keeps es r p e y i (k y (inl refl)) (h.0 ∙ sym q)
along es r p e i a b (y ∷ ys) h q k x (inr j) =
    along es r p y (k y (inl refl)) y.to b ys h.1 refl (λ z l. k z (inr l)) x j ∙ next-keeps es r p e y i (k y (inl refl)) (h.0 ∙ sym q)

head-keeps : (es : List Edge) → IsRing es → IsConflictFree (segments_of es) → (a b : Vector) (e : Edge) (xs : List Edge) → IsPath a (e ∷ xs) b → ((x : Edge) → In x (e ∷ xs) → In x es) → (x : Edge) → In x (e ∷ xs) → keeps es x ≡ keeps es e
head-keeps es r p a b e xs h k x (inl g) = ap (keeps es) g
head-keeps es r p a b e xs h k x (inr j) = along es r p e (k e (inl refl)) e.to b xs h.1 refl (λ z l. k z (inr l)) x j

first-keeps : (es : List Edge) → IsRing es → IsConflictFree (segments_of es) → (a b : Vector) (xs : List Edge) → IsPath a xs b → ((x : Edge) → In x xs → In x es) → (x y : Edge) → In x xs → In y xs → keeps es x ≡ keeps es y
first-keeps es r p a b [] h k x y i j = absurd i
first-keeps es r p a b (e ∷ xs) h k x y i j = head-keeps es r p a b e xs h k x i ∙ sym (head-keeps es r p a b e xs h k y j)

-- the odd side directs all edges of a ring as the ring does, or none
pub ring_keeps : (es : List Edge) → IsRing es → IsConflictFree (segments_of es) → (x y : Edge) → In x es → In y es → keeps es x ≡ keeps es y
ring_keeps es r p x y i j = first-keeps es r p r.start r.start es r.path (λ z l. l) x y i j

-- ---- the crossings of a turned edge
abbrev turn_1 : Sign → Sign → Sign → Sign → Bool
turn_1 a b c d = both (eqb (up_by b a (negated c)) (down_by a b c)) (eqb (down_by b a (negated c)) (up_by a b c))

pub reversed-crossings : (d : Vector) (r : Vector → Vector) (e : Edge) → (up_seen d r (reversed e) ≡ down_seen d r e) × (down_seen d r (reversed e) ≡ up_seen d r e)
reversed-crossings d r e =
    let a = sign (cross d (r e.from)) in let b = sign (cross d (r e.to)) in let c = sign (cross (r e.from) (r e.to)) in
    let h = all4-out turn_1 refl a b c Null in
    let n = cross-negated (r e.from) (r e.to) in (
      ap (λ s. up_by b a s) n ∙ eqb-true _ _ (left-out (eqb (up_by b a (negated c)) (down_by a b c)) (eqb (down_by b a (negated c)) (up_by a b c)) h),
      ap (λ s. down_by b a s) n ∙ eqb-true _ _ (right-out (eqb (up_by b a (negated c)) (down_by a b c)) (eqb (down_by b a (negated c)) (up_by a b c)) h),
    )

segment-crossings : (d : Vector) (r : Vector → Vector) (b : Bool) (e : Edge) → crossings_at d r (cond b e (reversed e)) ≡ crossings_at d r e
segment-crossings d r true e = refl
segment-crossings d r false e = let h = reversed-crossings d r e in let x = h.0 in let y = h.1 in omega arith

pub segments-crossings : (d p : Vector) (es : List Edge) → crossing_count d p (segments_of es) ≡ crossing_count d p es
segments-crossings d p es =
    sym (total-is (crossings_at d (from_to p)) (segments_of es)) ∙ total-map (crossings_at d (from_to p)) segment_of es
    ∙ total-same (λ e. crossings_at d (from_to p) (segment_of e)) (crossings_at d (from_to p)) es (λ e i. segment-crossings d (from_to p) (is_plus (order e.from e.to)) e) ∙ total-is (crossings_at d (from_to p)) es

-- the signed count of a ring whose edges the odd side directs as the ring does (k), or the other way
pub ring_count : (es : List Edge) → IsRing es → IsConflictFree (segments_of es) → (k : Bool) → ((e : Edge) → In e es → keeps es e ≡ k) → (p : Vector) →
    cond k (up_count east p es) (down_count east p es) ≡ cond k (down_count east p es) (up_count east p es) + crossing_count east p es % 2
ring_count es r pl true h p =
    let s = signed_parity p (segments_of es) pl (ring-even es r) in
    let f = up_seen east (from_to p) in let g = down_seen east (from_to p) in
    let a = sym (total-is f (directed (segments_of es))) ∙ total-map f (directed_edge (segments_of es)) (segments_of es) ∙ total-map (λ e. f (directed_edge (segments_of es) e)) segment_of es in
    let b = sym (total-is g (directed (segments_of es))) ∙ total-map g (directed_edge (segments_of es)) (segments_of es) ∙ total-map (λ e. g (directed_edge (segments_of es) e)) segment_of es in
    let c = total-same (λ e. f (directed_edge (segments_of es) (segment_of e))) f es (λ e i. ap f (direct-is es e ∙ ap (λ k. cond k e (reversed e)) (h e i))) in
    let d = total-same (λ e. g (directed_edge (segments_of es) (segment_of e))) g es (λ e i. ap g (direct-is es e ∙ ap (λ k. cond k e (reversed e)) (h e i))) in
    let x = total-is f es in let y = total-is g es in let z = segments-crossings east p es in omega arith
ring_count es r pl false h p =
    let s = signed_parity p (segments_of es) pl (ring-even es r) in
    let f = up_seen east (from_to p) in let g = down_seen east (from_to p) in
    let a = sym (total-is f (directed (segments_of es))) ∙ total-map f (directed_edge (segments_of es)) (segments_of es) ∙ total-map (λ e. f (directed_edge (segments_of es) e)) segment_of es in
    let b = sym (total-is g (directed (segments_of es))) ∙ total-map g (directed_edge (segments_of es)) (segments_of es) ∙ total-map (λ e. g (directed_edge (segments_of es) e)) segment_of es in
    let c = total-same (λ e. f (directed_edge (segments_of es) (segment_of e))) g es (λ e i. ap f (direct-is es e ∙ ap (λ k. cond k e (reversed e)) (h e i)) ∙ (reversed-crossings east (from_to p) e).0) in
    let d = total-same (λ e. g (directed_edge (segments_of es) (segment_of e))) f es (λ e i. ap g (direct-is es e ∙ ap (λ k. cond k e (reversed e)) (h e i)) ∙ (reversed-crossings east (from_to p) e).1) in
    let x = total-is f es in let y = total-is g es in let z = segments-crossings east p es in omega arith
