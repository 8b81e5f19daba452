-- The odd side, told by the ray along the edge.
use Rattle.std.proofs.Common.{Bool, List, ap, arith, cond, eqb, eqb-true, false, inl, inr, not, refl, subst, sym, true, ℕ, ◌%◌, ◌&&◌, ◌+◌, ◌||◌, ◌∙◌, ◌≡◌, ◌⊎◌}
use Rattle.std.specs.List.{count_by}
use lib.IntN.{◌-ℤ◌}
use Rattle.plane.specs.Bit.{bit}
use Rattle.plane.specs.Conflict.{IsClearOf}
use Rattle.plane.specs.Edge.{Edge, IsRisingEdge, ends_at, other_end, same_edge}
use Rattle.plane.specs.FreeSegment.{Misses, misses_by}
use Rattle.plane.specs.Height.{is_in_span, is_left_of, starts_left_of}
use Rattle.plane.specs.Order.{order}
use Rattle.plane.specs.Sector.{in_sector, sector_by}
use Rattle.plane.specs.Sign.{Minus, Null, Plus, Sign, is_minus, is_null, is_plus, negated, sign, then_sign}
use Rattle.plane.specs.Vector.{IsNonZero, Vector, cross, dot, east, from_to, orient, same_point}
use Rattle.plane_lists.specs.Lists.ConflictFree.{IsConflictFree, others}
use Rattle.plane_lists.specs.Lists.EdgeList.{IsEvenAtPoints, crossing_count}
use Rattle.lists.specs.Member.{In}
use Rattle.plane_lists.specs.Lists.Node.{away, spokes, spokes_in}
use Rattle.plane_lists.specs.Lists.OddSide.{runs_up_by_odd_side}
use Rattle.plane_lists.specs.Lists.Parity.{is_even}
use Rattle.lists.proofs.ListsKit.{even_or_odd, in-filter, not-not, total, total-+, total-filter, total-is, total-same}
use Rattle.plane.proofs.PlaneKit.{clear_misses, edge_of, ends_at-from, line-order-up, order-reversed, rising-direction, same_point-refl, same_point-true, cross-agree, cross-here, cross-self, direction-back, dot-here, dot-reversed, crossings-left, crossings_at, east-direction, east-side, level-side, not-left, sector-east}
use Rattle.plane.proofs.SignKit.{agree, all, all-out, all4-out, imp, imp-out, not-null-by, same-sign-is, same_sign, self-diff, times}
use Rattle.plane_lists.proofs.Lists.ConflictFree.{clear_of_others, off_away, rising_in, split_off}
use Rattle.plane_lists.proofs.Lists.OppositeEnds.{beyond, crossings-away, opposite_odd}
use Rattle.plane_lists.proofs.Lists.Ranks.{even-is, odd-is}
use Rattle.plane_lists.proofs.Lists.RoundNode.{parity_round_node}

beyond-left-by : (d p : Vector) (t : Edge) (b : Bool) → ends_at p t ≡ b → ((w : Vector) → sign (cross d w) ≡ sign w.y) → IsRisingEdge t → cond (not b) (crossings_at d (from_to p) t) 0 ≡ bit (is_left_of p t)
beyond-left-by d p t true e h r = sym (not-left p t e)
beyond-left-by d p t false e h r = crossings-left d p t h r

pub beyond-left : (d p : Vector) (t : Edge) → ((w : Vector) → sign (cross d w) ≡ sign w.y) → IsRisingEdge t → beyond d p t ≡ bit (is_left_of p t)
beyond-left d p t h r = beyond-left-by d p t (ends_at p t) refl h r

-- ---- an edge that begins at the point, and one that ends there
abbrev begin_1 : Sign → Sign → Sign → Sign → Bool
begin_1 wx wy dx dy = all λ k. imp (agree k (times dy wx) (times dx wy)) λ _. imp (not (is_null k)) λ _. imp (same_sign dy Plus) λ _. imp (same_sign (then_sign wy wx) Plus) λ _.
    eqb (sector_by wx wy dx dy k) (bit (is_plus wy && is_minus k))

abbrev finish_1 : Sign → Sign → Sign → Sign → Bool
finish_1 wx wy dx dy = all λ k. imp (agree k (times dy wx) (times dx wy)) λ _. imp (same_sign dy Plus) λ _. imp (same_sign (then_sign wy wx) Minus) λ _.
    eqb (sector_by wx wy dx dy k) 0

-- two clear edges at one point do not leave it in the same direction
no_way_1 : (us ct vt : Sign) (cs : Sign) → misses_by Null Null cs ct Null Plus Minus vt ≡ true → ⊥
no_way_1 us ct vt cs h = cc h

no_way_2 : (cs ct ut : Sign) → misses_by Null Null cs ct Plus Null ut Minus ≡ true → ⊥
no_way_2 cs ct Plus h = cc h
no_way_2 cs ct Null h = cc h
no_way_2 cs ct Minus h = cc h

back-minus : (v p : Vector) → IsNonZero (from_to v p) → sign (dot (from_to v p) (from_to p v)) ≡ Minus
back-minus v p h = dot-reversed p v p v ∙ ap negated (direction-back v p h)

pub no_same_way_from : (v p q : Vector) → IsNonZero (from_to v p) → Misses v p (edge_of v q) → sign (cross (from_to v p) (from_to v q)) ≡ Null → sign (dot (from_to v p) (from_to v q)) ≡ Plus → ⊥
no_same_way_from v p q h m z o =
    no_way_1 Null (sign (cross (from_to p v) (from_to p q))) (sign (dot (from_to v p) (from_to p q))) (sign (cross (from_to v v) (from_to v q)))
    (rw (cross-here (from_to v p) v, z, dot-here (from_to v p) v, o, back-minus v p h) at m)

pub no_same_way_to : (v p q : Vector) → IsNonZero (from_to v p) → Misses v p (edge_of q v) → sign (cross (from_to v p) (from_to v q)) ≡ Null → sign (dot (from_to v p) (from_to v q)) ≡ Plus → ⊥
no_same_way_to v p q h m z o =
    no_way_2 (sign (cross (from_to v q) (from_to v v))) (sign (cross (from_to p q) (from_to p v))) (sign (dot (from_to v p) (from_to p q)))
    (rw (cross-here (from_to v p) v, z, dot-here (from_to v p) v, o, back-minus v p h) at m)

begin_here : (a b v : Vector) → sign (b.y -ℤ a.y) ≡ Plus → order a v ≡ Plus → not (is_null (sign (cross (from_to a b) (from_to a v)))) ≡ true →
    in_sector east (from_to a b) (from_to a v) ≡ bit (is_plus (sign (v.y -ℤ a.y)) && is_minus (orient a b v))
begin_here a b v hy r n =
    let d = from_to a b in let w = from_to a v in
    let c = all-out (λ k. imp (agree k (times (sign d.y) (sign w.x)) (times (sign d.x) (sign w.y))) λ _. imp (not (is_null k)) λ _. imp (same_sign (sign d.y) Plus) λ _. imp (same_sign (then_sign (sign w.y) (sign w.x)) Plus) λ _.
    eqb (sector_by (sign w.x) (sign w.y) (sign d.x) (sign d.y) k) (bit (is_plus (sign w.y) && is_minus k))) (all4-out begin_1 refl (sign w.x) (sign w.y) (sign d.x) (sign d.y)) (sign (cross d w)) in
    sector-east d w ∙ eqb-true _ _ (imp-out _ _ (imp-out _ _ (imp-out _ _ (imp-out _ _ c (cross-agree d w)) n) (same-sign-is (sign d.y) Plus hy)) (same-sign-is (order a v) Plus r))

finish_here : (a b u : Vector) → sign (b.y -ℤ a.y) ≡ Plus → order a u ≡ Minus → in_sector east (from_to a b) (from_to a u) ≡ 0
finish_here a b u hy r =
    let d = from_to a b in let w = from_to a u in
    let c = all-out (λ k. imp (agree k (times (sign d.y) (sign w.x)) (times (sign d.x) (sign w.y))) λ _. imp (same_sign (sign d.y) Plus) λ _. imp (same_sign (then_sign (sign w.y) (sign w.x)) Minus) λ _.
    eqb (sector_by (sign w.x) (sign w.y) (sign d.x) (sign d.y) k) 0) (all4-out finish_1 refl (sign w.x) (sign w.y) (sign d.x) (sign d.y)) (sign (cross d w)) in
    sector-east d w ∙ eqb-true _ _ (imp-out _ _ (imp-out _ _ (imp-out _ _ c (cross-agree d w)) (same-sign-is (sign d.y) Plus hy)) (same-sign-is (order a u) Minus r))

and-false-left : (x y z : Bool) → y ≡ false → bit ((x && y) && z) ≡ 0
and-false-left true y z h = ap (λ b. bit (b && z)) h
and-false-left false y z h = refl

or-nothing : (x y : Bool) → bit (x && (y || false)) ≡ bit (x && y)
or-nothing x true = refl
or-nothing x false = refl

-- how much an edge counts in the odd side of s, which is not level: as an edge that the horizontal ray hits, or as an edge at the lower end in the sector
abbrev pub share : Edge → Edge → Bool → ℕ
share s t b = cond b (in_sector east (from_to s.from s.to) (from_to s.from (other_end s.from t))) 0

share-by : (s t : Edge) → sign (s.to.y -ℤ s.from.y) ≡ Plus → IsRisingEdge s → IsRisingEdge t → IsClearOf s t → (b c : Bool) → same_point s.from t.from ≡ b → same_point s.from t.to ≡ c →
    cond (not (b || c)) (crossings_at east (from_to s.from) t) 0 + cond (b || c) (in_sector east (from_to s.from s.to) (from_to s.from (cond b t.to t.from))) 0
    ≡ bit (is_in_span s.from t && (is_plus (orient t.from t.to s.from) || (b && is_minus (orient s.from s.to t.to))))
share-by s t hy hs ht n true c h k =
    let a = s.from in let b = s.to in let v = t.to in
    let q = same_point-true a t.from h in
    let r : order a v ≡ Plus = subst (λ w. order w v ≡ Plus) (sym q) ht in
    let m : Misses a b (edge_of a v) = subst (λ w. Misses a b (edge_of w v)) (sym q) (clear_misses s t hs ht n) in
    let e = begin_here a b v hy r (not-null-by (sign (cross (from_to a b) (from_to a v))) (λ z. no_same_way_from a b v (rising-direction a b hs) m z (line-order-up a b a v hs z ∙ r))) in
    let g = self-diff a.y in let o : orient a v a ≡ Null = ap sign (cross-here (from_to a v) a) in
    subst (λ (w : Vector). 0 + in_sector east (from_to a b) (from_to a v) ≡ bit ((not (is_plus (sign (w.y -ℤ a.y))) && is_plus (sign (v.y -ℤ a.y))) && (is_plus (orient w v a) || (true && is_minus (orient a b v))))) q
    (rw (g, o) (let f = e in omega arith))
share-by s t hy hs ht n false true h k =
    let a = s.from in let b = s.to in let u = t.from in
    let q = same_point-true a t.to k in
    let r : order a u ≡ Minus = order-reversed u a ∙ ap negated (subst (λ w. order u w ≡ Plus) (sym q) ht) in
    let e = finish_here a b u hy r in
    let g : is_plus (sign (t.to.y -ℤ a.y)) ≡ false = ap is_plus (ap (λ (w : Vector). sign (w.y -ℤ a.y)) (sym q) ∙ self-diff a.y) in
    let f = and-false-left (not (is_plus (sign (u.y -ℤ a.y)))) (is_plus (sign (t.to.y -ℤ a.y))) (is_plus (orient t.from t.to a) || (false && is_minus (orient a b t.to))) g in
    omega arith
share-by s t hy hs ht n false false h k =
    let e = crossings-left east s.from t east-side ht in
    let f = or-nothing (is_in_span s.from t) (is_plus (orient t.from t.to s.from)) in omega arith

pub share-is : (s t : Edge) → sign (s.to.y -ℤ s.from.y) ≡ Plus → IsRisingEdge s → IsRisingEdge t → IsClearOf s t →
    beyond east s.from t + share s t (ends_at s.from t) ≡ bit (starts_left_of s t)
share-is s t hy hs ht n = share-by s t hy hs ht n (same_point s.from t.from) (same_point s.from t.to) refl refl

pub own-share-by : (dx dy : Sign) → dy ≡ Plus → sector_by dx dy dx dy Null ≡ 1
own-share-by Plus Plus h = refl
own-share-by Null Plus h = refl
own-share-by Minus Plus h = refl
own-share-by x Null h = absurd (cc h)
own-share-by x Minus h = absurd (cc h)

own-share : (s : Edge) → sign (s.to.y -ℤ s.from.y) ≡ Plus → share s s (ends_at s.from s) ≡ 1
own-share s h =
    let d = from_to s.from s.to in
    ap (share s s) (ends_at-from s) ∙ ap (λ b. in_sector east d (from_to s.from (cond b s.to s.from))) (same_point-refl s.from) ∙ sector-east d d ∙ ap (λ z. sector_by (sign d.x) (sign d.y) (sign d.x) (sign d.y) (sign z)) (cross-self d) ∙ own-share-by (sign d.x) (sign d.y) h

pub spokes-is : (d c v : Vector) (es : List Edge) → spokes_in d c v es ≡ total (λ (t : Edge). cond (ends_at v t) (in_sector d c (from_to v (other_end v t))) 0) es
spokes-is d c v es = sym (total-is (λ (t : Edge). in_sector d c (from_to v (other_end v t))) (spokes v es)) ∙ total-filter (ends_at v) (λ (t : Edge). in_sector d c (from_to v (other_end v t))) es

-- the number of the odd side, and the counts at the lower end
pub sloping_count : (s : Edge) (es : List Edge) → IsConflictFree es → In s es → sign (s.to.y -ℤ s.from.y) ≡ Plus →
    crossing_count east s.from (away s.from es) + spokes_in east (from_to s.from s.to) s.from es ≡ 1 + count_by (starts_left_of s) (others s es)
sloping_count s es p i hy =
    let a = s.from in let d = from_to s.from s.to in
    let x = crossings-away east a es in let y = spokes-is east d a es in
    let f = λ (t : Edge). beyond east a t + share s t (ends_at a t) in
    let z = total-+ (beyond east a) (λ (t : Edge). share s t (ends_at a t)) es in
    let w = split_off f s es p i in
    let o = own-share s hy in let b : beyond east a s ≡ 0 = ap (λ b. cond (not b) (crossings_at east (from_to a) s) 0) (ends_at-from s) in
    let r : total f (others s es) ≡ total (λ (t : Edge). bit (starts_left_of s t)) (others s es) = total-same f (λ (t : Edge). bit (starts_left_of s t)) (others s es)
    (λ t j. share-is s t hy (rising_in es s p i) (rising_in es t p (in-filter (λ (t : Edge). not (same_edge s t)) es t j)) (clear_of_others s t es p i j)) in
    let c = total-is (λ (t : Edge). bit (starts_left_of s t)) (others s es) in
    omega arith

level_count : (s : Edge) (es : List Edge) → IsConflictFree es → sign (s.to.y -ℤ s.from.y) ≡ Null → sign (s.to.x -ℤ s.from.x) ≡ Plus →
    crossing_count (from_to s.from s.to) s.from (away s.from es) ≡ count_by (is_left_of s.from) es
level_count s es p hy hx =
    let d = from_to s.from s.to in
    crossings-away d s.from es ∙ total-same (beyond d s.from) (λ (t : Edge). bit (is_left_of s.from t)) es (λ t i. beyond-left d s.from t (λ w. level-side d w hy hx) (rising_in es t p i))
    ∙ total-is (λ (t : Edge). bit (is_left_of s.from t)) es

parity-by : (m n : ℕ) → (m + n) % 2 ≡ 1 → (m % 2 ≡ 0) ⊎ (m % 2 ≡ 1) → is_even m ≡ not (is_even n)
parity-by m n h (inl e) = even-is m e ∙ sym (ap not (odd-is n (omega arith)))
parity-by m n h (inr e) = odd-is m e ∙ sym (ap not (even-is n (omega arith)))

pub differ-parity : (m n : ℕ) → (m + n) % 2 ≡ 1 → is_even m ≡ not (is_even n)
differ-parity m n h = parity-by m n h (even_or_odd m)

same-parity-by : (m n : ℕ) → (m + n) % 2 ≡ 0 → (m % 2 ≡ 0) ⊎ (m % 2 ≡ 1) → is_even m ≡ is_even n
same-parity-by m n h (inl e) = even-is m e ∙ sym (even-is n (omega arith))
same-parity-by m n h (inr e) = odd-is m e ∙ sym (odd-is n (omega arith))

pub same-parity : (m n : ℕ) → (m + n) % 2 ≡ 0 → is_even m ≡ is_even n
same-parity m n h = same-parity-by m n h (even_or_odd m)

-- s runs on exactly where the ray along it from its lower end hits an odd number of the edges that do not end there
runs-by : (s : Edge) (es : List Edge) → IsConflictFree es → IsEvenAtPoints es → In s es → (y x : Sign) → sign (s.to.y -ℤ s.from.y) ≡ y → sign (s.to.x -ℤ s.from.x) ≡ x → then_sign y x ≡ Plus →
    cond (is_null y) (not (is_even (cond (is_null y) (count_by (is_left_of s.from) es) (count_by (starts_left_of s) (others s es))))) (is_even (cond (is_null y) (count_by (is_left_of s.from) es) (count_by (starts_left_of s) (others s es))))
    ≡ not (is_even (crossing_count (from_to s.from s.to) s.from (away s.from es)))
runs-by s es p even i Null Plus hy hx r = ap (λ n. not (is_even n)) (sym (level_count s es p hy hx))
runs-by s es p even i Null Null hy hx r = absurd (cc r)
runs-by s es p even i Null Minus hy hx r = absurd (cc r)
runs-by s es p even i Minus x hy hx r = absurd (cc r)
runs-by s es p even i Plus x hy hx r =
    let a = s.from in let d = from_to s.from s.to in
    let c = sloping_count s es p i hy in
    let h = parity_round_node east d a es east-direction (rising-direction s.from s.to (rising_in es s p i)) even (off_away a s es p i (ends_at-from s)) in
    differ-parity (count_by (starts_left_of s) (others s es)) (crossing_count d a (away a es)) (omega arith)

pub runs_from : (s : Edge) (es : List Edge) → IsConflictFree es → IsEvenAtPoints es → In s es →
    runs_up_by_odd_side es s ≡ not (is_even (crossing_count (from_to s.from s.to) s.from (away s.from es)))
runs_from s es p even i = runs-by s es p even i (sign (s.to.y -ℤ s.from.y)) (sign (s.to.x -ℤ s.from.x)) refl refl (rising_in es s p i)

-- and so it enters its upper end exactly where the ray back along it from there hits an even number
pub runs_to : (s : Edge) (es : List Edge) → IsConflictFree es → IsEvenAtPoints es → In s es →
    runs_up_by_odd_side es s ≡ is_even (crossing_count (from_to s.to s.from) s.to (away s.to es))
runs_to s es p even i =
    runs_from s es p even i ∙ ap not (differ-parity _ (crossing_count (from_to s.to s.from) s.to (away s.to es)) (opposite_odd s es p even i)) ∙ not-not (is_even (crossing_count (from_to s.to s.from) s.to (away s.to es)))

-- ---- the parity at p, and the first edge right of p
pub covers-crossings : (p : Vector) (es : List Edge) → IsConflictFree es → crossing_count east p es ≡ total (λ t. bit (is_left_of p t)) es
covers-crossings p es pl = sym (total-is (crossings_at east (from_to p)) es) ∙ total-same (crossings_at east (from_to p)) (λ t. bit (is_left_of p t)) es (λ t i. crossings-left east p t east-side (rising_in es t pl i))
