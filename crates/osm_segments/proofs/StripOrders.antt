-- Who is left of whom at the heights of a strip of the tilted plane: it goes on from one to the next and between two heights, and tells that two segments don't conflict.
use Rattle.std.proofs.Common.{Bool, None, ap, arith, inl, inr, not, refl, subst, sym, true, ⊎_elim, ◌&&◌, ◌||◌, ◌∙◌, ◌≡◌, ◌⊎◌, ℤ, ◌-ℤ◌, ◌*ℤ◌, ◌<ℤ◌, ◌≤ℤ◌}
use borrow.Author.Differences.{ints}
use Rattle.plane.specs.Height.{distance_right}
use Rattle.plane.specs.Sign.{Minus, Null, Plus, Sign, is_minus, is_null, is_plus, sign}
use Rattle.plane.specs.Vector.{cross, from_to, orient}
use Rattle.plane.specs.Conflict.{IsClearOf}
use Rattle.plane.proofs.PlaneKit.{at-first-from, at-first-to, change-agrees, clear_back, cross-here, cross-self, order-null, orient-round}
use Rattle.plane.proofs.SignKit.{agree, all4-out, imp, imp-out, is_plus-true, lift, null-plus, plus-null, plus-plus, plus-times, same, says-at, sign-from, times, ◌⊟◌, ◌⊠◌}
use Rattle.osm_lattice.specs.declared.loc.Loc.{Loc}
use Rattle.osm_lattice.specs.declared.seg.Seg.{Seg}
use Rattle.osm_lattice.specs.Conflict.{conflict_of}
use Rattle.osm_lattice.specs.Loc.{orientation, vector_of}
use Rattle.osm_lattice.proofs.LatticeKit.{loc_from_vectors}
use Rattle.osm_segments.specs.Tilted.{steep, tilted, tilted_point}
use Rattle.osm_segments.specs.declared.ranges.strips.Strip.{Strip}
use Rattle.osm_segments.specs.Ranges.{BeginTogether, BothRun, EndTogether, IsLeftAt, RunClear, RunsLeft, height, side_at}
use Rattle.osm_segments.proofs.EdgePairs.{fans, two_ends}
use Rattle.osm_segments.proofs.EdgeOrders.{BottomsLeft, TopsLeft, begins_left, beside-chain, clear_apart, ends_left}
use Rattle.osm_segments.proofs.Sweeps.{none_of_clear}
use Rattle.osm_segments.proofs.TiltedEdges.{cross-steep, height-tilted, order-tilted, tall-tilted}

-- ---- the side as a difference of products
factor : (k rs ot os rt : ℤ) → rs *ℤ (k *ℤ ot) -ℤ (k *ℤ os) *ℤ rt ≡ k *ℤ (ot *ℤ rs -ℤ os *ℤ rt)
factor k rs ot os rt =
    let k' = lift k in let a = lift rs in let b = lift ot in let c = lift os in let d = lift rt in
    same (a ⊠ (k' ⊠ b) ⊟ (k' ⊠ c) ⊠ d) (k' ⊠ (b ⊠ a ⊟ c ⊠ d)) (omega arith)

-- how far a segment is right of v, times its rise
distance : (v : Loc) (s : Seg) → cross (from_to (tilted_point v) (tilted s).from) (from_to (tilted_point v) (tilted s).to) ≡ steep *ℤ orientation s.a s.b v
unfolding orientation
distance v s = cross-steep (vector_of v) (vector_of s.a) (vector_of v) (vector_of s.b) ∙ ap (λ z. steep *ℤ z) (sym (orient-round (vector_of v) (vector_of s.a) (vector_of s.b)))

pub side_by : (v : Loc) (s t : Seg) → sign (orientation t.a t.b v *ℤ (height s.b -ℤ height s.a) -ℤ orientation s.a s.b v *ℤ (height t.b -ℤ height t.a)) ≡ side_at v s t
unfolding side_at
side_by v s t =
    let rs = height s.b -ℤ height s.a in let rt = height t.b -ℤ height t.a in
    let os = orientation s.a s.b v in let ot = orientation t.a t.b v in
    sym
    (ap (λ (z : ℤ). sign (rs *ℤ z -ℤ cross (from_to (tilted_point v) (tilted s).from) (from_to (tilted_point v) (tilted s).to) *ℤ rt)) (distance v t)
    ∙ (ap (λ (z : ℤ). sign (rs *ℤ (steep *ℤ ot) -ℤ z *ℤ rt)) (distance v s)
    ∙ (ap sign (factor steep rs ot os rt) ∙ plus-times steep (ot *ℤ rs -ℤ os *ℤ rt) refl)))

-- ---- heights
pub later-sign : (p q : Loc) → height p <ℤ height q → sign (height q -ℤ height p) ≡ Plus
later-sign p q h = sign-from Plus (height q -ℤ height p) (omega (arith, ints))

level-sign : (x y : ℤ) → x ≡ y → sign (x -ℤ y) ≡ Null
level-sign x y e = sign-from Null (x -ℤ y) (omega (arith, ints))

pub one_place : (p q : Loc) → height p ≡ height q → p ≡ q
one_place p q e = loc_from_vectors p q (order-null (vector_of p) (vector_of q) (sym (height-tilted p q) ∙ level-sign (height q) (height p) (sym e)))

-- two heights of which the first is not above the second
same_or_lower : (x y : ℤ) → x ≤ℤ y → (x ≡ y) ⊎ (x <ℤ y)
same_or_lower x y h = by (sign (y -ℤ x)) refl
  where
    by : (s : Sign) → sign (y -ℤ x) ≡ s → (x ≡ y) ⊎ (x <ℤ y)
    by Plus e = let f = says-at Plus (y -ℤ x) e in inr (omega (arith, ints))
    by Null e = let f = says-at Null (y -ℤ x) e in inl (omega (arith, ints))
    by Minus e = let f = says-at Minus (y -ℤ x) e in absurd (omega (arith, ints))

pub lower_or_not : (x y : ℤ) → (x <ℤ y) ⊎ (y ≤ℤ x)
lower_or_not x y = by (sign (y -ℤ x)) refl
  where
    by : (s : Sign) → sign (y -ℤ x) ≡ s → (x <ℤ y) ⊎ (y ≤ℤ x)
    by Plus e = let f = says-at Plus (y -ℤ x) e in inl (omega (arith, ints))
    by Null e = let f = says-at Null (y -ℤ x) e in inr (omega (arith, ints))
    by Minus e = let f = says-at Minus (y -ℤ x) e in inr (omega (arith, ints))

-- ---- sides at one height, and at several
pub sides_add : (v : Loc) (s t u : Seg) → agree (side_at v s t) (side_at v t u) (side_at v s u) ≡ true
unfolding side_at
sides_add v s t u = beside-chain (tilted s) (tilted t) (tilted u) (tall-tilted s) (tall-tilted t) (tall-tilted u) (tilted_point v)

own_side : (v : Loc) (s : Seg) → side_at v s s ≡ Null
unfolding side_at
own_side v s = ap sign (cross-self (distance_right (tilted_point v) (tilted s)))

turn : Seg → Seg → Sign
turn s t = fans (tilted s) (tilted t)

sides_change : (s t : Seg) (p q : Loc) → height p <ℤ height q → agree (side_at p s t) (times Plus (turn s t)) (side_at q s t) ≡ true
unfolding side_at turn
sides_change s t p q up =
    subst (λ g. agree (side_at p s t) (times g (turn s t)) (side_at q s t) ≡ true) (later-sign p q up)
    (change-agrees (tilted s) (tilted t) (tall-tilted s) (tall-tilted t) (tilted_point p) (tilted_point q))

-- from p over v to q
abbrev between_table : Sign → Sign → Sign → Sign → Bool
between_table k x y z = imp (agree x (times Plus k) y) λ _. imp (agree y (times Plus k) z) λ _. imp ((is_plus x && not (is_minus z)) || (is_null x && is_plus z)) λ _. is_plus y

between_by : (s t : Seg) (p v q : Loc) → height p <ℤ height v → height v <ℤ height q → ((is_plus (side_at p s t) && not (is_minus (side_at q s t))) || (is_null (side_at p s t) && is_plus (side_at q s t))) ≡ true → IsLeftAt v s t
between_by s t p v q up on h =
    is_plus-true (side_at v s t)
    (imp-out _ _ (imp-out _ _ (imp-out _ _ (all4-out between_table refl (turn s t) (side_at p s t) (side_at v s t) (side_at q s t)) (sides_change s t p v up)) (sides_change s t v q on)) h)

begin_null : (p : Loc) (s t : Seg) → BeginTogether p s t → side_at p s t ≡ Null
unfolding side_at
begin_null p s t both =
    subst (λ (v : Loc). side_at v s t ≡ Null) both.0
    (at-first-from (tilted s) (tilted t) (tall-tilted s) (tall-tilted t)
    ∙ ap (λ (v : Loc). orient (tilted t).from (tilted t).to (tilted_point v)) (both.0 ∙ sym both.1) ∙ ap sign (cross-here (from_to (tilted t).from (tilted t).to) (tilted t).from))

end_null : (q : Loc) (s t : Seg) → EndTogether q s t → side_at q s t ≡ Null
unfolding side_at
end_null q s t both =
    subst (λ (v : Loc). side_at v s t ≡ Null) both.0
    (at-first-to (tilted s) (tilted t) (tall-tilted s) (tall-tilted t)
    ∙ ap (λ (v : Loc). orient (tilted t).from (tilted t).to (tilted_point v)) (both.0 ∙ sym both.1) ∙ ap sign (cross-self (from_to (tilted t).from (tilted t).to)))

-- where s is left of t over a strip, it is at each height within
pub left_within : (s t : Seg) (p v q : Loc) → height p <ℤ height v → height v <ℤ height q → RunsLeft p q s t → IsLeftAt v s t
left_within s t p v q up on (inl (x, inl z)) = between_by s t p v q up on (rw (x, z) refl)
left_within s t p v q up on (inl (x, inr e)) = between_by s t p v q up on (rw (x, end_null q s t e) refl)
left_within s t p v q up on (inr (b, z)) = between_by s t p v q up on (rw (begin_null p s t b, z) refl)

from_above : (s t : Seg) (p v q : Loc) → IsLeftAt v s t → RunsLeft p q s t → RunsLeft v q s t
from_above s t p v q y (inl (x, top)) = inl (y, top)
from_above s t p v q y (inr (b, z)) = inl (y, inl z)

up_below : (s t : Seg) (p v q : Loc) → IsLeftAt v s t → RunsLeft p q s t → RunsLeft p v s t
up_below s t p v q y (inl (x, top)) = inl (x, inl y)
up_below s t p v q y (inr (b, z)) = inr (b, y)

from_part : (s t : Seg) (p v q : Loc) → height p ≤ℤ height v → height v <ℤ height q → RunsLeft p q s t → RunsLeft v q s t
from_part s t p v q up on runs =
    ⊎_elim
    (λ (e : height p ≡ height v). subst (λ (w : Loc). RunsLeft w q s t) (one_place p v e) runs)
    (λ (l : height p <ℤ height v). from_above s t p v q (left_within s t p v q l on runs) runs)
    (same_or_lower (height p) (height v) up)

up_part : (s t : Seg) (p v q : Loc) → height p <ℤ height v → height v ≤ℤ height q → RunsLeft p q s t → RunsLeft p v s t
up_part s t p v q up on runs =
    ⊎_elim
    (λ (e : height v ≡ height q). subst (λ (w : Loc). RunsLeft p w s t) (sym (one_place v q e)) runs)
    (λ (l : height v <ℤ height q). up_below s t p v q (left_within s t p v q up l runs) runs)
    (same_or_lower (height v) (height q) on)

-- over a strip, and over each part of it
pub left_in_part : (s t : Seg) (p q p' q' : Loc) → height p ≤ℤ height p' → height p' <ℤ height q' → height q' ≤ℤ height q → RunsLeft p q s t → RunsLeft p' q' s t
left_in_part s t p q p' q' low rises high runs =
    up_part s t p' q' q rises high (from_part s t p p' q low (omega (arith, ints)) runs)

-- ---- from one to the next
module _ (v : Loc) (s t u : Seg) where
  chain_at : IsLeftAt v s t → IsLeftAt v t u → IsLeftAt v s u
  chain_at x y = plus-plus (side_at v s u) (rw (x, y) at (sides_add v s t u))

  chain_null : IsLeftAt v s t → side_at v t u ≡ Null → IsLeftAt v s u
  chain_null x y = plus-null (side_at v s u) (rw (x, y) at (sides_add v s t u))

  null_chain : side_at v s t ≡ Null → IsLeftAt v t u → IsLeftAt v s u
  null_chain x y = null-plus (side_at v s u) (rw (x, y) at (sides_add v s t u))

pub left_chain : (p q : Loc) (s t u : Seg) → RunsLeft p q s t → RunsLeft p q t u → RunsLeft p q s u
left_chain p q s t u (inl (x, inl y)) (inl (x', inl y')) = inl (chain_at p s t u x x', inl (chain_at q s t u y y'))
left_chain p q s t u (inl (x, inl y)) (inl (x', inr e)) = inl (chain_at p s t u x x', inl (chain_null q s t u y (end_null q t u e)))
left_chain p q s t u (inl (x, inl y)) (inr (b, y')) = inl (chain_null p s t u x (begin_null p t u b), inl (chain_at q s t u y y'))
left_chain p q s t u (inl (x, inr e)) (inl (x', inl y')) = inl (chain_at p s t u x x', inl (null_chain q s t u (end_null q s t e) y'))
left_chain p q s t u (inl (x, inr e)) (inl (x', inr e')) = inl (chain_at p s t u x x', inr (e.0, e'.1))
left_chain p q s t u (inl (x, inr e)) (inr (b, y')) = inl (chain_null p s t u x (begin_null p t u b), inl (null_chain q s t u (end_null q s t e) y'))
left_chain p q s t u (inr (b, y)) (inl (x', inl y')) = inl (null_chain p s t u (begin_null p s t b) x', inl (chain_at q s t u y y'))
left_chain p q s t u (inr (b, y)) (inl (x', inr e)) = inl (null_chain p s t u (begin_null p s t b) x', inl (chain_null q s t u y (end_null q t u e)))
left_chain p q s t u (inr (b, y)) (inr (b', y')) = inr ((b.0, b'.1), chain_at q s t u y y')

-- ---- over two strips, one upon the other
-- no two segments are each left of the other
never_both : (v : Loc) (s t : Seg) → IsLeftAt v s t → IsLeftAt v t s → ⊥
never_both v s t x y = let z = plus-plus (side_at v s s) (rw (x, y) at (sides_add v s t s)) in cc (sym z ∙ own_side v s)

module _ (p m q : Loc) (s t : Seg) (up : height p <ℤ height m) (on : height m <ℤ height q) (first_begins : height s.a ≤ℤ height p) (first_ends : height q ≤ℤ height s.b) where
  not_begun : BeginTogether m s t → ⊥
  not_begun b = let e : height s.a ≡ height m = ap height b.0 in absurd (omega (arith, ints))

  not_ended : EndTogether m s t → ⊥
  not_ended b = let e : height s.b ≡ height m = ap height b.0 in absurd (omega (arith, ints))

  left_below : RunsLeft p m s t → IsLeftAt m s t
  left_below (inl (x, inl y)) = y
  left_below (inl (x, inr e)) = absurd (not_ended e)
  left_below (inr (b, y)) = y

  left_above : RunsLeft m q s t → IsLeftAt m s t
  left_above (inl (x, top)) = x
  left_above (inr (b, y)) = absurd (not_begun b)

  -- both ends cannot be common, where they are apart in between
  abbrev apart_table : Sign → Sign → Sign → Sign → Bool
  apart_table k x y z = imp (agree x (times Plus k) y) λ _. imp (agree y (times Plus k) z) λ _. imp (is_null x && is_null z) λ _. not (is_plus y)

  not_both_ends : BeginTogether p s t → EndTogether q s t → IsLeftAt m s t → ⊥
  not_both_ends b e y =
      let nulls : (is_null (side_at p s t) && is_null (side_at q s t)) ≡ true = rw (begin_null p s t b, end_null q s t e) refl in
      let h = imp-out _ _ (imp-out _ _ (imp-out _ _ (all4-out apart_table refl (turn s t) (side_at p s t) (side_at m s t) (side_at q s t)) (sides_change s t p m up)) (sides_change s t m q on)) nulls in
      let n : not (is_plus Plus) ≡ true = subst (λ z. not (is_plus z) ≡ true) y h in cc n

  left_upon : RunsLeft p m s t → RunsLeft m q s t → RunsLeft p q s t
  left_upon (inl (x, y)) (inl (y', top)) = inl (x, top)
  left_upon (inl (x, y)) (inr (b, z)) = absurd (not_begun b)
  left_upon (inr (b, y)) (inl (y', inl z)) = inr (b, z)
  left_upon (inr (b, y)) (inl (y', inr e)) = absurd (not_both_ends b e y)
  left_upon (inr (b, y)) (inr (b', z)) = absurd (not_begun b')

either_upon : (p m q : Loc) (s t : Seg) → height p <ℤ height m → height m <ℤ height q → height s.a ≤ℤ height p → height q ≤ℤ height s.b → height t.a ≤ℤ height p → height q ≤ℤ height t.b →
    RunsLeft p m s t ⊎ RunsLeft p m t s → RunsLeft m q s t ⊎ RunsLeft m q t s → RunsLeft p q s t ⊎ RunsLeft p q t s
either_upon p m q s t up on sa sb ta tb (inl x) (inl y) = inl (left_upon p m q s t up on sa sb x y)
either_upon p m q s t up on sa sb ta tb (inr x) (inr y) = inr (left_upon p m q t s up on ta tb x y)
either_upon p m q s t up on sa sb ta tb (inl x) (inr y) = absurd (never_both m s t (left_below p m q s t up on sa sb x) (left_above p m q t s up on ta tb y))
either_upon p m q s t up on sa sb ta tb (inr x) (inl y) = absurd (never_both m s t (left_above p m q s t up on sa sb y) (left_below p m q t s up on ta tb x))

-- what is clear below a height and above it is clear
pub clear_upon : (strip : Strip) (m : Loc) (s t : Seg) → RunClear (record { low = strip.low; high = m }) s t → RunClear (record { low = m; high = strip.high }) s t → RunClear strip s t
clear_upon strip m s t below above p q run =
    ⊎_elim
    (λ (low : height m ≤ℤ height p). above p q (record { rises = run.rises; above = low; below = run.below; first_begins = run.first_begins; first_ends = run.first_ends; second_begins = run.second_begins; second_ends = run.second_ends }))
    (λ (up : height p <ℤ height m). ⊎_elim
    (λ (high : height q ≤ℤ height m). below p q (record { rises = run.rises; above = run.above; below = high; first_begins = run.first_begins; first_ends = run.first_ends; second_begins = run.second_begins; second_ends = run.second_ends }))
    (λ (on : height m <ℤ height q).
    either_upon p m q s t up on run.first_begins run.first_ends run.second_begins run.second_ends
    (below p m (record { rises = up; above = run.above; below = omega (arith, ints); first_begins = run.first_begins; first_ends = omega (arith, ints, run.first_ends); second_begins = run.second_begins; second_ends = omega (arith, ints, run.second_ends) }))
    (above m q (record { rises = on; above = omega (arith, ints); below = run.below; first_begins = omega (arith, ints, run.first_begins); first_ends = run.first_ends; second_begins = omega (arith, ints, run.second_begins); second_ends = run.second_ends })))
    (swap (lower_or_not (height m) (height q))))
    (swap (lower_or_not (height p) (height m)))
  where
    swap : {A B : Type 0} → A ⊎ B → B ⊎ A
    swap (inl x) = inr x
    swap (inr y) = inl y

pub turned_run : (strip : Strip) (s t : Seg) (p q : Loc) → BothRun strip s t p q → BothRun strip t s p q
turned_run strip s t p q run = record { rises = run.rises; above = run.above; below = run.below; first_begins = run.second_begins; first_ends = run.second_ends; second_begins = run.first_begins; second_ends = run.first_ends }

-- ---- left of another over all that both have of the plane
abbrev turn_table : Sign → Sign → Sign → Sign → Bool
turn_table k x z w = imp (agree x (times Plus k) z) λ _. imp (is_null x && is_plus z) λ _. is_plus k

turns_right : (p q : Loc) (s t : Seg) → height p <ℤ height q → side_at p s t ≡ Null → IsLeftAt q s t → turn s t ≡ Plus
turns_right p q s t up null plus =
    let h : (is_null (side_at p s t) && is_plus (side_at q s t)) ≡ true = rw (null, plus) refl in
    is_plus-true (turn s t) (imp-out _ _ (imp-out _ _ (all4-out turn_table refl (turn s t) (side_at p s t) (side_at q s t) Null) (sides_change s t p q up)) h)

module _ (p q : Loc) (s t : Seg) (up : height p <ℤ height q) where
  bottoms : RunsLeft p q s t → BottomsLeft (tilted_point p) (tilted s) (tilted t)
  unfolding side_at turn
  bottoms (inl (x, top)) = inl x
  bottoms (inr (b, z)) = inr (begin_null p s t b, turns_right p q s t up (begin_null p s t b) z, ap tilted_point (b.0 ∙ sym b.1), level-sign (height s.a) (height p) (ap height b.0))

  tops : RunsLeft p q s t → TopsLeft (tilted_point q) (tilted s) (tilted t)
  unfolding side_at
  tops (inl (x, inl y)) = inl y
  tops (inl (x, inr e)) = inr (end_null q s t e, ap tilted_point (e.0 ∙ sym e.1), level-sign (height s.b) (height q) (ap height e.0))
  tops (inr (b, y)) = inl y

not_plus : (x y : ℤ) → x ≤ℤ y → not (is_plus (sign (x -ℤ y))) ≡ true
not_plus x y h = by (sign (x -ℤ y)) refl
  where
    by : (s : Sign) → sign (x -ℤ y) ≡ s → not (is_plus s) ≡ true
    by Plus e = let f = says-at Plus (x -ℤ y) e in absurd (omega (arith, ints))
    by Null e = refl
    by Minus e = refl

not_minus : (x y : ℤ) → y ≤ℤ x → not (is_minus (sign (x -ℤ y))) ≡ true
not_minus x y h = by (sign (x -ℤ y)) refl
  where
    by : (s : Sign) → sign (x -ℤ y) ≡ s → not (is_minus s) ≡ true
    by Minus e = let f = says-at Minus (x -ℤ y) e in absurd (omega (arith, ints))
    by Null e = refl
    by Plus e = refl

clear_left : (p q : Loc) (s t : Seg) → height p <ℤ height q → (s.a ≡ p) ⊎ (t.a ≡ p) → (s.b ≡ q) ⊎ (t.b ≡ q) → height s.a ≤ℤ height p → height t.a ≤ℤ height p → height q ≤ℤ height s.b → height q ≤ℤ height t.b → RunsLeft p q s t → IsClearOf (tilted s) (tilted t)
clear_left p q s t up low high sa ta sb tb runs =
    two_ends (tilted s) (tilted t)
    (begins_left (tilted s) (tilted t) (tall-tilted s) (tall-tilted t) (tilted_point p) (bottoms p q s t up runs) (level low) (not_plus (height s.a) (height p) sa) (not_plus (height t.a) (height p) ta))
    (ends_left (tilted s) (tilted t) (tall-tilted s) (tall-tilted t) (tilted_point q) (tops p q s t up runs) (level high) (not_minus (height s.b) (height q) sb) (not_minus (height t.b) (height q) tb))
  where
    level : {a b v : Loc} → (a ≡ v) ⊎ (b ≡ v) → (sign (height a -ℤ height v) ≡ Null) ⊎ (sign (height b -ℤ height v) ≡ Null)
    level {a} {b} {v} (inl e) = inl (level-sign (height a) (height v) (ap height e))
    level {a} {b} {v} (inr e) = inr (level-sign (height b) (height v) (ap height e))

-- s ends where t begins, or below
clear_below : (s t : Seg) → height s.b ≤ℤ height t.a → IsClearOf (tilted s) (tilted t)
clear_below s t h =
    let up = not_minus (height t.a) (height s.b) h in
    clear_apart (tilted s) (tilted t) (tall-tilted s) (tall-tilted t) up (subst (λ z. not (is_minus z) ≡ true) (height-tilted s.b t.a ∙ sym (order-tilted s.b t.a)) up)

module _ (strip : Strip) (low : (p : Loc) → height strip.low ≤ℤ height p) (high : (p : Loc) → height p ≤ℤ height strip.high) where
  -- p and q are the greater lower end and the lesser upper end
  clear_by_ends : (p q : Loc) (s t : Seg) → RunClear strip s t → (s.a ≡ p) ⊎ (t.a ≡ p) → (s.b ≡ q) ⊎ (t.b ≡ q) → height s.a ≤ℤ height p → height t.a ≤ℤ height p → height q ≤ℤ height s.b → height q ≤ℤ height t.b → height p <ℤ height q → IsClearOf (tilted s) (tilted t)
  clear_by_ends p q s t clear a b sa ta sb tb up =
      ⊎_elim
      (λ (runs : RunsLeft p q s t). clear_left p q s t up a b sa ta sb tb runs)
      (λ (runs : RunsLeft p q t s). clear_back (tilted t) (tilted s) (clear_left p q t s up (swap a) (swap b) ta sa tb sb runs))
      (clear p q (record { rises = up; above = low p; below = high q; first_begins = sa; first_ends = sb; second_begins = ta; second_ends = tb }))
    where
      swap : {A B : Type 0} → A ⊎ B → B ⊎ A
      swap (inl x) = inr x
      swap (inr y) = inl y

  -- t begins not before s
  clear_later : (s t : Seg) → RunClear strip s t → height s.a ≤ℤ height t.a → IsClearOf (tilted s) (tilted t)
  clear_later s t clear begins =
      ⊎_elim
      (λ (together : height t.a <ℤ height s.b). ⊎_elim
      (λ (l : height s.b <ℤ height t.b). clear_by_ends t.a s.b s t clear (inr refl) (inl refl) begins (omega (arith, ints)) (omega (arith, ints)) (omega (arith, ints)) together)
      (λ (l : height t.b ≤ℤ height s.b). clear_by_ends t.a t.b s t clear (inr refl) (inr refl) begins (omega (arith, ints)) l (omega (arith, ints)) (rises t))
      (lower_or_not (height s.b) (height t.b)))
      (λ (apart : height s.b ≤ℤ height t.a). clear_below s t apart)
      (lower_or_not (height t.a) (height s.b))
    where
      rises : (u : Seg) → height u.a <ℤ height u.b
      rises u = let f = says-at Plus (height u.b -ℤ height u.a) (tall-tilted u) in omega (arith, ints)

  -- clear in all of the plane: no conflict
  pub clear_everywhere : (s t : Seg) → RunClear strip s t → conflict_of s t ≡ None
  clear_everywhere s t clear =
      none_of_clear s t
      (⊎_elim
      (λ (l : height s.a <ℤ height t.a). clear_later s t clear (omega (arith, ints)))
      (λ (l : height t.a ≤ℤ height s.a). clear_back (tilted t) (tilted s) (clear_later t s (λ p q run. swap (clear p q (turned_run strip t s p q run))) l))
      (lower_or_not (height s.a) (height t.a)))
    where
      swap : {A B : Type 0} → A ⊎ B → B ⊎ A
      swap (inl x) = inr x
      swap (inr y) = inl y
