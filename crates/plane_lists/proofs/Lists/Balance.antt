-- At each point as many directed edges leave as enter.
use Rattle.std.proofs.Common.{Bool, List, [], ap, arith, cond, eqb, eqb-true, false, inl, inr, length, not, refl, subst, sym, true, ℕ, ◌%◌, ◌&&◌, ◌+◌, ◌||◌, ◌∙◌, ◌∷◌, ◌≡◌, ◌⊎◌}
use lib.IntN.{pos, ◌*ℤ◌, ◌+ℤ◌}
use Rattle.plane.specs.Bit.{bit}
use Rattle.plane.specs.Conflict.{IsClearOf}
use Rattle.plane.specs.Edge.{Edge, IsRisingEdge, ends_at, other_end, reversed}
use Rattle.plane.specs.FreeSegment.{Misses}
use Rattle.plane.specs.Order.{order}
use Rattle.plane.specs.Sector.{in_sector, sector_by}
use Rattle.plane.specs.Sign.{Minus, Null, Plus, Sign, is_null, is_plus, negated, sign, then_sign}
use Rattle.plane.specs.Vector.{IsNonZero, Vector, cross, dot, east, from_to, one_at, same_point}
use Rattle.plane_lists.specs.Lists.ConflictFree.{IsConflictFree, others}
use Rattle.plane_lists.specs.Lists.EdgeList.{IsBalanced, IsEvenAtPoints, crossing_count}
use Rattle.lists.specs.Member.{In}
use Rattle.plane_lists.specs.Lists.Node.{away, spokes, spokes_in}
use Rattle.plane_lists.specs.Lists.OddSide.{directed, directed_edge, runs_up_by_odd_side}
use Rattle.plane_lists.specs.Lists.Parity.{is_even}
use Rattle.plane_lists.specs.Lists.Rank.{IsOrder}
use Rattle.lists.proofs.ListsKit.{even_or_odd, in-filter, in-passes, not-not, pairs-filter, pairs-weaker, total, total-filter, total-is, total-map, total-same}
use Rattle.plane.proofs.PlaneKit.{clear_misses, edge_of, misses_reversed, order-reversed, order-self-null, rising-direction, same_point-true, cross-agree, cross-reversed, cross-self, direction-back, dot-east, dot2, frame-agree, frame-dot-agree, lift2, plucker-agree, plucker-dot-agree, cross-east, east-direction, sector-east}
use Rattle.plane.proofs.SignKit.{lift, same, ◌⊠◌, agree, agree-products, all, all-out, all2, all2-out, all4, all4-out, imp, imp-out, same_bool, same_bool-true, sign-reversed, times, times-back, times-plus, bit-same}
use Rattle.plane_lists.proofs.Lists.ConflictFree.{off_away, rising_in, split_off}
use Rattle.plane_lists.proofs.Lists.OddSides.{differ-parity, no_same_way_from, no_same_way_to, runs_from, runs_to, same-parity, spokes-is}
use Rattle.plane_lists.proofs.Lists.Ranks.{evens, odds, rank', rank-parity-own}
use Rattle.plane_lists.proofs.Lists.RoundNode.{parity_round_node}

-- ---- directions in the order of their angles, from east counterclockwise
abbrev pub turns_to : Vector → Vector → Bool
turns_to a b = eqb (in_sector east a b) 1

abbrev zero_one : Sign → Sign → Sign → Sign → Bool
zero_one s b t c = all λ e. eqb (bit (eqb (sector_by s b t c e) 1)) (sector_by s b t c e)

pub turns-bit : (a b : Vector) → bit (turns_to a b) ≡ in_sector east a b
turns-bit a b = eqb-true _ _ (all-out (λ e. eqb (bit (eqb (sector_by (sign (dot east b)) (sign (cross east b)) (sign (dot east a)) (sign (cross east a)) e) 1)) (sector_by (sign (dot east b)) (sign (cross east b)) (sign (dot east a)) (sign (cross east a)) e))
    (all4-out zero_one refl (sign (dot east b)) (sign (cross east b)) (sign (dot east a)) (sign (cross east a))) (sign (cross a b)))

-- the signs of two vectors' coordinates and of their cross product
abbrev pub crossed : Sign → Sign → Sign → Sign → Sign → Bool
crossed ax ay bx by k = agree k (times ay bx) (times ax by)

-- a turn is told by signs, seen from any direction d
pub crossed-at : (d a b : Vector) → IsNonZero d → crossed (sign (dot d a)) (sign (cross d a)) (sign (dot d b)) (sign (cross d b)) (sign (cross a b)) ≡ true
crossed-at d a b p =
    let k = sign (cross a b) in let ay = sign (cross d a) in let bx = sign (dot d b) in
    subst (λ s. agree s (times ay bx) (times (sign (dot d a)) (sign (cross d b))) ≡ true) (times-plus k)
    (subst (λ s. agree (times Plus k) s (times (sign (dot d a)) (sign (cross d b))) ≡ true) (times-back bx ay) (frame-agree d a b p))

pub dot-at : (d a b : Vector) → IsNonZero d → agree (times (sign (dot d a)) (sign (dot d b))) (times (sign (cross d a)) (sign (cross d b))) (sign (dot a b)) ≡ true
dot-at d a b p = subst (λ s. agree (times (sign (dot d a)) (sign (dot d b))) (times (sign (cross d a)) (sign (cross d b))) s ≡ true) (times-plus (sign (dot a b))) (frame-dot-agree d a b p)

abbrev chain_4 : Sign → Sign → Sign → Sign → Sign → Sign → Sign → Sign → Sign → Bool
chain_4 ax ay bx by cx cy k l m =
    imp (agree (times ay l) (times cy k) (times by m)) λ _.
    imp (agree (times ax l) (times cx k) (times bx m)) λ _.
    imp (eqb (sector_by cx cy bx by l) 1) λ _.
    eqb (sector_by cx cy ax ay m) 1

abbrev chain_3 : Sign → Sign → Sign → Sign → Sign → Sign → Sign → Sign → Bool
chain_3 ax ay bx by k cx cy l =
    imp (crossed bx by cx cy l) λ _.
    all λ m. imp (crossed ax ay cx cy m) λ _. chain_4 ax ay bx by cx cy k l m

abbrev chain_2 : Sign → Sign → Sign → Sign → Sign → Bool
chain_2 ax ay bx by k =
    imp (crossed ax ay bx by k) λ _.
    imp (not (is_null (then_sign by bx))) λ _.
    imp (eqb (sector_by bx by ax ay k) 1) λ _.
    all λ cx. all λ cy. all λ l. chain_3 ax ay bx by k cx cy l

abbrev chain_1 : Sign → Sign → Sign → Sign → Bool
chain_1 ax ay bx by = all (chain_2 ax ay bx by)

chain_computes : all4 chain_1 ≡ true
chain_computes = refl

pub chain_signs : (ax ay bx by cx cy k l m : Sign) → crossed ax ay bx by k ≡ true → crossed bx by cx cy l ≡ true → crossed ax ay cx cy m ≡ true →
    agree (times ay l) (times cy k) (times by m) ≡ true → agree (times ax l) (times cx k) (times bx m) ≡ true → not (is_null (then_sign by bx)) ≡ true →
    eqb (sector_by bx by ax ay k) 1 ≡ true → eqb (sector_by cx cy bx by l) 1 ≡ true → eqb (sector_by cx cy ax ay m) 1 ≡ true
chain_signs ax ay bx by cx cy k l m h1 h2 h3 h4 h5 h6 h7 h8 =
    let g1 = all-out (chain_2 ax ay bx by) (all4-out chain_1 chain_computes ax ay bx by) k in
    let g2 = imp-out _ _ (imp-out _ _ (imp-out _ _ g1 h1) h6) h7 in
    let g3 = all-out (λ l. chain_3 ax ay bx by k cx cy l) (all-out (λ cy. all λ l. chain_3 ax ay bx by k cx cy l) (all-out (λ cx. all λ cy. all λ l. chain_3 ax ay bx by k cx cy l) g2 cx) cy) l in
    let g4 = all-out (λ m. imp (crossed ax ay cx cy m) λ _. chain_4 ax ay bx by cx cy k l m) (imp-out _ _ g3 h2) m in
    imp-out _ _ (imp-out _ _ (imp-out _ _ (imp-out _ _ g4 h3) h4) h5) h8

abbrev pub is_set : Vector → Bool
is_set a = not (is_null (then_sign (sign a.y) (sign a.x)))

turns-is : (a b : Vector) → turns_to a b ≡ eqb (sector_by (sign b.x) (sign b.y) (sign a.x) (sign a.y) (sign (cross a b))) 1
turns-is a b = ap (λ n. eqb n 1) (sector-east a b)

pub turns_chain : (a b c : Vector) → is_set b ≡ true → turns_to a b ≡ true → turns_to b c ≡ true → turns_to a c ≡ true
turns_chain a b c s h g =
    let p = rw (cross-east a, cross-east b, cross-east c) at (plucker-agree east a b c) in
    let q = rw (dot-east a, dot-east b, dot-east c) at (plucker-dot-agree east a b c) in
    turns-is a c ∙ chain_signs (sign a.x) (sign a.y) (sign b.x) (sign b.y) (sign c.x) (sign c.y) (sign (cross a b)) (sign (cross b c)) (sign (cross a c))
    (cross-agree a b) (cross-agree b c) (cross-agree a c) p q s (sym (turns-is a b) ∙ h) (sym (turns-is b c) ∙ g)

pub turns_itself : (a : Vector) → is_set a ≡ true → turns_to a a ≡ true
turns_itself a s =
    let c = all2-out (λ x y. imp (not (is_null (then_sign y x))) λ _. eqb (sector_by x y x y Null) 1) refl (sign a.x) (sign a.y) in
    turns-is a a ∙ ap (λ z. eqb (sector_by (sign a.x) (sign a.y) (sign a.x) (sign a.y) (sign z)) 1) (cross-self a) ∙ imp-out _ _ c s

abbrev pub either_2 : Sign → Sign → Sign → Sign → Sign → Sign → Bool
either_2 ax ay bx by k m =
    imp (crossed ax ay bx by k) λ _.
    imp (agree (times ax bx) (times ay by) m) λ _.
    imp (not (is_null k && is_plus m)) λ _.
    imp (not (is_null (then_sign ay ax))) λ _.
    imp (not (is_null (then_sign by bx))) λ _.
    same_bool (eqb (sector_by bx by ax ay k) 1) (not (eqb (sector_by ax ay bx by (negated k)) 1))

pub either_computes : all4 (λ ax ay bx by. all2 (either_2 ax ay bx by)) ≡ true
either_computes = refl

one-times : (a b : Vector) → a.x *ℤ b.x +ℤ a.y *ℤ b.y ≡ pos 1 *ℤ dot a b
one-times a b = let e = lift2 a in let f = lift2 b in same (dot2 e f) (lift (pos 1) ⊠ dot2 e f) (omega arith)

pub agree-dot : (a b : Vector) → agree (times (sign a.x) (sign b.x)) (times (sign a.y) (sign b.y)) (sign (dot a b)) ≡ true
agree-dot a b = subst (λ k. agree (times (sign a.x) (sign b.x)) (times (sign a.y) (sign b.y)) k ≡ true) (times-plus (sign (dot a b))) (agree-products a.x b.x a.y b.y (pos 1) (dot a b) (one-times a b))

pub turns_either : (a b : Vector) → is_set a ≡ true → is_set b ≡ true → not (is_null (sign (cross a b)) && is_plus (sign (dot a b))) ≡ true → turns_to a b ≡ not (turns_to b a)
turns_either a b sa sb n =
    let c = all2-out (either_2 (sign a.x) (sign a.y) (sign b.x) (sign b.y)) (all4-out (λ ax ay bx by. all2 (either_2 ax ay bx by)) either_computes (sign a.x) (sign a.y) (sign b.x) (sign b.y)) (sign (cross a b)) (sign (dot a b)) in
    let d = agree-dot a b in
    let e = same_bool-true _ _ (imp-out _ _ (imp-out _ _ (imp-out _ _ (imp-out _ _ (imp-out _ _ c (cross-agree a b)) d) n) sa) sb) in
    let f = sign-reversed (cross a b) (cross b a) (cross-reversed a b) in
    turns-is a b ∙ e ∙ ap (λ s. not (eqb (sector_by (sign a.x) (sign a.y) (sign b.x) (sign b.y) s) 1)) (sym f) ∙ ap not (sym (turns-is b a))

-- ---- the edges at a point
abbrev pub way : Vector → Edge → Vector
way v t = from_to v (other_end v t)

way-set-by : (v : Vector) (t : Edge) (b c : Bool) → same_point v t.from ≡ b → same_point v t.to ≡ c → (b || c) ≡ true → IsRisingEdge t → not (is_null (order v (cond b t.to t.from))) ≡ true
way-set-by v t true c h k o r = ap (λ s. not (is_null s)) (subst (λ w. order w t.to ≡ Plus) (sym (same_point-true v t.from h)) r)
way-set-by v t false true h k o r = ap (λ s. not (is_null s)) (order-reversed t.from v ∙ ap negated (subst (λ w. order t.from w ≡ Plus) (sym (same_point-true v t.to k)) r))
way-set-by v t false false h k o r = absurd (cc o)

pub way-set : (v : Vector) (t : Edge) → ends_at v t ≡ true → IsRisingEdge t → is_set (way v t) ≡ true
way-set v t h r = way-set-by v t (same_point v t.from) (same_point v t.to) refl refl h r

way-direction-by : (v : Vector) (t : Edge) (b c : Bool) → same_point v t.from ≡ b → same_point v t.to ≡ c → (b || c) ≡ true → IsRisingEdge t → IsNonZero (from_to v (cond b t.to t.from))
way-direction-by v t true c h k o r = subst (λ w. IsNonZero (from_to w t.to)) (sym (same_point-true v t.from h)) (rising-direction t.from t.to r)
way-direction-by v t false true h k o r = subst (λ w. IsNonZero (from_to w t.from)) (sym (same_point-true v t.to k)) (direction-back t.from t.to (rising-direction t.from t.to r))
way-direction-by v t false false h k o r = absurd (cc o)

pub way-direction : (v : Vector) (t : Edge) → ends_at v t ≡ true → IsRisingEdge t → IsNonZero (way v t)
way-direction v t h r = way-direction-by v t (same_point v t.from) (same_point v t.to) refl refl h r

misses-way-by : (v : Vector) (s t : Edge) (b c : Bool) → same_point v s.from ≡ b → same_point v s.to ≡ c → (b || c) ≡ true → Misses s.from s.to t → Misses v (cond b s.to s.from) t
misses-way-by v s t true c h k o m = subst (λ w. Misses w s.to t) (sym (same_point-true v s.from h)) m
misses-way-by v s t false true h k o m = subst (λ w. Misses w s.from t) (sym (same_point-true v s.to k)) (misses_reversed s.from s.to t m)
misses-way-by v s t false false h k o m = absurd (cc o)

pub misses-way : (v : Vector) (s t : Edge) → ends_at v s ≡ true → Misses s.from s.to t → Misses v (other_end v s) t
misses-way v s t h m = misses-way-by v s t (same_point v s.from) (same_point v s.to) refl refl h m

nowhere-by : (k m : Sign) → (k ≡ Null → m ≡ Plus → ⊥) → not (is_null k && is_plus m) ≡ true
nowhere-by Null Plus h = absurd (h refl refl)
nowhere-by Null Null h = refl
nowhere-by Null Minus h = refl
nowhere-by Plus m h = refl
nowhere-by Minus m h = refl

apart-by : (v p : Vector) (t : Edge) (b c : Bool) → same_point v t.from ≡ b → same_point v t.to ≡ c → (b || c) ≡ true → IsNonZero (from_to v p) → Misses v p t →
    not (is_null (sign (cross (from_to v p) (from_to v (cond b t.to t.from)))) && is_plus (sign (dot (from_to v p) (from_to v (cond b t.to t.from))))) ≡ true
apart-by v p t true c h k o d m =
    let e = subst (λ w. Misses v p (edge_of w t.to)) (sym (same_point-true v t.from h)) m in
    nowhere-by (sign (cross (from_to v p) (from_to v t.to))) (sign (dot (from_to v p) (from_to v t.to))) (λ x y. no_same_way_from v p t.to d e x y)
apart-by v p t false true h k o d m =
    let e = subst (λ w. Misses v p (edge_of t.from w)) (sym (same_point-true v t.to k)) m in
    nowhere-by (sign (cross (from_to v p) (from_to v t.from))) (sign (dot (from_to v p) (from_to v t.from))) (λ x y. no_same_way_to v p t.from d e x y)
apart-by v p t false false h k o d m = absurd (cc o)

-- two clear edges leave a point in different directions
pub ways_apart : (v : Vector) (s t : Edge) → ends_at v s ≡ true → ends_at v t ≡ true → IsRisingEdge s → IsRisingEdge t → IsClearOf s t →
    not (is_null (sign (cross (way v s) (way v t))) && is_plus (sign (dot (way v s) (way v t)))) ≡ true
ways_apart v s t hs ht rs rt n =
    apart-by v (other_end v s) t (same_point v t.from) (same_point v t.to) refl refl ht (way-direction v s hs rs) (misses-way v s t hs (clear_misses s t rs rt n))

abbrev pub before : Vector → Edge → Edge → Bool
before v s t = turns_to (way v s) (way v t)

spoke-in : (v : Vector) (es : List Edge) (t : Edge) → In t (spokes v es) → In t es
spoke-in v es t i = in-filter (ends_at v) es t i

spoke-at : (v : Vector) (es : List Edge) (t : Edge) → In t (spokes v es) → ends_at v t ≡ true
spoke-at v es t i = in-passes (ends_at v) es t i

pub spoke-set : (v : Vector) (es : List Edge) (t : Edge) → IsConflictFree es → In t (spokes v es) → is_set (way v t) ≡ true
spoke-set v es t p i = way-set v t (spoke-at v es t i) (rising_in es t p (spoke-in v es t i))

-- the edges at a point are ordered by their angles
pub spokes_order : (v : Vector) (es : List Edge) → IsConflictFree es → IsOrder true (before v) (spokes v es)
spokes_order v es p = record {
  itself = λ t i. turns_itself (way v t) (spoke-set v es t p i);
  chain = λ a b c i j k h g. turns_chain (way v a) (way v b) (way v c) (spoke-set v es b p j) h g;
  either = pairs-weaker IsClearOf (λ s t. before v s t ≡ not (before v t s)) (spokes v es)
      (λ s t i j n. turns_either (way v s) (way v t) (spoke-set v es s p i) (spoke-set v es t p j)
      (ways_apart v s t (spoke-at v es s i) (spoke-at v es t j) (rising_in es s p (spoke-in v es s i)) (rising_in es t p (spoke-in v es t j)) n))
      (pairs-filter IsClearOf (ends_at v) es p.clear);
}

-- ---- how many leave a point
abbrev pub out_count : Vector → List Edge → Edge → ℕ
out_count v es t = crossing_count (way v t) v (away v es)

at-cond : (v : Vector) (b : Bool) (p q : Vector) (x y : Bool) → same_point v p ≡ x → same_point v q ≡ y → one_at v (cond b p q) ≡ bit (cond b x y)
at-cond v true p q x y h k = ap bit h
at-cond v false p q x y h k = ap bit k

from-cond : (b : Bool) (t : Edge) → (cond b t (reversed t)).from ≡ cond b t.from t.to
from-cond true t = refl
from-cond false t = refl

to-cond : (b : Bool) (t : Edge) → (cond b t (reversed t)).to ≡ cond b t.to t.from
to-cond true t = refl
to-cond false t = refl

cond-id : (b : Bool) → cond b true false ≡ b
cond-id true = refl
cond-id false = refl

cond-not : (b : Bool) → cond b false true ≡ not b
cond-not true = refl
cond-not false = refl

cond-never : (b : Bool) → cond b false false ≡ false
cond-never true = refl
cond-never false = refl

pub no-loop : (v : Vector) (t : Edge) → same_point v t.from ≡ true → same_point v t.to ≡ true → IsRisingEdge t → ⊥
no-loop v t h k r =
    let e = sym (same_point-true v t.from h) ∙ same_point-true v t.to k in
    let f = subst (λ w. order t.from w ≡ Plus) (sym e) r in
    let g = order-self-null t.from in absurd (cc (sym g ∙ f))

leaves-by : (v : Vector) (t : Edge) (es : List Edge) → IsConflictFree es → IsEvenAtPoints es → In t es → (b c : Bool) → same_point v t.from ≡ b → same_point v t.to ≡ c →
    (one_at v (directed_edge es t).from ≡ cond (b || c) (odds (crossing_count (from_to v (cond b t.to t.from)) v (away v es))) 0)
    × (one_at v (directed_edge es t).to ≡ cond (b || c) (evens (crossing_count (from_to v (cond b t.to t.from)) v (away v es))) 0)
leaves-by v t es p even i true true h k = absurd (no-loop v t h k (rising_in es t p i))
leaves-by v t es p even i true false h k =
    let r = runs_up_by_odd_side es t in
    let x = subst (λ w. r ≡ not (is_even (crossing_count (from_to w t.to) w (away w es)))) (sym (same_point-true v t.from h)) (runs_from t es p even i) in (
      ap (one_at v) (from-cond r t) ∙ at-cond v r t.from t.to true false h k ∙ ap bit (cond-id r ∙ x),
      ap (one_at v) (to-cond r t) ∙ at-cond v r t.to t.from false true k h ∙ ap bit (cond-not r ∙ ap not x ∙ not-not _),
    )
leaves-by v t es p even i false true h k =
    let r = runs_up_by_odd_side es t in
    let x = subst (λ w. r ≡ is_even (crossing_count (from_to w t.from) w (away w es))) (sym (same_point-true v t.to k)) (runs_to t es p even i) in (
      ap (one_at v) (from-cond r t) ∙ at-cond v r t.from t.to false true h k ∙ ap bit (cond-not r ∙ ap not x),
      ap (one_at v) (to-cond r t) ∙ at-cond v r t.to t.from true false k h ∙ ap bit (cond-id r ∙ x),
    )
leaves-by v t es p even i false false h k =
    let r = runs_up_by_odd_side es t in (
      ap (one_at v) (from-cond r t) ∙ at-cond v r t.from t.to false false h k ∙ ap bit (cond-never r),
      ap (one_at v) (to-cond r t) ∙ at-cond v r t.to t.from false false k h ∙ ap bit (cond-never r),
    )

-- an edge at v leaves v exactly where the ray along it from v hits an odd number of the edges that do not end there, and enters it otherwise
pub leaves : (v : Vector) (t : Edge) (es : List Edge) → IsConflictFree es → IsEvenAtPoints es → In t es →
    (one_at v (directed_edge es t).from ≡ cond (ends_at v t) (odds (out_count v es t)) 0) × (one_at v (directed_edge es t).to ≡ cond (ends_at v t) (evens (out_count v es t)) 0)
leaves v t es p even i = leaves-by v t es p even i (same_point v t.from) (same_point v t.to) refl refl

pub length-total : {X : Type 0} (xs : List X) → total (λ x. 1) xs ≡ length xs
length-total [] = refl
length-total (x ∷ xs) = let h = length-total xs in omega arith

pub ends-by : (v : Vector) (t : Edge) → IsRisingEdge t → (b c : Bool) → same_point v t.from ≡ b → same_point v t.to ≡ c → cond {A = ℕ} b 1 0 + cond {A = ℕ} c 1 0 ≡ cond {A = ℕ} (b || c) 1 0
ends-by v t r true true h k = absurd (no-loop v t h k r)
ends-by v t r true false h k = refl
ends-by v t r false true h k = refl
ends-by v t r false false h k = refl

pub degree-even : (v : Vector) (es : List Edge) → IsConflictFree es → IsEvenAtPoints es → length (spokes v es) % 2 ≡ 0
degree-even v es p even =
    let a = length-total (spokes v es) in let b = total-filter (ends_at v) (λ t. 1) es in
    let c = total-same (λ (t : Edge). one_at v t.from + one_at v t.to) (λ (t : Edge). cond (ends_at v t) 1 0) es (λ t i. ends-by v t (rising_in es t p i) (same_point v t.from) (same_point v t.to) refl refl) in
    let d = total-is (λ (t : Edge). one_at v t.from + one_at v t.to) es in let e = even v in omega arith

pub rank-is : (v : Vector) (es : List Edge) (t : Edge) → rank' (before v) (spokes v es) t ≡ spokes_in east (way v t) v es
rank-is v es t =
    total-same (λ u. bit (before v t u)) (λ (u : Edge). in_sector east (way v t) (from_to v (other_end v u))) (spokes v es) (λ u i. turns-bit (way v t) (way v u))
    ∙ total-is (λ (u : Edge). in_sector east (way v t) (from_to v (other_end v u))) (spokes v es)

half-by : (v : Vector) (es : List Edge) → IsConflictFree es → IsEvenAtPoints es → (s : Edge) → In s (spokes v es) → (crossing_count east v (away v es) % 2 ≡ 0) ⊎ (crossing_count east v (away v es) % 2 ≡ 1) →
    total (λ t. odds (out_count v es t)) (spokes v es) ≡ total (λ t. evens (out_count v es t)) (spokes v es)
half-by v es p even s i (inl h) =
    let off = off_away v s es p (spoke-in v es s i) (spoke-at v es s i) in
    let r = rank-parity-own (before v) (spokes v es) (spokes_order v es p) in let d = degree-even v es p even in
    let same = λ (t : Edge) (j : In t (spokes v es)). (
    let b = parity_round_node east (way v t) v es east-direction (way-direction v t (spoke-at v es t j) (rising_in es t p (spoke-in v es t j))) even off in
    let q = rank-is v es t in same-parity (out_count v es t) (rank' (before v) (spokes v es) t) (omega arith)) in
    let x = total-same (λ t. odds (out_count v es t)) (λ t. odds (rank' (before v) (spokes v es) t)) (spokes v es) (λ t j. ap (λ b. bit (not b)) (same t j)) in
    let y = total-same (λ t. evens (out_count v es t)) (λ t. evens (rank' (before v) (spokes v es) t)) (spokes v es) (λ t j. ap bit (same t j)) in
    omega arith
half-by v es p even s i (inr h) =
    let off = off_away v s es p (spoke-in v es s i) (spoke-at v es s i) in
    let r = rank-parity-own (before v) (spokes v es) (spokes_order v es p) in let d = degree-even v es p even in
    let same = λ (t : Edge) (j : In t (spokes v es)). (
    let b = parity_round_node east (way v t) v es east-direction (way-direction v t (spoke-at v es t j) (rising_in es t p (spoke-in v es t j))) even off in
    let q = rank-is v es t in differ-parity (out_count v es t) (rank' (before v) (spokes v es) t) (omega arith)) in
    let x = total-same (λ t. odds (out_count v es t)) (λ t. evens (rank' (before v) (spokes v es) t)) (spokes v es) (λ t j. ap (λ b. bit (not b)) (same t j) ∙ ap bit (not-not (is_even (rank' (before v) (spokes v es) t)))) in
    let y = total-same (λ t. evens (out_count v es t)) (λ t. odds (rank' (before v) (spokes v es) t)) (spokes v es) (λ t j. ap bit (same t j)) in
    omega arith

half-any : (v : Vector) (es : List Edge) → IsConflictFree es → IsEvenAtPoints es → (l : List Edge) → spokes v es ≡ l →
    total (λ t. odds (out_count v es t)) l ≡ total (λ t. evens (out_count v es t)) l
half-any v es p even [] h = refl
half-any v es p even (s ∷ rest) h =
    subst (λ l. total (λ t. odds (out_count v es t)) l ≡ total (λ t. evens (out_count v es t)) l) h
    (half-by v es p even s (subst (λ l. In s l) (sym h) (inl refl)) (even_or_odd (crossing_count east v (away v es))))

pub half_leave : (v : Vector) (es : List Edge) → IsConflictFree es → IsEvenAtPoints es →
    total (λ t. odds (out_count v es t)) (spokes v es) ≡ total (λ t. evens (out_count v es t)) (spokes v es)
half_leave v es p even = half-any v es p even (spokes v es) refl

-- as many directed edges leave each point as enter it
pub directed_balanced : (es : List Edge) → IsConflictFree es → IsEvenAtPoints es → IsBalanced (directed es)
directed_balanced es p even v =
    let a = sym (total-is (λ (e : Edge). one_at v e.from) (directed es)) ∙ total-map (λ (e : Edge). one_at v e.from) (directed_edge es) es in
    let b = sym (total-is (λ (e : Edge). one_at v e.to) (directed es)) ∙ total-map (λ (e : Edge). one_at v e.to) (directed_edge es) es in
    let c = total-same (λ t. one_at v (directed_edge es t).from) (λ t. cond (ends_at v t) (odds (out_count v es t)) 0) es (λ t i. (leaves v t es p even i).0) in
    let d = total-same (λ t. one_at v (directed_edge es t).to) (λ t. cond (ends_at v t) (evens (out_count v es t)) 0) es (λ t i. (leaves v t es p even i).1) in
    let x = total-filter (ends_at v) (λ t. odds (out_count v es t)) es in let y = total-filter (ends_at v) (λ t. evens (out_count v es t)) es in
    let h = half_leave v es p even in
    omega arith

-- ---- the same, by the horizontal ray and the sector
own-way-by : (x y : Sign) → not (is_null (then_sign y x)) ≡ true → sector_by x y x y Null ≡ 1
own-way-by x y h = eqb-true _ _ (imp-out _ _ (all2-out (λ x y. imp (not (is_null (then_sign y x))) λ _. eqb (sector_by x y x y Null) 1) refl x y) h)

pub own-way : (a : Vector) → is_set a ≡ true → in_sector east a a ≡ 1
own-way a s = sector-east a a ∙ ap (λ z. sector_by (sign a.x) (sign a.y) (sign a.x) (sign a.y) (sign z)) (cross-self a) ∙ own-way-by (sign a.x) (sign a.y) s

pub leaves_by_count : (v : Vector) (s : Edge) (es : List Edge) → IsConflictFree es → IsEvenAtPoints es → In s es → ends_at v s ≡ true →
    same_point v (directed_edge es s).from ≡ is_even (crossing_count east v (away v es) + spokes_in east (way v s) v (others s es))
leaves_by_count v s es p even i h =
    let w = way v s in let f = λ (t : Edge). cond (ends_at v t) (in_sector east w (from_to v (other_end v t))) 0 in
    let a = spokes-is east w v es in let b = spokes-is east w v (others s es) in let c = split_off f s es p i in
    let o : f s ≡ 1 = ap (λ b. cond b (in_sector east w w) 0) h ∙ own-way w (way-set v s h (rising_in es s p i)) in
    let l = parity_round_node east w v es east-direction (way-direction v s h (rising_in es s p i)) even (off_away v s es p i h) in
    let k = (leaves v s es p even i).0 ∙ ap (λ b. cond b (odds (out_count v es s)) 0) h in
    bit-same _ _ k ∙ sym (differ-parity (crossing_count east v (away v es) + spokes_in east w v (others s es)) (out_count v es s) (omega arith))
