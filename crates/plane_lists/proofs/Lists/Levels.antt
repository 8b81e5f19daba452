-- The edges that span a point's height, in the order in which the ray to the right meets them just above it; and the signed count.
use Rattle.std.proofs.Common.{Bool, List, ap, arith, cond, eqb, eqb-true, false, inl, inr, length, not, refl, subst, sym, true, ℕ, ◌%◌, ◌&&◌, ◌+◌, ◌||◌, ◌∙◌, ◌≡◌, ◌⊎◌}
use Rattle.std.specs.List.{count_by, filter}
use borrow.Author.Differences.{ints}
use lib.IntN.{pos, ℤ, ◌*ℤ◌, ◌+ℤ◌, ◌-ℤ◌}
use Rattle.plane.specs.Bit.{bit}
use Rattle.plane.specs.Conflict.{IsClearOf}
use Rattle.plane.specs.Edge.{Edge, IsRisingEdge, ends_at, reversed, same_edge}
use Rattle.plane.specs.FreeSegment.{Misses}
use Rattle.plane.specs.Height.{distance_right, is_in_span, is_left_of, order_above, starts_left_of}
use Rattle.plane.specs.Order.{order}
use Rattle.plane.specs.RayCrossing.{IsOff, IsOffEdge, down_by, off_by, up_by}
use Rattle.plane.specs.Sector.{in_sector, sector_by}
use Rattle.plane.specs.Sign.{Minus, Null, Plus, Sign, is_minus, is_null, is_plus, negated, sign, then_sign}
use Rattle.plane.specs.Vector.{IsNonZero, Vector, cross, dot, east, from_to, orient, same_point}
use Rattle.plane_lists.specs.Lists.ConflictFree.{IsConflictFree, others}
use Rattle.plane_lists.specs.Lists.EdgeList.{IsEvenAtPoints, crossing_count, down_count, up_count, winding_number}
use Rattle.lists.specs.Member.{In}
use Rattle.plane_lists.specs.Lists.Node.{away}
use Rattle.plane_lists.specs.Lists.OddSide.{directed, directed_edge, runs_up_by_odd_side}
use Rattle.plane_lists.specs.Lists.Parity.{is_even}
use Rattle.plane_lists.specs.Lists.Rank.{IsOrder}
use Rattle.std.proofs.lemmas.Bool.{and_from, and_parts}
use Rattle.plane.proofs.PlaneKit.{clear_differs, clear_misses, edge_of, ends_at-from, right_chain, right_either, right_itself, right_of, step_of, tall-by, zero-part, line-order-up, rising-direction, same_point-true, cross-agree, cross-negated, cross-self, cross2, from_to2, lift2, orient-round, side-moves, at-end-by, crossings-left, crossings_at, down_seen, east-direction, east-side, left-signs, rise-y, sector-east, up_seen, View, view_weighted, weigh}
use Rattle.plane.proofs.SignKit.{apart, lift, same, ◌⊞◌, ◌⊟◌, ◌⊠◌, agree, agree-sum, all, all-out, all2, all2-out, all4-out, both, imp, imp-out, is_plus-true, left-out, not-minus-by, not-null-by, null-zero, plus-times, right-out, same-out, self-diff, sign-reversed, times, minus-not-null, not-null-negated, bit-and_no}
use Rattle.plane_lists.proofs.Lists.AlongSegment.{along_from, off_all}
use Rattle.plane_lists.proofs.Lists.Balance.{agree-dot, length-total}
use Rattle.plane_lists.proofs.Lists.ConflictFree.{misses_others, off_away, rising_in, split_off}
use Rattle.plane_lists.proofs.Lists.Independence.{IsOffSeen, count-is, even-at-ends, in_sector_seen, sector_sum, total-ends}
use Rattle.lists.proofs.ListsKit.{cond_none, in-all, in-filter, in-passes, into-filter, pairs-filter, pairs-weaker, same_from_difference, total, total-+, total-filter, total-is, total-map, total-same}
use Rattle.plane_lists.proofs.Lists.OddSides.{differ-parity, no_same_way_from, runs_from}
use Rattle.plane_lists.proofs.Lists.OppositeEnds.{away-others, off-others}
use Rattle.plane_lists.proofs.Lists.Ranks.{evens, odds, rank', rank-parity}

-- ---- an edge whose lower end is below the height: seen from its point at the height
module _ (p a b : Vector) (lo : sign (a.y -ℤ p.y) ≡ Minus) (hi : sign (b.y -ℤ p.y) ≡ Plus) where
  abbrev up_part : ℤ
  up_part = b.y -ℤ p.y

  abbrev low_part : ℤ
  low_part = p.y -ℤ a.y

  pub low-plus : sign low_part ≡ Plus
  low-plus = sign-reversed (a.y -ℤ p.y) low_part (omega (arith, ints)) ∙ ap negated lo

  abbrev pub look : Vector → Vector
  look w = weigh up_part low_part (from_to a w) (from_to b w)

  look-y : (w : Vector) → (look w).y ≡ (b.y -ℤ a.y) *ℤ (w.y -ℤ p.y)
  look-y w =
      let a' = lift a.y in let b' = lift b.y in let p' = lift p.y in let w' = lift w.y in
      same ((b' ⊟ p') ⊠ (w' ⊟ a') ⊞ (p' ⊟ a') ⊠ (w' ⊟ b')) ((b' ⊟ a') ⊠ (w' ⊟ p')) (omega arith)

  look-x : (w : Vector) → (look w).x ≡ (b.y -ℤ a.y) *ℤ (w.x -ℤ p.x) -ℤ cross (from_to p a) (from_to p b)
  look-x w =
      let a' = lift2 a in let b' = lift2 b in let p' = lift2 p in let w' = lift2 w in
      same ((b'.y2 ⊟ p'.y2) ⊠ (w'.x2 ⊟ a'.x2) ⊞ (p'.y2 ⊟ a'.y2) ⊠ (w'.x2 ⊟ b'.x2)) ((b'.y2 ⊟ a'.y2) ⊠ (w'.x2 ⊟ p'.x2) ⊟ cross2 (from_to2 p' a') (from_to2 p' b')) (omega arith)

  abbrev tallness : ℤ
  tallness = b.y -ℤ a.y

  tall-plus : sign tallness ≡ Plus
  tall-plus =
      let h = agree-sum low_part up_part tallness (omega (arith, ints)) in
      let g = rw (low-plus, hi) at h in same-out Plus (sign tallness) g

  look-height : (w : Vector) → sign (look w).y ≡ sign (w.y -ℤ p.y)
  look-height w = ap sign (look-y w) ∙ plus-times tallness (w.y -ℤ p.y) tall-plus

  spread : (D C ux uy vx vy dy : ℤ) → vy -ℤ uy ≡ dy → (D *ℤ ux -ℤ C) *ℤ (D *ℤ vy) -ℤ (D *ℤ uy) *ℤ (D *ℤ vx -ℤ C) ≡ D *ℤ (D *ℤ (ux *ℤ vy -ℤ uy *ℤ vx) -ℤ C *ℤ dy)
  spread D C ux uy vx vy dy e =
      let D' = lift D in let C' = lift C in let a = lift ux in let b = lift uy in let c = lift vx in let d = lift vy in let f = lift dy in
      same ((D' ⊠ a ⊟ C') ⊠ (D' ⊠ d) ⊟ (D' ⊠ b) ⊠ (D' ⊠ c ⊟ C')) (D' ⊠ (D' ⊠ (a ⊠ d ⊟ b ⊠ c) ⊟ C' ⊠ f))
      (omega (arith, apart ((D' ⊠ C') ⊠ (d ⊟ b)) ((D' ⊠ C') ⊠ f) (ap (λ (z : ℤ). (D *ℤ C) *ℤ z) e)))

  look-cross : (u v : Vector) → cross (look u) (look v) ≡ tallness *ℤ (tallness *ℤ cross (from_to p u) (from_to p v) -ℤ cross (from_to p a) (from_to p b) *ℤ (v.y -ℤ u.y))
  look-cross u v =
      let D = tallness in let C = cross (from_to p a) (from_to p b) in
      let ux = u.x -ℤ p.x in let uy = u.y -ℤ p.y in let vx = v.x -ℤ p.x in let vy = v.y -ℤ p.y in
      ap (λ (z : ℤ). z *ℤ (look v).y -ℤ (look u).y *ℤ (look v).x) (look-x u)
      ∙ ap (λ (z : ℤ). (D *ℤ ux -ℤ C) *ℤ z -ℤ (look u).y *ℤ (look v).x) (look-y v)
      ∙ ap (λ (z : ℤ). (D *ℤ ux -ℤ C) *ℤ (D *ℤ vy) -ℤ z *ℤ (look v).x) (look-y u)
      ∙ ap (λ (z : ℤ). (D *ℤ ux -ℤ C) *ℤ (D *ℤ vy) -ℤ (D *ℤ uy) *ℤ z) (look-x v)
      ∙ spread D C ux uy vx vy (v.y -ℤ u.y) (omega (arith, ints))

  look-side : (f : Edge) → sign (cross (look f.from) (look f.to)) ≡ sign (cross (distance_right p (edge_of a b)) (distance_right p f))
  look-side f = ap sign (look-cross f.from f.to) ∙ plus-times tallness (cross (distance_right p (edge_of a b)) (distance_right p f)) tall-plus

-- a step that goes up past the ray's line and is off its origin is not on one line with it
abbrev past_line : Sign → Sign → Sign → Sign → Bool
past_line xu yu xv yv = all2 λ c s. imp (agree c (times yu xv) (times xu yv)) λ _. imp (agree (times xu xv) (times yu yv) s) λ _. imp (off_by c s) λ _. imp (not (is_plus yu) && is_plus yv) λ _. not (is_null c)

pub off_not_null : (u v : Vector) → IsOff u v → (not (is_plus (sign u.y)) && is_plus (sign v.y)) ≡ true → not (is_null (sign (cross u v))) ≡ true
off_not_null u v o h =
    let c = all2-out (λ c s. imp (agree c (times (sign u.y) (sign v.x)) (times (sign u.x) (sign v.y))) λ _. imp (agree (times (sign u.x) (sign v.x)) (times (sign u.y) (sign v.y)) s) λ _. imp (off_by c s) λ _. imp (not (is_plus (sign u.y)) && is_plus (sign v.y)) λ _. not (is_null c))
    (all4-out past_line refl (sign u.x) (sign u.y) (sign v.x) (sign v.y)) (sign (cross u v)) (sign (dot u v)) in
    imp-out _ _ (imp-out _ _ (imp-out _ _ (imp-out _ _ c (cross-agree u v)) (agree-dot u v)) o) h

pub first-tells : (b : Bool) (k l : Sign) → (b ≡ true → not (is_null k) ≡ true) → bit (b && is_plus k) ≡ bit (b && is_plus (then_sign k l))
first-tells false k l h = refl
first-tells true Plus l h = refl
first-tells true Minus l h = refl
first-tells true Null l h = absurd (cc (h refl))

low-sector : (s t e : Sign) → sector_by s Minus t Plus e ≡ 0
low-sector s t e = eqb-true _ _ (all-out (λ e. eqb (sector_by s Minus t Plus e) 0) (all2-out (λ s t. all (λ e. eqb (sector_by s Minus t Plus e) 0)) refl s t) e)

high-sector : (s t : Sign) → sector_by s Plus t Plus Null ≡ 1
high-sector s t = eqb-true _ _ (all2-out (λ s t. eqb (sector_by s Plus t Plus Null) 1) refl s t)

abbrev pub to_right : Vector → Edge → Edge → ℕ
to_right p e f = bit (is_in_span p f && right_of p e f)

module _ (p : Vector) (e : Edge) (es : List Edge) (pl : IsConflictFree es) (i : In e es) (lo : sign (e.from.y -ℤ p.y) ≡ Minus) (hi : sign (e.to.y -ℤ p.y) ≡ Plus) where
  abbrev pub from_e : Vector → Vector
  from_e = look p e.from e.to lo hi

  pub e-direction : IsNonZero (step_of e)
  e-direction = rising-direction e.from e.to (rising_in es e pl i)

  pub e-view : View e.from e.to from_e
  e-view = view_weighted e.from e.to (e.to.y -ℤ p.y) (p.y -ℤ e.from.y) hi (low-plus p e.from e.to lo hi) e-direction

  pub crossings-right : (f : Edge) → IsOffSeen from_e f → IsRisingEdge f → crossings_at east from_e f ≡ to_right p e f
  crossings-right f o r =
      let u = f.from in let v = f.to in
      let a = look-height p e.from e.to lo hi u in let b = look-height p e.from e.to lo hi v in
      let c = look-side p e.from e.to lo hi f in
      let g = left-signs (sign (u.y -ℤ p.y)) (sign (v.y -ℤ p.y)) (sign (cross (from_e u) (from_e v))) (sign (v.y -ℤ u.y)) (rise-y p u v) (not-minus-by (sign (v.y -ℤ u.y)) (sign (v.x -ℤ u.x)) r) in
      let n = λ (s : is_in_span p f ≡ true). subst (λ k. not (is_null k) ≡ true) c (off_not_null (from_e u) (from_e v) o
      (subst (λ k. (not (is_plus k) && is_plus (sign (from_e v).y)) ≡ true) (sym a) (subst (λ k. (not (is_plus (sign (u.y -ℤ p.y))) && is_plus k) ≡ true) (sym b) s))) in
      let h = first-tells (is_in_span p f) (sign (cross (distance_right p e) (distance_right p f))) (sign (cross (step_of f) (step_of e))) n in
      ap (λ k. up_by k (sign (cross east (from_e v))) (sign (cross (from_e u) (from_e v))) + down_by k (sign (cross east (from_e v))) (sign (cross (from_e u) (from_e v)))) (east-side (from_e u) ∙ a)
      ∙ ap (λ k. up_by (sign (u.y -ℤ p.y)) k (sign (cross (from_e u) (from_e v))) + down_by (sign (u.y -ℤ p.y)) k (sign (cross (from_e u) (from_e v)))) (east-side (from_e v) ∙ b)
      ∙ g ∙ ap (λ k. bit (is_in_span p f && is_plus k)) c ∙ h

  ahead-in : in_sector east (step_of e) (from_e e.to) ≡ 1
  ahead-in =
      let d = step_of e in let w = from_e e.to in
      let y = look-height p e.from e.to lo hi e.to ∙ hi in
      let k = e-view.side e.to ∙ ap sign (cross-self d) in
      sector-east d w
      ∙ ap (λ s. sector_by (sign w.x) s (sign d.x) (sign d.y) (sign (cross d w))) y
      ∙ ap (λ s. sector_by (sign w.x) Plus (sign d.x) s (sign (cross d w))) (tall-plus p e.from e.to lo hi)
      ∙ ap (λ s. sector_by (sign w.x) Plus (sign d.x) Plus s) k
      ∙ high-sector (sign w.x) (sign d.x)

  behind-out : in_sector east (step_of e) (from_e e.from) ≡ 0
  behind-out =
      let d = step_of e in let w = from_e e.from in
      let y = look-height p e.from e.to lo hi e.from ∙ lo in
      sector-east d w
      ∙ ap (λ s. sector_by (sign w.x) s (sign d.x) (sign d.y) (sign (cross d w))) y
      ∙ ap (λ s. sector_by (sign w.x) Minus (sign d.x) s (sign (cross d w))) (tall-plus p e.from e.to lo hi)
      ∙ low-sector (sign w.x) (sign d.x) (sign (cross d w))

  -- how many others are right of e tells its direction
  pub inner_runs : IsEvenAtPoints es → runs_up_by_odd_side es e ≡ is_even (total (to_right p e) (others e es))
  inner_runs even =
      let d = step_of e in let os = others e es in
      let off = off_all e.from e.to from_e e-view os (misses_others e es pl i) in
      let w = sector_sum east d from_e east-direction e-direction os off in
      let x = count-is east from_e os in let y = count-is d from_e os in
      let f = λ (t : Edge). in_sector_seen east d from_e t.from + in_sector_seen east d from_e t.to in
      let g = total-ends (in_sector_seen east d from_e) es in let h = even-at-ends (in_sector_seen east d from_e) es even in
      let k = split_off f e es pl i in
      let l = total-+ (λ (t : Edge). in_sector_seen east d from_e t.from) (λ (t : Edge). in_sector_seen east d from_e t.to) os in
      let n = ahead-in in let o = behind-out in
      let q = along_from e.from e.to from_e e-view os (misses_others e es pl i) (off-others e.from e es pl i (ends_at-from e)) in
      let z = away-others d e.from e es pl i (ends_at-from e) in
      let r = total-same (crossings_at east from_e) (to_right p e) os (λ t j. crossings-right t (in-all (IsOffSeen from_e) os t off j) (rising_in es t pl (in-filter (λ (t : Edge). not (same_edge e t)) es t j))) in
      let c = total-is (crossings_at east from_e) os in
      let m : (total (to_right p e) os + crossing_count d e.from (away e.from es)) % 2 ≡ 1 = omega arith in
      runs_from e es pl even i ∙ sym (differ-parity (total (to_right p e) os) (crossing_count d e.from (away e.from es)) m)

-- ---- an edge whose lower end is at the height
sloping_runs-by : (s : Edge) (es : List Edge) (y : Sign) → y ≡ Plus →
    cond (is_null y) (not (is_even (cond (is_null y) (count_by (is_left_of s.from) es) (count_by (starts_left_of s) (others s es))))) (is_even (cond (is_null y) (count_by (is_left_of s.from) es) (count_by (starts_left_of s) (others s es))))
    ≡ is_even (count_by (starts_left_of s) (others s es))
sloping_runs-by s es Plus h = refl
sloping_runs-by s es Null h = absurd (cc h)
sloping_runs-by s es Minus h = absurd (cc h)

level-mix : (D W x dy Z Cf Ce : ℤ) → Ce ≡ x *ℤ D → Z ≡ x *ℤ dy → W +ℤ Z ≡ Cf → D *ℤ Cf -ℤ Ce *ℤ dy ≡ D *ℤ W
level-mix D W x dy Z Cf Ce e f g =
    let D' = lift D in let W' = lift W in let x' = lift x in let y' = lift dy in let Z' = lift Z in let Cf' = lift Cf in let Ce' = lift Ce in
    same (D' ⊠ Cf' ⊟ Ce' ⊠ y') (D' ⊠ W')
    (omega (
      arith,
      apart (Ce' ⊠ y') ((x' ⊠ D') ⊠ y') (ap (λ (k : ℤ). k *ℤ dy) e),
      apart (D' ⊠ Z') (D' ⊠ (x' ⊠ y')) (ap (λ (k : ℤ). D *ℤ k) f),
      apart (D' ⊠ (W' ⊞ Z')) (D' ⊠ Cf') (ap (λ (k : ℤ). D *ℤ k) g),
    ))

no-and : (x : Bool) → (x && false) ≡ true → ⊥
no-and true h = cc h
no-and false h = cc h

ends-none : (v : Vector) (f : Edge) → same_point v f.from ≡ false → same_point v f.to ≡ false → ends_at v f ≡ false
ends-none v f h k = ap (λ b. b || same_point v f.to) h ∙ k

plus-or : (x q : Bool) (o l : Sign) (b : Bool) → (o ≡ Minus → x ≡ false) → (o ≡ Null → b ≡ true → (x && q) ≡ is_plus l) → bit (b && (is_plus o || (x && q))) ≡ bit (b && is_plus (then_sign o l))
plus-or x q Plus l b h k = refl
plus-or x q Minus l true h k = ap (λ y. bit (y && q)) (h refl)
plus-or x q Minus l false h k = refl
plus-or x q Null l false h k = refl
plus-or x q Null l true h k = ap bit (k refl refl)

plus-negated : (s : Sign) → is_minus s ≡ is_plus (negated s)
plus-negated Plus = refl
plus-negated Null = refl
plus-negated Minus = refl

module _ (p : Vector) (e : Edge) (es : List Edge) (pl : IsConflictFree es) (i : In e es) (lo : sign (e.from.y -ℤ p.y) ≡ Null) (hi : sign (e.to.y -ℤ p.y) ≡ Plus) where
  level : e.from.y ≡ p.y
  level = same_from_difference e.from.y p.y (null-zero (e.from.y -ℤ p.y) lo)

  pub e-tall : sign (e.to.y -ℤ e.from.y) ≡ Plus
  e-tall = subst (λ z. sign (e.to.y -ℤ z) ≡ Plus) (sym level) hi

  distance-level : (f : Edge) → cross (distance_right p e) (distance_right p f) ≡ (e.to.y -ℤ e.from.y) *ℤ cross (from_to e.from f.from) (from_to e.from f.to)
  distance-level f =
      let a = e.from in let b = e.to in let u = f.from in let v = f.to in
      let z = null-zero (a.y -ℤ p.y) lo in
      let d = level in
      level-mix (b.y -ℤ a.y) (cross (from_to a u) (from_to a v)) (a.x -ℤ p.x) (v.y -ℤ u.y) (cross (from_to p a) (from_to u v)) (cross (from_to p u) (from_to p v)) (cross (from_to p a) (from_to p b))
      (zero-part (a.x -ℤ p.x) (a.y -ℤ p.y) (b.y -ℤ p.y) (b.x -ℤ p.x) (b.y -ℤ a.y) z (ap (λ (k : ℤ). b.y -ℤ k) (sym d)))
      (zero-part (a.x -ℤ p.x) (a.y -ℤ p.y) (v.y -ℤ u.y) (v.x -ℤ u.x) (v.y -ℤ u.y) z refl)
      (side-moves p a u v)

  distance-sign : (f : Edge) → sign (cross (distance_right p e) (distance_right p f)) ≡ orient f.from f.to e.from
  distance-sign f = ap sign (distance-level f) ∙ plus-times (e.to.y -ℤ e.from.y) (cross (from_to e.from f.from) (from_to e.from f.to)) e-tall ∙ ap sign (sym (orient-round e.from f.from f.to))

  span-level : (f : Edge) → is_in_span e.from f ≡ is_in_span p f
  span-level f = ap (λ (z : ℤ). not (is_plus (sign (f.from.y -ℤ z))) && is_plus (sign (f.to.y -ℤ z))) level

  away-in : (f : Edge) → In f es → ends_at e.from f ≡ false → IsOffEdge e.from f
  away-in f j h = in-all (IsOffEdge e.from) (away e.from es) f (off_away e.from e es pl i (ends_at-from e)) (into-filter (λ (t : Edge). not (ends_at e.from t)) es f j (ap not h))

  not-here : (f : Edge) (x : Bool) → same_point e.from f.from ≡ x → orient f.from f.to e.from ≡ Minus → x ≡ false
  not-here f false h o = refl
  not-here f true h o = absurd (minus-not-null _ o (at-end-by e.from f true (same_point e.from f.to) h refl refl))

  on-line-by : (f : Edge) → In f es → (x y : Bool) → same_point e.from f.from ≡ x → same_point e.from f.to ≡ y → orient f.from f.to e.from ≡ Null → is_in_span e.from f ≡ true →
      (x && is_minus (orient e.from e.to f.to)) ≡ is_plus (sign (cross (step_of f) (step_of e)))
  on-line-by f j true y h k o s =
      let q = same_point-true e.from f.from h in
      plus-negated (orient e.from e.to f.to) ∙ ap is_plus (sym (cross-negated (from_to e.from e.to) (from_to e.from f.to)) ∙ ap (λ (w : Vector). sign (cross (from_to w f.to) (step_of e))) q)
  on-line-by f j false true h k o s =
      let q = same_point-true e.from f.to k in
      let n : sign (f.to.y -ℤ e.from.y) ≡ Null = subst (λ (w : Vector). sign (w.y -ℤ e.from.y) ≡ Null) q (self-diff e.from.y) in
      let g = subst (λ z. (not (is_plus (sign (f.from.y -ℤ e.from.y))) && is_plus z) ≡ true) n s in absurd (no-and (not (is_plus (sign (f.from.y -ℤ e.from.y)))) g)
  on-line-by f j false false h k o s =
      let off = away-in f j (ends-none e.from f h k) in
      let n = off_not_null (from_to e.from f.from) (from_to e.from f.to) off s in
      let z : sign (cross (from_to e.from f.from) (from_to e.from f.to)) ≡ Null = ap sign (sym (orient-round e.from f.from f.to)) ∙ o in
      absurd (cc (sym (ap (λ w. not (is_null w)) z) ∙ n))

  pub right-level : (f : Edge) → In f es → bit (starts_left_of e f) ≡ to_right p e f
  right-level f j =
      let c = same_point e.from f.from in let q = is_minus (orient e.from e.to f.to) in let o = orient f.from f.to e.from in let l = sign (cross (step_of f) (step_of e)) in
      plus-or c q o l (is_in_span e.from f) (not-here f c refl) (λ z s. on-line-by f j c (same_point e.from f.to) refl refl z s)
      ∙ ap (λ b. bit (b && is_plus (then_sign o l))) (span-level f)
      ∙ ap (λ k. bit (is_in_span p f && is_plus (then_sign k l))) (sym (distance-sign f))

  pub level_runs : IsEvenAtPoints es → runs_up_by_odd_side es e ≡ is_even (total (to_right p e) (others e es))
  level_runs even =
      sloping_runs-by e es (sign (e.to.y -ℤ e.from.y)) e-tall
      ∙ ap is_even (sym (total-is (λ (t : Edge). bit (starts_left_of e t)) (others e es)))
      ∙ ap is_even (total-same (λ (t : Edge). bit (starts_left_of e t)) (to_right p e) (others e es) (λ t j. right-level t (in-filter (λ (t : Edge). not (same_edge e t)) es t j)))

-- ---- both cases
pub low-by : (yu yv : Sign) → (not (is_plus yu) && is_plus yv) ≡ true → ((yu ≡ Minus) ⊎ (yu ≡ Null)) × (yv ≡ Plus)
low-by Minus Plus h = (inl refl, refl)
low-by Null Plus h = (inr refl, refl)
low-by Plus yv h = absurd (cc h)
low-by Minus Null h = absurd (cc h)
low-by Minus Minus h = absurd (cc h)
low-by Null Null h = absurd (cc h)
low-by Null Minus h = absurd (cc h)

spanning-by : (p : Vector) (e : Edge) (es : List Edge) → IsConflictFree es → IsEvenAtPoints es → In e es → (sign (e.from.y -ℤ p.y) ≡ Minus) ⊎ (sign (e.from.y -ℤ p.y) ≡ Null) → sign (e.to.y -ℤ p.y) ≡ Plus →
    runs_up_by_odd_side es e ≡ is_even (total (to_right p e) (others e es))
spanning-by p e es pl even i (inl lo) hi = inner_runs p e es pl i lo hi even
spanning-by p e es pl even i (inr lo) hi = level_runs p e es pl i lo hi even

-- an edge that spans the height of p runs up exactly where an even number of the others that span it are right of it there
pub spanning_runs : (p : Vector) (e : Edge) (es : List Edge) → IsConflictFree es → IsEvenAtPoints es → In e es → is_in_span p e ≡ true → runs_up_by_odd_side es e ≡ is_even (total (to_right p e) (others e es))
spanning_runs p e es pl even i s = let h = low-by (sign (e.from.y -ℤ p.y)) (sign (e.to.y -ℤ p.y)) s in spanning-by p e es pl even i h.0 h.1

-- ---- two of these edges are not at one place in the order
set-first : (k l : Sign) → not (is_null k) ≡ true → not (is_null (then_sign k l)) ≡ true
set-first Plus l h = refl
set-first Minus l h = refl
set-first Null l h = absurd (cc h)

set-second : (k l : Sign) → (k ≡ Null → not (is_null l) ≡ true) → not (is_null (then_sign k l)) ≡ true
set-second Plus l h = refl
set-second Minus l h = refl
set-second Null l h = h refl

module _ (p : Vector) (e f : Edge) (es : List Edge) (pl : IsConflictFree es) (i : In e es) (j : In f es) (n : IsClearOf e f) (s : is_in_span p f ≡ true) where
  other : In f (others e es)
  other = into-filter (λ (t : Edge). not (same_edge e t)) es f j (ap not (clear_differs e f (rising_in es e pl i) n))

  apart-inner : (lo : sign (e.from.y -ℤ p.y) ≡ Minus) → (hi : sign (e.to.y -ℤ p.y) ≡ Plus) → not (is_null (order_above p e f)) ≡ true
  apart-inner lo hi =
      let r = from_e p e es pl i lo hi in let v = e-view p e es pl i lo hi in
      let off = in-all (IsOffSeen r) (others e es) f (off_all e.from e.to r v (others e es) (misses_others e es pl i)) other in
      let a = look-height p e.from e.to lo hi f.from in let b = look-height p e.from e.to lo hi f.to in
      let m = off_not_null (r f.from) (r f.to) off
      (subst (λ k. (not (is_plus k) && is_plus (sign (r f.to).y)) ≡ true) (sym a) (subst (λ k. (not (is_plus (sign (f.from.y -ℤ p.y))) && is_plus k) ≡ true) (sym b) s)) in
      set-first _ (sign (cross (step_of f) (step_of e))) (subst (λ k. not (is_null k) ≡ true) (look-side p e.from e.to lo hi f) m)

  ends-cases : (x y : Bool) → same_point e.from f.from ≡ x → same_point e.from f.to ≡ y → (lo : sign (e.from.y -ℤ p.y) ≡ Null) → (hi : sign (e.to.y -ℤ p.y) ≡ Plus) → orient f.from f.to e.from ≡ Null → not (is_null (sign (cross (step_of f) (step_of e)))) ≡ true
  ends-cases true y h k lo hi o =
      let a = e.from in let b = e.to in let v = f.to in
      let q = same_point-true a f.from h in
      let re = rising_in es e pl i in let rf = rising_in es f pl j in
      let r : order a v ≡ Plus = subst (λ w. order w v ≡ Plus) (sym q) rf in
      let m : Misses a b (edge_of a v) = subst (λ w. Misses a b (edge_of w v)) (sym q) (clear_misses e f re rf n) in
      let g = not-null-by (sign (cross (from_to a b) (from_to a v))) (λ z. no_same_way_from a b v (rising-direction a b re) m z (line-order-up a b a v re z ∙ r)) in
      subst (λ (w : Vector). not (is_null (sign (cross (from_to w v) (from_to a b)))) ≡ true) q (subst (λ z. not (is_null z) ≡ true) (sym (cross-negated (from_to a b) (from_to a v))) (not-null-negated _ g))
  ends-cases false true h k lo hi o =
      let q = same_point-true e.from f.to k in
      let s' = span-level p e es pl i lo hi f ∙ s in
      let z : sign (f.to.y -ℤ e.from.y) ≡ Null = subst (λ (w : Vector). sign (w.y -ℤ e.from.y) ≡ Null) q (self-diff e.from.y) in
      let g = subst (λ z. (not (is_plus (sign (f.from.y -ℤ e.from.y))) && is_plus z) ≡ true) z s' in absurd (no-and (not (is_plus (sign (f.from.y -ℤ e.from.y)))) g)
  ends-cases false false h k lo hi o =
      let off = away-in p e es pl i lo hi f j (ends-none e.from f h k) in
      let s' = span-level p e es pl i lo hi f ∙ s in
      let m = off_not_null (from_to e.from f.from) (from_to e.from f.to) off s' in
      let z : sign (cross (from_to e.from f.from) (from_to e.from f.to)) ≡ Null = ap sign (sym (orient-round e.from f.from f.to)) ∙ o in
      absurd (cc (sym (ap (λ w. not (is_null w)) z) ∙ m))

  apart-level : (lo : sign (e.from.y -ℤ p.y) ≡ Null) → (hi : sign (e.to.y -ℤ p.y) ≡ Plus) → not (is_null (order_above p e f)) ≡ true
  apart-level lo hi =
      set-second (sign (cross (distance_right p e) (distance_right p f))) (sign (cross (step_of f) (step_of e)))
      (λ z. ends-cases (same_point e.from f.from) (same_point e.from f.to) refl refl lo hi (sym (distance-sign p e es pl i lo hi f) ∙ z))

  apart-both : (sign (e.from.y -ℤ p.y) ≡ Minus) ⊎ (sign (e.from.y -ℤ p.y) ≡ Null) → sign (e.to.y -ℤ p.y) ≡ Plus → not (is_null (order_above p e f)) ≡ true
  apart-both (inl lo) hi = apart-inner lo hi
  apart-both (inr lo) hi = apart-level lo hi

  pub right_apart : is_in_span p e ≡ true → not (is_null (order_above p e f)) ≡ true
  right_apart h = let g = low-by (sign (e.from.y -ℤ p.y)) (sign (e.to.y -ℤ p.y)) h in apart-both g.0 g.1

-- ---- the edges right of p
abbrev pub crossing_by : Vector → List Edge → List Edge
crossing_by p es = filter (is_left_of p) es

pub left-span : (p : Vector) (t : Edge) → is_left_of p t ≡ true → is_in_span p t ≡ true
left-span p t h = (and_parts (is_in_span p t) (is_plus (orient t.from t.to p)) h).0

abbrev still_left : Sign → Sign → Bool
still_left k l = all λ c. imp (agree k (times Plus Plus) (times Plus c)) λ _. imp (is_plus (then_sign k l)) λ _. is_plus c

-- what is right of an edge that is right of p is right of p
pub right_left : (p : Vector) (e f : Edge) → is_left_of p e ≡ true → is_in_span p f ≡ true → right_of p e f ≡ true → is_left_of p f ≡ true
right_left p e f h s r =
    let k = sign (cross (distance_right p e) (distance_right p f)) in let l = sign (cross (step_of f) (step_of e)) in
    let ce : sign (cross (from_to p e.from) (from_to p e.to)) ≡ Plus = ap sign (sym (orient-round p e.from e.to)) ∙ is_plus-true (orient e.from e.to p) (and_parts (is_in_span p e) (is_plus (orient e.from e.to p)) h).1 in
    let a = rw (tall-by p e (left-span p e h), tall-by p f s, ce) at (cross-agree (distance_right p e) (distance_right p f)) in
    let c = all-out (λ c. imp (agree k (times Plus Plus) (times Plus c)) λ _. imp (is_plus (then_sign k l)) λ _. is_plus c) (all2-out still_left refl k l) (sign (cross (from_to p f.from) (from_to p f.to))) in
    and_from (is_in_span p f) (is_plus (orient f.from f.to p)) s (ap (λ z. is_plus (sign z)) (orient-round p f.from f.to) ∙ imp-out _ _ (imp-out _ _ c a) r)

pub kept-by : (x s r : Bool) → (x ≡ true → s ≡ true) → (s ≡ true → r ≡ true → x ≡ true) → cond x (bit r) 0 ≡ bit (s && r)
kept-by true true r h k = refl
kept-by true false r h k = absurd (cc (h refl))
kept-by false true true h k = absurd (cc (k refl refl))
kept-by false true false h k = refl
kept-by false false r h k = refl

pub crossing-order : (p : Vector) (es : List Edge) → IsConflictFree es → IsOrder false (right_of p) (crossing_by p es)
crossing-order p es pl = record {
  itself = λ t i. right_itself p t;
  chain = λ a b c i j k h g. right_chain p a b c (left-span p a (in-passes (is_left_of p) es a i)) (left-span p b (in-passes (is_left_of p) es b j)) (left-span p c (in-passes (is_left_of p) es c k)) h g;
  either = pairs-weaker IsClearOf (λ s t. right_of p s t ≡ not (right_of p t s)) (crossing_by p es)
      (λ s t i j n. right_either p s t (right_apart p s t es pl (in-filter (is_left_of p) es s i) (in-filter (is_left_of p) es t j) n
      (left-span p t (in-passes (is_left_of p) es t j)) (left-span p s (in-passes (is_left_of p) es s i))))
      (pairs-filter IsClearOf (is_left_of p) es pl.clear);
}

-- the edges that span the height of p
pub spanning-order : (p : Vector) (es : List Edge) → IsConflictFree es → IsOrder false (right_of p) (filter (is_in_span p) es)
spanning-order p es pl = record {
  itself = λ t i. right_itself p t;
  chain = λ a b c i j k h g. right_chain p a b c (in-passes (is_in_span p) es a i) (in-passes (is_in_span p) es b j) (in-passes (is_in_span p) es c k) h g;
  either = pairs-weaker IsClearOf (λ s t. right_of p s t ≡ not (right_of p t s)) (filter (is_in_span p) es)
      (λ s t i j n. right_either p s t (right_apart p s t es pl (in-filter (is_in_span p) es s i) (in-filter (is_in_span p) es t j) n
      (in-passes (is_in_span p) es t j) (in-passes (is_in_span p) es s i)))
      (pairs-filter IsClearOf (is_in_span p) es pl.clear);
}

own-right : (p : Vector) (e : Edge) → to_right p e e ≡ 0
own-right p e = bit-and_no (is_in_span p e) (right_of p e e) (right_itself p e)

crossing-rank : (p : Vector) (e : Edge) (es : List Edge) → IsConflictFree es → IsEvenAtPoints es → In e (crossing_by p es) → rank' (right_of p) (crossing_by p es) e ≡ total (to_right p e) (others e es)
crossing-rank p e es pl even i =
    let k = in-filter (is_left_of p) es e i in let l = in-passes (is_left_of p) es e i in
    let a = total-filter (is_left_of p) (λ f. bit (right_of p e f)) es in
    let b = total-same (λ f. cond (is_left_of p f) (bit (right_of p e f)) 0) (to_right p e) es (λ f j. kept-by (is_left_of p f) (is_in_span p f) (right_of p e f) (left-span p f) (λ s r. right_left p e f l s r)) in
    let c = split_off (to_right p e) e es pl k in let d = own-right p e in omega arith

crossing-runs : (p : Vector) (e : Edge) (es : List Edge) → IsConflictFree es → IsEvenAtPoints es → In e (crossing_by p es) → runs_up_by_odd_side es e ≡ is_even (rank' (right_of p) (crossing_by p es) e)
crossing-runs p e es pl even i =
    spanning_runs p e es pl even (in-filter (is_left_of p) es e i) (left-span p e (in-passes (is_left_of p) es e i)) ∙ ap is_even (sym (crossing-rank p e es pl even i))

crossing-sum : (p : Vector) (es : List Edge) → IsConflictFree es → IsEvenAtPoints es → total (λ e. bit (runs_up_by_odd_side es e)) (crossing_by p es) ≡ total (λ e. bit (not (runs_up_by_odd_side es e))) (crossing_by p es) + length (crossing_by p es) % 2
crossing-sum p es pl even =
    let a = total-same (λ e. bit (runs_up_by_odd_side es e)) (λ e. evens (rank' (right_of p) (crossing_by p es) e)) (crossing_by p es) (λ e i. ap bit (crossing-runs p e es pl even i)) in
    let b = total-same (λ e. bit (not (runs_up_by_odd_side es e))) (λ e. odds (rank' (right_of p) (crossing_by p es) e)) (crossing_by p es) (λ e i. ap (λ x. bit (not x)) (crossing-runs p e es pl even i)) in
    let c = rank-parity (right_of p) (crossing_by p es) (crossing-order p es pl) in omega arith

-- ---- the crossings of a directed edge
abbrev run_1 : Sign → Sign → Sign → Sign → Bool
run_1 yu yv c dy = imp (agree yu dy yv) λ _. imp (not (is_minus dy)) λ _.
    both (eqb (up_by yu yv c) (bit ((not (is_plus yu) && is_plus yv) && is_plus c))) (both (eqb (down_by yu yv c) 0)
    (both (eqb (up_by yv yu (negated c)) 0) (eqb (down_by yv yu (negated c)) (bit ((not (is_plus yu) && is_plus yv) && is_plus c)))))

fourth : (a b c d : Bool) → both a (both b (both c d)) ≡ true → d ≡ true
fourth true true true d h = h
fourth false b c d h = absurd (cc h)
fourth true false c d h = absurd (cc h)
fourth true true false d h = absurd (cc h)

module _ (p : Vector) (t : Edge) (r : IsRisingEdge t) where
  abbrev yu : Sign
  yu = sign (t.from.y -ℤ p.y)

  abbrev yv : Sign
  yv = sign (t.to.y -ℤ p.y)

  abbrev turn : Sign
  turn = sign (cross (from_to p t.from) (from_to p t.to))

  abbrev left' : ℕ
  left' = bit ((not (is_plus yu) && is_plus yv) && is_plus turn)

  run-out : both (eqb (up_by yu yv turn) left') (both (eqb (down_by yu yv turn) 0) (both (eqb (up_by yv yu (negated turn)) 0) (eqb (down_by yv yu (negated turn)) left'))) ≡ true
  run-out = imp-out _ _ (imp-out _ _ (all4-out run_1 refl yu yv turn (sign (t.to.y -ℤ t.from.y))) (rise-y p t.from t.to)) (not-minus-by (sign (t.to.y -ℤ t.from.y)) (sign (t.to.x -ℤ t.from.x)) r)

  left-is : left' ≡ bit (is_left_of p t)
  left-is = ap (λ z. bit (is_in_span p t && is_plus (sign z))) (sym (orient-round p t.from t.to))

  turn-back : sign (cross (from_to p t.to) (from_to p t.from)) ≡ negated turn
  turn-back = cross-negated (from_to p t.from) (from_to p t.to)

  pub up-run : (b : Bool) → up_seen east (from_to p) (cond b t (reversed t)) ≡ cond (is_left_of p t) (bit b) 0
  up-run true = rw (east-side (from_to p t.from), east-side (from_to p t.to)) (eqb-true _ _ (left-out _ _ run-out) ∙ left-is)
  up-run false =
      rw (east-side (from_to p t.from), east-side (from_to p t.to), turn-back)
      (eqb-true _ _ (left-out _ _ (right-out _ _ (right-out _ _ run-out))) ∙ sym (cond_none (is_left_of p t)))

  pub down-run : (b : Bool) → down_seen east (from_to p) (cond b t (reversed t)) ≡ cond (is_left_of p t) (bit (not b)) 0
  down-run true =
      rw (east-side (from_to p t.from), east-side (from_to p t.to))
      (eqb-true _ _ (left-out _ _ (right-out _ _ run-out)) ∙ sym (cond_none (is_left_of p t)))
  down-run false =
      rw (east-side (from_to p t.from), east-side (from_to p t.to), turn-back)
      (eqb-true _ _ (fourth (eqb (up_by yu yv turn) left') (eqb (down_by yu yv turn) 0) (eqb (up_by yv yu (negated turn)) 0) (eqb (down_by yv yu (negated turn)) left') run-out) ∙ left-is)

-- the signed count of the directed edges is their parity, at every point
pub signed_parity : (p : Vector) (es : List Edge) → IsConflictFree es → IsEvenAtPoints es → up_count east p (directed es) ≡ down_count east p (directed es) + crossing_count east p es % 2
signed_parity p es pl even =
    let a = sym (total-is (up_seen east (from_to p)) (directed es)) ∙ total-map (up_seen east (from_to p)) (directed_edge es) es in
    let b = sym (total-is (down_seen east (from_to p)) (directed es)) ∙ total-map (down_seen east (from_to p)) (directed_edge es) es in
    let c = total-same (λ t. up_seen east (from_to p) (directed_edge es t)) (λ t. cond (is_left_of p t) (bit (runs_up_by_odd_side es t)) 0) es (λ t i. up-run p t (rising_in es t pl i) (runs_up_by_odd_side es t)) in
    let d = total-same (λ t. down_seen east (from_to p) (directed_edge es t)) (λ t. cond (is_left_of p t) (bit (not (runs_up_by_odd_side es t))) 0) es (λ t i. down-run p t (rising_in es t pl i) (runs_up_by_odd_side es t)) in
    let x = total-filter (is_left_of p) (λ t. bit (runs_up_by_odd_side es t)) es in let y = total-filter (is_left_of p) (λ t. bit (not (runs_up_by_odd_side es t))) es in
    let z = crossing-sum p es pl even in
    let l = length-total (crossing_by p es) in let m = total-filter (is_left_of p) (λ t. 1) es in
    let n = total-is (crossings_at east (from_to p)) es in
    let o = total-same (crossings_at east (from_to p)) (λ t. cond (is_left_of p t) 1 0) es (λ t i. crossings-left east p t east-side (rising_in es t pl i)) in
    omega arith

pub signed_count : (p : Vector) (es : List Edge) → IsConflictFree es → IsEvenAtPoints es → winding_number east p (directed es) ≡ pos (crossing_count east p es % 2)
signed_count p es pl even = let h = signed_parity p es pl even in omega (arith, ints)
