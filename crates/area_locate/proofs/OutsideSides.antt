-- Outside of the envelope of an area there is neither a side with the location on it nor an odd number of sides right of it.
use Rattle.std.proofs.Common.{Bool, true, false, not, cond, eqb, eqb-true, List, [], ◌∷◌, map, refl, sym, ap, arith, ℕ, ℤ, ◌&&◌, ◌||◌, ◌+◌, ◌-ℤ◌, ◌<ℤ◌, ◌≤ℤ◌, ◌%◌, ◌≡◌, ◌∙◌, ⊎_elim, All, count_by}
use Rattle.std.proofs.lemmas.Bool.{false_from_ne_true}
use Rattle.std.proofs.lemmas.Int.{ints}
use Rattle.std.proofs.lemmas.List.Sums.{sum_by-cons}
use Rattle.std.specs.Int.Signed.{lt_z}
use Rattle.plane.specs.RayCrossing.{IsOffEdge, is_off, up_by, down_by}
use Rattle.plane.specs.Sign.{Sign, Minus, Null, Plus, is_plus, negated, sign}
use Rattle.plane.specs.Vector.{cross, east, from_to, orient}
use Rattle.plane.proofs.PlaneKit.{cross-agree, crossings-left, crossings_at, east-direction, east-side, orient-round}
use Rattle.plane.proofs.SignKit.{Says, agree, all3-out, imp, imp-out, says, times}
use Rattle.plane_lists.specs.Lists.EdgeList.{IsEvenAtPoints, crossing_count}
use Rattle.plane_lists.proofs.WindingKit.{cross-west, parity_independent, west, west-direction}
use Rattle.lists.specs.Member.{In}
use Rattle.lists.proofs.ListsKit.{all-in, and-left, and-right, below_from, count_by-cons, from-map, in-all, not-true-out, or-out, total-is, total-map, total_none}
use Rattle.osm_lattice.specs.declared.loc.Loc.{Loc}
use Rattle.osm_lattice.specs.declared.seg.Seg.{Seg}
use Rattle.osm_lattice.specs.Loc.{vector_of}
use Rattle.osm_lattice.specs.Seg.{edge_of}
use Rattle.osm_lattice.proofs.LatticeKit.{rising_edge}
use Rattle.area_locate.specs.declared.envelope.Envelope.{Envelope}
use Rattle.area_locate.specs.Envelopes.{Encloses, IsInEnvelope, lacks}
use Rattle.osm_sides.specs.PointPlaces.{lies_on, on_count}
use Rattle.osm_sides.specs.SideTests.{left_count, left_of}
use Rattle.osm_sides.proofs.SidesKit.{are_alike, on_between}

-- ---- signs of numbers in order
sign_plus : (s : Sign) (a b : ℤ) → Says s (a -ℤ b) → b <ℤ a → s ≡ Plus
sign_plus Plus a b h l = refl
sign_plus Null a b h l = absurd (omega (arith, ints))
sign_plus Minus a b h l = absurd (omega (arith, ints))

sign_minus : (s : Sign) (a b : ℤ) → Says s (a -ℤ b) → a <ℤ b → s ≡ Minus
sign_minus Minus a b h l = refl
sign_minus Null a b h l = absurd (omega (arith, ints))
sign_minus Plus a b h l = absurd (omega (arith, ints))

above : (a b : ℤ) → b <ℤ a → sign (a -ℤ b) ≡ Plus
above a b = sign_plus (sign (a -ℤ b)) a b (says (a -ℤ b))

below : (a b : ℤ) → a <ℤ b → sign (a -ℤ b) ≡ Minus
below a b = sign_minus (sign (a -ℤ b)) a b (says (a -ℤ b))

-- ---- the heights that a segment spans
spanned : (s t : Sign) (a b p : ℤ) → Says s (a -ℤ p) → Says t (b -ℤ p) → not (is_plus s) ≡ true → is_plus t ≡ true → (a ≤ℤ p) × (p ≤ℤ b)
spanned Plus t a b p h k low high = absurd (cc low)
spanned s Null a b p h k low high = absurd (cc high)
spanned s Minus a b p h k low high = absurd (cc high)
spanned Null Plus a b p h k low high = (omega (arith, ints), omega (arith, ints))
spanned Minus Plus a b p h k low high = (omega (arith, ints), omega (arith, ints))

left_reaches : (p : Loc) (s : Seg) → left_of p s ≡ true → (s.a.y ≤ℤ p.y) × (p.y ≤ℤ s.b.y)
unfolding left_of
left_reaches p s left =
    let low = not (is_plus (sign (s.a.y -ℤ p.y))) in let high = is_plus (sign (s.b.y -ℤ p.y)) in
    let span : (low && high) ≡ true = and-left (low && high) (is_plus (orient (vector_of s.a) (vector_of s.b) (vector_of p))) left in
    spanned (sign (s.a.y -ℤ p.y)) (sign (s.b.y -ℤ p.y)) s.a.y s.b.y p.y (says (s.a.y -ℤ p.y)) (says (s.b.y -ℤ p.y)) (and-left low high span) (and-right low high span)

-- ---- one side, wholly right of p, left of it, above it or below it
data Beyond (p : Loc) (s : Seg) : Type 0 where
  right : p.x <ℤ s.a.x → p.x <ℤ s.b.x → Beyond p s
  left : s.a.x <ℤ p.x → s.b.x <ℤ p.x → Beyond p s
  higher : p.y <ℤ s.a.y → p.y <ℤ s.b.y → Beyond p s
  lower : s.a.y <ℤ p.y → s.b.y <ℤ p.y → Beyond p s

alike_clash : (s t u v : Sign) → s ≡ u → t ≡ v → are_alike u v ≡ true → not (are_alike s t) ≡ true → ⊥
alike_clash s t u v e f one_side apart = let whole : not (are_alike u v) ≡ true = rw (← e, ← f) apart in let clash : not true ≡ true = rw one_side at whole in cc clash

beyond_off : (p : Loc) (s : Seg) → Beyond p s → lies_on p s ≡ false
beyond_off p s (right h k) = false_from_ne_true (lies_on p s) (λ on. alike_clash _ _ Plus Plus (above s.a.x p.x h) (above s.b.x p.x k) refl (on_between p s on).0)
beyond_off p s (left h k) = false_from_ne_true (lies_on p s) (λ on. alike_clash _ _ Minus Minus (below s.a.x p.x h) (below s.b.x p.x k) refl (on_between p s on).0)
beyond_off p s (higher h k) = false_from_ne_true (lies_on p s) (λ on. alike_clash _ _ Plus Plus (above s.a.y p.y h) (above s.b.y p.y k) refl (on_between p s on).1)
beyond_off p s (lower h k) = false_from_ne_true (lies_on p s) (λ on. alike_clash _ _ Minus Minus (below s.a.y p.y h) (below s.b.y p.y k) refl (on_between p s on).1)

higher_not_left : (p : Loc) (s : Seg) → p.y <ℤ s.a.y → left_of p s ≡ false
higher_not_left p s h = false_from_ne_true (left_of p s) (λ yes. let reach = (left_reaches p s yes).0 in omega (arith, ints))

lower_not_left : (p : Loc) (s : Seg) → s.b.y <ℤ p.y → left_of p s ≡ false
lower_not_left p s h = false_from_ne_true (left_of p s) (λ yes. let reach = (left_reaches p s yes).1 in omega (arith, ints))

-- the sign of the product of the steps to both ends, where both are to the left and the heights are spanned
abbrev leftward : Sign → Sign → Sign → Bool
leftward k uy vy = imp (agree k (times uy Minus) (times Minus vy)) λ _. not ((not (is_plus uy) && is_plus vy) && is_plus k)

left_not_left : (p : Loc) (s : Seg) → s.a.x <ℤ p.x → s.b.x <ℤ p.x → left_of p s ≡ false
unfolding left_of
left_not_left p s h k =
    let v = vector_of p in let f = vector_of s.a in let e = vector_of s.b in
    let agreed : agree (sign (cross (from_to v f) (from_to v e))) (times (sign (s.a.y -ℤ p.y)) Minus) (times Minus (sign (s.b.y -ℤ p.y))) ≡ true =
    rw (below s.a.x p.x h, below s.b.x p.x k) at (cross-agree (from_to v f) (from_to v e)) in
    let signs = imp-out _ _ (all3-out leftward refl (sign (cross (from_to v f) (from_to v e))) (sign (s.a.y -ℤ p.y)) (sign (s.b.y -ℤ p.y))) agreed in
    not-true-out (left_of p s) (ap (λ (z : ℤ). not ((not (is_plus (sign (s.a.y -ℤ p.y))) && is_plus (sign (s.b.y -ℤ p.y))) && is_plus (sign z))) (orient-round v f e) ∙ signs)

-- ---- the ray to the left
-- it doesn't cross what is right of p
abbrev rightward : Sign → Sign → Sign → Bool
rightward k uy vy = imp (agree k (times uy Plus) (times Plus vy)) λ _. eqb (up_by (negated uy) (negated vy) k + down_by (negated uy) (negated vy) k) 0

right_uncrossed : (p : Loc) (s : Seg) → p.x <ℤ s.a.x → p.x <ℤ s.b.x → crossings_at west (from_to (vector_of p)) (edge_of s) ≡ 0
right_uncrossed p s h k =
    let v = vector_of p in let f = vector_of s.a in let e = vector_of s.b in
    let agreed : agree (sign (cross (from_to v f) (from_to v e))) (times (sign (s.a.y -ℤ p.y)) Plus) (times Plus (sign (s.b.y -ℤ p.y))) ≡ true =
    rw (above s.a.x p.x h, above s.b.x p.x k) at (cross-agree (from_to v f) (from_to v e)) in
    let signs = imp-out _ _ (all3-out rightward refl (sign (cross (from_to v f) (from_to v e))) (sign (s.a.y -ℤ p.y)) (sign (s.b.y -ℤ p.y))) agreed in
    rw (cross-west (from_to v f), cross-west (from_to v e)) (eqb-true _ _ signs)

-- ---- all sides
count_none : {X : Type 0} (q : X → Bool) (xs : List X) → ((x : X) → In x xs → q x ≡ false) → count_by q xs ≡ 0
count_none q xs none = sym (total-is (λ x. cond (q x) 1 0) xs) ∙ total_none (λ x. cond (q x) 1 0) xs (λ x i. ap (λ b. cond {A = ℕ} b 1 0) (none x i))

-- the sides that span the height of p and have it on their left are those that the ray to the right crosses
left_one : (p : Loc) (s : Seg) → crossings_at east (from_to (vector_of p)) (edge_of s) ≡ cond (left_of p s) 1 0
unfolding left_of
left_one p s = crossings-left east (vector_of p) (edge_of s) east-side (rising_edge s)

pub left_crosses : (p : Loc) (sides : List Seg) → crossing_count east (vector_of p) (map edge_of sides) ≡ left_count p sides
left_crosses p [] = refl
left_crosses p (s ∷ sides) =
    sum_by-cons (crossings_at east (from_to (vector_of p))) (edge_of s) (map edge_of sides)
    ∙ ap (λ n. n + crossing_count east (vector_of p) (map edge_of sides)) (left_one p s)
    ∙ ap (λ n. cond {A = ℕ} (left_of p s) 1 0 + n) (left_crosses p sides)
    ∙ sym (count_by-cons (left_of p) s sides)

module _ (p : Loc) (sides : List Seg) where
  -- none has p on it
  beyond_none : ((s : Seg) → In s sides → Beyond p s) → on_count p sides ≡ 0
  beyond_none all = count_none (lies_on p) sides (λ s i. beyond_off p s (all s i))

  off_all : ((s : Seg) → In s sides → Beyond p s) → All (IsOffEdge (vector_of p)) (map edge_of sides)
  unfolding lies_on
  off_all all = all-in (IsOffEdge (vector_of p)) (map edge_of sides) (from-map (IsOffEdge (vector_of p)) edge_of sides (λ s i. off (is_off (vector_of p) (edge_of s)) (beyond_off p s (all s i))))
    where
      off : (b : Bool) → not b ≡ false → b ≡ true
      off true h = refl
      off false h = absurd (cc h)

  -- where all are right of p, the ray to the left tells their parity
  right_even : IsEvenAtPoints (map edge_of sides) → ((s : Seg) → In s sides → (p.x <ℤ s.a.x) × (p.x <ℤ s.b.x)) → left_count p sides % 2 ≡ 0
  right_even even all =
      let v = vector_of p in let es = map edge_of sides in
      let uncrossed : crossing_count west v es ≡ 0 =
      sym (total-is (crossings_at west (from_to v)) es) ∙ total-map (crossings_at west (from_to v)) edge_of sides
      ∙ total_none (λ s. crossings_at west (from_to v) (edge_of s)) sides (λ s i. right_uncrossed p s (all s i).0 (all s i).1) in
      let turned : crossing_count east v es % 2 ≡ crossing_count west v es % 2 =
      parity_independent east west (from_to v) east-direction west-direction es (off_all (λ s i. right (all s i).0 (all s i).1)) even in
      ap (λ n. n % 2) (sym (left_crosses p sides)) ∙ turned ∙ ap (λ n. n % 2) uncrossed

-- ---- an area outside of whose envelope p is
pub record IsApart (p : Loc) (sides : List Seg) : Type 0 where
  pub none_on : on_count p sides ≡ 0
  pub even_left : left_count p sides % 2 ≡ 0

module _ (p : Loc) (e : Envelope) (sides : List Seg) (within : Encloses e sides) where
  ends : (s : Seg) → In s sides → IsInEnvelope e s.a × IsInEnvelope e s.b
  ends s i = in-all (λ (s : Seg). IsInEnvelope e s.a × IsInEnvelope e s.b) sides s within i

  beyond_left : p.x <ℤ e.left → (s : Seg) → In s sides → (p.x <ℤ s.a.x) × (p.x <ℤ s.b.x)
  beyond_left out s i = let a = (ends s i).0.left in let b = (ends s i).1.left in (omega (arith, ints), omega (arith, ints))

  beyond_right : e.right <ℤ p.x → (s : Seg) → In s sides → (s.a.x <ℤ p.x) × (s.b.x <ℤ p.x)
  beyond_right out s i = let a = (ends s i).0.right in let b = (ends s i).1.right in (omega (arith, ints), omega (arith, ints))

  beyond_low : p.y <ℤ e.low → (s : Seg) → In s sides → (p.y <ℤ s.a.y) × (p.y <ℤ s.b.y)
  beyond_low out s i = let a = (ends s i).0.low in let b = (ends s i).1.low in (omega (arith, ints), omega (arith, ints))

  beyond_high : e.high <ℤ p.y → (s : Seg) → In s sides → (s.a.y <ℤ p.y) × (s.b.y <ℤ p.y)
  beyond_high out s i = let a = (ends s i).0.high in let b = (ends s i).1.high in (omega (arith, ints), omega (arith, ints))

  uncounted : ((s : Seg) → In s sides → Beyond p s) → ((s : Seg) → In s sides → left_of p s ≡ false) → IsApart p sides
  uncounted beyond none = record { none_on = beyond_none p sides beyond; even_left = ap (λ n. n % 2) (count_none (left_of p) sides none) }

  pub outside_apart : IsEvenAtPoints (map edge_of sides) → lacks e p ≡ true → IsApart p sides
  outside_apart even out = ⊎_elim
      (λ h. let all = beyond_left (below_from p.x e.left h) in record { none_on = beyond_none p sides (λ s i. right (all s i).0 (all s i).1); even_left = right_even p sides even all })
      (λ rest. ⊎_elim
      (λ h. let all = beyond_right (below_from e.right p.x h) in uncounted (λ s i. left (all s i).0 (all s i).1) (λ s i. left_not_left p s (all s i).0 (all s i).1))
      (λ rest. ⊎_elim
      (λ h. let all = beyond_low (below_from p.y e.low h) in uncounted (λ s i. higher (all s i).0 (all s i).1) (λ s i. higher_not_left p s (all s i).0))
      (λ h. let all = beyond_high (below_from e.high p.y h) in uncounted (λ s i. lower (all s i).0 (all s i).1) (λ s i. lower_not_left p s (all s i).1))
      (or-out (lt_z p.y e.low) (lt_z e.high p.y) rest))
      (or-out (lt_z e.right p.x) (lt_z p.y e.low || lt_z e.high p.y) rest))
      (or-out (lt_z p.x e.left) (lt_z e.right p.x || (lt_z p.y e.low || lt_z e.high p.y)) out)
