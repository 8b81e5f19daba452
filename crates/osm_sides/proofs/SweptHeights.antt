-- Heights at which segments begin and end.
use Rattle.std.proofs.Common.{Bool, List, ap, arith, eq-or-lt_of_le, get_or, length, not, refl, subst, sym, true, false, ℕ, ℤ, ⊎_elim, ◌&&◌, ◌+◌, ◌-ℤ◌, ◌<◌, ◌∙◌, ◌≡◌, ◌≤◌}
use lib.Signed.{lt_z}
use Rattle.std.specs.declared.cmp.Ordering.{Ordering}
use Rattle.std.specs.declared.cmp.Ordering.TheVariants.{Less}
use Rattle.std.specs.Ordering.{int_cmp, ordering_then}
use Rattle.std.specs.List.{AllWithin}
use Rattle.std.specs.List.Sorted.{IsPartitionedBy}
use Rattle.std.specs.Prelude.{negsuc, unsigned_abs, ◌≤ℤ◌}
use Rattle.std.proofs.lemmas.Bool.{and_from, and_right}
use Rattle.std.proofs.lemmas.Int.{ints}
use Rattle.plane.specs.Height.{is_in_span}
use Rattle.plane.specs.Sign.{Null, Plus, is_plus, sign}
use Rattle.plane.specs.Vector.{Vector}
use Rattle.lists.proofs.ListsKit.{and-left, and-right, not-false-out}
use Rattle.plane.proofs.SignKit.{is_plus-true, says, self-diff}
use Rattle.osm_lattice.specs.declared.seg.Seg.{Seg}
use Rattle.osm_lattice.specs.Seg.{edge_of, seg_cmp}
use Rattle.lists.specs.Rising.{IsRising}
use Rattle.osm_sides.specs.SideTests.{level}
use Rattle.osm_sides.specs.Sweep.{EndsNeverFall, begins_by, ends_above}
use Rattle.osm_sides.proofs.SegmentTests.{level_is, lt_by}

lt-plus : (x y : ℤ) → lt_z x y ≡ is_plus (sign (y -ℤ x))
lt-plus x y = lt_by x y (sign (y -ℤ x)) (says (y -ℤ x))

-- ---- what spans a height
pub span-is : (p : Vector) (t : Seg) → is_in_span p (edge_of t) ≡ (begins_by p.y t && ends_above p.y t)
span-is p t = ap (λ b. not b && is_plus (sign (t.b.y -ℤ p.y))) (sym (lt-plus p.y t.a.y)) ∙ ap (λ b. not (lt_z p.y t.a.y) && b) (sym (lt-plus p.y t.b.y))

pub spans : (p : Vector) (t : Seg) → begins_by p.y t ≡ true → ends_above p.y t ≡ true → is_in_span p (edge_of t) ≡ true
spans p t low high = span-is p t ∙ and_from (begins_by p.y t) (ends_above p.y t) low high

pub span-begins : (p : Vector) (t : Seg) → is_in_span p (edge_of t) ≡ true → begins_by p.y t ≡ true
span-begins p t h = and-left (begins_by p.y t) (ends_above p.y t) (sym (span-is p t) ∙ h)

pub span-ends : (p : Vector) (t : Seg) → is_in_span p (edge_of t) ≡ true → ends_above p.y t ≡ true
span-ends p t h = and-right (begins_by p.y t) (ends_above p.y t) (sym (span-is p t) ∙ h)

pub ended-away : (p : Vector) (t : Seg) → ends_above p.y t ≡ false → is_in_span p (edge_of t) ≡ false
ended-away p t h = span-is p t ∙ and_right (begins_by p.y t) (ends_above p.y t) h

pub later-away : (p : Vector) (t : Seg) → begins_by p.y t ≡ false → is_in_span p (edge_of t) ≡ false
later-away p t h = span-is p t ∙ ap (λ b. b && ends_above p.y t) h

slopes : (y a b : ℤ) → not (lt_z y a) ≡ true → lt_z y b ≡ true → not (lt_z a b) ≡ false
slopes y a b h k = grind (arith, ints)

pub span-slopes : (p : Vector) (t : Seg) → is_in_span p (edge_of t) ≡ true → level t ≡ false
span-slopes p t h = sym (level_is t) ∙ slopes p.y t.a.y t.b.y (span-begins p t h) (span-ends p t h)

pub sloping-high : (s : Seg) (y : ℤ) → s.a.y ≡ y → level s ≡ false → ends_above y s ≡ true
sloping-high s y e h = subst (λ z. lt_z z s.b.y ≡ true) e (not-false-out (lt_z s.a.y s.b.y) (level_is s ∙ h))

pub level-sign : (y z : ℤ) → z ≡ y → sign (z -ℤ y) ≡ Null
level-sign y z e = subst (λ w. sign (w -ℤ y) ≡ Null) (sym e) (self-diff y)

pub high-sign : (y : ℤ) (t : Seg) → ends_above y t ≡ true → sign (t.b.y -ℤ y) ≡ Plus
high-sign y t h = is_plus-true (sign (t.b.y -ℤ y)) (sym (lt-plus y t.b.y) ∙ h)

pub begins-level : (y z : ℤ) → z ≡ y → not (lt_z y z) ≡ true
begins-level y z e = grind (arith, ints)

-- ---- two heights
pub begins-later : (y z a : ℤ) → lt_z y z ≡ true → not (lt_z y a) ≡ true → not (lt_z z a) ≡ true
begins-later y z a h k = grind (arith, ints)

pub ends-sooner : (y z b : ℤ) → lt_z y z ≡ true → lt_z z b ≡ true → lt_z y b ≡ true
ends-sooner y z b h k = grind (arith, ints)

-- what has ended at one height has ended at a greater one, and at one that is no lower
pub ended-below : (y z b : ℤ) → lt_z y z ≡ true → lt_z y b ≡ false → lt_z z b ≡ false
ended-below y z b h k = grind (arith, ints)

pub ended-still : (y z b : ℤ) → lt_z z y ≡ false → lt_z y b ≡ false → lt_z z b ≡ false
ended-still y z b h k = grind (arith, ints)

-- ---- lists in order of heights
-- one item more
pub one_more_within : (P : Seg → Type 0) (segs : List Seg) (k : ℕ) → AllWithin P segs 0 k → ((d : Seg) → P (get_or segs k d)) → AllWithin P segs 0 (k + 1)
one_more_within P segs k all next i d h l = ⊎_elim
    (λ (here : i ≡ k). subst (λ j. P (get_or segs j d)) (sym here) (next d))
    (λ (before : i < k). all i d h before)
    (eq-or-lt_of_le (omega arith))

ends-before : (y a b : ℤ) → lt_z b a ≡ false → not (lt_z y b) ≡ true → not (lt_z y a) ≡ true
ends-before y a b h k = grind (arith, ints)

pub ends-parts : (y : ℤ) (ends : List Seg) → EndsNeverFall ends → IsPartitionedBy (λ t. not (ends_above y t)) ends
ends-parts y ends rise i j d h l k = ends-before y (get_or ends i d).b.y (get_or ends j d).b.y (rise i j d h l) k

ends-behind : (y a b : ℤ) → lt_z b a ≡ false → lt_z y a ≡ true → lt_z y b ≡ true
ends-behind y a b h k = grind (arith, ints)

-- those behind one that ends above end above
pub above-from : (y : ℤ) (ends : List Seg) → EndsNeverFall ends → (k : ℕ) → ((d : Seg) → ends_above y (get_or ends k d) ≡ true) → AllWithin (λ t. ends_above y t ≡ true) ends k (length ends)
above-from y ends rise k above j d h l = ends-behind y (get_or ends k d).b.y (get_or ends j d).b.y (rise k j d h l) (above d)

begins-first : (y z : ℤ) (o o' : Ordering) → ordering_then (ordering_then (int_cmp y z) o) o' ≡ Less → y ≤ℤ z
begins-first y z o o' h = grind (arith, ints)

begins-low : (s t : Seg) → seg_cmp s t ≡ Less → s.a.y ≤ℤ t.a.y
begins-low s t h = begins-first s.a.y t.a.y (int_cmp s.a.x t.a.x) (ordering_then (int_cmp s.b.y t.b.y) (int_cmp s.b.x t.b.x)) h

begins-before : (y a b : ℤ) → a ≤ℤ b → not (lt_z y b) ≡ true → not (lt_z y a) ≡ true
begins-before y a b h k = grind (arith, ints)

begins-at : (y a : ℤ) → y ≤ℤ a → not (lt_z y a) ≡ true → a ≡ y
begins-at y a h k = grind (arith, ints)

same-le : (y : ℤ) → y ≤ℤ y
same-le y = grind (arith, ints)

module _ (segs : List Seg) (rising : IsRising seg_cmp segs) where
  low-or-same : (i j : ℕ) (d : Seg) → i ≤ j → j < length segs → (get_or segs i d).a.y ≤ℤ (get_or segs j d).a.y
  low-or-same i j d h l = ⊎_elim
      (λ (here : i ≡ j). subst (λ k. (get_or segs i d).a.y ≤ℤ (get_or segs k d).a.y) here (same-le (get_or segs i d).a.y))
      (λ (before : i < j). begins-low (get_or segs i d) (get_or segs j d) (rising i j d before l))
      (eq-or-lt_of_le h)

  pub begins-parts : (y : ℤ) → IsPartitionedBy (begins_by y) segs
  begins-parts y i j d h l k = begins-before y (get_or segs i d).a.y (get_or segs j d).a.y (low-or-same i j d h l) k

  -- those behind one that begins higher begin higher
  pub later-from : (y : ℤ) (k : ℕ) → k < length segs → ((d : Seg) → begins_by y (get_or segs k d) ≡ false) → AllWithin (λ t. begins_by y t ≡ false) segs k (length segs)
  later-from y k inside later j d h l = by (begins_by y (get_or segs j d)) refl
    where
      by : (b : Bool) → begins_by y (get_or segs j d) ≡ b → begins_by y (get_or segs j d) ≡ false
      by false e = e
      by true e = absurd (let low = begins-parts y k j d h l e in let high = later d in cc (sym high ∙ low))

  module _ (from to : ℕ) (y : ℤ) (inside : from < length segs) (first : (d : Seg) → (get_or segs from d).a.y ≡ y) (begun : AllWithin (λ t. begins_by y t ≡ true) segs 0 to) where
    pub row-level : to ≤ length segs → AllWithin (λ t. t.a.y ≡ y) segs from to
    row-level within k d h l =
        let t = get_or segs k d in
        begins-at y t.a.y (subst (λ z. z ≤ℤ t.a.y) (first d) (low-or-same from k d h (omega arith))) (begun k d (omega arith) l)

-- ---- below all segments
low_number : (z : ℤ) → unsigned_abs z ≤ 900_000_000 → not (lt_z (negsuc 1_000_000_000) z) ≡ false
low_number z h = grind (arith, ints)

pub none-begun : (t : Seg) → begins_by (negsuc 1_000_000_000) t ≡ false
none-begun t = low_number t.a.y t.a.y_in
