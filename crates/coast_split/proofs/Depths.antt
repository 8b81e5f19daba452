-- A split tree is shallow: each cut takes the longer side down to at most five eighths and a unit.
use Rattle.std.proofs.Common.{List, [], arith, max, pos, suc, true, unsigned_abs, zero, ℕ, ℤ, ◌*◌, ◌*ℤ◌, ◌+ℤ◌, ◌-ℤ◌, ◌+◌, ◌-◌, ◌/◌, ◌<◌, ◌≤◌, ◌∷◌, ◌≡◌, ◌≤ℤ◌, ◌<ℤ◌}
use Rattle.std.proofs.lemmas.Int.{ints}
use Rattle.std.proofs.Math.Nat.{max-le}
use Rattle.osm_geom.specs.declared.cut.Axis.{Axis}
use Rattle.osm_geom.specs.declared.cut.Axis.TheVariants.{X, Y}
use Rattle.osm_geom.specs.declared.cut.Side.TheVariants.{Low, High}
use Rattle.osm_geom.specs.declared.edge.Edge.{Edge}
use Rattle.osm_lattice.proofs.LatticeKit.{signed}
use Rattle.coast_split.specs.Half.{IsHalf}
use Rattle.coast_split.specs.SplitTree.{IsTree, Tree, depth_of, high_cut, high_of, is_split, longer_of, low_cut, low_of, middle_of, width_of}
use Rattle.coast_split.specs.SplitTree.Tree.{Fork, Whole}
use Rattle.coast_split.specs.TreeLaws.{IsNarrower}
use Rattle.coast_split.proofs.Sizes.{envelope_small, high-narrow, low-narrow, middle-above, middle-below, no-wider, wide}

-- ---- one cut
low-eighths : (lo hi c l h : ℤ) (o : ℕ) → (c *ℤ pos 2) ≤ℤ (lo +ℤ hi) → pos (8 * o) ≤ℤ (hi -ℤ lo) → lo ≤ℤ l → h ≤ℤ (c +ℤ pos o) → (pos 8 *ℤ (h -ℤ l)) ≤ℤ (pos 5 *ℤ (hi -ℤ lo) +ℤ pos 8)
low-eighths lo hi c l h o f a g k = omega (arith, ints)

high-eighths : (lo hi c l h : ℤ) (o : ℕ) → (lo +ℤ hi) <ℤ (c *ℤ pos 2 +ℤ pos 2) → pos (8 * o) ≤ℤ (hi -ℤ lo) → (c -ℤ pos o) ≤ℤ l → h ≤ℤ hi → (pos 8 *ℤ (h -ℤ l)) ≤ℤ (pos 5 *ℤ (hi -ℤ lo) +ℤ pos 8)
high-eighths lo hi c l h o f a g k = omega (arith, ints)

none-left : (w : ℤ) → pos 4 ≤ℤ w → (pos 8 *ℤ pos 0) ≤ℤ (pos 5 *ℤ w +ℤ pos 8)
none-left w h = omega (arith, ints)

module _ (m o : ℕ) (es : List Edge) (split : is_split m o es ≡ true) where
  abbrev A : Axis
  A = longer_of es

  abbrev lo : ℤ
  lo = low_of A es

  abbrev hi : ℤ
  hi = high_of A es

  low-longer : (hs : List Edge) → IsHalf (low_cut (middle_of es) o) Low es hs → (pos 8 *ℤ width_of A hs) ≤ℤ (pos 5 *ℤ width_of A es +ℤ pos 8)
  low-longer [] h = none-left (width_of A es) (wide m o es split).1
  low-longer (e ∷ hs) h =
      let n = low-narrow A ((middle_of es).at +ℤ pos o) es e hs h in
      low-eighths lo hi (middle_of es).at (low_of A (e ∷ hs)) (high_of A (e ∷ hs)) o (middle-below (lo +ℤ hi)) (wide m o es split).0 n.0 n.1

  high-longer : (hs : List Edge) → IsHalf (high_cut (middle_of es) o) High es hs → (pos 8 *ℤ width_of A hs) ≤ℤ (pos 5 *ℤ width_of A es +ℤ pos 8)
  high-longer [] h = none-left (width_of A es) (wide m o es split).1
  high-longer (e ∷ hs) h =
      let n = high-narrow A ((middle_of es).at -ℤ pos o) es e hs h in
      high-eighths lo hi (middle_of es).at (low_of A (e ∷ hs)) (high_of A (e ∷ hs)) o (middle-above (lo +ℤ hi)) (wide m o es split).0 n.0 n.1

  pub low-narrower : (hs : List Edge) → IsHalf (low_cut (middle_of es) o) Low es hs → IsNarrower es hs
  low-narrower hs h = record { each = no-wider (low_cut (middle_of es) o) Low es hs h; longer = low-longer hs h }

  pub high-narrower : (hs : List Edge) → IsHalf (high_cut (middle_of es) o) High es hs → IsNarrower es hs
  high-narrower hs h = record { each = no-wider (high_cut (middle_of es) o) High es hs h; longer = high-longer hs h }

-- ---- how wide a side may be for so many cuts across it
abbrev reach : ℕ → ℕ
reach zero = 3
reach (suc k) = (8 * reach k - 1) / 5

reach-by : (r : ℕ) → 3 ≤ r → 3 ≤ (8 * r - 1) / 5
reach-by r h = omega arith

reach-some : (k : ℕ) → 3 ≤ reach k
reach-some zero = omega arith
reach-some (suc k) = reach-by (reach k) (reach-some k)

within-by : (r : ℕ) (w v : ℤ) → 3 ≤ r → w ≤ℤ pos ((8 * r - 1) / 5) → (pos 8 *ℤ v) ≤ℤ (pos 5 *ℤ w +ℤ pos 8) → v ≤ℤ pos r
within-by r w v h k l = omega (arith, ints)

within : (k : ℕ) (w v : ℤ) → w ≤ℤ pos (reach (suc k)) → (pos 8 *ℤ v) ≤ℤ (pos 5 *ℤ w +ℤ pos 8) → v ≤ℤ pos (reach k)
within k w v h l = within-by (reach k) w v (reach-some k) h l

no-cut : (w : ℤ) → pos 4 ≤ℤ w → w ≤ℤ pos 3 → ⊥
no-cut w h k = omega (arith, ints)

no-longer : (v w : ℤ) (k : ℕ) → v ≤ℤ w → w ≤ℤ pos k → v ≤ℤ pos k
no-longer v w k h g = omega (arith, ints)

-- ---- a tree
-- all trees of hs with sides for i and j cuts have at most so many in a branch
abbrev IsWithin : List Edge → ℕ → Type 0
IsWithin hs d = (i j : ℕ) → width_of X hs ≤ℤ pos (reach i) → width_of Y hs ≤ℤ pos (reach j) → d ≤ i + j

both-below : (a b n : ℕ) → a ≤ n → b ≤ n → suc (max a b) ≤ suc n
both-below a b n h k = let g : max a b ≤ n = max-le h k in omega arith

fork-by : (axis : Axis) (es low high : List Edge) (a b i j : ℕ) → pos 4 ≤ℤ width_of axis es →
    (pos 8 *ℤ width_of axis low) ≤ℤ (pos 5 *ℤ width_of axis es +ℤ pos 8) → (pos 8 *ℤ width_of axis high) ≤ℤ (pos 5 *ℤ width_of axis es +ℤ pos 8) →
    ((d : Axis) → width_of d low ≤ℤ width_of d es) → ((d : Axis) → width_of d high ≤ℤ width_of d es) → IsWithin low a → IsWithin high b →
    width_of X es ≤ℤ pos (reach i) → width_of Y es ≤ℤ pos (reach j) → suc (max a b) ≤ i + j
fork-by X es low high a b zero j w l h n p f g x y = absurd (no-cut (width_of X es) w x)
fork-by X es low high a b (suc i) j w l h n p f g x y =
    let r : suc (max a b) ≤ suc (i + j) = both-below a b (i + j)
    (f i j (within i (width_of X es) (width_of X low) x l) (no-longer (width_of Y low) (width_of Y es) (reach j) (n Y) y))
    (g i j (within i (width_of X es) (width_of X high) x h) (no-longer (width_of Y high) (width_of Y es) (reach j) (p Y) y)) in
    omega arith
fork-by Y es low high a b i zero w l h n p f g x y = absurd (no-cut (width_of Y es) w y)
fork-by Y es low high a b i (suc j) w l h n p f g x y =
    let r : suc (max a b) ≤ suc (i + j) = both-below a b (i + j)
    (f i j (no-longer (width_of X low) (width_of X es) (reach i) (n X) x) (within j (width_of Y es) (width_of Y low) y l))
    (g i j (no-longer (width_of X high) (width_of X es) (reach i) (p X) x) (within j (width_of Y es) (width_of Y high) y h)) in
    omega arith

depth-by : (m o : ℕ) (es : List Edge) (t : Tree) → IsTree m o es t → IsWithin es (depth_of t)
depth-by m o es Whole h i j x y = omega arith
depth-by m o es (Fork low high s t) h i j x y =
    let l = low-narrower m o es h.0 low h.1 in let r = high-narrower m o es h.0 high h.2 in
    fork-by (longer_of es) es low high (depth_of s) (depth_of t) i j (wide m o es h.0).1 l.longer r.longer l.each r.each (depth-by m o low s h.3) (depth-by m o high t h.4) x y

world-by : (l h : ℤ) → unsigned_abs l ≤ 1_800_000_000 → unsigned_abs h ≤ 1_800_000_000 → (h -ℤ l) ≤ℤ pos 3_600_000_000
world-by l h a b = omega (arith, signed)

far : 3_600_000_000 ≤ reach 59
far = omega arith

reach-in : (w : ℤ) (r : ℕ) → w ≤ℤ pos 3_600_000_000 → 3_600_000_000 ≤ r → w ≤ℤ pos r
reach-in w r h k = omega (arith, ints)

in-reach : (axis : Axis) (es : List Edge) → width_of axis es ≤ℤ pos (reach 59)
in-reach axis es =
    let s = envelope_small axis es in let w = world-by (low_of axis es) (high_of axis es) s.0 s.1 in let f = far in
    reach-in (width_of axis es) (reach 59) w f

pub tree-shallow : (m o : ℕ) (es : List Edge) (t : Tree) → IsTree m o es t → depth_of t < 120
tree-shallow m o es t h = let d = depth-by m o es t h 59 59 (in-reach X es) (in-reach Y es) in omega arith
