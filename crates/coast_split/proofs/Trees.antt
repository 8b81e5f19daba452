-- A list has a split tree: the halves of a list that is cut are smaller, and each has one.
use Rattle.std.proofs.Common.{Bool, List, arith, false, refl, suc, true, unsigned_abs, zero, ℕ, ◌<◌, ◌≡◌}
use Rattle.osm_geom.specs.declared.cut.Side.TheVariants.{Low, High}
use Rattle.osm_geom.specs.declared.edge.Edge.{Edge}
use Rattle.coast_split.specs.HalfLaws.{HalvesExist}
use Rattle.coast_split.specs.SplitTree.{IsTree, Tree, high_cut, is_split, low_cut, middle_of, size_of}
use Rattle.coast_split.specs.SplitTree.Tree.{Fork, Whole}
use Rattle.coast_split.proofs.Splitting.{high-falls, low-falls}

module _ (halves : HalvesExist) (m o : ℕ) where
  abbrev HasTree : List Edge → Type 0
  HasTree es = (t : Tree) × IsTree m o es t

  abbrev IsSmaller : List Edge → List Edge → Type 0
  IsSmaller es hs = unsigned_abs (size_of hs) < unsigned_abs (size_of es)

  tree-by : (es : List Edge) (b : Bool) → is_split m o es ≡ b → ((hs : List Edge) → IsSmaller es hs → HasTree hs) → HasTree es
  tree-by es false h grow = (Whole, h)
  tree-by es true h grow =
      let low = halves (low_cut (middle_of es) o) Low es in let high = halves (high_cut (middle_of es) o) High es in
      let s = grow low.0 (low-falls m o es h low.0 low.1) in
      let t = grow high.0 (high-falls m o es h high.0 high.1) in
      (Fork low.0 high.0 s.0 t.0, (h, low.1, high.1, s.1, t.1))

  below : (n a b : ℕ) → b < suc n → a < b → a < n
  below n a b h k = omega arith

  tree-below : (n : ℕ) (es : List Edge) → unsigned_abs (size_of es) < n → HasTree es
  tree-below zero es h = absurd (omega (arith, h))
  tree-below (suc n) es h =
      tree-by es (is_split m o es) refl (λ hs k. tree-below n hs (below n (unsigned_abs (size_of hs)) (unsigned_abs (size_of es)) h k))

  pub tree-of : (es : List Edge) → (t : Tree) × IsTree m o es t
  tree-of es = tree-below (suc (unsigned_abs (size_of es))) es (omega arith)
