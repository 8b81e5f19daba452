-- Words of private clauses on the steps of splitting. No public contract cites them.
use Rattle.std.specs.Prelude.{List, None, Option, Some, length, false, true, unsigned_abs, ℕ, ◌<◌, ◌↔◌, ◌≤◌, ◌∷◌, ◌≡◌}
use Rattle.osm_geom.specs.declared.cut.Cut.{Cut}
use Rattle.osm_geom.specs.declared.edge.Edge.{Edge}
use Rattle.osm_geom.specs.InPlane.Sided.{IsSided}
use Rattle.coast_split.specs.LeavesLeft.{AreLeft}
use Rattle.coast_split.specs.declared.leaves.Leaf.{Leaf}
use Rattle.coast_split.specs.SplitTree.{is_split, middle_of, size_of}

-- where the list is cut, if it is
abbrev pub IsMiddle : ℕ → ℕ → List Edge → Option Cut → Type 0
IsMiddle m o es None = is_split m o es ≡ false
IsMiddle m o es (Some middle) = (is_split m o es ≡ true) × (middle ≡ middle_of es) × (unsigned_abs middle.at ≤ 1_800_000_000)

-- both have the same leaves still to come
abbrev pub HaveSameLeaves : ℕ → ℕ → List (List Edge) → List (List Edge) → Type 0
HaveSameLeaves m o before after = (ls : List Leaf) → AreLeft m o before ls ↔ AreLeft m o after ls

-- low is what is left of es, before the lists that wait after the cut, and is smaller
pub record IsCutOff (m o : ℕ) (es : List Edge) (before : List (List Edge)) (low : List Edge) (after : List (List Edge)) : Type 0 where
  pub sided : IsSided low
  pub smaller : unsigned_abs (size_of low) < unsigned_abs (size_of es)
  pub same : HaveSameLeaves m o (es ∷ before) (low ∷ after)

-- more leaves than `most` are to come
pub record HaveMoreLeft (m o most : ℕ) (lists : List (List Edge)) : Type 0 where
  pub leaves : List Leaf
  pub are_left : AreLeft m o lists leaves
  pub more : most < length leaves
