-- The leaves that are still to come, and what handing out the next one means.
use Rattle.std.specs.Prelude.{List, [], ℕ, ◌++◌, ◌∷◌, ◌≡◌}
use Rattle.osm_geom.specs.declared.edge.Edge.{Edge}
use Rattle.coast_split.specs.declared.leaves.Leaf.{Leaf}
use Rattle.coast_split.specs.SplitTree.{AreLeaves}

-- the leaves still to come from waiting lists, the next list first
abbrev pub AreLeft : ℕ → ℕ → List (List Edge) → List Leaf → Type 0
AreLeft m o [] ls = ls ≡ []
AreLeft m o (es ∷ rest) ls = (first : List Leaf) × (later : List Leaf) × AreLeaves m o es first × AreLeft m o rest later × (ls ≡ first ++ later)

-- leaf is the next of them: the leaves to come before are leaf and the leaves to come after
pub record IsNextLeaf (m o : ℕ) (before : List (List Edge)) (leaf : Leaf) (after : List (List Edge)) : Type 0 where
  pub parts : (ls : List Leaf) → AreLeft m o before ls → (later : List Leaf) × AreLeft m o after later × (ls ≡ leaf ∷ later)
  pub joins : (later : List Leaf) → AreLeft m o after later → AreLeft m o before (leaf ∷ later)
