-- The halves of a list that is cut are smaller, as numbers.
use Rattle.std.proofs.Common.{Bool, List, ap, arith, sym, true, unsigned_abs, ℕ, ℤ, pos, ◌<◌, ◌∙◌, ◌≡◌, ◌≤ℤ◌, ◌<ℤ◌}
use Rattle.std.proofs.lemmas.Int.{ints}
use Rattle.osm_geom.specs.declared.cut.Axis.TheVariants.{X, Y}
use Rattle.osm_geom.specs.declared.cut.Side.TheVariants.{Low, High}
use Rattle.osm_geom.specs.declared.edge.Edge.{Edge}
use Rattle.coast_split.specs.Half.{IsHalf}
use Rattle.coast_split.specs.SplitTree.{high_cut, is_split, low_cut, middle_of, size_of}
use Rattle.coast_split.proofs.Sizes.{high-shrinks, low-shrinks, width-some}

abs-less : (a b : ℤ) → pos 0 ≤ℤ a → a <ℤ b → unsigned_abs a < unsigned_abs b
abs-less a b h g = omega (arith, ints)

size-some : (es : List Edge) → pos 0 ≤ℤ size_of es
size-some es = let x = width-some X es in let y = width-some Y es in omega (arith, ints)

module _ (m o : ℕ) (es : List Edge) (c : is_split m o es ≡ true) where
  pub low-falls : (low : List Edge) → IsHalf (low_cut (middle_of es) o) Low es low → unsigned_abs (size_of low) < unsigned_abs (size_of es)
  low-falls low h = abs-less (size_of low) (size_of es) (size-some low) (low-shrinks m o es c low h)

  pub high-falls : (high : List Edge) → IsHalf (high_cut (middle_of es) o) High es high → unsigned_abs (size_of high) < unsigned_abs (size_of es)
  high-falls high h = abs-less (size_of high) (size_of es) (size-some high) (high-shrinks m o es c high h)

pub split-is : (m o : ℕ) (v : Bool) (es ws : List Edge) → is_split m o ws ≡ v → ws ≡ es → is_split m o es ≡ v
split-is m o v es ws e w = ap (is_split m o) (sym w) ∙ e
