-- The order of edges just above a height, as statements.
use Rattle.std.specs.Prelude.{false, true, ◌≡◌}
use Rattle.plane.specs.Conflict.{IsClearOf}
use Rattle.plane.specs.Edge.{Edge}
use Rattle.plane.specs.Height.{is_in_span, is_right_above, order_above}
use Rattle.plane.specs.Vector.{Vector}

-- no edge that spans a height is right of itself
abbrev pub NoEdgeIsRightOfItself : Type 0
NoEdgeIsRightOfItself = (p : Vector) (e : Edge) → is_right_above p e e ≡ false

abbrev pub RightAboveIsTransitive : Type 0
RightAboveIsTransitive =
    (p : Vector) (e f g : Edge) → is_in_span p e ≡ true → is_right_above p e f ≡ true →
    is_right_above p f g ≡ true → is_right_above p e g ≡ true

-- two edges without conflict that both span two heights have the same order just above both
abbrev pub OrderAbovePersists : Type 0
OrderAbovePersists =
    (p q : Vector) (e f : Edge) → IsClearOf e f → is_in_span p e ≡ true → is_in_span p f ≡ true →
    is_in_span q e ≡ true → is_in_span q f ≡ true → order_above p e f ≡ order_above q e f
