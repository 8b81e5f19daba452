-- Which of two edges comes first as the anchor of a ring, and places round a ring. No public contract cites this.
use Rattle.std.specs.Prelude.{Bool, false, not, true, ℕ, ◌&&◌, ◌||◌, ◌+◌, ◌<◌, ◌≡◌}
use Rattle.std.specs.declared.cmp.Ordering.{Ordering}
use Rattle.std.specs.declared.cmp.Ordering.TheVariants.{Equal, Greater, Less}
use Rattle.std.specs.Ordering.{is_lt}
use Rattle.osm_geom.specs.declared.edge.Edge.{Edge}
use Rattle.osm_geom.specs.JustAbove.{just_above_cmp}
use Rattle.osm_geom.specs.Point.{point_cmp}
use Rattle.osm_geom.specs.Span.{lower_end, spans}

-- f runs to the left of e, if both have one lower end; a horizontal edge runs to the right of all others
unfoldable pub forks_left : Edge → Edge → Bool
forks_left e f = spans f (lower_end e) && (not (spans e (lower_end e)) || is_lt (just_above_cmp f e (lower_end e)))

-- by the order of the lower ends, and whether the second runs to the left of the first
abbrev pub first_of : Ordering → Bool → Bool
first_of Less left = true
first_of Equal left = not left
first_of Greater left = false

-- the lower end of e is lesser than that of f, or the same and f doesn't run to the left of e
unfoldable pub comes_first : Edge → Edge → Bool
comes_first e f = first_of (point_cmp (lower_end e) (lower_end f)) (forks_left e f)

-- the place before another one, going round a list
pub record IsPlaceBefore (size place before : ℕ) : Type 0 where
  pub inside : before < size
  pub first : place ≡ 0 → before + 1 ≡ size
  pub later : 0 < place → before + 1 ≡ place
