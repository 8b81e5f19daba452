-- Ranks of points: whole numbers in their order, as far as these tell it. No public contract cites this.
use Rattle.std.specs.Prelude.{ℤ, pos, ◌*ℤ◌, ◌+ℤ◌}
use Rattle.osm_geom.specs.declared.point.Point.{Point}
use Rattle.osm_geom.specs.declared.point.Point.TheVariants.{Lattice, OnVertical, OnHorizontal}

-- of a whole x, or one rounded down, and of such a y
abbrev pub rank_at : ℤ → ℤ → ℤ
rank_at x y = y *ℤ pos 4_294_967_296 +ℤ x

-- Points between two whole heights have one such number, which is greater than those of all points at the lower height.
abbrev pub floor_rank : Point → ℤ
floor_rank (Lattice p) = rank_at p.x p.y
floor_rank (OnVertical c y) = rank_at (pos 2_147_483_647) y.floor
floor_rank (OnHorizontal x d) = rank_at x.floor d

-- whether a coordinate was rounded down
abbrev pub above_floor : Point → ℤ
above_floor (Lattice p) = pos 0
above_floor (OnVertical c y) = pos 1
above_floor (OnHorizontal x d) = pos 1

-- An even rank is that of one location.
abbrev pub point_rank : Point → ℤ
point_rank p = pos 2 *ℤ floor_rank p +ℤ above_floor p
