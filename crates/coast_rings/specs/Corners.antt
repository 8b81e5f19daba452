-- The lower corners of the world.
use Rattle.std.specs.Prelude.{neg_ℤ, pos}
use Rattle.std.proofs.Common.{lit≤}
use Rattle.osm_lattice.specs.declared.loc.Loc.{Loc}

abbrev pub south_west : Loc
south_west = record { x = neg_ℤ (pos 1800000000); y = neg_ℤ (pos 900000000); x_in = lit≤ tt; y_in = lit≤ tt }

abbrev pub south_east : Loc
south_east = record { x = pos 1800000000; y = neg_ℤ (pos 900000000); x_in = lit≤ tt; y_in = lit≤ tt }
