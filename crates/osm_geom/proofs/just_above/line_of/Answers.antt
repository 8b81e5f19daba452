use Rattle.std.proofs.Common.{arith}
use Rattle.std.specs.Int.{w32}
use Rattle.osm_lattice.specs.Bounds.{IsLongitude, IsLatitude}
use Rattle.osm_geom.proofs.EdgeBounds.{vertical_bound, horizontal_bound}
use Rattle.osm_lattice.proofs.LatticeKit.{back}
use Rattle.osm_geom.proofs.just_above.line_of.Goals as goal

pub vertical_line-requires : goal.vertical_line-requires
vertical_line-requires c =
    let bound : IsLongitude c.in-Vertical.c = vertical_bound c.args.e.now c.in-Vertical.c c.in-Vertical.is in
    rw (back w32 c.in-Vertical.c (omega (arith, bound))) bound

pub horizontal_line-requires : goal.horizontal_line-requires
horizontal_line-requires c =
    let bound : IsLatitude c.in-Horizontal.d = horizontal_bound c.args.e.now c.in-Horizontal.d c.in-Horizontal.is in
    rw (back w32 c.in-Horizontal.d (omega (arith, bound))) bound
