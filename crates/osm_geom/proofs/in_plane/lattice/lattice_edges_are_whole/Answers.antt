use Rattle.std.proofs.Common.{subst, sym}
use Rattle.plane_lists.specs.Lists.Sided as winding
use Rattle.osm_geom.proofs.InPlane.Multiples.{lattice_whole}
use Rattle.osm_geom.proofs.in_plane.lattice.lattice_edges_are_whole.Goals as goal

pub returns-clause-edges : goal.returns-clause-edges
returns-clause-edges c = lattice_whole

pub returns-clause-sided : goal.returns-clause-sided
returns-clause-sided c = λ es h. (subst winding.IsSided (lattice_whole es h), subst winding.IsSided (sym (lattice_whole es h)))
