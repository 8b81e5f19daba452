-- An outline of an area has segments.
use Rattle.std.proofs.Common.{List, Option, subst}
use Rattle.osm_lattice.specs.declared.seg.Seg.{Seg}
use Rattle.osm_area.specs.Sound.{IsOutlineFor}
use Rattle.osm_area.proofs.MadeLemmas.{some_outline}
use Rattle.osm_area.proofs.outcome.made_by.Goals as goal

pub area-requires : goal.area-requires
area-requires c =
    some_outline c.args.store.now c.args.candidate c.in-Some.outline (subst (IsOutlineFor c.args.store.now c.args.candidate) c.in-Some.is c.in_ok-outline.ensures)
