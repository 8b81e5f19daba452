-- The foe stands behind those that were known.
use Rattle.std.proofs.Common.{Vec, ap, ◌∙◌}
use Rattle.std.specs.BTreeMap.{get}
use Rattle.std.specs.declared.alloc.Global.{Global}
use Rattle.osm_lattice.specs.declared.seg.Seg.{Seg}
use Rattle.osm_lattice.specs.Seg.{seg_cmp}
use Rattle.coast_sides.specs.ChoiceSteps.{segments_in}
use Rattle.coast_sides.proofs.KnownFoes.{foe_added, items_unwrapped}
use Rattle.coast_sides.proofs.foes.add_foe.Goals as goal

pub returns : goal.returns
returns c =
    foe_added c.orders_are_exact.ensures.segments c.args.seg c.args.foe (get seg_cmp c.args.foes.now) (get seg_cmp c.remove.new.self) (get seg_cmp c.insert.new.self) c.unwrap_or-known.result c.push.new.self
    (ap (λ (v : Vec Seg Global). v.items) c.unwrap_or-known.ensures ∙ (items_unwrapped c.remove.result c.new.result c.new.ensures.items ∙ ap segments_in c.remove.ensures.value))
    c.in_ok-push.ensures.items c.remove.ensures.updates.0 c.in_ok-insert.ensures.updates.0
