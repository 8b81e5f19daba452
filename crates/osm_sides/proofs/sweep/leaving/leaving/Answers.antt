use Rattle.std.proofs.Common.{not, rules}
use Rattle.std.proofs.lemmas.Fn.{filter_same}
use Rattle.osm_sides.specs.SideTests.{level}
use Rattle.osm_sides.proofs.Ends.{are_ends}
use Rattle.osm_sides.proofs.sweep.leaving.leaving.Goals as goal

pub returns : goal.returns
returns c segs sorted =
    are_ends segs c.args.ends.items c.retain.new.self.items
    (filter_same _ (λ t. not (level t)) _ (λ x b f' k. search rules) _ _ c.retain.ensures.filtered)
    sorted
