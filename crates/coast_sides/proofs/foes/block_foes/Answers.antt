-- What was known of the segment is taken out.
use Rattle.std.proofs.Common.{ap, ◌∙◌}
use Rattle.std.proofs.lemmas.Result.{on_ok_weaker}
use Rattle.std.specs.BTreeMap.{get}
use Rattle.osm_lattice.specs.Seg.{seg_cmp}
use Rattle.coast_sides.specs.ChoiceSteps.{is_same_segment}
use Rattle.coast_sides.proofs.KnownFoes.{foes_out, known_in}
use Rattle.coast_sides.proofs.foes.block_foes.Goals as goal

pub returns-in-Some-clause-left : goal.returns-in-Some-clause-left
returns-in-Some-clause-left c = on_ok_weaker c.add_all.result
    (λ told s t. ap (λ o. known_in o t) (c.remove.ensures.updates.0 s) ∙ foes_out (get seg_cmp c.args.foes.now s) (is_same_segment c.args.seg.now s) t)
    c.add_all.ensures

pub returns-in-None-clause-left : goal.returns-in-None-clause-left
returns-in-None-clause-left c = λ s t.
    ap (λ o. known_in o t) (c.remove.ensures.updates.0 s) ∙ foes_out (get seg_cmp c.args.foes.now s) (is_same_segment c.args.seg.now s) t
