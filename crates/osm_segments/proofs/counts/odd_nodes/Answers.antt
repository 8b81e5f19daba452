use Rattle.std.proofs.Common.{◌%◌, ap, ◌∙◌}
use Rattle.osm_lattice.specs.Loc.{loc_cmp}
use Rattle.lists.specs.Rising.{count_of}
use Rattle.osm_segments.proofs.CountLemmas.{IfOk-both, ends-counted}
use Rattle.osm_segments.proofs.counts.odd_nodes.Goals as goal

pub returns : goal.returns
returns c = IfOk-both c.odd_items_of.result _ _ _ (λ v odd rising. record { odd = λ p. odd p ∙ ap (λ n. n % 2) (ap (count_of loc_cmp p) c.in_ok-ends.ensures ∙ ends-counted p c.args.segs.now); rising = rising }) c.odd_items_of.ensures.odd c.odd_items_of.ensures.rising
