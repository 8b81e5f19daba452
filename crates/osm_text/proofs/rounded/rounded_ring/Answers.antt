-- What the chain gives is added to an empty list.
use Rattle.std.proofs.Common.{rules, tests, ◌∙◌, ◌++◌, Ok, ℕ, ap, subst, sym}
use Rattle.std.specs.List.{filter_map}
use Rattle.std.proofs.lemmas.Iterator.{YieldsList-from_slice}
use Rattle.std.proofs.lemmas.Iterator.Adapters.{items_from_extend}
use Rattle.std.proofs.lemmas.Iterator.Consumers.{YieldsList-from_filter_map}
use Rattle.osm_rings.specs.Ring.{IsRing}
use Rattle.osm_text.specs.Rounded.{rounded_ring}
use Rattle.osm_text.specs.RoundedSteps.{location_left}
use Rattle.osm_text.proofs.RingRounding.{rounded_ring_is}
use Rattle.osm_text.proofs.rounded.rounded_ring.Goals as goal

pub returns : goal.returns
returns c =
    let edges = c.as_slice-edges.result.now in
    let added = items_from_extend {E = ℕ} (Ok tt) c.in_ok-extend.ensures.ran
    (YieldsList-from_filter_map _ location_left (YieldsList-from_slice edges cc) c.filter_map.ensures.closure (λ x r q k. search (rules, tests))) in
    added.0 ∙ ap (λ front. front ++ filter_map location_left edges) c.in_ok-left.ensures.items
    ∙ rounded_ring_is edges (subst IsRing (sym c.as_slice-edges.ensures.edges) c.as_slice-edges.ensures.ring) ∙ ap rounded_ring c.as_slice-edges.ensures.edges
