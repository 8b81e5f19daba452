-- The ring is begun at its least node.
use Rattle.std.proofs.Common.{◌≡◌, ◌∙◌, ◌<◌, Some, List, length, get_or, ap, arith}
use Rattle.osm_geom.specs.declared.edge.Edge.{Edge}
use Rattle.lists.proofs.ListsKit.{same_get}
use Rattle.osm_text.proofs.LeastNodes.{least_begun}
use Rattle.osm_text.proofs.rounded.least_near.Goals as goal

pub returns : goal.returns
returns c =
    let begun = c.in_ok-begun.begun in
    let d = c.index-as_slice-0.result in
    let m = get_or c.as_slice.result.now 0 d in
    let long = c.as_slice.ensures.ring.long in
    let some : 0 < length begun = omega arith in
    let first : m ≡ get_or begun 0 m = ap (λ (es : List Edge). get_or es 0 d) c.as_slice.ensures.edges ∙ same_get begun 0 d m some in
    ap Some (c.location_near.ensures m.from_in) ∙ least_begun c.args.ring.now begun m c.in_ok-begun.ensures.turned c.in_ok-begun.ensures.least some first
