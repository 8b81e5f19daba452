-- What is cut off the walks is a ring list.
use Rattle.std.proofs.Common.{Some, length, sym, ◌∙◌}
use Rattle.std.proofs.lemmas.List.{length-map}
use Rattle.orbits.specs.Orbits.{total_map}
use Rattle.orbits.proofs.Sums.{all_below, sums_agree}
use Rattle.osm_rings.specs.Pieces.{AreCutAlong, AreRingsAlong}
use Rattle.osm_rings.proofs.RingLists.{if-ok, pieces-are-rings, pieces-inside, successors-of}
use Rattle.osm_rings.proofs.Multiplied.{tell-plane}
use Rattle.osm_rings.proofs.PieceSteps.{walks-below}
use Rattle.osm_rings.proofs.ring_list.cut_walks.Goals as goal

pub walks_of-requires : goal.walks_of-requires
walks_of-requires c =
    let are = successors-of c.args.edges.now c.requires.sided (total_map c.args.next.items) (length-map c.args.next.items Some ∙ c.requires.sized) c.requires.first in
    are.map

pub pieces-requires-clause-walks : goal.pieces-requires-clause-walks
pieces-requires-clause-walks c = (c.in_ok-walks.ensures.orbits, walks-below c.args.next.items _ _ _ _ _ (c.requires.sized ∙ sym c.in_ok-nodes.ensures.sized) c.deref.ensures.value c.deref-2.ensures.value c.in_ok-walks.ensures)

pub returns : goal.returns
returns c =
    let es = c.args.edges.now in
    let next = total_map c.args.next.items in
    let are = successors-of es c.requires.sided next (length-map c.args.next.items Some ∙ c.requires.sized) c.requires.first in
    let found = c.in_ok-walks.ensures in
    let os = found.orbits in
    let numbers = c.in_ok-nodes.nodes.numbers.items in
    let tell = tell-plane es numbers c.in_ok-nodes.ensures.tell in
    if-ok _ (λ v. AreRingsAlong es v.places.items v.sizes.items) c.pieces.result
    (λ v cut-along.
    let cut : AreCutAlong numbers os v.places.items v.sizes.items = cut-along os (walks-below c.args.next.items _ _ _ _ _ (c.requires.sized ∙ sym c.in_ok-nodes.ensures.sized) c.deref.ensures.value c.deref-2.ensures.value found) in
    record {
      walks = cut.pieces;
      along = cut.along;
      within = pieces-inside es c.requires.sided next are numbers tell sums_agree all_below os found.are cut.pieces cut.cut;
      rings = pieces-are-rings es c.requires.sided next are numbers tell sums_agree all_below os found.are cut.pieces cut.cut;
    })
    c.pieces.ensures
