-- The orbits of the followers are a ring list.
use Rattle.std.proofs.Common.{Some, length, ◌∙◌, ◌≡◌}
use Rattle.std.proofs.lemmas.List.{length-map}
use Rattle.orbits.specs.Orbits.{total_map}
use Rattle.orbits.proofs.Sums.{all_below, sums_agree}
use Rattle.osm_rings.specs.Pieces.{AreRingsAlong}
use Rattle.osm_rings.proofs.ApartEdges.{numbers, orbits-cut, places-tell}
use Rattle.osm_rings.proofs.RingLists.{if-ok, pieces-are-rings, pieces-inside, successors-of}
use Rattle.osm_rings.proofs.ring_list.whole_walks.Goals as goal

pub walks_of-requires : goal.walks_of-requires
walks_of-requires c =
    let are = successors-of c.args.edges.now c.requires.sided (total_map c.args.next.items) (length-map c.args.next.items Some ∙ c.requires.sized) c.requires.first in
    are.map

pub returns : goal.returns
returns c =
    let es = c.args.edges.now in
    let next = total_map c.args.next.items in
    let sized : length next ≡ length es = length-map c.args.next.items Some ∙ c.requires.sized in
    let are = successors-of es c.requires.sided next sized c.requires.first in
    if-ok _ (λ v. AreRingsAlong es v.places.items v.sizes.items) c.walks_of.result
    (λ v found.
    let cut = orbits-cut es c.requires.apart next sized found.orbits found.are in
    record {
      walks = found.orbits;
      along = found.along;
      within = pieces-inside es c.requires.sided next are (numbers es c.requires.apart) (places-tell es c.requires.apart) sums_agree all_below found.orbits found.are found.orbits cut;
      rings = pieces-are-rings es c.requires.sided next are (numbers es c.requires.apart) (places-tell es c.requires.apart) sums_agree all_below found.orbits found.are found.orbits cut;
    })
    c.walks_of.ensures
