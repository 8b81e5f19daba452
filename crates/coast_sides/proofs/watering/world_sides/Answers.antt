-- The four sides, one after the other.
use Rattle.std.proofs.Common.{◌≡◌, ◌++◌, [], List, ap, ◌∙◌}
use Rattle.std.proofs.lemmas.List.{append_assoc}
use Rattle.osm_lattice.specs.declared.loc.Loc.{Loc}
use Rattle.osm_lattice.specs.declared.seg.Seg.{Seg}
use Rattle.coast_sides.specs.Water.{pieces}
use Rattle.coast_sides.proofs.watering.world_sides.Goals as goal

more : (nodes lent : List Loc) (head old new : List Seg) → lent ≡ nodes → old ≡ head → new ≡ old ++ pieces lent → new ≡ head ++ pieces nodes
more nodes lent head old new e d is = is ∙ (ap (λ (ss : List Seg). ss ++ pieces lent) d ∙ ap (λ (ns : List Loc). head ++ pieces ns) e)

four : (s e n w all : List Seg) → all ≡ ((s ++ e) ++ n) ++ w → all ≡ s ++ (e ++ (n ++ w))
four s e n w all is = is ∙ (append_assoc (s ++ e) n w ∙ append_assoc s e (n ++ w))

pub returns : goal.returns
returns c =
    let s = c.in_ok-south.south.items in
    let e = c.in_ok-east.east.items in
    let n = c.in_ok-north.north.items in
    let w = c.in_ok-west.west.items in
    let one = more s c.deref.result.now [] c.new-sides.result.items c.add_pieces.new.segs.items c.deref.ensures.value c.new-sides.ensures.items c.in_ok-add_pieces.ensures in
    let two = more e c.deref-2.result.now (pieces s) c.add_pieces.new.segs.items c.add_pieces-2.new.segs.items c.deref-2.ensures.value one c.in_ok-add_pieces-2.ensures in
    let three = more n c.deref-3.result.now (pieces s ++ pieces e) c.add_pieces-2.new.segs.items c.add_pieces-3.new.segs.items c.deref-3.ensures.value two c.in_ok-add_pieces-3.ensures in
    let all = more w c.deref-4.result.now ((pieces s ++ pieces e) ++ pieces n) c.add_pieces-3.new.segs.items c.add_pieces-4.new.segs.items c.deref-4.ensures.value three c.in_ok-add_pieces-4.ensures in
    record {
      on_south = c.in_ok-south.south.items;
      south = c.in_ok-south.ensures;
      on_east = c.in_ok-east.east.items;
      east = c.in_ok-east.ensures;
      on_north = c.in_ok-north.north.items;
      north = c.in_ok-north.ensures;
      on_west = c.in_ok-west.west.items;
      west = c.in_ok-west.ensures;
      whole = four (pieces s) (pieces e) (pieces n) (pieces w) c.add_pieces-4.new.segs.items all;
    }
