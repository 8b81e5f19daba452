use Rattle.std.proofs.Common.{arith, false, get_or, length, subst, sym, ◌<◌, ◌∙◌, ◌≡◌}
use Rattle.std.proofs.lemmas.List.{get_or_default}
use Rattle.plane.specs.Order.{order}
use Rattle.plane.specs.Sign.{is_plus}
use Rattle.osm_lattice.specs.Loc.{vector_of}
use Rattle.osm_lattice.specs.declared.seg.Seg.{Seg}
use Rattle.lists.proofs.ListsKit.{not-true-out}
use Rattle.osm_segments.proofs.Sweeps.{after-chain, not-after}
use Rattle.osm_segments.proofs.TriedPairs.{tried_above, tried_below}
use Rattle.osm_segments.proofs.sweep.trying.is_beside.Goals as goal

pub returns-then-not-is_before : goal.returns-then-not-is_before
returns-then-not-is_before c _ told j a l =
    let segs = c.args.segs.now in let latest = c.args.latest in let s = c.index-segs-place.result in let t = get_or segs j s in
    let inside : j < length segs = (let h = c.requires.within in omega (arith, h, l)) in
    tried_above segs told c.args.i j s t (omega arith) inside (sym c.index-segs-place.is) (get_or_default segs j t s inside)
    (after-chain t.b latest s.a (c.requires.latest j s a l) (not-after s.a latest (subst (λ (u : Seg). is_plus (order (vector_of u.a) (vector_of latest)) ≡ false) (sym c.index-segs-place.is) (sym c.is_before.ensures ∙ c.if-not-is_before.true))))

pub returns : goal.returns
returns c beside told j a l =
    let segs = c.args.segs.now in let s = c.index-segs-place-2.result in let t = get_or segs j s in
    let inside : j < length segs = (let h = c.requires.within in omega (arith, h, l)) in
    tried_below segs told c.args.i j s t (omega arith) inside (sym c.index-segs-place-2.is) (get_or_default segs j t s inside)
    (c.next_enters.ensures.leaves (not-true-out c.next_enters.result beside) j s a inside)
