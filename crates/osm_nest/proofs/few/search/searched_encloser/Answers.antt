-- The nearest of the enclosers beside the anchor of an inner ring.
use Rattle.std.proofs.Common.{[], get_or, length, subst, sym}
use Rattle.std.proofs.lemmas.List.{get_or_default}
use Rattle.osm_nest.specs.Beside.{IsBestUpTo}
use Rattle.osm_nest.specs.Enclosers.{TellOuter}
use Rattle.osm_nest.proofs.AnchorLists.{anchor-at, outer-at}
use Rattle.osm_nest.proofs.DirectEnclosers.{direct-encloser-of, encloser-there, outer-encloser, sloping}
use Rattle.osm_nest.proofs.few.search.searched_encloser.Goals as goal

pub returns-then-index : goal.returns-then-index
returns-then-index c =
    let k = c.args.place in let inside = c.requires.inside in
    let told = outer-at c.args.rings.now c.args.anchors.now c.requires.anchors k c.index.result.now inside c.index.ensures in
    outer-encloser c.args.rings.now c.requires.rings k inside (told.0.0 c.if-index.true)

pub nearest_encloser-requires-clause-outer : goal.nearest_encloser-requires-clause-outer
nearest_encloser-requires-clause-outer c = subst (TellOuter c.args.rings.now) (sym c.deref.ensures.value) c.requires.anchors.outer

pub nearest_encloser-requires-clause-anchor : goal.nearest_encloser-requires-clause-anchor
nearest_encloser-requires-clause-anchor c =
    let k = c.args.place in let inside = c.requires.inside in let a = c.index-2.result.now in
    sloping c.args.rings.now c.requires.rings k inside a.edge.now (anchor-at c.args.rings.now c.args.anchors.now c.requires.anchors k a inside c.index-2.ensures).anchor

pub returns-in-Some : goal.returns-in-Some
returns-in-Some c =
    let rs = c.args.rings.now in let k = c.args.place in let inside = c.requires.inside in let a = c.index-2.result.now in
    let told = outer-at rs c.args.anchors.now c.requires.anchors k c.index.result.now inside c.index.ensures in
    direct-encloser-of rs c.requires.rings k (get_or rs k []) inside (get_or_default rs k [] (get_or rs k []) inside) a.edge.now (anchor-at rs c.args.anchors.now c.requires.anchors k a inside c.index-2.ensures).anchor c.in-Some.found
    (told.1.0 c.if-index.false)
    (subst (λ o. IsBestUpTo rs a.edge.now (length rs) o) c.in-Some.is c.nearest_encloser.ensures)

pub returns-in-None : goal.returns-in-None
returns-in-None c =
    let rs = c.args.rings.now in let k = c.args.place in let inside = c.requires.inside in let a = c.index-2.result.now in
    let told = outer-at rs c.args.anchors.now c.requires.anchors k c.index.result.now inside c.index.ensures in
    absurd (encloser-there rs c.requires.rings k (get_or rs k []) inside (get_or_default rs k [] (get_or rs k []) inside) a.edge.now (anchor-at rs c.args.anchors.now c.requires.anchors k a inside c.index-2.ensures).anchor
    (told.1.0 c.if-index.false)
    (subst (λ o. IsBestUpTo rs a.edge.now (length rs) o) c.in-None.is c.nearest_encloser.ensures))
