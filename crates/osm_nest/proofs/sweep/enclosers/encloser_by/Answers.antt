-- By the neighbour's ring.
use Rattle.std.proofs.Common.{None, Option, Some, get_or, refl, ◌≡◌, ℕ}
use Rattle.std.specs.Prelude.{IfSome}
use Rattle.osm_nest.specs.Enclosers.{IsDirectEncloser}
use Rattle.osm_nest.proofs.AnchorLists.{outer-at}
use Rattle.osm_nest.proofs.sweep.enclosers.encloser_by.Goals as goal

pub returns-then-index : goal.returns-then-index
returns-then-index c =
    let t = c.requires.tells in
    let told = outer-at c.args.rings.now c.args.anchors.now c.requires.anchors c.args.left.now.ring c.index.result.now t.inside c.index.ensures in
    t.outer (told.0.0 c.if-index.true)

pub returns : goal.returns
returns c = by (get_or c.args.known.now c.args.left.now.ring None) refl
  where
    by : (o : Option ℕ) → get_or c.args.known.now c.args.left.now.ring None ≡ o → IfSome o (λ encloser. IsDirectEncloser c.args.rings.now c.args.anchor.now.ring (Some encloser))
    by (Some encloser) e = c.requires.tells.inner encloser (c.requires.known.right c.args.left.now.ring encloser c.requires.tells.inside e)
    by None e = tt
