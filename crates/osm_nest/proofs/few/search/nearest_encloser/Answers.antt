-- The better of the best candidate so far and the next one.
use Rattle.std.proofs.Common.{length, sym, subst, ◌+◌, ◌≡◌, arith}
use Rattle.osm_nest.specs.Beside.{IsBestUpTo}
use Rattle.osm_nest.proofs.DirectEnclosers.{clear-at}
use Rattle.osm_nest.proofs.Nearest.{best-right, better-step, next-right}
use Rattle.osm_nest.proofs.few.search.nearest_encloser.Goals as goal

pub nearer_encloser-best-requires-clause-first : goal.nearer_encloser-best-requires-clause-first
nearer_encloser-best-requires-clause-first c = best-right c.args.rings.now c.args.anchor.now c.loop-place.place c.loop-place.best c.loop-place.invariant

pub nearer_encloser-best-requires-clause-second : goal.nearer_encloser-best-requires-clause-second
nearer_encloser-best-requires-clause-second c = next-right c.args.rings.now c.args.anchor.now c.loop-place.place c.encloser_at.result c.encloser_at.ensures

pub loop-place-preserved : goal.loop-place-preserved
loop-place-preserved c =
    let rs = c.args.rings.now in let a = c.args.anchor.now in let n = c.loop-place.place in
    subst (IsBestUpTo rs a (n + 1)) (sym c.nearer_encloser-best.ensures)
    (better-step rs a n (clear-at rs c.requires.rings n c.loop-place-test.true) c.loop-place.best c.encloser_at.result c.loop-place.invariant c.encloser_at.ensures)

pub returns : goal.returns
returns c =
    let all : c.loop-place.place ≡ length c.args.rings.now = omega arith in
    subst (λ n. IsBestUpTo c.args.rings.now c.args.anchor.now n c.loop-place.best) all c.loop-place.invariant
