-- The walk is back at its start, or goes on to a fresh place.
use Rattle.std.proofs.Common.{Bool, IfSome, Option, arith, eqb-true, false, get_or, length, nat_eq, refl, set, subst, sym, take, true, ℕ, ◌+◌, ◌-◌, ◌≡◌, ◌∙◌}
use Rattle.std.specs.Bool.{then_some}
use Rattle.std.proofs.lemmas.List.{get_or_default, length-set}
use Rattle.osm_rings.specs.Walked.{IsNoted}
use Rattle.osm_rings.proofs.WalkSteps.{walk-begins, walk-closed, walk-more}
use Rattle.osm_rings.proofs.few.walks.walk_from.Goals as goal

-- a size is given only where the walk is back at its start
if-back : (next start size : ℕ) (r : Option ℕ) → r ≡ then_some (nat_eq next start) size → (P : ℕ → Type 0) → (next ≡ start → P size) → IfSome r P
if-back next start size r is P back = subst (λ r. IfSome r P) (sym is) (decide (nat_eq next start) refl)
  where
    decide : (b : Bool) → nat_eq next start ≡ b → IfSome (then_some b size) P
    decide true same = back (eqb-true next start same)
    decide false other = tt

pub loop-end-init : goal.loop-end-init
loop-end-init c = (c.told-places, c.told-passed, walk-begins c.args.edges.now c.args.start c.args.done c.args.places.now c.args.passed.now c.requires.inside c.requires.fresh c.requires.marked)

pub returns-then-passed-next : goal.returns-then-passed-next
returns-then-passed-next c =
    let es = c.args.edges.now in let end = c.loop-end.end in let place = c.loop-end.place in
    let few = c.requires.few in let long = c.loop-end.invariant.0 in let told = c.told-places in
    let inside = c.loop-end.invariant.2.inside in let marks = c.loop-end.invariant.1 in
    if-back c.in_ok-next.next c.args.start (end + 1 - c.args.done) c.then_some.result c.then_some.ensures (λ size. IsNoted es c.args.done size c.args.places.now (set c.loop-end.places end place) (set c.loop-end.passed place true))
    (walk-closed es (take c.args.done c.args.places.now) c.args.start end place c.loop-end.places c.loop-end.passed c.loop-end.invariant.2 (omega arith) (omega arith) c.index-edges-place.result c.in_ok-next.next c.in_ok-next.ensures c.args.done c.args.places.now refl c.loop-end.auto.end (omega arith) c.loop-end-test.true)

pub loop-end-preserved : goal.loop-end-preserved
loop-end-preserved c =
    let es = c.args.edges.now in let end = c.loop-end.end in let place = c.loop-end.place in
    let few = c.requires.few in let long = c.loop-end.invariant.0 in
    let inside = c.loop-end.invariant.2.inside in let marks = c.loop-end.invariant.1 in
    let next = c.in_ok-next.next in let marked = set c.loop-end.passed place true in
    let sized : length marked ≡ 32 = length-set c.loop-end.passed place true ∙ marks in
    let below = (c.in_ok-next.ensures.some next refl).inside in
    let fresh : get_or marked next true ≡ false = get_or_default marked next true false (omega arith) ∙ c.if-passed-next.false in (
      length-set c.loop-end.places end place ∙ long,
      sized,
      walk-more es (take c.args.done c.args.places.now) c.args.start end place c.loop-end.places c.loop-end.passed c.loop-end.invariant.2 (omega arith) (omega arith) c.index-edges-place.result next c.in_ok-next.ensures fresh,
    )
