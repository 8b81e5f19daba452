-- One more cycle, or none.
use Rattle.std.proofs.Common.{◌≡◌, Some, arith, false, get_or, length, rules, sym, ◌∙◌}
use Rattle.std.proofs.lemmas.List.{get_or_default, length-map, take_at}
use Rattle.orbits.specs.Orbits.{total_map}
use Rattle.orbits.specs.OrbitSteps.{IsPassed}
use Rattle.orbits.proofs.Closed.{unmarked}
use Rattle.orbits.proofs.PassSteps.{along_all, along_more, along_pass, none_along, total_goes_on}
use Rattle.orbits.proofs.passing.cycles.Goals as goal
use Rattle.orbits.proofs.passing.cycles.Goals.{then-not-index+in_ok-size+in_ok-push, else-not-index}

pub loop-place-init : goal.loop-place-init
loop-place-init c =
    let next = total_map c.args.next.now in
    let size = length-map c.args.next.now Some in
    let blank : c.in_ok-passed.passed.items ≡ unmarked next = rw size (search rules) in
    rw (blank, c.in_ok-places.ensures.items, c.new-sizes.ensures.items) (none_along next c.requires (total_goes_on c.args.next.now))

pub loop-place-preserved : goal.loop-place-preserved
loop-place-preserved c =
    let next = total_map c.args.next.now in
    let goes_on = total_goes_on c.args.next.now in
    let size = length-map c.args.next.now Some in
    let passed = c.loop-place.passed.items in
    let place = c.loop-place.place in
    let found = c.loop-place.invariant in
    let sized = found.found.closed.sized in
    let read : get_or passed place false ≡ c.index.result.now = get_or_default passed place false c.index.result.now (omega arith) ∙ sym c.index.ensures in
    elim c.if-not-index.branch [
      | then-not-index+in_ok-size+in_ok-push w ↦
          let marks = w.pass.new.passed in
          let one : IsPassed next place w.in_ok-size.size c.loop-place.places.items w.pass.new.places.items passed marks = rw (← w.deref_mut.ensures.value) w.in_ok-size.ensures in
          let marks_are : c.if-not-index.passed.items ≡ marks = rw w.passed-is (take_at marks _ c.loop-place.passed.len (one.also.sized ∙ sym c.loop-place.passed.ok.0)) in
          rw (marks_are, w.places-is, w.sizes-is, w.in_ok-push.ensures.items) (along_more next c.requires goes_on place passed c.loop-place.places.items c.loop-place.sizes.items found w.in_ok-size.size marks w.pass.new.places.items one (read ∙ w.if-not-index.true))
      | else-not-index w ↦
          rw (w.passed-is, w.places-is, w.sizes-is) (along_pass next c.requires goes_on place passed c.loop-place.places.items c.loop-place.sizes.items found (read ∙ w.if-not-index.false))
    ]

pub returns : goal.returns
returns c =
    let size = length-map c.args.next.now Some in
    let whole : c.loop-place.place ≡ length (total_map c.args.next.now) = omega arith in
    along_all (total_map c.args.next.now) c.requires (total_goes_on c.args.next.now) c.loop-place.place c.loop-place.passed.items c.loop-place.places.items c.loop-place.sizes.items whole c.loop-place.invariant
