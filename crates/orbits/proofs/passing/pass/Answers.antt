-- One more number is noted and marked; at the end as many as there are.
use Rattle.std.proofs.Common.{◌≡◌, ◌≢◌, ◌-◌, ◌<◌, ◌++◌, ◌∷◌, [], Some, arith, get_or, length, rules, set, sym, true, subst, ◌∙◌, ℕ}
use Rattle.std.proofs.lemmas.List.{length-map}
use Rattle.orbits.specs.Orbits.{after, total_map}
use Rattle.orbits.specs.OrbitSteps.{IsPassed}
use Rattle.orbits.proofs.PassSteps.{IsPassing, passing_ends, passing_inside, passing_more, passing_short, passing_some, total_after}
use Rattle.orbits.proofs.Reading.{length_push, unwrap}
use Rattle.orbits.proofs.passing.pass.Goals as goal

pub bounds-passed-place : goal.bounds-passed-place
bounds-passed-place c =
    let next = c.args.next.now in let place = c.loop-place.place in let old = c.args.places.now.items in
    let size = length-map next Some in
    let inside : place < length (total_map next) = passing_inside (total_map next) c.requires.map c.args.from old c.args.passed.now (omega arith) place c.loop-place.places.items c.loop-place.passed c.loop-place.invariant in
    let within = c.requires.map.within place (get_or next place 0) (total_after next place (omega arith)) in
    let marks = c.loop-place.invariant.also.sized in
    omega (arith, c.requires.sized)

pub loop-place-preserved : goal.loop-place-preserved
loop-place-preserved c =
    let next = c.args.next.now in let place = c.loop-place.place in let old = c.args.places.now.items in
    let size = length-map next Some in
    let inside : place < length (total_map next) = passing_inside (total_map next) c.requires.map c.args.from old c.args.passed.now (omega arith) place c.loop-place.places.items c.loop-place.passed c.loop-place.invariant in
    let new : get_or next place 0 ≢ c.args.from = search rules in
    let marks = set c.loop-place.passed (get_or next place 0) true in
    subst (λ xs. IsPassing (total_map next) c.args.from (get_or next place 0) old xs c.args.passed.now marks) (sym c.in_ok-push-2.ensures.items)
    (passing_more (total_map next) c.requires.map c.args.from old c.args.passed.now (omega arith) place c.loop-place.places.items c.loop-place.passed c.loop-place.invariant (get_or next place 0) (total_after next place (omega arith)) new)

pub loop-place-smaller : goal.loop-place-smaller
loop-place-smaller c =
    let next = c.args.next.now in let old = c.args.places.now.items in let items = c.loop-place.places.items in
    let size = length-map next Some in
    let more = loop-place-preserved c in
    let short = passing_short (total_map next) c.requires.map c.args.from old c.args.passed.now (omega arith) _ c.push-in-loop-place.new.self.items _ more in
    let long = length_push items (get_or next c.loop-place.place 0) in
    let same = c.in_ok-push-2.ensures.items in
    let now : length c.push-in-loop-place.new.self.items ≡ length (items ++ get_or next c.loop-place.place 0 ∷ []) = rw same in
    omega arith

pub overflow_sub-result : goal.overflow_sub-result
overflow_sub-result c =
    let size = length-map c.args.next.now Some in
    let long = passing_some (total_map c.args.next.now) c.requires.map c.args.from c.args.places.now.items c.args.passed.now (omega arith) c.loop-place.place c.loop-place.places.items c.loop-place.passed c.loop-place.invariant in
    omega (arith, long, c.loop-place.places.ok.0, c.args.places.now.ok.0, c.len.ensures, c.len-done.ensures)

pub returns : goal.returns
returns c =
    let next = c.args.next.now in let place = c.loop-place.place in
    let old = c.args.places.now.items in let new = c.loop-place.places.items in
    let size = length-map next Some in
    let inside : place < length (total_map next) = passing_inside (total_map next) c.requires.map c.args.from old c.args.passed.now (omega arith) place new c.loop-place.passed c.loop-place.invariant in
    let closes : get_or next place 0 ≡ c.args.from = search rules in
    let stops : (j : ℕ) → after (total_map next) place ≡ Some j → j ≡ c.args.from = λ j e.
    unwrap j (get_or next place 0) (sym e ∙ total_after next place (omega arith)) ∙ closes in
    let all : c.len.result - c.len-done.result ≡ length new - length old = omega (arith, c.loop-place.places.ok.0, c.args.places.now.ok.0, c.len.ensures, c.len-done.ensures) in
    subst (λ (n : ℕ). IsPassed (total_map next) c.args.from n old new c.args.passed.now c.loop-place.passed) (sym all)
    (passing_ends (total_map next) c.requires.map c.args.from old c.args.passed.now (omega arith) place new c.loop-place.passed c.loop-place.invariant stops)
