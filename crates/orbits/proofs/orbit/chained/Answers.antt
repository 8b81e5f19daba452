-- One more open orbit, or none.
use Rattle.std.proofs.Common.{◌≡◌, sym, ◌∙◌}
use Rattle.std.proofs.lemmas.List.{take_at}
use Rattle.orbits.specs.OrbitSteps.{AreMarkedAlso}
use Rattle.orbits.proofs.Finding.{chained_more, chained_pass}
use Rattle.orbits.proofs.orbit.chained.Goals as goal
use Rattle.orbits.proofs.orbit.chained.Goals.{then-starts-place+in_ok-mark_walk, else-starts-place}

pub loop-place-preserved : goal.loop-place-preserved
loop-place-preserved c =
    let next = c.args.next.now in
    let starts = c.args.starts.now in
    let place = c.loop-place.place in
    let old = c.loop-place.chained.items in
    elim c.if-starts-place.branch [
      | then-starts-place+in_ok-mark_walk w ↦
          let marks = w.mark_walk.new.marks in
          let also : AreMarkedAlso old w.in_ok-mark_walk.field-0.items marks = rw (← w.deref_mut.ensures.value) w.in_ok-mark_walk.ensures.also in
          let marks_are : c.if-starts-place.chained.items ≡ marks = rw w.chained-is (take_at marks _ c.loop-place.chained.len (also.sized ∙ sym c.loop-place.chained.ok.0)) in
          rw marks_are (chained_more next c.requires.map starts c.requires.starts place old marks w.in_ok-mark_walk.field-0.items c.loop-place.invariant w.if-starts-place.true w.in_ok-mark_walk.ensures.whole also)
      | else-starts-place w ↦ rw w.chained-is (chained_pass next c.requires.map starts c.requires.starts place old c.loop-place.invariant w.if-starts-place.false)
    ]
