use Rattle.std.proofs.Common.{◌≤◌, arith, length}
use Rattle.osm_words.specs.Answers.{settings_seen}
use Rattle.job_export.proofs.Candidates.{none_first, next_first, next_halted, all_gone, last_not_written}
use Rattle.job_export.proofs.work.write_candidates.Goals as goal

pub loop-candidate-init : goal.loop-candidate-init
loop-candidate-init g c = (omega arith, none_first (settings_seen c.args.settings.now) c.args.store.now c.args.candidates.now c.new-waiting.result.items (g.H.Host.seen c.args.host.now) c.new-waiting.ensures.items)

pub returns-in-Err : goal.returns-in-Err
returns-in-Err g c =
    next_halted (settings_seen c.args.settings.now) c.args.store.now c.args.candidates.now c.loop-candidate.candidate-index _ c.loop-candidate-test.true c.loop-candidate.features
    c.loop-candidate.waiting.items c.write_candidate.new.waiting.items (g.H.Host.seen c.args.host.now) (g.H.Host.seen c.loop-candidate.host) (g.H.Host.seen c.write_candidate.new.host)
    c.loop-candidate.invariant.1 c.in-Err.halt c.in-Err.ensures.wrote

pub loop-candidate-preserved : goal.loop-candidate-preserved
loop-candidate-preserved g c = (
  (let few = c.loop-candidate.invariant.0 in let one = c.in-Ok.ensures.one in omega arith),
  next_first (settings_seen c.args.settings.now) c.args.store.now c.args.candidates.now c.loop-candidate.candidate-index _ c.loop-candidate-test.true c.loop-candidate.features
      c.loop-candidate.waiting.items c.write_candidate.new.waiting.items (g.H.Host.seen c.args.host.now) (g.H.Host.seen c.loop-candidate.host) (g.H.Host.seen c.write_candidate.new.host)
      c.loop-candidate.invariant.1 c.in-Ok.count c.in-Ok.ensures.wrote,
)

pub returns-in_default : goal.returns-in_default
returns-in_default g c =
    let many : length c.args.candidates.now ≤ c.loop-candidate.candidate-index = let past = c.loop-candidate-test.false in omega arith in
    last_not_written (settings_seen c.args.settings.now) c.args.store.now c.args.candidates.now c.loop-candidate.candidate-index c.loop-candidate.features c.loop-candidate.waiting.items
    (g.H.Host.seen c.args.host.now) (g.H.Host.seen c.loop-candidate.host) (g.H.Host.seen c.write_out.new.host) many c.loop-candidate.invariant.1 c.in_default.field-0
    (rw (← c.deref.ensures.value) c.in_default.ensures)

pub returns : goal.returns
returns g c =
    let many : length c.args.candidates.now ≤ c.loop-candidate.candidate-index = let past = c.loop-candidate-test.false in omega arith in
    all_gone (settings_seen c.args.settings.now) c.args.store.now c.args.candidates.now c.loop-candidate.candidate-index c.loop-candidate.features c.loop-candidate.waiting.items
    (g.H.Host.seen c.args.host.now) (g.H.Host.seen c.loop-candidate.host) (g.H.Host.seen c.write_out.new.host) many c.loop-candidate.invariant.1 c.in-Ok-write_out.field-0 c.in-Ok-write_out.field-0
    (rw (← c.deref.ensures.value) c.in-Ok-write_out.ensures)
