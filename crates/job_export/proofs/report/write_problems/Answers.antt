-- One problem more, or the first at which the run is broken off.
use Rattle.std.proofs.Common.{Err, Ok, [], refl, sym, take, ◌+◌}
use Rattle.std.proofs.lemmas.Option.{get_or_from_slice_get, slice_get_within}
use Rattle.osm_text.specs.Report.{IsProblemLine}
use Rattle.job_export.specs.Entry.{AreProblemLines}
use Rattle.job_export.proofs.ReportLines.{done_again, no_lines, problems_halted, problems_next, text_behind}
use Rattle.job_export.proofs.report.write_problems.Goals as goal

pub loop-place-init : goal.loop-place-init
loop-place-init g c = no_lines (AreProblemLines c.args.of []) (g.H.Host.seen c.args.host.now) refl

pub returns-in-Err : goal.returns-in-Err
returns-in-Err g c =
    let of = c.args.of in let problems = c.args.problems.now in let k = c.loop-place.place in let p = c.in-Some.problem in
    let lt = slice_get_within problems k p (sym c.in-Some.ensures) in
    let is = sym (get_or_from_slice_get problems k p p (sym c.in-Some.ensures)) in
    problems_halted of problems k p lt is c.problem_line_exists.ensures c.requires (g.H.Host.seen c.args.host.now) (g.H.Host.seen c.write_problem.new.host) c.in-Err.halt
    (text_behind [] (AreProblemLines of (take k problems)) (IsProblemLine of p) (AreProblemLines of (take (k + 1) problems)) (g.H.Host.seen c.args.host.now) (g.H.Host.seen c.loop-place.host) (g.H.Host.seen c.write_problem.new.host) tt (Err c.in-Err.halt)
    c.loop-place.invariant c.in-Err.ensures (problems_next of problems k p lt is))

pub loop-place-preserved : goal.loop-place-preserved
loop-place-preserved g c =
    let of = c.args.of in let problems = c.args.problems.now in let k = c.loop-place.place in let p = c.in-Some.problem in
    let lt = slice_get_within problems k p (sym c.in-Some.ensures) in
    let is = sym (get_or_from_slice_get problems k p p (sym c.in-Some.ensures)) in
    done_again [] (AreProblemLines of (take (k + 1) problems)) (g.H.Host.seen c.args.host.now) (g.H.Host.seen c.write_problem.new.host) c.in_default-write_problem.field-0 tt
    (text_behind [] (AreProblemLines of (take k problems)) (IsProblemLine of p) (AreProblemLines of (take (k + 1) problems)) (g.H.Host.seen c.args.host.now) (g.H.Host.seen c.loop-place.host) (g.H.Host.seen c.write_problem.new.host) tt (Ok c.in_default-write_problem.field-0)
    c.loop-place.invariant c.in_default-write_problem.ensures (problems_next of problems k p lt is))
