use Rattle.opl_reader.proofs.StringLemmas.{tested-on, tested-open, tested-bad, tested-end}
use Rattle.opl_reader.proofs.escape.is_string.Goals as goal

pub returns-in_default-cut : goal.returns-in_default-cut
returns-in_default-cut c = tested-open c.args.text.now c.loop-plain.rest.now c.in-Some._plain.now c.in-Some.after.now c.in-Some.ensures.parts c.in_default-cut.ensures.parts c.loop-plain.invariant.so_far

pub returns-in_default-code_point : goal.returns-in_default-code_point
returns-in_default-code_point c = tested-bad c.args.text.now c.loop-plain.rest.now c.in-Some._plain.now c.in-Some-cut.escape.now c.in-Some.after.now c.in-Some-cut.after.now c.in-Some.ensures.parts c.in-Some-cut.ensures.parts c.in_default-code_point.ensures c.loop-plain.invariant.so_far

pub loop-plain-preserved : goal.loop-plain-preserved
loop-plain-preserved c = record {
  utf8 = c.in-Some-cut.ensures.utf8;
  so_far = tested-on c.args.text.now c.loop-plain.rest.now c.in-Some._plain.now c.in-Some-cut.escape.now c.in-Some.after.now c.in-Some-cut.after.now c.in-Some-code_point._c c.in-Some.ensures.parts c.in-Some-cut.ensures.parts c.in-Some-code_point.ensures c.loop-plain.invariant.so_far;
}

pub returns : goal.returns
returns c = tested-end c.args.text.now c.loop-plain.rest.now c.in_default.ensures.parts c.loop-plain.invariant.so_far
