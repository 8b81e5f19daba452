use Rattle.std.proofs.Common.{sym, arith}
use Rattle.opl_reader.proofs.NumberLemmas.{few-more, front-small}
use Rattle.opl_reader.proofs.number.leading_digits.Goals as goal

pub returns-then-not-is_ascii_digit-clause-small : goal.returns-then-not-is_ascii_digit-clause-small
returns-then-not-is_ascii_digit-clause-small c = front-small c.args.bytes.now c.loop-place.place c.loop-place.value (omega (arith, c.min-most.ensures)) (omega (arith, c.min-most.ensures)) c.loop-place.invariant

pub overflow_mul-value : goal.overflow_mul-value
overflow_mul-value c =
    let small = front-small c.args.bytes.now c.loop-place.place c.loop-place.value (omega (arith, c.min-most.ensures)) (omega (arith, c.min-most.ensures)) c.loop-place.invariant in
    record { fits = omega arith }

pub overflow_add-value : goal.overflow_add-value
overflow_add-value c =
    let small = front-small c.args.bytes.now c.loop-place.place c.loop-place.value (omega (arith, c.min-most.ensures)) (omega (arith, c.min-most.ensures)) c.loop-place.invariant in
    let is = c.if-not-is_ascii_digit.ensures in
    record { fits = omega (arith, c.from.ensures, is.cases.1) }

pub loop-place-preserved : goal.loop-place-preserved
loop-place-preserved c =
    let is = c.if-not-is_ascii_digit.ensures in
    few-more c.args.bytes.now c.loop-place.place c.loop-place.value c.from.result (omega (arith, c.min-most.ensures)) is.cases.0 is.cases.1 (sym is.value) c.loop-place.invariant c.from.ensures

pub returns-clause-small : goal.returns-clause-small
returns-clause-small c = front-small c.args.bytes.now c.loop-place.place c.loop-place.value (omega (arith, c.min-most.ensures)) (omega (arith, c.min-most.ensures)) c.loop-place.invariant
