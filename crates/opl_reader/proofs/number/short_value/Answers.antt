use Rattle.std.proofs.Common.{refl, sym, arith}
use Rattle.opl_reader.proofs.NumberLemmas.{few-more, few-small}
use Rattle.opl_reader.proofs.number.short_value.Goals as goal

pub loop-byte-init : goal.loop-byte-init
loop-byte-init c = record { digits = refl; worth = refl }

pub overflow_mul-value : goal.overflow_mul-value
overflow_mul-value c =
    let small = few-small c.args.bytes.now c.loop-byte.byte-index c.loop-byte.value c.loop-byte-test.true c.requires c.loop-byte.invariant in
    record { fits = omega arith }

pub overflow_add-value : goal.overflow_add-value
overflow_add-value c =
    let small = few-small c.args.bytes.now c.loop-byte.byte-index c.loop-byte.value c.loop-byte-test.true c.requires c.loop-byte.invariant in
    let is = c.if-not-is_ascii_digit.ensures in
    record { fits = omega (arith, c.from.ensures, is.cases.1) }

pub loop-byte-preserved : goal.loop-byte-preserved
loop-byte-preserved c =
    let is = c.if-not-is_ascii_digit.ensures in
    few-more c.args.bytes.now c.loop-byte.byte-index c.loop-byte.value c.from.result c.loop-byte-test.true is.cases.0 is.cases.1 (sym is.value) c.loop-byte.invariant c.from.ensures
