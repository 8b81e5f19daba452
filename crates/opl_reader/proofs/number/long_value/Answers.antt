use Rattle.std.proofs.Common.{◌∙◌, sym, refl}
use Rattle.opl_reader.proofs.NumberLemmas.{read-more}
use Rattle.opl_reader.proofs.number.long_value.Goals as goal

pub loop-byte-init : goal.loop-byte-init
loop-byte-init c = record { digits = refl; worth = refl }

pub loop-byte-preserved : goal.loop-byte-preserved
loop-byte-preserved c =
    let is = c.if-not-is_ascii_digit.ensures in
    read-more c.args.bytes.now c.loop-byte.byte-index c.loop-byte.value c.saturating_add-value.result c.loop-byte-test.true is.cases.0 is.cases.1 (sym is.value) c.loop-byte.invariant (c.saturating_add-value.ensures ∙ rw (c.saturating_mul.ensures, c.from.ensures) refl)
