use Rattle.std.proofs.Common.{◌≡◌, ◌∙◌, ◌<◌, sym, ap, refl, inl, inr, arith, length}
use Rattle.std.proofs.lemmas.Bool.{eqb-true, eqb-false}
use Rattle.opl_reader.specs.StringReading.{code_point}
use Rattle.opl_reader.proofs.EscapeLemmas.{hex-more, no_hex, code_all, no_code}
use Rattle.opl_reader.proofs.escape.code_point.Goals as goal

pub returns-then-is_empty : goal.returns-then-is_empty
returns-then-is_empty c =
    no_code c.args.digits.now
    (elim c.then-is_empty.either [
      | inl e ↦ inl (eqb-true _ _ (sym c.is_empty.ensures ∙ e))
      | inr m ↦ inr m.1
    ])

pub loop-byte-init : goal.loop-byte-init
loop-byte-init c = record { digits = refl; worth = refl }

pub returns-in_err-digit : goal.returns-in_err-digit
returns-in_err-digit c =
    let bytes = c.as_bytes-byte-items.result.now in
    c.from_residual.ensures ∙ no_hex bytes c.loop-byte.byte-index c.loop-byte-test.true (rw c.from.ensures at c.in_err-digit.ensures.value) ∙ ap code_point c.as_bytes-byte-items.ensures.value

pub loop-byte-preserved : goal.loop-byte-preserved
loop-byte-preserved c =
    let bytes = c.as_bytes-byte-items.result.now in
    let same = c.from.ensures in
    let value = c.in_ok-digit.ensures.value in
    hex-more bytes c.loop-byte.byte-index c.loop-byte.code c.in_ok-digit.digit c.saturating_add-code.result c.loop-byte-test.true (rw same at value.0) (rw same at value.1) c.loop-byte.invariant (c.saturating_add-code.ensures ∙ rw c.saturating_mul.ensures refl)

pub returns : goal.returns
returns c =
    let bytes = c.as_bytes-byte-items.result.now in
    let same = c.as_bytes-byte-items.ensures.value in
    let none : length c.args.digits.now ≡ 0 → ⊥ = eqb-false _ _ (sym c.if-is_empty.ensures) in
    let more : 0 < length c.args.digits.now = omega arith in
    code_all bytes c.loop-byte.byte-index c.loop-byte.code c.from_u32.result c.loop-byte-test.false (rw same more) (rw same c.if-digits-gt6.false) c.loop-byte.invariant c.from_u32.ensures.value c.from_u32.ensures.cases ∙ ap code_point same
