use Rattle.std.proofs.Common.{◌∙◌, ◌+◌, sym, length, rules, w64}
use Rattle.std.specs.Prelude.{FitsSigned}
use Rattle.std.proofs.lemmas.Int.{to_z-of_z}
use Rattle.std.proofs.lemmas.Result.{err_from_is_err_and}
use Rattle.opl_reader.specs.LineReading.{fields_from}
use Rattle.opl_reader.proofs.ReadingLemmas.{Begins, fails-head, fails-fields, fails-utf8, is_read}
use Rattle.opl_reader.proofs.line.read.Goals as goal

pub returns-in_err-kind : goal.returns-in_err-kind
returns-in_err-kind c =
    let p = err_from_is_err_and c.from_residual.result c.from_residual.ensures.1 in
    let text = c.in-Ok.ensures.cases in
    let b : Begins c.args.line.now c.in-Ok.text.now c.in-Some.place c.in-Some.head.now (fields_from (c.in-Some.place + length c.in-Some.head.now + 1) c.in-Some.left.now) =
    record { is = text.0 ∙ c.without_cr-text.ensures; utf8 = rw text.0 text.1; passed = rw text.0 (sym c.if-is_passed_over.ensures); fields = c.in-Some.ensures.fields } in
    rw (p.1, p.2) (fails-head c.args.line.now c.in-Ok.text.now c.in-Some.place c.in-Some.head.now (fields_from (c.in-Some.place + length c.in-Some.head.now + 1) c.in-Some.left.now) c.in_err-kind.field-0.0 b c.in_err-kind.ensures)

pub returns-in_err-content : goal.returns-in_err-content
returns-in_err-content c =
    let p = err_from_is_err_and c.from_residual-in_err-content.result c.from_residual-in_err-content.ensures.1 in
    let text = c.in-Ok.ensures.cases in
    let b : Begins c.args.line.now c.in-Ok.text.now c.in-Some.place c.in-Some.head.now (fields_from (c.in-Some.place + length c.in-Some.head.now + 1) c.in-Some.left.now) =
    record { is = text.0 ∙ c.without_cr-text.ensures; utf8 = rw text.0 text.1; passed = rw text.0 (sym c.if-is_passed_over.ensures); fields = c.in-Some.ensures.fields } in
    rw (p.1, p.2) (fails-fields c.args.line.now c.in-Ok.text.now c.in-Some.place c.in-Some.head.now (fields_from (c.in-Some.place + length c.in-Some.head.now + 1) c.in-Some.left.now) c.in_ok-kind.kind c.in_ok-kind.id c.in_err-content.field-0.0 b c.in_ok-kind.ensures c.in_err-content.ensures)

pub returns : goal.returns
returns c =
    let text = c.in-Ok.ensures.cases in
    let b : Begins c.args.line.now c.in-Ok.text.now c.in-Some.place c.in-Some.head.now (fields_from (c.in-Some.place + length c.in-Some.head.now + 1) c.in-Some.left.now) =
    record { is = text.0 ∙ c.without_cr-text.ensures; utf8 = rw text.0 text.1; passed = rw text.0 (sym c.if-is_passed_over.ensures); fields = c.in-Some.ensures.fields } in
    let fits : FitsSigned w64 c.in_ok-kind.id = search rules in
    rw (c.object_of.ensures, to_z-of_z) (is_read c.args.line.now c.in-Ok.text.now c.in-Some.place c.in-Some.head.now (fields_from (c.in-Some.place + length c.in-Some.head.now + 1) c.in-Some.left.now) c.in_ok-kind.kind c.in_ok-kind.id c.in_ok-content.content b c.in_ok-kind.ensures c.in_ok-content.ensures)

pub returns-in-Err : goal.returns-in-Err
returns-in-Err c =
    let bad = c.in-Err.ensures.cases in
    rw (c.fault.ensures, c.valid_up_to.ensures, c.in-Err.ensures.valid_len) (fails-utf8 c.args.line.now c.without_cr-text.result.now c.without_cr-text.ensures (sym c.if-is_passed_over.ensures) bad.0)
