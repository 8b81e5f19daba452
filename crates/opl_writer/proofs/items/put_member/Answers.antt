-- The letter, the id, the at sign and the role.
use Rattle.std.proofs.Common.{◌∙◌, ◌++◌, ap, rules, w64, FitsSigned, List, ℕ, ℤ}
use Rattle.std.specs.Fmt.{signed_decimal}
use Rattle.std.proofs.lemmas.Int.{to_z-of_z}
use Rattle.std.proofs.lemmas.Result.{on_ok_weaker}
use Rattle.opl_writer.proofs.KeptParts.{last_of_four, none_added, one_added, two_added}
use Rattle.opl_writer.proofs.ThreeParts.{four_added}
use Rattle.opl_writer.proofs.items.put_member.Goals as goal

pub returns-in_err-extend_from_slice-clause-kept : goal.returns-in_err-extend_from_slice-clause-kept
returns-in_err-extend_from_slice-clause-kept c = none_added c.from_residual.result c.args.text.now.items c.extend_from_slice.new.self.items c.in_err-extend_from_slice.ensures.items

pub returns-in_err-put_number-clause-kept : goal.returns-in_err-put_number-clause-kept
returns-in_err-put_number-clause-kept c =
    one_added c.from_residual-in_err-put_number.result c.args.text.now.items c.extend_from_slice.new.self.items _ c.in_ok-extend_from_slice.ensures.items c.put_number.new.text.items c.in_err-put_number.ensures.kept

pub returns-in_err-push-clause-kept : goal.returns-in_err-push-clause-kept
returns-in_err-push-clause-kept c =
    two_added c.from_residual-in_err-push.result c.args.text.now.items c.extend_from_slice.new.self.items _ c.in_ok-extend_from_slice.ensures.items c.put_number.new.text.items _ c.in_ok-put_number.ensures.text
    c.push.new.self.items c.in_err-push.ensures.items

pub returns-clause-text : goal.returns-clause-text
returns-clause-text c =
    let member = c.args.member.now in
    let fits : FitsSigned w64 member.id = search rules in
    let text = c.args.text.now.items in
    let letter = c.extend_from_slice.new.self.items in
    let begun = c.in_ok-extend_from_slice.ensures.items ∙ ap (λ (xs : List ℕ). text ++ xs) c.letter.ensures in
    let number = c.in_ok-put_number.ensures.text ∙ ap (λ (z : ℤ). letter ++ signed_decimal z) (to_z-of_z w64 member.id fits) in
    on_ok_weaker c.put_written.result
    (λ role. four_added text letter c.put_number.new.text.items c.push.new.self.items c.put_written.new.bytes.items _ _ _ _ begun number c.in_ok-push.ensures.items role)
    c.put_written.ensures.text

pub returns-clause-kept : goal.returns-clause-kept
returns-clause-kept c =
    last_of_four c.put_written.result c.args.text.now.items c.extend_from_slice.new.self.items _ c.in_ok-extend_from_slice.ensures.items c.put_number.new.text.items _ c.in_ok-put_number.ensures.text
    c.push.new.self.items _ c.in_ok-push.ensures.items c.put_written.new.bytes.items c.put_written.ensures.kept
