-- The letter, the id and the location.
use Rattle.std.proofs.Common.{◌≡◌, ◌∙◌, ◌++◌, ap, rules, w64, FitsSigned, ℤ}
use Rattle.std.specs.Fmt.{signed_decimal}
use Rattle.std.proofs.lemmas.Int.{to_z-of_z}
use Rattle.std.proofs.lemmas.Result.{on_ok_weaker}
use Rattle.opl_writer.proofs.KeptParts.{last_of_three, none_added, one_added}
use Rattle.opl_writer.proofs.ThreeParts.{three_added}
use Rattle.opl_writer.proofs.items.put_ref.Goals as goal

pub returns-in_err-push-clause-kept : goal.returns-in_err-push-clause-kept
returns-in_err-push-clause-kept c = none_added c.from_residual.result c.args.text.now.items c.push.new.self.items c.in_err-push.ensures.items

pub returns-in_err-put_number-clause-kept : goal.returns-in_err-put_number-clause-kept
returns-in_err-put_number-clause-kept c =
    one_added c.from_residual-in_err-put_number.result c.args.text.now.items c.push.new.self.items _ c.in_ok-push.ensures.items c.put_number.new.text.items c.in_err-put_number.ensures.kept

pub returns-clause-text : goal.returns-clause-text
returns-clause-text c =
    let fits : FitsSigned w64 c.args.reference.node = search rules in
    let letter = c.push.new.self.items in
    let number : c.put_number.new.text.items ≡ letter ++ signed_decimal c.args.reference.node = c.in_ok-put_number.ensures.text ∙ ap (λ (z : ℤ). letter ++ signed_decimal z) (to_z-of_z w64 c.args.reference.node fits) in
    on_ok_weaker c.put_own_place.result
    (λ place. three_added c.args.text.now.items letter c.put_number.new.text.items c.put_own_place.new.text.items _ _ _ c.in_ok-push.ensures.items number place)
    c.put_own_place.ensures.text

pub returns-clause-kept : goal.returns-clause-kept
returns-clause-kept c =
    last_of_three c.put_own_place.result c.args.text.now.items c.push.new.self.items _ c.in_ok-push.ensures.items c.put_number.new.text.items _ c.in_ok-put_number.ensures.text
    c.put_own_place.new.text.items c.put_own_place.ensures.kept
