-- What begins the line, the last field and the newline.
use Rattle.std.proofs.Common.{◌≡◌, ◌∙◌, ◌++◌, ◌∷◌, [], ap, rules, w64, FitsSigned, ℤ}
use Rattle.std.specs.Fmt.{signed_decimal}
use Rattle.std.proofs.lemmas.Int.{to_z-of_z}
use Rattle.opl_writer.specs.Written.{tags_field}
use Rattle.opl_writer.proofs.ThreeParts.{three_added}
use Rattle.opl_writer.proofs.lines.put_way.Goals as goal

pub returns-clause-text : goal.returns-clause-text
returns-clause-text c =
    let fits : FitsSigned w64 c.args.id = search rules in
    let text = c.args.text.now.items in
    let head = λ (z : ℤ). (119 ∷ []) ++ signed_decimal z ++ tags_field c.args.tags.now in
    let begun : c.put_head.new.text.items ≡ text ++ head c.args.id = c.in_ok-put_head.ensures.text ∙ ap (λ (z : ℤ). text ++ head z) (to_z-of_z w64 c.args.id fits) in
    three_added text c.put_head.new.text.items c.put_refs.new.text.items c.push.new.self.items _ _ _ begun c.in_ok-put_refs.ensures.text c.in_ok-push.ensures.items
