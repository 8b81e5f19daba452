use Rattle.std.proofs.Common.{refl, ◌++◌, ◌∙◌, [], ◌∷◌, ap, map, List, ℕ}
use Rattle.osm_elements.specs.declared.object.Tag.{Tag}
use Rattle.osm_notation.proofs.KeptTexts.{kept_as_is, kept_at_fault, kept_further, kept_through}
use Rattle.osm_notation.specs.Written.{tag_text}
use Rattle.opl_writer.specs.Rows.{led}
use Rattle.opl_writer.proofs.RowLemmas.{led-field}
use Rattle.opl_writer.proofs.fields.put_tags.Goals as goal

pub loop-tag-init : goal.loop-tag-init
loop-tag-init c = record {
  whole = ap (λ (tags : List Tag). c.args.text.now.items ++ led (32 ∷ 84 ∷ []) (map tag_text tags)) c.iter-rest.ensures ∙ ap (λ (xs : List ℕ). c.args.text.now.items ++ xs) (led-field 84 (map tag_text c.args.tags.now));
  kept = kept_as_is c.args.text.now.items c.args.text.now.items refl;
}

pub returns-in_err-extend_from_slice-clause-kept : goal.returns-in_err-extend_from_slice-clause-kept
returns-in_err-extend_from_slice-clause-kept c =
    let old = c.loop-tag.text.items in
    let mark = c.extend_from_slice.new.self.items in
    kept_at_fault c.from_residual.result c.args.text.now.items mark
    (kept_through c.args.text.now.items old mark c.loop-tag.invariant.kept (kept_as_is old mark c.in_err-extend_from_slice.ensures.items))

pub returns-in_err-put_tag-clause-kept : goal.returns-in_err-put_tag-clause-kept
returns-in_err-put_tag-clause-kept c =
    let mark = c.extend_from_slice.new.self.items in
    let last = c.put_tag.new.text.items in
    kept_at_fault c.from_residual-in_err-put_tag.result c.args.text.now.items last
    (kept_through c.args.text.now.items mark last
    (kept_further c.args.text.now.items c.loop-tag.text.items _ mark c.loop-tag.invariant.kept c.in_ok-extend_from_slice.ensures.items)
    c.in_err-put_tag.ensures.kept)
