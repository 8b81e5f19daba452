use Rattle.std.proofs.Common.{refl, ◌++◌, ◌∙◌, [], ◌∷◌, ap, map, List, ℕ}
use Rattle.osm_elements.specs.declared.object.Ref.{Ref}
use Rattle.osm_notation.proofs.KeptTexts.{kept_as_is, kept_at_fault, kept_further, kept_through}
use Rattle.opl_writer.specs.Written.{ref_text}
use Rattle.opl_writer.specs.Rows.{led}
use Rattle.opl_writer.proofs.RowLemmas.{led-field}
use Rattle.opl_writer.proofs.fields.put_refs.Goals as goal

pub loop-reference-init : goal.loop-reference-init
loop-reference-init c = record {
  whole = ap (λ (refs : List Ref). c.args.text.now.items ++ led (32 ∷ 78 ∷ []) (map ref_text refs)) (c.into_iter-reference-iterator.ensures.into_iter_gives ∙ c.iter-reference-items.ensures) ∙ ap (λ (xs : List ℕ). c.args.text.now.items ++ xs) (led-field 78 (map ref_text c.args.refs.now));
  kept = kept_as_is c.args.text.now.items c.args.text.now.items refl;
}

pub returns-in_err-extend_from_slice-clause-kept : goal.returns-in_err-extend_from_slice-clause-kept
returns-in_err-extend_from_slice-clause-kept c =
    let old = c.loop-reference.text.items in
    let mark = c.extend_from_slice.new.self.items in
    kept_at_fault c.from_residual.result c.args.text.now.items mark
    (kept_through c.args.text.now.items old mark c.loop-reference.invariant.kept (kept_as_is old mark c.in_err-extend_from_slice.ensures.items))

pub returns-in_err-put_ref-clause-kept : goal.returns-in_err-put_ref-clause-kept
returns-in_err-put_ref-clause-kept c =
    let mark = c.extend_from_slice.new.self.items in
    let last = c.put_ref.new.text.items in
    kept_at_fault c.from_residual-in_err-put_ref.result c.args.text.now.items last
    (kept_through c.args.text.now.items mark last
    (kept_further c.args.text.now.items c.loop-reference.text.items _ mark c.loop-reference.invariant.kept c.in_ok-extend_from_slice.ensures.items)
    c.in_err-put_ref.ensures.kept)
