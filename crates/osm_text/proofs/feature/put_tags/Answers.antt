use Rattle.std.proofs.Common.{refl, ◌++◌, ◌∙◌, ap, map, List, ℕ}
use Rattle.osm_elements.specs.declared.object.Tag.{Tag}
use Rattle.osm_notation.proofs.KeptTexts.{kept_as_is}
use Rattle.osm_notation.specs.Written.{tag_text}
use Rattle.osm_text.specs.Rows.{led_by_byte}
use Rattle.osm_text.proofs.KeptLemmas.{kept_behind}
use Rattle.osm_text.proofs.RowLemmas.{led_tags}
use Rattle.osm_text.proofs.feature.put_tags.Goals as goal

pub loop-tag-init : goal.loop-tag-init
loop-tag-init c = record {
  whole = ap (λ (tags : List Tag). c.args.text.now.items ++ led_by_byte 32 (map tag_text tags)) c.iter-rest.ensures ∙ ap (λ (xs : List ℕ). c.args.text.now.items ++ xs) (led_tags c.args.tags.now);
  kept = kept_as_is c.args.text.now.items c.args.text.now.items refl;
}

pub returns-in_err-put_tag-clause-kept : goal.returns-in_err-put_tag-clause-kept
returns-in_err-put_tag-clause-kept c =
    kept_behind c.from_residual-in_err-put_tag.result c.args.text.now.items c.loop-tag.text.items _ c.push.new.self.items c.put_tag.new.text.items
    c.loop-tag.invariant.kept c.in_ok-push.ensures.items c.in_err-put_tag.ensures.kept
