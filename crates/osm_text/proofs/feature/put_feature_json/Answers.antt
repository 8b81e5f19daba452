use Rattle.std.proofs.Common.{refl}
use Rattle.osm_notation.proofs.KeptTexts.{kept_added, kept_further}
use Rattle.osm_text.proofs.KeptLemmas.{kept_behind}
use Rattle.osm_text.proofs.feature.put_feature_json.Goals as goal

pub returns-in_err-put_properties-clause-kept : goal.returns-in_err-put_properties-clause-kept
returns-in_err-put_properties-clause-kept c =
    let text = c.args.text.now.items in
    let geometry = c.put_geometry.new.text.items in
    kept_behind c.from_residual-in_err-put_properties.result text geometry _ c.extend_from_slice.new.self.items c.put_properties.new.text.items
    (kept_further text _ _ geometry (kept_further text _ _ _ (kept_further text _ _ _ (kept_added text _ _ refl) refl) refl) c.in_ok-put_geometry.ensures.text)
    c.in_ok-extend_from_slice.ensures.items c.in_err-put_properties.ensures.kept
