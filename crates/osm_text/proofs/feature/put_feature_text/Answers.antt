use Rattle.osm_notation.proofs.KeptTexts.{kept_added, kept_further}
use Rattle.osm_text.proofs.KeptLemmas.{kept_behind}
use Rattle.osm_text.proofs.feature.put_feature_text.Goals as goal

pub returns-in_err-put_polygons-clause-kept : goal.returns-in_err-put_polygons-clause-kept
returns-in_err-put_polygons-clause-kept c =
    let text = c.args.text.now.items in
    let id = c.put_id_before.new.text.items in
    kept_behind c.from_residual-in_err-put_polygons.result text id _ c.extend_from_slice.new.self.items c.put_polygons.new.text.items
    (kept_added text _ id c.in_ok-put_id_before.ensures.text) c.in_ok-extend_from_slice.ensures.items c.in_err-put_polygons.ensures.kept

pub returns-in_err-put_tags-clause-kept : goal.returns-in_err-put_tags-clause-kept
returns-in_err-put_tags-clause-kept c =
    let text = c.args.text.now.items in
    let id = c.put_id_before.new.text.items in
    let word = c.extend_from_slice.new.self.items in
    kept_behind c.from_residual-in_err-put_tags.result text word _ c.put_polygons.new.text.items c.put_tags.new.text.items
    (kept_further text id _ word (kept_added text _ id c.in_ok-put_id_before.ensures.text) c.in_ok-extend_from_slice.ensures.items) c.in_ok-put_polygons.ensures.text c.in_err-put_tags.ensures.kept
