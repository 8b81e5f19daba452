use Rattle.osm_notation.proofs.KeptTexts.{kept_added, kept_further, kept_to_the_last}
use Rattle.osm_text.proofs.feature.put_geometry.Goals as goal

pub returns-clause-kept : goal.returns-clause-kept
returns-clause-kept c =
    let text = c.args.text.now.items in
    let begun = c.extend_from_slice.new.self.items in
    let id = c.put_id_member.new.text.items in
    let geometry = c.extend_from_slice-2.new.self.items in
    kept_to_the_last c.put_polygons.result text geometry c.put_polygons.new.text.items
    (kept_further text id _ geometry (kept_further text begun _ id (kept_added text _ begun c.in_ok-extend_from_slice.ensures.items) c.in_ok-put_id_member.ensures.text) c.in_ok-extend_from_slice-2.ensures.items)
    c.put_polygons.ensures.kept
