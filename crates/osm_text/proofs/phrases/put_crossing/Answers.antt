use Rattle.osm_text.specs.Report.{pair_text}
use Rattle.osm_text.proofs.PhraseLemmas.{crossing-put}
use Rattle.osm_text.proofs.phrases.put_crossing.Goals as goal

pub returns : goal.returns
returns c =
    let met = c.in_ok-put_meeting.ensures in
    (met.0, met.1, crossing-put _ c.as_bytes.result.now c.args.word.now met.0 (pair_text c.args.first c.args.second) _ _ _ _ c.as_bytes.ensures.value c.in_ok-extend_from_slice.ensures.items c.in_ok-push.ensures.items met.2 c.in_ok-put_pair.ensures)
