use Rattle.std.proofs.Common.{Some, ap, arith, inl, inr, sym, ◌∙◌}
use Rattle.std.proofs.lemmas.Option.{slice_get-get_or}
use Rattle.osm_segments.proofs.ConflictPlaces.{no_pair_past, pair-at_both}
use Rattle.osm_segments.proofs.pairs.pair_at.Goals as goal
use Rattle.osm_segments.proofs.pairs.pair_at.Goals.{then-first-segs-via-then-first-segs, then-first-segs-via-else-first-segs+then-second-segs}

pub returns-then-first-segs : goal.returns-then-first-segs
returns-then-first-segs c =
    elim c.then-first-segs.branch [
      | then-first-segs-via-then-first-segs w ↦ sym (no_pair_past c.args.segs.now c.args.places (inl w.if-first-segs.true))
      | then-first-segs-via-else-first-segs+then-second-segs w ↦ sym (no_pair_past c.args.segs.now c.args.places (inr w.if-second-segs.true))
    ]

pub returns : goal.returns
returns c =
    let ss = c.args.segs.now in let s = c.index-segs-first.result in let t = c.index-segs-second.result in
    let first = slice_get-get_or ss c.args.places.first s (omega arith) ∙ ap Some (sym c.index-segs-first.is) in
    let second = slice_get-get_or ss c.args.places.second t (omega arith) ∙ ap Some (sym c.index-segs-second.is) in
    c.pair_of.ensures ∙ sym (pair-at_both ss c.args.places s t first second)
