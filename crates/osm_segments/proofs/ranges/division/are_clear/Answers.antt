use Rattle.std.proofs.Common.{Bool, [], subst, true, ◌≡◌}
use Rattle.std.proofs.lemmas.Result.{IfOk-weaker}
use Rattle.osm_segments.specs.Pairs.{conflicts_of}
use Rattle.osm_segments.proofs.SweptParts.{clear_part}
use Rattle.osm_segments.proofs.ranges.division.are_clear.Goals as goal

pub returns : goal.returns
returns c =
    IfOk-weaker c.is_clear_by_ends.result _ _
    (λ (clear : Bool) (told : clear ≡ true → conflicts_of c.deref.result.now ≡ []) (yes : clear ≡ true).
    clear_part c.conflicts_are_symmetric.ensures c.args.all.now c.in_ok-segs_of.field-0.items c.distinct_of-segs.result.items c.in_ok-segs_of.ensures c.distinct_of-segs.ensures (subst (λ xs. conflicts_of xs ≡ []) c.deref.ensures.value (told yes)))
    c.is_clear_by_ends.ensures
