use Rattle.std.proofs.Common.{Bool, Contains, filter, inl, inr, rules, subst, sym, ⊎_elim, ◌∙◌}
use Rattle.std.specs.Ordering.{is_lt}
use Rattle.std.proofs.lemmas.Fn.{filter_same}
use Rattle.osm_lattice.specs.Loc.{loc_cmp}
use Rattle.osm_segments.specs.declared.ranges.strips.SegAt.{SegAt}
use Rattle.osm_segments.proofs.SettledPairs.{kept_or}
use Rattle.osm_segments.proofs.TriedPairs.{not_lower}
use Rattle.osm_segments.proofs.ranges.strips.reaching_above.Goals as goal

pub returns : goal.returns
returns c s k =
    let all = c.args.all.items in
    let reaches : SegAt → Bool = λ t. is_lt (loc_cmp c.args.middle t.seg.b) in
    let kept = c.shrink_to_fit.ensures.items ∙ filter_same _ reaches _ (λ x b f' k. search rules) _ _ c.retain.ensures.filtered in
    ⊎_elim
    (λ (h : Contains (filter reaches all) s). inl (subst (λ xs. Contains xs s) (sym kept) h))
    (λ low. inr (not_lower c.args.middle s.seg.b low))
    (kept_or reaches all s k)
