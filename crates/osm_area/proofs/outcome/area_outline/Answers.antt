-- A way names itself.
use Rattle.std.proofs.Common.{◌∷◌, [], ◌∙◌, FitsSigned, ap, rules, w64, ℤ}
use Rattle.std.proofs.lemmas.Int.{to_z-of_z}
use Rattle.osm_area.proofs.OutcomeLemmas.{one_way}
use Rattle.osm_area.proofs.outcome.area_outline.Goals as goal

pub outline_by-requires : goal.outline_by-requires
outline_by-requires c =
    let fits : FitsSigned w64 c.args.candidate.id = search rules in
    ap (λ (id : ℤ). id ∷ []) (to_z-of_z w64 c.args.candidate.id fits) ∙ one_way c.args.store.now c.args.candidate c.in-Way.is
