-- A way names itself.
use Rattle.std.proofs.Common.{◌∷◌, [], ◌∙◌, FitsSigned, ap, rules, w64, ℤ}
use Rattle.std.proofs.lemmas.Int.{to_z-of_z}
use Rattle.osm_area.proofs.OutcomeLemmas.{one_note, one_way}
use Rattle.osm_area.proofs.outcome.outcome_of.Goals as goal

pub outcome_by-requires-clause-ways : goal.outcome_by-requires-clause-ways
outcome_by-requires-clause-ways c =
    let fits : FitsSigned w64 c.args.candidate.id = search rules in
    ap (λ (id : ℤ). id ∷ []) (to_z-of_z w64 c.args.candidate.id fits) ∙ one_way c.args.store.now c.args.candidate c.in-Way.is

pub outcome_by-requires-clause-notes : goal.outcome_by-requires-clause-notes
outcome_by-requires-clause-notes c = one_note c.args.store.now c.args.candidate _ c.in-Way.is c.new.ensures
