use Rattle.std.proofs.Common.{◌≡◌, ◌∙◌, FitsSigned, ap, rules, subst, sym, w64}
use Rattle.std.proofs.lemmas.Int.{to_z-of_z}
use Rattle.osm_elements.specs.declared.object.ObjectKind.{ObjectKind}
use Rattle.osm_objects.specs.Objects.{object_at, way_of}
use Rattle.osm_objects.specs.Views.{way_seen}
use Rattle.osm_area.specs.Feature.{feature_tags}
use Rattle.job_export.proofs.Lent.{way_tags}
use Rattle.job_export.proofs.entry.lent_tags.Goals as goal

pub returns-in-Some : goal.returns-in-Some
returns-in-Some c =
    let fits : FitsSigned w64 c.args.candidate.id = search rules in
    subst (λ (kind : ObjectKind). c.in-Some.way.tags.now ≡ feature_tags (object_at c.args.store.now (record { kind = kind; id = c.args.candidate.id }))) (sym c.in-Way.is)
    (way_tags c.args.store.now c.args.candidate.id (way_seen c.in-Some.way) (c.in-Some.ensures ∙ ap (way_of c.args.store.now) (to_z-of_z w64 c.args.candidate.id fits)))
