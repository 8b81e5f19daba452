use Rattle.std.proofs.Common.{◌∙◌, sym, ap, rules, w64, is_some}
use Rattle.std.specs.Prelude.{FitsSigned}
use Rattle.std.proofs.lemmas.Int.{to_z-of_z}
use Rattle.osm_elements.specs.declared.object.ObjectRef.{ObjectRef}
use Rattle.osm_objects.proofs.StoreLemmas.{At, at-live_ref}
use Rattle.osm_objects.proofs.AddLemmas.{dup_from}
use Rattle.osm_objects.proofs.store.Store.add_lent.Goals as goal

pub returns-then-is_held-clause-refusal : goal.returns-then-is_held-clause-refusal
returns-then-is_held-clause-refusal c =
    let of = c.in-Some.of in
    let fits : FitsSigned w64 c.in-Some.of.id = search rules in
    let at : At c.args.object.now of = at-live_ref c.args.object.now of (sym c.live_ref.ensures ∙ c.in-Some.is) in (
      dup_from c.args.object.now of c.args.self.now at ∙ sym (c.is_held.ensures of.id ∙ ap is_some c.find.ensures) ∙ c.if-is_held.true,
      ap (λ (r : ObjectRef). r.kind) (sym at.is),
      rw to_z-of_z (ap (λ (r : ObjectRef). r.id) (sym at.is)),
    )
