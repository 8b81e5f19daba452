-- The edges on the line come behind the portions.
use Rattle.std.proofs.Common.{ap, subst, sym, ◌++◌, ◌∙◌, ◌≡◌}
use Rattle.std.proofs.lemmas.List.{append-nil}
use Rattle.coast_split.specs.Batches.{batched_edges}
use Rattle.coast_split.specs.Half.{IsHalf}
use Rattle.coast_split.proofs.halves.half_in_batches.Goals as goal
use Rattle.coast_split.proofs.halves.half_in_batches.Goals.{in-Some+in_ok-push, in_default}

made : (c : goal.Joined-own) → batched_edges c.args.whole.now c.match-own.half ≡ batched_edges c.args.whole.now c.in_ok-batches.field-0.batches ++ c.in_ok-links.links
made c =
    let whole = c.args.whole.now in let batches = c.in_ok-batches.field-0.batches in
    elim c.match-own.branch [
      | in-Some+in_ok-push w ↦
          let own = w.in-Some.ensures whole in
          ap (batched_edges whole) w.half-is ∙ (w.in_ok-push.ensures whole c.in_ok-batches.ensures.batches own.0).edges ∙ ap (λ l. batched_edges whole batches ++ l) own.1
      | in_default w ↦ ap (batched_edges whole) w.half-is ∙ sym (append-nil (batched_edges whole batches)) ∙ ap (λ l. batched_edges whole batches ++ l) (sym (w.in_default.ensures whole))
    ]

pub returns-clause-half : goal.returns-clause-half
returns-clause-half c =
    let whole = c.args.whole.now in let p = c.in_ok-batches.ensures in let es = batched_edges whole c.args.list.now in
    subst (IsHalf c.args.cut c.args.side es) (sym (made c)) (c.in_ok-links.ensures es (batched_edges whole c.in_ok-batches.field-0.batches) p.portions p.ends)
