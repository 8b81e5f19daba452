-- The edges of a walk over the sorted ends close the portions.
use Rattle.std.proofs.Common.{All, ap, subst, sym, ◌++◌, ◌∙◌}
use Rattle.coast_split.specs.Walk.{AddsWalked, IsEndOnLine}
use Rattle.coast_split.proofs.MadeHalves.{all-ends, made}
use Rattle.coast_split.proofs.halves.links.Goals as goal

pub push_links-requires : goal.push_links-requires
push_links-requires c =
    subst (All (IsEndOnLine c.args.cut)) (sym c.deref.ensures.value)
    (all-ends c.args.cut c.args.side c.requires.0 c.sort_ends.new.ends.items (c.in_ok-sort_ends.ensures c.requires.0 c.requires.1))

pub returns : goal.returns
returns c = λ es ts p e.
    let cut = c.args.cut in let s = c.args.side in let sorted = c.sort_ends.new.ends.items in
    let w = subst (λ l. AddsWalked cut s l c.new-links.result c.push_links.new.edges) c.deref.ensures.value c.in_ok-push_links.ensures in
    made cut s es ts p sorted w.0 (ts ++ c.push_links.new.edges) (c.in_ok-sort_ends.ensures ts e) w.1
    (ap (λ l. ts ++ l) (w.2 ∙ ap (λ l. l ++ w.0) c.new-links.ensures))
