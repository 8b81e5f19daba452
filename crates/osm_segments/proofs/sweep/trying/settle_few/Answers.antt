use Rattle.std.proofs.Common.{Contains, subst, sym}
use Rattle.std.proofs.lemmas.List.Sorted.{Contains-permutation}
use Rattle.std.proofs.lemmas.Result.{on_ok_weaker}
use Rattle.osm_segments.proofs.TriedPairs.{told_by_few}
use Rattle.osm_segments.proofs.sweep.trying.settle_few.Goals as goal

pub returns-clause-told : goal.returns-clause-told
returns-clause-told c =
    on_ok_weaker c.try_few.result
    (λ tried. told_by_few c.args.segs.now c.args.aside.items c.deref.result.now c.deref-2.result.now c.try_few.new.told.items c.in-Ok.count c.in-Ok.ensures.1 c.requires.others
    (λ s a. subst (λ xs. Contains xs s) (sym c.deref.ensures.value) (Contains-permutation c.args.aside.items c.sort_unstable.new.self.items s c.sort_unstable.ensures.permutation a))
    (λ i d l a. subst (λ xs. Contains xs i) (sym c.deref-2.ensures.value) (c.in_ok-few.ensures i d l a))
    tried)
    c.try_few.ensures.tried
