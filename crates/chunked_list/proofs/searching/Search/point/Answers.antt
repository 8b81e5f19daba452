use Rattle.std.proofs.Common.{false, subst, sym, true, ◌≡◌}
use Rattle.std.specs.List.Sorted.{IsPartitionPoint}
use Rattle.chunked_list.proofs.Searched.{found}
use Rattle.chunked_list.proofs.searching.Search.point.Goals as goal

pub returns-in-Some-clause-point : goal.returns-in-Some-clause-point
returns-in-Some-clause-point g c = λ p told parted.
    subst (IsPartitionPoint (λ x. p x ≡ true) (λ x. p x ≡ false) c.args.self.now) (sym c.found_at.ensures)
    (found p c.args.self.now c.in-Some.place parted (c.in-Some.ensures.point p told) c.in-Some.ensures.within)

pub returns-in-None-clause-point : goal.returns-in-None-clause-point
returns-in-None-clause-point g c = λ p told parted. found p c.args.self.now c.point_anywhere.result.place parted (c.point_anywhere.ensures.point p told) c.point_anywhere.ensures.within
