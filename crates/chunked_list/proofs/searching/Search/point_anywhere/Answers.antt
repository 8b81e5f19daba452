use Rattle.std.proofs.Common.{arith, ◌≡◌, ◌<◌, ◌+◌, ◌-◌, ◌/◌, false, length, slice_index_or, true}
use Rattle.std.proofs.Math.Path.{ap, sym, subst, ◌∙◌}
use Rattle.chunked_list.specs.Parted.{IsParted}
use Rattle.chunked_list.proofs.searching.Search.point_anywhere.Goals as goal

pub returns-then-fails_from-clause-point : goal.returns-then-fails_from-clause-point
returns-then-fails_from-clause-point g c = λ p told.
    let parted : IsParted p c.at_end_of_passing-there.result c.guess-guess.result =
    λ d. (c.passes_before.ensures c.if-passes_before.true p told d, c.fails_from.ensures.fails c.if-fails_from.true p told d) in
    subst (IsParted p c.args.self.now) (sym c.found_at.ensures) (subst (λ xs. IsParted p xs c.guess-guess.result) c.at_end_of_passing-there.ensures parted)

pub returns-clause-point : goal.returns-clause-point
returns-clause-point g c = λ p told. subst (IsParted p c.args.self.now) (sym c.found_at-2.ensures) (c.point_by_halves.ensures.point p told)
