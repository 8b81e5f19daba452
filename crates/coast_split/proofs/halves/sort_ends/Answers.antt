use Rattle.std.proofs.Common.{subst, rules, ◌≡◌}
use Rattle.std.specs.List.Sorted.{IsPermutation}
use Rattle.std.specs.Ordering.{is_lt}
use Rattle.std.proofs.lemmas.Fn.{always_returns_same}
use Rattle.plane.specs.Sign.{is_plus}
use Rattle.osm_geom.specs.declared.point.Point.{Point}
use Rattle.coast_split.specs.Half.{line_order}
use Rattle.coast_split.proofs.LineOrders.{line-strict}
use Rattle.coast_split.proofs.halves.sort_ends.Goals as goal

pub returns : goal.returns
returns c = λ ts e. record {
  moved = subst (λ xs. IsPermutation xs c.sort_by.new.self.items) e c.in_ok-sort_by.ensures.permutation;
  sorted = c.in_ok-sort_by.ensures.sorted (λ (p q : Point). is_plus (line_order c.args.cut c.args.side p q)) (line-strict c.args.cut c.args.side)
      (always_returns_same _ (λ a r. is_lt r ≡ is_plus (line_order c.args.cut c.args.side a.0.now a.1.0.now)) _ (λ a r f' k. search rules));
}
