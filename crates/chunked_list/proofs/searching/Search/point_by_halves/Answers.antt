use Rattle.std.proofs.Common.{arith, ◌≡◌, ◌<◌, ◌+◌, ◌-◌, ◌/◌, false, length, slice_index_or, true}
use Rattle.std.proofs.Math.Path.{ap, sym, subst, ◌∙◌}
use Rattle.chunked_list.specs.Parted.{IsParted}
use Rattle.chunked_list.proofs.searching.Search.point_by_halves.Goals as goal

pub loop-low-init : goal.loop-low-init
loop-low-init g c =
    let size : length c.args.self.now ≡ c.self.inside.len = ap length (sym c.self.view_is) ∙ c.self.invariant.0 in
    (omega arith, omega arith, λ p told d. (λ some. absurd (omega arith), λ more. absurd (omega arith)))

pub loop-low-preserved-then-passes : goal.loop-low-preserved-then-passes
loop-low-preserved-then-passes g c =
    let low = c.loop-low.low in
    let high = c.loop-low.high in
    let middle = low + (high - low) / 2 in
    let more : low < high = c.loop-low-test.true in (
      omega arith,
      c.loop-low.invariant.1,
      λ p told d. (
        λ some. let at : middle + 1 - 1 ≡ middle = omega arith in
            subst (λ n. p (slice_index_or c.args.self.now n d) ≡ true) (sym at) (ap p (sym (c.get.ensures d)) ∙ sym (told c.get.result c.passes.result c.passes.ensures) ∙ c.if-passes.true),
        (c.loop-low.invariant.2 p told d).1,
      ),
    )

pub loop-low-preserved : goal.loop-low-preserved
loop-low-preserved g c =
    let low = c.loop-low.low in
    let high = c.loop-low.high in
    let more : low < high = c.loop-low-test.true in
    let short = c.loop-low.invariant.1 in (
      omega arith,
      omega arith,
      λ p told d. (
        (c.loop-low.invariant.2 p told d).0,
        λ inside. ap p (sym (c.get.ensures d)) ∙ sym (told c.get.result c.passes.result c.passes.ensures) ∙ c.if-passes.false,
      ),
    )

pub returns-clause-point : goal.returns-clause-point
returns-clause-point g c = λ p told d.
    let end : c.loop-low.high ≡ c.loop-low.low = omega arith in
    let (before, after) = c.loop-low.invariant.2 p told d in
    (before, subst (λ n. n < length c.args.self.now → p (slice_index_or c.args.self.now n d) ≡ false) end after)
