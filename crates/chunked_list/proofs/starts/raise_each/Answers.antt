use Rattle.std.proofs.Common.{arith, ◌+◌, ◌≡◌}
use Rattle.std.proofs.Math.Path.{subst}
use Rattle.chunked_list.specs.Blocks.{AreChanged}
use Rattle.chunked_list.proofs.Changed.{changed_more, changed_none}
use Rattle.chunked_list.proofs.starts.raise_each.Goals as goal

pub loop-place-init : goal.loop-place-init
loop-place-init c = (omega arith, changed_none (λ n. n + 1) c.args.from c.args.numbers.now)

pub loop-place-preserved : goal.loop-place-preserved
loop-place-preserved c =
    let (up, are) = c.loop-place.invariant in let test = c.loop-place-test.true in let within = c.requires.within in
    (omega arith, changed_more (λ n. n + 1) c.args.from c.args.numbers.now c.loop-place.numbers c.loop-place.place up (omega arith) are)

pub returns : goal.returns
returns c =
    let end : c.loop-place.place ≡ c.args.to = omega arith in
    subst (λ i. AreChanged (λ n. n + 1) c.args.from i c.args.numbers.now c.loop-place.numbers) end c.loop-place.invariant.1
