use Rattle.std.proofs.Common.{◌∙◌, sym, ap, ◌++◌, List, ℕ}
use Rattle.osm_elements.proofs.CompactLemmas.{digit_more, last_digit, still_front}
use Rattle.osm_elements.proofs.compact.push_number.Goals as goal

pub loop-left-preserved : goal.loop-left-preserved
loop-left-preserved c = (
  digit_more _ c.loop-left.bytes c.push.new.self c.loop-left.left c.loop-left-test.true c.in_ok-push.ensures.ok c.loop-left.invariant.0,
  still_front c.args.bytes.now c.loop-left.bytes c.push.new.self _ c.in_ok-push.ensures.ok c.loop-left.invariant.1,
)

pub returns-clause-ok : goal.returns-clause-ok
returns-clause-ok c =
    c.in_ok-push-2.ensures.ok ∙ ap (λ (ds : List ℕ). c.loop-left.bytes ++ ds) (sym (last_digit c.loop-left.left c.loop-left-test.false)) ∙ c.loop-left.invariant.0
