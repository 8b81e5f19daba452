use Rattle.std.proofs.Common.{◌∙◌, sym, arith}
use Rattle.opl_reader.proofs.KeysRead.{after-begin, after-done, after-bad, after-on, after-end}
use Rattle.opl_reader.proofs.keys.is_keys.Goals as goal

pub loop-init : goal.loop-init
loop-init c = after-begin c.args.text c.utf8.text

pub returns-in_default : goal.returns-in_default
returns-in_default c = after-done c.loop.left c.loop.counter c.args.text.now c.loop.invariant c.in_default.is c.loop.auto.counter-end

pub returns-then-not-is_key : goal.returns-then-not-is_key
returns-then-not-is_key c = after-bad c.in-Some.rest c.loop.counter c.args.text.now c.next_item.result.0.now c.next_item.result.1 (rw c.in-Some.is at c.loop.invariant) c.next_item.ensures.parts (sym c.is_key.ensures ∙ c.if-not-is_key.true)

pub loop-preserved : goal.loop-preserved
loop-preserved c = after-on c.in-Some.rest c.loop.counter c.args.text.now c.next_item.result.0.now c.next_item.result.1 (rw c.in-Some.is at c.loop.invariant) c.next_item.ensures.parts c.next_item.ensures.utf8 (sym c.is_key.ensures ∙ c.if-not-is_key.false)

pub returns : goal.returns
returns c =
    let end = c.loop-test.false in
    let most = c.loop.auto.counter-end in
    after-end c.loop.left c.loop.counter c.args.text.now c.is_none.result c.loop.invariant (omega arith) (sym c.is_none.ensures)
