use Rattle.std.proofs.Common.{◌∙◌, sym}
use Rattle.opl_reader.proofs.KeysRead.{keys-begin, keys-on, keys-bad, keys-done, many-left, none-left}
use Rattle.opl_reader.proofs.keys.keys_of.Goals as goal

pub loop-init : goal.loop-init
loop-init c = rw c.new-keys.ensures (keys-begin c.args.text c.utf8.text)

pub returns-in_default : goal.returns-in_default
returns-in_default c = keys-done c.loop.keys c.loop.counter c.args.text.now (rw c.in_default.is at c.loop.invariant) c.loop.auto.counter-end

pub returns-in_default-2 : goal.returns-in_default-2
returns-in_default-2 c = keys-bad c.loop.keys c.in-Some.rest c.loop.counter c.args.text.now (rw c.in-Some.is at c.loop.invariant) c.next_item.result.0.now c.next_item.result.1 c.next_item.ensures.parts (sym c.in_default-2.is ∙ c.in_ok-key.ensures)

pub loop-preserved : goal.loop-preserved
loop-preserved c = rw c.in_ok-push.ensures.ok (keys-on c.loop.keys c.in-Some.rest c.loop.counter c.args.text.now (rw c.in-Some.is at c.loop.invariant) c.next_item.result.0.now c.next_item.result.1 c.next_item.ensures.parts c.in-Some-2.key c.next_item.ensures.utf8 (sym c.in-Some-2.is ∙ c.in_ok-key.ensures))

pub returns-then-is_some : goal.returns-then-is_some
returns-then-is_some c = many-left c.args.text.now c.loop.left c.loop.keys c.loop.counter c.loop.invariant (sym c.is_some.ensures ∙ c.if-is_some.true) c.loop-test.false

pub returns : goal.returns
returns c = none-left c.args.text.now c.loop.left c.loop.keys c.loop.counter c.loop.invariant (sym c.is_some.ensures ∙ c.if-is_some.false) c.loop.auto.counter-end
