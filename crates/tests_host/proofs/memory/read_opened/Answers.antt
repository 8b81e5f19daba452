-- What was copied, and what is left behind it.
use Rattle.std.proofs.Common.{◌≡◌, ◌+◌, sym, take, drop, arith, map}
use Rattle.std.proofs.lemmas.Grind.{common_steps}
use Rattle.std.proofs.lemmas.List.{take-append-drop, drop_min}
use Rattle.tests_host.specs.MemoryHost.{left_of_input}
use Rattle.tests_host.specs.Names.{name_and_bytes}
use Rattle.tests_host.proofs.memory.read_opened.Goals as goal

pub returns-clause-taken : goal.returns-clause-taken
returns-clause-taken c =
    let n = c.copy_prefix-count.result in
    let bytes = c.as_slice-bytes.result.now in
    let left = left_of_input (map name_and_bytes c.args.inputs.now) c.args.opened c.args.place.now in
    let after : left_of_input (map name_and_bytes c.args.inputs.now) c.args.opened (c.min-from.result + n) ≡ drop n left = grind (arith, common_steps) in
    let left_is : left ≡ drop c.args.place.now bytes = grind (arith, common_steps) in
    let same : drop c.min-from.result bytes ≡ left = grind (arith, common_steps, drop_min, left_is) in
    let copied : take n c.copy_prefix-count.new.buf ≡ take n left = grind (arith, common_steps, same, c.copy_prefix-count.ensures.copied) in
    rw (copied, after) (sym (take-append-drop n left))
