use Rattle.std.proofs.Common.{true, string_bytes, arith}
use Rattle.std.proofs.lemmas.Map.Text.{btree_set_updates_text}
use Rattle.opl_reader.specs.Steps.{tag}
use Rattle.opl_reader.proofs.TagLemmas.{keys-few, keys-more}
use Rattle.opl_reader.proofs.items.add_later_key.Goals as goal

pub returns-then-len-lt-FEW_TAGS : goal.returns-then-len-lt-FEW_TAGS
returns-then-len-lt-FEW_TAGS c = λ value. keys-few 16 c.args.later_keys.now c.args.tags.now (tag c.args.key.now value) (omega (arith, c.len.ensures)) c.requires

pub returns : goal.returns
returns c = λ value.
    keys-more 16 c.args.later_keys.now c.insert.new.self c.args.tags.now (tag c.args.key.now value) (omega (arith, c.len.ensures)) c.requires (rw c.in_ok-key.ensures.ok at (btree_set_updates_text (string_bytes c.in_ok-key.key) c.args.later_keys.now c.insert.new.self true c.in_ok-insert.ensures.updates))
