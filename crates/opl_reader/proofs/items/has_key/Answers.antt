use Rattle.std.proofs.Common.{◌∙◌}
use Rattle.opl_reader.proofs.TagLemmas.{any-later-few, any-early-few}
use Rattle.opl_reader.proofs.items.has_key.Goals as goal

pub returns-then-is_key_among_few : goal.returns-then-is_key_among_few
returns-then-is_key_among_few c = c.if-is_key_among_few.true ∙ any-early-few 16 c.args.key.now c.args.tags.now c.if-is_key_among_few.ensures

pub returns-else-is_key_among_few : goal.returns-else-is_key_among_few
returns-else-is_key_among_few c = any-later-few 16 c.args.key.now c.args.tags.now c.contains.result c.if-is_key_among_few.ensures (c.contains.ensures ∙ c.requires c.args.key.now)
