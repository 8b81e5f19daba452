use Rattle.std.proofs.Common.{◌∙◌, sym}
use Rattle.opl_reader.specs.NumberReading.{is_point}
use Rattle.opl_reader.proofs.CutLemmas.{before-none, after-none, before-some, after-some, after-all}
use Rattle.opl_reader.proofs.number.cut_at_point.Goals as goal

pub returns-then-len-text-clause-whole : goal.returns-then-len-text-clause-whole
returns-then-len-text-clause-whole c = before-none is_point c.args.text.now (sym c.first_cut-len.ensures.value ∙ c.if-len-text.true)

pub returns-then-len-text-clause-decimals : goal.returns-then-len-text-clause-decimals
returns-then-len-text-clause-decimals c = after-all c.args.text.now c.first_cut-len.result c.if-len-text.true ∙ after-none is_point c.args.text.now (sym c.first_cut-len.ensures.value ∙ c.if-len-text.true)

pub returns-clause-whole : goal.returns-clause-whole
returns-clause-whole c = before-some is_point c.args.text.now c.first_cut-len.result (sym c.first_cut-len.ensures.value)

pub returns-clause-decimals : goal.returns-clause-decimals
returns-clause-decimals c = after-some is_point c.args.text.now c.first_cut-len.result (sym c.first_cut-len.ensures.value)
