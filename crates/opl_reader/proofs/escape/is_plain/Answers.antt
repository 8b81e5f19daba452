use Rattle.std.proofs.Common.{◌==◌, ◌∙◌, sym}
use Rattle.std.proofs.lemmas.Bool.{eqb-true}
use Rattle.opl_reader.proofs.CutLemmas.{split-none}
use Rattle.opl_reader.proofs.StringLemmas.{string-plain}
use Rattle.opl_reader.proofs.escape.is_plain.Goals as goal

pub returns : goal.returns
returns c = λ is. string-plain c.args.text.now (split-none (λ b. b == 37) c.args.text.now (sym (rw c.as_bytes.ensures.value at c.first_cut.ensures.value) ∙ eqb-true _ _ is))
