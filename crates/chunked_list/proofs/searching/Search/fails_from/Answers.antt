use Rattle.std.proofs.Common.{Bool, false, not, true, ◌≡◌}
use Rattle.std.proofs.Math.Path.{sym, ◌∙◌}
use Rattle.std.proofs.lemmas.Bool.{not-true}
use Rattle.chunked_list.proofs.searching.Search.fails_from.Goals as goal

pub returns-clause-fails : goal.returns-clause-fails
returns-clause-fails g c met p told d inside = sym (c.passes_at.ensures p told d) ∙ not-true c.passes_at.result met

not-false : (b : Bool) → not b ≡ false → b ≡ true
not-false true met = cc
not-false false met = cc

pub returns-clause-passes : goal.returns-clause-passes
returns-clause-passes g c met p told d = sym (c.passes_at.ensures p told d) ∙ not-false c.passes_at.result met
