use Rattle.std.proofs.Math.Path.{sym, ◌∙◌}
use Rattle.chunked_list.proofs.searching.Search.passes_before.Goals as goal

pub returns : goal.returns
returns g c met p told d some = sym (c.passes_at.ensures p told d) ∙ met
