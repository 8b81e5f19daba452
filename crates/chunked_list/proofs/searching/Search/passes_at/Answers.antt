use Rattle.std.proofs.Math.Path.{ap, ◌∙◌}
use Rattle.chunked_list.proofs.searching.Search.passes_at.Goals as goal

pub returns : goal.returns
returns g c p told d = told c.get.result c.passes.result c.passes.ensures ∙ ap p (c.get.ensures d)
