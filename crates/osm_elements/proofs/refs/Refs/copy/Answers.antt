-- The same bytes hold the same references.
use Rattle.std.proofs.Common.{◌∙◌, None, ap, subst, sym}
use Rattle.osm_elements.specs.Held.{refs_behind, AreRefBytes}
use Rattle.osm_elements.proofs.refs.Refs.copy.Goals as goal

pub invariant_of-result : goal.invariant_of-result
invariant_of-result c = subst AreRefBytes (sym c.in_ok-bytes.ensures) c.self.invariant

pub returns : goal.returns
returns c = ap (refs_behind None) c.in_ok-bytes.ensures ∙ c.self.view_is
