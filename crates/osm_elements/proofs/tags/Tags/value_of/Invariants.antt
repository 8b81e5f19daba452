use Rattle.std.proofs.Common.{◌≡◌, length}
use Rattle.std.specs.List.{find}
use Rattle.std.specs.Str.{bytes_eq}
use Rattle.osm_elements.specs.declared.object.Tag.{Tag}
use Rattle.osm_elements.proofs.tags.Tags.value_of.Given as goal

abbrev pub invariant-loop-tag : goal.invariant-loop-tag
invariant-loop-tag l = find (λ (t : Tag). bytes_eq t.key l.key) l.rest ≡ find (λ (t : Tag). bytes_eq t.key l.key) l.self

abbrev pub decreases-loop-tag : goal.decreases-loop-tag
decreases-loop-tag l = length l.rest
