use Rattle.std.proofs.Common.{◌≡◌, length, not}
use Rattle.std.specs.List.{list_any}
use Rattle.std.specs.Str.{bytes_eq}
use Rattle.osm_elements.specs.declared.object.Tag.{Tag}
use Rattle.osm_objects.proofs.tags.has_other_key.Given as goal

abbrev pub invariant-loop-tag : goal.invariant-loop-tag
invariant-loop-tag l = list_any (λ (t : Tag). not (bytes_eq t.key l.key)) l.rest ≡ list_any (λ (t : Tag). not (bytes_eq t.key l.key)) l.tags

abbrev pub decreases-loop-tag : goal.decreases-loop-tag
decreases-loop-tag l = length l.rest
