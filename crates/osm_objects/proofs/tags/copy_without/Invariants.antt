use Rattle.std.proofs.Common.{◌≡◌, ◌++◌, length}
use Rattle.osm_objects.specs.Tags.{without_key}
use Rattle.osm_objects.proofs.tags.copy_without.Given as goal

abbrev pub invariant-loop-tag : goal.invariant-loop-tag
invariant-loop-tag l = l.copies ++ without_key l.key l.rest ≡ without_key l.key l.tags

abbrev pub decreases-loop-tag : goal.decreases-loop-tag
decreases-loop-tag l = length l.rest
