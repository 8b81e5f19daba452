use Rattle.std.proofs.Common.{◌≡◌, filter}
use Rattle.osm_objects.specs.Object.{is_live}
use Rattle.osm_sample.proofs.objects.store_of.Given as goal

abbrev pub invariant-loop-object : goal.invariant-loop-object
invariant-loop-object l = l.store ≡ filter is_live l.yielded
