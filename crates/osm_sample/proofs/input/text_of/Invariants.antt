use Rattle.std.proofs.Common.{◌≡◌, take}
use Rattle.opl_writer.specs.Written.{objects_text}
use Rattle.osm_sample.proofs.input.text_of.Given as goal

abbrev pub invariant-loop-object : goal.invariant-loop-object
invariant-loop-object l = l.text.items ≡ objects_text (take l.object-index l.objects)
