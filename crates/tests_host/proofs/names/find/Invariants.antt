use Rattle.std.proofs.Common.{◌≡◌, map, drop}
use Rattle.tests_host.specs.Names.{name_and_bytes}
use Rattle.tests_host.specs.Memory.{bytes_named}
use Rattle.tests_host.proofs.names.find.Given as goal

abbrev pub invariant-loop-index : goal.invariant-loop-index
invariant-loop-index l = bytes_named (map name_and_bytes (drop l.index l.inputs)) l.name ≡ bytes_named (map name_and_bytes l.inputs) l.name
