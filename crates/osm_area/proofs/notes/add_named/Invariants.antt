use Rattle.std.proofs.Common.{◌≡◌, ◌++◌, take, map, filter}
use Rattle.osm_area.specs.Names.{has_name}
use Rattle.osm_area.specs.Notes.{named_twice_note}
use Rattle.osm_area.proofs.notes.add_named.Given as goal

abbrev pub invariant-loop-way : goal.invariant-loop-way
invariant-loop-way l = l.notes ≡ l.initial.notes ++ map named_twice_note (filter (has_name l.again) (take l.way-index l.ways))
