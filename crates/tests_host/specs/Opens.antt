-- How a host over memory keeps its list of opens. No public contract cites it.
use Rattle.std.specs.Prelude.{◌+◌, ℕ, List, [], ◌∷◌, take, drop}
use Rattle.osm_host.specs.Outside.{Opened, input, output}
use Rattle.tests_host.specs.declared.opens.Entry.{Entry}
use Rattle.tests_host.specs.declared.opens.EntryKind.{EntryKind}
use Rattle.tests_host.specs.declared.opens.EntryKind.TheVariants.{Input, Output}

-- the open of a kind and a name
abbrev pub opened_by : EntryKind → List ℕ → Opened
opened_by Input name = input name
opened_by (Output overwrite) name = output name overwrite

-- the opens whose names stand one after the other
abbrev pub opens_named : List Entry → List ℕ → List Opened
opens_named [] names = []
opens_named (entry ∷ entries) names = opened_by entry.kind (take entry.len names) ∷ opens_named entries (drop entry.len names)

-- the bytes of all names
abbrev pub names_len : List Entry → ℕ
names_len [] = 0
names_len (entry ∷ entries) = entry.len + names_len entries
