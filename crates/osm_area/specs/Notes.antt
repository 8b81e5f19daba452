-- What is noted of a candidate.
use Rattle.std.specs.Prelude.{◌≡◌, List, [], ◌∷◌, ◌++◌, map, ℤ}
use Rattle.osm_lattice.specs.declared.seg.Seg.{Seg}
use Rattle.osm_elements.specs.declared.object.ObjectRef.{ObjectRef}
use Rattle.osm_objects.specs.declared.problem.Note.{Note}
use Rattle.osm_objects.specs.declared.problem.Note.TheVariants.{NamedTwice, Repeated}
use Rattle.osm_segments.specs.declared.counts.Repeat.{Repeat}
use Rattle.osm_segments.specs.Repeats.{AreRepeats}

abbrev pub named_twice_note : ℤ → Note
named_twice_note way = NamedTwice way

abbrev pub repeated_note : Repeat → Note
repeated_note r = Repeated r.seg r.times

-- each way that is named at least twice, and then, where nothing is missing, each segment that stands at least twice
abbrev pub AreNotesGiven : List ObjectRef → List ℤ → List Seg → List Note → Type 0
AreNotesGiven [] ways segments notes =
    (repeats : List Repeat) × (AreRepeats segments repeats × (notes ≡ map named_twice_note ways ++ map repeated_note repeats))
AreNotesGiven (r ∷ missing) ways segments notes = notes ≡ map named_twice_note ways

-- those, and then the notes on roles
abbrev pub AreNotesBefore : List ObjectRef → List ℤ → List Seg → (roles notes : List Note) → Type 0
AreNotesBefore missing ways segments roles notes = (shared : List Note) × (AreNotesGiven missing ways segments shared × (notes ≡ shared ++ roles))

-- notes on segments that stand at least twice were added
abbrev pub AddsRepeats : List Seg → (before after : List Note) → Type 0
AddsRepeats segments before after =
    (repeats : List Repeat) × (AreRepeats segments repeats × (after ≡ before ++ map repeated_note repeats))
