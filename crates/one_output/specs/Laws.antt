-- What a run must write in all is a function of its job and its inputs, as statements.
use Rattle.std.specs.Prelude.{Bool, List, Result, true, ℕ, [], ◌↔◌, ◌∷◌, ◌≡◌, ◌⊎◌}
use Rattle.osm_elements.specs.declared.object.Object.{Object}
use Rattle.osm_words.specs.Job.{ExportSettings, Job}
use Rattle.osm_words.specs.declared.fault.WordsFault.{WordsFault}
use Rattle.osm_host.specs.Outside.{Outside}
use Rattle.osm_job.specs.Cause.{cause_of}
use Rattle.job_export.specs.Entry.{Entry, IsEntry}
use Rattle.osm_job.specs.Texts.{Texts}
use Rattle.osm_cli.specs.Job.{inputs_of}
use Rattle.osm_input.specs.Reading.{IsReadAs}
use Rattle.osm_job.specs.Prefix.{IsPrefix}
use Rattle.osm_cli.specs.Run.{Writes}
use Rattle.osm_job.specs.Whole.{Whole, input_limit, longest_line}
use Rattle.job_export.specs.Export.{IsExport}
use Rattle.osm_cli.specs.Whole.{IsWhole}
use Rattle.osm_job.specs.declared.ended.Ended.{Ended}
use Rattle.osm_input.specs.declared.reading.ReadError.{ReadError}
use Rattle.osm_input.specs.Text.{IsTextAs}
use Rattle.osm_input.specs.declared.text.TextError.{TextError}
use Rattle.one_output.specs.Right.{AllRunsKeepTo, AreTold, IsRightForWords, TextsOf, is_unbroken}

-- an input is read as at most one thing
abbrev pub ReadingIsOne : Type 0
ReadingIsOne =
    (limit longest : ℕ) (bytes : List ℕ) (r s : Result (List Object) ReadError) →
    IsReadAs limit longest bytes r → IsReadAs limit longest bytes s → r ≡ s

-- a candidate adds at most one thing
abbrev pub EntryIsOne : Type 0
EntryIsOne =
    (show_errors : Bool) (objects : List Object) (e f : Entry) → e.candidate ≡ f.candidate →
    IsEntry show_errors objects e → IsEntry show_errors objects f → e ≡ f

-- an export of objects has at most one whole
abbrev pub ExportIsOne : Type 0
ExportIsOne =
    (settings : ExportSettings) (objects : List Object) (v w : Whole) → IsExport settings objects v →
    IsExport settings objects w → v ≡ w

-- a job has at most one right list of what is written over the texts of its inputs, and one ending
abbrev pub WholeIsOne : Type 0
WholeIsOne =
    (job : Job) (texts : Texts (inputs_of job)) (v w : Whole) →
    IsWhole job texts v → IsWhole job texts w → v ≡ w

-- both texts are read as the same objects, or refused alike
abbrev pub IsReadAlike : List ℕ → List ℕ → Type 0
IsReadAlike text more =
    (r : Result (List Object) ReadError)
    × IsReadAs input_limit longest_line text r × IsReadAs input_limit longest_line more r

-- both are one text within the limit, or both pass it
abbrev pub IsTakenAlike : List ℕ → List ℕ → Type 0
IsTakenAlike text more =
    (r : Result (List ℕ) TextError)
    × IsTextAs input_limit text r × IsTextAs input_limit more r

-- these texts, which hold no objects, are each taken as the other one of its name is
abbrev pub AreTakenAlike : (names : List (List ℕ)) → Texts names → Texts names → Type 0
AreTakenAlike [] texts more = Unit {0}
AreTakenAlike (name ∷ names) texts more =
    IsTakenAlike texts.0 more.0 × AreTakenAlike names texts.1 more.1

-- each of these texts is read as the other one of its name is: the first as objects, a second as plain text
abbrev pub AreReadAlike : (names : List (List ℕ)) → Texts names → Texts names → Type 0
AreReadAlike [] texts more = Unit {0}
AreReadAlike (name ∷ names) texts more =
    IsReadAlike texts.0 more.0 × AreTakenAlike names texts.1 more.1

-- It depends only on the objects of the input, and on the bytes of a second one.
-- So it is the same for inputs that are read as the same objects, however they are spelled, and for inputs that are refused
-- alike.
abbrev pub ObjectsTellTheWhole : Type 0
ObjectsTellTheWhole =
    (job : Job) (texts more : Texts (inputs_of job)) (v w : Whole) →
    AreReadAlike (inputs_of job) texts more → IsWhole job texts v → IsWhole job more w → v ≡ w

-- For all words and texts of their inputs there is exactly one right list of what is written, and one ending.
-- The list is of what goes to the output and to the report, in order. Every run with these words over these texts, on any
-- host, writes a prefix of that list. Unless the host or memory failed it writes all of it and has that ending.
abbrev pub RunsKeepToTheWhole : Type 0
RunsKeepToTheWhole =
    (words : Result Job WordsFault) (texts : TextsOf words) →
    (whole : Whole)
    × ((other : Whole) → IsRightForWords words texts other ↔ (other ≡ whole))
    × AllRunsKeepTo words texts whole

-- Two runs with the same words over the same texts, on any hosts, write the same in the same order and end alike.
-- The exception is that the host or memory failed in one of them.
abbrev pub RunsAgree : Type 0
RunsAgree =
    (words : Result Job WordsFault) (texts : TextsOf words)
    (ended : Ended) (before after : Outside) (run : Writes words ended before after)
    (ended_2 : Ended) (before_2 after_2 : Outside) (run_2 : Writes words ended_2 before_2 after_2) →
    AreTold before words texts → AreTold before_2 words texts →
    is_unbroken (cause_of ended) ≡ true → is_unbroken (cause_of ended_2) ≡ true →
    (run.written ≡ run_2.written) × (ended ≡ ended_2)

-- Whatever ended them, what one of them wrote is a prefix of what the other wrote.
abbrev pub RunsDontPart : Type 0
RunsDontPart =
    (words : Result Job WordsFault) (texts : TextsOf words)
    (ended : Ended) (before after : Outside) (run : Writes words ended before after)
    (ended_2 : Ended) (before_2 after_2 : Outside) (run_2 : Writes words ended_2 before_2 after_2) →
    AreTold before words texts → AreTold before_2 words texts →
    IsPrefix run.written run_2.written ⊎ IsPrefix run_2.written run.written
