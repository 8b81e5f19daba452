-- Which command the words of a run name, and what they ask for.
use Rattle.std.specs.Prelude.{ℕ, List, [], ◌∷◌, Result, Ok, Err, codes, if◌then◌else◌}
use Rattle.std.specs.Str.{bytes_eq}
use Rattle.osm_words.specs.Job.{Job, certify, coastline, export, filter, locate, sample}
use Rattle.osm_words.specs.CertifyWords.{certify_asked}
use Rattle.osm_words.specs.CoastlineWords.{coastline_asked}
use Rattle.osm_words.specs.ExportWords.{export_asked}
use Rattle.osm_words.specs.FilterWords.{filter_asked}
use Rattle.osm_words.specs.LocateWords.{locate_asked}
use Rattle.osm_words.specs.SampleWords.{sample_asked}
use Rattle.osm_words.specs.declared.words.Command.{Command}
use Rattle.osm_words.specs.declared.words.Command.TheVariants.{Certify, Coastline, Export, Filter, Locate, Sample, Unknown}
use Rattle.osm_words.specs.declared.fault.WordsFault.{WordsFault}
use Rattle.osm_words.specs.declared.fault.WordsFault.TheVariants.{NoCommand, UnknownCommand}

-- the command that the first word names
abbrev pub command_named : List (List ℕ) → Command
command_named [] = Unknown
command_named (first ∷ words) =
    if bytes_eq first (codes "export") then Export
    else if bytes_eq first (codes "coastline") then Coastline
    else if bytes_eq first (codes "sample") then Sample
    else if bytes_eq first (codes "coast-filter") then Filter
    else if bytes_eq first (codes "certify") then Certify
    else if bytes_eq first (codes "locate") then Locate else Unknown

-- why words that name no command aren't taken
abbrev pub unnamed_cause : List (List ℕ) → WordsFault
unnamed_cause [] = NoCommand
unnamed_cause (first ∷ words) = UnknownCommand

-- the job of a command's settings
abbrev pub as_job : {S : Type 0} → (S → Job) → Result S WordsFault → Result Job WordsFault
as_job job (Ok settings) = Ok (job settings)
as_job job (Err fault) = Err fault

abbrev pub asked_of : Command → List (List ℕ) → Result Job WordsFault
asked_of Export words = as_job export (export_asked words)
asked_of Coastline words = as_job coastline (coastline_asked words)
asked_of Sample words = as_job sample (sample_asked words)
asked_of Filter words = as_job filter (filter_asked words)
asked_of Certify words = as_job certify (certify_asked words)
asked_of Locate words = as_job locate (locate_asked words)
asked_of Unknown words = Err (unnamed_cause words)

-- what the words of a run ask for, or why they aren't taken
abbrev pub job_asked : List (List ℕ) → Result Job WordsFault
job_asked words = asked_of (command_named words) words
