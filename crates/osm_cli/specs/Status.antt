-- The statuses of the process, and what a run is whose answer is its status.
use Rattle.std.specs.Prelude.{◌≡◌, ℕ, List}
use Rattle.osm_host.specs.Outside.{Outside}
use Rattle.osm_words.specs.Words.{command_named, job_asked}
use Rattle.osm_words.specs.declared.words.Command.{Command}
use Rattle.osm_words.specs.declared.words.Command.TheVariants.{Certify, Coastline, Export, Filter, Locate, Sample, Unknown}
use Rattle.osm_job.specs.declared.ended.Ended.{Ended}
use Rattle.osm_job.specs.declared.ended.Ended.TheVariants.{Done, Warnings, Errors, BadWords, BadInput, Stopped, TooMuchInput, TooManyPieces, Refuted, BadPoint, OpenFault, ReadFault, WriteFault, OutOfMemory}
use Rattle.osm_cli.specs.Run.{Ran}

-- the statuses of every command but `coastline`, and of words that name no command
abbrev pub export_status : Ended → ℕ
export_status Done = 0
export_status Warnings = 1
export_status Errors = 1
export_status (BadWords cause) = 2
export_status (BadInput line fault) = 1
export_status (Stopped candidate) = 1
export_status (TooMuchInput limit) = 1
export_status (TooManyPieces most) = 1
export_status (Refuted line) = 1
export_status (BadPoint line) = 1
export_status OpenFault = 1
export_status ReadFault = 1
export_status WriteFault = 1
export_status OutOfMemory = 5

-- the statuses of `coastline`, like those of osmcoastline:
-- 1 for warnings, 2 for errors, 4 for the words, 3 for other failures
abbrev pub coastline_status : Ended → ℕ
coastline_status Done = 0
coastline_status Warnings = 1
coastline_status Errors = 2
coastline_status (BadWords cause) = 4
coastline_status (BadInput line fault) = 3
coastline_status (Stopped candidate) = 3
coastline_status (TooMuchInput limit) = 3
coastline_status (TooManyPieces most) = 3
coastline_status (Refuted line) = 3
coastline_status (BadPoint line) = 3
coastline_status OpenFault = 3
coastline_status ReadFault = 3
coastline_status WriteFault = 3
coastline_status OutOfMemory = 5

abbrev pub status_of : Command → Ended → ℕ
status_of Export ended = export_status ended
status_of Coastline ended = coastline_status ended
status_of Sample ended = export_status ended
status_of Filter ended = export_status ended
status_of Certify ended = export_status ended
status_of Locate ended = export_status ended
status_of Unknown ended = export_status ended

-- A run of words ended, and this is the status for it.
abbrev pub EndsWith : List (List ℕ) → ℕ → Outside → Outside → Type 0
EndsWith words status before after =
    (ended : Ended) × Ran (job_asked words) ended before after × (status ≡ status_of (command_named words) ended)
