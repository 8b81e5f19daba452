-- What a job reads, and what it opens.
use Rattle.std.specs.Prelude.{ℕ, Bool, false, true, List, [], ◌∷◌, codes}
use Rattle.osm_host.specs.Outside.{Outside, Opened, output}
use Rattle.osm_words.specs.Job.{Job, certify, coastline, export, filter, locate, sample}
use Rattle.osm_job.specs.Taken.{TookBoth, TookInput, TookNothing}

-- the names of the inputs that a job reads, in order
abbrev pub inputs_of : Job → List (List ℕ)
inputs_of (export settings) = settings.file ∷ []
inputs_of (coastline settings) = settings.file ∷ []
inputs_of (sample count) = []
inputs_of (filter settings) = settings.file ∷ []
inputs_of (certify settings) = settings.file ∷ settings.text ∷ []
inputs_of (locate settings) = settings.file ∷ settings.points ∷ []

-- the outputs that it opens
abbrev pub outputs_of : Job → List Opened
outputs_of (export settings) = output settings.output settings.overwrite ∷ []
outputs_of (coastline settings) = output settings.output settings.overwrite ∷ []
outputs_of (sample count) = output (codes "-") false ∷ []
outputs_of (filter settings) = output settings.output settings.overwrite ∷ []
outputs_of (certify settings) = []
outputs_of (locate settings) = output settings.output settings.overwrite ∷ []

-- The job makes all its output before it opens an output. `certify` opens none.
abbrev pub makes_first : Job → Bool
makes_first (export settings) = false
makes_first (coastline settings) = false
makes_first (sample count) = true
makes_first (filter settings) = true
makes_first (certify settings) = false
makes_first (locate settings) = true

-- The inputs of a job were taken to their ends and are read; a job without inputs took nothing.
abbrev pub TookAll : Job → Outside → Outside → Type 0
TookAll (export settings) before after = TookInput settings.file before after
TookAll (coastline settings) before after = TookInput settings.file before after
TookAll (sample count) before after = TookNothing before after
TookAll (filter settings) before after = TookInput settings.file before after
TookAll (certify settings) before after = TookBoth settings.file settings.text before after
TookAll (locate settings) before after = TookBoth settings.file settings.points before after
