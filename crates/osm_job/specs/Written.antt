-- What a job wrote, against what is right for it over its inputs.
use Rattle.std.specs.Prelude.{◌≡◌, ◌⊎◌, List, [], Option, IfSome}
use Rattle.osm_job.specs.declared.ended.Ended.{Ended}
use Rattle.osm_job.specs.Cause.{Cause, by_itself, by_words, by_input, by_verdict, by_open, by_read, by_write, by_memory, cause_of}
use Rattle.osm_job.specs.Prefix.{IsPrefix}
use Rattle.osm_job.specs.Sent.{Sent}
use Rattle.osm_job.specs.Whole.{Whole}

-- all of what is right over the texts of the inputs, if they are known, and how it must end
abbrev pub WroteAll : {T : Type 0} → (T → Whole → Type 0) → Option T → Ended → List Sent → Type 0
WroteAll IsRight told ended written =
    IfSome told (λ texts. IsRight texts (record { written = written; ended = ended }))

-- a prefix of it, if it comes to its end
abbrev pub WrotePrefix : {T : Type 0} → (T → Whole → Type 0) → Option T → List Sent → Type 0
WrotePrefix IsRight told written =
    IfSome told (λ texts. (whole : Whole) × IsRight texts whole
    × (cause_of whole.ended ≡ by_itself) × IsPrefix written whole.written)

-- What is right over the texts comes to its end, so an output is opened for it.
abbrev pub GoesOut : {T : Type 0} → (T → Whole → Type 0) → Option T → Type 0
GoesOut IsRight told = IfSome told (λ texts. (whole : Whole) × IsRight texts whole × (cause_of whole.ended ≡ by_itself))

-- What was written, without the last line, is right for the inputs of a job, by what ended the run.
abbrev pub IsWrittenBy : {T : Type 0} → (T → Whole → Type 0) → Cause → Option T → Ended → List Sent → Type 0
IsWrittenBy IsRight by_itself told ended written = WroteAll IsRight told ended written
IsWrittenBy IsRight by_words told ended written = ⊥
IsWrittenBy IsRight by_input told ended written = (written ≡ []) × WroteAll IsRight told ended written
IsWrittenBy IsRight by_verdict told ended written = (written ≡ []) × WroteAll IsRight told ended written
IsWrittenBy IsRight by_open told ended written = written ≡ []
IsWrittenBy IsRight by_read told ended written = written ≡ []
IsWrittenBy IsRight by_write told ended written = WrotePrefix IsRight told written
IsWrittenBy IsRight by_memory told ended written = (written ≡ []) ⊎ WrotePrefix IsRight told written
