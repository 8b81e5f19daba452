-- A run that writes one text.
use Rattle.std.specs.Prelude.{◌≡◌, ℕ, List, map}
use Rattle.osm_job.specs.declared.ended.Ended.TheVariants as ended
use Rattle.osm_job.specs.Sent.{to_output}
use Rattle.osm_job.specs.Whole.{Whole}

-- a text goes to the output, and that is all
abbrev pub whole_of_text : List ℕ → Whole
whole_of_text text = record { written = map to_output text; ended = ended.Done }

abbrev pub IsText : List ℕ → Whole → Type 0
IsText text whole = whole ≡ whole_of_text text
