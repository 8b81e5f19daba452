-- The text of the coast is right.
use Rattle.std.proofs.Common.{◌≡◌, refl, ap, ℕ, List, map}
use Rattle.osm_elements.specs.declared.object.Object.{Object}
use Rattle.osm_host.specs.Outside.{Outside}
use Rattle.osm_job.specs.InputRead.{HasInput}
use Rattle.osm_job.specs.Sent.{to_output}
use Rattle.osm_job.specs.TextWhole.{whole_of_text}
use Rattle.osm_job.specs.Whole.{input_limit, longest_line}
use Rattle.job_small.specs.Filtering.Filter.{IsFilter, coast_text}
use Rattle.job_small.specs.Filtering.Laws.{FiltersExist}

-- the text that is made of the objects of an input is what the job is to write
module _ (name : List ℕ) (objects : List Object) (before now : Outside) where
  pub text_right : (text : List ℕ) → HasInput name objects before now → FiltersExist → text ≡ coast_text objects → IsFilter objects (whole_of_text text)
  text_right text has there is =
      let all = there input_limit longest_line has.took.taken objects has.took.answer.1 in record { written = ap (map to_output) is; ended = refl; same = all.1.same }
