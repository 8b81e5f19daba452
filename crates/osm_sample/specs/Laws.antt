-- Laws of the sample input, as statements.
use Rattle.std.specs.Prelude.{◌≡◌, ℕ, ◌*◌, ◌+◌, ◌≤◌, pos, [], ◌∷◌, Ok}
use Rattle.osm_input.specs.Reading.{IsReadAs}
use Rattle.osm_job.specs.Whole.{input_limit, longest_line}
use Rattle.osm_objects.specs.CoastWays.{coast_ways}
use Rattle.osm_sample.specs.Input.{sample_objects, sample_text}

-- Nothing is wrong with its bytes, and they are read as its objects.
abbrev pub SampleIsRead : Type 0
SampleIsRead = (n : ℕ) → 1 ≤ n → n ≤ 100 → IsReadAs input_limit longest_line (sample_text n) (Ok (sample_objects n))

-- It has one coastline way.
abbrev pub SampleHasOneCoast : Type 0
SampleHasOneCoast = (n : ℕ) → coast_ways (sample_objects n) ≡ pos (2 * (n * n) + 1) ∷ []
