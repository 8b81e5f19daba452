-- The output of a job that doesn't open it.
use Rattle.std.specs.Prelude.{◌≡◌, ℕ, List, map, take}
use Rattle.osm_host.specs.Outside.{Outside, appended, input}
use Rattle.osm_job.specs.declared.ended.Ended.{Ended}
use Rattle.osm_job.specs.Cause.{by_memory, cause_of}

-- No output was opened and nothing was written to one: the opens are of the first of these inputs.
pub record IsSpared (inputs : List (List ℕ)) (before after : Outside) : Type 0 where
  pub opened : ℕ
  pub opens : after.opens ≡ appended before.opens (map input (take opened inputs))
  pub out : after.out ≡ before.out

-- If memory ran out, the output is spared.
abbrev pub SparesOutput : List (List ℕ) → Ended → Outside → Outside → Type 0
SparesOutput inputs ended before after = cause_of ended ≡ by_memory → IsSpared inputs before after
