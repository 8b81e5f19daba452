-- What a job opened.
use Rattle.std.specs.Prelude.{◌≡◌, ◌<◌, ◌≤◌, ℕ, List, [], ◌++◌, length, map, take}
use Rattle.osm_host.specs.Outside.{Outside, Opened, input, appended}
use Rattle.osm_job.specs.Cause.{Cause, by_itself, by_words, by_input, by_verdict, by_open, by_read, by_write, by_memory}
use Rattle.osm_job.specs.Taken.{IsFirstRead}

-- the opens of a job, in order
abbrev pub opens_of : List (List ℕ) → List Opened → List Opened
opens_of inputs outputs = map input inputs ++ outputs

-- The first n opens of a job were asked for: a second input only if the first is read, an output only once `IsReady` holds.
abbrev pub OpensFirst : List (List ℕ) → List Opened → (Outside → Outside → Type 0) → ℕ → Outside → Outside → Type 0
OpensFirst inputs outputs IsReady n before after =
    (after.opens ≡ appended before.opens (take n (opens_of inputs outputs)))
    × (length inputs < n → IsReady before after) × (1 < n → IsFirstRead inputs before)

-- Inputs of a job were opened, and no output.
abbrev pub OpensInputs : List (List ℕ) → List Opened → Outside → Outside → Type 0
OpensInputs inputs outputs before after =
    (n : ℕ) × (1 ≤ n) × (n ≤ length inputs)
    × (after.opens ≡ appended before.opens (take n (opens_of inputs outputs)))

-- The opens are those of the job, as far as it got. No output is asked for before `IsReady` holds.
-- A write fails only if the job has an output.
abbrev pub OpensBy : List (List ℕ) → List Opened → (Outside → Outside → Type 0) → Cause → Outside → Outside → Type 0
OpensBy inputs outputs IsReady by_itself before after = after.opens ≡ appended before.opens (opens_of inputs outputs)
OpensBy inputs outputs IsReady by_words before after = ⊥
OpensBy inputs outputs IsReady by_input before after = OpensInputs inputs outputs before after
OpensBy inputs outputs IsReady by_verdict before after = after.opens ≡ appended before.opens (map input inputs)
OpensBy inputs outputs IsReady by_open before after = (n : ℕ) × OpensFirst inputs outputs IsReady n before after
OpensBy inputs outputs IsReady by_read before after = OpensInputs inputs outputs before after
OpensBy inputs outputs IsReady by_write before after =
    (outputs ≡ [] → ⊥) × (after.opens ≡ appended before.opens (opens_of inputs outputs))
OpensBy inputs outputs IsReady by_memory before after = (n : ℕ) × OpensFirst inputs outputs IsReady n before after
