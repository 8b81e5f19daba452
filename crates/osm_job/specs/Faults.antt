-- Which calls on the host failed, by the counts.
use Rattle.std.specs.Prelude.{◌≡◌, ℕ}
use Rattle.osm_host.specs.Outside.{Outside, risen, HasRisen}
use Rattle.osm_input.specs.ReadFaults.{LastReadFailed}
use Rattle.osm_job.specs.declared.ended.Ended.{Ended}
use Rattle.osm_job.specs.declared.ended.Ended.TheVariants.{Done, Warnings, Errors, Stopped, BadWords, BadInput, TooMuchInput, TooManyPieces, Refuted, BadPoint}
use Rattle.osm_job.specs.declared.ended.Ended.TheVariants.{OpenFault, ReadFault, WriteFault, OutOfMemory}
use Rattle.osm_job.specs.Cause.{Cause, by_itself, by_words, by_input, by_verdict, by_open, by_read, by_write, by_memory, cause_of}

-- the count of failed opens, one up if that ends the run
abbrev pub opens_failed : Cause → ℕ → ℕ
opens_failed by_itself count = count
opens_failed by_words count = count
opens_failed by_input count = count
opens_failed by_verdict count = count
opens_failed by_open count = risen count
opens_failed by_read count = count
opens_failed by_write count = count
opens_failed by_memory count = count

-- the count of failed writes, without that of the last line, one up if that ends the run
abbrev pub writes_failed : Cause → ℕ → ℕ
writes_failed by_itself count = count
writes_failed by_words count = count
writes_failed by_input count = count
writes_failed by_verdict count = count
writes_failed by_open count = count
writes_failed by_read count = count
writes_failed by_write count = risen count
writes_failed by_memory count = count

-- If the answer is ReadFault, exactly one read failed, the last. Otherwise none did.
abbrev pub ReadsFailed : Ended → Outside → Outside → Type 0
ReadsFailed Done before after = after.read_faults ≡ before.read_faults
ReadsFailed Warnings before after = after.read_faults ≡ before.read_faults
ReadsFailed Errors before after = after.read_faults ≡ before.read_faults
ReadsFailed (Stopped candidate) before after = after.read_faults ≡ before.read_faults
ReadsFailed (BadWords cause) before after = after.read_faults ≡ before.read_faults
ReadsFailed (BadInput line fault) before after = after.read_faults ≡ before.read_faults
ReadsFailed (TooMuchInput limit) before after = after.read_faults ≡ before.read_faults
ReadsFailed (TooManyPieces most) before after = after.read_faults ≡ before.read_faults
ReadsFailed (Refuted line) before after = after.read_faults ≡ before.read_faults
ReadsFailed (BadPoint line) before after = after.read_faults ≡ before.read_faults
ReadsFailed OpenFault before after = after.read_faults ≡ before.read_faults
ReadsFailed ReadFault before after = LastReadFailed before after
ReadsFailed WriteFault before after = after.read_faults ≡ before.read_faults
ReadsFailed OutOfMemory before after = after.read_faults ≡ before.read_faults

-- The opens and reads that failed: the one that ended the run, and no other.
pub record CountsFaults (ended : Ended) (before after : Outside) : Type 0 where
  pub opens : after.open_faults ≡ opens_failed (cause_of ended) before.open_faults
  pub reads : ReadsFailed ended before after

-- No count of faults rose, or is at its last value.
pub record NoFault (before after : Outside) : Type 0 where
  pub opens : HasRisen before.open_faults after.open_faults → ⊥
  pub reads : HasRisen before.read_faults after.read_faults → ⊥
  pub writes : HasRisen before.write_faults after.write_faults → ⊥
