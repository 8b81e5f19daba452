-- What ends a run.
use Rattle.osm_job.specs.declared.ended.Ended.{Ended}
use Rattle.osm_job.specs.declared.ended.Ended.TheVariants.{Done, Warnings, Errors, Stopped, BadWords, BadInput, TooMuchInput, TooManyPieces, Refuted, BadPoint}
use Rattle.osm_job.specs.declared.ended.Ended.TheVariants.{OpenFault, ReadFault, WriteFault, OutOfMemory}

pub data Cause : Type 0 where
  -- it came to its end
  by_itself : Cause
  -- its words are refused
  by_words : Cause
  -- its input is refused for its contents
  by_input : Cause
  -- its inputs are read to their ends, and their contents allow no output
  by_verdict : Cause
  -- an open failed, a read, a write
  by_open : Cause
  by_read : Cause
  by_write : Cause
  -- memory ran out
  by_memory : Cause

abbrev pub cause_of : Ended → Cause
cause_of Done = by_itself
cause_of Warnings = by_itself
cause_of Errors = by_itself
cause_of (Stopped candidate) = by_itself
cause_of (BadWords cause) = by_words
cause_of (BadInput line fault) = by_input
cause_of (TooMuchInput limit) = by_input
cause_of (TooManyPieces most) = by_verdict
cause_of (Refuted line) = by_verdict
cause_of (BadPoint line) = by_verdict
cause_of OpenFault = by_open
cause_of ReadFault = by_read
cause_of WriteFault = by_write
cause_of OutOfMemory = by_memory
