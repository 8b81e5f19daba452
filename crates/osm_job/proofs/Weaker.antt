-- What was written is right for more, where it is right for something narrower.
use Rattle.std.proofs.Common.{List}
use Rattle.osm_host.specs.Outside.{Outside}
use Rattle.osm_job.specs.declared.ended.Ended.{Ended}
use Rattle.osm_job.specs.Cause.{Cause, by_input, by_itself, by_memory, by_open, by_verdict, by_read, by_words, by_write, cause_of}
use Rattle.osm_job.specs.Sent.{Sent}
use Rattle.osm_job.specs.Whole.{Whole}
use Rattle.osm_job.specs.Worked.{IsWrittenOver, WroteOver}

module _ (P Q : Whole → Type 0) (weaker : (whole : Whole) → P whole → Q whole) where
  over : (cause : Cause) (ended : Ended) (written : List Sent) → IsWrittenOver P cause ended written → IsWrittenOver Q cause ended written
  over by_itself ended written is = weaker (record { written = written; ended = ended }) is
  over by_words ended written is = is
  over by_input ended written is = is
  over by_verdict ended written is = is
  over by_open ended written is = is
  over by_read ended written is = is
  over by_write ended written is = (is.0, weaker is.0 is.1, is.2, is.3)
  over by_memory ended written is = (is.0, weaker is.0 is.1, is.2, is.3)

  pub wrote_weaker : (ended : Ended) (before now : Outside) → WroteOver P ended before now → WroteOver Q ended before now
  wrote_weaker ended before now w = record { written = w.written; right = over (cause_of ended) ended w.written w.right; added = w.added; counts = w.counts }
