-- A text is written.
use Rattle.std.proofs.Common.{◌≡◌, refl, sym, ap, subst, ℕ, List, map, Ok, Err}
use Rattle.osm_host.specs.Outside.{Outside}
use Rattle.osm_host.specs.declared.host.Failed.{Failed}
use Rattle.osm_job.proofs.Weaker.{wrote_weaker}
use Rattle.osm_job.specs.Sent.{Sent, to_output}
use Rattle.osm_job.specs.TextWhole.{IsText, whole_of_text}
use Rattle.osm_job.specs.Whole.{Whole}
use Rattle.osm_job.specs.Worked.{WroteOver}
use Rattle.osm_job.specs.Writes.{Wrote}
use Rattle.osm_job.specs.declared.ended.Ended.{Ended}
use Rattle.osm_job.specs.declared.ended.Ended.TheVariants as ended

module _ (text : List ℕ) (before now : Outside) where
  pub all_written : (done : Unit {0}) → Wrote {T = Unit {0}} {E = Failed} (map to_output text) before now (Ok done) → WroteOver (IsText text) ended.Done before now
  all_written done w = record {
    written = w.written;
    right = ap (λ (sent : List Sent). record { written = sent; ended = ended.Done }) w.sent;
    added = w.added;
    counts = w.counts.answered;
  }

  pub front_written : (failed : Failed) → Wrote {T = Unit {0}} {E = Failed} (map to_output text) before now (Err failed) → WroteOver (IsText text) ended.WriteFault before now
  front_written failed w = record { written = w.written; right = (whole_of_text text, refl, refl, w.sent); added = w.added; counts = w.counts.failed }

-- what is right for a text is right, where the whole of that text is
pub right_written : (IsRight : Whole → Type 0) (text : List ℕ) → IsRight (whole_of_text text) → (ended : Ended) (before now : Outside) → WroteOver (IsText text) ended before now → WroteOver IsRight ended before now
right_written IsRight text right = wrote_weaker (IsText text) IsRight (λ whole is. subst IsRight (sym is) right)
