-- A job that reads nothing and writes one output: each way in which it ends.
use Rattle.std.proofs.Common.{◌≡◌, refl, sym, ◌≤◌, ◌⊎◌, [], ◌∷◌}
use Rattle.osm_host.specs.Laws.{StreamsAppend}
use Rattle.osm_host.specs.Outside.{Outside, Opened, OnlyOpens, appended, risen}
use Rattle.osm_job.proofs.Keeping.{nothing_changed}
use Rattle.osm_job.proofs.OnceRead as once
use Rattle.osm_job.specs.declared.ended.Ended.{Ended}
use Rattle.osm_job.specs.declared.ended.Ended.TheVariants.{OpenFault, OutOfMemory}
use Rattle.osm_job.specs.Cause.{by_itself, cause_of}
use Rattle.osm_job.specs.Taken.{TookNothing}
use Rattle.osm_job.specs.Texts.{Texts}
use Rattle.osm_job.specs.Whole.{Whole}
use Rattle.osm_job.specs.Worked.{WroteAlone, WroteOver}

module _ (law : StreamsAppend) (output : Opened) (IsRight : Whole → Type 0) (before : Outside) where
  abbrev Right : Texts [] → Whole → Type 0
  Right texts whole = IsRight whole

  abbrev Does : Ended → Outside → Type 0
  Does ended now = WroteAlone output IsRight ended before now

  nothing_read : once.HasRead [] Right TookNothing IsRight before before
  nothing_read = record {
    silent = record { out = refl; report = refl; write_faults = refl; keeps = nothing_changed before };
    opens = sym (law.no_opens before.opens);
    open_faults = refl;
    read_faults = refl;
    took = λ later left counted. record { left = left; bytes_read = counted };
    untouched = λ none. record { left = refl; bytes_read = refl };
    first = tt;
    right = λ whole right. right;
  }

  -- memory ran out before the output was asked for
  pub ran_out : Does OutOfMemory before
  ran_out = once.no_memory law [] (output ∷ []) Right TookNothing before IsRight before nothing_read

  -- ---- the output is asked for

  module _ (opened : Outside) (opens_only : OnlyOpens before opened) (still_left : opened.left ≡ before.left)
      (rises : before.open_faults ≤ opened.open_faults) (still_counted : opened.bytes_read ≡ before.bytes_read) where
    -- it isn't opened
    pub alone_not_opened : (whole : Whole) × IsRight whole × (cause_of whole.ended ≡ by_itself) → opened.open_faults ≡ risen before.open_faults
        → ((opened.opens ≡ appended before.opens (output ∷ [])) ⊎ (opened.opens ≡ before.opens)) → Does OpenFault opened
    alone_not_opened goes failed listed_or_not =
        once.output_not_opened law [] output Right TookNothing before IsRight before nothing_read opened opens_only still_left rises still_counted goes failed
        listed_or_not

    -- it was written, as far as the job came
    pub alone_written : (lists : opened.opens ≡ appended before.opens (output ∷ [])) (same : opened.open_faults ≡ before.open_faults) (last : Outside)
        (ended : Ended) →
        WroteOver IsRight ended opened last → Does ended last
    alone_written lists same last ended wrote =
        once.output_written law [] output Right TookNothing before IsRight before nothing_read opened opens_only still_left rises still_counted lists same last
        ended wrote
