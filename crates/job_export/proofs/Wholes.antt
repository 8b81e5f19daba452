-- The header, the candidates and the footer, one behind the other.
use Rattle.std.proofs.Common.{◌≡◌, ◌∙◌, sym, ap, ap₂, subst, ℕ, List, ◌++◌, map, arith, Result, Ok, Err}
use Rattle.osm_elements.specs.declared.object.Object.{Object}
use Rattle.osm_elements.specs.declared.object.ObjectRef.{ObjectRef}
use Rattle.osm_area.specs.Outcome.{OutcomeExists}
use Rattle.osm_host.specs.Outside.{Outside}
use Rattle.osm_host.specs.declared.host.Failed.{Failed}
use Rattle.osm_objects.specs.Candidates.{candidates}
use Rattle.job_export.specs.Choice.{choice_of}
use Rattle.osm_text.specs.Report.{ProblemLineExists}
use Rattle.osm_words.specs.Job.{ExportSettings}
use Rattle.job_export.specs.declared.work.Halt.{Halt}
use Rattle.job_export.specs.declared.work.Halt.TheVariants.{Stopped, WriteFault, OutOfMemory}
use Rattle.job_export.specs.Entry.{Entry}
use Rattle.job_export.specs.Framing.{footer, header}
use Rattle.osm_job.specs.Prefix.{IsPrefix}
use Rattle.osm_job.specs.Writes.{Wrote, Added}
use Rattle.job_export.specs.ExportSteps.{HaltCause, AreEntriesOf, AreAddedBy, WroteCandidates, IsExported, WroteWhole, ended_by_halt}
use Rattle.osm_job.specs.Sent.{Sent, to_output}
use Rattle.job_export.proofs.Exports.{finished_all, finished_front, halted, header_front}
use Rattle.osm_job.proofs.Writes.{added_both}
use Rattle.osm_job.specs.Worked.{IsBegun, WroteOver}
use Rattle.job_export.specs.Export.{IsExport}

module _ (settings : ExportSettings) (objects : List Object) where
  abbrev head : List Sent
  head = map to_output (header settings.format)

  abbrev foot : List Sent
  foot = map to_output (footer settings.format)

  -- the header isn't written
  pub header_failed : OutcomeExists → ProblemLineExists → (bytes : List ℕ) → bytes ≡ header settings.format → (before now : Outside) (failed : Failed) →
      Wrote {T = Unit {0}} {E = Failed} (map to_output bytes) before now (Err failed) → WroteWhole settings objects before now (Err WriteFault)
  header_failed outcome_exists line_exists bytes is before now failed w = record {
    written = w.written;
    right = header_front settings objects outcome_exists line_exists w.written (subst (λ (xs : List ℕ). IsPrefix w.written (map to_output xs)) is w.sent);
    added = w.added;
    cause = w.counts.failed;
  }

  module _ (bytes : List ℕ) (is : bytes ≡ header settings.format) (before middle : Outside) (u : Unit {0}) (top : Wrote {T = Unit {0}} {E = Failed} (map to_output bytes) before middle (Ok u))
      (cs : List ObjectRef) (all : cs ≡ candidates (choice_of settings) objects) (next : Outside) where
    top_sent : top.written ≡ head
    top_sent = top.sent ∙ ap (map to_output) is

    behind_top : (written : List Sent) → Added written middle next → Added (head ++ written) before next
    behind_top written added = added_both head written before middle next (subst (λ (xs : List Sent). Added xs before middle) top_sent top.added) added

    rises : (halt : Halt) → HaltCause {T = Unit {0}} middle next (Err halt) → HaltCause {T = Unit {0}} before next (Err halt)
    rises (Stopped candidate) cause = cause ∙ top.counts.answered
    rises WriteFault cause = let same = top.counts.answered in omega arith
    rises OutOfMemory cause = cause ∙ top.counts.answered

    -- the candidates are broken off
    pub candidates_halted : OutcomeExists → ProblemLineExists → (halt : Halt) → WroteCandidates settings objects cs middle next (Err halt) → WroteWhole settings objects before next (Err halt)
    candidates_halted outcome_exists line_exists halt w = record {
      written = head ++ w.written;
      right = halted settings objects outcome_exists line_exists w.written halt (subst (λ (xs : List ObjectRef). AreAddedBy settings objects xs w.written (Err halt)) all w.right);
      added = behind_top w.written w.added;
      cause = rises halt w.cause;
    }

    module _ (v : Unit {0}) (body : WroteCandidates settings objects cs middle next (Ok v)) (foot_bytes : List ℕ) (foot_is : foot_bytes ≡ footer settings.format) (last : Outside) where
      abbrev es : List Entry
      es = body.right.0

      are : AreEntriesOf settings objects (candidates (choice_of settings) objects) es
      are = subst (λ (xs : List ObjectRef). AreEntriesOf settings objects xs es) all body.right.1

      behind : (written : List Sent) → Added written next last → Added (head ++ body.written ++ written) before last
      behind written added = added_both (head ++ body.written) written before next last (behind_top body.written body.added) added

      -- the footer isn't written
      pub footer_failed : (failed : Failed) → Wrote {T = Unit {0}} {E = Failed} (map to_output foot_bytes) next last (Err failed) → WroteWhole settings objects before last (Err WriteFault)
      footer_failed failed w = record {
        written = head ++ body.written ++ w.written;
        right = subst (λ (xs : List Sent). IsBegun (IsExport settings objects) (head ++ xs ++ w.written)) (sym body.right.2)
            (finished_front settings objects es w.written are (subst (λ (xs : List ℕ). IsPrefix w.written (map to_output xs)) foot_is w.sent));
        added = behind w.written w.added;
        cause = let same = top.counts.answered in let none = body.cause in let one = w.counts.failed in omega arith;
      }

      -- all is written
      pub whole_written : (t : Unit {0}) → Wrote {T = Unit {0}} {E = Failed} (map to_output foot_bytes) next last (Ok t) → WroteWhole settings objects before last (Ok tt)
      whole_written t w = record {
        written = head ++ body.written ++ w.written;
        right = finished_all settings objects es (head ++ body.written ++ w.written) are (ap₂ (λ (xs ys : List Sent). head ++ xs ++ ys) body.right.2 (w.sent ∙ ap (map to_output) foot_is));
        added = behind w.written w.added;
        cause = w.counts.answered ∙ body.cause ∙ top.counts.answered;
      }

-- ---- how the run ends

ended_over : (settings : ExportSettings) (objects : List Object) (written : List Sent) (before now : Outside) → Added written before now → (r : Result (Unit {0}) Halt) → IsExported settings objects written r →
    HaltCause {T = Unit {0}} before now r → WroteOver (IsExport settings objects) (ended_by_halt r) before now
ended_over settings objects written before now added (Ok done) right cause = record { written = written; right = right; added = added; counts = cause }
ended_over settings objects written before now added (Err (Stopped candidate)) right cause = record { written = written; right = right; added = added; counts = cause }
ended_over settings objects written before now added (Err WriteFault) right cause = record { written = written; right = right; added = added; counts = cause }
ended_over settings objects written before now added (Err OutOfMemory) right cause = record { written = written; right = right; added = added; counts = cause }

pub wrote_over : (settings : ExportSettings) (objects : List Object) (before now : Outside) (r : Result (Unit {0}) Halt) → WroteWhole settings objects before now r → WroteOver (IsExport settings objects) (ended_by_halt r) before now
wrote_over settings objects before now r w = ended_over settings objects w.written before now w.added r w.right w.cause
