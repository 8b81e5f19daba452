-- What was written of an export, against a right whole.
use Rattle.std.proofs.Common.{◌≡◌, refl, sym, ap, subst, List, [], ◌∷◌, ◌++◌, map, Ok, Err}
use Rattle.osm_elements.specs.declared.object.Object.{Object}
use Rattle.osm_elements.specs.declared.object.ObjectRef.{ObjectRef}
use Rattle.osm_area.specs.Outcome.{OutcomeExists}
use Rattle.osm_objects.specs.Candidates.{candidates}
use Rattle.job_export.specs.Choice.{choice_of}
use Rattle.osm_text.specs.Report.{ProblemLineExists}
use Rattle.osm_words.specs.Job.{ExportSettings}
use Rattle.job_export.specs.declared.work.Halt.{Halt}
use Rattle.job_export.specs.declared.work.Halt.TheVariants.{Stopped, WriteFault, OutOfMemory}
use Rattle.job_export.specs.Entry.{Entry, entries_sent}
use Rattle.job_export.specs.Framing.{footer, header}
use Rattle.osm_job.specs.Cause.{by_itself, cause_of}
use Rattle.osm_job.specs.Prefix.{IsPrefix}
use Rattle.job_export.specs.ExportSteps.{AreEntriesOf, StopsAt, IsPrefixOf, going, stopping, AreAddedBy, IsExported}
use Rattle.osm_job.specs.Sent.{Sent, to_output}
use Rattle.osm_job.specs.Whole.{Whole}
use Rattle.osm_job.specs.Worked.{IsBegun}
use Rattle.job_export.specs.Laws.{ExportExists}
use Rattle.job_export.specs.Export.{IsExport, finished, stopped, finished_whole, stopped_whole}
use Rattle.job_export.proofs.Entries.{features_of, sent_behind, both_entries, stops_behind, no_entries, Rest, all_go, one_stops, rest_exists}
use Rattle.osm_job.proofs.Prefixes.{whole_prefix, prefix_behind, prefix_of_longer, prefix_again}

module _ (settings : ExportSettings) (objects : List Object) where
  abbrev all : List ObjectRef
  all = candidates (choice_of settings) objects

  abbrev head : List Sent
  head = map to_output (header settings.format)

  abbrev foot : List Sent
  foot = map to_output (footer settings.format)

  abbrev sent : List Entry → List Sent
  sent entries = entries_sent settings objects 0 entries

  is_finished : (es : List Entry) → AreEntriesOf settings objects all es → IsExport settings objects (finished_whole settings objects es)
  is_finished es are = finished es are.in_order are.right are.go_on refl

  is_stopped : (es : List Entry) (last : Entry) → StopsAt settings objects all es last → IsExport settings objects (stopped_whole settings objects es last)
  is_stopped es last at = stopped es last at.later at.stops at.in_order at.right at.last_right at.areas at.problems refl

  -- ---- all of it

  pub finished_all : (es : List Entry) (written : List Sent) → AreEntriesOf settings objects all es → written ≡ head ++ sent es ++ foot → IsExported settings objects written (Ok tt)
  finished_all es written are is = rw is (is_finished es are)

  pub stopped_all : (es : List Entry) (last : Entry) (c : ObjectRef) (written : List Sent) → StopsAt settings objects all es last → c ≡ last.candidate → written ≡ head ++ sent (es ++ last ∷ []) →
      IsExported settings objects written (Err (Stopped c))
  stopped_all es last c written at same is = rw (same, is) (is_stopped es last at)

  -- ---- prefixes

  shorter : (xs ys : List Sent) → IsPrefix xs ys → IsBegun (IsExport settings objects) ys → IsBegun (IsExport settings objects) xs
  shorter xs ys front begun = (begun.0, begun.1, begun.2, prefix_again xs ys begun.0.written front begun.3)

  pub stopped_front : (es : List Entry) (last : Entry) → StopsAt settings objects all es last → IsBegun (IsExport settings objects) (head ++ sent (es ++ last ∷ []))
  stopped_front es last at = (stopped_whole settings objects es last, is_stopped es last at, refl, whole_prefix (head ++ sent (es ++ last ∷ [])))

  pub finished_front : (es : List Entry) (foot_written : List Sent) → AreEntriesOf settings objects all es → IsPrefix foot_written foot → IsBegun (IsExport settings objects) (head ++ sent es ++ foot_written)
  finished_front es foot_written are front = (finished_whole settings objects es, is_finished es are, refl, prefix_behind (head ++ sent es) foot_written foot front)

  more_front : (es fs : List Entry) → IsPrefix (head ++ sent es) (head ++ sent (es ++ fs))
  more_front es fs = prefix_behind head (sent es) (sent (es ++ fs)) (record { rest = entries_sent settings objects (features_of es) fs; whole = sent_behind settings objects es fs })

  more : (first later : List ObjectRef) (es : List Entry) → all ≡ first ++ later → AreEntriesOf settings objects first es → Rest settings objects later → IsBegun (IsExport settings objects) (head ++ sent es)
  more first later es parted are (all_go fs rest) =
      let both : AreEntriesOf settings objects all (es ++ fs) = subst (λ (cs : List ObjectRef). AreEntriesOf settings objects cs (es ++ fs)) (sym parted) (both_entries settings objects first later es fs are rest) in
      shorter (head ++ sent es) (head ++ sent (es ++ fs) ++ foot) (prefix_of_longer (head ++ sent es) (head ++ sent (es ++ fs)) foot (more_front es fs)) (finished_front (es ++ fs) foot both (whole_prefix foot))
  more first later es parted are (one_stops fs last rest) =
      let both : StopsAt settings objects all (es ++ fs) last = subst (λ (cs : List ObjectRef). StopsAt settings objects cs (es ++ fs) last) (sym parted) (stops_behind settings objects first later es fs last are rest) in
      shorter (head ++ sent es) (head ++ sent ((es ++ fs) ++ last ∷ []))
      (prefix_again (head ++ sent es) (head ++ sent (es ++ fs)) (head ++ sent ((es ++ fs) ++ last ∷ [])) (more_front es fs) (more_front (es ++ fs) (last ∷ [])))
      (stopped_front (es ++ fs) last both)

  module _ (outcome_exists : OutcomeExists) (line_exists : ProblemLineExists) where
    -- From entries for the first candidates to a right whole that begins with them.
    pub begins : (first later : List ObjectRef) (es : List Entry) → all ≡ first ++ later → AreEntriesOf settings objects first es → IsBegun (IsExport settings objects) (head ++ sent es)
    begins first later es parted are = more first later es parted are (rest_exists outcome_exists line_exists settings objects later)

    pub fronts : (written : List Sent) → IsPrefixOf settings objects all written → IsBegun (IsExport settings objects) (head ++ written)
    fronts written (going first later es parted are front) = shorter (head ++ written) (head ++ sent es) (prefix_behind head written (sent es) front) (begins first later es parted are)
    fronts written (stopping es last at front) =
        shorter (head ++ written) (head ++ sent (es ++ last ∷ [])) (prefix_behind head written (sent (es ++ last ∷ [])) front) (stopped_front es last at)

    -- the header alone, or a prefix of it
    pub header_front : (written : List Sent) → IsPrefix written head → IsBegun (IsExport settings objects) written
    header_front written front = shorter written (head ++ sent []) (prefix_of_longer written head [] front) (begins [] all [] refl (no_entries settings objects))

    -- the candidates broken off
    pub halted : (written : List Sent) (halt : Halt) → AreAddedBy settings objects all written (Err halt) → IsExported settings objects (head ++ written) (Err halt)
    halted written (Stopped c) right = stopped_all right.0 right.1 c (head ++ written) right.2 right.3 (ap (λ (xs : List Sent). head ++ xs) right.4)
    halted written WriteFault right = fronts written right
    halted written OutOfMemory right = fronts written right

    -- ---- that there is a whole

    whole_by : Rest settings objects all → (whole : Whole) × IsExport settings objects whole
    whole_by (all_go es are) = (finished_whole settings objects es, is_finished es are)
    whole_by (one_stops es last at) = (stopped_whole settings objects es last, is_stopped es last at)

    pub export_there : (whole : Whole) × IsExport settings objects whole
    export_there = whole_by (rest_exists outcome_exists line_exists settings objects all)

-- ---- an export comes to its end
export_ends : (settings : ExportSettings) (objects : List Object) (whole : Whole) → IsExport settings objects whole → cause_of whole.ended ≡ by_itself
export_ends settings objects whole (finished entries of are all is) = ap (λ (w : Whole). cause_of w.ended) is
export_ends settings objects whole (stopped entries last later stops of are at areas none is) = ap (λ (w : Whole). cause_of w.ended) is

pub export_goes_out : ExportExists → (settings : ExportSettings) (objects : List Object) → (whole : Whole) × IsExport settings objects whole × (cause_of whole.ended ≡ by_itself)
export_goes_out exists settings objects =
    let whole = exists settings objects in (whole.0, whole.1, export_ends settings objects whole.0 whole.1)
