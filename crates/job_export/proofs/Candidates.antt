-- What is written of one candidate, and of one candidate more.
use Rattle.std.proofs.Common.{◌≡◌, ◌∙◌, refl, sym, ap, ap₂, subst, ℕ, ◌+◌, ◌≤◌, ◌<◌, Bool, true, false, List, [], ◌∷◌, ◌++◌, length, take, drop, get_or, append_assoc, append-nil, map, arith, Ok, Err}
use Rattle.std.proofs.lemmas.List.{drop_more, take_more, take_all, take-append-drop, map-append}
use Rattle.osm_elements.specs.declared.object.Object.{Object}
use Rattle.osm_elements.specs.declared.object.ObjectRef.{ObjectRef}
use Rattle.osm_area.specs.declared.outcome.Outcome.{Outcome}
use Rattle.osm_area.specs.declared.outcome.Outcome.TheVariants.{Area, Problems}
use Rattle.osm_host.specs.Outside.{Outside}
use Rattle.osm_host.specs.declared.host.Failed.{Failed}
use Rattle.osm_words.specs.Job.{ExportSettings}
use Rattle.job_export.specs.declared.entry.Addition.{Addition}
use Rattle.job_export.specs.declared.work.Halt.{Halt}
use Rattle.job_export.specs.declared.work.Halt.TheVariants.{Stopped, WriteFault, OutOfMemory}
use Rattle.job_export.specs.Entry.{Entry, area_in, has_area, features_in, framed_feature, entry_sent, entries_sent}
use Rattle.job_export.specs.Entries.{IsAdditionOf}
use Rattle.job_export.specs.Reports.{IsReportOf}
use Rattle.job_export.specs.ReportSteps.{WroteBehind}
use Rattle.osm_area.specs.Outcome.{OutcomeExists}
use Rattle.osm_text.specs.Report.{ProblemLineExists}
use Rattle.osm_job.specs.Prefix.{IsPrefix}
use Rattle.osm_job.specs.Writes.{Wrote, Added}
use Rattle.job_export.specs.ExportSteps.{HaltCause, IsEntryOf, IsAddedBy, WroteCandidate, WroteLast, AreEntriesOf, StopsAt, IsPrefixOf, going, stopping, AreAddedBy, WroteCandidates}
use Rattle.osm_job.specs.Sent.{Sent, to_output, to_report}
use Rattle.job_export.proofs.Entries.{entry_exists, features_of, sent_push, features_push, both_entries, one_entry, stops_behind, stops_here, no_entries}
use Rattle.osm_job.proofs.Prefixes.{prefix_behind, prefix_of_longer}
use Rattle.osm_job.proofs.Writes.{nothing_added, added_both}

-- ---- the first candidates

-- All that the first candidates add was written, but for the end of it, which waits; they have so many features.
pub record WroteFirst (settings : ExportSettings) (objects : List Object) (first : List ObjectRef) (features : ℕ) (waiting : List ℕ) (before after : Outside) : Type 0 where
  pub entries : List Entry
  pub are : AreEntriesOf settings objects first entries
  pub counted : features ≡ features_of entries
  pub written : List Sent
  pub all : written ++ map to_output waiting ≡ entries_sent settings objects 0 entries
  pub added : Added written before after
  pub quiet : after.write_faults ≡ before.write_faults

-- ---- one candidate

count_one : (outcome : Outcome) → area_in outcome ≡ true → 1 ≡ features_in outcome
count_one (Area polygons notes) has = refl
count_one (Problems list notes) has = absurd (cc)

count_none : (outcome : Outcome) → area_in outcome ≡ false → 0 ≡ features_in outcome
count_none (Area polygons notes) has = absurd (cc)
count_none (Problems list notes) has = refl

module _ (settings : ExportSettings) (objects : List Object) (earlier : ℕ) (c : ObjectRef) (waited waiting : List ℕ) (before : Outside) where
  -- there was no memory for what it adds, and what waited was written
  pub last_written : OutcomeExists → ProblemLineExists → (now : Outside) (halt : Halt) → (left : List ℕ) → WroteLast waited before now halt → WroteCandidate settings objects earlier c waited left before now (Err halt)
  last_written outcomes lines now (Stopped candidate) left w = absurd w.sent
  last_written outcomes lines now WriteFault left w =
      let entry = entry_exists outcomes lines settings objects c in
      record { written = w.written; right = (entry.0, entry.1, prefix_of_longer w.written (map to_output waited) (entry_sent settings objects earlier entry.0) w.sent); added = w.added; cause = w.cause }
  last_written outcomes lines now OutOfMemory left w =
      let entry = entry_exists outcomes lines settings objects c in
      let sent : List Sent = entry_sent settings objects earlier entry.0 in
      record { written = w.written; right = (entry.0, entry.1, [], record { rest = sent; whole = refl }, w.sent ∙ sym (append-nil (map to_output waited))); added = w.added; cause = w.cause }

  module _ (addition : Addition) (is : IsAdditionOf settings objects earlier c waited waiting addition) where
    -- the entry with this report
    abbrev entry_with : List ℕ → Entry
    entry_with text = record { candidate = c; outcome = is.outcome; report = text }

    is_entry : (text : List ℕ) → IsReportOf c addition.report text → IsEntryOf settings objects c (entry_with text)
    is_entry text right = record { of_candidate = refl; right = record { right = is.right; reported = is.reported text right } }

    abbrev piece : List ℕ
    piece = framed_feature settings objects earlier c is.outcome

    -- what waits, and more behind it
    behind : (more : List Sent) → map to_output waiting ++ more ≡ map to_output waited ++ (map to_output piece ++ more)
    behind more =
        ap (λ (xs : List ℕ). map to_output xs ++ more) is.piece
        ∙ ap (λ (xs : List Sent). xs ++ more) (map-append to_output waited piece)
        ∙ append_assoc (map to_output waited) (map to_output piece) more

    pub feature_waits : addition.has_feature ≡ true → IsReportOf c addition.report [] → WroteCandidate settings objects earlier c waited waiting before before (Ok 1)
    feature_waits has alone =
        let area : area_in is.outcome ≡ true = sym is.area ∙ has in
        record {
          written = [];
          right = (entry_with [], is_entry [] alone, (λ _. area), count_one is.outcome area, sym (append-nil (map to_output waiting)) ∙ behind []);
          added = nothing_added before;
          cause = refl;
        }

    module _ (now : Outside) where
      pub broken_off : (left : List ℕ) (halt : Halt) → WroteBehind waiting (IsReportOf c addition.report) before now (Err halt) → WroteCandidate settings objects earlier c waited left before now (Err halt)
      broken_off left (Stopped candidate) w = absurd w.sent
      broken_off left WriteFault w = record {
        written = w.written;
        right = (entry_with w.text, is_entry w.text w.right, subst (λ (xs : List Sent). IsPrefix w.written xs) (behind (map to_report w.text)) w.sent);
        added = w.added;
        cause = w.cause;
      }
      broken_off left OutOfMemory w = record {
        written = w.written;
        right = (entry_with w.text, is_entry w.text w.right, map to_output piece ++ w.sent.0, prefix_behind (map to_output piece) w.sent.0 (map to_report w.text) w.sent.1, w.sent.2 ∙ behind w.sent.0);
        added = w.added;
        cause = w.cause;
      }

      module _ (left : List ℕ) (none_left : left ≡ []) (u : Unit {0}) (w : WroteBehind waiting (IsReportOf c addition.report) before now (Ok u)) where
        abbrev entry : Entry
        entry = entry_with w.text

        sent : w.written ≡ map to_output waited ++ entry_sent settings objects earlier entry
        sent = w.sent ∙ behind (map to_report w.text)

        sent_all : w.written ++ map to_output left ≡ map to_output waited ++ entry_sent settings objects earlier entry
        sent_all = ap (λ (xs : List ℕ). w.written ++ map to_output xs) none_left ∙ append-nil w.written ∙ sent

        pub feature_written : addition.has_feature ≡ true → WroteCandidate settings objects earlier c waited left before now (Ok 1)
        feature_written has =
            let area : area_in is.outcome ≡ true = sym is.area ∙ has in
            record { written = w.written; right = (entry, is_entry w.text w.right, (λ _. area), count_one is.outcome area, sent_all); added = w.added; cause = w.cause }

        pub stops_written : addition.has_feature ≡ false → settings.stop_on_error ≡ true → WroteCandidate settings objects earlier c waited left before now (Err (Stopped c))
        stops_written none stops =
            let area : area_in is.outcome ≡ false = sym is.area ∙ none in
            record { written = w.written; right = (entry, is_entry w.text w.right, stops, area, refl, sent); added = w.added; cause = w.cause }

        pub problems_written : addition.has_feature ≡ false → settings.stop_on_error ≡ false → WroteCandidate settings objects earlier c waited left before now (Ok 0)
        problems_written none goes =
            let area : area_in is.outcome ≡ false = sym is.area ∙ none in
            record { written = w.written; right = (entry, is_entry w.text w.right, (λ stops. absurd (cc)), count_none is.outcome area, sent_all); added = w.added; cause = w.cause }

-- ---- one candidate more

pub none_first : (settings : ExportSettings) (objects : List Object) (candidates : List ObjectRef) (waiting : List ℕ) (o : Outside) → waiting ≡ [] → WroteFirst settings objects (take 0 candidates) 0 waiting o o
none_first settings objects candidates waiting o none =
    record { entries = []; are = no_entries settings objects; counted = refl; written = []; all = ap (map to_output) none; added = nothing_added o; quiet = refl }

module _ (settings : ExportSettings) (objects : List Object) (cs : List ObjectRef) (k : ℕ) (d : ObjectRef) (lt : k < length cs) (features : ℕ) (waited waiting : List ℕ) (before middle now : Outside)
    (first : WroteFirst settings objects (take k cs) features waited before middle) where
  abbrev c : ObjectRef
  c = get_or cs k d

  abbrev es : List Entry
  es = first.entries

  abbrev first_sent : List Sent
  first_sent = entries_sent settings objects 0 es

  -- what was written, what waited, and more
  behind_waited : (xs : List Sent) → first.written ++ (map to_output waited ++ xs) ≡ first_sent ++ xs
  behind_waited xs = sym (append_assoc first.written (map to_output waited) xs) ∙ ap (λ (ys : List Sent). ys ++ xs) first.all

  -- the features before it are those of the first entries
  one_more : (e : Entry) → first_sent ++ entry_sent settings objects features e ≡ entries_sent settings objects 0 (es ++ e ∷ [])
  one_more e = ap (λ (n : ℕ). first_sent ++ entry_sent settings objects n e) first.counted ∙ sym (sent_push settings objects es e)

  pub next_first : (count : ℕ) → WroteCandidate settings objects features c waited waiting middle now (Ok count) → WroteFirst settings objects (take (k + 1) cs) (features + count) waiting before now
  next_first count w =
      let e : Entry = w.right.0 in
      let of_c : IsEntryOf settings objects c e = w.right.1 in
      record {
        entries = es ++ e ∷ [];
        are = subst (λ (xs : List ObjectRef). AreEntriesOf settings objects xs (es ++ e ∷ [])) (sym (take_more cs k d lt)) (both_entries settings objects (take k cs) (c ∷ []) es (e ∷ []) first.are (one_entry settings objects c e of_c w.right.2));
        counted = ap₂ (λ (m n : ℕ). m + n) first.counted w.right.3 ∙ sym (features_push es e);
        written = first.written ++ w.written;
        all = append_assoc first.written w.written (map to_output waiting) ∙ ap (λ (xs : List Sent). first.written ++ xs) w.right.4
            ∙ behind_waited (entry_sent settings objects features e) ∙ one_more e;
        added = added_both first.written w.written before middle now first.added w.added;
        quiet = w.cause ∙ first.quiet;
      }

  stops_front : (e : Entry) → IsEntryOf settings objects c e → settings.stop_on_error ≡ true → has_area e ≡ false → StopsAt settings objects cs es e
  stops_front e of_c stops none =
      subst (λ (xs : List ObjectRef). StopsAt settings objects xs es e) (ap (λ (xs : List ObjectRef). take k cs ++ xs) (sym (drop_more cs k d lt)) ∙ take-append-drop k cs)
      (subst (λ (xs : List Entry). StopsAt settings objects (take k cs ++ c ∷ drop (k + 1) cs) xs e) (append-nil es)
      (stops_behind settings objects (take k cs) (c ∷ drop (k + 1) cs) es [] e first.are (stops_here settings objects c (drop (k + 1) cs) e of_c stops none)))

  abbrev IsFront : Entry → List Sent → Type 0
  IsFront e xs = IsPrefix xs (map to_output waited ++ entry_sent settings objects features e)

  one_more_front : (e : Entry) (xs : List Sent) → IsFront e xs → IsPrefix (first.written ++ xs) (entries_sent settings objects 0 (es ++ e ∷ []))
  one_more_front e xs front =
      subst (λ (ys : List Sent). IsPrefix (first.written ++ xs) ys) (behind_waited (entry_sent settings objects features e) ∙ one_more e)
      (prefix_behind first.written xs (map to_output waited ++ entry_sent settings objects features e) front)

  going_on : (e : Entry) → IsEntryOf settings objects c e → (xs : List Sent) → IsFront e xs → (settings.stop_on_error ≡ true → has_area e ≡ true) →
      IsPrefixOf settings objects cs (first.written ++ xs)
  going_on e of_c xs front area =
      going (take (k + 1) cs) (drop (k + 1) cs) (es ++ e ∷ []) (sym (take-append-drop (k + 1) cs))
      (subst (λ (xs : List ObjectRef). AreEntriesOf settings objects xs (es ++ e ∷ [])) (sym (take_more cs k d lt)) (both_entries settings objects (take k cs) (c ∷ []) es (e ∷ []) first.are (one_entry settings objects c e of_c area)))
      (one_more_front e xs front)

  -- a write failed
  failed_front : (e : Entry) → IsEntryOf settings objects c e → (xs : List Sent) → IsFront e xs → (stop : Bool) → settings.stop_on_error ≡ stop →
      (area : Bool) → has_area e ≡ area → IsPrefixOf settings objects cs (first.written ++ xs)
  failed_front e of_c xs front true stops false none = stopping es e (stops_front e of_c stops none) (one_more_front e xs front)
  failed_front e of_c xs front true stops true has = going_on e of_c xs front (λ _. has)
  failed_front e of_c xs front false goes area has = going_on e of_c xs front (λ stops. absurd (cc))

  halt_right : (written : List Sent) (halt : Halt) → IsAddedBy settings objects features c waited waiting written (Err halt) → AreAddedBy settings objects cs (first.written ++ written) (Err halt)
  halt_right written (Stopped stopped) right =
      let e : Entry = right.0 in
      let of_c : IsEntryOf settings objects c e = right.1 in (
        es,
        e,
        stops_front e of_c right.2 right.3,
        right.4 ∙ sym of_c.of_candidate,
        ap (λ (xs : List Sent). first.written ++ xs) right.5 ∙ behind_waited (entry_sent settings objects features e) ∙ one_more e,
      )
  halt_right written WriteFault right = failed_front right.0 right.1 written right.2 settings.stop_on_error refl (has_area right.0) refl
  halt_right written OutOfMemory right =
      let e : Entry = right.0 in
      let front : IsFront e written = subst (λ (xs : List Sent). IsPrefix xs (map to_output waited ++ entry_sent settings objects features e)) (sym right.4) (prefix_behind (map to_output waited) right.2 (entry_sent settings objects features e) right.3) in
      failed_front e right.1 written front settings.stop_on_error refl (has_area e) refl

  halt_cause : (halt : Halt) → middle.write_faults ≡ before.write_faults → HaltCause {T = ℕ} middle now (Err halt) → HaltCause {T = Unit {0}} before now (Err halt)
  halt_cause (Stopped stopped) same cause = cause ∙ same
  halt_cause WriteFault same cause = omega arith
  halt_cause OutOfMemory same cause = cause ∙ same

  -- the next candidate breaks it off
  pub next_halted : (halt : Halt) → WroteCandidate settings objects features c waited waiting middle now (Err halt) → WroteCandidates settings objects cs before now (Err halt)
  next_halted halt w = record {
    written = first.written ++ w.written;
    right = halt_right w.written halt w.right;
    added = added_both first.written w.written before middle now first.added w.added;
    cause = halt_cause halt first.quiet w.cause;
  }

-- ---- all candidates have gone, and what waited is written

module _ (settings : ExportSettings) (objects : List Object) (cs : List ObjectRef) (n features : ℕ) (waiting : List ℕ) (before middle now : Outside) (many : length cs ≤ n)
    (first : WroteFirst settings objects (take n cs) features waiting before middle) where
  all_entries : AreEntriesOf settings objects cs first.entries
  all_entries = subst (λ (xs : List ObjectRef). AreEntriesOf settings objects xs first.entries) (take_all n cs many) first.are

  pub all_gone : (u v : Unit {0}) → Wrote {T = Unit {0}} {E = Failed} (map to_output waiting) middle now (Ok u) → WroteCandidates settings objects cs before now (Ok v)
  all_gone u v w = record {
    written = first.written ++ w.written;
    right = (first.entries, all_entries, ap (λ (xs : List Sent). first.written ++ xs) w.sent ∙ first.all);
    added = added_both first.written w.written before middle now first.added w.added;
    cause = w.counts.answered ∙ first.quiet;
  }

  pub last_not_written : (failed : Failed) → Wrote {T = Unit {0}} (map to_output waiting) middle now (Err failed) → WroteCandidates settings objects cs before now (Err WriteFault)
  last_not_written failed w = record {
    written = first.written ++ w.written;
    right = going cs [] first.entries (sym (append-nil cs)) all_entries
        (subst (λ (xs : List Sent). IsPrefix (first.written ++ w.written) xs) first.all (prefix_behind first.written w.written (map to_output waiting) w.sent));
    added = added_both first.written w.written before middle now first.added w.added;
    cause = let same = first.quiet in let failed = w.counts.failed in omega arith;
  }
