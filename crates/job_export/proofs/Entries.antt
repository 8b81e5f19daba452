-- Lists of entries: what they add one after the other, and that every list of candidates has one.
use Rattle.std.proofs.Common.{◌≡◌, ◌∙◌, refl, sym, ap, ap₂, ℕ, ◌+◌, Bool, true, false, List, [], ◌∷◌, ◌++◌, map, All, append_assoc, append-nil, arith}
use Rattle.std.specs.List.{flat_map}
use Rattle.std.proofs.lemmas.List.{map-append}
use Rattle.std.proofs.lemmas.List.Elements.{All-nil, All-cons, All-append, All-head, All-tail}
use Rattle.osm_elements.specs.declared.object.Object.{Object}
use Rattle.osm_elements.specs.declared.object.ObjectRef.{ObjectRef}
use Rattle.osm_area.specs.declared.outcome.Outcome.{Outcome}
use Rattle.osm_area.specs.declared.outcome.Outcome.TheVariants.{Area, Problems}
use Rattle.osm_area.specs.Outcome.{OutcomeExists, problems_in}
use Rattle.osm_objects.specs.Problem.{IsOfItsKind}
use Rattle.osm_objects.specs.declared.problem.Problem.{Problem}
use Rattle.osm_text.specs.Report.{ProblemLineExists, note_line}
use Rattle.osm_words.specs.Job.{ExportSettings}
use Rattle.job_export.specs.Entry.{Entry, IsEntry, AreProblemLines, IsReportShown, has_area, features_in, entry_sent, entries_sent}
use Rattle.job_export.specs.ExportSteps.{IsEntryOf, AreEntriesOf, StopsAt}
use Rattle.osm_job.specs.Sent.{Sent}

abbrev candidate_of : Entry → ObjectRef
candidate_of entry = entry.candidate

-- ---- one list behind another

-- entries have so many features
abbrev pub features_of : List Entry → ℕ
features_of [] = 0
features_of (entry ∷ entries) = features_in entry.outcome + features_of entries

sent-append : (settings : ExportSettings) (objects : List Object) (earlier : ℕ) (es fs : List Entry) →
    entries_sent settings objects earlier (es ++ fs) ≡ entries_sent settings objects earlier es ++ entries_sent settings objects (earlier + features_of es) fs
sent-append settings objects earlier [] fs = let same : earlier ≡ earlier + 0 = omega arith in ap (λ (n : ℕ). entries_sent settings objects n fs) same
sent-append settings objects earlier (e ∷ es) fs =
    let first : List Sent = entry_sent settings objects earlier e in
    let n : ℕ = features_in e.outcome in
    let same : (earlier + n) + features_of es ≡ earlier + (n + features_of es) = omega arith in
    ap (λ (xs : List Sent). first ++ xs) (sent-append settings objects (earlier + n) es fs)
    ∙ sym (append_assoc first (entries_sent settings objects (earlier + n) es) (entries_sent settings objects ((earlier + n) + features_of es) fs))
    ∙ ap (λ (m : ℕ). (first ++ entries_sent settings objects (earlier + n) es) ++ entries_sent settings objects m fs) same

pub features_push : (es : List Entry) (e : Entry) → features_of (es ++ e ∷ []) ≡ features_of es + features_in e.outcome
features_push [] e = let same : features_in e.outcome + 0 ≡ 0 + features_in e.outcome = omega arith in same
features_push (f ∷ es) e =
    let rest : features_of (es ++ e ∷ []) ≡ features_of es + features_in e.outcome = features_push es e in
    let same : features_in f.outcome + (features_of es + features_in e.outcome) ≡ (features_in f.outcome + features_of es) + features_in e.outcome = omega arith in
    ap (λ (m : ℕ). features_in f.outcome + m) rest ∙ same

pub sent_behind : (settings : ExportSettings) (objects : List Object) (es fs : List Entry) → entries_sent settings objects 0 (es ++ fs) ≡ entries_sent settings objects 0 es ++ entries_sent settings objects (features_of es) fs
sent_behind settings objects es fs =
    let same : 0 + features_of es ≡ features_of es = omega arith in
    sent-append settings objects 0 es fs ∙ ap (λ (n : ℕ). entries_sent settings objects 0 es ++ entries_sent settings objects n fs) same

pub sent_push : (settings : ExportSettings) (objects : List Object) (es : List Entry) (e : Entry) →
    entries_sent settings objects 0 (es ++ e ∷ []) ≡ entries_sent settings objects 0 es ++ entry_sent settings objects (features_of es) e
sent_push settings objects es e =
    sent_behind settings objects es (e ∷ [])
    ∙ ap (λ (xs : List Sent). entries_sent settings objects 0 es ++ xs) (append-nil (entry_sent settings objects (features_of es) e))

-- ---- entries of candidates

pub no_entries : (settings : ExportSettings) (objects : List Object) → AreEntriesOf settings objects [] []
no_entries settings objects = record { in_order = refl; right = All-nil (IsEntry settings.show_errors objects); go_on = λ _. All-nil (λ (e : Entry). has_area e ≡ true) }

pub both_entries : (settings : ExportSettings) (objects : List Object) (cs ds : List ObjectRef) (es fs : List Entry) →
    AreEntriesOf settings objects cs es → AreEntriesOf settings objects ds fs → AreEntriesOf settings objects (cs ++ ds) (es ++ fs)
both_entries settings objects cs ds es fs first then = record {
  in_order = map-append candidate_of es fs ∙ ap₂ (λ (xs ys : List ObjectRef). xs ++ ys) first.in_order then.in_order;
  right = All-append (IsEntry settings.show_errors objects) es fs first.right then.right;
  go_on = λ stops. All-append (λ (e : Entry). has_area e ≡ true) es fs (first.go_on stops) (then.go_on stops);
}

pub one_entry : (settings : ExportSettings) (objects : List Object) (c : ObjectRef) (e : Entry) → IsEntryOf settings objects c e →
    (settings.stop_on_error ≡ true → has_area e ≡ true) → AreEntriesOf settings objects (c ∷ []) (e ∷ [])
one_entry settings objects c e is area = record {
  in_order = ap (λ (x : ObjectRef). x ∷ []) is.of_candidate;
  right = All-cons (IsEntry settings.show_errors objects) e [] is.right (All-nil (IsEntry settings.show_errors objects));
  go_on = λ stops. All-cons (λ (x : Entry). has_area x ≡ true) e [] (area stops) (All-nil (λ (x : Entry). has_area x ≡ true));
}

-- the run stops behind more entries
pub stops_behind : (settings : ExportSettings) (objects : List Object) (cs ds : List ObjectRef) (es fs : List Entry) (last : Entry) →
    AreEntriesOf settings objects cs es → StopsAt settings objects ds fs last → StopsAt settings objects (cs ++ ds) (es ++ fs) last
stops_behind settings objects cs ds es fs last first then = record {
  stops = then.stops;
  later = then.later;
  in_order = ap₂ (λ (xs ys : List ObjectRef). xs ++ ys) (sym first.in_order) then.in_order
      ∙ sym (append_assoc (map candidate_of es) (map candidate_of fs) (last.candidate ∷ then.later))
      ∙ ap (λ (xs : List ObjectRef). xs ++ last.candidate ∷ then.later) (sym (map-append candidate_of es fs));
  right = All-append (IsEntry settings.show_errors objects) es fs first.right then.right;
  last_right = then.last_right;
  areas = All-append (λ (e : Entry). has_area e ≡ true) es fs (first.go_on then.stops) then.areas;
  problems = then.problems;
}

-- the run stops at a candidate
pub stops_here : (settings : ExportSettings) (objects : List Object) (c : ObjectRef) (later : List ObjectRef) (e : Entry) → IsEntryOf settings objects c e →
    settings.stop_on_error ≡ true → has_area e ≡ false → StopsAt settings objects (c ∷ later) [] e
stops_here settings objects c later e is stops none = record {
  stops = stops;
  later = later;
  in_order = ap (λ (x : ObjectRef). x ∷ later) (sym is.of_candidate);
  right = All-nil (IsEntry settings.show_errors objects);
  last_right = is.right;
  areas = All-nil (λ (x : Entry). has_area x ≡ true);
  problems = none;
}

-- ---- that there are entries

-- The rest of the candidates have entries, or the run stops at one of theirs.
pub data Rest (settings : ExportSettings) (objects : List Object) (candidates : List ObjectRef) : Type 0 where
  all_go : (entries : List Entry) → AreEntriesOf settings objects candidates entries → Rest settings objects candidates
  one_stops : (entries : List Entry) (last : Entry) → StopsAt settings objects candidates entries last → Rest settings objects candidates

pub lines_exist : ProblemLineExists → (of : ObjectRef) (problems : List Problem) → All IsOfItsKind problems → (text : List ℕ) × AreProblemLines of problems text
lines_exist line_exists of [] kinds = ([], refl)
lines_exist line_exists of (p ∷ problems) kinds =
    let line = line_exists of p (All-head IsOfItsKind p problems kinds) in
    let rest = lines_exist line_exists of problems (All-tail IsOfItsKind p problems kinds) in
    (line.0 ++ rest.0, (line.0, rest.0, line.1, rest.1, refl))

module _ (outcome_exists : OutcomeExists) (line_exists : ProblemLineExists) where
  report_exists : (show : Bool) (of : ObjectRef) (outcome : Outcome) → All IsOfItsKind (problems_in outcome) → (text : List ℕ) × IsReportShown show of outcome text
  report_exists false of outcome kinds = ([], refl)
  report_exists true of (Area polygons notes) kinds = (flat_map (note_line of) notes, refl)
  report_exists true of (Problems list notes) kinds =
      let lines = lines_exist line_exists of list kinds in
      (lines.0 ++ flat_map (note_line of) notes, (lines.0, lines.1, refl))

  pub entry_exists : (settings : ExportSettings) (objects : List Object) (c : ObjectRef) → (e : Entry) × IsEntryOf settings objects c e
  entry_exists settings objects c =
      let outcome = outcome_exists objects c in
      let report = report_exists settings.show_errors c outcome.0 outcome.2 in
      (record { candidate = c; outcome = outcome.0; report = report.0 }, record { of_candidate = refl; right = record { right = outcome.1; reported = report.1 } })

  behind : (settings : ExportSettings) (objects : List Object) (c : ObjectRef) (cs : List ObjectRef) (e : Entry) → AreEntriesOf settings objects (c ∷ []) (e ∷ []) →
      Rest settings objects cs → Rest settings objects (c ∷ cs)
  behind settings objects c cs e one (all_go es are) = all_go (e ∷ es) (both_entries settings objects (c ∷ []) cs (e ∷ []) es one are)
  behind settings objects c cs e one (one_stops es last stops) = one_stops (e ∷ es) last (stops_behind settings objects (c ∷ []) cs (e ∷ []) es last one stops)

  first_or_stop : (settings : ExportSettings) (objects : List Object) (c : ObjectRef) (cs : List ObjectRef) (e : Entry) → IsEntryOf settings objects c e → Rest settings objects cs →
      (stop : Bool) → settings.stop_on_error ≡ stop → (area : Bool) → has_area e ≡ area → Rest settings objects (c ∷ cs)
  first_or_stop settings objects c cs e is rest false stops area has =
      behind settings objects c cs e (one_entry settings objects c e is (λ yes. absurd (cc))) rest
  first_or_stop settings objects c cs e is rest true stops true has = behind settings objects c cs e (one_entry settings objects c e is (λ _. has)) rest
  first_or_stop settings objects c cs e is rest true stops false has = one_stops [] e (stops_here settings objects c cs e is stops has)

  pub rest_exists : (settings : ExportSettings) (objects : List Object) (candidates : List ObjectRef) → Rest settings objects candidates
  rest_exists settings objects [] = all_go [] (no_entries settings objects)
  rest_exists settings objects (c ∷ cs) =
      let entry = entry_exists settings objects c in
      first_or_stop settings objects c cs entry.0 entry.1 (rest_exists settings objects cs) settings.stop_on_error refl (has_area entry.0) refl
