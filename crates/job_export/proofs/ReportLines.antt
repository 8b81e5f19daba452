-- The report lines of a candidate, one after the other.
use Rattle.std.proofs.Common.{◌≡◌, ◌∙◌, refl, sym, ap, subst, get_or, ℕ, ◌+◌, ◌<◌, length, take, drop, List, [], ◌∷◌, ◌++◌, map, All, Option, None, Some, Result, Ok, Err, append_assoc, append-nil, arith}
use Rattle.std.specs.List.{flat_map}
use Rattle.std.proofs.lemmas.List.{take_more, take-append-drop, map-append}
use Rattle.std.proofs.lemmas.List.Elements.{All-drop}
use Rattle.std.proofs.lemmas.Grind.{flat_map-append}
use Rattle.osm_elements.specs.declared.object.ObjectRef.{ObjectRef}
use Rattle.osm_host.specs.Outside.{Outside}
use Rattle.osm_host.specs.declared.host.Failed.{Failed}
use Rattle.osm_job.specs.Prefix.{IsPrefix}
use Rattle.osm_job.specs.Sent.{Sent, to_output, to_report}
use Rattle.osm_job.specs.Writes.{Wrote}
use Rattle.osm_job.proofs.Prefixes.{prefix_behind, prefix_of_longer}
use Rattle.osm_job.proofs.Writes.{added_both, nothing_added}
use Rattle.osm_objects.specs.Problem.{IsOfItsKind}
use Rattle.osm_objects.specs.declared.problem.Problem.{Problem}
use Rattle.osm_objects.specs.declared.problem.Note.{Note}
use Rattle.osm_text.specs.Report.{IsProblemLine, ProblemLineExists, note_line}
use Rattle.job_export.specs.declared.work.Halt.{Halt}
use Rattle.job_export.specs.declared.work.Halt.TheVariants.{Stopped, WriteFault, OutOfMemory}
use Rattle.job_export.specs.Entry.{AreProblemLines}
use Rattle.job_export.specs.ExportSteps.{HaltCause}
use Rattle.job_export.specs.Reports.{AreOfTheirKinds, AreReportLines}
use Rattle.job_export.specs.ReportSteps.{AreSentBehind, WroteBehind, WroteLines}
use Rattle.job_export.proofs.Entries.{lines_exist}

-- ---- lines of problems

pub one_line_more : (of : ObjectRef) (problems : List Problem) (p : Problem) (text line : List ℕ) → AreProblemLines of problems text → IsProblemLine of p line → AreProblemLines of (problems ++ p ∷ []) (text ++ line)
one_line_more of [] p text line is one = (line, [], one, refl, rw is (sym (append-nil line)))
one_line_more of (q ∷ problems) p text line is one =
    let rest = one_line_more of problems p is.1 line is.3 one in
    (is.0, is.1 ++ line, is.2, rest, ap (λ (xs : List ℕ). xs ++ line) is.4 ∙ append_assoc is.0 is.1 line)

lines_behind : (of : ObjectRef) (first later : List Problem) (a b : List ℕ) → AreProblemLines of first a → AreProblemLines of later b → AreProblemLines of (first ++ later) (a ++ b)
lines_behind of [] later a b is rest = rw is rest
lines_behind of (p ∷ first) later a b is rest =
    (is.0, is.1 ++ b, is.2, lines_behind of first later is.1 b is.3 rest, ap (λ (xs : List ℕ). xs ++ b) is.4 ∙ append_assoc is.0 is.1 b)

-- ---- one text behind another

-- what was written stays right where more text follows that would have been right
pub halted_before : (waited : List ℕ) (A B C : List ℕ → Type 0) (before now : Outside) (halt : Halt) → WroteBehind waited A before now (Err halt) → (b : List ℕ) → B b → ((a b : List ℕ) → A a → B b → C (a ++ b)) → WroteBehind waited C before now (Err halt)
halted_before waited A B C before now (Stopped candidate) w b is both = absurd w.sent
halted_before waited A B C before now WriteFault w b is both = record {
  text = w.text ++ b;
  right = both w.text b w.right is;
  written = w.written;
  sent = subst (λ (xs : List Sent). IsPrefix w.written xs) (append_assoc (map to_output waited) (map to_report w.text) (map to_report b) ∙ ap (λ (xs : List Sent). map to_output waited ++ xs) (sym (map-append to_report w.text b)))
      (prefix_of_longer w.written (map to_output waited ++ map to_report w.text) (map to_report b) w.sent);
  added = w.added;
  cause = w.cause;
}
halted_before waited A B C before now OutOfMemory w b is both = record {
  text = w.text ++ b;
  right = both w.text b w.right is;
  written = w.written;
  sent = (w.sent.0, subst (λ (xs : List Sent). IsPrefix w.sent.0 xs) (sym (map-append to_report w.text b)) (prefix_of_longer w.sent.0 (map to_report w.text) (map to_report b) w.sent.1), w.sent.2);
  added = w.added;
  cause = w.cause;
}

-- a line behind a text that was written whole
sent_both : (waited a b : List Sent) (first second : List Sent) (r : Result (Unit {0}) Halt) → first ≡ waited ++ a → AreSentBehind [] b second r → AreSentBehind waited (a ++ b) (first ++ second) r
sent_both waited a b first second (Ok done) is sent = ap (λ (xs : List Sent). xs ++ second) is ∙ append_assoc waited a second ∙ ap (λ (xs : List Sent). waited ++ (a ++ xs)) sent
sent_both waited a b first second (Err (Stopped candidate)) is sent = absurd sent
sent_both waited a b first second (Err WriteFault) is sent =
    subst (λ (xs : List Sent). IsPrefix (xs ++ second) (waited ++ (a ++ b))) (sym is)
    (subst (λ (xs : List Sent). IsPrefix ((waited ++ a) ++ second) xs) (append_assoc waited a b) (prefix_behind (waited ++ a) second b sent))
sent_both waited a b first second (Err OutOfMemory) is sent =
    (a ++ sent.0, prefix_behind a sent.0 b sent.1, ap (λ (xs : List Sent). xs ++ second) is ∙ append_assoc waited a second ∙ ap (λ (xs : List Sent). waited ++ (a ++ xs)) sent.2)

cause_both : (before middle now : Outside) (r : Result (Unit {0}) Halt) → middle.write_faults ≡ before.write_faults → HaltCause middle now r → HaltCause before now r
cause_both before middle now (Ok done) same cause = cause ∙ same
cause_both before middle now (Err (Stopped candidate)) same cause = cause ∙ same
cause_both before middle now (Err WriteFault) same cause = omega arith
cause_both before middle now (Err OutOfMemory) same cause = cause ∙ same

pub text_behind : (waited : List ℕ) (A B C : List ℕ → Type 0) (before middle now : Outside) (u : Unit {0}) (r : Result (Unit {0}) Halt) → WroteBehind waited A before middle (Ok u) → WroteLines B middle now r → ((a b : List ℕ) → A a → B b → C (a ++ b)) → WroteBehind waited C before now r
text_behind waited A B C before middle now u r first second both = record {
  text = first.text ++ second.text;
  right = both first.text second.text first.right second.right;
  written = first.written ++ second.written;
  sent = subst (λ (xs : List Sent). AreSentBehind (map to_output waited) xs (first.written ++ second.written) r) (sym (map-append to_report first.text second.text))
      (sent_both (map to_output waited) (map to_report first.text) (map to_report second.text) first.written second.written r first.sent second.sent);
  added = added_both first.written second.written before middle now first.added second.added;
  cause = cause_both before middle now r first.cause second.cause;
}

-- the same of a text that is right in other words
pub same_text : (waited : List ℕ) (A B : List ℕ → Type 0) (before now : Outside) (r : Result (Unit {0}) Halt) → ((a : List ℕ) → A a → B a) → WroteBehind waited A before now r → WroteBehind waited B before now r
same_text waited A B before now r into w = record { text = w.text; right = into w.text w.right; written = w.written; sent = w.sent; added = w.added; cause = w.cause }

-- however it answered that it is done
pub done_again : (waited : List ℕ) (A : List ℕ → Type 0) (before now : Outside) (u v : Unit {0}) → WroteBehind waited A before now (Ok u) → WroteBehind waited A before now (Ok v)
done_again waited A before now u v w = record { text = w.text; right = w.right; written = w.written; sent = w.sent; added = w.added; cause = w.cause }

-- no line
pub no_lines : (A : List ℕ → Type 0) (o : Outside) → A [] → WroteLines A o o (Ok tt)
no_lines A o is = record { text = []; right = is; written = []; sent = refl; added = nothing_added o; cause = refl }

-- ---- one line

pub line_written : (line : List ℕ) (before now : Outside) (u v : Unit {0}) → Wrote {T = Unit {0}} {E = Failed} (map to_report line) before now (Ok u) → WroteLines (λ text. text ≡ line) before now (Ok v)
line_written line before now u v w = record { text = line; right = refl; written = w.written; sent = w.sent; added = w.added; cause = w.counts.answered }

pub line_failed : (line : List ℕ) (before now : Outside) (failed : Failed) → Wrote {T = Unit {0}} {E = Failed} (map to_report line) before now (Err failed) → WroteLines (λ text. text ≡ line) before now (Err WriteFault)
line_failed line before now failed w = record { text = line; right = refl; written = w.written; sent = w.sent; added = w.added; cause = w.counts.failed }

-- there was no memory for a line
pub line_lacked : (A : List ℕ → Type 0) (o : Outside) (line : List ℕ) → A line → WroteLines A o o (Err OutOfMemory)
line_lacked A o line is = record {
  text = line;
  right = is;
  written = [];
  sent = ([], record { rest = map to_report line; whole = refl }, refl);
  added = nothing_added o;
  cause = refl;
}

-- ---- lines of problems, one more

module _ (of : ObjectRef) (problems : List Problem) (k : ℕ) (p : Problem) (lt : k < length problems) (is : p ≡ get_or problems k p) where
  pub problems_next : (a b : List ℕ) → AreProblemLines of (take k problems) a → IsProblemLine of p b → AreProblemLines of (take (k + 1) problems) (a ++ b)
  problems_next a b first line =
      subst (λ (ps : List Problem). AreProblemLines of ps (a ++ b)) (ap (λ (q : Problem). take k problems ++ q ∷ []) is ∙ sym (take_more problems k p lt)) (one_line_more of (take k problems) p a b first line)

  pub problems_halted : ProblemLineExists → All IsOfItsKind problems → (before now : Outside) (halt : Halt) → WroteLines (AreProblemLines of (take (k + 1) problems)) before now (Err halt) → WroteLines (AreProblemLines of problems) before now (Err halt)
  problems_halted line_exists kinds before now halt w =
      let rest = lines_exist line_exists of (drop (k + 1) problems) (All-drop IsOfItsKind (k + 1) problems kinds) in
      halted_before [] (AreProblemLines of (take (k + 1) problems)) (AreProblemLines of (drop (k + 1) problems)) (AreProblemLines of problems) before now halt w rest.0 rest.1
      (λ a b first later. subst (λ (ps : List Problem). AreProblemLines of ps (a ++ b)) (take-append-drop (k + 1) problems) (lines_behind of (take (k + 1) problems) (drop (k + 1) problems) a b first later))

-- ---- lines of notes, one more

abbrev pub AreNoteLines : ObjectRef → List Note → List ℕ → Type 0
AreNoteLines of notes text = text ≡ flat_map (note_line of) notes

module _ (of : ObjectRef) (notes : List Note) (k : ℕ) (n : Note) (lt : k < length notes) (is : n ≡ get_or notes k n) where
  pub notes_next : (a b : List ℕ) → AreNoteLines of (take k notes) a → b ≡ note_line of n → AreNoteLines of (take (k + 1) notes) (a ++ b)
  notes_next a b first line =
      ap (λ (xs : List ℕ). xs ++ b) first ∙ ap (λ (xs : List ℕ). flat_map (note_line of) (take k notes) ++ xs) (line ∙ sym (append-nil (note_line of n)))
      ∙ sym (flat_map-append (note_line of) (take k notes) (n ∷ [])) ∙ ap (flat_map (note_line of)) (ap (λ (q : Note). take k notes ++ q ∷ []) is ∙ sym (take_more notes k n lt))

  pub notes_halted : (before now : Outside) (halt : Halt) → WroteLines (AreNoteLines of (take (k + 1) notes)) before now (Err halt) → WroteLines (AreNoteLines of notes) before now (Err halt)
  notes_halted before now halt w =
      halted_before [] (AreNoteLines of (take (k + 1) notes)) (AreNoteLines of (drop (k + 1) notes)) (AreNoteLines of notes) before now halt w (flat_map (note_line of) (drop (k + 1) notes)) refl
      (λ a b first later. ap (λ (xs : List ℕ). xs ++ b) first ∙ ap (λ (xs : List ℕ). flat_map (note_line of) (take (k + 1) notes) ++ xs) later
      ∙ sym (flat_map-append (note_line of) (take (k + 1) notes) (drop (k + 1) notes)) ∙ ap (flat_map (note_line of)) (take-append-drop (k + 1) notes))

-- ---- a report

pub both_lines : (of : ObjectRef) (problems : List Problem) (notes : List Note) (a b : List ℕ) → AreProblemLines of problems a → AreNoteLines of notes b → AreReportLines of (Some problems) notes (a ++ b)
both_lines of problems notes a b first second = (a, first, ap (λ (xs : List ℕ). a ++ xs) second)

-- there is one of any problems and notes
pub report_there : ProblemLineExists → (of : ObjectRef) (problems : Option (List Problem)) (notes : List Note) → AreOfTheirKinds problems → (text : List ℕ) × AreReportLines of problems notes text
report_there line_exists of None notes kinds = (flat_map (note_line of) notes, refl)
report_there line_exists of (Some problems) notes kinds =
    let lines = lines_exist line_exists of problems kinds in
    (lines.0 ++ flat_map (note_line of) notes, (lines.0, lines.1, refl))

-- ---- the features that wait

pub waiting_written : (waited : List ℕ) (before now : Outside) (u v : Unit {0}) → Wrote {T = Unit {0}} {E = Failed} (map to_output waited) before now (Ok u) → WroteBehind waited (λ text. text ≡ []) before now (Ok v)
waiting_written waited before now u v w = record { text = []; right = refl; written = w.written; sent = w.sent ∙ sym (append-nil (map to_output waited)); added = w.added; cause = w.counts.answered }

pub waiting_failed : (waited : List ℕ) (A : List ℕ → Type 0) (before now : Outside) (failed : Failed) → Wrote {T = Unit {0}} {E = Failed} (map to_output waited) before now (Err failed) → (text : List ℕ) → A text → WroteBehind waited A before now (Err WriteFault)
waiting_failed waited A before now failed w text is = record { text = text; right = is; written = w.written; sent = prefix_of_longer w.written (map to_output waited) (map to_report text) w.sent; added = w.added; cause = w.counts.failed }
