-- Each job and input has a whole.
use Rattle.std.proofs.Common.{Err, List, None, Ok, Option, Result, Some, [], ap, inl, inr, length, refl, subst, sym, take, ℕ, ◌++◌, ◌+◌, ◌<◌, ◌≤◌, ◌∙◌, ◌∷◌, ◌≡◌, ◌⊎◌}
use Rattle.std.proofs.lemmas.Bool.{cases_lt}
use Rattle.osm_elements.specs.declared.object.Object.{Object}
use Rattle.osm_words.specs.Job.{CoastlineSettings, Job, certify, coastline, export, filter, locate, sample}
use Rattle.osm_input.specs.declared.fault.InputFault.{InputFault}
use Rattle.osm_input.specs.declared.reading.ReadError.{ReadError}
use Rattle.osm_input.specs.declared.reading.ReadError.TheVariants.{BadInput, TooMuchInput}
use Rattle.osm_input.specs.Input.{AreGood, IsBadPlace, line_fault, objects_told}
use Rattle.osm_job.specs.Texts.{Texts}
use Rattle.osm_cli.specs.Job.{inputs_of}
use Rattle.opl_reader.specs.Lines.{lines_of}
use Rattle.osm_input.specs.Lines.{lines_begun}
use Rattle.osm_input.specs.Laws.{LinesCount}
use Rattle.osm_input.specs.Reading.{IsReadAs}
use Rattle.osm_input.specs.declared.text.TextError.TheVariants as text
use Rattle.osm_job.specs.Whole.{IsReadThen, IsRightAfterReading, IsTextThen, Whole, ending_of_read, input_limit, longest_line, silent, text_ended}
use Rattle.job_coastline.specs.Coastline.{IsCoastline}
use Rattle.job_export.specs.Export.{IsExport}
use Rattle.job_small.specs.Certifying.Certify.{IsCertify}
use Rattle.job_small.specs.Certifying.Laws.{CertifyExists}
use Rattle.job_small.specs.Filtering.Filter.{IsFilter}
use Rattle.job_small.specs.Filtering.Laws.{FiltersExist}
use Rattle.job_small.specs.Locating.Laws.{LocatesExist}
use Rattle.job_small.specs.Locating.Locate.{IsLocate}
use Rattle.one_output.specs.OneCoast.Laws.{CoastCountsExist, CoastlineExists}
use Rattle.osm_area.specs.Outcome.{OutcomeExists}
use Rattle.osm_sample.specs.Laws.{SampleHasOneCoast}
use Rattle.opl_writer.specs.ReadBack.Laws.{ReadObjectsCanBeWritten}
use Rattle.osm_objects.proofs.ObjectsKit.{coast_ways-distinct}
use Rattle.job_export.specs.Laws.{ExportExists}
use Rattle.osm_cli.specs.Whole.{IsWhole}
use Rattle.plane_lists.proofs.OneRingListKit.{Overlap, overlap}
use Rattle.one_output.proofs.SampleOne.{sample_there}

append-nil : (xs : List (List ℕ)) → xs ++ [] ≡ xs
append-nil [] = refl
append-nil (x ∷ xs) = ap (λ l. x ∷ l) (append-nil xs)

append-assoc : (xs ys zs : List (List ℕ)) → xs ++ (ys ++ zs) ≡ (xs ++ ys) ++ zs
append-assoc [] ys zs = refl
append-assoc (x ∷ xs) ys zs = ap (λ l. x ∷ l) (append-assoc xs ys zs)

-- ---- a list of lines is good, or has a bad place
module _ (longest : ℕ) where
  none-good : AreGood longest []
  none-good [] line after h = cc
  none-good (x ∷ before) line after h = cc

  module _ (before : List (List ℕ)) (line : List ℕ) (good : AreGood longest before) (fine : line_fault longest (objects_told before) line ≡ None) where
    here : (b : List (List ℕ)) (l : List ℕ) → b ≡ before → l ≡ line → line_fault longest (objects_told b) l ≡ None
    here b l p q = ap (λ x. line_fault longest (objects_told x) l) p ∙ ap (λ x. line_fault longest (objects_told before) x) q ∙ fine

    last-by : (b : List (List ℕ)) (l : List ℕ) (a mid : List (List ℕ)) → b ≡ before ++ mid → line ∷ [] ≡ mid ++ (l ∷ a) → line_fault longest (objects_told b) l ≡ None
    last-by b l a [] p q = here b l (p ∙ append-nil before) (cc)
    last-by b l a (x ∷ []) p q = cc
    last-by b l a (x ∷ (y ∷ mid)) p q = cc

    first-by : (b : List (List ℕ)) (l : List ℕ) (a mid : List (List ℕ)) → before ≡ b ++ mid → l ∷ a ≡ mid ++ (line ∷ []) → line_fault longest (objects_told b) l ≡ None
    first-by b l a [] p q = here b l (sym (p ∙ append-nil b)) (cc)
    first-by b l a (x ∷ mid) p q =
        let e : l ≡ x = cc in good b l mid (p ∙ ap (λ y. b ++ (y ∷ mid)) (sym e))

    push-by : (b : List (List ℕ)) (l : List ℕ) (a : List (List ℕ)) → (Overlap before (line ∷ []) b (l ∷ a)) ⊎ (Overlap b (l ∷ a) before (line ∷ [])) → line_fault longest (objects_told b) l ≡ None
    push-by b l a (inl o) = last-by b l a o.middle o.longer o.shorter
    push-by b l a (inr o) = first-by b l a o.middle o.longer o.shorter

    push : AreGood longest (before ++ line ∷ [])
    push b l a h = push-by b l a (overlap before (line ∷ []) b (l ∷ a) h)

  abbrev Judged : List (List ℕ) → Type 0
  Judged lines = (AreGood longest lines) ⊎ ((n : ℕ) × (f : InputFault) × IsBadPlace longest lines n f)

  judge-by : (before : List (List ℕ)) (line : List ℕ) (rest : List (List ℕ)) → AreGood longest before → (f : Option InputFault) → line_fault longest (objects_told before) line ≡ f →
      (AreGood longest (before ++ line ∷ []) → Judged ((before ++ line ∷ []) ++ rest)) → Judged (before ++ line ∷ rest)
  judge-by before line rest good None h k = subst Judged (sym (append-assoc before (line ∷ []) rest)) (k (push before line good h))
  judge-by before line rest good (Some f) h k =
      inr (length before + 1, f, record { before = before; line = line; after = rest; parted = refl; counted = refl; good_before = good; bad = h })

  judge : (before rest : List (List ℕ)) → AreGood longest before → Judged (before ++ rest)
  judge before [] good = inl (subst (AreGood longest) (sym (append-nil before)) good)
  judge before (line ∷ rest) good = judge-by before line rest good (line_fault longest (objects_told before) line) refl (judge (before ++ line ∷ []) rest)

  judged : (lines : List (List ℕ)) → Judged lines
  judged lines = judge [] lines none-good

-- ---- an input is read as something
module _ (count : LinesCount) (limit longest : ℕ) (bytes : List ℕ) where
  abbrev Found : Type 0
  Found = (r : Result (List Object) ReadError) × IsReadAs limit longest bytes r

  few-read : length bytes ≤ limit → Judged longest (lines_of bytes) → Found
  few-read h (inl good) = (Ok (objects_told (lines_of bytes)), (h, good, refl))
  few-read h (inr bad) = (Err (BadInput bad.0 bad.1), subst (λ l. IsBadPlace longest l bad.0 bad.1) (sym ((count limit longest bytes).within h)) bad.2)

  many-read : limit < length bytes → Judged longest (lines_begun longest (take limit bytes)) → Found
  many-read h (inl good) = (Err (TooMuchInput limit), (refl, h, good))
  many-read h (inr bad) = (Err (BadInput bad.0 bad.1), subst (λ l. IsBadPlace longest l bad.0 bad.1) (sym ((count limit longest bytes).beyond h)) bad.2)

  read-by : (limit < length bytes) ⊎ (length bytes ≤ limit) → Found
  read-by (inl h) = many-read h (judged longest (lines_begun longest (take limit bytes)))
  read-by (inr h) = few-read h (judged longest (lines_of bytes))

  pub read-there : Found
  read-there = read-by (cases_lt limit (length bytes))

-- ---- a whole

-- something is right over the objects that the bytes of an input are read as
abbrev ThereOf : (List Object → Whole → Type 0) → Type 0
ThereOf IsRight = (bytes : List ℕ) (objects : List Object) → IsReadAs input_limit longest_line bytes (Ok objects) → (w : Whole) × IsRight objects w

-- then there is one over the bytes
module _ (count : LinesCount) (IsRight : List Object → Whole → Type 0) (there : ThereOf IsRight) where
  after-there : (bytes : List ℕ) (r : Result (List Object) ReadError) → IsReadAs input_limit longest_line bytes r → (w : Whole) × IsRightAfterReading IsRight r w
  after-there bytes (Ok objects) is = there bytes objects is
  after-there bytes (Err e) is = (silent (ending_of_read e), refl)

  pub then-there : (bytes : List ℕ) → (w : Whole) × IsReadThen IsRight bytes w
  then-there bytes =
      let r = read-there count input_limit longest_line bytes in
      let w = after-there bytes r.0 r.1 in
      (w.0, record { read = r.0; is_read = r.1; after = w.1 })

-- ---- a text behind it

-- there is one over the bytes of a text, where there is over each text
module _ (IsRight : List ℕ → Whole → Type 0) (there : (text : List ℕ) → (w : Whole) × IsRight text w) (bytes : List ℕ) where
  text-by : (input_limit < length bytes) ⊎ (length bytes ≤ input_limit) → (w : Whole) × IsTextThen IsRight bytes w
  text-by (inl h) = (silent (text_ended (text.TooMuchInput input_limit)), record { read = Err (text.TooMuchInput input_limit); is_read = (refl, h); after = refl })
  text-by (inr h) =
      let w = there bytes in (w.0, record { read = Ok bytes; is_read = (h, refl); after = w.1 })

  pub text-there : (w : Whole) × IsTextThen IsRight bytes w
  text-there = text-by (cases_lt input_limit (length bytes))

-- what is there for each job
pub record AreThere : Type 0 where
  pub exports : ExportExists
  pub coastlines : CoastlineExists
  pub filters : FiltersExist
  pub verdicts : CertifyExists
  pub locates : LocatesExist
  pub read : ReadObjectsCanBeWritten
  pub outcomes : OutcomeExists
  pub counts : CoastCountsExist
  pub one_coast : SampleHasOneCoast

module _ (count : LinesCount) (are : AreThere) where
  coastline-there : (settings : CoastlineSettings) → ThereOf (IsCoastline settings)
  coastline-there settings bytes objects is = are.coastlines settings objects (coast_ways-distinct objects (are.read input_limit longest_line bytes objects is).apart)

  pub whole-there : (job : Job) (texts : Texts (inputs_of job)) → (w : Whole) × IsWhole job texts w
  whole-there (export settings) texts = then-there count (IsExport settings) (λ bytes objects is. are.exports settings objects) texts.0
  whole-there (coastline settings) texts = then-there count (IsCoastline settings) (coastline-there settings) texts.0
  whole-there (sample cells) texts = sample_there are.outcomes are.counts are.one_coast cells
  whole-there (filter settings) texts = then-there count IsFilter (are.filters input_limit longest_line) texts.0
  whole-there (certify settings) texts =
      then-there count (λ objects right. IsTextThen (IsCertify settings objects) texts.1.0 right)
      (λ bytes objects is. text-there (IsCertify settings objects) (are.verdicts settings objects) texts.1.0) texts.0
  whole-there (locate settings) texts =
      then-there count (λ objects right. IsTextThen (IsLocate settings objects) texts.1.0 right)
      (λ bytes objects is. text-there (IsLocate settings objects) (are.locates settings objects) texts.1.0) texts.0
