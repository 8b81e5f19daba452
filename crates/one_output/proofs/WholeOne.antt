-- What is right for a job over the texts of its inputs is one.
use Rattle.std.proofs.Common.{Err, List, Ok, Result, inl, inr, length, refl, subst, sym, ℕ, ◌<◌, ◌≤◌, ◌∙◌, ◌≡◌, ◌⊎◌}
use Rattle.std.proofs.lemmas.Bool.{cases_lt}
use Rattle.osm_elements.specs.declared.object.Object.{Object}
use Rattle.osm_words.specs.Job.{certify, coastline, export, filter, locate, sample}
use Rattle.osm_input.specs.Laws.{LinesCount}
use Rattle.osm_input.specs.Reading.{IsReadAs}
use Rattle.osm_input.specs.Text.{IsTextAs}
use Rattle.osm_input.specs.declared.reading.ReadError.{ReadError}
use Rattle.osm_input.specs.declared.text.TextError.{TextError}
use Rattle.osm_input.specs.declared.text.TextError.TheVariants.{TooMuchInput}
use Rattle.osm_job.specs.Whole.{IsAfterText, IsReadThen, IsRightAfterReading, IsTextThen, Whole, input_limit, longest_line}
use Rattle.job_coastline.specs.Coastline.{IsCoastline}
use Rattle.job_export.specs.Export.{IsExport}
use Rattle.job_small.specs.Certifying.Certify.{IsCertify}
use Rattle.job_small.specs.Certifying.Laws.{CertifyIsOne}
use Rattle.job_small.specs.Filtering.Filter.{IsFilter}
use Rattle.job_small.specs.Filtering.Laws.{FilterIsOne}
use Rattle.job_small.specs.Locating.Laws.{LocateIsOne}
use Rattle.job_small.specs.Locating.Locate.{IsLocate}
use Rattle.osm_area.specs.OneOutcome.{OutcomeIsOne}
use Rattle.one_output.specs.OneCoast.Laws.{CoastCountsAreOne, CoastlineIsOne}
use Rattle.osm_text.specs.Report.{ProblemLineIsOne}
use Rattle.one_output.specs.Laws.{IsReadAlike, IsTakenAlike, ObjectsTellTheWhole, WholeIsOne}
use Rattle.one_output.proofs.ExportOne.{export-one}
use Rattle.one_output.proofs.ReadingOne.{reading-one, text-one}
use Rattle.one_output.proofs.SampleOne.{sample_one}

-- what is right over the bytes of two inputs is one, where what is right over their objects is
module _ (count : LinesCount) (IsRight IsRight_2 : List Object → Whole → Type 0)
    (one : (objects : List Object) (v w : Whole) → IsRight objects v → IsRight_2 objects w → v ≡ w) where
  after-one : (r : Result (List Object) ReadError) (v w : Whole) → IsRightAfterReading IsRight r v → IsRightAfterReading IsRight_2 r w → v ≡ w
  after-one (Ok objects) v w s t = one objects v w s t
  after-one (Err e) v w s t = s ∙ sym t

  read-after : (Right : List Object → Whole → Type 0) (bytes : List ℕ) (r : Result (List Object) ReadError) (v : Whole) →
      IsReadAs input_limit longest_line bytes r → IsReadThen Right bytes v → IsRightAfterReading Right r v
  read-after Right bytes r v is s = subst (λ x. IsRightAfterReading Right x v) (reading-one count input_limit longest_line bytes s.read r s.is_read is) s.after

  -- it depends on what the inputs are read as alone
  pub alike-one : (bytes more : List ℕ) (r : Result (List Object) ReadError) (v w : Whole) → IsReadAs input_limit longest_line bytes r →
      IsReadAs input_limit longest_line more r →
      IsReadThen IsRight bytes v → IsReadThen IsRight_2 more w → v ≡ w
  alike-one bytes more r v w is also s t = after-one r v w (read-after IsRight bytes r v is s) (read-after IsRight_2 more r w also t)

-- what is right over the bytes of a text is one, where what is right over the text is, and depends on what it is taken as alone
module _ (IsRight : List ℕ → Whole → Type 0) (one : (text : List ℕ) (v w : Whole) → IsRight text v → IsRight text w → v ≡ w) where
  after-text-one : (r : Result (List ℕ) TextError) (v w : Whole) → IsAfterText IsRight r v → IsAfterText IsRight r w → v ≡ w
  after-text-one (Ok text) v w s t = one text v w s t
  after-text-one (Err e) v w s t = s ∙ sym t

  text-after : (bytes : List ℕ) (r : Result (List ℕ) TextError) (v : Whole) → IsTextAs input_limit bytes r → IsTextThen IsRight bytes v →
      IsAfterText IsRight r v
  text-after bytes r v is s = subst (λ x. IsAfterText IsRight x v) (text-one input_limit bytes s.read r s.is_read is) s.after

  pub text-alike : (bytes more : List ℕ) → IsTakenAlike bytes more → (v w : Whole) → IsTextThen IsRight bytes v → IsTextThen IsRight more w → v ≡ w
  text-alike bytes more alike v w s t = after-text-one alike.0 v w (text-after bytes alike.0 v alike.1 s) (text-after more alike.0 w alike.2 t)

-- ---- bytes that are read as they are

itself : (IsRight : List Object → Whole → Type 0) (bytes : List ℕ) (v : Whole) → IsReadThen IsRight bytes v → IsReadAlike bytes bytes
itself IsRight bytes v s = (s.read, s.is_read, s.is_read)

text-itself-by : (bytes : List ℕ) → (input_limit < length bytes) ⊎ (length bytes ≤ input_limit) → IsTakenAlike bytes bytes
text-itself-by bytes (inl h) = (Err (TooMuchInput input_limit), (refl, h), (refl, h))
text-itself-by bytes (inr h) = (Ok bytes, (h, refl), (h, refl))

text-itself : (bytes : List ℕ) → IsTakenAlike bytes bytes
text-itself bytes = text-itself-by bytes (cases_lt input_limit (length bytes))

-- ---- any job

module _ (count : LinesCount) where
  -- over one input
  pub one-alike : (IsRight : List Object → Whole → Type 0) → ((objects : List Object) (v w : Whole) → IsRight objects v → IsRight objects w → v ≡ w) →
      (bytes more : List ℕ) →
      IsReadAlike bytes more → (v w : Whole) → IsReadThen IsRight bytes v → IsReadThen IsRight more w → v ≡ w
  one-alike IsRight one bytes more alike v w s t = alike-one count IsRight IsRight one bytes more alike.0 v w alike.1 alike.2 s t

  -- over one input and a text
  pub both-alike : (IsRight : List Object → List ℕ → Whole → Type 0) →
      ((objects : List Object) (text : List ℕ) (v w : Whole) → IsRight objects text v → IsRight objects text w → v ≡ w) → (bytes more text text_2 : List ℕ) →
      IsReadAlike bytes more → IsTakenAlike text text_2 → (v w : Whole) → IsReadThen (λ objects right. IsTextThen (IsRight objects) text right) bytes v →
      IsReadThen (λ objects right. IsTextThen (IsRight objects) text_2 right) more w → v ≡ w
  both-alike IsRight one bytes more text text_2 alike taken v w s t =
      alike-one count (λ objects right. IsTextThen (IsRight objects) text right) (λ objects right. IsTextThen (IsRight objects) text_2 right)
      (λ objects v w s t. text-alike (IsRight objects) (one objects) text text_2 taken v w s t) bytes more alike.0 v w alike.1 alike.2 s t

module _ (count : LinesCount) (line : ProblemLineIsOne) (coastline-one : CoastlineIsOne) (filter-one : FilterIsOne) (certify-one : CertifyIsOne)
    (locate-one : LocateIsOne) (outcome-one : OutcomeIsOne) (counts-one : CoastCountsAreOne) where
  -- what is right for a job depends on what its inputs are read as alone
  pub objects-tell : ObjectsTellTheWhole
  objects-tell (export settings) texts more v w alike s t = one-alike count (IsExport settings) (export-one line settings) texts.0 more.0 alike.0 v w s t
  objects-tell (coastline settings) texts more v w alike s t = one-alike count (IsCoastline settings) (coastline-one settings) texts.0 more.0 alike.0 v w s t
  objects-tell (sample cells) texts more v w alike s t = sample_one outcome-one counts-one cells v w s t
  objects-tell (filter settings) texts more v w alike s t = one-alike count IsFilter filter-one texts.0 more.0 alike.0 v w s t
  objects-tell (certify settings) texts more v w alike s t =
      both-alike count (IsCertify settings) (certify-one settings) texts.0 more.0 texts.1.0 more.1.0 alike.0 alike.1.0 v w s t
  objects-tell (locate settings) texts more v w alike s t =
      both-alike count (IsLocate settings) (locate-one settings) texts.0 more.0 texts.1.0 more.1.0 alike.0 alike.1.0 v w s t

  -- and is one
  pub whole-one : WholeIsOne
  whole-one (export settings) texts v w s t = objects-tell (export settings) texts texts v w (itself (IsExport settings) texts.0 v s, tt) s t
  whole-one (coastline settings) texts v w s t = objects-tell (coastline settings) texts texts v w (itself (IsCoastline settings) texts.0 v s, tt) s t
  whole-one (sample cells) texts v w s t = sample_one outcome-one counts-one cells v w s t
  whole-one (filter settings) texts v w s t = objects-tell (filter settings) texts texts v w (itself IsFilter texts.0 v s, tt) s t
  whole-one (certify settings) texts v w s t =
      objects-tell (certify settings) texts texts v w
      (itself (λ objects right. IsTextThen (IsCertify settings objects) texts.1.0 right) texts.0 v s, (text-itself texts.1.0, tt)) s t
  whole-one (locate settings) texts v w s t =
      objects-tell (locate settings) texts texts v w
      (itself (λ objects right. IsTextThen (IsLocate settings objects) texts.1.0 right) texts.0 v s, (text-itself texts.1.0, tt)) s t
