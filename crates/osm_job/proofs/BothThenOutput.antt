-- A job that reads an input and then a text, and then writes one output or none: each way in which it ends.
use Rattle.std.proofs.Common.{◌≡◌, ◌∙◌, refl, sym, ap, ℕ, ◌≤◌, ◌⊎◌, List, [], ◌∷◌, take, arith, Option, None, Some, IfSome, Ok, Err, inl, inr}
use Rattle.osm_elements.specs.declared.object.Object.{Object}
use Rattle.osm_host.specs.Laws.{StreamsAppend}
use Rattle.osm_host.specs.Outside.{Outside, Opened, appended, risen, OnlyOpens}
use Rattle.osm_input.specs.declared.reading.ReadError.{ReadError}
use Rattle.osm_input.specs.declared.text.TextError.TheVariants as text_fault
use Rattle.osm_input.specs.Reading.{IsReadAs}
use Rattle.osm_input.specs.Text.{IsTextAs}
use Rattle.osm_job.proofs.InputLacks.{first_of, lacks_first, some_input}
use Rattle.osm_job.proofs.OnceRead as once
use Rattle.osm_job.proofs.Taken.{text_kept}
use Rattle.osm_job.specs.declared.ended.Ended.{Ended}
use Rattle.osm_job.specs.declared.ended.Ended.TheVariants.{Done, Warnings, Errors, Stopped, BadWords, BadInput, TooMuchInput, TooManyPieces, Refuted, BadPoint}
use Rattle.osm_job.specs.declared.ended.Ended.TheVariants.{OpenFault, ReadFault, WriteFault, OutOfMemory}
use Rattle.osm_job.specs.Cause.{by_itself, by_verdict, cause_of}
use Rattle.osm_job.specs.InputRead.{OpensBoth, HasBoth, LacksBoth, LacksText}
use Rattle.osm_job.specs.Opens.{OpensInputs, opens_of}
use Rattle.osm_job.specs.Taken.{IsReadableInput, TookBoth, TookNothing}
use Rattle.osm_job.specs.Texts.{Texts, both}
use Rattle.osm_job.specs.Whole.{Whole, ending_of_read, silent, input_limit, longest_line}
use Rattle.osm_job.specs.Worked.{OverBoth, ReadBoth, WroteOver}

-- ---- what is right, where both are told

module _ (file name : List ℕ) (IsRight : List Object → List ℕ → Whole → Type 0) where
  file_refused : (told more : Option (List ℕ)) (error : ReadError) → IfSome told (λ bytes. IsReadAs input_limit longest_line bytes (Err error)) →
      IfSome (both told (both more (Some tt))) (λ texts. OverBoth IsRight file name texts (silent (ending_of_read error)))
  file_refused None None error is = tt
  file_refused None (Some content) error is = tt
  file_refused (Some bytes) None error is = tt
  file_refused (Some bytes) (Some content) error is = record { read = Err error; is_read = is; after = refl }

  text_refused : (told more : Option (List ℕ)) (objects : List Object) (limit : ℕ) →
      IfSome told (λ bytes. IsReadAs input_limit longest_line bytes (Ok objects)) →
      IfSome more (λ bytes. IsTextAs input_limit bytes (Err (text_fault.TooMuchInput limit))) →
      IfSome (both told (both more (Some tt))) (λ texts. OverBoth IsRight file name texts (silent (TooMuchInput limit)))
  text_refused None None objects limit is passes = tt
  text_refused None (Some content) objects limit is passes = tt
  text_refused (Some bytes) None objects limit is passes = tt
  text_refused (Some bytes) (Some content) objects limit is passes = record {
    read = Ok objects;
    is_read = is;
    after = record { read = Err (text_fault.TooMuchInput limit); is_read = passes; after = refl };
  }

  both_right : (told more : Option (List ℕ)) (objects : List Object) (content : List ℕ) →
      IfSome told (λ bytes. IsReadAs input_limit longest_line bytes (Ok objects)) →
      IfSome more (λ bytes. IsTextAs input_limit bytes (Ok content)) → (whole : Whole) → IsRight objects content whole →
      IfSome (both told (both more (Some tt))) (λ texts. OverBoth IsRight file name texts whole)
  both_right None None objects content is is_text whole right = tt
  both_right None (Some bytes) objects content is is_text whole right = tt
  both_right (Some bytes) None objects content is is_text whole right = tt
  both_right (Some bytes) (Some other) objects content is is_text whole right = record {
    read = Ok objects;
    is_read = is;
    after = record { read = Ok content; is_read = is_text; after = right };
  }

-- ---- the inputs

module _ (law : StreamsAppend) (file name : List ℕ) (outputs : List Opened) (IsRight : List Object → List ℕ → Whole → Type 0) (before : Outside) where
  abbrev Right : Texts (file ∷ name ∷ []) → Whole → Type 0
  Right = OverBoth IsRight file name

  abbrev Does : Ended → Outside → Type 0
  Does ended now = ReadBoth file name outputs IsRight ended before now

  both_opened : (now : Outside) → OpensBoth file name before now → now.opens ≡ appended before.opens (take 2 (opens_of (file ∷ name ∷ []) outputs))
  both_opened now opens = opens ∙ ap (appended before.opens) (sym (once.inputs_first (file ∷ name ∷ []) outputs))

  opens_inputs : (now : Outside) → OpensBoth file name before now → OpensInputs (file ∷ name ∷ []) outputs before now
  opens_inputs now opens = (2, omega arith, omega arith, both_opened now opens)

  untouched : (now : Outside) → file ∷ name ∷ [] ≡ [] → TookNothing before now
  untouched now none = absurd (some_input file (name ∷ []) none)

  -- the input is read, and the text isn't opened, isn't read, or has too many bytes
  lacks_text : (ended : Ended) (now : Outside) → LacksText file name ended before now → Does ended now
  lacks_text Done now l = absurd l.lack
  lacks_text Warnings now l = absurd l.lack
  lacks_text Errors now l = absurd l.lack
  lacks_text (Stopped candidate) now l = absurd l.lack
  lacks_text (BadWords cause) now l = absurd l.lack
  lacks_text (BadInput line fault) now l = absurd l.lack
  lacks_text (TooMuchInput limit) now l =
      let readable : IsReadableInput file before = l.lack.stopped.0 in
      once.silent_work law (file ∷ name ∷ []) outputs Right (TookBoth file name) before (TooMuchInput limit) now l.silent
      (refl, text_refused file name IsRight (before.named file) (before.named name) readable.0 limit readable.1 l.lack.right)
      (inr l.lack.stopped) tt (untouched now) (opens_inputs now l.lack.opens) l.faults l.silent.write_faults
  lacks_text (TooManyPieces most) now l = absurd l.lack
  lacks_text (Refuted line) now l = absurd l.lack
  lacks_text (BadPoint line) now l = absurd l.lack
  lacks_text OpenFault now l =
      once.silent_work law (file ∷ name ∷ []) outputs Right (TookBoth file name) before OpenFault now l.silent refl tt tt (untouched now) (elim l.lack [
        | inl two ↦ (2, (both_opened now two, λ behind. absurd (omega arith), λ second. l.readable))
        | inr one ↦ (1, (first_of file (name ∷ []) outputs before now one, λ behind. absurd (omega arith), λ second. l.readable))
      ]) l.faults l.silent.write_faults
  lacks_text ReadFault now l =
      once.silent_work law (file ∷ name ∷ []) outputs Right (TookBoth file name) before ReadFault now l.silent refl (inr l.lack.0) tt (untouched now)
      (opens_inputs now l.lack.1) l.faults l.silent.write_faults
  lacks_text WriteFault now l = absurd l.lack
  lacks_text OutOfMemory now l =
      once.silent_work law (file ∷ name ∷ []) outputs Right (TookBoth file name) before OutOfMemory now l.silent (inl refl) tt tt (untouched now)
      (2, (both_opened now l.lack, λ behind. absurd (omega arith), λ second. l.readable)) l.faults l.silent.write_faults

  -- the input or the text isn't opened, isn't read, or is refused
  pub lacks_both : (ended : Ended) (now : Outside) → LacksBoth file name ended before now → Does ended now
  lacks_both ended now (inl lacks) =
      lacks_first law file (name ∷ []) outputs Right (TookBoth file name) before now
      (λ error is. file_refused file name IsRight (before.named file) (before.named name) error is) (λ error stopped. inl stopped) ended lacks
  lacks_both ended now (inr lacks) = lacks_text ended now lacks

-- ---- both are read

module _ (file name : List ℕ) (IsRight : List Object → List ℕ → Whole → Type 0) (before : Outside) (objects : List Object) (content : List ℕ) (now : Outside)
    (has : HasBoth file name objects content before now) where
  has_read : once.HasRead (file ∷ name ∷ []) (OverBoth IsRight file name) (TookBoth file name) (IsRight objects content) before now
  has_read = record {
    silent = has.silent;
    opens = has.opens;
    open_faults = has.open_faults;
    read_faults = has.read_faults;
    took = λ later left counted. ((objects, has.right), content, text_kept now later left counted before name (Ok content) has.took);
    untouched = λ none. absurd (some_input file (name ∷ []) none);
    first = (objects, has.right);
    right = λ whole right. both_right file name IsRight (before.named file) (before.named name) objects content has.right has.right_text whole right;
  }

module _ (law : StreamsAppend) (file name : List ℕ) (outputs : List Opened) (IsRight : List Object → List ℕ → Whole → Type 0) (before : Outside)
    (objects : List Object) (content : List ℕ) (now : Outside) (has : HasBoth file name objects content before now) where
  -- memory ran out behind the reading
  pub no_memory_both : ReadBoth file name outputs IsRight OutOfMemory before now
  no_memory_both =
      once.no_memory law (file ∷ name ∷ []) outputs (OverBoth IsRight file name) (TookBoth file name) before (IsRight objects content) now
      (has_read file name IsRight before objects content now has)

  -- what they hold allows no output
  pub verdict_both : (ended : Ended) → cause_of ended ≡ by_verdict → IsRight objects content (silent ended) →
      ReadBoth file name outputs IsRight ended before now
  verdict_both ended is right =
      once.verdict law (file ∷ name ∷ []) outputs (OverBoth IsRight file name) (TookBoth file name) before (IsRight objects content) now
      (has_read file name IsRight before objects content now has) ended is right

-- the job has no output
pub done_both : (law : StreamsAppend) (file name : List ℕ) (IsRight : List Object → List ℕ → Whole → Type 0) (before : Outside) (objects : List Object)
    (content : List ℕ) (now : Outside) →
    HasBoth file name objects content before now → IsRight objects content (silent Done) → ReadBoth file name [] IsRight Done before now
done_both law file name IsRight before objects content now has right =
    once.done law (file ∷ name ∷ []) (OverBoth IsRight file name) (TookBoth file name) before (IsRight objects content) now
    (has_read file name IsRight before objects content now has) right

-- ---- the output is asked for

module _ (law : StreamsAppend) (file name : List ℕ) (output : Opened) (IsRight : List Object → List ℕ → Whole → Type 0) (before : Outside)
    (objects : List Object) (content : List ℕ) (now : Outside) (has : HasBoth file name objects content before now)
    (opened : Outside) (opens_only : OnlyOpens now opened) (still_left : opened.left ≡ now.left) (rises : now.open_faults ≤ opened.open_faults)
    (still_counted : opened.bytes_read ≡ now.bytes_read) where
  -- it isn't opened
  pub both_not_opened : (whole : Whole) × IsRight objects content whole × (cause_of whole.ended ≡ by_itself) → opened.open_faults ≡ risen now.open_faults →
      ((opened.opens ≡ appended now.opens (output ∷ [])) ⊎ (opened.opens ≡ now.opens)) → ReadBoth file name (output ∷ []) IsRight OpenFault before opened
  both_not_opened goes failed listed_or_not =
      once.output_not_opened law (file ∷ name ∷ []) output (OverBoth IsRight file name) (TookBoth file name) before (IsRight objects content) now
      (has_read file name IsRight before objects content now has)
      opened opens_only still_left rises still_counted goes failed listed_or_not

  -- it was written, as far as the job came
  pub both_written : (lists : opened.opens ≡ appended now.opens (output ∷ [])) (same : opened.open_faults ≡ now.open_faults) (last : Outside) (ended : Ended) →
      WroteOver (IsRight objects content) ended opened last → ReadBoth file name (output ∷ []) IsRight ended before last
  both_written lists same last ended wrote =
      once.output_written law (file ∷ name ∷ []) output (OverBoth IsRight file name) (TookBoth file name) before (IsRight objects content) now
      (has_read file name IsRight before objects content now has)
      opened opens_only still_left rises still_counted lists same last ended wrote
