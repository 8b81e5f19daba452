-- A job whose inputs are read: each way in which it ends behind that.
use Rattle.std.proofs.Common.{◌≡◌, ◌∙◌, refl, sym, ap, ℕ, ◌+◌, ◌≤◌, ◌⊎◌, List, [], ◌∷◌, ◌++◌}
use Rattle.std.proofs.Common.{length, map, take, append-nil, length-append, arith, Option, None, Some, IfSome, is_some, inl, inr}
use Rattle.std.proofs.lemmas.List.{length-map, take_all, take-append-le}
use Rattle.osm_host.specs.Laws.{StreamsAppend}
use Rattle.osm_host.specs.Outside.{Outside, Opened, input, appended, risen, OnlyOpens}
use Rattle.osm_input.specs.Keeps.{KeepsNames}
use Rattle.osm_job.proofs.Keeping.{keeps_both, open_keeps, write_keeps}
use Rattle.osm_job.specs.declared.ended.Ended.{Ended}
use Rattle.osm_job.specs.declared.ended.Ended.TheVariants.{Done, Warnings, Errors, Stopped, BadWords, BadInput, TooMuchInput, TooManyPieces, Refuted, BadPoint}
use Rattle.osm_job.specs.declared.ended.Ended.TheVariants.{OpenFault, ReadFault, WriteFault, OutOfMemory}
use Rattle.osm_job.specs.Cause.{by_itself, by_verdict, cause_of}
use Rattle.osm_job.specs.Faults.{CountsFaults, writes_failed}
use Rattle.osm_job.specs.InputRead.{IsSilent}
use Rattle.osm_job.specs.Opens.{OpensBy, opens_of}
use Rattle.osm_job.specs.Prefix.{IsPrefix}
use Rattle.osm_job.specs.Sent.{Sent, output_of, report_of}
use Rattle.osm_job.specs.Taken.{IsFirstRead, IsStopped, TookBy, TookNothing, read_error}
use Rattle.osm_job.specs.Texts.{Texts, told_texts}
use Rattle.osm_job.specs.Whole.{Whole, silent}
use Rattle.osm_job.specs.Worked.{IsReady, IsWrittenOver, Worked, WroteOver}
use Rattle.osm_job.specs.Writes.{Added}
use Rattle.osm_job.specs.Written.{GoesOut, IsWrittenBy, WrotePrefix}

-- The inputs of a job were opened and taken, no call failed, and nothing was written. What is right over what they hold is
-- right over their texts.
pub record HasRead (inputs : List (List ℕ)) (IsRight : Texts inputs → Whole → Type 0) (TookAll : Outside → Outside → Type 0) (Over : Whole → Type 0)
    (before now : Outside) : Type 0 where
  pub silent : IsSilent before now
  pub opens : now.opens ≡ appended before.opens (map input inputs)
  pub open_faults : now.open_faults ≡ before.open_faults
  pub read_faults : now.read_faults ≡ before.read_faults
  pub took : (later : Outside) → later.left ≡ now.left → later.bytes_read ≡ now.bytes_read → TookAll before later
  pub untouched : inputs ≡ [] → TookNothing before now
  pub first : IsFirstRead inputs before
  pub right : (whole : Whole) → Over whole → IfSome (told_texts before.named inputs) (λ texts. IsRight texts whole)

-- ---- what is right, where the texts are told

prefix_told : {T : Type 0} (IsRight : T → Whole → Type 0) (told : Option T) (written : List Sent) (whole : Whole) → IfSome told (λ texts. IsRight texts whole) →
    cause_of whole.ended ≡ by_itself → IsPrefix written whole.written → WrotePrefix IsRight told written
prefix_told IsRight None written whole right comes front = tt
prefix_told IsRight (Some texts) written whole right comes front = (whole, right, comes, front)

goes_told : {T : Type 0} (IsRight : T → Whole → Type 0) (told : Option T) (whole : Whole) → IfSome told (λ texts. IsRight texts whole) →
    cause_of whole.ended ≡ by_itself → GoesOut IsRight told
goes_told IsRight None whole right comes = tt
goes_told IsRight (Some texts) whole right comes = (whole, right, comes)

-- ---- the opens of a job

pub inputs_first : (inputs : List (List ℕ)) (more : List Opened) → take (length inputs) (map input inputs ++ more) ≡ map input inputs
inputs_first inputs more =
    let same : length (map input inputs) ≡ length inputs = length-map inputs input in
    take-append-le (length inputs) (map input inputs) more (omega arith) ∙ take_all (length inputs) (map input inputs) (omega arith)

all_first : (inputs : List (List ℕ)) (target : Opened) → take (length inputs + 1) (opens_of inputs (target ∷ [])) ≡ opens_of inputs (target ∷ [])
all_first inputs target =
    take_all (length inputs + 1) (opens_of inputs (target ∷ [])) (omega (arith, length-append (map input inputs) (target ∷ []), length-map inputs input))

some_output : (target : Opened) → target ∷ [] ≡ [] → ⊥
some_output target none = omega (arith, ap length none)

-- ---- no output was opened

module _ (law : StreamsAppend) (inputs : List (List ℕ)) (outputs : List Opened) (IsRight : Texts inputs → Whole → Type 0) (TookAll : Outside → Outside → Type 0)
    (before : Outside) where
  abbrev Does : Ended → Outside → Type 0
  Does ended now = Worked inputs outputs IsRight TookAll ended before now

  abbrev Ready : Outside → Outside → Type 0
  Ready = IsReady inputs IsRight TookAll

  -- nothing was written
  pub silent_work : (ended : Ended) (now : Outside) → IsSilent before now → IsWrittenBy IsRight (cause_of ended) (told_texts before.named inputs) ended [] →
      IfSome (read_error ended) (λ error. IsStopped inputs error before now) → TookBy TookAll (cause_of ended) before now →
      (inputs ≡ [] → TookNothing before now) →
      OpensBy inputs outputs Ready (cause_of ended) before now → CountsFaults ended before now →
      now.write_faults ≡ writes_failed (cause_of ended) before.write_faults → Does ended now
  silent_work ended now quiet right refused took untouched opens faults write_faults = record {
    written = [];
    out = quiet.out ∙ sym (law.no_bytes before.out);
    report = quiet.report ∙ sym (law.no_bytes before.report);
    right = right;
    refused = refused;
    took = took;
    untouched = untouched;
    opens = opens;
    faults = faults;
    write_faults = write_faults;
    keeps = quiet.keeps;
  }

  module _ (Over : Whole → Type 0) (now : Outside) (has : HasRead inputs IsRight TookAll Over before now) where
    -- memory ran out behind the reading
    pub no_memory : Does OutOfMemory now
    no_memory =
        silent_work OutOfMemory now has.silent (inl refl) tt tt has.untouched
        (length inputs, (has.opens ∙ ap (appended before.opens) (sym (inputs_first inputs outputs)), λ more. absurd (omega arith), λ second. has.first))
        (record { opens = has.open_faults; reads = has.read_faults }) has.silent.write_faults

    -- what the inputs hold allows no output
    pub verdict : (ended : Ended) → cause_of ended ≡ by_verdict → Over (silent ended) → Does ended now
    verdict Done is over = absurd (cc)
    verdict Warnings is over = absurd (cc)
    verdict Errors is over = absurd (cc)
    verdict (Stopped candidate) is over = absurd (cc)
    verdict (BadWords cause) is over = absurd (cc)
    verdict (BadInput line fault) is over = absurd (cc)
    verdict (TooMuchInput limit) is over = absurd (cc)
    verdict (TooManyPieces most) is over =
        silent_work (TooManyPieces most) now has.silent (refl, has.right (silent (TooManyPieces most)) over) tt (has.took now refl refl) has.untouched has.opens
        (record { opens = has.open_faults; reads = has.read_faults }) has.silent.write_faults
    verdict (Refuted line) is over =
        silent_work (Refuted line) now has.silent (refl, has.right (silent (Refuted line)) over) tt (has.took now refl refl) has.untouched has.opens
        (record { opens = has.open_faults; reads = has.read_faults }) has.silent.write_faults
    verdict (BadPoint line) is over =
        silent_work (BadPoint line) now has.silent (refl, has.right (silent (BadPoint line)) over) tt (has.took now refl refl) has.untouched has.opens
        (record { opens = has.open_faults; reads = has.read_faults }) has.silent.write_faults
    verdict OpenFault is over = absurd (cc)
    verdict ReadFault is over = absurd (cc)
    verdict WriteFault is over = absurd (cc)
    verdict OutOfMemory is over = absurd (cc)

-- ---- the job has no output

pub done : (law : StreamsAppend) (inputs : List (List ℕ)) (IsRight : Texts inputs → Whole → Type 0) (TookAll : Outside → Outside → Type 0) (before : Outside)
    (Over : Whole → Type 0) (now : Outside) →
    HasRead inputs IsRight TookAll Over before now → Over (silent Done) → Worked inputs [] IsRight TookAll Done before now
done law inputs IsRight TookAll before Over now has over =
    silent_work law inputs [] IsRight TookAll before Done now has.silent (has.right (silent Done) over) tt (has.took now refl refl) has.untouched
    (has.opens ∙ ap (appended before.opens) (sym (append-nil (map input inputs)))) (record { opens = has.open_faults; reads = has.read_faults })
    has.silent.write_faults

-- ---- the output is asked for

module _ (law : StreamsAppend) (inputs : List (List ℕ)) (output : Opened) (IsRight : Texts inputs → Whole → Type 0) (TookAll : Outside → Outside → Type 0)
    (before : Outside)
    (Over : Whole → Type 0) (now : Outside) (has : HasRead inputs IsRight TookAll Over before now)
    (opened : Outside) (opens_only : OnlyOpens now opened) (still_left : opened.left ≡ now.left) (rises : now.open_faults ≤ opened.open_faults)
    (still_counted : opened.bytes_read ≡ now.bytes_read) where
  abbrev Did : Ended → Outside → Type 0
  Did ended last = Worked inputs (output ∷ []) IsRight TookAll ended before last

  opened_keeps : KeepsNames before opened
  opened_keeps = keeps_both before now opened has.silent.keeps (open_keeps now opened opens_only (ap (λ (o : Option (List ℕ)). is_some o) still_left) rises)

  all_opens : (last : Outside) → last.opens ≡ appended now.opens (output ∷ []) → last.opens ≡ appended before.opens (opens_of inputs (output ∷ []))
  all_opens last is = is ∙ ap (λ (o : Option (List Opened)). appended o (output ∷ [])) has.opens ∙ law.opens before.opens (map input inputs) (output ∷ [])

  first_opens : (last : Outside) → last.opens ≡ appended now.opens (output ∷ []) →
      last.opens ≡ appended before.opens (take (length inputs + 1) (opens_of inputs (output ∷ [])))
  first_opens last is = all_opens last is ∙ ap (appended before.opens) (sym (all_first inputs output))

  none_touched : (last : Outside) → last.left ≡ now.left → last.bytes_read ≡ now.bytes_read → inputs ≡ [] → TookNothing before last
  none_touched last left counted none = record { left = left ∙ (has.untouched none).left; bytes_read = counted ∙ (has.untouched none).bytes_read }

  comes_out : (whole : Whole) → Over whole → cause_of whole.ended ≡ by_itself → GoesOut IsRight (told_texts before.named inputs)
  comes_out whole over comes = goes_told IsRight (told_texts before.named inputs) whole (has.right whole over) comes

  -- it isn't opened
  pub output_not_opened : (whole : Whole) × Over whole × (cause_of whole.ended ≡ by_itself) → opened.open_faults ≡ risen now.open_faults
      → ((opened.opens ≡ appended now.opens (output ∷ [])) ⊎ (opened.opens ≡ now.opens)) → Did OpenFault opened
  output_not_opened goes failed listed_or_not = record {
    written = [];
    out = opens_only.out ∙ has.silent.out ∙ sym (law.no_bytes before.out);
    report = opens_only.report ∙ has.silent.report ∙ sym (law.no_bytes before.report);
    right = refl;
    refused = tt;
    took = tt;
    untouched = none_touched opened still_left still_counted;
    opens = elim listed_or_not [
      | inl all ↦
          (length inputs + 1, (first_opens opened all, λ more. (has.took opened still_left still_counted, comes_out goes.0 goes.1 goes.2), λ second. has.first))
      | inr none ↦ (length inputs, (none ∙ has.opens ∙ ap (appended before.opens) (sym (inputs_first inputs (output ∷ []))), λ more. absurd (omega arith), λ second. has.first))
    ];
    faults = record { opens = failed ∙ ap risen has.open_faults; reads = opens_only.read_faults ∙ has.read_faults };
    write_faults = opens_only.write_faults ∙ has.silent.write_faults;
    keeps = opened_keeps;
  }

  module _ (lists : opened.opens ≡ appended now.opens (output ∷ [])) (same : opened.open_faults ≡ now.open_faults) (last : Outside) where
    module _ (written : List Sent) (added : Added written opened last) where
      last_left : last.left ≡ now.left
      last_left = added.rest.left ∙ still_left

      last_counted : last.bytes_read ≡ now.bytes_read
      last_counted = added.rest.bytes_read ∙ still_counted

      took_all : TookAll before last
      took_all = has.took last last_left last_counted

      opens_all : last.opens ≡ appended before.opens (opens_of inputs (output ∷ []))
      opens_all = all_opens last (added.rest.opens ∙ lists)

      opens_same : last.open_faults ≡ before.open_faults
      opens_same = added.rest.open_faults ∙ same ∙ has.open_faults

      reads_same : last.read_faults ≡ before.read_faults
      reads_same = added.rest.read_faults ∙ opens_only.read_faults ∙ has.read_faults

      writes_so_far : opened.write_faults ≡ before.write_faults
      writes_so_far = opens_only.write_faults ∙ has.silent.write_faults

      works : (ended : Ended) → IsWrittenBy IsRight (cause_of ended) (told_texts before.named inputs) ended written →
          IfSome (read_error ended) (λ error. IsStopped inputs error before last) →
          TookBy TookAll (cause_of ended) before last → OpensBy inputs (output ∷ []) (IsReady inputs IsRight TookAll) (cause_of ended) before last →
          CountsFaults ended before last →
          last.write_faults ≡ writes_failed (cause_of ended) before.write_faults → Did ended last
      works ended right refused took opens faults write_faults = record {
        written = written;
        out = added.out ∙ ap (λ (o : Option (List ℕ)). appended o (output_of written)) (opens_only.out ∙ has.silent.out);
        report = added.report ∙ ap (λ (o : Option (List ℕ)). appended o (report_of written)) (opens_only.report ∙ has.silent.report);
        right = right;
        refused = refused;
        took = took;
        untouched = none_touched last last_left last_counted;
        opens = opens;
        faults = faults;
        write_faults = write_faults;
        keeps = keeps_both before opened last opened_keeps (write_keeps opened last added.rest.named added.rest.left added.rest.open_faults
            added.rest.read_faults added.never_falls);
      }

      begun : (whole : Whole) → Over whole → cause_of whole.ended ≡ by_itself → IsPrefix written whole.written →
          WrotePrefix IsRight (told_texts before.named inputs) written
      begun whole over comes front = prefix_told IsRight (told_texts before.named inputs) written whole (has.right whole over) comes front

      over_all : (ended : Ended) → IsWrittenOver Over (cause_of ended) ended written → last.write_faults ≡ writes_failed (cause_of ended) opened.write_faults →
          Did ended last
      over_all Done right counts =
          works Done (has.right (record { written = written; ended = Done }) right) tt took_all opens_all (record { opens = opens_same; reads = reads_same })
          (counts ∙ writes_so_far)
      over_all Warnings right counts =
          works Warnings (has.right (record { written = written; ended = Warnings }) right) tt took_all opens_all
          (record { opens = opens_same; reads = reads_same }) (counts ∙ writes_so_far)
      over_all Errors right counts =
          works Errors (has.right (record { written = written; ended = Errors }) right) tt took_all opens_all
          (record { opens = opens_same; reads = reads_same }) (counts ∙ writes_so_far)
      over_all (Stopped candidate) right counts =
          works (Stopped candidate) (has.right (record { written = written; ended = Stopped candidate }) right) tt took_all opens_all
          (record { opens = opens_same; reads = reads_same }) (counts ∙ writes_so_far)
      over_all (BadWords cause) right counts = absurd right
      over_all (BadInput line fault) right counts = absurd right
      over_all (TooMuchInput limit) right counts = absurd right
      over_all (TooManyPieces most) right counts = absurd right
      over_all (Refuted line) right counts = absurd right
      over_all (BadPoint line) right counts = absurd right
      over_all OpenFault right counts = absurd right
      over_all ReadFault right counts = absurd right
      over_all WriteFault right counts =
          works WriteFault (begun right.0 right.1 right.2 right.3) tt took_all (some_output output, opens_all)
          (record { opens = opens_same; reads = reads_same }) (counts ∙ ap risen writes_so_far)
      over_all OutOfMemory right counts =
          works OutOfMemory (inr (begun right.0 right.1 right.2 right.3)) tt tt
          (length inputs + 1, (first_opens last (added.rest.opens ∙ lists), λ more. (took_all, comes_out right.0 right.1 right.2), λ second. has.first))
          (record { opens = opens_same; reads = reads_same }) (counts ∙ writes_so_far)

    -- it was written, as far as the job came
    pub output_written : (ended : Ended) → WroteOver Over ended opened last → Did ended last
    output_written ended wrote = over_all wrote.written wrote.added ended wrote.right wrote.counts
