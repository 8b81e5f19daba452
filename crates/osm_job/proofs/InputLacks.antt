-- A job whose first input isn't opened, isn't read, or is refused.
use Rattle.std.proofs.Common.{◌≡◌, ◌∙◌, refl, sym, ap, ℕ, List, [], ◌∷◌, ◌++◌, length, map, take, arith, IfSome, Err, inl, inr}
use Rattle.osm_host.specs.Laws.{StreamsAppend}
use Rattle.osm_host.specs.Outside.{Outside, Opened, input, appended}
use Rattle.osm_input.specs.declared.reading.ReadError.{ReadError}
use Rattle.osm_input.specs.declared.reading.ReadError.TheVariants as read
use Rattle.osm_input.specs.Reading.{IsReadAs}
use Rattle.osm_job.proofs.OnceRead.{inputs_first, silent_work}
use Rattle.osm_job.specs.declared.ended.Ended.{Ended}
use Rattle.osm_job.specs.declared.ended.Ended.TheVariants.{Done, Warnings, Errors, Stopped, BadWords, BadInput, TooMuchInput, TooManyPieces, Refuted, BadPoint}
use Rattle.osm_job.specs.declared.ended.Ended.TheVariants.{OpenFault, ReadFault, WriteFault, OutOfMemory}
use Rattle.osm_job.specs.InputRead.{OpensOne, LacksInput}
use Rattle.osm_job.specs.Opens.{OpensInputs, opens_of}
use Rattle.osm_job.specs.Taken.{IsFileStopped, IsStopped, TookNothing}
use Rattle.osm_job.specs.Texts.{Texts, told_texts}
use Rattle.osm_job.specs.Whole.{Whole, ending_of_read, silent, input_limit, longest_line}
use Rattle.osm_job.specs.Worked.{Worked}

pub some_input : (file : List ℕ) (more : List (List ℕ)) → file ∷ more ≡ [] → ⊥
some_input file more none = omega (arith, ap length none)

-- the first n opens of a job are its first n inputs, and none comes before
module _ (file : List ℕ) (more : List (List ℕ)) (outputs : List Opened) (before now : Outside) where
  pub first_of : now.opens ≡ appended before.opens (input file ∷ []) → now.opens ≡ appended before.opens (take 1 (opens_of (file ∷ more) outputs))
  first_of one = one ∙ ap (appended before.opens) (sym (inputs_first (file ∷ []) (map input more ++ outputs)))

module _ (law : StreamsAppend) (file : List ℕ) (more : List (List ℕ)) (outputs : List Opened) (IsRight : Texts (file ∷ more) → Whole → Type 0)
    (TookAll : Outside → Outside → Type 0) (before now : Outside)
    (refused : (error : ReadError) → IfSome (before.named file) (λ bytes. IsReadAs input_limit longest_line bytes (Err error)) →
    IfSome (told_texts before.named (file ∷ more)) (λ texts. IsRight texts (silent (ending_of_read error))))
    (stops : (error : ReadError) → IsFileStopped file error before now → IsStopped (file ∷ more) error before now) where
  abbrev Does : Ended → Type 0
  Does ended = Worked (file ∷ more) outputs IsRight TookAll ended before now

  opens_some : OpensOne file before now → OpensInputs (file ∷ more) outputs before now
  opens_some one = (1, omega arith, omega arith, first_of file more outputs before now one)

  untouched : file ∷ more ≡ [] → TookNothing before now
  untouched none = absurd (some_input file more none)

  pub lacks_first : (ended : Ended) → LacksInput file ended before now → Does ended
  lacks_first Done l = absurd l.lack
  lacks_first Warnings l = absurd l.lack
  lacks_first Errors l = absurd l.lack
  lacks_first (Stopped candidate) l = absurd l.lack
  lacks_first (BadWords cause) l = absurd l.lack
  lacks_first (BadInput line fault) l =
      silent_work law (file ∷ more) outputs IsRight TookAll before (BadInput line fault) now l.silent (refl, refused (read.BadInput line fault) l.lack.right)
      (stops (read.BadInput line fault) l.lack.stopped) tt untouched (opens_some l.lack.opens) l.faults l.silent.write_faults
  lacks_first (TooMuchInput limit) l =
      silent_work law (file ∷ more) outputs IsRight TookAll before (TooMuchInput limit) now l.silent (refl, refused (read.TooMuchInput limit) l.lack.right)
      (stops (read.TooMuchInput limit) l.lack.stopped) tt untouched (opens_some l.lack.opens) l.faults l.silent.write_faults
  lacks_first (TooManyPieces most) l = absurd l.lack
  lacks_first (Refuted line) l = absurd l.lack
  lacks_first (BadPoint line) l = absurd l.lack
  lacks_first OpenFault l =
      silent_work law (file ∷ more) outputs IsRight TookAll before OpenFault now l.silent refl tt tt untouched (elim l.lack [
        | inl one ↦ (1, (first_of file more outputs before now one, λ behind. absurd (omega arith), λ second. absurd (omega arith)))
        | inr none ↦ (
          0,
          (
            none ∙ sym (law.no_opens before.opens) ∙ ap (appended before.opens) (sym (inputs_first [] (opens_of (file ∷ more) outputs))),
            λ behind. absurd (omega arith),
            λ second. absurd (omega arith),
          ),
        )
      ]) l.faults l.silent.write_faults
  lacks_first ReadFault l =
      silent_work law (file ∷ more) outputs IsRight TookAll before ReadFault now l.silent refl (stops read.ReadFault l.lack.0) tt untouched
      (opens_some l.lack.1) l.faults l.silent.write_faults
  lacks_first WriteFault l = absurd l.lack
  lacks_first OutOfMemory l =
      silent_work law (file ∷ more) outputs IsRight TookAll before OutOfMemory now l.silent (inl refl) tt tt untouched
      (1, (first_of file more outputs before now l.lack, λ behind. absurd (omega arith), λ second. absurd (omega arith))) l.faults l.silent.write_faults
