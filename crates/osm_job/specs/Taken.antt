-- What a job took from its inputs.
use Rattle.std.specs.Prelude.{◌≡◌, ◌⊎◌, ℕ, List, [], ◌∷◌, length, Option, None, Some, IfSome, Result, Ok, Err}
use Rattle.osm_elements.specs.declared.object.Object.{Object}
use Rattle.osm_host.specs.Outside.{Outside, input, appended, preceded, grown}
use Rattle.osm_input.specs.declared.reading.ReadError.{ReadError}
use Rattle.osm_input.specs.declared.reading.ReadError.TheVariants as read
use Rattle.osm_input.specs.Reading.{IsAnswerOfReading, IsReadAs}
use Rattle.osm_input.specs.declared.text.TextError.{TextError}
use Rattle.osm_input.specs.declared.text.TextError.TheVariants as text_fault
use Rattle.osm_input.specs.Text.{IsTextAnswer}
use Rattle.osm_job.specs.declared.ended.Ended.{Ended}
use Rattle.osm_job.specs.declared.ended.Ended.TheVariants.{Done, Warnings, Errors, Stopped, BadWords, BadInput, TooMuchInput, TooManyPieces, Refuted, BadPoint}
use Rattle.osm_job.specs.declared.ended.Ended.TheVariants.{OpenFault, ReadFault, WriteFault, OutOfMemory}
use Rattle.osm_job.specs.Cause.{Cause, by_itself, by_words, by_input, by_verdict, by_open, by_read, by_write, by_memory}
use Rattle.osm_job.specs.Whole.{input_limit, longest_line}

-- These bytes were taken from the input of this name and counted, and this is the answer for them.
pub record TookOff (name : List ℕ) (result : Result (List Object) ReadError) (before after : Outside) : Type 0 where
  pub taken : List ℕ
  pub left : before.named name ≡ preceded taken after.left
  pub counted : after.bytes_read ≡ grown 0 (length taken)
  pub answer : IsAnswerOfReading input_limit longest_line taken after result

-- As TookOff, for an input that is read as one text.
pub record TookText (name : List ℕ) (result : Result (List ℕ) TextError) (before after : Outside) : Type 0 where
  pub taken : List ℕ
  pub left : before.named name ≡ preceded taken after.left
  pub counted : after.bytes_read ≡ grown 0 (length taken)
  pub answer : IsTextAnswer input_limit taken after result

-- ---- inputs that don't let the job go on

-- The input that tells the objects, the only one opened, can't be read, as the bytes taken from it show.
abbrev pub IsFileStopped : List ℕ → ReadError → Outside → Outside → Type 0
IsFileStopped file error before after =
    TookOff file (Err error) before after × (after.opens ≡ appended before.opens (input file ∷ []))

-- The input of this name tells objects, if the input is known.
abbrev pub IsReadableInput : List ℕ → Outside → Type 0
IsReadableInput file before = (objects : List Object) × IfSome (before.named file) (λ bytes. IsReadAs input_limit longest_line bytes (Ok objects))

-- If there is a second input, the first tells objects.
abbrev pub IsFirstRead : List (List ℕ) → Outside → Type 0
IsFirstRead [] before = Unit {0}
IsFirstRead (file ∷ []) before = Unit {0}
IsFirstRead (file ∷ text ∷ more) before = IsReadableInput file before

-- the error of a reader of a text that ends a run like this one
abbrev pub text_error : ReadError → Option TextError
text_error (read.BadInput line fault) = None
text_error (read.TooMuchInput limit) = Some (text_fault.TooMuchInput limit)
text_error read.ReadFault = Some text_fault.ReadFault
text_error read.OutOfMemory = Some text_fault.OutOfMemory

-- The first input is read. The text, opened after it, can't be read, as the bytes taken from it show.
abbrev pub IsTextStopped : List ℕ → List ℕ → ReadError → Outside → Outside → Type 0
IsTextStopped file text error before after =
    IsReadableInput file before × (found : TextError) × (text_error error ≡ Some found) × TookText text (Err found) before after
    × (after.opens ≡ appended before.opens (input file ∷ input text ∷ []))

-- One of the inputs, the last that was opened, can't be read, as the bytes taken from it show.
-- The first of them tells objects, and a second one is a text.
abbrev pub IsStopped : List (List ℕ) → ReadError → Outside → Outside → Type 0
IsStopped [] error before after = ⊥
IsStopped (file ∷ []) error before after = IsFileStopped file error before after
IsStopped (file ∷ text ∷ more) error before after = IsFileStopped file error before after ⊎ IsTextStopped file text error before after

-- ---- inputs that are read

-- A job's one input was taken to its end and is read.
abbrev pub TookInput : List ℕ → Outside → Outside → Type 0
TookInput name before after = (objects : List Object) × TookOff name (Ok objects) before after

-- A job's input of objects is read, and then its text was taken to its end.
abbrev pub TookBoth : List ℕ → List ℕ → Outside → Outside → Type 0
TookBoth file text before after = IsReadableInput file before × (bytes : List ℕ) × TookText text (Ok bytes) before after

-- Nothing was taken from any input.
pub record TookNothing (before after : Outside) : Type 0 where
  pub left : after.left ≡ before.left
  pub bytes_read : after.bytes_read ≡ before.bytes_read

-- the error of a reader that ends a run like this
abbrev pub read_error : Ended → Option ReadError
read_error Done = None
read_error Warnings = None
read_error Errors = None
read_error (Stopped candidate) = None
read_error (BadWords cause) = None
read_error (BadInput line fault) = Some (read.BadInput line fault)
read_error (TooMuchInput limit) = Some (read.TooMuchInput limit)
read_error (TooManyPieces most) = None
read_error (Refuted line) = None
read_error (BadPoint line) = None
read_error OpenFault = None
read_error ReadFault = Some read.ReadFault
read_error WriteFault = None
read_error OutOfMemory = None

-- The inputs were taken to their ends if a run came to its end, the contents of its inputs allow no output, or a write failed.
abbrev pub TookBy : (Outside → Outside → Type 0) → Cause → Outside → Outside → Type 0
TookBy TookAll by_itself before after = TookAll before after
TookBy TookAll by_words before after = ⊥
TookBy TookAll by_input before after = Unit {0}
TookBy TookAll by_verdict before after = TookAll before after
TookBy TookAll by_open before after = Unit {0}
TookBy TookAll by_read before after = Unit {0}
TookBy TookAll by_write before after = TookAll before after
TookBy TookAll by_memory before after = Unit {0}
