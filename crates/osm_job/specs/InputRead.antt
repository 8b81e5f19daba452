-- The inputs of a job that are opened and read before anything else is done.
-- There is one that tells objects, and maybe a text that is read after it.
use Rattle.std.specs.Prelude.{◌≡◌, ◌⊎◌, ℕ, List, [], ◌∷◌, IfSome, Result, Ok, Err, Vec}
use Rattle.std.specs.declared.alloc.Global.{Global}
use Rattle.osm_elements.specs.declared.object.Object.{Object}
use Rattle.osm_host.specs.Outside.{Outside, input, appended}
use Rattle.osm_input.specs.declared.reading.ReadError.{ReadError}
use Rattle.osm_input.specs.declared.reading.ReadError.TheVariants as read
use Rattle.osm_input.specs.Keeps.{KeepsNames}
use Rattle.osm_input.specs.declared.text.TextError.TheVariants as text_fault
use Rattle.osm_input.specs.Reading.{IsReadAs}
use Rattle.osm_input.specs.Text.{IsTextAs}
use Rattle.osm_job.specs.declared.ended.Ended.{Ended}
use Rattle.osm_job.specs.declared.ended.Ended.TheVariants.{Done, Warnings, Errors, Stopped, BadWords, BadInput, TooMuchInput, TooManyPieces, Refuted, BadPoint}
use Rattle.osm_job.specs.declared.ended.Ended.TheVariants.{OpenFault, ReadFault, WriteFault, OutOfMemory}
use Rattle.osm_job.specs.Faults.{CountsFaults}
use Rattle.osm_job.specs.Taken.{TookOff, TookText, IsFileStopped, IsReadableInput, IsTextStopped}
use Rattle.osm_job.specs.Whole.{input_limit, longest_line}

-- Nothing was written, and no write failed.
pub record IsSilent (before now : Outside) : Type 0 where
  pub out : now.out ≡ before.out
  pub report : now.report ≡ before.report
  pub write_faults : now.write_faults ≡ before.write_faults
  pub keeps : KeepsNames before now

-- Only the input of this name was opened.
abbrev pub OpensOne : List ℕ → Outside → Outside → Type 0
OpensOne name before now = now.opens ≡ appended before.opens (input name ∷ [])

-- The input of this name was opened and taken to its end, and these are its objects.
pub record HasInput (name : List ℕ) (objects : List Object) (before now : Outside) : Type 0 where
  pub right : IfSome (before.named name) (λ bytes. IsReadAs input_limit longest_line bytes (Ok objects))
  pub took : TookOff name (Ok objects) before now
  pub opens : OpensOne name before now
  pub open_faults : now.open_faults ≡ before.open_faults
  pub read_faults : now.read_faults ≡ before.read_faults
  pub silent : IsSilent before now

-- The input is refused for its contents, as the bytes taken from it show.
pub record RefusesInput (name : List ℕ) (error : ReadError) (before now : Outside) : Type 0 where
  pub right : IfSome (before.named name) (λ bytes. IsReadAs input_limit longest_line bytes (Err error))
  pub stopped : IsFileStopped name error before now
  pub opens : OpensOne name before now

-- why there are no objects, by how the run ends
abbrev pub IsLack : List ℕ → Ended → Outside → Outside → Type 0
IsLack name Done before now = ⊥
IsLack name Warnings before now = ⊥
IsLack name Errors before now = ⊥
IsLack name (Stopped candidate) before now = ⊥
IsLack name (BadWords cause) before now = ⊥
IsLack name (BadInput line fault) before now = RefusesInput name (read.BadInput line fault) before now
IsLack name (TooMuchInput limit) before now = RefusesInput name (read.TooMuchInput limit) before now
IsLack name (TooManyPieces most) before now = ⊥
IsLack name (Refuted line) before now = ⊥
IsLack name (BadPoint line) before now = ⊥
IsLack name OpenFault before now = OpensOne name before now ⊎ (now.opens ≡ before.opens)
IsLack name ReadFault before now = IsFileStopped name read.ReadFault before now × OpensOne name before now
IsLack name WriteFault before now = ⊥
IsLack name OutOfMemory before now = OpensOne name before now

-- There are no objects of the input of this name: it can't be opened, can't be read, or is refused.
pub record LacksInput (name : List ℕ) (ended : Ended) (before now : Outside) : Type 0 where
  pub lack : IsLack name ended before now
  pub faults : CountsFaults ended before now
  pub silent : IsSilent before now

abbrev pub ReadsInput : List ℕ → Outside → Outside → Result (List Object) Ended → Type 0
ReadsInput name before now (Ok objects) = HasInput name objects before now
ReadsInput name before now (Err ended) = LacksInput name ended before now

-- ---- an input and a text

-- The input and then the text were opened, and nothing else.
abbrev pub OpensBoth : List ℕ → List ℕ → Outside → Outside → Type 0
OpensBoth file text before now = now.opens ≡ appended before.opens (input file ∷ input text ∷ [])

-- The input was opened and taken to its end, and these are its objects. Then the text was, and these are its bytes.
pub record HasBoth (file text : List ℕ) (objects : List Object) (bytes : List ℕ) (before now : Outside) : Type 0 where
  pub right : IfSome (before.named file) (λ told. IsReadAs input_limit longest_line told (Ok objects))
  pub right_text : IfSome (before.named text) (λ told. IsTextAs input_limit told (Ok bytes))
  pub took : TookText text (Ok bytes) before now
  pub opens : OpensBoth file text before now
  pub open_faults : now.open_faults ≡ before.open_faults
  pub read_faults : now.read_faults ≡ before.read_faults
  pub silent : IsSilent before now

-- The text has too many bytes, as the bytes taken from it show.
pub record PassesLimit (file text : List ℕ) (limit : ℕ) (before now : Outside) : Type 0 where
  pub right : IfSome (before.named text) (λ told. IsTextAs input_limit told (Err (text_fault.TooMuchInput limit)))
  pub stopped : IsTextStopped file text (read.TooMuchInput limit) before now
  pub opens : OpensBoth file text before now

-- why there is no text after an input that is read, by how the run ends
abbrev pub IsTextLack : List ℕ → List ℕ → Ended → Outside → Outside → Type 0
IsTextLack file text Done before now = ⊥
IsTextLack file text Warnings before now = ⊥
IsTextLack file text Errors before now = ⊥
IsTextLack file text (Stopped candidate) before now = ⊥
IsTextLack file text (BadWords cause) before now = ⊥
IsTextLack file text (BadInput line fault) before now = ⊥
IsTextLack file text (TooMuchInput limit) before now = PassesLimit file text limit before now
IsTextLack file text (TooManyPieces most) before now = ⊥
IsTextLack file text (Refuted line) before now = ⊥
IsTextLack file text (BadPoint line) before now = ⊥
IsTextLack file text OpenFault before now = OpensBoth file text before now ⊎ OpensOne file before now
IsTextLack file text ReadFault before now = IsTextStopped file text read.ReadFault before now × OpensBoth file text before now
IsTextLack file text WriteFault before now = ⊥
IsTextLack file text OutOfMemory before now = OpensBoth file text before now

-- The input is read, and there is no text of this name: it can't be opened, can't be read, or has too many bytes.
pub record LacksText (file text : List ℕ) (ended : Ended) (before now : Outside) : Type 0 where
  pub readable : IsReadableInput file before
  pub lack : IsTextLack file text ended before now
  pub faults : CountsFaults ended before now
  pub silent : IsSilent before now

-- There are no objects, or there is no text after them.
abbrev pub LacksBoth : List ℕ → List ℕ → Ended → Outside → Outside → Type 0
LacksBoth file text ended before now = LacksInput file ended before now ⊎ LacksText file text ended before now

abbrev pub ReadsBoth : List ℕ → List ℕ → Outside → Outside → Result (List Object × Vec ℕ Global) Ended → Type 0
ReadsBoth file text before now (Ok both) = HasBoth file text both.0 both.1.items before now
ReadsBoth file text before now (Err ended) = LacksBoth file text ended before now
