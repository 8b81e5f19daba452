-- Words of a private clause on a text that is opened and read after an input. No public contract cites them.
use Rattle.std.specs.Prelude.{◌≡◌, ◌⊎◌, ℕ, List, IfSome, Result, Ok, Err, Vec}
use Rattle.std.specs.declared.alloc.Global.{Global}
use Rattle.osm_host.specs.Outside.{Outside}
use Rattle.osm_input.specs.declared.text.TextError.TheVariants as text_fault
use Rattle.osm_input.specs.Text.{IsTextAs}
use Rattle.osm_job.specs.declared.ended.Ended.{Ended}
use Rattle.osm_job.specs.declared.ended.Ended.TheVariants.{Done, Warnings, Errors, Stopped, BadWords, BadInput, TooMuchInput, TooManyPieces, Refuted, BadPoint}
use Rattle.osm_job.specs.declared.ended.Ended.TheVariants.{OpenFault, ReadFault, WriteFault, OutOfMemory}
use Rattle.osm_job.specs.Faults.{CountsFaults}
use Rattle.osm_job.specs.InputRead.{IsSilent, OpensOne}
use Rattle.osm_job.specs.Taken.{TookText}
use Rattle.osm_job.specs.Whole.{input_limit}

-- The text of this name was opened and taken to its end, and these are its bytes.
pub record HasContent (name content : List ℕ) (before now : Outside) : Type 0 where
  pub right : IfSome (before.named name) (λ bytes. IsTextAs input_limit bytes (Ok content))
  pub took : TookText name (Ok content) before now
  pub opens : OpensOne name before now
  pub open_faults : now.open_faults ≡ before.open_faults
  pub read_faults : now.read_faults ≡ before.read_faults
  pub silent : IsSilent before now

-- The text has too many bytes, as the bytes taken from it show.
pub record Passes (name : List ℕ) (limit : ℕ) (before now : Outside) : Type 0 where
  pub right : IfSome (before.named name) (λ bytes. IsTextAs input_limit bytes (Err (text_fault.TooMuchInput limit)))
  pub took : TookText name (Err (text_fault.TooMuchInput limit)) before now
  pub opens : OpensOne name before now

-- why there is no text, by how the run ends
abbrev pub IsContentLack : List ℕ → Ended → Outside → Outside → Type 0
IsContentLack name Done before now = ⊥
IsContentLack name Warnings before now = ⊥
IsContentLack name Errors before now = ⊥
IsContentLack name (Stopped candidate) before now = ⊥
IsContentLack name (BadWords cause) before now = ⊥
IsContentLack name (BadInput line fault) before now = ⊥
IsContentLack name (TooMuchInput limit) before now = Passes name limit before now
IsContentLack name (TooManyPieces most) before now = ⊥
IsContentLack name (Refuted line) before now = ⊥
IsContentLack name (BadPoint line) before now = ⊥
IsContentLack name OpenFault before now = OpensOne name before now ⊎ (now.opens ≡ before.opens)
IsContentLack name ReadFault before now = TookText name (Err text_fault.ReadFault) before now × OpensOne name before now
IsContentLack name WriteFault before now = ⊥
IsContentLack name OutOfMemory before now = OpensOne name before now

-- There is no text of this name: it can't be opened, can't be read, or has too many bytes.
pub record LacksContent (name : List ℕ) (ended : Ended) (before now : Outside) : Type 0 where
  pub lack : IsContentLack name ended before now
  pub faults : CountsFaults ended before now
  pub silent : IsSilent before now

abbrev pub ReadsContent : List ℕ → Outside → Outside → Result (List ℕ) Ended → Type 0
ReadsContent name before now (Ok content) = HasContent name content before now
ReadsContent name before now (Err ended) = LacksContent name ended before now

-- a text by its bytes
abbrev pub content_seen : Result (Vec ℕ Global) Ended → Result (List ℕ) Ended
content_seen (Ok content) = Ok content.items
content_seen (Err ended) = Err ended
