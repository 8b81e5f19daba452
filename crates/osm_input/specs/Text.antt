-- What an input is read as if it is taken whole, as one text: its bytes, or why it isn't read.
use Rattle.std.specs.Prelude.{◌≡◌, ◌<◌, ◌≤◌, ℕ, List, length, Result, Ok, Err, Vec}
use Rattle.std.specs.declared.alloc.Global.{Global}
use Rattle.osm_host.specs.Outside.{Outside, preceded, grown}
use Rattle.osm_input.specs.declared.text.TextError.{TextError}
use Rattle.osm_input.specs.declared.text.TextError.TheVariants.{TooMuchInput, ReadFault, OutOfMemory}
use Rattle.osm_input.specs.ReadFaults.{LastReadFailed}
use Rattle.osm_input.specs.Reading.{HasReachedEnd}
use Rattle.osm_input.specs.Shown.{PassesLast}

-- What is right for an input of these bytes: they are the text, or they exceed the limit.
abbrev pub IsTextAs : ℕ → List ℕ → Result (List ℕ) TextError → Type 0
IsTextAs limit bytes (Ok text) = (length bytes ≤ limit) × (text ≡ bytes)
IsTextAs limit bytes (Err (TooMuchInput most)) = (most ≡ limit) × (limit < length bytes)
IsTextAs limit bytes (Err ReadFault) = ⊥
IsTextAs limit bytes (Err OutOfMemory) = ⊥

-- The answer is right for an input of these bytes, unless a read failed or memory ran out.
abbrev pub IsTextOf : ℕ → List ℕ → Result (List ℕ) TextError → Type 0
IsTextOf limit bytes (Ok text) = IsTextAs limit bytes (Ok text)
IsTextOf limit bytes (Err (TooMuchInput most)) = IsTextAs limit bytes (Err (TooMuchInput most))
IsTextOf limit bytes (Err ReadFault) = Unit {0}
IsTextOf limit bytes (Err OutOfMemory) = Unit {0}

-- The answer is right for an input of these bytes, unless memory ran out.
abbrev pub IsTextWhole : ℕ → List ℕ → Result (List ℕ) TextError → Type 0
IsTextWhole limit bytes (Ok text) = IsTextAs limit bytes (Ok text)
IsTextWhole limit bytes (Err (TooMuchInput most)) = IsTextAs limit bytes (Err (TooMuchInput most))
IsTextWhole limit bytes (Err ReadFault) = ⊥
IsTextWhole limit bytes (Err OutOfMemory) = Unit {0}

-- The answer for the bytes that were taken from an input. At most 65,536 were taken beyond the limit.
abbrev pub IsTextAnswer : ℕ → List ℕ → Outside → Result (List ℕ) TextError → Type 0
IsTextAnswer limit taken now (Ok text) = HasReachedEnd now × IsTextAs limit taken (Ok text)
IsTextAnswer limit taken now (Err (TooMuchInput most)) = IsTextAs limit taken (Err (TooMuchInput most)) × PassesLast limit taken
IsTextAnswer limit taken now (Err ReadFault) = length taken ≤ limit
IsTextAnswer limit taken now (Err OutOfMemory) = Unit {0}

-- These bytes were taken from the input and counted, and the answer is right for them.
pub record TookWhole (limit : ℕ) (before now : Outside) (result : Result (List ℕ) TextError) : Type 0 where
  pub taken : List ℕ
  pub left : before.left ≡ preceded taken now.left
  pub counted : now.bytes_read ≡ grown before.bytes_read (length taken)
  pub answer : IsTextAnswer limit taken now result

-- The answer is right for the bytes that were taken, unless memory ran out.
abbrev pub ReadsText : ℕ → Outside → Outside → Result (List ℕ) TextError → Type 0
ReadsText limit before now (Ok text) = TookWhole limit before now (Ok text)
ReadsText limit before now (Err (TooMuchInput most)) = TookWhole limit before now (Err (TooMuchInput most))
ReadsText limit before now (Err ReadFault) = TookWhole limit before now (Err ReadFault)
ReadsText limit before now (Err OutOfMemory) = Unit {0}

-- If the answer is ReadFault, exactly one read failed, the last. Otherwise none did.
abbrev pub ReadsTextOnce : Outside → Outside → Result (List ℕ) TextError → Type 0
ReadsTextOnce before now (Ok text) = now.read_faults ≡ before.read_faults
ReadsTextOnce before now (Err (TooMuchInput most)) = now.read_faults ≡ before.read_faults
ReadsTextOnce before now (Err ReadFault) = LastReadFailed before now
ReadsTextOnce before now (Err OutOfMemory) = now.read_faults ≡ before.read_faults

-- a text by its bytes
abbrev pub text_seen : Result (Vec ℕ Global) TextError → Result (List ℕ) TextError
text_seen (Ok text) = Ok text.items
text_seen (Err error) = Err error
