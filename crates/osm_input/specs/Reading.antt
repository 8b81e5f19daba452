-- What an input is read as: its objects, or why it isn't read.
use Rattle.std.specs.Prelude.{◌≡◌, ◌⊎◌, ◌<◌, ◌≤◌, ℕ, nat_le, List, [], length, take, IfSome, Result, Ok, Err, if◌then◌else◌}
use Rattle.osm_elements.specs.declared.object.Object.{Object}
use Rattle.osm_host.specs.Outside.{Outside, preceded, grown}
use Rattle.osm_input.specs.declared.reading.ReadError.{ReadError}
use Rattle.osm_input.specs.declared.reading.ReadError.TheVariants.{BadInput, TooMuchInput, ReadFault, OutOfMemory}
use Rattle.osm_input.specs.ReadFaults.{LastReadFailed}
use Rattle.osm_input.specs.Shown.{IsShownLast, PassesLast}
use Rattle.opl_reader.specs.Lines.{lines_of}
use Rattle.osm_input.specs.Lines.{lines_begun}
use Rattle.osm_input.specs.Input.{objects_told, AreGood, IsBadPlace}

-- the lines of an input that count: all of them, or, if it exceeds the limit, those of its prefix
abbrev pub lines_counted : ℕ → ℕ → List ℕ → List (List ℕ)
lines_counted limit longest bytes =
    if nat_le (length bytes) limit then lines_of bytes else lines_begun longest (take limit bytes)

-- What is right for an input of these bytes: its objects if no line is bad and it keeps the limit, its bad place, or that it exceeds the limit.
abbrev pub IsReadAs : ℕ → ℕ → List ℕ → Result (List Object) ReadError → Type 0
IsReadAs limit longest bytes (Ok objects) =
    (length bytes ≤ limit) × AreGood longest (lines_of bytes) × (objects ≡ objects_told (lines_of bytes))
IsReadAs limit longest bytes (Err (BadInput line fault)) = IsBadPlace longest (lines_counted limit longest bytes) line fault
IsReadAs limit longest bytes (Err (TooMuchInput most)) =
    (most ≡ limit) × (limit < length bytes) × AreGood longest (lines_begun longest (take limit bytes))
IsReadAs limit longest bytes (Err ReadFault) = ⊥
IsReadAs limit longest bytes (Err OutOfMemory) = ⊥

-- The answer is right for an input of these bytes, unless a read failed or memory ran out.
abbrev pub IsReadOf : ℕ → ℕ → List ℕ → Result (List Object) ReadError → Type 0
IsReadOf limit longest bytes (Ok objects) = IsReadAs limit longest bytes (Ok objects)
IsReadOf limit longest bytes (Err (BadInput line fault)) = IsReadAs limit longest bytes (Err (BadInput line fault))
IsReadOf limit longest bytes (Err (TooMuchInput most)) = IsReadAs limit longest bytes (Err (TooMuchInput most))
IsReadOf limit longest bytes (Err ReadFault) = Unit {0}
IsReadOf limit longest bytes (Err OutOfMemory) = Unit {0}

-- The answer is right for an input of these bytes, unless memory ran out.
abbrev pub IsReadWhole : ℕ → ℕ → List ℕ → Result (List Object) ReadError → Type 0
IsReadWhole limit longest bytes (Ok objects) = IsReadAs limit longest bytes (Ok objects)
IsReadWhole limit longest bytes (Err (BadInput line fault)) = IsReadAs limit longest bytes (Err (BadInput line fault))
IsReadWhole limit longest bytes (Err (TooMuchInput most)) = IsReadAs limit longest bytes (Err (TooMuchInput most))
IsReadWhole limit longest bytes (Err ReadFault) = ⊥
IsReadWhole limit longest bytes (Err OutOfMemory) = Unit {0}

-- nothing is left of the input
abbrev pub HasReachedEnd : Outside → Type 0
HasReachedEnd now = IfSome now.left (λ left. left ≡ [])

-- The answer for the bytes that were taken from an input. A bad place is in their lines, and the last 65,536 bytes show it.
-- Their last line counts only if the input ended there or it is too long already. At most 65,536 bytes were taken beyond the
-- limit.
abbrev pub IsAnswerOfReading : ℕ → ℕ → List ℕ → Outside → Result (List Object) ReadError → Type 0
IsAnswerOfReading limit longest taken now (Ok objects) = HasReachedEnd now × IsReadAs limit longest taken (Ok objects)
IsAnswerOfReading limit longest taken now (Err (BadInput line fault)) =
    (IsBadPlace longest (lines_begun longest (take limit taken)) line fault
    ⊎ (HasReachedEnd now × (length taken ≤ limit) × IsBadPlace longest (lines_of taken) line fault))
    × IsShownLast longest taken line
IsAnswerOfReading limit longest taken now (Err (TooMuchInput most)) =
    IsReadAs limit longest taken (Err (TooMuchInput most)) × PassesLast limit taken
IsAnswerOfReading limit longest taken now (Err ReadFault) =
    (length taken ≤ limit) × AreGood longest (lines_begun longest (take limit taken))
IsAnswerOfReading limit longest taken now (Err OutOfMemory) = Unit {0}

-- These bytes were taken from the input and counted, and the answer is right for them.
pub record Took (limit longest : ℕ) (before now : Outside) (result : Result (List Object) ReadError) : Type 0 where
  pub taken : List ℕ
  pub left : before.left ≡ preceded taken now.left
  pub counted : now.bytes_read ≡ grown before.bytes_read (length taken)
  pub answer : IsAnswerOfReading limit longest taken now result

-- The answer is right for the bytes that were taken, unless memory ran out.
abbrev pub Reads : ℕ → ℕ → Outside → Outside → Result (List Object) ReadError → Type 0
Reads limit longest before now (Ok objects) = Took limit longest before now (Ok objects)
Reads limit longest before now (Err (BadInput line fault)) = Took limit longest before now (Err (BadInput line fault))
Reads limit longest before now (Err (TooMuchInput most)) = Took limit longest before now (Err (TooMuchInput most))
Reads limit longest before now (Err ReadFault) = Took limit longest before now (Err ReadFault)
Reads limit longest before now (Err OutOfMemory) = Unit {0}

-- If the answer is ReadFault, exactly one read failed, the last. Otherwise none did.
abbrev pub ReadsOnce : Outside → Outside → Result (List Object) ReadError → Type 0
ReadsOnce before now (Ok objects) = now.read_faults ≡ before.read_faults
ReadsOnce before now (Err (BadInput line fault)) = now.read_faults ≡ before.read_faults
ReadsOnce before now (Err (TooMuchInput most)) = now.read_faults ≡ before.read_faults
ReadsOnce before now (Err ReadFault) = LastReadFailed before now
ReadsOnce before now (Err OutOfMemory) = now.read_faults ≡ before.read_faults
