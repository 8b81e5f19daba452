-- What a job must write in all, and how it must end.
use Rattle.std.specs.Prelude.{◌≡◌, ◌^◌, ℕ, List, [], Result, Ok, Err}
use Rattle.osm_elements.specs.declared.object.Object.{Object}
use Rattle.osm_input.specs.declared.reading.ReadError.{ReadError}
use Rattle.osm_input.specs.declared.reading.ReadError.TheVariants.{BadInput, TooMuchInput, ReadFault, OutOfMemory}
use Rattle.osm_input.specs.declared.text.TextError.{TextError}
use Rattle.osm_input.specs.declared.text.TextError.TheVariants as text_fault
use Rattle.osm_input.specs.Reading.{IsReadAs}
use Rattle.osm_input.specs.Text.{IsTextAs}
use Rattle.osm_job.specs.declared.ended.Ended.{Ended}
use Rattle.osm_job.specs.declared.ended.Ended.TheVariants as ended
use Rattle.osm_job.specs.Sent.{Sent}

-- the most bytes of an input
abbrev pub input_limit : ℕ
input_limit = 2 ^ 36

-- the most bytes of a line
abbrev pub longest_line : ℕ
longest_line = 2 ^ 24

pub record Whole : Type 0 where
  -- all but the last line of the report, in order
  pub written : List Sent
  pub ended : Ended

-- nothing is written but the last line
abbrev pub silent : Ended → Whole
silent ended = record { written = []; ended = ended }

-- how a run ends if its input can't be read
abbrev pub ending_of_read : ReadError → Ended
ending_of_read (BadInput line fault) = ended.BadInput line fault
ending_of_read (TooMuchInput limit) = ended.TooMuchInput limit
ending_of_read ReadFault = ended.ReadFault
ending_of_read OutOfMemory = ended.OutOfMemory

abbrev pub IsRightAfterReading : (List Object → Whole → Type 0) → Result (List Object) ReadError → Whole → Type 0
IsRightAfterReading IsRight (Ok objects) whole = IsRight objects whole
IsRightAfterReading IsRight (Err error) whole = whole ≡ silent (ending_of_read error)

-- What is right over the bytes of an input, from what is right over its objects.
pub record IsReadThen (IsRight : List Object → Whole → Type 0) (bytes : List ℕ) (whole : Whole) : Type 0 where
  pub read : Result (List Object) ReadError
  pub is_read : IsReadAs input_limit longest_line bytes read
  pub after : IsRightAfterReading IsRight read whole

-- ---- an input that is read as one text

-- how a run ends if its text can't be read
abbrev pub text_ended : TextError → Ended
text_ended (text_fault.TooMuchInput limit) = ended.TooMuchInput limit
text_ended text_fault.ReadFault = ended.ReadFault
text_ended text_fault.OutOfMemory = ended.OutOfMemory

abbrev pub IsAfterText : (List ℕ → Whole → Type 0) → Result (List ℕ) TextError → Whole → Type 0
IsAfterText IsRight (Ok found) whole = IsRight found whole
IsAfterText IsRight (Err error) whole = whole ≡ silent (text_ended error)

-- What is right over the bytes of an input, from what is right over its text.
pub record IsTextThen (IsRight : List ℕ → Whole → Type 0) (bytes : List ℕ) (whole : Whole) : Type 0 where
  pub read : Result (List ℕ) TextError
  pub is_read : IsTextAs input_limit bytes read
  pub after : IsAfterText IsRight read whole
