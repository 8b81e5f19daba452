-- What a host is: its streams and its list of opens, each known or unknown, and its counts of faults.
use Rattle.std.specs.Prelude.{◌≡◌, ◌+◌, ◌-◌, ◌^◌, ◌≤◌, ◌&&◌, nat_eq, nat_lt, min, max, ℕ, Bool, false, List, ◌++◌, Option, None, Some, Result, Ok, Err, OnOk, OnErr}

-- an open that was asked for, by the bytes of its name; an output with its overwrite
pub data Opened : Type 0 where
  input : List ℕ → Opened
  output : List ℕ → Bool → Opened

-- A known stream is Some of its bytes; None is an unknown one.
pub record Outside : Type 0 where
  -- the content behind an input name
  pub named : List ℕ → Option (List ℕ)
  -- the unread rest of the opened input
  pub left : Option (List ℕ)
  -- what was written to the output, and to the report
  pub out : Option (List ℕ)
  pub report : Option (List ℕ)
  pub opens : Option (List Opened)
  pub open_faults : ℕ
  pub read_faults : ℕ
  pub write_faults : ℕ
  -- whether the last read failed
  pub read_failed : Bool
  -- whether the last read found the end of the opened input
  pub at_end : Bool
  -- how many bytes were taken from the opened input
  pub bytes_read : ℕ

-- a known list with more after it; an unknown one stays unknown
abbrev pub appended : {A : Type 0} → Option (List A) → List A → Option (List A)
appended None more = None
appended (Some items) more = Some (items ++ more)

-- a known list with more before it
abbrev pub preceded : {A : Type 0} → List A → Option (List A) → Option (List A)
preceded more None = None
preceded more (Some items) = Some (more ++ items)

-- a count one up, or at its last value
abbrev pub risen : ℕ → ℕ
risen count = min (count + 1) (2 ^ 64 - 1)

-- a count raised by `more`, or at its last value; it never falls
abbrev pub grown : ℕ → ℕ → ℕ
grown count more = min (count + more) (max count (2 ^ 64 - 1))

-- The count rose by at least one, or is at its last value.
abbrev pub HasRisen : ℕ → ℕ → Type 0
HasRisen before now = risen before ≤ now

-- A read with this answer found the end: it gave nothing to a buffer of this size, which isn't empty.
abbrev pub finds_end : {E : Type 0} → Result ℕ E → ℕ → Bool
finds_end (Ok count) size = nat_eq count 0 && nat_lt 0 size
finds_end (Err failed) size = false

-- A count never falls. It is one up if a call of its kind failed, and stays if the call was answered.
pub record Counts {T E : Type 0} (before now : ℕ) (result : Result T E) : Type 0 where
  pub never_falls : before ≤ now
  pub failed : OnErr result (now ≡ risen before)
  pub answered : OnOk result (now ≡ before)

-- Only the opened input, the list of opens and the count of opens changed.
pub record OnlyOpens (before now : Outside) : Type 0 where
  pub named : now.named ≡ before.named
  pub out : now.out ≡ before.out
  pub report : now.report ≡ before.report
  pub read_faults : now.read_faults ≡ before.read_faults
  pub write_faults : now.write_faults ≡ before.write_faults
  pub read_failed : now.read_failed ≡ before.read_failed

-- Only the rest of the input, and what is counted of reads, changed.
pub record OnlyReads (before now : Outside) : Type 0 where
  pub named : now.named ≡ before.named
  pub out : now.out ≡ before.out
  pub report : now.report ≡ before.report
  pub opens : now.opens ≡ before.opens
  pub open_faults : now.open_faults ≡ before.open_faults
  pub write_faults : now.write_faults ≡ before.write_faults

-- Only the output and the count of writes changed.
pub record OnlyWritesOut (before now : Outside) : Type 0 where
  pub named : now.named ≡ before.named
  pub left : now.left ≡ before.left
  pub report : now.report ≡ before.report
  pub opens : now.opens ≡ before.opens
  pub open_faults : now.open_faults ≡ before.open_faults
  pub read_faults : now.read_faults ≡ before.read_faults
  pub read_failed : now.read_failed ≡ before.read_failed
  pub at_end : now.at_end ≡ before.at_end
  pub bytes_read : now.bytes_read ≡ before.bytes_read

-- Only the report and the count of writes changed.
pub record OnlyWritesReport (before now : Outside) : Type 0 where
  pub named : now.named ≡ before.named
  pub left : now.left ≡ before.left
  pub out : now.out ≡ before.out
  pub opens : now.opens ≡ before.opens
  pub open_faults : now.open_faults ≡ before.open_faults
  pub read_faults : now.read_faults ≡ before.read_faults
  pub read_failed : now.read_failed ≡ before.read_failed
  pub at_end : now.at_end ≡ before.at_end
  pub bytes_read : now.bytes_read ≡ before.bytes_read
