-- A host over memory as its clauses see it: what it holds, when its calls are answered, and what they leave.
use Rattle.std.specs.Prelude.{◌+◌, ◌-◌, ◌&&◌, ◌||◌, not, nat_eq, nat_lt, ℕ, Bool, List, [], ◌∷◌, ◌++◌, length, Option, None, Some, is_some, codes, if◌then◌else◌}
use Rattle.std.specs.List.{list_any}
use Rattle.std.specs.Str.{bytes_eq}
use Rattle.osm_host.specs.Outside.{Outside, Opened, risen}

pub record Memory : Type 0 where
  -- names of inputs with their bytes; of equal names the first counts
  pub inputs : List (List ℕ × List ℕ)
  -- names of outputs that are there already
  pub taken : List (List ℕ)
  -- the numbers of the calls that fail
  pub fail : List ℕ
  -- the most bytes of a read or write
  pub most : ℕ
  -- how many bytes of output, report and names may still come
  pub room : ℕ
  -- the number of the next call
  pub call : ℕ
  -- what is left of the opened input
  pub left : List ℕ
  pub out : List ℕ
  pub report : List ℕ
  pub opens : List Opened
  pub open_faults : ℕ
  pub read_faults : ℕ
  pub write_faults : ℕ
  -- whether the last read failed
  pub read_failed : Bool
  -- whether the last read found the end of the opened input
  pub at_end : Bool
  -- how many bytes were taken off the opened input
  pub bytes_read : ℕ

-- the bytes of the first input of this name
abbrev pub bytes_named : List (List ℕ × List ℕ) → List ℕ → Option (List ℕ)
bytes_named [] name = None
bytes_named (input ∷ others) name = if bytes_eq input.0 name then Some input.1 else bytes_named others name

-- what it means, all of it told
abbrev pub outside_of : Memory → Outside
outside_of m = record {
  named = bytes_named m.inputs;
  left = Some m.left;
  out = Some m.out;
  report = Some m.report;
  opens = Some m.opens;
  open_faults = m.open_faults;
  read_faults = m.read_faults;
  write_faults = m.write_faults;
  read_failed = m.read_failed;
  at_end = m.at_end;
  bytes_read = m.bytes_read;
}

-- the number is one of those that fail
abbrev pub is_listed : ℕ → List ℕ → Bool
is_listed call fail = list_any (λ n. nat_eq n call) fail

-- An input is opened where it is held, there is room for its name and one more, and the call isn't one that fails.
abbrev pub input_opens : Memory → List ℕ → Bool
input_opens m name = not (is_listed m.call m.fail) && nat_lt (length name) m.room && is_some (bytes_named m.inputs name)

-- An output is opened where it is new, standard output or written over, there is room for its name and one more, and
-- the call isn't one that fails.
abbrev pub output_opens : Memory → List ℕ → Bool → Bool
output_opens m name overwrite =
    not (is_listed m.call m.fail) && nat_lt (length name) m.room
    && (overwrite || bytes_eq name (codes "-") || not (list_any (λ taken. bytes_eq taken name) m.taken))

-- A read is answered where the buffer is empty or the call isn't one that fails.
abbrev pub reads : Memory → ℕ → Bool
reads m size = nat_eq size 0 || not (is_listed m.call m.fail)

-- A write is answered where the piece is empty, or there is room and the call isn't one that fails.
abbrev pub writes : Memory → ℕ → Bool
writes m size = nat_eq size 0 || (not (is_listed m.call m.fail) && not (nat_eq m.room 0))

-- An open takes its name's length and one more off the room and is listed, where there is so much.
abbrev pub with_open : Memory → Opened → ℕ → Memory
with_open m opened size = if nat_lt size m.room
    then record m { call = risen m.call; room = m.room - (size + 1); opens = m.opens ++ opened ∷ [] }
    else record m { call = risen m.call }

-- an open more has failed
abbrev pub with_open_fault : Memory → Memory
with_open_fault m = record m { open_faults = risen m.open_faults }
