-- How a host over memory keeps what it means, and what holds of its lists. No public contract cites it.
use Rattle.std.specs.Prelude.{◌≡◌, ◌+◌, ◌≤◌, ◌<◌, ℕ, List, [], length, drop, Option, None, Some, IfSome, map, get_or, vec_len, vec_capacity, string_bytes}
use Rattle.tests_host.specs.Memory.{Memory}
use Rattle.tests_host.specs.Names.{name_and_bytes}
use Rattle.tests_host.specs.Opens.{opens_named, names_len}
use Rattle.tests_host.specs.declared.memory.MemoryHost.TheInside.{Inside}

-- what is left of the opened input, from this place on
abbrev pub left_of_input : List (List ℕ × List ℕ) → Option ℕ → ℕ → List ℕ
left_of_input inputs None place = []
left_of_input inputs (Some index) place = drop place (get_or inputs index ([], [])).1

abbrev pub memory_of : Inside → Memory
memory_of host = record {
  inputs = map name_and_bytes host.inputs.items;
  taken = map string_bytes host.taken.items;
  fail = host.fail.items;
  most = host.most;
  room = host.room;
  call = host.call;
  left = left_of_input (map name_and_bytes host.inputs.items) host.opened host.place;
  out = host.out.items;
  report = host.report.items;
  opens = opens_named host.entries.items host.names.items;
  open_faults = host.faults.opens;
  read_faults = host.faults.reads;
  write_faults = host.faults.writes;
  read_failed = host.read_failed;
  at_end = host.at_end;
  bytes_read = host.bytes_read;
}

-- The room fits into what the streams and the list of opens have reserved, each open has its name, and the opened
-- input is held.
pub record IsMemory (host : Inside) : Type 0 where
  pub most : 1 ≤ host.most
  pub out : vec_len host.out + host.room ≤ vec_capacity host.out
  pub report : vec_len host.report + host.room ≤ vec_capacity host.report
  pub names : vec_len host.names + host.room ≤ vec_capacity host.names
  pub entries : vec_len host.entries + host.room ≤ vec_capacity host.entries
  pub all_names : names_len host.entries.items ≡ length host.names.items
  pub opened : IfSome host.opened (λ index. index < length host.inputs.items)
