-- How a host over memory keeps its inputs. No public contract cites it.
use Rattle.std.specs.Prelude.{ℕ, List, string_bytes}
use Rattle.tests_host.specs.declared.names.NamedBytes.{NamedBytes}

-- an input's name, and its bytes
abbrev pub name_and_bytes : NamedBytes → List ℕ × List ℕ
name_and_bytes input = (string_bytes input.name, input.bytes.items)
