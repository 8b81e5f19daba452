use Rattle.std.proofs.Common.{◌≡◌, ◌+◌, ℕ, take}
use Rattle.std.specs.List.{list_any}
use Rattle.opl_reader.proofs.TagLemmas.{has_this}
use Rattle.opl_reader.proofs.items.is_key_among_few.Given as goal

-- the first few have the key where as many of the rest as are still to come have it
abbrev pub invariant-loop : goal.invariant-loop
invariant-loop l = (n : ℕ) × (n + l.counter ≡ 16) × (list_any (has_this l.key) (take n l.rest) ≡ list_any (has_this l.key) (take 16 l.tags))
