-- The lines of an input: its bytes, split at LF.
use Rattle.std.specs.Prelude.{ℕ, nat_lt, List, length}
use Rattle.std.specs.List.{slice_split}
use Rattle.opl_reader.specs.Lines.{is_newline, with_last}

-- The lines that count if these bytes are only a prefix of an input.
-- Text after the last newline is a line only if it is too long already.
abbrev pub lines_begun : ℕ → List ℕ → List (List ℕ)
lines_begun longest bytes = with_last (λ line. nat_lt longest (length line)) (slice_split is_newline bytes)
