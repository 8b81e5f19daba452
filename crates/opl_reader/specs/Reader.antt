-- A reader of lines, as callers see it.
use Rattle.std.specs.Prelude.{ℕ, Bool, false, List, []}

pub record Reader : Type 0 where
  -- the bytes fed after the last newline
  pub unfinished : List ℕ
  -- the number of the line last read, from 1
  pub line : ℕ
  -- how many bytes were fed
  pub fed : ℕ
  -- how many bytes a line may have
  pub longest : ℕ
  -- a call was refused, or finish was called
  pub has_ended : Bool

-- before the first piece
abbrev pub new_reader : ℕ → Reader
new_reader longest = record { unfinished = []; line = 0; fed = 0; longest = longest; has_ended = false }
