-- The lines of an input: its bytes, split at LF.
use Rattle.std.specs.Prelude.{ℕ, Bool, false, ◌==◌, nat_lt, List, [], ◌∷◌, length, if◌then◌else◌}
use Rattle.std.specs.List.{slice_split}

abbrev pub is_newline : ℕ → Bool
is_newline b = b == 10

-- the parts that end with a newline, and the part after the last newline if it counts
abbrev pub with_last : (List ℕ → Bool) → List (List ℕ) → List (List ℕ)
with_last counts [] = []
with_last counts (part ∷ []) = if counts part then part ∷ [] else []
with_last counts (part ∷ (next ∷ parts)) = part ∷ with_last counts (next ∷ parts)

-- The lines of a whole input: text after the last newline, if any, is a line too.
abbrev pub lines_of : List ℕ → List (List ℕ)
lines_of bytes = with_last (λ line. nat_lt 0 (length line)) (slice_split is_newline bytes)

-- The lines that end with a newline.
abbrev pub whole_lines : List ℕ → List (List ℕ)
whole_lines bytes = with_last (λ line. false) (slice_split is_newline bytes)

-- the last of some parts
abbrev pub last_part : List (List ℕ) → List ℕ
last_part [] = []
last_part (part ∷ []) = part
last_part (part ∷ (next ∷ parts)) = last_part (next ∷ parts)

-- the bytes after the last newline
abbrev pub unfinished_of : List ℕ → List ℕ
unfinished_of bytes = last_part (slice_split is_newline bytes)
