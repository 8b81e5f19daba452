-- The lines of some bytes: one line taken off their front.
use Rattle.std.proofs.Common.{◌≡◌, ◌∙◌, refl, sym, ap, ℕ, ◌+◌, ◌<◌, ◌≤◌, Bool, true, false, not, List, [], ◌∷◌, ◌++◌, length, take, append-nil, if◌then◌else◌, arith}
use Rattle.std.specs.List.{slice_split, onto_first, position_or_len, before_first, after_first, All}
use Rattle.std.proofs.lemmas.Bool.{eqb-true}
use Rattle.std.proofs.lemmas.List.{get_or-take, take_more, take_all}
use Rattle.std.proofs.lemmas.List.Folds.{length-prefix_len}
use Rattle.std.proofs.lemmas.List.Sums.{fails_before_first, passes_at_first, prefix_len-le-length, split_at_first}
use Rattle.std.proofs.lemmas.List.Splits.{slice_split-cons_yes, slice_split-cons_no, slice_split_none, slice_split_at, length-slice_split}
use Rattle.std.proofs.lemmas.List.Elements.{All-append, All-cons}
use Rattle.opl_reader.specs.Lines.{is_newline, with_last, last_part, whole_lines, unfinished_of}

-- no newline stands in it
abbrev pub IsOneLine : List ℕ → Type 0
IsOneLine bytes = All (λ b. is_newline b ≡ false) bytes

pub with_last-cons : (counts : List ℕ → Bool) (line : List ℕ) (parts : List (List ℕ)) → 0 < length parts → with_last counts (line ∷ parts) ≡ line ∷ with_last counts parts
with_last-cons counts line [] lt = absurd (omega arith)
with_last-cons counts line (p ∷ parts) lt = refl

last_of-cons : (line : List ℕ) (parts : List (List ℕ)) → 0 < length parts → last_part (line ∷ parts) ≡ last_part parts
last_of-cons line [] lt = absurd (omega arith)
last_of-cons line (p ∷ parts) lt = refl

pub some_part : (bytes : List ℕ) → 0 < length (slice_split is_newline bytes)
some_part bytes = let e = length-slice_split is_newline bytes in omega arith

pub newline_ends : (line bytes : List ℕ) → IsOneLine line → slice_split is_newline (line ++ 10 ∷ bytes) ≡ line ∷ slice_split is_newline bytes
newline_ends line bytes one = slice_split_at is_newline line 10 bytes one refl

pub lines-cons : (counts : List ℕ → Bool) (line bytes : List ℕ) → IsOneLine line →
    with_last counts (slice_split is_newline (line ++ 10 ∷ bytes)) ≡ line ∷ with_last counts (slice_split is_newline bytes)
lines-cons counts line bytes one = ap (with_last counts) (newline_ends line bytes one) ∙ with_last-cons counts line (slice_split is_newline bytes) (some_part bytes)

pub unfinished-cons : (line bytes : List ℕ) → IsOneLine line → unfinished_of (line ++ 10 ∷ bytes) ≡ unfinished_of bytes
unfinished-cons line bytes one = ap last_part (newline_ends line bytes one) ∙ last_of-cons line (slice_split is_newline bytes) (some_part bytes)

pub one_line : (line : List ℕ) → IsOneLine line → slice_split is_newline line ≡ line ∷ []
one_line line one = slice_split_none is_newline line one

front_one : (piece : List ℕ) → IsOneLine (before_first is_newline piece)
front_one piece k d lt =
    let most = length-prefix_len (λ x. not (is_newline x)) piece in
    let less : k < position_or_len is_newline piece = omega arith in
    ap is_newline (get_or-take (position_or_len is_newline piece) piece k d less) ∙ fails_before_first is_newline piece k d less

pub front_is_one : (u piece : List ℕ) → IsOneLine u → IsOneLine (u ++ before_first is_newline piece)
front_is_one u piece one = All-append (λ b. is_newline b ≡ false) u (before_first is_newline piece) one (front_one piece)

-- what is used of a piece with a newline
pub used_is : (piece : List ℕ) → position_or_len is_newline piece < length piece →
    take (position_or_len is_newline piece + 1) piece ≡ before_first is_newline piece ++ 10 ∷ []
used_is piece lt = rw (take_more piece (position_or_len is_newline piece) 0 lt) (rw (eqb-true _ _ (passes_at_first is_newline piece 0 lt)) refl)

-- a piece without a newline is one line
pub all_before : (piece : List ℕ) → position_or_len is_newline piece ≡ length piece → before_first is_newline piece ≡ piece
all_before piece e = rw e (take_all (length piece) piece (omega arith))

pub at_most_all : (piece : List ℕ) → length piece ≤ position_or_len is_newline piece → position_or_len is_newline piece ≡ length piece
at_most_all piece le = let most = prefix_len-le-length (λ x. not (is_newline x)) piece in omega arith

-- ---- more bytes behind

-- the parts of some bytes and of more behind them: the lines that are whole, and what the more adds to the last one
onto_more : (x : ℕ) (parts : List (List ℕ)) (behind : List (List ℕ)) (more : List ℕ) → 0 < length parts → is_newline x ≡ false →
    behind ≡ with_last (λ line. false) parts ++ slice_split is_newline (last_part parts ++ more) →
    onto_first x behind ≡ with_last (λ line. false) (onto_first x parts) ++ slice_split is_newline (last_part (onto_first x parts) ++ more)
onto_more x [] behind more lt e h = absurd (omega arith)
onto_more x (part ∷ []) behind more lt e h = rw h (sym (slice_split-cons_no is_newline x (part ++ more) e))
onto_more x (part ∷ (next ∷ parts)) behind more lt e h = rw h refl

by_newline : (x : ℕ) (bytes more : List ℕ) (b : Bool) → is_newline x ≡ b →
    slice_split is_newline (bytes ++ more) ≡ whole_lines bytes ++ slice_split is_newline (unfinished_of bytes ++ more) →
    slice_split is_newline (x ∷ (bytes ++ more)) ≡ whole_lines (x ∷ bytes) ++ slice_split is_newline (unfinished_of (x ∷ bytes) ++ more)
by_newline x bytes more true e h =
    slice_split-cons_yes is_newline x (bytes ++ more) e
    ∙ rw (slice_split-cons_yes is_newline x bytes e) (rw (with_last-cons (λ line. false) [] (slice_split is_newline bytes) (some_part bytes)) (rw (last_of-cons [] (slice_split is_newline bytes) (some_part bytes)) (ap (λ zs. [] ∷ zs) h)))
by_newline x bytes more false e h =
    slice_split-cons_no is_newline x (bytes ++ more) e
    ∙ rw (slice_split-cons_no is_newline x bytes e) (onto_more x (slice_split is_newline bytes) (slice_split is_newline (bytes ++ more)) more (some_part bytes) e h)

pub split_behind : (bytes more : List ℕ) → slice_split is_newline (bytes ++ more) ≡ whole_lines bytes ++ slice_split is_newline (unfinished_of bytes ++ more)
split_behind [] more = refl
split_behind (x ∷ bytes) more = by_newline x bytes more (is_newline x) refl (split_behind bytes more)

-- all lines of a whole input are those that a newline ended, and the rest where it isn't empty
pub lines_with_rest : (counts : List ℕ → Bool) (parts : List (List ℕ)) → 0 < length parts →
    with_last counts parts ≡ with_last (λ line. false) parts ++ (if counts (last_part parts) then last_part parts ∷ [] else [])
lines_with_rest counts [] lt = absurd (omega arith)
lines_with_rest counts (part ∷ []) lt = refl
lines_with_rest counts (part ∷ (next ∷ parts)) lt = ap (λ zs. part ∷ zs) (lines_with_rest counts (next ∷ parts) (omega arith))

pub with_last_behind : (counts : List ℕ → Bool) (lines parts : List (List ℕ)) → 0 < length parts → with_last counts (lines ++ parts) ≡ lines ++ with_last counts parts
with_last_behind counts lines [] lt = absurd (omega arith)
with_last_behind counts [] (part ∷ parts) lt = refl
with_last_behind counts (line ∷ []) (part ∷ parts) lt = refl
with_last_behind counts (line ∷ (next ∷ lines)) (part ∷ parts) lt = ap (λ zs. line ∷ zs) (with_last_behind counts (next ∷ lines) (part ∷ parts) lt)

last_of_behind : (lines : List (List ℕ)) (rest : List ℕ) → last_part (lines ++ rest ∷ []) ≡ rest
last_of_behind [] rest = refl
last_of_behind (line ∷ []) rest = refl
last_of_behind (line ∷ (next ∷ lines)) rest = last_of_behind (next ∷ lines) rest

-- these lines are whole, and this is the rest
pub ends_with : (bytes : List ℕ) (lines : List (List ℕ)) (rest : List ℕ) → slice_split is_newline bytes ≡ lines ++ rest ∷ [] →
    (whole_lines bytes ≡ lines) × (unfinished_of bytes ≡ rest)
ends_with bytes lines rest e = (
  ap (with_last (λ line. false)) e ∙ (with_last_behind (λ line. false) lines (rest ∷ []) (omega arith) ∙ append-nil lines),
  ap last_part e ∙ last_of_behind lines rest,
)

-- ---- the rest is one line

onto_last : (x : ℕ) (parts : List (List ℕ)) → 0 < length parts → is_newline x ≡ false → IsOneLine (last_part parts) → IsOneLine (last_part (onto_first x parts))
onto_last x [] lt e one = absurd (omega arith)
onto_last x (part ∷ []) lt e one = All-cons (λ b. is_newline b ≡ false) x part e one
onto_last x (part ∷ (next ∷ parts)) lt e one = one

rest_by_newline : (x : ℕ) (bytes : List ℕ) (b : Bool) → is_newline x ≡ b → IsOneLine (unfinished_of bytes) → IsOneLine (unfinished_of (x ∷ bytes))
rest_by_newline x bytes true e one = rw (slice_split-cons_yes is_newline x bytes e) (rw (last_of-cons [] (slice_split is_newline bytes) (some_part bytes)) one)
rest_by_newline x bytes false e one = rw (slice_split-cons_no is_newline x bytes e) (onto_last x (slice_split is_newline bytes) (some_part bytes) e one)

pub rest_is_one : (bytes : List ℕ) → IsOneLine (unfinished_of bytes)
rest_is_one [] = λ k d lt. absurd (omega arith)
rest_is_one (x ∷ bytes) = rest_by_newline x bytes (is_newline x) refl (rest_is_one bytes)

-- a piece with a newline is what stands before it, the newline, and what stands behind it
pub cut_piece : (piece : List ℕ) → position_or_len is_newline piece < length piece → piece ≡ before_first is_newline piece ++ 10 ∷ after_first is_newline piece
cut_piece piece lt = split_at_first is_newline piece 0 lt ∙ rw (eqb-true _ _ (passes_at_first is_newline piece 0 lt)) refl
