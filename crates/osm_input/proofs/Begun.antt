-- Bytes with a piece behind them: the whole lines of the bytes, and the line that goes on in the piece.
use Rattle.std.proofs.Common.{◌≡◌, ◌∙◌, refl, sym, ap, subst, ℕ, ◌<◌, ◌≤◌, Bool, true, false, nat_lt, List, [], ◌∷◌, ◌++◌, length, append_assoc, append-nil, length-append, ◌⊎◌, inl, inr, arith}
use Rattle.std.specs.List.{slice_split, before_first, after_first, position_or_len}
use Rattle.std.proofs.lemmas.Bool.{le-ltb, lt-ltb, ltb-true, ltb-false}
use Rattle.opl_reader.specs.Lines.{is_newline, with_last, whole_lines, unfinished_of}
use Rattle.opl_reader.proofs.ReaderKit.{IsOneLine, newline_ends, one_line, front_is_one, all_before, at_most_all, some_part, split_behind, lines_with_rest, with_last_behind, rest_is_one, cut_piece}
use Rattle.osm_input.specs.Lines.{lines_begun}

-- the parts of an unfinished line with a piece behind it: the line now begun is the first of them
pub record Begun (rest piece : List ℕ) : Type 0 where
  pub after : List (List ℕ)
  pub parts : slice_split is_newline (rest ++ piece) ≡ (rest ++ before_first is_newline piece) ∷ after
  pub more : position_or_len is_newline piece < length piece → 0 < length after

begun_by : (rest piece : List ℕ) → IsOneLine rest → (b : Bool) → nat_lt (position_or_len is_newline piece) (length piece) ≡ b → Begun rest piece
begun_by rest piece one true e =
    let lt = ltb-true _ _ e in
    let cut : rest ++ piece ≡ (rest ++ before_first is_newline piece) ++ 10 ∷ after_first is_newline piece =
    ap (λ (zs : List ℕ). rest ++ zs) (cut_piece piece lt) ∙ sym (append_assoc rest (before_first is_newline piece) (10 ∷ after_first is_newline piece)) in
    record {
      after = slice_split is_newline (after_first is_newline piece);
      parts = rw cut (newline_ends (rest ++ before_first is_newline piece) (after_first is_newline piece) (front_is_one rest piece one));
      more = λ _. some_part (after_first is_newline piece);
    }
begun_by rest piece one false e =
    let none = ltb-false _ _ e in
    let all = all_before piece (at_most_all piece none) in
    record {
      after = [];
      parts = subst (λ (zs : List ℕ). slice_split is_newline (rest ++ zs) ≡ (rest ++ before_first is_newline piece) ∷ []) all (one_line (rest ++ before_first is_newline piece) (front_is_one rest piece one));
      more = λ lt. absurd (omega arith);
    }

pub begun_behind : (bytes piece : List ℕ) → Begun (unfinished_of bytes) piece
begun_behind bytes piece = begun_by (unfinished_of bytes) piece (rest_is_one bytes) (nat_lt (position_or_len is_newline piece) (length piece)) refl

-- ---- the lines that count

-- the first of some parts counts where others follow it or it does by itself
counted_first : (counts : List ℕ → Bool) (line : List ℕ) (after : List (List ℕ)) → ((0 < length after) ⊎ (counts line ≡ true)) →
    (others : List (List ℕ)) × (with_last counts (line ∷ after) ≡ line ∷ others)
counted_first counts line [] (inl some) = absurd (omega arith)
counted_first counts line [] (inr does) = ([], rw does refl)
counted_first counts line (next ∷ after) stands = (with_last counts (next ∷ after), refl)

pub lines_behind : (counts : List ℕ → Bool) (bytes piece : List ℕ) →
    with_last counts (slice_split is_newline (bytes ++ piece)) ≡ whole_lines bytes ++ with_last counts (slice_split is_newline (unfinished_of bytes ++ piece))
lines_behind counts bytes piece =
    ap (with_last counts) (split_behind bytes piece)
    ∙ with_last_behind counts (whole_lines bytes) (slice_split is_newline (unfinished_of bytes ++ piece)) (some_part (unfinished_of bytes ++ piece))

some_more : (counts : List ℕ → Bool) (bytes piece : List ℕ) (b : Begun (unfinished_of bytes) piece) →
    ((position_or_len is_newline piece < length piece) ⊎ (counts (unfinished_of bytes ++ before_first is_newline piece) ≡ true)) →
    (0 < length b.after) ⊎ (counts (unfinished_of bytes ++ before_first is_newline piece) ≡ true)
some_more counts bytes piece b (inl lt) = inl (b.more lt)
some_more counts bytes piece b (inr does) = inr does

-- The whole lines of the bytes, then the line now begun, where a newline ends it or it counts by itself.
pub begun_stands : (counts : List ℕ → Bool) (bytes piece : List ℕ) →
    ((position_or_len is_newline piece < length piece) ⊎ (counts (unfinished_of bytes ++ before_first is_newline piece) ≡ true)) →
    (others : List (List ℕ)) × (with_last counts (slice_split is_newline (bytes ++ piece)) ≡ whole_lines bytes ++ (unfinished_of bytes ++ before_first is_newline piece) ∷ others)
begun_stands counts bytes piece stands =
    let b = begun_behind bytes piece in
    let first = counted_first counts (unfinished_of bytes ++ before_first is_newline piece) b.after (some_more counts bytes piece b stands) in (
      first.0,
      lines_behind counts bytes piece ∙ ap (λ (zs : List (List ℕ)). whole_lines bytes ++ zs) (ap (with_last counts) b.parts ∙ first.1),
    )

-- ---- how many lines are begun

pub begun_whole : (longest : ℕ) (bytes : List ℕ) → length (unfinished_of bytes) ≤ longest → lines_begun longest bytes ≡ whole_lines bytes
begun_whole longest bytes short =
    lines_with_rest (λ line. nat_lt longest (length line)) (slice_split is_newline bytes) (some_part bytes)
    ∙ rw (le-ltb longest (length (unfinished_of bytes)) short) (append-nil (whole_lines bytes))

fewer_by : (longest : ℕ) (front more : List ℕ) (long : Bool) → nat_lt longest (length (unfinished_of front)) ≡ long → length (lines_begun longest front) ≤ length (lines_begun longest (front ++ more))
fewer_by longest front more true e =
    let counts : List ℕ → Bool = λ line. nat_lt longest (length line) in
    let line : List ℕ = unfinished_of front ++ before_first is_newline more in
    let less = ltb-true _ _ e in
    let longer : longest < length line = omega (arith, length-append (unfinished_of front) (before_first is_newline more)) in
    let there = begun_stands counts front more (inr (lt-ltb longest (length line) longer)) in
    let here : lines_begun longest front ≡ whole_lines front ++ unfinished_of front ∷ [] =
    lines_with_rest counts (slice_split is_newline front) (some_part front) ∙ rw e refl in
    let m : length (lines_begun longest front) ≡ length (whole_lines front ++ unfinished_of front ∷ []) = ap length here in
    let n : length (lines_begun longest (front ++ more)) ≡ length (whole_lines front ++ line ∷ there.0) = ap length there.1 in
    omega (arith, length-append (whole_lines front) (unfinished_of front ∷ []), length-append (whole_lines front) (line ∷ there.0))
fewer_by longest front more false e =
    let counts : List ℕ → Bool = λ line. nat_lt longest (length line) in
    let rest : List (List ℕ) = with_last counts (slice_split is_newline (unfinished_of front ++ more)) in
    let m : length (lines_begun longest front) ≡ length (whole_lines front) = ap length (begun_whole longest front (ltb-false _ _ e)) in
    let n : length (lines_begun longest (front ++ more)) ≡ length (whole_lines front ++ rest) = ap length (lines_behind counts front more) in
    omega (arith, length-append (whole_lines front) rest)

-- A prefix has no more lines.
pub fewer_before : (longest : ℕ) (front more : List ℕ) → length (lines_begun longest front) ≤ length (lines_begun longest (front ++ more))
fewer_before longest front more = fewer_by longest front more (nat_lt longest (length (unfinished_of front))) refl
