-- The first bad line.
use Rattle.std.proofs.Common.{◌≡◌, ◌∙◌, refl, sym, ap, subst, ℕ, ◌<◌, ◌≤◌, Bool, true, false, nat_lt, List, [], ◌∷◌, ◌++◌, length, append_assoc, Err, arith}
use Rattle.std.specs.List.{slice_split, before_first, after_first, position_or_len}
use Rattle.std.proofs.lemmas.Bool.{lt-ltb, ltb-true, ltb-false}
use Rattle.opl_reader.specs.LineReading.{reading}
use Rattle.opl_reader.specs.Lines.{is_newline, with_last, whole_lines, unfinished_of}
use Rattle.opl_reader.specs.Feeding.{begun}
use Rattle.opl_reader.specs.BadLines.{FirstFaultIsReported, LastFaultIsReported, FirstTooLongIsReported}
use Rattle.opl_reader.proofs.LineSplits.{IsOneLine, newline_ends, one_line, all_before, at_most_all, lines-cons, front_is_one, some_part, split_behind, with_last_behind, rest_is_one, cut_piece}
use Rattle.opl_reader.proofs.FeedSteps.{too_long_of, refused_of, last_refused_of}
use Rattle.opl_reader.proofs.ChunkLaws.{all_lines}

refused_line : (bytes u piece : List ℕ) → unfinished_of bytes ≡ u → IsOneLine u → position_or_len is_newline piece < length piece →
    whole_lines (bytes ++ piece) ≡ whole_lines bytes ++ (u ++ before_first is_newline piece) ∷ whole_lines (after_first is_newline piece)
refused_line bytes u piece e one lt =
    let cut : u ++ piece ≡ (u ++ before_first is_newline piece) ++ 10 ∷ after_first is_newline piece =
    ap (λ (zs : List ℕ). u ++ zs) (cut_piece piece lt) ∙ sym (append_assoc u (before_first is_newline piece) (10 ∷ after_first is_newline piece)) in
    ap (with_last (λ line. false)) (split_behind bytes piece)
    ∙ (with_last_behind (λ line. false) (whole_lines bytes) (slice_split is_newline (unfinished_of bytes ++ piece)) (some_part (unfinished_of bytes ++ piece))
    ∙ ap (λ (zs : List (List ℕ)). whole_lines bytes ++ zs) (rw e (rw cut (lines-cons (λ line. false) (u ++ before_first is_newline piece) (after_first is_newline piece) (front_is_one u piece one)))))

pub first_fault_is_reported : FirstFaultIsReported
first_fault_is_reported longest bytes handed r piece number fault h e =
    let f = refused_of r piece number fault e in
    let one : IsOneLine r.unfinished = subst (λ (zs : List ℕ). IsOneLine zs) (sym h.unfinished) (rest_is_one bytes) in
    let line = h.line in
    let n = f.counted in
    let short = f.short in
    let most = h.longest in (
      record {
        before = whole_lines bytes;
        line = begun r piece;
        after = whole_lines (after_first is_newline piece);
        parted = refused_line bytes r.unfinished piece (sym h.unfinished) one f.newline;
        counted = omega arith;
        readable = h.readable;
        short = omega arith;
        bad = f.bad;
      },
      lt-ltb _ _ f.newline,
      omega arith,
    )

pub last_fault_is_reported : LastFaultIsReported
last_fault_is_reported longest bytes handed r number fault h e =
    let f = last_refused_of r number fault e in
    let some : 0 < length (unfinished_of bytes) = subst (λ (z : List ℕ). 0 < length z) h.unfinished f.some in
    let line = h.line in
    let n = f.counted in
    record {
      before = whole_lines bytes;
      line = unfinished_of bytes;
      after = [];
      parted = all_lines bytes true (lt-ltb 0 (length (unfinished_of bytes)) some);
      counted = omega arith;
      readable = h.readable;
      short = subst (λ (z : List ℕ). length z ≤ longest) h.unfinished h.short;
      bad = subst (λ (z : List ℕ). reading z ≡ Err fault) h.unfinished f.bad;
    }

-- the parts of an unfinished line and a piece begin with the line now begun
record Begins (line : List ℕ) (parts : List (List ℕ)) : Type 0 where
  pub after : List (List ℕ)
  pub is : parts ≡ line ∷ after

begins : (u piece : List ℕ) → IsOneLine u → (b : Bool) → nat_lt (position_or_len is_newline piece) (length piece) ≡ b → Begins (u ++ before_first is_newline piece) (slice_split is_newline (u ++ piece))
begins u piece one true e =
    let lt = ltb-true _ _ e in
    let cut : u ++ piece ≡ (u ++ before_first is_newline piece) ++ 10 ∷ after_first is_newline piece =
    ap (λ (zs : List ℕ). u ++ zs) (cut_piece piece lt) ∙ sym (append_assoc u (before_first is_newline piece) (10 ∷ after_first is_newline piece)) in
    record {
      after = slice_split is_newline (after_first is_newline piece);
      is = rw cut (newline_ends (u ++ before_first is_newline piece) (after_first is_newline piece) (front_is_one u piece one));
    }
begins u piece one false e =
    let all = all_before piece (at_most_all piece (ltb-false _ _ e)) in
    record {
      after = [];
      is = subst (λ (zs : List ℕ). slice_split is_newline (u ++ zs) ≡ (u ++ before_first is_newline piece) ∷ []) all (one_line (u ++ before_first is_newline piece) (front_is_one u piece one));
    }

pub first_too_long_is_reported : FirstTooLongIsReported
first_too_long_is_reported longest bytes handed r piece number h e =
    let long = too_long_of r piece number e in
    let more = begins (unfinished_of bytes) piece (rest_is_one bytes) (nat_lt (position_or_len is_newline piece) (length piece)) refl in
    let begun_is : begun r piece ≡ unfinished_of bytes ++ before_first is_newline piece = ap (λ (zs : List ℕ). zs ++ before_first is_newline piece) h.unfinished in
    let line = h.line in
    let most = h.longest in
    let n = long.1 in
    let passes = long.0 in
    let too_long : longest < length (unfinished_of bytes ++ before_first is_newline piece) = subst (λ (zs : List ℕ). longest < length zs) begun_is (omega arith) in (
      record {
        before = whole_lines bytes;
        part = unfinished_of bytes ++ before_first is_newline piece;
        after = more.after;
        parted = split_behind bytes piece ∙ ap (λ (zs : List (List ℕ)). whole_lines bytes ++ zs) more.is;
        counted = omega arith;
        readable = h.readable;
        long = too_long;
      },
      subst (λ (z : List ℕ). length z ≤ longest) h.unfinished h.short,
      too_long,
    )
