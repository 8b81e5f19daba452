-- The first line of a text, by where its first LF stands.
use Rattle.std.proofs.Common.{◌≡◌, ◌∙◌, refl, sym, ap, ap₂, ℕ, zero, suc, ◌+◌, ◌<◌, ◌==◌, Bool, true, false, if◌then◌else◌, List, [], ◌∷◌, length, take, drop, get_or, arith}
use Rattle.std.proofs.lemmas.Bool.{false_from_ne_true}
use Rattle.std.proofs.lemmas.List.{drop_all, take_all}
use Rattle.std.specs.List.{onto_first}
use Rattle.memchr.specs.Find.{NoneBefore, Nowhere, Passes, is_byte}
use Rattle.area_certify.specs.Lines.{text_lines}

when : {X : Type 0} (b : Bool) (x y : X) → b ≡ true → (if b then x else y) ≡ x
when b x y is = rw is refl

pub unless : {X : Type 0} (b : Bool) (x y : X) → b ≡ false → (if b then x else y) ≡ y
unless b x y is = rw is refl

-- the first LF stands at place k
pub line_cut : (text : List ℕ) (k : ℕ) → k < length text → ((j : ℕ) → j < k → (get_or text j 0 == 10) ≡ true → ⊥) → (get_or text k 0 == 10) ≡ true →
    text_lines text ≡ take (suc k) text ∷ text_lines (drop (suc k) text)
line_cut [] k within before here = absurd (omega arith)
line_cut (byte ∷ text) zero within before here = when (byte == 10) ((byte ∷ []) ∷ text_lines text) (onto_first byte (text_lines text)) here
line_cut (byte ∷ text) (suc k) within before here =
    unless (byte == 10) ((byte ∷ []) ∷ text_lines text) (onto_first byte (text_lines text)) (false_from_ne_true (byte == 10) (before 0 (omega arith)))
    ∙ ap (onto_first byte) (line_cut text k (omega arith) (λ j lt. before (suc j) (omega arith)) here)

-- there is no LF
pub line_left : (text : List ℕ) → 0 < length text → ((j : ℕ) → j < length text → (get_or text j 0 == 10) ≡ true → ⊥) → text_lines text ≡ text ∷ []
line_left [] some none = absurd (omega arith)
line_left (byte ∷ []) some none = unless (byte == 10) ((byte ∷ []) ∷ []) (onto_first byte []) (false_from_ne_true (byte == 10) (none 0 (omega arith)))
line_left (byte ∷ (next ∷ text)) some none =
    unless (byte == 10) ((byte ∷ []) ∷ text_lines (next ∷ text)) (onto_first byte (text_lines (next ∷ text))) (false_from_ne_true (byte == 10) (none 0
    (omega arith)))
    ∙ ap (onto_first byte) (line_left (next ∷ text) (omega arith) (λ j lt. none (suc j) (omega arith)))

-- ---- by what a search for LF gives

module _ (text line rest : List ℕ) where
  as_parts : (first left : List ℕ) → line ≡ first → rest ≡ left → text_lines text ≡ first ∷ text_lines left → text_lines text ≡ line ∷ text_lines rest
  as_parts first left front back is = is ∙ ap₂ (λ (l r : List ℕ). l ∷ text_lines r) (sym front) (sym back)

  pub cut_first : (k : ℕ) → NoneBefore (Passes (is_byte 10) text) 0 (length text) k → Passes (is_byte 10) text k → line ≡ take (k + 1) text →
      rest ≡ drop (k + 1) text →
      text_lines text ≡ line ∷ text_lines rest
  cut_first k is here front back =
      let e : k + 1 ≡ suc k = omega arith in
      as_parts (take (suc k) text) (drop (suc k) text) (front ∙ ap (λ (n : ℕ). take n text) e) (back ∙ ap (λ (n : ℕ). drop n text) e)
      (line_cut text k is.high (λ j lt. is.before j (omega arith) lt) here)

  pub cut_left : (length text ≡ 0 → ⊥) → Nowhere (Passes (is_byte 10) text) 0 (length text) → line ≡ take (length text) text → rest ≡ drop (length text) text →
      text_lines text ≡ line ∷ text_lines rest
  cut_left some none front back =
      as_parts text [] (front ∙ take_all (length text) text (omega arith)) (back ∙ drop_all (length text) text (omega arith))
      (line_left text (omega arith) (λ j lt. none j (omega arith) lt))

-- ---- a text that isn't empty has a line

some_first : (b : Bool) (byte : ℕ) (lines : List (List ℕ)) → (line : List ℕ) × (left : List (List ℕ)) ×
    ((if b then (byte ∷ []) ∷ lines else onto_first byte lines) ≡ line ∷ left)
some_first true byte lines = (byte ∷ [], lines, refl)
some_first false byte [] = (byte ∷ [], [], refl)
some_first false byte (line ∷ lines) = (byte ∷ line, lines, refl)

pub some_line : (text : List ℕ) → (length text ≡ 0 → ⊥) → (line : List ℕ) × (left : List (List ℕ)) × (text_lines text ≡ line ∷ left)
some_line [] some = absurd (some refl)
some_line (byte ∷ text) some = some_first (byte == 10) byte (text_lines text)
