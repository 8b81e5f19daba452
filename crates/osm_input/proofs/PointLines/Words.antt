-- The first word of a text.
use Rattle.std.proofs.Common.{◌≡◌, ◌∙◌, refl, sym, ap, ap₂, ℕ, zero, suc, ◌+◌, ◌<◌, true, nat_lt, filter, List, [], ◌∷◌, length, take, drop, get_or, arith, length-take, lt-ltb}
use Rattle.std.proofs.lemmas.List.{at_drop_more, take_all, drop_all}
use Rattle.std.proofs.lemmas.List.Splits.{slice_split-cons_yes}
use Rattle.std.specs.List.{slice_split}
use Rattle.memchr.specs.Find.{NoneBefore, Nowhere, Passes}
use Rattle.opl_reader.specs.LineReading.{is_separator}
use Rattle.opl_reader.proofs.ReaderKit.{parts-none, parts-some}
use Rattle.osm_input.specs.PointLines.LineSteps.{BeginsWord, IsNextWord}
use Rattle.osm_input.specs.PointLines.Lines.{words_in}

pub skips : (byte : ℕ) (text : List ℕ) → is_separator byte ≡ true → words_in (byte ∷ text) ≡ words_in text
skips byte text is = ap (filter (λ word. nat_lt 0 (length word))) (slice_split-cons_yes is_separator byte text is)

-- some bytes are a word
kept : (word : List ℕ) (words : List (List ℕ)) → 0 < length word → filter (λ w. nat_lt 0 (length w)) (word ∷ words) ≡ word ∷ filter (λ w. nat_lt 0 (length w)) words
kept word words some = rw (lt-ltb 0 (length word) some) refl

-- ---- a text that begins with a word

-- the first separator stands behind the first byte of a word
behind_first : (text : List ℕ) (k : ℕ) → BeginsWord text → k < length text → is_separator (get_or text k 0) ≡ true → 0 < k
behind_first [] k begins high here = absurd (omega arith)
behind_first (byte ∷ text) zero begins high here = absurd (cc)
behind_first (byte ∷ text) (suc k) begins high here = omega arith

module _ (text word rest : List ℕ) where
  pub next_at : (k : ℕ) → BeginsWord text → NoneBefore (Passes is_separator text) 0 (length text) k → Passes is_separator text k → word ≡ take k text → rest ≡ drop k text →
      IsNextWord text word rest
  next_at k begins is here front back =
      let high = is.high in
      let some = behind_first text k begins is.high here in
      let len : length word ≡ k = ap length front ∙ take_len in
      record {
        some = omega (arith, len);
        words = ap (filter (λ w. nat_lt 0 (length w))) (parts-some is_separator text k is here ∙ ap (λ w. w ∷ slice_split is_separator (drop (k + 1) text)) (sym front))
            ∙ kept word (slice_split is_separator (drop (k + 1) text)) (omega (arith, len))
            ∙ ap (λ ws. word ∷ ws) (sym (ap words_in back ∙ rest_at));
      }
    where
      take_len : length (take k text) ≡ k
      take_len = let high = is.high in length-take k text ∙ (omega arith)

      rest_at : words_in (drop k text) ≡ words_in (drop (k + 1) text)
      rest_at = at_drop_more words_in text k 0 is.high ∙ skips (get_or text k 0) (drop (k + 1) text) here

  pub all_left : (length text ≡ 0 → ⊥) → Nowhere (Passes is_separator text) 0 (length text) → word ≡ take (length text) text → rest ≡ drop (length text) text →
      IsNextWord text word rest
  all_left some none front back =
      let e : word ≡ text = front ∙ take_all (length text) text (omega arith) in
      let there : 0 < length text = omega (arith, some) in record {
        some = omega (arith, ap length e);
        words = ap (filter (λ w. nat_lt 0 (length w))) (parts-none is_separator text none) ∙ kept text [] there
            ∙ ap₂ (λ (w r : List ℕ). w ∷ words_in r) (sym e) (sym (back ∙ drop_all (length text) text (omega arith)));
      }

-- the first word of a text is that of the text from its first word on
pub at_word : (text from word rest : List ℕ) → words_in from ≡ words_in text → IsNextWord from word rest → IsNextWord text word rest
at_word text from word rest same is = record { some = is.some; words = sym same ∙ is.words }
