-- A search for the first byte at which a text is cut.
use Rattle.std.proofs.Common.{◌≡◌, ℕ, suc, ◌+◌, ◌<◌, ◌≤◌, Bool, true, false, not, leb, List, [], ◌∷◌, length, get_or, drop, refl, sym, ap, ◌∙◌, inl, inr, arith}
use Rattle.std.specs.List.{position_or_len}
use Rattle.std.proofs.lemmas.Bool.{cases_Bool, ne_eqb, leb-false}
use Rattle.std.proofs.lemmas.List.{drop-drop}
use Rattle.std.proofs.lemmas.List.Sums.{prefix_len-drop_yes, prefix_len-drop_no, prefix_len-drop_all}
use Rattle.opl_reader.specs.LineReading.{is_separator}
use Rattle.opl_reader.specs.Steps.{is_low}

module _ (cuts : ℕ → Bool) where
  -- the text isn't cut before a place, so that the search ends where it would end from there
  pub record SearchedTo (text : List ℕ) (at found : ℕ) : Type 0 where
    pub inside : at ≤ length text
    pub so_far : at + position_or_len cuts (drop at text) ≡ found

  pub one_more : (text : List ℕ) (at found : ℕ) → at < length text → cuts (get_or text at 0) ≡ false → SearchedTo text at found → SearchedTo text (at + 1) found
  one_more text at found lt fails so_far = record {
    inside = omega arith;
    so_far = omega (arith, prefix_len-drop_yes (λ x. not (cuts x)) text at 0 lt (ap not fails), so_far.so_far);
  }

  pub stops_here : (text : List ℕ) (at found : ℕ) → at < length text → cuts (get_or text at 0) ≡ true → SearchedTo text at found → at ≡ found
  stops_here text at found lt here so_far = omega (arith, prefix_len-drop_no (λ x. not (cuts x)) text at 0 lt (ap not here), so_far.so_far)

  pub ends : (text : List ℕ) (at found : ℕ) → length text ≤ at → SearchedTo text at found → length text ≡ found
  ends text at found le so_far = omega (arith, prefix_len-drop_all (λ x. not (cuts x)) text at le, so_far.so_far, so_far.inside)

-- ---- bytes above a space are passed over

no_separator : (b : ℕ) → leb b 32 ≡ false → is_separator b ≡ false
no_separator b high =
    let above : 32 < b = leb-false b 32 high in
    rw (ne_eqb b 32 (λ e. absurd (omega arith)), ne_eqb b 9 (λ e. absurd (omega arith))) refl

passes_low : (xs : List ℕ) → position_or_len is_separator xs ≡ position_or_len is_low xs + position_or_len is_separator (drop (position_or_len is_low xs) xs)
passes_low [] = refl
passes_low (b ∷ bs) =
    elim (cases_Bool (leb b 32)) [
      | inl low ↦ rw low (omega arith)
      | inr high ↦
          let one : 1 + position_or_len is_low bs ≡ suc (position_or_len is_low bs) = omega arith in
          rw (no_separator b high, high) (omega (arith, passes_low bs, ap (λ n. position_or_len is_separator (drop n (b ∷ bs))) one))
    ]

pub skips_low : (text : List ℕ) (at low found : ℕ) → low ≤ length text → low ≡ at + position_or_len is_low (drop at text) → SearchedTo is_separator text at found → SearchedTo is_separator text low found
skips_low text at low found inside is so_far = record {
  inside = inside;
  so_far =
      let rest : drop (position_or_len is_low (drop at text)) (drop at text) ≡ drop low text = drop-drop (position_or_len is_low (drop at text)) at text ∙ ap (λ n. drop n text) (sym is) in
      omega (arith, passes_low (drop at text), ap (position_or_len is_separator) rest, so_far.so_far);
}
