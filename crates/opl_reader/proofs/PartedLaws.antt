-- Parted by separators or commas, as the relation says and as the cutting gives.
use Rattle.std.proofs.Common.{◌≡◌, ◌≢◌, ℕ, ◌+◌, ◌<◌, true, false, eqb, List, [], ◌∷◌, ◌++◌, length, refl, sym, ap, subst, ◌∙◌, inl, inr, arith}
use Rattle.std.specs.List.{slice_split}
use Rattle.std.proofs.lemmas.Bool.{cases_eq, eq-eqb, ne_eqb, or_left, or_right}
use Rattle.std.proofs.lemmas.List.{append-nil}
use Rattle.std.proofs.lemmas.List.Elements.{All-nil, All-cons}
use Rattle.std.proofs.lemmas.List.Splits.{slice_split_none, slice_split_at}
use Rattle.opl_reader.specs.Parts.{Part, part, IsSeparator, LacksSeparators, EndsField, Parted, ends, separator, field, PartedByCommas, last, more}
use Rattle.opl_reader.specs.ItemReading.{is_comma}
use Rattle.opl_reader.specs.LineReading.{is_separator, fields_from}
use Rattle.opl_reader.proofs.LineLemmas.{fields-none, fields-separator, fields-cut, fields-last, field_comes}

-- ---- fields

pub separator_is : (b : ℕ) → IsSeparator b → is_separator b ≡ true
separator_is b (inl e) = or_left (eqb b 32) (eqb b 9) (eq-eqb b 32 e)
separator_is b (inr e) = or_right (eqb b 32) (eqb b 9) (eq-eqb b 9 e)

pub no_separator : (b : ℕ) → (IsSeparator b → ⊥) → is_separator b ≡ false
no_separator b no_sep = rw (ne_eqb b 32 (λ e. no_sep (inl e)), ne_eqb b 9 (λ e. no_sep (inr e))) refl

field-first : (at : ℕ) (bytes text : List ℕ) → 0 < length bytes → LacksSeparators bytes → EndsField text → fields_from at (bytes ++ text) ≡ part at bytes ∷ fields_from (at + length bytes) text
field-first at bytes [] some lacks e =
    let whole : slice_split is_separator bytes ≡ bytes ∷ [] = slice_split_none is_separator bytes (λ k d lt. no_separator _ (lacks k d lt)) in
    ap (fields_from at) (append-nil bytes) ∙ fields-last at bytes whole ∙ field_comes at bytes (fields_from (at + length bytes + 1) []) some
    ∙ ap (λ (fs : List Part). part at bytes ∷ fs) (fields-none (at + length bytes + 1) ∙ sym (fields-none (at + length bytes)))
field-first at bytes (b ∷ text) some lacks e =
    let cut : slice_split is_separator (bytes ++ b ∷ text) ≡ bytes ∷ slice_split is_separator text = slice_split_at is_separator bytes b text (λ k d lt. no_separator _ (lacks k d lt)) (separator_is b e) in
    fields-cut at (bytes ++ b ∷ text) bytes text cut ∙ field_comes at bytes (fields_from (at + length bytes + 1) text) some
    ∙ ap (λ (fs : List Part). part at bytes ∷ fs) (sym (fields-separator (at + length bytes) b text (separator_is b e)))

pub is_parted : (at : ℕ) (text : List ℕ) (fields : List Part) → Parted at text fields → fields_from at text ≡ fields
is_parted at text fields (ends a) = fields-none a
is_parted at text fields (separator a b t fs is p) = fields-separator a b t (separator_is b is) ∙ is_parted (a + 1) t fs p
is_parted at text fields (field a bytes t fs some lacks e p) = field-first a bytes t some lacks e ∙ ap (λ (gs : List Part). part a bytes ∷ gs) (is_parted (a + length bytes) t fs p)

one_more : (at next b : ℕ) (text : List ℕ) (fields : List Part) → next ≡ at + 1 → (IsSeparator b → ⊥) → Parted next text fields → (gs : List Part) × Parted at (b ∷ text) gs
one_more at next b text fields same no_sep (ends a) = (part at (b ∷ []) ∷ [], field at (b ∷ []) [] [] (omega arith) (All-cons (λ x. ¬ IsSeparator x) b [] no_sep (All-nil (λ x. ¬ IsSeparator x))) tt (ends (at + 1)))
one_more at next b text fields same no_sep (separator a c t fs is p) =
    (part at (b ∷ []) ∷ fs, field at (b ∷ []) (c ∷ t) fs (omega arith) (All-cons (λ x. ¬ IsSeparator x) b [] no_sep (All-nil (λ x. ¬ IsSeparator x))) is (subst (λ (k : ℕ). Parted k (c ∷ t) fs) same (separator a c t fs is p)))
one_more at next b text fields same no_sep (field a bytes t fs some lacks e p) =
    (part at (b ∷ bytes) ∷ fs, field at (b ∷ bytes) t fs (omega arith) (All-cons (λ x. ¬ IsSeparator x) b bytes no_sep lacks) e (let k : a + length bytes ≡ at + length (b ∷ bytes) = omega arith in subst (λ (j : ℕ). Parted j t fs) k p))

some_parted : (at : ℕ) (text : List ℕ) → (fields : List Part) × Parted at text fields
some_parted at [] = ([], ends at)
some_parted at (b ∷ text) =
    let rest = some_parted (at + 1) text in
    elim (cases_eq b 32) [
      | inl e ↦ (rest.0, separator at b text rest.0 (inl e) rest.1)
      | inr ne ↦ elim (cases_eq b 9) [
        | inl e ↦ (rest.0, separator at b text rest.0 (inr e) rest.1)
        | inr ne2 ↦ one_more at (at + 1) b text rest.0 refl (λ s. elim s [ inl e ↦ ne e | inr e ↦ ne2 e ]) rest.1
      ]
    ]

pub parted : (at : ℕ) (text : List ℕ) → Parted at text (fields_from at text)
parted at text = let p = some_parted at text in subst (Parted at text) (sym (is_parted at text p.0 p.1)) p.1

-- ---- items

pub are_commas : (bytes : List ℕ) (parts : List (List ℕ)) → PartedByCommas bytes parts → slice_split is_comma bytes ≡ parts
are_commas bytes parts (last item lacks) = slice_split_none is_comma item (λ k d lt. ne_eqb _ 44 (lacks k d lt))
are_commas bytes parts (more item text items lacks p) = slice_split_at is_comma item 44 text (λ k d lt. ne_eqb _ 44 (lacks k d lt)) refl ∙ ap (λ (xs : List (List ℕ)). item ∷ xs) (are_commas text items p)

longer : (b : ℕ) (text : List ℕ) (parts : List (List ℕ)) → b ≢ 44 → PartedByCommas text parts → (more : List (List ℕ)) × PartedByCommas (b ∷ text) more
longer b text parts ne (last item lacks) = ((b ∷ item) ∷ [], last (b ∷ item) (All-cons (λ x. x ≢ 44) b item ne lacks))
longer b text parts ne (more item t items lacks p) = ((b ∷ item) ∷ items, more (b ∷ item) t items (All-cons (λ x. x ≢ 44) b item ne lacks) p)

some_commas : (text : List ℕ) → (parts : List (List ℕ)) × PartedByCommas text parts
some_commas [] = ([] ∷ [], last [] (All-nil (λ x. x ≢ 44)))
some_commas (b ∷ text) =
    let rest = some_commas text in
    elim (cases_eq b 44) [
      | inl e ↦ ([] ∷ rest.0, subst (λ (c : ℕ). PartedByCommas (c ∷ text) ([] ∷ rest.0)) (sym e) (more [] text rest.0 (All-nil (λ x. x ≢ 44)) rest.1))
      | inr ne ↦ longer b text rest.0 ne rest.1
    ]

pub commas : (bytes : List ℕ) → PartedByCommas bytes (slice_split is_comma bytes)
commas bytes = let p = some_commas bytes in subst (PartedByCommas bytes) (sym (are_commas bytes p.0 p.1)) p.1
