-- Fields, one part more at a time.
use Rattle.std.proofs.Common.{◌≡◌, ℕ, ◌+◌, ◌<◌, ◌≤◌, true, false, eqb, ◌||◌, List, [], ◌∷◌, length, get_or, drop, refl, sym, ap, ◌∙◌, inl, inr, arith}
use Rattle.std.specs.List.{slice_split, onto_first}
use Rattle.std.specs.Str.{IsUtf8}
use Rattle.std.proofs.lemmas.Bool.{lt-ltb, or_left, or_cases, eq-eqb, eqb-true, ne_eqb}
use Rattle.std.proofs.lemmas.List.{at_drop_more, at_drop_all}
use Rattle.opl_reader.specs.Parts.{Part}
use Rattle.opl_reader.specs.ItemReading.{placed}
use Rattle.opl_reader.specs.LineReading.{is_separator, fields_from, nonempty}
use Rattle.opl_reader.specs.Steps.{with_part, begins_passed}

pub fields-none : (place : ℕ) → fields_from place [] ≡ []
unfolding fields_from
fields-none place = refl

pub fields-cut : (place : ℕ) (text part left : List ℕ) → slice_split is_separator text ≡ part ∷ slice_split is_separator left → fields_from place text ≡ with_part place part (fields_from (place + length part + 1) left)
unfolding fields_from
fields-cut place text [] left e = rw e refl
fields-cut place text (b ∷ part) left e = rw (e, lt-ltb 0 (length (b ∷ part)) (omega arith)) refl

pub fields-last : (place : ℕ) (text : List ℕ) → slice_split is_separator text ≡ text ∷ [] → fields_from place text ≡ with_part place text (fields_from (place + length text + 1) [])
unfolding fields_from
fields-last place [] e = refl
fields-last place (b ∷ text) e = rw (e, lt-ltb 0 (length (b ∷ text)) (omega arith)) refl

pub separator_ascii : (b : ℕ) → is_separator b ≡ true → b < 128
separator_ascii b e =
    elim (or_cases (eqb b 32) (eqb b 9) e) [
      | inl k ↦ let is : b ≡ 32 = eqb-true b 32 k in omega arith
      | inr k ↦ let is : b ≡ 9 = eqb-true b 9 k in omega arith
    ]

-- no field stands before what is left at a place of the text that begins at start
pub record FieldsTo (at : ℕ) (left : List ℕ) (start : ℕ) (text : List ℕ) : Type 0 where
  pub utf8 : IsUtf8 left
  pub room : at + length left ≤ start + length text
  pub within : length left ≤ length text
  pub so_far : fields_from at left ≡ fields_from start text

pub field_comes : (at : ℕ) (part : List ℕ) (fields : List Part) → 0 < length part → with_part at part fields ≡ record { at = at; bytes = part } ∷ fields
field_comes at [] fields some = absurd (omega arith)
field_comes at (b ∷ part) fields some = refl

pub skips : (at : ℕ) (rest part more : List ℕ) (start : ℕ) (text : List ℕ) → ((place : ℕ) → fields_from place rest ≡ with_part place part (fields_from (place + length part + 1) more))
    → IsUtf8 more → length more < length rest → length part ≡ 0 → FieldsTo at rest start text → FieldsTo (at + 1) more start text
skips at rest [] more start text e utf8 shorter none so_far = record {
  utf8 = utf8;
  room = let room = so_far.room in omega arith;
  within = let within = so_far.within in omega arith;
  so_far = let k : at + 0 + 1 ≡ at + 1 = omega arith in sym (rw k at (e at)) ∙ so_far.so_far;
}
skips at rest (b ∷ part) more start text e utf8 shorter none so_far = absurd (omega arith)

-- ---- the first byte that is no separator

pub fields-separator : (at b : ℕ) (bytes : List ℕ) → is_separator b ≡ true → fields_from at (b ∷ bytes) ≡ fields_from (at + 1) bytes
unfolding fields_from
fields-separator at b bytes e = let k : at + 0 + 1 ≡ at + 1 = omega arith in rw (e, k) refl

begins-letter : (at b : ℕ) (parts : List (List ℕ)) → begins_passed (nonempty (placed at (onto_first b parts))) ≡ (eqb b 35 || eqb b 99)
begins-letter at b [] = refl
begins-letter at b (part ∷ parts) = rw (lt-ltb 0 (length (b ∷ part)) (omega arith)) refl

fields-letter : (at b : ℕ) (bytes : List ℕ) → is_separator b ≡ false → begins_passed (fields_from at (b ∷ bytes)) ≡ (eqb b 35 || eqb b 99)
unfolding fields_from
fields-letter at b bytes e = rw e (begins-letter at b (slice_split is_separator bytes))

pub passes-on : (text : List ℕ) (i : ℕ) → i < length text → is_separator (get_or text i 0) ≡ true → fields_from i (drop i text) ≡ fields_from 0 text → fields_from (i + 1) (drop (i + 1) text) ≡ fields_from 0 text
passes-on text i lt e so_far = sym (at_drop_more (fields_from i) text i 0 lt ∙ fields-separator i (get_or text i 0) (drop (i + 1) text) e) ∙ so_far

pub stops-here : (text : List ℕ) (i : ℕ) → i < length text → is_separator (get_or text i 0) ≡ false → fields_from i (drop i text) ≡ fields_from 0 text
    → (eqb (get_or text i 0) 35 || eqb (get_or text i 0) 99) ≡ begins_passed (fields_from 0 text)
stops-here text i lt e so_far = sym (ap begins_passed (sym so_far ∙ at_drop_more (fields_from i) text i 0 lt) ∙ fields-letter i (get_or text i 0) (drop (i + 1) text) e)

pub at-end : (text : List ℕ) (i : ℕ) → length text ≤ i → fields_from i (drop i text) ≡ fields_from 0 text → true ≡ begins_passed (fields_from 0 text)
at-end text i le so_far = ap begins_passed (sym (fields-none i) ∙ sym (at_drop_all (fields_from i) text i le) ∙ so_far)

pub letter-first : (b : ℕ) → b ≡ 35 → true ≡ (eqb b 35 || eqb b 99)
letter-first b e = sym (or_left (eqb b 35) (eqb b 99) (eq-eqb b 35 e))

pub letter-second : (b : ℕ) → (b ≡ 35 → ⊥) → eqb b 99 ≡ (eqb b 35 || eqb b 99)
letter-second b ne = rw (ne_eqb b 35 ne) refl
