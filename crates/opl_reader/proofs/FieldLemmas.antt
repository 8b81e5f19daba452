-- Fields of an object, one more at a time.
use Rattle.std.proofs.Common.{◌≡◌, ℕ, ◌+◌, ◌^◌, ◌<◌, ◌≤◌, Bool, true, false, eqb, ltb, ◌||◌, List, [], ◌∷◌, length, get_or, set, replicate, Some, None, Ok, refl, sym, ap, ◌∙◌, inl, inr, arith}
use Rattle.std.specs.List.{list_all, list_any}
use Rattle.std.specs.Str.{IsUtf8}
use Rattle.std.proofs.lemmas.Bool.{cases_lt, cases_eq, and_parts, ltb-true, ne_eqb, eq-eqb, or_left}
use Rattle.std.proofs.lemmas.List.{get_or-set_same, get_or-set_other, length-set, length-replicate, get_or-replicate}
use Rattle.osm_tables.specs.declared.Row.{Row}
use Rattle.osm_tables.specs.Tables.{code_of}
use Rattle.opl_reader.specs.declared.fault.LineError.{LineError}
use Rattle.opl_reader.specs.declared.fault.LineError.TheVariants.{Fault, OutOfMemory}
use Rattle.osm_elements.specs.declared.object.ObjectKind.{ObjectKind}
use Rattle.osm_elements.specs.declared.object.ObjectKind.TheVariants.{Node, Way, Relation}
use Rattle.opl_reader.specs.declared.field.Meaning.{Meaning}
use Rattle.opl_reader.specs.declared.content.Content.{Content}
use Rattle.opl_reader.specs.Reading.{Fails}
use Rattle.opl_reader.specs.Fields.{letter_of, nothing}
use Rattle.opl_reader.specs.FieldReading.{with_field, with_fields}
use Rattle.opl_reader.specs.LineReading.{fields_from}
use Rattle.opl_reader.specs.Letters.{table_of}
use Rattle.opl_reader.specs.Steps.{Marks}
use Rattle.opl_reader.proofs.LetterLaws.{by_table}

-- ---- letters of the tables are ASCII

far_code : (rows : List Row) (key : ℕ) → list_all (λ r. ltb r.key 128) rows ≡ true → 128 ≤ key → code_of rows key ≡ None
far_code [] key small far = refl
far_code (r ∷ rows) key small far =
    let parts = and_parts (ltb r.key 128) (list_all (λ q. ltb q.key 128) rows) small in
    let lt = ltb-true r.key 128 parts.0 in
    rw (ne_eqb r.key key (omega arith)) (far_code rows key parts.1 far)

tables_small : (kind : ObjectKind) → list_all (λ r. ltb r.key 128) (table_of kind) ≡ true
tables_small Node = refl
tables_small Way = refl
tables_small Relation = refl

far_letter : (kind : ObjectKind) (letter : ℕ) → 128 ≤ letter → letter_of kind letter ≡ None
far_letter kind letter far = by_table kind letter ∙ rw (far_code (table_of kind) letter (tables_small kind) far) refl

-- a letter that means something is ASCII
pub letter_ascii : (kind : ObjectKind) (letter : ℕ) (meaning : Meaning) → Some meaning ≡ letter_of kind letter → letter < 128
letter_ascii kind letter meaning is =
    elim (cases_lt letter 128) [
      | inl ascii ↦ ascii
      | inr far ↦ absurd (some≢none (is ∙ far_letter kind letter far))
    ]
  where
    some≢none : Some meaning ≡ None → ⊥
    some≢none e = cc

-- ---- letters that were seen

pub marks-none : (seen : List Bool) → length seen ≡ 256 → ((k : ℕ) → k < 256 → get_or seen k false ≡ false) → Marks seen []
marks-none seen len none = (len, none)

pub marks-more : (seen : List Bool) (letters : List ℕ) (letter : ℕ) → letter < 256 → Marks seen letters → Marks (set seen letter true) (letter ∷ letters)
marks-more seen letters letter lt marks = (
  length-set seen letter true ∙ marks.0,
  λ k below.
      let len = marks.0 in
      elim (cases_eq letter k) [
        | inl e ↦ let inside : letter < length seen = omega arith in sym (or_left (eqb letter k) (list_any (λ s. eqb s k) letters) (eq-eqb letter k e) ∙ sym (ap (λ j. get_or (set seen letter true) j false) (sym e) ∙ get_or-set_same seen letter true false inside))
        | inr ne ↦ get_or-set_other seen letter k true false (λ e. ne (sym e)) ∙ marks.1 k below ∙ sym (ap (λ (b : Bool). b || list_any (λ s. eqb s k) letters) (ne_eqb letter k ne))
      ],
)

-- ---- the loop over fields

-- the fields before what is left are read
pub record Fields (kind : ObjectKind) (seen : List Bool) (content : Content) (at : ℕ) (left : List ℕ) (place : ℕ) (text : List ℕ) : Type 0 where
  pub utf8 : IsUtf8 left
  pub small : at ≤ 2 ^ 63
  pub room : 0 < length left → at + length left < 2 ^ 63
  pub letters : List ℕ
  pub marks : Marks seen letters
  pub so_far : with_fields kind letters (fields_from at left) content ≡ with_fields kind [] (fields_from place text) nothing

pub goes_on : (kind : ObjectKind) (seen seen_now : List Bool) (content next : Content) (at : ℕ) (left : List ℕ) (place : ℕ) (text : List ℕ) (start : ℕ) (field more : List ℕ)
    → fields_from at left ≡ record { at = start; bytes = field } ∷ fields_from (start + length field + 1) more → IsUtf8 more → length more < length left
    → start + length field + length more ≤ at + length left → (0 < length more → start + length field + 1 + length more ≤ at + length left) → (fields : Fields kind seen content at left place text)
    → with_field kind fields.letters start field content ≡ Ok next → Marks seen_now (get_or field 0 0 ∷ fields.letters) → Fields kind seen_now next (start + length field + 1) more place text
unfolding with_fields
goes_on kind seen seen_now content next at left place text start field more e utf8 shorter within behind fields r marks = record {
  utf8 = utf8;
  small = let room = fields.room (omega arith) in omega arith;
  room = λ some. let room = fields.room (omega arith) in let b = behind some in omega arith;
  letters = get_or field 0 0 ∷ fields.letters;
  marks = marks;
  so_far = sym (rw (e, r) refl) ∙ fields.so_far;
}

pub fails : (kind : ObjectKind) (seen : List Bool) (content : Content) (at : ℕ) (left : List ℕ) (place : ℕ) (text : List ℕ) (start : ℕ) (field more : List ℕ) (err : LineError)
    → fields_from at left ≡ record { at = start; bytes = field } ∷ fields_from (start + length field + 1) more → (fields : Fields kind seen content at left place text)
    → Fails err (with_field kind fields.letters start field content) → Fails err (with_fields kind [] (fields_from place text) nothing)
unfolding with_fields
fails kind seen content at left place text start field more OutOfMemory e fields r = tt
fails kind seen content at left place text start field more (Fault f) e fields r = sym fields.so_far ∙ rw (e, r) refl

pub is_read : (kind : ObjectKind) (seen : List Bool) (content : Content) (at : ℕ) (left : List ℕ) (place : ℕ) (text : List ℕ) → fields_from at left ≡ [] → Fields kind seen content at left place text
    → with_fields kind [] (fields_from place text) nothing ≡ Ok content
unfolding with_fields
is_read kind seen content at left place text e fields = sym fields.so_far ∙ rw e refl

pub begins : (kind : ObjectKind) (place : ℕ) (text : List ℕ) → IsUtf8 text → place ≤ 2 ^ 63 → (0 < length text → place + length text < 2 ^ 63) → Fields kind (replicate 256 false) nothing place text place text
begins kind place text utf8 small room = record {
  utf8 = utf8;
  small = small;
  room = room;
  letters = [];
  marks = (length-replicate 256 false, λ k lt. get_or-replicate 256 k false false lt);
  so_far = refl;
}
