-- The fault of a line is that of what comes first that has no reading, and the other way round.
use Rattle.std.proofs.Common.{◌≡◌, ℕ, Bool, true, false, cond, eqb, List, [], ◌∷◌, ◌++◌, get_or, Option, Some, None, Result, Ok, Err, ℤ, refl, sym, ap, subst, ◌∙◌, inl, inr}
use Rattle.std.specs.Str.{is_utf8}
use Rattle.std.specs.Str.Lossy.{utf8_valid_len}
use Rattle.std.proofs.lemmas.Bool.{cases_Bool, or_parts, eqb-false, ne_eqb, false_from_ne_true, false≢true}
use Rattle.std.proofs.lemmas.Option.{none-some}
use Rattle.std.proofs.lemmas.Str.{is_utf8-from_IsUtf8, IsUtf8-from_is_utf8}
use Rattle.opl_reader.specs.declared.fault.FaultKind.TheVariants.{NotUtf8, UnknownObject, BadNumber}
use Rattle.opl_reader.specs.declared.fault.LineFault.{LineFault}
use Rattle.osm_elements.specs.declared.object.ObjectKind.{ObjectKind}
use Rattle.osm_elements.specs.declared.object.Object.{Object}
use Rattle.opl_reader.specs.declared.content.Content.{Content}
use Rattle.opl_reader.specs.Reading.{◌>>=◌, or_fault, no_reading}
use Rattle.opl_reader.specs.Parts.{Part, without_cr, Parted}
use Rattle.opl_reader.specs.Numbers.{IsId}
use Rattle.opl_reader.specs.Items.{kind_by_letter}
use Rattle.opl_reader.specs.Fields.{Told, nothing, object_of}
use Rattle.opl_reader.specs.NumberReading.{id_spelled}
use Rattle.opl_reader.specs.FieldReading.{with_field, with_fields}
use Rattle.opl_reader.specs.LineReading.{fields_from, head_at, is_passed_over, object_in_parts, reading_of, reading}
use Rattle.opl_reader.specs.Faults.{FirstFault, seen_after, fault_at, BadField, IsKept, ObjectFault, HasFault}
use Rattle.opl_reader.proofs.BadLaws.{bind_err, or_fault_err, field_bad, bad_field}
use Rattle.opl_reader.proofs.DecimalLaws.{id_is, is_id}
use Rattle.opl_reader.proofs.PartedLaws.{parted, is_parted}
use Rattle.opl_reader.proofs.ItemLaws.{or_fault_ok, none_of}
use Rattle.opl_reader.proofs.LineLaws.{field_tells, tells_field, head_is}

pub fault_is_first : (kind : ObjectKind) (seen : List ℕ) (fields : List Part) (c : Content) (x : LineFault) → with_fields kind seen fields c ≡ Err x → FirstFault kind seen fields c x
unfolding with_fields
fault_is_first kind seen [] c x e = absurd cc
fault_is_first kind seen (f ∷ fields) c x e =
    elim (bind_err (with_field kind seen f.at f.bytes c) (with_fields kind (get_or f.bytes 0 0 ∷ seen) fields) x e) [
      | inl here ↦ record { before = []; field = f; after = fields; content = c; parts = refl; told = refl; bad = field_bad kind seen f.at f.bytes c x here }
      | inr on ↦
          let rest = fault_is_first kind (get_or f.bytes 0 0 ∷ seen) fields on.0 x on.2 in
          record {
            before = f ∷ rest.before;
            field = rest.field;
            after = rest.after;
            content = rest.content;
            parts = ap (λ (fs : List Part). f ∷ fs) rest.parts;
            told = (on.0, field_tells kind seen f.at f.bytes c on.0 on.1, rest.told);
            bad = rest.bad;
          }
    ]

first_from : (kind : ObjectKind) (seen : List ℕ) (before : List Part) (f : Part) (after : List Part) (c d : Content) (x : LineFault) → Told kind seen before c d → BadField kind (seen_after seen before) f x → with_fields kind seen (before ++ f ∷ after) c ≡ Err x
unfolding with_fields
first_from kind seen [] f after c d x told fault =
    ap (λ (e : Content). with_field kind seen f.at f.bytes e >>= with_fields kind (get_or f.bytes 0 0 ∷ seen) after) told ∙ rw (bad_field kind seen f.at f.bytes d x fault) refl
first_from kind seen (b ∷ before) f after c d x told fault =
    rw (tells_field kind seen b.at b.bytes c told.0 told.1) (first_from kind (get_or b.bytes 0 0 ∷ seen) before f after told.0 d x told.2 fault)

pub first_is_fault : (kind : ObjectKind) (seen : List ℕ) (fields : List Part) (c : Content) (x : LineFault) → FirstFault kind seen fields c x → with_fields kind seen fields c ≡ Err x
first_is_fault kind seen fields c x first = ap (λ (fs : List Part). with_fields kind seen fs c) first.parts ∙ first_from kind seen first.before first.field first.after c first.content x first.told first.bad

-- ---- the first field

no_id : (digits : List ℕ) → id_spelled digits ≡ None → (id : ℤ) → IsId digits id → ⊥
no_id digits e id is = none-some id (sym e ∙ is_id digits id is)

id_none : (digits : List ℕ) → ((id : ℤ) → IsId digits id → ⊥) → id_spelled digits ≡ None
id_none digits h = none_of (id_spelled digits) (λ id e. h id (id_is digits id e))

head_unknown : (place : ℕ) (bytes : List ℕ) → kind_by_letter (get_or bytes 0 0) ≡ None → head_at place bytes ≡ Err (fault_at UnknownObject place)
unfolding head_at
head_unknown place [] e = refl
head_unknown place (letter ∷ digits) e = rw e refl

object_fault : (first : Part) (others : List Part) (x : LineFault) → object_in_parts first others ≡ Err x → ObjectFault first others x
unfolding object_in_parts head_at
object_fault first others x e = of_bytes first.bytes refl
  where
    rest : ObjectKind × ℤ → Result Object LineFault
    rest head = with_fields head.0 [] others nothing >>= λ content. Ok (object_of head.0 head.1 content)

    of_bytes : (bytes : List ℕ) → first.bytes ≡ bytes → ObjectFault first others x
    of_bytes [] is = let f : (head_at first.at [] >>= rest) ≡ Err x = ap (λ (b : List ℕ). head_at first.at b >>= rest) (sym is) ∙ e in inl (ap (λ (b : List ℕ). kind_by_letter (get_or b 0 0)) is, sym cc)
    of_bytes (letter ∷ digits) is =
        let f : (head_at first.at (letter ∷ digits) >>= rest) ≡ Err x = ap (λ (b : List ℕ). head_at first.at b >>= rest) (sym is) ∙ e in
        let begins : kind_by_letter (get_or first.bytes 0 0) ≡ kind_by_letter letter = ap (λ (b : List ℕ). kind_by_letter (get_or b 0 0)) is in
        elim (bind_err (head_at first.at (letter ∷ digits)) rest x f) [
          | inl bad ↦ elim (bind_err (or_fault UnknownObject first.at (kind_by_letter letter)) (λ kind. or_fault BadNumber first.at (id_spelled digits) >>= λ id. Ok (kind, id)) x bad) [
            | inl unknown ↦ let u = or_fault_err UnknownObject first.at (kind_by_letter letter) x unknown in inl (begins ∙ u.0, u.1)
            | inr known ↦
                let kind_is = or_fault_ok UnknownObject first.at (kind_by_letter letter) known.0 known.1 in
                elim (bind_err (or_fault BadNumber first.at (id_spelled digits)) (λ id. Ok (known.0, id)) x known.2) [
                  | inl number ↦ let n = or_fault_err BadNumber first.at (id_spelled digits) x number in inr (letter, digits, known.0, is, kind_is, inl (no_id digits n.0, n.1))
                  | inr none ↦ let g : ◌≡◌ {A = Result (ObjectKind × ℤ) LineFault} (Ok (known.0, none.0)) (Err x) = none.2 in absurd cc
                ]
          ]
          | inr good ↦
              let h = head_is first.at (letter ∷ digits) good.0 good.1 in
              let same_letter : letter ≡ h.0 = ap (λ (b : List ℕ). get_or b 0 0) h.2 in
              elim (bind_err (with_fields good.0.0 [] others nothing) (λ content. Ok (object_of good.0.0 good.0.1 content)) x good.2) [
                | inl bad ↦ inr (h.0, h.1, good.0.0, is ∙ h.2, h.3, inr (good.0.1, h.4, fault_is_first good.0.0 [] others nothing x bad))
                | inr none ↦ let g : ◌≡◌ {A = Result Object LineFault} (Ok (object_of good.0.0 good.0.1 none.0)) (Err x) = none.2 in absurd cc
              ]
        ]

fault_object : (first : Part) (others : List Part) (x : LineFault) → ObjectFault first others x → object_in_parts first others ≡ Err x
unfolding object_in_parts head_at
fault_object first others x (inl unknown) =
    ap (λ (r : Result (ObjectKind × ℤ) LineFault). r >>= λ head. with_fields head.0 [] others nothing >>= λ content. Ok (object_of head.0 head.1 content)) (head_unknown first.at first.bytes unknown.0) ∙ ap (λ (f : LineFault). Err f) (sym unknown.1)
fault_object first others x (inr f) =
    let letter = f.0 in
    let digits = f.1 in
    let kind = f.2 in
    ap (λ (b : List ℕ). head_at first.at b >>= λ head. with_fields head.0 [] others nothing >>= λ content. Ok (object_of head.0 head.1 content)) f.3
    ∙ elim f.5 [
      | inl number ↦ rw (f.4, id_none digits number.0) (ap (λ (y : LineFault). Err y) (sym number.1))
      | inr fields ↦ rw (f.4, is_id digits fields.0 fields.1, first_is_fault kind [] others nothing x fields.2) refl
    ]

-- ---- lines

kept_is : (line : List ℕ) (first : Part) (others : List Part) → fields_from 0 (without_cr line) ≡ first ∷ others → is_passed_over first ≡ false → IsKept line first others
kept_is line first others is passed =
    let p = or_parts (eqb (get_or first.bytes 0 0) 35) (eqb (get_or first.bytes 0 0) 99) passed in
    record { fields = subst (Parted 0 (without_cr line)) is (parted 0 (without_cr line)); comment = eqb-false _ _ p.0; changeset = eqb-false _ _ p.1 }

kept_read : (line : List ℕ) (first : Part) (others : List Part) → IsKept line first others → (b : Bool) → is_utf8 (without_cr line) ≡ b
    → reading line ≡ cond b (object_in_parts first others >>= λ o. Ok (Some o)) (no_reading NotUtf8 (utf8_valid_len (without_cr line)))
unfolding reading
kept_read line first others kept b utf8 =
    ap (reading_of (without_cr line)) (is_parted 0 (without_cr line) (first ∷ others) kept.fields)
    ∙ rw (ne_eqb (get_or first.bytes 0 0) 35 kept.comment, ne_eqb (get_or first.bytes 0 0) 99 kept.changeset, utf8) refl

fault_from : (line : List ℕ) (x : LineFault) (fields : List Part) → fields_from 0 (without_cr line) ≡ fields → reading_of (without_cr line) fields ≡ Err x → HasFault line x
fault_from line x [] is e = absurd cc
fault_from line x (first ∷ others) is e =
    let text = without_cr line in
    elim (cases_Bool (is_passed_over first)) [
      | inl passed ↦ let f : ◌≡◌ {A = Result (Option Object) LineFault} (Ok None) (Err x) = rw passed at e in absurd cc
      | inr not_passed ↦
          let e2 : cond (is_utf8 text) (object_in_parts first others >>= λ o. Ok (Some o)) (no_reading NotUtf8 (utf8_valid_len text)) ≡ Err x = rw not_passed at e in
          elim (cases_Bool (is_utf8 text)) [
            | inl utf8 ↦
                let e3 : (object_in_parts first others >>= λ o. Ok (Some o)) ≡ Err x = rw utf8 at e2 in
                elim (bind_err (object_in_parts first others) (λ o. Ok (Some o)) x e3) [
                  | inl bad ↦ record { first = first; others = others; kept = kept_is line first others is not_passed; why = inr (IsUtf8-from_is_utf8 text utf8, object_fault first others x bad) }
                  | inr none ↦ let g : ◌≡◌ {A = Result (Option Object) LineFault} (Ok (Some none.0)) (Err x) = none.2 in absurd cc
                ]
            | inr bad ↦
                let f : ◌≡◌ {A = Result (Option Object) LineFault} (no_reading NotUtf8 (utf8_valid_len text)) (Err x) = rw bad at e2 in
                record { first = first; others = others; kept = kept_is line first others is not_passed; why = inl (λ utf8. false≢true (sym bad ∙ is_utf8-from_IsUtf8 text utf8), sym cc) }
          ]
    ]

pub read_fault : (line : List ℕ) (x : LineFault) → reading line ≡ Err x → HasFault line x
unfolding reading
read_fault line x e = fault_from line x (fields_from 0 (without_cr line)) refl e

pub fault_read : (line : List ℕ) (x : LineFault) → HasFault line x → reading line ≡ Err x
fault_read line x h =
    let text = without_cr line in
    elim h.why [
      | inl bad ↦
          kept_read line h.first h.others h.kept false (false_from_ne_true (is_utf8 text) (λ t. bad.0 (IsUtf8-from_is_utf8 text t))) ∙ ap (λ (y : LineFault). Err y) (sym bad.1)
      | inr good ↦ kept_read line h.first h.others h.kept true (is_utf8-from_IsUtf8 text good.0) ∙ rw (fault_object h.first h.others x good.1) refl
    ]
