-- A line is read as the object that it spells, and the other way round.
use Rattle.std.proofs.Common.{◌≡◌, ◌≢◌, ℕ, ◌+◌, Bool, true, false, cond, eqb, ltb, leb, ◌&&◌, ◌||◌, List, [], ◌∷◌, length, get_or, Option, Some, None, Result, Ok, Err, ℤ, refl, sym, ap, subst, ◌∙◌, inl, inr, arith}
use Rattle.std.specs.List.{list_all, list_any}
use Rattle.std.specs.Str.{is_utf8}
use Rattle.std.specs.Str.Lossy.{utf8_valid_len}
use Rattle.std.proofs.lemmas.Str.{IsUtf8-from_is_utf8}
use Rattle.std.specs.Char.{is_ascii_digit}
use Rattle.std.proofs.lemmas.Bool.{cases_eq, cases_Bool, and_parts, ltb-true, leb-true, lt-ltb, le-leb, eqb-true, eqb-false, ne_eqb, eq-eqb, or_parts, or_cases, or_left, or_right}
use Rattle.std.proofs.lemmas.List.Elements.{All-nil, All-cons, All-head, All-tail}
use Rattle.std.proofs.lemmas.Option.{none-some}
use Rattle.opl_reader.specs.declared.fault.FaultKind.TheVariants.{NotUtf8, UnknownObject, UnknownField, RepeatedField, BadNumber, BadFlag, BadCoordinate}
use Rattle.opl_reader.specs.declared.fault.LineFault.{LineFault}
use Rattle.osm_elements.specs.declared.object.ObjectKind.{ObjectKind}
use Rattle.osm_elements.specs.declared.object.Object.{Object}
use Rattle.opl_reader.specs.declared.field.Meaning.{Meaning}
use Rattle.opl_reader.specs.declared.field.Meaning.TheVariants.{Count, Flag, Anything, Name, X, Y, Tagged, Referring, Having}
use Rattle.opl_reader.specs.declared.content.Content.{Content}
use Rattle.opl_reader.specs.Reading.{◌>>=◌, no_reading, or_fault}
use Rattle.opl_reader.specs.Parts.{Part, without_cr, Lacks, Parted}
use Rattle.opl_reader.specs.Numbers.{IsId, IsCount, IsNumber}
use Rattle.opl_reader.specs.Items.{first_of_each, kind_by_letter, IsTag, IsRef, IsMember}
use Rattle.opl_reader.specs.Fields.{letter_of, nothing, object_of, IsFlag, Tells, FieldTells, Told}
use Rattle.opl_reader.specs.NumberReading.{id_spelled, is_count, is_number}
use Rattle.opl_reader.specs.StringReading.{string_at}
use Rattle.opl_reader.specs.ItemReading.{items, each, tag_at, ref_at, member_at, tags_at, refs_at, members_at}
use Rattle.opl_reader.specs.CoordinateReading.{x_spelled, y_spelled}
use Rattle.opl_reader.specs.FieldReading.{flag_of, with_value, with_field, with_fields}
use Rattle.opl_reader.specs.LineReading.{head_at, object_in_parts, fields_from, is_passed_over, reading_of, reading}
use Rattle.opl_reader.specs.Spells.{Spells, IsPassedOver, IsAside}
use Rattle.opl_reader.specs.Steps.{begins_passed}
use Rattle.opl_reader.proofs.PartedLaws.{parted, is_parted}
use Rattle.opl_reader.proofs.DecimalLaws.{id_is, is_id, digits_are, are_digits}
use Rattle.opl_reader.proofs.CoordinateLaws.{x_is, is_x, y_is, is_y}
use Rattle.opl_reader.proofs.ReadingLemmas.{Begins, is_read}
use Rattle.opl_reader.proofs.ItemLaws.{bind_ok, or_fault_ok, string_ok, ok_string, items_are, are_items, tag_is, is_tag, ref_is, is_ref, member_is, is_member}

guard : {A : Type 0} (b : Bool) (x y : A) (f : LineFault) → cond b (Ok x) (Err f) ≡ Ok y → (b ≡ true) × (x ≡ y)
guard true x y f e = (refl, cc)
guard false x y f e = absurd cc

-- ---- values

count_is : (digits : List ℕ) → is_count digits ≡ true → IsCount digits
count_is digits h =
    let p = and_parts (ltb 0 (length digits) && leb (length digits) 19) (list_all is_ascii_digit digits) h in
    let q = and_parts (ltb 0 (length digits)) (leb (length digits) 19) p.0 in
    (digits_are digits p.1, ltb-true _ _ q.0, leb-true _ _ q.1)

is_count_from : (digits : List ℕ) → IsCount digits → is_count digits ≡ true
is_count_from digits h = rw (lt-ltb 0 (length digits) h.1, le-leb (length digits) 19 h.2) (are_digits digits h.0)

pub number_is : (bytes : List ℕ) → is_number bytes ≡ true → IsNumber bytes
unfolding is_number
number_is [] h = inl refl
number_is (b ∷ bytes) h =
    elim (cases_eq b 45) [
      | inl is ↦ inr (inr (bytes, ap (λ (x : ℕ). x ∷ bytes) is, count_is bytes (rw (eq-eqb b 45 is) at h)))
      | inr ne ↦ inr (inl (count_is (b ∷ bytes) (rw (ne_eqb b 45 ne) at h)))
    ]

pub is_number_from : (bytes : List ℕ) → IsNumber bytes → is_number bytes ≡ true
unfolding is_number
is_number_from bytes (inl none) = ap is_number none
is_number_from [] (inr (inl count)) = absurd (omega (arith, count.1))
is_number_from (b ∷ bytes) (inr (inl count)) =
    let digit = count.0 0 0 (omega arith) in let low = digit.0 in
    rw (ne_eqb b 45 (λ e. absurd (omega arith))) (is_count_from (b ∷ bytes) count)
is_number_from bytes (inr (inr signed)) = ap is_number signed.1 ∙ is_count_from signed.0 signed.2

pub flag_is : (bytes : List ℕ) (live : Bool) → flag_of bytes ≡ Some live → IsFlag bytes live
unfolding flag_of
flag_is [] live e = absurd cc
flag_is (b ∷ []) live e =
    elim (cases_eq b 86) [
      | inl is ↦ let f : ◌≡◌ {A = Option Bool} (Some true) (Some live) = rw (eq-eqb b 86 is) at e in inl (ap (λ (x : ℕ). x ∷ []) is, cc)
      | inr ne ↦ elim (cases_eq b 68) [
        | inl is ↦ let f : ◌≡◌ {A = Option Bool} (Some false) (Some live) = rw (ne_eqb b 86 ne, eq-eqb b 68 is) at e in inr (ap (λ (x : ℕ). x ∷ []) is, cc)
        | inr ne2 ↦ let f : ◌≡◌ {A = Option Bool} None (Some live) = rw (ne_eqb b 86 ne, ne_eqb b 68 ne2) at e in absurd cc
      ]
    ]
flag_is (b ∷ c ∷ bytes) live e = absurd cc

pub is_flag : (bytes : List ℕ) (live : Bool) → IsFlag bytes live → flag_of bytes ≡ Some live
unfolding flag_of
is_flag bytes live (inl v) = ap flag_of v.0 ∙ ap (λ (b : Bool). Some b) (sym v.1)
is_flag bytes live (inr d) = ap flag_of d.0 ∙ ap (λ (b : Bool). Some b) (sym d.1)

pub value_tells : (meaning : Meaning) (place : ℕ) (value : List ℕ) (c d : Content) → with_value meaning place value c ≡ Ok d → Tells meaning value c d
unfolding with_value tags_at refs_at members_at
value_tells Count place value c d e = let g = guard (is_number value) c d _ e in (number_is value g.0, g.1)
value_tells Flag place value c d e = let a = bind_ok (or_fault BadFlag place (flag_of value)) (λ live. Ok (record c { live = live })) d e in (a.0, flag_is value a.0 (or_fault_ok BadFlag place (flag_of value) a.0 a.1), cc (a.2))
value_tells Anything place value c d e = cc
value_tells Name place value c d e = let a = bind_ok (string_at place value) (λ name. Ok c) d e in (a.0, string_ok place value a.0 a.1, cc (a.2))
value_tells X place value c d e = let a = bind_ok (or_fault BadCoordinate place (x_spelled value)) (λ x. Ok (record c { x = x })) d e in (a.0, x_is value a.0 (or_fault_ok BadCoordinate place (x_spelled value) a.0 a.1), cc (a.2))
value_tells Y place value c d e = let a = bind_ok (or_fault BadCoordinate place (y_spelled value)) (λ y. Ok (record c { y = y })) d e in (a.0, y_is value a.0 (or_fault_ok BadCoordinate place (y_spelled value) a.0 a.1), cc (a.2))
value_tells Tagged place value c d e =
    let a = bind_ok (tags_at (place + 1) value) (λ tags. Ok (record c { tags = tags })) d e in
    let b = bind_ok (each tag_at (items (place + 1) value)) (λ tags. Ok (first_of_each tags)) a.0 a.1 in
    let same : first_of_each b.0 ≡ a.0 = cc (b.2) in
    (b.0, items_are tag_at IsTag tag_is (place + 1) value b.0 b.1, ap (λ tags. record c { tags = tags }) same ∙ cc (a.2))
value_tells Referring place value c d e = let a = bind_ok (refs_at (place + 1) value) (λ refs. Ok (record c { refs = refs })) d e in (a.0, items_are ref_at IsRef ref_is (place + 1) value a.0 a.1, cc (a.2))
value_tells Having place value c d e = let a = bind_ok (members_at (place + 1) value) (λ members. Ok (record c { members = members })) d e in (a.0, items_are member_at IsMember member_is (place + 1) value a.0 a.1, cc (a.2))

abbrev ok : Content → Result Content LineFault
ok c = Ok c

pub tells_value : (meaning : Meaning) (place : ℕ) (value : List ℕ) (c d : Content) → Tells meaning value c d → with_value meaning place value c ≡ Ok d
unfolding with_value tags_at refs_at members_at
tells_value Count place value c d t = rw (is_number_from value t.0) (ap ok t.1)
tells_value Flag place value c d t = rw (is_flag value t.0 t.1) (ap ok t.2)
tells_value Anything place value c d t = ap ok t
tells_value Name place value c d t = rw (ok_string place value t.0 t.1) (ap ok t.2)
tells_value X place value c d t = rw (is_x value t.0 t.1) (ap ok t.2)
tells_value Y place value c d t = rw (is_y value t.0 t.1) (ap ok t.2)
tells_value Tagged place value c d t = rw (are_items tag_at IsTag is_tag (place + 1) value t.0 t.1) (ap ok t.2)
tells_value Referring place value c d t = rw (are_items ref_at IsRef is_ref (place + 1) value t.0 t.1) (ap ok t.2)
tells_value Having place value c d t = rw (are_items member_at IsMember is_member (place + 1) value t.0 t.1) (ap ok t.2)

-- ---- fields

guard_not : {A : Type 0} (b : Bool) (f : LineFault) (r : Result A LineFault) (y : A) → cond b (Err f) r ≡ Ok y → (b ≡ false) × (r ≡ Ok y)
guard_not true f r y e = absurd cc
guard_not false f r y e = (refl, e)

pub lacks_is : (letter : ℕ) (seen : List ℕ) → list_any (λ s. eqb s letter) seen ≡ false → Lacks letter seen
lacks_is letter [] h = All-nil (λ x. x ≢ letter)
lacks_is letter (s ∷ seen) h =
    let p = or_parts (eqb s letter) (list_any (λ q. eqb q letter) seen) h in
    All-cons (λ x. x ≢ letter) s seen (eqb-false s letter p.0) (lacks_is letter seen p.1)

pub is_lacks : (letter : ℕ) (seen : List ℕ) → Lacks letter seen → list_any (λ s. eqb s letter) seen ≡ false
is_lacks letter [] h = refl
is_lacks letter (s ∷ seen) h = rw (ne_eqb s letter (All-head (λ x. x ≢ letter) s seen h)) (is_lacks letter seen (All-tail (λ x. x ≢ letter) s seen h))

pub field_tells : (kind : ObjectKind) (seen : List ℕ) (place : ℕ) (field : List ℕ) (c d : Content) → with_field kind seen place field c ≡ Ok d → FieldTells kind seen field c d
unfolding with_field
field_tells kind seen place [] c d e = absurd cc
field_tells kind seen place (letter ∷ value) c d e =
    let a = bind_ok (or_fault UnknownField place (letter_of kind letter)) (λ m. cond (list_any (λ s. eqb s letter) seen) (no_reading RepeatedField place) (with_value m place value c)) d e in
    let g = guard_not (list_any (λ s. eqb s letter) seen) (record { kind = RepeatedField; place = place }) (with_value a.0 place value c) d a.2 in
    (a.0, or_fault_ok UnknownField place (letter_of kind letter) a.0 a.1, lacks_is letter seen g.0, value_tells a.0 place value c d g.1)

pub tells_field : (kind : ObjectKind) (seen : List ℕ) (place : ℕ) (field : List ℕ) (c d : Content) → FieldTells kind seen field c d → with_field kind seen place field c ≡ Ok d
unfolding with_field
tells_field kind seen place [] c d t = absurd t
tells_field kind seen place (letter ∷ value) c d t = rw (t.1, is_lacks letter seen t.2) (tells_value t.0 place value c d t.3)

pub fields_told : (kind : ObjectKind) (seen : List ℕ) (fields : List Part) (c d : Content) → with_fields kind seen fields c ≡ Ok d → Told kind seen fields c d
unfolding with_fields
fields_told kind seen [] c d e = cc
fields_told kind seen (f ∷ fields) c d e =
    let a = bind_ok (with_field kind seen f.at f.bytes c) (with_fields kind (get_or f.bytes 0 0 ∷ seen) fields) d e in
    (a.0, field_tells kind seen f.at f.bytes c a.0 a.1, fields_told kind (get_or f.bytes 0 0 ∷ seen) fields a.0 d a.2)

pub told_fields : (kind : ObjectKind) (seen : List ℕ) (fields : List Part) (c d : Content) → Told kind seen fields c d → with_fields kind seen fields c ≡ Ok d
unfolding with_fields
told_fields kind seen [] c d t = ap ok t
told_fields kind seen (f ∷ fields) c d t = rw (tells_field kind seen f.at f.bytes c t.0 t.1) (told_fields kind (get_or f.bytes 0 0 ∷ seen) fields t.0 d t.2)

-- ---- lines

pub head_is : (place : ℕ) (bytes : List ℕ) (head : ObjectKind × ℤ) → head_at place bytes ≡ Ok head → (letter : ℕ) × (digits : List ℕ) × (bytes ≡ letter ∷ digits) × (kind_by_letter letter ≡ Some head.0) × IsId digits head.1
unfolding head_at
head_is place [] head e = absurd cc
head_is place (letter ∷ digits) head e =
    let a = bind_ok (or_fault UnknownObject place (kind_by_letter letter)) (λ kind. or_fault BadNumber place (id_spelled digits) >>= λ id. Ok (kind, id)) head e in
    let b = bind_ok (or_fault BadNumber place (id_spelled digits)) (λ id. Ok (a.0, id)) head a.2 in
    let same : (a.0, b.0) ≡ head = cc (b.2) in
    (letter, digits, refl, or_fault_ok UnknownObject place (kind_by_letter letter) a.0 a.1 ∙ ap (λ (h : ObjectKind × ℤ). Some h.0) same, subst (λ (h : ObjectKind × ℤ). IsId digits h.1) same (id_is digits b.0 (or_fault_ok BadNumber place (id_spelled digits) b.0 b.1)))

spells_from : (line : List ℕ) (o : Object) (fields : List Part) → fields_from 0 (without_cr line) ≡ fields → reading_of (without_cr line) fields ≡ Ok (Some o) → Spells line o
unfolding object_in_parts
spells_from line o [] is e = absurd cc
spells_from line o (first ∷ others) is e =
    let text = without_cr line in
    elim (cases_Bool (is_passed_over first)) [
      | inl passed ↦ let f : ◌≡◌ {A = Result (Option Object) LineFault} (Ok None) (Ok (Some o)) = rw passed at e in absurd cc
      | inr not_passed ↦
          let e2 : cond (is_utf8 text) (object_in_parts first others >>= λ x. Ok (Some x)) (no_reading NotUtf8 (utf8_valid_len text)) ≡ Ok (Some o) = rw not_passed at e in
          elim (cases_Bool (is_utf8 text)) [
            | inl utf8 ↦
                let e3 : (object_in_parts first others >>= λ x. Ok (Some x)) ≡ Ok (Some o) = rw utf8 at e2 in
                let a = bind_ok (object_in_parts first others) (λ x. Ok (Some x)) (Some o) e3 in
                let b = bind_ok (head_at first.at first.bytes) (λ head. with_fields head.0 [] others nothing >>= λ content. Ok (object_of head.0 head.1 content)) a.0 a.1 in
                let c = bind_ok (with_fields b.0.0 [] others nothing) (λ content. Ok (object_of b.0.0 b.0.1 content)) a.0 b.2 in
                let h = head_is first.at first.bytes b.0 b.1 in
                let object_is : object_of b.0.0 b.0.1 c.0 ≡ a.0 = cc (c.2) in
                let same : a.0 ≡ o = cc (a.2) in
                record {
                  place = first.at;
                  letter = h.0;
                  digits = h.1;
                  others = others;
                  kind = b.0.0;
                  id = b.0.1;
                  content = c.0;
                  utf8 = IsUtf8-from_is_utf8 text utf8;
                  fields = subst (Parted 0 text) (is ∙ ap (λ (bytes : List ℕ). record { at = first.at; bytes = bytes } ∷ others) h.2) (parted 0 text);
                  kind_is = h.3;
                  id_is = h.4;
                  told = fields_told b.0.0 [] others nothing c.0 c.1;
                  is = object_is ∙ same;
                }
            | inr bad ↦ let f : ◌≡◌ {A = Result (Option Object) LineFault} (no_reading NotUtf8 (utf8_valid_len text)) (Ok (Some o)) = rw bad at e2 in absurd cc
          ]
    ]

pub read_spells : (line : List ℕ) (o : Object) → reading line ≡ Ok (Some o) → Spells line o
unfolding reading
read_spells line o e = spells_from line o (fields_from 0 (without_cr line)) refl e

object_letter : (letter : ℕ) (kind : ObjectKind) → kind_by_letter letter ≡ Some kind → (eqb letter 35 || eqb letter 99) ≡ false
object_letter letter kind e = rw (ne_eqb letter 35 (λ is. none-some kind (ap kind_by_letter (sym is) ∙ e)), ne_eqb letter 99 (λ is. none-some kind (ap kind_by_letter (sym is) ∙ e))) refl

pub spells_read : (line : List ℕ) (o : Object) → Spells line o → reading line ≡ Ok (Some o)
unfolding head_at
spells_read line o s =
    let first : Part = record { at = s.place; bytes = s.letter ∷ s.digits } in
    let head : head_at s.place (s.letter ∷ s.digits) ≡ Ok (s.kind, s.id) = rw (s.kind_is, is_id s.digits s.id s.id_is) refl in
    let fields : fields_from 0 (without_cr line) ≡ first ∷ s.others = is_parted 0 (without_cr line) (first ∷ s.others) s.fields in
    let b : Begins line (without_cr line) s.place (s.letter ∷ s.digits) s.others = record { is = refl; utf8 = s.utf8; passed = ap begins_passed fields ∙ object_letter s.letter s.kind s.kind_is; fields = fields } in
    is_read line (without_cr line) s.place (s.letter ∷ s.digits) s.others s.kind s.id s.content b head (told_fields s.kind [] s.others nothing s.content s.told) ∙ ap (λ (x : Object). Ok (Some x)) s.is

-- ---- passed over

no_object : (r : Result Object LineFault) → (r >>= λ x. Ok (Some x)) ≡ Ok None → ⊥
no_object (Ok x) e = cc
no_object (Err f) e = cc

passed_from : (line : List ℕ) (fields : List Part) → fields_from 0 (without_cr line) ≡ fields → reading_of (without_cr line) fields ≡ Ok None → IsPassedOver line
passed_from line [] is e = inl (subst (Parted 0 (without_cr line)) is (parted 0 (without_cr line)))
passed_from line (first ∷ others) is e =
    let text = without_cr line in
    elim (cases_Bool (is_passed_over first)) [
      | inl passed ↦ inr (begun first.bytes refl passed)
      | inr not_passed ↦
          let e2 : cond (is_utf8 text) (object_in_parts first others >>= λ x. Ok (Some x)) (no_reading NotUtf8 (utf8_valid_len text)) ≡ Ok None = rw not_passed at e in
          elim (cases_Bool (is_utf8 text)) [
            | inl utf8 ↦ absurd (no_object (object_in_parts first others) (rw utf8 at e2))
            | inr bad ↦ let f : ◌≡◌ {A = Result (Option Object) LineFault} (no_reading NotUtf8 (utf8_valid_len text)) (Ok None) = rw bad at e2 in absurd cc
          ]
    ]
  where
    begun : (bytes : List ℕ) → first.bytes ≡ bytes → (eqb (get_or bytes 0 0) 35 || eqb (get_or bytes 0 0) 99) ≡ true → IsAside line
    begun [] b passed = absurd cc
    begun (letter ∷ rest) b passed = record {
      place = first.at;
      letter = letter;
      rest = rest;
      others = others;
      fields = subst (Parted 0 (without_cr line)) (is ∙ ap (λ (bytes : List ℕ). record { at = first.at; bytes = bytes } ∷ others) b) (parted 0 (without_cr line));
      passed = elim (or_cases (eqb letter 35) (eqb letter 99) passed) [ inl p ↦ inl (eqb-true _ _ p) | inr p ↦ inr (eqb-true _ _ p) ];
    }

pub read_passed : (line : List ℕ) → reading line ≡ Ok None → IsPassedOver line
unfolding reading
read_passed line e = passed_from line (fields_from 0 (without_cr line)) refl e

pub passed_read : (line : List ℕ) → IsPassedOver line → reading line ≡ Ok None
unfolding reading
passed_read line (inl none) = ap (reading_of (without_cr line)) (is_parted 0 (without_cr line) [] none)
passed_read line (inr p) =
    let first : Part = record { at = p.place; bytes = p.letter ∷ p.rest } in
    let passed : is_passed_over first ≡ true = elim p.passed [ inl is ↦ or_left (eqb p.letter 35) (eqb p.letter 99) (eq-eqb _ _ is) | inr is ↦ or_right (eqb p.letter 35) (eqb p.letter 99) (eq-eqb _ _ is) ] in
    ap (reading_of (without_cr line)) (is_parted 0 (without_cr line) (first ∷ p.others) p.fields) ∙ rw passed refl
