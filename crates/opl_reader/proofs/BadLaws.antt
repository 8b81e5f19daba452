-- A field has a fault exactly where its letter or its value is bad.
use Rattle.std.proofs.Common.{◌≡◌, ℕ, ◌+◌, Bool, true, cond, eqb, List, [], ◌∷◌, ◌++◌, ◌⊎◌, length, Option, Some, None, Result, Ok, Err, ℤ, refl, sym, ap, ◌∙◌, inl, inr, arith}
use Rattle.std.specs.Prelude.{sum_by}
use Rattle.std.specs.List.{slice_split, list_any}
use Rattle.std.proofs.lemmas.Bool.{cases_eq, cases_Bool, eq-eqb, ne_eqb, false_from_ne_true, false≢true}
use Rattle.std.proofs.lemmas.List.Sums.{sum_by-cons}
use Rattle.std.proofs.lemmas.Option.{none-some}
use Rattle.opl_reader.specs.declared.fault.FaultKind.{FaultKind}
use Rattle.opl_reader.specs.declared.fault.FaultKind.TheVariants.{UnknownField, RepeatedField, BadNumber, BadFlag, BadCoordinate, BadEscape, BadTag, BadReference, BadMember}
use Rattle.opl_reader.specs.declared.fault.LineFault.{LineFault}
use Rattle.osm_elements.specs.declared.object.Tag.{Tag}
use Rattle.osm_elements.specs.declared.object.Member.{Member}
use Rattle.osm_elements.specs.declared.object.ObjectKind.{ObjectKind}
use Rattle.osm_elements.specs.declared.object.ObjectKind.TheVariants.{Node, Way, Relation}
use Rattle.opl_reader.specs.declared.field.Meaning.{Meaning}
use Rattle.opl_reader.specs.declared.field.Meaning.TheVariants.{Count, Flag, Anything, Name, X, Y, Tagged, Referring, Having}
use Rattle.opl_reader.specs.declared.content.Content.{Content}
use Rattle.opl_reader.specs.Reading.{◌>>=◌, or_fault, no_reading}
use Rattle.opl_reader.specs.Parts.{part, Lacks}
use Rattle.opl_reader.specs.Strings.{IsString}
use Rattle.opl_reader.specs.Items.{Each, IsTag, IsRef, HasTarget, IsMember, first_of_each}
use Rattle.opl_reader.specs.Coordinates.{IsX, IsY}
use Rattle.opl_reader.specs.Fields.{letter_of, IsFlag}
use Rattle.opl_reader.specs.NumberReading.{is_number}
use Rattle.opl_reader.specs.StringReading.{string_of, string_at}
use Rattle.opl_reader.specs.ItemReading.{placed, is_comma, items, each, halves, tag_at, tags_at, ref_spelled, ref_at, refs_at, target_of, member_at, members_at}
use Rattle.opl_reader.specs.CoordinateReading.{x_spelled, y_spelled}
use Rattle.opl_reader.specs.FieldReading.{flag_of, with_value, with_field}
use Rattle.opl_reader.specs.Faults.{fault_at, IsBadString, IsBadTag, IsBadRef, IsBadMember, FirstBad, HasBadItem, BadValue, BadField}
use Rattle.opl_reader.proofs.PartedLaws.{commas, are_commas}
use Rattle.opl_reader.proofs.SpellingLaws.{read_is_spelled, spelled_is_read}
use Rattle.opl_reader.proofs.ItemLaws.{or_fault_ok, none_of, halves_none, none_halves, halves_are, are_halves, tag_is, is_tag, ref_is, is_ref, member_is, is_member, target_is, is_target}
use Rattle.opl_reader.proofs.CoordinateLaws.{x_is, is_x, y_is, is_y}
use Rattle.opl_reader.proofs.LineLaws.{number_is, is_number_from, flag_is, is_flag, lacks_is, is_lacks}

pub bind_err : {A B : Type 0} (r : Result A LineFault) (g : A → Result B LineFault) (x : LineFault) → (r >>= g) ≡ Err x → (r ≡ Err x) ⊎ ((y : A) × (r ≡ Ok y) × (g y ≡ Err x))
bind_err (Ok y) g x e = inr (y, refl, e)
bind_err (Err f) g x e = inl (cc)

pub or_fault_err : {A : Type 0} (kind : FaultKind) (place : ℕ) (o : Option A) (x : LineFault) → or_fault kind place o ≡ Err x → (o ≡ None) × (x ≡ fault_at kind place)
or_fault_err kind place None x e = (refl, sym cc)
or_fault_err kind place (Some y) x e = absurd cc

-- a value that isn't there is spelled by nothing
never : {A : Type 0} (P : A → Type 0) (o : Option A) → ((x : A) → P x → o ≡ Some x) → o ≡ None → (x : A) → ¬ P x
never P o all none x p = none-some x (sym none ∙ all x p)

ok_err : {A : Type 0} (y : A) (x : LineFault) → ◌≡◌ {A = Result A LineFault} (Ok y) (Err x) → ⊥
ok_err y x e = absurd cc

-- ---- strings

string_bad : (place : ℕ) (bytes : List ℕ) (x : LineFault) → string_at place bytes ≡ Err x → IsBadString bytes × (x ≡ fault_at BadEscape place)
unfolding string_at
string_bad place bytes x e =
    let f = or_fault_err BadEscape place (string_of bytes) x e in
    (never (IsString bytes) (string_of bytes) (spelled_is_read bytes) f.0, f.1)

bad_string : (place : ℕ) (bytes : List ℕ) → IsBadString bytes → string_at place bytes ≡ Err (fault_at BadEscape place)
unfolding string_at
bad_string place bytes bad = ap (or_fault BadEscape place) (none_of (string_of bytes) (λ text e. bad text (read_is_spelled bytes text e)))

-- ---- one item

-- a reader's faults of an item that begins at a byte are those of the bad items
record Tells {A : Type 0} (read : ℕ → List ℕ → Result A LineFault) (bad : FaultKind → List ℕ → Type 0) : Type 0 where
  there : (at : ℕ) (bytes : List ℕ) (x : LineFault) → read at bytes ≡ Err x → bad x.kind bytes × (x.place ≡ at)
  back : (at : ℕ) (bytes : List ℕ) (kind : FaultKind) → bad kind bytes → read at bytes ≡ Err (fault_at kind at)

both : (x : LineFault) (kind : FaultKind) (at : ℕ) → x ≡ fault_at kind at → (x.kind ≡ kind) × (x.place ≡ at)
both x kind at e = (ap (λ (f : LineFault). f.kind) e, ap (λ (f : LineFault). f.place) e)

tag_bad : (at : ℕ) (bytes : List ℕ) (x : LineFault) → tag_at at bytes ≡ Err x → IsBadTag x.kind bytes × (x.place ≡ at)
unfolding tag_at
tag_bad at bytes x e =
    elim (bind_err (or_fault BadTag at (halves 61 bytes)) (λ parts. string_at at parts.0 >>= λ key. string_at at parts.1 >>= λ value. Ok (record { key = key; value = value })) x e) [
      | inl none ↦ let f = or_fault_err BadTag at (halves 61 bytes) x none in let s = both x BadTag at f.1 in (inl (halves_none 61 bytes f.0, s.0), s.1)
      | inr some ↦
          let parts = some.0 in
          let h = halves_are 61 bytes parts (or_fault_ok BadTag at (halves 61 bytes) parts some.1) in
          elim (bind_err (string_at at parts.0) (λ key. string_at at parts.1 >>= λ value. Ok (record { key = key; value = value })) x some.2) [
            | inl key ↦ let f = string_bad at parts.0 x key in let s = both x BadEscape at f.1 in (inr (parts.0, parts.1, h.0, h.1, inl f.0, s.0), s.1)
            | inr good ↦ elim (bind_err (string_at at parts.1) (λ value. Ok (record { key = good.0; value = value })) x good.2) [
              | inl value ↦ let f = string_bad at parts.1 x value in let s = both x BadEscape at f.1 in (inr (parts.0, parts.1, h.0, h.1, inr f.0, s.0), s.1)
              | inr none ↦ absurd (ok_err _ x none.2)
            ]
          ]
    ]

either_string : {A : Type 0} (at : ℕ) (a b : List ℕ) (g : List ℕ → List ℕ → Result A LineFault) → (IsBadString a ⊎ IsBadString b) → (string_at at a >>= λ s. string_at at b >>= g s) ≡ Err (fault_at BadEscape at)
either_string at a b g (inl bad) = rw (bad_string at a bad) refl
either_string at a b g (inr bad) = first (string_at at a) refl
  where
    first : (r : Result (List ℕ) LineFault) → string_at at a ≡ r → (r >>= λ s. string_at at b >>= g s) ≡ Err (fault_at BadEscape at)
    first (Ok s) e = rw (bad_string at b bad) refl
    first (Err x) e = ap (λ (y : LineFault). Err y) (string_bad at a x e).1

bad_tag : (at : ℕ) (bytes : List ℕ) (kind : FaultKind) → IsBadTag kind bytes → tag_at at bytes ≡ Err (fault_at kind at)
unfolding tag_at
bad_tag at bytes kind (inl bad) = rw (none_halves 61 bytes bad.0) (ap (λ (k : FaultKind). Err (fault_at k at)) (sym bad.1))
bad_tag at bytes kind (inr bad) =
    let key = bad.0 in
    let value = bad.1 in
    let cut : halves 61 bytes ≡ Some (key, value) = ap (halves 61) bad.2 ∙ are_halves 61 key value bad.3 in
    let made : List ℕ → List ℕ → Result Tag LineFault = λ k v. Ok (record { key = k; value = v }) in
    rw cut (either_string at key value made bad.4 ∙ ap (λ (k : FaultKind). Err (fault_at k at)) (sym bad.5))

tags_tell : Tells tag_at IsBadTag
tags_tell = record { there = tag_bad; back = bad_tag }

ref_bad : (at : ℕ) (bytes : List ℕ) (x : LineFault) → ref_at at bytes ≡ Err x → IsBadRef x.kind bytes × (x.place ≡ at)
unfolding ref_at
ref_bad at bytes x e =
    let f = or_fault_err BadReference at (ref_spelled bytes) x e in
    let s = both x BadReference at f.1 in
    ((λ id is. ok_err id x (sym (is_ref at bytes id is) ∙ e), s.0), s.1)

bad_ref : (at : ℕ) (bytes : List ℕ) (kind : FaultKind) → IsBadRef kind bytes → ref_at at bytes ≡ Err (fault_at kind at)
unfolding ref_at
bad_ref at bytes kind bad =
    ap (or_fault BadReference at) (none_of (ref_spelled bytes) (λ id e. bad.0 id (ref_is at bytes id (ap (or_fault BadReference at) e)))) ∙ ap (λ (k : FaultKind). Err (fault_at k at)) (sym bad.1)

refs_tell : Tells ref_at IsBadRef
refs_tell = record { there = ref_bad; back = bad_ref }

some_same : {A : Type 0} (o : Option A) (x y : A) → o ≡ Some x → o ≡ Some y → x ≡ y
some_same None x y e f = absurd cc
some_same (Some z) x y e f = cc

member_bad : (at : ℕ) (bytes : List ℕ) (x : LineFault) → member_at at bytes ≡ Err x → IsBadMember x.kind bytes × (x.place ≡ at)
unfolding member_at
member_bad at bytes x e =
    elim (bind_err (or_fault BadMember at (halves 64 bytes)) (λ parts. or_fault BadMember at (target_of parts.0) >>= λ target. string_at at parts.1 >>= λ role. Ok (record { kind = target.0; id = target.1; role = role })) x e) [
      | inl none ↦
          let f = or_fault_err BadMember at (halves 64 bytes) x none in
          let s = both x BadMember at f.1 in
          (inl (λ role k id h. none-some _ (sym f.0 ∙ (is_target bytes role k id h).1), s.0), s.1)
      | inr some ↦
          let parts = some.0 in
          let cut : halves 64 bytes ≡ Some parts = or_fault_ok BadMember at (halves 64 bytes) parts some.1 in
          let h = halves_are 64 bytes parts cut in
          elim (bind_err (or_fault BadMember at (target_of parts.0)) (λ target. string_at at parts.1 >>= λ role. Ok (record { kind = target.0; id = target.1; role = role })) x some.2) [
            | inl none ↦
                let f = or_fault_err BadMember at (target_of parts.0) x none in
                let s = both x BadMember at f.1 in (
                  inl (
                    λ role k id t.
                        let is = is_target bytes role k id t in
                        let same : is.0 ≡ parts.0 = ap (λ (q : List ℕ × List ℕ). q.0) (some_same (halves 64 bytes) (is.0, role) parts is.1 cut) in
                        none-some (k, id) (sym f.0 ∙ ap target_of (sym same) ∙ is.2),
                    s.0,
                  ),
                  s.1,
                )
            | inr good ↦ elim (bind_err (string_at at parts.1) (λ role. Ok (record { kind = good.0.0; id = good.0.1; role = role })) x good.2) [
              | inl role ↦
                  let f = string_bad at parts.1 x role in
                  let s = both x BadEscape at f.1 in
                  (inr (parts.1, good.0.0, good.0.1, target_is bytes parts.0 parts.1 good.0.0 good.0.1 h.0 h.1 (or_fault_ok BadMember at (target_of parts.0) good.0 good.1), f.0, s.0), s.1)
              | inr none ↦ absurd (ok_err _ x none.2)
            ]
          ]
    ]

no_target : (bytes : List ℕ) → ((role : List ℕ) (k : ObjectKind) (id : ℤ) → ¬ HasTarget bytes role k id) → (parts : List ℕ × List ℕ) → halves 64 bytes ≡ Some parts → target_of parts.0 ≡ None
no_target bytes none parts cut =
    let h = halves_are 64 bytes parts cut in
    none_of (target_of parts.0) (λ t e. none parts.1 t.0 t.1 (target_is bytes parts.0 parts.1 t.0 t.1 h.0 h.1 e))

abbrev member_from : ℕ → Option (List ℕ × List ℕ) → Result Member LineFault
member_from at o = or_fault BadMember at o >>= λ parts. or_fault BadMember at (target_of parts.0) >>= λ target. string_at at parts.1 >>= λ role. Ok (record { kind = target.0; id = target.1; role = role })

without_target : (at : ℕ) (bytes : List ℕ) → ((role : List ℕ) (k : ObjectKind) (id : ℤ) → ¬ HasTarget bytes role k id) → (o : Option (List ℕ × List ℕ)) → halves 64 bytes ≡ o → member_from at o ≡ Err (fault_at BadMember at)
without_target at bytes none None e = refl
without_target at bytes none (Some parts) e = rw (no_target bytes none parts e) refl

bad_member : (at : ℕ) (bytes : List ℕ) (kind : FaultKind) → IsBadMember kind bytes → member_at at bytes ≡ Err (fault_at kind at)
unfolding member_at
bad_member at bytes kind (inl bad) = without_target at bytes bad.0 (halves 64 bytes) refl ∙ ap (λ (k : FaultKind). Err (fault_at k at)) (sym bad.1)
bad_member at bytes kind (inr bad) =
    let t = is_target bytes bad.0 bad.1 bad.2 bad.3 in
    rw (t.1, t.2, bad_string at bad.0 bad.4) (ap (λ (k : FaultKind). Err (fault_at k at)) (sym bad.5))

members_tell : Tells member_at IsBadMember
members_tell = record { there = member_bad; back = bad_member }

-- ---- items

module _ {A : Type 0} (read : ℕ → List ℕ → Result A LineFault) (spells : List ℕ → A → Type 0) (bad : FaultKind → List ℕ → Type 0) (tells : Tells read bad) where
  each_bad : ((at : ℕ) (bytes : List ℕ) (y : A) → read at bytes ≡ Ok y → spells bytes y) → (at : ℕ) (parts : List (List ℕ)) (x : LineFault) → each read (placed at parts) ≡ Err x → FirstBad spells bad at parts x
  each_bad one at [] x e = absurd cc
  each_bad one at (item ∷ parts) x e =
      elim (bind_err (read at item) (λ y. each read (placed (at + length item + 1) parts) >>= λ ys. Ok (y ∷ ys)) x e) [
        | inl here ↦
            let t = tells.there at item x here in
            let place : x.place ≡ at = t.1 in
            record { before = []; item = item; after = parts; read = []; parts_are = refl; spelled = tt; is_bad = t.0; place_is = omega arith }
        | inr on ↦ elim (bind_err (each read (placed (at + length item + 1) parts)) (λ ys. Ok (on.0 ∷ ys)) x on.2) [
          | inl later ↦
              let f = each_bad one (at + length item + 1) parts x later in
              let place : x.place ≡ at + length item + 1 + sum_by (λ b. length b + 1) f.before = f.place_is in
              record {
                before = item ∷ f.before;
                item = f.item;
                after = f.after;
                read = on.0 ∷ f.read;
                parts_are = ap (λ (ps : List (List ℕ)). item ∷ ps) f.parts_are;
                spelled = (one at item on.0 on.1, f.spelled);
                is_bad = f.is_bad;
                place_is = let sum = sum_by-cons (λ (b : List ℕ). length b + 1) item f.before in omega (arith, sum);
              }
          | inr none ↦ absurd (ok_err _ x none.2)
        ]
      ]

  bad_each : ((at : ℕ) (bytes : List ℕ) (y : A) → spells bytes y → read at bytes ≡ Ok y) → (at : ℕ) (before : List (List ℕ)) (item : List ℕ) (after : List (List ℕ)) (ys : List A) (x : LineFault)
      → Each spells before ys → bad x.kind item → x.place ≡ at + sum_by (λ b. length b + 1) before → each read (placed at (before ++ item ∷ after)) ≡ Err x
  bad_each other at [] item after [] x s is place = rw (tells.back at item x.kind is) (let q : at ≡ x.place = omega (arith, place) in ap (λ (n : ℕ). Err (fault_at x.kind n)) q)
  bad_each other at [] item after (y ∷ ys) x s is place = absurd s
  bad_each other at (b ∷ before) item after [] x s is place = absurd s
  bad_each other at (b ∷ before) item after (y ∷ ys) x s is place = rw (other at b y s.0, bad_each other (at + length b + 1) before item after ys x s.1 is (let sum = sum_by-cons (λ (c : List ℕ). length c + 1) b before in omega (arith, place, sum))) refl

  items_bad : ((at : ℕ) (bytes : List ℕ) (y : A) → read at bytes ≡ Ok y → spells bytes y) → (place : ℕ) (bytes : List ℕ) (x : LineFault) → each read (items place bytes) ≡ Err x → HasBadItem spells bad place bytes x
  unfolding items
  items_bad one place bytes x e =
      elim (cases_eq (length bytes) 0) [
        | inl none ↦ let f : ◌≡◌ {A = Result (List A) LineFault} (Ok []) (Err x) = rw (eq-eqb (length bytes) 0 none) at e in absurd cc
        | inr some ↦
            let f : each read (placed place (slice_split is_comma bytes)) ≡ Err x = rw (ne_eqb (length bytes) 0 some) at e in
            record { some = omega arith; parts = slice_split is_comma bytes; parted = commas bytes; first = each_bad one place (slice_split is_comma bytes) x f }
      ]

  bad_items : ((at : ℕ) (bytes : List ℕ) (y : A) → spells bytes y → read at bytes ≡ Ok y) → (place : ℕ) (bytes : List ℕ) (x : LineFault) → HasBadItem spells bad place bytes x → each read (items place bytes) ≡ Err x
  unfolding items
  bad_items other place bytes x h =
      let some = h.some in
      let f = h.first in
      rw (ne_eqb (length bytes) 0 (λ e. absurd (omega arith)), are_commas bytes h.parts h.parted)
      (ap (λ (ps : List (List ℕ)). each read (placed place ps)) f.parts_are ∙ bad_each other place f.before f.item f.after f.read x f.spelled f.is_bad f.place_is)

-- ---- values

abbrev err : LineFault → Result Content LineFault
err x = Err x

value_bad : (meaning : Meaning) (place : ℕ) (value : List ℕ) (c : Content) (x : LineFault) → with_value meaning place value c ≡ Err x → BadValue meaning place value x
unfolding with_value tags_at refs_at members_at
value_bad Count place value c x e =
    elim (cases_Bool (is_number value)) [
      | inl is ↦ let f : ◌≡◌ {A = Result Content LineFault} (Ok c) (Err x) = rw is at e in absurd cc
      | inr bad ↦ let f : err (fault_at BadNumber place) ≡ Err x = rw bad at e in ((λ is. false≢true (sym bad ∙ is_number_from value is)), sym cc)
    ]
value_bad Flag place value c x e =
    elim (bind_err (or_fault BadFlag place (flag_of value)) (λ live. Ok (record c { live = live })) x e) [
      | inl none ↦ let f = or_fault_err BadFlag place (flag_of value) x none in (never (IsFlag value) (flag_of value) (is_flag value) f.0, f.1)
      | inr some ↦ absurd (ok_err _ x some.2)
    ]
value_bad Anything place value c x e = absurd cc
value_bad Name place value c x e =
    elim (bind_err (string_at place value) (λ name. Ok c) x e) [
      | inl none ↦ string_bad place value x none
      | inr some ↦ absurd (ok_err _ x some.2)
    ]
value_bad X place value c x e =
    elim (bind_err (or_fault BadCoordinate place (x_spelled value)) (λ l. Ok (record c { x = l })) x e) [
      | inl none ↦ let f = or_fault_err BadCoordinate place (x_spelled value) x none in (never (IsX value) (x_spelled value) (is_x value) f.0, f.1)
      | inr some ↦ absurd (ok_err _ x some.2)
    ]
value_bad Y place value c x e =
    elim (bind_err (or_fault BadCoordinate place (y_spelled value)) (λ l. Ok (record c { y = l })) x e) [
      | inl none ↦ let f = or_fault_err BadCoordinate place (y_spelled value) x none in (never (IsY value) (y_spelled value) (is_y value) f.0, f.1)
      | inr some ↦ absurd (ok_err _ x some.2)
    ]
value_bad Tagged place value c x e =
    elim (bind_err (each tag_at (items (place + 1) value) >>= λ tags. Ok (first_of_each tags)) (λ tags. Ok (record c { tags = tags })) x e) [
      | inl none ↦ elim (bind_err (each tag_at (items (place + 1) value)) (λ tags. Ok (first_of_each tags)) x none) [
        | inl bad ↦ items_bad tag_at IsTag IsBadTag tags_tell tag_is (place + 1) value x bad
        | inr some ↦ absurd (ok_err _ x some.2)
      ]
      | inr some ↦ absurd (ok_err _ x some.2)
    ]
value_bad Referring place value c x e =
    elim (bind_err (each ref_at (items (place + 1) value)) (λ refs. Ok (record c { refs = refs })) x e) [
      | inl bad ↦ items_bad ref_at IsRef IsBadRef refs_tell ref_is (place + 1) value x bad
      | inr some ↦ absurd (ok_err _ x some.2)
    ]
value_bad Having place value c x e =
    elim (bind_err (each member_at (items (place + 1) value)) (λ members. Ok (record c { members = members })) x e) [
      | inl bad ↦ items_bad member_at IsMember IsBadMember members_tell member_is (place + 1) value x bad
      | inr some ↦ absurd (ok_err _ x some.2)
    ]

bad_value : (meaning : Meaning) (place : ℕ) (value : List ℕ) (c : Content) (x : LineFault) → BadValue meaning place value x → with_value meaning place value c ≡ Err x
unfolding with_value tags_at refs_at members_at
bad_value Count place value c x bad = rw (false_from_ne_true (is_number value) (λ t. bad.0 (number_is value t))) (ap err (sym bad.1))
bad_value Flag place value c x bad = rw (none_of (flag_of value) (λ l e. bad.0 l (flag_is value l e))) (ap err (sym bad.1))
bad_value Anything place value c x bad = absurd bad
bad_value Name place value c x bad = rw (bad_string place value bad.0) (ap err (sym bad.1))
bad_value X place value c x bad = rw (none_of (x_spelled value) (λ l e. bad.0 l (x_is value l e))) (ap err (sym bad.1))
bad_value Y place value c x bad = rw (none_of (y_spelled value) (λ l e. bad.0 l (y_is value l e))) (ap err (sym bad.1))
bad_value Tagged place value c x bad = rw (bad_items tag_at IsTag IsBadTag tags_tell is_tag (place + 1) value x bad) refl
bad_value Referring place value c x bad = rw (bad_items ref_at IsRef IsBadRef refs_tell is_ref (place + 1) value x bad) refl
bad_value Having place value c x bad = rw (bad_items member_at IsMember IsBadMember members_tell is_member (place + 1) value x bad) refl

-- ---- fields

no_letter_zero : (kind : ObjectKind) → letter_of kind 0 ≡ None
unfolding letter_of
no_letter_zero Node = refl
no_letter_zero Way = refl
no_letter_zero Relation = refl

pub field_bad : (kind : ObjectKind) (seen : List ℕ) (place : ℕ) (field : List ℕ) (c : Content) (x : LineFault) → with_field kind seen place field c ≡ Err x → BadField kind seen (part place field) x
unfolding with_field
field_bad kind seen place [] c x e = inl (no_letter_zero kind, sym cc)
field_bad kind seen place (letter ∷ value) c x e =
    let repeated : Bool = list_any (λ s. eqb s letter) seen in
    elim (bind_err (or_fault UnknownField place (letter_of kind letter)) (λ m. cond repeated (no_reading RepeatedField place) (with_value m place value c)) x e) [
      | inl none ↦ inl (or_fault_err UnknownField place (letter_of kind letter) x none)
      | inr some ↦
          let is = or_fault_ok UnknownField place (letter_of kind letter) some.0 some.1 in
          inr (
            letter,
            value,
            some.0,
            refl,
            is,
            elim (cases_Bool repeated) [
              | inl again ↦ let f : err (fault_at RepeatedField place) ≡ Err x = rw again at some.2 in inl ((λ lacks. false≢true (sym (is_lacks letter seen lacks) ∙ again)), sym cc)
              | inr first ↦ let f : with_value some.0 place value c ≡ Err x = rw first at some.2 in inr (lacks_is letter seen first, value_bad some.0 place value c x f)
            ],
          )
    ]

seen_again : (letter : ℕ) (seen : List ℕ) → ¬ Lacks letter seen → list_any (λ s. eqb s letter) seen ≡ true
seen_again letter seen again = elim (cases_Bool (list_any (λ s. eqb s letter) seen)) [
  | inl is ↦ is
  | inr first ↦ absurd (again (lacks_is letter seen first))
]

pub bad_field : (kind : ObjectKind) (seen : List ℕ) (place : ℕ) (field : List ℕ) (c : Content) (x : LineFault) → BadField kind seen (part place field) x → with_field kind seen place field c ≡ Err x
unfolding with_field
bad_field kind seen place [] c x (inl unknown) = ap err (sym unknown.1)
bad_field kind seen place (letter ∷ value) c x (inl unknown) = rw unknown.0 (ap err (sym unknown.1))
bad_field kind seen place field c x (inr h) =
    ap (λ (bytes : List ℕ). with_field kind seen place bytes c) h.3 ∙ elim h.5 [
      | inl again ↦ rw (h.4, seen_again h.0 seen again.0) (ap err (sym again.1))
      | inr first ↦ rw (h.4, is_lacks h.0 seen first.0) (bad_value h.2 place h.1 c x first.1)
    ]
