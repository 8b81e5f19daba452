-- Items are read as what they spell, and the other way round.
use Rattle.std.proofs.Common.{◌≡◌, ℕ, ◌+◌, ◌<◌, Bool, true, eqb, ltb, List, [], ◌∷◌, ◌++◌, length, get_or, take, drop, Option, Some, None, Result, Ok, Err, ℤ, refl, sym, ap, subst, ◌∙◌, append-nil, append_assoc, ◌⊎◌, inl, inr, arith}
use Rattle.std.specs.Prelude.{option_map, option_and_then}
use Rattle.std.specs.List.{slice_split, position_or_len, before_first, after_first}
use Rattle.std.proofs.lemmas.Bool.{cases_eq, eqb-true, eqb-false, cases_lt, ltb-true, lt-ltb, ne_eqb, eq-eqb}
use Rattle.std.proofs.lemmas.List.{take_at, drop_at, length-append, length-take, get_or-take, get_or_append_left, nil_from_length}
use Rattle.std.proofs.Math.Seq.{get_or-append_seam}
use Rattle.std.proofs.lemmas.List.Sums.{position_or_len_is, split_at_first, passes_at_first, fails_before_first}
use Rattle.std.proofs.lemmas.Option.{cond_some}
use Rattle.opl_reader.specs.declared.fault.FaultKind.{FaultKind}
use Rattle.opl_reader.specs.declared.fault.LineFault.{LineFault}
use Rattle.osm_lattice.specs.declared.loc.Loc.{Loc}
use Rattle.osm_elements.specs.declared.object.Tag.{Tag}
use Rattle.osm_elements.specs.declared.object.Ref.{Ref}
use Rattle.osm_elements.specs.declared.object.Member.{Member}
use Rattle.osm_elements.specs.declared.object.ObjectKind.{ObjectKind}
use Rattle.opl_reader.specs.declared.fault.FaultKind.TheVariants.{BadEscape, BadTag, BadReference, BadMember}
use Rattle.opl_reader.specs.Reading.{◌>>=◌, or_fault}
use Rattle.opl_reader.specs.Parts.{Lacks}
use Rattle.opl_reader.specs.Numbers.{IsId}
use Rattle.opl_reader.specs.Strings.{IsString}
use Rattle.osm_elements.specs.Places.{location_from}
use Rattle.opl_reader.specs.Items.{kind_by_letter, Each, IsItems, IsTag, IsOwnPlace, IsRef, HasTarget, IsMember}
use Rattle.opl_reader.specs.NumberReading.{id_spelled}
use Rattle.opl_reader.specs.CoordinateReading.{x_spelled, y_spelled}
use Rattle.opl_reader.specs.StringReading.{string_of, string_at}
use Rattle.opl_reader.specs.ItemReading.{placed, is_comma, items, each, halves, tag_at, own_place_of, ref_in, ref_behind, ref_spelled, ref_at, target_of, member_at}
use Rattle.opl_reader.proofs.PartedLaws.{commas, are_commas}
use Rattle.opl_reader.proofs.SpellingLaws.{map_some, and_then_some, read_is_spelled, spelled_is_read}
use Rattle.opl_reader.proofs.DecimalLaws.{id_is, is_id}
use Rattle.opl_reader.proofs.CoordinateLaws.{x_is, is_x, y_is, is_y}

pub bind_ok : {A B : Type 0} (r : Result A LineFault) (f : A → Result B LineFault) (y : B) → (r >>= f) ≡ Ok y → (x : A) × (r ≡ Ok x) × (f x ≡ Ok y)
bind_ok (Ok x) f y e = (x, refl, e)
bind_ok (Err d) f y e = absurd cc

pub or_fault_ok : {A : Type 0} (kind : FaultKind) (place : ℕ) (o : Option A) (x : A) → or_fault kind place o ≡ Ok x → o ≡ Some x
or_fault_ok kind place None x e = absurd cc
or_fault_ok kind place (Some y) x e = cc

-- ---- strings at a place

pub string_ok : (place : ℕ) (bytes text : List ℕ) → string_at place bytes ≡ Ok text → IsString bytes text
unfolding string_at
string_ok place bytes text e = read_is_spelled bytes text (or_fault_ok BadEscape place (string_of bytes) text e)

pub ok_string : (place : ℕ) (bytes text : List ℕ) → IsString bytes text → string_at place bytes ≡ Ok text
unfolding string_at
ok_string place bytes text s = ap (or_fault BadEscape place) (spelled_is_read bytes text s)

-- ---- two halves

pub halves_are : (b : ℕ) (bytes : List ℕ) (parts : List ℕ × List ℕ) → halves b bytes ≡ Some parts → (bytes ≡ parts.0 ++ b ∷ parts.1) × Lacks b parts.0
halves_are b bytes parts e =
    let p : ℕ → Bool = λ x. eqb x b in
    let s = cond_some (ltb (position_or_len p bytes) (length bytes)) (before_first p bytes, after_first p bytes) parts e in
    let lt = ltb-true _ _ s.0 in
    let whole : bytes ≡ before_first p bytes ++ b ∷ after_first p bytes = split_at_first p bytes 0 lt ∙ ap (λ (x : ℕ). before_first p bytes ++ x ∷ after_first p bytes) (eqb-true _ _ (passes_at_first p bytes 0 lt)) in
    let n = position_or_len p bytes in
    let front : Lacks b (before_first p bytes) = λ k d below is.
    let inside : k < n = omega (arith, length-take n bytes) in
    eqb-false _ _ (fails_before_first p bytes k d inside) (sym (get_or-take n bytes k d inside) ∙ is) in
    subst (λ (q : List ℕ × List ℕ). (bytes ≡ q.0 ++ b ∷ q.1) × Lacks b q.0) s.1 (whole, front)

pub are_halves : (b : ℕ) (front back : List ℕ) → Lacks b front → halves b (front ++ b ∷ back) ≡ Some (front, back)
are_halves b front back lacks =
    let p : ℕ → Bool = λ x. eqb x b in
    let all = front ++ b ∷ back in
    let at : position_or_len p all ≡ length front =
    position_or_len_is p all (length front) 0 (omega (arith, length-append front (b ∷ back)))
    (λ k lt. ap p (get_or_append_left front (b ∷ back) 0 k lt) ∙ ne_eqb (get_or front k 0) b (lacks k 0 lt))
    (λ _. ap p (get_or-append_seam front b back 0) ∙ eq-eqb b b refl) in
    let e : before_first p all ≡ front = ap (λ (k : ℕ). take k all) at ∙ take_at front (b ∷ back) (length front) refl in
    let grouped : all ≡ (front ++ b ∷ []) ++ back = sym (append_assoc front (b ∷ []) back) in
    let f : after_first p all ≡ back = ap (λ (k : ℕ). drop (k + 1) all) at ∙ ap (drop (length front + 1)) grouped ∙ drop_at (front ++ b ∷ []) back (length front + 1) (omega (arith, length-append front (b ∷ []))) in
    let lt : ltb (position_or_len p all) (length all) ≡ true = lt-ltb _ _ (omega (arith, length-append front (b ∷ back))) in
    rw (lt, e, f) refl

pub none_of : {A : Type 0} (o : Option A) → ((x : A) → o ≡ Some x → ⊥) → o ≡ None
none_of None h = refl
none_of (Some x) h = absurd (h x refl)

pub halves_none : (b : ℕ) (bytes : List ℕ) → halves b bytes ≡ None → Lacks b bytes
halves_none b bytes e =
    let p : ℕ → Bool = λ x. eqb x b in
    elim (cases_lt (position_or_len p bytes) (length bytes)) [
      | inl lt ↦ let f : ◌≡◌ {A = Option (List ℕ × List ℕ)} (Some (before_first p bytes, after_first p bytes)) None = rw (lt-ltb (position_or_len p bytes) (length bytes) lt) at e in absurd cc
      | inr le ↦ λ k d lt. eqb-false _ _ (fails_before_first p bytes k d (omega arith))
    ]

pub none_halves : (b : ℕ) (bytes : List ℕ) → Lacks b bytes → halves b bytes ≡ None
none_halves b bytes lacks = none_of (halves b bytes) (λ parts e.
    let h = halves_are b bytes parts e in
    let inside : length parts.0 < length bytes = subst (λ (w : List ℕ). length parts.0 < length w) (sym h.0) (omega (arith, length-append parts.0 (b ∷ parts.1))) in
    lacks (length parts.0) 0 inside (ap (λ (w : List ℕ). get_or w (length parts.0) 0) h.0 ∙ get_or-append_seam parts.0 b parts.1 0))

-- ---- each item

module _ {A : Type 0} (read : ℕ → List ℕ → Result A LineFault) (spells : List ℕ → A → Type 0) where
  pub each_is : ((at : ℕ) (bytes : List ℕ) (x : A) → read at bytes ≡ Ok x → spells bytes x) → (at : ℕ) (parts : List (List ℕ)) (xs : List A) → each read (placed at parts) ≡ Ok xs → Each spells parts xs
  each_is one at [] [] e = tt
  each_is one at [] (x ∷ xs) e = absurd cc
  each_is one at (part ∷ parts) xs e =
      let a = bind_ok (read at part) (λ x. each read (placed (at + length part + 1) parts) >>= λ ys. Ok (x ∷ ys)) xs e in
      let b = bind_ok (each read (placed (at + length part + 1) parts)) (λ ys. Ok (a.0 ∷ ys)) xs a.2 in
      let same : a.0 ∷ b.0 ≡ xs = cc in
      subst (Each spells (part ∷ parts)) same (one at part a.0 a.1, each_is one (at + length part + 1) parts b.0 b.1)

  pub is_each : ((at : ℕ) (bytes : List ℕ) (x : A) → spells bytes x → read at bytes ≡ Ok x) → (at : ℕ) (parts : List (List ℕ)) (xs : List A) → Each spells parts xs → each read (placed at parts) ≡ Ok xs
  is_each one at [] [] h = refl
  is_each one at [] (x ∷ xs) h = absurd h
  is_each one at (part ∷ parts) [] h = absurd h
  is_each one at (part ∷ parts) (x ∷ xs) h = rw (one at part x h.0, is_each one (at + length part + 1) parts xs h.1) refl

  pub items_are : ((at : ℕ) (bytes : List ℕ) (x : A) → read at bytes ≡ Ok x → spells bytes x) → (at : ℕ) (bytes : List ℕ) (xs : List A) → each read (items at bytes) ≡ Ok xs → IsItems spells bytes xs
  unfolding items
  items_are one at bytes xs e =
      elim (cases_eq (length bytes) 0) [
        | inl none ↦ let f : ◌≡◌ {A = Result (List A) LineFault} (Ok []) (Ok xs) = rw (eq-eqb (length bytes) 0 none) at e in let same : ◌≡◌ {A = List A} [] xs = cc in inl (nil_from_length bytes none, sym same)
        | inr some ↦
            let f : each read (placed at (slice_split is_comma bytes)) ≡ Ok xs = rw (ne_eqb (length bytes) 0 some) at e in
            inr (record { some = omega arith; parts = slice_split is_comma bytes; parted = commas bytes; spelled = each_is one at (slice_split is_comma bytes) xs f })
      ]

  pub are_items : ((at : ℕ) (bytes : List ℕ) (x : A) → spells bytes x → read at bytes ≡ Ok x) → (at : ℕ) (bytes : List ℕ) (xs : List A) → IsItems spells bytes xs → each read (items at bytes) ≡ Ok xs
  unfolding items
  are_items one at bytes xs (inl none) = ap (λ (b : List ℕ). each read (items at b)) none.0 ∙ ap (λ (ys : List A). Ok ys) (sym none.1)
  are_items one at bytes xs (inr h) =
      let some = h.some in
      rw (ne_eqb (length bytes) 0 (λ e. absurd (omega arith)), are_commas bytes h.parts h.parted) (is_each one at h.parts xs h.spelled)

-- ---- one item

pub tag_is : (place : ℕ) (bytes : List ℕ) (t : Tag) → tag_at place bytes ≡ Ok t → IsTag bytes t
unfolding tag_at
tag_is place bytes t e =
    let a = bind_ok (or_fault BadTag place (halves 61 bytes)) (λ parts. string_at place parts.0 >>= λ key. string_at place parts.1 >>= λ value. Ok (record { key = key; value = value })) t e in
    let b = bind_ok (string_at place a.0.0) (λ key. string_at place a.0.1 >>= λ value. Ok (record { key = key; value = value })) t a.2 in
    let c = bind_ok (string_at place a.0.1) (λ value. Ok (record { key = b.0; value = value })) t b.2 in
    let made : Tag = record { key = b.0; value = c.0 } in
    let same : made ≡ t = cc in
    let h = halves_are 61 bytes a.0 (or_fault_ok BadTag place (halves 61 bytes) a.0 a.1) in
    subst (IsTag bytes) same (record { key = a.0.0; value = a.0.1; parts = h.0; first = h.1; key_is = string_ok place a.0.0 b.0 b.1; value_is = string_ok place a.0.1 c.0 c.1 })

pub is_tag : (place : ℕ) (bytes : List ℕ) (t : Tag) → IsTag bytes t → tag_at place bytes ≡ Ok t
unfolding tag_at
is_tag place bytes t h =
    let cut : halves 61 bytes ≡ Some (h.key, h.value) = ap (halves 61) h.parts ∙ are_halves 61 h.key h.value h.first in
    rw (cut, ok_string place h.key t.key h.key_is, ok_string place h.value t.value h.value_is) refl

-- ---- references

own_place_is : (bytes : List ℕ) (at : Option Loc) → own_place_of bytes ≡ Some at → IsOwnPlace (120 ∷ bytes) at
unfolding own_place_of
own_place_is bytes at e =
    let a = and_then_some (halves 121 bytes) (λ parts. option_and_then (λ x. option_map (λ y. location_from x y) (y_spelled parts.1)) (x_spelled parts.0)) at e in
    let b = and_then_some (x_spelled a.0.0) (λ x. option_map (λ y. location_from x y) (y_spelled a.0.1)) at a.2 in
    let c = map_some (y_spelled a.0.1) (λ y. location_from b.0 y) at b.2 in
    let h = halves_are 121 bytes a.0 a.1 in
    record {
      x_bytes = a.0.0;
      y_bytes = a.0.1;
      x = b.0;
      y = c.0;
      parts = ap (λ (z : List ℕ). 120 ∷ z) h.0;
      first = h.1;
      x_is = x_is a.0.0 b.0 b.1;
      y_is = y_is a.0.1 c.0 c.1;
      at_is = c.2;
    }

is_own_place : (bytes : List ℕ) (at : Option Loc) → IsOwnPlace bytes at → (behind : List ℕ) × (bytes ≡ 120 ∷ behind) × (own_place_of behind ≡ Some at)
unfolding own_place_of
is_own_place bytes at h = (
  h.x_bytes ++ 121 ∷ h.y_bytes,
  h.parts,
  rw (are_halves 121 h.x_bytes h.y_bytes h.first, is_x h.x_bytes h.x h.x_is, is_y h.y_bytes h.y h.y_is) (ap (λ (o : Option Loc). Some o) h.at_is),
)

ref_behind_is : (bytes : List ℕ) (parts : Option (List ℕ × List ℕ)) (r : Ref) → halves 120 bytes ≡ parts → ref_in bytes parts ≡ Some r → IsRef (110 ∷ bytes) r
ref_behind_is bytes None r cut e =
    let a = map_some (id_spelled bytes) (λ id. record { node = id; at = None }) r e in
    record {
      digits = bytes;
      behind = [];
      parts = ap (λ (z : List ℕ). 110 ∷ z) (sym (append-nil bytes));
      first = halves_none 120 bytes cut;
      id_is = subst (IsId bytes) (ap (λ (q : Ref). q.node) a.2) (id_is bytes a.0 a.1);
      at_is = inl (refl, ap (λ (q : Ref). q.at) (sym a.2));
    }
ref_behind_is bytes (Some parts) r cut e =
    let a = and_then_some (id_spelled parts.0) (λ id. option_map (λ at. record { node = id; at = at }) (own_place_of parts.1)) r e in
    let b = map_some (own_place_of parts.1) (λ at. record { node = a.0; at = at }) r a.2 in
    let h = halves_are 120 bytes parts cut in
    record {
      digits = parts.0;
      behind = 120 ∷ parts.1;
      parts = ap (λ (z : List ℕ). 110 ∷ z) h.0;
      first = h.1;
      id_is = subst (IsId parts.0) (ap (λ (q : Ref). q.node) b.2) (id_is parts.0 a.0 a.1);
      at_is = inr (subst (IsOwnPlace (120 ∷ parts.1)) (ap (λ (q : Ref). q.at) b.2) (own_place_is parts.1 b.0 b.1));
    }

pub ref_is : (place : ℕ) (bytes : List ℕ) (r : Ref) → ref_at place bytes ≡ Ok r → IsRef bytes r
unfolding ref_at ref_spelled ref_behind
ref_is place bytes r e = of_ref bytes (or_fault_ok BadReference place (ref_spelled bytes) r e)
  where
    of_ref : (bytes : List ℕ) → ref_spelled bytes ≡ Some r → IsRef bytes r
    of_ref [] e = absurd cc
    of_ref (b ∷ behind) e =
        elim (cases_eq b 110) [
          | inl is ↦ subst (λ (z : List ℕ). IsRef z r) (ap (λ (x : ℕ). x ∷ behind) (sym is)) (ref_behind_is behind (halves 120 behind) r refl (rw (eq-eqb b 110 is) at e))
          | inr ne ↦ let f : ◌≡◌ {A = Option Ref} None (Some r) = rw (ne_eqb b 110 ne) at e in absurd cc
        ]

is_ref_behind : (digits behind : List ℕ) (r : Ref) → Lacks 120 digits → IsId digits r.node → ((behind ≡ []) × (r.at ≡ None)) ⊎ IsOwnPlace behind r.at → ref_behind (digits ++ behind) ≡ Some r
unfolding ref_behind
is_ref_behind digits behind r lacks id (inl none) =
    let all : digits ++ behind ≡ digits = ap (λ (z : List ℕ). digits ++ z) none.0 ∙ append-nil digits in
    let made : ref_behind digits ≡ Some (record { node = r.node; at = None }) = rw (none_halves 120 digits lacks, is_id digits r.node id) refl in
    ap ref_behind all ∙ made ∙ ap (λ (o : Option Loc). Some (record { node = r.node; at = o })) (sym none.1)
is_ref_behind digits behind r lacks id (inr own) =
    let h = is_own_place behind r.at own in
    let all : digits ++ behind ≡ digits ++ 120 ∷ h.0 = ap (λ (z : List ℕ). digits ++ z) h.1 in
    let made : ref_behind (digits ++ 120 ∷ h.0) ≡ Some r = rw (are_halves 120 digits h.0 lacks, is_id digits r.node id, h.2) refl in
    ap ref_behind all ∙ made

pub is_ref : (place : ℕ) (bytes : List ℕ) (r : Ref) → IsRef bytes r → ref_at place bytes ≡ Ok r
unfolding ref_at ref_spelled
is_ref place bytes r h = ap (λ (b : List ℕ). or_fault BadReference place (ref_spelled b)) h.parts ∙ ap (or_fault BadReference place) (is_ref_behind h.digits h.behind r h.first h.id_is h.at_is)

-- ---- members

pub target_is : (bytes front role : List ℕ) (kind : ObjectKind) (id : ℤ) → bytes ≡ front ++ 64 ∷ role → Lacks 64 front → target_of front ≡ Some (kind, id) → HasTarget bytes role kind id
unfolding target_of
target_is bytes [] role kind id parts lacks e = absurd cc
target_is bytes (letter ∷ digits) role kind id parts lacks e =
    let a = and_then_some (kind_by_letter letter) (λ k. option_map (λ i. (k, i)) (id_spelled digits)) (kind, id) e in
    let b = map_some (id_spelled digits) (λ i. (a.0, i)) (kind, id) a.2 in
    let k : a.0 ≡ kind = ap (λ (q : ObjectKind × ℤ). q.0) b.2 in
    let i : b.0 ≡ id = ap (λ (q : ObjectKind × ℤ). q.1) b.2 in
    record { letter = letter; digits = digits; parts = parts; first = lacks; kind_is = a.1 ∙ ap (λ (x : ObjectKind). Some x) k; id_is = subst (IsId digits) i (id_is digits b.0 b.1) }

pub is_target : (bytes role : List ℕ) (kind : ObjectKind) (id : ℤ) → HasTarget bytes role kind id → (front : List ℕ) × (halves 64 bytes ≡ Some (front, role)) × (target_of front ≡ Some (kind, id))
unfolding target_of
is_target bytes role kind id h =
    (h.letter ∷ h.digits, ap (halves 64) h.parts ∙ are_halves 64 (h.letter ∷ h.digits) role h.first, rw (h.kind_is, is_id h.digits id h.id_is) refl)

pub member_is : (place : ℕ) (bytes : List ℕ) (m : Member) → member_at place bytes ≡ Ok m → IsMember bytes m
unfolding member_at
member_is place bytes m e =
    let a = bind_ok (or_fault BadMember place (halves 64 bytes)) (λ parts. or_fault BadMember place (target_of parts.0) >>= λ target. string_at place parts.1 >>= λ role. Ok (record { kind = target.0; id = target.1; role = role })) m e in
    let b = bind_ok (or_fault BadMember place (target_of a.0.0)) (λ target. string_at place a.0.1 >>= λ role. Ok (record { kind = target.0; id = target.1; role = role })) m a.2 in
    let c = bind_ok (string_at place a.0.1) (λ role. Ok (record { kind = b.0.0; id = b.0.1; role = role })) m b.2 in
    let made : Member = record { kind = b.0.0; id = b.0.1; role = c.0 } in
    let same : made ≡ m = cc in
    let h = halves_are 64 bytes a.0 (or_fault_ok BadMember place (halves 64 bytes) a.0 a.1) in
    let target = target_is bytes a.0.0 a.0.1 b.0.0 b.0.1 h.0 h.1 (or_fault_ok BadMember place (target_of a.0.0) b.0 b.1) in
    subst (IsMember bytes) same (record { role = a.0.1; target = target; role_is = string_ok place a.0.1 c.0 c.1 })

pub is_member : (place : ℕ) (bytes : List ℕ) (m : Member) → IsMember bytes m → member_at place bytes ≡ Ok m
unfolding member_at
is_member place bytes m h =
    let t = is_target bytes h.role m.kind m.id h.target in
    rw (t.1, t.2, ok_string place h.role m.role h.role_is) refl
