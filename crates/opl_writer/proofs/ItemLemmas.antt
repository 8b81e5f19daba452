-- Written items: their bytes, and that they spell tags, references and members.
use Rattle.std.proofs.Common.{◌≡◌, ◌≢◌, ◌∙◌, ◌≤◌, ◌<◌, not, false, ℕ, List, [], ◌∷◌, ◌++◌, length, length-append, map, Option, Some, None, refl, sym, ap, subst, append_assoc, inl, inr, ◌⊎◌, arith, All}
use Rattle.std.specs.Str.{bytes_eq}
use Rattle.std.specs.List.{filter, AllByRecursion, join_with_byte}
use Rattle.std.specs.Fmt.{signed_decimal}
use Rattle.std.proofs.lemmas.Bool.{false_from_ne_true}
use Rattle.std.proofs.lemmas.Slice.Eq.{bytes_eq-Decides}
use Rattle.std.proofs.lemmas.List.Elements.{All-nil, All-cons, All-append, All-head, All-tail}
use Rattle.osm_lattice.specs.declared.loc.Loc.{Loc}
use Rattle.osm_lattice.proofs.LatticeKit.{x_small, y_small}
use Rattle.osm_elements.specs.declared.object.Tag.{Tag}
use Rattle.osm_elements.specs.declared.object.Ref.{Ref}
use Rattle.osm_elements.specs.declared.object.Member.{Member}
use Rattle.osm_elements.specs.declared.object.ObjectKind.{ObjectKind}
use Rattle.osm_elements.specs.declared.object.ObjectKind.TheVariants.{Node, Way, Relation}
use Rattle.opl_reader.specs.Parts.{PartedByCommas, last, more}
use Rattle.opl_reader.specs.Items.{Each, AreItems, IsTag, IsOwnPlace, IsRef, IsMember, kind_by_letter, HaveDifferentKeys, first_of_each}
use Rattle.opl_reader.specs.Coordinates.{IsX, IsY}
use Rattle.osm_elements.specs.declared.coordinate.Longitude.{Longitude}
use Rattle.osm_elements.specs.declared.coordinate.Latitude.{Latitude}
use Rattle.osm_notation.specs.Decimal.{units_text}
use Rattle.osm_notation.specs.Written.{tag_text, written}
use Rattle.opl_writer.specs.Written.{own_place_text, ref_text, kind_letter, member_text}
use Rattle.opl_writer.specs.Writable.{IsTagOfTexts, IsRefInRange, IsMemberInRange}
use Rattle.opl_writer.proofs.Bytes.{IsVisible, IsOfNumber, IsOfItem, number_is_of_item, text_is_of_item, item_is_visible, item_lacks_comma, number_lacks, text_lacks_equals}
use Rattle.opl_writer.proofs.StringLemmas.{written-of_text, written_is_string}
use Rattle.opl_writer.proofs.NumberLemmas.{id_is_read, id-of_number, units_are_read, units-of_number}

-- an item spells a value; it isn't empty, its bytes are visible, and none is a comma
pub record IsItem {A : Type 0} (spells : List ℕ → A → Type 0) (bytes : List ℕ) (x : A) : Type 0 where
  pub spelled : spells bytes x
  pub visible : All IsOfItem bytes
  pub some : 0 < length bytes

of_item : (b : ℕ) → 45 ≤ b → b ≤ 126 → IsOfItem b
of_item b low high = record { low = omega arith; high = high; comma = λ e. absurd (omega arith) }

-- bytes, a mark and bytes
around : (mark : ℕ) (before behind : List ℕ) → IsOfItem mark → All IsOfItem before → All IsOfItem behind → All IsOfItem ((before ++ mark ∷ []) ++ behind)
around mark before behind m h k = All-append IsOfItem (before ++ mark ∷ []) behind (All-append IsOfItem before (mark ∷ []) h (All-cons IsOfItem mark [] m (All-nil IsOfItem))) k

-- ---- tags

pub tag_is_item : (t : Tag) → IsTagOfTexts t → IsItem IsTag (tag_text t) t
tag_is_item t h =
    let key = written-of_text t.key in
    let value = written-of_text t.value in
    let same : (written t.key ++ 61 ∷ []) ++ written t.value ≡ written t.key ++ 61 ∷ written t.value = append_assoc (written t.key) (61 ∷ []) (written t.value) in
    record {
      spelled = record {
        key = written t.key;
        value = written t.value;
        parts = same;
        first = text_lacks_equals (written t.key) key;
        key_is = written_is_string t.key h.0;
        value_is = written_is_string t.value h.1;
      };
      visible = around 61 (written t.key) (written t.value) (of_item 61 (omega arith) (omega arith)) (text_is_of_item (written t.key) key) (text_is_of_item (written t.value) value);
      some = omega (arith, ap length same, length-append (written t.key) (61 ∷ written t.value));
    }

-- ---- locations

abbrev pub longitude_of : Loc → Longitude
longitude_of p = record { units = p.x; in_range = p.x_in }

abbrev pub latitude_of : Loc → Latitude
latitude_of p = record { units = p.y; in_range = p.y_in }

pub x_is_read : (p : Loc) → IsX (units_text p.x) (Some (longitude_of p))
x_is_read p = inr (longitude_of p, units_are_read p.x (x_small p), refl)

pub y_is_read : (p : Loc) → IsY (units_text p.y) (Some (latitude_of p))
y_is_read p = inr (latitude_of p, units_are_read p.y (y_small p), refl)

pub x-of_number : (p : Loc) → All IsOfNumber (units_text p.x)
x-of_number p = units-of_number p.x (x_small p)

pub y-of_number : (p : Loc) → All IsOfNumber (units_text p.y)
y-of_number p = units-of_number p.y (y_small p)

-- ---- references

own-place : (p : Loc) → IsOwnPlace (own_place_text (Some p)) (Some p)
own-place p = record {
  x_bytes = units_text p.x;
  y_bytes = units_text p.y;
  x = Some (longitude_of p);
  y = Some (latitude_of p);
  parts = ap (λ (xs : List ℕ). 120 ∷ xs) (append_assoc (units_text p.x) (121 ∷ []) (units_text p.y));
  first = number_lacks 121 (omega arith) (units_text p.x) (x-of_number p);
  x_is = x_is_read p;
  y_is = y_is_read p;
  at_is = refl;
}

at-is : (at : Option Loc) → ((own_place_text at ≡ []) × (at ≡ None)) ⊎ IsOwnPlace (own_place_text at) at
at-is None = inl (refl, refl)
at-is (Some p) = inr (own-place p)

at-visible : (at : Option Loc) → All IsOfItem (own_place_text at)
at-visible None = All-nil IsOfItem
at-visible (Some p) = around 121 (120 ∷ units_text p.x) (units_text p.y) (of_item 121 (omega arith) (omega arith))
    (All-cons IsOfItem 120 (units_text p.x) (of_item 120 (omega arith) (omega arith)) (number_is_of_item (units_text p.x) (x-of_number p))) (number_is_of_item (units_text p.y) (y-of_number p))

pub ref_is_item : (r : Ref) → IsRefInRange r → IsItem IsRef (ref_text r) r
ref_is_item r h =
    let id = id-of_number r.node h in
    record {
      spelled = record {
        digits = signed_decimal r.node;
        behind = own_place_text r.at;
        parts = refl;
        first = number_lacks 120 (omega arith) (signed_decimal r.node) id;
        id_is = id_is_read r.node h;
        at_is = at-is r.at;
      };
      visible = All-append IsOfItem (110 ∷ signed_decimal r.node) (own_place_text r.at) (All-cons IsOfItem 110 (signed_decimal r.node) (of_item 110 (omega arith) (omega arith)) (number_is_of_item (signed_decimal r.node) id)) (at-visible r.at);
      some = omega arith;
    }

-- ---- members

target-is : (letter : ℕ) (m : Member) → kind_letter m.kind ≡ letter ∷ [] → kind_by_letter letter ≡ Some m.kind → 65 ≤ letter → letter ≤ 126 → IsMemberInRange m → IsItem IsMember (member_text m) m
target-is letter m is kind low high h =
    let id = id-of_number m.id h.0 in
    let role = written-of_text m.role in
    let same : member_text m ≡ (letter ∷ signed_decimal m.id ++ 64 ∷ []) ++ written m.role = ap (λ (xs : List ℕ). xs ++ signed_decimal m.id ++ 64 ∷ [] ++ written m.role) is in
    let parts : member_text m ≡ (letter ∷ signed_decimal m.id) ++ 64 ∷ written m.role = same ∙ append_assoc (letter ∷ signed_decimal m.id) (64 ∷ []) (written m.role) in
    record {
      spelled = record {
        role = written m.role;
        target = record {
          letter = letter;
          digits = signed_decimal m.id;
          parts = parts;
          first = All-cons (λ (x : ℕ). x ≢ 64) letter (signed_decimal m.id) (λ e. absurd (omega arith)) (number_lacks 64 (omega arith) (signed_decimal m.id) id);
          kind_is = kind;
          id_is = id_is_read m.id h.0;
        };
        role_is = written_is_string m.role h.1;
      };
      visible =
          subst (All IsOfItem) (sym same)
          (around 64 (letter ∷ signed_decimal m.id) (written m.role) (of_item 64 (omega arith) (omega arith))
          (All-cons IsOfItem letter (signed_decimal m.id) (of_item letter (omega arith) high) (number_is_of_item (signed_decimal m.id) id)) (text_is_of_item (written m.role) role));
      some = omega (arith, ap length parts);
    }

pub member_is_item : (m : Member) → IsMemberInRange m → IsItem IsMember (member_text m) m
member_is_item m h = by m.kind refl
  where
    by : (k : ObjectKind) → m.kind ≡ k → IsItem IsMember (member_text m) m
    by Node e = target-is 110 m (ap kind_letter e) (ap (λ (k : ObjectKind). Some k) (sym e)) (omega arith) (omega arith) h
    by Way e = target-is 119 m (ap kind_letter e) (ap (λ (k : ObjectKind). Some k) (sym e)) (omega arith) (omega arith) h
    by Relation e = target-is 114 m (ap kind_letter e) (ap (λ (k : ObjectKind). Some k) (sym e)) (omega arith) (omega arith) h

-- ---- lists of items

pub record AreItemsOf {A : Type 0} (spells : List ℕ → A → Type 0) (bytes : List ℕ) (xs : List A) : Type 0 where
  pub items : AreItems spells bytes xs
  pub visible : All IsVisible bytes

module _ {A : Type 0} (spells : List ℕ → A → Type 0) (write : A → List ℕ) where
  abbrev Written : A → Type 0
  Written x = IsItem spells (write x) x

  parted : (x : A) (xs : List A) → All Written (x ∷ xs) → PartedByCommas (join_with_byte 44 (map write (x ∷ xs))) (map write (x ∷ xs))
  parted x [] h = last (write x) (item_lacks_comma (write x) (All-head Written x [] h).visible)
  parted x (y ∷ xs) h = more (write x) (join_with_byte 44 (map write (y ∷ xs))) (map write (y ∷ xs)) (item_lacks_comma (write x) (All-head Written x (y ∷ xs) h).visible) (parted y xs (All-tail Written x (y ∷ xs) h))

  each : (xs : List A) → All Written xs → Each spells (map write xs) xs
  each [] h = tt
  each (x ∷ xs) h = ((All-head Written x xs h).spelled, each xs (All-tail Written x xs h))

  visible : (x : A) (xs : List A) → All Written (x ∷ xs) → All IsVisible (join_with_byte 44 (map write (x ∷ xs)))
  visible x [] h = item_is_visible (write x) (All-head Written x [] h).visible
  visible x (y ∷ xs) h =
      All-append IsVisible (write x) (44 ∷ join_with_byte 44 (map write (y ∷ xs))) (item_is_visible (write x) (All-head Written x (y ∷ xs) h).visible)
      (All-cons IsVisible 44 (join_with_byte 44 (map write (y ∷ xs))) (omega arith, omega arith) (visible y xs (All-tail Written x (y ∷ xs) h)))

  length-joined : (x : A) (xs : List A) → All Written (x ∷ xs) → 0 < length (join_with_byte 44 (map write (x ∷ xs)))
  length-joined x [] h = (All-head Written x [] h).some
  length-joined x (y ∷ xs) h = omega (arith, (All-head Written x (y ∷ xs) h).some, length-append (write x) (44 ∷ join_with_byte 44 (map write (y ∷ xs))))

  -- items that commas part
  pub items_are_read : (x : A) (xs : List A) → All Written (x ∷ xs) → AreItemsOf spells (join_with_byte 44 (map write (x ∷ xs))) (x ∷ xs)
  items_are_read x xs h = record {
    items = record {
      some = length-joined x xs h;
      parts = map write (x ∷ xs);
      parted = parted x xs h;
      spelled = each (x ∷ xs) h;
    };
    visible = visible x xs h;
  }

-- ---- tags of different keys

apart-kept : (t : Tag) (tags : List Tag) → AllByRecursion (λ u. u.key ≢ t.key) tags → filter (λ u. not (bytes_eq u.key t.key)) tags ≡ tags
apart-kept t [] h = refl
apart-kept t (u ∷ tags) h =
    let other : bytes_eq u.key t.key ≡ false = false_from_ne_true (bytes_eq u.key t.key) (λ e. h.0 ((bytes_eq-Decides u.key t.key).0 e)) in
    rw other (ap (λ (us : List Tag). u ∷ us) (apart-kept t tags h.1))

pub different_kept : (tags : List Tag) → HaveDifferentKeys tags → first_of_each tags ≡ tags
different_kept [] h = refl
different_kept (t ∷ tags) h = ap (λ (us : List Tag). t ∷ us) (ap (filter (λ u. not (bytes_eq u.key t.key))) (different_kept tags h.1) ∙ apart-kept t tags h.0)
