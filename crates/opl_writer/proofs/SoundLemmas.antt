-- What a line spells is sound: its texts are texts of characters, since the line is, and its ids are in range.
use Rattle.std.proofs.Common.{◌≡◌, ◌∙◌, ◌+◌, ◌≤◌, ◌<◌, not, ℕ, ℤ, List, [], ◌∷◌, ◌++◌, length, length-append, drop, get_or, refl, sym, ap, subst, append_assoc, append-nil, inl, inr, ◌⊎◌, arith, All}
use Rattle.std.specs.Prelude.{encode_utf8}
use Rattle.std.specs.Char.{IsScalar}
use Rattle.std.specs.Str.{IsUtf8, bytes_eq}
use Rattle.std.specs.List.{filter}
use Rattle.std.proofs.lemmas.Bool.{le-ltb, lt-ltb, le-leb}
use Rattle.std.proofs.lemmas.List.{take_at, drop_at}
use Rattle.std.proofs.lemmas.List.Elements.{All-nil, All-cons, All-head, All-tail, All-filter}
use Rattle.std.proofs.Math.Seq.{get_or-append_seam}
use Rattle.std.proofs.lemmas.Str.{IsUtf8-nil, IsUtf8-append, IsUtf8-encode, IsUtf8-take, IsUtf8-drop, IsCharBoundary-before_ascii, IsCharBoundary-after_ascii}
use lib.Utf8.{low_scalar}
use Rattle.osm_elements.specs.declared.object.Tag.{Tag}
use Rattle.osm_elements.specs.declared.object.Ref.{Ref}
use Rattle.osm_elements.specs.declared.object.Member.{Member}
use Rattle.osm_elements.specs.declared.object.ObjectKind.{ObjectKind}
use Rattle.osm_elements.specs.declared.object.ObjectKind.TheVariants.{Node, Way, Relation}
use Rattle.osm_elements.specs.declared.object.Object.{Object}
use Rattle.opl_reader.specs.declared.field.Meaning.{Meaning}
use Rattle.opl_reader.specs.declared.field.Meaning.TheVariants.{Count, Flag, Anything, Name, X, Y, Tagged, Referring, Having}
use Rattle.opl_reader.specs.declared.content.Content.{Content}
use Rattle.opl_reader.specs.Parts.{Part, IsSeparator, EndsField, Parted, ends, separator, field, PartedByCommas, last, more, without_cr, part}
use Rattle.opl_reader.specs.Numbers.{IsId}
use Rattle.opl_reader.specs.Strings.{IsString, IsCode, stands, escape}
use Rattle.opl_reader.specs.Strings as string
use Rattle.opl_reader.specs.Items.{Each, IsItems, IsTag, IsRef, IsMember, first_of_each}
use Rattle.opl_reader.specs.Fields.{nothing, object_of, Tells, FieldTells, Told}
use Rattle.opl_reader.specs.Spells.{Spells}
use Rattle.opl_reader.proofs.ReaderKit.{abs_neg, first_differ, letter_ascii}
use Rattle.opl_writer.specs.Writable.{IsIdNumber, IsTagOfTexts, AreTags, IsRefInRange, AreRefs, IsMemberInRange, AreMembers, IsWellFormed}

-- ---- texts of characters

pub record IsCut (xs : List ℕ) (b : ℕ) (ys : List ℕ) : Type 0 where
  pub front : IsUtf8 xs
  pub rest : IsUtf8 (b ∷ ys)
  pub behind : IsUtf8 ys

-- a text may be cut before and behind each ASCII character
cut : (xs ys : List ℕ) (b : ℕ) → b < 128 → IsUtf8 (xs ++ b ∷ ys) → IsCut xs b ys
cut xs ys b low u =
    let all = xs ++ b ∷ ys in
    let here : get_or all (length xs) 0 ≡ b = get_or-append_seam xs b ys 0 in
    let inside : length xs < length all = omega (arith, length-append xs (b ∷ ys)) in
    let before = IsCharBoundary-before_ascii all (length xs) inside (omega arith) in
    let after = IsCharBoundary-after_ascii all (length xs) u inside (omega arith) in
    let grouped : all ≡ (xs ++ b ∷ []) ++ ys = sym (append_assoc xs (b ∷ []) ys) in
    let rest : drop (length xs + 1) all ≡ ys = ap (drop (length xs + 1)) grouped ∙ drop_at (xs ++ b ∷ []) ys (length xs + 1) (omega (arith, length-append xs (b ∷ []))) in
    record {
      front = subst IsUtf8 (take_at xs (b ∷ ys) (length xs) refl) (IsUtf8-take all (length xs) u before);
      rest = subst IsUtf8 (drop_at xs (b ∷ ys) (length xs) refl) (IsUtf8-drop all (length xs) u before);
      behind = subst IsUtf8 rest (IsUtf8-drop all (length xs + 1) u after);
    }

-- ---- strings

high-scalar : (c : ℕ) → 0xE000 ≤ c → c ≤ 0x10_FFFF → IsScalar c
high-scalar c low high = rw (le-ltb c 55296 (omega arith), le-leb 57344 c (omega arith), lt-ltb c 1114112 (omega arith)) refl

code-scalar : (digits : List ℕ) (c : ℕ) → IsCode digits c → IsScalar c
code-scalar digits c is = by is.scalar
  where
    by : (c < 0xD800) ⊎ ((0xE000 ≤ c) × (c ≤ 0x10_FFFF)) → IsScalar c
    by (inl low) = low_scalar c low
    by (inr range) = high-scalar c range.0 range.1

-- behind any front
string-text : (front bytes text : List ℕ) → IsString bytes text → IsUtf8 (front ++ bytes) → IsUtf8 (front ++ text)
string-text front bytes text string.ends u = u
string-text front bytes text (stands b bs t other is) u =
    subst IsUtf8 (append_assoc front (b ∷ []) t) (string-text (front ++ b ∷ []) bs t is (subst IsUtf8 (sym (append_assoc front (b ∷ []) bs)) u))
string-text front bytes text (escape digits c bs t code is) u =
    let one = cut front (digits ++ 37 ∷ bs) 37 (omega arith) u in
    let two = cut digits bs 37 (omega arith) one.behind in
    IsUtf8-append front (encode_utf8 c ++ t) one.front (IsUtf8-append (encode_utf8 c) t (IsUtf8-encode c (code-scalar digits c code)) (string-text [] bs t is two.behind))

-- ---- items

comma-parts : (bytes : List ℕ) (parts : List (List ℕ)) → PartedByCommas bytes parts → IsUtf8 bytes → All IsUtf8 parts
comma-parts bytes parts (last item lacks) u = All-cons IsUtf8 item [] u (All-nil IsUtf8)
comma-parts bytes parts (more item text items lacks p) u = let both = cut item text 44 (omega arith) u in All-cons IsUtf8 item items both.front (comma-parts text items p both.behind)

module _ {A : Type 0} (spells : List ℕ → A → Type 0) (IsGood : A → Type 0) (good : (bytes : List ℕ) (x : A) → spells bytes x → IsUtf8 bytes → IsGood x) where
  each-good : (parts : List (List ℕ)) (xs : List A) → Each spells parts xs → All IsUtf8 parts → All IsGood xs
  each-good [] [] e u = All-nil IsGood
  each-good [] (x ∷ xs) e u = absurd e
  each-good (part ∷ parts) [] e u = absurd e
  each-good (part ∷ parts) (x ∷ xs) e u = All-cons IsGood x xs (good part x e.0 (All-head IsUtf8 part parts u)) (each-good parts xs e.1 (All-tail IsUtf8 part parts u))

  items-good : (bytes : List ℕ) (xs : List A) → IsItems spells bytes xs → IsUtf8 bytes → All IsGood xs
  items-good bytes xs (inl none) u = subst (All IsGood) (sym none.1) (All-nil IsGood)
  items-good bytes xs (inr items) u = each-good items.parts xs items.spelled (comma-parts bytes items.parts items.parted u)

tag-good : (bytes : List ℕ) (t : Tag) → IsTag bytes t → IsUtf8 bytes → IsTagOfTexts t
tag-good bytes t is u =
    let both = cut is.key is.value 61 (omega arith) (subst IsUtf8 is.parts u) in
    (string-text [] is.key t.key is.key_is both.front, string-text [] is.value t.value is.value_is both.behind)

id-good : (bytes : List ℕ) (id : ℤ) → IsId bytes id → IsIdNumber id
id-good bytes id (inl m) = let most = m.1.most in let worth = m.1.worth in subst IsIdNumber (sym m.2) (omega arith)
id-good bytes id (inr m) = let most = m.3.most in let worth = m.3.worth in subst IsIdNumber (sym m.4) (omega (arith, abs_neg m.1))

ref-good : (bytes : List ℕ) (r : Ref) → IsRef bytes r → IsUtf8 bytes → IsRefInRange r
ref-good bytes r is u = id-good is.digits r.node is.id_is

member-good : (bytes : List ℕ) (m : Member) → IsMember bytes m → IsUtf8 bytes → IsMemberInRange m
member-good bytes m is u =
    let target = is.target in
    (id-good target.digits m.id target.id_is, string-text [] is.role m.role is.role_is (cut (target.letter ∷ target.digits) is.role 64 (omega arith) (subst IsUtf8 target.parts u)).behind)

-- ---- different keys

firsts-good : (tags : List Tag) → All IsTagOfTexts tags → All IsTagOfTexts (first_of_each tags)
firsts-good [] h = h
firsts-good (t ∷ tags) h =
    All-cons IsTagOfTexts t (filter (λ u. not (bytes_eq u.key t.key)) (first_of_each tags)) (All-head IsTagOfTexts t tags h)
    (All-filter (λ u. not (bytes_eq u.key t.key)) IsTagOfTexts (first_of_each tags) (firsts-good tags (All-tail IsTagOfTexts t tags h)))

-- ---- fields

pub record IsGood (c : Content) : Type 0 where
  pub tags : AreTags c.tags
  pub refs : AreRefs c.refs
  pub members : AreMembers c.members

nothing-good : IsGood nothing
nothing-good = record { tags = (All-nil IsTagOfTexts, tt); refs = All-nil IsRefInRange; members = All-nil IsMemberInRange }

tells-good : (meaning : Meaning) (value : List ℕ) (c d : Content) → Tells meaning value c d → IsUtf8 value → IsGood c → IsGood d
tells-good Count value c d t u h = subst IsGood t.1 h
tells-good Flag value c d t u h = subst IsGood t.2 (record { tags = h.tags; refs = h.refs; members = h.members })
tells-good Anything value c d t u h = subst IsGood t h
tells-good Name value c d t u h = subst IsGood t.2 h
tells-good X value c d t u h = subst IsGood t.2 (record { tags = h.tags; refs = h.refs; members = h.members })
tells-good Y value c d t u h = subst IsGood t.2 (record { tags = h.tags; refs = h.refs; members = h.members })
tells-good Tagged value c d t u h =
    subst IsGood t.2 (record { tags = (firsts-good t.0 (items-good IsTag IsTagOfTexts tag-good value t.0 t.1 u), first_differ t.0); refs = h.refs; members = h.members })
tells-good Referring value c d t u h = subst IsGood t.2 (record { tags = h.tags; refs = items-good IsRef IsRefInRange ref-good value t.0 t.1 u; members = h.members })
tells-good Having value c d t u h = subst IsGood t.2 (record { tags = h.tags; refs = h.refs; members = items-good IsMember IsMemberInRange member-good value t.0 t.1 u })

field-good : (kind : ObjectKind) (seen bytes : List ℕ) (c d : Content) → FieldTells kind seen bytes c d → IsUtf8 bytes → IsGood c → IsGood d
field-good kind seen [] c d t u h = absurd t
field-good kind seen (letter ∷ value) c d t u h = tells-good t.0 value c d t.3 (cut [] value letter (letter_ascii kind letter t.0 (sym t.1)) u).behind h

abbrev IsText : Part → Type 0
IsText f = IsUtf8 f.bytes

told-good : (kind : ObjectKind) (seen : List ℕ) (fields : List Part) (c d : Content) → Told kind seen fields c d → All IsText fields → IsGood c → IsGood d
told-good kind seen [] c d t u h = subst IsGood t h
told-good kind seen (f ∷ fields) c d t u h =
    told-good kind (get_or f.bytes 0 0 ∷ seen) fields t.0 d t.2 (All-tail IsText f fields u) (field-good kind seen f.bytes c t.0 t.1 (All-head IsText f fields u) h)

separator-low : (b : ℕ) → IsSeparator b → b < 128
separator-low b (inl e) = omega arith
separator-low b (inr e) = omega arith

field-text : (bytes text : List ℕ) → EndsField text → IsUtf8 (bytes ++ text) → IsUtf8 bytes × IsUtf8 text
field-text bytes [] e u = (subst IsUtf8 (append-nil bytes) u, IsUtf8-nil)
field-text bytes (b ∷ text) e u = let both = cut bytes text b (separator-low b e) u in (both.front, both.rest)

parts-text : (at : ℕ) (text : List ℕ) (fields : List Part) → Parted at text fields → IsUtf8 text → All IsText fields
parts-text at text fields (ends a) u = All-nil IsText
parts-text at text fields (separator a b t fs is p) u = parts-text (a + 1) t fs p (cut [] t b (separator-low b is) u).behind
parts-text at text fields (field a bytes t fs some lacks e p) u =
    let both = field-text bytes t e u in
    All-cons IsText (part a bytes) fs both.0 (parts-text (a + length bytes) t fs p both.1)

-- ---- objects

object-sound : (kind : ObjectKind) (id : ℤ) (c : Content) → IsIdNumber id → IsGood c → IsWellFormed (object_of kind id c)
object-sound Node id c range h = (range, h.tags)
object-sound Way id c range h = (range, h.tags, h.refs)
object-sound Relation id c range h = (range, h.tags, h.members)

pub spelled_is_sound : (line : List ℕ) (o : Object) → Spells line o → IsWellFormed o
spelled_is_sound line o s =
    let texts = parts-text 0 (without_cr line) _ s.fields s.utf8 in
    let others = All-tail IsText (part s.place (s.letter ∷ s.digits)) s.others texts in
    subst IsWellFormed s.is (object-sound s.kind s.id s.content (id-good s.digits s.id s.id_is) (told-good s.kind [] s.others nothing s.content s.told others nothing-good))
