-- Written fields, and a line of them: where its parts stand, and what they tell.
use Rattle.std.proofs.Common.{◌≡◌, ◌≢◌, ◌∙◌, ◌+◌, ◌<◌, ℕ, List, [], ◌∷◌, ◌++◌, length, map, Option, Some, None, refl, sym, ap, append_assoc, append-nil, inl, inr, arith, All, true, option_map}
use Rattle.std.specs.List.{join_with_byte}
use Rattle.std.proofs.lemmas.List.Elements.{All-nil, All-cons, All-append, All-head, All-tail, All-weaker}
use Rattle.osm_lattice.specs.declared.loc.Loc.{Loc}
use Rattle.osm_elements.specs.declared.object.Tag.{Tag}
use Rattle.osm_elements.specs.declared.object.Ref.{Ref}
use Rattle.osm_elements.specs.declared.object.Member.{Member}
use Rattle.osm_elements.specs.declared.object.ObjectKind.{ObjectKind}
use Rattle.osm_elements.specs.declared.object.ObjectKind.TheVariants.{Node, Way, Relation}
use Rattle.opl_reader.specs.declared.field.Meaning.TheVariants.{X, Y, Tagged, Referring, Having}
use Rattle.opl_reader.specs.declared.content.Content.{Content}
use Rattle.opl_reader.specs.Parts.{Part, part, Lacks, EndsField, Parted, ends, separator, field}
use Rattle.opl_reader.specs.Items.{IsTag, IsRef, IsMember}
use Rattle.opl_reader.specs.Fields.{letter_of, nothing, FieldTells, Told}
use Rattle.osm_notation.specs.Decimal.{units_text}
use Rattle.opl_writer.specs.Written.{ref_text, member_text, items_field, place_fields}
use Rattle.osm_notation.specs.Written.{tag_text}
use Rattle.opl_writer.specs.Writable.{AreTags, AreRefs, AreMembers, IsTagOfTexts, IsRefInRange, IsMemberInRange}
use Rattle.opl_writer.proofs.Bytes.{IsVisible, IsPrinted, visible_is_printed, visible_lacks_separators, number_is_visible}
use Rattle.opl_writer.proofs.ItemLemmas.{IsItem, tag_is_item, ref_is_item, member_is_item, items_are_read, different_kept, longitude_of, latitude_of, x_is_read, y_is_read, x-of_number, y-of_number}

-- ---- fields in a row

-- each field behind a space
abbrev pub spaced : List (List ℕ) → List ℕ
spaced [] = []
spaced (f ∷ fields) = 32 ∷ f ++ spaced fields

-- the parts that they are, behind what ends at a byte
abbrev pub placed : ℕ → List (List ℕ) → List Part
placed at [] = []
placed at (f ∷ fields) = part (at + 1) f ∷ placed (at + 1 + length f) fields

-- a field isn't empty, and is visible
pub record IsField (f : List ℕ) : Type 0 where
  pub some : 0 < length f
  pub visible : All IsVisible f

pub spaced-append : (fs gs : List (List ℕ)) → spaced (fs ++ gs) ≡ spaced fs ++ spaced gs
spaced-append [] gs = refl
spaced-append (f ∷ fs) gs = ap (λ (xs : List ℕ). 32 ∷ f ++ xs) (spaced-append fs gs) ∙ ap (λ (xs : List ℕ). 32 ∷ xs) (sym (append_assoc f (spaced fs) (spaced gs)))

space-ends : (fs : List (List ℕ)) → EndsField (spaced fs)
space-ends [] = tt
space-ends (f ∷ fs) = inl refl

pub fields_are_parted : (at : ℕ) (fs : List (List ℕ)) → All IsField fs → Parted at (spaced fs) (placed at fs)
fields_are_parted at [] h = ends at
fields_are_parted at (f ∷ fs) h =
    let here = All-head IsField f fs h in
    separator at 32 (f ++ spaced fs) (placed at (f ∷ fs)) (inl refl)
    (field (at + 1) f (spaced fs) (placed (at + 1 + length f) fs) here.some (visible_lacks_separators f here.visible) (space-ends fs) (fields_are_parted (at + 1 + length f) fs (All-tail IsField f fs h)))

-- with a first field
pub line_is_parted : (f : List ℕ) (fs : List (List ℕ)) → IsField f → All IsField fs → Parted 0 (f ++ spaced fs) (part 0 f ∷ placed (0 + length f) fs)
line_is_parted f fs here h = field 0 f (spaced fs) (placed (0 + length f) fs) here.some (visible_lacks_separators f here.visible) (space-ends fs) (fields_are_parted (0 + length f) fs h)

spaced-printed : (fs : List (List ℕ)) → All IsField fs → All IsPrinted (spaced fs)
spaced-printed [] h = All-nil IsPrinted
spaced-printed (f ∷ fs) h =
    All-cons IsPrinted 32 (f ++ spaced fs) (omega arith, omega arith)
    (All-append IsPrinted f (spaced fs) (visible_is_printed f (All-head IsField f fs h).visible) (spaced-printed fs (All-tail IsField f fs h)))

pub line_is_printed : (f : List ℕ) (fs : List (List ℕ)) → IsField f → All IsField fs → All IsPrinted (f ++ spaced fs)
line_is_printed f fs here h = All-append IsPrinted f (spaced fs) (visible_is_printed f here.visible) (spaced-printed fs h)

-- ---- fields of items

-- the field where there are items
abbrev pub listed : ℕ → List (List ℕ) → List (List ℕ)
listed letter [] = []
listed letter (item ∷ items) = (letter ∷ join_with_byte 44 (item ∷ items)) ∷ []

pub field-listed : (letter : ℕ) (items : List (List ℕ)) → items_field (letter ∷ []) items ≡ spaced (listed letter items)
field-listed letter [] = refl
field-listed letter (item ∷ items) = ap (λ (xs : List ℕ). 32 ∷ letter ∷ xs) (sym (append-nil (join_with_byte 44 (item ∷ items))))

-- a field of items that are read
listed-field : {A : Type 0} (spells : List ℕ → A → Type 0) (write : A → List ℕ) (letter : ℕ) → IsVisible letter → (xs : List A) → All (λ x. IsItem spells (write x) x) xs → All IsField (listed letter (map write xs))
listed-field spells write letter low [] h = All-nil IsField
listed-field spells write letter low (x ∷ xs) h =
    let bytes = join_with_byte 44 (map write (x ∷ xs)) in
    All-cons IsField (letter ∷ bytes) [] (record { some = omega arith; visible = All-cons IsVisible letter bytes low (items_are_read spells write x xs h).visible }) (All-nil IsField)

tags-read : (tags : List Tag) → AreTags tags → All (λ t. IsItem IsTag (tag_text t) t) tags
tags-read tags h = All-weaker IsTagOfTexts (λ t. IsItem IsTag (tag_text t) t) tag_is_item tags h.0

refs-read : (refs : List Ref) → AreRefs refs → All (λ r. IsItem IsRef (ref_text r) r) refs
refs-read = All-weaker IsRefInRange (λ r. IsItem IsRef (ref_text r) r) ref_is_item

members-read : (members : List Member) → AreMembers members → All (λ m. IsItem IsMember (member_text m) m) members
members-read = All-weaker IsMemberInRange (λ m. IsItem IsMember (member_text m) m) member_is_item

unfoldable pub tag_fields : List Tag → List (List ℕ)
tag_fields tags = listed 84 (map tag_text tags)

unfoldable pub ref_fields : List Ref → List (List ℕ)
ref_fields refs = listed 78 (map ref_text refs)

unfoldable pub member_fields : List Member → List (List ℕ)
member_fields members = listed 77 (map member_text members)

pub are_tag_fields : (tags : List Tag) → AreTags tags → All IsField (tag_fields tags)
unfolding tag_fields
are_tag_fields tags h = listed-field IsTag tag_text 84 (omega arith, omega arith) tags (tags-read tags h)

pub are_ref_fields : (refs : List Ref) → AreRefs refs → All IsField (ref_fields refs)
unfolding ref_fields
are_ref_fields refs h = listed-field IsRef ref_text 78 (omega arith, omega arith) refs (refs-read refs h)

pub are_member_fields : (members : List Member) → AreMembers members → All IsField (member_fields members)
unfolding member_fields
are_member_fields members h = listed-field IsMember member_text 77 (omega arith, omega arith) members (members-read members h)

-- ---- the fields of a location

abbrev pub point_fields : Option Loc → List (List ℕ)
point_fields None = []
point_fields (Some p) = (120 ∷ units_text p.x) ∷ (121 ∷ units_text p.y) ∷ []

number-field : (letter : ℕ) (bytes : List ℕ) → IsVisible letter → All IsVisible bytes → IsField (letter ∷ bytes)
number-field letter bytes low h = record { some = omega arith; visible = All-cons IsVisible letter bytes low h }

pub are_point_fields : (place : Option Loc) → All IsField (point_fields place)
are_point_fields None = All-nil IsField
are_point_fields (Some p) =
    All-cons IsField (120 ∷ units_text p.x) ((121 ∷ units_text p.y) ∷ []) (number-field 120 (units_text p.x) (omega arith, omega arith) (number_is_visible (units_text p.x) (x-of_number p)))
    (All-cons IsField (121 ∷ units_text p.y) [] (number-field 121 (units_text p.y) (omega arith, omega arith) (number_is_visible (units_text p.y) (y-of_number p))) (All-nil IsField))

pub place-spaced : (place : Option Loc) → place_fields place ≡ spaced (point_fields place)
place-spaced None = refl
place-spaced (Some p) =
    ap (λ (xs : List ℕ). 32 ∷ 120 ∷ xs)
    (append_assoc (units_text p.x) (32 ∷ 121 ∷ []) (units_text p.y) ∙ ap (λ (ys : List ℕ). units_text p.x ++ 32 ∷ 121 ∷ ys) (sym (append-nil (units_text p.y))))

-- ---- what the fields tell

-- what is known behind the tags
abbrev pub tagged : List Tag → Content
tagged tags = record { live = true; x = None; y = None; tags = tags; refs = []; members = [] }

-- at most the letter of tags was seen
abbrev OnlyTags : List ℕ → Type 0
OnlyTags seen = All (λ (s : ℕ). s ≡ 84) seen

lacks : (letter : ℕ) → letter ≢ 84 → (seen : List ℕ) → OnlyTags seen → Lacks letter seen
lacks letter other = All-weaker (λ (s : ℕ). s ≡ 84) (λ (s : ℕ). s ≢ letter) (λ s is e. other (sym e ∙ is))

tags-letter : (kind : ObjectKind) → letter_of kind 84 ≡ Some Tagged
unfolding letter_of
tags-letter Node = refl
tags-letter Way = refl
tags-letter Relation = refl

tags-tell : (kind : ObjectKind) (t : Tag) (tags : List Tag) → AreTags (t ∷ tags) → FieldTells kind [] (84 ∷ join_with_byte 44 (map tag_text (t ∷ tags))) nothing (tagged (t ∷ tags))
tags-tell kind t tags h =
    let items = items_are_read IsTag tag_text t tags (tags-read (t ∷ tags) h) in
    (Tagged, tags-letter kind, All-nil (λ (x : ℕ). x ≢ 84), (t ∷ tags, inr items.items, ap tagged (different_kept (t ∷ tags) h.1)))

-- fields behind those of the tags
pub behind_tags : (kind : ObjectKind) (tags : List Tag) → AreTags tags → (fs : List (List ℕ)) (d : Content) → ((seen : List ℕ) (at : ℕ) → OnlyTags seen → Told kind seen (placed at fs) (tagged tags) d)
    → (at : ℕ) → Told kind [] (placed at (tag_fields tags ++ fs)) nothing d
unfolding tag_fields
behind_tags kind [] h fs d rest at = rest [] at (All-nil (λ (s : ℕ). s ≡ 84))
behind_tags kind (t ∷ tags) h fs d rest at =
    (tagged (t ∷ tags), tags-tell kind t tags h, rest (84 ∷ []) (at + 1 + length (84 ∷ join_with_byte 44 (map tag_text (t ∷ tags)))) (All-cons (λ (s : ℕ). s ≡ 84) 84 [] refl (All-nil (λ (s : ℕ). s ≡ 84))))

-- the content of a node, a way and a relation
abbrev pub of_node : List Tag → Option Loc → Content
of_node tags place = record (tagged tags) { x = option_map longitude_of place; y = option_map latitude_of place }

abbrev pub of_way : List Tag → List Ref → Content
of_way tags refs = record (tagged tags) { refs = refs }

abbrev pub of_relation : List Tag → List Member → Content
of_relation tags members = record (tagged tags) { members = members }

x-letter : letter_of Node 120 ≡ Some X
unfolding letter_of
x-letter = refl

y-letter : letter_of Node 121 ≡ Some Y
unfolding letter_of
y-letter = refl

refs-letter : letter_of Way 78 ≡ Some Referring
unfolding letter_of
refs-letter = refl

members-letter : letter_of Relation 77 ≡ Some Having
unfolding letter_of
members-letter = refl

pub place_told : (tags : List Tag) (place : Option Loc) (seen : List ℕ) (at : ℕ) → OnlyTags seen → Told Node seen (placed at (point_fields place)) (tagged tags) (of_node tags place)
place_told tags None seen at only = refl
place_told tags (Some p) seen at only =
    let before : Lacks 121 (120 ∷ seen) = All-cons (λ (x : ℕ). x ≢ 121) 120 seen (λ e. absurd (omega arith)) (lacks 121 (λ e. absurd (omega arith)) seen only) in (
      record (tagged tags) { x = Some (longitude_of p) },
      (X, x-letter, lacks 120 (λ e. absurd (omega arith)) seen only, (Some (longitude_of p), x_is_read p, refl)),
      (of_node tags (Some p), (Y, y-letter, before, (Some (latitude_of p), y_is_read p, refl)), refl),
    )

pub refs_told : (tags : List Tag) (refs : List Ref) → AreRefs refs → (seen : List ℕ) (at : ℕ) → OnlyTags seen → Told Way seen (placed at (ref_fields refs)) (tagged tags) (of_way tags refs)
unfolding ref_fields
refs_told tags [] h seen at only = refl
refs_told tags (r ∷ refs) h seen at only =
    let items = items_are_read IsRef ref_text r refs (refs-read (r ∷ refs) h) in
    (of_way tags (r ∷ refs), (Referring, refs-letter, lacks 78 (λ e. absurd (omega arith)) seen only, (r ∷ refs, inr items.items, refl)), refl)

pub members_told : (tags : List Tag) (members : List Member) → AreMembers members → (seen : List ℕ) (at : ℕ) → OnlyTags seen → Told Relation seen (placed at (member_fields members)) (tagged tags) (of_relation tags members)
unfolding member_fields
members_told tags [] h seen at only = refl
members_told tags (m ∷ members) h seen at only =
    let items = items_are_read IsMember member_text m members (members-read (m ∷ members) h) in
    (of_relation tags (m ∷ members), (Having, members-letter, lacks 77 (λ e. absurd (omega arith)) seen only, (m ∷ members, inr items.items, refl)), refl)
