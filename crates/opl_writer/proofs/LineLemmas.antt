-- A written line spells its object, and no newline stands in it.
use Rattle.std.proofs.Common.{◌≡◌, ◌∙◌, ◌+◌, ◌-◌, ◌≤◌, ◌<◌, ◌==◌, ◌&&◌, ℕ, ℤ, Bool, true, false, if◌then◌else◌, List, [], ◌∷◌, ◌++◌, length, take, get_or, map, Option, Some, None, refl, sym, ap, subst, append_assoc, arith, All, inl, inr, ◌⊎◌, option_map}
use Rattle.std.specs.Prelude.{nat_lt, slice_index}
use Rattle.std.specs.Str.{IsUtf8}
use Rattle.std.specs.Fmt.{signed_decimal}
use Rattle.std.proofs.lemmas.Bool.{ltb-true, ne_eqb, cases_lt}
use Rattle.std.proofs.lemmas.List.Elements.{All-cons, All-append}
use Rattle.std.proofs.lemmas.List.{get_or_past}
use Rattle.std.proofs.lemmas.Str.{IsUtf8-from_ascii}
use Rattle.osm_lattice.specs.declared.loc.Loc.{Loc}
use Rattle.osm_elements.specs.declared.object.Tag.{Tag}
use Rattle.osm_elements.specs.declared.object.Ref.{Ref}
use Rattle.osm_elements.specs.declared.object.Member.{Member}
use Rattle.osm_elements.specs.declared.object.ObjectKind.{ObjectKind}
use Rattle.osm_elements.specs.declared.object.ObjectKind.TheVariants.{Node, Way, Relation}
use Rattle.osm_elements.specs.declared.object.Object.{Object}
use Rattle.osm_elements.specs.declared.object.Object.TheVariants as object
use Rattle.opl_reader.specs.declared.content.Content.{Content}
use Rattle.opl_reader.specs.Parts.{without_cr, Lacks, Parted, part}
use Rattle.opl_reader.specs.Items.{kind_by_letter}
use Rattle.osm_elements.specs.Places.{location_from}
use Rattle.opl_reader.specs.Fields.{nothing, object_of, Told}
use Rattle.opl_reader.specs.Spells.{Spells}
use Rattle.opl_writer.specs.Written.{ref_text, member_text, tags_field, refs_field, members_field, place_fields, node_line, way_line, relation_line, object_line}
use Rattle.osm_notation.specs.Written.{tag_text}
use Rattle.opl_writer.specs.Writable.{IsIdNumber, AreTags, AreRefs, AreMembers, IsWritable}
use Rattle.opl_writer.proofs.Bytes.{IsVisible, IsPrinted, printed_lacks, number_is_visible}
use Rattle.opl_writer.proofs.NumberLemmas.{id_is_read, id-of_number}
use Rattle.opl_writer.proofs.ItemLemmas.{longitude_of, latitude_of}
use Rattle.opl_writer.proofs.FieldLemmas.{spaced, placed, IsField, spaced-append, line_is_parted, line_is_printed, field-listed, tag_fields, ref_fields, member_fields, are_tag_fields, are_ref_fields, are_member_fields, point_fields, are_point_fields, place-spaced, behind_tags, of_node, of_way, of_relation, place_told, refs_told, members_told}

-- ---- a line of printed characters

pub printed_is_utf8 : (line : List ℕ) → All IsPrinted line → IsUtf8 line
printed_is_utf8 line h = IsUtf8-from_ascii line (λ i. by i (cases_lt i (length line)))
  where
    by : (i : ℕ) → (i < length line) ⊎ (length line ≤ i) → get_or line i 0 < 128
    by i (inl lt) = omega (arith, (h i 0 lt).1)
    by i (inr le) = omega (arith, get_or_past line i 0 le)

pub no_return : (line : List ℕ) → All IsPrinted line → without_cr line ≡ line
no_return line h = by (nat_lt 0 (length line)) refl
  where
    by : (b : Bool) → nat_lt 0 (length line) ≡ b → (if b && slice_index line (length line - 1) == 13 then take (length line - 1) line else line) ≡ line
    by true some =
        let above = ltb-true 0 (length line) some in
        let low = (h (length line - 1) 0 (omega arith)).0 in
        rw (ne_eqb (slice_index line (length line - 1)) 13 (λ e. absurd (omega arith))) refl
    by false none = refl

-- ---- a line and its object

pub record Writes (line : List ℕ) (o : Object) : Type 0 where
  pub spelled : Spells line o
  pub printed : All IsPrinted line

writes : (kind : ObjectKind) (letter : ℕ) (id : ℤ) (fs : List (List ℕ)) (content : Content) (line : List ℕ) (o : Object) → line ≡ (letter ∷ signed_decimal id) ++ spaced fs
    → kind_by_letter letter ≡ Some kind → IsVisible letter → IsIdNumber id → All IsField fs → ((at : ℕ) → Told kind [] (placed at fs) nothing content) → object_of kind id content ≡ o → Writes line o
writes kind letter id fs content line o is kind_is low range fields told object_is =
    let head = letter ∷ signed_decimal id in
    let first : IsField head = record { some = omega arith; visible = All-cons IsVisible letter (signed_decimal id) low (number_is_visible (signed_decimal id) (id-of_number id range)) } in
    let printed : All IsPrinted (head ++ spaced fs) = line_is_printed head fs first fields in
    let same : without_cr (head ++ spaced fs) ≡ head ++ spaced fs = no_return (head ++ spaced fs) printed in
    subst (λ (l : List ℕ). Writes l o) (sym is) (record {
      spelled = record {
        place = 0;
        letter = letter;
        digits = signed_decimal id;
        others = placed (0 + length head) fs;
        kind = kind;
        id = id;
        content = content;
        utf8 = subst IsUtf8 (sym same) (printed_is_utf8 (head ++ spaced fs) printed);
        fields = subst (λ (l : List ℕ). Parted 0 l (part 0 head ∷ placed (0 + length head) fs)) (sym same) (line_is_parted head fs first fields);
        kind_is = kind_is;
        id_is = id_is_read id range;
        told = told (0 + length head);
        is = object_is;
      };
      printed = printed;
    })

-- ---- the line's fields in a row

in_row : (head tags others : List ℕ) (fs gs : List (List ℕ)) → tags ≡ spaced fs → others ≡ spaced gs → head ++ tags ++ others ≡ head ++ spaced (fs ++ gs)
in_row head tags others fs gs e f =
    append_assoc head tags others ∙ ap (λ (xs : List ℕ). head ++ xs) (ap (λ (xs : List ℕ). xs ++ others) e ∙ ap (λ (xs : List ℕ). spaced fs ++ xs) f ∙ sym (spaced-append fs gs))

tags-row : (tags : List Tag) → tags_field tags ≡ spaced (tag_fields tags)
unfolding tag_fields
tags-row tags = field-listed 84 (map tag_text tags)

refs-row : (refs : List Ref) → refs_field refs ≡ spaced (ref_fields refs)
unfolding ref_fields
refs-row refs = field-listed 78 (map ref_text refs)

members-row : (members : List Member) → members_field members ≡ spaced (member_fields members)
unfolding member_fields
members-row members = field-listed 77 (map member_text members)

place-is : (place : Option Loc) → location_from (option_map longitude_of place) (option_map latitude_of place) ≡ place
place-is None = refl
place-is (Some p) = refl

-- ---- objects

node-writes : (id : ℤ) (live : Bool) (tags : List Tag) (place : Option Loc) → live ≡ true → IsIdNumber id → AreTags tags → Writes (node_line id tags place) (object.Node id live tags place)
node-writes id live tags place lives range are =
    let fields = All-append IsField (tag_fields tags) (point_fields place) (are_tag_fields tags are) (are_point_fields place) in
    writes Node 110 id (tag_fields tags ++ point_fields place) (of_node tags place) (node_line id tags place) (object.Node id live tags place)
    (in_row (110 ∷ signed_decimal id) (tags_field tags) (place_fields place) (tag_fields tags) (point_fields place) (tags-row tags) (place-spaced place))
    refl (omega arith, omega arith) range fields (behind_tags Node tags are (point_fields place) (of_node tags place) (place_told tags place))
    (ap (object.Node id true tags) (place-is place) ∙ ap (λ (b : Bool). object.Node id b tags place) (sym lives))

way-writes : (id : ℤ) (live : Bool) (tags : List Tag) (refs : List Ref) → live ≡ true → IsIdNumber id → AreTags tags → AreRefs refs → Writes (way_line id tags refs) (object.Way id live tags refs)
way-writes id live tags refs lives range are named =
    let fields = All-append IsField (tag_fields tags) (ref_fields refs) (are_tag_fields tags are) (are_ref_fields refs named) in
    writes Way 119 id (tag_fields tags ++ ref_fields refs) (of_way tags refs) (way_line id tags refs) (object.Way id live tags refs)
    (in_row (119 ∷ signed_decimal id) (tags_field tags) (refs_field refs) (tag_fields tags) (ref_fields refs) (tags-row tags) (refs-row refs))
    refl (omega arith, omega arith) range fields (behind_tags Way tags are (ref_fields refs) (of_way tags refs) (refs_told tags refs named))
    (ap (λ (b : Bool). object.Way id b tags refs) (sym lives))

relation-writes : (id : ℤ) (live : Bool) (tags : List Tag) (members : List Member) → live ≡ true → IsIdNumber id → AreTags tags → AreMembers members → Writes (relation_line id tags members) (object.Relation id live tags members)
relation-writes id live tags members lives range are named =
    let fields = All-append IsField (tag_fields tags) (member_fields members) (are_tag_fields tags are) (are_member_fields members named) in
    writes Relation 114 id (tag_fields tags ++ member_fields members) (of_relation tags members) (relation_line id tags members) (object.Relation id live tags members)
    (in_row (114 ∷ signed_decimal id) (tags_field tags) (members_field members) (tag_fields tags) (member_fields members) (tags-row tags) (members-row members))
    refl (omega arith, omega arith) range fields (behind_tags Relation tags are (member_fields members) (of_relation tags members) (members_told tags members named))
    (ap (λ (b : Bool). object.Relation id b tags members) (sym lives))

pub object_is_written : (o : Object) → IsWritable o → Writes (object_line o) o
object_is_written (object.Node id live tags place) h = node-writes id live tags place h.0 h.1.0 h.1.1
object_is_written (object.Way id live tags refs) h = way-writes id live tags refs h.0 h.1.0 h.1.1 h.1.2
object_is_written (object.Relation id live tags members) h = relation-writes id live tags members h.0 h.1.0 h.1.1 h.1.2

pub no_newline : (o : Object) → IsWritable o → Lacks 10 (object_line o)
no_newline o h = printed_lacks 10 (omega arith) (object_line o) (object_is_written o h).printed
