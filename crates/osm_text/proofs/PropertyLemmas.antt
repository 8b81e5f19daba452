-- The members of a map beside the tags that they stand for.
use Rattle.std.proofs.Common.{◌≡◌, ◌∙◌, ℕ, Bool, true, false, ◌||◌, List, [], ◌∷◌, ◌++◌, Option, Some, map, is_some, String, Global, string_bytes, string_cmp, nat_cmp, Ordering, Less, Equal, Greater, is_eq, bytes_eq, true≢false, refl, sym, ap, append_assoc, rules}
use Rattle.std.specs.List.{join_with_byte, list_any}
use Rattle.std.specs.Map.{lookup}
use Rattle.std.specs.Ordering.{match_ordering}
use Rattle.std.specs.Cmp.Lexicographic.{slice_cmp}
use Rattle.std.specs.BTreeMap.{insert_entry, is_at}
use Rattle.std.proofs.lemmas.Map.Text.{is_eq-slice_cmp}
use Rattle.json.specs.Print.{quoted}
use Rattle.serde_json.specs.Data.{Data, string, object, Members, member, put}
use Rattle.serde_json.specs.Find.{get_member}
use Rattle.serde_json.specs.View.{view, members_view}
use Rattle.serde_json.specs.Written.{compact_text, has_float, members_have_float}
use Rattle.serde_json.specs.Written as written
use Rattle.serde_json.specs.declared.value.Value.{Value, the_lemmas}
use Rattle.serde_json.specs.declared.value.Value as value
use Rattle.serde_json.proofs.Views.{Entry, members_view-insert_entry, view-lookup}
use Rattle.osm_elements.specs.declared.object.Tag.{Tag}
use Rattle.osm_text.specs.Members.{tag_members}
use Rattle.osm_text.specs.Properties.{by_key, properties_text, put_tag, string_text, tag_member_text, with_tag}
use Rattle.osm_text.specs.Rows.{led_by_byte}
use Rattle.osm_text.proofs.EscapeLemmas.{quoted-string}
use Rattle.osm_text.proofs.RowLemmas.{led-list}
use Rattle.lists.proofs.ListsKit.{is_some-map}

-- ---- a key is there where a tag has it

is_some-match : (o : Ordering) (d : Data) (rest : Option Data) → is_some (match_ordering o rest (Some d) rest) ≡ (is_eq o || is_some rest)
is_some-match Less d rest = refl
is_some-match Equal d rest = refl
is_some-match Greater d rest = refl

is_some-member : (key : List ℕ) (tags : List Tag) → is_some (get_member key (tag_members tags)) ≡ list_any (λ u. bytes_eq key u.key) tags
is_some-member key [] = refl
is_some-member key (u ∷ tags) =
    is_some-match (slice_cmp nat_cmp key u.key) (string u.value) (get_member key (tag_members tags)) ∙ rw (is_eq-slice_cmp key u.key, is_some-member key tags) refl

pub is_there : (key : List ℕ) (es : List Entry) (tags : List Tag) → members_view es ≡ tag_members tags
    → is_some (lookup (is_at (λ k. slice_cmp nat_cmp key (string_bytes k))) es) ≡ list_any (λ u. bytes_eq key u.key) tags
is_there key es tags same =
    sym (is_some-map view (lookup (is_at (λ k. slice_cmp nat_cmp key (string_bytes k))) es)) ∙ ap is_some (view-lookup key es) ∙ ap (λ (ms : Members). is_some (get_member key ms)) same ∙ is_some-member key tags

-- ---- a tag that is put

pub view-String : (s : String Global) → view (value.String s) ≡ string (string_bytes s)
view-String s = search (rules, the_lemmas)

put-at : (o : Ordering) (t u : Tag) (tags below : List Tag) (ms : Members) → is_eq o ≡ false → tag_members below ≡ ms
    → tag_members (match_ordering o (t ∷ u ∷ tags) (u ∷ below) (u ∷ below)) ≡ match_ordering o (member t.key (string t.value) (tag_members (u ∷ tags))) (member u.key (string t.value) (tag_members tags)) (member u.key (string u.value) ms)
put-at Less t u tags below ms apart rest = refl
put-at Equal t u tags below ms apart rest = absurd (true≢false apart)
put-at Greater t u tags below ms apart rest = ap (member u.key (string u.value)) rest

pub or-left : (a b : Bool) → (a || b) ≡ false → a ≡ false
or-left true b none = absurd (true≢false none)
or-left false b none = refl

pub or-right : (a b : Bool) → (a || b) ≡ false → b ≡ false
or-right true b none = absurd (true≢false none)
or-right false b none = none

pub members-put_tag : (t : Tag) (tags : List Tag) → list_any (λ u. bytes_eq t.key u.key) tags ≡ false → tag_members (put_tag t tags) ≡ put t.key (string t.value) (tag_members tags)
members-put_tag t [] absent = refl
members-put_tag t (u ∷ tags) absent =
    put-at (slice_cmp nat_cmp t.key u.key) t u tags (put_tag t tags) (put t.key (string t.value) (tag_members tags)) (is_eq-slice_cmp t.key u.key ∙ or-left (bytes_eq t.key u.key) (list_any (λ w. bytes_eq t.key w.key) tags) absent) (members-put_tag t tags (or-right (bytes_eq t.key u.key) (list_any (λ w. bytes_eq t.key w.key) tags) absent))

pub members-insert : (es : List Entry) (k : String Global) (v : Value) (t : Tag) (tags : List Tag) → members_view es ≡ tag_members tags → string_bytes k ≡ t.key → view v ≡ string t.value
    → list_any (λ u. bytes_eq t.key u.key) tags ≡ false → members_view (insert_entry string_cmp es k v) ≡ tag_members (with_tag tags t)
members-insert es k v t tags same key value absent =
    rw absent (members_view-insert_entry es k v ∙ rw (key, value, same) (sym (members-put_tag t tags absent)))

pub members-there : (t : Tag) (tags : List Tag) → list_any (λ u. bytes_eq t.key u.key) tags ≡ true → tag_members (with_tag tags t) ≡ tag_members tags
members-there t tags there = rw there refl

-- ---- the text

pub no_float : (tags : List Tag) → members_have_float (tag_members tags) ≡ false
no_float [] = refl
no_float (t ∷ tags) = no_float tags

-- a member in front of what follows it
join : (comma key value more end : List ℕ) → comma ++ (key ++ 58 ∷ (value ++ (more ++ end))) ≡ (comma ++ (key ++ 58 ∷ [] ++ value) ++ more) ++ end
join comma key value more end = simp append_assoc

member_with : (comma : List ℕ) (t : Tag) (text more : List ℕ) → text ≡ more ++ 125 ∷ [] → comma ++ (quoted t.key ++ 58 ∷ (quoted t.value ++ text)) ≡ (comma ++ tag_member_text t ++ more) ++ 125 ∷ []
member_with comma t text more is =
    ap (λ (xs : List ℕ). comma ++ (quoted t.key ++ 58 ∷ (quoted t.value ++ xs))) is
    ∙ ap (λ (key : List ℕ). comma ++ (key ++ 58 ∷ (quoted t.value ++ (more ++ 125 ∷ [])))) (quoted-string t.key)
    ∙ ap (λ (value : List ℕ). comma ++ (string_text t.key ++ 58 ∷ (value ++ (more ++ 125 ∷ [])))) (quoted-string t.value)
    ∙ join comma (string_text t.key) (string_text t.value) more (125 ∷ [])

-- members behind commas
later : (tags : List Tag) → written.members_text true (tag_members tags) ≡ led_by_byte 44 (map tag_member_text tags) ++ 125 ∷ []
later [] = refl
later (t ∷ tags) = member_with (44 ∷ []) t (written.members_text true (tag_members tags)) (led_by_byte 44 (map tag_member_text tags)) (later tags)

object_is : (tags : List Tag) → compact_text (object (tag_members tags)) ≡ 123 ∷ join_with_byte 44 (map tag_member_text tags) ++ 125 ∷ []
object_is [] = refl
object_is (t ∷ tags) =
    member_with (123 ∷ []) t (written.members_text true (tag_members tags)) (led_by_byte 44 (map tag_member_text tags)) (later tags)
    ∙ led-list 123 125 (tag_member_text t) (map tag_member_text tags)

pub text_is : (tags : List Tag) → compact_text (object (tag_members (by_key tags))) ≡ properties_text tags
text_is tags = object_is (by_key tags)
