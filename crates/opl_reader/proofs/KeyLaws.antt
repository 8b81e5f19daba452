-- The tags of an object have different keys.
use Rattle.std.proofs.Common.{◌≢◌, ℕ, Bool, not, List, [], ◌∷◌, Option, Some, None, Result, Ok, Err, ℤ, sym, subst, ◌∙◌, inl, inr}
use Rattle.std.specs.Prelude.{IfOk, IfSome}
use Rattle.std.specs.List.{filter, AllByRecursion}
use Rattle.std.specs.Str.{bytes_eq}
use Rattle.std.proofs.lemmas.Bool.{cases_Bool, false≢true}
use Rattle.std.proofs.lemmas.Slice.Eq.{bytes_eq-Decides}
use Rattle.opl_reader.specs.declared.fault.LineError.{LineError}
use Rattle.osm_elements.specs.declared.object.Tag.{Tag}
use Rattle.osm_elements.specs.declared.object.Object.{Object}
use Rattle.osm_elements.specs.declared.object.ObjectKind.{ObjectKind}
use Rattle.osm_elements.specs.declared.object.ObjectKind.TheVariants.{Node, Way, Relation}
use Rattle.opl_reader.specs.declared.field.Meaning.{Meaning}
use Rattle.opl_reader.specs.declared.field.Meaning.TheVariants.{Count, Flag, Anything, Name, X, Y, Tagged, Referring, Having}
use Rattle.opl_reader.specs.declared.content.Content.{Content}
use Rattle.opl_reader.specs.Parts.{Part}
use Rattle.opl_reader.specs.Items.{first_of_each, HaveDifferentKeys}
use Rattle.opl_reader.specs.Fields.{Tells, FieldTells, Told, nothing, object_of}
use Rattle.opl_reader.specs.Reading.{Gives}
use Rattle.opl_reader.specs.LineReading.{reading}
use Rattle.opl_reader.specs.Spells.{Spells, tags_of}
use Rattle.opl_reader.proofs.LineLaws.{read_spells}

others_differ : (key : List ℕ) (tags : List Tag) → AllByRecursion (λ u. u.key ≢ key) (filter (λ u. not (bytes_eq u.key key)) tags)
others_differ key [] = tt
others_differ key (t ∷ tags) =
    elim (cases_Bool (bytes_eq t.key key)) [
      | inl same ↦ rw same (others_differ key tags)
      | inr other ↦ rw other ((λ e. false≢true (sym other ∙ (bytes_eq-Decides t.key key).1 e)), others_differ key tags)
    ]

filter-all : (P : Tag → Type 0) (q : Tag → Bool) (tags : List Tag) → AllByRecursion P tags → AllByRecursion P (filter q tags)
filter-all P q [] h = tt
filter-all P q (t ∷ tags) h =
    elim (cases_Bool (q t)) [
      | inl stays ↦ rw stays (h.0, filter-all P q tags h.1)
      | inr goes ↦ rw goes (filter-all P q tags h.1)
    ]

filter-differ : (q : Tag → Bool) (tags : List Tag) → HaveDifferentKeys tags → HaveDifferentKeys (filter q tags)
filter-differ q [] h = tt
filter-differ q (t ∷ tags) h =
    elim (cases_Bool (q t)) [
      | inl stays ↦ rw stays (filter-all (λ u. u.key ≢ t.key) q tags h.0, filter-differ q tags h.1)
      | inr goes ↦ rw goes (filter-differ q tags h.1)
    ]

pub first_differ : (tags : List Tag) → HaveDifferentKeys (first_of_each tags)
first_differ [] = tt
first_differ (t ∷ tags) = (others_differ t.key (first_of_each tags), filter-differ (λ u. not (bytes_eq u.key t.key)) (first_of_each tags) (first_differ tags))

abbrev Differ : Content → Type 0
Differ c = HaveDifferentKeys c.tags

tells_differ : (meaning : Meaning) (value : List ℕ) (c d : Content) → Tells meaning value c d → Differ c → Differ d
tells_differ Count value c d t h = subst Differ t.1 h
tells_differ Flag value c d t h = subst Differ t.2 h
tells_differ Anything value c d t h = subst Differ t h
tells_differ Name value c d t h = subst Differ t.2 h
tells_differ X value c d t h = subst Differ t.2 h
tells_differ Y value c d t h = subst Differ t.2 h
tells_differ Tagged value c d t h = subst Differ t.2 (first_differ t.0)
tells_differ Referring value c d t h = subst Differ t.2 h
tells_differ Having value c d t h = subst Differ t.2 h

field_differ : (kind : ObjectKind) (seen field : List ℕ) (c d : Content) → FieldTells kind seen field c d → Differ c → Differ d
field_differ kind seen [] c d t h = absurd t
field_differ kind seen (letter ∷ value) c d t h = tells_differ t.0 value c d t.3 h

told_differ : (kind : ObjectKind) (seen : List ℕ) (fields : List Part) (c d : Content) → Told kind seen fields c d → Differ c → Differ d
told_differ kind seen [] c d t h = subst Differ t h
told_differ kind seen (f ∷ fields) c d t h = told_differ kind _ fields t.0 d t.2 (field_differ kind seen f.bytes c t.0 t.1 h)

object_differ : (kind : ObjectKind) (id : ℤ) (c : Content) → Differ c → HaveDifferentKeys (tags_of (object_of kind id c))
object_differ Node id c h = h
object_differ Way id c h = h
object_differ Relation id c h = h

spells_differ : (line : List ℕ) (o : Object) → Spells line o → HaveDifferentKeys (tags_of o)
spells_differ line o s = subst (λ (x : Object). HaveDifferentKeys (tags_of x)) s.is (object_differ s.kind s.id s.content (told_differ s.kind [] s.others nothing s.content s.told tt))

pub clause-keys : (line : List ℕ) (r : Result (Option Object) LineError) → Gives r (reading line) → IfOk r (λ o. IfSome o (λ x. HaveDifferentKeys (tags_of x)))
clause-keys line (Ok None) g = tt
clause-keys line (Ok (Some o)) g = spells_differ line o (read_spells line o g)
clause-keys line (Err e) g = tt
