-- The objects that the lines of an input tell can be written, and those that good lines tell are apart.
use Rattle.std.proofs.Common.{◌≡◌, ◌∙◌, refl, sym, ap, subst, cond, ℕ, ◌&&◌, Bool, true, false, if◌then◌else◌, Option, None, Some, Result, Ok, Err, List, [], ◌∷◌, ◌++◌, length, filter, append-nil, append_assoc, All}
use Rattle.std.specs.Prelude.{IsTrue, nat_lt, is_some}
use Rattle.std.specs.List.{cons_option, filter_map}
use Rattle.std.proofs.lemmas.List.Elements.{All-cons, All-nil}
use Rattle.opl_reader.specs.declared.fault.LineFault.{LineFault}
use Rattle.osm_elements.specs.declared.object.Object.{Object}
use Rattle.osm_elements.specs.declared.object.Object.TheVariants as object
use Rattle.opl_reader.specs.LineReading.{reading}
use Rattle.opl_reader.specs.Lines.{lines_of}
use Rattle.opl_reader.specs.OneAnswer.{IsAnswer}
use Rattle.opl_reader.specs.Spells.{Spells}
use Rattle.opl_reader.specs.Told.{object_in, object_told}
use Rattle.opl_writer.specs.Writable.{IsLive, IsWellFormed, IsWritable}
use Rattle.osm_objects.specs.Object.{id_of, is_live, kind_of, ref_of}
use Rattle.osm_objects.specs.Objects.{AreApart, is_duplicate, object_at}
use Rattle.osm_objects.proofs.ObjectsKit.{one_more_apart}
use Rattle.osm_input.specs.Input.{AreGood, fault_in, objects_told}
use Rattle.osm_input.specs.declared.fault.InputFault.{InputFault}
use Rattle.osm_input.specs.declared.fault.InputFault.TheVariants.{Duplicate, TooLong}
use Rattle.osm_input.proofs.InputKit.{one_more_told}
use Rattle.lists.proofs.ListsKit.{all-in, in-all, none_from}
use Rattle.opl_writer.specs.ReadBack.Laws.{ReadObjectsCanBeWritten, SpelledObjectsCanBeWritten}

-- what the crates below say of lines, and of what they spell
abbrev pub Answers : Type 0
Answers = (line : List ℕ) → IsAnswer line

abbrev pub SpelledSound : Type 0
SpelledSound = (line : List ℕ) (o : Object) → Spells line o → IsWellFormed o

-- ---- each can be written

live_of : (o : Object) → is_live o ≡ true → IsLive o
live_of (object.Node id live tags place) e = e
live_of (object.Way id live tags refs) e = e
live_of (object.Relation id live tags members) e = e

module _ (answers : Answers) (sound : SpelledSound) where
  keep_one : (line : List ℕ) (o : Object) (rest : List Object) (b : Bool) → is_live o ≡ b → reading line ≡ Ok (Some o) → All IsWritable rest → All IsWritable (cond b (o ∷ rest) rest)
  keep_one line o rest true live read all = All-cons IsWritable o rest (live_of o live, sound line o (((answers line).object o).0 read)) all
  keep_one line o rest false live read all = all

  keep_told : (line : List ℕ) (lines : List (List ℕ)) (r : Result (Option Object) LineFault) → reading line ≡ r → All IsWritable (objects_told lines) → All IsWritable (filter is_live (cons_option (object_in r) (filter_map object_told lines)))
  keep_told line lines (Err fault) read all = all
  keep_told line lines (Ok None) read all = all
  keep_told line lines (Ok (Some o)) read all = keep_one line o (objects_told lines) (is_live o) refl read all

  told_writable : (lines : List (List ℕ)) → All IsWritable (objects_told lines)
  told_writable [] = All-nil IsWritable
  told_writable (line ∷ lines) = keep_told line lines (reading line) refl (told_writable lines)

-- ---- no two have one kind and id

no_duplicate : (b : Bool) (fault : InputFault) → (if b then Some fault else None) ≡ None → b ≡ false
no_duplicate true fault none = absurd (cc)
no_duplicate false fault none = refl

no_fault : (b : Bool) (fault : InputFault) (rest : Option InputFault) → (if b then Some fault else rest) ≡ None → rest ≡ None
no_fault true fault rest none = absurd (cc)
no_fault false fault rest none = none

with_live : (earlier : List Object) (o : Object) (live : Bool) → is_live o ≡ live → AreApart earlier → is_duplicate earlier o ≡ false → AreApart (earlier ++ cond live (o ∷ []) [])
with_live earlier o true e apart new =
    one_more_apart earlier o apart (none_from (object_at earlier (ref_of o)) (sym (ap (λ (b : Bool). b && is_some (object_at earlier (ref_of o))) e) ∙ new))
with_live earlier o false e apart new = subst AreApart (sym (append-nil earlier)) apart

with_read : (earlier : List Object) (r : Result (Option Object) LineFault) → AreApart earlier → fault_in earlier r ≡ None → AreApart (earlier ++ filter is_live (cons_option (object_in r) []))
with_read earlier (Err fault) apart none = absurd (cc none)
with_read earlier (Ok None) apart none = subst AreApart (sym (append-nil earlier)) apart
with_read earlier (Ok (Some o)) apart none =
    with_live earlier o (is_live o) refl apart (no_duplicate (is_duplicate earlier o) (Duplicate (kind_of o) (id_of o)) none)

apart_from : (longest : ℕ) (before rest : List (List ℕ)) → AreGood longest (before ++ rest) → AreApart (objects_told before) → AreApart (objects_told (before ++ rest))
apart_from longest before [] good apart = subst (λ (lines : List (List ℕ)). AreApart (objects_told lines)) (sym (append-nil before)) apart
apart_from longest before (line ∷ rest) good apart =
    let fine = no_fault (nat_lt longest (length line)) TooLong (fault_in (objects_told before) (reading line)) (good before line rest refl) in
    let here = subst AreApart (sym (one_more_told before line)) (with_read (objects_told before) (reading line) apart fine) in
    let same = append_assoc before (line ∷ []) rest in
    subst (λ (lines : List (List ℕ)). AreApart (objects_told lines)) same (apart_from longest (before ++ line ∷ []) rest (subst (AreGood longest) (sym same) good) here)

pub read_sound : Answers → SpelledSound → ReadObjectsCanBeWritten
read_sound answers sound limit longest bytes objects read = record {
  writable = subst (All IsWritable) (sym read.2) (told_writable answers sound (lines_of bytes));
  apart = subst AreApart (sym read.2) (apart_from longest [] (lines_of bytes) read.1 tt);
}

-- ---- objects that lines spell

pub spelled_can : SpelledSound → SpelledObjectsCanBeWritten
spelled_can sound objects spelled live apart = record {
  writable = all-in IsWritable objects (λ o i.
      let by = in-all (λ u. (line : List ℕ) × Spells line u) objects o spelled i in
      (live_of o (in-all (λ u. IsTrue (is_live u)) objects o live i), sound by.0 o by.1));
  apart = apart;
}
