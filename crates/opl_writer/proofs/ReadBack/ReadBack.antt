-- The lines of objects that can be written and are apart have no bad place but a line that is too long, and tell these objects.
use Rattle.std.proofs.Common.{◌≡◌, ◌∙◌, refl, sym, ap, subst, ℕ, ◌≤◌, ◌&&◌, Bool, true, false, if◌then◌else◌, Option, None, Some, Result, Ok, List, [], ◌∷◌, ◌++◌, length, filter, map, append-nil, append_assoc, All}
use Rattle.std.specs.Prelude.{nat_lt, is_some}
use Rattle.std.specs.List.{cons_option, filter_map}
use Rattle.std.proofs.lemmas.Bool.{le-ltb}
use Rattle.std.proofs.lemmas.List.{map-append}
use Rattle.std.proofs.lemmas.List.Elements.{All-head, All-nil, All-push, All-tail}
use Rattle.opl_reader.specs.declared.fault.LineFault.{LineFault}
use Rattle.osm_elements.specs.declared.object.Object.{Object}
use Rattle.osm_elements.specs.declared.object.Object.TheVariants as object
use Rattle.opl_reader.specs.LineReading.{reading}
use Rattle.opl_reader.specs.Lines.{lines_of}
use Rattle.opl_reader.specs.Told.{object_in, object_told}
use Rattle.opl_writer.specs.Writable.{IsWritable}
use Rattle.opl_writer.specs.Written.{object_line, objects_text}
use Rattle.osm_objects.specs.Object.{id_of, is_live, kind_of, ref_of}
use Rattle.osm_objects.specs.Objects.{AreApart, object_at}
use Rattle.osm_input.specs.Input.{AreGood, fault_in, objects_told}
use Rattle.osm_input.specs.declared.fault.InputFault.{InputFault}
use Rattle.osm_input.specs.declared.fault.InputFault.TheVariants.{Duplicate, TooLong}
use Rattle.opl_writer.specs.ReadBack.Laws.{OnlyLongLinesAreBad, WrittenInputsAreRead}
use Rattle.opl_writer.proofs.ReadBack.Apart.{none_before}

-- what the crate that writes them says of lines, and of texts
abbrev pub ReadBack : Type 0
ReadBack = (o : Object) → IsWritable o → reading (object_line o) ≡ Ok (Some o)

abbrev pub LinesBack : Type 0
LinesBack = (objects : List Object) → All IsWritable objects → lines_of (objects_text objects) ≡ map object_line objects

writable_live : (o : Object) → IsWritable o → is_live o ≡ true
writable_live (object.Node id live tags place) can = can.0
writable_live (object.Way id live tags refs) can = can.0
writable_live (object.Relation id live tags members) can = can.0

module _ (back : ReadBack) where
  -- the lines tell the objects
  told_back : (os : List Object) → All IsWritable os → objects_told (map object_line os) ≡ os
  told_back [] all = refl
  told_back (o ∷ os) all =
      let can = All-head IsWritable o os all in
      ap (λ (r : Result (Option Object) LineFault). filter is_live (cons_option (object_in r) (filter_map object_told (map object_line os)))) (back o can)
      ∙ ap (λ (b : Bool). if b then o ∷ objects_told (map object_line os) else objects_told (map object_line os)) (writable_live o can)
      ∙ ap (λ (us : List Object). o ∷ us) (told_back os (All-tail IsWritable o os all))

  never : (b : Bool) (fault : InputFault) → (if b && false then Some fault else None) ≡ None
  never true fault = refl
  never false fault = refl

  not_again : (us : List Object) (o : Object) → object_at us (ref_of o) ≡ None → fault_in us (Ok (Some o)) ≡ None
  not_again us o none =
      ap (λ (found : Option Object). if is_live o && is_some found then Some (Duplicate (kind_of o) (id_of o)) else None) none ∙ never (is_live o) (Duplicate (kind_of o) (id_of o))

  -- a line behind those of other objects: it is read, and tells none of them again
  read_on : (us : List Object) (o : Object) (vs : List Object) → AreApart (us ++ o ∷ vs) → IsWritable o → fault_in us (reading (object_line o)) ≡ None
  read_on us o vs apart can = ap (λ (r : Result (Option Object) LineFault). fault_in us r) (back o can) ∙ not_again us o (none_before us o vs apart)

  -- so it is each line of the text, behind those before it
  read_from : (us vs : List Object) → AreApart (us ++ vs) → All IsWritable us → All IsWritable vs → (before : List (List ℕ)) (line : List ℕ) (after : List (List ℕ)) → map object_line vs ≡ before ++ line ∷ after →
      fault_in (objects_told (map object_line us ++ before)) (reading line) ≡ None
  read_from us [] apart can more [] line after e = absurd (cc)
  read_from us [] apart can more (b ∷ before) line after e = absurd (cc)
  read_from us (v ∷ vs) apart can more [] line after e =
      let here : object_line v ≡ line = cc in
      let told : objects_told (map object_line us ++ []) ≡ us = ap objects_told (append-nil (map object_line us)) ∙ told_back us can in
      subst (λ (l : List ℕ). fault_in (objects_told (map object_line us ++ [])) (reading l) ≡ None) here
      (subst (λ (os : List Object). fault_in os (reading (object_line v)) ≡ None) (sym told) (read_on us v vs apart (All-head IsWritable v vs more)))
  read_from us (v ∷ vs) apart can more (b ∷ before) line after e =
      let here : object_line v ≡ b = cc in
      let there : map object_line vs ≡ before ++ line ∷ after = cc in
      let rest = read_from (us ++ v ∷ []) vs (subst AreApart (sym (append_assoc us (v ∷ []) vs)) apart) (All-push IsWritable us v can (All-head IsWritable v vs more)) (All-tail IsWritable v vs more) before line after there in
      let same : map object_line (us ++ v ∷ []) ++ before ≡ map object_line us ++ b ∷ before =
      ap (λ (ls : List (List ℕ)). ls ++ before) (map-append object_line us (v ∷ [])) ∙ append_assoc (map object_line us) (object_line v ∷ []) before ∙ ap (λ (l : List ℕ). map object_line us ++ l ∷ before) here in
      subst (λ (ls : List (List ℕ)). fault_in (objects_told ls) (reading line) ≡ None) same rest

-- one of a list of lines that are short
short_there : (longest : ℕ) (before : List (List ℕ)) (line : List ℕ) (after lines : List (List ℕ)) → lines ≡ before ++ line ∷ after → All (λ l. length l ≤ longest) lines → length line ≤ longest
short_there longest before line after lines e all = among before (subst (All (λ l. length l ≤ longest)) e all)
  where
    among : (ls : List (List ℕ)) → All (λ l. length l ≤ longest) (ls ++ line ∷ after) → length line ≤ longest
    among [] all = All-head (λ l. length l ≤ longest) line after all
    among (l ∷ ls) all = among ls (All-tail (λ l. length l ≤ longest) l (ls ++ line ∷ after) all)

-- a fault of a line in which nothing is wrong but its length
long_alone : (b : Bool) (rest : Option InputFault) (fault : InputFault) → rest ≡ None → (if b then Some TooLong else rest) ≡ Some fault → fault ≡ TooLong
long_alone true rest fault none e = cc
long_alone false rest fault none e = absurd (cc)

pub inputs_read : ReadBack → LinesBack → WrittenInputsAreRead
inputs_read back lines limit longest os can few short =
    let are = lines os can.writable in (
      few,
      subst (AreGood longest) (sym are) (λ before line after e.
          ap (λ (b : Bool). if b then Some TooLong else fault_in (objects_told before) (reading line)) (le-ltb longest (length line) (short_there longest before line after (map object_line os) e short))
          ∙ read_from back [] os can.apart (All-nil IsWritable) can.writable before line after e),
      sym (ap objects_told are ∙ told_back back os can.writable),
    )

pub only_long : ReadBack → LinesBack → OnlyLongLinesAreBad
only_long back lines longest os can = record {
  told = ap objects_told (lines os can.writable) ∙ told_back back os can.writable;
  bad = λ number fault place.
      long_alone (nat_lt longest (length place.line)) (fault_in (objects_told place.before) (reading place.line)) fault
      (read_from back [] os can.apart (All-nil IsWritable) can.writable place.before place.line place.after (sym (lines os can.writable) ∙ place.parted)) place.bad;
}
