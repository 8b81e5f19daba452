-- Good lines and what they tell, with one line more.
use Rattle.std.proofs.Common.{◌≡◌, ◌∙◌, refl, sym, ap, subst, ℕ, Bool, true, false, List, [], ◌∷◌, ◌++◌, length, append-nil, ◌≤◌, Option, None, Some, Ok, filter, if◌then◌else◌}
use Rattle.std.specs.List.{filter_map, cons_option}
use Rattle.std.proofs.lemmas.Bool.{le-ltb}
use Rattle.std.proofs.lemmas.List.Elements.{filter-append, filter_map-append}
use Rattle.osm_elements.specs.declared.object.Object.{Object}
use Rattle.opl_reader.specs.LineReading.{reading}
use Rattle.opl_reader.specs.Told.{object_told}
use Rattle.osm_objects.specs.Object.{is_live}
use Rattle.osm_input.specs.Input.{objects_told, fault_in, line_fault, AreGood, IsBadPlace}
use Rattle.osm_input.specs.LineSteps.{with_live}
use Rattle.osm_input.specs.declared.fault.InputFault.{InputFault}

-- ---- lists with one element more

-- an element of a list with one more is the last, or stands before it
pub data Place {A : Type 0} (xs : List A) (x : A) (before : List A) (y : A) : Type 0 where
  last : xs ≡ before → x ≡ y → Place xs x before y
  earlier : (between : List A) → xs ≡ before ++ y ∷ between → Place xs x before y

place-cons : {A : Type 0} (a : A) (xs : List A) (x : A) (before : List A) (y : A) → Place xs x before y → Place (a ∷ xs) x (a ∷ before) y
place-cons a xs x before y (last e f) = last (ap (λ zs. a ∷ zs) e) f
place-cons a xs x before y (earlier between e) = earlier between (ap (λ zs. a ∷ zs) e)

pub place_of : {A : Type 0} (xs : List A) (x : A) (before : List A) (y : A) (after : List A) → xs ++ x ∷ [] ≡ before ++ y ∷ after → Place xs x before y
place_of [] x [] y after e = last refl (cc)
place_of [] x (b ∷ []) y after e = absurd (cc)
place_of [] x (b ∷ c ∷ before) y after e = absurd (cc)
place_of (a ∷ xs) x [] y after e = earlier xs (cc)
place_of (a ∷ xs) x (b ∷ before) y after e =
    let here : a ≡ b = cc in
    let there : xs ++ x ∷ [] ≡ before ++ y ∷ after = cc in
    subst (λ (z : _). Place (a ∷ xs) x (z ∷ before) y) here (place-cons a xs x before y (place_of xs x before y after there))

-- ---- good lines

pub none_are_good : (longest : ℕ) → AreGood longest []
none_are_good longest [] line after e = absurd (cc)
none_are_good longest (b ∷ before) line after e = absurd (cc)

good_at : (longest : ℕ) (lines : List (List ℕ)) (line : List ℕ) (before : List (List ℕ)) (other : List ℕ) → AreGood longest lines → line_fault longest (objects_told lines) line ≡ None →
    Place lines line before other → line_fault longest (objects_told before) other ≡ None
good_at longest lines line before other good none (last e f) = subst (λ (zs : List (List ℕ)). line_fault longest (objects_told zs) other ≡ None) e (subst (λ (z : List ℕ). line_fault longest (objects_told lines) z ≡ None) f none)
good_at longest lines line before other good none (earlier between e) = good before other between e

pub one_more_good : (longest : ℕ) (lines : List (List ℕ)) (line : List ℕ) → AreGood longest lines → line_fault longest (objects_told lines) line ≡ None → AreGood longest (lines ++ line ∷ [])
one_more_good longest lines line good none before other after e = good_at longest lines line before other good none (place_of lines line before other after e)

-- they have no bad place
pub good_not_bad : (longest : ℕ) (lines : List (List ℕ)) (number : ℕ) (fault : InputFault) → AreGood longest lines → IsBadPlace longest lines number fault → ⊥
good_not_bad longest lines number fault good bad = cc (sym (good bad.before bad.line bad.after bad.parted) ∙ bad.bad)

-- what is wrong with a line that isn't too long
pub fault_of_short : (longest : ℕ) (objects : List Object) (line : List ℕ) → length line ≤ longest → line_fault longest objects line ≡ fault_in objects (reading line)
fault_of_short longest objects line short = rw (le-ltb longest (length line) short) refl

-- ---- what they tell

pub one_more_told : (lines : List (List ℕ)) (line : List ℕ) → objects_told (lines ++ line ∷ []) ≡ objects_told lines ++ objects_told (line ∷ [])
one_more_told lines line =
    ap (filter is_live) (filter_map-append object_told lines (line ∷ [])) ∙ filter-append is_live (filter_map object_told lines) (filter_map object_told (line ∷ []))

if_live : (objects : List Object) (object : Object) (b : Bool) → is_live object ≡ b →
    (if b then objects ++ object ∷ [] else objects) ≡ objects ++ (if b then object ∷ [] else [])
if_live objects object true e = refl
if_live objects object false e = sym (append-nil objects)

live_behind : (objects : List Object) (object : Option Object) → with_live objects object ≡ objects ++ filter is_live (cons_option object [])
live_behind objects None = sym (append-nil objects)
live_behind objects (Some object) = if_live objects object (is_live object) refl

-- the live object of the line comes behind theirs
pub told_more : (lines : List (List ℕ)) (line : List ℕ) (object : Option Object) → reading line ≡ Ok object → with_live (objects_told lines) object ≡ objects_told (lines ++ line ∷ [])
told_more lines line object is =
    let one : object_told line ≡ object = rw is refl in
    live_behind (objects_told lines) object
    ∙ (ap (λ (o : Option Object). objects_told lines ++ filter is_live (cons_option o [])) (sym one) ∙ sym (one_more_told lines line))
