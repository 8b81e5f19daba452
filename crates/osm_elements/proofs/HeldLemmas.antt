-- References in one block of bytes.
use Rattle.std.proofs.Common.{◌≡◌, ◌∙◌, refl, sym, ap, ℕ, zero, suc, ◌-◌, ◌<◌, ◌≤◌, ◌^◌, List, [], ◌∷◌, ◌++◌, length, append-nil, append_assoc, length-append, Bool, true, false, Option, Some, None, ℤ, arith, rules, w64, FitsSigned}
use Rattle.std.specs.Prelude.{slice_get, ◌==◌, unsigned_abs}
use Rattle.std.specs.Option.{unwrap_or}
use Rattle.osm_lattice.specs.declared.loc.Loc.{Loc}
use Rattle.osm_elements.specs.declared.object.Ref.{Ref}
use Rattle.osm_elements.specs.Places.{location_from}
use Rattle.osm_elements.specs.Places.{longitude, latitude}
use Rattle.osm_elements.specs.Compact.{number_bytes, number_in, after_number, marked_bytes, marked_number, has_mark, difference, moved}
use Rattle.osm_elements.specs.Held.{compared_id, place_from, x_from, y_from, mark_of, place_bytes, ref_bytes, refs_bytes, first_place, after_place, first_ref, after_ref, refs_within, refs_behind, last_behind, AreRefBytes}
use Rattle.osm_elements.proofs.CompactLemmas.{number_told, behind_told, mark_told, some_marked, difference_small, moved_back, moved_fits, after_first, after_shorter}
use Rattle.osm_elements.proofs.PlaceLaws.{own_place}

-- ---- what coordinates are compared with

near_x : (from : Option Loc) → unsigned_abs (x_from from) ≤ 1_800_000_000
near_x None = omega arith
near_x (Some at) = at.x_in

near_y : (from : Option Loc) → unsigned_abs (y_from from) ≤ 900_000_000
near_y None = omega arith
near_y (Some at) = at.y_in

fits_near : (z : ℤ) → unsigned_abs z ≤ 1_800_000_000 → FitsSigned w64 z
fits_near z near = search (rules, near)

-- ---- a location in front

record PlaceTold (from at : Option Loc) (more : List ℕ) : Type 0 where
  place : first_place (mark_of at == 1) from (place_bytes from at ++ more) ≡ at
  behind : after_place (mark_of at == 1) (place_bytes from at ++ more) ≡ more

-- two numbers in front
record TwoTold (a b : ℕ) (more : List ℕ) : Type 0 where
  first : number_in ((number_bytes a ++ number_bytes b) ++ more) ≡ a
  second : number_in (after_number ((number_bytes a ++ number_bytes b) ++ more)) ≡ b
  behind : after_number (after_number ((number_bytes a ++ number_bytes b) ++ more)) ≡ more

two_told : (a b : ℕ) (more : List ℕ) → a < 2 ^ 64 → b < 2 ^ 64 → TwoTold a b more
two_told a b more small_a small_b =
    let e = append_assoc (number_bytes a) (number_bytes b) more in
    let after : after_number ((number_bytes a ++ number_bytes b) ++ more) ≡ number_bytes b ++ more = ap after_number e ∙ behind_told a (number_bytes b ++ more) small_a in
    record {
      first = ap number_in e ∙ number_told a (number_bytes b ++ more) small_a;
      second = ap number_in after ∙ number_told b more small_b;
      behind = ap after_number after ∙ behind_told b more small_b;
    }

place_at_told : (from : Option Loc) (at : Loc) → location_from (longitude (moved (x_from from) (difference (x_from from) at.x))) (latitude (moved (y_from from) (difference (y_from from) at.y))) ≡ Some at
place_at_told from at =
    let x = moved_back (x_from from) at.x (fits_near (x_from from) (near_x from)) (fits_near at.x at.x_in) in
    let near = near_y from in
    let within = at.y_in in
    let y = moved_back (y_from from) at.y (fits_near (y_from from) (omega arith)) (fits_near at.y (omega arith)) in
    ap (λ (z : ℤ). location_from (longitude z) (latitude (moved (y_from from) (difference (y_from from) at.y)))) x
    ∙ ap (λ (z : ℤ). location_from (longitude at.x) (latitude z)) y
    ∙ own_place at

place_told : (from at : Option Loc) (more : List ℕ) → PlaceTold from at more
unfolding first_place after_place
place_told from None more = record { place = refl; behind = refl }
place_told from (Some at) more =
    let along = difference (x_from from) at.x in
    let up = difference (y_from from) at.y in
    let t = two_told along up more (difference_small (x_from from) at.x) (difference_small (y_from from) at.y) in
    record { place = rw (t.first, t.second) (place_at_told from at); behind = t.behind }

mark_small : (at : Option Loc) → mark_of at < 2
mark_small None = omega arith
mark_small (Some at) = omega arith

-- ---- a reference in front

record RefTold (first : Option Ref) (r : Ref) (more : List ℕ) : Type 0 where
  ref : first_ref first (ref_bytes first r ++ more) ≡ r
  behind : after_ref (ref_bytes first r ++ more) ≡ more

ref_told : (first : Option Ref) (r : Ref) (more : List ℕ) → FitsSigned w64 (compared_id first) → FitsSigned w64 r.node → RefTold first r more
ref_told first r more fits_first fits =
    let by = difference (compared_id first) r.node in
    let mark = mark_of r.at in
    let place = place_bytes (place_from first) r.at in
    let bytes = ref_bytes first r ++ more in
    let e : bytes ≡ marked_bytes mark by ++ (place ++ more) = append_assoc (marked_bytes mark by) place more in
    let t = mark_told mark by (place ++ more) (mark_small r.at) (difference_small (compared_id first) r.node) in
    let number : marked_number bytes ≡ by = ap marked_number e ∙ t.number in
    let marked : has_mark bytes ≡ (mark == 1) = ap has_mark e ∙ t.marked in
    let after : after_number bytes ≡ place ++ more = ap after_number e ∙ t.behind in
    let node : moved (compared_id first) (marked_number bytes) ≡ r.node = ap (moved (compared_id first)) number ∙ moved_back (compared_id first) r.node fits_first fits in
    let told = place_told (place_from first) r.at more in
    let at : first_place (has_mark bytes) (place_from first) (after_number bytes) ≡ r.at =
    ap (λ (b : Bool). first_place b (place_from first) (after_number bytes)) marked ∙ ap (first_place (mark == 1) (place_from first)) after ∙ told.place in
    record {
      ref = ap (λ (n : ℤ). record { node = n; at = first_place (has_mark bytes) (place_from first) (after_number bytes) }) node ∙ ap (λ (o : Option Loc). record { node = r.node; at = o }) at;
      behind = ap (λ (b : Bool). after_place b (after_number bytes)) marked ∙ ap (after_place (mark == 1)) after ∙ told.behind;
    }

-- the bytes of a reference that was pushed in two parts
pub ref_pushed : (before middle after : List ℕ) (first : Option Ref) (r : Ref) (mark by : ℕ) (from : Option Loc) → mark ≡ mark_of r.at → by ≡ difference (compared_id first) r.node → from ≡ place_from first
    → middle ≡ before ++ marked_bytes mark by → after ≡ middle ++ place_bytes from r.at → after ≡ before ++ ref_bytes first r
ref_pushed before middle after first r mark by from m b f one two =
    let id = marked_bytes (mark_of r.at) (difference (compared_id first) r.node) in
    let marked : marked_bytes mark by ≡ id = ap (λ (k : ℕ). marked_bytes k by) m ∙ ap (marked_bytes (mark_of r.at)) b in
    two
    ∙ ap (λ (bytes : List ℕ). bytes ++ place_bytes from r.at) (one ∙ ap (λ (bytes : List ℕ). before ++ bytes) marked)
    ∙ ap (λ (o : Option Loc). (before ++ id) ++ place_bytes o r.at) f
    ∙ append_assoc before id (place_bytes (place_from first) r.at)

-- ---- how many bytes

some_ref_bytes : (first : Option Ref) (r : Ref) → 0 < length (ref_bytes first r)
some_ref_bytes first r =
    let some = some_marked (mark_of r.at) (difference (compared_id first) r.node) in
    let n = length-append (marked_bytes (mark_of r.at) (difference (compared_id first) r.node)) (place_bytes (place_from first) r.at) in
    omega arith

after_place_shorter : (marked : Bool) (bytes : List ℕ) → length (after_place marked bytes) ≤ length bytes
unfolding after_place
after_place_shorter true bytes =
    let once = after_shorter bytes in
    let twice = after_shorter (after_number bytes) in
    omega arith
after_place_shorter false bytes = omega arith

pub after_ref_shorter : (byte : ℕ) (bytes : List ℕ) → length (after_ref (byte ∷ bytes)) ≤ length bytes
after_ref_shorter byte bytes =
    let a = after_first byte bytes in
    let b = after_place_shorter (has_mark (byte ∷ bytes)) (after_number (byte ∷ bytes)) in
    omega arith

-- ---- as many as there are

-- any limit that is no less than the number of bytes will do
same_within : (f g : ℕ) (first : Option Ref) (bytes : List ℕ) → length bytes ≤ f → length bytes ≤ g → refs_within f first bytes ≡ refs_within g first bytes
same_within zero zero first bytes a b = refl
same_within zero (suc g) first [] a b = refl
same_within zero (suc g) first (byte ∷ bytes) a b = absurd (omega arith)
same_within (suc f) zero first [] a b = refl
same_within (suc f) zero first (byte ∷ bytes) a b = absurd (omega arith)
same_within (suc f) (suc g) first [] a b = refl
same_within (suc f) (suc g) first (byte ∷ bytes) a b =
    let n = after_ref_shorter byte bytes in
    let r = first_ref first (byte ∷ bytes) in
    ap (λ (rs : List Ref). r ∷ rs) (same_within f g (Some (unwrap_or first r)) (after_ref (byte ∷ bytes)) (omega arith) (omega arith))

-- one reference after the other
pub next_is : (first : Option Ref) (bytes : List ℕ) → 0 < length bytes
    → refs_behind first bytes ≡ first_ref first bytes ∷ refs_behind (Some (unwrap_or first (first_ref first bytes))) (after_ref bytes)
next_is first [] some = absurd (omega arith)
next_is first (byte ∷ bytes) some =
    let n = after_ref_shorter byte bytes in
    let r = first_ref first (byte ∷ bytes) in
    ap (λ (rs : List Ref). r ∷ rs) (same_within (length bytes) (length (after_ref (byte ∷ bytes))) (Some (unwrap_or first r)) (after_ref (byte ∷ bytes)) n (omega arith))

few_within : (most : ℕ) (first : Option Ref) (bytes : List ℕ) → length (refs_within most first bytes) ≤ most
few_within zero first bytes = omega arith
few_within (suc more) first [] = omega arith
few_within (suc more) first (byte ∷ bytes) =
    let rest = few_within more (Some (unwrap_or first (first_ref first (byte ∷ bytes)))) (after_ref (byte ∷ bytes)) in
    omega arith

-- no more than there are bytes
pub few : (first : Option Ref) (bytes : List ℕ) → length (refs_behind first bytes) ≤ length bytes
few first bytes = few_within (length bytes) first bytes

-- none only where there are no bytes
pub none_left : (first : Option Ref) (bytes : List ℕ) → length bytes ≡ 0 → refs_behind first bytes ≡ []
none_left first [] none = refl
none_left first (byte ∷ bytes) none = absurd (omega arith)

-- ---- ids fit their type

abbrev Fit : List Ref → Type 0
Fit [] = Unit
Fit (r ∷ refs) = FitsSigned w64 r.node × Fit refs

all_fit : (most : ℕ) (first : Option Ref) (bytes : List ℕ) → Fit (refs_within most first bytes)
all_fit zero first bytes = tt
all_fit (suc more) first [] = tt
all_fit (suc more) first (byte ∷ bytes) =
    let r = first_ref first (byte ∷ bytes) in
    (moved_fits (compared_id first) (marked_number (byte ∷ bytes)), all_fit more (Some (unwrap_or first r)) (after_ref (byte ∷ bytes)))

first_fits : (first : Option Ref) (r : Ref) → FitsSigned w64 (compared_id first) → FitsSigned w64 r.node → FitsSigned w64 (compared_id (Some (unwrap_or first r)))
first_fits None r fits_first fits = fits
first_fits (Some f) r fits_first fits = fits_first

-- ---- the bytes of references tell these

told : (refs : List Ref) (first : Option Ref) → FitsSigned w64 (compared_id first) → Fit refs → refs_behind first (refs_bytes first refs) ≡ refs
told [] first fits_first fits = refl
told (r ∷ refs) first fits_first fits =
    let after = Some (unwrap_or first r) in
    let t = ref_told first r (refs_bytes after refs) fits_first fits.0 in
    let some = some_ref_bytes first r in
    let n = length-append (ref_bytes first r) (refs_bytes after refs) in
    next_is first (refs_bytes first (r ∷ refs)) (omega arith)
    ∙ ap (λ (s : Ref). s ∷ refs_behind (Some (unwrap_or first s)) (after_ref (refs_bytes first (r ∷ refs)))) t.ref
    ∙ ap (λ (b : List ℕ). r ∷ refs_behind after b) t.behind
    ∙ ap (λ (rs : List Ref). r ∷ rs) (told refs after (first_fits first r fits_first fits.0) fits.1)

-- ---- a reference more

-- the first of all, where some stand behind a first reference
abbrev first_of : Option Ref → List Ref → Option Ref
first_of first [] = first
first_of first (r ∷ refs) = Some (unwrap_or first r)

first_stays : (f : Ref) (refs : List Ref) → first_of (Some f) refs ≡ Some f
first_stays f [] = refl
first_stays f (r ∷ refs) = refl

first_is : (refs : List Ref) → first_of None refs ≡ slice_get refs 0
first_is [] = refl
first_is (r ∷ refs) = refl

bytes_more : (first : Option Ref) (refs : List Ref) (r : Ref) → refs_bytes first (refs ++ r ∷ []) ≡ refs_bytes first refs ++ ref_bytes (first_of first refs) r
bytes_more first [] r = append-nil (ref_bytes first r)
bytes_more first (s ∷ refs) r =
    let after = Some (unwrap_or first s) in
    ap (λ (b : List ℕ). ref_bytes first s ++ b) (bytes_more after refs r ∙ ap (λ (f : Option Ref). refs_bytes after refs ++ ref_bytes f r) (first_stays (unwrap_or first s) refs))
    ∙ sym (append_assoc (ref_bytes first s) (refs_bytes after refs) (ref_bytes after r))

fit_more : (refs : List Ref) (r : Ref) → Fit refs → FitsSigned w64 r.node → Fit (refs ++ r ∷ [])
fit_more [] r fits fits_r = (fits_r, tt)
fit_more (s ∷ refs) r fits fits_r = (fits.0, fit_more refs r fits.1 fits_r)

-- the bytes of one more are those of all
pushed_bytes : (bytes new : List ℕ) (r : Ref) → AreRefBytes bytes → new ≡ bytes ++ ref_bytes (slice_get (refs_behind None bytes) 0) r → new ≡ refs_bytes None (refs_behind None bytes ++ r ∷ [])
pushed_bytes bytes new r are pushed =
    let refs = refs_behind None bytes in
    sym (bytes_more None refs r ∙ ap (λ (f : Option Ref). refs_bytes None refs ++ ref_bytes f r) (first_is refs) ∙ ap (λ (b : List ℕ). b ++ ref_bytes (slice_get refs 0) r) are ∙ sym pushed)

told_more : (bytes : List ℕ) (r : Ref) → FitsSigned w64 r.node → refs_behind None (refs_bytes None (refs_behind None bytes ++ r ∷ [])) ≡ refs_behind None bytes ++ r ∷ []
told_more bytes r fits =
    let refs = refs_behind None bytes in
    let zero_fits : FitsSigned w64 (compared_id None) = search rules in
    told (refs ++ r ∷ []) None zero_fits (fit_more refs r (all_fit (length bytes) None bytes) fits)

-- ---- as the functions know them

pub pushed_is : (bytes new : List ℕ) (refs : List Ref) (r : Ref) → AreRefBytes bytes → refs_behind None bytes ≡ refs → FitsSigned w64 r.node → new ≡ bytes ++ ref_bytes (slice_get refs 0) r → refs_behind None new ≡ refs ++ r ∷ []
pushed_is bytes new refs r are is fits pushed =
    let e = pushed_bytes bytes new r are (pushed ∙ ap (λ (rs : List Ref). bytes ++ ref_bytes (slice_get rs 0) r) (sym is)) in
    ap (refs_behind None) e ∙ told_more bytes r fits ∙ ap (λ (rs : List Ref). rs ++ r ∷ []) is

pub pushed_are : (bytes new : List ℕ) (refs : List Ref) (r : Ref) → AreRefBytes bytes → refs_behind None bytes ≡ refs → FitsSigned w64 r.node → new ≡ bytes ++ ref_bytes (slice_get refs 0) r → AreRefBytes new
pushed_are bytes new refs r are is fits pushed =
    let e = pushed_bytes bytes new r are (pushed ∙ ap (λ (rs : List Ref). bytes ++ ref_bytes (slice_get rs 0) r) (sym is)) in
    ap (refs_bytes None) (pushed_is bytes new refs r are is fits pushed ∙ ap (λ (rs : List Ref). rs ++ r ∷ []) (sym is)) ∙ sym e

pub next_told : (first : Option Ref) (bytes after : List ℕ) (refs : List Ref) (r f : Ref) → refs_behind first bytes ≡ refs → 0 < length bytes → r ≡ first_ref first bytes → after ≡ after_ref bytes → f ≡ unwrap_or first r
    → refs ≡ r ∷ refs_behind (Some f) after
next_told first bytes after refs r f is some ref behind from =
    sym is
    ∙ next_is first bytes some
    ∙ ap (λ (s : Ref). s ∷ refs_behind (Some (unwrap_or first s)) (after_ref bytes)) (sym ref)
    ∙ ap (λ (s : Ref). r ∷ refs_behind (Some s) (after_ref bytes)) (sym from)
    ∙ ap (λ (b : List ℕ). r ∷ refs_behind (Some f) b) (sym behind)

last_of : (r : Ref) (refs : List Ref) → last_behind (Some r) refs ≡ slice_get (r ∷ refs) (length refs)
last_of r [] = refl
last_of r (s ∷ refs) = last_of s refs

pub last_is : (refs : List Ref) → last_behind None refs ≡ slice_get refs (length refs - 1)
last_is [] = refl
last_is (r ∷ refs) =
    let e : length (r ∷ refs) - 1 ≡ length refs = omega arith in
    last_of r refs ∙ ap (slice_get (r ∷ refs)) (sym e)

-- the first of all, behind a reference more
pub first_more : (refs : List Ref) (r : Ref) → slice_get (refs ++ r ∷ []) 0 ≡ Some (unwrap_or (slice_get refs 0) r)
first_more [] r = refl
first_more (s ∷ refs) r = refl

-- ---- gone through without being read

-- whichever is the first, there are as many
as_many_within : (most : ℕ) (f g : Option Ref) (bytes : List ℕ) → length (refs_within most f bytes) ≡ length (refs_within most g bytes)
as_many_within zero f g bytes = refl
as_many_within (suc more) f g [] = refl
as_many_within (suc more) f g (byte ∷ bytes) =
    ap (λ (n : ℕ). suc n) (as_many_within more (Some (unwrap_or f (first_ref f (byte ∷ bytes)))) (Some (unwrap_or g (first_ref g (byte ∷ bytes)))) (after_ref (byte ∷ bytes)))

pub one_fewer : (bytes : List ℕ) → 0 < length bytes → length (refs_behind None bytes) ≡ suc (length (refs_behind None (after_ref bytes)))
one_fewer bytes some =
    let r = first_ref None bytes in
    ap (λ (rs : List Ref). length rs) (next_is None bytes some) ∙ ap (λ (n : ℕ). suc n) (as_many_within (length (after_ref bytes)) (Some r) None (after_ref bytes))

pub fewer_bytes : (bytes : List ℕ) → 0 < length bytes → length (after_ref bytes) < length bytes
fewer_bytes [] some = absurd (omega arith)
fewer_bytes (byte ∷ bytes) some =
    let n = after_ref_shorter byte bytes in
    omega arith

-- the reference in front, and where nothing is in front the first
abbrev pub last_at : Ref → List ℕ → Ref
last_at first [] = first
last_at first (byte ∷ bytes) = first_ref (Some first) (byte ∷ bytes)

pub last_goes_on : (first : Ref) (last : Option Ref) (bytes : List ℕ) → 0 < length bytes
    → last_behind (Some (last_at first bytes)) (refs_behind (Some first) (after_ref bytes)) ≡ last_behind last (refs_behind (Some first) bytes)
last_goes_on first last [] some = absurd (omega arith)
last_goes_on first last (byte ∷ bytes) some = ap (last_behind last) (sym (next_is (Some first) (byte ∷ bytes) some))

-- of all references
pub last_of_all : (bytes : List ℕ) (refs : List Ref) (first : Ref) → refs_behind None bytes ≡ refs → slice_get refs 0 ≡ Some first
    → last_behind (Some first) (refs_behind (Some first) (after_ref bytes)) ≡ slice_get refs (length refs - 1)
last_of_all [] refs first is some = absurd (let e : None ≡ Some first = ap (λ (rs : List Ref). slice_get rs 0) is ∙ some in cc)
last_of_all (byte ∷ bytes) refs first is some =
    let r = first_ref None (byte ∷ bytes) in
    let next = next_is None (byte ∷ bytes) (omega arith) in
    let e : Some r ≡ Some first = ap (λ (rs : List Ref). slice_get rs 0) (sym next ∙ is) ∙ some in
    let same : r ≡ first = cc in
    ap (λ (f : Ref). last_behind (Some f) (refs_behind (Some f) (after_ref (byte ∷ bytes)))) (sym same)
    ∙ ap (λ (rs : List Ref). last_behind None rs) (sym next ∙ is)
    ∙ last_is refs
