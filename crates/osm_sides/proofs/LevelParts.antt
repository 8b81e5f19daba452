-- A location is on a segment exactly where it is on its level part, or the segment passes through it.
use Rattle.std.proofs.Common.{Bool, true, false, not, cond, refl, sym, ap, ap₂, arith, nat_le, pos, unsigned_abs, ℕ, ℤ, ◌&&◌, ◌||◌, ◌+ℤ◌, ◌-ℤ◌, ◌*ℤ◌, ◌≡◌, ◌≤◌, ◌<◌, ◌+◌, ◌*◌, ◌∙◌}
use Rattle.std.proofs.Math.Bool.{and-false, and-true}
use Rattle.std.proofs.lemmas.Bool.{and_from, le-leb, lt-leb}
use lib.Signed.{lt_z}
use Rattle.std.proofs.lemmas.Int.{ints}
use Rattle.plane.specs.RayCrossing.{off_by}
use Rattle.plane.specs.Sign.{Sign, Minus, Null, Plus, is_minus, is_null, is_plus, sign, then_sign}
use Rattle.plane.proofs.PlaneKit.{orient-round}
use Rattle.plane.proofs.SignKit.{Says, agree, agree-sum, all, all-out, all4, all4-out, imp, imp-out, is_null-true, null-zero, same-sign-is, same_bool, same_bool-true, same_sign, says, sign-*, times}
use Rattle.lists.proofs.ListsKit.{not-false-out, same_from_difference}
use Rattle.osm_lattice.proofs.LatticeKit.{rising_edge}
use Rattle.osm_lattice.specs.declared.loc.Loc.{Loc}
use Rattle.osm_lattice.specs.declared.seg.Seg.{Seg}
use Rattle.osm_lattice.specs.Loc.{vector_of}
use Rattle.osm_lattice.specs.Line.{side_of_line}
use Rattle.osm_sides.specs.PointPlaces.{lies_on}
use Rattle.osm_sides.specs.PointSteps.{is_level_on, level_from, passes_through, place_number}
use Rattle.osm_sides.specs.SideTests.{level, span}
use Rattle.osm_sides.proofs.SegmentTests.{level_is, lt_by}

-- ---- the signs: the steps (a, c) and (b, d) from the location to the ends
-- both are Plus, or both are Minus
abbrev pub are_alike : Sign → Sign → Bool
are_alike Plus Plus = true
are_alike Minus Minus = true
are_alike s t = false

abbrev to_one_side : Sign → Sign → Sign → Sign → Sign → Bool
to_one_side r a b c d =
    imp (same_sign (times a d) (times c b)) (λ _. imp (agree (times a b) (times c d) r) (λ _. same_bool (is_plus r) (are_alike a b || are_alike c d)))

to_one_side-all : (r : Sign) → all4 (to_one_side r) ≡ true
to_one_side-all Minus = refl
to_one_side-all Null = refl
to_one_side-all Plus = refl

-- where they lie on one line they point to one side exactly where they do in x or in y
one_side : (a b c d : ℤ) → a *ℤ d ≡ c *ℤ b → is_plus (sign (a *ℤ b +ℤ c *ℤ d)) ≡ (are_alike (sign a) (sign b) || are_alike (sign c) (sign d))
one_side a b c d line =
    let z = a *ℤ b +ℤ c *ℤ d in let r = sign z in
    let s = sign a in let t = sign b in let u = sign c in let v = sign d in
    let lines : same_sign (times s v) (times u t) ≡ true = same-sign-is (times s v) (times u t) (sym (sign-* a d) ∙ ap sign line ∙ sign-* c b) in
    let sums : agree (times s t) (times u v) r ≡ true = rw (← sign-* a b, ← sign-* c d) (agree-sum (a *ℤ b) (c *ℤ d) z refl) in
    same_bool-true (is_plus r) (are_alike s t || are_alike u v)
    (imp-out _ _ (imp-out _ _ (all4-out (to_one_side r) (to_one_side-all r) s t u v) lines) sums)

flat_off : (k s : Sign) → k ≡ Null → off_by k s ≡ is_plus s
flat_off Null s h = refl
flat_off Plus s h = absurd (cc h)
flat_off Minus s h = absurd (cc h)

steep_off : (k s : Sign) → is_null k ≡ false → off_by k s ≡ true
steep_off Null s h = absurd (cc h)
steep_off Plus s h = refl
steep_off Minus s h = refl

-- a location is on the segment exactly where it is on its line and not beside it
module _ (a b c d : ℤ) where
  abbrev line : Sign
  line = sign (a *ℤ d -ℤ c *ℤ b)

  abbrev beside : Bool
  beside = are_alike (sign a) (sign b) || are_alike (sign c) (sign d)

  abbrev off : Bool
  off = off_by line (sign (a *ℤ b +ℤ c *ℤ d))

  seen_by : (flat : Bool) → is_null line ≡ flat → not off ≡ (not beside && flat)
  seen_by true h =
      let on_line = is_null-true line h in
      let same = same_from_difference (a *ℤ d) (c *ℤ b) (null-zero (a *ℤ d -ℤ c *ℤ b) on_line) in
      ap not (flat_off line (sign (a *ℤ b +ℤ c *ℤ d)) on_line ∙ one_side a b c d same) ∙ sym (and-true (not beside))
  seen_by false h = ap not (steep_off line (sign (a *ℤ b +ℤ c *ℤ d)) h) ∙ sym (and-false (not beside))

  seen : not off ≡ (not beside && is_null line)
  seen = seen_by (is_null line) refl

-- ---- the parts of a segment
-- signs of two numbers of which the first is less
abbrev can_be_less : Sign → Sign → Bool
can_be_less Minus t = true
can_be_less Null t = is_plus t
can_be_less Plus t = is_plus t

-- a location with these steps to it isn't after, and isn't before, the one that they are seen from
abbrev is_reached : Sign → Sign → Bool
is_reached Minus x = true
is_reached Null x = not (is_plus x)
is_reached Plus x = false

abbrev is_ahead : Sign → Sign → Bool
is_ahead Minus x = false
is_ahead Null x = not (is_minus x)
is_ahead Plus x = true

-- a level segment runs to the right, another one upwards
abbrev runs_on : Bool → Sign → Sign → Sign → Sign → Bool
runs_on true a b c d = same_sign c d && can_be_less a b
runs_on false a b c d = can_be_less c d

abbrev in_parts : Bool → Sign → Sign → Sign → Sign → Sign → Bool
in_parts flat k a b c d =
    imp (runs_on flat a b c d) (λ _. imp (same_bool (is_null k && not (same_sign (times a d) (times c b))) false) (λ _. imp (same_bool ((is_null (times a d) && is_null (times c b)) && not (is_null k)) false)
    (λ _. same_bool (not (are_alike a b || are_alike c d) && is_null k) (((not (is_plus c) && is_plus d) && is_null k) || (is_reached (cond flat c d) (cond flat a b) && is_ahead d b)))))

in_parts-all : (flat : Bool) (k : Sign) → all4 (in_parts flat k) ≡ true
in_parts-all true Minus = refl
in_parts-all true Null = refl
in_parts-all true Plus = refl
in_parts-all false Minus = refl
in_parts-all false Null = refl
in_parts-all false Plus = refl

less-by : (x y p : ℤ) (s t : Sign) → Says s (x -ℤ p) → Says t (y -ℤ p) → lt_z x y ≡ true → can_be_less s t ≡ true
less-by x y p Minus t h k l = refl
less-by x y p Null Plus h k l = refl
less-by x y p Null Null h k l = absurd (let f : ⊥ = grind (arith, ints) in f)
less-by x y p Null Minus h k l = absurd (let f : ⊥ = grind (arith, ints) in f)
less-by x y p Plus Plus h k l = refl
less-by x y p Plus Null h k l = absurd (let f : ⊥ = grind (arith, ints) in f)
less-by x y p Plus Minus h k l = absurd (let f : ⊥ = grind (arith, ints) in f)

less_signs : (x y p : ℤ) → lt_z x y ≡ true → can_be_less (sign (x -ℤ p)) (sign (y -ℤ p)) ≡ true
less_signs x y p l = less-by x y p (sign (x -ℤ p)) (sign (y -ℤ p)) (says (x -ℤ p)) (says (y -ℤ p)) l

level-by : (s t : Sign) → is_null s ≡ true → then_sign s t ≡ Plus → t ≡ Plus
level-by Null t h k = k
level-by Plus t h k = absurd (cc h)
level-by Minus t h k = absurd (cc h)

-- a horizontal segment runs to the right
level_rises : (s : Seg) → level s ≡ true → (s.a.y ≡ s.b.y) × (lt_z s.a.x s.b.x ≡ true)
unfolding level
level_rises s h =
    let right = level-by (sign (s.b.y -ℤ s.a.y)) (sign (s.b.x -ℤ s.a.x)) h (rising_edge s) in
    let flat = null-zero (s.b.y -ℤ s.a.y) (is_null-true (sign (s.b.y -ℤ s.a.y)) h) in
    (omega (arith, ints, flat), lt_by s.a.x s.b.x (sign (s.b.x -ℤ s.a.x)) (says (s.b.x -ℤ s.a.x)) ∙ ap is_plus right)

-- ---- numbers of locations
shifted : (z : ℤ) (m : ℕ) → unsigned_abs z ≤ m → pos (unsigned_abs (z +ℤ pos m)) ≡ z +ℤ pos m
shifted z m h = omega (arith, ints)

narrow : (z : ℤ) → unsigned_abs z ≤ 1_800_000_000 → unsigned_abs (z +ℤ pos 1_800_000_000) < 4_294_967_296
narrow z h = omega (arith, ints)

first_less : (u v x y : ℕ) → u < v → x < 4_294_967_296 → nat_le (u * 4_294_967_296 + x) (v * 4_294_967_296 + y) ≡ true
first_less u v x y h k = le-leb (u * 4_294_967_296 + x) (v * 4_294_967_296 + y) (omega (arith, h, k))

first_more : (u v x y : ℕ) → v < u → y < 4_294_967_296 → nat_le (u * 4_294_967_296 + x) (v * 4_294_967_296 + y) ≡ false
first_more u v x y h k = lt-leb (u * 4_294_967_296 + x) (v * 4_294_967_296 + y) (omega (arith, h, k))

second_least : (u v x y : ℕ) → u ≡ v → x ≤ y → nat_le (u * 4_294_967_296 + x) (v * 4_294_967_296 + y) ≡ true
second_least u v x y h k = le-leb (u * 4_294_967_296 + x) (v * 4_294_967_296 + y) (omega (arith, h, k))

second_more : (u v x y : ℕ) → u ≡ v → y < x → nat_le (u * 4_294_967_296 + x) (v * 4_294_967_296 + y) ≡ false
second_more u v x y h k = lt-leb (u * 4_294_967_296 + x) (v * 4_294_967_296 + y) (omega (arith, h, k))

module _ (f p : Loc) where
  abbrev row : Loc → ℕ
  row q = unsigned_abs (q.y +ℤ pos 900_000_000)

  abbrev column : Loc → ℕ
  column q = unsigned_abs (q.x +ℤ pos 1_800_000_000)

  rows : (s : Sign) → Says s (f.y -ℤ p.y) → (s ≡ Minus → row f < row p) × (s ≡ Null → row f ≡ row p) × (s ≡ Plus → row p < row f)
  rows Minus h = let a = shifted f.y 900_000_000 f.y_in in let b = shifted p.y 900_000_000 p.y_in in ((λ _. omega (arith, ints, a, b, h)), (λ e. absurd (cc e)), (λ e. absurd (cc e)))
  rows Null h = let a = shifted f.y 900_000_000 f.y_in in let b = shifted p.y 900_000_000 p.y_in in ((λ e. absurd (cc e)), (λ _. omega (arith, ints, a, b, h)), (λ e. absurd (cc e)))
  rows Plus h = let a = shifted f.y 900_000_000 f.y_in in let b = shifted p.y 900_000_000 p.y_in in ((λ e. absurd (cc e)), (λ e. absurd (cc e)), (λ _. omega (arith, ints, a, b, h)))

  columns : (s : Sign) → Says s (f.x -ℤ p.x) → (s ≡ Minus → column f < column p) × (s ≡ Null → column f ≡ column p) × (s ≡ Plus → column p < column f)
  columns Minus h = let a = shifted f.x 1_800_000_000 f.x_in in let b = shifted p.x 1_800_000_000 p.x_in in ((λ _. omega (arith, ints, a, b, h)), (λ e. absurd (cc e)), (λ e. absurd (cc e)))
  columns Null h = let a = shifted f.x 1_800_000_000 f.x_in in let b = shifted p.x 1_800_000_000 p.x_in in ((λ e. absurd (cc e)), (λ _. omega (arith, ints, a, b, h)), (λ e. absurd (cc e)))
  columns Plus h = let a = shifted f.x 1_800_000_000 f.x_in in let b = shifted p.x 1_800_000_000 p.x_in in ((λ e. absurd (cc e)), (λ e. absurd (cc e)), (λ _. omega (arith, ints, a, b, h)))

  number_up-by : (y x : Sign) → Says y (f.y -ℤ p.y) → Says x (f.x -ℤ p.x) → nat_le (place_number f) (place_number p) ≡ is_reached y x
  number_up-by Minus x h k = first_less (row f) (row p) (column f) (column p) ((rows Minus h).0 refl) (narrow f.x f.x_in)
  number_up-by Plus x h k = first_more (row f) (row p) (column f) (column p) ((rows Plus h).2 refl) (narrow p.x p.x_in)
  number_up-by Null Minus h k = let l = (columns Minus k).0 refl in second_least (row f) (row p) (column f) (column p) ((rows Null h).1 refl) (omega (arith, l))
  number_up-by Null Null h k = let l = (columns Null k).1 refl in second_least (row f) (row p) (column f) (column p) ((rows Null h).1 refl) (omega (arith, l))
  number_up-by Null Plus h k = second_more (row f) (row p) (column f) (column p) ((rows Null h).1 refl) ((columns Plus k).2 refl)

  pub number_up : nat_le (place_number f) (place_number p) ≡ is_reached (sign (f.y -ℤ p.y)) (sign (f.x -ℤ p.x))
  number_up = number_up-by (sign (f.y -ℤ p.y)) (sign (f.x -ℤ p.x)) (says (f.y -ℤ p.y)) (says (f.x -ℤ p.x))

  number_down-by : (y x : Sign) → Says y (f.y -ℤ p.y) → Says x (f.x -ℤ p.x) → nat_le (place_number p) (place_number f) ≡ is_ahead y x
  number_down-by Minus x h k = first_more (row p) (row f) (column p) (column f) ((rows Minus h).0 refl) (narrow f.x f.x_in)
  number_down-by Plus x h k = first_less (row p) (row f) (column p) (column f) ((rows Plus h).2 refl) (narrow p.x p.x_in)
  number_down-by Null Minus h k = let e = (rows Null h).1 refl in second_more (row p) (row f) (column p) (column f) (sym e) ((columns Minus k).0 refl)
  number_down-by Null Null h k = let e = (rows Null h).1 refl in let l = (columns Null k).1 refl in second_least (row p) (row f) (column p) (column f) (sym e) (omega (arith, l))
  number_down-by Null Plus h k = let e = (rows Null h).1 refl in let l = (columns Plus k).2 refl in second_least (row p) (row f) (column p) (column f) (sym e) (omega (arith, l))

  pub number_down : nat_le (place_number p) (place_number f) ≡ is_ahead (sign (f.y -ℤ p.y)) (sign (f.x -ℤ p.x))
  number_down = number_down-by (sign (f.y -ℤ p.y)) (sign (f.x -ℤ p.x)) (says (f.y -ℤ p.y)) (says (f.x -ℤ p.x))

flat_order : (s : Seg) → (s.a.y ≡ s.b.y) × (lt_z s.a.x s.b.x ≡ true) → place_number s.a ≤ place_number s.b
flat_order s rise =
    let e = ap (λ (z : ℤ). unsigned_abs (z +ℤ pos 900_000_000)) rise.0 in
    let a = shifted s.a.x 1_800_000_000 s.a.x_in in let b = shifted s.b.x 1_800_000_000 s.b.x_in in
    let less : unsigned_abs (s.a.x +ℤ pos 1_800_000_000) ≤ unsigned_abs (s.b.x +ℤ pos 1_800_000_000) = below s.a.x s.b.x _ _ a b rise.1 in
    omega (arith, e, less)
  where
    below : (x y : ℤ) (m n : ℕ) → pos m ≡ x +ℤ pos 1_800_000_000 → pos n ≡ y +ℤ pos 1_800_000_000 → lt_z x y ≡ true → m ≤ n
    below x y m n a b l = grind (arith, ints)

-- ---- a location and a segment
module _ (p : Loc) (s : Seg) where
  abbrev xa : ℤ
  xa = s.a.x -ℤ p.x

  abbrev xb : ℤ
  xb = s.b.x -ℤ p.x

  abbrev ya : ℤ
  ya = s.a.y -ℤ p.y

  abbrev yb : ℤ
  yb = s.b.y -ℤ p.y

  abbrev side : Sign
  side = sign (xa *ℤ yb -ℤ ya *ℤ xb)

  runs : (flat : Bool) → level s ≡ flat → runs_on flat (sign xa) (sign xb) (sign ya) (sign yb) ≡ true
  runs true h =
      let rise = level_rises s h in
      and_from (same_sign (sign ya) (sign yb)) (can_be_less (sign xa) (sign xb)) (same-sign-is (sign ya) (sign yb) (ap (λ (z : ℤ). sign (z -ℤ p.y)) rise.0)) (less_signs s.a.x s.b.x p.x rise.1)
  runs false h = less_signs s.a.y s.b.y p.y (not-false-out (lt_z s.a.y s.b.y) (level_is s ∙ h))

  lines : same_bool (is_null side && not (same_sign (times (sign xa) (sign yb)) (times (sign ya) (sign xb)))) false ≡ true
  lines = by (is_null side) refl
    where
      by : (b : Bool) → is_null side ≡ b → same_bool (b && not (same_sign (times (sign xa) (sign yb)) (times (sign ya) (sign xb)))) false ≡ true
      by false h = refl
      by true h =
          let same = same_from_difference (xa *ℤ yb) (ya *ℤ xb) (null-zero (xa *ℤ yb -ℤ ya *ℤ xb) (is_null-true side h)) in
          ap (λ b. same_bool (not b) false) (same-sign-is (times (sign xa) (sign yb)) (times (sign ya) (sign xb)) (sym (sign-* xa yb) ∙ ap sign same ∙ sign-* ya xb))

  flats : same_bool ((is_null (times (sign xa) (sign yb)) && is_null (times (sign ya) (sign xb))) && not (is_null side)) false ≡ true
  flats = by (is_null (times (sign xa) (sign yb))) (is_null (times (sign ya) (sign xb))) refl refl
    where
      by : (b c : Bool) → is_null (times (sign xa) (sign yb)) ≡ b → is_null (times (sign ya) (sign xb)) ≡ c → same_bool ((b && c) && not (is_null side)) false ≡ true
      by false c h k = refl
      by true false h k = refl
      by true true h k =
          let first : xa *ℤ yb ≡ pos 0 = null-zero (xa *ℤ yb) (sign-* xa yb ∙ is_null-true _ h) in
          let second : ya *ℤ xb ≡ pos 0 = null-zero (ya *ℤ xb) (sign-* ya xb ∙ is_null-true _ k) in
          ap (λ (z : ℤ). same_bool (not (is_null (sign z))) false) (ap₂ (λ (v w : ℤ). v -ℤ w) first second)

  parts_by : (flat : Bool) → level s ≡ flat →
      (not (are_alike (sign xa) (sign xb) || are_alike (sign ya) (sign yb)) && is_null side)
      ≡ (((not (is_plus (sign ya)) && is_plus (sign yb)) && is_null side) || (is_reached (cond flat (sign ya) (sign yb)) (cond flat (sign xa) (sign xb)) && is_ahead (sign yb) (sign xb)))
  parts_by flat h =
      same_bool-true _ _
      (imp-out _ _ (imp-out _ _ (imp-out _ _ (all4-out (in_parts flat side) (in_parts-all flat side) (sign xa) (sign xb) (sign ya) (sign yb)) (runs flat h)) lines) flats)

  reached_by : (flat : Bool) → is_reached (sign ((cond flat s.a s.b).y -ℤ p.y)) (sign ((cond flat s.a s.b).x -ℤ p.x)) ≡ is_reached (cond flat (sign ya) (sign yb)) (cond flat (sign xa) (sign xb))
  reached_by true = refl
  reached_by false = refl

  level_seen : is_level_on p s ≡ (is_reached (cond (level s) (sign ya) (sign yb)) (cond (level s) (sign xa) (sign xb)) && is_ahead (sign yb) (sign xb))
  level_seen = ap₂ (λ (b c : Bool). b && c) (number_up (level_from s) p ∙ reached_by (level s)) (number_down s.b p)

  pub on_parts : lies_on p s ≡ (passes_through p s || is_level_on p s)
  unfolding lies_on span
  on_parts =
      let around = ap sign (sym (orient-round (vector_of p) (vector_of s.a) (vector_of s.b))) in
      seen xa xb ya yb ∙ parts_by (level s) refl
      ∙ ap₂ (λ (k : Sign) (b : Bool). ((not (is_plus (sign ya)) && is_plus (sign yb)) && is_null k) || b) around (sym level_seen)

  -- a segment that has the location on it lies to no side of it
  pub on_between : lies_on p s ≡ true → (not (are_alike (sign xa) (sign xb)) ≡ true) × (not (are_alike (sign ya) (sign yb)) ≡ true)
  unfolding lies_on
  on_between on = by (are_alike (sign xa) (sign xb)) (are_alike (sign ya) (sign yb)) (sym (seen xa xb ya yb) ∙ on)
    where
      by : (b c : Bool) → (not (b || c) && is_null side) ≡ true → (not b ≡ true) × (not c ≡ true)
      by false false h = (refl, refl)
      by false true h = absurd (cc h)
      by true c h = absurd (cc h)

  pub level_in_order : place_number (level_from s) ≤ place_number s.b
  level_in_order = by (level s) refl
    where
      by : (flat : Bool) → level s ≡ flat → place_number (cond flat s.a s.b) ≤ place_number s.b
      by false h = omega arith
      by true h = flat_order s (level_rises s h)
