-- How far along each of two crossing segments their meeting point lies.
use Rattle.std.proofs.Common.{◌≡◌, zero, suc, ◌≤◌, ◌<◌, ℤ, pos, negsuc, ◌-ℤ◌, ◌*ℤ◌, unsigned_abs, true, not, Some, refl, subst, arith}
use Rattle.std.proofs.lemmas.Int.{ints}
use borrow.Author.Differences.{up, down}
use Rattle.plane.specs.Sign.{Sign, Null, Plus, Minus, sign}
use Rattle.plane.specs.Vector.{orient}
use Rattle.plane.proofs.SignKit.{lift, same, ◌⊟◌, ◌⊠◌, Says, says, same_sign}
use Rattle.osm_lattice.specs.declared.loc.Loc.{Loc}
use Rattle.osm_lattice.specs.declared.seg.Seg.{Seg}
use Rattle.osm_lattice.specs.declared.conflicts.Kind.TheVariants.{Crossing}
use Rattle.osm_lattice.specs.Loc.{vector_of, orientation, step}
use Rattle.osm_lattice.specs.Seg.{edge_of}
use Rattle.osm_lattice.specs.Conflict.{are_crossing, conflict_of}
use Rattle.osm_lattice.specs.Meeting.{slant}
use Rattle.osm_lattice.proofs.ConflictCases.{where_crossing}
use Rattle.osm_lattice.proofs.Crossings.{sides_differ, sides_differ_back}
use Rattle.osm_lattice.proofs.LocationOrder.{rising_edge}

-- z lies from 0 to d, which is not 0, in one direction or the other
pub record IsPart (z d : ℤ) : Type 0 where
  pub den_some : 1 ≤ unsigned_abs d
  pub at_most : unsigned_abs z ≤ unsigned_abs d
  pub ratio : pos (unsigned_abs z) *ℤ d ≡ z *ℤ pos (unsigned_abs d)

forward : (z d : ℤ) → down z ≤ up z → up (z -ℤ d) ≤ down (z -ℤ d) → down d < up d → IsPart z d
forward (pos a) (pos n) h k l = record { den_some = omega (arith, ints); at_most = omega (arith, ints); ratio = refl }
forward (pos a) (negsuc n) h k l = absurd (omega (arith, ints))
forward (negsuc a) d h k l = absurd (omega (arith, ints))

backward : (z d : ℤ) → up z ≤ down z → down (z -ℤ d) ≤ up (z -ℤ d) → up d < down d → IsPart z d
backward (pos zero) (negsuc n) h k l = record { den_some = omega (arith, ints); at_most = omega (arith, ints); ratio = omega (arith, ints) }
backward (negsuc a) (negsuc n) h k l = record { den_some = omega (arith, ints); at_most = omega (arith, ints); ratio = omega (arith, ints) }
backward (pos (suc a)) d h k l = absurd (omega (arith, ints))
backward z (pos n) h k l = absurd (omega (arith, ints))

-- so it does where z and z - d have different signs
part_by : (s t : Sign) (z d : ℤ) → not (same_sign s t) ≡ true → Says s z → Says t (z -ℤ d) → IsPart z d
part_by Plus Null z d h p q = forward z d (omega (arith, ints)) (omega (arith, ints)) (omega (arith, ints))
part_by Plus Minus z d h p q = forward z d (omega (arith, ints)) (omega (arith, ints)) (omega (arith, ints))
part_by Null Minus z d h p q = forward z d (omega (arith, ints)) (omega (arith, ints)) (omega (arith, ints))
part_by Null Plus z d h p q = backward z d (omega (arith, ints)) (omega (arith, ints)) (omega (arith, ints))
part_by Minus Null z d h p q = backward z d (omega (arith, ints)) (omega (arith, ints)) (omega (arith, ints))
part_by Minus Plus z d h p q = backward z d (omega (arith, ints)) (omega (arith, ints)) (omega (arith, ints))
part_by Plus Plus z d h p q = absurd (cc h)
part_by Null Null z d h p q = absurd (cc h)
part_by Minus Minus z d h p q = absurd (cc h)

-- the upper end of s lies off the line of t by as much less as the two are slanted
orientation-ends : (s t : Seg) → orientation t.a t.b s.b ≡ orientation t.a t.b s.a -ℤ slant s t
unfolding orientation slant step
orientation-ends s t =
    let d = λ (z w : ℤ). lift w ⊟ lift z in
    let o = λ (a b c : Loc). d a.x b.x ⊠ d a.y c.y ⊟ d a.y b.y ⊠ d a.x c.x in
    same (o t.a t.b s.b) (o t.a t.b s.a ⊟ (d s.a.x s.b.x ⊠ d t.a.y t.b.y ⊟ d s.a.y s.b.y ⊠ d t.a.x t.b.x)) (omega arith)

part_of : (s t : Seg) → not (same_sign (orient (vector_of t.a) (vector_of t.b) (vector_of s.a)) (orient (vector_of t.a) (vector_of t.b) (vector_of s.b))) ≡ true → IsPart (orientation t.a t.b s.a) (slant s t)
unfolding orientation
part_of s t h =
    let z = orientation t.a t.b s.a in
    let q : Says (sign (orientation t.a t.b s.b)) (z -ℤ slant s t) = subst (λ y. Says (sign (orientation t.a t.b s.b)) y) (orientation-ends s t) (says (orientation t.a t.b s.b)) in
    part_by (sign z) (sign (orientation t.a t.b s.b)) z (slant s t) h (says z) q

pub part_of_first : (s t : Seg) → conflict_of s t ≡ Some Crossing → IsPart (orientation t.a t.b s.a) (slant s t)
unfolding are_crossing
part_of_first s t h = part_of s t (sides_differ (edge_of s) (edge_of t) (rising_edge s) (rising_edge t) (where_crossing s t h))

pub part_of_second : (s t : Seg) → conflict_of s t ≡ Some Crossing → IsPart (orientation s.a s.b t.a) (slant t s)
unfolding are_crossing
part_of_second s t h = part_of t s (sides_differ_back (edge_of s) (edge_of t) (rising_edge s) (rising_edge t) (where_crossing s t h))

pub slant_turned : (s t : Seg) → slant t s ≡ pos 0 -ℤ slant s t
unfolding slant step
slant_turned s t =
    let d = λ (z w : ℤ). lift w ⊟ lift z in
    same (d t.a.x t.b.x ⊠ d s.a.y s.b.y ⊟ d t.a.y t.b.y ⊠ d s.a.x s.b.x) (lift (pos 0) ⊟ (d s.a.x s.b.x ⊠ d t.a.y t.b.y ⊟ d s.a.y s.b.y ⊠ d t.a.x t.b.x)) (omega arith)
