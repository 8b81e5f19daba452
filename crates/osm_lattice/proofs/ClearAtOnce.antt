-- Segments that few tests tell to be clear: one is on one side of the line of the other, or leaves it at an end of both.
use Rattle.std.proofs.Common.{ℤ, ◌≡◌, pos, Bool, true, false, not, ◌&&◌, ◌||◌, Some, None, refl, arith, ◌∙◌}
use Rattle.std.specs.Prelude.{◌<ℤ◌, ◌≤ℤ◌}
use Rattle.std.specs.Ordering.{is_eq}
use Rattle.std.proofs.lemmas.Int.{ints}
use Rattle.std.proofs.lemmas.Bool.{and_parts}
use lib.Signed.{lt_z}
use Rattle.plane.specs.Conflict.{crosses}
use Rattle.plane.specs.Edge.{ends_at}
use Rattle.plane.specs.Sign.{Sign, Minus, Null, Plus, is_minus, is_plus}
use Rattle.plane.proofs.PlaneKit.{ends_at-from, ends_at-to}
use Rattle.plane.proofs.SignKit.{same_sign}
use Rattle.osm_lattice.specs.declared.loc.Loc.{Loc}
use Rattle.osm_lattice.specs.declared.seg.Seg.{Seg}
use Rattle.osm_lattice.specs.declared.conflicts.Kind.TheVariants.{Crossing, Overlap}
use Rattle.osm_lattice.specs.Conflict.{are_overlapping, are_crossing, conflict_of}
use Rattle.osm_lattice.specs.ConflictTests.{along, beside, meet_at_end, west}
use Rattle.osm_lattice.specs.Line.{side_of_line}
use Rattle.osm_lattice.specs.Loc.{vector_of}
use Rattle.osm_lattice.specs.Seg.{seg_cmp, edge_of}
use Rattle.osm_lattice.proofs.ApartSegments.{apart_clear, clear_where, parted_clear, reach}
use Rattle.osm_lattice.proofs.ConflictCases.{conflict_of-comm, where_crossing}
use Rattle.osm_lattice.proofs.Crossings.{sides_differ_back}
use Rattle.osm_lattice.proofs.LocationOrder.{rising_edge}
use Rattle.osm_lattice.proofs.OverlapPoints.{overlapping_where}
use Rattle.osm_lattice.proofs.SharedEnds.{no_crossing_where_shared}
use Rattle.lists.proofs.ListsKit.{clash}

clear_by_kinds : (s t : Seg) → (conflict_of s t ≡ Some Overlap → ⊥) → (conflict_of s t ≡ Some Crossing → ⊥) → conflict_of s t ≡ None
clear_by_kinds s t over cross = clear_where (is_eq (seg_cmp s t)) (are_overlapping s t) (are_crossing s t) over cross

-- ---- both ends of t on one side of the line of s
abbrev on_one_side : Sign → Sign → Bool
on_one_side a b = (is_plus a && is_plus b) || (is_minus a && is_minus b)

not_on_line : (a b : Sign) → on_one_side a b ≡ true → a ≡ Null → ⊥
not_on_line Plus b h e = cc
not_on_line Minus b h e = cc
not_on_line Null b h e = cc

one_side_same : (a b : Sign) → on_one_side a b ≡ true → not (same_sign a b) ≡ true → ⊥
one_side_same Plus Plus h e = cc
one_side_same Plus Null h e = cc
one_side_same Plus Minus h e = cc
one_side_same Null b h e = cc
one_side_same Minus Plus h e = cc
one_side_same Minus Null h e = cc
one_side_same Minus Minus h e = cc

pub beside_clear : (s t : Seg) → beside t s ≡ true → conflict_of s t ≡ None
unfolding are_crossing beside
beside_clear s t h =
    clear_by_kinds s t
    (λ overlap. not_on_line (side_of_line t.a s) (side_of_line t.b s) h (overlapping_where s t overlap).first_on)
    (λ crossing. one_side_same (side_of_line t.a s) (side_of_line t.b s) h (sides_differ_back (edge_of s) (edge_of t) (rising_edge s) (rising_edge t) (where_crossing s t crossing)))

-- ---- an end of s is one of t, and t leaves the line of s
shared_by : (s t : Seg) (b c : Bool) → ends_at (vector_of s.a) (edge_of t) ≡ b → ends_at (vector_of s.b) (edge_of t) ≡ c → (b || c) ≡ true → conflict_of s t ≡ Some Crossing → ⊥
unfolding are_crossing
shared_by s t true c e f h crossing =
    clash (crosses (edge_of s) (edge_of t)) (where_crossing s t crossing)
    (no_crossing_where_shared (vector_of s.a) (edge_of s) (edge_of t) (rising_edge s) (rising_edge t) (ends_at-from (edge_of s)) e)
shared_by s t false true e f h crossing =
    clash (crosses (edge_of s) (edge_of t)) (where_crossing s t crossing)
    (no_crossing_where_shared (vector_of s.b) (edge_of s) (edge_of t) (rising_edge s) (rising_edge t) (ends_at-to (edge_of s)) f)
shared_by s t false false e f h crossing = absurd (cc h)

along_where : (s t : Seg) → conflict_of s t ≡ Some Overlap → along s t ≡ true
unfolding along
along_where s t overlap = let on = overlapping_where s t overlap in rw (on.first_on, on.second_on) refl

pub fork_clear : (s t : Seg) → meet_at_end s t ≡ true → along s t ≡ false → conflict_of s t ≡ None
unfolding meet_at_end
fork_clear s t meet leave =
    clear_by_kinds s t
    (λ overlap. clash (along s t) (along_where s t overlap) leave)
    (λ crossing. shared_by s t (ends_at (vector_of s.a) (edge_of t)) (ends_at (vector_of s.b) (edge_of t)) refl refl meet crossing)

-- ---- the same the other way round
pub beside_clear_back : (s t : Seg) → beside s t ≡ true → conflict_of s t ≡ None
beside_clear_back s t h = conflict_of-comm s t ∙ beside_clear t s h

pub higher_clear : (s t : Seg) → lt_z s.b.y t.a.y ≡ true → conflict_of s t ≡ None
higher_clear s t h = apart_clear s t (grind (arith, ints))

pub lower_clear : (s t : Seg) → lt_z t.b.y s.a.y ≡ true → conflict_of s t ≡ None
lower_clear s t h = conflict_of-comm s t ∙ higher_clear t s h

-- ---- one beside the other
-- the reach eastwards is the longitude
reach_east : (p : Loc) → reach (pos 1) (pos 0) p ≡ p.x
reach_east p = omega (arith, ints)

-- numbers from which neither end of s lies east, nor one of t west
pub west_by : (s t : Seg) (m n : ℤ) → s.a.x ≤ℤ m → s.b.x ≤ℤ m → n ≤ℤ t.a.x → n ≤ℤ t.b.x → lt_z m n ≡ true → west s t ≡ true
west_by s t m n sa sb ta tb less =
    let aa : lt_z s.a.x t.a.x ≡ true = grind (arith, ints) in
    let ab : lt_z s.a.x t.b.x ≡ true = grind (arith, ints) in
    let ba : lt_z s.b.x t.a.x ≡ true = grind (arith, ints) in
    let bb : lt_z s.b.x t.b.x ≡ true = grind (arith, ints) in
    rw (aa, ab, ba, bb) refl

-- the end of s that is farther right parts them
pub west_clear : (s t : Seg) → west s t ≡ true → conflict_of s t ≡ None
west_clear s t h =
    let (aa, rest) = and_parts (lt_z s.a.x t.a.x) (lt_z s.a.x t.b.x && (lt_z s.b.x t.a.x && lt_z s.b.x t.b.x)) h in
    let (ab, more) = and_parts (lt_z s.a.x t.b.x) (lt_z s.b.x t.a.x && lt_z s.b.x t.b.x) rest in
    let (ba, bb) = and_parts (lt_z s.b.x t.a.x) (lt_z s.b.x t.b.x) more in
    let aa' : s.a.x <ℤ t.a.x = grind (arith, ints) in
    let ab' : s.a.x <ℤ t.b.x = grind (arith, ints) in
    let ba' : s.b.x <ℤ t.a.x = grind (arith, ints) in
    let bb' : s.b.x <ℤ t.b.x = grind (arith, ints) in
    by (lt_z s.a.x s.b.x) refl aa' ab' ba' bb'
  where
    by : (b : Bool) → lt_z s.a.x s.b.x ≡ b → s.a.x <ℤ t.a.x → s.a.x <ℤ t.b.x → s.b.x <ℤ t.a.x → s.b.x <ℤ t.b.x → conflict_of s t ≡ None
    by true e aa ab ba bb =
        let less : s.a.x <ℤ s.b.x = grind (arith, ints) in
        let sa = reach_east s.a in let sb = reach_east s.b in let ta = reach_east t.a in let tb = reach_east t.b in
        parted_clear (pos 1) (pos 0) s.b.x s t (omega (arith, ints)) (omega (arith, ints)) (omega (arith, ints)) (omega (arith, ints))
    by false e aa ab ba bb =
        let most : s.b.x ≤ℤ s.a.x = grind (arith, ints) in
        let sa = reach_east s.a in let sb = reach_east s.b in let ta = reach_east t.a in let tb = reach_east t.b in
        parted_clear (pos 1) (pos 0) s.a.x s t (omega (arith, ints)) (omega (arith, ints)) (omega (arith, ints)) (omega (arith, ints))

pub east_clear : (s t : Seg) → west t s ≡ true → conflict_of s t ≡ None
east_clear s t h = conflict_of-comm s t ∙ west_clear t s h
