-- The points that two segments share tell how they conflict.
use Rattle.std.proofs.Common.{◌≡◌, ◌≢◌, ◌⊎◌, ◌↔◌, inl, inr, Option, Some, None, ℤ, pos, ◌*ℤ◌, true, refl, sym, ap, ◌∙◌, subst, arith}
use Rattle.std.specs.declared.cmp.Ordering.{Ordering}
use Rattle.std.specs.declared.cmp.Ordering.TheVariants.{Less, Equal, Greater}
use Rattle.std.specs.Ordering.{is_eq}
use Rattle.std.proofs.lemmas.Cmp.{tied_itself}
use Rattle.plane.specs.Order.{order}
use Rattle.plane.specs.Sign.{Plus, Minus, negated}
use Rattle.plane.proofs.SignKit.{lift, same, ◌⊠◌}
use Rattle.plane.proofs.PlaneKit.{order-reversed}
use Rattle.osm_lattice.specs.declared.loc.Loc.{Loc}
use Rattle.osm_lattice.specs.declared.seg.Seg.{Seg}
use Rattle.osm_lattice.specs.declared.frac.Frac.{Frac}
use Rattle.osm_lattice.specs.declared.conflicts.Kind.{Kind}
use Rattle.osm_lattice.specs.declared.conflicts.Kind.TheVariants.{Crossing, Overlap}
use Rattle.osm_lattice.specs.Loc.{vector_of}
use Rattle.osm_lattice.specs.Seg.{seg_cmp}
use Rattle.osm_lattice.specs.Conflict.{conflict_of}
use Rattle.osm_lattice.specs.ConflictPoints.{AreSame, IsAt, IsEndOf, IsEndOfBoth, ManyPoints, OnePoint}
use Rattle.osm_lattice.specs.Meeting.{CommonPoint}
use Rattle.osm_lattice.proofs.CommonPoints.{clear_meet_at_ends, crossing_has_one}
use Rattle.osm_lattice.proofs.ConflictCases.{none_where_equal}
use Rattle.osm_lattice.proofs.LocationOrder.{rising_edge, seg_total}
use Rattle.osm_lattice.proofs.LowestTerms.{frac_same}
use Rattle.osm_lattice.proofs.Orders.{seg_from_ends}
use Rattle.osm_lattice.proofs.OverlapPoints.{itself_has_many, overlap_has_many, same_location}

-- ---- more than one point is not one point
many_not_one : (s t : Seg) → ManyPoints s t → OnePoint s t → ⊥
many_not_one s t many one =
    let first = one.alone many.first in let second = one.alone many.second in
    many.apart (first.0 ∙ sym second.0, first.1 ∙ sym second.1)

-- ---- two points that are ends of both segments are the ends of both
same_fraction : (f g : Frac) (a : ℤ) → f.num ≡ a *ℤ pos f.den → g.num ≡ a *ℤ pos g.den → f ≡ g
same_fraction f g a h k =
    frac_same f g (ap (λ z. z *ℤ pos g.den) h ∙ (turned a (pos f.den) (pos g.den) ∙ sym (ap (λ z. z *ℤ pos f.den) k)))
  where
    turned : (a e f : ℤ) → (a *ℤ e) *ℤ f ≡ (a *ℤ f) *ℤ e
    turned a e f = same ((lift a ⊠ lift e) ⊠ lift f) ((lift a ⊠ lift f) ⊠ lift e) (omega arith)

one_place : (s t : Seg) (p q : CommonPoint s t) (l : Loc) → IsAt l p.x p.y → IsAt l q.x q.y → AreSame s t p q
one_place s t p q l at_p at_q = (same_fraction p.x q.x l.x at_p.0 at_q.0, same_fraction p.y q.y l.y at_p.1 at_q.1)

-- p and q are the two ends of s, the lesser one first or last
abbrev AreEnds : (s : Seg) (x y x' y' : Frac) → Type 0
AreEnds s x y x' y' = (IsAt s.a x y × IsAt s.b x' y') ⊎ (IsAt s.b x y × IsAt s.a x' y')

ends_of : (s t u : Seg) (p q : CommonPoint s t) → (AreSame s t p q → ⊥) → IsEndOf u p.x p.y → IsEndOf u q.x q.y → AreEnds u p.x p.y q.x q.y
ends_of s t u p q differ (inl h) (inl k) = absurd (differ (one_place s t p q u.a h k))
ends_of s t u p q differ (inl h) (inr k) = inl (h, k)
ends_of s t u p q differ (inr h) (inl k) = inr (h, k)
ends_of s t u p q differ (inr h) (inr k) = absurd (differ (one_place s t p q u.b h k))

not_turned : (s t : Seg) → s.a ≡ t.b → s.b ≡ t.a → ⊥
not_turned s t e f =
    let forth : order (vector_of t.b) (vector_of t.a) ≡ Plus = subst (λ p. order (vector_of t.b) (vector_of p) ≡ Plus) f (subst (λ p. order (vector_of p) (vector_of s.b) ≡ Plus) e (rising_edge s)) in
    let back : order (vector_of t.b) (vector_of t.a) ≡ Minus = order-reversed (vector_of t.a) (vector_of t.b) ∙ ap negated (rising_edge t) in
    let wrong : Plus ≡ Minus = sym forth ∙ back in cc

same_by_ends : (s t : Seg) (x y x' y' : Frac) → AreEnds s x y x' y' → AreEnds t x y x' y' → s ≡ t
same_by_ends s t x y x' y' (inl h) (inl k) = seg_from_ends s t (same_location s.a t.a x y h.0 k.0) (same_location s.b t.b x' y' h.1 k.1)
same_by_ends s t x y x' y' (inr h) (inr k) = seg_from_ends s t (same_location s.a t.a x' y' h.1 k.1) (same_location s.b t.b x y h.0 k.0)
same_by_ends s t x y x' y' (inl h) (inr k) = absurd (not_turned s t (same_location s.a t.b x y h.0 k.0) (same_location s.b t.a x' y' h.1 k.1))
same_by_ends s t x y x' y' (inr h) (inl k) = absurd (not_turned s t (same_location s.a t.b x' y' h.1 k.1) (same_location s.b t.a x y h.0 k.0))

same_where_ends : (s t : Seg) → ManyPoints s t → ((p : CommonPoint s t) → IsEndOfBoth s t p) → s ≡ t
same_where_ends s t many ends =
    let p = many.first in let q = many.second in
    let h = ends p in let k = ends q in
    same_by_ends s t p.x p.y q.x q.y (ends_of s t s p q many.apart h.0 k.0) (ends_of s t t p q many.apart h.1 k.1)

-- ---- equal segments have no conflict
differ_where_overlapping : (s t : Seg) → conflict_of s t ≡ Some Overlap → s ≢ t
differ_where_overlapping s t h e =
    let tied : is_eq (seg_cmp s t) ≡ true = ap (λ u. is_eq (seg_cmp s u)) (sym e) ∙ ap is_eq (tied_itself seg_total s) in
    let none = none_where_equal s t tied in
    let wrong : None ≡ Some Overlap = none ∙ h in cc

differ_by : (s t : Seg) (o : Ordering) → seg_cmp s t ≡ o → OnePoint s t → s ≢ t
differ_by s t Less h one e = let tied = ap (λ u. seg_cmp s u) (sym e) ∙ tied_itself seg_total s in let wrong : Less ≡ Equal = sym h ∙ tied in cc
differ_by s t Greater h one e = let tied = ap (λ u. seg_cmp s u) (sym e) ∙ tied_itself seg_total s in let wrong : Greater ≡ Equal = sym h ∙ tied in cc
differ_by s t Equal h one e = many_not_one s t (subst (λ u. ManyPoints s u) e (itself_has_many s)) one

-- ---- the answers
crossing_by : (s t : Seg) (r : Option Kind) → conflict_of s t ≡ r → s ≢ t → OnePoint s t → r ≡ Some Crossing
crossing_by s t None h differ one = absurd (one.not_end_of_both (clear_meet_at_ends s t differ h one.point))
crossing_by s t (Some Crossing) h differ one = refl
crossing_by s t (Some Overlap) h differ one = absurd (many_not_one s t (overlap_has_many s t h) one)

pub one_point_is_crossing : (s t : Seg) → OnePoint s t → conflict_of s t ≡ Some Crossing
one_point_is_crossing s t one = crossing_by s t (conflict_of s t) refl (differ_by s t (seg_cmp s t) refl one) one

overlap_by : (s t : Seg) (r : Option Kind) → conflict_of s t ≡ r → s ≢ t → ManyPoints s t → r ≡ Some Overlap
overlap_by s t None h differ many = absurd (differ (same_where_ends s t many (clear_meet_at_ends s t differ h)))
overlap_by s t (Some Crossing) h differ many = absurd (many_not_one s t many (crossing_has_one s t h))
overlap_by s t (Some Overlap) h differ many = refl

pub many_points_are_overlap : (s t : Seg) → s ≢ t → ManyPoints s t → conflict_of s t ≡ Some Overlap
many_points_are_overlap s t differ many = overlap_by s t (conflict_of s t) refl differ many

none_by : (s t : Seg) (r : Option Kind) → conflict_of s t ≡ r → ((p : CommonPoint s t) → IsEndOfBoth s t p) → r ≡ None
none_by s t None h ends = refl
none_by s t (Some Crossing) h ends = let one = crossing_has_one s t h in absurd (one.not_end_of_both (ends one.point))
none_by s t (Some Overlap) h ends = absurd (differ_where_overlapping s t h (same_where_ends s t (overlap_has_many s t h) ends))

-- ---- both ways
pub crossing_is_one_point : (s t : Seg) → (conflict_of s t ≡ Some Crossing) ↔ OnePoint s t
crossing_is_one_point s t = (crossing_has_one s t, one_point_is_crossing s t)

pub overlap_is_many_points : (s t : Seg) → (conflict_of s t ≡ Some Overlap) ↔ ((s ≢ t) × ManyPoints s t)
overlap_is_many_points s t = ((λ h. (differ_where_overlapping s t h, overlap_has_many s t h)), (λ both. many_points_are_overlap s t both.0 both.1))

pub clear_is_ends_alone : (s t : Seg) → s ≢ t → (conflict_of s t ≡ None) ↔ ((p : CommonPoint s t) → IsEndOfBoth s t p)
clear_is_ends_alone s t differ = (clear_meet_at_ends s t differ, none_by s t (conflict_of s t) refl)
