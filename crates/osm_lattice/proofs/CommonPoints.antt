-- The points that two segments share, by how they conflict.
use Rattle.std.proofs.Common.{◌≡◌, ◌≢◌, inl, inr, Bool, true, false, if◌then◌else◌, ◌||◌, Some, None, ℤ, pos, ◌*ℤ◌, refl, sym, ap, ◌∙◌, subst, arith}
use Rattle.std.specs.declared.cmp.Ordering.{Ordering}
use Rattle.std.specs.declared.cmp.Ordering.TheVariants.{Less, Equal, Greater}
use Rattle.std.specs.Ordering.{is_eq}
use Rattle.plane.specs.Conflict.{IsClearOf, crosses}
use Rattle.plane.specs.Edge.{Edge, IsRisingEdge, ends_at}
use Rattle.plane.specs.Scale.{scaled_edge, scaled_point}
use Rattle.plane.specs.Sign.{Plus, sign}
use Rattle.plane.specs.Vector.{Vector, same_point}
use Rattle.plane.proofs.PlaneKit.{clear_back, ends_at-from, ends_at-to, same_point-true, same_vector, conflicts-scaled, crosses-scaled, order-scaled}
use Rattle.plane.proofs.SignKit.{lift, same, apart, ◌⊠◌, sign-*, times, sign-pos}
use Rattle.osm_lattice.specs.declared.loc.Loc.{Loc}
use Rattle.osm_lattice.specs.declared.seg.Seg.{Seg}
use Rattle.osm_lattice.specs.declared.frac.Frac.{Frac}
use Rattle.osm_lattice.specs.declared.conflicts.Kind.TheVariants.{Crossing, Overlap}
use Rattle.osm_lattice.specs.Loc.{vector_of}
use Rattle.osm_lattice.specs.Seg.{seg_cmp, edge_of}
use Rattle.osm_lattice.specs.Conflict.{are_overlapping, are_crossing, conflict_of}
use Rattle.osm_lattice.specs.ConflictPoints.{IsAt, IsEndOf, IsEndOfBoth, OnePoint}
use Rattle.osm_lattice.specs.Meeting.{CommonPoint, common_den, whole_point}
use Rattle.osm_lattice.proofs.ConflictCases.{where_crossing}
use Rattle.osm_lattice.proofs.CrossingMeets.{meeting_exists, only_point}
use Rattle.osm_lattice.proofs.Factors.{cancel_factor, some}
use Rattle.osm_lattice.proofs.LocationOrder.{rising_edge}
use Rattle.osm_lattice.proofs.Orders.{seg_same}
use Rattle.osm_lattice.proofs.PointsOnEdges.{ends_where}
use Rattle.osm_lattice.proofs.SharedEnds.{no_crossing_where_shared}

-- ---- a point of fractions, in the plane multiplied by their denominators
pub den_plus : (x y : Frac) → sign (common_den x y) ≡ Plus
den_plus x y = sign-* (pos x.den) (pos y.den) ∙ ap (λ s. times s (sign (pos y.den))) (sign-pos x.den x.den_in) ∙ ap (times Plus) (sign-pos y.den y.den_in)

-- an edge in that plane
abbrev pub multiplied : Frac → Frac → Seg → Edge
multiplied x y s = scaled_edge (common_den x y) (edge_of s)

pub multiplied_rising : (s : Seg) (x y : Frac) → IsRisingEdge (multiplied x y s)
multiplied_rising s x y = order-scaled (common_den x y) (den_plus x y) (vector_of s.a) (vector_of s.b) ∙ rising_edge s

spread_x : (n a e f : ℤ) → n ≡ a *ℤ e → n *ℤ f ≡ (e *ℤ f) *ℤ a
spread_x n a e f h = let k : (a *ℤ e) *ℤ f ≡ (e *ℤ f) *ℤ a = same ((lift a ⊠ lift e) ⊠ lift f) ((lift e ⊠ lift f) ⊠ lift a) (omega arith) in ap (λ z. z *ℤ f) h ∙ k

spread_y : (n a e f : ℤ) → n ≡ a *ℤ f → n *ℤ e ≡ (e *ℤ f) *ℤ a
spread_y n a e f h = let k : (a *ℤ f) *ℤ e ≡ (e *ℤ f) *ℤ a = same ((lift a ⊠ lift f) ⊠ lift e) ((lift e ⊠ lift f) ⊠ lift a) (omega arith) in ap (λ z. z *ℤ e) h ∙ k

pub point_at : (p : Loc) (x y : Frac) → IsAt p x y → whole_point x y ≡ scaled_point (common_den x y) (vector_of p)
point_at p x y at =
    same_vector (x.num *ℤ pos y.den) (y.num *ℤ pos x.den) ((pos x.den *ℤ pos y.den) *ℤ p.x) ((pos x.den *ℤ pos y.den) *ℤ p.y)
    (spread_x x.num p.x (pos x.den) (pos y.den) at.0) (spread_y y.num p.y (pos x.den) (pos y.den) at.1)

gathered_x : (n a e f : ℤ) → f ≢ pos 0 → n *ℤ f ≡ (e *ℤ f) *ℤ a → n ≡ a *ℤ e
gathered_x n a e f nonzero h =
    let n' = lift n in let a' = lift a in let e' = lift e in let f' = lift f in
    cancel_factor n (a *ℤ e) f nonzero (same (f' ⊠ n') (f' ⊠ (a' ⊠ e')) (omega (arith, apart (n' ⊠ f') ((e' ⊠ f') ⊠ a') h)))

gathered_y : (n a e f : ℤ) → e ≢ pos 0 → n *ℤ e ≡ (e *ℤ f) *ℤ a → n ≡ a *ℤ f
gathered_y n a e f nonzero h =
    let n' = lift n in let a' = lift a in let e' = lift e in let f' = lift f in
    cancel_factor n (a *ℤ f) e nonzero (same (e' ⊠ n') (e' ⊠ (a' ⊠ f')) (omega (arith, apart (n' ⊠ e') ((e' ⊠ f') ⊠ a') h)))

pub at_point : (p : Loc) (x y : Frac) → whole_point x y ≡ scaled_point (common_den x y) (vector_of p) → IsAt p x y
at_point p x y e = (
  gathered_x x.num p.x (pos x.den) (pos y.den) (some y.den y.den_in) (ap (λ (v : Vector). v.x) e),
  gathered_y y.num p.y (pos x.den) (pos y.den) (some x.den x.den_in) (ap (λ (v : Vector). v.y) e),
)

-- ---- the ends of a segment there
end_by : (s : Seg) (x y : Frac) (b c : Bool) → same_point (whole_point x y) (multiplied x y s).from ≡ b → same_point (whole_point x y) (multiplied x y s).to ≡ c → (b || c) ≡ true → IsEndOf s x y
end_by s x y true c e f h = inl (at_point s.a x y (same_point-true (whole_point x y) (multiplied x y s).from e))
end_by s x y false true e f h = inr (at_point s.b x y (same_point-true (whole_point x y) (multiplied x y s).to f))
end_by s x y false false e f h = absurd (cc h)

end_from : (s : Seg) (x y : Frac) → ends_at (whole_point x y) (multiplied x y s) ≡ true → IsEndOf s x y
end_from s x y h = end_by s x y (same_point (whole_point x y) (multiplied x y s).from) (same_point (whole_point x y) (multiplied x y s).to) refl refl h

end_is : (s : Seg) (x y : Frac) → IsEndOf s x y → ends_at (whole_point x y) (multiplied x y s) ≡ true
end_is s x y (inl at) = subst (λ w. ends_at w (multiplied x y s) ≡ true) (sym (point_at s.a x y at)) (ends_at-from (multiplied x y s))
end_is s x y (inr at) = subst (λ w. ends_at w (multiplied x y s) ≡ true) (sym (point_at s.b x y at)) (ends_at-to (multiplied x y s))

-- ---- segments that cross
pub crossing_has_one : (s t : Seg) → conflict_of s t ≡ Some Crossing → OnePoint s t
unfolding are_crossing
crossing_has_one s t crossing =
    let point = meeting_exists s t crossing in
    let x = point.x in let y = point.y in
    let k = common_den x y in
    let crossed : crosses (multiplied x y s) (multiplied x y t) ≡ true = crosses-scaled k (den_plus x y) (edge_of s) (edge_of t) ∙ where_crossing s t crossing in
    record {
      point = point;
      not_end_of_both = λ both.
          let not_crossed = no_crossing_where_shared (whole_point x y) (multiplied x y s) (multiplied x y t) (multiplied_rising s x y) (multiplied_rising t x y) (end_is s x y both.0) (end_is t x y both.1) in
          let wrong : true ≡ false = sym crossed ∙ not_crossed in cc;
      alone = λ p. only_point s t p.x p.y x y crossing p.on_first p.on_second point.on_first point.on_second;
    }

-- ---- segments without a conflict
pub clear_by : (e o x : Bool) → e ≡ false → (if e then None else (if o then Some Overlap else (if x then Some Crossing else None))) ≡ None → (o || x) ≡ false
clear_by true o x h k = absurd (cc h)
clear_by false true x h k = cc
clear_by false false true h k = cc
clear_by false false false h k = refl

differ_by : (s t : Seg) (o : Ordering) → s ≢ t → seg_cmp s t ≡ o → is_eq o ≡ false
differ_by s t Less differ e = refl
differ_by s t Greater differ e = refl
differ_by s t Equal differ e = absurd (differ (seg_same s t e))

where_clear : (s t : Seg) → s ≢ t → conflict_of s t ≡ None → IsClearOf (edge_of s) (edge_of t)
unfolding are_overlapping are_crossing
where_clear s t differ h = clear_by (is_eq (seg_cmp s t)) (are_overlapping s t) (are_crossing s t) (differ_by s t (seg_cmp s t) differ refl) h

pub clear_meet_at_ends : (s t : Seg) → s ≢ t → conflict_of s t ≡ None → (p : CommonPoint s t) → IsEndOfBoth s t p
clear_meet_at_ends s t differ none p =
    let x = p.x in let y = p.y in
    let s' = multiplied x y s in let t' = multiplied x y t in
    let clear : IsClearOf s' t' = conflicts-scaled (common_den x y) (den_plus x y) (edge_of s) (edge_of t) ∙ where_clear s t differ none in (
      end_from s x y (ends_where (whole_point x y) s' t' (multiplied_rising s x y) (multiplied_rising t x y) clear p.on_first p.on_second),
      end_from t x y (ends_where (whole_point x y) t' s' (multiplied_rising t x y) (multiplied_rising s x y) (clear_back s' t' clear) p.on_second p.on_first),
    )
