-- Land without conflicts and the sides of the world have no conflicts together.
use Rattle.std.proofs.Common.{◌≡◌, ◌⊎◌, inl, inr, ⊎_elim, ℕ, ℤ, pos, neg_ℤ, zero, suc, ◌-◌, ◌<◌, Bool, true, false, not, ◌&&◌, ◌||◌, if◌then◌else◌, List, [], ◌∷◌, ◌++◌, length, get_or, All, Contains, Option, Some, None, refl, sym, ap, subst, ◌∙◌, arith}
use Rattle.std.specs.declared.cmp.Ordering.TheVariants.{Less}
use Rattle.std.specs.Ordering.{int_cmp, int_eq, is_eq, ordering_then}
use Rattle.std.proofs.lemmas.Bool.{false_from_ne_true, false≢true, or_left, or_right}
use Rattle.std.proofs.lemmas.Cmp.{tied_itself}
use Rattle.std.proofs.lemmas.Int.{ints}
use Rattle.std.proofs.lemmas.List.{get_or_default}
use Rattle.std.proofs.lemmas.List.Elements.{Contains-append_cases, Contains-get_or}
use Rattle.plane.specs.Conflict.{is_inside, is_touched_by, overlaps}
use Rattle.plane.specs.Sign.{is_null}
use Rattle.lists.proofs.ListsKit.{equal_from, int_eq-true, less_itself}
use Rattle.osm_lattice.specs.declared.loc.Loc.{Loc}
use Rattle.osm_lattice.specs.declared.seg.Seg.{Seg}
use Rattle.osm_lattice.specs.declared.conflicts.Kind.{Kind}
use Rattle.osm_lattice.specs.declared.conflicts.Kind.TheVariants.{Crossing, Overlap}
use Rattle.osm_lattice.specs.Conflict.{are_crossing, are_overlapping, conflict_of}
use Rattle.osm_lattice.specs.ConflictLaws.{ConflictIsSymmetric}
use Rattle.osm_lattice.specs.Loc.{loc_cmp, vector_of}
use Rattle.osm_lattice.specs.OrderLaws.{LocationOrderIsPointOrder, LocationOrderTellsApart, SegmentOrderTellsApart}
use Rattle.osm_lattice.specs.Seg.{edge_of, seg_cmp}
use Rattle.lists.specs.Rising.{IsRising}
use Rattle.osm_segments.specs.Counts.{AreSurvivors, ends_of}
use Rattle.osm_segments.specs.Pairs.{conflicts_of}
use Rattle.coast_rings.specs.Corners.{south_east, south_west}
use Rattle.coast_rings.specs.Line.{origin}
use Rattle.coast_sides.specs.Land.{HaveNoConflicts}
use Rattle.coast_sides.specs.Water.{AreSides, IsSide, Meets, is_east, is_north, is_south, is_west, north_east, north_west, pieces}
use Rattle.coast_sides.proofs.ClearSides.{IsBorder, clear_east, clear_north, clear_south, clear_west, east_border, none_between, north_border, on_line, piece_of, south_border, west_border}
use Rattle.coast_sides.proofs.Clearing.{clear_left, none_conflict}
use Rattle.coast_sides.proofs.Corners.{inside_means, north_east_outside, north_west_outside, south_east_outside, south_west_outside}
use Rattle.coast_sides.proofs.EvenRings.{loc_cmp_total}

-- ---- ends of a list of segments

pub first_stands : (land : List Seg) (s : Seg) (k : ℕ) → k < length land → get_or land k s ≡ s → Contains (ends_of land) s.a
first_stands [] s k h e = absurd (omega arith)
first_stands (t ∷ land) s zero h e = (0, omega arith, ap (λ (u : Seg). u.a) e)
first_stands (t ∷ land) s (suc k) h e = let r = first_stands land s k (omega arith) e in (suc (suc r.0), (let l = r.1 in omega arith), r.2)

pub second_stands : (land : List Seg) (s : Seg) (k : ℕ) → k < length land → get_or land k s ≡ s → Contains (ends_of land) s.b
second_stands [] s k h e = absurd (omega arith)
second_stands (t ∷ land) s zero h e = (1, omega arith, ap (λ (u : Seg). u.b) e)
second_stands (t ∷ land) s (suc k) h e = let r = second_stands land s k (omega arith) e in (suc (suc r.0), (let l = r.1 in omega arith), r.2)

end_from : (land : List Seg) (n : Loc) (k : ℕ) → k < length (ends_of land) → get_or (ends_of land) k n ≡ n → (u : Seg) × Contains land u × ((n ≡ u.a) ⊎ (n ≡ u.b))
end_from [] n k h e = absurd (omega arith)
end_from (t ∷ land) n zero h e = (t, (0, omega arith, refl), inl (sym e))
end_from (t ∷ land) n (suc zero) h e = (t, (0, omega arith, refl), inr (sym e))
end_from (t ∷ land) n (suc (suc k)) h e = let r = end_from land n k (omega arith) e in (r.0, (suc r.1.0, (let l = r.1.1 in omega arith), r.1.2), r.2)

-- ---- one location on two sides

pub same_loc : LocationOrderTellsApart → (p q : Loc) → p.x ≡ q.x → p.y ≡ q.y → p ≡ q
same_loc exact p q x y = (exact p q).0 (ap (λ z. ordering_then (int_cmp z q.y) (int_cmp p.x q.x)) y ∙ (ap (λ z. ordering_then (int_cmp q.y q.y) (int_cmp z q.x)) x ∙ tied_itself loc_cmp_total q))

-- ---- what segments meet of a side

module _ (points : LocationOrderIsPointOrder) (exact : LocationOrderTellsApart) (exact_2 : SegmentOrderTellsApart) where
  touched : (same o x y z : Bool) → same ≡ false → x ≡ true → ◌≡◌ {A = Option Kind} (if same then None else (if o then Some Overlap else (if (not o && ((x || y) || z)) then Some Crossing else None))) None → ⊥
  touched true o x y z s h e = absurd (false≢true (sym s))
  touched false true x y z s h e = absurd (cc)
  touched false false true y z s h e = absurd (cc)
  touched false false false y z s h e = absurd (false≢true h)

  -- no node of land is strictly inside a segment of it
  land_outside : (land : List Seg) → HaveNoConflicts land → (s : Seg) → Contains land s → (n : Loc) → Contains (ends_of land) n → is_inside (vector_of n) (edge_of s) ≡ false
  unfolding are_overlapping are_crossing
  land_outside land clear s c n (k, l, e) = false_from_ne_true (is_inside (vector_of n) (edge_of s)) (λ inside.
      let u = end_from land n k l e in
      let none = clear s u.0 c u.1 in
      let m = inside_means points n s inside in
      by u.0 u.2 (is_eq (seg_cmp s u.0)) refl none inside m.1 m.2)
    where
      by : (u : Seg) → (n ≡ u.a) ⊎ (n ≡ u.b) → (b : Bool) → is_eq (seg_cmp s u) ≡ b → conflict_of s u ≡ None → is_inside (vector_of n) (edge_of s) ≡ true → loc_cmp s.a n ≡ Less → loc_cmp n s.b ≡ Less → ⊥
      by u at false differ none inside low high = touched (is_eq (seg_cmp s u)) (overlaps (edge_of s) (edge_of u)) (is_touched_by (edge_of s) (edge_of u)) _ _ differ
          (⊎_elim (λ a. or_left _ _ (subst (λ (p : Loc). is_inside (vector_of p) (edge_of s) ≡ true) a inside)) (λ b. or_right _ _ (subst (λ (p : Loc). is_inside (vector_of p) (edge_of s) ≡ true) b inside)) at) none
      by u at true same none inside low high =
          let is : s ≡ u = (exact_2 s u).0 (equal_from (seg_cmp s u) same) in
          ⊎_elim (λ a. less_itself loc_cmp_total s.a (subst (λ (p : Loc). loc_cmp s.a p ≡ Less) (a ∙ ap (λ (v : Seg). v.a) (sym is)) low)) (λ b. less_itself loc_cmp_total s.b (subst (λ (p : Loc). loc_cmp p s.b ≡ Less) (b ∙ ap (λ (v : Seg). v.b) (sym is)) high)) at

  module _ (land : List Seg) (on : Loc → Bool) (from to : Loc) (nodes : List Loc) (side : IsSide on from to land nodes) (from_out : (s : Seg) → is_inside (vector_of from) (edge_of s) ≡ false) (to_out : (s : Seg) → is_inside (vector_of to) (edge_of s) ≡ false) where
    meets_land : HaveNoConflicts land → (s : Seg) → Contains land s → Meets on nodes s
    meets_land clear s (k, l, e) = record {
      first = λ h. side.cut s.a h (first_stands land s k l e);
      second = λ h. side.cut s.b h (second_stands land s k l e);
      none_inside = λ i d h. ⊎_elim (λ corner. ⊎_elim (λ a. subst (λ (p : Loc). is_inside (vector_of p) (edge_of s) ≡ false) (sym a) (from_out s)) (λ b. subst (λ (p : Loc). is_inside (vector_of p) (edge_of s) ≡ false) (sym b) (to_out s)) corner) (λ node. land_outside land clear s (k, l, e) (get_or nodes i d) node) (side.only i d h);
    }

    meets_itself : (s : Seg) → Contains (pieces nodes) s → Meets on nodes s
    meets_itself s c =
        let next = piece_of nodes s side.rising c in
        let i = next.inside in
        record {
          first = λ h. (next.place, omega arith, next.first s.a);
          second = λ h. (suc next.place, i, next.second s.b);
          none_inside = λ k d h. false_from_ne_true (is_inside (vector_of (get_or nodes k d)) (edge_of s)) (λ inside. let m = inside_means points (get_or nodes k d) s inside in none_between nodes s (get_or nodes k d) side.rising next (Contains-get_or nodes k d h) m.1 m.2);
        }

    from_stands : Contains nodes from
    from_stands = let some = side.some in (0, some, get_or_default nodes 0 from origin some ∙ side.begins)

    to_stands : Contains nodes to
    to_stands = let some = side.some in (length nodes - 1, omega arith, get_or_default nodes (length nodes - 1) to origin (omega arith) ∙ side.ends)

    -- a piece of another side, which has at most a corner in common with this one
    meets_other : (on_2 : Loc → Bool) (nodes_2 : List Loc) → IsRising loc_cmp nodes_2 → All (λ n. on_2 n ≡ true) nodes_2 → ((t : Seg) → on_2 t.a ≡ true → on_2 t.b ≡ true → IsBorder on_2 t)
        → ((q : Loc) → on q ≡ true → on_2 q ≡ true → (q ≡ from) ⊎ (q ≡ to)) → (s : Seg) → Contains (pieces nodes_2) s → Meets on nodes s
    meets_other on_2 nodes_2 up within border common s c =
        let next = piece_of nodes_2 s up c in
        let i = next.inside in
        let a = subst (λ (p : Loc). on_2 p ≡ true) (next.first s.a) (within next.place s.a (omega arith)) in
        let b = subst (λ (p : Loc). on_2 p ≡ true) (next.second s.a) (within (suc next.place) s.a i) in
        record {
          first = λ h. stands s.a (common s.a h a);
          second = λ h. stands s.b (common s.b h b);
          none_inside = λ k d h. false_from_ne_true (is_inside (vector_of (get_or nodes k d)) (edge_of s)) (λ inside.
              let m = inside_means points (get_or nodes k d) s inside in
              let there = on_line on_2 s (border s a b) (get_or nodes k d) (ap is_null m.0) in
              ⊎_elim (λ e. false≢true (sym (from_out s) ∙ subst (λ (p : Loc). is_inside (vector_of p) (edge_of s) ≡ true) e inside)) (λ e. false≢true (sym (to_out s) ∙ subst (λ (p : Loc). is_inside (vector_of p) (edge_of s) ≡ true) e inside)) (common (get_or nodes k d) (side.within k d h) there));
        }
      where
        stands : (q : Loc) → (q ≡ from) ⊎ (q ≡ to) → Contains nodes q
        stands q (inl e) = subst (Contains nodes) (sym e) from_stands
        stands q (inr e) = subst (Contains nodes) (sym e) to_stands

  -- ---- all together

  module _ (land sides : List Seg) (clear : HaveNoConflicts land) (are : AreSides land sides) where
    part_of : (s : Seg) → Contains (land ++ sides) s → Contains land s ⊎ (Contains (pieces are.on_south) s ⊎ (Contains (pieces are.on_east) s ⊎ (Contains (pieces are.on_north) s ⊎ Contains (pieces are.on_west) s)))
    part_of s c = ⊎_elim (λ a. inl a) (λ a.
        ⊎_elim (λ b. inr (inl b)) (λ b. ⊎_elim (λ d. inr (inr (inl d))) (λ d. ⊎_elim (λ f. inr (inr (inr (inl f)))) (λ f. inr (inr (inr (inr f)))) (Contains-append_cases (pieces are.on_north) (pieces are.on_west) s d)) (Contains-append_cases (pieces are.on_east) (pieces are.on_north ++ pieces are.on_west) s b))
        (Contains-append_cases (pieces are.on_south) (pieces are.on_east ++ (pieces are.on_north ++ pieces are.on_west)) s (subst (λ (ss : List Seg). Contains ss s) are.whole a))) (Contains-append_cases land sides s c)

    x_is : (q : Loc) (z : ℤ) → int_eq q.x z ≡ true → q.x ≡ z
    x_is q z e = int_eq-true q.x z e

    y_is : (q : Loc) (z : ℤ) → int_eq q.y z ≡ true → q.y ≡ z
    y_is q z e = int_eq-true q.y z e

    west_of : ℤ
    west_of = neg_ℤ (pos 1800000000)

    opposite_y : (q : Loc) → is_south q ≡ true → is_north q ≡ true → ⊥
    opposite_y q a b = let s = y_is q (neg_ℤ (pos 900000000)) a in let n = y_is q (pos 900000000) b in omega (arith, ints)

    opposite_x : (q : Loc) → is_east q ≡ true → is_west q ≡ true → ⊥
    opposite_x q a b = let e = x_is q (pos 1800000000) a in let w = x_is q (neg_ℤ (pos 1800000000)) b in omega (arith, ints)

    se : (q : Loc) → is_south q ≡ true → is_east q ≡ true → q ≡ south_east
    se q a b = same_loc exact q south_east (x_is q (pos 1800000000) b) (y_is q (neg_ℤ (pos 900000000)) a)

    sw : (q : Loc) → is_south q ≡ true → is_west q ≡ true → q ≡ south_west
    sw q a b = same_loc exact q south_west (x_is q (neg_ℤ (pos 1800000000)) b) (y_is q (neg_ℤ (pos 900000000)) a)

    ne : (q : Loc) → is_north q ≡ true → is_east q ≡ true → q ≡ north_east
    ne q a b = same_loc exact q north_east (x_is q (pos 1800000000) b) (y_is q (pos 900000000) a)

    nw : (q : Loc) → is_north q ≡ true → is_west q ≡ true → q ≡ north_west
    nw q a b = same_loc exact q north_west (x_is q (neg_ℤ (pos 1800000000)) b) (y_is q (pos 900000000) a)

    meets_south : (s : Seg) → Contains (land ++ sides) s → Meets is_south are.on_south s
    meets_south s c =
        let m = meets_other land is_south south_west south_east are.on_south are.south (south_west_outside points) (south_east_outside points) in
        ⊎_elim (λ a. meets_land land is_south south_west south_east are.on_south are.south (south_west_outside points) (south_east_outside points) clear s a)
        (λ a. ⊎_elim (λ b. meets_itself land is_south south_west south_east are.on_south are.south (south_west_outside points) (south_east_outside points) s b)
        (λ b. ⊎_elim (λ d. m is_east are.on_east are.east.rising are.east.within east_border (λ q h k. inr (se q h k)) s d)
        (λ d. ⊎_elim (λ f. m is_north are.on_north are.north.rising are.north.within north_border (λ q h k. absurd (opposite_y q h k)) s f)
        (λ f. m is_west are.on_west are.west.rising are.west.within west_border (λ q h k. inl (sw q h k)) s f) d) b) a) (part_of s c)

    meets_east : (s : Seg) → Contains (land ++ sides) s → Meets is_east are.on_east s
    meets_east s c =
        let m = meets_other land is_east south_east north_east are.on_east are.east (south_east_outside points) (north_east_outside points) in
        ⊎_elim (λ a. meets_land land is_east south_east north_east are.on_east are.east (south_east_outside points) (north_east_outside points) clear s a)
        (λ a. ⊎_elim (λ b. m is_south are.on_south are.south.rising are.south.within south_border (λ q h k. inl (se q k h)) s b)
        (λ b. ⊎_elim (λ d. meets_itself land is_east south_east north_east are.on_east are.east (south_east_outside points) (north_east_outside points) s d)
        (λ d. ⊎_elim (λ f. m is_north are.on_north are.north.rising are.north.within north_border (λ q h k. inr (ne q k h)) s f)
        (λ f. m is_west are.on_west are.west.rising are.west.within west_border (λ q h k. absurd (opposite_x q h k)) s f) d) b) a) (part_of s c)

    meets_north : (s : Seg) → Contains (land ++ sides) s → Meets is_north are.on_north s
    meets_north s c =
        let m = meets_other land is_north north_west north_east are.on_north are.north (north_west_outside points) (north_east_outside points) in
        ⊎_elim (λ a. meets_land land is_north north_west north_east are.on_north are.north (north_west_outside points) (north_east_outside points) clear s a)
        (λ a. ⊎_elim (λ b. m is_south are.on_south are.south.rising are.south.within south_border (λ q h k. absurd (opposite_y q k h)) s b)
        (λ b. ⊎_elim (λ d. m is_east are.on_east are.east.rising are.east.within east_border (λ q h k. inr (ne q h k)) s d)
        (λ d. ⊎_elim (λ f. meets_itself land is_north north_west north_east are.on_north are.north (north_west_outside points) (north_east_outside points) s f)
        (λ f. m is_west are.on_west are.west.rising are.west.within west_border (λ q h k. inl (nw q h k)) s f) d) b) a) (part_of s c)

    meets_west : (s : Seg) → Contains (land ++ sides) s → Meets is_west are.on_west s
    meets_west s c =
        let m = meets_other land is_west south_west north_west are.on_west are.west (south_west_outside points) (north_west_outside points) in
        ⊎_elim (λ a. meets_land land is_west south_west north_west are.on_west are.west (south_west_outside points) (north_west_outside points) clear s a)
        (λ a. ⊎_elim (λ b. m is_south are.on_south are.south.rising are.south.within south_border (λ q h k. inl (sw q k h)) s b)
        (λ b. ⊎_elim (λ d. m is_east are.on_east are.east.rising are.east.within east_border (λ q h k. absurd (opposite_x q k h)) s d)
        (λ d. ⊎_elim (λ f. m is_north are.on_north are.north.rising are.north.within north_border (λ q h k. inr (nw q k h)) s f)
        (λ f. meets_itself land is_west south_west north_west are.on_west are.west (south_west_outside points) (north_west_outside points) s f) d) b) a) (part_of s c)

    clear_piece : (s t : Seg) → Contains (land ++ sides) s → Contains (pieces are.on_south) t ⊎ (Contains (pieces are.on_east) t ⊎ (Contains (pieces are.on_north) t ⊎ Contains (pieces are.on_west) t)) → conflict_of s t ≡ None
    clear_piece s t c (inl a) = clear_south points exact are.on_south s t are.south.rising are.south.within (meets_south s c) a
    clear_piece s t c (inr (inl a)) = clear_east points exact are.on_east s t are.east.rising are.east.within (meets_east s c) a
    clear_piece s t c (inr (inr (inl a))) = clear_north points exact are.on_north s t are.north.rising are.north.within (meets_north s c) a
    clear_piece s t c (inr (inr (inr a))) = clear_west points exact are.on_west s t are.west.rising are.west.within (meets_west s c) a

    clear_whole : ConflictIsSymmetric → HaveNoConflicts (land ++ sides)
    clear_whole symmetric s t a b = ⊎_elim
        (λ t_land. ⊎_elim (λ s_land. clear s t s_land t_land) (λ s_side. symmetric s t ∙ clear_piece t s b s_side) (part_of s a))
        (λ t_side. clear_piece s t a t_side)
        (part_of t b)

  pub water_clear : ConflictIsSymmetric → (land sides left : List Seg) → HaveNoConflicts land → AreSides land sides → AreSurvivors (land ++ sides) left → conflicts_of left ≡ []
  water_clear symmetric land sides left clear are left_are = none_conflict left (clear_left exact_2 (land ++ sides) left (clear_whole land sides clear are symmetric) left_are)
