-- The segments along which a sided list of whole segments runs: no two conflict, and at each location an even number of them end.
use Rattle.std.proofs.Common.{◌≡◌, ⊎_elim, ℕ, suc, ◌+◌, ◌||◌, Bool, true, false, cond, if◌then◌else◌, List, [], ◌∷◌, All, Contains, Some, None, refl, sym, ap, subst, ◌∙◌, arith}
use Rattle.std.specs.declared.cmp.Ordering.{Ordering}
use Rattle.std.specs.declared.cmp.Ordering.TheVariants.{Less, Equal, Greater}
use Rattle.std.specs.List.{cons_option, sum_by}
use Rattle.std.specs.Ordering.{is_eq}
use Rattle.std.proofs.lemmas.Bool.{false≢true}
use Rattle.std.proofs.lemmas.Cmp.{tied_itself}
use Rattle.std.proofs.lemmas.List.Sums.{sum_by-cons}
use Rattle.plane.specs.Bit.{bit}
use Rattle.plane.specs.Conflict.{IsClearOf}
use Rattle.plane.specs.Edge as plane
use Rattle.plane.specs.Sign.{is_plus, negated}
use Rattle.plane.specs.Vector.{one_at, same_point}
use Rattle.plane.proofs.PlaneKit.{order-reversed, same_point-true}
pub use Rattle.plane.proofs.PlaneKit.{same_point-refl}
use Rattle.plane_lists.specs.Lists.Ring.{segments_of}
use Rattle.plane_lists.specs.Lists.Sided as winding
use Rattle.lists.specs.Member.{EachPair}
use Rattle.lists.proofs.ListsKit.{in-all, member_cases, no_member}
use Rattle.osm_geom.specs.declared.edge.Edge.{Edge}
use Rattle.osm_geom.specs.declared.point.Point.TheVariants.{Lattice}
use Rattle.osm_geom.specs.Point.{den_of}
use Rattle.osm_geom.specs.WholeSegment.{IsWholeSegment}
use Rattle.osm_lattice.specs.declared.conflicts.Kind.TheVariants.{Crossing, Overlap}
use Rattle.osm_lattice.specs.declared.loc.Loc.{Loc}
use Rattle.osm_lattice.specs.declared.seg.Seg.{Seg}
use Rattle.osm_lattice.specs.Conflict.{are_crossing, are_overlapping, conflict_of}
use Rattle.osm_lattice.specs.ConflictLaws.{ConflictIsSymmetric}
use Rattle.osm_lattice.specs.Loc.{loc_cmp, vector_of}
use Rattle.osm_lattice.specs.OrderLaws.{LocationOrderTellsApart}
use Rattle.osm_lattice.specs.Seg.{edge_of, seg_cmp}
use Rattle.osm_lattice.proofs.LatticeKit.{loc_from_vectors, rising_edge}
use Rattle.osm_segments.specs.Counts.{HasEvenNodes}
use Rattle.osm_sides.specs.Survivors.{plane_edges_of}
use Rattle.osm_geom.specs.InPlane.Multiple.{edge_times, edges_times, point_times}
use Rattle.osm_geom.specs.InPlane.Sided.{IsSided}
use Rattle.osm_geom.specs.InPlane.SidedLaws.{IsLattice, LatticeIsSided}
pub use Rattle.osm_geom.proofs.EdgesKit.{lattice_point}
use Rattle.coast_sides.specs.Land.{HaveNoConflicts}
use Rattle.coast_sides.specs.Water.{segment_of_carrier, segments_under}
use Rattle.coast_sides.proofs.EvenRings.{ends_are, ends_at, one, rising_none, seg_cmp_total}

-- ---- an edge along a whole segment, in the plane

module _ (e : Edge) (s : Seg) where
  edge_forth : e.from ≡ Lattice s.a → e.to ≡ Lattice s.b → edge_times 1 e ≡ edge_of s
  edge_forth f t =
      let a = ap (point_times 1) f ∙ lattice_point s.a in
      let b = ap (point_times 1) t ∙ lattice_point s.b in
      λ i. record { from = a i; to = b i }

  edge_back : e.from ≡ Lattice s.b → e.to ≡ Lattice s.a → edge_times 1 e ≡ plane.reversed (edge_of s)
  edge_back f t =
      let a = ap (point_times 1) f ∙ lattice_point s.b in
      let b = ap (point_times 1) t ∙ lattice_point s.a in
      λ i. record { from = a i; to = b i }

  ends_on : (b : Bool) → e.from ≡ cond b (Lattice s.a) (Lattice s.b) → e.to ≡ cond b (Lattice s.b) (Lattice s.a) → edge_times 1 e ≡ cond b (edge_of s) (plane.reversed (edge_of s))
  ends_on true = edge_forth
  ends_on false = edge_back

  whole_dens : (b : Bool) → e.from ≡ cond b (Lattice s.a) (Lattice s.b) → e.to ≡ cond b (Lattice s.b) (Lattice s.a) → (den_of e.from ≡ 1) × (den_of e.to ≡ 1)
  whole_dens true f t = (ap den_of f, ap den_of t)
  whole_dens false f t = (ap den_of f, ap den_of t)

segment_forth : (s : Seg) → plane.segment_of (edge_of s) ≡ edge_of s
segment_forth s = ap (λ b. cond b (edge_of s) (plane.reversed (edge_of s))) (ap is_plus (rising_edge s))

segment_back : (s : Seg) → plane.segment_of (plane.reversed (edge_of s)) ≡ edge_of s
segment_back s =
    ap (λ b. cond b (plane.reversed (edge_of s)) (edge_of s)) (ap is_plus (order-reversed (vector_of s.a) (vector_of s.b) ∙ ap negated (rising_edge s)))

segment_by : (b : Bool) (s : Seg) → plane.segment_of (cond b (edge_of s) (plane.reversed (edge_of s))) ≡ edge_of s
segment_by true = segment_forth
segment_by false = segment_back

segment_is : (e : Edge) (w : IsWholeSegment e) → plane.segment_of (edge_times 1 e) ≡ edge_of w.segment
segment_is e w = ap plane.segment_of (ends_on e w.segment w.forward w.from w.to) ∙ segment_by w.forward w.segment

pub along_more : (e : Edge) (es : List Edge) (w : IsWholeSegment e) → segments_under (e ∷ es) ≡ w.segment ∷ segments_under es
along_more e es w = ap (λ c. cons_option (segment_of_carrier c) (segments_under es)) w.carrier

pub later : (e : Edge) (es : List Edge) → All IsWholeSegment (e ∷ es) → All IsWholeSegment es
later e es whole k d h = whole (suc k) d (omega arith)

segments_are : (es : List Edge) → All IsWholeSegment es → segments_of (edges_times 1 es) ≡ plane_edges_of (segments_under es)
segments_are [] whole = refl
segments_are (e ∷ es) whole =
    let w = whole 0 e (omega arith) in
    let rest = segments_are es (later e es whole) in
    let head = segment_is e w in
    (λ i. head i ∷ rest i) ∙ ap plane_edges_of (sym (along_more e es w))

whole_lattice : (es : List Edge) → All IsWholeSegment es → IsLattice es
whole_lattice es whole e i = let w = in-all IsWholeSegment es e whole i in whole_dens e w.segment w.forward w.from w.to

-- ---- no two conflict

clear_by : (e o x : Bool) → (o || x) ≡ false → (if e then None else (if o then Some Overlap else (if x then Some Crossing else None))) ≡ None
clear_by true o x h = refl
clear_by false true x h = absurd (false≢true (sym h))
clear_by false false true h = absurd (false≢true (sym h))
clear_by false false false h = refl

clear_from : (s t : Seg) → IsClearOf (edge_of s) (edge_of t) → conflict_of s t ≡ None
unfolding are_overlapping are_crossing
clear_from s t h = clear_by (is_eq (seg_cmp s t)) (are_overlapping s t) (are_crossing s t) h

clear_itself : (s : Seg) → conflict_of s s ≡ None
clear_itself s = rw (ap is_eq (tied_itself seg_cmp_total s)) refl

clear_of_each : (s t : Seg) (ts : List Seg) → All (IsClearOf (edge_of s)) (plane_edges_of ts) → Contains ts t → conflict_of s t ≡ None
clear_of_each s t [] h c = absurd (no_member t c)
clear_of_each s t (u ∷ ts) h c =
    ⊎_elim
    (λ (e : u ≡ t). subst (λ z. conflict_of s z ≡ None) e (clear_from s u (h 0 (edge_of u) (omega arith))))
    (λ (c : Contains ts t). clear_of_each s t ts (λ k d l. h (suc k) d (omega arith)) c)
    (member_cases u t ts c)

clear_pairs : ConflictIsSymmetric → (ss : List Seg) → EachPair IsClearOf (plane_edges_of ss) → HaveNoConflicts ss
clear_pairs symmetric [] h s t c d = absurd (no_member s c)
clear_pairs symmetric (u ∷ us) h s t c d =
    ⊎_elim
    (λ (e : u ≡ s). subst (λ z. conflict_of z t ≡ None) e (⊎_elim (λ (f : u ≡ t). subst (λ z. conflict_of u z ≡ None) f (clear_itself u)) (λ (d : Contains us t). clear_of_each u t us h.0 d) (member_cases u t us d)))
    (λ (c : Contains us s). ⊎_elim (λ (f : u ≡ t). subst (λ z. conflict_of s z ≡ None) f (symmetric s u ∙ clear_of_each u s us h.0 c)) (λ (d : Contains us t). clear_pairs symmetric us h.1 s t c d) (member_cases u t us d))
    (member_cases u s us c)

-- ---- even at each location

one_by : LocationOrderTellsApart → (p q : Loc) (b : Bool) (o : Ordering) → same_point (vector_of p) (vector_of q) ≡ b → loc_cmp q p ≡ o → bit b ≡ cond {A = ℕ} (is_eq o) 1 0
one_by exact p q true Equal e h = refl
one_by exact p q true Less e h = let alike : p ≡ q = loc_from_vectors p q (same_point-true (vector_of p) (vector_of q) e) in let tied : loc_cmp q p ≡ Equal = (exact q p).1 (sym alike) in cc
one_by exact p q true Greater e h = let alike : p ≡ q = loc_from_vectors p q (same_point-true (vector_of p) (vector_of q) e) in let tied : loc_cmp q p ≡ Equal = (exact q p).1 (sym alike) in cc
one_by exact p q false Less e h = refl
one_by exact p q false Greater e h = refl
one_by exact p q false Equal e h = let alike : q ≡ p = (exact q p).0 h in let here : same_point (vector_of p) (vector_of q) ≡ true = ap (λ z. same_point (vector_of p) (vector_of z)) alike ∙ same_point-refl (vector_of p) in cc

one_is : LocationOrderTellsApart → (p q : Loc) → one_at (vector_of p) (vector_of q) ≡ one p q
one_is exact p q = one_by exact p q (same_point (vector_of p) (vector_of q)) (loc_cmp q p) refl refl

ends_sum : LocationOrderTellsApart → (p : Loc) (s : Seg) (b : Bool) (e : plane.Edge) → e ≡ cond b (edge_of s) (plane.reversed (edge_of s)) → one_at (vector_of p) e.from + one_at (vector_of p) e.to ≡ ends_at p s
ends_sum exact p s true e is = let a = one_is exact p s.a in let b = one_is exact p s.b in let f = ap (λ (z : plane.Edge). one_at (vector_of p) z.from) is in let t = ap (λ (z : plane.Edge). one_at (vector_of p) z.to) is in omega arith
ends_sum exact p s false e is = let a = one_is exact p s.a in let b = one_is exact p s.b in let f = ap (λ (z : plane.Edge). one_at (vector_of p) z.from) is in let t = ap (λ (z : plane.Edge). one_at (vector_of p) z.to) is in omega arith

pub all_ends : LocationOrderTellsApart → (p : Loc) (es : List Edge) → All IsWholeSegment es
    → sum_by (λ (e : plane.Edge). one_at (vector_of p) e.from) (edges_times 1 es) + sum_by (λ (e : plane.Edge). one_at (vector_of p) e.to) (edges_times 1 es) ≡ sum_by (ends_at p) (segments_under es)
all_ends exact p [] whole = refl
all_ends exact p (e ∷ es) whole =
    let w = whole 0 e (omega arith) in
    let rest = all_ends exact p es (later e es whole) in
    let here = ends_sum exact p w.segment w.forward (edge_times 1 e) (ends_on e w.segment w.forward w.from w.to) in
    let froms = sum_by-cons (λ (e : plane.Edge). one_at (vector_of p) e.from) (edge_times 1 e) (edges_times 1 es) in
    let tos = sum_by-cons (λ (e : plane.Edge). one_at (vector_of p) e.to) (edge_times 1 e) (edges_times 1 es) in
    let more = sum_by-cons (ends_at p) w.segment (segments_under es) in
    let along = ap (sum_by (ends_at p)) (along_more e es w) in
    omega arith

-- ---- of a sided list

module _ (es : List Edge) (whole : All IsWholeSegment es) (sided : winding.IsSided (edges_times 1 es)) where
  pub clear_sided : ConflictIsSymmetric → HaveNoConflicts (segments_under es)
  clear_sided symmetric = clear_pairs symmetric (segments_under es) (subst (EachPair IsClearOf) (segments_are es whole) sided.plain.clear)

  pub even_sided : LocationOrderTellsApart → HasEvenNodes (segments_under es)
  even_sided exact = record {
    odd = λ p.
        let both = all_ends exact p es whole in
        let same = sided.balanced (vector_of p) in
        let ends = ends_are p (segments_under es) in
        omega arith;
    rising = rising_none;
  }

pub plane_sided : LatticeIsSided → (es : List Edge) → All IsWholeSegment es → IsSided es → winding.IsSided (edges_times 1 es)
plane_sided law es whole sided = (law es (whole_lattice es whole)).0 sided
