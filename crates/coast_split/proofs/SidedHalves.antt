-- The half of a sided list: sided, and with its counts.
use Rattle.std.proofs.Common.{All, List, ap, arith, pos, refl, subst, sym, ℕ, ℤ, ◌*◌, ◌∙◌, ◌≡◌, ◌≤◌}
use Prim.Native.Nat.{◌∣◌}
use Rattle.std.proofs.Math.Nat.{dvd-mul_left_of_dvd, dvd-mul_right_of_dvd}
use Rattle.plane.specs.RayCrossing.{IsOffEdge}
use Rattle.plane.specs.Scale.{scaled_point}
use Rattle.plane.specs.Sign.{Minus, Plus, Sign, sign}
use Rattle.plane.specs.Vector.{Vector, east}
use Rattle.plane_lists.specs.Lists.EdgeList.{winding_number}
use Rattle.plane_lists.specs.Lists.ScaledEdges.{scaled_edges}
use Rattle.plane_lists.specs.Lists.Sided as winding
use Rattle.plane_lists.specs.Halves.Line.{scaled_line, side}
use Rattle.osm_geom.specs.declared.cut.Cut.{Cut}
use Rattle.osm_geom.specs.declared.cut.Side.{Side}
use Rattle.osm_geom.specs.declared.edge.Edge.{Edge}
use Rattle.osm_geom.specs.Point.{den_of}
use Rattle.osm_geom.specs.InPlane.Multiple.{IsCommon, edges_times, product_of_denominators, whole_edges}
use Rattle.osm_geom.specs.InPlane.Sided.{IsSided, signed_count_at}
use Rattle.coast_split.specs.Half.{IsHalf, line_of}
use Rattle.lists.proofs.ListsKit.{all-in, in-all}
use Rattle.plane_lists.proofs.HalvingKit.{balanced, beyond-at, counted-at, kept-at, off-beyond-at, off-kept-at, half-plain, side-scaled}
use Rattle.plane_lists.proofs.WindingKit.{all-off-back, all-off-scaled, edges-turned}
use Rattle.osm_geom.proofs.EdgesKit.{point-regained, common_is_common, product-some, sided_at_each, sign-some, signed_count_at_each, times_further}
use Rattle.coast_split.proofs.InPlane.{AllWhole, InPlane, in-plane, line_times}
use Rattle.plane.proofs.PlaneKit.{times-turned}

back : (c m : ℕ) → m * c ≡ c * m
back c m = omega arith

module _ (cut : Cut) (s : Side) (es hs : List Edge) (h : IsHalf cut s es hs) (sd : IsSided es) where
  abbrev c : ℕ
  c = product_of_denominators es

  abbrev m : ℕ
  m = product_of_denominators hs

  abbrev k : ℕ
  k = c * m

  ce : IsCommon c es
  ce = common_is_common es

  ch : IsCommon m hs
  ch = common_is_common hs

  some : 1 ≤ k
  some = product-some c m ce.some ch.some

  ke : IsCommon k es
  ke = record {
    some = some;
    froms = all-in (λ (e : Edge). den_of e.from ∣ k) es (λ e i. dvd-mul_right_of_dvd (den_of e.from) (in-all (λ (e : Edge). den_of e.from ∣ c) es e ce.froms i) m);
    tos = all-in (λ (e : Edge). den_of e.to ∣ k) es (λ e i. dvd-mul_right_of_dvd (den_of e.to) (in-all (λ (e : Edge). den_of e.to ∣ c) es e ce.tos i) m);
  }

  kh : IsCommon k hs
  kh = record {
    some = some;
    froms = all-in (λ (e : Edge). den_of e.from ∣ k) hs (λ e i. dvd-mul_left_of_dvd (den_of e.from) (in-all (λ (e : Edge). den_of e.from ∣ m) hs e ch.froms i) c);
    tos = all-in (λ (e : Edge). den_of e.to ∣ k) hs (λ e i. dvd-mul_left_of_dvd (den_of e.to) (in-all (λ (e : Edge). den_of e.to ∣ m) hs e ch.tos i) c);
  }

  we : AllWhole cut s k some es
  we e i = record { first = in-all (λ (e : Edge). den_of e.from ∣ k) es e ke.froms i; second = in-all (λ (e : Edge). den_of e.to ∣ k) es e ke.tos i }

  wh : AllWhole cut s k some hs
  wh e i = record { first = in-all (λ (e : Edge). den_of e.from ∣ k) hs e kh.froms i; second = in-all (λ (e : Edge). den_of e.to ∣ k) hs e kh.tos i }

  it : InPlane cut s k es hs
  it = in-plane cut s k some es hs we wh ((sided_at_each k es ke).0 sd) h

  pub half-sided : IsSided hs
  half-sided =
      let l = line_times cut s k in let i = it in
      (sided_at_each k hs kh).1 (subst winding.IsSided i.half_is (record {
        plain = half-plain l i.halved.direction i.cs i.halved.cut i.halved.sided i.zs i.halved.meetings;
        balanced = balanced l i.cs i.zs i.halved;
        counted = λ q hq p off. counted-at l i.cs i.zs i.halved q hq p off;
      }))

  module _ (q : ℤ) (hq : sign q ≡ Plus) (p : Vector) where
    abbrev P : Vector
    P = scaled_point (pos k) p

    side-at : (o : Sign) → side (scaled_line q (line_of cut s)) p ≡ o → side (scaled_line q (line_times cut s k)) P ≡ o
    side-at o e =
        ap (λ n. side (record { along = (line_of cut s).along; level = n }) P) (times-turned q (pos k) (line_of cut s).level)
        ∙ side-scaled (pos k) (sign-some k some) (scaled_line q (line_of cut s)) p ∙ e

    off-at : All (IsOffEdge (scaled_point (pos c) p)) (scaled_edges q (whole_edges es)) → All (IsOffEdge P) (scaled_edges q (edges_times k es))
    off-at off =
        let a = all-off-scaled (pos m) (sign-some m ch.some) (scaled_point (pos c) p) (scaled_edges q (edges_times c es)) off in
        let e = edges-turned (pos m) q (edges_times c es) ∙ ap (scaled_edges q) (sym (times_further c m es ce.some ce.froms ce.tos)) in
        subst (λ v. All (IsOffEdge v) (scaled_edges q (edges_times k es))) (point-regained m c k p (back c m))
        (subst (λ l. All (IsOffEdge (scaled_point (pos m) (scaled_point (pos c) p))) l) e a)

    pub half-kept : side (scaled_line q (line_of cut s)) p ≡ Plus → All (IsOffEdge (scaled_point (pos c) p)) (scaled_edges q (whole_edges es)) → signed_count_at q p hs ≡ signed_count_at q p es
    half-kept e off =
        let i = it in let l = line_times cut s k in
        signed_count_at_each k hs kh q p
        ∙ ap (λ l. winding_number east P (scaled_edges q l)) (sym i.half_is)
        ∙ kept-at l i.cs i.zs i.halved q hq P (side-at Plus e) (subst (λ l. All (IsOffEdge P) (scaled_edges q l)) (sym i.wholes_are) (off-at off))
        ∙ ap (λ l. winding_number east P (scaled_edges q l)) i.wholes_are
        ∙ sym (signed_count_at_each k es ke q p)

    pub half-beyond : side (scaled_line q (line_of cut s)) p ≡ Minus → signed_count_at q p hs ≡ pos 0
    half-beyond e =
        let i = it in let l = line_times cut s k in
        signed_count_at_each k hs kh q p
        ∙ ap (λ l. winding_number east P (scaled_edges q l)) (sym i.half_is)
        ∙ beyond-at l i.cs i.zs i.halved q hq P (side-at Minus e)

    -- from the multiple back to the list's own
    off-from : All (IsOffEdge P) (scaled_edges q (edges_times k hs)) → All (IsOffEdge (scaled_point (pos m) p)) (scaled_edges q (whole_edges hs))
    off-from off =
        let e = ap (λ n. scaled_edges q (edges_times n hs)) (sym (back c m)) ∙ ap (scaled_edges q) (times_further m c hs ch.some ch.froms ch.tos) ∙ edges-turned q (pos c) (edges_times m hs) in
        let a = subst (λ l. All (IsOffEdge P) l) e off in
        let b = subst (λ v. All (IsOffEdge v) (scaled_edges (pos c) (scaled_edges q (edges_times m hs)))) (sym (point-regained c m k p refl)) a in
        all-off-back (pos c) (sign-some c ce.some) (scaled_point (pos m) p) (scaled_edges q (edges_times m hs)) b

    pub off-kept : side (scaled_line q (line_of cut s)) p ≡ Plus → All (IsOffEdge (scaled_point (pos c) p)) (scaled_edges q (whole_edges es)) → All (IsOffEdge (scaled_point (pos m) p)) (scaled_edges q (whole_edges hs))
    off-kept e off =
        let i = it in let l = line_times cut s k in
        off-from (subst (λ l. All (IsOffEdge P) (scaled_edges q l)) i.half_is
        (off-kept-at l i.cs i.zs i.halved q hq P (side-at Plus e) (subst (λ l. All (IsOffEdge P) (scaled_edges q l)) (sym i.wholes_are) (off-at off))))

    pub off-beyond : side (scaled_line q (line_of cut s)) p ≡ Minus → All (IsOffEdge (scaled_point (pos m) p)) (scaled_edges q (whole_edges hs))
    off-beyond e =
        let i = it in let l = line_times cut s k in
        off-from (subst (λ l. All (IsOffEdge P) (scaled_edges q l)) i.half_is (off-beyond-at l i.cs i.zs i.halved q hq P (side-at Minus e)))
