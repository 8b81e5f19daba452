-- At each common multiple of a list's denominators its sides and counts are the same.
use Rattle.std.proofs.Common.{All, List, [], ap, arith, pos, refl, subst, suc, sym, zero, ℕ, ℤ, ◌*◌, ◌∙◌, ◌∷◌, ◌≡◌, ◌≤◌, ◌↔◌}
use Prim.Native.Nat.{◌∣◌}
use Rattle.std.proofs.Math.Nat.{dvd-mul_left_of_dvd, dvd-mul_left, dvd-mul_right, dvd-mul_right_of_dvd}
use Rattle.std.proofs.lemmas.List.Elements.{All-cons, All-nil}
use Rattle.plane.specs.Scale.{scaled_point}
use Rattle.plane.specs.Sign.{Plus, sign}
use Rattle.plane.specs.Vector.{Vector, east}
use Rattle.plane_lists.specs.Lists.EdgeList.{crossing_count, winding_number}
use Rattle.plane_lists.specs.Lists.ScaledEdges.{scaled_edges}
use Rattle.plane_lists.specs.Lists.Sided as winding
use Rattle.lists.proofs.ListsKit.{all-in, in-all}
use Rattle.osm_geom.specs.declared.edge.Edge.{Edge}
use Rattle.osm_geom.specs.declared.point.Point.{Point}
use Rattle.osm_geom.specs.Point.{den_of, x_of, y_of}
use Rattle.osm_geom.proofs.GeometryKit.{x_den-some, y_den-some}
use Rattle.osm_geom.specs.InPlane.Multiple.{IsCommon, edges_times, product_of_denominators}
use Rattle.osm_geom.specs.InPlane.Sided.{IsSided, count_at, signed_count_at}
use Rattle.osm_geom.proofs.InPlane.Multiples.{times_further}
use Rattle.plane_lists.proofs.WindingKit.{count-scaled, edges-turned, sided-back, sided-scaled, winding-scaled}
use Rattle.plane.proofs.PlaneKit.{point-turned}

-- ---- the product of all denominators
pub product-some : (m n : ℕ) → 1 ≤ m → 1 ≤ n → 1 ≤ m * n
product-some (suc m) (suc n) h k = omega arith
product-some zero n h k = absurd (omega arith)
product-some m zero h k = absurd (omega arith)

pub den-some : (p : Point) → 1 ≤ den_of p
den-some p = product-some (x_of p).den (y_of p).den (x_den-some p) (y_den-some p)

all-further : (d : Edge → ℕ) (n : ℕ) (k : ℕ) (es : List Edge) → All (λ (e : Edge). d e ∣ k) es → All (λ (e : Edge). d e ∣ n * k) es
all-further d n k es h = all-in (λ (e : Edge). d e ∣ n * k) es (λ e i. dvd-mul_left_of_dvd (d e) (in-all (λ (e : Edge). d e ∣ k) es e h i) n)

pub common_is_common : (es : List Edge) → IsCommon (product_of_denominators es) es
common_is_common [] = record { some = omega arith; froms = All-nil (λ (e : Edge). den_of e.from ∣ 1); tos = All-nil (λ (e : Edge). den_of e.to ∣ 1) }
common_is_common (e ∷ es) =
    let rest = common_is_common es in let n = den_of e.from * den_of e.to in let k = product_of_denominators es in
    record {
      some = product-some n k (product-some (den_of e.from) (den_of e.to) (den-some e.from) (den-some e.to)) rest.some;
      froms = All-cons (λ (f : Edge). den_of f.from ∣ n * k) e es (dvd-mul_right_of_dvd (den_of e.from) (dvd-mul_right (den_of e.from) (den_of e.to)) k) (all-further (λ f. den_of f.from) n k es rest.froms);
      tos = All-cons (λ (f : Edge). den_of f.to ∣ n * k) e es (dvd-mul_right_of_dvd (den_of e.to) (dvd-mul_left (den_of e.to) (den_of e.from)) k) (all-further (λ f. den_of f.to) n k es rest.tos);
    }

-- ---- two common multiples
pub sign-some : (n : ℕ) → 1 ≤ n → sign (pos n) ≡ Plus
sign-some zero h = absurd (omega arith)
sign-some (suc n) h = refl

turned : (m n : ℕ) → m * n ≡ n * m
turned m n = omega arith

-- the list multiplied by one, then by the other
both-ways : (k m : ℕ) (es : List Edge) → IsCommon k es → IsCommon m es → scaled_edges (pos m) (edges_times k es) ≡ scaled_edges (pos k) (edges_times m es)
both-ways k m es h g = sym (times_further k m es h.some h.froms h.tos) ∙ ap (λ n. edges_times n es) (turned k m) ∙ times_further m k es g.some g.froms g.tos

sided-other : (k m : ℕ) (es : List Edge) → IsCommon k es → IsCommon m es → winding.IsSided (edges_times k es) → winding.IsSided (edges_times m es)
sided-other k m es h g sd = sided-back (pos k) (sign-some k h.some) (edges_times m es) (subst winding.IsSided (both-ways k m es h g) (sided-scaled (pos m) (sign-some m g.some) (edges_times k es) sd))

pub sided_at_each : (k : ℕ) (es : List Edge) → IsCommon k es → IsSided es ↔ winding.IsSided (edges_times k es)
sided_at_each k es h = let c = common_is_common es in (sided-other (product_of_denominators es) k es c h, sided-other k (product_of_denominators es) es h c)

-- a list and a point, each multiplied further
further : (q : ℤ) (k m : ℕ) (es : List Edge) → IsCommon k es → IsCommon m es → scaled_edges (pos m) (scaled_edges q (edges_times k es)) ≡ scaled_edges (pos k) (scaled_edges q (edges_times m es))
further q k m es h g =
    edges-turned (pos m) q (edges_times k es) ∙ ap (λ l. scaled_edges q l) (both-ways k m es h g) ∙ edges-turned q (pos k) (edges_times m es)

pub count_at_each : (k : ℕ) (es : List Edge) → IsCommon k es → (q : ℤ) (p : Vector) → count_at q p es ≡ crossing_count east (scaled_point (pos k) p) (scaled_edges q (edges_times k es))
count_at_each k es h q p =
    let c = common_is_common es in let m = product_of_denominators es in
    sym (count-scaled (pos k) (sign-some k h.some) east (scaled_point (pos m) p) (scaled_edges q (edges_times m es)))
    ∙ ap (λ v. crossing_count east v (scaled_edges (pos k) (scaled_edges q (edges_times m es)))) (point-turned (pos k) (pos m) p)
    ∙ ap (λ l. crossing_count east (scaled_point (pos m) (scaled_point (pos k) p)) l) (further q m k es c h)
    ∙ count-scaled (pos m) (sign-some m c.some) east (scaled_point (pos k) p) (scaled_edges q (edges_times k es))

pub signed_count_at_each : (k : ℕ) (es : List Edge) → IsCommon k es → (q : ℤ) (p : Vector) → signed_count_at q p es ≡ winding_number east (scaled_point (pos k) p) (scaled_edges q (edges_times k es))
signed_count_at_each k es h q p =
    let c = common_is_common es in let m = product_of_denominators es in
    sym (winding-scaled (pos k) (sign-some k h.some) east (scaled_point (pos m) p) (scaled_edges q (edges_times m es)))
    ∙ ap (λ v. winding_number east v (scaled_edges (pos k) (scaled_edges q (edges_times m es)))) (point-turned (pos k) (pos m) p)
    ∙ ap (λ l. winding_number east (scaled_point (pos m) (scaled_point (pos k) p)) l) (further q m k es c h)
    ∙ winding-scaled (pos m) (sign-some m c.some) east (scaled_point (pos k) p) (scaled_edges q (edges_times k es))
