-- Two locations that compare as equal are one, and likewise segments.
use Rattle.std.proofs.Common.{◌≡◌, ℤ, ap, sym}
use Rattle.std.proofs.Props.{props}
use Rattle.std.specs.declared.cmp.Ordering.TheVariants.{Equal}
use Rattle.std.specs.Ordering.{int_cmp}
use Rattle.std.proofs.lemmas.Cmp.{int_ranked}
use Rattle.std.proofs.lemmas.Map.Lookups.{exact_pairs}
use Rattle.plane.specs.Vector.{Vector}
use Rattle.osm_lattice.specs.declared.loc.Loc.{Loc}
use Rattle.osm_lattice.specs.declared.seg.Seg.{Seg}
use Rattle.osm_lattice.specs.Bounds.{IsLongitude, IsLatitude}
use Rattle.osm_lattice.specs.Loc.{loc_cmp, vector_of, IsBefore}
use Rattle.osm_lattice.specs.Seg.{seg_cmp}
use mathlib.Core.HLevel.{is_prop→PathP}

pub longitude_prop : (x : ℤ) → IsProp (IsLongitude x)
longitude_prop x = hlevel props

pub latitude_prop : (x : ℤ) → IsProp (IsLatitude x)
latitude_prop x = hlevel props

before_prop : (p q : Loc) → IsProp (IsBefore p q)
before_prop p q = hlevel props

-- the facts of a location have one proof each, so its coordinates make it
pub loc_from_fields : (p q : Loc) → p.x ≡ q.x → p.y ≡ q.y → p ≡ q
loc_from_fields p q ex ey = λ i. record {
  x = ex i;
  y = ey i;
  x_in = is_prop→PathP (λ j. IsLongitude (ex j)) (λ j. longitude_prop (ex j)) p.x_in q.x_in i;
  y_in = is_prop→PathP (λ j. IsLatitude (ey j)) (λ j. latitude_prop (ey j)) p.y_in q.y_in i;
}

-- the plane tells locations apart
pub loc_from_vectors : (p q : Loc) → vector_of p ≡ vector_of q → p ≡ q
loc_from_vectors p q e = loc_from_fields p q (ap (λ (v : Vector). v.x) e) (ap (λ (v : Vector). v.y) e)

pub seg_from_ends : (s t : Seg) → s.a ≡ t.a → s.b ≡ t.b → s ≡ t
seg_from_ends s t ea eb = λ i. record {
  a = ea i;
  b = eb i;
  rising = is_prop→PathP (λ j. IsBefore (ea j) (eb j)) (λ j. before_prop (ea j) (eb j)) s.rising t.rising i;
}

pub int_same : (x y : ℤ) → int_cmp x y ≡ Equal → x ≡ y
int_same x y e = int_ranked x y Equal (sym e)

pub loc_same : (p q : Loc) → loc_cmp p q ≡ Equal → p ≡ q
loc_same p q e =
    let both = exact_pairs int_cmp int_cmp int_same int_same (p.y, p.x) (q.y, q.x) e in
    loc_from_fields p q (ap (λ (z : ℤ × ℤ). z.1) both) (ap (λ (z : ℤ × ℤ). z.0) both)

pub seg_same : (s t : Seg) → seg_cmp s t ≡ Equal → s ≡ t
seg_same s t e =
    let both = exact_pairs loc_cmp loc_cmp loc_same loc_same (s.a, s.b) (t.a, t.b) e in
    seg_from_ends s t (ap (λ (z : Loc × Loc). z.0) both) (ap (λ (z : Loc × Loc). z.1) both)
