-- Whole points are one where both coordinates are.
use Rattle.std.proofs.Common.{Bool, ap, false, refl, sym, true, ◌&&◌, ◌∙◌, ◌≡◌}
use Rattle.std.proofs.lemmas.Bool.{and_from, and_parts}
use Rattle.std.proofs.lemmas.Cmp.{tied_itself}
use Rattle.std.specs.Ordering.{int_eq, is_eq}
use Rattle.lists.proofs.ListsKit.{clash, equal_from, int_eq-same, int_eq-true}
use Rattle.osm_geom.specs.declared.point.Point.TheVariants.{Lattice}
use Rattle.osm_geom.specs.Point.{point_cmp}
use Rattle.osm_geom.proofs.GeometryKit.{point_same, point_total}
use Rattle.osm_lattice.specs.declared.loc.Loc.{Loc}
use Rattle.osm_lattice.proofs.LatticeKit.{loc_from_fields}
use Rattle.osm_rings.proofs.few.walks.is_same_point.Goals as goal

unwrap : (p q : Loc) → Lattice p ≡ Lattice q → p ≡ q
unwrap p q h = cc

same-or-not : (p q : Loc) (a b : Bool) → int_eq p.x q.x && int_eq p.y q.y ≡ a → is_eq (point_cmp (Lattice p) (Lattice q)) ≡ b → a ≡ b
same-or-not p q true b same other =
    let parts = and_parts (int_eq p.x q.x) (int_eq p.y q.y) same in
    let one : p ≡ q = loc_from_fields p q (int_eq-true p.x q.x parts.0) (int_eq-true p.y q.y parts.1) in
    sym (ap is_eq (tied_itself point_total (Lattice p))) ∙ (ap (λ r. is_eq (point_cmp (Lattice p) (Lattice r))) one ∙ other)
same-or-not p q false false apart other = refl
same-or-not p q false true apart other =
    let one : p ≡ q = unwrap p q (point_same (Lattice p) (Lattice q) (equal_from (point_cmp (Lattice p) (Lattice q)) other)) in
    absurd (clash (int_eq p.x q.x && int_eq p.y q.y) (and_from (int_eq p.x q.x) (int_eq p.y q.y) (int_eq-same p.x q.x (ap (λ r. r.x) one)) (int_eq-same p.y q.y (ap (λ r. r.y) one))) apart)

pub returns-in-Lattice-Lattice : goal.returns-in-Lattice-Lattice
returns-in-Lattice-Lattice c =
    let p = c.in-Lattice-Lattice.p in let q = c.in-Lattice-Lattice.q in
    c.eq.ensures
    ∙ (same-or-not p q (int_eq p.x q.x && int_eq p.y q.y) (is_eq (point_cmp (Lattice p) (Lattice q))) refl refl
    ∙ (ap (λ r. is_eq (point_cmp r (Lattice q))) (sym c.in-Lattice-Lattice.is-0) ∙ ap (λ r. is_eq (point_cmp c.args.p.now r)) (sym c.in-Lattice-Lattice.is-1)))
