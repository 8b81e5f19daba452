-- Two segments with the same coordinates are one.
use Rattle.std.proofs.Common.{true, ◌&&◌, ◌≡◌}
use Rattle.std.specs.Ordering.{int_eq}
use Rattle.lists.proofs.ListsKit.{and-left, and-right, int_eq-true}
use Rattle.osm_lattice.specs.declared.loc.Loc.{Loc}
use Rattle.osm_lattice.specs.declared.seg.Seg.{Seg}
use Rattle.osm_lattice.proofs.LatticeKit.{loc_from_fields, seg_from_ends}

pub loc_by_tests : (p q : Loc) → (int_eq p.x q.x && int_eq p.y q.y) ≡ true → p ≡ q
loc_by_tests p q h = loc_from_fields p q (int_eq-true p.x q.x (and-left (int_eq p.x q.x) (int_eq p.y q.y) h)) (int_eq-true p.y q.y (and-right (int_eq p.x q.x) (int_eq p.y q.y) h))

pub seg_by_tests : (s t : Seg) → ((int_eq s.a.x t.a.x && int_eq s.a.y t.a.y) && (int_eq s.b.x t.b.x && int_eq s.b.y t.b.y)) ≡ true → s ≡ t
seg_by_tests s t h =
    let a = int_eq s.a.x t.a.x && int_eq s.a.y t.a.y in let b = int_eq s.b.x t.b.x && int_eq s.b.y t.b.y in
    seg_from_ends s t (loc_by_tests s.a t.a (and-left a b h)) (loc_by_tests s.b t.b (and-right a b h))
