-- Edges that are the same, and their ends.
use Rattle.std.proofs.Common.{ap, true, ◌||◌, ◌∙◌, ◌≡◌}
use Rattle.plane.specs.Edge.{Edge, ends_at, same_edge}
use Rattle.plane.specs.Vector.{Vector, same_point}
use Rattle.std.proofs.lemmas.Bool.{and_parts, or_right}
use Rattle.plane.proofs.Points.{same_point-refl, same_point-true}

abbrev pub edge_of : Vector → Vector → Edge
edge_of p q = record { from = p; to = q }

pub same_edge_by : (p q u v : Vector) → p ≡ u → q ≡ v → edge_of p q ≡ edge_of u v
same_edge_by p q u v e f = ap (λ w. edge_of w q) e ∙ ap (λ w. edge_of u w) f

pub same_edge-true : (s t : Edge) → same_edge s t ≡ true → s ≡ t
same_edge-true s t h =
    let k = and_parts (same_point s.from t.from) (same_point s.to t.to) h in
    same_edge_by s.from s.to t.from t.to (same_point-true s.from t.from k.0) (same_point-true s.to t.to k.1)

pub same_edge-refl : (s : Edge) → same_edge s s ≡ true
same_edge-refl s = rw (same_point-refl s.from, same_point-refl s.to)

pub ends_at-from : (s : Edge) → ends_at s.from s ≡ true
ends_at-from s = ap (λ b. b || same_point s.from s.to) (same_point-refl s.from)

pub ends_at-to : (s : Edge) → ends_at s.to s ≡ true
ends_at-to s = or_right (same_point s.to s.from) (same_point s.to s.to) (same_point-refl s.to)
