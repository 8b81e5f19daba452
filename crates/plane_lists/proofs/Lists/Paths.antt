-- Paths, put together and cut.
use Rattle.std.proofs.Common.{List, [], refl, subst, sym, ◌++◌, ◌∷◌}
use Rattle.plane.specs.Edge.{Edge}
use Rattle.plane.specs.Vector.{Vector}
use Rattle.plane_lists.specs.Lists.Ring.{IsPath}

pub path-join : (a m b : Vector) (xs ys : List Edge) → IsPath a xs m → IsPath m ys b → IsPath a (xs ++ ys) b
path-join a m b [] ys p q = subst (λ w. IsPath w ys b) (sym p) q
path-join a m b (x ∷ xs) ys p q = (p.0, path-join x.to m b xs ys p.1 q)

pub path-split : (a b : Vector) (xs ys : List Edge) → IsPath a (xs ++ ys) b → (m : Vector) × IsPath a xs m × IsPath m ys b
path-split a b [] ys p = (a, refl, p)
path-split a b (x ∷ xs) ys p = let r = path-split x.to b xs ys p.1 in (r.0, (p.0, r.1), r.2)
