-- Points that are the same.
use Rattle.std.proofs.Common.{arith, true, ◌≡◌}
use Rattle.std.proofs.lemmas.Bool.Decides.{Decides-int_eq}
use Rattle.std.specs.Ordering.{int_eq}
use lib.IntN.{ℤ}
use Rattle.plane.specs.Vector.{Vector, same_point}
use Rattle.lists.proofs.ListsKit.{int_eq-true}
use Rattle.std.proofs.lemmas.Bool.{and_parts}

int_eq-refl : (a : ℤ) → int_eq a a ≡ true
int_eq-refl a = grind (arith, Decides-int_eq)

abbrev pub vector_of : ℤ → ℤ → Vector
vector_of a b = record { x = a; y = b }

pub same_vector : (a b c d : ℤ) → a ≡ c → b ≡ d → vector_of a b ≡ vector_of c d
same_vector a b c d e f = cc

pub same_point-true : (p q : Vector) → same_point p q ≡ true → p ≡ q
same_point-true p q h =
    let t = and_parts (int_eq p.x q.x) (int_eq p.y q.y) h in
    let e = int_eq-true p.x q.x t.0 in let f = int_eq-true p.y q.y t.1 in same_vector p.x p.y q.x q.y e f

pub same_point-refl : (p : Vector) → same_point p p ≡ true
same_point-refl p = rw (int_eq-refl p.x, int_eq-refl p.y)
