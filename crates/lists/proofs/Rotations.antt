-- Cyclic lists begun elsewhere.
use Rattle.std.proofs.Common.{List, subst, sym}
use Rattle.lists.specs.Member.{In}
use Rattle.lists.specs.Rotated.{IsRotated}
use Rattle.lists.proofs.Members.{all-either, in-either, in-left, in-right}

pub rotated-back : {X : Type 0} (p q : List X) → IsRotated p q → IsRotated q p
rotated-back p q t = record { front = t.back; back = t.front; old = t.new; new = t.old }

-- what is begun elsewhere has the same items
pub rotated-in : {X : Type 0} (p q : List X) → IsRotated p q → (x : X) → In x q → In x p
rotated-in p q t x i =
    all-either (λ y. In y p) t.back t.front x
    (λ y j. subst (In y) (sym t.old) (in-right t.front t.back y j))
    (λ y j. subst (In y) (sym t.old) (in-left t.front t.back y j))
    (in-either t.back t.front x (subst (In x) t.new i))

pub in-rotated : {X : Type 0} (p q : List X) → IsRotated p q → (x : X) → In x p → In x q
in-rotated p q t x i = rotated-in q p (rotated-back p q t) x i
