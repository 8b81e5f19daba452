-- The test of equal references in the words of the definitions.
use Rattle.std.proofs.Common.{◌≡◌, ◌∙◌, Bool, not, List, [], ◌∷◌, filter, refl, ap}
use Rattle.osm_elements.specs.declared.object.ObjectRef.{ObjectRef}
use Rattle.osm_elements.specs.contracts.object.ObjectRefPartialEq.TheImpl as ref_eq
use Rattle.osm_objects.proofs.ObjectsKit.{eq-is}
use Rattle.lists.specs.Once.{each_once}
use Rattle.osm_area.specs.Missing.{same_ref}

pub filter_same : {X : Type 0} (p q : X → Bool) → ((x : X) → p x ≡ q x) → (xs : List X) → filter p xs ≡ filter q xs
filter_same p q same [] = refl
filter_same p q same (x ∷ xs) = rw (same x, filter_same p q same xs) refl

pub each_once_refs : (refs : List ObjectRef) → each_once ref_eq.ghosts.eq refs ≡ each_once same_ref refs
each_once_refs [] = refl
each_once_refs (r ∷ refs) = ap (λ rs. r ∷ rs) (ap (filter (λ s. not (ref_eq.ghosts.eq r s))) (each_once_refs refs) ∙ filter_same (λ s. not (ref_eq.ghosts.eq r s)) (λ s. not (same_ref r s)) (λ s. ap not (eq-is r s)) (each_once same_ref refs))
