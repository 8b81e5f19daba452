use Rattle.std.proofs.Common.{◌≡◌, ◌++◌, filter, is_none, map}
use Rattle.osm_elements.specs.declared.object.Ref.{Ref}
use Rattle.osm_objects.specs.Objects.{place_of}
use Rattle.coast_join.proofs.input.unlocated.Given as goal

-- what is there and what the others to come give are all
abbrev pub invariant-loop-reference : goal.invariant-loop-reference
invariant-loop-reference l =
    l.ids.items ++ map (λ (r : Ref). r.node) (filter (λ r. is_none (place_of l.store r)) l.reference-iterator) ≡ map (λ (r : Ref). r.node) (filter (λ r. is_none (place_of l.store r)) l.refs)
