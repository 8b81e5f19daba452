-- Ids of coast ways.
use Rattle.std.proofs.Common.{◌≡◌, Bool, true, false, cond, List, [], ◌∷◌, refl, sym, None, filter, map, int_eq, true≢false}
use Rattle.std.specs.List.{AllByRecursion, IsDistinct}
use Rattle.std.proofs.lemmas.Map.Keys.{IsDistinct-cons}
use Rattle.osm_elements.specs.declared.object.ObjectKind.TheVariants.{Way}
use Rattle.osm_elements.specs.declared.object.Object.{Object}
use Rattle.osm_elements.specs.declared.object.Object.TheVariants as object
use Rattle.osm_objects.specs.Object.{kind_of, id_of, ref_of, is_at}
use Rattle.osm_objects.specs.Objects.{object_at, AreApart}
use Rattle.osm_objects.specs.CoastWays.{is_coast_way, coast_ways}
use Rattle.osm_objects.proofs.FoundLemmas.{passes}

coast-is-way : (o : Object) → is_coast_way o ≡ true → kind_of o ≡ Way
unfolding is_coast_way
coast-is-way (object.Node id live tags place) is = absurd (true≢false (sym is))
coast-is-way (object.Way id live tags refs) is = refl
coast-is-way (object.Relation id live tags members) is = absurd (true≢false (sym is))

other-id : (o u : Object) → kind_of o ≡ Way → kind_of u ≡ Way → is_at (ref_of o) u ≡ false → int_eq (id_of o) (id_of u) ≡ false
other-id o u way also apart = rw (way, also) at apart

ids-apart : (o : Object) (objects : List Object) → kind_of o ≡ Way → object_at objects (ref_of o) ≡ None → AllByRecursion (λ y. int_eq (id_of o) y ≡ false) (coast_ways objects)
ids-apart o [] way none = tt
ids-apart o (u ∷ objects) way none =
    let p = passes (is_at (ref_of o) u) u (object_at objects (ref_of o)) none in
    by (is_coast_way u) refl p.0 (ids-apart o objects way p.1)
  where
    by : (b : Bool) → is_coast_way u ≡ b → is_at (ref_of o) u ≡ false → AllByRecursion (λ y. int_eq (id_of o) y ≡ false) (coast_ways objects)
        → AllByRecursion (λ y. int_eq (id_of o) y ≡ false) (map id_of (cond b (u ∷ filter is_coast_way objects) (filter is_coast_way objects)))
    by true coast apart rest = (other-id o u way (coast-is-way u coast) apart, rest)
    by false coast apart rest = rest

nothing-distinct : {K : Type 0} (e : K → K → Bool) → IsDistinct e []
unfolding IsDistinct
nothing-distinct e = tt

pub coast_ways-distinct : (objects : List Object) → AreApart objects → IsDistinct int_eq (coast_ways objects)
coast_ways-distinct [] apart = nothing-distinct int_eq
coast_ways-distinct (o ∷ objects) apart = by (is_coast_way o) refl (coast_ways-distinct objects apart.1)
  where
    by : (b : Bool) → is_coast_way o ≡ b → IsDistinct int_eq (coast_ways objects) → IsDistinct int_eq (map id_of (cond b (o ∷ filter is_coast_way objects) (filter is_coast_way objects)))
    by true coast rest = IsDistinct-cons int_eq (id_of o) (coast_ways objects) (ids-apart o objects (coast-is-way o coast) apart.0) rest
    by false coast rest = rest
