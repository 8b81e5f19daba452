-- Edges with the same ends and carrier are one.
use Rattle.std.proofs.Common.{true, ◌≡◌, ◌≢◌}
use Rattle.std.proofs.Props.{props}
use mathlib.Core.HLevel.{is_prop→PathP}
use Rattle.osm_geom.specs.Carrier.{is_on}
use Rattle.osm_geom.specs.Point.{IsInWorld}
use Rattle.osm_geom.specs.declared.edge.Carrier.{Carrier}
use Rattle.osm_geom.specs.declared.edge.Edge.{Edge}
use Rattle.osm_geom.specs.declared.point.Point.{Point}

on-prop : (c : Carrier) (p : Point) → IsProp (is_on c p ≡ true)
on-prop c p = hlevel props

apart-prop : (p q : Point) → IsProp (p ≢ q)
apart-prop p q = hlevel props

in-prop : (p : Point) → IsProp (IsInWorld p)
in-prop p = hlevel props

-- the facts of an edge have one proof each
pub edge-from-fields : (e f : Edge) → e.from ≡ f.from → e.to ≡ f.to → e.carrier ≡ f.carrier → e ≡ f
edge-from-fields e f a b c = λ i. record {
  from = a i;
  to = b i;
  carrier = c i;
  from_on = is_prop→PathP (λ j. is_on (c j) (a j) ≡ true) (λ j. on-prop (c j) (a j)) e.from_on f.from_on i;
  to_on = is_prop→PathP (λ j. is_on (c j) (b j) ≡ true) (λ j. on-prop (c j) (b j)) e.to_on f.to_on i;
  apart = is_prop→PathP (λ j. a j ≢ b j) (λ j. apart-prop (a j) (b j)) e.apart f.apart i;
  from_in = is_prop→PathP (λ j. IsInWorld (a j)) (λ j. in-prop (a j)) e.from_in f.from_in i;
  to_in = is_prop→PathP (λ j. IsInWorld (b j)) (λ j. in-prop (b j)) e.to_in f.to_in i;
}
