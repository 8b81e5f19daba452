-- The ring begun at its least point is one.
use Rattle.std.proofs.Common.{◌≡◌, ◌++◌, drop, length, take, ap, subst, sym, ◌-◌, ◌∙◌, arith}
use Rattle.std.proofs.lemmas.List.{length-drop, take_all}
use Rattle.osm_rings.specs.Ring.{IsRing}
use Rattle.osm_rings.specs.Turned.{BeginsLeast}
use Rattle.osm_rings.proofs.TurnedRings.{ring-turned, turned-least}
use Rattle.osm_rings.proofs.ring.Ring.from_least.Goals as goal

pub of_edges-requires : goal.of_edges-requires
of_edges-requires c =
    let es = c.as_slice-edges.result.now in
    let n = c.least_start-least.result in
    let later : take (length es - n) (drop n es) ≡ drop n es = take_all (length es - n) (drop n es) (let e = length-drop n es in omega arith) in
    let first : c.extend_from_slice.new.self.items ≡ drop n es = c.in_ok-extend_from_slice.ensures.items ∙ (λ i. c.in_ok-turned.ensures.items i ++ later i) in
    let is : c.extend_from_slice-2.new.self.items ≡ drop n es ++ take n es = c.in_ok-extend_from_slice-2.ensures.items ∙ ap (λ xs. xs ++ take n es) first in
    subst IsRing (sym is) (ring-turned es n c.least_start-least.ensures.inside (subst IsRing (sym c.as_slice-edges.ensures.edges) c.as_slice-edges.ensures.ring))

pub returns-clause-least : goal.returns-clause-least
returns-clause-least c =
    let es = c.as_slice-edges.result.now in
    let n = c.least_start-least.result in
    let later : take (length es - n) (drop n es) ≡ drop n es = take_all (length es - n) (drop n es) (let e = length-drop n es in omega arith) in
    let first : c.extend_from_slice.new.self.items ≡ drop n es = c.in_ok-extend_from_slice.ensures.items ∙ (λ i. c.in_ok-turned.ensures.items i ++ later i) in
    let is : c.extend_from_slice-2.new.self.items ≡ drop n es ++ take n es = c.in_ok-extend_from_slice-2.ensures.items ∙ ap (λ xs. xs ++ take n es) first in
    subst BeginsLeast (sym (c.of_edges.ensures ∙ is)) (turned-least es n c.least_start-least.ensures.inside c.least_start-least.ensures.least)
