-- The chain of lines that are linked is a line.
use Rattle.std.proofs.Common.{◌<◌, FitsSigned, w64, ℤ, length, get_or, refl, sym, ap, subst, ◌∙◌, arith, rules}
use Rattle.std.proofs.lemmas.Int.{to_z-of_z}
use Rattle.std.proofs.lemmas.List.{length-map}
use Rattle.coast_join.specs.Chains.{WayPath}
use Rattle.coast_join.specs.ChainSteps.{ways_at, member}
use Rattle.coast_rings.specs.Line.{IsLine}
use Rattle.coast_join.proofs.Joining.{line_joined, member_read, members_at, places_some}
use Rattle.coast_join.proofs.chaining.chain_of.Goals as goal

pub invariant_of-result : goal.invariant_of-result
invariant_of-result c =
    let ways = c.args.ways.now in
    let places = c.args.places.now in
    let some : 0 < length places = places_some ways places c.args.closed c.requires.linked in
    let sized = ap length c.in_ok-ids.ensures ∙ (length-map (ways_at ways places) (λ (l : WayPath). l.id) ∙ length-map places (member ways)) in
    record { line = subst IsLine (sym c.in_ok-path.ensures) (line_joined c.args.closed _ c.requires.linked); some = omega arith }

pub returns : goal.returns
returns c =
    let ways = c.args.ways.now in
    let places = c.args.places.now in
    let some : 0 < length places = places_some ways places c.args.closed c.requires.linked in
    let w = c.index-ways-begin.result in
    let within = c.requires.inside 0 0 some in
    let read = member_read ways (get_or places 0 0) w within c.index-ways-begin.is in
    let at = members_at ways places 0 some in
    let id : ℤ = (get_or ways (get_or places 0 0) w).id in
    let fits : FitsSigned w64 (get_or ways (get_or places 0 0) w).id = search rules in
    record {
      ways = c.in_ok-ids.ensures;
      name = to_z-of_z w64 id fits ∙ (ap (λ x. x.id) (sym c.index-ways-begin.is) ∙ ap (λ (l : WayPath). l.id) (sym (at ∙ read)));
      closed = refl;
      path = c.in_ok-path.ensures;
    }
