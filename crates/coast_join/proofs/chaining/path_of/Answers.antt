-- The fronts, and the last location of an open chain.
use Rattle.std.proofs.Common.{◌≡◌, ◌++◌, ◌∷◌, [], List, length, map, sym, ap, ◌∙◌, ◌-◌, get_or, arith}
use Rattle.std.proofs.lemmas.List.{length-map}
use Rattle.std.specs.List.{flat_map}
use Rattle.osm_lattice.specs.declared.loc.Loc.{Loc}
use Rattle.coast_join.specs.Chains.{WayPath, joined_path, line_at}
use Rattle.coast_join.specs.ChainSteps.{ways_at, member}
use Rattle.coast_rings.specs.Line.{front_of, last_location}
use Rattle.coast_join.proofs.Joining.{joined_closed, joined_open, member_read, members_at}
use Rattle.coast_join.proofs.chaining.path_of.Goals as goal

pub returns-then-closed : goal.returns-then-closed
returns-then-closed c =
    let lines = ways_at c.args.ways.now c.args.places.now in
    c.in_ok-path.ensures ∙ (sym (joined_closed lines) ∙ ap (λ b. joined_path b (map (λ (l : WayPath). l.path) lines)) (sym c.if-closed.true))

pub returns : goal.returns
returns c =
    let ways = c.args.ways.now in
    let places = c.args.places.now in
    let lines = ways_at ways places in
    let sized : length lines ≡ length places = length-map places (member ways) in
    let some = c.requires.some in
    let at = members_at ways places (length places - 1) (omega arith) in
    let within = c.requires.inside (length places - 1) 0 (omega arith) in
    let w = c.index-ways-end.result in
    let read = member_read ways (get_or places (length places - 1) 0) w within c.index-ways-end.is in
    let last_is : c.last.result ≡ last_location (line_at lines (length places - 1)).path = c.last.ensures ∙ ap (λ (l : WayPath). last_location l.path) (sym (at ∙ read)) in
    c.in_ok-push.ensures.ok ∙ (ap (λ (xs : List Loc). xs ++ c.last.result ∷ []) c.in_ok-path.ensures
    ∙ (ap (λ (x : Loc). flat_map (λ (l : WayPath). front_of l.path) lines ++ x ∷ []) last_is
    ∙ (sym (joined_open lines (length places) (sym sized)) ∙ ap (λ b. joined_path b (map (λ (l : WayPath). l.path) lines)) (sym c.if-closed.false))))
