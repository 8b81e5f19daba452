-- A way of which no node is missing has its line, equal neighbours taken once; of another the missing nodes are told.
use Rattle.std.proofs.Common.{FitsSigned, List, ap, append-nil, arith, length, map, rules, subst, sym, w64, ℤ, [], ◌++◌, ◌<◌, ◌≤◌, ◌∙◌}
use Rattle.std.specs.List.{filter_map}
use Rattle.std.proofs.lemmas.Int.{to_z-of_z}
use Rattle.std.proofs.lemmas.Result.{on_ok_weaker}
use Rattle.osm_objects.specs.Objects.{place_of}
use Rattle.coast_join.specs.declared.way.Aside.{Aside}
use Rattle.coast_join.specs.declared.way.Aside.TheVariants.{Missing}
use Rattle.coast_join.specs.Chains.{WayPath, way_path_of}
use Rattle.coast_join.specs.Input.{asides_by, line_along, lines_by}
use Rattle.coast_rings.specs.Line.{NeighboursDiffer}
use Rattle.coast_rings.specs.Round.{once}
use Rattle.coast_join.proofs.LocatedRefs.{all_missing, no_line, short_line, whole_line}
use Rattle.coast_rings.proofs.RingsKit.{once_differs}
use Rattle.coast_join.proofs.input.add_way.Goals as goal

pub add_line-requires : goal.add_line-requires
add_line-requires c = subst NeighboursDiffer (sym c.once_path.ensures) (once_differs c.orders_are_exact.ensures.locations c.in_ok-locs.locs.items)

pub returns-then-len-clause-ways : goal.returns-then-len-clause-ways
returns-then-len-clause-ways c =
    let objects = c.args.store.now in
    let refs = c.args.refs.now in
    let some : length (filter_map (place_of objects) refs) < length refs = let h = c.if-len.true in let n = ap length c.in_ok-locs.ensures in omega arith in
    let ways = map way_path_of c.args.ways.now in
    on_ok_weaker c.add_missing.result (λ told. sym (append-nil ways) ∙ ap (λ (more : List WayPath). ways ++ more) (sym (no_line objects refs c.args.way some (line_along objects refs)))) c.add_missing.ensures

pub returns-then-len-clause-asides : goal.returns-then-len-clause-asides
returns-then-len-clause-asides c =
    let objects = c.args.store.now in
    let refs = c.args.refs.now in
    let some : length (filter_map (place_of objects) refs) < length refs = let h = c.if-len.true in let n = ap length c.in_ok-locs.ensures in omega arith in
    let asides = c.args.asides.now in
    let fits : FitsSigned w64 c.args.way = search rules in
    on_ok_weaker c.add_missing.result
    (λ told. told ∙ (ap (λ (way : ℤ). asides ++ map (Missing way) c.deref.result.now) (to_z-of_z w64 c.args.way fits) ∙ ap (λ ids. asides ++ map (Missing c.args.way) ids) (c.deref.ensures.value ∙ c.in_ok-missing.ensures) ∙ ap (λ (more : List Aside). asides ++ more) (sym (all_missing objects refs c.args.way some (line_along objects refs)))))
    c.add_missing.ensures

pub returns-clause-ways : goal.returns-clause-ways
returns-clause-ways c =
    let objects = c.args.store.now in
    let refs = c.args.refs.now in
    let all : length refs ≤ length (filter_map (place_of objects) refs) = let h = c.if-len.false in let n = ap length c.in_ok-locs.ensures in omega arith in
    let path = c.once_path.ensures ∙ ap once c.in_ok-locs.ensures in
    let fits : FitsSigned w64 c.args.way = search rules in
    let own = ap (λ (way : ℤ). map way_path_of c.args.ways.now ++ lines_by way [] c.once_path.result) (to_z-of_z w64 c.args.way fits) in
    on_ok_weaker c.add_line.result (λ told. told ∙ own ∙ ap (λ (more : List WayPath). map way_path_of c.args.ways.now ++ more) (whole_line objects refs c.args.way all c.once_path.result path)) c.add_line.ensures.ways

pub returns-clause-asides : goal.returns-clause-asides
returns-clause-asides c =
    let objects = c.args.store.now in
    let refs = c.args.refs.now in
    let all : length refs ≤ length (filter_map (place_of objects) refs) = let h = c.if-len.false in let n = ap length c.in_ok-locs.ensures in omega arith in
    let path = c.once_path.ensures ∙ ap once c.in_ok-locs.ensures in
    let fits : FitsSigned w64 c.args.way = search rules in
    let own = ap (λ (way : ℤ). c.args.asides.now ++ asides_by way [] c.once_path.result) (to_z-of_z w64 c.args.way fits) in
    on_ok_weaker c.add_line.result (λ told. told ∙ own ∙ ap (λ (more : List Aside). c.args.asides.now ++ more) (short_line objects refs c.args.way all c.once_path.result path)) c.add_line.ensures.asides
