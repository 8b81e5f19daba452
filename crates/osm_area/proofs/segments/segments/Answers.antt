-- One more way, whole or not.
use Rattle.std.proofs.Common.{rules, FitsSigned, w64, ◌≡◌, ◌∙◌, [], ap, get_or, length, map, pos, true, sym, ℤ}
use Rattle.std.specs.List.{flat_map}
use Rattle.std.proofs.lemmas.Int.{to_z-of_z}
use Rattle.std.proofs.lemmas.List.{take_all}
use Rattle.osm_area.specs.Missing.{way_missing}
use Rattle.osm_area.specs.Segments.{way_segments}
use Rattle.osm_area.proofs.WholeWays.{counted, pushed, some_of}
use Rattle.osm_area.proofs.segments.segments.Goals as goal

pub returns-then-not-branch-clause-whole : goal.returns-then-not-branch-clause-whole
returns-then-not-branch-clause-whole c =
    let way : ℤ = get_or c.args.ways.now c.loop-way.way-index (pos 0) in
    let fits : FitsSigned w64 (get_or c.args.ways.now c.loop-way.way-index (pos 0)) = search rules in
    let lacks = some_of (way_missing c.args.store.now) c.args.ways.now c.loop-way.way-index (pos 0) _ c.loop-way-test.true (to_z-of_z w64 way fits)
    (λ none. let yes : c.in_ok-add_segments.field-0 ≡ true = c.in_ok-add_segments.ensures.whole.1 none in let no = c.if-not-branch.true in cc) in
    ((λ yes. absurd (cc)), (λ none. absurd (lacks none)))

pub loop-way-preserved : goal.loop-way-preserved
loop-way-preserved c =
    let way : ℤ = get_or c.args.ways.now c.loop-way.way-index (pos 0) in
    let fits : FitsSigned w64 (get_or c.args.ways.now c.loop-way.way-index (pos 0)) = search rules in
    let same = to_z-of_z w64 way fits in
    record {
      segments = pushed (way_segments c.args.store.now) c.args.ways.now c.loop-way.way-index (pos 0) _ c.loop-way-test.true same
          c.loop-way.segs.items c.add_segments.new.segments.items c.loop-way.invariant.segments (c.in_ok-add_segments.ensures.added c.if-not-branch.false);
      counts = counted (way_segments c.args.store.now) c.args.ways.now c.loop-way.way-index (pos 0) _ c.loop-way-test.true same
          c.loop-way.segs.items c.add_segments.new.segments.items c.saturating_sub.result c.loop-way.counts.items c.push.new.self.items
          (c.in_ok-add_segments.ensures.added c.if-not-branch.false) (search rules) c.loop-way.invariant.counts c.in_ok-push.ensures.items;
      whole = sym (pushed (way_missing c.args.store.now) c.args.ways.now c.loop-way.way-index (pos 0) _ c.loop-way-test.true same
          [] [] (sym c.loop-way.invariant.whole) (sym (c.in_ok-add_segments.ensures.whole.0 c.if-not-branch.false)));
    }

pub returns-clause-some : goal.returns-clause-some
returns-clause-some c = c.loop-way.invariant.segments ∙ ap (flat_map (way_segments c.args.store.now)) (take_all c.loop-way.way-index c.args.ways.now c.loop-way-test.false)

pub returns-clause-counts : goal.returns-clause-counts
returns-clause-counts c = c.loop-way.invariant.counts ∙ ap (map (λ (way : ℤ). length (way_segments c.args.store.now way))) (take_all c.loop-way.way-index c.args.ways.now c.loop-way-test.false)

pub returns-clause-whole : goal.returns-clause-whole
returns-clause-whole c =
    let all = take_all c.loop-way.way-index c.args.ways.now c.loop-way-test.false in
    let none : flat_map (way_missing c.args.store.now) c.args.ways.now ≡ [] = sym (ap (flat_map (way_missing c.args.store.now)) all) ∙ c.loop-way.invariant.whole in
    ((λ _. none), (λ _. search rules))
