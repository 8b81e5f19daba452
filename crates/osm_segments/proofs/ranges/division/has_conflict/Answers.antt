use Rattle.std.proofs.Common.{ap, arith, length, not, sym, ◌∙◌, ◌≡◌}
use Rattle.std.proofs.lemmas.Bool.{eq-eqb}
use Rattle.std.proofs.lemmas.Bool.Decides.{nat_tests}
use Rattle.lists.proofs.ListsKit.{not-false-out}
use Rattle.osm_segments.specs.Pairs.{conflicts_of}
use Rattle.osm_segments.specs.Places.{AreConflictPlaces}
use Rattle.osm_segments.proofs.ToldPlaces.{as_many, empty_by, places_are}
use Rattle.osm_segments.proofs.ranges.division.has_conflict.Goals as goal

pub returns : goal.returns
returns c =
    let segs = c.args.segs.now in let v = c.each_once.result.items in
    let are : AreConflictPlaces segs v =
    places_are c.conflicts_are_symmetric.ensures segs c.requires.rising c.new-told.result.items c.settle_list-searched.new.told.items v c.new-told.ensures.items c.in_ok-searched.ensures.grown c.in_ok-searched.ensures.told
    c.each_once.ensures.kept c.each_once.ensures.known c.each_once.ensures.rising c.counts_determine.ensures in
    let same : length v ≡ length (conflicts_of segs) = as_many segs v are in
    let ok = c.each_once.result.ok in (
      λ f. let h = sym c.is_empty.ensures ∙ not-false-out c.is_empty.result f in
          let none : length v ≡ 0 = grind (arith, nat_tests, h) in
          empty_by (conflicts_of segs) (sym same ∙ none),
      λ e. let none : length v ≡ 0 = same ∙ ap length e in
          ap not (c.is_empty.ensures ∙ eq-eqb _ 0 (omega arith)),
    )
