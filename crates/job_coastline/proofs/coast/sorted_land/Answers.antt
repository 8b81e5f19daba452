-- What is told of sorting, and behind it what is told of land.
use Rattle.std.proofs.Common.{◌≡◌, ◌∙◌, ap, subst, sym, IfOk, List, ◌++◌, append_assoc, map}
use Rattle.std.proofs.lemmas.Result.{IfOk-weaker}
use Rattle.coast_rings.specs.declared.ring.CoastRing.{CoastRing}
use Rattle.coast_sides.specs.KeptSegments.{AreKeptSegments}
use Rattle.coast_sides.specs.declared.sorted.Sorted.{Sorted}
use Rattle.osm_geom.specs.declared.edge.Edge.{Edge}
use Rattle.osm_text.specs.declared.coast.CoastLine.{CoastLine}
use Rattle.job_coastline.specs.CoastSteps.{MakesLand}
use Rattle.job_coastline.specs.LandSteps.{KeepsLand}
use Rattle.job_coastline.specs.Report.{conflict_line, cut_line, left_out_line, repeated_line, wrong_way_line}
use Rattle.job_coastline.proofs.coast.sorted_land.Goals as goal

land_made : (sorted : Sorted) (edges : List Edge) (start told_of_sorting told : List CoastLine) →
    told_of_sorting ≡ start ++ (map cut_line sorted.cuts ++ (map left_out_line sorted.left_out ++ map conflict_line sorted.pairs)) →
    KeepsLand sorted.kept edges told_of_sorting told → MakesLand sorted edges start told
land_made sorted edges start one two sorting keeps = record {
  land = keeps.land;
  is_land = keeps.is_land;
  has = keeps.has;
  told =
      let a = map cut_line sorted.cuts in
      let b = map left_out_line sorted.left_out in
      let c = map conflict_line sorted.pairs in
      let r = map repeated_line keeps.land.repeats ++ map wrong_way_line keeps.land.wrong_way in
      keeps.told ∙ ap (λ (xs : List CoastLine). xs ++ r) sorting ∙ append_assoc start (a ++ (b ++ c)) r
      ∙ ap (λ (xs : List CoastLine). start ++ xs) (append_assoc a (b ++ c) r ∙ ap (λ (xs : List CoastLine). a ++ xs) (append_assoc b c r));
}

pub returns : goal.returns
returns c =
    let between = c.add_sorted.new.lines.items in
    let now = c.kept_land.new.lines.items in
    let keeps = subst (λ (kept : List CoastRing). IfOk c.kept_land.result (λ edges. KeepsLand kept edges between now)) c.as_slice.ensures c.kept_land.ensures in
    IfOk-weaker c.kept_land.result _ _ (λ edges of_kept. land_made c.args.sorted.now edges c.args.lines.now.items between now c.in_ok-add_sorted.ensures of_kept) keeps

pub kept_land-requires-clause-segments : goal.kept_land-requires-clause-segments
kept_land-requires-clause-segments c = subst (λ (kept : List CoastRing). AreKeptSegments kept c.args.segs) (sym c.as_slice.ensures) c.requires.segments
