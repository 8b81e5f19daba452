-- The halves are sided, and have the leaves of the list.
use Rattle.std.proofs.Common.{ap, subst, sym, ◌∙◌}
use Rattle.std.proofs.lemmas.List.Elements.{All-push}
use Rattle.osm_geom.specs.declared.cut.Side.TheVariants.{High, Low}
use Rattle.coast_split.specs.Batches.{batched_edges}
use Rattle.coast_split.specs.Half.{IsHalf}
use Rattle.coast_split.specs.SplitTree.{high_cut, low_cut, middle_of}
use Rattle.coast_split.specs.Waiting.{AreWaiting, IsWaiting}
use Rattle.coast_split.proofs.LeavesLeft.{AreSidedHalves}
use Rattle.coast_split.proofs.SidedHalves.{half-sided}
use Rattle.coast_split.proofs.WaitingLists.{cut-off-waiting}
use Rattle.coast_split.proofs.in_turn.cut_off.Goals as goal

halves : (c : goal.In_ok-push) → AreSidedHalves c.args.settings.now.most_points c.args.settings.now.overlap (batched_edges c.args.whole.now c.args.list.now) (batched_edges c.args.whole.now c.in_ok-low.low) (batched_edges c.args.whole.now c.in_ok-high.high)
halves c =
    let whole = c.args.whole.now in let o = c.args.settings.now.overlap in let es = batched_edges whole c.args.list.now in let middle = c.requires.cut.1 in
    let low : IsHalf (low_cut (middle_of es) o) Low es (batched_edges whole c.in_ok-low.low) =
    subst (λ cut. IsHalf cut Low es (batched_edges whole c.in_ok-low.low)) (c.low_cut-low_line.ensures ∙ ap (λ x. low_cut x o) middle) c.in_ok-low.ensures.half in
    let high : IsHalf (high_cut (middle_of es) o) High es (batched_edges whole c.in_ok-high.high) =
    subst (λ cut. IsHalf cut High es (batched_edges whole c.in_ok-high.high)) (c.high_cut-high_line.ensures ∙ ap (λ x. high_cut x o) middle) c.in_ok-high.ensures.half in
    record {
      is_cut = c.requires.cut.0;
      low_half = low;
      high_half = high;
      low_sided = half-sided (low_cut (middle_of es) o) Low es (batched_edges whole c.in_ok-low.low) low c.requires.part.sided;
      high_sided = half-sided (high_cut (middle_of es) o) High es (batched_edges whole c.in_ok-high.high) high c.requires.part.sided;
    }

pub returns-clause-waiting : goal.returns-clause-waiting
returns-clause-waiting c =
    let whole = c.args.whole.now in
    subst (AreWaiting whole) (sym c.in_ok-push.ensures.items)
    (All-push (IsWaiting whole) c.args.waiting.now.items c.in_ok-high.high c.requires.waiting (record { batches = c.in_ok-high.ensures.batches; sided = (halves c).high_sided }))

pub returns-clause-low : goal.returns-clause-low
returns-clause-low c = record { batches = c.in_ok-low.ensures.batches; sided = (halves c).low_sided }

pub returns-clause-cut : goal.returns-clause-cut
returns-clause-cut c =
    cut-off-waiting c.args.whole.now c.args.settings.now.most_points c.args.settings.now.overlap c.args.list.now c.in_ok-low.low c.in_ok-high.high c.args.waiting.now.items c.push.new.self.items
    (halves c) c.in_ok-push.ensures.items
