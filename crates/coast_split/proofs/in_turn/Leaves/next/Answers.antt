-- A list that has few edges is the next leaf.
use Rattle.std.proofs.Common.{Some, false, subst, sym, ◌++◌, ◌∙◌, ◌≡◌, List}
use Rattle.std.specs.Prelude.{IfSome}
use Rattle.osm_geom.specs.declared.edge.Edge.{Edge}
use Rattle.osm_geom.specs.InPlane.Sided.{IsSided}
use Rattle.coast_split.specs.LeavesLeft.{IsNextLeaf}
use Rattle.coast_split.specs.SplitTree.{is_large}
use Rattle.coast_split.specs.ToCut.{ToCut}
use Rattle.coast_split.specs.Waiting.{lists_in, lists_of_only}
use Rattle.coast_split.proofs.WaitingLists.{only-next}
use Rattle.coast_split.proofs.in_turn.Leaves.next.Goals as goal

pub returns-in-Some-clause-some : goal.returns-in-Some-clause-some
returns-in-Some-clause-some c =
    let v = c.self.inside in let m = v.settings.most_points in
    let is : v.only ≡ Some c.in-Some.edges = sym c.take.ensures.value ∙ c.in-Some.is in
    let few = subst (λ o. IfSome o (λ (es : List Edge). IsSided es × (is_large m es ≡ false))) is c.self.invariant.1 in
    subst (λ (w : ToCut). IsNextLeaf w.most_points w.overlap w.waiting (record { edges = c.in-Some.edges; large = false }) (lists_of_only c.take.new.self ++ lists_in v.whole v.waiting.items)) c.self.view_is
    (only-next m v.settings.overlap v.only c.take.new.self c.in-Some.edges (lists_in v.whole v.waiting.items) is c.take.ensures.after few.1)
