-- What an edge sees of a sided list: an odd number where it is of the list, or where the list covers it.
use Rattle.std.proofs.Common.{Bool, List, ap, cond, false, not, sym, true, ◌∙◌, ◌≡◌}
use Rattle.plane_lists.specs.Rings.Cover.{covers_edge}
use Rattle.plane.specs.Edge.{Edge, is_rising, reversed, segment_of}
use Rattle.lists.specs.Member.{In}
use Rattle.plane_lists.specs.Lists.ConflictFree.{IsConflictFree}
use Rattle.plane_lists.specs.Lists.EdgeList.{IsEvenAtPoints, crossing_count}
use Rattle.plane_lists.specs.Lists.Node.{away}
use Rattle.plane_lists.specs.Lists.OddSide.{runs_up_by_odd_side}
use Rattle.plane_lists.specs.Lists.Parity.{is_even}
use Rattle.plane_lists.specs.Lists.Ring.{segments_of}
use Rattle.plane_lists.specs.Lists.Sided.{IsSided}
use Rattle.plane_lists.specs.OneRingList.Sees.{sees_even}
use Rattle.lists.proofs.ListsKit.{in-map, not-true-out}
use Rattle.plane_lists.proofs.NestingKit.{in-from-end, rise, runs_up_as, segment-ends}
use Rattle.plane_lists.proofs.OneRingListKit.{clear-of, way-from}
use Rattle.plane.proofs.PlaneKit.{ends_at-from}
use Rattle.plane_lists.proofs.WindingKit.{runs_from, runs_to, sided-even}

module _ (es : List Edge) (sd : IsSided es) where
  own-by : (b : Bool) (e : Edge) → In (cond b e (reversed e)) (segments_of es) → runs_up_by_odd_side (segments_of es) (cond b e (reversed e)) ≡ b → sees_even (segments_of es) e ≡ false
  own-by true e i h = not-true-out (sees_even (segments_of es) e) (sym (runs_from e (segments_of es) sd.plain (sided-even es sd.balanced) i) ∙ h)
  own-by false e i h = sym (runs_to (reversed e) (segments_of es) sd.plain (sided-even es sd.balanced) i) ∙ h

  -- an edge of the list sees an odd number
  pub own_odd : (e : Edge) → In e es → sees_even (segments_of es) e ≡ false
  own_odd e i = own-by (is_rising e) e (in-map segment_of es e i) (runs_up_as es sd e i)

  module _ (ks : List Edge) (sub : (x : Edge) → In x ks → In x es) (pl : IsConflictFree (segments_of ks)) (even : IsEvenAtPoints (segments_of ks)) where
    -- an edge that is not of the part sees what tells whether the part covers it
    pub foreign_sees : (f : Edge) → In f es → (In f ks → ⊥) → covers_edge (segments_of ks) (segment_of f) ≡ not (sees_even (segments_of ks) f)
    foreign_sees f i n =
        in-from-end f.from (segment_of f) (segments_of ks) (rise es sd f i) pl even (clear-of es sd ks sub pl even f i n) (segment-ends f.from f (ends_at-from f))
        ∙ ap (λ w. not (is_even (crossing_count w f.from (away f.from (segments_of ks))))) (way-from es sd f i)
