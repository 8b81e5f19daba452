-- What the crossings of a ray count.
use Rattle.std.proofs.Common.{All, List, sym, ◌+◌, ◌∙◌, ◌≡◌}
use Rattle.std.specs.List.{count_by}
use Rattle.plane.specs.Bit.{bit}
use Rattle.plane.specs.Edge.{Edge, IsRisingEdge}
use Rattle.plane.specs.Height.{is_left_of}
use Rattle.plane.specs.RayCrossing.{down_crossing, is_crossed, up_crossing}
use Rattle.plane.specs.Sign.{sign}
use Rattle.plane.specs.Vector.{Vector, cross, east, from_to}
use Rattle.plane_lists.specs.Lists.EdgeList.{crossing_count}
use Rattle.plane.proofs.PlaneKit.{crossing-bit, crossings-left, crossings_at, east-side}
use Rattle.lists.proofs.ListsKit.{in-all, total-is, total-same}

pub count-crossed : (d p : Vector) (es : List Edge) → crossing_count d p es ≡ count_by (is_crossed d p) es
count-crossed d p es =
    sym (total-is (λ (e : Edge). up_crossing d (from_to p e.from) (from_to p e.to) + down_crossing d (from_to p e.from) (from_to p e.to)) es)
    ∙ total-same (λ (e : Edge). up_crossing d (from_to p e.from) (from_to p e.to) + down_crossing d (from_to p e.from) (from_to p e.to)) (λ (e : Edge). bit (is_crossed d p e)) es
    (λ e i. crossing-bit (sign (cross d (from_to p e.from))) (sign (cross d (from_to p e.to))) (sign (cross (from_to p e.from) (from_to p e.to))))
    ∙ total-is (λ (e : Edge). bit (is_crossed d p e)) es

pub count-right : (p : Vector) (es : List Edge) → All IsRisingEdge es → crossing_count east p es ≡ count_by (is_left_of p) es
count-right p es r =
    sym (total-is (crossings_at east (from_to p)) es)
    ∙ total-same (crossings_at east (from_to p)) (λ (t : Edge). bit (is_left_of p t)) es (λ t i. crossings-left east p t east-side (in-all IsRisingEdge es t r i))
    ∙ total-is (λ (t : Edge). bit (is_left_of p t)) es
