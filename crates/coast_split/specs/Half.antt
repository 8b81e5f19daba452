-- What a list of edges leaves on the kept side of a cut line.
use Rattle.std.specs.Prelude.{Bool, List, [], cond, false, not, true, ℕ, pos, ◌&&◌, ◌++◌, ◌-ℤ◌, ◌||◌, ◌∷◌, ◌≡◌, ◌⊎◌}
use Rattle.std.specs.List.{count_by}
use Rattle.plane.specs.Sign.{Minus, Null, Plus, Sign, is_minus, is_null, is_plus}
use Rattle.lists.specs.Member.{EachPair, In}
use Rattle.plane_lists.specs.Lists.Parity.{is_even}
use Rattle.plane_lists.specs.Halves.Line.{Line}
use Rattle.osm_geom.specs.declared.cut.Axis.{Axis}
use Rattle.osm_geom.specs.declared.cut.Axis.TheVariants.{X, Y}
use Rattle.osm_geom.specs.declared.cut.Cut.{Cut}
use Rattle.osm_geom.specs.declared.cut.Side.{Side}
use Rattle.osm_geom.specs.declared.cut.Side.TheVariants.{Low, High}
use Rattle.osm_geom.specs.declared.edge.Carrier.{Carrier}
use Rattle.osm_geom.specs.declared.edge.Edge.{Edge}
use Rattle.osm_geom.specs.declared.point.Point.{Point}
use Rattle.osm_geom.specs.Carrier.{is_on}
use Rattle.osm_geom.specs.Cut.{carrier_of_cut, cut_order, side_of}
use Rattle.osm_geom.specs.Point.{point_order}

-- ---- parts
-- e has a point strictly on the side
abbrev pub has_portion : Cut → Side → Edge → Bool
has_portion cut side e = is_plus (side_of cut side e.from) || is_plus (side_of cut side e.to)

-- w is the end, in the portion of an edge on the carrier, for the end v of the edge.
-- The side of v decides: v itself on the closed side, and otherwise the carrier's point on the line.
abbrev pub IsPortionEnd : Cut → Carrier → Point → Point → Sign → Type 0
IsPortionEnd cut carrier v w Minus = (cut_order cut w ≡ Null) × (is_on carrier w ≡ true)
IsPortionEnd cut carrier v w s = w ≡ v

-- t is the portion of e on the closed side
pub record IsPortion (cut : Cut) (side : Side) (e t : Edge) : Type 0 where
  pub carrier : t.carrier ≡ e.carrier
  pub from : IsPortionEnd cut e.carrier e.from t.from (side_of cut side e.from)
  pub to : IsPortionEnd cut e.carrier e.to t.to (side_of cut side e.to)

-- if e has a portion, it is the first of the list, and the others are as `rest` says
abbrev pub NextPortion : Cut → Side → Edge → Bool → (List Edge → Type 0) → List Edge → Type 0
NextPortion cut side e false rest ts = rest ts
NextPortion cut side e true rest [] = ⊥
NextPortion cut side e true rest (t ∷ ts) = IsPortion cut side e t × rest ts

-- ts are the portions of the edges that have one, in order
abbrev pub ArePortions : Cut → Side → List Edge → List Edge → Type 0
ArePortions cut side [] ts = ts ≡ []
ArePortions cut side (e ∷ es) ts = NextPortion cut side e (has_portion cut side e) (ArePortions cut side es) ts

-- ---- the line
-- whether the side is on the left of the line where it runs in the order of points
abbrev pub runs_forward : Axis → Side → Bool
runs_forward X Low = true
runs_forward X High = false
runs_forward Y Low = false
runs_forward Y High = true

-- Plus if q comes after p along the line, run with the side on its left
abbrev pub line_order : Cut → Side → Point → Point → Sign
line_order cut side p q = cond (runs_forward cut.axis side) (point_order p q) (point_order q p)

-- zs are the different end points of parts that lie on the line, in order along it
pub record AreMeetings (cut : Cut) (side : Side) (ts : List Edge) (zs : List Point) : Type 0 where
  pub on_line : (z : Point) → In z zs → cut_order cut z ≡ Null
  pub ends : (z : Point) → In z zs → (t : Edge) × In t ts × ((z ≡ t.from) ⊎ (z ≡ t.to))
  pub froms : (t : Edge) → In t ts → cut_order cut t.from ≡ Null → In t.from zs
  pub tos : (t : Edge) → In t ts → cut_order cut t.to ≡ Null → In t.to zs
  pub rising : EachPair (λ (z w : Point). line_order cut side z w ≡ Plus) zs

-- p is on the line, at z or before it in the order of points
abbrev pub is_up_to : Cut → Point → Point → Bool
is_up_to cut z p = is_null (cut_order cut p) && not (is_minus (point_order p z))

-- how many parts end on the line at z or before it
abbrev pub ends_up_to : Cut → List Edge → Point → ℕ
ends_up_to cut ts z = count_by (λ (t : Edge). is_up_to cut z t.from || is_up_to cut z t.to) ts

-- the lower of two points that follow each other along the line
abbrev pub lower_of : Cut → Side → Point → Point → Point
lower_of cut side z w = cond (runs_forward cut.axis side) z w

-- ---- the edges on the line
pub record IsLink (cut : Cut) (z w : Point) (e : Edge) : Type 0 where
  pub carrier : e.carrier ≡ carrier_of_cut cut
  pub from : e.from ≡ z
  pub to : e.to ≡ w

abbrev pub NextLink : Cut → Point → Point → Bool → (List Edge → Type 0) → List Edge → Type 0
NextLink cut z w true rest ls = rest ls
NextLink cut z w false rest [] = ⊥
NextLink cut z w false rest (e ∷ ls) = IsLink cut z w e × rest ls

-- ls are the edges from z on: there is one between neighbours exactly if an odd number of parts end on the line at or before the lower one
abbrev pub AreLinksFrom : Cut → Side → List Edge → Point → List Point → List Edge → Type 0
AreLinksFrom cut side ts z [] ls = ls ≡ []
AreLinksFrom cut side ts z (w ∷ zs) ls =
    NextLink cut z w (is_even (ends_up_to cut ts (lower_of cut side z w))) (AreLinksFrom cut side ts w zs) ls

abbrev pub AreLinks : Cut → Side → List Edge → List Point → List Edge → Type 0
AreLinks cut side ts [] ls = ls ≡ []
AreLinks cut side ts (z ∷ zs) ls = AreLinksFrom cut side ts z zs ls

-- hs is the half of es: the parts, and the edges on the line between their ends
pub record IsHalf (cut : Cut) (side : Side) (es hs : List Edge) : Type 0 where
  pub parts : List Edge
  pub meetings : List Point
  pub links : List Edge
  pub are_parts : ArePortions cut side es parts
  pub are_meetings : AreMeetings cut side parts meetings
  pub are_links : AreLinks cut side parts meetings links
  pub whole : hs ≡ parts ++ links

-- ---- the line in the plane, with the side on its left
abbrev pub line_by : Axis → Side → Cut → Line
line_by X Low cut = record { along = record { x = pos 0; y = pos 1 }; level = pos 0 -ℤ cut.at }
line_by X High cut = record { along = record { x = pos 0; y = pos 0 -ℤ pos 1 }; level = cut.at }
line_by Y Low cut = record { along = record { x = pos 0 -ℤ pos 1; y = pos 0 }; level = pos 0 -ℤ cut.at }
line_by Y High cut = record { along = record { x = pos 1; y = pos 0 }; level = cut.at }

abbrev pub line_of : Cut → Side → Line
line_of cut side = line_by cut.axis side cut
