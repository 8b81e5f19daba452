-- What a list of edges leaves on the kept side of a line.
use Rattle.std.specs.Prelude.{Bool, List, [], cond, map, not, true, ℕ, ◌&&◌, ◌++◌, ◌||◌, ◌∷◌, ◌≡◌}
use Rattle.std.specs.List.{count_by, filter}
use Rattle.plane.specs.Edge.{Edge, ends_at}
use Rattle.plane.specs.Sign.{Minus, Null, Plus, Sign, is_minus, is_null}
use Rattle.plane.specs.Vector.{Vector, orient}
use Rattle.lists.specs.Member.{EachPair, In}
use Rattle.plane_lists.specs.Lists.Parity.{is_even}
use Rattle.plane_lists.specs.Halves.Line.{Line, has_part, order_along, side}

-- w is the end of e's part for e's end v.
-- The side of v decides: v itself on the closed kept side, and otherwise the point of e on the line.
abbrev pub IsPartEnd : Line → Edge → Vector → Vector → Sign → Type 0
IsPartEnd l e v w Minus = (side l w ≡ Null) × (orient e.from e.to w ≡ Null)
IsPartEnd l e v w s = w ≡ v

-- t is the portion of e on the closed kept side, for an e with a point strictly on the kept side
pub record IsPart (l : Line) (e t : Edge) : Type 0 where
  pub from : IsPartEnd l e e.from t.from (side l e.from)
  pub to : IsPartEnd l e e.to t.to (side l e.to)

-- an edge and its part; the second doesn't matter if the edge has no part
pub record Cutting : Type 0 where
  pub whole : Edge
  pub part : Edge

abbrev pub wholes : List Cutting → List Edge
wholes cs = map (λ (c : Cutting). c.whole) cs

abbrev pub cut_edges : Line → List Cutting → List Cutting
cut_edges l cs = filter (λ (c : Cutting). has_part l c.whole) cs

abbrev pub parts : Line → List Cutting → List Edge
parts l cs = map (λ (c : Cutting). c.part) (cut_edges l cs)

-- each edge with a point strictly on the kept side has its part
abbrev pub IsCut : Line → List Cutting → Type 0
IsCut l cs = (c : Cutting) → In c cs → has_part l c.whole ≡ true → IsPart l c.whole c.part

-- zs are the different end points of the parts that lie on the line, in order
pub record AreMeetings (l : Line) (ts : List Edge) (zs : List Vector) : Type 0 where
  pub on_line : (z : Vector) → In z zs → side l z ≡ Null
  pub ends : (z : Vector) → In z zs → (t : Edge) × In t ts × (ends_at z t ≡ true)
  pub whole : (t : Edge) → In t ts → (v : Vector) → ends_at v t ≡ true → side l v ≡ Null → In v zs
  pub rising : EachPair (λ (z w : Vector). order_along l z w ≡ Plus) zs

-- v is on the line, at z or before it
abbrev pub is_up_to : Line → Vector → Vector → Bool
is_up_to l z v = is_null (side l v) && not (is_minus (order_along l v z))

-- how many parts end on the line at z or before it
abbrev pub ends_up_to : Line → List Edge → Vector → ℕ
ends_up_to l ts z = count_by (λ (t : Edge). is_up_to l z t.from || is_up_to l z t.to) ts

-- The edges on the line from z on: there is one between neighbours exactly if an odd number of parts end on the line up to the lower one.
abbrev pub closing_from : Line → List Edge → Vector → List Vector → List Edge
closing_from l ts z [] = []
closing_from l ts z (w ∷ zs) =
    cond (is_even (ends_up_to l ts z)) (closing_from l ts w zs) (record { from = z; to = w } ∷ closing_from l ts w zs)

abbrev pub closing : Line → List Edge → List Vector → List Edge
closing l ts [] = []
closing l ts (z ∷ zs) = closing_from l ts z zs

-- the half: the parts, and the edges on the line between their ends
abbrev pub half : Line → List Cutting → List Vector → List Edge
half l cs zs = parts l cs ++ closing l (parts l cs) zs
