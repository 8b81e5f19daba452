-- Which edges are right of an anchor, and which of them is nearest.
use Rattle.std.specs.Prelude.{Bool, List, None, Option, Some, [], cond, false, get_or, length, not, true, ℕ, ◌&&◌, ◌<◌, ◌≡◌}
use Rattle.std.specs.List.{count_by}
use Rattle.std.specs.Ordering.{is_lt}
use Rattle.lists.specs.Member.{In}
use Rattle.plane_lists.specs.Lists.Parity.{is_even}
use Rattle.osm_geom.specs.declared.edge.Edge.{Edge}
use Rattle.osm_geom.specs.JustAbove.{just_above_cmp}
use Rattle.osm_geom.specs.Span.{lower_end, spans}
use Rattle.osm_nest.specs.declared.few.search.Encloser.{Encloser}
use Rattle.osm_nest.specs.Outer.{IsOuter}

-- e isn't horizontal
abbrev pub IsSloping : Edge → Type 0
IsSloping e = spans e (lower_end e) ≡ true

-- f spans the height of the lower end of a, and is right of a just above it
unfoldable pub is_right_of_lower_end : Edge → Edge → Bool
is_right_of_lower_end a f = spans f (lower_end a) && is_lt (just_above_cmp a f (lower_end a))

-- f is left of g just above the lower end of a, whose height both span
unfoldable pub is_nearer : Edge → Edge → Edge → Bool
is_nearer a f g = is_lt (just_above_cmp f g (lower_end a))

-- an odd number of the edges are right of a
abbrev pub is_around : Edge → List Edge → Bool
is_around a es = not (is_even (count_by (is_right_of_lower_end a) es))

abbrev pub IsRightOf : Edge → Edge → Type 0
IsRightOf a f = is_right_of_lower_end a f ≡ true

-- e is one of the edges right of a, and none of them is nearer
pub record IsNearest (a : Edge) (es : List Edge) (e : Edge) : Type 0 where
  pub member : In e es
  pub right : is_right_of_lower_end a e ≡ true
  pub nearest : (f : Edge) → In f es → is_right_of_lower_end a f ≡ true → is_nearer a f e ≡ false

abbrev pub IsNearestRight : Edge → List Edge → Option Edge → Type 0
IsNearestRight a es None = (f : Edge) → In f es → is_right_of_lower_end a f ≡ false
IsNearestRight a es (Some e) = IsNearest a es e

-- the nearer of what was found and the next edge
abbrev pub nearest_so_far : Edge → Option Edge → Edge → Edge
nearest_so_far a None next = next
nearest_so_far a (Some e) next = cond (is_nearer a next e) next e

-- the same, but the next edge counts only if it is right of a
abbrev pub nearer_edge : Edge → Option Edge → Edge → Option Edge
nearer_edge a found next = cond (is_right_of_lower_end a next) (Some (nearest_so_far a found next)) found

-- the ring at a place is outer, and around a
pub record IsEncloser (rs : List (List Edge)) (a : Edge) (place : ℕ) : Type 0 where
  pub inside : place < length rs
  pub outer : IsOuter (get_or rs place [])
  pub odd : is_around a (get_or rs place []) ≡ true

-- an encloser with the nearest of its edges
pub record IsEncloserBy (rs : List (List Edge)) (a : Edge) (c : Encloser) : Type 0 where
  pub candidate : IsEncloser rs a c.place
  pub edge : IsNearest a (get_or rs c.place []) c.edge

abbrev pub IsEncloserAt : List (List Edge) → Edge → ℕ → Option Encloser → Type 0
IsEncloserAt rs a place None = IsEncloser rs a place → ⊥
IsEncloserAt rs a place (Some c) = (c.place ≡ place) × IsEncloserBy rs a c

abbrev pub nearer_encloser : Edge → Option Encloser → Option Encloser → Option Encloser
nearer_encloser a None next = next
nearer_encloser a (Some b) None = Some b
nearer_encloser a (Some b) (Some c) = cond (is_nearer a c.edge b.edge) (Some c) (Some b)

-- no edge right of a, of all candidates up to a place, is nearer
pub record IsNearestUpTo (rs : List (List Edge)) (a : Edge) (place : ℕ) (c : Encloser) : Type 0 where
  pub is : IsEncloserBy rs a c
  pub nearest : (k : ℕ) → k < place → IsEncloser rs a k → (f : Edge) → In f (get_or rs k []) → is_right_of_lower_end a f ≡ true → is_nearer a f c.edge ≡ false

abbrev pub IsBestUpTo : List (List Edge) → Edge → ℕ → Option Encloser → Type 0
IsBestUpTo rs a place None = (k : ℕ) → k < place → IsEncloser rs a k → ⊥
IsBestUpTo rs a place (Some c) = IsNearestUpTo rs a place c
