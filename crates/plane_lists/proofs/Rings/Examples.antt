-- The definitions on squares and on two triangles that touch, by computing, and a ring list.
use Rattle.std.proofs.Common.{Bool, List, [], arith, eqb-true, false, inl, inr, length, not, refl, subst, sym, true, ℕ, ◌&&◌, ◌++◌, ◌==◌, ◌||◌, ◌∷◌, ◌≡◌, ◌≤◌}
use Rattle.std.proofs.lemmas.List.Elements.{All-cons, All-nil}
use lib.IntN.{pos}
use Rattle.plane_lists.specs.Rings.Cover.{covers}
use Rattle.plane_lists.specs.Rings.Nesting.{depth, encloses, is_outer}
use Rattle.plane_lists.specs.Rings.RingList.{IsRingList}
use Rattle.plane_lists.specs.Rings.Stack.{cut_off}
use Rattle.plane_lists.specs.Rings.Walk.{IsSuccessor}
use Rattle.plane.specs.Conflict.{IsClearOf}
use Rattle.plane.specs.Edge.{Edge, IsRisingEdge, ends_at, other_end, same_edge}
use Rattle.plane.specs.Sector.{in_sector}
use Rattle.plane.specs.Vector.{Vector, from_to, same_point}
use Rattle.plane_lists.specs.Lists.ConflictFree.{IsConflictFree}
use Rattle.lists.specs.Member.{In}
use Rattle.plane_lists.specs.Lists.OddSide.{directed}
use Rattle.plane_lists.specs.Lists.Ring.{IsRing, segments_of}
use Rattle.plane_lists.specs.Lists.Sided.{IsSided}
use Rattle.lists.proofs.ListsKit.{and-left, and-right}
use Rattle.plane_lists.proofs.WindingKit.{ring-even, directed_sided}

abbrev point : ℕ → ℕ → Vector
point x y = record { x = pos x; y = pos y }

abbrev edge : Vector → Vector → Edge
edge p q = record { from = p; to = q }

abbrev sides : ℕ → ℕ → List Edge
sides low high =
    edge (point low low) (point high low) ∷ edge (point high low) (point high high) ∷ edge (point low high) (point high high) ∷ edge (point low low) (point low high) ∷ []

-- the left side of a square is its anchor
abbrev left_side : ℕ → ℕ → Edge
left_side low high = edge (point low low) (point low high)

abbrev squares : List (List Edge)
squares = sides 0 9 ∷ sides 1 8 ∷ sides 2 4 ∷ sides 5 7 ∷ []

-- ---- enclosing and depth
encloses-inner : encloses (sides 0 9) (left_side 1 8) ≡ true
encloses-inner = refl

encloses-outer : encloses (sides 1 8) (left_side 0 9) ≡ false
encloses-outer = refl

encloses-itself : encloses (sides 0 9) (left_side 0 9) ≡ false
encloses-itself = refl

encloses-beside : encloses (sides 2 4) (left_side 5 7) ≡ false
encloses-beside = refl

depths : (depth squares (left_side 0 9) ≡ 0) × (depth squares (left_side 1 8) ≡ 1) × (depth squares (left_side 2 4) ≡ 2)
depths = (refl, refl, refl)

outer-by-anchor : (is_outer squares (left_side 0 9) ≡ true) × (is_outer squares (left_side 1 8) ≡ false) × (is_outer squares (left_side 5 7) ≡ true)
outer-by-anchor = (refl, refl, refl)

covered : (covers (sides 0 9 ++ sides 1 8) (point 0 3) ≡ true) × (covers (sides 0 9 ++ sides 1 8) (point 4 4) ≡ false)
covered = (refl, refl)

-- ---- two triangles that touch at 2, 2
abbrev low_triangle : List Edge
low_triangle = edge (point 0 0) (point 4 0) ∷ edge (point 4 0) (point 2 2) ∷ edge (point 2 2) (point 0 0) ∷ []

abbrev high_triangle : List Edge
high_triangle = edge (point 2 2) (point 4 4) ∷ edge (point 4 4) (point 0 4) ∷ edge (point 0 4) (point 2 2) ∷ []

abbrev triangles : List Edge
triangles = low_triangle ++ high_triangle

abbrev every : (Edge → Bool) → List Edge → Bool
every q [] = true
every q (x ∷ xs) = q x && every q xs

every-out : (q : Edge → Bool) (xs : List Edge) → every q xs ≡ true → (y : Edge) → In y xs → q y ≡ true
every-out q [] h y i = absurd i
every-out q (x ∷ xs) h y (inl e) = subst (λ w. q w ≡ true) (sym e) (and-left (q x) (every q xs) h)
every-out q (x ∷ xs) h y (inr i) = every-out q xs (and-right (q x) (every q xs) h) y i

abbrev passes_by : Bool → Bool → Bool → ℕ → Bool
passes_by meets first second n = not meets || (first || (second || (n == 0)))

passes-out : (m f s : Bool) (n : ℕ) → passes_by m f s n ≡ true → m ≡ true → f ≡ false → s ≡ false → n ≡ 0
passes-out true false false n h a b c = eqb-true n 0 h
passes-out false f s n h a b c = absurd (cc a)
passes-out true true s n h a b c = absurd (cc b)
passes-out true false true n h a b c = absurd (cc c)

-- the successor at the common point stays on its triangle
abbrev entering : Edge
entering = edge (point 4 0) (point 2 2)

abbrev leaving : Edge
leaving = edge (point 2 2) (point 0 0)

abbrev between : Edge → ℕ
between g = in_sector (from_to (point 2 2) (point 0 0)) (from_to (point 2 2) (point 4 0)) (from_to (point 2 2) (other_end (point 2 2) g))

successor-on-triangle : IsSuccessor triangles entering leaving
successor-on-triangle = record {
  member = inr (inr (inl refl));
  meets = refl;
  other = refl;
  first = λ g i a b c.
      passes-out (ends_at (point 2 2) g) (same_edge entering g) (same_edge leaving g) (between g)
      (every-out (λ g. passes_by (ends_at (point 2 2) g) (same_edge entering g) (same_edge leaving g) (between g)) triangles refl g i) a b c;
}

-- a closed path through the common point twice, cut by the stack
abbrev path : List Edge
path =
    edge (point 0 0) (point 4 0) ∷ edge (point 4 0) (point 2 2) ∷ edge (point 2 2) (point 4 4) ∷ edge (point 4 4) (point 0 4) ∷ edge (point 0 4) (point 2 2) ∷ edge (point 2 2) (point 0 0) ∷ []

path-cut : cut_off [] path ≡ high_triangle ∷ low_triangle ∷ []
path-cut = refl

-- ---- a ring list that is not empty
abbrev pub triangle : List Edge
triangle = edge (point 0 0) (point 2 0) ∷ edge (point 2 0) (point 0 2) ∷ edge (point 0 2) (point 0 0) ∷ []

abbrev apart : Edge → Edge → Type 0
apart e f = same_point e.from f.from ≡ false

triangle_ring : IsRing triangle
triangle_ring = record {
  start = point 0 0;
  path = (refl, (refl, (refl, refl)));
  once = (
    All-cons (apart (edge (point 0 0) (point 2 0))) (edge (point 2 0) (point 0 2)) (edge (point 0 2) (point 0 0) ∷ []) refl
        (All-cons (apart (edge (point 0 0) (point 2 0))) (edge (point 0 2) (point 0 0)) [] refl (All-nil (apart (edge (point 0 0) (point 2 0))))),
    (All-cons (apart (edge (point 2 0) (point 0 2))) (edge (point 0 2) (point 0 0)) [] refl (All-nil (apart (edge (point 2 0) (point 0 2)))), (All-nil (apart (edge (point 0 2) (point 0 0))), tt)),
  );
}

triangle_plain : IsConflictFree (segments_of triangle)
triangle_plain = record {
  rising = All-cons IsRisingEdge (edge (point 0 0) (point 2 0)) (edge (point 2 0) (point 0 2) ∷ edge (point 0 0) (point 0 2) ∷ []) refl
      (All-cons IsRisingEdge (edge (point 2 0) (point 0 2)) (edge (point 0 0) (point 0 2) ∷ []) refl (All-cons IsRisingEdge (edge (point 0 0) (point 0 2)) [] refl (All-nil IsRisingEdge)));
  clear = (
    All-cons (IsClearOf (edge (point 0 0) (point 2 0))) (edge (point 2 0) (point 0 2)) (edge (point 0 0) (point 0 2) ∷ []) refl
        (All-cons (IsClearOf (edge (point 0 0) (point 2 0))) (edge (point 0 0) (point 0 2)) [] refl (All-nil (IsClearOf (edge (point 0 0) (point 2 0))))),
    (All-cons (IsClearOf (edge (point 2 0) (point 0 2))) (edge (point 0 0) (point 0 2)) [] refl (All-nil (IsClearOf (edge (point 2 0) (point 0 2)))), (All-nil (IsClearOf (edge (point 0 0) (point 0 2))), tt)),
  );
}

-- the odd side directs it counterclockwise
triangle_directed : directed (segments_of triangle) ≡ triangle
triangle_directed = refl

triangle_sided : IsSided triangle
triangle_sided = subst IsSided triangle_directed (directed_sided (segments_of triangle) triangle_plain (ring-even triangle triangle_ring))

of-one : (P : List Edge → Type 0) → P triangle → (r : List Edge) → In r (triangle ∷ []) → P r
of-one P h r (inl e) = subst P (sym e) h
of-one P h r (inr i) = absurd i

pub triangle_list : IsRingList (triangle ∷ [])
triangle_list = record {
  ring = of-one IsRing triangle_ring;
  long = of-one (λ r. 3 ≤ length r) (omega arith);
  sided = triangle_sided;
  free = (All-nil _, tt);
}
