-- The counts of the odd side, over segments.
use Rattle.std.proofs.Common.{Bool, true, false, not, cond, List, [], ◌∷◌, ℕ, ◌+◌, ◌≡◌, ◌∙◌, refl, sym, ap, arith, ◌&&◌}
use Rattle.std.specs.List.{count_by}
use Rattle.plane.specs.Edge.{Edge, same_edge}
use Rattle.plane.specs.Height.{is_left_of, starts_left_of}
use Rattle.plane_lists.specs.Lists.ConflictFree.{others}
use Rattle.plane_lists.specs.Lists.OddSide as odd_side
use Rattle.plane_lists.specs.Lists.Parity.{is_even}
use Rattle.osm_lattice.specs.declared.loc.Loc.{Loc}
use Rattle.osm_lattice.specs.declared.seg.Seg.{Seg}
use Rattle.osm_lattice.specs.Loc.{vector_of}
use Rattle.osm_lattice.specs.Seg.{edge_of}
use Rattle.osm_sides.specs.Survivors.{plane_edges_of}
use Rattle.osm_sides.specs.SideTests.{left_of, counted, starts_left, level, left_count, right_count}
use Rattle.lists.proofs.ListsKit.{count_by-cons}

left_count_is : (p : Loc) (segs : List Seg) → count_by (is_left_of (vector_of p)) (plane_edges_of segs) ≡ left_count p segs
unfolding left_of
left_count_is p [] = refl
left_count_is p (s ∷ segs) = count_by-cons (is_left_of (vector_of p)) (edge_of s) (plane_edges_of segs) ∙ ap (λ n. cond (is_left_of (vector_of p) (edge_of s)) 1 0 + n) (left_count_is p segs) ∙ sym (count_by-cons (left_of p) s segs)

picked : (f : Edge → Bool) (e : Edge) (b : Bool) (es : List Edge) → count_by f (cond b (e ∷ es) es) ≡ cond (b && f e) 1 0 + count_by f es
picked f e true es = count_by-cons f e es
picked f e false es = omega arith

right_count_is : (s : Seg) (segs : List Seg) → count_by (starts_left_of (edge_of s)) (others (edge_of s) (plane_edges_of segs)) ≡ right_count s segs
unfolding counted starts_left
right_count_is s [] = refl
right_count_is s (t ∷ segs) =
    picked (starts_left_of (edge_of s)) (edge_of t) (not (same_edge (edge_of s) (edge_of t))) (others (edge_of s) (plane_edges_of segs))
    ∙ ap (λ n. cond (not (same_edge (edge_of s) (edge_of t)) && starts_left_of (edge_of s) (edge_of t)) 1 0 + n) (right_count_is s segs) ∙ sym (count_by-cons (counted s) t segs)

runs_by : (b : Bool) (m n k l : ℕ) → m ≡ k → n ≡ l → cond b (not (is_even (cond b m n))) (is_even (cond b m n)) ≡ cond b (not (is_even k)) (is_even l)
runs_by true m n k l e f = ap (λ i. not (is_even i)) e
runs_by false m n k l e f = ap is_even f

pub runs_up_is : (segs : List Seg) (s : Seg) → odd_side.runs_up_by_odd_side (plane_edges_of segs) (edge_of s) ≡ cond (level s) (not (is_even (left_count s.a segs))) (is_even (right_count s segs))
unfolding level
runs_up_is segs s = runs_by (level s) (count_by (is_left_of (vector_of s.a)) (plane_edges_of segs)) (count_by (starts_left_of (edge_of s)) (others (edge_of s) (plane_edges_of segs))) (left_count s.a segs) (right_count s segs) (left_count_is s.a segs) (right_count_is s segs)
