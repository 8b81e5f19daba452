-- Survivors without conflicts and odd nodes, as edges of the plane.
use Rattle.std.proofs.Common.{Bool, true, false, cond, List, [], ◌∷◌, ◌++◌, All, ℕ, suc, ◌+◌, ◌≡◌, ◌∙◌, Option, Some, None, refl, sym, ap, arith, inl, inr, ⊎_elim, ◌⊎◌, ◌%◌, subst}
use Rattle.std.specs.declared.cmp.Ordering.TheVariants.{Less}
use Rattle.std.specs.List.{filter_map, cons_option, sum_by}
use Rattle.std.specs.Ordering.{is_eq}
use Rattle.std.proofs.lemmas.List.Elements.{All-cons}
use Rattle.std.proofs.lemmas.List.Sums.{sum_by-cons}
use Rattle.plane.specs.Bit.{bit}
use Rattle.plane.specs.Conflict.{IsClearOf}
use Rattle.plane.specs.Edge as plane
use Rattle.plane.specs.Vector.{Vector, one_at, same_point}
use Rattle.plane.proofs.PlaneKit.{same_point-refl, same_point-true}
use Rattle.plane_lists.specs.Lists.ConflictFree.{IsConflictFree}
use Rattle.plane_lists.specs.Lists.EdgeList.{IsEvenAtPoints}
use Rattle.lists.specs.Member.{EachPair}
use Rattle.plane_lists.specs.Lists.Parity.{IsEven}
use Rattle.osm_lattice.specs.declared.conflicts.Kind.{Kind}
use Rattle.osm_lattice.specs.declared.loc.Loc.{Loc}
use Rattle.osm_lattice.specs.declared.seg.Seg.{Seg}
use Rattle.osm_lattice.specs.Conflict.{are_crossing, are_overlapping, conflict_of}
use Rattle.osm_lattice.specs.Loc.{loc_cmp, vector_of}
use Rattle.osm_lattice.specs.Seg.{edge_of, seg_cmp}
use Rattle.osm_lattice.proofs.LatticeKit.{rising_edge, clear_by}
use Rattle.lists.specs.Rising.{IsRising, count_of}
use Rattle.osm_segments.specs.Counts.{ends_of}
use Rattle.osm_segments.specs.Pairs.{conflicts_of, pair_of}
use Rattle.osm_sides.specs.SideTests.{same}
use Rattle.osm_segments.specs.Counts.{HasEvenNodes}
use Rattle.osm_sides.specs.Survivors.{plane_edges_of}
use Rattle.osm_sides.proofs.SegmentTests.{same_is}

-- ---- no conflicts
clear_pair : (s t : Seg) → seg_cmp s t ≡ Less → conflict_of s t ≡ None → IsClearOf (edge_of s) (edge_of t)
unfolding are_overlapping are_crossing
clear_pair s t less none = clear_by (is_eq (seg_cmp s t)) (are_overlapping s t) (are_crossing s t) (rw less refl) none

no_pair : (s t : Seg) (k : Option Kind) → conflict_of s t ≡ k → pair_of s t ≡ None → k ≡ None
unfolding pair_of
no_pair s t None e h = refl
no_pair s t (Some k) e h = let there = rw e at h in cc

first_none : {X : Type 0} (o : Option X) (xs : List X) → cons_option o xs ≡ [] → o ≡ None
first_none None xs e = refl
first_none (Some x) xs e = cc

rest_none : {X : Type 0} (o : Option X) (xs : List X) → cons_option o xs ≡ [] → xs ≡ []
rest_none None xs e = e
rest_none (Some x) xs e = cc

clear_of_all : (s : Seg) (ts : List Seg) → All (λ t. seg_cmp s t ≡ Less) ts → filter_map (pair_of s) ts ≡ [] → All (IsClearOf (edge_of s)) (plane_edges_of ts)
clear_of_all s [] less e = λ k d h. absurd (omega arith)
clear_of_all s (t ∷ ts) less e =
    All-cons (IsClearOf (edge_of s)) (edge_of t) (plane_edges_of ts)
    (clear_pair s t (less 0 t (omega arith)) (no_pair s t (conflict_of s t) refl (first_none (pair_of s t) (filter_map (pair_of s) ts) e)))
    (clear_of_all s ts (λ k d h. less (suc k) d (omega arith)) (rest_none (pair_of s t) (filter_map (pair_of s) ts) e))

left_none : {X : Type 0} (xs ys : List X) → xs ++ ys ≡ [] → xs ≡ []
left_none [] ys e = refl
left_none (x ∷ xs) ys e = cc

right_none : {X : Type 0} (xs ys : List X) → xs ++ ys ≡ [] → ys ≡ []
right_none [] ys e = e
right_none (x ∷ xs) ys e = cc

clear_pairs : (ss : List Seg) → IsRising seg_cmp ss → conflicts_of ss ≡ [] → EachPair IsClearOf (plane_edges_of ss)
clear_pairs [] rising none = tt
clear_pairs (s ∷ ss) rising none = (
  clear_of_all s ss (λ k d h. rising 0 (suc k) d (omega arith) (omega arith)) (left_none (filter_map (pair_of s) ss) (conflicts_of ss) none),
  clear_pairs ss (λ i j d h l. rising (suc i) (suc j) d (omega arith) (omega arith)) (right_none (filter_map (pair_of s) ss) (conflicts_of ss) none),
)

all_rising : (ss : List Seg) → All plane.IsRisingEdge (plane_edges_of ss)
all_rising [] = λ k d h. absurd (omega arith)
all_rising (s ∷ ss) = All-cons plane.IsRisingEdge (edge_of s) (plane_edges_of ss) (rising_edge s) (all_rising ss)

pub conflict_free : (ss : List Seg) → IsRising seg_cmp ss → conflicts_of ss ≡ [] → IsConflictFree (plane_edges_of ss)
conflict_free ss rising none = record { rising = all_rising ss; clear = clear_pairs ss rising none }

-- ---- even nodes
abbrev ends_at : Vector → plane.Edge → ℕ
ends_at v e = one_at v e.from + one_at v e.to

one_is : (p q : Loc) → one_at (vector_of p) (vector_of q) ≡ cond (is_eq (loc_cmp q p)) 1 0
unfolding same
one_is p q = ap bit (turned p q ∙ sym (same_is q p))
  where
    turned_by : (v w : Vector) (b c : Bool) → same_point v w ≡ b → same_point w v ≡ c → b ≡ c
    turned_by v w true true e f = refl
    turned_by v w false false e f = refl
    turned_by v w true false e f = let one = same_point-true v w e in let here = same_point-refl w in let there : same_point w v ≡ true = rw one here in cc
    turned_by v w false true e f = let one = same_point-true w v f in let here = same_point-refl v in let there : same_point v w ≡ true = rw one here in cc

    turned : (p q : Loc) → same_point (vector_of p) (vector_of q) ≡ same_point (vector_of q) (vector_of p)
    turned p q = turned_by (vector_of p) (vector_of q) (same_point (vector_of p) (vector_of q)) (same_point (vector_of q) (vector_of p)) refl refl

at_location : (p : Loc) (ss : List Seg) → sum_by (ends_at (vector_of p)) (plane_edges_of ss) ≡ count_of loc_cmp p (ends_of ss)
at_location p [] = refl
at_location p (s ∷ ss) =
    let f : Loc → ℕ = λ q. cond (is_eq (loc_cmp q p)) 1 0 in
    sum_by-cons (ends_at (vector_of p)) (edge_of s) (plane_edges_of ss)
    ∙ added (one_is p s.a) (one_is p s.b) (at_location p ss)
    ∙ sym (sum_by-cons f s.a (s.b ∷ ends_of ss) ∙ ap (λ n. f s.a + n) (sum_by-cons f s.b (ends_of ss)))
  where
    added : {a b c x y z : ℕ} → a ≡ x → b ≡ y → c ≡ z → (a + b) + c ≡ x + (y + z)
    added e f g = omega (arith, e, f, g)

-- a point is a location, or no segment ends there
end_or_none : (v : Vector) (ss : List Seg) → ((p : Loc) × (vector_of p ≡ v)) ⊎ (sum_by (ends_at v) (plane_edges_of ss) ≡ 0)
end_or_none v [] = inr refl
end_or_none v (s ∷ ss) = ⊎_elim inl (λ none. by_ends none (same_point v (vector_of s.a)) (same_point v (vector_of s.b)) refl refl) (end_or_none v ss)
  where
    by_ends : sum_by (ends_at v) (plane_edges_of ss) ≡ 0 → (b c : Bool) → same_point v (vector_of s.a) ≡ b → same_point v (vector_of s.b) ≡ c → ((p : Loc) × (vector_of p ≡ v)) ⊎ (sum_by (ends_at v) (plane_edges_of (s ∷ ss)) ≡ 0)
    by_ends none true c e f = inl (s.a, sym (same_point-true v (vector_of s.a) e))
    by_ends none false true e f = inl (s.b, sym (same_point-true v (vector_of s.b) f))
    by_ends none false false e f = inr (sum_by-cons (ends_at v) (edge_of s) (plane_edges_of ss) ∙ rw (e, f, none) refl)

pub even_points : (ss : List Seg) → HasEvenNodes ss → IsEvenAtPoints (plane_edges_of ss)
even_points ss even v = ⊎_elim
    (λ (at : (p : Loc) × (vector_of p ≡ v)). subst (λ u. IsEven (sum_by (ends_at u) (plane_edges_of ss))) at.1 (ap (λ n. n % 2) (at_location at.0 ss) ∙ sym (even.odd at.0)))
    (λ none. ap (λ n. n % 2) none) (end_or_none v ss)
