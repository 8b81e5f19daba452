-- A ring list of the multiplied edges is one of the edges themselves: each multiplied edge is that of one edge alone.
use Rattle.std.proofs.Common.{◌≡◌, ◌+◌, ℕ, List, [], ◌∷◌, map, inl, inr, Bool, true, false, cond, refl, sym, ap, subst, ◌∙◌, arith, sum_by}
use Rattle.std.proofs.lemmas.List.Sums.{sum_by-append, sum_by-cons}
use Rattle.plane_lists.specs.Rings.Nesting.{edges_of}
use Rattle.plane_lists.specs.Rings.Stack.{cut_all}
use Rattle.plane_lists.proofs.NestingKit.{sided-once, piece_walk, pieces_same, stack_cut_all, stack_rings, walks_there}
use Rattle.plane.specs.Edge as plane
use Rattle.plane.specs.Edge.{same_edge}
use Rattle.plane.proofs.PlaneKit.{same_edge-refl, same_edge-true}
use Rattle.lists.specs.Member.{EachPair, In}
use Rattle.lists.proofs.ListsKit.{all-in, in-all, in-map, in-map-out}
use Rattle.osm_geom.specs.declared.edge.Edge.{Edge}
use Rattle.osm_geom.specs.InPlane.Multiple.{IsWholeAt, edge_times, edges_times, product_of_denominators, whole_edges}
use Rattle.osm_geom.specs.InPlane.Sided.{IsSided}
use Rattle.osm_geom.proofs.EdgesKit.{common_is_common, each_whole}
use Rattle.osm_rings.specs.RingList.{AreRingsOf, HoldTheEdges}
use Rattle.osm_rings.proofs.PlaneRings.{ring-of-plane}
use Rattle.osm_rings.proofs.UncrossedRings.{held-within}

module _ (k : ℕ) (d : Edge) where
  -- the first edge of the list that is x once multiplied
  abbrev pub lifted : List Edge → plane.Edge → Edge
  lifted [] x = d
  lifted (e ∷ es) x = cond (same_edge (edge_times k e) x) e (lifted es x)

  -- what is multiplied is lifted to itself
  lifted-back : (es : List Edge) → EachPair (λ (x y : plane.Edge). x ≡ y → ⊥) (edges_times k es) → (e : Edge) → In e es → lifted es (edge_times k e) ≡ e
  lifted-back [] once e i = absurd i
  lifted-back (y ∷ es) once e (inl is) =
      ap (λ z. cond (same_edge (edge_times k y) (edge_times k z)) y (lifted es (edge_times k z))) is
      ∙ (ap (λ b. cond b y (lifted es (edge_times k y))) (same_edge-refl (edge_times k y)) ∙ sym is)
  lifted-back (y ∷ es) once e (inr i) = decide (same_edge (edge_times k y) (edge_times k e)) refl (lifted-back es once.1 e i)
    where
      decide : (b : Bool) → same_edge (edge_times k y) (edge_times k e) ≡ b → lifted es (edge_times k e) ≡ e → cond b y (lifted es (edge_times k e)) ≡ e
      decide true h rest = absurd (in-all (λ x. edge_times k y ≡ x → ⊥) (edges_times k es) (edge_times k e) once.0 (in-map (edge_times k) es e i) (same_edge-true (edge_times k y) (edge_times k e) h))
      decide false h rest = rest

  module _ (es : List Edge) (once : EachPair (λ (x y : plane.Edge). x ≡ y → ⊥) (edges_times k es)) where
    back : (e : Edge) → In e es → lifted es (edge_times k e) ≡ e
    back = lifted-back es once

    -- what is lifted is multiplied to itself
    forth : (x : plane.Edge) → In x (edges_times k es) → edge_times k (lifted es x) ≡ x
    forth x i =
        let e = in-map-out (edge_times k) es x i in
        ap (λ y. edge_times k (lifted es y)) e.2 ∙ (ap (edge_times k) (back e.0 e.1) ∙ sym e.2)

    forth-ring : (r : List plane.Edge) → ((x : plane.Edge) → In x r → In x (edges_times k es)) → edges_times k (map (lifted es) r) ≡ r
    forth-ring [] here = refl
    forth-ring (x ∷ r) here = ap (λ y. y ∷ edges_times k (map (lifted es) r)) (forth x (here x (inl refl))) ∙ ap (λ ys. x ∷ ys) (forth-ring r (λ y i. here y (inr i)))

    pub forth-rings : (rs : List (List plane.Edge)) → ((r : List plane.Edge) → In r rs → (x : plane.Edge) → In x r → In x (edges_times k es)) → map (edges_times k) (map (map (lifted es)) rs) ≡ rs
    forth-rings [] here = refl
    forth-rings (r ∷ rs) here =
        ap (λ y. y ∷ map (edges_times k) (map (map (lifted es)) rs)) (forth-ring r (here r (inl refl)))
        ∙ ap (λ ys. r ∷ ys) (forth-rings rs (λ s i. here s (inr i)))

    -- ---- sums
    sum-lifted : (f : Edge → ℕ) (r : List plane.Edge) → sum_by f (map (lifted es) r) ≡ sum_by (λ x. f (lifted es x)) r
    sum-lifted f [] = refl
    sum-lifted f (x ∷ r) =
        sum_by-cons f (lifted es x) (map (lifted es) r)
        ∙ (ap (λ n. f (lifted es x) + n) (sum-lifted f r) ∙ sym (sum_by-cons (λ x. f (lifted es x)) x r))

    pub sums-lifted : (f : Edge → ℕ) (rs : List (List plane.Edge)) → sum_by (λ r. sum_by f r) (map (map (lifted es)) rs) ≡ sum_by (λ x. f (lifted es x)) (edges_of rs)
    sums-lifted f [] = refl
    sums-lifted f (r ∷ rs) =
        let head = sum_by-cons (λ r. sum_by f r) (map (lifted es) r) (map (map (lifted es)) rs) in
        let here = sum-lifted f r in
        let later = sums-lifted f rs in
        let parts = sum_by-append (λ x. f (lifted es x)) r (edges_of rs) in
        omega arith

    pub sum-multiplied : (f : Edge → ℕ) (xs : List Edge) → ((e : Edge) → In e xs → In e es) → sum_by (λ x. f (lifted es x)) (edges_times k xs) ≡ sum_by f xs
    sum-multiplied f [] here = refl
    sum-multiplied f (e ∷ xs) here =
        let head = sum_by-cons (λ x. f (lifted es x)) (edge_times k e) (edges_times k xs) in
        let own = sum_by-cons f e xs in
        let one : f (lifted es (edge_times k e)) ≡ f e = ap f (back e (here e (inl refl))) in
        let later = sum-multiplied f xs (λ y i. here y (inr i)) in
        omega arith

-- every sided list has a ring list; d is any edge
lifts : (d : Edge) (es : List Edge) → IsSided es → (rs : List (List Edge)) × AreRingsOf es rs
lifts d es sd =
    let k = product_of_denominators es in
    let xs = whole_edges es in
    let w = walks_there xs sd in
    let ws = w.0 in
    let cut = stack_cut_all xs sd ws w.1 in
    let rs = cut_all ws in
    let once = sided-once xs sd in
    let walk = piece_walk xs sd ws rs w.1 cut in
    let here : (r : List plane.Edge) → In r rs → (x : plane.Edge) → In x r → In x xs = λ r i x j.
    let v = (walk r i).1 in (w.1.walk v.0 v.1).here x (v.2 x j) in
    let up = map (map (lifted k d es)) rs in
    let same : map (edges_times k) up ≡ rs = forth-rings k d es once rs here in
    let there : (r : List Edge) → In r up → In (edges_times k r) rs = λ r i. subst (In (edges_times k r)) same (in-map (edges_times k) up r i) in
    let held : HoldTheEdges es up = λ f. sums-lifted k d es once f rs ∙ (pieces_same xs sd ws rs w.1 cut (λ x. f (lifted k d es x)) ∙ sum-multiplied k d es once f es (λ e i. i)) in
    let uncrossed = stack_rings xs sd ws w.1 in (
      up,
      record {
        edges = held;
        walks = λ r i. let v = (walk (edges_times k r) (there r i)).1 in (v.0, w.1.walk v.0 v.1, v.2);
        ring = λ r i.
            let whole = all-in (IsWholeAt k) r (λ e j. each_whole k es (common_is_common es) e (held-within es up held r i e j)) in
            ring-of-plane k r whole (uncrossed.long (edges_times k r) (there r i)) (uncrossed.ring (edges_times k r) (there r i));
      },
    )

pub ring_list_there : (es : List Edge) → IsSided es → (rs : List (List Edge)) × AreRingsOf es rs
ring_list_there [] sd = (
  [],
  record {
    edges = λ f. refl;
    walks = λ r i. absurd i;
    ring = λ r i. absurd i;
  },
)
ring_list_there (e ∷ es) sd = lifts e (e ∷ es) sd
