-- The sweep over segments without conflicts: what changes the status, and what it tells.
use Rattle.std.proofs.Common.{All, Bool, List, [], ap, arith, cond, eq-or-lt_of_le, false, get_or, length, not, refl, subst, sym, take, true, ℕ, ℤ, ⊎_elim, ◌&&◌, ◌+◌, ◌<◌, ◌∙◌, ◌∷◌, ◌≡◌, ◌-ℤ◌}
use lib.Signed.{lt_z}
use Rattle.std.specs.List.{AllWithin, filter}
use Rattle.std.specs.List.Sorted.{IsPartitionedBy}
use Rattle.std.specs.Prelude.{negsuc, pos}
use Rattle.std.proofs.lemmas.List.Elements.{All-head, All-nil, All-tail}
use Rattle.plane.specs.Edge.{same_edge}
use Rattle.plane.specs.Height.{is_in_span, is_right_above}
use Rattle.plane.specs.Sign.{is_plus, sign}
use Rattle.plane.specs.Vector.{Vector}
use Rattle.plane.proofs.PlaneKit.{right_of}
use Rattle.lists.proofs.ListsKit.{and-left, and-right, at-in, in-filter, in-map, in-passes, in-take, not-false-out, not-true-out, same_get}
use Rattle.plane_lists.specs.Lists.ConflictFree.{IsConflictFree}
use Rattle.lists.specs.Member.{In}
use Rattle.plane_lists.specs.Lists.OddSide.{runs_up_by_odd_side}
use Rattle.plane_lists.specs.Lists.Parity.{is_even}
use Rattle.plane_lists.proofs.WindingKit.{left-span, right_left}
use Rattle.plane_lists.specs.Statuses.Leaving.{Remains}
use Rattle.plane_lists.specs.Statuses.Status.{IsStatus}
use Rattle.plane_lists.proofs.StatusKit.{all_is_front, front_is_all, next_enters, next_passes, all_remain, in-front, climbs, counts, parted, rises-among}
use Rattle.osm_lattice.specs.declared.loc.Loc.{Loc}
use Rattle.osm_lattice.specs.declared.seg.Seg.{Seg}
use Rattle.osm_lattice.specs.Loc.{vector_of}
use Rattle.osm_lattice.specs.Seg.{edge_of, seg_cmp}
use Rattle.lists.specs.Rising.{IsRising}
use Rattle.osm_segments.specs.Pairs.{conflicts_of}
use Rattle.osm_sides.specs.SideTests.{counted, left_count, left_of, level, right_count, starts_left}
use Rattle.osm_sides.specs.Survivors.{plane_edges_of}
use Rattle.osm_sides.specs.Sweep.{AreDirectedTo, AreEnds, IsEntered, IsSweptFrom, IsSweptTo, begins_by, ends_above}
use Rattle.osm_sides.proofs.OddSideCounts.{runs_up_is}
use Rattle.osm_sides.proofs.StatusEdges.{counts-is}
use Rattle.osm_sides.proofs.Survivors.{conflict_free}
use Rattle.osm_sides.proofs.SweptHeights.{begins-later, begins-level, ended-away, ends-sooner, high-sign, later-away, level-sign, none-begun, span-ends, span-is, span-slopes, spans}

-- ---- lists
-- tests that agree on the items of a list keep the same ones, and part it alike
filter-alike : {X : Type 0} (f g : X → Bool) (xs : List X) → All (λ x. f x ≡ g x) xs → filter f xs ≡ filter g xs
filter-alike f g [] all = refl
filter-alike f g (x ∷ xs) all =
    ap (λ b. cond b (x ∷ filter f xs) (filter f xs)) (All-head (λ x. f x ≡ g x) x xs all) ∙ ap (λ ys. cond (g x) (x ∷ ys) ys) (filter-alike f g xs (All-tail (λ x. f x ≡ g x) x xs all))

parted-alike : {X : Type 0} (f g : X → Bool) (xs : List X) → All (λ x. f x ≡ g x) xs → IsPartitionedBy g xs → IsPartitionedBy f xs
parted-alike f g xs all parted i j d h l k = all i d (omega arith) ∙ parted i j d h l (sym (all j d l) ∙ k)

module _ (segs : List Seg) (rising : IsRising seg_cmp segs) (clear : conflicts_of segs ≡ []) where
  free : IsConflictFree (plane_edges_of segs)
  free = conflict_free segs rising clear

  -- ---- those that are right of a segment at its lower end
  module _ (p : Vector) (s : Seg) (stands : In s segs) (level : s.a.y ≡ p.y) (high : ends_above p.y s ≡ true) where
    pub counted-is : (t : Seg) → In t segs → counted s t ≡ is_right_above p (edge_of s) (edge_of t)
    unfolding counted starts_left
    counted-is t i = counts-is p (plane_edges_of segs) free (edge_of s) (in-map edge_of segs s stands) (level-sign p.y s.a.y level) (high-sign p.y s high) (edge_of t) (in-map edge_of segs t i)

    own-span : is_in_span p (edge_of s) ≡ true
    own-span = spans p s (begins-level p.y s.a.y level) high

    module _ (xs status : List Seg) (among : (t : Seg) → In t xs → In t segs) (is : IsStatus edge_of p xs status) where
      pub counted-in : All (λ t. counted s t ≡ is_right_above p (edge_of s) (edge_of t)) status
      counted-in k d h = let t = get_or status k d in counted-is t (among t (in-filter (λ (t : Seg). is_in_span p (edge_of t)) xs t (is.members k d h)))

      -- they stand last
      pub counted-parts : IsPartitionedBy (λ t. not (counted s t)) status
      counted-parts =
          parted-alike (λ t. not (counted s t)) (λ t. not (is_right_above p (edge_of s) (edge_of t))) status (λ k d h. ap not (counted-in k d h)) (parted edge_of p xs status is s own-span)

  -- ---- the next segment of a row
  module _ (p : Vector) (k : ℕ) (s : Seg) (status : List Seg) (inside : k < length segs) (at : s ≡ get_or segs k s) (level : s.a.y ≡ p.y) (is : IsStatus edge_of p (take k segs) status) where
    next-is : (d : Seg) → get_or segs k d ≡ s
    next-is d = same_get segs k d s inside ∙ sym at

    stands : In s segs
    stands = subst (λ t. In t segs) (sym at) (at-in segs k s inside)

    pub next-parts : ends_above p.y s ≡ true → IsPartitionedBy (λ t. not (counted s t)) status
    next-parts high = counted-parts p s stands level high (take k segs) status (in-take k segs) is

    pub entered : (new : List Seg) → ends_above p.y s ≡ true → IsEntered s status new → IsStatus edge_of p (take (k + 1) segs) new
    entered new high put =
        let right = counted-in p s stands level high (take k segs) status (in-take k segs) is in
        let w = put.within in
        subst (IsStatus edge_of p (take (k + 1) segs)) (sym put.is)
        (next_enters edge_of segs k s inside next-is p status put.place free is (own-span p s stands level high) put.within
        (λ i d h l. sym (right i d (omega (arith, l, w))) ∙ not-true-out (counted s (get_or status i d)) (put.before i d h l))
        (λ i d h l. sym (right i d l) ∙ not-false-out (counted s (get_or status i d)) (put.after i d h l)))

    pub passed : ends_above p.y s ≡ false → IsStatus edge_of p (take (k + 1) segs) status
    passed low = next_passes edge_of segs k s inside next-is p status is (ended-away p s low)

  pub whole_row : (p : Vector) (k : ℕ) (status : List Seg) → AllWithin (λ t. begins_by p.y t ≡ true) segs 0 k → AllWithin (λ t. begins_by p.y t ≡ false) segs k (length segs) → IsStatus edge_of p (take k segs) status → IsSweptTo p segs k status
  whole_row p k status begun later is = record {
    begun = begun;
    later = later;
    is = front_is_all edge_of p segs k (λ i d h l. later-away p (get_or segs i d) (later i d h l)) status is;
  }

  -- ---- a greater height
  module _ (ends : List Seg) (are : AreEnds segs ends) (k next : ℕ) (status : List Seg) (swept : IsSweptFrom segs ends k next status) where
    -- the status is of those that haven't ended
    pub remaining : (y : ℤ) → Remains (ends_above y) ends next status status
    remaining y =
        all_remain edge_of swept.height segs status (ends_above y) ends next swept.swept.is (λ t i h. are.whole t i (span-slopes swept.height t h))
        (λ i d h l. ended-away swept.height (get_or ends i d) (swept.ended i d h l))

    pub risen : (q : Vector) → lt_z swept.height.y q.y ≡ true → IsStatus edge_of q (take k segs) (filter (ends_above q.y) status)
    risen q up =
        let p = swept.height in
        let front = all_is_front edge_of p segs k (λ i d h l. later-away p (get_or segs i d) (swept.swept.later i d h l)) status swept.swept.is in
        let begun = in-front (λ t. begins_by p.y t ≡ true) segs k swept.swept.begun in
        subst (IsStatus edge_of q (take k segs))
        (filter-alike (λ t. is_in_span q (edge_of t)) (ends_above q.y) status
        (λ i d h. let t = get_or status i d in
        span-is q t ∙ ap (λ b. b && ends_above q.y t) (begins-later p.y q.y t.a.y up (begun t (in-filter (λ (t : Seg). is_in_span p (edge_of t)) (take k segs) t (front.members i d h))))))
        (rises-among edge_of p q (take k segs) status (plane_edges_of segs) free (λ t i. in-map edge_of segs t (in-take k segs t i)) front
        (λ t i h. spans p t (begun t i) (ends-sooner p.y q.y t.b.y up (span-ends q t h))))

  -- ---- the odd side by places in the status
  module _ (p : Vector) (status : List Seg) (is : IsStatus edge_of p segs status) where
    module _ (q : Loc) (level : q.y ≡ p.y) where
      pub at-point : IsStatus edge_of (vector_of q) segs status
      at-point = climbs edge_of p (vector_of q) segs status (plane_edges_of segs) free (in-map edge_of segs) is (λ t i. ap (λ (z : ℤ). not (is_plus (sign (t.a.y -ℤ z))) && is_plus (sign (t.b.y -ℤ z))) (sym level))

      left-on : (t u : Seg) → In u (filter (λ (t : Seg). is_in_span (vector_of q) (edge_of t)) segs) → right_of (vector_of q) (edge_of t) (edge_of u) ≡ true → left_of q t ≡ true → left_of q u ≡ true
      unfolding left_of
      left-on t u i r l = right_left (vector_of q) (edge_of t) (edge_of u) l (in-passes (λ (t : Seg). is_in_span (vector_of q) (edge_of t)) segs u i) r

      parted-by : (t u : Seg) → (left_of q t ≡ true → left_of q u ≡ true) → (b : Bool) → left_of q t ≡ b → not (left_of q u) ≡ true → not b ≡ true
      parted-by t u on false e h = refl
      parted-by t u on true e h = let g = on e in absurd (cc (sym h ∙ ap not g))

      -- those right of a point at the height stand last
      pub left-parts : IsPartitionedBy (λ t. not (left_of q t)) status
      left-parts i j d h l e = ⊎_elim
          (λ (here : i ≡ j). subst (λ m. not (left_of q (get_or status m d)) ≡ true) (sym here) e)
          (λ (before : i < j). let t = get_or status i d in let u = get_or status j d in
          parted-by t u (left-on t u (at-point.members j d l) (at-point.order i j d before l)) (left_of q t) refl e)
          (eq-or-lt_of_le h)

    module _ (s : Seg) (level-s : s.a.y ≡ p.y) where
      spans-here : (t : Seg) → is_in_span (vector_of s.a) (edge_of t) ≡ true → is_in_span p (edge_of t) ≡ true
      spans-here t h = ap (λ (z : ℤ). not (is_plus (sign (t.a.y -ℤ z))) && is_plus (sign (t.b.y -ℤ z))) (sym level-s) ∙ h

      left-spans : (t : Seg) → left_of s.a t ≡ true → is_in_span p (edge_of t) ≡ true
      unfolding left_of
      left-spans t h = spans-here t (left-span (vector_of s.a) (edge_of t) h)

      counted-spans : (t : Seg) → counted s t ≡ true → is_in_span p (edge_of t) ≡ true
      unfolding counted starts_left
      counted-spans t h = spans-here t (and-left (is_in_span (vector_of s.a) (edge_of t)) _ (and-right (not (same_edge (edge_of s) (edge_of t))) _ h))

      pub runs_up-whole : runs_up_by_odd_side (plane_edges_of segs) (edge_of s) ≡ cond (level s) (not (is_even (left_count s.a status))) (is_even (right_count s status))
      runs_up-whole =
          runs_up_is segs s
          ∙ ap (λ n. cond (level s) (not (is_even n)) (is_even (right_count s segs))) (sym (counts edge_of p segs status is (left_of s.a) left-spans))
          ∙ ap (λ n. cond (level s) (not (is_even (left_count s.a status))) (is_even n)) (sym (counts edge_of p segs status is (counted s) counted-spans))

-- ---- before the first segment
abbrev low : Vector
low = record { x = pos 0; y = negsuc 1_000_000_000 }

unfoldable pub none-swept : (segs ends : List Seg) → IsSweptFrom segs ends 0 0 []
none-swept segs ends = record {
  height = low;
  swept = record {
    begun = λ i d h l. absurd (omega arith);
    later = λ i d h l. none-begun (get_or segs i d);
    is = front_is_all edge_of low segs 0 (λ i d h l. later-away low (get_or segs i d) (none-begun (get_or segs i d))) [] none;
  };
  ended = λ i d h l. absurd (omega arith);
}
  where
    none : IsStatus edge_of low [] []
    none = record { order = λ i j d h l. absurd (omega arith); whole = λ f. refl; members = All-nil (λ t. In t []) }

pub none-directed : (segs : List Seg) → AreDirectedTo segs 0 []
none-directed segs = record { carriers = refl; firsts = refl; lasts = refl }
