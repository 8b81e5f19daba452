-- Nothing changes where a list is multiplied by a positive number.
use Rattle.std.proofs.Common.{Bool, List, [], ap, arith, cond, false, inl, inr, not, refl, subst, sym, true, ◌%◌, ◌+◌, ◌∙◌, ◌∷◌, ◌≡◌}
use Rattle.std.specs.List.{count_by}
use lib.IntN.{pos, ℤ}
use Rattle.plane.specs.Bit.{bit}
use Rattle.plane.specs.Conflict.{IsClearOf}
use Rattle.plane.specs.Edge.{Edge, IsRisingEdge, is_horizontal, reversed, same_edge}
use Rattle.plane.specs.Height.{is_left_of, starts_left_of}
use Rattle.plane.specs.Scale.{scaled_edge, scaled_point}
use Rattle.plane.specs.Sign.{Plus, sign}
use Rattle.plane.specs.Vector.{Vector, east, one_at}
use Rattle.plane_lists.specs.Lists.ConflictFree.{IsConflictFree, others}
use Rattle.plane_lists.specs.Lists.EdgeList.{IsEvenAtPoints, crossing_count, winding_number}
use Rattle.lists.specs.Member.{EachPair, In}
use Rattle.plane_lists.specs.Lists.OddSide.{directed, directed_edge, odd_side_count, runs_up_by_odd_side}
use Rattle.plane_lists.specs.Lists.Parity.{is_even}
use Rattle.plane_lists.specs.Lists.ScaledEdges.{scaled_edges}
use Rattle.plane.proofs.PlaneKit.{conflicts-scaled, edge-scaled, left-scaled, level-scaled, order-scaled, right-scaled}
use Rattle.plane_lists.proofs.Lists.ConflictFree.{rising_in}
use Rattle.plane_lists.proofs.Lists.Independence.{even-at-ends, total-ends}
use Rattle.plane_lists.proofs.Lists.Levels.{signed_count}
use Rattle.lists.proofs.ListsKit.{all-in, in-all, map-map, map-same, total-is, total-map, total-same}
use Rattle.plane_lists.proofs.Lists.OddSides.{covers-crossings}

module _ (k : ℤ) (hk : sign k ≡ Plus) where
  filter-by : (b c : Bool) (x : Edge) (xs ys : List Edge) → b ≡ c → xs ≡ scaled_edges k ys → cond b (scaled_edge k x ∷ xs) xs ≡ scaled_edges k (cond c (x ∷ ys) ys)
  filter-by true true x xs ys h e = ap (λ l. scaled_edge k x ∷ l) e
  filter-by false false x xs ys h e = e
  filter-by true false x xs ys h e = absurd (cc h)
  filter-by false true x xs ys h e = absurd (cc h)

  pub others-scaled : (s : Edge) (es : List Edge) → others (scaled_edge k s) (scaled_edges k es) ≡ scaled_edges k (others s es)
  others-scaled s [] = refl
  others-scaled s (x ∷ xs) = filter-by (not (same_edge (scaled_edge k s) (scaled_edge k x))) (not (same_edge s x)) x (others (scaled_edge k s) (scaled_edges k xs)) (others s xs) (ap not (edge-scaled k hk s x)) (others-scaled s xs)

  count-scaled : (f g : Edge → Bool) → ((t : Edge) → f (scaled_edge k t) ≡ g t) → (es : List Edge) → count_by f (scaled_edges k es) ≡ count_by g es
  count-scaled f g h es =
      sym (total-is (λ t. bit (f t)) (scaled_edges k es)) ∙ total-map (λ t. bit (f t)) (scaled_edge k) es ∙ total-same (λ t. bit (f (scaled_edge k t))) (λ t. bit (g t)) es (λ t i. ap bit (h t)) ∙ total-is (λ t. bit (g t)) es

  odd-scaled : (s : Edge) (es : List Edge) → odd_side_count (scaled_edge k s) (scaled_edges k es) ≡ odd_side_count s es
  odd-scaled s es =
      ap (λ b. cond b (count_by (is_left_of (scaled_point k s.from)) (scaled_edges k es)) (count_by (starts_left_of (scaled_edge k s)) (others (scaled_edge k s) (scaled_edges k es)))) (level-scaled k hk s)
      ∙ ap (λ n. cond (is_horizontal s) n (count_by (starts_left_of (scaled_edge k s)) (others (scaled_edge k s) (scaled_edges k es)))) (count-scaled (is_left_of (scaled_point k s.from)) (is_left_of s.from) (left-scaled k hk s.from) es)
      ∙ ap (λ (l : List Edge). cond (is_horizontal s) (count_by (is_left_of s.from) es) (count_by (starts_left_of (scaled_edge k s)) l)) (others-scaled s es)
      ∙ ap (λ n. cond (is_horizontal s) (count_by (is_left_of s.from) es) n) (count-scaled (starts_left_of (scaled_edge k s)) (starts_left_of s) (right-scaled k hk s) (others s es))

  pub runs-scaled : (s : Edge) (es : List Edge) → runs_up_by_odd_side (scaled_edges k es) (scaled_edge k s) ≡ runs_up_by_odd_side es s
  runs-scaled s es =
      ap (λ b. cond b (not (is_even (odd_side_count (scaled_edge k s) (scaled_edges k es)))) (is_even (odd_side_count (scaled_edge k s) (scaled_edges k es)))) (level-scaled k hk s)
      ∙ ap (λ n. cond (is_horizontal s) (not (is_even n)) (is_even n)) (odd-scaled s es)

  pub direct-by : (b c : Bool) (s : Edge) → b ≡ c → cond b (scaled_edge k s) (reversed (scaled_edge k s)) ≡ scaled_edge k (cond c s (reversed s))
  direct-by true true s h = refl
  direct-by false false s h = refl
  direct-by true false s h = absurd (cc h)
  direct-by false true s h = absurd (cc h)

  -- the odd side of the multiplied list
  pub directed_scaled : (es : List Edge) → directed (scaled_edges k es) ≡ scaled_edges k (directed es)
  directed_scaled es =
      map-map (directed_edge (scaled_edges k es)) (scaled_edge k) es
      ∙ map-same (λ s. directed_edge (scaled_edges k es) (scaled_edge k s)) (λ s. scaled_edge k (directed_edge es s)) es (λ s. direct-by (runs_up_by_odd_side (scaled_edges k es) (scaled_edge k s)) (runs_up_by_odd_side es s) s (runs-scaled s es))
      ∙ sym (map-map (scaled_edge k) (directed_edge es) es)

  pub in-scaled : (es : List Edge) (s : Edge) → In s (scaled_edges k es) → (t : Edge) × In t es × (s ≡ scaled_edge k t)
  in-scaled [] s i = absurd i
  in-scaled (x ∷ xs) s (inl e) = (x, inl refl, e)
  in-scaled (x ∷ xs) s (inr i) = let r = in-scaled xs s i in (r.0, inr r.1, r.2)

  pairs-scaled : (es : List Edge) → EachPair IsClearOf es → EachPair IsClearOf (scaled_edges k es)
  pairs-scaled [] h = tt
  pairs-scaled (x ∷ xs) h =
      (all-in (IsClearOf (scaled_edge k x)) (scaled_edges k xs) (λ s i. let r = in-scaled xs s i in subst (λ w. IsClearOf (scaled_edge k x) w) (sym r.2) (conflicts-scaled k hk x r.0 ∙ in-all (IsClearOf x) xs r.0 h.0 r.1)), pairs-scaled xs h.1)

  pub plain_scaled : (es : List Edge) → IsConflictFree es → IsConflictFree (scaled_edges k es)
  plain_scaled es p = record {
    rising = all-in IsRisingEdge (scaled_edges k es) (λ s i. let r = in-scaled es s i in subst IsRisingEdge (sym r.2) (order-scaled k hk r.0.from r.0.to ∙ rising_in es r.0 p r.1));
    clear = pairs-scaled es p.clear;
  }

  pub even_scaled : (es : List Edge) → IsEvenAtPoints es → IsEvenAtPoints (scaled_edges k es)
  even_scaled es even v =
      let f = λ (w : Vector). one_at v (scaled_point k w) in
      let a = sym (total-is (λ (e : Edge). one_at v e.from + one_at v e.to) (scaled_edges k es)) ∙ total-map (λ (e : Edge). one_at v e.from + one_at v e.to) (scaled_edge k) es in
      let b = total-ends f es in let c = even-at-ends f es even in omega arith

  -- the parity at a multiplied point
  pub count_scaled : (p : Vector) (es : List Edge) → IsConflictFree es → crossing_count east (scaled_point k p) (scaled_edges k es) ≡ crossing_count east p es
  count_scaled p es pl =
      covers-crossings (scaled_point k p) (scaled_edges k es) (plain_scaled es pl) ∙ total-map (λ t. bit (is_left_of (scaled_point k p) t)) (scaled_edge k) es
      ∙ total-same (λ t. bit (is_left_of (scaled_point k p) (scaled_edge k t))) (λ t. bit (is_left_of p t)) es (λ t i. ap bit (left-scaled k hk p t)) ∙ sym (covers-crossings p es pl)

  -- the signed count at the point p.x / k, p.y / k
  pub rational_count : (p : Vector) (es : List Edge) → IsConflictFree es → IsEvenAtPoints es → winding_number east p (scaled_edges k (directed es)) ≡ pos (crossing_count east p (scaled_edges k es) % 2)
  rational_count p es pl even = ap (λ l. winding_number east p l) (sym (directed_scaled es)) ∙ signed_count p (scaled_edges k es) (plain_scaled es pl) (even_scaled es even)
