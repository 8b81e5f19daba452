-- The edges of rings, listed as items.
use Rattle.std.proofs.Common.{Bool, List, [], ap, arith, get_or, inl, inr, length, refl, subst, sym, take, not, true, false, ℕ, ◌++◌, ◌+◌, ◌<◌, ◌∙◌, ◌∷◌, ◌≡◌, ◌≤◌, ◌⊎◌, ⊎_elim}
use Rattle.std.specs.List.{IsAllAdjacentAnswer}
use Rattle.std.specs.Ordering.{is_lt}
use Rattle.std.proofs.lemmas.Bool.{cases_lt, not-true}
use Rattle.std.proofs.lemmas.List.MinMax.{ranks_by}
use Rattle.std.proofs.lemmas.List.Sorted.{sorted_far}
use Rattle.osm_geom.specs.Point.{point_cmp}
use Rattle.osm_geom.specs.Span.{lower_end}
use Rattle.osm_geom.proofs.GeometryKit.{point_total}
use Rattle.std.proofs.lemmas.List.{get_or_default, take_all, take_more}
use Rattle.lists.specs.Member.{In}
use Rattle.lists.proofs.ListsKit.{all-in, in-either, in-left, in-right}
use Rattle.osm_geom.specs.declared.edge.Edge.{Edge}
use Rattle.osm_nest.specs.declared.sweep.ring_edge.RingEdge.{RingEdge}
use Rattle.osm_nest.specs.Beside.{IsSloping}
use Rattle.osm_nest.specs.SweptEdges.{AreSlopingEdges, AreRingEdges, IsOneMore, IsSlopingEdge, StartsRise}

one-last : (i : RingEdge) (xs : List RingEdge) → IsOneMore i xs (xs ++ i ∷ [])
one-last i xs = record {
  kept = λ x j. in-left xs (i ∷ []) x j;
  has = in-right xs (i ∷ []) i (inl refl);
  only = λ x j. ⊎_elim inl (λ (k : In x (i ∷ [])). ⊎_elim inr (λ none. absurd none) k) (in-either xs (i ∷ []) x j);
}

-- to the first of two lists, or to the second
pub first-more : (i : RingEdge) (up down : List RingEdge) → IsOneMore i (up ++ down) ((up ++ i ∷ []) ++ down)
first-more i up down = let more = one-last i up in record {
  kept = λ x j. ⊎_elim (λ (k : In x up). in-left (up ++ i ∷ []) down x (more.kept x k)) (λ (k : In x down). in-right (up ++ i ∷ []) down x k) (in-either up down x j);
  has = in-left (up ++ i ∷ []) down i more.has;
  only = λ x j. ⊎_elim
      (λ (k : In x (up ++ i ∷ [])). ⊎_elim (λ (l : In x up). inl (in-left up down x l)) inr (more.only x k))
      (λ (k : In x down). inl (in-right up down x k)) (in-either (up ++ i ∷ []) down x j);
}

pub second-more : (i : RingEdge) (up down : List RingEdge) → IsOneMore i (up ++ down) (up ++ (down ++ i ∷ []))
second-more i up down = let more = one-last i down in record {
  kept = λ x j. ⊎_elim (λ (k : In x up). in-left up (down ++ i ∷ []) x k) (λ (k : In x down). in-right up (down ++ i ∷ []) x (more.kept x k)) (in-either up down x j);
  has = in-right up (down ++ i ∷ []) i more.has;
  only = λ x j. ⊎_elim
      (λ (k : In x up). inl (in-left up down x k))
      (λ (k : In x (down ++ i ∷ [])). ⊎_elim (λ (l : In x down). inl (in-right up down x l)) inr (more.only x k)) (in-either up (down ++ i ∷ []) x j);
}

module _ (place n : ℕ) (ring : List Edge) (old so_far : List RingEdge) (e : Edge) (inside : n < length ring) (at : e ≡ get_or ring n e) (is : AreRingEdges place n ring old so_far) where
  more : take (n + 1) ring ≡ take n ring ++ e ∷ []
  more = take_more ring n e inside ∙ ap (λ x. take n ring ++ x ∷ []) (sym at)

  earlier : (x : Edge) → In x (take n ring) → In x (take (n + 1) ring)
  earlier x i = subst (In x) (sym more) (in-left (take n ring) (e ∷ []) x i)

  one-of : (x : Edge) → In x (take (n + 1) ring) → (In x (take n ring)) ⊎ (x ≡ e)
  one-of x i = ⊎_elim inl (λ (j : In x (e ∷ [])). ⊎_elim inr (λ none. absurd none) j) (in-either (take n ring) (e ∷ []) x (subst (In x) more i))

  pub one-added : (i : RingEdge) → i.edge.now ≡ e → i.ring ≡ place → IsSloping e → (after : List RingEdge) → IsOneMore i so_far after → AreRingEdges place (n + 1) ring old after
  one-added i ie ip slopes after put = record {
    kept = λ x j. put.kept x (is.kept x j);
    added = λ x j. ⊎_elim
        (λ (k : In x so_far). ⊎_elim inl (λ (t : (x.ring ≡ place) × In x.edge.now (take n ring) × IsSloping x.edge.now). inr (t.0, earlier x.edge.now t.1, t.2)) (is.added x k))
        (λ (q : x ≡ i). inr (ap (λ (t : RingEdge). t.ring) q ∙ ip, subst (λ y. In y (take (n + 1) ring)) (sym (ap (λ (t : RingEdge). t.edge.now) q ∙ ie)) (subst (In e) (sym more) (in-right (take n ring) (e ∷ []) e (inl refl))), subst IsSloping (sym (ap (λ (t : RingEdge). t.edge.now) q ∙ ie)) slopes))
        (put.only x j);
    whole = λ x j s. ⊎_elim
        (λ (k : In x (take n ring)). let w = is.whole x k s in (w.0, put.kept w.0 w.1, w.2))
        (λ (q : x ≡ e). (i, put.has, ie ∙ sym q)) (one-of x j);
  }

  pub one-passed : (IsSloping e → ⊥) → AreRingEdges place (n + 1) ring old so_far
  one-passed flat = record {
    kept = is.kept;
    added = λ x j. ⊎_elim inl (λ (t : (x.ring ≡ place) × In x.edge.now (take n ring) × IsSloping x.edge.now). inr (t.0, earlier x.edge.now t.1, t.2)) (is.added x j);
    whole = λ x j s. ⊎_elim (λ (k : In x (take n ring)). is.whole x k s) (λ (q : x ≡ e). absurd (flat (subst IsSloping q s))) (one-of x j);
  }

-- the edges of the first n rings that are not horizontal
pub record AreSlopingUpTo (rs : List (List Edge)) (n : ℕ) (items : List RingEdge) : Type 0 where
  pub each : (i : RingEdge) → In i items → IsSlopingEdge rs i
  pub whole : (k : ℕ) → k < n → (e : Edge) → In e (get_or rs k []) → IsSloping e → (i : RingEdge) × In i items × (i.edge.now ≡ e)

module _ (rs : List (List Edge)) (n : ℕ) (r : List Edge) (inside : n < length rs) (at : r ≡ get_or rs n r) where
  pub ring-added : (old new : List RingEdge) → AreSlopingUpTo rs n old → AreRingEdges n (length r) r old new → AreSlopingUpTo rs (n + 1) new
  ring-added old new is more =
      let all = take_all (length r) r (omega arith) in
      let own : r ≡ get_or rs n [] = at ∙ get_or_default rs n r [] inside in
      record {
        each = λ i j. ⊎_elim (is.each i)
            (λ (t : (i.ring ≡ n) × In i.edge.now (take (length r) r) × IsSloping i.edge.now). record {
              inside = subst (λ k. k < length rs) (sym t.0) inside;
              member = subst (λ k. In i.edge.now (get_or rs k [])) (sym t.0) (subst (In i.edge.now) (all ∙ own) t.1);
              sloping = t.2;
            }) (more.added i j);
        whole = λ k h e j s. ⊎_elim
            (λ (low : k < n). let w = is.whole k low e j s in (w.0, more.kept w.0 w.1, w.2))
            (λ (high : n ≤ k). let q : k ≡ n = omega arith in more.whole e (subst (In e) (ap (λ m. get_or rs m []) q ∙ sym own ∙ sym all) j) s)
            (cases_lt k n);
      }

pub all-items : (rs : List (List Edge)) (n : ℕ) (items : List RingEdge) → n ≡ length rs → AreSlopingUpTo rs n items → AreSlopingEdges rs items
all-items rs n items e is = record { each = all-in (IsSlopingEdge rs) items is.each; whole = λ k h. is.whole k (omega arith) }

-- no edge begins before the one that stands before it, and so none before an earlier one
pub rise-by-neighbours : (items : List RingEdge) (r : Bool) → r ≡ true → IsAllAdjacentAnswer (λ i j b. b ≡ not (is_lt (point_cmp (lower_end j.edge.now) (lower_end i.edge.now)))) items r → StartsRise items
rise-by-neighbours items true h told =
    sorted_far (λ (i j : RingEdge). is_lt (point_cmp (lower_end i.edge.now) (lower_end j.edge.now))) (ranks_by point_total (λ (i : RingEdge). lower_end i.edge.now)) items
    (λ k d from inside. not-true _ (sym (told k d inside)))
rise-by-neighbours items false h told = absurd (cc)
