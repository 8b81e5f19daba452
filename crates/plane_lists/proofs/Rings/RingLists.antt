-- The rings of a ring list, as a nest.
use Rattle.std.proofs.Common.{Bool, List, [], ap, arith, cond, false, inl, inr, length, map, not, refl, subst, sym, true, ◌++◌, ◌∙◌, ◌∷◌, ◌≡◌, ◌≤◌, ◌⊎◌}
use Rattle.plane_lists.specs.Rings.Cover.{DoNotCross, covers_edge}
use Rattle.plane_lists.specs.Rings.Nesting.{IsNest, edges_of, has_edge, is_outer}
use Rattle.plane_lists.specs.Rings.RingList.{IsRingList}
use Rattle.plane.specs.Edge.{Edge, IsRisingEdge, reversed, segment_of}
use Rattle.plane.specs.Order.{order}
use Rattle.plane.specs.Sign.{Minus, Null, Plus, Sign, is_plus, negated}
use Rattle.plane_lists.specs.Lists.ConflictFree.{IsConflictFree}
use Rattle.plane_lists.specs.Lists.EdgeList.{IsEvenAtPoints}
use Rattle.lists.specs.Member.{EachPair, In}
use Rattle.plane_lists.specs.Lists.OddSide.{runs_up_by_odd_side}
use Rattle.plane_lists.specs.Lists.Ring.{IsAnchor, segments_of}
use Rattle.plane_lists.proofs.Rings.CoveredEdges.{constant_in}
use Rattle.plane_lists.proofs.Rings.Nests.{clear_rings, has-in, plain-part}
use Rattle.plane_lists.proofs.Rings.TwoLists.{clear-list, clear-reversed}
use Rattle.plane.proofs.PlaneKit.{order-reversed}
use Rattle.plane_lists.proofs.WindingKit.{some-anchor, rising_in, ring-even, sided_direct}
use Rattle.lists.proofs.ListsKit.{in-all, in-map, in-map-out}
use Rattle.std.proofs.lemmas.List.{map-append}
use Rattle.plane_lists.specs.Lists.Sided.{IsSided}

pub edges-segments : (rs : List (List Edge)) → edges_of (map segments_of rs) ≡ segments_of (edges_of rs)
edges-segments [] = refl
edges-segments (r ∷ rs) = ap (λ l. segments_of r ++ l) (edges-segments rs) ∙ sym (map-append segment_of r (edges_of rs))

-- two members are one, or stand at different places
pub pairs-of : {X : Type 0} (R : X → X → Type 0) (xs : List X) (x y : X) → EachPair R xs → In x xs → In y xs → (x ≡ y) ⊎ (R x y ⊎ R y x)
pairs-of R [] x y p i j = absurd i
pairs-of R (z ∷ zs) x y p (inl e) (inl f) = inl (e ∙ sym f)
pairs-of R (z ∷ zs) x y p (inl e) (inr j) = inr (inl (subst (λ w. R w y) (sym e) (in-all (R z) zs y p.0 j)))
pairs-of R (z ∷ zs) x y p (inr i) (inl f) = inr (inr (subst (λ w. R w x) (sym f) (in-all (R z) zs x p.0 i)))
pairs-of R (z ∷ zs) x y p (inr i) (inr j) = pairs-of R zs x y p.1 i j

abbrev free-of : List Edge → List Edge → Type 0
free-of r s = DoNotCross (segments_of r) (segments_of s) × DoNotCross (segments_of s) (segments_of r)

free-by : (r s : List Edge) (e : Edge) → In e (segments_of s) → has_edge (segments_of r) e ≡ false → (has_edge (segments_of s) e ≡ true) → (r ≡ s) ⊎ (free-of r s ⊎ free-of s r) → DoNotCross (segments_of s) (segments_of r)
free-by r s e i n t (inl q) = let k = ap (λ l. has_edge (segments_of l) e) q in absurd (cc (sym t ∙ sym k ∙ n))
free-by r s e i n t (inr (inl f)) = f.1
free-by r s e i n t (inr (inr f)) = f.0

up-down : (s : Sign) → s ≡ Plus → negated s ≡ Plus → ⊥
up-down Plus h k = cc k
up-down Null h k = cc h
up-down Minus h k = cc h

both-up : (e : Edge) → IsRisingEdge e → IsRisingEdge (reversed e) → ⊥
both-up e r k = up-down (order e.from e.to) r (sym (order-reversed e.from e.to) ∙ k)

runs-by : (b c : Bool) (e : Edge) → IsRisingEdge (cond c e (reversed e)) → cond b (cond c e (reversed e)) (reversed (cond c e (reversed e))) ≡ e → c ≡ is_plus (order e.from e.to) → b ≡ c
runs-by true true e r q h = refl
runs-by false false e r q h = refl
runs-by true false e r q h =
    let k = subst IsRisingEdge q r in let m : is_plus (order e.from e.to) ≡ true = ap is_plus k in absurd (cc (h ∙ m))
runs-by false true e r q h =
    let k : IsRisingEdge (reversed e) = subst IsRisingEdge (sym q) r in
    absurd (both-up e r k)

-- the odd side directs each edge of a sided list as it runs
pub runs_up_as : (es : List Edge) → IsSided es → (e : Edge) → In e es → runs_up_by_odd_side (segments_of es) (segment_of e) ≡ is_plus (order e.from e.to)
runs_up_as es sd e i =
    runs-by (runs_up_by_odd_side (segments_of es) (segment_of e)) (is_plus (order e.from e.to)) e (rising_in (segments_of es) (segment_of e) sd.plain (in-map segment_of es e i)) (sided_direct es sd e i) refl

module _ (rs : List (List Edge)) (l : IsRingList rs) where
  abbrev pub nest : List (List Edge)
  nest = map segments_of rs

  pub nest-plain : IsConflictFree (edges_of nest)
  nest-plain = subst IsConflictFree (sym (edges-segments rs)) l.sided.plain

  nest-even : (g : List Edge) → In g nest → IsEvenAtPoints g
  nest-even g i = let r = in-map-out segments_of rs g i in subst IsEvenAtPoints (sym r.2) (ring-even r.0 (l.ring r.0 r.1))

  constant-of : (r s : List Edge) → In r rs → In s rs → (a b : Edge) → In a (segments_of s) → In b (segments_of s) → has_edge (segments_of r) a ≡ false → covers_edge (segments_of r) a ≡ covers_edge (segments_of r) b
  constant-of r s i j a b ia ib n =
      let ir = in-map segments_of rs r i in let js = in-map segments_of rs s j in
      let c = clear_rings nest (segments_of r) (segments_of s) a nest-plain ir js ia n in
      let f = free-by r s a ia n (has-in (segments_of s) a ia) (pairs-of free-of rs r s l.free i j) in
      constant_in s (l.ring s j) (segments_of r) (plain-part nest (segments_of s) nest-plain js) (plain-part nest (segments_of r) nest-plain ir) (ring-even r (l.ring r i))
      (λ x k. clear-list (segments_of s) (segments_of r) (clear-reversed (segments_of r) (segments_of s) c) x k) f a b ia ib

  -- a ring list is a nest
  pub ring_list_nest : IsNest nest
  ring_list_nest = record {
    plain = nest-plain;
    even = nest-even;
    constant = λ g h i j s t k m n.
        let r = in-map-out segments_of rs g i in let q = in-map-out segments_of rs h j in
        subst (λ u. covers_edge u s ≡ covers_edge u t) (sym r.2)
        (constant-of r.0 q.0 r.1 q.1 s t (subst (λ u. In s u) q.2 k) (subst (λ u. In t u) q.2 m) (subst (λ u. has_edge u s ≡ false) r.2 n));
  }

  -- each ring has an anchor
  first-edge : (r : List Edge) → 3 ≤ length r → IsConflictFree (segments_of r) → (a : Edge) × IsAnchor a (segments_of r)
  first-edge [] h p = absurd (omega arith)
  first-edge (x ∷ xs) h p = some-anchor (segments_of (x ∷ xs)) (segment_of x) (inl refl) p

  pub ring_anchor : (g : List Edge) → In g nest → (a : Edge) × IsAnchor a g
  ring_anchor g i =
      let r = in-map-out segments_of rs g i in
      let p = plain-part nest g nest-plain i in
      let a = first-edge r.0 (l.long r.0 r.1) (subst IsConflictFree r.2 p) in
      (a.0, subst (λ u. IsAnchor a.0 u) (sym r.2) a.1)

  pub runs_as : (e : Edge) → In e (edges_of rs) → runs_up_by_odd_side (segments_of (edges_of rs)) (segment_of e) ≡ is_plus (order e.from e.to)
  runs_as e i = runs_up_as (edges_of rs) l.sided e i

  -- a ring is outer where its anchor runs down
  pub outer_down : (e : Edge) → In e (edges_of rs) → is_outer nest (segment_of e) ≡ not (is_plus (order e.from e.to))
  outer_down e i = ap (λ u. not (runs_up_by_odd_side u (segment_of e))) (edges-segments rs) ∙ ap not (runs_as e i)
