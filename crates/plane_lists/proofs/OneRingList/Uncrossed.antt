-- No two rings of a ring list cross.
use Rattle.std.proofs.Common.{List, [], ap, cond, inl, inr, length, refl, subst, sym, ◌%◌, ◌++◌, ◌<◌, ◌∙◌, ◌∷◌, ◌≡◌, ◌⊎◌}
use Rattle.plane_lists.specs.Rings.Cover.{DoNotCross}
use Rattle.plane_lists.specs.Rings.Nesting.{edges_of}
use Rattle.plane_lists.specs.Rings.RingList.{AreUncrossed, IsRingList}
use Rattle.lists.specs.Rotated.{IsRotated}
use Rattle.plane_lists.specs.Rings.Stack.{cut_all}
use Rattle.plane.specs.Edge.{Edge, ends_at, other_end}
use Rattle.plane.specs.Sector.{in_sector}
use Rattle.plane.specs.Vector.{Vector, from_to}
use Rattle.lists.specs.Member.{EachPair, In}
use Rattle.plane_lists.specs.Lists.Node.{spokes_in}
use Rattle.plane_lists.specs.Lists.Ring.{segments_of}
use Rattle.plane_lists.specs.Lists.Sided.{IsSided}
use Rattle.plane_lists.specs.OneRingList.RingListOf.{IsRingListOf}
use Rattle.plane_lists.proofs.NestingKit.{in-edges, Once, once-apart, same-once, sided-once, sided_same, ring_list, pairs-of, rotated-length, stack_cut_all, walks_there}
use Rattle.lists.proofs.ListsKit.{all-in, in-rotated, pairs-right, rotated-back, rotated-in}
use Rattle.plane_lists.proofs.WindingKit.{spokes-is}
use Rattle.plane_lists.proofs.OneRingList.OneRingList.{Found, NoneEmpty, cuts-ring-list, first-of, found}
use Rattle.plane_lists.proofs.OneRingList.SameNests.{segment-in, segments-total}

-- crossing is told by the edges
spokes-rotated : (r q : List Edge) → IsRotated r q → (d c v : Vector) → spokes_in d c v (segments_of r) ≡ spokes_in d c v (segments_of q)
spokes-rotated r q t d c v =
    spokes-is d c v (segments_of r) ∙ segments-total r q t (λ (e : Edge). cond (ends_at v e) (in_sector d c (from_to v (other_end v e))) 0) ∙ sym (spokes-is d c v (segments_of q))

uncrossed-from : (r q s u : List Edge) → IsRotated r q → IsRotated s u → DoNotCross (segments_of q) (segments_of u) → DoNotCross (segments_of r) (segments_of s)
uncrossed-from r q s u t w n v x y i j hx hy =
    ap (λ k. k % 2) (spokes-rotated s u w (from_to v (other_end v x)) (from_to v (other_end v y)) v) ∙ n v x y (segment-in r q t x i) (segment-in r q t y j) hx hy

module _ (qs : List (List Edge)) (m : IsRingList qs) where
  apart-by : (r q s u : List Edge) → IsRotated r q → IsRotated s u → (q ≡ u → ⊥) → (q ≡ u) ⊎ ((AreUncrossed q u) ⊎ (AreUncrossed u q)) → AreUncrossed r s
  apart-by r q s u t w n (inl e) = absurd (n e)
  apart-by r q s u t w n (inr (inl f)) = (uncrossed-from r q s u t w f.0, uncrossed-from s u r q w t f.1)
  apart-by r q s u t w n (inr (inr f)) = (uncrossed-from r q s u t w f.1, uncrossed-from s u r q w t f.0)

  differ : (r q s u : List Edge) (rs : List (List Edge)) → Once (r ++ edges_of rs) → In s rs → 0 < length s → IsRotated r q → IsRotated s u → q ≡ u → ⊥
  differ r q s u rs o i l t w e =
      let x = first-of s l in
      let j : In x.0 q = subst (λ k. In x.0 k) (sym e) (in-rotated s u w x.0 x.1) in
      once-apart r (edges_of rs) o x.0 (rotated-in r q t x.0 j) (in-edges rs s x.0 i x.1)

  pub free-of : (rs : List (List Edge)) → Once (edges_of rs) → NoneEmpty rs → Found rs qs → EachPair AreUncrossed rs
  free-of [] o l f = tt
  free-of (r ∷ rs) o l f =
      let q = f r (inl refl) in (
        all-in (AreUncrossed r) rs (λ s i.
            let u = f s (inr i) in
            apart-by r q.0 s u.0 q.2 u.2 (differ r q.0 s u.0 rs o i (l s (inr i)) q.2 u.2) (pairs-of AreUncrossed qs q.0 u.0 m.free q.1 u.1)),
        free-of rs (pairs-right (λ (x y : Edge). x ≡ y → ⊥) r (edges_of rs) o) (λ s i. l s (inr i)) (λ s i. f s (inr i)),
      )

-- no two rings of a ring list cross: those that are cut off walks don't, and they are the same
pub rings-uncrossed : (es : List Edge) → IsSided es → (rs : List (List Edge)) → IsRingListOf es rs → IsRingList rs
rings-uncrossed es sd rs a =
    let ws = walks_there es sd in
    let qs = cut_all ws.0 in
    let cut = stack_cut_all es sd ws.0 ws.1 in
    let uncrossed = ring_list es sd ws.0 qs ws.1 cut in
    let f = found es sd rs qs a (cuts-ring-list es sd ws.0 qs ws.1 cut) in
    record {
      ring = a.ring;
      long = λ r i. let q = f r i in rotated-length q.0 r (rotated-back r q.0 q.2) (uncrossed.long q.0 q.1);
      sided = sided_same es sd (edges_of rs) a.edges;
      free = free-of qs uncrossed rs (same-once (edges_of rs) es a.edges (sided-once es sd)) a.some f;
    }
