-- A ring list stays one where its rings begin at other edges.
use Rattle.std.proofs.Common.{Bool, List, [], ap, arith, cond, false, inl, inr, length, refl, subst, sym, true, ℕ, ◌%◌, ◌++◌, ◌∙◌, ◌∷◌, ◌≡◌, ◌≤◌, ◌⊎◌}
use Rattle.plane_lists.specs.Rings.Cover.{DoNotCross}
use Rattle.plane_lists.specs.Rings.Nesting.{edges_of}
use Rattle.plane_lists.specs.Rings.RingList.{IsRingList}
use Rattle.lists.specs.Rotated.{IsRotated}
use Rattle.plane_lists.specs.Rings.Rotated.{AreRotated}
use Rattle.plane_lists.specs.Rings.Walk.{HasSameEdges}
use Rattle.plane.specs.Edge.{Edge, ends_at, other_end, segment_of}
use Rattle.plane.specs.Sector.{in_sector}
use Rattle.plane.specs.Vector.{Vector, from_to, same_point}
use Rattle.lists.specs.Member.{EachPair, In}
use Rattle.plane_lists.specs.Lists.Node.{spokes_in}
use Rattle.plane_lists.specs.Lists.Ring.{IsRing, segments_of}
use Rattle.plane_lists.proofs.Rings.Parts.{same-in, sided_same}
use Rattle.plane_lists.proofs.WindingKit.{path-join, path-split, spokes-is}
use Rattle.plane.proofs.PlaneKit.{same_point-refl, same_point-true}
use Rattle.lists.proofs.ListsKit.{all-in, in-all, pairs-across, pairs-append, pairs-left, pairs-right, total, total-++, total-is, total-map}

apart-back-by : (p q : Vector) → same_point p q ≡ false → (b : Bool) → same_point q p ≡ b → b ≡ false
apart-back-by p q n false h = refl
apart-back-by p q n true h = absurd (cc (sym (same_point-refl p) ∙ ap (λ w. same_point p w) (sym (same_point-true q p h)) ∙ n))

pub ring-turn : (a b : List Edge) → IsRing (a ++ b) → IsRing (b ++ a)
ring-turn a b r =
    let k = path-split r.start r.start a b r.path in
    record {
      start = k.0;
      path = path-join k.0 r.start k.0 b a k.2 k.1;
      once = pairs-append (λ (e f : Edge). same_point e.from f.from ≡ false) b a (pairs-right (λ (e f : Edge). same_point e.from f.from ≡ false) a b r.once) (pairs-left (λ (e f : Edge). same_point e.from f.from ≡ false) a b r.once)
          (λ x y i j. apart-back-by y.from x.from (pairs-across (λ (e f : Edge). same_point e.from f.from ≡ false) a b y x r.once j i) (same_point x.from y.from) refl);
    }

-- a ring begun at another of its edges is a ring
pub ring_rotated : (p q : List Edge) → IsRotated p q → IsRing p → IsRing q
ring_rotated p q t r = subst IsRing (sym t.new) (ring-turn t.front t.back (subst IsRing t.old r))

pub rotated-total : (f : Edge → ℕ) (p q : List Edge) → IsRotated p q → total f q ≡ total f p
rotated-total f p q t =
    let a = ap (total f) t.old in let b = ap (total f) t.new in let c = total-++ f t.front t.back in let d = total-++ f t.back t.front in omega arith

pub rotated-same : (p q : List Edge) → IsRotated p q → HasSameEdges q p
rotated-same p q t f = sym (total-is f q) ∙ rotated-total f p q t ∙ total-is f p

ones : (xs : List Edge) → total (λ (e : Edge). 1) xs ≡ length xs
ones [] = refl
ones (x ∷ xs) = let h = ones xs in omega arith

pub rotated-length : (p q : List Edge) → IsRotated p q → 3 ≤ length p → 3 ≤ length q
rotated-length p q t l =
    let a = ones p in let b = ones q in let c = rotated-total (λ e. 1) p q t in omega arith

same-segments : (xs ys : List Edge) → HasSameEdges xs ys → HasSameEdges (segments_of xs) (segments_of ys)
same-segments xs ys s f =
    sym (total-is f (segments_of xs)) ∙ total-map f segment_of xs ∙ total-is (λ e. f (segment_of e)) xs ∙ s (λ e. f (segment_of e)) ∙ sym (total-is (λ e. f (segment_of e)) ys) ∙ sym (total-map f segment_of ys) ∙ total-is f (segments_of ys)

abbrev spoke : Vector → Vector → Vector → Edge → ℕ
spoke d c v t = cond (ends_at v t) (in_sector d c (from_to v (other_end v t))) 0

same-spokes : (d c v : Vector) (xs ys : List Edge) → HasSameEdges xs ys → spokes_in d c v xs ≡ spokes_in d c v ys
same-spokes d c v xs ys s =
    spokes-is d c v xs ∙ total-is (λ (t : Edge). spoke d c v t) xs ∙ s (λ (t : Edge). spoke d c v t) ∙ sym (total-is (λ (t : Edge). spoke d c v t) ys) ∙ sym (spokes-is d c v ys)

-- crossing is told by the edges alone
uncrossed-self : (rs ss us vs : List Edge) → HasSameEdges us rs → HasSameEdges vs ss → DoNotCross (segments_of rs) (segments_of ss) → DoNotCross (segments_of us) (segments_of vs)
uncrossed-self rs ss us vs a b n v s t i j hs ht =
    ap (λ k. k % 2) (same-spokes (from_to v (other_end v s)) (from_to v (other_end v t)) v (segments_of vs) (segments_of ss) (same-segments vs ss b))
    ∙ n v s t (same-in (segments_of us) (segments_of rs) (same-segments us rs a) s i) (same-in (segments_of us) (segments_of rs) (same-segments us rs a) t j) hs ht

abbrev Free : List Edge → List Edge → Type 0
Free r s = DoNotCross (segments_of r) (segments_of s) × DoNotCross (segments_of s) (segments_of r)

-- the ring that it rotated-was
rotated-was-by : (r : List Edge) (rs : List (List Edge)) (p : List Edge) (ps : List (List Edge)) → IsRotated r p → (q : List Edge) → (q ≡ p) ⊎ In q ps → (In q ps → (r : List Edge) × In r rs × IsRotated r q) → (u : List Edge) × In u (r ∷ rs) × IsRotated u q
rotated-was-by r rs p ps t q (inl e) h = (r, inl refl, subst (λ l. IsRotated r l) (sym e) t)
rotated-was-by r rs p ps t q (inr i) h = let a = h i in (a.0, inr a.1, a.2)

pub rotated-was : (rs qs : List (List Edge)) → AreRotated rs qs → (q : List Edge) → In q qs → (r : List Edge) × In r rs × IsRotated r q
rotated-was [] qs k q i = absurd (subst (λ l. In q l) k i)
rotated-was (r ∷ rs) qs k q i = rotated-was-by r rs k.0 k.1 k.3 q (subst (λ l. In q l) k.2 i) (rotated-was rs k.1 k.4 q)

edges-same : (rs qs : List (List Edge)) → AreRotated rs qs → (f : Edge → ℕ) → total f (edges_of qs) ≡ total f (edges_of rs)
edges-same [] qs k f = ap (λ l. total f (edges_of l)) k
edges-same (r ∷ rs) qs k f =
    let a = ap (λ l. total f (edges_of l)) k.2 in let b = total-++ f k.0 (edges_of k.1) in let c = total-++ f r (edges_of rs) in
    let d = rotated-total f r k.0 k.3 in let e = edges-same rs k.1 k.4 f in omega arith

free-rotated : (rs qs : List (List Edge)) → AreRotated rs qs → EachPair Free rs → EachPair Free qs
free-rotated [] qs k p = subst (EachPair Free) (sym k) tt
free-rotated (r ∷ rs) qs k p =
    subst (EachPair Free) (sym k.2) (
      all-in (Free k.0) k.1 (λ s i.
          let w = rotated-was rs k.1 k.4 s i in let n = in-all (Free r) rs w.0 p.0 w.1 in
          let a = rotated-same r k.0 k.3 in let b = rotated-same w.0 s w.2 in
          (uncrossed-self r w.0 k.0 s a b n.0, uncrossed-self w.0 r s k.0 b a n.1)),
      free-rotated rs k.1 k.4 p.1,
    )

pub rotated_rings : (rs qs : List (List Edge)) → AreRotated rs qs → IsRingList rs → IsRingList qs
rotated_rings rs qs k l = record {
  ring = λ q i. let w = rotated-was rs qs k q i in ring_rotated w.0 q w.2 (l.ring w.0 w.1);
  long = λ q i. let w = rotated-was rs qs k q i in rotated-length w.0 q w.2 (l.long w.0 w.1);
  sided = sided_same (edges_of rs) l.sided (edges_of qs) (λ f. sym (total-is f (edges_of qs)) ∙ edges-same rs qs k f ∙ total-is f (edges_of rs));
  free = free-rotated rs qs k l.free;
}
