-- The parity of a list along the edges of another one that it does not cross.
use Rattle.std.proofs.Common.{All, Bool, List, [], ap, arith, cond, eqb, false, inl, inr, not, refl, subst, sym, true, ◌%◌, ◌+◌, ◌||◌, ◌∙◌, ◌∷◌, ◌≡◌, ◌⊎◌}
use lib.IntN.{◌-ℤ◌}
use Rattle.plane_lists.specs.Rings.Cover.{DoNotCross, covers_edge}
use Rattle.plane.specs.Conflict.{IsClearOf}
use Rattle.plane.specs.Edge.{Edge, IsRisingEdge, ends_at, reversed, segment_of}
use Rattle.plane.specs.FreeSegment.{Misses}
use Rattle.plane.specs.Height.{is_in_span}
use Rattle.plane.specs.Order.{order}
use Rattle.plane.specs.RayCrossing.{IsOffEdge}
use Rattle.plane.specs.Sign.{Minus, Null, Plus, is_plus, sign}
use Rattle.plane.specs.Vector.{Vector, east, from_to, same_point}
use Rattle.plane_lists.specs.Lists.ConflictFree.{IsConflictFree}
use Rattle.plane_lists.specs.Lists.EdgeList.{IsEvenAtPoints, crossing_count}
use Rattle.lists.specs.Member.{In}
use Rattle.plane_lists.specs.Lists.Node.{away, spokes_in}
use Rattle.plane_lists.specs.Lists.Parity.{is_even}
use Rattle.plane_lists.specs.Lists.Ring.{IsPath, IsRing, segments_of}
use Rattle.lists.proofs.ListsKit.{all-in, from-map, in-all, in-filter, in-map, in-passes, into-filter, not-not, total, total-+, total-is, total-same}
use Rattle.plane.proofs.PlaneKit.{clear_misses, ends_at-from, ends_at-to, rising-direction, same_point-true, direction-back, crossings_at, east-direction}
use Rattle.plane_lists.proofs.WindingKit.{along_from, off_all, parity_from_both_ends, way, way-direction, off_away, rising_in, IsOffSeen, parity_independent, crossings-right, e-tall, e-view, from_e, low-by, right-level, to_right, same-parity, share, share-is, spokes-is, beyond, crossings-away, parity_round_node}

-- ---- an edge that is clear of a list, and the list: more of the edges of the list are right of it, or ..
abbrev pub IsClearOfAll : Edge → List Edge → Type 0
IsClearOfAll e es = All (IsClearOf e) es

rise-cons : (e : Edge) (es : List Edge) → IsRisingEdge e → IsConflictFree es → (t : Edge) → In t (e ∷ es) → IsRisingEdge t
rise-cons e es r p t (inl h) = subst IsRisingEdge (sym h) r
rise-cons e es r p t (inr i) = rising_in es t p i

pub plain-cons : (e : Edge) (es : List Edge) → IsRisingEdge e → IsConflictFree es → IsClearOfAll e es → IsConflictFree (e ∷ es)
plain-cons e es r p c = record {
  rising = all-in IsRisingEdge (e ∷ es) (rise-cons e es r p);
  clear = (c, p.clear);
}

pub misses-all : (e : Edge) (es : List Edge) → IsRisingEdge e → IsConflictFree es → IsClearOfAll e es → All (Misses e.from e.to) es
misses-all e es r p c = all-in (Misses e.from e.to) es (λ t i. clear_misses e t r (rising_in es t p i) (in-all (IsClearOf e) es t c i))

pub off-list : (v : Vector) (e : Edge) (es : List Edge) → IsRisingEdge e → IsConflictFree es → IsClearOfAll e es → ends_at v e ≡ true → All (IsOffEdge v) (away v es)
off-list v e es r p c h = all-in (IsOffEdge v) (away v es) (λ t j.
    in-all (IsOffEdge v) (away v (e ∷ es)) t (off_away v e (e ∷ es) (plain-cons e es r p c) (inl refl) h)
    (into-filter (λ (t : Edge). not (ends_at v t)) (e ∷ es) t (inr (in-filter (λ (t : Edge). not (ends_at v t)) es t j)) (in-passes (λ (t : Edge). not (ends_at v t)) es t j)))

-- the number of edges right of e at the height of p, and the ray along e
module _ (p : Vector) (e : Edge) (es : List Edge) (re : IsRisingEdge e) (pl : IsConflictFree es) (even : IsEvenAtPoints es) (c : IsClearOfAll e es) where
  both-plain : IsConflictFree (e ∷ es)
  both-plain = plain-cons e es re pl c

  abbrev ray : Vector
  ray = from_to e.from e.to

  beside-inner : sign (e.from.y -ℤ p.y) ≡ Minus → sign (e.to.y -ℤ p.y) ≡ Plus → is_even (total (to_right p e) es) ≡ is_even (crossing_count ray e.from (away e.from es))
  beside-inner lo hi =
      let r = from_e p e (e ∷ es) both-plain (inl refl) lo hi in let v = e-view p e (e ∷ es) both-plain (inl refl) lo hi in
      let ms = misses-all e es re pl c in
      let off = off_all e.from e.to r v es ms in
      let x = parity_independent east ray r east-direction (rising-direction e.from e.to re) es off even in
      let q = along_from e.from e.to r v es ms (off-list e.from e es re pl c (ends_at-from e)) in
      let t = total-same (crossings_at east r) (to_right p e) es (λ t j. crossings-right p e (e ∷ es) both-plain (inl refl) lo hi t (in-all (IsOffSeen r) es t off j) (rising_in es t pl j)) in
      let n = total-is (crossings_at east r) es in
      same-parity (total (to_right p e) es) (crossing_count ray e.from (away e.from es)) (omega arith)

  beside-level : sign (e.from.y -ℤ p.y) ≡ Null → sign (e.to.y -ℤ p.y) ≡ Plus → is_even (total (to_right p e) es) ≡ is_even (crossing_count ray e.from (away e.from es))
  beside-level lo hi =
      let a = e.from in
      let f = λ (t : Edge). beyond east a t + share e t (ends_at a t) in
      let w = total-same f (to_right p e) es (λ t j.
      share-is e t (e-tall p e (e ∷ es) both-plain (inl refl) lo hi) re (rising_in es t pl j) (in-all (IsClearOf e) es t c j) ∙ right-level p e (e ∷ es) both-plain (inl refl) lo hi t (inr j)) in
      let z = total-+ (beyond east a) (λ (t : Edge). share e t (ends_at a t)) es in
      let x = crossings-away east a es in let y = spokes-is east ray a es in
      let h = parity_round_node east ray a es east-direction (rising-direction e.from e.to re) even (off-list a e es re pl c (ends_at-from e)) in
      same-parity (total (to_right p e) es) (crossing_count ray a (away a es)) (omega arith)

  beside-by : (sign (e.from.y -ℤ p.y) ≡ Minus) ⊎ (sign (e.from.y -ℤ p.y) ≡ Null) → sign (e.to.y -ℤ p.y) ≡ Plus → is_even (total (to_right p e) es) ≡ is_even (crossing_count ray e.from (away e.from es))
  beside-by (inl lo) hi = beside-inner lo hi
  beside-by (inr lo) hi = beside-level lo hi

  pub beside : is_in_span p e ≡ true → is_even (total (to_right p e) es) ≡ not (covers_edge es e)
  beside s = let h = low-by (sign (e.from.y -ℤ p.y)) (sign (e.to.y -ℤ p.y)) s in beside-by h.0 h.1 ∙ sym (not-not _)

-- ---- along an edge the parity is the same from both ends
module _ (v : Vector) (s : Edge) (es : List Edge) (rs : IsRisingEdge s) (pl : IsConflictFree es) (even : IsEvenAtPoints es) (c : IsClearOfAll s es) where
  end-by : (b d : Bool) → same_point v s.from ≡ b → same_point v s.to ≡ d → (b || d) ≡ true → covers_edge es s ≡ not (is_even (crossing_count (from_to v (cond b s.to s.from)) v (away v es)))
  end-by true d h k o = subst (λ w. covers_edge es s ≡ not (is_even (crossing_count (from_to w s.to) w (away w es)))) (sym (same_point-true v s.from h)) refl
  end-by false true h k o =
      let ds = rising-direction s.from s.to rs in
      let l = parity_from_both_ends s.from s.to es ds (direction-back s.from s.to ds) even (misses-all s es rs pl c) (off-list s.from s es rs pl c (ends_at-from s)) (off-list s.to s es rs pl c (ends_at-to s)) in
      subst (λ w. covers_edge es s ≡ not (is_even (crossing_count (from_to w s.from) w (away w es)))) (sym (same_point-true v s.to k)) (ap (λ n. not (eqb n 0)) l)
  end-by false false h k o = absurd (cc o)

  pub in-from-end : ends_at v s ≡ true → covers_edge es s ≡ not (is_even (crossing_count (way v s) v (away v es)))
  in-from-end h = end-by (same_point v s.from) (same_point v s.to) refl refl h

-- two edges that meet at v and do not cross the list there
pub same_in : (v : Vector) (s t : Edge) (es : List Edge) → IsRisingEdge s → IsRisingEdge t → IsConflictFree es → IsEvenAtPoints es → IsClearOfAll s es → IsClearOfAll t es → ends_at v s ≡ true → ends_at v t ≡ true →
    spokes_in (way v s) (way v t) v es % 2 ≡ 0 → covers_edge es s ≡ covers_edge es t
same_in v s t es rs rt pl even cs ct hs ht n =
    let b = parity_round_node (way v s) (way v t) v es (way-direction v s hs rs) (way-direction v t ht rt) even (off-list v s es rs pl cs hs) in
    in-from-end v s es rs pl even cs hs ∙ ap not (same-parity (crossing_count (way v s) v (away v es)) (crossing_count (way v t) v (away v es)) (omega arith)) ∙ sym (in-from-end v t es rt pl even ct ht)

-- ---- a ring and a list that it does not cross
pub or-swap : (b c : Bool) → (b || c) ≡ true → (c || b) ≡ true
or-swap true true h = refl
or-swap true false h = refl
or-swap false true h = refl
or-swap false false h = h

pub segment-ends-by : (v : Vector) (b : Bool) (e : Edge) → (same_point v e.from || same_point v e.to) ≡ true → ends_at v (cond b e (reversed e)) ≡ true
segment-ends-by v true e h = h
segment-ends-by v false e h = or-swap (same_point v e.from) (same_point v e.to) h

module _ (rs : List Edge) (ring : IsRing rs) (es : List Edge) (ps : IsConflictFree (segments_of rs)) (pl : IsConflictFree es) (even : IsEvenAtPoints es)
    (c : (s : Edge) → In s (segments_of rs) → IsClearOfAll s es) (n : DoNotCross (segments_of rs) es) where
  next-in : (e f : Edge) → In e rs → In f rs → f.from ≡ e.to → covers_edge es (segment_of f) ≡ covers_edge es (segment_of e)
  next-in e f i j q =
      let v = e.to in let s = segment_of f in let t = segment_of e in
      let is = in-map segment_of rs f j in let it = in-map segment_of rs e i in
      let hs : ends_at v s ≡ true = segment-ends-by v (is_plus (order f.from f.to)) f (subst (λ w. (same_point w f.from || same_point w f.to) ≡ true) q (ends_at-from f)) in
      let ht : ends_at v t ≡ true = segment-ends-by v (is_plus (order e.from e.to)) e (ends_at-to e) in
      same_in v s t es (rising_in (segments_of rs) s ps is) (rising_in (segments_of rs) t ps it) pl even (c s is) (c t it) hs ht (n v s t is it hs ht)

  along-in : (e : Edge) → In e rs → (a b : Vector) (xs : List Edge) → IsPath a xs b → e.to ≡ a → ((x : Edge) → In x xs → In x rs) → (x : Edge) → In x xs → covers_edge es (segment_of x) ≡ covers_edge es (segment_of e)
  along-in e i a b [] h q k x j = absurd j
  along-in e i a b (y ∷ ys) h q k x (inl g) = ap (λ z. covers_edge es (segment_of z)) g ∙ next-in e y i (k y (inl refl)) (h.0 ∙ sym q)
  along-in e i a b (y ∷ ys) h q k x (inr j) = along-in y (k y (inl refl)) y.to b ys h.1 refl (λ z l. k z (inr l)) x j ∙ next-in e y i (k y (inl refl)) (h.0 ∙ sym q)

  head-in : (a b : Vector) (e : Edge) (xs : List Edge) → IsPath a (e ∷ xs) b → ((x : Edge) → In x (e ∷ xs) → In x rs) → (x : Edge) → In x (e ∷ xs) → covers_edge es (segment_of x) ≡ covers_edge es (segment_of e)
  head-in a b e xs h k x (inl g) = ap (λ z. covers_edge es (segment_of z)) g
  head-in a b e xs h k x (inr j) = along-in e (k e (inl refl)) e.to b xs h.1 refl (λ z l. k z (inr l)) x j

  path-in : (a b : Vector) (xs : List Edge) → IsPath a xs b → ((x : Edge) → In x xs → In x rs) → (x y : Edge) → In x xs → In y xs → covers_edge es (segment_of x) ≡ covers_edge es (segment_of y)
  path-in a b [] h k x y i j = absurd i
  path-in a b (e ∷ xs) h k x y i j = head-in a b e xs h k x i ∙ sym (head-in a b e xs h k y j)

  -- the parity of the list is the same along all edges of the ring
  pub constant_in : (s t : Edge) → In s (segments_of rs) → In t (segments_of rs) → covers_edge es s ≡ covers_edge es t
  constant_in s t i j =
      from-map (λ s. covers_edge es s ≡ covers_edge es t) segment_of rs (λ x k. from-map (λ t. covers_edge es (segment_of x) ≡ covers_edge es t) segment_of rs (λ y l. path-in ring.start ring.start rs ring.path (λ z m. m) x y k l) t j) s i
