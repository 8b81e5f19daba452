-- The pieces that are cut off the walks of a sided list do not cross: they are a ring list.
use Rattle.std.proofs.Common.{List, [], ap, arith, inl, inr, length, not, refl, subst, sym, ℕ, ◌%◌, ◌++◌, ◌+◌, ◌<◌, ◌∙◌, ◌∷◌, ◌≡◌, ◌⊎◌}
use Rattle.plane_lists.specs.Rings.Cover.{AreClear, DoNotCross, covers_edge}
use Rattle.plane_lists.specs.Rings.Nesting.{edges_of}
use Rattle.plane_lists.specs.Rings.RingList.{IsRingList}
use Rattle.plane_lists.specs.Rings.Walk.{AreCuts, AreWalks, CoversAllOrNone, Cuts, HasSameEdges, IsCycle, IsSuccessor, IsWalk, last}
use Rattle.plane.specs.Conflict.{IsClearOf}
use Rattle.plane.specs.Edge.{Edge, segment_of}
use Rattle.plane_lists.specs.Lists.ConflictFree.{IsConflictFree}
use Rattle.plane_lists.specs.Lists.EdgeList.{IsEvenAtPoints, crossing_count}
use Rattle.lists.specs.Member.{EachPair, In}
use Rattle.plane_lists.specs.Lists.Node.{away}
use Rattle.plane_lists.specs.Lists.Parity.{is_even}
use Rattle.plane_lists.specs.Lists.Ring.{IsRing, segments_of}
use Rattle.plane_lists.specs.Lists.Sided.{IsSided}
use Rattle.plane_lists.proofs.Rings.CoveredEdges.{in-from-end, off-list}
use Rattle.plane_lists.proofs.Rings.Nests.{in-edges}
use Rattle.plane_lists.proofs.Rings.Parts.{Apart, Once, apart-rest, differ, in-covers, in-middle, once-apart, once-cut, once-middle, plain-of, ring_long, same-once, sided-once, sided_same}
use Rattle.plane_lists.proofs.Rings.Stretches.{Keeps, covers_same, cut_cycle, follow-weaker, piece_same, stretch_same}
use Rattle.plane_lists.proofs.Rings.Successors.{clear-two, first_same}
use Rattle.plane_lists.proofs.Rings.TwoLists.{clear-list}
use Rattle.plane.proofs.PlaneKit.{ends_at-to}
use Rattle.plane_lists.proofs.WindingKit.{way, way-direction, rising_in, even-is, odd-is, ring-even, parity_round_node}
use Rattle.lists.proofs.ListsKit.{all-in, even_or_odd, in-either, in-map-out, pairs-append, pairs-left, pairs-right, pairs-weaker, total, total-++, total-is}

-- ---- one parity along a list says that the other is not crossed
even-sum : (m n : ℕ) → not (is_even m) ≡ not (is_even n) → (m % 2 ≡ 0) ⊎ (m % 2 ≡ 1) → (n % 2 ≡ 0) ⊎ (n % 2 ≡ 1) → (m + n) % 2 ≡ 0
even-sum m n h (inl a) (inl b) = omega arith
even-sum m n h (inr a) (inr b) = omega arith
even-sum m n h (inl a) (inr b) = let x = even-is m a in let y = odd-is n b in absurd (cc (sym (ap not x) ∙ h ∙ ap not y))
even-sum m n h (inr a) (inl b) = let x = odd-is m a in let y = even-is n b in absurd (cc (sym (ap not x) ∙ h ∙ ap not y))

pub not_crossed : (ss es : List Edge) → IsConflictFree ss → IsConflictFree es → IsEvenAtPoints es → AreClear ss es → ((s t : Edge) → In s ss → In t ss → covers_edge es s ≡ covers_edge es t) → DoNotCross ss es
not_crossed ss es ps pl even c k v s t i j hs ht =
    let rs = rising_in ss s ps i in let rt = rising_in ss t ps j in
    let cs = clear-list ss es c s i in let ct = clear-list ss es c t j in
    let b = parity_round_node (way v s) (way v t) v es (way-direction v s hs rs) (way-direction v t ht rt) even (off-list v s es rs pl cs hs) in
    let q = sym (in-from-end v s es rs pl even cs hs) ∙ k s t i j ∙ in-from-end v t es rt pl even ct ht in
    let m = crossing_count (way v s) v (away v es) in let n = crossing_count (way v t) v (away v es) in
    let z = even-sum m n q (even_or_odd m) (even_or_odd n) in omega arith

-- ---- the edges of the pieces
pub cuts-in : (w : List Edge) (ps : List (List Edge)) → Cuts w ps → (p : List Edge) → In p ps → (x : Edge) → In x p → In x w
cuts-in w [] k p i x j = absurd i
cuts-in w (q ∷ qs) k p (inl e) x j = subst (λ l. In x l) (sym k.2) (in-middle k.0 q k.1 x (subst (λ l. In x l) e j))
cuts-in w (q ∷ qs) k p (inr i) x j = subst (λ l. In x l) (sym k.2) (in-covers k.0 q k.1 x (cuts-in (k.0 ++ k.1) qs k.5 p i x j))

pub cuts-ring : (w : List Edge) (ps : List (List Edge)) → Cuts w ps → (p : List Edge) → In p ps → IsRing p × (0 < length p)
cuts-ring w [] k p i = absurd i
cuts-ring w (q ∷ qs) k p (inl e) = subst (λ l. IsRing l × (0 < length l)) (sym e) (k.4, k.3)
cuts-ring w (q ∷ qs) k p (inr i) = cuts-ring (k.0 ++ k.1) qs k.5 p i

pub cuts-once : (w : List Edge) (ps : List (List Edge)) → Cuts w ps → Once w → (p : List Edge) → In p ps → Once p
cuts-once w [] k o p i = absurd i
cuts-once w (q ∷ qs) k o p (inl e) = subst Once (sym e) (once-middle k.0 q k.1 (subst Once k.2 o))
cuts-once w (q ∷ qs) k o p (inr i) = cuts-once (k.0 ++ k.1) qs k.5 (once-cut k.0 q k.1 (subst Once k.2 o)) p i

-- the pieces part the walk
pub cuts-total : (f : Edge → ℕ) (w : List Edge) (ps : List (List Edge)) → Cuts w ps → total f (edges_of ps) ≡ total f w
cuts-total f w [] k = ap (total f) (sym k)
cuts-total f w (p ∷ ps) k =
    let a = cuts-total f (k.0 ++ k.1) ps k.5 in let b = total-++ f p (edges_of ps) in let c = total-++ f k.0 k.1 in
    let d = total-++ f k.0 (p ++ k.1) in let e = total-++ f p k.1 in let g = ap (total f) k.2 in omega arith

pub append-assoc : {X : Type 0} (xs ys zs : List X) → xs ++ (ys ++ zs) ≡ (xs ++ ys) ++ zs
append-assoc [] ys zs = refl
append-assoc (x ∷ xs) ys zs = ap (λ l. x ∷ l) (append-assoc xs ys zs)

edges-append : (ps qs : List (List Edge)) → edges_of (ps ++ qs) ≡ edges_of ps ++ edges_of qs
edges-append [] qs = refl
edges-append (p ∷ ps) qs = ap (λ l. p ++ l) (edges-append ps qs) ∙ append-assoc p (edges_of ps) (edges_of qs)

pub all-total : (f : Edge → ℕ) (ws rs : List (List Edge)) → AreCuts ws rs → total f (edges_of rs) ≡ total f (edges_of ws)
all-total f [] rs k = ap (λ l. total f (edges_of l)) k
all-total f (w ∷ ws) rs k =
    let a = all-total f ws k.1 k.4 in let b = cuts-total f w k.0 k.3 in
    let c = total-++ f w (edges_of ws) in let d = ap (λ l. total f (edges_of l)) k.2 ∙ ap (total f) (edges-append k.0 k.1) ∙ total-++ f (edges_of k.0) (edges_of k.1) in omega arith

pub all_same : (ws rs : List (List Edge)) → AreCuts ws rs → HasSameEdges (edges_of rs) (edges_of ws)
all_same ws rs k f = sym (total-is f (edges_of rs)) ∙ all-total f ws rs k ∙ total-is f (edges_of ws)

-- the walk of a piece
walk-by : (ps qs : List (List Edge)) (w : List Edge) (ws : List (List Edge)) → Cuts w ps → (r : List Edge) → (In r ps) ⊎ (In r qs) → (In r qs → (u : List Edge) × In u ws × (vs : List (List Edge)) × In r vs × Cuts u vs) →
    (u : List Edge) × In u (w ∷ ws) × (vs : List (List Edge)) × In r vs × Cuts u vs
walk-by ps qs w ws k r (inl i) h = (w, inl refl, ps, i, k)
walk-by ps qs w ws k r (inr i) h = let a = h i in (a.0, inr a.1, a.2, a.3, a.4)

pub walk_of : (ws rs : List (List Edge)) → AreCuts ws rs → (r : List Edge) → In r rs → (u : List Edge) × In u ws × (vs : List (List Edge)) × In r vs × Cuts u vs
walk_of [] rs k r i = absurd (subst (λ l. In r l) k i)
walk_of (w ∷ ws) rs k r i = walk-by k.0 k.1 w ws k.3 r (in-either k.0 k.1 r (subst (λ l. In r l) k.2 i)) (walk_of ws k.1 k.4 r)

abbrev pub AreFree : List Edge → List Edge → Type 0
AreFree rs ss = CoversAllOrNone rs ss × CoversAllOrNone ss rs × Apart rs ss

pub last-in : {X : Type 0} (z y : X) (ys : List X) → In (last y ys) (y ∷ ys)
last-in z y [] = inl refl
last-in z y (x ∷ xs) = inr (last-in z x xs)

module _ (es : List Edge) (sd : IsSided es) where
  record Fits (rs : List Edge) : Type 0 where
    pub sub : (x : Edge) → In x rs → In x es
    pub plain : IsConflictFree (segments_of rs)
    pub even : IsEvenAtPoints (segments_of rs)

  abbrev Round : List Edge → List Edge → Type 0
  Round rs w = IsCycle (Keeps (λ (x : Edge). In x rs → ⊥) (λ (x : Edge). covers_edge (segments_of rs) (segment_of x))) w

  -- along the cycle the parity of each list of its edges changes only at that list's edges
  abbrev IsSteady : List Edge → Type 0
  IsSteady w = (rs : List Edge) → Fits rs → ((x : Edge) → In x rs → In x w) → Round rs w

  walk_round : (w : List Edge) → IsWalk es w → (rs : List Edge) → Fits rs → Round rs w
  walk_round [] k rs fit = record { end = k.cycle.end; closed = refl; steps = tt }
  walk_round (y ∷ ys) k rs fit = record {
    end = k.cycle.end;
    closed = k.cycle.closed;
    steps = follow-weaker (IsSuccessor es) (Keeps (λ (x : Edge). In x rs → ⊥) (λ (x : Edge). covers_edge (segments_of rs) (segment_of x))) (λ e. In e es)
        (λ e f i j n ne nf. first_same es sd e.to e f i (ends_at-to e) n rs fit.sub fit.plain fit.even ne nf)
        k.cycle.end (y ∷ ys) (k.here k.cycle.end (subst (λ z. In z (y ∷ ys)) k.cycle.closed (last-in k.cycle.end y ys))) k.here k.cycle.steps;
  }

  steady-cut : (a p b : List Edge) → Once (a ++ (p ++ b)) → IsSteady (a ++ (p ++ b)) → IsSteady (a ++ b)
  steady-cut a p b o k rs fit sub =
      cut_cycle (λ (x : Edge). In x rs → ⊥) (λ (x : Edge). covers_edge (segments_of rs) (segment_of x)) a p b (λ x i j. apart-rest a p b o x i (sub x j)) (k rs fit (λ x i. in-covers a p b x (sub x i)))

  fits : (p : List Edge) → IsRing p → Once p → ((x : Edge) → In x p → In x es) → Fits p
  fits p r o sub = record { sub = sub; plain = plain-of es sd p sub o; even = ring-even p r }

  cuts-fit : (w : List Edge) (ps : List (List Edge)) → Cuts w ps → Once w → ((x : Edge) → In x w → In x es) → (p : List Edge) → In p ps → Fits p
  cuts-fit w ps k o sub p i = fits p (cuts-ring w ps k p i).0 (cuts-once w ps k o p i) (λ x j. sub x (cuts-in w ps k p i x j))

  -- the pieces of one walk
  cuts-free : (w : List Edge) (ps : List (List Edge)) → Cuts w ps → Once w → ((x : Edge) → In x w → In x es) → IsSteady w → EachPair AreFree ps
  cuts-free w [] k o sub st = tt
  cuts-free w (p ∷ ps) k o sub st =
      let a = k.0 in let b = k.1 in
      let o' : Once (a ++ (p ++ b)) = subst Once k.2 o in
      let st' : IsSteady (a ++ (p ++ b)) = subst IsSteady k.2 st in
      let sub' : (x : Edge) → In x (a ++ (p ++ b)) → In x es = subst (λ l. (x : Edge) → In x l → In x es) k.2 sub in
      let rest = λ (x : Edge) (i : In x (a ++ b)). in-covers a p b x i in
      let away-from = apart-rest a p b o' in
      let fp = fits p k.4 (once-middle a p b o') (λ x i. sub' x (in-middle a p b x i)) in (
        all-in (AreFree p) ps (λ s i.
            let s-in = cuts-in (a ++ b) ps k.5 s i in
            let fs = cuts-fit (a ++ b) ps k.5 (once-cut a p b o') (λ x j. sub' x (rest x j)) s i in (
              λ x y j l. covers_same (λ (x : Edge). In x p → ⊥) (λ (x : Edge). covers_edge (segments_of p) (segment_of x)) a p b (λ u m n. away-from u n m) (st' p fp (in-middle a p b)) x y (s-in x j) (s-in y l),
              λ x y j l. piece_same (λ (x : Edge). In x s → ⊥) (λ (x : Edge). covers_edge (segments_of s) (segment_of x)) a p b (λ u m n. away-from u m (s-in u n)) (st' s fs (λ u m. rest u (s-in u m))) x y j l,
              λ x j l. away-from x j (s-in x l),
            )),
        cuts-free (a ++ b) ps k.5 (once-cut a p b o') (λ x j. sub' x (rest x j)) (steady-cut a p b o' st'),
      )

  -- a walk that has no edge of the list
  walk-same : (w : List Edge) → IsWalk es w → (rs : List Edge) → Fits rs → Apart rs w → CoversAllOrNone rs w
  walk-same w k rs fit far x y i j =
      let r = walk_round w k rs fit in
      stretch_same (λ (x : Edge). In x rs → ⊥) (λ (x : Edge). covers_edge (segments_of rs) (segment_of x)) r.end w (λ u m n. far u n m) r.steps x y i j

  once-left : (xs ys : List Edge) → Once (xs ++ ys) → Once xs
  once-left xs ys o = pairs-left (λ (x y : Edge). x ≡ y → ⊥) xs ys o

  once-right : (xs ys : List Edge) → Once (xs ++ ys) → Once ys
  once-right xs ys o = pairs-right (λ (x y : Edge). x ≡ y → ⊥) xs ys o

  once-part : (ws : List (List Edge)) (w : List Edge) → Once (edges_of ws) → In w ws → Once w
  once-part [] w o i = absurd i
  once-part (u ∷ us) w o (inl e) = subst Once (sym e) (once-left u (edges_of us) o)
  once-part (u ∷ us) w o (inr i) = once-part us w (once-right u (edges_of us) o) i

  all-free : (ws rs : List (List Edge)) → AreCuts ws rs → ((w : List Edge) → In w ws → IsWalk es w) → Once (edges_of ws) → EachPair AreFree rs
  all-free [] rs k h o = subst (EachPair AreFree) (sym k) tt
  all-free (w ∷ ws) rs k h o =
      let ps = k.0 in let qs = k.1 in
      let hw = h w (inl refl) in let ow = once-left w (edges_of ws) o in
      let one = cuts-free w ps k.3 ow hw.here (λ rs fit sub. walk_round w hw rs fit) in
      let two = all-free ws qs k.4 (λ u i. h u (inr i)) (once-right w (edges_of ws) o) in
      subst (EachPair AreFree) (sym k.2) (pairs-append AreFree ps qs one two (λ r s i j.
      let g = walk_of ws qs k.4 s j in
      let hu = h g.0 (inr g.1) in let ou = once-part ws g.0 (once-right w (edges_of ws) o) g.1 in
      let r-in = cuts-in w ps k.3 r i in let s-in = cuts-in g.0 g.2 g.4 s g.3 in
      let fr = cuts-fit w ps k.3 ow hw.here r i in let fs = cuts-fit g.0 g.2 g.4 ou hu.here s g.3 in
      let far = λ (x : Edge) (m : In x w) (n : In x g.0). once-apart w (edges_of ws) o x m (in-edges ws g.0 x g.1 n) in (
        λ x y m n. walk-same g.0 hu r fr (λ u a b. far u (r-in u a) b) x y (s-in x m) (s-in y n),
        λ x y m n. walk-same w hw s fs (λ u a b. far u b (s-in u a)) x y (r-in x m) (r-in y n),
        λ x m n. far x (r-in x m) (s-in x n),
      )))

  constant-segments : (rs ss : List Edge) → CoversAllOrNone rs ss → (s t : Edge) → In s (segments_of ss) → In t (segments_of ss) → covers_edge (segments_of rs) s ≡ covers_edge (segments_of rs) t
  constant-segments rs ss c s t i j =
      let a = in-map-out segment_of ss s i in let b = in-map-out segment_of ss t j in
      ap (covers_edge (segments_of rs)) a.2 ∙ c a.0 b.0 a.1 b.1 ∙ ap (covers_edge (segments_of rs)) (sym b.2)

  clear-segments : (rs ss : List Edge) → Fits rs → Fits ss → Apart rs ss → AreClear (segments_of rs) (segments_of ss)
  clear-segments rs ss fr fs far s t i j =
      let a = in-map-out segment_of rs s i in let b = in-map-out segment_of ss t j in
      let c = clear-two es sd a.0 b.0 (fr.sub a.0 a.1) (fs.sub b.0 b.1) (differ a.0 b.0 (λ e. far a.0 a.1 (subst (λ w. In w ss) (sym e) b.1))) in
      subst (λ w. IsClearOf w t) (sym a.2) (subst (λ w. IsClearOf (segment_of a.0) w) (sym b.2) c)

  free-cross : (rs ss : List Edge) → Fits rs → Fits ss → AreFree rs ss → DoNotCross (segments_of rs) (segments_of ss) × DoNotCross (segments_of ss) (segments_of rs)
  free-cross rs ss fr fs f = (
    not_crossed (segments_of rs) (segments_of ss) fr.plain fs.plain fs.even (clear-segments rs ss fr fs f.2) (constant-segments ss rs f.1),
    not_crossed (segments_of ss) (segments_of rs) fs.plain fr.plain fr.even (clear-segments ss rs fs fr (λ x i j. f.2 x j i)) (constant-segments rs ss f.0),
  )

  module _ (ws rs : List (List Edge)) (aw : AreWalks es ws) (k : AreCuts ws rs) where
    walks : (w : List Edge) → In w ws → IsWalk es w
    walks w i = aw.walk w i

    same : HasSameEdges (edges_of ws) es
    same = aw.whole

    edges-once : Once (edges_of ws)
    edges-once = same-once (edges_of ws) es same (sided-once es sd)

    piece-fits : (r : List Edge) → In r rs → Fits r
    piece-fits r i = let g = walk_of ws rs k r i in cuts-fit g.0 g.2 g.4 (once-part ws g.0 edges-once g.1) (walks g.0 g.1).here r g.3

    piece-ring : (r : List Edge) → In r rs → IsRing r × (0 < length r)
    piece-ring r i = let g = walk_of ws rs k r i in cuts-ring g.0 g.2 g.4 r g.3

    piece-once : (r : List Edge) → In r rs → Once r
    piece-once r i = let g = walk_of ws rs k r i in cuts-once g.0 g.2 g.4 (once-part ws g.0 edges-once g.1) r g.3

    -- each piece has one parity on each other
    pub pieces_constant : EachPair (λ (r s : List Edge). CoversAllOrNone r s × CoversAllOrNone s r) rs
    pieces_constant = pairs-weaker AreFree (λ (r s : List Edge). CoversAllOrNone r s × CoversAllOrNone s r) rs (λ r s i j f. (f.0, f.1)) (all-free ws rs k walks edges-once)

    pub pieces_same : HasSameEdges (edges_of rs) es
    pieces_same f = all_same ws rs k f ∙ same f

    -- each piece is a ring, of edges of one walk
    pub piece_walk : (r : List Edge) → In r rs → IsRing r × ((w : List Edge) × In w ws × ((x : Edge) → In x r → In x w))
    piece_walk r i = let g = walk_of ws rs k r i in ((piece-ring r i).0, (g.0, g.1, λ x j. cuts-in g.0 g.2 g.4 r g.3 x j))

    pub ring_list : IsRingList rs
    ring_list = record {
      ring = λ r i. (piece-ring r i).0;
      long = λ r i. let g = (piece-ring r i).0 in ring_long es sd r (piece-fits r i).sub (piece-once r i) (piece-ring r i).1 g.start g.path;
      sided = sided_same es sd (edges_of rs) (λ f. all_same ws rs k f ∙ same f);
      free = pairs-weaker AreFree (λ (r s : List Edge). DoNotCross (segments_of r) (segments_of s) × DoNotCross (segments_of s) (segments_of r)) rs
          (λ r s i j f. free-cross r s (piece-fits r i) (piece-fits s j) f) (all-free ws rs k walks edges-once);
    }
