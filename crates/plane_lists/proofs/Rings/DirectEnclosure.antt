-- The ring that directly encloses an inner ring, and what the inner rings of one outer ring cover.
use Rattle.std.proofs.Common.{Bool, List, [], ap, arith, cond, false, inl, inr, not, refl, subst, sym, true, ◌&&◌, ◌++◌, ◌+◌, ◌∙◌, ◌∷◌, ◌≡◌, ◌≤◌, ◌⊎◌}
use Rattle.std.specs.List.{count_by, filter}
use Rattle.plane_lists.specs.Rings.Cover.{AreClear, covers, covers_edge}
use Rattle.plane_lists.specs.Rings.Nesting.{IsNest, edges_of, encloses, has_edge, is_outer}
use Rattle.plane.specs.Bit.{bit}
use Rattle.plane.specs.Conflict.{IsClearOf}
use Rattle.plane.specs.Edge.{Edge}
use Rattle.plane.specs.Height.{is_in_span, is_right_above}
use Rattle.plane.specs.Vector.{Vector}
use Rattle.plane_lists.specs.Lists.ConflictFree.{IsConflictFree}
use Rattle.lists.specs.Member.{EachPair, In}
use Rattle.plane_lists.specs.Lists.Parity.{is_even}
use Rattle.plane_lists.specs.Lists.Ring.{IsAnchor}
use Rattle.plane_lists.proofs.Rings.CoveredEdges.{beside}
use Rattle.plane_lists.proofs.Rings.Nests.{alternate, and-make, clear-of, clear_rings, depth-total, encloses-in, encloses-not, has-not-by, has_same, in-edges, innermost, nearest_exists, nearest_in, not-both, outer_depth, plain-left, plain-part, plain-right, same-ring}
use Rattle.lists.proofs.ListsKit.{all-in, clash, in-all, in-either, in-filter, in-passes, into-filter, not-not, pairs-across, total, total-is}
use Rattle.plane_lists.proofs.Rings.OuterTests.{IsDirectBy, IsNearest}
use Rattle.plane_lists.proofs.Rings.TwoLists.{clear-reversed, contained, disjoint, plain-append}
use Rattle.std.proofs.lemmas.Bool.{and_from, and_parts, false_from_ne_true}
use Rattle.plane.proofs.PlaneKit.{right_of}
use Rattle.plane_lists.proofs.WindingKit.{anchor_span, some_odd, rising_in, First}

-- ---- at most one
none-of : {X : Type 0} (q : X → Bool) (xs : List X) → ((x : X) → In x xs → q x ≡ false) → total (λ x. bit (q x)) xs ≡ 0
none-of q [] h = refl
none-of q (x ∷ xs) h = let a = ap bit (h x (inl refl)) in let b = none-of q xs (λ y i. h y (inr i)) in omega arith

at-most-step : {X : Type 0} (q : X → Bool) (m : Bool) (x : X) (xs : List X) → (b : Bool) → q x ≡ b → (q x ≡ true → m ≡ true) → ((y : X) → In y xs → q x ≡ true → q y ≡ true → ⊥) → total (λ x. bit (q x)) xs ≤ bit m →
    bit b + total (λ x. bit (q x)) xs ≤ bit m
at-most-step q m x xs true h k d l = let a = none-of q xs (λ y i. false_from_ne_true (q y) (λ z. d y i h z)) in let b = ap bit (k h) in omega arith
at-most-step q m x xs false h k d l = omega arith

pub at-most : {X : Type 0} (q : X → Bool) (m : Bool) (xs : List X) → ((x : X) → In x xs → q x ≡ true → m ≡ true) → EachPair (λ x y. q x ≡ true → q y ≡ true → ⊥) xs → total (λ x. bit (q x)) xs ≤ bit m
at-most q m [] h p = omega arith
at-most q m (x ∷ xs) h p =
    at-most-step q m x xs (q x) refl (h x (inl refl)) (λ y i. in-all (λ z. q x ≡ true → q z ≡ true → ⊥) xs y p.0 i) (at-most q m xs (λ y i. h y (inr i)) p.1)

-- ---- the chosen rings
pub clear-pairs : (gs : List (List Edge)) → IsConflictFree (edges_of gs) → EachPair AreClear gs
clear-pairs [] p = tt
clear-pairs (g ∷ gs) p =
    (all-in (AreClear g) gs (λ h i s t a b. pairs-across IsClearOf g (edges_of gs) s t p.clear a (in-edges gs h t i b)), clear-pairs gs (plain-right g (edges_of gs) p))

pub edges-out-by : (h : List Edge) (hs : List (List Edge)) (s : Edge) → (In s h) ⊎ (In s (edges_of hs)) → (In s (edges_of hs) → (g : List Edge) × In g hs × In s g) → (g : List Edge) × In g (h ∷ hs) × In s g
edges-out-by h hs s (inl i) k = (h, inl refl, i)
edges-out-by h hs s (inr i) k = let r = k i in (r.0, inr r.1, r.2)

pub in-edges-out : (gs : List (List Edge)) (s : Edge) → In s (edges_of gs) → (g : List Edge) × In g gs × In s g
in-edges-out [] s i = absurd i
in-edges-out (h ∷ hs) s i = edges-out-by h hs s (in-either h (edges_of hs) s i) (in-edges-out hs s)

edges-filter : (sel : List Edge → Bool) (gs : List (List Edge)) (s : Edge) → In s (edges_of (filter sel gs)) → In s (edges_of gs)
edges-filter sel gs s i = let r = in-edges-out (filter sel gs) s i in in-edges gs r.0 s (in-filter sel gs r.0 r.1) r.2

plain-chosen-by : (b : Bool) (g : List Edge) (r gs : List (List Edge)) → IsConflictFree (g ++ edges_of gs) → IsConflictFree (edges_of r) → ((s : Edge) → In s (edges_of r) → In s (edges_of gs)) → IsConflictFree (edges_of (cond b (g ∷ r) r))
plain-chosen-by true g r gs p q k = plain-append g (edges_of r) (plain-left g (edges_of gs) p) q (λ s t i j. pairs-across IsClearOf g (edges_of gs) s t p.clear i (k t j))
plain-chosen-by false g r gs p q k = q

pub plain-chosen : (sel : List Edge → Bool) (gs : List (List Edge)) → IsConflictFree (edges_of gs) → IsConflictFree (edges_of (filter sel gs))
plain-chosen sel [] p = p
plain-chosen sel (g ∷ gs) p = plain-chosen-by (sel g) g (filter sel gs) gs p (plain-chosen sel gs (plain-right g (edges_of gs) p)) (edges-filter sel gs)

first-nearest : (e m : Edge) (es : List Edge) → IsNearest e m es → First (right_of e.from) m (filter (is_right_above e.from e) es)
first-nearest e m es n = record {
  here = into-filter (is_right_above e.from e) es m n.member n.right;
  first = λ f i. n.first f (in-filter (is_right_above e.from e) es f i) (in-passes (is_right_above e.from e) es f i);
}

nearest-first : (e m : Edge) (es : List Edge) → First (right_of e.from) m (filter (is_right_above e.from e) es) → IsNearest e m es
nearest-first e m es n = record {
  member = in-filter (is_right_above e.from e) es m n.here;
  right = in-passes (is_right_above e.from e) es m n.here;
  first = λ f i b. n.first f (into-filter (is_right_above e.from e) es f i b);
}

module _ (gs : List (List Edge)) (n : IsNest gs) (outer : List Edge → Bool) (tells : (g : List Edge) → In g gs → (a : Edge) → IsAnchor a g → outer g ≡ is_outer gs a)
    (anchors : (g : List Edge) → In g gs → (a : Edge) × IsAnchor a g) where
  module _ (h : List Edge) (ih : In h gs) (e : Edge) (a : IsAnchor e h) where
    pub e-span : is_in_span e.from e ≡ true
    e-span = anchor_span e h (plain-part gs h n.plain ih) (n.even h ih) a

    abbrev inside : List Edge → Bool
    inside g = encloses g e

    abbrev above : List Edge → Bool
    above g = outer g && encloses g e

    -- an inner ring is in some ring
    some-ring : outer h ≡ false → (g : List Edge) × In g gs × (encloses g e ≡ true)
    some-ring o =
        let d = outer_depth gs n h e ih a in let t = tells h ih e a in
        some_odd (λ g. encloses g e) gs (ap is_even (sym (depth-total gs e)) ∙ sym d ∙ sym t ∙ o)

    -- the ring with the nearest edge among all that enclose it
    pub record Inmost : Type 0 where
      pub ring : List Edge
      pub member : In ring gs
      pub round : encloses ring e ≡ true
      pub edge : Edge
      pub here : In edge ring
      pub first : First (right_of e.from) edge (filter (is_right_above e.from e) (edges_of (filter inside gs)))

    inmost : outer h ≡ false → Inmost
    inmost o =
        let g = some-ring o in
        let m = nearest_exists gs n h ih e a.member e.from e-span inside (λ g i c. c) g.0 g.1 g.2 (plain-chosen inside gs n.plain) in
        let t = in-edges-out (filter inside gs) m.0 (in-filter (is_right_above e.from e) (edges_of (filter inside gs)) m.0 m.1.here) in
        record { ring = t.0; member = in-filter inside gs t.0 t.1; round = in-passes inside gs t.0 t.1; edge = m.0; here = t.2; first = m.1 }

    inmost-outer : (o : outer h ≡ false) → (t : Inmost) → outer t.ring ≡ true
    inmost-outer o t =
        let b = anchors t.ring t.member in
        tells t.ring t.member b.0 b.1 ∙ alternate gs n h ih e a.member e.from e-span t.edge t.first t.ring t.member t.here t.round e a b.0 b.1 ∙ ap not (sym (tells h ih e a) ∙ o)

    -- the ring with the nearest edge among the outer ones is the same
    direct-has : outer h ≡ false → (t : Inmost) → (g : List Edge) → (d : IsDirectBy gs outer g e) → (b : Bool) → has_edge t.ring d.edge ≡ b → g ≡ t.ring
    direct-has o t g d true k = sym (same-ring gs n g t.ring d.edge d.member t.member d.here k)
    direct-has o t g d false k =
        let f = first-nearest e d.edge (edges_of (filter above gs)) d.nearest in
        let st : above t.ring ≡ true = and_from (outer t.ring) (encloses t.ring e) (inmost-outer o t) t.round in
        let x = nearest_in gs n h ih e a.member e.from e-span above (λ g i c. (and_parts (outer g) (encloses g e) c).1) d.edge f g d.member d.here t.ring t.member st k in
        let c1 = and-make (has_edge t.ring d.edge) (covers_edge t.ring d.edge) k (x ∙ encloses-in gs n t.ring e t.round) in
        let m = has_same gs t.ring g d.edge d.edge n.plain t.member d.member d.here d.here k in
        let gt = clear_rings gs t.ring g d.edge n.plain t.member d.member d.here k in
        let gm = has-not-by g t.ring t.edge (plain-part gs g n.plain d.member) (clear-reversed t.ring g gt) t.here (has_edge g t.edge) refl in
        let c2 = innermost gs n h ih e a.member e.from e-span t.edge t.first t.ring t.member t.here t.round g d.member d.around gm in
        absurd (not-both gs n t.ring g d.edge t.edge t.member d.member d.here t.here c1 c2)

    pub direct_is : outer h ≡ false → (t : Inmost) → (g : List Edge) → IsDirectBy gs outer g e → g ≡ t.ring
    direct_is o t g d = direct-has o t g d (has_edge t.ring d.edge) refl

  -- each inner ring stands directly under an outer ring
  pub direct_exists : (h : List Edge) → (ih : In h gs) → (e : Edge) → IsAnchor e h → outer h ≡ false → (g : List Edge) × IsDirectBy gs outer g e
  direct_exists h ih e a o =
      let t = inmost h ih e a o in let out = inmost-outer h ih e a o t in
      let sel = λ (g : List Edge). outer g && encloses g e in
      let m = nearest_exists gs n h ih e a.member e.from (e-span h ih e a) sel (λ g i c. (and_parts (outer g) (encloses g e) c).1) t.ring t.member (and_from (outer t.ring) (encloses t.ring e) out t.round) (plain-chosen sel gs n.plain) in
      let r = in-edges-out (filter sel gs) m.0 (in-filter (is_right_above e.from e) (edges_of (filter sel gs)) m.0 m.1.here) in
      let c = and_parts (outer r.0) (encloses r.0 e) (in-passes sel gs r.0 r.1) in
      (r.0, record { member = in-filter sel gs r.0 r.1; is = c.0; around = c.1; edge = m.0; here = r.2; nearest = nearest-first e m.0 (edges_of (filter sel gs)) m.1 })

  -- under one ring only
  pub direct_once : (h : List Edge) → (ih : In h gs) → (e : Edge) → IsAnchor e h → outer h ≡ false → (f g : List Edge) → IsDirectBy gs outer f e → IsDirectBy gs outer g e → f ≡ g
  direct_once h ih e a o f g x y = let t = inmost h ih e a o in direct_is h ih e a o t f x ∙ sym (direct_is h ih e a o t g y)

  not-inner : (k t : List Edge) → outer k ≡ false → outer t ≡ true → (f : Edge) → In k gs → In t gs → In f t → (b : Bool) → has_edge k f ≡ b → b ≡ false
  not-inner k t u o f ik it i false e = refl
  not-inner k t u o f ik it i true e = absurd (clash (outer t) o (ap outer (sym (same-ring gs n t k f it ik i e)) ∙ u))

  -- two inner rings directly under one ring: the one is not in the other
  pub siblings : (g h k : List Edge) → (ih : In h gs) → In k gs → (e f : Edge) → (a : IsAnchor e h) → IsAnchor f k → outer h ≡ false → outer k ≡ false → IsDirectBy gs outer g e → IsDirectBy gs outer g f → encloses k e ≡ true → ⊥
  siblings g h k ih ik e f a b o u d d' c =
      let t = inmost h ih e a o in let q = direct_is h ih e a o t g d in
      let nk = not-inner k t.ring u (inmost-outer h ih e a o t) t.edge ik t.member t.here (has_edge k t.edge) refl in
      let c1 = innermost gs n h ih e a.member e.from (e-span h ih e a) t.edge t.first t.ring t.member t.here t.round k ik c nk in
      let c2 = subst (λ l. encloses l f ≡ true) q d'.around in
      not-both gs n t.ring k f t.edge t.member ik b.member t.here c2 c1

  half-false : (x y : Bool) → x ≡ false → (not x && y) ≡ false → y ≡ false
  half-false false y h k = k
  half-false true y h k = absurd (cc h)

  -- not in a ring that it is clear of and that does not enclose it
  pub out-of : (h k : List Edge) → In h gs → In k gs → (e : Edge) → In e h → AreClear k h → encloses k e ≡ false → (s : Edge) → In s h → covers_edge k s ≡ false
  out-of h k ih ik e ie c x s i =
      let m = has-not-by k h e (plain-part gs k n.plain ik) c ie (has_edge k e) refl in
      let m' = has-not-by k h s (plain-part gs k n.plain ik) c i (has_edge k s) refl in
      n.constant k h ik ih s e i ie m' ∙ half-false (has_edge k e) (covers_edge k e) m x

  -- what is inside a ring is inside each ring that encloses it
  pub inside_of : (g h : List Edge) → In g gs → In h gs → (e : Edge) → In e h → encloses g e ≡ true → (p : Vector) → covers h p ≡ true → covers g p ≡ true
  inside_of g h ig ih e ie c p o =
      let ne = encloses-not gs n g e c in
      let gh = clear_rings gs g h e n.plain ig ih ie ne in let hg = clear-reversed g h gh in
      contained h g (plain-part gs h n.plain ih) (plain-part gs g n.plain ig) (n.even h ih) (n.even g ig) hg p
      (λ s i. n.constant g h ig ih s e i ie (has-not-by g h s (plain-part gs g n.plain ig) gh i (has_edge g s) refl) ∙ encloses-in gs n g e c)
      (λ s t i j. n.constant h g ih ig s t i j (has-not-by h g s (plain-part gs h n.plain ih) hg i (has_edge h s) refl)) o

  -- no point is inside two rings neither of which encloses the other
  pub insides_apart : (h k : List Edge) → In h gs → In k gs → AreClear h k → (e f : Edge) → In e h → In f k → encloses k e ≡ false → encloses h f ≡ false → (p : Vector) → covers h p ≡ true → covers k p ≡ true → ⊥
  insides_apart h k ih ik c e f ie if' x y p o u =
      disjoint h k (plain-part gs h n.plain ih) (plain-part gs k n.plain ik) (n.even h ih) (n.even k ik) c p
      (out-of h k ih ik e ie (clear-reversed h k c) x) (out-of k h ik ih f if' c y) o u

-- a ring encloses another where an odd number of its edges are right of the other's anchor
pub encloses_law : (gs : List (List Edge)) → IsNest gs → (g h : List Edge) → In g gs → In h gs → (e : Edge) → IsAnchor e h → has_edge g e ≡ false → encloses g e ≡ not (is_even (count_by (is_right_above e.from e) g))
encloses_law gs n g h ig ih e a m =
    let pg = plain-part gs g n.plain ig in let ph = plain-part gs h n.plain ih in
    let s = anchor_span e h ph (n.even h ih) a in
    let c = clear-of gs n g h e ig ih a.member m in
    let b = beside e.from e g (rising_in h e ph a.member) pg (n.even g ig) c s in
    let t = total-is (λ f. bit (is_right_above e.from e f)) g in
    ap (λ x. not x && covers_edge g e) m ∙ sym (not-not (covers_edge g e)) ∙ ap not (sym b) ∙ ap (λ k. not (is_even k)) t
