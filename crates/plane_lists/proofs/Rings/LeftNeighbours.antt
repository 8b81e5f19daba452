-- The nearest edge left of the anchor of an inner ring: its ring directly encloses the inner one, or has one direct encloser with it.
use Rattle.std.proofs.Common.{Bool, List, ap, arith, cond, false, not, pos, refl, subst, suc, sym, true, ℕ, ℤ, ◌&&◌, ◌*ℤ◌, ◌+◌, ◌-ℤ◌, ◌||◌, ◌∙◌, ◌≡◌, ◌⊎◌, ⊎_elim}
use Rattle.std.specs.List.{filter}
use borrow.Author.Differences.{ints}
use Rattle.plane_lists.specs.Rings.Cover.{covers_edge}
use Rattle.plane_lists.specs.Rings.Nesting.{IsNest, TellsOuterRings, depth, edges_of, encloses, has_edge}
use Rattle.plane.specs.Bit.{bit}
use Rattle.plane.specs.Edge.{Edge, same_edge}
use Rattle.plane.specs.Height.{is_in_span, is_right_above, starts_left_of}
use Rattle.plane.specs.Order.{order}
use Rattle.plane.specs.Sign.{Minus, Null, Plus, Sign, is_minus, is_plus, negated, sign, then_sign}
use Rattle.plane.specs.Vector.{Vector, orient, same_point}
use Rattle.plane_lists.specs.Lists.ConflictFree.{IsConflictFree, others}
use Rattle.plane_lists.specs.Lists.EdgeList.{IsEvenAtPoints}
use Rattle.lists.specs.Member.{In}
use Rattle.plane_lists.specs.Lists.Parity.{is_even}
use Rattle.plane_lists.specs.Lists.Ring.{IsAnchor}
use Rattle.plane_lists.proofs.Rings.CoveredEdges.{beside}
use Rattle.plane_lists.proofs.Rings.DirectEnclosure.{direct_exists}
use Rattle.plane_lists.proofs.Rings.Nearest.{beyond-right, beyond-span, bit-both, same_beside}
use Rattle.plane_lists.proofs.Rings.Nests.{and-make, clear-of, cond-out, cond-times, depth-total, depth_same, encloses-in, encloses-not, encloses_same, has-in, has_once, in-edges, in-has, not-both, outer_depth, part, same-ring}
use Rattle.lists.proofs.ListsKit.{clash, in-filter, in-passes, into-filter, not-not, not-true-out, total, total-+, total-same}
use Rattle.plane_lists.proofs.Rings.OuterTests.{HasAnchors, IsDirectBy}
use Rattle.std.proofs.lemmas.Bool.{and_from, and_parts}
use Rattle.plane.proofs.PlaneKit.{same_edge-refl, same_edge-true, right_chain, right_itself, right_of, tall-by, order-null, same_point-refl}
use Rattle.plane.proofs.SignKit.{lift, same, ◌⊟◌, ◌⊠◌, null-zero, self-diff, sign-*, sign-reversed, times, bit-same}
use Rattle.plane_lists.proofs.WindingKit.{anchor_runs, anchor_span, rising_in, split_off, right-level, spanning_runs, to_right, even-next}

-- ---- of the edges of a ring at the height of its anchor the anchor is the leftmost
zero-end : (x y z w : ℤ) → z ≡ pos 0 → x *ℤ z -ℤ y *ℤ w ≡ pos 0 -ℤ w *ℤ y
zero-end x y z w e =
    let x' = lift x in let y' = lift y in let w' = lift w in
    ap (λ k. x *ℤ k -ℤ y *ℤ w) e ∙ same (x' ⊠ lift (pos 0) ⊟ y' ⊠ w') (lift (pos 0) ⊟ w' ⊠ y') (omega arith)

-- a point left of the lower end of an upright edge is left of the edge
left-by : (t : Edge) (p : Vector) → sign (t.to.y -ℤ t.from.y) ≡ Plus → sign (t.from.y -ℤ p.y) ≡ Null → sign (t.from.x -ℤ p.x) ≡ Plus → orient t.from t.to p ≡ Plus
left-by t p tall level right =
    let z : p.y -ℤ t.from.y ≡ pos 0 = zero-diff t.from.y p.y level in
    let w : sign (p.x -ℤ t.from.x) ≡ Minus = sign-reversed (t.from.x -ℤ p.x) (p.x -ℤ t.from.x) (omega (arith, ints)) ∙ ap negated right in
    let m : sign ((p.x -ℤ t.from.x) *ℤ (t.to.y -ℤ t.from.y)) ≡ Minus = sign-* (p.x -ℤ t.from.x) (t.to.y -ℤ t.from.y) ∙ ap (λ s. times s (sign (t.to.y -ℤ t.from.y))) w ∙ ap (times Minus) tall in
    ap sign (zero-end (t.to.x -ℤ t.from.x) (t.to.y -ℤ t.from.y) (p.y -ℤ t.from.y) (p.x -ℤ t.from.x) z)
    ∙ sign-reversed ((p.x -ℤ t.from.x) *ℤ (t.to.y -ℤ t.from.y)) (pos 0 -ℤ (p.x -ℤ t.from.x) *ℤ (t.to.y -ℤ t.from.y)) (omega (arith, ints)) ∙ ap negated m
  where
    zero-diff : (a b : ℤ) → sign (a -ℤ b) ≡ Null → b -ℤ a ≡ pos 0
    zero-diff a b h = let x = null-zero (a -ℤ b) h in omega (arith, ints)

level-x : (s t : Sign) → then_sign s t ≡ Plus → not (is_plus s) ≡ true → (s ≡ Null) × (t ≡ Plus)
level-x Null t h n = (refl, h)
level-x Plus t h n = absurd (cc n)
level-x Minus t h n = absurd (cc h)

module _ (h : List Edge) (ph : IsConflictFree h) (even : IsEvenAtPoints h) (a : Edge) (aa : IsAnchor a h) where
  a-span : is_in_span a.from a ≡ true
  a-span = anchor_span a h ph even aa

  starts-by : (t : Edge) → In t h → is_in_span a.from t ≡ true → same_edge a t ≡ false → (o : Sign) → order a.from t.from ≡ o → (is_plus (orient t.from t.to a.from) || (same_point a.from t.from && is_minus (orient a.from a.to t.to))) ≡ true
  starts-by t i s d Minus e = absurd (aa.least t i e)
  starts-by t i s d Plus e =
      let low = (and_parts (not (is_plus (sign (t.from.y -ℤ a.from.y)))) (is_plus (sign (t.to.y -ℤ a.from.y))) s).0 in
      let l = level-x (sign (t.from.y -ℤ a.from.y)) (sign (t.from.x -ℤ a.from.x)) e low in
      ap (λ z. is_plus z || (same_point a.from t.from && is_minus (orient a.from a.to t.to))) (left-by t a.from (tall-by a.from t s) l.0 l.1)
  starts-by t i s d Null e =
      let one = order-null a.from t.from e in
      let turn = aa.leftmost t (into-filter (λ (t : Edge). not (same_edge a t)) h t i (ap not d)) one in
      or-right-in (is_plus (orient t.from t.to a.from)) (same_point a.from t.from && is_minus (orient a.from a.to t.to))
      (and_from (same_point a.from t.from) (is_minus (orient a.from a.to t.to)) (subst (λ w. same_point a.from w ≡ true) one (same_point-refl a.from)) (ap is_minus turn))
    where
      or-right-in : (x y : Bool) → y ≡ true → x || y ≡ true
      or-right-in true y k = refl
      or-right-in false y k = k

  pub anchor-first : (t : Edge) → In t h → is_in_span a.from t ≡ true → same_edge a t ≡ false → right_of a.from a t ≡ true
  anchor-first t i s d =
      let b = starts-by t i s d (order a.from t.from) refl in
      let r = right-level a.from a h ph aa.member (self-diff a.from.y) (tall-by a.from a a-span) t i in
      (and_parts (is_in_span a.from t) (right_of a.from a t) (sym (bit-same (starts_left_of a t) (is_in_span a.from t && right_of a.from a t) r) ∙ and_from (is_in_span a.from t) (is_plus (orient t.from t.to a.from) || (same_point a.from t.from && is_minus (orient a.from a.to t.to))) s b)).1

even-one : (n : ℕ) → is_even n ≡ false → is_even (1 + n) ≡ true
even-one n h = ap is_even (let e : 1 + n ≡ suc n = omega arith in e) ∙ even-next n ∙ ap not h

module _ (gs : List (List Edge)) (n : IsNest gs) (outer : List Edge → Bool) (tells : TellsOuterRings gs outer) (anchors : HasAnchors gs) where
  -- an outer ring that encloses what g directly encloses lies round the nearest edge of g
  pub round-nearest : (r : List Edge) → In r gs → (s : Edge) → IsAnchor s r → (g : List Edge) → (d : IsDirectBy gs outer g s) → (k : List Edge) → In k gs → outer k ≡ true → encloses k s ≡ true → has_edge k d.edge ≡ false → encloses k d.edge ≡ true
  round-nearest r ir s ar g d k ik ok c nk =
      let pr = part gs n r ir in
      let cs = clear-of gs n k r s ik ir ar.member (encloses-not gs n k s c) in
      let cm = clear-of gs n k g d.edge ik d.member d.here nk in
      let x = same_beside s.from s d.edge k (rising_in r s pr ar.member) (rising_in g d.edge (part gs n g d.member) d.here) (part gs n k ik) (n.even k ik) cs cm (anchor_span s r pr (n.even r ir) ar) d.nearest.right
      (λ f i b. ⊎_elim (λ (e : f ≡ d.edge). absurd (clash (has_edge k d.edge) (has-in k d.edge (subst (λ u. In u k) e i)) nk)) (λ (b : right_of s.from d.edge f ≡ true). b)
      (d.nearest.first f (in-edges (filter (λ (h : List Edge). outer h && encloses h s) gs) k f (into-filter (λ (h : List Edge). outer h && encloses h s) gs k ik (and_from (outer k) (encloses k s) ok c)) i) b)) in
      and-make (has_edge k d.edge) (covers_edge k d.edge) nk (x ∙ encloses-in gs n k s c)

  module _ (h : List Edge) (ih : In h gs) (a : Edge) (aa : IsAnchor a h) (oh : outer h ≡ false) (q : List Edge) (iq : In q gs) (e : Edge) (ie : In e q) (se : is_in_span a.from e ≡ true)
      (right : is_right_above a.from e a ≡ true) (next : (f : Edge) → In f (edges_of gs) → is_right_above a.from e f ≡ true → (f ≡ a) ⊎ (right_of a.from a f ≡ true)) where
    abbrev p : Vector
    p = a.from

    ph : IsConflictFree h
    ph = part gs n h ih

    sa : is_in_span p a ≡ true
    sa = anchor_span a h ph (n.even h ih) aa

    ra : right_of p e a ≡ true
    ra = beyond-right p e a right

    -- the neighbour is no edge of the ring itself
    apart-by : (b : Bool) → same_edge a e ≡ b → b ≡ false
    apart-by false k = refl
    apart-by true k = let g = ap (λ w. right_of p w a) (same_edge-true a e k) in absurd (clash (right_of p e a) ra (sym g ∙ right_itself p a))

    not-own-by : (b : Bool) → has_edge h e ≡ b → b ≡ false
    not-own-by false k = refl
    not-own-by true k =
        let r = anchor-first h ph (n.even h ih) a aa e (in-has h e k) se (apart-by (same_edge a e) refl) in
        absurd (clash (right_of p a a) (right_chain p a e a sa se sa r ra) (right_itself p a))

    not-own : has_edge h e ≡ false
    not-own = not-own-by (has_edge h e) refl

    not-a-by : (b : Bool) → has_edge q a ≡ b → b ≡ false
    not-a-by false k = refl
    not-a-by true k = let s = same-ring gs n h q a ih iq aa.member k in absurd (clash (has_edge h e) (has-in h e (subst (λ l. In e l) s ie)) not-own)

    not-a : has_edge q a ≡ false
    not-a = not-a-by (has_edge q a) refl

    -- another ring is alike round both
    alike : (k : List Edge) → In k gs → has_edge k e ≡ false → has_edge k a ≡ false → covers_edge k a ≡ covers_edge k e
    alike k ik ne na =
        same_beside p e a k (rising_in q e (part gs n q iq) ie) (rising_in h a ph aa.member) (part gs n k ik) (n.even k ik) (clear-of gs n k q e ik iq ie ne) (clear-of gs n k h a ik ih aa.member na) se right
        (λ f i b. ⊎_elim (λ (s : f ≡ a). absurd (clash (has_edge k a) (has-in k a (subst (λ u. In u k) s i)) na)) (λ (r : right_of p a f ≡ true). r) (next f (in-edges gs k f ik i) b))

    -- the ring itself isn't round its neighbour
    beside-same : (t : Edge) → In t (others a h) → to_right p e t ≡ to_right p a t
    beside-same t i =
        let d = not-true-out (same_edge a t) (in-passes (λ (t : Edge). not (same_edge a t)) h t i) in
        bit-both (is_right_above p e t) (is_right_above p a t)
        (λ k. and_from (is_in_span p t) (right_of p a t) (beyond-span p e t k)
        (⊎_elim (λ (s : t ≡ a). absurd (clash (same_edge a t) (subst (λ u. same_edge a u ≡ true) (sym s) (same_edge-refl a)) d)) (λ (r : right_of p a t ≡ true). r) (next t (in-edges gs h t ih (in-filter (λ (t : Edge). not (same_edge a t)) h t i)) k)))
        (λ k. and_from (is_in_span p t) (right_of p e t) (beyond-span p a t k) (right_chain p e a t se sa (beyond-span p a t k) ra (beyond-right p a t k)))

    own-out : covers_edge h e ≡ false
    own-out =
        let b = beside p e h (rising_in q e (part gs n q iq) ie) ph (n.even h ih) (clear-of gs n h q e ih iq ie not-own) se in
        let s = split_off (to_right p e) a h ph aa.member in
        let one : to_right p e a ≡ 1 = ap bit right in
        let w = total-same (to_right p e) (to_right p a) (others a h) beside-same in
        let odd = sym (spanning_runs p a h ph (n.even h ih) aa.member sa) ∙ anchor_runs a h ph (n.even h ih) aa in
        let m : total (to_right p e) h ≡ 1 + total (to_right p a) (others a h) = omega arith in
        sym (not-not (covers_edge h e)) ∙ ap not (sym b ∙ ap is_even m ∙ even-one (total (to_right p a) (others a h)) odd)

    -- who encloses the ring and who its neighbour: the neighbour's own ring makes the difference
    enclose-by : (k : List Edge) → In k gs → (b c : Bool) → has_edge k e ≡ b → has_edge k a ≡ c → bit (not c && covers_edge k a) ≡ bit (not b && covers_edge k e) + cond b (bit (covers_edge q a)) 0
    enclose-by k ik true true x y = absurd (clash (has_edge q a) (subst (λ l. has_edge l a ≡ true) (same-ring gs n q k e iq ik ie x) y) not-a)
    enclose-by k ik true false x y = let w = ap (λ l. bit (covers_edge l a)) (same-ring gs n q k e iq ik ie x) in omega arith
    enclose-by k ik false true x y =
        let s = same-ring gs n h k a ih ik aa.member y in
        let z : covers_edge k e ≡ false = ap (λ l. covers_edge l e) s ∙ own-out in let w = ap bit z in omega arith
    enclose-by k ik false false x y = let w = ap bit (alike k ik x y) in omega arith

    depths : depth gs a ≡ depth gs e + bit (covers_edge q a)
    depths =
        let f = λ (k : List Edge). bit (encloses k e) in let g = λ (k : List Edge). cond (has_edge k e) (bit (covers_edge q a)) 0 in
        let s = total-same (λ (k : List Edge). bit (encloses k a)) (λ (k : List Edge). f k + g k) gs (λ k i. enclose-by k i (has_edge k e) (has_edge k a) refl refl) in
        let t = total-+ f g gs in
        let u = total-same g (λ (k : List Edge). cond (covers_edge q a) (bit (has_edge k e)) 0) gs (λ k i. cond-times (covers_edge q a) (has_edge k e)) ∙ cond-out (covers_edge q a) (λ k. has_edge k e) gs
        ∙ ap (λ m. cond (covers_edge q a) m 0) (has_once gs e n.plain (in-edges gs q e iq ie)) in
        let v : cond (covers_edge q a) 1 0 ≡ bit (covers_edge q a) = refl in
        let x = depth-total gs a in let y = depth-total gs e in omega arith

    a-odd : is_even (depth gs a) ≡ false
    a-odd = sym (outer_depth gs n h a ih aa) ∙ sym (tells h ih a aa) ∙ oh

    e-depth : (b : Edge) → IsAnchor b q → is_even (depth gs e) ≡ outer q
    e-depth b ab = ap is_even (depth_same gs n q e b iq ie ab.member) ∙ sym (outer_depth gs n q b iq ab) ∙ sym (tells q iq b ab)

    covers-by : (m d : ℕ) (x : Bool) → m ≡ d + bit x → is_even m ≡ false → is_even d ≡ true → x ≡ true
    covers-by m d true h k l = refl
    covers-by m d false h k l = let e : m ≡ d = omega arith in absurd (clash (is_even d) l (ap is_even (sym e) ∙ k))

    not-a-of : (k : List Edge) → In k gs → outer k ≡ true → (b : Bool) → has_edge k a ≡ b → b ≡ false
    not-a-of k ik o false x = refl
    not-a-of k ik o true x = absurd (clash (outer k) o (ap outer (same-ring gs n h k a ih ik aa.member x) ∙ oh))

    -- the neighbour's ring is outer: it directly encloses
    module _ (oq : outer q ≡ true) where
      q-round : encloses q a ≡ true
      q-round = let b = anchors q iq in and-make (has_edge q a) (covers_edge q a) not-a (covers-by (depth gs a) (depth gs e) (covers_edge q a) depths a-odd (e-depth b.0 b.1 ∙ oq))

      is-q : (g : List Edge) → (d : IsDirectBy gs outer g a) → (b : Bool) → has_edge g e ≡ b → g ≡ q
      is-q g d true x = same-ring gs n q g e iq d.member ie x
      is-q g d false x =
          let na = encloses-not gs n g a d.around in
          let c1 = and-make (has_edge g e) (covers_edge g e) x (sym (alike g d.member x na) ∙ encloses-in gs n g a d.around) in
          let nm = not-m (has_edge q d.edge) refl in
          let c2 = round-nearest h ih a aa g d q iq oq q-round nm in
          absurd (not-both gs n g q e d.edge d.member iq ie d.here c1 c2)
        where
          not-m : (b : Bool) → has_edge q d.edge ≡ b → b ≡ false
          not-m false y = refl
          not-m true y = let s = same-ring gs n g q d.edge d.member iq d.here y in absurd (clash (has_edge g e) (has-in g e (subst (λ l. In e l) s ie)) x)

      pub outer_neighbour : IsDirectBy gs outer q a
      outer_neighbour = let d = direct_exists gs n outer tells anchors h ih a aa oh in subst (λ g. IsDirectBy gs outer g a) (is-q d.0 d.1 (has_edge d.0 e) refl) d.1

    -- it is inner: what directly encloses it directly encloses this one too
    module _ (oq : outer q ≡ false) (b : Edge) (ab : IsAnchor b q) where
      not-e-of : (k : List Edge) → In k gs → outer k ≡ true → (c : Bool) → has_edge k e ≡ c → c ≡ false
      not-e-of k ik o false x = refl
      not-e-of k ik o true x = absurd (clash (outer k) o (ap outer (same-ring gs n q k e iq ik ie x) ∙ oq))

      module _ (g : List Edge) (d : IsDirectBy gs outer g b) (g' : List Edge) (d' : IsDirectBy gs outer g' a) where
        g-round : encloses g a ≡ true
        g-round =
            let ne = not-e-of g d.member d.is (has_edge g e) refl in let na = not-a-of g d.member d.is (has_edge g a) refl in
            and-make (has_edge g a) (covers_edge g a) na (alike g d.member ne na ∙ encloses-in gs n g e (sym (encloses_same gs n g q b e d.member iq ab.member ie) ∙ d.around))

        g'-round : encloses g' b ≡ true
        g'-round =
            let ne = not-e-of g' d'.member d'.is (has_edge g' e) refl in let na = encloses-not gs n g' a d'.around in
            sym (encloses_same gs n g' q e b d'.member iq ie ab.member) ∙ and-make (has_edge g' e) (covers_edge g' e) ne (sym (alike g' d'.member ne na) ∙ encloses-in gs n g' a d'.around)

        one-by : (c : Bool) → has_edge g' d.edge ≡ c → g' ≡ g
        one-by true x = same-ring gs n g g' d.edge d.member d'.member d.here x
        one-by false x =
            let c1 = round-nearest h ih a aa g' d' g d.member d.is g-round (other (has_edge g d'.edge) refl) in
            let c2 = round-nearest q iq b ab g d g' d'.member d'.is g'-round x in
            absurd (not-both gs n g g' d'.edge d.edge d.member d'.member d'.here d.here c1 c2)
          where
            other : (c : Bool) → has_edge g d'.edge ≡ c → c ≡ false
            other false y = refl
            other true y = let s = same-ring gs n g' g d'.edge d'.member d.member d'.here y in absurd (clash (has_edge g' d.edge) (has-in g' d.edge (subst (λ l. In d.edge l) s d.here)) x)

      pub inner_neighbour : (g : List Edge) → IsDirectBy gs outer g b → IsDirectBy gs outer g a
      inner_neighbour g d = let d' = direct_exists gs n outer tells anchors h ih a aa oh in subst (λ k. IsDirectBy gs outer k a) (one-by g d d'.0 d'.1 (has_edge d'.0 d.edge) refl) d'.1
