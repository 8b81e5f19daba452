-- A sorted list of ends: the different ones in order, and how many stand up to each.
use Rattle.std.proofs.Common.{All, Bool, List, [], ap, arith, cond, false, get_or, inl, inr, length, not, refl, subst, sym, true, ℕ, suc, ◌++◌, ◌+◌, ◌-◌, ◌&&◌, ◌∙◌, ◌∷◌, ◌≡◌, ◌||◌, ◌⊎◌}
use Rattle.std.specs.List.Sorted.{IsSortedBy}
use Rattle.plane.specs.Bit.{bit}
use Rattle.plane.specs.Sign.{Minus, Null, Plus, Sign, is_minus, is_null, is_plus, negated}
use Rattle.lists.specs.Member.{EachPair, In}
use Rattle.plane_lists.specs.Lists.Parity.{is_even}
use Rattle.osm_geom.specs.declared.cut.Cut.{Cut}
use Rattle.osm_geom.specs.declared.cut.Side.{Side}
use Rattle.osm_geom.specs.declared.cut.Side.TheVariants.{Low, High}
use Rattle.osm_geom.specs.declared.edge.Edge.{Edge}
use Rattle.osm_geom.specs.declared.point.Point.{Point}
use Rattle.osm_geom.specs.Cut.{cut_order, side_by, side_of}
use Rattle.osm_geom.specs.Point.{point_order}
use Rattle.coast_split.specs.Half.{AreLinksFrom, ArePortions, IsPortion, IsPortionEnd, NextLink, NextPortion, ends_up_to, has_portion, is_up_to, line_order, lower_of, runs_forward}
use Rattle.coast_split.specs.Walk.{IsWalkFrom, end_on, ends_on, is_skipped, up_to_lower}
use Rattle.lists.proofs.ListsKit.{all-in, in-all, or-out, total}
use Rattle.coast_split.proofs.LineOrders.{R, later, line-back, line-same, plus-then, then-plus}
use Rattle.coast_split.proofs.Walks.{line-self}
use Rattle.plane.proofs.SignKit.{not-minus-back, is_plus-true}
use Rattle.std.proofs.lemmas.Bool.{and_right, or_left, or_right}

module _ (cut : Cut) (s : Side) where
  -- ---- sorted, from one to the next
  abbrev pub IsChain : Point → List Point → Type 0
  IsChain z [] = Unit {0}
  IsChain z (w ∷ r) = (not (is_minus (R cut s z w)) ≡ true) × IsChain w r

  tail-at : (x : Point) (xs : List Point) (k : ℕ) (d : Point) → get_or (x ∷ xs) (k + 1) d ≡ get_or xs k d
  tail-at x xs k d = let e : k + 1 ≡ suc k = omega arith in ap (λ j. get_or (x ∷ xs) j d) e

  not-plus-back : (z w : Point) → is_plus (R cut s w z) ≡ false → not (is_minus (R cut s z w)) ≡ true
  not-plus-back z w h = not-minus-back (R cut s w z) (R cut s z w) (line-back cut s w z) h

  pub chain-of : (z : Point) (r : List Point) → IsSortedBy (λ (p q : Point). is_plus (line_order cut s p q)) (z ∷ r) → IsChain z r
  chain-of z [] h = tt
  chain-of z (w ∷ r) h = (
    not-plus-back z w (h 0 z (omega arith) (omega arith)),
    chain-of w r (λ k d from within.
        subst (λ x. is_plus (line_order cut s x (get_or (w ∷ r) k d)) ≡ false) (tail-at z (w ∷ r) (k + 1) d)
        (subst (λ x. is_plus (line_order cut s (get_or (z ∷ w ∷ r) ((k + 1) + 1) d) x) ≡ false) (tail-at z (w ∷ r) k d) (h (k + 1) d (omega arith) (omega arith)))),
  )

  pub chain-all : (z : Point) (r : List Point) → IsChain z r → (v : Point) → In v r → not (is_minus (R cut s z v)) ≡ true
  chain-all z [] h v i = absurd i
  chain-all z (w ∷ r) h v (inl e) = ap (λ x. not (is_minus (R cut s z x))) e ∙ h.0
  chain-all z (w ∷ r) h v (inr i) = later cut s z w v h.0 (chain-all w r h.1 v i)

  -- ---- the different ones
  abbrev pub different : Point → List Point → List Point
  different z [] = []
  different z (w ∷ r) = cond (is_plus (R cut s z w)) (w ∷ different w r) (different w r)

  level : (o : Sign) → not (is_minus o) ≡ true → is_plus o ≡ false → o ≡ Null
  level Null h k = refl
  level Plus h k = absurd (cc k)
  level Minus h k = absurd (cc h)

  in-cond : (b : Bool) (w : Point) (xs : List Point) (v : Point) → In v (cond b (w ∷ xs) xs) → In v (w ∷ xs)
  in-cond true w xs v i = i
  in-cond false w xs v i = inr i

  in-rest : (w : Point) (xs ys : List Point) (v : Point) → (In v xs → In v ys) → In v (w ∷ xs) → In v (w ∷ ys)
  in-rest w xs ys v f (inl e) = inl e
  in-rest w xs ys v f (inr i) = inr (f i)

  pub different-in : (z : Point) (r : List Point) (v : Point) → In v (different z r) → In v r
  different-in z [] v i = i
  different-in z (w ∷ r) v i = in-rest w (different w r) r v (different-in w r v) (in-cond (is_plus (R cut s z w)) w (different w r) v i)

  into-by : (b : Bool) (z w : Point) (xs : List Point) (v : Point) → (b ≡ false → z ≡ w) → In v (w ∷ xs) → In v (z ∷ cond b (w ∷ xs) xs)
  into-by true z w xs v e i = inr i
  into-by false z w xs v e (inl h) = inl (h ∙ sym (e refl))
  into-by false z w xs v e (inr i) = inr i

  first-in : (z : Point) (xs : List Point) (v : Point) → v ≡ z → In v (z ∷ xs)
  first-in z xs v e = inl e

  pub one-of : (z w : Point) → not (is_minus (R cut s z w)) ≡ true → is_plus (R cut s z w) ≡ false → z ≡ w
  one-of z w h k = line-same cut s z w (level (R cut s z w) h k)

  pub into-different : (z : Point) (r : List Point) → IsChain z r → (v : Point) → In v (z ∷ r) → In v (z ∷ different z r)
  into-different z r h v (inl e) = inl e
  into-different z [] h v (inr i) = absurd i
  into-different z (w ∷ r) h v (inr i) = into-by (is_plus (R cut s z w)) z w (different w r) v (one-of z w h.0) (into-different w r h.1 v i)

  all-after : (z w : Point) (xs : List Point) → R cut s z w ≡ Plus → All (λ v. R cut s w v ≡ Plus) xs → (v : Point) → In v (w ∷ xs) → R cut s z v ≡ Plus
  all-after z w xs e h v (inl i) = ap (R cut s z) i ∙ e
  all-after z w xs e h v (inr i) = plus-then cut s z w v e (ap (λ o. not (is_minus o)) (in-all (λ v. R cut s w v ≡ Plus) xs v h i))

  rising-by : (b : Bool) → (z w : Point) (xs : List Point) → is_plus (R cut s z w) ≡ b → not (is_minus (R cut s z w)) ≡ true → EachPair (λ p q. R cut s p q ≡ Plus) (w ∷ xs) → EachPair (λ p q. R cut s p q ≡ Plus) (z ∷ cond b (w ∷ xs) xs)
  rising-by true z w xs k h g = (
    all-in (λ v. R cut s z v ≡ Plus) (w ∷ xs) (λ v i. all-after z w xs (is_plus-true (R cut s z w) k) g.0 v i),
    g,
  )
  rising-by false z w xs k h g = subst (λ x. EachPair (λ p q. R cut s p q ≡ Plus) (x ∷ xs)) (sym (one-of z w h k)) g

  pub rising : (z : Point) (r : List Point) → IsChain z r → EachPair (λ p q. R cut s p q ≡ Plus) (z ∷ different z r)
  rising z [] h = (all-in (λ v. R cut s z v ≡ Plus) [] (λ v i. absurd i), tt)
  rising z (w ∷ r) h = rising-by (is_plus (R cut s z w)) z w (different w r) refl h.0 (rising w r h.1)

  -- ---- how many ends stand up to a point in the order of points
  abbrev pub up_to : Point → Point → ℕ
  up_to p e = bit (not (is_minus (point_order e p)))

  pub all-one : (f : Point → ℕ) (xs : List Point) → ((v : Point) → In v xs → f v ≡ 1) → total f xs ≡ length xs
  all-one f [] h = refl
  all-one f (x ∷ xs) h = let a = h x (inl refl) in let b = all-one f xs (λ v i. h v (inr i)) in omega arith

  pub all-none : (f : Point → ℕ) (xs : List Point) → ((v : Point) → In v xs → f v ≡ 0) → total f xs ≡ 0
  all-none f [] h = refl
  all-none f (x ∷ xs) h = let a = h x (inl refl) in let b = all-none f xs (λ v i. h v (inr i)) in omega arith

-- the walk stands at z, the i-th of n ends; the ends before it are `front`
pub record Stands (cut : Cut) (s : Side) (ts : List Edge) (n i : ℕ) (front : List Point) (z : Point) (r : List Point) : Type 0 where
  pub chain : IsChain cut s z r
  pub before : (v : Point) → In v front → not (is_minus (R cut s v z)) ≡ true
  pub place : i ≡ length front + 1
  pub count : n ≡ i + length r
  pub ends : (p : Point) → ends_up_to cut ts p ≡ total (up_to cut s p) front + (up_to cut s p z + total (up_to cut s p) r)

module _ (cut : Cut) (s : Side) (ts : List Edge) where
  abbrev O : Point → Point → Sign
  O = R cut s

  minus-of : (p q : Point) → O p q ≡ Plus → O q p ≡ Minus
  minus-of p q h = line-back cut s p q ∙ ap negated h

  self-one : (p : Point) → not (is_minus (O p p)) ≡ true
  self-one p = ap (λ o. not (is_minus o)) (line-self cut s p)

  one-bit : (o : Sign) → not (is_minus o) ≡ true → bit (not (is_minus o)) ≡ 1
  one-bit o h = ap bit h

  none-bit : (o : Sign) → o ≡ Minus → bit (not (is_minus o)) ≡ 0
  none-bit o h = ap (λ x. bit (not (is_minus x))) h

  module _ (n i : ℕ) (front : List Point) (z w : Point) (r : List Point) (st : Stands cut s ts n i front z (w ∷ r)) (apart : O z w ≡ Plus) where
    after : (v : Point) → In v (w ∷ r) → O z v ≡ Plus
    after v (inl e) = ap (O z) e ∙ apart
    after v (inr j) = plus-then cut s z w v apart (chain-all cut s w r st.chain.1 v j)

    forth : runs_forward cut.axis s ≡ true → (p q : Point) → O p q ≡ point_order p q
    forth h p q = ap (λ b. cond b (point_order p q) (point_order q p)) h

    back : runs_forward cut.axis s ≡ false → (p q : Point) → O p q ≡ point_order q p
    back h p q = ap (λ b. cond b (point_order p q) (point_order q p)) h

    forward-count : runs_forward cut.axis s ≡ true → ends_up_to cut ts z ≡ i
    forward-count h =
        let f = λ (v : Point). up_to cut s z v in
        let a = all-one cut s f front (λ v j. one-bit (point_order v z) (ap (λ o. not (is_minus o)) (sym (forth h v z)) ∙ st.before v j)) in
        let b = one-bit (point_order z z) (ap (λ o. not (is_minus o)) (sym (forth h z z)) ∙ self-one z) in
        let c = all-none cut s f (w ∷ r) (λ v j. none-bit (point_order v z) (sym (forth h v z) ∙ minus-of z v (after v j))) in
        let e = st.ends z in let p = st.place in omega arith

    from-w : (v : Point) → In v (w ∷ r) → not (is_minus (O w v)) ≡ true
    from-w v (inl e) = ap (λ x. not (is_minus (O w x))) e ∙ self-one w
    from-w v (inr j) = chain-all cut s w r st.chain.1 v j

    backward-count : runs_forward cut.axis s ≡ false → ends_up_to cut ts w ≡ n - i
    backward-count h =
        let f = λ (v : Point). up_to cut s w v in
        let a = all-none cut s f front (λ v j. none-bit (point_order v w) (sym (back h w v) ∙ minus-of v w (then-plus cut s v z w (st.before v j) apart))) in
        let b = none-bit (point_order z w) (sym (back h w z) ∙ minus-of z w apart) in
        let c = all-one cut s f (w ∷ r) (λ v j. one-bit (point_order v w) (ap (λ o. not (is_minus o)) (sym (back h w v)) ∙ from-w v j)) in
        let e = st.ends w in let p = st.place in let q = st.count in omega arith

    test-by : (b : Bool) → runs_forward cut.axis s ≡ b → is_even (cond b i (n - i)) ≡ is_even (ends_up_to cut ts (cond b z w))
    test-by true h = ap is_even (sym (forward-count h))
    test-by false h = ap is_even (sym (backward-count h))

    pub test : is_even (up_to_lower cut s n i) ≡ is_even (ends_up_to cut ts (lower_of cut s z w))
    test = test-by (runs_forward cut.axis s) refl

  next-before : (z w : Point) (front : List Point) → not (is_minus (O z w)) ≡ true → ((v : Point) → In v front → not (is_minus (O v z)) ≡ true) → (v : Point) → In v (z ∷ front) → not (is_minus (O v w)) ≡ true
  next-before z w front h f v (inl e) = ap (λ x. not (is_minus (O x w))) e ∙ h
  next-before z w front h f v (inr j) = later cut s v z w (f v j) h

  next-stands : (n i : ℕ) (front : List Point) (z w : Point) (r : List Point) → Stands cut s ts n i front z (w ∷ r) → Stands cut s ts n (i + 1) (z ∷ front) w r
  next-stands n i front z w r st = record {
    chain = st.chain.1;
    before = next-before z w front st.chain.0 st.before;
    place = let a = st.place in omega arith;
    count = let a = st.count in omega arith;
    ends = λ p. let a = st.ends p in omega arith;
  }

  next-map : (z w : Point) (b : Bool) (P Q : List Edge → Type 0) (ls : List Edge) → ((us : List Edge) → P us → Q us) → NextLink cut z w b P ls → NextLink cut z w b Q ls
  next-map z w true P Q ls f h = f ls h
  next-map z w false P Q [] f h = absurd h
  next-map z w false P Q (e ∷ ls) f h = (h.0, f ls h.1)

  links-by : (z w : Point) (D : List Point) (ls : List Edge) (P : List Edge → Type 0) (skip even exact : Bool) (b : Bool) → is_plus (O z w) ≡ b → not (is_minus (O z w)) ≡ true → skip ≡ (not b || even) → (b ≡ true → even ≡ is_even (ends_up_to cut ts (lower_of cut s z w))) →
      ((us : List Edge) → P us → AreLinksFrom cut s ts w D us) → NextLink cut z w skip P ls → AreLinksFrom cut s ts z (cond b (w ∷ D) D) ls
  links-by z w D ls P skip even exact true k h e t f n =
      next-map z w (is_even (ends_up_to cut ts (lower_of cut s z w))) P (AreLinksFrom cut s ts w D) ls f (subst (λ x. NextLink cut z w x P ls) (e ∙ t refl) n)
  links-by z w D ls P skip even exact false k h e t f n =
      subst (λ x. AreLinksFrom cut s ts x D ls) (sym (one-of cut s z w h k)) (f ls (subst (λ x. NextLink cut z w x P ls) e n))

  pub links-of : (n i : ℕ) (front : List Point) (z : Point) (r : List Point) (ls : List Edge) → Stands cut s ts n i front z r → IsWalkFrom cut s n i z r ls → AreLinksFrom cut s ts z (different cut s z r) ls
  links-of n i front z [] ls st h = h
  links-of n i front z (w ∷ r) ls st h =
      links-by z w (different cut s w r) ls (IsWalkFrom cut s n (i + 1) w r) (is_skipped cut s n i z w) (is_even (up_to_lower cut s n i)) true (is_plus (O z w)) refl st.chain.0 refl
      (λ k. test n i front z w r st (is_plus-true (O z w) k))
      (λ us u. links-of n (i + 1) (z ∷ front) w r us (next-stands n i front z w r st) u) h

-- ---- the ends of the parts
plus-side : (s : Side) (o : Sign) → is_plus (side_by s o) ≡ true → is_null o ≡ false
plus-side Low Plus h = refl
plus-side Low Null h = absurd (cc h)
plus-side Low Minus h = absurd (cc h)
plus-side High Minus h = refl
plus-side High Null h = absurd (cc h)
plus-side High Plus h = absurd (cc h)

module _ (cut : Cut) (s : Side) where
  kept-end : (e : Edge) (v w : Point) (o : Sign) → side_of cut s v ≡ o → is_plus o ≡ true → IsPortionEnd cut e.carrier v w o → is_plus (side_of cut s w) ≡ true
  kept-end e v w Plus h k i = ap (λ p. is_plus (side_of cut s p)) i ∙ ap is_plus h
  kept-end e v w Null h k i = absurd (cc k)
  kept-end e v w Minus h k i = absurd (cc k)

  portion-by : (e t : Edge) → IsPortion cut s e t → (is_plus (side_of cut s e.from) ≡ true) ⊎ (is_plus (side_of cut s e.to) ≡ true) → has_portion cut s t ≡ true
  portion-by e t i (inl h) = or_left (is_plus (side_of cut s t.from)) (is_plus (side_of cut s t.to)) (kept-end e e.from t.from (side_of cut s e.from) refl h i.from)
  portion-by e t i (inr h) = or_right (is_plus (side_of cut s t.from)) (is_plus (side_of cut s t.to)) (kept-end e e.to t.to (side_of cut s e.to) refl h i.to)

  kept-step : (e : Edge) (es : List Edge) (b : Bool) → has_portion cut s e ≡ b → (ts : List Edge) → ((us : List Edge) → ArePortions cut s es us → (t : Edge) → In t us → has_portion cut s t ≡ true) → NextPortion cut s e b (ArePortions cut s es) ts → (t : Edge) → In t ts → has_portion cut s t ≡ true
  kept-step e es false h ts f n t i = f ts n t i
  kept-step e es true h [] f n t i = absurd i
  kept-step e es true h (u ∷ us) f n t (inl k) = ap (has_portion cut s) k ∙ portion-by e u n.0 (or-out (is_plus (side_of cut s e.from)) (is_plus (side_of cut s e.to)) h)
  kept-step e es true h (u ∷ us) f n t (inr i) = f us n.1 t i

  pub portions-kept : (es ts : List Edge) → ArePortions cut s es ts → (t : Edge) → In t ts → has_portion cut s t ≡ true
  portions-kept [] ts h t i = absurd (subst (In t) h i)
  portions-kept (e ∷ es) ts h t i = kept-step e es (has_portion cut s e) refl ts (λ us p. portions-kept es us p) h t i

  never-both-by : (t : Edge) → (is_plus (side_of cut s t.from) ≡ true) ⊎ (is_plus (side_of cut s t.to) ≡ true) → (is_null (cut_order cut t.from) && is_null (cut_order cut t.to)) ≡ false
  never-both-by t (inl h) = ap (λ b. b && is_null (cut_order cut t.to)) (plus-side s (cut_order cut t.from) h)
  never-both-by t (inr h) = ap (λ b. is_null (cut_order cut t.from) && b) (plus-side s (cut_order cut t.to) h) ∙ and_right (is_null (cut_order cut t.from)) false refl

  never-both : (t : Edge) → has_portion cut s t ≡ true → (is_null (cut_order cut t.from) && is_null (cut_order cut t.to)) ≡ false
  never-both t h = never-both-by t (or-out (is_plus (side_of cut s t.from)) (is_plus (side_of cut s t.to)) h)

  or-bits : (a b x y : Bool) → (a && b) ≡ false → bit ((a && x) || (b && y)) ≡ cond a (bit x) 0 + cond b (bit y) 0
  or-bits true true x y h = absurd (cc h)
  or-bits true false true y h = refl
  or-bits true false false y h = refl
  or-bits false true x y h = omega arith
  or-bits false false x y h = refl

  end-total : (f : Point → ℕ) (p : Point) (b : Bool) (rest : List Point) → total f (cond b (p ∷ []) [] ++ rest) ≡ cond b (f p) 0 + total f rest
  end-total f p true rest = refl
  end-total f p false rest = omega arith

  pub count-ends : (p : Point) (ts : List Edge) → ((t : Edge) → In t ts → has_portion cut s t ≡ true) → total (λ (t : Edge). bit (is_up_to cut p t.from || is_up_to cut p t.to)) ts ≡ total (up_to cut s p) (ends_on cut ts)
  count-ends p [] h = refl
  count-ends p (t ∷ ts) h =
      let f = up_to cut s p in
      let a = end-total f t.from (is_null (cut_order cut t.from)) (end_on cut t.to ++ ends_on cut ts) in
      let b = end-total f t.to (is_null (cut_order cut t.to)) (ends_on cut ts) in
      let c = or-bits (is_null (cut_order cut t.from)) (is_null (cut_order cut t.to)) (not (is_minus (point_order t.from p))) (not (is_minus (point_order t.to p))) (never-both t (h t (inl refl))) in
      let d = count-ends p ts (λ u i. h u (inr i)) in omega arith
  -- ---- what the ends are
