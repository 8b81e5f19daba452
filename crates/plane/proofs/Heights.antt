-- Two edges that span a height: their order just above it, and that it persists where they don't conflict.
use Rattle.std.proofs.Common.{Bool, ap, arith, false, not, refl, subst, sym, true, ◌&&◌, ◌∙◌, ◌≡◌}
use borrow.Author.Differences.{ints}
use lib.IntN.{pos, ℤ, ◌*ℤ◌, ◌+ℤ◌, ◌-ℤ◌}
use Rattle.plane.specs.Conflict.{IsClearOf}
use Rattle.plane.specs.Edge.{Edge}
use Rattle.plane.specs.Height.{distance_right, is_in_span, is_right_above, order_above}
use Rattle.plane.specs.Order.{order}
use Rattle.plane.specs.Sign.{Minus, Null, Plus, Sign, is_null, is_plus, negated, sign, then_sign}
use Rattle.plane.specs.Vector.{Vector, cross, east, from_to, orient}
use Rattle.std.proofs.lemmas.Bool.{and_from, and_right, false_from_ne_true}
use Rattle.lists.proofs.ListsKit.{and-left, and-right}
use Rattle.plane.proofs.Conflicts.{conflict_by, conflicts-by}
use Rattle.plane.proofs.Identities.{apart, lift, same, ◌⊞◌, ◌⊟◌, ◌⊠◌}
use Rattle.plane.proofs.Products.{cross-from-here, cross-here, cross-negated, cross-self, dot-east, orient-round, plucker-agree, plucker-dot-agree, side-moves}
use Rattle.plane.proofs.RayCrossings.{cross-east, rise-y}
use Rattle.plane.proofs.Signs.{agree, agree-sum, all, all-out, all2, all2-out, all4-out, imp, imp-out, is_plus-true, plus-times, same_bool, same_bool-true, same_sign, same_sign-true, sign-*, sign-reversed, times, times-plus, agree-back}

abbrev pub step_of : Edge → Vector
step_of t = from_to t.from t.to

-- f is right of e at the height of p and just above it
abbrev pub right_of : Vector → Edge → Edge → Bool
right_of p e f = is_plus (order_above p e f)

-- ---- signs of an edge that spans the height
abbrev tall : Sign → Sign → Sign → Bool
tall yu dy yv = imp (agree yu dy yv) λ _. imp (not (is_plus yu) && is_plus yv) λ _. same_sign dy Plus

pub tall-by : (p : Vector) (t : Edge) → is_in_span p t ≡ true → sign (t.to.y -ℤ t.from.y) ≡ Plus
tall-by p t h =
    let yu = sign (t.from.y -ℤ p.y) in let yv = sign (t.to.y -ℤ p.y) in let dy = sign (t.to.y -ℤ t.from.y) in
    let c = all-out (λ v. tall yu dy v) (all2-out (λ a b. all (λ v. tall a b v)) refl yu dy) yv in
    same_sign-true dy Plus (imp-out _ _ (imp-out _ _ c (rise-y p t.from t.to)) h)

-- ---- the order
abbrev then_chain : Sign → Sign → Sign → Sign → Bool
then_chain k l k' l' = all2 λ m m'. imp (agree k l m) λ _. imp (agree k' l' m') λ _. imp (is_plus (then_sign k k')) λ _. imp (is_plus (then_sign l l')) λ _. is_plus (then_sign m m')

pub right_chain : (p : Vector) (a b c : Edge) → is_in_span p a ≡ true → is_in_span p b ≡ true → is_in_span p c ≡ true → right_of p a b ≡ true → right_of p b c ≡ true → right_of p a c ≡ true
right_chain p a b c sa sb sc h g =
    let A = distance_right p a in let B = distance_right p b in let C = distance_right p c in
    let E = step_of a in let F = step_of b in let G = step_of c in
    let x = rw (dot-east A, dot-east B, dot-east C, tall-by p a sa, tall-by p b sb, tall-by p c sc, times-plus (sign (cross B C)), times-plus (sign (cross A B)), times-plus (sign (cross A C))) at (plucker-dot-agree east A B C) in
    let y = rw (cross-east G, cross-east F, cross-east E, tall-by p a sa, tall-by p b sb, tall-by p c sc, times-plus (sign (cross F E)), times-plus (sign (cross G F)), times-plus (sign (cross G E))) at (plucker-agree east G F E) in
    let k = all2-out (λ m m'. imp (agree (sign (cross A B)) (sign (cross B C)) m) λ _. imp (agree (sign (cross F E)) (sign (cross G F)) m') λ _. imp (is_plus (then_sign (sign (cross A B)) (sign (cross F E)))) λ _. imp (is_plus (then_sign (sign (cross B C)) (sign (cross G F)))) λ _. is_plus (then_sign m m'))
    (all4-out then_chain refl (sign (cross A B)) (sign (cross B C)) (sign (cross F E)) (sign (cross G F))) (sign (cross A C)) (sign (cross G E)) in
    imp-out _ _ (imp-out _ _ (imp-out _ _ (imp-out _ _ k (agree-back _ _ _ x)) y) h) g

pub right_itself : (p : Vector) (a : Edge) → right_of p a a ≡ false
right_itself p a = rw (cross-self (distance_right p a), cross-self (step_of a)) refl

abbrev then_either : Sign → Sign → Bool
then_either k l = imp (not (is_null (then_sign k l))) λ _. same_bool (is_plus (then_sign k l)) (not (is_plus (then_sign (negated k) (negated l))))

pub right_either : (p : Vector) (a b : Edge) → not (is_null (order_above p a b)) ≡ true → right_of p a b ≡ not (right_of p b a)
right_either p a b n =
    let k = sign (cross (distance_right p a) (distance_right p b)) in let l = sign (cross (step_of b) (step_of a)) in
    same_bool-true _ _ (imp-out _ _ (all2-out then_either refl k l) n)
    ∙ ap (λ s. not (is_plus (then_sign s (negated l)))) (sym (cross-negated (distance_right p a) (distance_right p b))) ∙ ap (λ s. not (is_plus (then_sign (sign (cross (distance_right p b) (distance_right p a))) s))) (sym (cross-negated (step_of b) (step_of a)))

pub zero-part : (x y z w d : ℤ) → y ≡ pos 0 → z ≡ d → x *ℤ z -ℤ y *ℤ w ≡ x *ℤ d
zero-part x y z w d e f =
    let x' = lift x in let w' = lift w in let d' = lift d in
    ap (λ k. x *ℤ k -ℤ y *ℤ w) f ∙ ap (λ k. x *ℤ d -ℤ k *ℤ w) e ∙ same (x' ⊠ d' ⊟ lift (pos 0) ⊠ w') (x' ⊠ d') (omega arith)

-- ---- the order persists: how the distance of two edges changes with the height
slope-by : (px py ex ey fx fy : ℤ) → ey *ℤ (px *ℤ fy -ℤ py *ℤ fx) -ℤ (px *ℤ ey -ℤ py *ℤ ex) *ℤ fy +ℤ py *ℤ (fx *ℤ ey -ℤ fy *ℤ ex) ≡ pos 0
slope-by px py ex ey fx fy =
    let a = lift px in let b = lift py in let c = lift ex in let d = lift ey in let u = lift fx in let v = lift fy in
    same (d ⊠ (a ⊠ v ⊟ b ⊠ u) ⊟ (a ⊠ d ⊟ b ⊠ c) ⊠ v ⊞ b ⊠ (u ⊠ d ⊟ v ⊠ c)) (lift (pos 0)) (omega arith)

distance-by : (ey fy Cfp Cfw Cep Cew Xf Xe Z : ℤ) → Cfw +ℤ Xf ≡ Cfp → Cew +ℤ Xe ≡ Cep → ey *ℤ Xf -ℤ Xe *ℤ fy +ℤ Z ≡ pos 0 → (ey *ℤ Cfp -ℤ Cep *ℤ fy) +ℤ Z ≡ ey *ℤ Cfw -ℤ Cew *ℤ fy
distance-by ey fy Cfp Cfw Cep Cew Xf Xe Z h k z =
    let a = lift ey in let b = lift fy in let c = lift Cfp in let d = lift Cfw in let u = lift Cep in let v = lift Cew in let x = lift Xf in let y = lift Xe in let w = lift Z in
    same ((a ⊠ c ⊟ u ⊠ b) ⊞ w) (a ⊠ d ⊟ v ⊠ b)
    (omega (arith, apart (a ⊠ (d ⊞ x)) (a ⊠ c) (ap (λ (t : ℤ). ey *ℤ t) h), apart ((v ⊞ y) ⊠ b) (u ⊠ b) (ap (λ (t : ℤ). t *ℤ fy) k), apart (a ⊠ x ⊟ y ⊠ b ⊞ w) (lift (pos 0)) z))

pub distance-change : (p w : Vector) (e f : Edge) →
    cross (distance_right p e) (distance_right p f) +ℤ (w.y -ℤ p.y) *ℤ cross (step_of f) (step_of e) ≡ cross (distance_right w e) (distance_right w f)
distance-change p w e f =
    let d = step_of e in let c = step_of f in
    distance-by d.y c.y (cross (from_to p f.from) (from_to p f.to)) (cross (from_to w f.from) (from_to w f.to)) (cross (from_to p e.from) (from_to p e.to)) (cross (from_to w e.from) (from_to w e.to))
    (cross (from_to p w) c) (cross (from_to p w) d) ((w.y -ℤ p.y) *ℤ cross c d)
    (side-moves p w f.from f.to) (side-moves p w e.from e.to) (slope-by (w.x -ℤ p.x) (w.y -ℤ p.y) d.x d.y c.x c.y)

pub zero-end : (x y z w d : ℤ) → z ≡ pos 0 → x *ℤ z -ℤ y *ℤ w ≡ pos 0 -ℤ w *ℤ y
zero-end x y z w d e =
    let x' = lift x in let y' = lift y in let w' = lift w in
    ap (λ k. x *ℤ k -ℤ y *ℤ w) e ∙ same (x' ⊠ lift (pos 0) ⊟ y' ⊠ w') (lift (pos 0) ⊟ w' ⊠ y') (omega arith)

-- the signs of the distance at a height (x), of its slope (k) and of the distance at a greater height (y): the order would change between the two
abbrev swaps : Sign → Sign → Sign → Bool
swaps x k y = not (is_null x) && (same_sign k (negated x) && not (same_sign y x))

abbrev stays : Sign → Sign → Sign → Bool
stays x k y = imp (agree x (times Plus k) y) λ _. imp (not (swaps x k y)) λ _. same_sign (then_sign x k) (then_sign y k)

abbrev low_stays : Sign → Sign → Sign → Sign → Bool
low_stays x k g d = imp (not (is_null x)) λ _. imp (same_sign k (negated x)) λ _. imp (not (is_plus g)) λ _. imp (agree x (times g k) d) λ _. same_sign d x

abbrev high_swaps : Sign → Sign → Sign → Sign → Bool
high_swaps x k y d = imp (not (is_null x)) λ _. imp (same_sign k (negated x)) λ _. imp (not (same_sign y x)) λ _. imp (agree y (times Plus k) d) λ _. same_sign d (negated x)

pub crossed-by : (s : Sign) → not (is_null s) ≡ true → (h k m n : Sign) → conflict_by (negated s) (negated (negated s)) s (negated s) h k m n ≡ true
crossed-by Plus c h k m n = refl
crossed-by Minus c h k m n = refl
crossed-by Null c h k m n = absurd (cc c)

module _ (e f : Edge) (he : sign (e.to.y -ℤ e.from.y) ≡ Plus) (hf : sign (f.to.y -ℤ f.from.y) ≡ Plus) where
  abbrev pub distance_at : Vector → Sign
  distance_at w = sign (cross (distance_right w e) (distance_right w f))

  abbrev pub slope : Sign
  slope = sign (cross (step_of f) (step_of e))

  pub change-agrees : (p w : Vector) → agree (distance_at p) (times (sign (w.y -ℤ p.y)) slope) (distance_at w) ≡ true
  change-agrees p w =
      let h = agree-sum (cross (distance_right p e) (distance_right p f)) ((w.y -ℤ p.y) *ℤ cross (step_of f) (step_of e)) (cross (distance_right w e) (distance_right w f)) (distance-change p w e f) in
      subst (λ s. agree (distance_at p) s (distance_at w) ≡ true) (sign-* (w.y -ℤ p.y) (cross (step_of f) (step_of e))) h

  -- at an end of e, and at an end of f
  on-first : (w : Vector) → cross (from_to w e.from) (from_to w e.to) ≡ pos 0 → distance_at w ≡ orient f.from f.to w
  on-first w z =
      let c = cross (from_to w f.from) (from_to w f.to) in
      ap sign (zero-part (e.to.y -ℤ e.from.y) (cross (from_to w e.from) (from_to w e.to)) c (f.to.y -ℤ f.from.y) c z refl)
      ∙ plus-times (e.to.y -ℤ e.from.y) c he ∙ ap sign (sym (orient-round w f.from f.to))

  on-second : (w : Vector) → cross (from_to w f.from) (from_to w f.to) ≡ pos 0 → orient e.from e.to w ≡ negated (distance_at w)
  on-second w z =
      let c = cross (from_to w e.from) (from_to w e.to) in let dy = f.to.y -ℤ f.from.y in
      let h = ap sign (zero-end (e.to.y -ℤ e.from.y) c (cross (from_to w f.from) (from_to w f.to)) dy (pos 0) z) in
      let g : sign (dy *ℤ c) ≡ negated (sign (pos 0 -ℤ dy *ℤ c)) = sign-reversed (pos 0 -ℤ dy *ℤ c) (dy *ℤ c) (omega (arith, ints)) in
      ap sign (orient-round w e.from e.to) ∙ sym (plus-times dy c hf) ∙ g ∙ ap negated (sym h)

  pub at-first-from : distance_at e.from ≡ orient f.from f.to e.from
  at-first-from = on-first e.from (cross-from-here e.from (from_to e.from e.to))

  pub at-first-to : distance_at e.to ≡ orient f.from f.to e.to
  at-first-to = on-first e.to (cross-here (from_to e.to e.from) e.to)

  pub at-second-from : orient e.from e.to f.from ≡ negated (distance_at f.from)
  at-second-from = on-second f.from (cross-from-here f.from (from_to f.from f.to))

  pub at-second-to : orient e.from e.to f.to ≡ negated (distance_at f.to)
  at-second-to = on-second f.to (cross-here (from_to f.to f.from) f.to)

  -- edges without conflict don't change sides
  pub no_swap : IsClearOf e f → (s : Sign) → not (is_null s) ≡ true → distance_at e.from ≡ s → distance_at f.from ≡ s → distance_at e.to ≡ negated s → distance_at f.to ≡ negated s → ⊥
  no_swap clear s c a b x y =
      let i : orient f.from f.to e.from ≡ s = sym at-first-from ∙ a in
      let j : orient f.from f.to e.to ≡ negated s = sym at-first-to ∙ x in
      let k : orient e.from e.to f.from ≡ negated s = at-second-from ∙ ap negated b in
      let l : orient e.from e.to f.to ≡ negated (negated s) = at-second-to ∙ ap negated y in
      let o1 = order e.from f.from in let o2 = order e.from f.to in let o3 = order e.to f.from in let o4 = order e.to f.to in
      let t =
      ap (λ z. conflict_by z (orient e.from e.to f.to) (orient f.from f.to e.from) (orient f.from f.to e.to) o1 o2 o3 o4) k
      ∙ ap (λ z. conflict_by (negated s) z (orient f.from f.to e.from) (orient f.from f.to e.to) o1 o2 o3 o4) l
      ∙ ap (λ z. conflict_by (negated s) (negated (negated s)) z (orient f.from f.to e.to) o1 o2 o3 o4) i
      ∙ ap (λ z. conflict_by (negated s) (negated (negated s)) s z o1 o2 o3 o4) j in
      let r = conflicts-by e f ∙ t ∙ crossed-by s c o1 o2 o3 o4 in cc (sym clear ∙ r)

  low-end : (p w : Vector) → not (is_null (distance_at p)) ≡ true → same_sign slope (negated (distance_at p)) ≡ true → not (is_plus (sign (w.y -ℤ p.y))) ≡ true → distance_at w ≡ distance_at p
  low-end p w a b g =
      same_sign-true (distance_at w) (distance_at p) (imp-out _ _ (imp-out _ _ (imp-out _ _ (imp-out _ _ (all4-out low_stays refl (distance_at p) slope (sign (w.y -ℤ p.y)) (distance_at w)) a) b) g) (change-agrees p w))

  high-end : (p q w : Vector) → not (is_null (distance_at p)) ≡ true → same_sign slope (negated (distance_at p)) ≡ true → not (same_sign (distance_at q) (distance_at p)) ≡ true → sign (w.y -ℤ q.y) ≡ Plus → distance_at w ≡ negated (distance_at p)
  high-end p q w a b c g =
      same_sign-true (distance_at w) (negated (distance_at p)) (imp-out _ _ (imp-out _ _ (imp-out _ _ (imp-out _ _ (all4-out high_swaps refl (distance_at p) slope (distance_at q) (distance_at w)) a) b) c)
      (subst (λ s. agree (distance_at q) (times s slope) (distance_at w) ≡ true) g (change-agrees q w)))

  module _ (clear : IsClearOf e f) (p q : Vector) (up : sign (q.y -ℤ p.y) ≡ Plus) (pe : is_in_span p e ≡ true) (pf : is_in_span p f ≡ true) (qe : is_in_span q e ≡ true) (qf : is_in_span q f ≡ true) where
    low-of : (t : Edge) → is_in_span p t ≡ true → not (is_plus (sign (t.from.y -ℤ p.y))) ≡ true
    low-of t h = and-left (not (is_plus (sign (t.from.y -ℤ p.y)))) (is_plus (sign (t.to.y -ℤ p.y))) h

    high-of : (t : Edge) → is_in_span q t ≡ true → sign (t.to.y -ℤ q.y) ≡ Plus
    high-of t h = is_plus-true (sign (t.to.y -ℤ q.y)) (and-right (not (is_plus (sign (t.from.y -ℤ q.y)))) (is_plus (sign (t.to.y -ℤ q.y))) h)

    swaps-never : swaps (distance_at p) slope (distance_at q) ≡ true → ⊥
    swaps-never h =
        let x = distance_at p in let y = distance_at q in
        let a = and-left (not (is_null x)) (same_sign slope (negated x) && not (same_sign y x)) h in
        let r = and-right (not (is_null x)) (same_sign slope (negated x) && not (same_sign y x)) h in
        let b = and-left (same_sign slope (negated x)) (not (same_sign y x)) r in let c = and-right (same_sign slope (negated x)) (not (same_sign y x)) r in
        no_swap clear x a (low-end p e.from a b (low-of e pe)) (low-end p f.from a b (low-of f pf)) (high-end p q e.to a b c (high-of e qe)) (high-end p q f.to a b c (high-of f qf))

    stays-above : order_above p e f ≡ order_above q e f
    stays-above =
        let s = all-out (λ y. stays (distance_at p) slope y) (all2-out (λ x k. all (stays x k)) refl (distance_at p) slope) (distance_at q) in
        same_sign-true (order_above p e f) (order_above q e f)
        (imp-out _ _ (imp-out _ _ s (subst (λ g. agree (distance_at p) (times g slope) (distance_at q) ≡ true) up (change-agrees p q))) (ap not (false_from_ne_true (swaps (distance_at p) slope (distance_at q)) swaps-never)))

  same-height : (p q : Vector) → sign (q.y -ℤ p.y) ≡ Null → order_above p e f ≡ order_above q e f
  same-height p q h =
      let a = subst (λ g. agree (distance_at p) (times g slope) (distance_at q) ≡ true) h (change-agrees p q) in
      ap (λ s. then_sign s slope) (same_sign-true (distance_at p) (distance_at q) (imp-out _ _ (all2-out (λ x y. imp (agree x Null y) λ _. same_sign x y) refl (distance_at p) (distance_at q)) a))

  persists-by : IsClearOf e f → (p q : Vector) (s : Sign) → sign (q.y -ℤ p.y) ≡ s → is_in_span p e ≡ true → is_in_span p f ≡ true → is_in_span q e ≡ true → is_in_span q f ≡ true → order_above p e f ≡ order_above q e f
  persists-by clear p q Plus h pe pf qe qf = stays-above clear p q h pe pf qe qf
  persists-by clear p q Null h pe pf qe qf = same-height p q h
  persists-by clear p q Minus h pe pf qe qf = sym (stays-above clear q p (sign-reversed (q.y -ℤ p.y) (p.y -ℤ q.y) (omega (arith, ints)) ∙ ap negated h) qe qf pe pf)

-- two edges that don't conflict and both span two heights have the same order just above both
pub order_persists : (p q : Vector) (e f : Edge) → IsClearOf e f → is_in_span p e ≡ true → is_in_span p f ≡ true → is_in_span q e ≡ true → is_in_span q f ≡ true → order_above p e f ≡ order_above q e f
order_persists p q e f c pe pf qe qf = persists-by e f (tall-by p e pe) (tall-by p f pf) c p q (sign (q.y -ℤ p.y)) refl pe pf qe qf

pub not-right-itself : (p : Vector) (e : Edge) → is_right_above p e e ≡ false
not-right-itself p e = and_right (is_in_span p e) (right_of p e e) (right_itself p e)

pub right-above-chain : (p : Vector) (e f g : Edge) → is_in_span p e ≡ true → is_right_above p e f ≡ true → is_right_above p f g ≡ true → is_right_above p e g ≡ true
right-above-chain p e f g s h k =
    let sf = and-left (is_in_span p f) (right_of p e f) h in let sg = and-left (is_in_span p g) (right_of p f g) k in
    and_from (is_in_span p g) (right_of p e g) sg (right_chain p e f g s sf sg (and-right (is_in_span p f) (right_of p e f) h) (and-right (is_in_span p g) (right_of p f g) k))
