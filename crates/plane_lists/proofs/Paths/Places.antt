-- Places just above a height: near a whole point at the height of p (all multiplied by a number), in a direction that goes up.
use Rattle.std.proofs.Common.{Bool, ap, arith, false, not, pos, refl, subst, sym, true, ℤ, ◌&&◌, ◌*ℤ◌, ◌+ℤ◌, ◌-ℤ◌, ◌∙◌, ◌≡◌, inl, inr}
use Rattle.plane.specs.Edge.{Edge, IsRisingEdge}
use Rattle.plane.specs.Height.{distance_right, is_in_span, order_above}
use Rattle.plane.specs.Scale.{scaled_edge, scaled_point}
use Rattle.plane.specs.Sign.{Minus, Null, Plus, Sign, is_minus, is_plus, negated, sign, then_sign}
use Rattle.plane.specs.Vector.{Vector, cross, east, from_to}
use Rattle.plane.proofs.PlaneKit.{cross-east, cross-negated, cross-self, cross-times, cross2, from_to2, lift2, minus-sign, point-twice, rise-y, step_of, tall-by}
use Rattle.plane.proofs.SignKit.{agree, agree-sum, all2, all2-out, all4-out, imp, imp-out, lift, negated-then, not-minus-by, plus-not-minus, plus-times, same, same-out, sign-reversed, ◌⊞◌, ◌⊟◌, ◌⊠◌}
use Rattle.plane_lists.proofs.Paths.Inside.{way-back}
use Rattle.plane_lists.proofs.Paths.Later.{IsLeftNear, IsNearApart, Leads}
use Rattle.plane_lists.proofs.Paths.Steps.{left-times}

-- ---- the side of a place, where all is multiplied by m: Plus where it is left of the edge g
abbrev pub lies : ℤ → Vector → Edge → ℤ
lies m X g = cross (step_of g) (from_to (scaled_point m g.from) X)

abbrev pub side : ℤ → Vector → Vector → Edge → Sign
side m X U g = then_sign (sign (lies m X g)) (sign (cross (step_of g) U))

-- as the place sees the ends of the edge
seen-from : (m : ℤ) (X f t : Vector) → cross (from_to f t) (from_to (scaled_point m f) X) +ℤ cross (from_to f t) (from_to X (scaled_point m f)) ≡ pos 0
seen-from m X f t =
    let m' = lift m in let X' = lift2 X in let f' = lift2 f in let t' = lift2 t in
    let d = from_to2 f' t' in
    same (d.x2 ⊠ (X'.y2 ⊟ m' ⊠ f'.y2) ⊟ d.y2 ⊠ (X'.x2 ⊟ m' ⊠ f'.x2) ⊞ (d.x2 ⊠ (m' ⊠ f'.y2 ⊟ X'.y2) ⊟ d.y2 ⊠ (m' ⊠ f'.x2 ⊟ X'.x2))) (lift (pos 0)) (omega arith)

seen-to : (m : ℤ) (X f t : Vector) → cross (from_to f t) (from_to (scaled_point m f) X) +ℤ cross (from_to f t) (from_to X (scaled_point m t)) ≡ pos 0
seen-to m X f t =
    let m' = lift m in let X' = lift2 X in let f' = lift2 f in let t' = lift2 t in
    let d = from_to2 f' t' in
    same (d.x2 ⊠ (X'.y2 ⊟ m' ⊠ f'.y2) ⊟ d.y2 ⊠ (X'.x2 ⊟ m' ⊠ f'.x2) ⊞ (d.x2 ⊠ (m' ⊠ t'.y2 ⊟ X'.y2) ⊟ d.y2 ⊠ (m' ⊠ t'.x2 ⊟ X'.x2))) (lift (pos 0)) (omega arith)

-- along g, from a place right of it
leads-right : (x c : ℤ) (s t : Sign) → sign x ≡ negated s → sign c ≡ t → then_sign s t ≡ Minus → Leads x c
leads-right x c Minus t h k e = inl h
leads-right x c Null t h k e = inr (h, k ∙ e)
leads-right x c Plus t h k e = absurd (cc e)

-- back along g, from a place left of it
leads-left : (x c : ℤ) (s t : Sign) → sign x ≡ s → sign c ≡ negated t → then_sign s t ≡ Plus → Leads x c
leads-left x c Plus t h k e = inl h
leads-left x c Null t h k e = inr (h, k ∙ ap negated e)
leads-left x c Minus t h k e = absurd (cc e)

twice-negated : (s : Sign) → negated (negated s) ≡ s
twice-negated Plus = refl
twice-negated Null = refl
twice-negated Minus = refl

module _ (m : ℤ) (X U : Vector) (g : Edge) where
  abbrev ahead : Vector
  ahead = step_of g

  abbrev back : Vector
  back = from_to g.to g.from

  at-from : sign (cross ahead (from_to X (scaled_point m g.from))) ≡ negated (sign (lies m X g))
  at-from = sign-reversed (lies m X g) (cross ahead (from_to X (scaled_point m g.from))) (seen-from m X g.from g.to)

  at-to : sign (cross ahead (from_to X (scaled_point m g.to))) ≡ negated (sign (lies m X g))
  at-to = sign-reversed (lies m X g) (cross ahead (from_to X (scaled_point m g.to))) (seen-to m X g.from g.to)

  pub right-from : side m X U g ≡ Minus → IsLeftNear ahead X U (scaled_point m g.from)
  right-from h = leads-right _ _ (sign (lies m X g)) (sign (cross ahead U)) at-from refl h

  pub right-to : side m X U g ≡ Minus → IsLeftNear ahead X U (scaled_point m g.to)
  right-to h = leads-right _ _ (sign (lies m X g)) (sign (cross ahead U)) at-to refl h

  pub left-from : side m X U g ≡ Plus → IsLeftNear back X U (scaled_point m g.from)
  left-from h =
      leads-left _ _ (sign (lies m X g)) (sign (cross ahead U)) (way-back g.from g.to (from_to X (scaled_point m g.from)) ∙ ap negated at-from ∙ twice-negated (sign (lies m X g))) (way-back g.from g.to U) h

  pub left-to : side m X U g ≡ Plus → IsLeftNear back X U (scaled_point m g.to)
  left-to h =
      leads-left _ _ (sign (lies m X g)) (sign (cross ahead U)) (way-back g.from g.to (from_to X (scaled_point m g.to)) ∙ ap negated at-to ∙ twice-negated (sign (lies m X g))) (way-back g.from g.to U) h

-- two places on one side of an edge
pub right-apart : (m : ℤ) (X U Y V : Vector) (g : Edge) → side m X U g ≡ Minus → side m Y V g ≡ Minus → IsNearApart X U Y V (scaled_edge m g)
right-apart m X U Y V g h k = record {
  along = step_of g;
  first_from = right-from m X U g h;
  first_to = right-to m X U g h;
  last_from = right-from m Y V g k;
  last_to = right-to m Y V g k;
}

pub left-apart : (m : ℤ) (X U Y V : Vector) (g : Edge) → side m X U g ≡ Plus → side m Y V g ≡ Plus → IsNearApart X U Y V (scaled_edge m g)
left-apart m X U Y V g h k = record {
  along = from_to g.to g.from;
  first_from = left-from m X U g h;
  first_to = left-to m X U g h;
  last_from = left-from m Y V g k;
  last_to = left-to m Y V g k;
}

-- ---- edges that don't span the height
pub record IsJustAbove (p : Vector) (m : ℤ) (X U : Vector) : Type 0 where
  pub level : X.y ≡ m *ℤ p.y
  pub up : sign U.y ≡ Plus

abbrev down-way : Vector
down-way = record { x = pos 0 -ℤ pos 1; y = pos 0 }

cross-down : (w : Vector) → cross east w +ℤ cross down-way w ≡ pos 0
cross-down w =
    let x = lift w.x in let y = lift w.y in
    same (lift (pos 1) ⊠ y ⊟ lift (pos 0) ⊠ x ⊞ ((lift (pos 0) ⊟ lift (pos 1)) ⊠ y ⊟ lift (pos 0) ⊠ x)) (lift (pos 0)) (omega arith)

down-side : (w : Vector) → sign (cross down-way w) ≡ negated (sign w.y)
down-side w = sign-reversed (cross east w) (cross down-way w) (cross-down w) ∙ ap (λ z. negated (sign z)) (cross-east w)

module _ (p : Vector) (m : ℤ) (hm : sign m ≡ Plus) (X U : Vector) (a : IsJustAbove p m X U) where
  height : (w : Vector) → sign (from_to X (scaled_point m w)).y ≡ sign (w.y -ℤ p.y)
  height w = ap (λ z. sign (m *ℤ w.y -ℤ z)) a.level ∙ minus-sign m hm w.y p.y

  pub above-near : (w : Vector) → sign (w.y -ℤ p.y) ≡ Plus → IsLeftNear east X U (scaled_point m w)
  above-near w h = inl (ap sign (cross-east (from_to X (scaled_point m w))) ∙ height w ∙ h)

  not-plus-cases : (s : Sign) → not (is_plus s) ≡ true → (x c : ℤ) → sign x ≡ negated s → sign c ≡ Minus → Leads x c
  not-plus-cases Minus n x c h k = inl h
  not-plus-cases Null n x c h k = inr (h, k)
  not-plus-cases Plus n x c h k = absurd (cc n)

  pub below-near : (w : Vector) → not (is_plus (sign (w.y -ℤ p.y))) ≡ true → IsLeftNear down-way X U (scaled_point m w)
  below-near w h =
      not-plus-cases (sign (w.y -ℤ p.y)) h _ _ (down-side (from_to X (scaled_point m w)) ∙ ap negated (height w)) (down-side U ∙ ap negated a.up)

module _ (p : Vector) (m : ℤ) (hm : sign m ≡ Plus) (X U Y V : Vector) (a : IsJustAbove p m X U) (b : IsJustAbove p m Y V) (g : Edge) (r : IsRisingEdge g) where
  both-above : sign (g.from.y -ℤ p.y) ≡ Plus → IsNearApart X U Y V (scaled_edge m g)
  both-above h =
      let n : sign (g.to.y -ℤ g.from.y) ≡ Minus → ⊥ = λ e. (let k = not-minus-by (sign (g.to.y -ℤ g.from.y)) (sign (g.to.x -ℤ g.from.x)) r in let l = ap (λ s. not (is_minus s)) e in cc (sym k ∙ l)) in
      let k = plus-not-minus _ (sign (g.to.y -ℤ g.from.y)) (sign (g.to.y -ℤ p.y)) (rise-y p g.from g.to) h n in
      record {
        along = east;
        first_from = above-near p m hm X U a g.from h;
        first_to = above-near p m hm X U a g.to k;
        last_from = above-near p m hm Y V b g.from h;
        last_to = above-near p m hm Y V b g.to k;
      }

  both-below : not (is_plus (sign (g.from.y -ℤ p.y))) ≡ true → not (is_plus (sign (g.to.y -ℤ p.y))) ≡ true → IsNearApart X U Y V (scaled_edge m g)
  both-below h k = record {
    along = down-way;
    first_from = below-near p m hm X U a g.from h;
    first_to = below-near p m hm X U a g.to k;
    last_from = below-near p m hm Y V b g.from h;
    last_to = below-near p m hm Y V b g.to k;
  }

  no-span-by : (s t : Sign) → sign (g.from.y -ℤ p.y) ≡ s → sign (g.to.y -ℤ p.y) ≡ t → (not (is_plus s) && is_plus t) ≡ false → IsNearApart X U Y V (scaled_edge m g)
  no-span-by Plus t h k n = both-above h
  no-span-by Null Plus h k n = absurd (cc n)
  no-span-by Minus Plus h k n = absurd (cc n)
  no-span-by Null Null h k n = both-below (ap (λ s. not (is_plus s)) h) (ap (λ s. not (is_plus s)) k)
  no-span-by Null Minus h k n = both-below (ap (λ s. not (is_plus s)) h) (ap (λ s. not (is_plus s)) k)
  no-span-by Minus Null h k n = both-below (ap (λ s. not (is_plus s)) h) (ap (λ s. not (is_plus s)) k)
  no-span-by Minus Minus h k n = both-below (ap (λ s. not (is_plus s)) h) (ap (λ s. not (is_plus s)) k)

  pub level-apart : is_in_span p g ≡ false → IsNearApart X U Y V (scaled_edge m g)
  level-apart n = no-span-by (sign (g.from.y -ℤ p.y)) (sign (g.to.y -ℤ p.y)) refl refl n

-- ---- the place of an edge that spans the height
pub record IsPlace (p : Vector) (f : Edge) (m : ℤ) (X U : Vector) : Type 0 where
  pub above : IsJustAbove p m X U
  pub at : (g : Edge) → sign (lies m X g) ≡ sign (cross (distance_right p f) (distance_right p g))
  pub way : (d : Vector) → sign (cross d U) ≡ sign (cross d (step_of f))

-- its side of another edge is the order of the two
pub place-side : (p : Vector) (f : Edge) (m : ℤ) (X U : Vector) → IsPlace p f m X U → (g : Edge) → side m X U g ≡ order_above p f g
place-side p f m X U i g =
    ap (λ s. then_sign s (sign (cross (step_of g) U))) (i.at g) ∙ ap (λ s. then_sign (sign (cross (distance_right p f) (distance_right p g))) s) (i.way (step_of g))

pub order-turned : (p : Vector) (f g : Edge) → order_above p f g ≡ negated (order_above p g f)
order-turned p f g =
    ap (λ s. then_sign s (sign (cross (step_of g) (step_of f)))) (cross-negated (distance_right p g) (distance_right p f))
    ∙ ap (λ s. then_sign (negated (sign (cross (distance_right p g) (distance_right p f)))) s) (cross-negated (step_of f) (step_of g))
    ∙ negated-then (sign (cross (distance_right p g) (distance_right p f))) (sign (cross (step_of f) (step_of g)))

pub order-own : (p : Vector) (f : Edge) → order_above p f f ≡ Null
order-own p f =
    ap (λ z. then_sign (sign z) (sign (cross (step_of f) (step_of f)))) (cross-self (distance_right p f)) ∙ ap (λ z. then_sign Null (sign z)) (cross-self (step_of f))

abbrev pub tallness : Edge → ℤ
tallness f = f.to.y -ℤ f.from.y

-- where the edge is at the height of p, multiplied by its height
abbrev pub spot : Vector → Edge → Vector
spot p f = record { x = tallness f *ℤ p.x +ℤ (distance_right p f).y; y = tallness f *ℤ p.y }

spot-by : (D C : ℤ) (p u v : Vector) → cross (from_to u v) (from_to (scaled_point D u) (record { x = D *ℤ p.x +ℤ C; y = D *ℤ p.y })) ≡ D *ℤ cross (from_to p u) (from_to p v) -ℤ C *ℤ (v.y -ℤ u.y)
spot-by D C p u v =
    let D' = lift D in let C' = lift C in let p' = lift2 p in let u' = lift2 u in let v' = lift2 v in
    let d = from_to2 u' v' in
    same (d.x2 ⊠ (D' ⊠ p'.y2 ⊟ D' ⊠ u'.y2) ⊟ d.y2 ⊠ ((D' ⊠ p'.x2 ⊞ C') ⊟ D' ⊠ u'.x2)) (D' ⊠ cross2 (from_to2 p' u') (from_to2 p' v') ⊟ C' ⊠ (v'.y2 ⊟ u'.y2)) (omega arith)

pub place-of : (p : Vector) (f : Edge) → is_in_span p f ≡ true → (n : ℤ) → sign n ≡ Plus → IsPlace p f (n *ℤ tallness f) (scaled_point n (spot p f)) (scaled_point n (step_of f))
place-of p f s n hn =
    let D = tallness f in record {
      above = record { level = ap (λ (w : Vector). w.y) (point-twice n D p); up = plus-times n D hn ∙ tall-by p f s };
      at = λ g.
          ap (λ (w : Vector). sign (cross (step_of g) (from_to w (scaled_point n (spot p f))))) (sym (point-twice n D g.from))
          ∙ left-times n hn (step_of g) (scaled_point D g.from) (spot p f) ∙ ap sign (spot-by D (distance_right p f).y p g.from g.to);
      way = λ d. ap sign (cross-times n d (step_of f)) ∙ plus-times n (cross d (step_of f)) hn;
    }

-- ---- the middle of two places
abbrev pub plus : Vector → Vector → Vector
plus X Y = record { x = X.x +ℤ Y.x; y = X.y +ℤ Y.y }

lies-sum : (m : ℤ) (X Y : Vector) (f t : Vector) → cross (from_to f t) (from_to (scaled_point m f) X) +ℤ cross (from_to f t) (from_to (scaled_point m f) Y) ≡ cross (from_to f t) (from_to (scaled_point (m +ℤ m) f) (plus X Y))
lies-sum m X Y f t =
    let m' = lift m in let X' = lift2 X in let Y' = lift2 Y in let f' = lift2 f in let t' = lift2 t in let d = from_to2 f' t' in
    same (d.x2 ⊠ (X'.y2 ⊟ m' ⊠ f'.y2) ⊟ d.y2 ⊠ (X'.x2 ⊟ m' ⊠ f'.x2) ⊞ (d.x2 ⊠ (Y'.y2 ⊟ m' ⊠ f'.y2) ⊟ d.y2 ⊠ (Y'.x2 ⊟ m' ⊠ f'.x2)))
    (d.x2 ⊠ (X'.y2 ⊞ Y'.y2 ⊟ (m' ⊞ m') ⊠ f'.y2) ⊟ d.y2 ⊠ (X'.x2 ⊞ Y'.x2 ⊟ (m' ⊞ m') ⊠ f'.x2)) (omega arith)

cross-sum : (d U V : Vector) → cross d U +ℤ cross d V ≡ cross d (plus U V)
cross-sum d U V =
    let d' = lift2 d in let U' = lift2 U in let V' = lift2 V in
    same (cross2 d' U' ⊞ cross2 d' V') (d'.x2 ⊠ (U'.y2 ⊞ V'.y2) ⊟ d'.y2 ⊠ (U'.x2 ⊞ V'.x2)) (omega arith)

abbrev then_sums : Sign → Sign → Sign → Sign → Bool
then_sums y x y' x' = all2 λ y'' x''. imp (agree y y' y'') λ _. imp (agree x x' x'') λ _. agree (then_sign y x) (then_sign y' x') (then_sign y'' x'')

pub side-sum : (m : ℤ) (X U Y V : Vector) (g : Edge) → agree (side m X U g) (side m Y V g) (side (m +ℤ m) (plus X Y) (plus U V) g) ≡ true
side-sum m X U Y V g =
    let d = step_of g in
    let h = agree-sum (lies m X g) (lies m Y g) (lies (m +ℤ m) (plus X Y) g) (lies-sum m X Y g.from g.to) in
    let k = agree-sum (cross d U) (cross d V) (cross d (plus U V)) (cross-sum d U V) in
    let c = all2-out (λ y'' x''. imp (agree (sign (lies m X g)) (sign (lies m Y g)) y'') λ _. imp (agree (sign (cross d U)) (sign (cross d V)) x'') λ _. agree (side m X U g) (side m Y V g) (then_sign y'' x''))
    (all4-out then_sums refl (sign (lies m X g)) (sign (cross d U)) (sign (lies m Y g)) (sign (cross d V))) (sign (lies (m +ℤ m) (plus X Y) g)) (sign (cross d (plus U V))) in
    imp-out _ _ (imp-out _ _ c h) k

twice-level : (a b m y : ℤ) → a ≡ m *ℤ y → b ≡ m *ℤ y → a +ℤ b ≡ (m +ℤ m) *ℤ y
twice-level a b m y h k =
    let m' = lift m in let y' = lift y in
    ap (λ z. z +ℤ b) h ∙ ap (λ z. m *ℤ y +ℤ z) k ∙ same (m' ⊠ y' ⊞ m' ⊠ y') ((m' ⊞ m') ⊠ y') (omega arith)

same-sum : (x y z : ℤ) (s : Sign) → x +ℤ y ≡ z → sign x ≡ s → sign y ≡ s → sign z ≡ s
same-sum x y z s e h k = same-out s (sign z) (subst (λ t. agree s t (sign z) ≡ true) k (subst (λ t. agree t (sign y) (sign z) ≡ true) h (agree-sum x y z e)))

pub above-sum : (p : Vector) (m : ℤ) (X U Y V : Vector) → IsJustAbove p m X U → IsJustAbove p m Y V → IsJustAbove p (m +ℤ m) (plus X Y) (plus U V)
above-sum p m X U Y V a b = record { level = twice-level X.y Y.y m p.y a.level b.level; up = same-sum U.y V.y (U.y +ℤ V.y) Plus refl a.up b.up }

pub place-twice : (p : Vector) (f : Edge) (m : ℤ) (X U : Vector) → IsPlace p f m X U → IsPlace p f (m +ℤ m) (plus X X) (plus U U)
place-twice p f m X U i = record {
  above = above-sum p m X U X U i.above i.above;
  at = λ g. same-sum (lies m X g) (lies m X g) (lies (m +ℤ m) (plus X X) g) (sign (cross (distance_right p f) (distance_right p g))) (lies-sum m X X g.from g.to) (i.at g) (i.at g);
  way = λ d. same-sum (cross d U) (cross d U) (cross d (plus U U)) (sign (cross d (step_of f))) (cross-sum d U U) (i.way d) (i.way d);
}
