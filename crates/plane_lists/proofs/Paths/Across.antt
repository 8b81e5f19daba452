-- An edge that runs up and the nearest edge on its left, which runs down: a point between them is left beside both.
use Rattle.std.proofs.Common.{Bool, List, ap, arith, cond, false, not, pos, refl, subst, sym, true, ℤ, ◌*ℤ◌, ◌+ℤ◌, ◌∙◌, ◌≡◌, ◌⊎◌, inl, inr}
use Rattle.lists.specs.Member.{In}
use Rattle.plane_lists.specs.Rings.Nesting.{IsNextLeft}
use Rattle.plane_lists.specs.Paths.Beside.{AreBeside, IsLeftBeside}
use Rattle.plane.specs.Edge.{Edge, is_rising, reversed, same_edge, segment_of}
use Rattle.plane.specs.FreeSegment.{IsBetween}
use Rattle.plane.specs.Height.{is_in_span, is_right_above, order_above}
use Rattle.plane.specs.Scale.{scaled_edge, scaled_point}
use Rattle.plane.specs.Sign.{Minus, Null, Plus, Sign, negated, sign}
use Rattle.plane.specs.Vector.{Vector, from_to}
use Rattle.plane_lists.specs.Lists.ConflictFree.{IsConflictFree}
use Rattle.plane_lists.specs.Lists.Ring.{segments_of}
use Rattle.plane_lists.specs.Lists.ScaledEdges.{scaled_edges}
use Rattle.plane_lists.specs.Lists.Sided.{IsSided}
use Rattle.lists.proofs.ListsKit.{in-map}
use Rattle.plane_lists.proofs.NestingKit.{segment-differs, sym-differs}
use Rattle.plane.proofs.PlaneKit.{right_chain, right_either, right_of, same_edge-refl, same_edge-true, step_of, tall-by}
use Rattle.plane.proofs.SignKit.{agree, is_plus-true, lift, null-first, plus-null, plus-times, same, same-out, ◌⊞◌, ◌⊠◌}
use Rattle.std.proofs.lemmas.Bool.{and_from, and_parts}
use Rattle.plane_lists.proofs.WindingKit.{clear_pair, right_apart, rising_in}
use Rattle.plane_lists.proofs.Paths.Builders.{are-beside, later-beside, later-turned, near-unturned}
use Rattle.plane_lists.proofs.Paths.FeetAbove.{later-between}
use Rattle.plane_lists.proofs.Paths.Later.{IsLeftNear, IsNearApart, Later, near}
use Rattle.plane_lists.proofs.Paths.Places.{IsJustAbove, IsPlace, above-sum, left-apart, left-from, level-apart, order-own, order-turned, place-of, place-side, place-twice, plus, right-apart, right-to, side, side-sum, spot, tallness}
use Rattle.plane_lists.proofs.ConnectedKit.{up-segment}

pub times-swap : (a b : ℤ) → a *ℤ b ≡ b *ℤ a
times-swap a b = same (lift a ⊠ lift b) (lift b ⊠ lift a) (omega arith)

pub twice-plus : (m : ℤ) → sign m ≡ Plus → sign (m +ℤ m) ≡ Plus
twice-plus m h = let m' = lift m in ap sign (same (m' ⊞ m') (lift (pos 2) ⊠ m') (omega arith)) ∙ plus-times (pos 2) m refl ∙ h

pub right-plus : (p : Vector) (f g : Edge) → right_of p f g ≡ true → order_above p f g ≡ Plus
right-plus p f g h = is_plus-true (order_above p f g) h

pub right-minus : (p : Vector) (f g : Edge) → right_of p g f ≡ true → order_above p f g ≡ Minus
right-minus p f g h = order-turned p f g ∙ ap negated (right-plus p g f h)

-- of two edges of the list that span the height one is right of the other
pub other-right : (p : Vector) (es : List Edge) → IsConflictFree es → (f g : Edge) → In f es → In g es → same_edge g f ≡ false → is_in_span p f ≡ true → is_in_span p g ≡ true → right_of p f g ≡ false → right_of p g f ≡ true
other-right p es pl f g i j n sf sg h =
    let c = clear_pair g f es pl j i n in
    right_either p g f (right_apart p g f es pl j i c sf sg) ∙ ap not h

-- f and a span the height of p, a is right of f, and no edge is between
pub record ArePair (p : Vector) (es : List Edge) (f a : Edge) : Type 0 where
  pub jf : In f es
  pub ja : In a es
  pub sf : is_in_span p f ≡ true
  pub right : is_right_above p f a ≡ true
  pub next : (g : Edge) → In g es → is_right_above p f g ≡ true → (g ≡ a) ⊎ (right_of p a g ≡ true)

module _ (p : Vector) (es : List Edge) (pl : IsConflictFree es) (f a : Edge) (c : ArePair p es f a) where
  pub sa : is_in_span p a ≡ true
  sa = (and_parts (is_in_span p a) (right_of p f a) c.right).0

  ra : right_of p f a ≡ true
  ra = (and_parts (is_in_span p a) (right_of p f a) c.right).1

  abbrev pub m : ℤ
  m = tallness a *ℤ tallness f

  hm : sign m ≡ Plus
  hm = plus-times (tallness a) (tallness f) (tall-by p a sa) ∙ tall-by p f c.sf

  abbrev pub Xf : Vector
  Xf = scaled_point (tallness a) (spot p f)

  abbrev pub Uf : Vector
  Uf = scaled_point (tallness a) (step_of f)

  abbrev pub Xa : Vector
  Xa = scaled_point (tallness f) (spot p a)

  abbrev pub Ua : Vector
  Ua = scaled_point (tallness f) (step_of a)

  pub f-place : IsPlace p f m Xf Uf
  f-place = place-of p f c.sf (tallness a) (tall-by p a sa)

  pub a-place : IsPlace p a m Xa Ua
  a-place = subst (λ k. IsPlace p a k Xa Ua) (times-swap (tallness f) (tallness a)) (place-of p a sa (tallness f) (tall-by p f c.sf))

  abbrev pub Xm : Vector
  Xm = plus Xf Xa

  abbrev pub Um : Vector
  Um = plus Uf Ua

  pub hM : sign (m +ℤ m) ≡ Plus
  hM = twice-plus m hm

  -- an edge is c.right of both or left of both
  abbrev Where : Edge → Type 0
  Where g = ((order_above p f g ≡ Plus) × (order_above p a g ≡ Plus)) ⊎ ((order_above p f g ≡ Minus) × (order_above p a g ≡ Minus))

  beyond-by : (g : Edge) → same_edge a g ≡ false → right_of p f g ≡ true → (g ≡ a) ⊎ (right_of p a g ≡ true) → Where g
  beyond-by g n h (inl q) = absurd (let k = same_edge-refl a in let l = ap (same_edge a) q in cc (sym k ∙ sym l ∙ n))
  beyond-by g n h (inr k) = inl (right-plus p f g h, right-plus p a g k)

  where-by : (g : Edge) → In g es → is_in_span p g ≡ true → same_edge f g ≡ false → same_edge a g ≡ false → (b : Bool) → right_of p f g ≡ b → Where g
  where-by g j s nf na true h = beyond-by g na h (c.next g j (and_from (is_in_span p g) (right_of p f g) s h))
  where-by g j s nf na false h =
      let l = other-right p es pl f g c.jf j (sym-differs g f nf) c.sf s h in
      inr (right-minus p f g l, right-minus p a g (right_chain p g f a s c.sf sa l ra))

  mid-side : (g : Edge) (s t : Sign) → order_above p f g ≡ s → order_above p a g ≡ t → agree s t (side (m +ℤ m) Xm Um g) ≡ true
  mid-side g s t h k =
      subst (λ z. agree s z (side (m +ℤ m) Xm Um g) ≡ true) (place-side p a m Xa Ua a-place g ∙ k)
      (subst (λ z. agree z (side m Xa Ua g) (side (m +ℤ m) Xm Um g) ≡ true) (place-side p f m Xf Uf f-place g ∙ h) (side-sum m Xf Uf Xa Ua g))

  pub f-foot : IsPlace p f (m +ℤ m) (plus Xf Xf) (plus Uf Uf)
  f-foot = place-twice p f m Xf Uf f-place

  pub a-foot : IsPlace p a (m +ℤ m) (plus Xa Xa) (plus Ua Ua)
  a-foot = place-twice p a m Xa Ua a-place

  mid-above : IsJustAbove p (m +ℤ m) Xm Um
  mid-above = above-sum p m Xf Uf Xa Ua f-place.above a-place.above

  f-side : (g : Edge) (s : Sign) → order_above p f g ≡ s → side (m +ℤ m) (plus Xf Xf) (plus Uf Uf) g ≡ s
  f-side g s h = place-side p f (m +ℤ m) (plus Xf Xf) (plus Uf Uf) f-foot g ∙ h

  a-side : (g : Edge) (s : Sign) → order_above p a g ≡ s → side (m +ℤ m) (plus Xa Xa) (plus Ua Ua) g ≡ s
  a-side g s h = place-side p a (m +ℤ m) (plus Xa Xa) (plus Ua Ua) a-foot g ∙ h

  pub mid-right-a : side (m +ℤ m) Xm Um f ≡ Minus
  mid-right-a = let h = mid-side f Null Minus (order-own p f) (right-minus p a f ra) in sym (null-first Null Minus (side (m +ℤ m) Xm Um f) h refl)

  pub mid-left-a : side (m +ℤ m) Xm Um a ≡ Plus
  mid-left-a = plus-null (side (m +ℤ m) Xm Um a) (mid-side a Plus Null (right-plus p f a ra) (order-own p a))

  -- ---- the middle and a
  a-where : (g : Edge) → Where g → IsNearApart Xm Um (plus Xa Xa) (plus Ua Ua) (scaled_edge (m +ℤ m) g)
  a-where g (inl h) = left-apart (m +ℤ m) Xm Um (plus Xa Xa) (plus Ua Ua) g (same-out Plus _ (mid-side g Plus Plus h.0 h.1)) (a-side g Plus h.1)
  a-where g (inr h) = right-apart (m +ℤ m) Xm Um (plus Xa Xa) (plus Ua Ua) g (same-out Minus _ (mid-side g Minus Minus h.0 h.1)) (a-side g Minus h.1)

  a-spanned : (g : Edge) → In g es → same_edge a g ≡ false → is_in_span p g ≡ true → (b : Bool) → same_edge f g ≡ b → IsNearApart Xm Um (plus Xa Xa) (plus Ua Ua) (scaled_edge (m +ℤ m) g)
  a-spanned g j n s false h = a-where g (where-by g j s h n (right_of p f g) refl)
  a-spanned g j n s true h =
      subst (λ w. IsNearApart Xm Um (plus Xa Xa) (plus Ua Ua) (scaled_edge (m +ℤ m) w)) (same_edge-true f g h)
      (right-apart (m +ℤ m) Xm Um (plus Xa Xa) (plus Ua Ua) f mid-right-a (a-side f Minus (right-minus p a f ra)))

  a-by : (g : Edge) → In g es → same_edge a g ≡ false → (b : Bool) → is_in_span p g ≡ b → IsNearApart Xm Um (plus Xa Xa) (plus Ua Ua) (scaled_edge (m +ℤ m) g)
  a-by g j n true s = a-spanned g j n s (same_edge f g) refl
  a-by g j n false s = level-apart p (m +ℤ m) hM Xm Um (plus Xa Xa) (plus Ua Ua) mid-above a-foot.above g (rising_in es g pl j) s

  pub a-apart : (g : Edge) → In g es → same_edge a g ≡ false → IsNearApart Xm Um (plus Xa Xa) (plus Ua Ua) (scaled_edge (m +ℤ m) g)
  a-apart g j n = a-by g j n (is_in_span p g) refl

  -- ---- the middle and f
  f-where : (g : Edge) → Where g → IsNearApart Xm Um (plus Xf Xf) (plus Uf Uf) (scaled_edge (m +ℤ m) g)
  f-where g (inl h) = left-apart (m +ℤ m) Xm Um (plus Xf Xf) (plus Uf Uf) g (same-out Plus _ (mid-side g Plus Plus h.0 h.1)) (f-side g Plus h.0)
  f-where g (inr h) = right-apart (m +ℤ m) Xm Um (plus Xf Xf) (plus Uf Uf) g (same-out Minus _ (mid-side g Minus Minus h.0 h.1)) (f-side g Minus h.0)

  f-spanned : (g : Edge) → In g es → same_edge f g ≡ false → is_in_span p g ≡ true → (b : Bool) → same_edge a g ≡ b → IsNearApart Xm Um (plus Xf Xf) (plus Uf Uf) (scaled_edge (m +ℤ m) g)
  f-spanned g j n s false h = f-where g (where-by g j s n h (right_of p f g) refl)
  f-spanned g j n s true h =
      subst (λ w. IsNearApart Xm Um (plus Xf Xf) (plus Uf Uf) (scaled_edge (m +ℤ m) w)) (same_edge-true a g h)
      (left-apart (m +ℤ m) Xm Um (plus Xf Xf) (plus Uf Uf) a mid-left-a (f-side a Plus (right-plus p f a ra)))

  f-by : (g : Edge) → In g es → same_edge f g ≡ false → (b : Bool) → is_in_span p g ≡ b → IsNearApart Xm Um (plus Xf Xf) (plus Uf Uf) (scaled_edge (m +ℤ m) g)
  f-by g j n true s = f-spanned g j n s (same_edge a g) refl
  f-by g j n false s = level-apart p (m +ℤ m) hM Xm Um (plus Xf Xf) (plus Uf Uf) mid-above f-foot.above g (rising_in es g pl j) s

  pub f-apart : (g : Edge) → In g es → same_edge f g ≡ false → IsNearApart Xm Um (plus Xf Xf) (plus Uf Uf) (scaled_edge (m +ℤ m) g)
  f-apart g j n = f-by g j n (is_in_span p g) refl

lowered-by : (b : Bool) (e : Edge) → b ≡ false → cond b e (reversed e) ≡ reversed e
lowered-by false e h = refl
lowered-by true e h = absurd (cc h)

pub segment-down : (e : Edge) → is_rising e ≡ false → segment_of e ≡ reversed e
segment-down e h = lowered-by (is_rising e) e h

module _ (es : List Edge) (sd : IsSided es) (e f : Edge) (i : In e es) (j : In f es) (up : is_rising e ≡ true) (down : is_rising f ≡ false) (n : IsNextLeft e (segment_of f) (segments_of es)) where
  abbrev up-list : List Edge
  up-list = segments_of es

  abbrev s : Edge
  s = segment_of f

  q : s ≡ reversed f
  q = segment-down f down

  pair : ArePair e.from up-list s e
  pair = record {
    jf = in-map segment_of es f j;
    ja = subst (λ w. In w up-list) (up-segment e up) (in-map segment_of es e i);
    sf = n.spans;
    right = n.right;
    next = n.nearest;
  }

  abbrev M : ℤ
  M = m e.from up-list sd.plain s e pair +ℤ m e.from up-list sd.plain s e pair

  abbrev X : Vector
  X = Xm e.from up-list sd.plain s e pair

  abbrev U : Vector
  U = Um e.from up-list sd.plain s e pair

  abbrev Ya : Vector
  Ya = plus (Xa e.from up-list sd.plain s e pair) (Xa e.from up-list sd.plain s e pair)

  abbrev Va : Vector
  Va = plus (Ua e.from up-list sd.plain s e pair) (Ua e.from up-list sd.plain s e pair)

  abbrev Yf : Vector
  Yf = plus (Xf e.from up-list sd.plain s e pair) (Xf e.from up-list sd.plain s e pair)

  abbrev Vf : Vector
  Vf = plus (Uf e.from up-list sd.plain s e pair) (Uf e.from up-list sd.plain s e pair)

  big : sign M ≡ Plus
  big = hM e.from up-list sd.plain s e pair

  e-beside : Later (λ k. IsLeftBeside (scaled_edges k (scaled_edges M es)) (scaled_edge k (scaled_edge M e)) (near k X U))
  e-beside =
      later-beside es e M big X U Ya Va
      (later-between e.from e M big Ya Va (a-foot e.from up-list sd.plain s e pair) (rising_in up-list e sd.plain pair.ja) (sa e.from up-list sd.plain s e pair))
      (left-from M X U e (mid-left-a e.from up-list sd.plain s e pair))
      (λ g k d. near-unturned X U Ya Va M g
      (a-apart e.from up-list sd.plain s e pair (segment_of g) (in-map segment_of es g k) (subst (λ w. same_edge w (segment_of g) ≡ false) (up-segment e up) (segment-differs es sd e g i k d))))

  f-beside : Later (λ k. IsLeftBeside (scaled_edges k (scaled_edges M es)) (scaled_edge k (scaled_edge M f)) (near k X U))
  f-beside =
      later-beside es f M big X U Yf Vf
      (later-turned M f.to f.from Yf Vf
      (subst (λ (w : Edge). Later (λ k. IsBetween (scaled_point k (scaled_point M w.from)) (scaled_point k (scaled_point M w.to)) (near k Yf Vf))) q
      (later-between e.from s M big Yf Vf (f-foot e.from up-list sd.plain s e pair) (rising_in up-list s sd.plain pair.jf) n.spans)))
      (subst (λ (w : Edge). IsLeftNear (from_to w.from w.to) X U (scaled_point M w.to)) q (right-to M X U s (mid-right-a e.from up-list sd.plain s e pair)))
      (λ g k d. near-unturned X U Yf Vf M g (f-apart e.from up-list sd.plain s e pair (segment_of g) (in-map segment_of es g k) (segment-differs es sd f g j k d)))

  pub across : AreBeside es e f
  across = are-beside es e f M big X U e-beside f-beside
