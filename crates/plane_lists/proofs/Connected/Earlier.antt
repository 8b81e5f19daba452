-- The order of edges by where they begin: an anchor is the first of its list, and the nearest edge left of an edge comes before it.
use Rattle.std.proofs.Common.{Bool, List, ap, arith, false, inl, inr, not, pos, refl, subst, sym, true, ℤ, ◌&&◌, ◌*ℤ◌, ◌-ℤ◌, ◌||◌, ◌∙◌, ◌≡◌, ◌⊎◌}
use borrow.Author.Differences.{ints}
use Rattle.plane.specs.Bit.{bit}
use Rattle.plane.specs.Edge.{Edge, same_edge}
use Rattle.plane.specs.Height.{is_in_span, starts_left_of}
use Rattle.plane.specs.Order.{order}
use Rattle.plane.specs.Sign.{Minus, Null, Plus, Sign, is_minus, is_plus, negated, sign, then_sign}
use Rattle.plane.specs.Vector.{from_to, orient, same_point}
use Rattle.plane_lists.specs.Lists.ConflictFree.{IsConflictFree}
use Rattle.lists.specs.Member.{In}
use Rattle.plane_lists.specs.Lists.Ring.{IsAnchor}
use Rattle.plane_lists.specs.Connected.Earlier.{is_earlier}
use Rattle.lists.proofs.ListsKit.{and-left, and-right, into-filter, not-not, or-out}
use Rattle.plane.proofs.PlaneKit.{cross-negated, order-null, order-reversed, order-self-null, right_of, same_edge-true, same_point-refl, same_point-true, tall-by, zero-end}
use Rattle.plane.proofs.SignKit.{bit-same, null-zero, sign-*, sign-reversed, times}
use Rattle.plane_lists.proofs.WindingKit.{low-by, ok, ok-self, ok_by, right-level, to_right}

-- ---- an anchor comes first
first-by : (a t : Edge) (es : List Edge) → IsAnchor a es → In t es → same_edge a t ≡ false → (o : Sign) → order a.from t.from ≡ o → ok a t ≡ true
first-by a t es aa i n Plus h = ap (λ o. ok_by o (orient a.from a.to t.to)) h
first-by a t es aa i n Minus h = absurd (aa.least t i h)
first-by a t es aa i n Null h =
    let m = aa.leftmost t (into-filter (λ (t : Edge). not (same_edge a t)) es t i (ap not n)) (order-null a.from t.from h) in
    ap (λ o. ok_by o (orient a.from a.to t.to)) h ∙ ap (λ k. not (is_plus k)) m

own-by : (a t : Edge) (es : List Edge) → IsAnchor a es → In t es → (b : Bool) → same_edge a t ≡ b → ok a t ≡ true
own-by a t es aa i true h = subst (λ w. ok a w ≡ true) (same_edge-true a t h) (ok-self a)
own-by a t es aa i false h = first-by a t es aa i h (order a.from t.from) refl

pub anchor_first : (a t : Edge) (es : List Edge) → IsAnchor a es → In t es → ok a t ≡ true
anchor_first a t es aa i = own-by a t es aa i (same_edge a t) refl

-- ---- a left neighbour comes before
-- a point at the height of the lower end of an upright edge that is left of the edge is left of the end
level-left : (dx dy wx wy : ℤ) → sign dy ≡ Plus → sign wy ≡ Null → sign (dx *ℤ wy -ℤ dy *ℤ wx) ≡ Plus → sign wx ≡ Minus
level-left dx dy wx wy tall level left =
    let z = zero-end dx dy wy wx (pos 0) (null-zero wy level) in
    let r : sign (pos 0 -ℤ wx *ℤ dy) ≡ negated (sign (wx *ℤ dy)) = sign-reversed (wx *ℤ dy) (pos 0 -ℤ wx *ℤ dy) (omega (arith, ints)) in
    let t : sign (wx *ℤ dy) ≡ times (sign wx) Plus = sign-* wx dy ∙ ap (times (sign wx)) tall in
    minus-of (sign wx) (sym (ap negated t) ∙ sym r ∙ sym (ap sign z) ∙ left)
  where
    minus-of : (s : Sign) → negated (times s Plus) ≡ Plus → s ≡ Minus
    minus-of Minus h = refl
    minus-of Null h = absurd (cc h)
    minus-of Plus h = absurd (cc h)

not-ok-minus : (a m : Edge) → order a.from m.from ≡ Minus → ok a m ≡ false
not-ok-minus a m h = ap (λ o. ok_by o (orient a.from a.to m.to)) h

not-ok-null : (a m : Edge) → m.from ≡ a.from → orient m.from m.to a.to ≡ Minus → ok a m ≡ false
not-ok-null a m q h =
    let n : order a.from m.from ≡ Null = subst (λ w. order a.from w ≡ Null) (sym q) (order-self-null a.from) in
    let k : orient a.from m.to a.to ≡ Minus = subst (λ w. orient w m.to a.to ≡ Minus) q h in
    let o : orient a.from a.to m.to ≡ Plus = cross-negated (from_to a.from m.to) (from_to a.from a.to) ∙ ap negated k in
    ap (λ s. ok_by s (orient a.from a.to m.to)) n ∙ ap (λ s. not (is_plus s)) o

module _ (es : List Edge) (pl : IsConflictFree es) (a m : Edge) (ia : In a es) (im : In m es) (sa : is_in_span a.from a ≡ true) (sm : is_in_span a.from m ≡ true) (right : right_of a.from m a ≡ true) where
  level-by : sign (m.from.y -ℤ a.from.y) ≡ Null → (is_plus (orient a.from a.to m.from) ≡ true) ⊎ ((same_point m.from a.from && is_minus (orient m.from m.to a.to)) ≡ true) → ok a m ≡ false
  level-by lo (inl h) =
      let x = level-left (a.to.x -ℤ a.from.x) (a.to.y -ℤ a.from.y) (m.from.x -ℤ a.from.x) (m.from.y -ℤ a.from.y) (tall-by a.from a sa) lo (plus-of (orient a.from a.to m.from) h) in
      not-ok-minus a m (ap (λ s. then_sign s (sign (m.from.x -ℤ a.from.x))) lo ∙ x)
    where
      plus-of : (s : Sign) → is_plus s ≡ true → s ≡ Plus
      plus-of Plus h = refl
      plus-of Null h = absurd (cc h)
      plus-of Minus h = absurd (cc h)
  level-by lo (inr h) =
      not-ok-null a m (same_point-true m.from a.from (and-left (same_point m.from a.from) (is_minus (orient m.from m.to a.to)) h))
      (minus-of (orient m.from m.to a.to) (and-right (same_point m.from a.from) (is_minus (orient m.from m.to a.to)) h))
    where
      minus-of : (s : Sign) → is_minus s ≡ true → s ≡ Minus
      minus-of Minus h = refl
      minus-of Null h = absurd (cc h)
      minus-of Plus h = absurd (cc h)

  before-by : (sign (m.from.y -ℤ a.from.y) ≡ Minus) ⊎ (sign (m.from.y -ℤ a.from.y) ≡ Null) → sign (m.to.y -ℤ a.from.y) ≡ Plus → ok a m ≡ false
  before-by (inl lo) hi = not-ok-minus a m (ap (λ s. then_sign s (sign (m.from.x -ℤ a.from.x))) lo)
  before-by (inr lo) hi =
      let one : to_right a.from m a ≡ 1 = ap bit (both (is_in_span a.from a) (right_of a.from m a) sa right) in
      let s = bit-same (starts_left_of m a) true (right-level a.from m es pl im lo hi a ia ∙ one) in
      level-by lo (or-out (is_plus (orient a.from a.to m.from)) (same_point m.from a.from && is_minus (orient m.from m.to a.to))
      (and-right (is_in_span m.from a) (is_plus (orient a.from a.to m.from) || (same_point m.from a.from && is_minus (orient m.from m.to a.to))) s))
    where
      both : (x y : Bool) → x ≡ true → y ≡ true → (x && y) ≡ true
      both true y h k = k
      both false y h k = absurd (cc h)

  -- so the edge doesn't come before its neighbour
  pub neighbour_before : ok a m ≡ false
  neighbour_before = let l = low-by (sign (m.from.y -ℤ a.from.y)) (sign (m.to.y -ℤ a.from.y)) sm in before-by l.0 l.1

-- ---- the same by points
earlier-by : (s t : Edge) (o : Sign) → order s.from t.from ≡ o → is_earlier s t ≡ not (ok t s)
earlier-by s t Plus h =
    let r = order-reversed s.from t.from ∙ ap negated h in
    ap (λ o. is_plus o || (same_point s.from t.from && is_plus (orient t.from t.to s.to))) h ∙ sym (ap not (not-ok-minus t s r))
earlier-by s t Null h =
    let q = order-null s.from t.from h in let k = orient t.from t.to s.to in
    let r = order-reversed s.from t.from ∙ ap negated h in
    let p : same_point s.from t.from ≡ true = subst (λ w. same_point s.from w ≡ true) q (same_point-refl s.from) in
    ap (λ o. is_plus o || (same_point s.from t.from && is_plus k)) h ∙ ap (λ b. b && is_plus k) p ∙ sym (ap (λ o. not (ok_by o k)) r ∙ not-not (is_plus k))
earlier-by s t Minus h =
    let r = order-reversed s.from t.from ∙ ap negated h in
    ap (λ o. is_plus o || (same_point s.from t.from && is_plus (orient t.from t.to s.to))) h
    ∙ apart (same_point s.from t.from) refl ∙ sym (ap (λ o. not (ok_by o (orient t.from t.to s.to))) r)
  where
    apart : (b : Bool) → same_point s.from t.from ≡ b → (b && is_plus (orient t.from t.to s.to)) ≡ false
    apart false e = refl
    apart true e =
        let q = same_point-true s.from t.from e in
        let n : order s.from t.from ≡ Null = subst (λ w. order s.from w ≡ Null) q (order-self-null s.from) in absurd (cc (sym h ∙ n))

pub earlier_is : (s t : Edge) → is_earlier s t ≡ not (ok t s)
earlier_is s t = earlier-by s t (order s.from t.from) refl
