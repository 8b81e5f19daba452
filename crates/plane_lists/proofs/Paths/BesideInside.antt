-- A point left beside an edge of a sided list is inside.
use Rattle.std.proofs.Common.{All, Bool, List, ap, arith, false, inl, inr, not, pos, refl, subst, sym, true, ℕ, ℤ, ◌*ℤ◌, ◌+◌, ◌+ℤ◌, ◌-ℤ◌, ◌<◌, ◌∙◌, ◌≡◌, ◌⊎◌}
use borrow.Author.Differences.{ints}
use Rattle.lists.specs.Member.{In}
use Rattle.plane_lists.specs.Paths.Beside.{IsLeftBeside, WindsMore, times_in}
use Rattle.plane_lists.specs.Paths.Inside.{IsInside, IsOutside}
use Rattle.plane_lists.specs.Paths.Line.{IsApart, IsFreeStep}
use Rattle.plane_lists.specs.Paths.Near.{opposite_of}
use Rattle.plane.specs.Bit.{bit}
use Rattle.plane.specs.Edge.{Edge, same_edge}
use Rattle.plane.specs.FreeSegment.{IsBetween}
use Rattle.plane.specs.RayCrossing.{IsOffEdge, down_by, up_by}
use Rattle.plane.specs.Scale.{scaled_edge, scaled_point}
use Rattle.plane.specs.Sign.{Minus, Null, Plus, Sign, is_null, negated, sign}
use Rattle.plane.specs.Vector.{IsNonZero, Vector, cross, dot, east, from_to, orient}
use Rattle.plane_lists.specs.Lists.EdgeList.{IsBalanced, down_count, up_count, winding_number}
use Rattle.plane_lists.specs.Lists.ScaledEdges.{scaled_edges}
use Rattle.plane_lists.specs.Lists.Sided.{IsSided}
use Rattle.lists.proofs.ListsKit.{all-in, in-map, in-map-out, total, total-+, total-below, total-is, total-map, total-same, total_none}
use Rattle.plane.proofs.PlaneKit.{View, cross-direction, cross-here, cross-negated, cross-self, cross2, dot-there_back, down_seen, east-direction, edge-scaled, frame-agree, from_to-scaled, from_to2, lift2, off_by-set, same_edge-refl, same_edge-true, same_vector, side-there, up_seen, view_at}
use Rattle.plane.proofs.SignKit.{agree, agree-sum, all, all-out, all2-out, imp, imp-out, lift, null-zero, plus-times, same, same-out, same_sign, same_sign-true, sign-reversed, times, ◌⊞◌, ◌⊟◌, ◌⊠◌}
use Rattle.plane_lists.proofs.WindingKit.{all-off-back, balanced-scaled, sided-scaled, winding-scaled, winding_independent}
use Rattle.plane_lists.proofs.Paths.Across.{twice-plus}
use Rattle.plane_lists.proofs.Paths.Feet.{foot-free, near-none, none}
use Rattle.plane_lists.proofs.Paths.FeetAbove.{below-by, first-times}
use Rattle.plane_lists.proofs.Paths.Inside.{inside-apart}
use Rattle.plane_lists.proofs.Paths.Later.{Later, apart-near, later-all, later-apart, later-both, later-some, later-then, near}
use Rattle.plane_lists.proofs.Paths.Places.{plus}
use Rattle.plane_lists.proofs.Paths.Steps.{apart-back, apart-off, off-apart}
use Rattle.plane_lists.proofs.Paths.Winds.{down-alike, free-off, step-winds, up-alike}

-- ---- a step through the point r, from the side of r opposite to p to the side of p, as the ends of an edge see it
there-by : (k : ℤ) (r p x : Vector) → cross (from_to (near k r (from_to p r)) (near k r (from_to r p))) (from_to (near k r (from_to p r)) (scaled_point k x)) ≡ (k +ℤ k) *ℤ cross (from_to r p) (from_to r x)
there-by k r p x =
    let k' = lift k in let r' = lift2 r in let p' = lift2 p in let x' = lift2 x in
    let ax = k' ⊠ r'.x2 ⊞ (r'.x2 ⊟ p'.x2) in let ay = k' ⊠ r'.y2 ⊞ (r'.y2 ⊟ p'.y2) in
    same ((k' ⊠ r'.x2 ⊞ (p'.x2 ⊟ r'.x2) ⊟ ax) ⊠ (k' ⊠ x'.y2 ⊟ ay) ⊟ (k' ⊠ r'.y2 ⊞ (p'.y2 ⊟ r'.y2) ⊟ ay) ⊠ (k' ⊠ x'.x2 ⊟ ax))
    ((k' ⊞ k') ⊠ cross2 (from_to2 r' p') (from_to2 r' x')) (omega arith)

abbrev less : ℤ → Vector → Vector → Vector
less k a w = record { x = k *ℤ a.x -ℤ w.x; y = k *ℤ a.y -ℤ w.y }

near-sees : (k : ℤ) (r w x : Vector) → from_to (near k r w) (scaled_point k x) ≡ less k (from_to r x) w
near-sees k r w x =
    same_vector (k *ℤ x.x -ℤ (k *ℤ r.x +ℤ w.x)) (k *ℤ x.y -ℤ (k *ℤ r.y +ℤ w.y)) (k *ℤ (x.x -ℤ r.x) -ℤ w.x) (k *ℤ (x.y -ℤ r.y) -ℤ w.y) (below-by k r.x w.x x.x) (below-by k r.y w.y x.y)

less-cross : (k : ℤ) (a c w : Vector) → cross (less k a w) (less k c w) +ℤ k *ℤ (cross a w -ℤ cross c w) ≡ k *ℤ (k *ℤ cross a c)
less-cross k a c w =
    let k' = lift k in let a' = lift2 a in let c' = lift2 c in let w' = lift2 w in
    same ((k' ⊠ a'.x2 ⊟ w'.x2) ⊠ (k' ⊠ c'.y2 ⊟ w'.y2) ⊟ (k' ⊠ a'.y2 ⊟ w'.y2) ⊠ (k' ⊠ c'.x2 ⊟ w'.x2) ⊞ k' ⊠ (cross2 a' w' ⊟ cross2 c' w')) (k' ⊠ (k' ⊠ cross2 a' c')) (omega arith)

sees-cross : (k : ℤ) (r w f t : Vector) → cross (from_to (near k r w) (scaled_point k f)) (from_to (near k r w) (scaled_point k t)) +ℤ k *ℤ (cross (from_to r f) w -ℤ cross (from_to r t) w) ≡ k *ℤ (k *ℤ cross (from_to r f) (from_to r t))
sees-cross k r w f t =
    ap (λ z. cross z (from_to (near k r w) (scaled_point k t)) +ℤ k *ℤ (cross (from_to r f) w -ℤ cross (from_to r t) w)) (near-sees k r w f)
    ∙ ap (λ z. cross (less k (from_to r f) w) z +ℤ k *ℤ (cross (from_to r f) w -ℤ cross (from_to r t) w)) (near-sees k r w t)
    ∙ less-cross k (from_to r f) (from_to r t) w

back-sum : (a p r : Vector) → cross a (from_to r p) +ℤ cross a (from_to p r) ≡ pos 0
back-sum a p r =
    let a' = lift2 a in let p' = lift2 p in let r' = lift2 r in
    same (cross2 a' (from_to2 r' p') ⊞ cross2 a' (from_to2 p' r')) (lift (pos 0)) (omega arith)

pub third-is : (c x z : Sign) → agree (times Plus c) (times x Null) z ≡ true → c ≡ z
third-is c x z h = same_sign-true c z (imp-out _ _ (all-out (λ z. imp (agree (times Plus c) (times x Null) z) λ _. same_sign c z) (all2-out (λ c x. all λ z. imp (agree (times Plus c) (times x Null) z) λ _. same_sign c z) refl c x) z) h)

pub none-of : (x z : Sign) → times x Null ≡ z → z ≡ Null
none-of Plus z h = sym h
none-of Null z h = sym h
none-of Minus z h = sym h

differ : (x y : ℤ) → sign x ≡ Plus → sign y ≡ Minus → sign (x -ℤ y) ≡ Plus
differ x y h k =
    let n : sign (pos 0 -ℤ y) ≡ Plus = sign-reversed y (pos 0 -ℤ y) (omega (arith, ints)) ∙ ap negated k in
    let e : x +ℤ (pos 0 -ℤ y) ≡ x -ℤ y = omega (arith, ints) in
    let a = agree-sum x (pos 0 -ℤ y) (x -ℤ y) e in
    same-out Plus (sign (x -ℤ y)) (subst (λ s. agree Plus s (sign (x -ℤ y)) ≡ true) n (subst (λ s. agree s (sign (pos 0 -ℤ y)) (sign (x -ℤ y)) ≡ true) h a))

differ-down : (x y : ℤ) → sign x ≡ Minus → sign y ≡ Plus → sign (x -ℤ y) ≡ Minus
differ-down x y h k = sign-reversed (y -ℤ x) (x -ℤ y) (omega (arith, ints)) ∙ ap negated (differ y x k h)

null-square : (k c : ℤ) → c ≡ pos 0 → k *ℤ (k *ℤ c) ≡ pos 0
null-square k c h = ap (λ z. k *ℤ (k *ℤ z)) h ∙ same (lift k ⊠ (lift k ⊠ lift (pos 0))) (lift (pos 0)) (omega arith)

none-sum : (x y z : ℤ) → x +ℤ y ≡ z → z ≡ pos 0 → x +ℤ y ≡ pos 0
none-sum x y z e h = e ∙ h

module _ (e : Edge) (p : Vector) (r : Vector) (v : View e.from e.to (from_to r)) (fr : sign (dot (from_to e.from e.to) (from_to r e.from)) ≡ Minus) (tr : sign (dot (from_to e.from e.to) (from_to r e.to)) ≡ Plus)
    (zf : sign (cross (from_to e.from e.to) (from_to r e.from)) ≡ Null) (zt : sign (cross (from_to e.from e.to) (from_to r e.to)) ≡ Null) (l : sign (cross (from_to e.from e.to) (from_to r p)) ≡ Plus) where
  abbrev E : Vector
  E = from_to e.from e.to

  abbrev A : Vector
  A = from_to r e.from

  abbrev C : Vector
  C = from_to r e.to

  abbrev u : Vector
  u = from_to r p

  turn-at : (a : Vector) (z : Sign) → sign (cross E a) ≡ Null → sign (dot E a) ≡ z → sign (cross a u) ≡ times z Plus
  turn-at a z h k =
      let f = frame-agree E a u v.direction in
      third-is (sign (cross a u)) (sign (dot E u)) (times z Plus)
      (subst (λ s. agree (times Plus (sign (cross a u))) (times (sign (dot E u)) Null) (times z s) ≡ true) l
      (subst (λ s. agree (times Plus (sign (cross a u))) (times (sign (dot E u)) Null) (times s (sign (cross E u))) ≡ true) k
      (subst (λ s. agree (times Plus (sign (cross a u))) (times (sign (dot E u)) s) (times (sign (dot E a)) (sign (cross E u))) ≡ true) h f)))

  from-side : sign (cross u A) ≡ Plus
  from-side = cross-negated A u ∙ ap negated (turn-at A Minus zf fr)

  to-side : sign (cross u C) ≡ Minus
  to-side = cross-negated C u ∙ ap negated (turn-at C Plus zt tr)

  in-line : cross A C ≡ pos 0
  in-line =
      let f = frame-agree E A C v.direction in
      let g = subst (λ s. agree (times Plus (sign (cross A C))) (times (sign (dot E C)) (sign (cross E A))) (times (sign (dot E A)) s) ≡ true) zt f in
      let h = subst (λ s. agree (times Plus (sign (cross A C))) (times (sign (dot E C)) s) (times (sign (dot E A)) Null) ≡ true) zf g in
      null-zero (cross A C) (third-is (sign (cross A C)) (sign (dot E C)) (times (sign (dot E A)) Null) h ∙ none-of (sign (dot E A)) (times (sign (dot E A)) Null) refl)

  module _ (k : ℤ) (hk : sign k ≡ Plus) where
    abbrev P0 : Vector
    P0 = near k r (from_to p r)

    abbrev P1 : Vector
    P1 = near k r (from_to r p)

    abbrev D : Vector
    D = from_to P0 P1

    pub s0 : sign (cross D (from_to P0 (scaled_point k e.from))) ≡ Plus
    s0 = ap sign (there-by k r p e.from) ∙ plus-times (k +ℤ k) (cross u A) (twice-plus k hk) ∙ from-side

    pub t0 : sign (cross D (from_to P0 (scaled_point k e.to))) ≡ Minus
    t0 = ap sign (there-by k r p e.to) ∙ plus-times (k +ℤ k) (cross u C) (twice-plus k hk) ∙ to-side

    s1 : sign (cross D (from_to P1 (scaled_point k e.from))) ≡ Plus
    s1 = ap sign (side-there P0 P1 (scaled_point k e.from)) ∙ s0

    t1 : sign (cross D (from_to P1 (scaled_point k e.to))) ≡ Minus
    t1 = ap sign (side-there P0 P1 (scaled_point k e.to)) ∙ t0

    back-turn : (a : Vector) (z : Sign) → sign (cross a u) ≡ z → sign (cross a (from_to p r)) ≡ negated z
    back-turn a z h = sign-reversed (cross a u) (cross a (from_to p r)) (back-sum a p r) ∙ ap negated h

    sees-by : (w : Vector) (z : Sign) → sign (cross A w -ℤ cross C w) ≡ z → sign (cross (from_to (near k r w) (scaled_point k e.from)) (from_to (near k r w) (scaled_point k e.to))) ≡ negated z
    sees-by w z h =
        let x = cross (from_to (near k r w) (scaled_point k e.from)) (from_to (near k r w) (scaled_point k e.to)) in let y = k *ℤ (cross A w -ℤ cross C w) in
        let q = none-sum x y (k *ℤ (k *ℤ cross A C)) (sees-cross k r w e.from e.to) (null-square k (cross A C) in-line) in
        sign-reversed y x (omega (arith, ints)) ∙ ap negated (plus-times k (cross A w -ℤ cross C w) hk ∙ h)

    pub c0 : sign (cross (from_to P0 (scaled_point k e.from)) (from_to P0 (scaled_point k e.to))) ≡ Minus
    c0 = sees-by (from_to p r) Plus (differ (cross A (from_to p r)) (cross C (from_to p r)) (back-turn A Minus (turn-at A Minus zf fr)) (back-turn C Plus (turn-at C Plus zt tr)))

    c1 : sign (cross (from_to P1 (scaled_point k e.from)) (from_to P1 (scaled_point k e.to))) ≡ Plus
    c1 = sees-by u Minus (differ-down (cross A u) (cross C u) (turn-at A Minus zf fr) (turn-at C Plus zt tr))

    by-signs : (g : Sign → Sign → Sign → ℕ) (P : Vector) (s t c : Sign) → sign (cross D (from_to P (scaled_point k e.from))) ≡ s → sign (cross D (from_to P (scaled_point k e.to))) ≡ t → sign (cross (from_to P (scaled_point k e.from)) (from_to P (scaled_point k e.to))) ≡ c →
        g (sign (cross D (from_to P (scaled_point k e.from)))) (sign (cross D (from_to P (scaled_point k e.to)))) (sign (cross (from_to P (scaled_point k e.from)) (from_to P (scaled_point k e.to)))) ≡ g s t c
    by-signs g P s t c h i j =
        ap (λ z. g z (sign (cross D (from_to P (scaled_point k e.to)))) (sign (cross (from_to P (scaled_point k e.from)) (from_to P (scaled_point k e.to))))) h
        ∙ ap (λ z. g s z (sign (cross (from_to P (scaled_point k e.from)) (from_to P (scaled_point k e.to))))) i ∙ ap (g s t) j

    pub up-first : up_seen D (from_to P0) (scaled_edge k e) ≡ 0
    up-first = by-signs up_by P0 Plus Minus Minus s0 t0 c0

    pub up-last : up_seen D (from_to P1) (scaled_edge k e) ≡ 0
    up-last = by-signs up_by P1 Plus Minus Plus s1 t1 c1

    pub down-first : down_seen D (from_to P0) (scaled_edge k e) ≡ 1
    down-first = by-signs down_by P0 Plus Minus Minus s0 t0 c0

    pub down-last : down_seen D (from_to P1) (scaled_edge k e) ≡ 0
    down-last = by-signs down_by P1 Plus Minus Plus s1 t1 c1

    pub first-off : IsOffEdge P0 (scaled_edge k e)
    first-off = off_by-set (sign (cross (from_to P0 (scaled_point k e.from)) (from_to P0 (scaled_point k e.to)))) _ (ap (λ s. not (is_null s)) c0)

    pub last-off : IsOffEdge P1 (scaled_edge k e)
    last-off = off_by-set (sign (cross (from_to P1 (scaled_point k e.from)) (from_to P1 (scaled_point k e.to)))) _ (ap (λ s. not (is_null s)) c1)

    pub step-way : IsNonZero D
    step-way = cross-direction D (from_to P0 (scaled_point k e.from)) s0

at-least : (f : Edge → ℕ) (x : Edge) (xs : List Edge) → In x xs → f x ≡ 1 → 0 < total f xs
at-least f x xs i h = let a = total-below (λ (y : Edge). 0) f xs x (λ y j. omega arith) i (omega arith) in omega arith

times-total : (e : Edge) (es : List Edge) → total (λ (f : Edge). bit (same_edge e f)) es ≡ times_in e es
times-total e es = total-is (λ (f : Edge). bit (same_edge e f)) es

pub times-some : (e : Edge) (es : List Edge) → In e es → 0 < times_in e es
times-some e es i = let a = at-least (λ f. bit (same_edge e f)) e es i (ap bit (same_edge-refl e)) in let b = times-total e es in omega arith

pub times-none : (e : Edge) (es : List Edge) → ((f : Edge) → In f es → same_edge e f ≡ false) → times_in e es ≡ 0
times-none e es h = sym (times-total e es) ∙ total_none (λ (f : Edge). bit (same_edge e f)) es (λ f i. ap bit (h f i))

times-scaled : (q : ℤ) → sign q ≡ Plus → (e : Edge) (es : List Edge) → times_in (scaled_edge q e) (scaled_edges q es) ≡ times_in e es
times-scaled q hq e es =
    sym (times-total (scaled_edge q e) (scaled_edges q es)) ∙ total-map (λ (f : Edge). bit (same_edge (scaled_edge q e) f)) (scaled_edge q) es
    ∙ total-same (λ (f : Edge). bit (same_edge (scaled_edge q e) (scaled_edge q f))) (λ (f : Edge). bit (same_edge e f)) es (λ f j. ap bit (edge-scaled q hq e f)) ∙ times-total e es

-- a number that is none or one before and after it grows
one-by : (z0 z1 : ℤ) (c : ℕ) → z1 ≡ z0 +ℤ pos c → 0 < c → (z0 ≡ pos 0) ⊎ (z0 ≡ pos 1) → (z1 ≡ pos 0) ⊎ (z1 ≡ pos 1) → (z0 ≡ pos 0) × (z1 ≡ pos 1)
one-by z0 z1 c h l (inl x) (inr y) = (x, y)
one-by z0 z1 c h l (inr x) (inr y) = absurd (omega (arith, ints))
one-by z0 z1 c h l (inl x) (inl y) = absurd (omega (arith, ints))
one-by z0 z1 c h l (inr x) (inl y) = absurd (omega (arith, ints))

less-by : (u0 d0 u1 d1 c : ℕ) → u0 ≡ u1 → d0 ≡ d1 + c → pos u1 -ℤ pos d1 ≡ (pos u0 -ℤ pos d0) +ℤ pos c
less-by u0 d0 u1 d1 c h k = omega (arith, ints)

-- ---- across an edge, at a point that no other edge passes
module _ (es : List Edge) (bal : IsBalanced es) (e : Edge) (p r : Vector) (inside : IsBetween e.from e.to r) (left : orient e.from e.to p ≡ Plus) (clear : (f : Edge) → In f es → same_edge e f ≡ false → IsApart r r f) where
  abbrev line : Vector
  line = from_to e.from e.to

  v : View e.from e.to (from_to r)
  v = view_at e.from e.to r inside

  from-behind : sign (dot line (from_to r e.from)) ≡ Minus
  from-behind = sign-reversed (dot line (from_to e.from r)) (dot line (from_to r e.from)) (dot-there_back line e.from r) ∙ ap negated inside.after_s

  from-on : sign (cross line (from_to r e.from)) ≡ Null
  from-on = v.side e.from ∙ ap sign (cross-here line e.from)

  to-on : sign (cross line (from_to r e.to)) ≡ Null
  to-on = v.side e.to ∙ ap sign (cross-self line)

  p-left : sign (cross line (from_to r p)) ≡ Plus
  p-left = v.side p ∙ left

  -- ---- the other edges keep clear of the step
  abbrev Other : ℤ → Type 0
  Other k = (f : Edge) → In f es → same_edge e f ≡ false → IsApart (near k r (from_to p r)) (near k r (from_to r p)) (scaled_edge k f)

  other-by : (f : Edge) → In f es → (b : Bool) → same_edge e f ≡ b → Later (λ k. same_edge e f ≡ false → IsApart (near k r (from_to p r)) (near k r (from_to r p)) (scaled_edge k f))
  other-by f j true h = (0, λ k l n. absurd (cc (sym h ∙ n)))
  other-by f j false h =
      later-then (λ k. IsApart (near k r (from_to p r)) (near k r (from_to r p)) (scaled_edge k f)) (λ k. same_edge e f ≡ false → IsApart (near k r (from_to p r)) (near k r (from_to r p)) (scaled_edge k f)) (λ k hk x n. x)
      (later-apart r (from_to p r) r (from_to r p) f (apart-near r r f (clear f j h) (from_to p r) (from_to r p)))

  others-later : Later Other
  others-later = later-all (λ f k. same_edge e f ≡ false → IsApart (near k r (from_to p r)) (near k r (from_to r p)) (scaled_edge k f)) es (λ f j. other-by f j (same_edge e f) refl)

  module _ (k : ℤ) (hk : sign k ≡ Plus) (others : Other k) where
    abbrev L : List Edge
    L = scaled_edges k es

    abbrev e' : Edge
    e' = scaled_edge k e

    abbrev Q0 : Vector
    Q0 = near k r (from_to p r)

    abbrev Q1 : Vector
    Q1 = near k r (from_to r p)

    abbrev way : Vector
    way = from_to Q0 Q1

    other-apart : (f : Edge) → In f L → same_edge e' f ≡ false → IsApart Q0 Q1 f
    other-apart f j n =
        let t = in-map-out (scaled_edge k) es f j in
        subst (λ w. IsApart Q0 Q1 w) (sym t.2) (others t.0 t.1 (sym (edge-scaled k hk e t.0) ∙ subst (λ w. same_edge e' w ≡ false) t.2 n))

    off-by : (f : Edge) → In f L → (b : Bool) → same_edge e' f ≡ b → IsOffEdge Q0 f
    off-by f j true h = subst (λ w. IsOffEdge Q0 w) (same_edge-true e' f h) (first-off e p r v from-behind inside.before_t from-on to-on p-left k hk)
    off-by f j false h = apart-off Q0 Q1 f (other-apart f j h)

    first-free : All (IsOffEdge Q0) L
    first-free = all-in (IsOffEdge Q0) L (λ f j. off-by f j (same_edge e' f) refl)

    last-off-by : (f : Edge) → In f L → (b : Bool) → same_edge e' f ≡ b → IsOffEdge Q1 f
    last-off-by f j true h = subst (λ w. IsOffEdge Q1 w) (same_edge-true e' f h) (last-off e p r v from-behind inside.before_t from-on to-on p-left k hk)
    last-off-by f j false h = apart-off Q1 Q0 f (apart-back Q0 Q1 f (other-apart f j h))

    pub last-free : All (IsOffEdge Q1) L
    last-free = all-in (IsOffEdge Q1) L (λ f j. last-off-by f j (same_edge e' f) refl)

    ups-by : (f : Edge) → In f L → (b : Bool) → same_edge e' f ≡ b → up_seen way (from_to Q0) f ≡ up_seen way (from_to Q1) f
    ups-by f j true h =
        subst (λ w. up_seen way (from_to Q0) w ≡ up_seen way (from_to Q1) w) (same_edge-true e' f h)
        (up-first e p r v from-behind inside.before_t from-on to-on p-left k hk ∙ sym (up-last e p r v from-behind inside.before_t from-on to-on p-left k hk))
    ups-by f j false h = up-alike Q0 Q1 f (other-apart f j h)

    downs-by : (f : Edge) → In f L → (b : Bool) → same_edge e' f ≡ b → down_seen way (from_to Q0) f ≡ down_seen way (from_to Q1) f + bit b
    downs-by f j true h =
        subst (λ w. down_seen way (from_to Q0) w ≡ down_seen way (from_to Q1) w + 1) (same_edge-true e' f h)
        (let x = down-first e p r v from-behind inside.before_t from-on to-on p-left k hk in let y = down-last e p r v from-behind inside.before_t from-on to-on p-left k hk in omega arith)
    downs-by f j false h = let x = down-alike Q0 Q1 f (other-apart f j h) in omega arith

    turned : (P : Vector) → All (IsOffEdge P) L → winding_number east P L ≡ winding_number way P L
    turned P o = winding_independent east way P east-direction (step-way e p r v from-behind inside.before_t from-on to-on p-left k hk) L o (balanced-scaled k hk es bal)

    abbrev own : Edge → ℕ
    own g = bit (same_edge e' g)

    own-times : total own L ≡ times_in e es
    own-times = total-map own (scaled_edge k) es ∙ total-same (λ f. own (scaled_edge k f)) (λ f. bit (same_edge e f)) es (λ f j. ap bit (edge-scaled k hk e f)) ∙ times-total e es

    crossed : WindsMore L Q1 Q0 (times_in e es)
    crossed =
        let x = sym (total-is (up_seen way (from_to Q0)) L) ∙ total-same (up_seen way (from_to Q0)) (up_seen way (from_to Q1)) L (λ g j. ups-by g j (same_edge e' g) refl) ∙ total-is (up_seen way (from_to Q1)) L in
        let y = sym (total-is (down_seen way (from_to Q0)) L) ∙ total-same (down_seen way (from_to Q0)) (λ g. down_seen way (from_to Q1) g + own g) L (λ g j. downs-by g j (same_edge e' g) refl)
        ∙ total-+ (down_seen way (from_to Q1)) own L ∙ ap (λ n. n + total own L) (total-is (down_seen way (from_to Q1)) L) in
        record {
          off_first = last-free;
          off_second = first-free;
          more = turned Q1 last-free ∙ less-by (up_count way Q0 L) (down_count way Q0 L) (up_count way Q1 L) (down_count way Q1 L) (total own L) x y
              ∙ ap (λ z. z +ℤ pos (total own L)) (sym (turned Q0 first-free)) ∙ ap (λ n. winding_number east Q0 L +ℤ pos n) own-times;
        }

  pub crossed-later : Later (λ k. WindsMore (scaled_edges k es) (near k r (from_to r p)) (near k r (from_to p r)) (times_in e es))
  crossed-later = later-then Other (λ k. WindsMore (scaled_edges k es) (near k r (from_to r p)) (near k r (from_to p r)) (times_in e es)) (λ k hk o. crossed k hk o) others-later

-- ---- an edge of a sided list
module _ (es : List Edge) (sd : IsSided es) (e : Edge) (i : In e es) (p r : Vector) (inside : IsBetween e.from e.to r) (left : orient e.from e.to p ≡ Plus) where
  abbrev Sides : ℤ → Type 0
  Sides k = IsInside (scaled_edges k es) (near k r (from_to r p)) × IsOutside (scaled_edges k es) (near k r (from_to p r))

  sides : (k : ℤ) → sign k ≡ Plus → WindsMore (scaled_edges k es) (near k r (from_to r p)) (near k r (from_to p r)) (times_in e es) → Sides k
  sides k hk c =
      let w = one-by (winding_number east (near k r (from_to p r)) (scaled_edges k es)) (winding_number east (near k r (from_to r p)) (scaled_edges k es)) (times_in e es) c.more
      (times-some e es i) (sd.counted k hk (near k r (from_to p r)) c.off_second) (sd.counted k hk (near k r (from_to r p)) c.off_first) in
      (record { off = c.off_first; once = w.1 }, record { off = c.off_second; none = w.0 })

  pub sides-later : Later Sides
  sides-later =
      later-then (λ k. WindsMore (scaled_edges k es) (near k r (from_to r p)) (near k r (from_to p r)) (times_in e es)) Sides sides
      (crossed-later es sd.balanced e p r inside left (λ f j n. inside-apart es sd e f i j n r r inside inside))

-- ---- in any direction to the left
to-there : (r u : Vector) → from_to r (plus r u) ≡ u
to-there r u = same_vector ((r.x +ℤ u.x) -ℤ r.x) ((r.y +ℤ u.y) -ℤ r.y) u.x u.y (omega (arith, ints)) (omega (arith, ints))

from-there : (r u : Vector) → from_to (plus r u) r ≡ opposite_of u
from-there r u = same_vector (r.x -ℤ (r.x +ℤ u.x)) (r.y -ℤ (r.y +ℤ u.y)) (pos 0 -ℤ u.x) (pos 0 -ℤ u.y) (omega (arith, ints)) (omega (arith, ints))

abbrev ahead : Edge → Vector → Vector → Type 0
ahead e r u = orient e.from e.to (plus r u) ≡ Plus

is-ahead : (e : Edge) (r u : Vector) → IsBetween e.from e.to r → sign (cross (from_to e.from e.to) u) ≡ Plus → ahead e r u
is-ahead e r u b l = sym ((view_at e.from e.to r b).side (plus r u)) ∙ ap (λ w. sign (cross (from_to e.from e.to) w)) (to-there r u) ∙ l

pub winds-across : (es : List Edge) → IsBalanced es → (e : Edge) (r u : Vector) → IsBetween e.from e.to r → sign (cross (from_to e.from e.to) u) ≡ Plus →
    ((f : Edge) → In f es → same_edge e f ≡ false → IsApart r r f) → Later (λ k. WindsMore (scaled_edges k es) (near k r u) (near k r (opposite_of u)) (times_in e es))
winds-across es bal e r u b l clear =
    subst (λ w. Later (λ k. WindsMore (scaled_edges k es) (near k r u) (near k r w) (times_in e es))) (from-there r u)
    (subst (λ w. Later (λ k. WindsMore (scaled_edges k es) (near k r w) (near k r (from_to (plus r u) r)) (times_in e es))) (to-there r u) (crossed-later es bal e (plus r u) r b (is-ahead e r u b l) clear))

pub edge-parts : (es : List Edge) → IsSided es → (e : Edge) → In e es → (r u : Vector) → IsBetween e.from e.to r → sign (cross (from_to e.from e.to) u) ≡ Plus →
    Later (λ k. IsInside (scaled_edges k es) (near k r u) × IsOutside (scaled_edges k es) (near k r (opposite_of u)))
edge-parts es sd e i r u b l =
    let p = plus r u in
    subst (λ w. Later (λ k. IsInside (scaled_edges k es) (near k r u) × IsOutside (scaled_edges k es) (near k r w))) (from-there r u)
    (subst (λ w. Later (λ k. IsInside (scaled_edges k es) (near k r w) × IsOutside (scaled_edges k es) (near k r (from_to p r)))) (to-there r u) (sides-later es sd e i p r b (is-ahead e r u b l)))

-- at a point with fractions
left-scaled-by : (q : ℤ) → sign q ≡ Plus → (e : Edge) (u : Vector) → sign (cross (from_to e.from e.to) u) ≡ Plus → sign (cross (from_to (scaled_point q e.from) (scaled_point q e.to)) u) ≡ Plus
left-scaled-by q hq e u l = ap (λ d. sign (cross d u)) (from_to-scaled q hq e.from e.to) ∙ ap sign (first-times q (from_to e.from e.to) u) ∙ plus-times q (cross (from_to e.from e.to) u) hq ∙ l

pub edge-parts-inside : (es : List Edge) → IsSided es → (e : Edge) → In e es → (q : ℤ) → sign q ≡ Plus → (r u : Vector) → IsBetween (scaled_point q e.from) (scaled_point q e.to) r → sign (cross (from_to e.from e.to) u) ≡ Plus →
    Later (λ k. IsInside (scaled_edges k (scaled_edges q es)) (near k r u) × IsOutside (scaled_edges k (scaled_edges q es)) (near k r (opposite_of u)))
edge-parts-inside es sd e i q hq r u b l =
    edge-parts (scaled_edges q es) (sided-scaled q hq es sd) (scaled_edge q e) (in-map (scaled_edge q) es e i) r u b
    (left-scaled-by q hq e u l)

pub winds-across-edge : (es : List Edge) → IsBalanced es → (e : Edge) (q : ℤ) → sign q ≡ Plus → (r u : Vector) → IsBetween (scaled_point q e.from) (scaled_point q e.to) r → sign (cross (from_to e.from e.to) u) ≡ Plus →
    ((f : Edge) → In f es → same_edge e f ≡ false → IsOffEdge r (scaled_edge q f)) → Later (λ k. WindsMore (scaled_edges k (scaled_edges q es)) (near k r u) (near k r (opposite_of u)) (times_in e es))
winds-across-edge es bal e q hq r u b l off =
    subst (λ n. Later (λ k. WindsMore (scaled_edges k (scaled_edges q es)) (near k r u) (near k r (opposite_of u)) n)) (times-scaled q hq e es)
    (winds-across (scaled_edges q es) (balanced-scaled q hq es bal) (scaled_edge q e) r u b (left-scaled-by q hq e u l)
    (λ f j n.
    let t = in-map-out (scaled_edge q) es f j in
    let d = sym (edge-scaled q hq e t.0) ∙ subst (λ w. same_edge (scaled_edge q e) w ≡ false) t.2 n in
    subst (IsApart r r) (sym t.2) (off-apart r (scaled_edge q t.0) (off t.0 t.1 d))))

-- ---- points left beside the edge
pub beside-inside : (es : List Edge) → IsSided es → (e : Edge) → In e es → (p : Vector) → IsLeftBeside es e p → IsInside es p
beside-inside es sd e i p a =
    let r = a.foot in
    let A = λ (k : ℤ). IsFreeStep (scaled_edges k es) (near k p none) (near k r (from_to r p)) in
    let B = λ (k : ℤ). IsInside (scaled_edges k es) (near k r (from_to r p)) × IsOutside (scaled_edges k es) (near k r (from_to p r)) in
    let s = later-some (λ k. A k × B k) (later-both A B (foot-free es sd e i p a) (sides-later es sd e i p r a.inside a.left)) in
    let k = s.0 in let L = scaled_edges k es in let q = near k r (from_to r p) in record {
      off = all-off-back k s.1 p es (subst (λ w. All (IsOffEdge w) L) (near-none k p) (free-off L (near k p none) q s.2.0));
      once = sym (winding-scaled k s.1 east p es) ∙ ap (λ w. winding_number east w L) (sym (near-none k p)) ∙ step-winds L (balanced-scaled k s.1 es sd.balanced) (near k p none) q s.2.0 ∙ s.2.1.0.once;
    }
