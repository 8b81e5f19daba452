-- Views from inside a segment: how its inner points see all others.
use Rattle.std.proofs.Common.{ap, arith, refl, subst, sym, true, ◌∙◌, ◌≡◌}
use Rattle.std.proofs.Math.Path.{fun_ext}
use borrow.Author.Differences.{ints}
use lib.IntN.{pos, ℤ, ◌*ℤ◌, ◌+ℤ◌, ◌-ℤ◌}
use Rattle.plane.specs.FreeSegment.{IsBetween}
use Rattle.plane.specs.Sign.{Plus, sign}
use Rattle.plane.specs.Vector.{IsNonZero, Vector, cross, dot, from_to}
use Rattle.plane.proofs.Identities.{apart, lift, same, ◌⊞◌, ◌⊟◌, ◌⊠◌}
use Rattle.plane.proofs.Points.{same_vector}
use Rattle.plane.proofs.Products.{Vec2, cross-chain, cross2, dot-chain, dot2, frame, from_to2, lift2, side-moves, side-there}
use Rattle.plane.proofs.Signs.{agree, agree-products, agree-sum, null-zero, plus-plus, plus-sum, plus-times, same-out, sign-twice, sum-with-plus, sum-zero-left, times, times-plus, weighted-agree}

-- W, D: how the side changes from s to p and to t. m, q: how far p is from s and from t. k = 0
mix : (N C Cp Ct W D m q k h : ℤ) → N *ℤ W +ℤ h *ℤ k ≡ m *ℤ D → Cp +ℤ W ≡ C → Ct +ℤ D ≡ C → m +ℤ q ≡ N → k ≡ pos 0 → q *ℤ C +ℤ m *ℤ Ct ≡ N *ℤ Cp
mix N C Cp Ct W D m q k h f e g i z =
    let N' = lift N in let C' = lift C in let Cp' = lift Cp in let Ct' = lift Ct in let W' = lift W in let D' = lift D in let m' = lift m in let q' = lift q in let h' = lift h in
    let f0 : N *ℤ W +ℤ h *ℤ pos 0 ≡ m *ℤ D = rw (← z) f in
    same (q' ⊠ C' ⊞ m' ⊠ Ct') (N' ⊠ Cp')
    (omega (
      arith,
      apart (N' ⊠ W' ⊞ h' ⊠ lift (pos 0)) (m' ⊠ D') f0,
      apart (N' ⊠ (Cp' ⊞ W')) (N' ⊠ C') (ap (λ (x : ℤ). N *ℤ x) e),
      apart (m' ⊠ (Ct' ⊞ D')) (m' ⊠ C') (ap (λ (x : ℤ). m *ℤ x) g),
      apart ((m' ⊞ q') ⊠ C') (N' ⊠ C') (ap (λ (x : ℤ). x *ℤ C) i),
    ))

-- ---- a view from inside the segment from s to t: r places each point as it is seen from there, to some scale
pub record View (s t : Vector) (r : Vector → Vector) : Type 0 where
  pub direction : IsNonZero (from_to s t)
  pub side : (w : Vector) → sign (cross (from_to s t) (r w)) ≡ sign (cross (from_to s t) (from_to s w))
  pub mixed : (u v : Vector) → agree (times Plus (sign (cross (from_to s u) (from_to s v)))) (times Plus (sign (cross (from_to t u) (from_to t v)))) (times Plus (sign (cross (r u) (r v)))) ≡ true
  pub past_s : (w : Vector) → agree Plus (sign (dot (from_to s t) (r w))) (sign (dot (from_to s t) (from_to s w))) ≡ true
  pub before_t : (w : Vector) → agree Plus (sign (dot (from_to s t) (from_to t w))) (sign (dot (from_to s t) (r w))) ≡ true

-- from a point p inside
module _ (s t p : Vector) (i : IsBetween s t p) where
  abbrev pub st : Vector
  st = from_to s t

  st-direction : IsNonZero st
  st-direction =
      let h = agree-sum (dot st (from_to s p)) (dot st (from_to p t)) (dot st st) (dot-chain st s p t) in
      plus-plus (sign (dot st st)) (rw (i.after_s, i.before_t) at h)

  on-line : cross st (from_to s p) ≡ pos 0
  on-line = null-zero (cross st (from_to s p)) i.on_line

  same-side : (w : Vector) → cross st (from_to p w) ≡ cross st (from_to s w)
  same-side w = sum-zero-left (cross st (from_to s p)) (cross st (from_to p w)) (cross st (from_to s w)) on-line (cross-chain st s p w)

  mixed-at : (u v : Vector) → agree (times Plus (sign (cross (from_to s u) (from_to s v)))) (times Plus (sign (cross (from_to t u) (from_to t v)))) (times Plus (sign (cross (from_to p u) (from_to p v)))) ≡ true
  mixed-at u v =
      let C = cross (from_to s u) (from_to s v) in let Ct = cross (from_to t u) (from_to t v) in let Cp = cross (from_to p u) (from_to p v) in
      let m = dot st (from_to s p) in let q = dot st (from_to p t) in let N = dot st st in
      let e = mix N C Cp Ct (cross (from_to s p) (from_to u v)) (cross st (from_to u v)) m q (cross st (from_to s p)) (dot st (from_to u v))
      (frame st (from_to s p) (from_to u v)) (side-moves s p u v) (side-moves s t u v) (dot-chain st s p t) on-line in
      let h = agree-products q C m Ct N Cp e in
      rw (i.before_t, i.after_s, st-direction) at h

  pub view_at : View s t (from_to p)
  view_at = record {
    direction = st-direction;
    side = λ w. ap sign (same-side w);
    mixed = mixed-at;
    past_s = λ w. sum-with-plus (dot st (from_to s p)) (dot st (from_to p w)) (dot st (from_to s w)) i.after_s (dot-chain st s p w);
    before_t = λ w. sum-with-plus (dot st (from_to p t)) (dot st (from_to t w)) (dot st (from_to p w)) i.before_t (dot-chain st p t w);
  }

-- from the middle, at twice the size
abbrev pub mid : Vector → Vector → Vector → Vector
mid s t w = record { x = (w.x -ℤ s.x) +ℤ (w.x -ℤ t.x); y = (w.y -ℤ s.y) +ℤ (w.y -ℤ t.y) }

abbrev mid2 : Vec2 → Vec2 → Vec2 → Vec2
mid2 s t w = record { x2 = (w.x2 ⊟ s.x2) ⊞ (w.x2 ⊟ t.x2); y2 = (w.y2 ⊟ s.y2) ⊞ (w.y2 ⊟ t.y2) }

module _ (s t : Vector) (d : IsNonZero (from_to s t)) where
  abbrev line : Vector
  line = from_to s t

  mid-side : (w : Vector) → cross line (mid s t w) ≡ cross line (from_to s w) +ℤ cross line (from_to s w)
  mid-side w =
      let s' = lift2 s in let t' = lift2 t in let w' = lift2 w in let l = from_to2 s' t' in
      same (cross2 l (mid2 s' t' w')) (cross2 l (from_to2 s' w') ⊞ cross2 l (from_to2 s' w')) (omega arith)

  mid-mixed : (u v : Vector) → (cross (from_to s u) (from_to s v) +ℤ cross (from_to s u) (from_to s v)) +ℤ (cross (from_to t u) (from_to t v) +ℤ cross (from_to t u) (from_to t v)) ≡ cross (mid s t u) (mid s t v)
  mid-mixed u v =
      let s' = lift2 s in let t' = lift2 t in let u' = lift2 u in let v' = lift2 v in
      let c = cross2 (from_to2 s' u') (from_to2 s' v') in let c' = cross2 (from_to2 t' u') (from_to2 t' v') in
      same ((c ⊞ c) ⊞ (c' ⊞ c')) (cross2 (mid2 s' t' u') (mid2 s' t' v')) (omega arith)

  mid-past : (w : Vector) → dot line line +ℤ dot line (mid s t w) ≡ dot line (from_to s w) +ℤ dot line (from_to s w)
  mid-past w =
      let s' = lift2 s in let t' = lift2 t in let w' = lift2 w in let l = from_to2 s' t' in
      same (dot2 l l ⊞ dot2 l (mid2 s' t' w')) (dot2 l (from_to2 s' w') ⊞ dot2 l (from_to2 s' w')) (omega arith)

  mid-before : (w : Vector) → dot line line +ℤ (dot line (from_to t w) +ℤ dot line (from_to t w)) ≡ dot line (mid s t w)
  mid-before w =
      let s' = lift2 s in let t' = lift2 t in let w' = lift2 w in let l = from_to2 s' t' in
      same (dot2 l l ⊞ (dot2 l (from_to2 t' w') ⊞ dot2 l (from_to2 t' w'))) (dot2 l (mid2 s' t' w')) (omega arith)

  mid-mixed-agree : (u v : Vector) → agree (times Plus (sign (cross (from_to s u) (from_to s v)))) (times Plus (sign (cross (from_to t u) (from_to t v)))) (times Plus (sign (cross (mid s t u) (mid s t v)))) ≡ true
  mid-mixed-agree u v =
      let c = cross (from_to s u) (from_to s v) in let c' = cross (from_to t u) (from_to t v) in let m = cross (mid s t u) (mid s t v) in
      let h = agree-sum (c +ℤ c) (c' +ℤ c') m (mid-mixed u v) in
      let g : agree (sign c) (sign c') (sign m) ≡ true = rw (sign-twice c, sign-twice c') at h in
      rw (times-plus (sign c), times-plus (sign c'), times-plus (sign m)) g

  pub view_mid : View s t (mid s t)
  view_mid = record {
    direction = d;
    side = λ w. ap sign (mid-side w) ∙ sign-twice (cross line (from_to s w));
    mixed = mid-mixed-agree;
    past_s = λ w. let h = sum-with-plus (dot line line) (dot line (mid s t w)) (dot line (from_to s w) +ℤ dot line (from_to s w)) d (mid-past w) in rw (sign-twice (dot line (from_to s w))) at h;
    before_t = λ w. let h = sum-with-plus (dot line line) (dot line (from_to t w) +ℤ dot line (from_to t w)) (dot line (mid s t w)) d (mid-before w) in rw (sign-twice (dot line (from_to t w))) at h;
  }

pub mid_reversed : (s t : Vector) → mid s t ≡ mid t s
mid_reversed s t = fun_ext (λ w. same_vector ((w.x -ℤ s.x) +ℤ (w.x -ℤ t.x)) ((w.y -ℤ s.y) +ℤ (w.y -ℤ t.y)) ((w.x -ℤ t.x) +ℤ (w.x -ℤ s.x)) ((w.y -ℤ t.y) +ℤ (w.y -ℤ s.y)) (omega (arith, ints)) (omega (arith, ints)))

abbrev pub weigh : ℤ → ℤ → Vector → Vector → Vector
weigh q m a b = record { x = q *ℤ a.x +ℤ m *ℤ b.x; y = q *ℤ a.y +ℤ m *ℤ b.y }

pub cross-weigh : (q m : ℤ) (d a b : Vector) → cross d (weigh q m a b) ≡ q *ℤ cross d a +ℤ m *ℤ cross d b
cross-weigh q m d a b =
    let q' = lift q in let m' = lift m in let e = lift2 d in let u = lift2 a in let v = lift2 b in
    same (e.x2 ⊠ (q' ⊠ u.y2 ⊞ m' ⊠ v.y2) ⊟ e.y2 ⊠ (q' ⊠ u.x2 ⊞ m' ⊠ v.x2)) (q' ⊠ cross2 e u ⊞ m' ⊠ cross2 e v) (omega arith)

pub weigh-cross : (q m : ℤ) (a b d : Vector) → cross (weigh q m a b) d ≡ q *ℤ cross a d +ℤ m *ℤ cross b d
weigh-cross q m a b d =
    let q' = lift q in let m' = lift m in let e = lift2 d in let u = lift2 a in let v = lift2 b in
    same ((q' ⊠ u.x2 ⊞ m' ⊠ v.x2) ⊠ e.y2 ⊟ (q' ⊠ u.y2 ⊞ m' ⊠ v.y2) ⊠ e.x2) (q' ⊠ cross2 u e ⊞ m' ⊠ cross2 v e) (omega arith)

pub dot-weigh : (q m : ℤ) (d a b : Vector) → dot d (weigh q m a b) ≡ q *ℤ dot d a +ℤ m *ℤ dot d b
dot-weigh q m d a b =
    let q' = lift q in let m' = lift m in let e = lift2 d in let u = lift2 a in let v = lift2 b in
    same (e.x2 ⊠ (q' ⊠ u.x2 ⊞ m' ⊠ v.x2) ⊞ e.y2 ⊠ (q' ⊠ u.y2 ⊞ m' ⊠ v.y2)) (q' ⊠ dot2 e u ⊞ m' ⊠ dot2 e v) (omega arith)

square : (q m C D X Y : ℤ) → X +ℤ Y ≡ C +ℤ D → q *ℤ (q *ℤ C +ℤ m *ℤ X) +ℤ m *ℤ (q *ℤ Y +ℤ m *ℤ D) ≡ (q +ℤ m) *ℤ (q *ℤ C +ℤ m *ℤ D)
square q m C D X Y e =
    let q' = lift q in let m' = lift m in let C' = lift C in let D' = lift D in let X' = lift X in let Y' = lift Y in
    same (q' ⊠ (q' ⊠ C' ⊞ m' ⊠ X') ⊞ m' ⊠ (q' ⊠ Y' ⊞ m' ⊠ D')) ((q' ⊞ m') ⊠ (q' ⊠ C' ⊞ m' ⊠ D'))
    (omega (arith, apart ((q' ⊠ m') ⊠ (X' ⊞ Y')) ((q' ⊠ m') ⊠ (C' ⊞ D')) (ap (λ (z : ℤ). (q *ℤ m) *ℤ z) e)))

module _ (s t : Vector) (q m : ℤ) (hq : sign q ≡ Plus) (hm : sign m ≡ Plus) (d : IsNonZero (from_to s t)) where
  abbrev weighted_line : Vector
  weighted_line = from_to s t

  abbrev pub seen : Vector → Vector
  seen w = weigh q m (from_to s w) (from_to t w)

  seen-side : (w : Vector) → sign (cross weighted_line (seen w)) ≡ sign (cross weighted_line (from_to s w))
  seen-side w =
      let e = cross-weigh q m weighted_line (from_to s w) (from_to t w) in
      let h = weighted-agree q m (cross weighted_line (from_to s w)) (cross weighted_line (from_to t w)) (cross weighted_line (seen w)) hq hm (sym e) in
      let g = ap sign (side-there s t w) in
      same-out (sign (cross weighted_line (from_to s w))) (sign (cross weighted_line (seen w))) (subst (λ z. agree (sign (cross weighted_line (from_to s w))) z (sign (cross weighted_line (seen w))) ≡ true) g h)

  mixed-sides : (u v : Vector) → cross (from_to t u) (from_to s v) +ℤ cross (from_to s u) (from_to t v) ≡ cross (from_to s u) (from_to s v) +ℤ cross (from_to t u) (from_to t v)
  mixed-sides u v =
      let s' = lift2 s in let t' = lift2 t in let u' = lift2 u in let v' = lift2 v in
      same (cross2 (from_to2 t' u') (from_to2 s' v') ⊞ cross2 (from_to2 s' u') (from_to2 t' v')) (cross2 (from_to2 s' u') (from_to2 s' v') ⊞ cross2 (from_to2 t' u') (from_to2 t' v')) (omega arith)

  seen-cross : (u v : Vector) → cross (seen u) (seen v) ≡ (q +ℤ m) *ℤ (q *ℤ cross (from_to s u) (from_to s v) +ℤ m *ℤ cross (from_to t u) (from_to t v))
  seen-cross u v =
      let C = cross (from_to s u) (from_to s v) in let D = cross (from_to t u) (from_to t v) in
      let X = cross (from_to t u) (from_to s v) in let Y = cross (from_to s u) (from_to t v) in
      cross-weigh q m (seen u) (from_to s v) (from_to t v)
      ∙ ap (λ z. q *ℤ z +ℤ m *ℤ cross (seen u) (from_to t v)) (weigh-cross q m (from_to s u) (from_to t u) (from_to s v))
      ∙ ap (λ z. q *ℤ (q *ℤ C +ℤ m *ℤ X) +ℤ m *ℤ z) (weigh-cross q m (from_to s u) (from_to t u) (from_to t v))
      ∙ square q m C D X Y (mixed-sides u v)

  seen-mixed : (u v : Vector) → agree (times Plus (sign (cross (from_to s u) (from_to s v)))) (times Plus (sign (cross (from_to t u) (from_to t v)))) (times Plus (sign (cross (seen u) (seen v)))) ≡ true
  seen-mixed u v =
      let C = cross (from_to s u) (from_to s v) in let D = cross (from_to t u) (from_to t v) in
      let z = q *ℤ C +ℤ m *ℤ D in
      let h = weighted-agree q m C D z hq hm refl in
      let g = ap sign (seen-cross u v) ∙ plus-times (q +ℤ m) z (plus-sum q m hq hm) in
      rw (times-plus (sign C), times-plus (sign D), times-plus (sign (cross (seen u) (seen v)))) (subst (λ k. agree (sign C) (sign D) k ≡ true) (sym g) h)

  past-by : (N x y z : ℤ) → N +ℤ y ≡ x → q *ℤ x +ℤ m *ℤ y ≡ z → m *ℤ N +ℤ z ≡ (q +ℤ m) *ℤ x
  past-by N x y z e f =
      let q' = lift q in let m' = lift m in let N' = lift N in let x' = lift x in let y' = lift y in let z' = lift z in
      same (m' ⊠ N' ⊞ z') ((q' ⊞ m') ⊠ x') (omega (arith, apart (m' ⊠ (N' ⊞ y')) (m' ⊠ x') (ap (λ (k : ℤ). m *ℤ k) e), apart (q' ⊠ x' ⊞ m' ⊠ y') z' f))

  before-by : (N x y z : ℤ) → N +ℤ y ≡ x → q *ℤ x +ℤ m *ℤ y ≡ z → q *ℤ N +ℤ (q +ℤ m) *ℤ y ≡ z
  before-by N x y z e f =
      let q' = lift q in let m' = lift m in let N' = lift N in let x' = lift x in let y' = lift y in let z' = lift z in
      same (q' ⊠ N' ⊞ (q' ⊞ m') ⊠ y') z' (omega (arith, apart (q' ⊠ (N' ⊞ y')) (q' ⊠ x') (ap (λ (k : ℤ). q *ℤ k) e), apart (q' ⊠ x' ⊞ m' ⊠ y') z' f))

  pub view_weighted : View s t seen
  view_weighted = record {
    direction = d;
    side = seen-side;
    mixed = seen-mixed;
    past_s = λ w.
        let N = dot weighted_line weighted_line in let x = dot weighted_line (from_to s w) in let y = dot weighted_line (from_to t w) in let z = dot weighted_line (seen w) in
        let h = agree-sum (m *ℤ N) z ((q +ℤ m) *ℤ x) (past-by N x y z (dot-chain weighted_line s t w) (sym (dot-weigh q m weighted_line (from_to s w) (from_to t w)))) in
        subst (λ k. agree Plus (sign z) k ≡ true) (plus-times (q +ℤ m) x (plus-sum q m hq hm)) (subst (λ k. agree k (sign z) (sign ((q +ℤ m) *ℤ x)) ≡ true) (plus-times m N hm ∙ d) h);
    before_t = λ w.
        let N = dot weighted_line weighted_line in let x = dot weighted_line (from_to s w) in let y = dot weighted_line (from_to t w) in let z = dot weighted_line (seen w) in
        let h = agree-sum (q *ℤ N) ((q +ℤ m) *ℤ y) z (before-by N x y z (dot-chain weighted_line s t w) (sym (dot-weigh q m weighted_line (from_to s w) (from_to t w)))) in
        subst (λ k. agree Plus k (sign z) ≡ true) (plus-times (q +ℤ m) y (plus-sum q m hq hm)) (subst (λ k. agree k (sign ((q +ℤ m) *ℤ y)) (sign z) ≡ true) (plus-times q N hq ∙ d) h);
  }

pub mid-first : (a b : Vector) → mid a b a ≡ from_to b a
mid-first a b = same_vector ((a.x -ℤ a.x) +ℤ (a.x -ℤ b.x)) ((a.y -ℤ a.y) +ℤ (a.y -ℤ b.y)) (a.x -ℤ b.x) (a.y -ℤ b.y) (omega (arith, ints)) (omega (arith, ints))

pub mid-last : (a b : Vector) → mid a b b ≡ from_to a b
mid-last a b = same_vector ((b.x -ℤ a.x) +ℤ (b.x -ℤ b.x)) ((b.y -ℤ a.y) +ℤ (b.y -ℤ b.y)) (b.x -ℤ a.x) (b.y -ℤ a.y) (omega (arith, ints)) (omega (arith, ints))
