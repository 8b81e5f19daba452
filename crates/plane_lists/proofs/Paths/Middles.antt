-- A direction in the middle of a free sector at a point, and lines that keep it apart from the directions outside.
use Rattle.std.proofs.Common.{Bool, ap, arith, cond, eqb, false, inl, inr, not, pos, refl, subst, sym, true, ℤ, ◌&&◌, ◌+ℤ◌, ◌-ℤ◌, ◌||◌, ◌∙◌, ◌≡◌, ◌⊎◌}
use Rattle.plane_lists.specs.Paths.Near.{opposite_of}
use Rattle.plane.specs.Edge.{Edge, ends_at, other_end}
use Rattle.plane.specs.Sector.{in_sector, sector_by}
use Rattle.plane.specs.Sign.{Minus, Null, Plus, Sign, is_minus, is_null, is_plus, negated, sign}
use Rattle.plane.specs.Vector.{IsNonZero, Vector, cross, dot, from_to, same_point}
use Rattle.lists.proofs.ListsKit.{or-out}
use Rattle.plane_lists.proofs.NestingKit.{is_some, some-signs}
use Rattle.plane.proofs.PlaneKit.{cross-here, cross-negated, cross-self, cross2, dot2, frame-agree, lift2, same_point-true}
use Rattle.plane.proofs.SignKit.{agree, agree-sum, all2, all2-out, all4-out, imp, imp-out, is_minus-true, is_plus-true, lift, same, same_sign, same_sign-refl, sign-reversed, sum-not-minus, times, ◌⊞◌, ◌⊟◌, ◌⊠◌}
use Rattle.std.proofs.lemmas.Bool.{and_parts}
use Rattle.plane_lists.proofs.Paths.Later.{IsLeftNear, IsNearApart, Leads}
use Rattle.plane_lists.proofs.Paths.Places.{plus}

-- a quarter turn to the left
abbrev pub quarter : Vector → Vector
quarter a = record { x = pos 0 -ℤ a.y; y = a.x }

-- ---- how the middle lies to a third direction: signs of cross S B, cross S W, cross B W, dot S W, cross W M
abbrev lies_by : Sign → Sign → Sign → Sign → Sign → Bool
lies_by Plus y e x a = agree (negated y) (negated e) a
lies_by Null y e x a = same_sign a x
lies_by Minus y e x a = agree y e a

pub record Middle (S B : Vector) : Type 0 where
  pub way : Vector
  pub after : sign (cross S way) ≡ Plus
  pub before : sign (cross way B) ≡ Plus
  pub lies : (W : Vector) → lies_by (sign (cross S B)) (sign (cross S W)) (sign (cross B W)) (sign (dot S W)) (sign (cross W way)) ≡ true

sum-first : (S B : Vector) → cross S (plus S B) ≡ cross S B
sum-first S B = let s = lift2 S in let b = lift2 B in same (s.x2 ⊠ (s.y2 ⊞ b.y2) ⊟ s.y2 ⊠ (s.x2 ⊞ b.x2)) (cross2 s b) (omega arith)

sum-last : (S B : Vector) → cross (plus S B) B ≡ cross S B
sum-last S B = let s = lift2 S in let b = lift2 B in same ((s.x2 ⊞ b.x2) ⊠ b.y2 ⊟ (s.y2 ⊞ b.y2) ⊠ b.x2) (cross2 s b) (omega arith)

sum-third : (S B W : Vector) → cross W S +ℤ cross W B ≡ cross W (plus S B)
sum-third S B W =
    let s = lift2 S in let b = lift2 B in let w = lift2 W in
    same (cross2 w s ⊞ cross2 w b) (w.x2 ⊠ (s.y2 ⊞ b.y2) ⊟ w.y2 ⊠ (s.x2 ⊞ b.x2)) (omega arith)

far-first : (S B : Vector) → cross S B +ℤ cross S (opposite_of (plus S B)) ≡ pos 0
far-first S B =
    let s = lift2 S in let b = lift2 B in let z = lift (pos 0) in
    same (cross2 s b ⊞ (s.x2 ⊠ (z ⊟ (s.y2 ⊞ b.y2)) ⊟ s.y2 ⊠ (z ⊟ (s.x2 ⊞ b.x2)))) z (omega arith)

far-last : (S B : Vector) → cross S B +ℤ cross (opposite_of (plus S B)) B ≡ pos 0
far-last S B =
    let s = lift2 S in let b = lift2 B in let z = lift (pos 0) in
    same (cross2 s b ⊞ ((z ⊟ (s.x2 ⊞ b.x2)) ⊠ b.y2 ⊟ (z ⊟ (s.y2 ⊞ b.y2)) ⊠ b.x2)) z (omega arith)

far-third : (S B W : Vector) → cross S W +ℤ cross B W ≡ cross W (opposite_of (plus S B))
far-third S B W =
    let s = lift2 S in let b = lift2 B in let w = lift2 W in let z = lift (pos 0) in
    same (cross2 s w ⊞ cross2 b w) (w.x2 ⊠ (z ⊟ (s.y2 ⊞ b.y2)) ⊟ w.y2 ⊠ (z ⊟ (s.x2 ⊞ b.x2))) (omega arith)

quarter-first : (S : Vector) → cross S (quarter S) ≡ dot S S
quarter-first S = let s = lift2 S in same (s.x2 ⊠ s.x2 ⊟ s.y2 ⊠ (lift (pos 0) ⊟ s.y2)) (dot2 s s) (omega arith)

quarter-last : (S B : Vector) → dot S B +ℤ cross (quarter S) B ≡ pos 0
quarter-last S B = let s = lift2 S in let b = lift2 B in same (dot2 s b ⊞ ((lift (pos 0) ⊟ s.y2) ⊠ b.y2 ⊟ s.x2 ⊠ b.x2)) (lift (pos 0)) (omega arith)

quarter-third : (S W : Vector) → cross W (quarter S) ≡ dot S W
quarter-third S W = let s = lift2 S in let w = lift2 W in same (w.x2 ⊠ s.x2 ⊟ w.y2 ⊠ (lift (pos 0) ⊟ s.y2)) (dot2 s w) (omega arith)

middle-by : (S B : Vector) → IsNonZero S → (c : Sign) → sign (cross S B) ≡ c → (c ≡ Null → sign (dot S B) ≡ Minus) → Middle S B
middle-by S B d Plus h n = record {
  way = plus S B;
  after = ap sign (sum-first S B) ∙ h;
  before = ap sign (sum-last S B) ∙ h;
  lies = λ W.
      subst (λ c. lies_by c (sign (cross S W)) (sign (cross B W)) (sign (dot S W)) (sign (cross W (plus S B))) ≡ true) (sym h)
      (subst (λ s. agree s (negated (sign (cross B W))) (sign (cross W (plus S B))) ≡ true) (cross-negated S W)
      (subst (λ s. agree (sign (cross W S)) s (sign (cross W (plus S B))) ≡ true) (cross-negated B W)
      (agree-sum (cross W S) (cross W B) (cross W (plus S B)) (sum-third S B W))));
}
middle-by S B d Minus h n = record {
  way = opposite_of (plus S B);
  after = sign-reversed (cross S B) (cross S (opposite_of (plus S B))) (far-first S B) ∙ ap negated h;
  before = sign-reversed (cross S B) (cross (opposite_of (plus S B)) B) (far-last S B) ∙ ap negated h;
  lies = λ W.
      subst (λ c. lies_by c (sign (cross S W)) (sign (cross B W)) (sign (dot S W)) (sign (cross W (opposite_of (plus S B)))) ≡ true) (sym h)
      (agree-sum (cross S W) (cross B W) (cross W (opposite_of (plus S B))) (far-third S B W));
}
middle-by S B d Null h n = record {
  way = quarter S;
  after = ap sign (quarter-first S) ∙ d;
  before = sign-reversed (dot S B) (cross (quarter S) B) (quarter-last S B) ∙ ap negated (n refl);
  lies = λ W.
      subst (λ c. lies_by c (sign (cross S W)) (sign (cross B W)) (sign (dot S W)) (sign (cross W (quarter S))) ≡ true) (sym h)
      (subst (λ (z : ℤ). same_sign (sign z) (sign (dot S W)) ≡ true) (sym (quarter-third S W)) (same_sign-refl (sign (dot S W))));
}

minus-when : (t c : Sign) → is_some t c ≡ true → not (is_null c && is_plus t) ≡ true → c ≡ Null → t ≡ Minus
minus-when Minus c h k e = refl
minus-when Plus c h k e = let l = ap (λ c. not (is_null c && true)) e in absurd (cc (sym k ∙ l))
minus-when Null c h k e = let l = ap (λ c. agree Null (times c c) Plus) e in absurd (cc (sym h ∙ l))

-- two directions that don't point the same way have a middle, counterclockwise from the first
pub middle : (S B : Vector) → IsNonZero S → IsNonZero B → not (is_null (sign (cross S B)) && is_plus (sign (dot S B))) ≡ true → Middle S B
middle S B ds db n = middle-by S B ds (sign (cross S B)) refl (minus-when (sign (dot S B)) (sign (cross S B)) (some-signs S B ds db) n)

-- ---- what is outside the sector is outside both halves
abbrev out_1 : Sign → Sign → Sign → Sign → Bool
out_1 x y t c = all2 λ e a.
    imp (is_some x y) λ _.
    imp (not (is_null y && is_plus x)) λ _.
    imp (is_some t c) λ _.
    imp (not (is_null c && is_plus t)) λ _.
    imp (agree (times Plus e) (times x c) (times t y)) λ _.
    imp (eqb (sector_by x y t c e) 0) λ _.
    imp (lies_by c y e x a) λ _.
    (is_minus y || is_minus a) && (is_plus e || is_plus a)

module _ (S B : Vector) (ds : IsNonZero S) (db : IsNonZero B) (nb : not (is_null (sign (cross S B)) && is_plus (sign (dot S B))) ≡ true) (M : Middle S B)
    (W : Vector) (dw : IsNonZero W) (nw : not (is_null (sign (cross S W)) && is_plus (sign (dot S W))) ≡ true) (z : in_sector S B W ≡ 0) where
  outs : ((is_minus (sign (cross S W)) || is_minus (sign (cross W M.way))) && (is_plus (sign (cross B W)) || is_plus (sign (cross W M.way)))) ≡ true
  outs =
      let x = sign (dot S W) in let y = sign (cross S W) in let t = sign (dot S B) in let c = sign (cross S B) in let e = sign (cross B W) in let a = sign (cross W M.way) in
      let k = all2-out (λ e a.
      imp (is_some x y) λ _. imp (not (is_null y && is_plus x)) λ _. imp (is_some t c) λ _. imp (not (is_null c && is_plus t)) λ _. imp (agree (times Plus e) (times x c) (times t y)) λ _. imp (eqb (sector_by x y t c e) 0) λ _.
      imp (lies_by c y e x a) λ _. (is_minus y || is_minus a) && (is_plus e || is_plus a)) (all4-out out_1 refl x y t c) e a in
      imp-out _ _ (imp-out _ _ (imp-out _ _ (imp-out _ _ (imp-out _ _ (imp-out _ _ (imp-out _ _ k (some-signs S W ds dw)) nw) (some-signs S B ds db)) nb) (frame-agree S B W ds)) (ap (λ n. eqb n 0) z)) (M.lies W)

  minus-either : (p q : Sign) → (is_minus p ≡ true) ⊎ (is_minus q ≡ true) → (p ≡ Minus) ⊎ (q ≡ Minus)
  minus-either p q (inl h) = inl (is_minus-true p h)
  minus-either p q (inr h) = inr (is_minus-true q h)

  plus-either : (p q : Sign) → (is_plus p ≡ true) ⊎ (is_plus q ≡ true) → (p ≡ Plus) ⊎ (q ≡ Plus)
  plus-either p q (inl h) = inl (is_plus-true p h)
  plus-either p q (inr h) = inr (is_plus-true q h)

  pub out-first : (sign (cross S W) ≡ Minus) ⊎ (sign (cross W M.way) ≡ Minus)
  out-first = minus-either _ _ (or-out _ _ (and_parts _ _ outs).0)

  turned-either : (sign (cross B W) ≡ Plus) ⊎ (sign (cross W M.way) ≡ Plus) → (sign (cross M.way W) ≡ Minus) ⊎ (sign (cross W B) ≡ Minus)
  turned-either (inl h) = inr (cross-negated B W ∙ ap negated h)
  turned-either (inr h) = inl (cross-negated W M.way ∙ ap negated h)

  pub out-last : (sign (cross M.way W) ≡ Minus) ⊎ (sign (cross W B) ≡ Minus)
  out-last = turned-either (plus-either _ _ (or-out _ _ (and_parts (is_minus (sign (cross S W)) || is_minus (sign (cross W M.way))) _ outs).1))

-- ---- a line through the point that has the directions from P to Q strictly on its right, and W not there
pub record IsCone (P Q W : Vector) : Type 0 where
  pub along : Vector
  pub first : sign (cross along P) ≡ Minus
  pub last : sign (cross along Q) ≡ Minus
  pub other : not (is_minus (sign (cross along W))) ≡ true

abbrev minus : Vector → Vector → Vector
minus a b = record { x = a.x -ℤ b.x; y = a.y -ℤ b.y }

minus-first : (P Q : Vector) → cross P Q +ℤ cross (minus Q P) P ≡ pos 0
minus-first P Q = let p = lift2 P in let q = lift2 Q in same (cross2 p q ⊞ ((q.x2 ⊟ p.x2) ⊠ p.y2 ⊟ (q.y2 ⊟ p.y2) ⊠ p.x2)) (lift (pos 0)) (omega arith)

minus-last : (P Q : Vector) → cross P Q +ℤ cross (minus Q P) Q ≡ pos 0
minus-last P Q = let p = lift2 P in let q = lift2 Q in same (cross2 p q ⊞ ((q.x2 ⊟ p.x2) ⊠ q.y2 ⊟ (q.y2 ⊟ p.y2) ⊠ q.x2)) (lift (pos 0)) (omega arith)

minus-third : (P Q W : Vector) → cross Q W +ℤ cross W P ≡ cross (minus Q P) W
minus-third P Q W =
    let p = lift2 P in let q = lift2 Q in let w = lift2 W in
    same (cross2 q w ⊞ cross2 w p) ((q.x2 ⊟ p.x2) ⊠ w.y2 ⊟ (q.y2 ⊟ p.y2) ⊠ w.x2) (omega arith)

opposite-cross : (W P : Vector) → cross (opposite_of W) P ≡ cross P W
opposite-cross W P = let w = lift2 W in let p = lift2 P in let z = lift (pos 0) in same ((z ⊟ w.x2) ⊠ p.y2 ⊟ (z ⊟ w.y2) ⊠ p.x2) (cross2 p w) (omega arith)

module _ (P Q W : Vector) (pq : sign (cross P Q) ≡ Plus) where
  by-difference : not (is_plus (sign (cross W Q))) ≡ true → not (is_plus (sign (cross P W))) ≡ true → IsCone P Q W
  by-difference h k = record {
    along = minus Q P;
    first = sign-reversed (cross P Q) (cross (minus Q P) P) (minus-first P Q) ∙ ap negated pq;
    last = sign-reversed (cross P Q) (cross (minus Q P) Q) (minus-last P Q) ∙ ap negated pq;
    other = sum-not-minus (sign (cross Q W)) (sign (cross W P)) (sign (cross (minus Q P) W)) (agree-sum (cross Q W) (cross W P) (cross (minus Q P) W) (minus-third P Q W))
        (ap (λ s. not (is_minus s)) (cross-negated W Q) ∙ flip (sign (cross W Q)) h) (ap (λ s. not (is_minus s)) (cross-negated P W) ∙ flip (sign (cross P W)) k);
  }
    where
      flip : (s : Sign) → not (is_plus s) ≡ true → not (is_minus (negated s)) ≡ true
      flip Plus h = absurd (cc h)
      flip Null h = refl
      flip Minus h = refl

  by-back : sign (cross W Q) ≡ Plus → sign (cross P W) ≡ Minus → IsCone P Q W
  by-back h k = record {
    along = opposite_of W;
    first = ap sign (opposite-cross W P) ∙ k;
    last = ap sign (opposite-cross W Q) ∙ cross-negated W Q ∙ ap negated h;
    other = ap (λ z. not (is_minus (sign z))) (opposite-cross W W ∙ cross-self W);
  }

  by-self : sign (cross W Q) ≡ Minus → sign (cross P W) ≡ Plus → IsCone P Q W
  by-self h k = record {
    along = W;
    first = cross-negated P W ∙ ap negated k;
    last = h;
    other = ap (λ z. not (is_minus (sign z))) (cross-self W);
  }

  cone-by : (a b : Sign) → sign (cross W Q) ≡ a → sign (cross P W) ≡ b → (b ≡ Minus) ⊎ (a ≡ Minus) → IsCone P Q W
  cone-by Plus Minus h k o = by-back h k
  cone-by Minus Plus h k o = by-self h k
  cone-by Minus Minus h k o = by-difference (ap (λ s. not (is_plus s)) h) (ap (λ s. not (is_plus s)) k)
  cone-by Minus Null h k o = by-difference (ap (λ s. not (is_plus s)) h) (ap (λ s. not (is_plus s)) k)
  cone-by Null Minus h k o = by-difference (ap (λ s. not (is_plus s)) h) (ap (λ s. not (is_plus s)) k)
  cone-by Null Null h k o = by-difference (ap (λ s. not (is_plus s)) h) (ap (λ s. not (is_plus s)) k)
  cone-by Plus Plus h k (inl e) = absurd (cc e)
  cone-by Plus Plus h k (inr e) = absurd (cc e)
  cone-by Plus Null h k (inl e) = absurd (cc e)
  cone-by Plus Null h k (inr e) = absurd (cc e)
  cone-by Null Plus h k (inl e) = absurd (cc e)
  cone-by Null Plus h k (inr e) = absurd (cc e)

  pub cone : (sign (cross P W) ≡ Minus) ⊎ (sign (cross W Q) ≡ Minus) → IsCone P Q W
  cone o = cone-by (sign (cross W Q)) (sign (cross P W)) refl refl o

-- ---- near the point: steps between the two directions are apart from the edge in the third
leads-by : (x c s : ℤ) → (t : Sign) → sign x ≡ t → not (is_minus t) ≡ true → sign c ≡ Minus → Leads x c
leads-by x c s Plus h k l = inl h
leads-by x c s Null h k l = inr (h, l)
leads-by x c s Minus h k l = absurd (cc k)

module _ (v P Q : Vector) where
  here : (d R : Vector) → sign (cross d R) ≡ Minus → IsLeftNear d v R v
  here d R h = inr (ap sign (cross-here d v), h)

  there : (d R w : Vector) → sign (cross d R) ≡ Minus → not (is_minus (sign (cross d (from_to v w)))) ≡ true → IsLeftNear d v R w
  there d R w h k = leads-by (cross d (from_to v w)) (cross d R) (pos 0) (sign (cross d (from_to v w))) refl k h

  cone-from : (w : Vector) → IsCone P Q (from_to v w) → IsNearApart v P v Q (record { from = v; to = w })
  cone-from w c = record {
    along = c.along;
    first_from = here c.along P c.first;
    first_to = there c.along P w c.first c.other;
    last_from = here c.along Q c.last;
    last_to = there c.along Q w c.last c.other;
  }

  cone-to : (w : Vector) → IsCone P Q (from_to v w) → IsNearApart v P v Q (record { from = w; to = v })
  cone-to w c = record {
    along = c.along;
    first_from = there c.along P w c.first c.other;
    first_to = here c.along P c.first;
    last_from = there c.along Q w c.last c.other;
    last_to = here c.along Q c.last;
  }

  cone-near-by : (g : Edge) (b b' : Bool) → same_point v g.from ≡ b → same_point v g.to ≡ b' → (b || b') ≡ true → IsCone P Q (from_to v (other_end v g)) → IsNearApart v P v Q g
  cone-near-by g true b' h k o c =
      subst (λ (u : Vector). IsNearApart v P v Q (record { from = u; to = g.to })) (same_point-true v g.from h)
      (cone-from g.to (subst (λ b. IsCone P Q (from_to v (cond b g.to g.from))) h c))
  cone-near-by g false true h k o c =
      subst (λ (u : Vector). IsNearApart v P v Q (record { from = g.from; to = u })) (same_point-true v g.to k)
      (cone-to g.from (subst (λ b. IsCone P Q (from_to v (cond b g.to g.from))) h c))
  cone-near-by g false false h k o c = absurd (cc o)

  pub cone-near : (g : Edge) → ends_at v g ≡ true → IsCone P Q (from_to v (other_end v g)) → IsNearApart v P v Q g
  cone-near g h c = cone-near-by g (same_point v g.from) (same_point v g.to) refl refl h c
