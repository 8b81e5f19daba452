-- The order of points along a cut line.
use Rattle.std.proofs.Common.{Bool, ap, cond, false, not, refl, subst, sym, true, ℕ, ◌*◌, ◌∙◌, ◌≡◌, ◌≤◌}
use Prim.Native.Nat.{◌∣◌}
use Rattle.std.proofs.Math.Nat.{dvd-mul_left, dvd-mul_left_of_dvd, dvd-mul_right}
use Rattle.std.specs.Cmp.{IsStrictWeakOrder}
use Rattle.plane.specs.Order.{order}
use Rattle.plane.specs.Sign.{Minus, Null, Plus, Sign, is_minus, is_plus, negated}
use Rattle.osm_geom.specs.declared.cut.Cut.{Cut}
use Rattle.osm_geom.specs.declared.cut.Side.{Side}
use Rattle.osm_geom.specs.declared.point.Point.{Point}
use Rattle.osm_geom.specs.Point.{den_of, point_order}
use Rattle.osm_geom.specs.InPlane.Multiple.{point_times}
use Rattle.coast_split.specs.Half.{line_order, runs_forward}
use Rattle.plane.proofs.PlaneKit.{order-null, order-reversed, order-sum}
use Rattle.plane.proofs.SignKit.{agree, all, all-out, all2, all2-out, imp, imp-out, same_sign, same_sign-true, agree-back}
use Rattle.osm_geom.proofs.EdgesKit.{den-some, product-some, order_is, same_is_same}
use Rattle.lists.proofs.ListsKit.{not-true-out}
use Rattle.std.proofs.lemmas.Bool.{not_from_false}

abbrev common : Point → Point → Point → ℕ
common p q r = den_of p * (den_of q * den_of r)

module _ (p q r : Point) where
  abbrev k : ℕ
  k = common p q r

  some : 1 ≤ k
  some = product-some (den_of p) (den_of q * den_of r) (den-some p) (product-some (den_of q) (den_of r) (den-some q) (den-some r))

  p-in : den_of p ∣ k
  p-in = dvd-mul_right (den_of p) (den_of q * den_of r)

  q-in : den_of q ∣ k
  q-in = dvd-mul_left_of_dvd (den_of q) (dvd-mul_right (den_of q) (den_of r)) (den_of p)

  r-in : den_of r ∣ k
  r-in = dvd-mul_left_of_dvd (den_of r) (dvd-mul_left (den_of r) (den_of q)) (den_of p)

  pub point-sum : agree (point_order p q) (point_order q r) (point_order p r) ≡ true
  point-sum =
      subst (λ s. agree s (point_order q r) (point_order p r) ≡ true) (sym (order_is k p q some p-in q-in))
      (subst (λ s. agree (order (point_times k p) (point_times k q)) s (point_order p r) ≡ true) (sym (order_is k q r some q-in r-in))
      (subst (λ s. agree (order (point_times k p) (point_times k q)) (order (point_times k q) (point_times k r)) s ≡ true) (sym (order_is k p r some p-in r-in))
      (order-sum (point_times k p) (point_times k q) (point_times k r))))

  pub point-back : point_order q p ≡ negated (point_order p q)
  point-back = order_is k q p some q-in p-in ∙ order-reversed (point_times k p) (point_times k q) ∙ ap negated (sym (order_is k p q some p-in q-in))

  pub point-same : point_order p q ≡ Null → p ≡ q
  point-same h = same_is_same k p q some p-in q-in (order-null (point_times k p) (point_times k q) (sym (order_is k p q some p-in q-in) ∙ h))

sum-by : (b : Bool) (p q r : Point) → agree (cond b (point_order p q) (point_order q p)) (cond b (point_order q r) (point_order r q)) (cond b (point_order p r) (point_order r p)) ≡ true
sum-by true p q r = point-sum p q r
sum-by false p q r = agree-back (point_order r q) (point_order q p) (point_order r p) (point-sum r q p)

back-by : (b : Bool) (p q : Point) → cond b (point_order q p) (point_order p q) ≡ negated (cond b (point_order p q) (point_order q p))
back-by true p q = point-back p q q
back-by false p q = point-back q p p

same-by : (b : Bool) (p q : Point) → cond b (point_order p q) (point_order q p) ≡ Null → p ≡ q
same-by true p q h = point-same p q q h
same-by false p q h = sym (point-same q p p h)

module _ (cut : Cut) (s : Side) where
  abbrev pub R : Point → Point → Sign
  R p q = line_order cut s p q

  pub line-sum : (p q r : Point) → agree (R p q) (R q r) (R p r) ≡ true
  line-sum p q r = sum-by (runs_forward cut.axis s) p q r

  pub line-back : (p q : Point) → R q p ≡ negated (R p q)
  line-back p q = back-by (runs_forward cut.axis s) p q

  pub line-same : (p q : Point) → R p q ≡ Null → p ≡ q
  line-same p q h = same-by (runs_forward cut.axis s) p q h

  sums : (f : Sign → Sign → Sign → Bool) → all2 (λ a b. all (f a b)) ≡ true → (p q r : Point) → f (R p q) (R q r) (R p r) ≡ true
  sums f h p q r = all-out (f (R p q) (R q r)) (all2-out (λ a b. all (f a b)) h (R p q) (R q r)) (R p r)

  pub then-plus : (p q r : Point) → not (is_minus (R p q)) ≡ true → R q r ≡ Plus → R p r ≡ Plus
  then-plus p q r h e =
      same_sign-true (R p r) Plus (imp-out _ _ (imp-out _ _ (imp-out _ _ (sums (λ a b c. imp (agree a b c) λ _. imp (not (is_minus a)) λ _. imp (is_plus b) λ _. same_sign c Plus) refl p q r) (line-sum p q r)) h) (ap is_plus e))

  pub plus-then : (p q r : Point) → R p q ≡ Plus → not (is_minus (R q r)) ≡ true → R p r ≡ Plus
  plus-then p q r e h =
      same_sign-true (R p r) Plus (imp-out _ _ (imp-out _ _ (imp-out _ _ (sums (λ a b c. imp (agree a b c) λ _. imp (is_plus a) λ _. imp (not (is_minus b)) λ _. same_sign c Plus) refl p q r) (line-sum p q r)) (ap is_plus e)) h)

  pub later : (p q r : Point) → not (is_minus (R p q)) ≡ true → not (is_minus (R q r)) ≡ true → not (is_minus (R p r)) ≡ true
  later p q r h g =
      imp-out _ _ (imp-out _ _ (imp-out _ _ (sums (λ a b c. imp (agree a b c) λ _. imp (not (is_minus a)) λ _. imp (not (is_minus b)) λ _. not (is_minus c)) refl p q r) (line-sum p q r)) h) g

plus-minus : (o p : Sign) → p ≡ negated o → is_plus o ≡ true → is_plus p ≡ false
plus-minus Plus p e h = ap is_plus e
plus-minus Null p e h = absurd (cc h)
plus-minus Minus p e h = absurd (cc h)

-- points are in a strict weak order along the line
pub line-strict : (cut : Cut) (s : Side) → IsStrictWeakOrder (λ (p q : Point). is_plus (line_order cut s p q))
line-strict cut s = record {
  one_way = λ p q h. plus-minus (R cut s p q) (R cut s q p) (line-back cut s p q) h;
  chain = λ p q r h g.
      not-true-out (is_plus (R cut s p r)) (imp-out _ _ (imp-out _ _ (imp-out _ _ (all-out (λ c. imp (agree (R cut s p q) (R cut s q r) c) λ _. imp (not (is_plus (R cut s p q))) λ _. imp (not (is_plus (R cut s q r))) λ _. not (is_plus c))
      (all2-out (λ a b. all λ c. imp (agree a b c) λ _. imp (not (is_plus a)) λ _. imp (not (is_plus b)) λ _. not (is_plus c)) refl (R cut s p q) (R cut s q r)) (R cut s p r)) (line-sum cut s p q r)) (not_from_false _ h)) (not_from_false _ g));
}
