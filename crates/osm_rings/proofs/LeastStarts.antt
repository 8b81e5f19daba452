-- The order of points is transitive, and the steps of looking for the least start.
use Rattle.std.proofs.Common.{◌≡◌, ◌≢◌, inl, inr, ℕ, ◌+◌, ◌<◌, ◌≤◌, List, length, get_or, ℤ, pos, ◌*ℤ◌, ◌-ℤ◌, Bool, true, refl, sym, ap, subst, ◌∙◌, arith, ⊎_elim}
use Rattle.std.specs.declared.cmp.Ordering.TheVariants.{Less}
use Rattle.std.specs.Ordering.{ordering_then}
use Rattle.std.proofs.lemmas.Bool.{cases_lt}
use Rattle.std.proofs.lemmas.Int.{ints}
use Rattle.plane.specs.Sign.{Plus, Null, Sign, sign, then_sign}
use Rattle.plane.proofs.SignKit.{agree, all2, all2-out, all4, all4-out, imp, imp-out, plus-plus, plus-times, weighted-agree, rises_sum}
use Rattle.osm_geom.specs.declared.edge.Edge.{Edge}
use Rattle.osm_geom.specs.declared.point.Point.{Point}
use Rattle.osm_lattice.specs.OrderLaws.{ordering_of}
use Rattle.osm_geom.specs.Point.{Fraction, x_of, y_of, point_cmp}
use Rattle.osm_geom.specs.RatioOrder.{fraction_cmp}
use Rattle.osm_lattice.proofs.LatticeKit.{int_cmp-is, ordering_of-then, less-plus}
use Rattle.osm_geom.proofs.GeometryKit.{point_cmp_is, x_den-some, y_den-some}
use Rattle.osm_rings.specs.LeastStart.{IsLesserStart}
use Rattle.osm_geom.proofs.EdgesKit.{sign-some}

-- how far s is above r, multiplied by both denominators
abbrev rise : Fraction → Fraction → ℤ
rise r s = s.num *ℤ pos r.den -ℤ r.num *ℤ pos s.den

rise-agree : (r s t : Fraction) → 1 ≤ r.den → 1 ≤ s.den → 1 ≤ t.den → agree (sign (rise r s)) (sign (rise s t)) (sign (rise r t)) ≡ true
rise-agree r s t hr hs ht =
    subst (λ u. agree (sign (rise r s)) (sign (rise s t)) u ≡ true) (plus-times (pos s.den) (rise r t) (sign-some s.den hs))
    (weighted-agree (pos t.den) (pos r.den) (rise r s) (rise s t) (pos s.den *ℤ rise r t) (sign-some t.den ht) (sign-some r.den hr) (rises_sum r.num s.num t.num r.den s.den t.den))

abbrev both_2 : Sign → Sign → Sign → Sign → Sign → Sign → Bool
both_2 s t u x y z = imp (agree s t u) λ _. imp (agree x y z) λ _. agree (then_sign s x) (then_sign t y) (then_sign u z)

both_computes : all4 (λ s t u x. all2 (both_2 s t u x)) ≡ true
both_computes = refl

-- by y, then by x
abbrev place : Point → Point → Sign
place p q = then_sign (sign (rise (y_of p) (y_of q))) (sign (rise (x_of p) (x_of q)))

place-agree : (p q r : Point) → agree (place p q) (place q r) (place p r) ≡ true
place-agree p q r =
    let s = sign (rise (y_of p) (y_of q)) in let t = sign (rise (y_of q) (y_of r)) in let u = sign (rise (y_of p) (y_of r)) in
    let x = sign (rise (x_of p) (x_of q)) in let y = sign (rise (x_of q) (x_of r)) in let z = sign (rise (x_of p) (x_of r)) in
    let c = all2-out (both_2 s t u x) (all4-out (λ s t u x. all2 (both_2 s t u x)) both_computes s t u x) y z in
    imp-out _ _ (imp-out _ _ c (rise-agree (y_of p) (y_of q) (y_of r) (y_den-some p) (y_den-some q) (y_den-some r))) (rise-agree (x_of p) (x_of q) (x_of r) (x_den-some p) (x_den-some q) (x_den-some r))

place-is : (p q : Point) → point_cmp p q ≡ ordering_of (place p q)
place-is p q =
    sym (point_cmp_is p q)
    ∙ (ap (λ o. ordering_then o (fraction_cmp (x_of p) (x_of q))) (int_cmp-is ((y_of p).num *ℤ pos (y_of q).den) ((y_of q).num *ℤ pos (y_of p).den))
    ∙ (ap (λ o. ordering_then (ordering_of (sign (rise (y_of p) (y_of q)))) o) (int_cmp-is ((x_of p).num *ℤ pos (x_of q).den) ((x_of q).num *ℤ pos (x_of p).den))
    ∙ ordering_of-then (sign (rise (y_of p) (y_of q))) (sign (rise (x_of p) (x_of q)))))

pub point-chain : (p q r : Point) → point_cmp p q ≡ Less → point_cmp q r ≡ Less → point_cmp p r ≡ Less
point-chain p q r h g =
    let s = less-plus (place p q) (sym (place-is p q) ∙ h) in
    let t = less-plus (place q r) (sym (place-is q r) ∙ g) in
    let a : agree Plus Plus (place p r) ≡ true = subst (λ u. agree Plus u (place p r) ≡ true) t (subst (λ u. agree u (place q r) (place p r) ≡ true) s (place-agree p q r)) in
    place-is p r ∙ ap ordering_of (plus-plus (place p r) a)

-- a point is not less than itself
pub point-itself : (p : Point) → point_cmp p p ≢ Less
point-itself p h =
    let s = less-plus (place p p) (sym (place-is p p) ∙ h) in
    let a : agree Plus Plus Plus ≡ true = refl in
    let b = place-agree p p p in
    absurd (cc (sym (nothing-above p) ∙ s))
  where
    none : (a : ℤ) (k : ℕ) → sign (a *ℤ pos k -ℤ a *ℤ pos k) ≡ Null
    none a k = ap sign (self-diff-is (a *ℤ pos k))
      where
        self-diff-is : (z : ℤ) → z -ℤ z ≡ pos 0
        self-diff-is z = omega (arith, ints)

    nothing-above : (p : Point) → place p p ≡ Null
    nothing-above p = ap (λ s. then_sign s (sign (rise (x_of p) (x_of p)))) (none (y_of p).num (y_of p).den) ∙ none (x_of p).num (x_of p).den

-- no edge up to a place leaves a lesser point
pub record IsLeastUpTo (es : List Edge) (place least : ℕ) : Type 0 where
  pub inside : least < length es
  pub least_of : (k : ℕ) (d : Edge) → k < place → point_cmp (get_or es k d).from (get_or es least d).from ≢ Less

pub least-start : (es : List Edge) → 0 < length es → IsLeastUpTo es 0 0
least-start es h = record { inside = h; least_of = λ k d l. absurd (omega arith) }

pub least-more : (es : List Edge) (n least next : ℕ) → n < length es → IsLeastUpTo es n least → IsLesserStart es least n next → IsLeastUpTo es (n + 1) next
least-more es n least next h inv (inl (is, less)) = record {
  inside = rw is h;
  least_of = λ k d l. rw is (⊎_elim
      (λ m g. inv.least_of k d m (point-chain (get_or es k d).from (get_or es n d).from (get_or es least d).from g (less d)))
      (λ m. let same : k ≡ n = omega arith in rw same (point-itself (get_or es n d).from))
      (cases_lt k n));
}
least-more es n least next h inv (inr (is, other)) = record {
  inside = rw is inv.inside;
  least_of = λ k d l. rw is (⊎_elim
      (λ m. inv.least_of k d m)
      (λ m. let same : k ≡ n = omega arith in rw same (other d))
      (cases_lt k n));
}
