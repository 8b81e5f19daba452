-- The clockwise order around a direction is total, and tells directions apart: by the signs of their cross and dot products.
use Rattle.std.proofs.Common.{◌≡◌, ◌↔◌, Bool, true, false, ◌&&◌, zero, suc, ℤ, pos, negsuc, refl, sym, ap, ◌∙◌, subst, arith}
use Rattle.std.proofs.lemmas.Int.{ints}
use Rattle.std.specs.Cmp.{IsTotalOrder}
use Rattle.std.specs.Ordering.{int_cmp, nat_cmp, ordering_then, ordering_reverse, is_lt, is_eq}
use Rattle.std.specs.declared.cmp.Ordering.{Ordering}
use Rattle.std.specs.declared.cmp.Ordering.TheVariants.{Less, Equal, Greater}
use Rattle.plane.specs.Sign.{Sign, Plus, Null, Minus, is_null, is_plus, negated, sign}
use Rattle.plane.specs.Vector.{IsNonZero}
use Rattle.std.proofs.lemmas.Bool.{and_from, and_parts}
use Rattle.plane.proofs.PlaneKit.{cross-negated, direction-from, frame-agree, frame-dot-agree, plucker-agree}
use Rattle.plane.proofs.SignKit.{agree, all, all-out, all4, all4-out, both, left-out, right-out, imp, imp-out, is_plus-true, same_bool, same_bool-true, times, is_null-true}
use Rattle.osm_geom.specs.declared.dir.Dir.{Dir}
use Rattle.osm_geom.specs.declared.turning.Turn.{Turn}
use Rattle.osm_geom.specs.Dir.{vector_along, cross, dot, turn_by, rank_of, clockwise_cmp}
use Rattle.osm_geom.specs.TotalOrders.{IsOneDirection}
use Rattle.lists.proofs.ListsKit.{equal_from, less_from}

-- ---- the order as a function of signs: a, p, and b, q: of the cross and dot products of the first direction with d and with e; k: of cross d e
abbrev against : Sign → Ordering
against Plus = Greater
against Null = Equal
against Minus = Less

against-is : (z : ℤ) → int_cmp z (pos 0) ≡ against (sign z)
against-is (pos zero) = refl
against-is (pos (suc n)) = grind (arith, ints)
against-is (negsuc n) = grind (arith, ints)

abbrev turn : Sign → Sign → Turn
turn a p = turn_by (against a) (against p)

abbrev order_by : Sign → Sign → Sign → Sign → Sign → Ordering
order_by a p b q k = ordering_then (nat_cmp (rank_of (turn a p)) (rank_of (turn b q))) (against k)

abbrev order_of : Dir → Dir → Dir → Ordering
order_of f d e = order_by (sign (cross f d)) (sign (dot f d)) (sign (cross f e)) (sign (dot f e)) (sign (cross d e))

order-is : (f d e : Dir) → clockwise_cmp f d e ≡ order_of f d e
order-is f d e = rw (against-is (cross f d), against-is (dot f d), against-is (cross f e), against-is (dot f e), against-is (cross d e)) refl

abbrev same_order : Ordering → Ordering → Bool
same_order Less Less = true
same_order Equal Equal = true
same_order Greater Greater = true
same_order o p = false

same_order-true : (o p : Ordering) → same_order o p ≡ true → o ≡ p
same_order-true Less Less h = refl
same_order-true Equal Equal h = refl
same_order-true Greater Greater h = refl
same_order-true o p h = absurd (cc h)

-- ---- reversed
abbrev reversed_1 : Sign → Sign → Sign → Sign → Bool
reversed_1 a p b q = all (λ k. same_order (order_by a p b q k) (ordering_reverse (order_by b q a p (negated k))))

reversed_by : (a p b q k : Sign) → order_by a p b q k ≡ ordering_reverse (order_by b q a p (negated k))
reversed_by a p b q k = same_order-true _ _ (all-out (λ k. same_order (order_by a p b q k) (ordering_reverse (order_by b q a p (negated k)))) (all4-out reversed_1 refl a p b q) k)

cross-turned : (d e : Dir) → sign (cross e d) ≡ negated (sign (cross d e))
unfolding cross
cross-turned d e = cross-negated (vector_along d) (vector_along e)

order-reversed : (f d e : Dir) → order_of f d e ≡ ordering_reverse (order_of f e d)
order-reversed f d e =
    reversed_by (sign (cross f d)) (sign (dot f d)) (sign (cross f e)) (sign (dot f e)) (sign (cross d e))
    ∙ ap (λ k. ordering_reverse (order_by (sign (cross f e)) (sign (dot f e)) (sign (cross f d)) (sign (dot f d)) k)) (sym (cross-turned d e))

-- ---- three directions: c, r: of the products with g; l, m: of cross e g and cross d g
abbrev chain_2 : Sign → Sign → Sign → Sign → Sign → Sign → Sign → Sign → Sign → Bool
chain_2 a p b q k c r l m =
    imp (agree (times Plus l) (times r b) (times q c)) λ _.
    imp (agree (times Plus m) (times r a) (times p c)) λ _.
    imp (agree (times a l) (times c k) (times b m)) λ _.
    both (imp (is_lt (order_by a p b q k)) λ _. imp (is_lt (order_by b q c r l)) λ _. is_lt (order_by a p c r m))
    (imp (is_eq (order_by a p b q k)) λ _. same_order (order_by a p c r m) (order_by b q c r l))

abbrev chain_1 : Sign → Sign → Sign → Sign → Sign → Bool
chain_1 a p b q k = imp (agree (times Plus k) (times q a) (times p b)) λ _. all4 (chain_2 a p b q k)

abbrev chain_0 : Sign → Sign → Sign → Sign → Bool
chain_0 a p b q = all (chain_1 a p b q)

chains_compute : all4 chain_0 ≡ true
chains_compute = refl

pub along-direction : (d : Dir) → IsNonZero (vector_along d)
along-direction d = direction-from (vector_along d) (λ x y. d.nonzero (x, y))

framed : (f d e : Dir) → agree (times Plus (sign (cross d e))) (times (sign (dot f e)) (sign (cross f d))) (times (sign (dot f d)) (sign (cross f e))) ≡ true
unfolding cross dot
framed f d e = frame-agree (vector_along f) (vector_along d) (vector_along e) (along-direction f)

spread : (f d e g : Dir) → agree (times (sign (cross f d)) (sign (cross e g))) (times (sign (cross f g)) (sign (cross d e))) (times (sign (cross f e)) (sign (cross d g))) ≡ true
unfolding cross
spread f d e g = plucker-agree (vector_along f) (vector_along d) (vector_along e) (vector_along g)

abbrev chained : Ordering → Ordering → Ordering → Bool
chained o o' o'' = both (imp (is_lt o) λ _. imp (is_lt o') λ _. is_lt o'') (imp (is_eq o) λ _. same_order o'' o')

chain : (f d e g : Dir) → chained (order_of f d e) (order_of f e g) (order_of f d g) ≡ true
chain f d e g =
    let a = sign (cross f d) in let p = sign (dot f d) in let b = sign (cross f e) in let q = sign (dot f e) in let k = sign (cross d e) in
    let c = sign (cross f g) in let r = sign (dot f g) in let l = sign (cross e g) in let m = sign (cross d g) in
    let one = imp-out _ _ (all-out (chain_1 a p b q) (all4-out chain_0 chains_compute a p b q) k) (framed f d e) in
    let two = all4-out (chain_2 a p b q k) one c r l m in
    imp-out _ _ (imp-out _ _ (imp-out _ _ two (framed f e g)) (framed f d g)) (spread f d e g)

less_chain : (o o' o'' : Ordering) → chained o o' o'' ≡ true → o ≡ Less → o' ≡ Less → o'' ≡ Less
less_chain o o' o'' h e e' =
    less_from o'' (imp-out _ _ (imp-out _ _ (left-out (imp (is_lt o) λ _. imp (is_lt o') λ _. is_lt o'') (imp (is_eq o) λ _. same_order o'' o') h) (ap is_lt e)) (ap is_lt e'))

equal_chain : (o o' o'' : Ordering) → chained o o' o'' ≡ true → o ≡ Equal → o'' ≡ o'
equal_chain o o' o'' h e =
    same_order-true o'' o' (imp-out _ _ (right-out (imp (is_lt o) λ _. imp (is_lt o') λ _. is_lt o'') (imp (is_eq o) λ _. same_order o'' o') h) (ap is_eq e))

pub clockwise_total : (f : Dir) → IsTotalOrder (clockwise_cmp f)
clockwise_total f = record {
  antisymm = λ d e. order-is f d e ∙ (order-reversed f d e ∙ ap ordering_reverse (sym (order-is f e d)));
  trans = λ d e g h k. order-is f d g ∙ less_chain (order_of f d e) (order_of f e g) (order_of f d g) (chain f d e g) (sym (order-is f d e) ∙ h) (sym (order-is f e g) ∙ k);
  congr = λ d e g h. order-is f d g ∙ (equal_chain (order_of f d e) (order_of f e g) (order_of f d g) (chain f d e g) (sym (order-is f d e) ∙ h) ∙ sym (order-is f e g));
}

-- ---- two directions that are one; z: of dot d e
abbrev tie_1 : Sign → Sign → Sign → Sign → Sign → Sign → Bool
tie_1 a p b q k z =
    imp (agree (times p p) (times a a) Plus) λ _.
    imp (agree (times q q) (times b b) Plus) λ _.
    imp (agree (times Plus k) (times q a) (times p b)) λ _.
    imp (agree (times p q) (times a b) (times Plus z)) λ _.
    same_bool (is_eq (order_by a p b q k)) (is_null k && is_plus z)

abbrev tie_0 : Sign → Sign → Sign → Sign → Bool
tie_0 a p b q = all (λ k. all (tie_1 a p b q k))

ties_compute : all4 tie_0 ≡ true
ties_compute = refl

squared : (f d : Dir) → agree (times (sign (dot f d)) (sign (dot f d))) (times (sign (cross f d)) (sign (cross f d))) Plus ≡ true
unfolding cross dot
squared f d =
    subst (λ s. agree (times (sign (dot f d)) (sign (dot f d))) (times (sign (cross f d)) (sign (cross f d))) (times Plus s) ≡ true) (along-direction d)
    (frame-dot-agree (vector_along f) (vector_along d) (vector_along d) (along-direction f))

dotted : (f d e : Dir) → agree (times (sign (dot f d)) (sign (dot f e))) (times (sign (cross f d)) (sign (cross f e))) (times Plus (sign (dot d e))) ≡ true
unfolding cross dot
dotted f d e = frame-dot-agree (vector_along f) (vector_along d) (vector_along e) (along-direction f)

tie : (f d e : Dir) → is_eq (order_of f d e) ≡ (is_null (sign (cross d e)) && is_plus (sign (dot d e)))
tie f d e =
    let a = sign (cross f d) in let p = sign (dot f d) in let b = sign (cross f e) in let q = sign (dot f e) in let k = sign (cross d e) in let z = sign (dot d e) in
    let one = all-out (tie_1 a p b q k) (all-out (λ k. all (tie_1 a p b q k)) (all4-out tie_0 ties_compute a p b q) k) z in
    same_bool-true _ _ (imp-out _ _ (imp-out _ _ (imp-out _ _ (imp-out _ _ one (squared f d)) (squared f e)) (framed f d e)) (dotted f d e))

one_way : (k z : Sign) → (is_null k && is_plus z) ≡ true → (k ≡ Null) × (z ≡ Plus)
one_way k z h = let t = and_parts (is_null k) (is_plus z) h in (is_null-true k t.0, is_plus-true z t.1)

pub clockwise_alone : (f d e : Dir) → (clockwise_cmp f d e ≡ Equal) ↔ IsOneDirection d e
clockwise_alone f d e = (
  λ h. one_way (sign (cross d e)) (sign (dot d e)) (sym (tie f d e) ∙ ap is_eq (sym (order-is f d e) ∙ h)),
  λ t. order-is f d e ∙ equal_from (order_of f d e) (tie f d e ∙ and_from (is_null (sign (cross d e))) (is_plus (sign (dot d e))) (ap is_null t.0) (ap is_plus t.1)),
)
