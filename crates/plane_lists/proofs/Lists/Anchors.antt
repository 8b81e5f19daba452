-- The leftmost edge at the least point.
use Rattle.std.proofs.Common.{Bool, List, [], ap, arith, cond, eqb, eqb-true, false, inl, inr, length, not, refl, subst, sym, true, ℕ, ◌%◌, ◌+◌, ◌||◌, ◌∙◌, ◌∷◌, ◌≡◌}
use borrow.Author.Differences.{ints}
use lib.IntN.{negsuc, pos, ◌+ℤ◌, ◌-ℤ◌}
use Rattle.plane.specs.Bit.{bit}
use Rattle.plane.specs.Edge.{Edge, IsRisingEdge, ends_at, other_end, same_edge, segment_of}
use Rattle.plane.specs.FreeSegment.{Misses}
use Rattle.plane.specs.Height.{is_in_span}
use Rattle.plane.specs.Order.{order}
use Rattle.plane.specs.RayCrossing.{down_by, up_by}
use Rattle.plane.specs.Sector.{in_sector, sector_by}
use Rattle.plane.specs.Sign.{Minus, Null, Plus, Sign, is_minus, is_plus, negated, sign, then_sign}
use Rattle.plane.specs.Vector.{IsNonZero, Vector, cross, dot, east, from_to, orient, same_point}
use Rattle.plane_lists.specs.Lists.ConflictFree.{IsConflictFree, others}
use Rattle.plane_lists.specs.Lists.EdgeList.{IsEvenAtPoints, crossing_count, winding_number}
use Rattle.lists.specs.Member.{In}
use Rattle.plane_lists.specs.Lists.Node.{away, spokes, spokes_in}
use Rattle.plane_lists.specs.Lists.OddSide.{runs_up_by_odd_side}
use Rattle.plane_lists.specs.Lists.Parity.{is_even}
use Rattle.plane_lists.specs.Lists.Ring.{IsAnchor, IsRing, segments_of}
use Rattle.std.proofs.lemmas.Bool.{false_from_ne_true}
use Rattle.plane.proofs.PlaneKit.{clear_misses, edge_of, ends_at-from, same_edge-refl, same_edge-true, line-order-up, order-null, order-reversed, order-self-null, order-sum, rising-direction, same_point-true, cross-agree, cross-negated, cross-self, dot-east, plucker-agree, plucker-dot-agree, cross-east, crossings_at, level-side, rise-y}
use Rattle.plane.proofs.SignKit.{lift, same, ◌⊞◌, ◌⊟◌, ◌⊠◌, agree, all, all-out, all4, all4-out, imp, imp-out, plus-plus, same_bool, self-diff, sign-reversed, times, minus-not-plus, plus-null, null-plus}
use Rattle.plane_lists.proofs.Lists.Balance.{degree-even, length-total}
use Rattle.plane_lists.proofs.Lists.ConflictFree.{clear_of_others, off_away, rising_in, split_off}
use Rattle.lists.proofs.ListsKit.{in-filter, into-filter, none-sum, total, total-filter, total-same}
use Rattle.plane_lists.proofs.Lists.OddSides.{no_same_way_from, runs_from, spokes-is}
use Rattle.plane_lists.proofs.Lists.OppositeEnds.{beyond, crossings-away}
use Rattle.plane_lists.proofs.Lists.Ranks.{even-is, odd-is}
use Rattle.plane_lists.proofs.Lists.RingCounts.{keeps, ring-even, ring_count, ring_keeps}
use Rattle.plane_lists.proofs.Lists.RoundNode.{parity_round_node}

abbrev pub west : Vector
west = record { x = negsuc 0; y = pos 0 }

pub west-direction : IsNonZero west
west-direction = refl

pub cross-west : (w : Vector) → sign (cross west w) ≡ negated (sign w.y)
cross-west w =
    let x = lift w.x in let y = lift w.y in
    let e : w.y +ℤ cross west w ≡ pos 0 = same (y ⊞ (lift (negsuc 0) ⊠ y ⊟ lift (pos 0) ⊠ x)) (lift (pos 0)) (omega arith) in
    sign-reversed w.y (cross west w) e

dot-west : (w : Vector) → sign (dot west w) ≡ negated (sign w.x)
dot-west w =
    let x = lift w.x in let y = lift w.y in
    let e : w.x +ℤ dot west w ≡ pos 0 = same (x ⊞ (lift (negsuc 0) ⊠ x ⊞ lift (pos 0) ⊠ y)) (lift (pos 0)) (omega arith) in
    sign-reversed w.x (dot west w) e

sector-west : (d w : Vector) → in_sector west d w ≡ sector_by (negated (sign w.x)) (negated (sign w.y)) (negated (sign d.x)) (negated (sign d.y)) (sign (cross d w))
sector-west d w = rw (dot-west w, cross-west w, dot-west d, cross-west d)

-- ---- seen from a point below all edges, the ray to the left hits none
abbrev west_1 : Sign → Sign → Sign → Sign → Bool
west_1 yu yv c dy = imp (agree yu dy yv) λ _. imp (not (is_minus dy)) λ _. imp (not (is_minus yu)) λ _. eqb (up_by (negated yu) (negated yv) c + down_by (negated yu) (negated yv) c) 0

first-not-minus : (s t : Sign) → (then_sign s t ≡ Minus → ⊥) → not (is_minus s) ≡ true
first-not-minus Minus t h = absurd (h refl)
first-not-minus Null t h = refl
first-not-minus Plus t h = refl

plus-not-minus : (s : Sign) → s ≡ Plus → s ≡ Minus → ⊥
plus-not-minus s h k = cc (sym h ∙ k)

pub west-misses : (a : Vector) (t : Edge) → IsRisingEdge t → (order a t.from ≡ Minus → ⊥) → crossings_at west (from_to a) t ≡ 0
west-misses a t r h =
    let u = t.from in let v = t.to in let c = sign (cross (from_to a u) (from_to a v)) in
    let g = all4-out west_1 refl (sign (u.y -ℤ a.y)) (sign (v.y -ℤ a.y)) c (sign (v.y -ℤ u.y)) in
    rw (cross-west (from_to a u), cross-west (from_to a v))
    (eqb-true _ _ (imp-out _ _ (imp-out _ _ (imp-out _ _ g (rise-y a u v)) (first-not-minus (sign (v.y -ℤ u.y)) (sign (v.x -ℤ u.x)) (plus-not-minus (order u v) r))) (first-not-minus (sign (u.y -ℤ a.y)) (sign (u.x -ℤ a.x)) h)))

beyond-none-by : (n : ℕ) (b : Bool) → n ≡ 0 → cond (not b) n 0 ≡ 0
beyond-none-by n true h = refl
beyond-none-by n false h = h

pub west-none : (a : Vector) (es : List Edge) → ((t : Edge) → In t es → IsRisingEdge t) → ((t : Edge) → In t es → order a t.from ≡ Minus → ⊥) → crossing_count west a (away a es) ≡ 0
west-none a es r h =
    crossings-away west a es ∙ total-same (beyond west a) (λ t. 0) es (λ t i. beyond-none-by (crossings_at west (from_to a) t) (ends_at a t) (west-misses a t (r t i) (h t i))) ∙ none-sum es

-- ---- the edges at that point, from west round to one that is left of all of them
abbrev right_1 : Sign → Sign → Sign → Sign → Bool
right_1 wx wy dx dy = all λ k. imp (agree k (times dy wx) (times dx wy)) λ _. imp (not (is_plus k)) λ _. imp (is_plus (then_sign wy wx)) λ _. imp (is_plus (then_sign dy dx)) λ _.
    eqb (sector_by (negated wx) (negated wy) (negated dx) (negated dy) k) 1

pub west-sector : (d w : Vector) → then_sign (sign d.y) (sign d.x) ≡ Plus → then_sign (sign w.y) (sign w.x) ≡ Plus → not (is_plus (sign (cross d w))) ≡ true → in_sector west d w ≡ 1
west-sector d w hd hw n =
    let c = all-out (λ k. imp (agree k (times (sign d.y) (sign w.x)) (times (sign d.x) (sign w.y))) λ _. imp (not (is_plus k)) λ _. imp (is_plus (then_sign (sign w.y) (sign w.x))) λ _. imp (is_plus (then_sign (sign d.y) (sign d.x))) λ _.
    eqb (sector_by (negated (sign w.x)) (negated (sign w.y)) (negated (sign d.x)) (negated (sign d.y)) k) 1) (all4-out right_1 refl (sign w.x) (sign w.y) (sign d.x) (sign d.y)) (sign (cross d w)) in
    sector-west d w ∙ eqb-true _ _ (imp-out _ _ (imp-out _ _ (imp-out _ _ (imp-out _ _ c (cross-agree d w)) n) (ap is_plus hw)) (ap is_plus hd))

-- an edge at a point below all edges begins there
pub begins-by : (a : Vector) (t : Edge) (b c : Bool) → same_point a t.from ≡ b → same_point a t.to ≡ c → (b || c) ≡ true → IsRisingEdge t → (order a t.from ≡ Minus → ⊥) → b ≡ true
begins-by a t true c h k o r l = refl
begins-by a t false true h k o r l = absurd (l (order-reversed t.from a ∙ ap negated (subst (λ w. order t.from w ≡ Plus) (sym (same_point-true a t.to k)) r)))
begins-by a t false false h k o r l = o

share-one-by : (n : ℕ) (b : Bool) → (b ≡ true → n ≡ 1) → cond b n 0 ≡ cond b 1 0
share-one-by n true h = h refl
share-one-by n false h = refl

-- all edges at a are right of the direction d, or along it: they are in the sector from west round to d
pub all-right : (a : Vector) (d : Vector) (es : List Edge) → then_sign (sign d.y) (sign d.x) ≡ Plus → ((t : Edge) → In t es → IsRisingEdge t) → ((t : Edge) → In t es → order a t.from ≡ Minus → ⊥) →
    ((t : Edge) → In t es → a ≡ t.from → not (is_plus (sign (cross d (from_to a t.to)))) ≡ true) → spokes_in west d a es ≡ length (spokes a es)
all-right a d es hd r l n =
    spokes-is west d a es
    ∙ total-same (λ (t : Edge). cond (ends_at a t) (in_sector west d (from_to a (other_end a t))) 0) (λ t. cond (ends_at a t) 1 0) es
    (λ t i. share-one-by (in_sector west d (from_to a (other_end a t))) (ends_at a t) (λ e.
    let b = begins-by a t (same_point a t.from) (same_point a t.to) refl refl e (r t i) (l t i) in
    let q = same_point-true a t.from b in
    ap (λ b. in_sector west d (from_to a (cond b t.to t.from))) b ∙ west-sector d (from_to a t.to) hd (subst (λ w. order w t.to ≡ Plus) (sym q) (r t i)) (n t i q)))
    ∙ sym (total-filter (ends_at a) (λ t. 1) es) ∙ length-total (spokes a es)

-- the anchor's direction has all edges at the point on its right
anchor-right-by : (s t : Edge) (es : List Edge) → IsAnchor s es → In t es → s.from ≡ t.from → (b : Bool) → same_edge s t ≡ b → not (is_plus (sign (cross (from_to s.from s.to) (from_to s.from t.to)))) ≡ true
anchor-right-by s t es a i q false h = minus-not-plus _ (a.leftmost t (into-filter (λ (t : Edge). not (same_edge s t)) es t i (ap not h)) q)
anchor-right-by s t es a i q true h =
    let e = same_edge-true s t h in
    subst (λ (w : Edge). not (is_plus (sign (cross (from_to s.from s.to) (from_to s.from w.to)))) ≡ true) e (ap (λ z. not (is_plus (sign z))) (cross-self (from_to s.from s.to)))

pub anchor_right : (s t : Edge) (es : List Edge) → IsAnchor s es → In t es → s.from ≡ t.from → not (is_plus (sign (cross (from_to s.from s.to) (from_to s.from t.to)))) ≡ true
anchor_right s t es a i q = anchor-right-by s t es a i q (same_edge s t) refl

-- the odd side directs the anchor down
pub anchor_runs : (s : Edge) (es : List Edge) → IsConflictFree es → IsEvenAtPoints es → IsAnchor s es → runs_up_by_odd_side es s ≡ false
anchor_runs s es p even a =
    let v = s.from in let d = from_to s.from s.to in let rs = rising_in es s p a.member in
    let b = parity_round_node west d v es west-direction (rising-direction s.from s.to rs) even (off_away v s es p a.member (ends_at-from s)) in
    let n = west-none v es (λ t i. rising_in es t p i) a.least in
    let m = all-right v d es rs (λ t i. rising_in es t p i) a.least (λ t i q. anchor_right s t es a i q) in
    let e = degree-even v es p even in
    runs_from s es p even a.member ∙ ap not (even-is (crossing_count d v (away v es)) (omega arith))

anchor-keeps : (e : Edge) (es : List Edge) → IsRing es → IsConflictFree (segments_of es) → IsAnchor (segment_of e) (segments_of es) → keeps es e ≡ not (is_plus (order e.from e.to))
anchor-keeps e es r p a = ap (λ b. same_bool b (is_plus (order e.from e.to))) (anchor_runs (segment_of e) (segments_of es) p (ring-even es r) a)

ring-by-anchor : (e : Edge) (es : List Edge) → IsRing es → IsConflictFree (segments_of es) → In e es → IsAnchor (segment_of e) (segments_of es) → (p : Vector) → (b : Bool) → is_plus (order e.from e.to) ≡ b →
    winding_number east p es ≡ cond b (pos 0 -ℤ pos (crossing_count east p es % 2)) (pos (crossing_count east p es % 2))
ring-by-anchor e es r p i a v true h =
    let c = ring_count es r p false (λ x j. ring_keeps es r p x e j i ∙ anchor-keeps e es r p a ∙ ap not h) v in omega (arith, ints)
ring-by-anchor e es r p i a v false h =
    let c = ring_count es r p true (λ x j. ring_keeps es r p x e j i ∙ anchor-keeps e es r p a ∙ ap not h) v in omega (arith, ints)

-- where the anchor runs down, the ring goes round counterclockwise: the signed count is the parity; where it runs up, the negative
pub ring_by_anchor : (e : Edge) (es : List Edge) → IsRing es → IsConflictFree (segments_of es) → In e es → IsAnchor (segment_of e) (segments_of es) → (p : Vector) →
    winding_number east p es ≡ cond (is_plus (order e.from e.to)) (pos 0 -ℤ pos (crossing_count east p es % 2)) (pos (crossing_count east p es % 2))
ring_by_anchor e es r p i a v = ring-by-anchor e es r p i a v (is_plus (order e.from e.to)) refl

-- ---- each list that is not empty has an anchor
abbrev pub ok_by : Sign → Sign → Bool
ok_by Plus k = true
ok_by Null k = not (is_plus k)
ok_by Minus k = false

abbrev pub ok : Edge → Edge → Bool
ok s t = ok_by (order s.from t.from) (orient s.from s.to t.to)

abbrev down_4 : Sign → Sign → Sign → Sign → Sign → Sign → Sign → Sign → Sign → Bool
down_4 ax ay bx by cx cy k l m =
    imp (agree (times ay l) (times cy k) (times by m)) λ _.
    imp (agree (times ax l) (times cx k) (times bx m)) λ _.
    not (is_plus m)

abbrev down_3 : Sign → Sign → Sign → Sign → Sign → Sign → Sign → Sign → Bool
down_3 ax ay bx by k cx cy l =
    imp (agree l (times by cx) (times bx cy)) λ _.
    imp (is_plus (then_sign cy cx)) λ _.
    imp (not (is_plus l)) λ _.
    all λ m. imp (agree m (times ay cx) (times ax cy)) λ _. down_4 ax ay bx by cx cy k l m

abbrev down_2 : Sign → Sign → Sign → Sign → Sign → Bool
down_2 ax ay bx by k =
    imp (agree k (times ay bx) (times ax by)) λ _.
    imp (is_plus (then_sign ay ax)) λ _.
    imp (is_plus (then_sign by bx)) λ _.
    imp (not (is_plus k)) λ _.
    all λ cx. all λ cy. all λ l. down_3 ax ay bx by k cx cy l

abbrev down_1 : Sign → Sign → Sign → Sign → Bool
down_1 ax ay bx by = all (down_2 ax ay bx by)

down_computes : all4 down_1 ≡ true
down_computes = refl

-- of three vectors that rise: b is not left of a, c not of b, so c not of a
down-chain : (a b c : Vector) → then_sign (sign a.y) (sign a.x) ≡ Plus → then_sign (sign b.y) (sign b.x) ≡ Plus → then_sign (sign c.y) (sign c.x) ≡ Plus →
    not (is_plus (sign (cross a b))) ≡ true → not (is_plus (sign (cross b c))) ≡ true → not (is_plus (sign (cross a c))) ≡ true
down-chain a b c ha hb hc h g =
    let ax = sign a.x in let ay = sign a.y in let bx = sign b.x in let by = sign b.y in let cx = sign c.x in let cy = sign c.y in
    let k = sign (cross a b) in let l = sign (cross b c) in let m = sign (cross a c) in
    let p = rw (cross-east a, cross-east b, cross-east c) at (plucker-agree east a b c) in
    let q = rw (dot-east a, dot-east b, dot-east c) at (plucker-dot-agree east a b c) in
    let g1 = all-out (down_2 ax ay bx by) (all4-out down_1 down_computes ax ay bx by) k in
    let g2 = imp-out _ _ (imp-out _ _ (imp-out _ _ (imp-out _ _ g1 (cross-agree a b)) (ap is_plus ha)) (ap is_plus hb)) h in
    let g3 = all-out (λ l. down_3 ax ay bx by k cx cy l) (all-out (λ cy. all λ l. down_3 ax ay bx by k cx cy l) (all-out (λ cx. all λ cy. all λ l. down_3 ax ay bx by k cx cy l) g2 cx) cy) l in
    let g4 = all-out (λ m. imp (agree m (times ay cx) (times ax cy)) λ _. down_4 ax ay bx by cx cy k l m) (imp-out _ _ (imp-out _ _ (imp-out _ _ g3 (cross-agree b c)) (ap is_plus hc)) g) m in
    imp-out _ _ (imp-out _ _ (imp-out _ _ g4 (cross-agree a c)) p) q

ok-of-plus : (o k : Sign) → o ≡ Plus → ok_by o k ≡ true
ok-of-plus o k h = ap (λ o. ok_by o k) h

ok-of-null : (o k : Sign) → o ≡ Null → not (is_plus k) ≡ true → ok_by o k ≡ true
ok-of-null o k h g = ap (λ o. ok_by o k) h ∙ g

ok-chain-by : (s t u : Edge) → IsRisingEdge s → IsRisingEdge t → IsRisingEdge u → (o o' : Sign) → order s.from t.from ≡ o → order t.from u.from ≡ o' → ok_by o (orient s.from s.to t.to) ≡ true → ok_by o' (orient t.from t.to u.to) ≡ true → ok s u ≡ true
ok-chain-by s t u rs rt ru Plus Plus h g a b = ok-of-plus (order s.from u.from) (orient s.from s.to u.to) (plus-plus (order s.from u.from) (let k = order-sum s.from t.from u.from in rw (h, g) at k))
ok-chain-by s t u rs rt ru Plus Null h g a b = ok-of-plus (order s.from u.from) (orient s.from s.to u.to) (plus-null (order s.from u.from) (let k = order-sum s.from t.from u.from in rw (h, g) at k))
ok-chain-by s t u rs rt ru Null Plus h g a b = ok-of-plus (order s.from u.from) (orient s.from s.to u.to) (null-plus (order s.from u.from) (let k = order-sum s.from t.from u.from in rw (h, g) at k))
ok-chain-by s t u rs rt ru Null Null h g a b =
    let p = s.from in
    let q = order-null s.from t.from h in let q' = q ∙ order-null t.from u.from g in
    ok-of-null (order p u.from) (orient p s.to u.to) (subst (λ w. order p w ≡ Null) q' (order-self-null p))
    (down-chain (from_to p s.to) (from_to p t.to) (from_to p u.to) rs (subst (λ w. order w t.to ≡ Plus) (sym q) rt) (subst (λ w. order w u.to ≡ Plus) (sym q') ru)
    a (subst (λ w. not (is_plus (orient w t.to u.to)) ≡ true) (sym q) b))
ok-chain-by s t u rs rt ru Minus o' h g a b = absurd (cc a)
ok-chain-by s t u rs rt ru Plus Minus h g a b = absurd (cc b)
ok-chain-by s t u rs rt ru Null Minus h g a b = absurd (cc b)

pub ok_chain : (s t u : Edge) → IsRisingEdge s → IsRisingEdge t → IsRisingEdge u → ok s t ≡ true → ok t u ≡ true → ok s u ≡ true
ok_chain s t u rs rt ru a b = ok-chain-by s t u rs rt ru (order s.from t.from) (order t.from u.from) refl refl a b

not-plus-negated : (k : Sign) → not (is_plus k) ≡ false → not (is_plus (negated k)) ≡ true
not-plus-negated Plus h = refl
not-plus-negated Null h = absurd (cc h)
not-plus-negated Minus h = absurd (cc h)

pub ok-either-by : (s t : Edge) → (o : Sign) → order s.from t.from ≡ o → ok_by o (orient s.from s.to t.to) ≡ false → ok t s ≡ true
ok-either-by s t Plus h a = absurd (cc a)
ok-either-by s t Null h a =
    let q = order-null s.from t.from h in
    ok-of-null (order t.from s.from) (orient t.from t.to s.to) (subst (λ w. order w s.from ≡ Null) q (order-self-null s.from))
    (subst (λ w. not (is_plus (orient w t.to s.to)) ≡ true) q (ap (λ z. not (is_plus z)) (cross-negated (from_to s.from s.to) (from_to s.from t.to)) ∙ not-plus-negated (orient s.from s.to t.to) a))
ok-either-by s t Minus h a = ok-of-plus (order t.from s.from) (orient t.from t.to s.to) (order-reversed s.from t.from ∙ ap negated h)

pub ok-self : (s : Edge) → ok s s ≡ true
ok-self s = ok-of-null (order s.from s.from) (orient s.from s.to s.to) (order-self-null s.from) (ap (λ z. not (is_plus (sign z))) (cross-self (from_to s.from s.to)))

record Best (s : Edge) (es : List Edge) : Type 0 where
  here : In s es
  best : (t : Edge) → In t es → ok s t ≡ true

better-head : (x : Edge) (es : List Edge) (s : Edge) → ((t : Edge) → In t (x ∷ es) → IsRisingEdge t) → Best s es → ok x s ≡ true → (t : Edge) → In t (x ∷ es) → ok x t ≡ true
better-head x es s r b h t (inl e) = subst (λ w. ok x w ≡ true) (sym e) (ok-self x)
better-head x es s r b h t (inr i) = ok_chain x s t (r x (inl refl)) (r s (inr b.here)) (r t (inr i)) h (b.best t i)

keep-tail : (x : Edge) (es : List Edge) (s : Edge) → Best s es → ok s x ≡ true → (t : Edge) → In t (x ∷ es) → ok s t ≡ true
keep-tail x es s b h t (inl e) = subst (λ w. ok s w ≡ true) (sym e) h
keep-tail x es s b h t (inr i) = b.best t i

one-best : (x t : Edge) → In t (x ∷ []) → ok x t ≡ true
one-best x t (inl e) = subst (λ w. ok x w ≡ true) (sym e) (ok-self x)
one-best x t (inr i) = absurd i

no-ok : (s t : Edge) → ok s t ≡ true → order s.from t.from ≡ Minus → ⊥
no-ok s t h g = let k = ap (λ o. ok_by o (orient s.from s.to t.to)) g in cc (sym h ∙ k)

minus-by : (k : Sign) → not (is_plus k) ≡ true → (k ≡ Null → ⊥) → k ≡ Minus
minus-by Plus h g = absurd (cc h)
minus-by Null h g = absurd (g refl)
minus-by Minus h g = refl

best-left : (s t : Edge) (es : List Edge) → IsConflictFree es → Best s es → In t (others s es) → s.from ≡ t.from → orient s.from s.to t.to ≡ Minus
best-left s t es p b i q =
    let c = clear_of_others s t es p b.here i in let j = in-filter (λ (t : Edge). not (same_edge s t)) es t i in
    let rs = rising_in es s p b.here in let rt = rising_in es t p j in
    let n : order s.from t.from ≡ Null = subst (λ w. order s.from w ≡ Null) q (order-self-null s.from) in
    let k = sym (ap (λ o. ok_by o (orient s.from s.to t.to)) n) ∙ b.best t j in
    let r = subst (λ w. order w t.to ≡ Plus) (sym q) rt in
    let m = subst (λ w. Misses s.from s.to (edge_of w t.to)) (sym q) (clear_misses s t rs rt c) in
    minus-by (orient s.from s.to t.to) k (λ z. no_same_way_from s.from s.to t.to (rising-direction s.from s.to rs) m z (line-order-up s.from s.to s.from t.to rs z ∙ r))

-- ---- an anchor is not level
minus-rise : (y x : Sign) → then_sign y x ≡ Plus → y ≡ Minus → ⊥
minus-rise Minus x h k = cc h
minus-rise Null x h k = cc k
minus-rise Plus x h k = cc k

pub level-plus : (y x : Sign) → y ≡ Null → then_sign y x ≡ Plus → x ≡ Plus
level-plus Null x h k = k
level-plus Plus x h k = absurd (cc h)
level-plus Minus x h k = absurd (cc h)

other-by : (s : Edge) (es : List Edge) → IsConflictFree es → IsEvenAtPoints es → In s es → is_even (total (λ t. bit (ends_at s.from t)) (others s es)) ≡ false
other-by s es p even i =
    let d = degree-even s.from es p even in
    let a = length-total (spokes s.from es) in let b = total-filter (ends_at s.from) (λ t. 1) es in
    let c = split_off (λ t. bit (ends_at s.from t)) s es p i in
    let o : bit (ends_at s.from s) ≡ 1 = ap bit (ends_at-from s) in
    odd-is (total (λ t. bit (ends_at s.from t)) (others s es)) (omega arith)

some-step : {X : Type 0} (q : X → Bool) (x : X) (xs : List X) → (b : Bool) → q x ≡ b → (b ≡ false → (y : X) × In y xs × (q y ≡ true)) → (y : X) × In y (x ∷ xs) × (q y ≡ true)
some-step q x xs true h k = (x, inl refl, h)
some-step q x xs false h k = let r = k refl in (r.0, inr r.1, r.2)

rest-odd : (b : Bool) (n : ℕ) → b ≡ false → is_even (bit b + n) ≡ false → is_even n ≡ false
rest-odd true n h k = absurd (cc h)
rest-odd false n h k = sym (ap is_even (let e : 0 + n ≡ n = omega arith in e)) ∙ k

pub some_odd : {X : Type 0} (q : X → Bool) (xs : List X) → is_even (total (λ x. bit (q x)) xs) ≡ false → (y : X) × In y xs × (q y ≡ true)
some_odd q [] h = absurd (cc h)
some_odd q (x ∷ xs) h = some-step q x xs (q x) refl (λ e. some_odd q xs (rest-odd (q x) (total (λ x. bit (q x)) xs) e h))

level-out : (s t : Edge) (es : List Edge) → IsConflictFree es → IsAnchor s es → In t (others s es) → ends_at s.from t ≡ true → sign (s.to.y -ℤ s.from.y) ≡ Null → ⊥
level-out s t es p a i h z =
    let j = in-filter (λ (t : Edge). not (same_edge s t)) es t i in
    let rs = rising_in es s p a.member in let rt = rising_in es t p j in
    let b = begins-by s.from t (same_point s.from t.from) (same_point s.from t.to) refl refl h rt (a.least t j) in
    let q = same_point-true s.from t.from b in
    let m = a.leftmost t i q in
    let l = level-side (from_to s.from s.to) (from_to s.from t.to) z (level-plus (sign (s.to.y -ℤ s.from.y)) (sign (s.to.x -ℤ s.from.x)) z rs) in
    minus-rise (sign (t.to.y -ℤ s.from.y)) (sign (t.to.x -ℤ s.from.x)) (subst (λ w. order w t.to ≡ Plus) (sym q) rt) (sym l ∙ m)

span-by : (p : Vector) (y : Sign) (s : Edge) → s.from ≡ p → sign (s.to.y -ℤ s.from.y) ≡ y → (y ≡ Null → ⊥) → then_sign y (sign (s.to.x -ℤ s.from.x)) ≡ Plus → is_in_span s.from s ≡ true
span-by p Plus s e h n r = let k = self-diff s.from.y in rw (k, h) refl
span-by p Null s e h n r = absurd (n refl)
span-by p Minus s e h n r = absurd (cc r)

pub anchor_span : (s : Edge) (es : List Edge) → IsConflictFree es → IsEvenAtPoints es → IsAnchor s es → is_in_span s.from s ≡ true
anchor_span s es p even a =
    let t = some_odd (λ t. ends_at s.from t) (others s es) (other-by s es p even a.member) in
    span-by s.from (sign (s.to.y -ℤ s.from.y)) s refl refl (λ z. level-out s t.0 es p a t.1 t.2 z) (rising_in es s p a.member)

-- ---- the anchor, computed: the best of the list
abbrev pub leftmost_of : Edge → List Edge → Edge
leftmost_of x [] = x
leftmost_of x (y ∷ ys) = cond (ok x (leftmost_of y ys)) x (leftmost_of y ys)

best-step : (x : Edge) (es : List Edge) (s : Edge) → ((t : Edge) → In t (x ∷ es) → IsRisingEdge t) → Best s es → (b : Bool) → ok x s ≡ b → Best (cond b x s) (x ∷ es)
best-step x es s r b true h = record { here = inl refl; best = better-head x es s r b h }
best-step x es s r b false h = record { here = inr b.here; best = keep-tail x es s b (ok-either-by x s (order x.from s.from) refl h) }

leftmost-best : (x : Edge) (es : List Edge) → ((t : Edge) → In t (x ∷ es) → IsRisingEdge t) → Best (leftmost_of x es) (x ∷ es)
leftmost-best x [] r = record { here = inl refl; best = one-best x }
leftmost-best x (y ∷ ys) r = best-step x (y ∷ ys) (leftmost_of y ys) r (leftmost-best y ys (λ t i. r t (inr i))) (ok x (leftmost_of y ys)) refl

pub leftmost_anchor : (x : Edge) (es : List Edge) → IsConflictFree (x ∷ es) → IsAnchor (leftmost_of x es) (x ∷ es)
leftmost_anchor x es p =
    let s = leftmost_of x es in let b = leftmost-best x es (λ t i. rising_in (x ∷ es) t p i) in
    record { member = b.here; least = λ t i h. no-ok s t (b.best t i) h; leftmost = λ t i q. best-left s t (x ∷ es) p b i q }

-- a conflict-free list that is not empty has an anchor
pub some-anchor : (es : List Edge) (x : Edge) → In x es → IsConflictFree es → (m : Edge) × IsAnchor m es
some-anchor [] x i p = absurd i
some-anchor (y ∷ ys) x i p = (leftmost_of y ys, leftmost_anchor y ys p)

-- ---- and only one
not-both-minus : (s : Sign) → s ≡ Minus → negated s ≡ Minus → ⊥
not-both-minus Minus h k = cc k
not-both-minus Null h k = cc h
not-both-minus Plus h k = cc h

neither-way : (s : Sign) → (s ≡ Minus → ⊥) → (negated s ≡ Minus → ⊥) → s ≡ Null
neither-way Minus h k = absurd (h refl)
neither-way Null h k = refl
neither-way Plus h k = absurd (k refl)

anchor-one-by : (a b : Edge) (es : List Edge) → IsConflictFree es → IsAnchor a es → IsAnchor b es → (x : Bool) → same_edge a b ≡ x → a ≡ b
anchor-one-by a b es p h k true e = same_edge-true a b e
anchor-one-by a b es p h k false e =
    let i : In b (others a es) = into-filter (λ (t : Edge). not (same_edge a t)) es b k.member (ap not e) in
    let f : same_edge b a ≡ false = false_from_ne_true (same_edge b a) (λ z. let q = same_edge-true b a z in let r = ap (λ w. same_edge a w) q in let s = same_edge-refl a in cc (sym s ∙ sym r ∙ e)) in
    let j : In a (others b es) = into-filter (λ (t : Edge). not (same_edge b t)) es a h.member (ap not f) in
    let n = neither-way (order a.from b.from) (h.least b k.member) (λ z. k.least a h.member (order-reversed a.from b.from ∙ z)) in
    let q = order-null a.from b.from n in
    let u = h.leftmost b i q in let v = k.leftmost a j (sym q) in
    let w : orient a.from b.to a.to ≡ Minus = subst (λ c. orient c b.to a.to ≡ Minus) (sym q) v in
    absurd (not-both-minus (orient a.from a.to b.to) u (sym (cross-negated (from_to a.from a.to) (from_to a.from b.to)) ∙ w))

pub anchor_one : (a b : Edge) (es : List Edge) → IsConflictFree es → IsAnchor a es → IsAnchor b es → a ≡ b
anchor_one a b es p h k = anchor-one-by a b es p h k (same_edge a b) refl
