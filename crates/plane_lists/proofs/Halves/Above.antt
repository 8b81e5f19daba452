-- Just above a point: what the ray from it crosses of a sided list goes round it once or not at all, where it is off the edges that pass from below the
-- line of the ray to above it, even if it is on others.
use Rattle.std.proofs.Common.{All, Bool, List, ap, arith, false, not, refl, subst, sym, true, ℕ, ◌+◌, ◌∙◌, ◌≡◌, ◌≤◌, ◌⊎◌}
use borrow.Author.Differences.{down, ints, up}
use lib.IntN.{pos, ℤ, ◌*ℤ◌, ◌+ℤ◌, ◌-ℤ◌}
use Rattle.plane.specs.Edge.{Edge}
use Rattle.plane.specs.RayCrossing.{IsOffEdge, down_by, off_by, up_by}
use Rattle.plane.specs.Scale.{scaled_edge, scaled_point}
use Rattle.plane.specs.Sign.{Minus, Null, Plus, Sign, is_null, is_plus, sign}
use Rattle.plane.specs.Vector.{IsNonZero, Vector, cross, dot, east, from_to}
use Rattle.plane_lists.specs.Lists.EdgeList.{winding_number}
use Rattle.lists.specs.Member.{In}
use Rattle.plane_lists.specs.Lists.ScaledEdges.{scaled_edges}
use Rattle.plane_lists.specs.Lists.Sided.{IsSided}
use Rattle.plane.proofs.PlaneKit.{crossings_seen, cross2, dot2, frame-agree, frame-dot-agree, from_to2, lift2, down_seen, east-direction, up_seen, off_by-set}
use Rattle.plane.proofs.SignKit.{lift, same, ◌⊞◌, ◌⊟◌, ◌⊠◌, agree, agree-sum, all2, all2-out, all4, all4-out, imp, imp-out, plus-times, same_bool, sign-from, times, less_one, more_one, same_bool-is}
use Rattle.plane_lists.proofs.WindingKit.{winding_independent, total-member, sub-sign, sub_sign, sub-plus, sub-set, balanced-scaled}
use Rattle.lists.proofs.ListsKit.{all-in, in-map-out, total, total-is, total-map, total-same}
use Rattle.plane_lists.proofs.Halves.Sides.{Flat, down_flat, flat-from, flat-level, flat-to, off-level, up_flat}

-- ---- k * z + d, where d is small: between -k and k
down-one : (k z d : ℤ) → k *ℤ (z -ℤ pos 1) +ℤ (k +ℤ d) ≡ k *ℤ z +ℤ d
down-one k z d = let k' = lift k in let z' = lift z in let d' = lift d in same (k' ⊠ (z' ⊟ lift (pos 1)) ⊞ (k' ⊞ d')) (k' ⊠ z' ⊞ d') (omega arith)

up-one : (k z d : ℤ) → k *ℤ (z +ℤ pos 1) +ℤ (d -ℤ k) ≡ k *ℤ z +ℤ d
up-one k z d = let k' = lift k in let z' = lift z in let d' = lift d in same (k' ⊠ (z' ⊞ lift (pos 1)) ⊞ (d' ⊟ k')) (k' ⊠ z' ⊞ d') (omega arith)

not-minus-plus : (a c : Sign) → (a ≡ Minus → ⊥) → agree a Plus c ≡ true → c ≡ Plus
not-minus-plus Minus c h e = absurd (h refl)
not-minus-plus Null Plus h e = refl
not-minus-plus Plus Plus h e = refl
not-minus-plus a c h e = absurd (cc e)

not-plus-minus : (a c : Sign) → (a ≡ Plus → ⊥) → agree a Minus c ≡ true → c ≡ Minus
not-plus-minus Plus c h e = absurd (h refl)
not-plus-minus Null Minus h e = refl
not-plus-minus Minus Minus h e = refl
not-plus-minus a c h e = absurd (cc e)

near-by : (k z d : ℤ) → sign k ≡ Plus → sign (k +ℤ d) ≡ Plus → sign (d -ℤ k) ≡ Minus → (s : Sign) → sign z ≡ s → not (is_null s) ≡ true → sign (k *ℤ z +ℤ d) ≡ s
near-by k z d hk hp hm Plus e n =
    let a = agree-sum (k *ℤ (z -ℤ pos 1)) (k +ℤ d) (k *ℤ z +ℤ d) (down-one k z d) in
    not-minus-plus (sign (k *ℤ (z -ℤ pos 1))) (sign (k *ℤ z +ℤ d)) (λ m. less_one z e (sym (plus-times k (z -ℤ pos 1) hk) ∙ m)) (subst (λ s. agree (sign (k *ℤ (z -ℤ pos 1))) s (sign (k *ℤ z +ℤ d)) ≡ true) hp a)
near-by k z d hk hp hm Minus e n =
    let a = agree-sum (k *ℤ (z +ℤ pos 1)) (d -ℤ k) (k *ℤ z +ℤ d) (up-one k z d) in
    not-plus-minus (sign (k *ℤ (z +ℤ pos 1))) (sign (k *ℤ z +ℤ d)) (λ m. more_one z e (sym (plus-times k (z +ℤ pos 1) hk) ∙ m)) (subst (λ s. agree (sign (k *ℤ (z +ℤ pos 1))) s (sign (k *ℤ z +ℤ d)) ≡ true) hm a)
near-by k z d hk hp hm Null e n = absurd (cc n)

sub-same : (s t : Sign) → same_bool (is_plus s) (is_plus t) ≡ true → sub_sign s ≡ sub_sign t
sub-same Plus Plus h = refl
sub-same Null Null h = refl
sub-same Null Minus h = refl
sub-same Minus Null h = refl
sub-same Minus Minus h = refl
sub-same Plus Null h = absurd (cc h)
sub-same Plus Minus h = absurd (cc h)
sub-same Null Plus h = absurd (cc h)
sub-same Minus Plus h = absurd (cc h)

-- ---- an edge off the point that passes from one side of the line of the ray to the other doesn't point at the point
abbrev points_2 : Sign → Sign → Sign → Sign → Sign → Sign → Bool
points_2 a b c x y s =
    imp (agree (times Plus c) (times y a) (times x b)) λ _.
    imp (agree (times x y) (times a b) (times Plus s)) λ _.
    imp (off_by c s) λ _.
    not (is_null c)

abbrev points_1 : Sign → Sign → Sign → Sign → Bool
points_1 a b c x = imp (not (same_bool (is_plus a) (is_plus b))) λ _. all2 (points_2 a b c x)

points-computes : all4 points_1 ≡ true
points-computes = refl

pub passes-beside : (u p : Vector) (e : Edge) → IsNonZero u → IsOffEdge p e →
    not (same_bool (is_plus (sign (cross u (from_to p e.from)))) (is_plus (sign (cross u (from_to p e.to))))) ≡ true → not (is_null (sign (cross (from_to p e.from) (from_to p e.to)))) ≡ true
passes-beside u p e d off h =
    let a = from_to p e.from in let b = from_to p e.to in
    let g1 = imp-out _ _ (all4-out points_1 points-computes (sign (cross u a)) (sign (cross u b)) (sign (cross a b)) (sign (dot u a))) h in
    let g2 = all2-out (points_2 (sign (cross u a)) (sign (cross u b)) (sign (cross a b)) (sign (dot u a))) g1 (sign (dot u b)) (sign (dot a b)) in
    imp-out _ _ (imp-out _ _ (imp-out _ _ g2 (frame-agree u a b d)) (frame-dot-agree u a b d)) off

-- ---- the moved point
abbrev pub moved : ℤ → Vector → Vector → Vector
moved k u p = record { x = k *ℤ p.x -ℤ u.y; y = k *ℤ p.y +ℤ u.x }

moved-rise : (k : ℤ) (u p v : Vector) → cross u (from_to (moved k u p) (scaled_point k v)) ≡ k *ℤ cross u (from_to p v) -ℤ dot u u
moved-rise k u p v =
    let k' = lift k in let u' = lift2 u in let p' = lift2 p in let v' = lift2 v in
    same (u'.x2 ⊠ (k' ⊠ v'.y2 ⊟ (k' ⊠ p'.y2 ⊞ u'.x2)) ⊟ u'.y2 ⊠ (k' ⊠ v'.x2 ⊟ (k' ⊠ p'.x2 ⊟ u'.y2))) (k' ⊠ cross2 u' (from_to2 p' v') ⊟ dot2 u' u') (omega arith)

moved-cross : (k : ℤ) (u p a b : Vector) →
    cross (from_to (moved k u p) (scaled_point k a)) (from_to (moved k u p) (scaled_point k b)) ≡ k *ℤ (k *ℤ cross (from_to p a) (from_to p b) +ℤ dot u (from_to a b))
moved-cross k u p a b =
    let k' = lift k in let u' = lift2 u in let p' = lift2 p in let a' = lift2 a in let b' = lift2 b in
    same ((k' ⊠ a'.x2 ⊟ (k' ⊠ p'.x2 ⊟ u'.y2)) ⊠ (k' ⊠ b'.y2 ⊟ (k' ⊠ p'.y2 ⊞ u'.x2)) ⊟ (k' ⊠ a'.y2 ⊟ (k' ⊠ p'.y2 ⊞ u'.x2)) ⊠ (k' ⊠ b'.x2 ⊟ (k' ⊠ p'.x2 ⊟ u'.y2)))
    (k' ⊠ (k' ⊠ cross2 (from_to2 p' a') (from_to2 p' b') ⊞ dot2 u' (from_to2 a' b'))) (omega arith)

module _ (u p : Vector) (d : IsNonZero u) (k : ℤ) (hk : sign k ≡ Plus) (hn : sign (k -ℤ dot u u) ≡ Plus) (e : Edge)
    (hp : sign (k +ℤ dot u (from_to e.from e.to)) ≡ Plus) (hm : sign (dot u (from_to e.from e.to) -ℤ k) ≡ Minus)
    (off : not (same_bool (is_plus (sign (cross u (from_to p e.from)))) (is_plus (sign (cross u (from_to p e.to))))) ≡ true → IsOffEdge p e) where
  abbrev A : Sign
  A = sign (cross u (from_to p e.from))

  abbrev B : Sign
  B = sign (cross u (from_to p e.to))

  abbrev C : Sign
  C = sign (cross (from_to p e.from) (from_to p e.to))

  abbrev q : Vector
  q = moved k u p

  abbrev f : Edge
  f = scaled_edge k e

  rise-moved : (v : Vector) → sign (cross u (from_to q (scaled_point k v))) ≡ sub_sign (sign (cross u (from_to p v)))
  rise-moved v = ap sign (moved-rise k u p v) ∙ sub-sign k (dot u u) hk d hn (cross u (from_to p v))

  cross-moved : not (same_bool (is_plus A) (is_plus B)) ≡ true → sign (cross (from_to q f.from) (from_to q f.to)) ≡ C
  cross-moved h =
      ap sign (moved-cross k u p e.from e.to) ∙ plus-times k (k *ℤ cross (from_to p e.from) (from_to p e.to) +ℤ dot u (from_to e.from e.to)) hk
      ∙ near-by k (cross (from_to p e.from) (from_to p e.to)) (dot u (from_to e.from e.to)) hk hp hm C refl (passes-beside u p e d (off h) h)

  off-by-case : (b : Bool) → same_bool (is_plus A) (is_plus B) ≡ b → IsOffEdge q f
  off-by-case true h =
      off-level u (from_to q f.from) (from_to q f.to) d (sub_sign A) (sub-set A) (rise-moved e.from) (rise-moved e.to ∙ sym (sub-same A B h))
  off-by-case false h =
      let n = ap not h in
      off_by-set (sign (cross (from_to q f.from) (from_to q f.to))) (sign (dot (from_to q f.from) (from_to q f.to))) (ap (λ c. not (is_null c)) (cross-moved n) ∙ passes-beside u p e d (off n) n)

  pub moved-off : IsOffEdge q f
  moved-off = off-by-case (same_bool (is_plus A) (is_plus B)) refl

  module _ (g : Sign → Sign → Sign → ℕ) (fl : Flat g) where
    seen-by-case : (b : Bool) → same_bool (is_plus A) (is_plus B) ≡ b → (c : Sign) → sign (cross (from_to q f.from) (from_to q f.to)) ≡ c → g A B c ≡ g A B C
    seen-by-case true h c i = flat-level g fl A B c h ∙ sym (flat-level g fl A B C h)
    seen-by-case false h c i = ap (g A B) (sym i ∙ cross-moved (ap not h))

    pub moved-seen : crossings_seen g u (from_to q) f ≡ crossings_seen g u (from_to p) e
    moved-seen =
        let c = sign (cross (from_to q f.from) (from_to q f.to)) in
        ap (λ s. g s (sign (cross u (from_to q f.to))) c) (rise-moved e.from) ∙ ap (λ s. g (sub_sign A) s c) (rise-moved e.to)
        ∙ flat-from g fl (sub_sign A) A (sub_sign B) c (same_bool-is _ _ (sub-plus A)) ∙ flat-to g fl A (sub_sign B) B c (same_bool-is _ _ (sub-plus B))
        ∙ seen-by-case (same_bool (is_plus A) (is_plus B)) refl c refl

-- ---- a list
abbrev size : ℤ → ℕ
size z = up z + down z

abbrev pub WindsOnce : Vector → Vector → List Edge → Type 0
WindsOnce d p es = (winding_number d p es ≡ pos 0) ⊎ (winding_number d p es ≡ pos 1)

module _ (es : List Edge) (sd : IsSided es) (u p : Vector) (d : IsNonZero u)
    (off : (e : Edge) → In e es → not (same_bool (is_plus (sign (cross u (from_to p e.from)))) (is_plus (sign (cross u (from_to p e.to))))) ≡ true → IsOffEdge p e) where
  abbrev reach : Edge → ℕ
  reach e = size (dot u (from_to e.from e.to))

  abbrev many : ℕ
  many = 1 + (size (dot u u) + total reach es)

  abbrev K : ℤ
  K = pos many

  K-plus : sign K ≡ Plus
  K-plus = sign-from Plus K (omega (arith, ints))

  K-long : sign (K -ℤ dot u u) ≡ Plus
  K-long = sign-from Plus (K -ℤ dot u u) (omega (arith, ints))

  K-up : (z : ℤ) → size z ≤ total reach es → sign (K +ℤ z) ≡ Plus
  K-up z h = sign-from Plus (K +ℤ z) (omega (arith, ints))

  K-down : (z : ℤ) → size z ≤ total reach es → sign (z -ℤ K) ≡ Minus
  K-down z h = sign-from Minus (z -ℤ K) (omega (arith, ints))

  abbrev Q : Vector
  Q = moved K u p

  all-off : All (IsOffEdge Q) (scaled_edges K es)
  all-off = all-in (IsOffEdge Q) (scaled_edges K es) (λ t j.
      let r = in-map-out (scaled_edge K) es t j in
      let m = total-member reach es r.0 r.1 in
      subst (IsOffEdge Q) (sym r.2) (moved-off u p d K K-plus K-long r.0 (K-up (dot u (from_to r.0.from r.0.to)) m) (K-down (dot u (from_to r.0.from r.0.to)) m) (off r.0 r.1)))

  seen-all : (g : Sign → Sign → Sign → ℕ) → Flat g → total (crossings_seen g u (from_to Q)) (scaled_edges K es) ≡ total (crossings_seen g u (from_to p)) es
  seen-all g fl =
      total-map (crossings_seen g u (from_to Q)) (scaled_edge K) es
      ∙ total-same (λ e. crossings_seen g u (from_to Q) (scaled_edge K e)) (crossings_seen g u (from_to p)) es (λ e i.
      let m = total-member reach es e i in
      moved-seen u p d K K-plus K-long e (K-up (dot u (from_to e.from e.to)) m) (K-down (dot u (from_to e.from e.to)) m) (off e i) g fl)

  winding-same : winding_number u Q (scaled_edges K es) ≡ winding_number u p es
  winding-same =
      let a = sym (total-is (up_seen u (from_to Q)) (scaled_edges K es)) ∙ seen-all up_by up_flat ∙ total-is (up_seen u (from_to p)) es in
      let b = sym (total-is (down_seen u (from_to Q)) (scaled_edges K es)) ∙ seen-all down_by down_flat ∙ total-is (down_seen u (from_to p)) es in
      omega (arith, ints)

  pub just-above : WindsOnce u p es
  just-above =
      let w = winding_independent u east Q d east-direction (scaled_edges K es) all-off (balanced-scaled K K-plus es sd.balanced) in
      subst (λ z. (z ≡ pos 0) ⊎ (z ≡ pos 1)) (sym w ∙ winding-same) (sd.counted K K-plus Q all-off)
