-- The winding number is the same at points that are joined.
use Rattle.std.proofs.Common.{All, Bool, List, [], ap, eqb, eqb-true, false, pos, refl, subst, sym, true, ◌-ℤ◌, ◌∙◌, ◌∷◌, ◌≡◌, ◌+ℤ◌, ◌*ℤ◌}
use Rattle.plane_lists.specs.Paths.Inside.{IsInside, IsLineInside, IsStepInside}
use Rattle.plane_lists.specs.Paths.Line.{IsApart, IsFreeStep, IsPolyline, Joined}
use Rattle.plane.specs.Edge.{Edge}
use Rattle.plane.specs.RayCrossing.{IsOffEdge, down_by, up_by}
use Rattle.plane.specs.Scale.{scaled_edge, scaled_point}
use Rattle.plane.specs.Sign.{Plus, Sign, sign}
use Rattle.plane.specs.Vector.{Vector, cross, east, from_to, same_point}
use Rattle.plane_lists.specs.Lists.EdgeList.{IsBalanced, down_count, up_count, winding_number}
use Rattle.plane_lists.specs.Lists.ScaledEdges.{scaled_edges}
use Rattle.lists.proofs.ListsKit.{all-in, in-map-out, total-is, total-same}
use Rattle.plane.proofs.PlaneKit.{down_seen, east-direction, plucker-agree, same_point-true, side-there, step-direction, up_seen}
use Rattle.plane.proofs.SignKit.{agree, all, all-out, all4-out, both, imp, imp-out, left-out, right-out, times}
use Rattle.plane_lists.proofs.WindingKit.{balanced-scaled, winding-scaled, winding_independent}
use Rattle.plane_lists.proofs.Paths.Steps.{apart-back, apart-off, apart-until}

-- ---- the ray along a step from both of its ends
abbrev alike_1 : Sign → Sign → Sign → Sign → Bool
alike_1 s t n c = all λ c'. imp (agree (times n c) (times t Plus) (times s Plus)) λ _. imp (agree (times n c') (times t Plus) (times s Plus)) λ _. both (eqb (up_by s t c) (up_by s t c')) (eqb (down_by s t c) (down_by s t c'))

alike : (s t n c c' : Sign) → agree (times n c) (times t Plus) (times s Plus) ≡ true → agree (times n c') (times t Plus) (times s Plus) ≡ true → both (eqb (up_by s t c) (up_by s t c')) (eqb (down_by s t c) (down_by s t c')) ≡ true
alike s t n c c' h k =
    imp-out _ _ (imp-out _ _ (all-out (λ c'. imp (agree (times n c) (times t Plus) (times s Plus)) λ _. imp (agree (times n c') (times t Plus) (times s Plus)) λ _. both (eqb (up_by s t c) (up_by s t c')) (eqb (down_by s t c) (down_by s t c')))
    (all4-out alike_1 refl s t n c) c') h) k

module _ (p q : Vector) (e : Edge) (i : IsApart p q e) where
  abbrev d : Vector
  d = from_to p q

  abbrev s : Sign
  s = sign (cross d (from_to p e.from))

  abbrev t : Sign
  t = sign (cross d (from_to p e.to))

  abbrev n : Sign
  n = sign (cross d i.along)

  there-from : sign (cross d (from_to q e.from)) ≡ s
  there-from = ap sign (side-there p q e.from)

  there-to : sign (cross d (from_to q e.to)) ≡ t
  there-to = ap sign (side-there p q e.to)

  seen-by : (a b : Vector) → sign (cross i.along a) ≡ Plus → sign (cross i.along b) ≡ Plus → agree (times n (sign (cross a b))) (times (sign (cross d b)) Plus) (times (sign (cross d a)) Plus) ≡ true
  seen-by a b h k =
      subst (λ z. agree (times n (sign (cross a b))) (times (sign (cross d b)) Plus) (times (sign (cross d a)) z) ≡ true) k
      (subst (λ z. agree (times n (sign (cross a b))) (times (sign (cross d b)) z) (times (sign (cross d a)) (sign (cross i.along b))) ≡ true) h (plucker-agree d i.along a b))

  both-alike : both (eqb (up_by s t (sign (cross (from_to p e.from) (from_to p e.to)))) (up_by s t (sign (cross (from_to q e.from) (from_to q e.to)))))
      (eqb (down_by s t (sign (cross (from_to p e.from) (from_to p e.to)))) (down_by s t (sign (cross (from_to q e.from) (from_to q e.to))))) ≡ true
  both-alike =
      alike s t n (sign (cross (from_to p e.from) (from_to p e.to))) (sign (cross (from_to q e.from) (from_to q e.to))) (seen-by (from_to p e.from) (from_to p e.to) i.first_from i.first_to)
      (subst (λ z. agree (times n (sign (cross (from_to q e.from) (from_to q e.to)))) (times t Plus) (times z Plus) ≡ true) there-from
      (subst (λ z. agree (times n (sign (cross (from_to q e.from) (from_to q e.to)))) (times z Plus) (times (sign (cross d (from_to q e.from))) Plus) ≡ true) there-to (seen-by (from_to q e.from) (from_to q e.to) i.last_from i.last_to)))

  pub up-alike : up_seen d (from_to p) e ≡ up_seen d (from_to q) e
  up-alike =
      eqb-true _ _ (left-out _ _ both-alike) ∙ ap (λ z. up_by z t (sign (cross (from_to q e.from) (from_to q e.to)))) (sym there-from)
      ∙ ap (λ z. up_by (sign (cross d (from_to q e.from))) z (sign (cross (from_to q e.from) (from_to q e.to)))) (sym there-to)

  pub down-alike : down_seen d (from_to p) e ≡ down_seen d (from_to q) e
  down-alike =
      eqb-true _ _ (right-out _ _ both-alike) ∙ ap (λ z. down_by z t (sign (cross (from_to q e.from) (from_to q e.to)))) (sym there-from)
      ∙ ap (λ z. down_by (sign (cross d (from_to q e.from))) z (sign (cross (from_to q e.from) (from_to q e.to)))) (sym there-to)

-- ---- the winding number along a step
pub free-off : (es : List Edge) (p q : Vector) → IsFreeStep es p q → All (IsOffEdge p) es
free-off es p q f = all-in (IsOffEdge p) es (λ e i. apart-off p q e (f e i))

step-by : (es : List Edge) → IsBalanced es → (p q : Vector) → IsFreeStep es p q → (b : Bool) → same_point p q ≡ b → winding_number east p es ≡ winding_number east q es
step-by es bal p q f true h = ap (λ w. winding_number east w es) (same_point-true p q h)
step-by es bal p q f false h =
    let d = from_to p q in let pd = step-direction p q h in
    let u = sym (total-is (up_seen d (from_to p)) es) ∙ total-same (up_seen d (from_to p)) (up_seen d (from_to q)) es (λ e i. up-alike p q e (f e i)) ∙ total-is (up_seen d (from_to q)) es in
    let w = sym (total-is (down_seen d (from_to p)) es) ∙ total-same (down_seen d (from_to p)) (down_seen d (from_to q)) es (λ e i. down-alike p q e (f e i)) ∙ total-is (down_seen d (from_to q)) es in
    winding_independent east d p east-direction pd es (free-off es p q f) bal
    ∙ ap (λ n. pos n -ℤ pos (down_count d p es)) u ∙ ap (λ n. pos (up_count d q es) -ℤ pos n) w
    ∙ winding_independent d east q pd east-direction es (free-off es q p (λ e i. apart-back p q e (f e i))) bal

pub step-winds : (es : List Edge) → IsBalanced es → (p q : Vector) → IsFreeStep es p q → winding_number east p es ≡ winding_number east q es
step-winds es bal p q f = step-by es bal p q f (same_point p q) refl

pub line-winds : (es : List Edge) → IsBalanced es → (p : Vector) (cs : List Vector) (q : Vector) → IsPolyline es p cs q → winding_number east p es ≡ winding_number east q es
line-winds es bal p [] q l = step-winds es bal p q l
line-winds es bal p (c ∷ cs) q l = step-winds es bal p c l.0 ∙ line-winds es bal c cs q l.1

pub joined-winds : (es : List Edge) → IsBalanced es → (p q : Vector) → Joined es p q → winding_number east p es ≡ winding_number east q es
joined-winds es bal p q j =
    let m = j.multiple in
    sym (winding-scaled m j.positive east p es) ∙ line-winds (scaled_edges m es) (balanced-scaled m j.positive es bal) (scaled_point m p) j.corners (scaled_point m q) j.line ∙ winding-scaled m j.positive east q es

-- ---- a line that begins inside
pub step-inside : (es : List Edge) → IsBalanced es → (p q : Vector) → IsFreeStep es p q → IsInside es p → IsStepInside es p q
step-inside es bal p q f i = λ a b ha hb k.
    let m = a +ℤ b in let l = scaled_edges m es in
    let x : Vector = record { x = a *ℤ p.x +ℤ b *ℤ q.x; y = a *ℤ p.y +ℤ b *ℤ q.y } in
    let g : IsFreeStep l (scaled_point m p) x = λ e j. (let r = in-map-out (scaled_edge m) es e j in subst (λ w. IsApart (scaled_point m p) x w) (sym r.2) (apart-until p q r.0 (f r.0 r.1) a b ha hb k)) in
    record {
      off = free-off l x (scaled_point m p) (λ e j. apart-back (scaled_point m p) x e (g e j));
      once = sym (step-winds l (balanced-scaled m k es bal) (scaled_point m p) x g) ∙ winding-scaled m k east p es ∙ i.once;
    }

next-inside : (es : List Edge) → IsBalanced es → (p q : Vector) → IsFreeStep es p q → IsInside es p → IsInside es q
next-inside es bal p q f i = record { off = free-off es q p (λ e j. apart-back p q e (f e j)); once = sym (step-winds es bal p q f) ∙ i.once }

pub line-inside : (es : List Edge) → IsBalanced es → (p : Vector) (cs : List Vector) (q : Vector) → IsPolyline es p cs q → IsInside es p → IsLineInside es p cs q
line-inside es bal p [] q l i = step-inside es bal p q l i
line-inside es bal p (c ∷ cs) q l i = (step-inside es bal p c l.0 i, line-inside es bal c cs q l.1 (next-inside es bal p c l.0 i))
