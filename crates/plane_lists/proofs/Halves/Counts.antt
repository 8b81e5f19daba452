-- The signed count of parts and of edges on the line, on both sides of the line and on it.
use Rattle.std.proofs.Common.{All, Bool, List, ap, arith, cond, false, inl, not, refl, subst, sym, true, ℕ, ◌++◌, ◌||◌, ◌∙◌, ◌≡◌, ◌⊎◌}
use borrow.Author.Differences.{ints}
use lib.IntN.{pos}
use Rattle.plane.specs.Edge.{Edge}
use Rattle.plane.specs.RayCrossing.{IsOffEdge, down_by, is_off, up_by}
use Rattle.plane.specs.Sign.{Minus, Null, Plus, Sign, is_minus, is_plus, sign}
use Rattle.plane.specs.Vector.{IsNonZero, Vector, cross, east, from_to}
use Rattle.plane_lists.specs.Lists.EdgeList.{IsBalanced, winding_number}
use Rattle.lists.specs.Member.{In}
use Rattle.plane_lists.specs.Lists.Sided.{IsSided}
use Rattle.plane_lists.specs.Halves.Half.{Cutting, IsCut, cut_edges, parts, wholes}
use Rattle.plane_lists.specs.Halves.Line.{Line, has_part, side}
use Rattle.plane.proofs.PlaneKit.{crossings_seen, down_seen, east-direction, up_seen}
use Rattle.plane.proofs.SignKit.{agree, all2-out, imp, imp-out, same_bool, same_sign, same_sign-true, plus-behind}
use Rattle.plane_lists.proofs.WindingKit.{winding_independent}
use Rattle.lists.proofs.ListsKit.{all-either, all-in, cond_by, in-all, in-either, in-filter, in-left, in-map, in-map-out, in-passes, into-filter, none-sum, total, total-++, total-filter, total-is, total-map, total-same}
use Rattle.plane_lists.proofs.Halves.Above.{WindsOnce, just-above}
use Rattle.plane_lists.proofs.Halves.Sides.{Flat, both-false, both-true, down_flat, flat-level, is-above, kinds, no-part, not-above, not-crossed, off-level, part-crossings, part-ends, part-off, rise, side-sum, up_flat}

-- the edges lie on the line
abbrev pub AreOn : Line → List Edge → Type 0
AreOn l es = (e : Edge) → In e es → (side l e.from ≡ Null) × (side l e.to ≡ Null)

pub over-parts : (f : Edge → ℕ) (l : Line) (cs : List Cutting) → total f (parts l cs) ≡ total (λ (c : Cutting). cond (has_part l c.whole) (f c.part) 0) cs
over-parts f l cs = total-map f (λ (c : Cutting). c.part) (cut_edges l cs) ∙ total-filter (λ (c : Cutting). has_part l c.whole) (λ (c : Cutting). f c.part) cs

-- ---- the part of an edge, and the edge of a part
pub in-parts : (l : Line) (cs : List Cutting) (t : Edge) → In t (parts l cs) → (c : Cutting) × In c cs × (has_part l c.whole ≡ true) × (t ≡ c.part)
in-parts l cs t i =
    let r = in-map-out (λ (c : Cutting). c.part) (cut_edges l cs) t i in
    (r.0, in-filter (λ (c : Cutting). has_part l c.whole) cs r.0 r.1, in-passes (λ (c : Cutting). has_part l c.whole) cs r.0 r.1, r.2)

pub into-parts : (l : Line) (cs : List Cutting) (c : Cutting) → In c cs → has_part l c.whole ≡ true → In c.part (parts l cs)
into-parts l cs c i h = in-map (λ (c : Cutting). c.part) (cut_edges l cs) c (into-filter (λ (c : Cutting). has_part l c.whole) cs c i h)

minus-signs : (a x v : Sign) → agree a x v ≡ true → a ≡ Minus → not (is_minus v) ≡ true → x ≡ Plus
minus-signs Minus x v h e n = same_sign-true x Plus (imp-out _ _ (imp-out _ _ (all2-out (λ x v. imp (agree Minus x v) λ _. imp (not (is_minus v)) λ _. same_sign x Plus) refl x v) h) n)
minus-signs Null x v h e n = absurd (cc e)
minus-signs Plus x v h e n = absurd (cc e)

-- a point strictly on one side is off what lies on the other, closed
pub off-below : (l : Line) (p : Vector) (e : Edge) → IsNonZero l.along → side l p ≡ Plus → not (is_plus (side l e.from)) ≡ true → not (is_plus (side l e.to)) ≡ true → IsOffEdge p e
off-below l p e d h a b = off-level l.along (from_to p e.from) (from_to p e.to) d Minus refl (plus-behind _ _ _ (side-sum l p e.from) h a) (plus-behind _ _ _ (side-sum l p e.to) h b)

pub off-beyond : (l : Line) (p : Vector) (e : Edge) → IsNonZero l.along → side l p ≡ Minus → not (is_minus (side l e.from)) ≡ true → not (is_minus (side l e.to)) ≡ true → IsOffEdge p e
off-beyond l p e d h a b = off-level l.along (from_to p e.from) (from_to p e.to) d Plus refl (minus-signs _ _ _ (side-sum l p e.from) h a) (minus-signs _ _ _ (side-sum l p e.to) h b)

mixed-by : (p x v y w : Sign) → agree p x v ≡ true → agree p y w ≡ true → p ≡ Null → not (same_bool (is_plus x) (is_plus y)) ≡ true → (is_plus v || is_plus w) ≡ true
mixed-by Null x v y w h k e n =
    let a = same_sign-true x v (imp-out _ _ (all2-out (λ x v. imp (agree Null x v) λ _. same_sign x v) refl x v) h) in
    let b = same_sign-true y w (imp-out _ _ (all2-out (λ x v. imp (agree Null x v) λ _. same_sign x v) refl y w) k) in
    imp-out _ _ (all2-out (λ v w. imp (not (same_bool (is_plus v) (is_plus w))) λ _. (is_plus v || is_plus w)) refl v w) (ap (λ s. not (same_bool (is_plus s) (is_plus w))) (sym a) ∙ ap (λ s. not (same_bool (is_plus x) (is_plus s))) (sym b) ∙ n)
mixed-by Plus x v y w h k e n = absurd (cc e)
mixed-by Minus x v y w h k e n = absurd (cc e)

module _ (l : Line) (d : IsNonZero l.along) (cs : List Cutting) (cut : IsCut l cs) (C : List Edge) (on : AreOn l C) where
  abbrev H : List Edge
  H = parts l cs ++ C

  module _ (g : Sign → Sign → Sign → ℕ) (f : Flat g) (p : Vector) where
    abbrev seen : Edge → ℕ
    seen = crossings_seen g l.along (from_to p)

    pub seen-parts : not (is_minus (side l p)) ≡ true → total seen (parts l cs) ≡ total seen (wholes cs)
    seen-parts hp =
        over-parts seen l cs
        ∙ total-same (λ (c : Cutting). cond (has_part l c.whole) (seen c.part) 0) (λ (c : Cutting). seen c.whole) cs
        (λ c i. cond_by (has_part l c.whole) (seen c.part) (seen c.whole) (λ h. part-crossings g f l p hp c.whole c.part (cut c i h) h) (λ h. not-crossed g f l p hp c.whole c.part h))
        ∙ sym (total-map seen (λ (c : Cutting). c.whole) cs)

    zero-all : (es : List Edge) → ((e : Edge) → In e es → seen e ≡ 0) → total seen es ≡ 0
    zero-all es h = total-same seen (λ e. 0) es h ∙ none-sum es

    seen-on : not (is_minus (side l p)) ≡ true → total seen C ≡ 0
    seen-on hp = zero-all C (λ e i.
        let n = on e i in
        flat-level g f (rise l p e.from) (rise l p e.to) (sign (cross (from_to p e.from) (from_to p e.to)))
        (both-false _ _ (not-above l p e.from hp (ap (λ s. not (is_plus s)) n.0)) (not-above l p e.to hp (ap (λ s. not (is_plus s)) n.1))))

    seen-kept : not (is_minus (side l p)) ≡ true → total seen H ≡ total seen (wholes cs)
    seen-kept hp = let a = total-++ seen (parts l cs) C in let b = seen-parts hp in let c = seen-on hp in omega arith

    above-zero : is_minus (side l p) ≡ true → (e : Edge) → not (is_minus (side l e.from)) ≡ true → not (is_minus (side l e.to)) ≡ true → seen e ≡ 0
    above-zero hp e a b = flat-level g f (rise l p e.from) (rise l p e.to) (sign (cross (from_to p e.from) (from_to p e.to))) (both-true _ _ (is-above l p e.from hp a) (is-above l p e.to hp b))

    seen-beyond : is_minus (side l p) ≡ true → total seen H ≡ 0
    seen-beyond hp =
        let a = total-++ seen (parts l cs) C in
        let b = zero-all (parts l cs) (λ t i. let r = in-parts l cs t i in let e = part-ends l r.0.whole r.0.part (kinds l r.0.whole r.0.part (cut r.0 r.1 r.2) r.2) in
        subst (λ x. seen x ≡ 0) (sym r.3) (above-zero hp r.0.part e.0 e.1)) in
        let c = zero-all C (λ e i. let n = on e i in above-zero hp e (ap (λ s. not (is_minus s)) n.0) (ap (λ s. not (is_minus s)) n.1)) in
        omega arith

  -- ---- by the ray along the line
  pub along-kept : (p : Vector) → not (is_minus (side l p)) ≡ true → winding_number l.along p H ≡ winding_number l.along p (wholes cs)
  along-kept p hp =
      let a = sym (total-is (up_seen l.along (from_to p)) H) ∙ seen-kept up_by up_flat p hp ∙ total-is (up_seen l.along (from_to p)) (wholes cs) in
      let b = sym (total-is (down_seen l.along (from_to p)) H) ∙ seen-kept down_by down_flat p hp ∙ total-is (down_seen l.along (from_to p)) (wholes cs) in
      omega (arith, ints)

  pub along-beyond : (p : Vector) → is_minus (side l p) ≡ true → winding_number l.along p H ≡ pos 0
  along-beyond p hp =
      let a = sym (total-is (up_seen l.along (from_to p)) H) ∙ seen-beyond up_by up_flat p hp in
      let b = sym (total-is (down_seen l.along (from_to p)) H) ∙ seen-beyond down_by down_flat p hp in
      omega (arith, ints)

  -- ---- points off the lists
  off-either : (p : Vector) → side l p ≡ Plus → (c : Cutting) → In c cs → (b : Bool) → has_part l c.whole ≡ b → (b ≡ true → is_off p c.part ≡ true) → is_off p c.whole ≡ true
  off-either p h c i true k o =
      sym (part-off l d p (ap (λ s. not (is_minus s)) h) c.whole c.part (cut c i k) k) ∙ o refl
  off-either p h c i false k o = let n = no-part up_by up_flat l p (ap (λ s. not (is_minus s)) h) c.whole c.part k in off-below l p c.whole d h n.0 n.1

  pub off-wholes : (p : Vector) → side l p ≡ Plus → All (IsOffEdge p) H → All (IsOffEdge p) (wholes cs)
  off-wholes p h off = all-in (IsOffEdge p) (wholes cs) (λ e i.
      let r = in-map-out (λ (c : Cutting). c.whole) cs e i in
      subst (IsOffEdge p) (sym r.2) (off-either p h r.0 r.1 (has_part l r.0.whole) refl (λ k. in-all (IsOffEdge p) H r.0.part off (in-left (parts l cs) C r.0.part (into-parts l cs r.0 r.1 k)))))

  pub off-half : (p : Vector) → side l p ≡ Plus → All (IsOffEdge p) (wholes cs) → All (IsOffEdge p) H
  off-half p h off = all-in (IsOffEdge p) H (λ e i. all-either (IsOffEdge p) (parts l cs) C e
      (λ t j. let r = in-parts l cs t j in subst (IsOffEdge p) (sym r.3)
      (part-off l d p (ap (λ s. not (is_minus s)) h) r.0.whole r.0.part (cut r.0 r.1 r.2) r.2 ∙ in-all (IsOffEdge p) (wholes cs) r.0.whole off (in-map (λ (c : Cutting). c.whole) cs r.0 r.1)))
      (λ t j. let n = on t j in off-below l p t d h (ap (λ s. not (is_plus s)) n.0) (ap (λ s. not (is_plus s)) n.1))
      (in-either (parts l cs) C e i))

  pub off-half-beyond : (p : Vector) → side l p ≡ Minus → All (IsOffEdge p) H
  off-half-beyond p h = all-in (IsOffEdge p) H (λ e i. all-either (IsOffEdge p) (parts l cs) C e
      (λ t j. let r = in-parts l cs t j in let x = part-ends l r.0.whole r.0.part (kinds l r.0.whole r.0.part (cut r.0 r.1 r.2) r.2) in
      subst (IsOffEdge p) (sym r.3) (off-beyond l p r.0.part d h x.0 x.1))
      (λ t j. let n = on t j in off-beyond l p t d h (ap (λ s. not (is_minus s)) n.0) (ap (λ s. not (is_minus s)) n.1))
      (in-either (parts l cs) C e i))

  -- ---- at a point of the line: the ray along it, from a point off the parts
  pub along-line : IsSided (wholes cs) → (p : Vector) → side l p ≡ Null → All (IsOffEdge p) (parts l cs) → WindsOnce l.along p (wholes cs)
  along-line sd p h off = just-above (wholes cs) sd l.along p d (λ e i n.
      let r = in-map-out (λ (c : Cutting). c.whole) cs e i in
      let k : has_part l r.0.whole ≡ true = subst (λ x. has_part l x ≡ true) r.2 (mixed-by (side l p) _ _ _ _ (side-sum l p e.from) (side-sum l p e.to) h n) in
      subst (IsOffEdge p) (sym r.2)
      (sym (part-off l d p (ap (λ s. not (is_minus s)) h) r.0.whole r.0.part (cut r.0 r.1 k) k) ∙ in-all (IsOffEdge p) (parts l cs) r.0.part off (into-parts l cs r.0 r.1 k)))

  -- ---- by the ray to the right, where the half is balanced
  module _ (balanced : IsBalanced H) where
    pub kept-count : IsBalanced (wholes cs) → (p : Vector) → side l p ≡ Plus → All (IsOffEdge p) (wholes cs) → winding_number east p H ≡ winding_number east p (wholes cs)
    kept-count b p h off =
        winding_independent east l.along p east-direction d H (off-half p h off) balanced
        ∙ along-kept p (ap (λ s. not (is_minus s)) h)
        ∙ winding_independent l.along east p d east-direction (wholes cs) off b

    pub beyond-count : (p : Vector) → side l p ≡ Minus → winding_number east p H ≡ pos 0
    beyond-count p h =
        winding_independent east l.along p east-direction d H (off-half-beyond p h) balanced ∙ along-beyond p (ap is_minus h)

    module _ (sd : IsSided (wholes cs)) (at-one : (p : Vector) → All (IsOffEdge p) (wholes cs) → WindsOnce east p (wholes cs)) (p : Vector) (off : All (IsOffEdge p) H) where
      counted-by : (s : Sign) → side l p ≡ s → WindsOnce east p H
      counted-by Minus h = inl (beyond-count p h)
      counted-by Plus h =
          let o = off-wholes p h off in
          subst (λ z. (z ≡ pos 0) ⊎ (z ≡ pos 1)) (sym (kept-count sd.balanced p h o)) (at-one p o)
      counted-by Null h =
          subst (λ z. (z ≡ pos 0) ⊎ (z ≡ pos 1))
          (sym (winding_independent east l.along p east-direction d H off balanced ∙ along-kept p (ap (λ s. not (is_minus s)) h)))
          (along-line sd p h (all-in (IsOffEdge p) (parts l cs) (λ t i. in-all (IsOffEdge p) H t off (in-left (parts l cs) C t i))))

      pub counted : WindsOnce east p H
      counted = counted-by (side l p) refl
