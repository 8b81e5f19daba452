-- The signed count of a half, at all points with fractions.
use Rattle.std.proofs.Common.{All, List, [], ap, cond, false, inl, inr, map, refl, subst, sym, true, Bool, ◌++◌, ◌∙◌, ◌∷◌, ◌≡◌}
use lib.IntN.{pos, ℤ}
use Rattle.plane.specs.Edge.{Edge}
use Rattle.plane.specs.RayCrossing.{IsOffEdge}
use Rattle.plane.specs.Scale.{scaled_edge}
use Rattle.plane.specs.Sign.{Minus, Null, Plus, sign}
use Rattle.plane.specs.Vector.{Vector, east}
use Rattle.plane_lists.specs.Lists.EdgeList.{IsBalanced, winding_number}
use Rattle.lists.specs.Member.{In}
use Rattle.plane_lists.specs.Lists.Parity.{is_even}
use Rattle.plane_lists.specs.Lists.ScaledEdges.{scaled_edges}
use Rattle.plane_lists.specs.Lists.Sided.{IsSided}
use Rattle.plane_lists.specs.Halves.Half.{Cutting, closing, closing_from, ends_up_to, half, parts, wholes}
use Rattle.plane_lists.specs.Halves.HalfLaws.{IsHalved}
use Rattle.plane_lists.specs.Halves.Line.{Line, scaled_line, side}
use Rattle.plane_lists.proofs.Halves.Above.{WindsOnce}
use Rattle.plane_lists.proofs.Halves.Balance.{half-balanced}
use Rattle.plane_lists.proofs.Halves.Counts.{AreOn, beyond-count, counted, kept-count, off-half, off-half-beyond}
use Rattle.plane_lists.proofs.Halves.ScaledHalves.{cut-scaled, on-scaled, parts-scaled, scaled_cuttings, wholes-scaled}
use Rattle.plane_lists.proofs.WindingKit.{balanced-scaled, sided-scaled}

-- ---- the edges between the ends lie on the line
on-cond : (l : Line) (b : Bool) (z w : Vector) (es : List Edge) → side l z ≡ Null → side l w ≡ Null → AreOn l es → AreOn l (cond b es (record { from = z; to = w } ∷ es))
on-cond l true z w es hz hw on e i = on e i
on-cond l false z w es hz hw on e (inl h) = subst (λ (x : Edge). (side l x.from ≡ Null) × (side l x.to ≡ Null)) (sym h) (hz, hw)
on-cond l false z w es hz hw on e (inr i) = on e i

closing-from-on : (l : Line) (ts : List Edge) (z : Vector) (zs : List Vector) → side l z ≡ Null → ((w : Vector) → In w zs → side l w ≡ Null) → AreOn l (closing_from l ts z zs)
closing-from-on l ts z [] hz h = λ e i. absurd i
closing-from-on l ts z (w ∷ zs) hz h = on-cond l (is_even (ends_up_to l ts z)) z w (closing_from l ts w zs) hz (h w (inl refl)) (closing-from-on l ts w zs (h w (inl refl)) (λ x i. h x (inr i)))

pub closing-on : (l : Line) (ts : List Edge) (zs : List Vector) → ((w : Vector) → In w zs → side l w ≡ Null) → AreOn l (closing l ts zs)
closing-on l ts [] h = λ e i. absurd i
closing-on l ts (z ∷ zs) h = closing-from-on l ts z zs (h z (inl refl)) (λ w i. h w (inr i))

map-append : (f : Edge → Edge) (xs ys : List Edge) → map f (xs ++ ys) ≡ map f xs ++ map f ys
map-append f [] ys = refl
map-append f (x ∷ xs) ys = ap (λ l. f x ∷ l) (map-append f xs ys)

module _ (l : Line) (cs : List Cutting) (zs : List Vector) (h : IsHalved l cs zs) where
  abbrev C : List Edge
  C = closing l (parts l cs) zs

  on : AreOn l C
  on = closing-on l (parts l cs) zs h.meetings.on_line

  pub balanced : IsBalanced (half l cs zs)
  balanced = half-balanced l h.direction cs h.cut h.sided zs h.meetings

  module _ (q : ℤ) (hq : sign q ≡ Plus) where
    abbrev m : Line
    m = scaled_line q l

    abbrev cs' : List Cutting
    cs' = scaled_cuttings q hq l cs

    same-half : parts m cs' ++ scaled_edges q C ≡ scaled_edges q (half l cs zs)
    same-half = ap (λ t. t ++ scaled_edges q C) (parts-scaled q hq l cs) ∙ sym (map-append (scaled_edge q) (parts l cs) C)

    balanced-at : IsBalanced (parts m cs' ++ scaled_edges q C)
    balanced-at = subst IsBalanced (sym same-half) (balanced-scaled q hq (half l cs zs) balanced)

    sided-at : IsSided (wholes cs')
    sided-at = subst IsSided (sym (wholes-scaled q hq l cs)) (sided-scaled q hq (wholes cs) h.sided)

    pub kept-at : (p : Vector) → side m p ≡ Plus → All (IsOffEdge p) (scaled_edges q (wholes cs)) → winding_number east p (scaled_edges q (half l cs zs)) ≡ winding_number east p (scaled_edges q (wholes cs))
    kept-at p hp off =
        ap (winding_number east p) (sym same-half)
        ∙ kept-count m h.direction cs' (cut-scaled q hq l cs h.cut) (scaled_edges q C) (on-scaled q hq l C on) balanced-at sided-at.balanced p hp (subst (All (IsOffEdge p)) (sym (wholes-scaled q hq l cs)) off)
        ∙ ap (winding_number east p) (wholes-scaled q hq l cs)

    pub beyond-at : (p : Vector) → side m p ≡ Minus → winding_number east p (scaled_edges q (half l cs zs)) ≡ pos 0
    beyond-at p hp =
        ap (winding_number east p) (sym same-half) ∙ beyond-count m h.direction cs' (cut-scaled q hq l cs h.cut) (scaled_edges q C) (on-scaled q hq l C on) balanced-at p hp

    pub counted-at : (p : Vector) → All (IsOffEdge p) (scaled_edges q (half l cs zs)) → WindsOnce east p (scaled_edges q (half l cs zs))
    counted-at p off =
        subst (WindsOnce east p) same-half
        (counted m h.direction cs' (cut-scaled q hq l cs h.cut) (scaled_edges q C) (on-scaled q hq l C on) balanced-at sided-at
        (λ r o. subst (WindsOnce east r) (sym (wholes-scaled q hq l cs)) (h.sided.counted q hq r (subst (All (IsOffEdge r)) (wholes-scaled q hq l cs) o)))
        p (subst (All (IsOffEdge p)) (sym same-half) off))

    pub off-kept-at : (p : Vector) → side m p ≡ Plus → All (IsOffEdge p) (scaled_edges q (wholes cs)) → All (IsOffEdge p) (scaled_edges q (half l cs zs))
    off-kept-at p hp off =
        subst (All (IsOffEdge p)) same-half
        (off-half m h.direction cs' (cut-scaled q hq l cs h.cut) (scaled_edges q C) (on-scaled q hq l C on) p hp (subst (All (IsOffEdge p)) (sym (wholes-scaled q hq l cs)) off))

    pub off-beyond-at : (p : Vector) → side m p ≡ Minus → All (IsOffEdge p) (scaled_edges q (half l cs zs))
    off-beyond-at p hp =
        subst (All (IsOffEdge p)) same-half (off-half-beyond m h.direction cs' (cut-scaled q hq l cs h.cut) (scaled_edges q C) (on-scaled q hq l C on) p hp)
