-- Anchors listed ring by ring.
use Rattle.std.proofs.Common.{Bool, List, [], ap, arith, false, get_or, length, subst, sym, ℕ, ◌++◌, ◌+◌, ◌<◌, ◌∙◌, ◌∷◌, ◌≡◌}
use Rattle.std.proofs.lemmas.List.{get_or_default, length-append}
use Rattle.osm_geom.specs.declared.edge.Edge.{Edge}
use Rattle.osm_nest.specs.declared.sweep.ring_edge.RingEdge.{RingEdge}
use Rattle.osm_nest.specs.declared.ring_anchors.Anchors.{Anchors}
use Rattle.osm_nest.specs.Anchors.{AreAnchors, IsAnchorAt}
use Rattle.osm_nest.specs.Enclosers.{TellsOuter}
use Rattle.osm_nest.specs.SweptEdges.{IsInnerAnchor}
use Rattle.osm_nest.specs.Outer.{IsAnchorOf, IsInner}
use Rattle.osm_nest.proofs.Filled.{IsFilled, all-told, filled-step, tells_at}

-- those of the first n rings
pub record ListsAnchors (rs : List (List Edge)) (n : ℕ) (edges : List RingEdge) : Type 0 where
  pub sized : length edges ≡ n
  pub each : (d : RingEdge) → IsFilled (IsAnchorAt rs) d n edges

pub one-listed : (rs : List (List Edge)) (n : ℕ) (edges after : List RingEdge) (r : List Edge) (a : RingEdge) → n < length rs → r ≡ get_or rs n r → a.ring ≡ n → IsAnchorOf a.edge.now r → after ≡ edges ++ a ∷ [] →
    ListsAnchors rs n edges → ListsAnchors rs (n + 1) after
one-listed rs n edges after r a inside is here anchor made so_far = record {
  sized = (let s = so_far.sized in let e = ap length made in let l = length-append edges (a ∷ []) in omega (arith, s, e, l));
  each = λ d. filled-step (IsAnchorAt rs) d n edges after a made (record { here = here; anchor = subst (IsAnchorOf a.edge.now) (is ∙ get_or_default rs n r [] inside) anchor }) (so_far.each d);
}

pub listed-all : (rs : List (List Edge)) (n : ℕ) (anchors : Anchors) → n ≡ length rs → ListsAnchors rs n anchors.edges.items → IsFilled (tells_at rs) false n anchors.outer.items → AreAnchors rs anchors
listed-all rs n anchors all edges outer = record {
  sized = edges.sized ∙ all;
  each = λ place d h. (edges.each d).1 place (omega (arith, h, all));
  outer_sized = outer.0 ∙ all;
  outer = all-told rs n anchors.outer.items all outer;
}

-- the answer at a place
pub outer-at : (rs : List (List Edge)) (anchors : Anchors) → AreAnchors rs anchors → (place : ℕ) (b : Bool) → place < length rs → b ≡ get_or anchors.outer.items place b → TellsOuter b (get_or rs place [])
outer-at rs anchors are place b inside is =
    let s = are.outer_sized in
    subst (λ (o : Bool). TellsOuter o (get_or rs place [])) (sym (is ∙ get_or_default anchors.outer.items place b false (omega (arith, s, inside)))) (are.outer place inside)

pub anchor-at : (rs : List (List Edge)) (anchors : Anchors) → AreAnchors rs anchors → (place : ℕ) (a : RingEdge) → place < length rs → a ≡ get_or anchors.edges.items place a → IsAnchorAt rs place a
anchor-at rs anchors are place a inside is = subst (IsAnchorAt rs place) (sym is) (are.each place a inside)

-- the anchor at the place of an inner ring
pub inner-anchor : (rs : List (List Edge)) (anchors : Anchors) → AreAnchors rs anchors → (place : ℕ) (a : RingEdge) → place < length rs → a ≡ get_or anchors.edges.items place a → IsInner (get_or rs place []) → IsInnerAnchor rs a
inner-anchor rs anchors are place a inside is inner =
    let at = anchor-at rs anchors are place a inside is in
    record {
      inside = subst (λ k. k < length rs) (sym at.here) inside;
      inner = subst (λ k. IsInner (get_or rs k [])) (sym at.here) inner;
      anchor = subst (λ k. IsAnchorOf a.edge.now (get_or rs k [])) (sym at.here) at.anchor;
    }
