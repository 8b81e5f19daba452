-- The line from its parts.
use Rattle.std.proofs.Common.{◌≡◌, ◌∙◌, ◌++◌, ◌∷◌, ℕ, Bool, false, cond, List, Some, None, ap, sym}
use Rattle.std.specs.List.{flat_map}
use Rattle.osm_geom.specs.declared.edge.Edge.{Edge}
use Rattle.osm_lattice.specs.declared.loc.Loc.{Loc}
use Rattle.osm_text.specs.Piece.{holes_left, piece_kind_text, piece_line}
use Rattle.osm_text.specs.PieceSteps.{hole_text}
use Rattle.osm_text.specs.Rounded.{has_vanished, rounded_ring}
use Rattle.osm_text.specs.Wkt.{ring_wkt}
use Rattle.osm_text.proofs.PieceLemmas.{line-put}
use Rattle.osm_text.proofs.piece.piece_text.Goals as goal

pub returns-clause-text : goal.returns-clause-text
returns-clause-text c =
    let polygon = c.args.polygon.now in
    let stays : has_vanished polygon.outer ≡ false = sym c.in_ok-has_vanished.ensures.has ∙ c.if-has_vanished.false in
    let line = line-put c.args.kind (rounded_ring polygon.outer) polygon.inners _ _ _ _ _
    (c.in_ok-put_kind.ensures.text ∙ ap (λ (xs : List ℕ). xs ++ piece_kind_text c.args.kind) c.in_ok-text.ensures.items)
    c.in_ok-extend_from_slice.ensures.items
    (c.in_ok-put_ring.ensures.text ∙ ap (λ (path : List Loc). c.extend_from_slice.new.self.items ++ ring_wkt path) (c.deref-2.ensures.value ∙ c.in_ok-outer.ensures))
    (c.in_ok-put_holes.ensures.text ∙ ap (λ (rings : List (List Edge)). c.put_ring.new.text.items ++ flat_map hole_text rings) c.as_slice.ensures)
    c.in_ok-extend_from_slice-2.ensures.items in
    ap Some line ∙ ap (λ (b : Bool). cond b None (Some (piece_line c.args.kind (rounded_ring polygon.outer ∷ holes_left polygon.inners)))) (sym stays)
