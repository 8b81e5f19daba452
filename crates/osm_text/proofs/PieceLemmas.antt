-- Pieces from their parts.
use Rattle.std.proofs.Common.{◌≡◌, ◌∙◌, ℕ, Bool, true, false, not, cond, List, [], ◌∷◌, ◌++◌, Some, None, map, refl, ap, append_assoc, codes}
use Rattle.std.specs.List.{cons_option, filter, filter_map, flat_map}
use Rattle.osm_geom.specs.declared.edge.Edge.{Edge}
use Rattle.osm_lattice.specs.declared.loc.Loc.{Loc}
use Rattle.osm_text.specs.declared.notation.Notation.TheVariants.{WellKnown}
use Rattle.osm_text.specs.declared.piece.PieceKind.{PieceKind}
use Rattle.osm_text.specs.Piece.{holes_left, piece_kind_text, piece_line}
use Rattle.osm_text.specs.PieceSteps.{hole_text}
use Rattle.osm_text.specs.Rounded.{has_vanished, least_near, rounded_ring, vanished_at}
use Rattle.osm_text.specs.Rows.{led_by_byte}
use Rattle.osm_text.specs.Wkt.{polygon_wkt, ring_wkt}
use Rattle.osm_text.proofs.NotationLemmas.{polygon-whole}

-- where a ring has vanished, and where it hasn't
pub noted : (ring : List Edge) (at : Loc) → has_vanished ring ≡ true → Some at ≡ least_near ring → filter_map vanished_at (ring ∷ []) ≡ at ∷ []
noted ring at has least = by (has_vanished ring) has
  where
    by : (b : Bool) → b ≡ true → cons_option (cond b (least_near ring) None) [] ≡ at ∷ []
    by b is = rw (is, ← least) refl

pub not_noted : (ring : List Edge) → has_vanished ring ≡ false → filter_map vanished_at (ring ∷ []) ≡ []
not_noted ring has = ap (λ (b : Bool). cons_option (cond b (least_near ring) None) []) has

pub hole-gone : (ring : List Edge) → has_vanished ring ≡ true → hole_text ring ≡ []
hole-gone ring has = ap (λ (b : Bool). cond b [] (44 ∷ ring_wkt (rounded_ring ring))) has

pub hole-left : (ring : List Edge) → has_vanished ring ≡ false → hole_text ring ≡ 44 ∷ ring_wkt (rounded_ring ring)
hole-left ring has = ap (λ (b : Bool). cond b [] (44 ∷ ring_wkt (rounded_ring ring))) has

holes-led : (rings : List (List Edge)) → flat_map hole_text rings ≡ led_by_byte 44 (map ring_wkt (holes_left rings))
holes-led [] = refl
holes-led (ring ∷ rings) = by (has_vanished ring) (holes-led rings)
  where
    by : (b : Bool) → flat_map hole_text rings ≡ led_by_byte 44 (map ring_wkt (holes_left rings))
        → cond b [] (44 ∷ ring_wkt (rounded_ring ring)) ++ flat_map hole_text rings
        ≡ led_by_byte 44 (map ring_wkt (map rounded_ring (cond (not b) (ring ∷ filter (λ (r : List Edge). not (has_vanished r)) rings) (filter (λ (r : List Edge). not (has_vanished r)) rings))))
    by true same = same
    by false same = ap (λ (xs : List ℕ). 44 ∷ ring_wkt (rounded_ring ring) ++ xs) same

-- ---- the line

shape : (k p r h : List ℕ) → (((k ++ (p ++ 40 ∷ [])) ++ r) ++ h) ++ 41 ∷ 10 ∷ [] ≡ ((k ++ p) ++ (((40 ∷ r) ++ h) ++ 41 ∷ [])) ++ 10 ∷ []
shape k p r h = simp append_assoc

pub line-put : (kind : PieceKind) (outer : List Loc) (inners : List (List Edge)) (one two three four whole : List ℕ)
    → one ≡ piece_kind_text kind → two ≡ one ++ codes "POLYGON(" → three ≡ two ++ ring_wkt outer → four ≡ three ++ flat_map hole_text inners
    → whole ≡ four ++ codes ")\n" → whole ≡ piece_line kind (outer ∷ holes_left inners)
line-put kind outer inners one two three four whole is_one is_two is_three is_four is_whole =
    let k = piece_kind_text kind in
    let r = ring_wkt outer in
    let h = led_by_byte 44 (map ring_wkt (holes_left inners)) in
    let all : whole ≡ (((k ++ codes "POLYGON(") ++ r) ++ h) ++ codes ")\n" = rw (is_whole, is_four, is_three, is_two, is_one, holes-led inners) refl in
    let parts : (((k ++ codes "POLYGON(") ++ r) ++ h) ++ codes ")\n" ≡ ((k ++ codes "POLYGON") ++ (((40 ∷ r) ++ h) ++ 41 ∷ [])) ++ codes "\n" = shape k (codes "POLYGON") r h in
    let polygon : ((40 ∷ r) ++ h) ++ 41 ∷ [] ≡ polygon_wkt (outer ∷ holes_left inners) = polygon-whole WellKnown outer (holes_left inners) in
    all ∙ parts ∙ ap (λ (xs : List ℕ). ((k ++ codes "POLYGON") ++ xs) ++ codes "\n") polygon
