-- Rings and polygons from their parts, in either notation.
use Rattle.std.proofs.Common.{◌≡◌, ◌∙◌, ◌<◌, ℕ, List, [], ◌∷◌, ◌++◌, map, take, length, Option, None, Some, slice_get, refl, sym, ap, append_assoc, arith}
use Rattle.std.specs.List.{join_with_byte}
use Rattle.osm_lattice.specs.declared.loc.Loc.{Loc}
use Rattle.osm_text.specs.declared.notation.Notation.{Notation}
use Rattle.osm_text.specs.declared.notation.Notation.TheVariants.{WellKnown, Json}
use Rattle.osm_text.specs.Notation.{close_of, open_of, point_in, polygon_in, polygon_list_text, ring_in}
use Rattle.osm_text.specs.Rows.{led_by_byte}
use Rattle.osm_text.proofs.RowLemmas.{led-closed, led-list}

ring_in-parts : (n : Notation) (ring : List Loc) → ring_in n ring ≡ open_of n ∷ join_with_byte 44 (map (point_in n) (ring ++ take 1 ring)) ++ close_of n ∷ []
ring_in-parts WellKnown ring = refl
ring_in-parts Json ring = refl

polygon_in-parts : (n : Notation) (rings : List (List Loc)) → polygon_in n rings ≡ open_of n ∷ join_with_byte 44 (map (ring_in n) rings) ++ close_of n ∷ []
polygon_in-parts WellKnown rings = refl
polygon_in-parts Json rings = refl

polygons_in-parts : (n : Notation) (polygons : List (List (List Loc))) → polygon_list_text n polygons ≡ open_of n ∷ join_with_byte 44 (map (polygon_in n) polygons) ++ close_of n ∷ []
polygons_in-parts WellKnown polygons = refl
polygons_in-parts Json polygons = refl

-- the ring along a path
ring-whole : (n : Notation) (path : List Loc) → 0 < length path
    → led_by_byte (open_of n) (map (point_in n) path) ++ led_by_byte 44 (map (point_in n) (take 1 path)) ++ close_of n ∷ [] ≡ ring_in n path
ring-whole n [] some = absurd (omega arith)
ring-whole n (p ∷ path) some = led-closed (open_of n) (close_of n) (point_in n) p path ∙ sym (ring_in-parts n (p ∷ path))

ring-none : (n : Notation) → open_of n ∷ close_of n ∷ [] ≡ ring_in n []
ring-none n = sym (ring_in-parts n [])

-- the polygon of an outer ring and inner rings
pub polygon-whole : (n : Notation) (outer : List Loc) (inners : List (List Loc))
    → open_of n ∷ ring_in n outer ++ led_by_byte 44 (map (ring_in n) inners) ++ close_of n ∷ [] ≡ polygon_in n (outer ∷ inners)
polygon-whole n outer inners =
    led-list (open_of n) (close_of n) (ring_in n outer) (map (ring_in n) inners) ∙ sym (polygon_in-parts n (outer ∷ inners))

polygons-none : (n : Notation) → open_of n ∷ close_of n ∷ [] ≡ polygon_list_text n []
polygons-none n = sym (polygons_in-parts n [])

polygons-whole : (n : Notation) (polygons : List (List (List Loc))) → 0 < length polygons
    → led_by_byte (open_of n) (map (polygon_in n) polygons) ++ close_of n ∷ [] ≡ polygon_list_text n polygons
polygons-whole n [] some = absurd (omega arith)
polygons-whole n (polygon ∷ polygons) some =
    led-list (open_of n) (close_of n) (polygon_in n polygon) (map (polygon_in n) polygons) ∙ sym (polygons_in-parts n (polygon ∷ polygons))

-- ---- texts to which the parts are added, one after the other

three : (text a b c : List ℕ) → text ++ a ++ b ++ c ≡ text ++ (a ++ b ++ c)
three text a b c = simp append_assoc

four : (text a b c d : List ℕ) → text ++ a ++ b ++ c ++ d ≡ text ++ (a ++ b ++ c ++ d)
four text a b c d = simp append_assoc

pub ring-put : (n : Notation) (first last : ℕ) (path : List Loc) (text one two whole : List ℕ) → 0 < length path → first ≡ open_of n → last ≡ close_of n
    → one ≡ text ++ led_by_byte first (map (point_in n) path) → two ≡ one ++ led_by_byte 44 (map (point_in n) (take 1 path)) → whole ≡ two ++ last ∷ []
    → whole ≡ text ++ ring_in n path
ring-put n first last path text one two whole some is_first is_last is_one is_two is_whole =
    rw (is_whole, is_two, is_one, is_first, is_last)
    (three text (led_by_byte (open_of n) (map (point_in n) path)) (led_by_byte 44 (map (point_in n) (take 1 path))) (close_of n ∷ []) ∙ ap (λ (xs : List ℕ). text ++ xs) (ring-whole n path some))

pub empty-put : (n : Notation) (first last : ℕ) (path : List Loc) (text one whole : List ℕ) → length path ≡ 0 → first ≡ open_of n → last ≡ close_of n
    → one ≡ text ++ first ∷ [] → whole ≡ one ++ last ∷ [] → whole ≡ text ++ ring_in n path
empty-put n first last [] text one whole none is_first is_last is_one is_whole =
    rw (is_whole, is_one, is_first, is_last) (append_assoc text (open_of n ∷ []) (close_of n ∷ []) ∙ ap (λ (xs : List ℕ). text ++ xs) (ring-none n))
empty-put n first last (p ∷ path) text one whole none is_first is_last is_one is_whole = absurd (omega arith)

pub polygon-put : (n : Notation) (first last : ℕ) (outer : List Loc) (inners : List (List Loc)) (text one two three whole : List ℕ) → first ≡ open_of n → last ≡ close_of n
    → one ≡ text ++ first ∷ [] → two ≡ one ++ ring_in n outer → three ≡ two ++ led_by_byte 44 (map (ring_in n) inners) → whole ≡ three ++ last ∷ []
    → whole ≡ text ++ polygon_in n (outer ∷ inners)
polygon-put n first last outer inners text one two three whole is_first is_last is_one is_two is_three is_whole =
    rw (is_whole, is_three, is_two, is_one, is_first, is_last)
    (four text (open_of n ∷ []) (ring_in n outer) (led_by_byte 44 (map (ring_in n) inners)) (close_of n ∷ []) ∙ ap (λ (xs : List ℕ). text ++ xs) (polygon-whole n outer inners))

pub none-put : (n : Notation) (first last : ℕ) (polygons : List (List (List Loc))) (text one whole : List ℕ) → length polygons ≡ 0 → first ≡ open_of n → last ≡ close_of n
    → one ≡ text ++ first ∷ [] → whole ≡ one ++ last ∷ [] → whole ≡ text ++ polygon_list_text n polygons
none-put n first last [] text one whole none is_first is_last is_one is_whole =
    rw (is_whole, is_one, is_first, is_last) (append_assoc text (open_of n ∷ []) (close_of n ∷ []) ∙ ap (λ (xs : List ℕ). text ++ xs) (polygons-none n))
none-put n first last (polygon ∷ polygons) text one whole none is_first is_last is_one is_whole = absurd (omega arith)

pub some-put : (n : Notation) (first last : ℕ) (polygons : List (List (List Loc))) (text one whole : List ℕ) → 0 < length polygons → first ≡ open_of n → last ≡ close_of n
    → one ≡ text ++ led_by_byte first (map (polygon_in n) polygons) → whole ≡ one ++ last ∷ [] → whole ≡ text ++ polygon_list_text n polygons
some-put n first last polygons text one whole some is_first is_last is_one is_whole =
    rw (is_whole, is_one, is_first, is_last) (append_assoc text (led_by_byte (open_of n) (map (polygon_in n) polygons)) (close_of n ∷ []) ∙ ap (λ (xs : List ℕ). text ++ xs) (polygons-whole n polygons some))

-- ---- a ring along edges, by the first location that they leave

pub along-put : (n : Notation) (first last : ℕ) (path : List Loc) (start : Loc) (text one two whole : List ℕ) → Some start ≡ slice_get path 0 → first ≡ open_of n → last ≡ close_of n
    → one ≡ text ++ led_by_byte first (map (point_in n) path) → two ≡ one ++ led_by_byte 44 (map (point_in n) (start ∷ [])) → whole ≡ two ++ last ∷ [] → whole ≡ text ++ ring_in n path
along-put n first last [] start text one two whole from is_first is_last is_one is_two is_whole = absurd (cc)
along-put n first last (p ∷ path) start text one two whole from is_first is_last is_one is_two is_whole =
    let same : start ≡ p = cc in
    ring-put n first last (p ∷ path) text one two whole (omega arith) is_first is_last is_one (is_two ∙ ap (λ (at : Loc). one ++ led_by_byte 44 (map (point_in n) (at ∷ []))) same) is_whole

pub nowhere-put : (n : Notation) (path : List Loc) (text whole : List ℕ) → None ≡ slice_get path 0 → whole ≡ text ++ ring_in n [] → whole ≡ text ++ ring_in n path
nowhere-put n [] text whole none is = is
nowhere-put n (p ∷ path) text whole none is = absurd (cc)
