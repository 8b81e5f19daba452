-- Texts of which no byte is a control character, as all of a feature but the LF at its end is.
use Rattle.std.proofs.Common.{◌≡◌, ◌∙◌, refl, ℕ, zero, suc, ◌+◌, ◌/◌, ◌%◌, ◌^◌, ◌<◌, ◌==◌, nat_lt, nat_le, Bool, true, false, not, ◌&&◌, ◌||◌, if◌then◌else◌, List, [], ◌∷◌, ◌++◌, map, take, flat_map, codes, decimal, chars, ℤ, pos, negsuc, Option, Some, None, arith, lt-ltb, leb-true}
use Rattle.std.proofs.lemmas.Bool.{and_from}
use Rattle.std.proofs.lemmas.List.Folds.{list_all-append}
use Rattle.std.specs.Fmt.{digit_glyph, digits, digits_onto, signed_decimal}
use Rattle.std.specs.List.{join_with_byte, list_all}
use Rattle.lists.proofs.ListsKit.{and-left, and-right}
use Rattle.osm_elements.specs.declared.object.Tag.{Tag}
use Rattle.osm_lattice.specs.declared.loc.Loc.{Loc}
use Rattle.osm_notation.specs.Coordinates.{point_text}
use Rattle.osm_notation.specs.Decimal.{fraction_text, last_digits, magnitude_text, units_text, without_end_zeros}
use Rattle.osm_notation.specs.Written.{is_plain, tag_text, written, written_char}
use Rattle.osm_text.specs.Feature.{id_before, tags_text}
use Rattle.osm_text.specs.Id.{id_text}
use Rattle.osm_text.specs.Wkt.{in_parentheses, multipolygon_wkt, polygon_wkt, ring_wkt}
use Rattle.osm_text.specs.declared.feature_id.FeatureId.{FeatureId}
use Rattle.osm_text.specs.declared.feature_id.FeatureId.TheVariants.{Counter, Area}

abbrev pub is_clear : List ℕ → Bool
is_clear text = list_all (λ byte. nat_lt 10 byte) text

clear_append : (xs ys : List ℕ) → is_clear xs ≡ true → is_clear ys ≡ true → is_clear (xs ++ ys) ≡ true
clear_append xs ys h k = list_all-append (λ byte. nat_lt 10 byte) xs ys ∙ and_from (is_clear xs) (is_clear ys) h k

clear_cons : (byte : ℕ) (text : List ℕ) → 10 < byte → is_clear text ≡ true → is_clear (byte ∷ text) ≡ true
clear_cons byte text lt h = and_from (nat_lt 10 byte) (is_clear text) (lt-ltb 10 byte lt) h

clear_choice : (b : Bool) (xs ys : List ℕ) → is_clear xs ≡ true → is_clear ys ≡ true → is_clear (if b then xs else ys) ≡ true
clear_choice true xs ys h k = h
clear_choice false xs ys h k = k

-- ---- numbers

glyph_by : (b upper : Bool) (d : ℕ) → 10 < (if b then 48 + d else (if upper then 55 + d else 87 + d))
glyph_by true upper d = omega arith
glyph_by false true d = omega arith
glyph_by false false d = omega arith

glyph_above : (upper : Bool) (d : ℕ) → 10 < digit_glyph upper d
glyph_above upper d = glyph_by (nat_lt d 10) upper d

digit_above : (d : ℕ) → 10 < 48 + d
digit_above d = omega arith

clear_onto : (k base : ℕ) (upper : Bool) (n : ℕ) (text : List ℕ) → is_clear text ≡ true → is_clear (digits_onto k base upper n text) ≡ true
clear_onto zero base upper n text h = h
clear_onto (suc k) base upper n text h =
    let more = clear_cons (digit_glyph upper (n % base)) text (glyph_above upper (n % base)) h in
    clear_choice (n / base == 0) (digit_glyph upper (n % base) ∷ text) (digits_onto k base upper (n / base) (digit_glyph upper (n % base) ∷ text)) more
    (clear_onto k base upper (n / base) (digit_glyph upper (n % base) ∷ text) more)

clear_digits : (base : ℕ) (upper : Bool) (n : ℕ) → is_clear (digits base upper n) ≡ true
unfolding digits
clear_digits base upper n = clear_onto 64 base upper n [] refl

clear_last : (k n : ℕ) → is_clear (last_digits k n) ≡ true
unfolding last_digits
clear_last zero n = refl
clear_last (suc k) n = clear_cons (48 + n / 10 ^ k) (last_digits k (n % 10 ^ k)) (digit_above (n / 10 ^ k)) (clear_last k (n % 10 ^ k))

clear_without : (ds : List ℕ) → is_clear ds ≡ true → is_clear (without_end_zeros ds) ≡ true
unfolding without_end_zeros
clear_without [] h = refl
clear_without (d ∷ ds) h =
    clear_choice (list_all (λ digit. digit == 48) (d ∷ ds)) [] (d ∷ without_end_zeros ds) refl
    (and_from (nat_lt 10 d) (is_clear (without_end_zeros ds)) (and-left (nat_lt 10 d) (is_clear ds) h) (clear_without ds (and-right (nat_lt 10 d)
    (is_clear ds) h)))

clear_fraction : (rest : ℕ) → is_clear (fraction_text rest) ≡ true
unfolding fraction_text
clear_fraction rest = clear_choice (rest == 0) [] (codes "." ++ without_end_zeros (last_digits 7 rest)) refl (clear_append (codes ".") (without_end_zeros
    (last_digits 7 rest)) refl (clear_without (last_digits 7 rest) (clear_last 7 rest)))

clear_magnitude : (n : ℕ) → is_clear (magnitude_text n) ≡ true
unfolding magnitude_text
clear_magnitude n = clear_append (decimal (n / 10 ^ 7)) (fraction_text (n % 10 ^ 7)) (clear_digits 10 false (n / 10 ^ 7)) (clear_fraction (n % 10 ^ 7))

clear_units : (z : ℤ) → is_clear (units_text z) ≡ true
clear_units (pos n) = clear_magnitude n
clear_units (negsuc n) = clear_append (codes "-") (magnitude_text (suc n)) refl (clear_magnitude (suc n))

clear_signed : (z : ℤ) → is_clear (signed_decimal z) ≡ true
clear_signed (pos n) = clear_digits 10 false n
clear_signed (negsuc n) = clear_cons 45 (decimal (suc n)) (omega arith) (clear_digits 10 false (suc n))

-- ---- strings

first_of : (p q r : Bool) → (p && q && r) ≡ true → p ≡ true
first_of true q r h = refl
first_of false q r h = h

clear_char : (b : Bool) (c : ℕ) → is_plain c ≡ b → is_clear (if b then c ∷ [] else 37 ∷ digits 16 false c ++ 37 ∷ []) ≡ true
clear_char true c plain = let least = leb-true 33 c (first_of (nat_le 33 c) (nat_le c 126) (not
    (c == 37 || c == 44 || c == 61 || c == 64)) plain) in clear_cons c [] (omega arith) refl
clear_char false c other = clear_append (37 ∷ digits 16 false c) (37 ∷ []) (clear_cons 37 (digits 16 false c) (omega arith) (clear_digits 16 false c)) refl

clear_chars : (cs : List ℕ) → is_clear (flat_map written_char cs) ≡ true
clear_chars [] = refl
clear_chars (c ∷ cs) = clear_append (written_char c) (flat_map written_char cs) (clear_char (is_plain c) c refl) (clear_chars cs)

clear_written : (text : List ℕ) → is_clear (written text) ≡ true
unfolding written
clear_written text = clear_chars (chars text)

-- ---- lists

clear_joined : {X : Type 0} (print : X → List ℕ) → ((x : X) → is_clear (print x) ≡ true) → (xs : List X) → is_clear (join_with_byte 44 (map print xs)) ≡ true
clear_joined print clear [] = refl
clear_joined print clear (x ∷ []) = clear x
clear_joined print clear (x ∷ (y ∷ xs)) =
    clear_append (print x) (44 ∷ join_with_byte 44 (map print (y ∷ xs))) (clear x) (clear_cons 44 (join_with_byte 44 (map print (y ∷ xs))) (omega arith)
    (clear_joined print clear (y ∷ xs)))

clear_list : {X : Type 0} (print : X → List ℕ) → ((x : X) → is_clear (print x) ≡ true) → (xs : List X) → is_clear (in_parentheses (map print xs)) ≡ true
clear_list print clear xs =
    clear_append (codes "(" ++ join_with_byte 44 (map print xs)) (codes ")") (clear_append (codes "(") (join_with_byte 44 (map print xs)) refl
    (clear_joined print clear xs)) refl

clear_point : (p : Loc) → is_clear (point_text p) ≡ true
clear_point p = clear_append (units_text p.x ++ codes " ") (units_text p.y) (clear_append (units_text p.x) (codes " ") (clear_units p.x) refl) (clear_units p.y)

clear_ring : (ring : List Loc) → is_clear (ring_wkt ring) ≡ true
clear_ring ring = clear_list point_text clear_point (ring ++ take 1 ring)

clear_polygon : (rings : List (List Loc)) → is_clear (polygon_wkt rings) ≡ true
clear_polygon rings = clear_list ring_wkt clear_ring rings

clear_multipolygon : (polygons : List (List (List Loc))) → is_clear (multipolygon_wkt polygons) ≡ true
clear_multipolygon polygons = clear_append (codes "MULTIPOLYGON") (in_parentheses (map polygon_wkt polygons)) refl
    (clear_list polygon_wkt clear_polygon polygons)

-- ---- features

clear_number : (id : FeatureId) → is_clear (id_text id) ≡ true
clear_number (Counter number) = clear_digits 10 false number
clear_number (Area id) = clear_append (codes "a") (signed_decimal id) refl (clear_signed id)

clear_id : (id : Option FeatureId) → is_clear (id_before id) ≡ true
clear_id None = refl
clear_id (Some id) = clear_append (id_text id) (codes " ") (clear_number id) refl

clear_tag : (tag : Tag) → is_clear (tag_text tag) ≡ true
clear_tag tag = clear_append (written tag.key ++ codes "=") (written tag.value) (clear_append (written tag.key) (codes "=") (clear_written tag.key) refl)
    (clear_written tag.value)

clear_tags : (tags : List Tag) → is_clear (tags_text tags) ≡ true
clear_tags [] = refl
clear_tags (tag ∷ tags) = clear_append (codes " ") (join_with_byte 44 (map tag_text (tag ∷ tags))) refl (clear_joined tag_text clear_tag (tag ∷ tags))

-- all of a feature but its LF
pub clear_feature : (id : Option FeatureId) (polygons : List (List (List Loc))) (tags : List Tag) →
    is_clear (id_before id ++ multipolygon_wkt polygons ++ tags_text tags) ≡ true
clear_feature id polygons tags =
    clear_append (id_before id ++ multipolygon_wkt polygons) (tags_text tags) (clear_append (id_before id) (multipolygon_wkt polygons) (clear_id id)
    (clear_multipolygon polygons)) (clear_tags tags)
