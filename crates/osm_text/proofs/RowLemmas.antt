-- Texts in a row and texts joined by commas.
use Rattle.std.proofs.Common.{◌≡◌, ◌∙◌, ℕ, List, [], ◌∷◌, ◌++◌, map, refl, sym, ap, append_assoc, append-nil}
use Rattle.std.proofs.lemmas.List.{map-append}
use Rattle.std.specs.List.{join_with_byte}
use Rattle.osm_elements.specs.declared.object.Tag.{Tag}
use Rattle.osm_text.specs.Feature.{tags_text}
use Rattle.osm_notation.specs.Written.{tag_text}
use Rattle.osm_text.specs.Rows.{led_by_byte}

-- texts in a row are the byte and the texts joined
pub led-join : (byte : ℕ) (text : List ℕ) (texts : List (List ℕ)) → led_by_byte byte (text ∷ texts) ≡ byte ∷ join_with_byte 44 (text ∷ texts)
led-join byte text [] = ap (λ (xs : List ℕ). byte ∷ xs) (append-nil text)
led-join byte text (next ∷ texts) = ap (λ (xs : List ℕ). byte ∷ text ++ xs) (led-join 44 next texts)

-- more texts behind some
pub led-append : (byte : ℕ) (text : List ℕ) (texts more : List (List ℕ)) → led_by_byte byte ((text ∷ texts) ++ more) ≡ led_by_byte byte (text ∷ texts) ++ led_by_byte 44 more
led-append byte text [] more = ap (λ (xs : List ℕ). byte ∷ xs ++ led_by_byte 44 more) (sym (append-nil text))
led-append byte text (next ∷ texts) more =
    ap (λ (xs : List ℕ). byte ∷ text ++ xs) (led-append 44 next texts more) ∙ ap (λ (xs : List ℕ). byte ∷ xs) (sym (append_assoc text (led_by_byte 44 (next ∷ texts)) (led_by_byte 44 more)))

pub led_tags : (tags : List Tag) → led_by_byte 32 (map tag_text tags) ≡ tags_text tags
led_tags [] = refl
led_tags (tag ∷ tags) = led-join 32 (tag_text tag) (map tag_text tags)

-- a list that has items, from its first byte to its last
pub led-list : (first last : ℕ) (text : List ℕ) (texts : List (List ℕ)) → led_by_byte first (text ∷ texts) ++ last ∷ [] ≡ first ∷ join_with_byte 44 (text ∷ texts) ++ last ∷ []
led-list first last text texts = ap (λ (xs : List ℕ). xs ++ last ∷ []) (led-join first text texts)

-- a ring is its points, and the first once more
pub led-closed : {X : Type 0} (first last : ℕ) (print : X → List ℕ) (p : X) (points : List X) →
    led_by_byte first (map print (p ∷ points)) ++ led_by_byte 44 (map print (p ∷ [])) ++ last ∷ [] ≡ first ∷ join_with_byte 44 (map print (p ∷ points ++ p ∷ [])) ++ last ∷ []
led-closed first last print p points =
    ap (λ (xs : List ℕ). xs ++ last ∷ []) (sym (led-append first (print p) (map print points) (map print (p ∷ []))) ∙ ap (led_by_byte first) (sym (map-append print (p ∷ points) (p ∷ []))) ∙ led-join first (print p) (map print (points ++ p ∷ [])))
