-- A written string: its bytes, and that it spells its text.
use Rattle.std.proofs.Common.{◌≡◌, ◌≢◌, ◌∙◌, ◌+◌, ◌≤◌, ◌<◌, ◌^◌, ◌*◌, ◌/◌, ◌%◌, ◌==◌, ◌||◌, ◌&&◌, not, ℕ, zero, suc, Bool, true, false, if◌then◌else◌, List, [], ◌∷◌, ◌++◌, length, flat_map, refl, sym, subst, append_assoc, inl, inr, arith, All, ⊎_elim}
use Rattle.std.specs.Prelude.{encode_utf8, nat_lt, nat_le}
use Rattle.std.specs.Char.{digit_value, IsScalar}
use Rattle.std.specs.Str.{IsUtf8, chars, encode_utf8_all, all_scalars}
use Rattle.std.specs.Str.Parse.{AllDigits}
use Rattle.std.specs.Fmt.{digit_glyph, digits, digits_onto}
use Rattle.std.proofs.lemmas.Bool.{and_parts, leb-true, ltb-true, ltb-false, not-true, or_parts, eq-eqb, true≢false}
use Rattle.std.proofs.lemmas.Fmt.{digits_is_IsNumeral}
use Rattle.std.proofs.lemmas.List.Elements.{All-nil, All-cons, All-append}
use Rattle.std.proofs.lemmas.Nat.{div_below}
use Rattle.std.proofs.lemmas.Str.{encode_ascii, chars_from_encodes}
use Rattle.std.proofs.Math.Nat.{pow-suc}
use lib.Utf8.{scalar_cases}
use Rattle.osm_notation.specs.Written.{is_plain, written, written_char}
use Rattle.opl_reader.specs.Strings.{IsString, ends, stands, escape, IsCode}
use Rattle.opl_writer.proofs.Bytes.{IsOfText}

-- ---- hexadecimal digits

glyph-of_text : (d : ℕ) → d < 16 → IsOfText (digit_glyph false d)
glyph-of_text d small = by (nat_lt d 10) refl
  where
    by : (b : Bool) → nat_lt d 10 ≡ b → IsOfText (if b then 48 + d else 87 + d)
    by true e = let l = ltb-true d 10 e in record { low = omega arith; high = omega arith; comma = λ e. absurd (omega arith); equals = λ e. absurd (omega arith); at = λ e. absurd (omega arith) }
    by false e = let l = ltb-false d 10 e in record { low = omega arith; high = omega arith; comma = λ e. absurd (omega arith); equals = λ e. absurd (omega arith); at = λ e. absurd (omega arith) }

glyphs-of_text : (k n : ℕ) (stand : List ℕ) → All IsOfText stand → All IsOfText (digits_onto k 16 false n stand)
glyphs-of_text zero n stand h = h
glyphs-of_text (suc k) n stand h =
    let more : All IsOfText (digit_glyph false (n % 16) ∷ stand) = All-cons IsOfText (digit_glyph false (n % 16)) stand (glyph-of_text (n % 16) (omega arith)) h in
    by (n / 16 == 0) more (glyphs-of_text k (n / 16) (digit_glyph false (n % 16) ∷ stand) more)
  where
    by : (b : Bool) → All IsOfText (digit_glyph false (n % 16) ∷ stand) → All IsOfText (digits_onto k 16 false (n / 16) (digit_glyph false (n % 16) ∷ stand))
        → All IsOfText (if b then digit_glyph false (n % 16) ∷ stand else digits_onto k 16 false (n / 16) (digit_glyph false (n % 16) ∷ stand))
    by true last more = last
    by false last more = more

-- a number below 16 ^ j has at most j digits
glyphs-few : (k j n : ℕ) (stand : List ℕ) → n < 16 ^ suc j → length (digits_onto k 16 false n stand) ≤ suc j + length stand
glyphs-few zero j n stand below = omega arith
glyphs-few (suc k) j n stand below = by j below (n / 16 == 0) refl (λ i. glyphs-few k i (n / 16) (digit_glyph false (n % 16) ∷ stand))
  where
    by : (j : ℕ) → n < 16 ^ suc j → (b : Bool) → (n / 16 == 0) ≡ b → ((i : ℕ) → n / 16 < 16 ^ suc i → length (digits_onto k 16 false (n / 16) (digit_glyph false (n % 16) ∷ stand)) ≤ suc i + suc (length stand))
        → length (if b then digit_glyph false (n % 16) ∷ stand else digits_onto k 16 false (n / 16) (digit_glyph false (n % 16) ∷ stand)) ≤ suc j + length stand
    by j below true e fewer = omega arith
    by zero below false e fewer = absurd (true≢false (sym (eq-eqb (n / 16) 0 (omega arith)) ∙ e))
    by (suc i) below false e fewer =
        let less : n < 16 ^ suc i * 16 = subst (λ (m : ℕ). n < m) (pow-suc 16 (suc i)) below in
        omega (arith, fewer i (div_below n 16 (16 ^ suc i) (omega arith) (omega arith)))

hex-of_text : (c : ℕ) → All IsOfText (digits 16 false c)
unfolding digits
hex-of_text c = glyphs-of_text 64 c [] (All-nil IsOfText)

hex-few : (c : ℕ) → c < 16 ^ 6 → length (digits 16 false c) ≤ 6
unfolding digits
hex-few c below = glyphs-few 64 5 c [] below

each_digit : (ds : List ℕ) → AllDigits 16 ds → All (λ b. digit_value b < 16) ds
each_digit [] h = All-nil (λ b. digit_value b < 16)
each_digit (d ∷ ds) h = All-cons (λ b. digit_value b < 16) d ds h.0 (each_digit ds h.1)

code-is : (c : ℕ) → IsScalar c → IsCode (digits 16 false c) c
code-is c s =
    let range = scalar_cases c s in
    let most : c ≤ 0x10_FFFF = ⊎_elim (λ l. omega arith) (λ h. omega (arith, h.1)) range in
    let n = digits_is_IsNumeral 16 false (omega arith) (omega arith) c (omega arith) in
    record {
      hex = each_digit (digits 16 false c) n.0.1;
      some = n.0.0;
      few = hex-few c (omega arith);
      scalar = ⊎_elim (λ l. inl l) (λ h. inr (h.0, most)) range;
      worth = sym n.1;
    }

-- ---- one character

char-of_text : (c : ℕ) → All IsOfText (written_char c)
char-of_text c = by (is_plain c) refl
  where
    plain : is_plain c ≡ true → IsOfText c
    plain e =
        let range = and_parts (nat_le 33 c && nat_le c 126) (not (c == 37 || c == 44 || c == 61 || c == 64)) e in
        let ends = and_parts (nat_le 33 c) (nat_le c 126) range.0 in
        let none = or_parts (c == 37 || c == 44 || c == 61) (c == 64) (not-true (c == 37 || c == 44 || c == 61 || c == 64) range.1) in
        let fewer = or_parts (c == 37 || c == 44) (c == 61) none.0 in
        let least = or_parts (c == 37) (c == 44) fewer.0 in
        record {
          low = leb-true 33 c ends.0;
          high = leb-true c 126 ends.1;
          comma = λ is. true≢false (sym (eq-eqb c 44 is) ∙ least.1);
          equals = λ is. true≢false (sym (eq-eqb c 61 is) ∙ fewer.1);
          at = λ is. true≢false (sym (eq-eqb c 64 is) ∙ none.1);
        }

    percent : IsOfText 37
    percent = record { low = omega arith; high = omega arith; comma = λ e. absurd (omega arith); equals = λ e. absurd (omega arith); at = λ e. absurd (omega arith) }

    by : (b : Bool) → is_plain c ≡ b → All IsOfText (if b then c ∷ [] else 37 ∷ digits 16 false c ++ 37 ∷ [])
    by true e = All-cons IsOfText c [] (plain e) (All-nil IsOfText)
    by false e =
        let last : All IsOfText (37 ∷ []) = All-cons IsOfText 37 [] percent (All-nil IsOfText) in
        All-cons IsOfText 37 (digits 16 false c ++ 37 ∷ []) percent (All-append IsOfText (digits 16 false c) (37 ∷ []) (hex-of_text c) last)

char-is : (c : ℕ) (bytes text : List ℕ) → IsScalar c → IsString bytes text → IsString (written_char c ++ bytes) (encode_utf8 c ++ text)
char-is c bytes text s rest = by (is_plain c) refl
  where
    by : (b : Bool) → is_plain c ≡ b → IsString ((if b then c ∷ [] else 37 ∷ digits 16 false c ++ 37 ∷ []) ++ bytes) (encode_utf8 c ++ text)
    by true e =
        let range = and_parts (nat_le 33 c && nat_le c 126) (not (c == 37 || c == 44 || c == 61 || c == 64)) e in
        let high = leb-true c 126 (and_parts (nat_le 33 c) (nat_le c 126) range.0).1 in
        let none = or_parts (c == 37 || c == 44 || c == 61) (c == 64) (not-true (c == 37 || c == 44 || c == 61 || c == 64) range.1) in
        let least = or_parts (c == 37) (c == 44) (or_parts (c == 37 || c == 44) (c == 61) none.0).0 in
        let apart : c ≢ 37 = λ is. true≢false (sym (eq-eqb c 37 is) ∙ least.0) in
        subst (λ (xs : List ℕ). IsString (c ∷ bytes) (xs ++ text)) (sym (encode_ascii c (omega arith))) (stands c bytes text apart rest)
    by false e =
        subst (λ (xs : List ℕ). IsString (37 ∷ xs) (encode_utf8 c ++ text)) (sym (append_assoc (digits 16 false c) (37 ∷ []) bytes))
        (escape (digits 16 false c) c bytes text (code-is c s) rest)

-- ---- strings

chars-of_text : (cs : List ℕ) → All IsOfText (flat_map written_char cs)
chars-of_text [] = All-nil IsOfText
chars-of_text (c ∷ cs) = All-append IsOfText (written_char c) (flat_map written_char cs) (char-of_text c) (chars-of_text cs)

pub written-of_text : (text : List ℕ) → All IsOfText (written text)
unfolding written
written-of_text text = chars-of_text (chars text)

chars-are : (cs : List ℕ) → all_scalars cs ≡ true → IsString (flat_map written_char cs) (encode_utf8_all cs)
chars-are [] h = ends
chars-are (c ∷ cs) h = let parts = and_parts _ (all_scalars cs) h in char-is c (flat_map written_char cs) (encode_utf8_all cs) parts.0 (chars-are cs parts.1)

-- what is written of a text of characters spells this text
pub written_is_string : (text : List ℕ) → IsUtf8 text → IsString (written text) text
unfolding written
written_is_string text u =
    let cs = u.0 in
    let same : cs ≡ chars text = chars_from_encodes cs text u u.1.1 in
    subst (λ (xs : List ℕ). IsString (flat_map written_char xs) text) same (subst (IsString (flat_map written_char cs)) u.1.1 (chars-are cs u.1.0))
