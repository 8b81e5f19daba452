-- Plain characters and the others.
use Rattle.std.proofs.Common.{◌≡◌, ◌∙◌, ℕ, zero, suc, ◌+◌, ◌-◌, ◌*◌, ◌^◌, ◌/◌, ◌%◌, ◌<◌, ◌≤◌, ◌&&◌, ◌||◌, ◌==◌, not, Bool, true, false, if◌then◌else◌, List, [], ◌∷◌, ◌++◌, length, take, drop, set, get_or, flat_map, refl, sym, ap, subst, append_assoc, append-nil, inl, inr, arith}
use Rattle.std.specs.Prelude.{nat_le, encode_utf8}
use Rattle.std.specs.Fmt.{digit_glyph, digits, digits_onto}
use Rattle.std.specs.List.{list_all}
use Rattle.std.specs.Str.{chars, IsUtf8, IsAscii, IsCharBoundary}
use Rattle.std.proofs.lemmas.Bool.{and_parts, leb-true, lt-leb, ne_eqb, eqb-true, cases_lt}
use Rattle.std.proofs.lemmas.Grind.{flat_map-append}
use Rattle.std.proofs.lemmas.List.{drop-set, drop_all, length-set, length-append}
use Rattle.std.proofs.lemmas.List.Folds.{list_all_more}
use Rattle.std.proofs.lemmas.Nat.{div_below}
use Rattle.std.proofs.Math.Nat.{pow-suc}
use Rattle.std.proofs.lemmas.Str.{chars-append, chars-IsAscii, chars_past_char, IsUtf8-from_ascii, encode_ascii, length-encode, len_utf8_bounds, IsCharBoundary-start, IsCharBoundary-after_ascii}
use Rattle.std.proofs.lemmas.Str.Ascii.{IsAscii-nil, IsAscii-cons}
use Rattle.osm_notation.specs.Written.{is_plain, written, written_char}

-- a plain character is ASCII
small : (c : ℕ) → is_plain c ≡ true → c ≤ 126
small c h =
    let range = and_parts (nat_le 33 c && nat_le c 126) (not (c == 37 || c == 44 || c == 61 || c == 64)) h in
    leb-true c 126 (and_parts (nat_le 33 c) (nat_le c 126) range.0).1

ascii : (bytes : List ℕ) → list_all is_plain bytes ≡ true → IsAscii bytes
ascii [] h = IsAscii-nil
ascii (b ∷ bytes) h =
    let parts = and_parts (is_plain b) (list_all is_plain bytes) h in
    let low = small b parts.0 in
    IsAscii-cons b bytes (omega arith) (ascii bytes parts.1)

plain-spelled : (bytes : List ℕ) → list_all is_plain bytes ≡ true → flat_map written_char bytes ≡ bytes
plain-spelled [] h = refl
plain-spelled (b ∷ bytes) h =
    let parts = and_parts (is_plain b) (list_all is_plain bytes) h in
    rw parts.0 (ap (λ (xs : List ℕ). b ∷ xs) (plain-spelled bytes parts.1))

-- plain characters stand for themselves before any text
pub plain-written : (plain rest : List ℕ) → list_all is_plain plain ≡ true → written (plain ++ rest) ≡ plain ++ written rest
unfolding written
plain-written plain rest h =
    let low = ascii plain h in
    ap (flat_map written_char) (chars-append plain rest (IsUtf8-from_ascii plain low) ∙ ap (λ (xs : List ℕ). xs ++ chars rest) (chars-IsAscii plain low))
    ∙ flat_map-append written_char plain (chars rest)
    ∙ ap (λ (xs : List ℕ). xs ++ flat_map written_char (chars rest)) (plain-spelled plain h)

-- a text may be cut behind plain characters
pub plain-boundary : (bytes : List ℕ) (n : ℕ) → IsUtf8 bytes → n ≤ length bytes → list_all is_plain (take n bytes) ≡ true → IsCharBoundary bytes n
plain-boundary bytes zero utf8 le h = IsCharBoundary-start bytes utf8
plain-boundary bytes (suc n) utf8 le h =
    let next : n + 1 ≡ suc n = omega arith in
    let all : (list_all is_plain (take n bytes) && is_plain (get_or bytes n 0)) ≡ true = sym (list_all_more is_plain bytes n 0 (omega arith)) ∙ ap (λ (m : ℕ). list_all is_plain (take m bytes)) next ∙ h in
    let low = small (get_or bytes n 0) (and_parts (list_all is_plain (take n bytes)) (is_plain (get_or bytes n 0)) all).1 in
    subst (IsCharBoundary bytes) next (IsCharBoundary-after_ascii bytes n utf8 (omega arith) (omega arith))

-- the character that a text begins with isn't plain where its first byte isn't
first-apart : (c : ℕ) (text rest : List ℕ) → text ≡ encode_utf8 c ++ rest → is_plain (get_or text 0 0) ≡ false → is_plain c ≡ false
first-apart c text rest is h = elim (cases_lt c 128) [
  | inl lt ↦
      let one : text ≡ c ∷ rest = is ∙ ap (λ (xs : List ℕ). xs ++ rest) (encode_ascii c lt) in
      sym (ap (λ (xs : List ℕ). is_plain (get_or xs 0 0)) one) ∙ h
  | inr le ↦ rw (lt-leb c 126 (omega arith)) (no-and (nat_le 33 c) (not (c == 37 || c == 44 || c == 61 || c == 64)))
]
  where
    no-and : (a b : Bool) → ((a && false) && b) ≡ false
    no-and true b = refl
    no-and false b = refl

-- a character that isn't plain, before any text
pub escape-written : (text rest : List ℕ) (c : ℕ) → IsUtf8 text → text ≡ encode_utf8 c ++ rest → is_plain (get_or text 0 0) ≡ false → written text ≡ 37 ∷ digits 16 false c ++ 37 ∷ written rest
unfolding written
escape-written text rest c utf8 is h =
    ap (flat_map written_char) (chars_past_char text rest c utf8 is)
    ∙ rw (first-apart c text rest is h) (ap (λ (xs : List ℕ). 37 ∷ xs) (append_assoc (digits 16 false c) (37 ∷ []) (flat_map written_char (chars rest))))

-- ---- hexadecimal digits

-- the digits of what is left, before those that stand
abbrev pub before : ℕ → ℕ → List ℕ → List ℕ
before k left stand = if left == 0 then stand else digits_onto k 16 false left stand

not-none : (n : ℕ) → 0 < n → (n == 0) ≡ false
not-none n some = ne_eqb n 0 (omega arith)

-- the digits from `at` on stand, and those of `left` are to come before them
pub record HexTo (number left at : ℕ) (array : List ℕ) : Type 0 where
  pub len : length array ≡ 8
  pub most : at ≤ 7
  pub below : left < 16 ^ at
  pub so_far : before (56 + at) left (drop at array) ≡ digits 16 false number

pub hex-begins : (number : ℕ) (array : List ℕ) → number < 2 ^ 32 → length array ≡ 8 → HexTo number (number / 16) 7 (set array 7 (digit_glyph false (number % 16)))
unfolding digits
hex-begins number array range len =
    let end : drop 8 array ≡ [] = drop_all 8 array (omega arith) in
    let stand : drop 7 (set array 7 (digit_glyph false (number % 16))) ≡ digit_glyph false (number % 16) ∷ [] = drop-set array 7 (digit_glyph false (number % 16)) (omega arith) ∙ ap (λ (xs : List ℕ). digit_glyph false (number % 16) ∷ xs) end in
    record {
      len = length-set array 7 (digit_glyph false (number % 16)) ∙ len;
      most = omega arith;
      below = div_below number 16 (16 ^ 7) (omega arith) (omega arith);
      so_far = ap (before 63 (number / 16)) stand;
    }

-- one digit more
hex-step : (number left p : ℕ) (array : List ℕ) → 0 < left → HexTo number left (p + 1) array → HexTo number (left / 16) p (set array p (digit_glyph false (left % 16)))
hex-step number left p array some so =
    let most = so.most in
    let len = so.len in
    let power : 16 ^ (p + 1) ≡ 16 ^ p * 16 = let next : p + 1 ≡ suc p = omega arith in ap (λ (k : ℕ). 16 ^ k) next ∙ pow-suc 16 p in
    let stand = drop-set array p (digit_glyph false (left % 16)) (omega arith) in
    let more : 56 + (p + 1) ≡ suc (56 + p) = omega arith in
    record {
      len = length-set array p (digit_glyph false (left % 16)) ∙ len;
      most = omega arith;
      below = div_below left 16 (16 ^ p) (omega arith) (rw power at so.below);
      so_far =
          ap (before (56 + p) (left / 16)) stand
          ∙ sym (ap (λ (b : Bool). if b then drop (p + 1) array else digits_onto (suc (56 + p)) 16 false left (drop (p + 1) array)) (not-none left some))
          ∙ sym (ap (λ (k : ℕ). before k left (drop (p + 1) array)) more)
          ∙ so.so_far;
    }

hex-room : (number left at : ℕ) (array : List ℕ) → 0 < left → HexTo number left at array → 0 < at
hex-room number left zero array some so = let below = so.below in absurd (omega arith)
hex-room number left (suc p) array some so = omega arith

pub hex-more : (number left at : ℕ) (array : List ℕ) → 0 < left → HexTo number left at array → HexTo number (left / 16) (at - 1) (set array (at - 1) (digit_glyph false (left % 16)))
hex-more number left at array some so =
    let room = hex-room number left at array some so in
    let is : at ≡ at - 1 + 1 = omega arith in
    hex-step number left (at - 1) array some (subst (λ (k : ℕ). HexTo number left k array) is so)

-- ---- one step of a string

encode-some : (c : ℕ) → 0 < length (encode_utf8 c)
encode-some c = omega (arith, length-encode c, (len_utf8_bounds c).0)

around : (old new code rest text : List ℕ) → new ≡ old ++ 37 ∷ code ++ 37 ∷ [] → text ≡ 37 ∷ code ++ 37 ∷ rest → new ++ rest ≡ old ++ text
around old new code rest text put is = rw (put, is) (simp append_assoc)

pub escape-put : (old new text rest : List ℕ) (c : ℕ) → IsUtf8 text → text ≡ encode_utf8 c ++ rest → (0 < length text → is_plain (get_or text 0 0) ≡ false)
    → new ≡ old ++ 37 ∷ digits 16 false c ++ 37 ∷ [] → new ++ written rest ≡ old ++ written text
escape-put old new text rest c utf8 is apart put =
    let some : 0 < length text = omega (arith, ap length is, length-append (encode_utf8 c) rest, encode-some c) in
    let escaped = escape-written text rest c utf8 is (apart some) in
    around old new (digits 16 false c) (written rest) (written text) put escaped

pub plain-put : (old new text plain more : List ℕ) → text ≡ plain ++ more → list_all is_plain plain ≡ true → new ≡ old ++ plain → new ++ written more ≡ old ++ written text
plain-put old new text plain more is all put =
    ap (λ (xs : List ℕ). xs ++ written more) put
    ∙ append_assoc old plain (written more)
    ∙ ap (λ (xs : List ℕ). old ++ xs) (sym (ap written is ∙ plain-written plain more all))

pub nothing-left : (bytes rest whole : List ℕ) → (length rest == 0) ≡ true → bytes ++ written rest ≡ whole → bytes ≡ whole
unfolding written chars
nothing-left bytes [] whole none so_far = sym (append-nil bytes) ∙ so_far
nothing-left bytes (b ∷ rest) whole none so_far = absurd (omega (arith, eqb-true (length (b ∷ rest)) 0 none))
