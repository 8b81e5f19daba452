-- Strings, with escapes between two percent signs.
use Rattle.std.specs.Prelude.{◌≡◌, ◌≢◌, ℕ, ◌<◌, ◌≤◌, ◌⊎◌, List, [], ◌∷◌, ◌++◌, length, All, encode_utf8}
use Rattle.std.specs.Char.{digit_value}
use Rattle.std.specs.Str.Parse.{digits_value}

-- one to six hexadecimal digits in either case, worth a Unicode scalar value
pub record IsCode (digits : List ℕ) (c : ℕ) : Type 0 where
  pub hex : All (λ b. digit_value b < 16) digits
  pub some : 0 < length digits
  pub few : length digits ≤ 6
  pub scalar : (c < 0xD800) ⊎ ((0xE000 ≤ c) × (c ≤ 0x10_FFFF))
  pub worth : c ≡ digits_value 16 digits

-- Bytes spell a text: an escape spells its character, and every other byte spells itself.
pub data IsString : List ℕ → List ℕ → Type 0 where
  ends : IsString [] []
  stands : (b : ℕ) (bytes text : List ℕ) → b ≢ 37 → IsString bytes text → IsString (b ∷ bytes) (b ∷ text)
  escape : (digits : List ℕ) (c : ℕ) (bytes text : List ℕ) → IsCode digits c → IsString bytes text → IsString (37 ∷ (digits ++ 37 ∷ bytes)) (encode_utf8 c ++ text)
