-- The bytes that stand in a written line, and what they keep out.
use Rattle.std.proofs.Common.{◌≢◌, ◌≤◌, ◌<◌, ℕ, List, inl, inr, arith, All}
use Rattle.std.proofs.lemmas.List.Elements.{All-weaker}
use Rattle.opl_reader.specs.Parts.{Lacks, LacksSeparators, IsSeparator}

-- a visible character
abbrev pub IsVisible : ℕ → Type 0
IsVisible b = (33 ≤ b) × (b ≤ 126)

-- a visible character or a space
abbrev pub IsPrinted : ℕ → Type 0
IsPrinted b = (32 ≤ b) × (b ≤ 126)

-- a visible character, which is none of , = @
pub record IsOfText (b : ℕ) : Type 0 where
  pub low : 33 ≤ b
  pub high : b ≤ 126
  pub comma : b ≢ 44
  pub equals : b ≢ 61
  pub at : b ≢ 64

-- one of the digits, the point and the minus
abbrev pub IsOfNumber : ℕ → Type 0
IsOfNumber b = (45 ≤ b) × (b ≤ 57)

-- a visible character other than the comma
pub record IsOfItem (b : ℕ) : Type 0 where
  pub low : 33 ≤ b
  pub high : b ≤ 126
  pub comma : b ≢ 44

pub number_is_of_item : (bytes : List ℕ) → All IsOfNumber bytes → All IsOfItem bytes
number_is_of_item = All-weaker IsOfNumber IsOfItem (λ b h. record { low = omega (arith, h.0); high = omega (arith, h.1); comma = λ e. absurd (omega (arith, h.0, e)) })

pub text_is_of_item : (bytes : List ℕ) → All IsOfText bytes → All IsOfItem bytes
text_is_of_item = All-weaker IsOfText IsOfItem (λ b h. record { low = h.low; high = h.high; comma = h.comma })

pub item_is_visible : (bytes : List ℕ) → All IsOfItem bytes → All IsVisible bytes
item_is_visible = All-weaker IsOfItem IsVisible (λ b h. (h.low, h.high))

pub item_lacks_comma : (bytes : List ℕ) → All IsOfItem bytes → Lacks 44 bytes
item_lacks_comma = All-weaker IsOfItem (λ (x : ℕ). x ≢ 44) (λ b h. h.comma)

pub number_is_visible : (bytes : List ℕ) → All IsOfNumber bytes → All IsVisible bytes
number_is_visible = All-weaker IsOfNumber IsVisible (λ b h. (omega (arith, h.0), omega (arith, h.1)))

pub visible_is_printed : (bytes : List ℕ) → All IsVisible bytes → All IsPrinted bytes
visible_is_printed = All-weaker IsVisible IsPrinted (λ b h. (omega (arith, h.0), h.1))

pub number_lacks : (c : ℕ) → 57 < c → (bytes : List ℕ) → All IsOfNumber bytes → Lacks c bytes
number_lacks c above = All-weaker IsOfNumber (λ (x : ℕ). x ≢ c) (λ b h e. absurd (omega (arith, above, h.1, e)))

pub text_lacks_equals : (bytes : List ℕ) → All IsOfText bytes → Lacks 61 bytes
text_lacks_equals = All-weaker IsOfText (λ (x : ℕ). x ≢ 61) (λ b h. h.equals)

no_separator : (b : ℕ) → IsVisible b → ¬ IsSeparator b
no_separator b h (inl e) = absurd (omega (arith, h.0, e))
no_separator b h (inr e) = absurd (omega (arith, h.0, e))

pub visible_lacks_separators : (bytes : List ℕ) → All IsVisible bytes → LacksSeparators bytes
visible_lacks_separators = All-weaker IsVisible (λ (b : ℕ). ¬ IsSeparator b) no_separator

pub printed_lacks : (c : ℕ) → c < 32 → (bytes : List ℕ) → All IsPrinted bytes → Lacks c bytes
printed_lacks c below = All-weaker IsPrinted (λ (x : ℕ). x ≢ c) (λ b h e. absurd (omega (arith, below, h.0, e)))
