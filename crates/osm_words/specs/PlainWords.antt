-- Plain words of a command: options, each at most once, and behind them a file, or a file and a second input.
use Rattle.std.specs.Prelude.{◌≡◌, ◌==◌, ◌⊎◌, ℕ, Bool, false, List, [], ◌∷◌, ◌++◌, codes, ⊤}
use Rattle.std.specs.List.{list_any}
use Rattle.std.specs.Str.{bytes_eq}

-- how an option is written: by its letter, or in its long form
pub data Form : Type 0 where
  letter : Form
  long : Form

-- the words of options, where `words` writes one of them
abbrev pub words_of_options : {C : Type 0} → (Form → C → List (List ℕ)) → List (Form × C) → List (List ℕ)
words_of_options words [] = []
words_of_options words (option ∷ others) = words option.0 option.1 ++ words_of_options words others

-- the words of options and a file
abbrev pub plain_words : {C : Type 0} → (Form → C → List (List ℕ)) → List (Form × C) → List ℕ → List (List ℕ)
plain_words words options file = words_of_options words options ++ file ∷ []

-- the words of options, a file and a second input
abbrev pub plain_words_of_two : {C : Type 0} → (Form → C → List (List ℕ)) → List (Form × C) → List ℕ → List ℕ → List (List ℕ)
plain_words_of_two words options file second = words_of_options words options ++ file ∷ second ∷ []

-- its first byte is that of `-`, 45
abbrev pub begins_with_dash : List ℕ → Bool
begins_with_dash [] = false
begins_with_dash (first ∷ others) = first == 45

-- no two of the options have one name
abbrev pub HaveDistinctNames : {C : Type 0} → (C → List ℕ) → List (Form × C) → Type 0
HaveDistinctNames name_of [] = ⊤
HaveDistinctNames name_of (option ∷ others) =
    (list_any (λ other. bytes_eq (name_of option.1) (name_of other.1)) others ≡ false) × HaveDistinctNames name_of others

-- each of the options has a plain value, or none
abbrev pub HavePlainValues : {C : Type 0} → (C → Type 0) → List (Form × C) → Type 0
HavePlainValues HasPlainValue [] = ⊤
HavePlainValues HasPlainValue (option ∷ others) = HasPlainValue option.1 × HavePlainValues HasPlainValue others

-- It is a lone dash, or doesn't begin with one. So the empty word is one too.
abbrev pub IsFileName : List ℕ → Type 0
IsFileName file = (file ≡ codes "-") ⊎ (begins_with_dash file ≡ false)

-- Each option stands at most once and has a plain value or none, and the file's name is one.
pub record ArePlainWords {C : Type 0} (name_of : C → List ℕ) (HasPlainValue : C → Type 0) (options : List (Form × C)) (file : List ℕ) : Type 0 where
  pub once : HaveDistinctNames name_of options
  pub values : HavePlainValues HasPlainValue options
  pub file_name : IsFileName file

-- The same with two names: one of them at most is a lone dash, since standard input is read once.
pub record ArePlainWordsOfTwo {C : Type 0} (name_of : C → List ℕ) (HasPlainValue : C → Type 0) (options : List (Form × C)) (file second : List ℕ)
    : Type 0 where
  pub once : HaveDistinctNames name_of options
  pub values : HavePlainValues HasPlainValue options
  pub file_name : IsFileName file
  pub second_name : IsFileName second
  pub not_both : ¬ ((file ≡ codes "-") × (second ≡ codes "-"))

-- what options say, from what is said without them
abbrev pub said_with : {C S : Type 0} → (C → S → S) → S → List (Form × C) → S
said_with with_option settings [] = settings
said_with with_option settings (option ∷ others) = with_option option.1 (said_with with_option settings others)
