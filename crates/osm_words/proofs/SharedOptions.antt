-- Arguments of one value, of any command without subcommands (`s`, as it is built): options, whose value is the next word, and names
-- of files. No public contract cites it.
use Rattle.std.proofs.Common.{◌≡◌, ◌&&◌, ◌∙◌, ℕ, false, List, [], ◌∷◌, ◌++◌, Some, None, refl, sym, ap, ap₂, subst, inl, inr}
use Rattle.std.specs.Str.{bytes_eq}
use Rattle.clap.specs.Words.{Kinds, Row, Rule, Shape, Text}
use Rattle.clap.specs.Kinds.{or_else}
use Rattle.clap.specs.Faults.{other_fault, repeat_fault, settle_fault, step_fault}
use Rattle.clap.specs.Walk.{Held, Step, Waiting, after_step, arg_by_id, arg_by_index, has_row, idle, next, option, option_word, plain_word, settled_rows, subcommand_or_other, to_positional, value, with_values, without}
use Rattle.clap.specs.declared.builder.value_parser.Reading.TheVariants.{AsWritten}
use Rattle.clap.specs.declared.parser.matches.ValueSource.TheVariants.{CommandLine}
use Rattle.clap.proofs.OnLiterals.{clap_on_literals}
use Rattle.osm_words.specs.PlainWords.{IsFileName, begins_with_dash}
use Rattle.osm_words.proofs.Walk.{Named, Options, Pending, Ready, TakesValue, TakesWord}
use Rattle.osm_words.proofs.Walk.{asks_settled, at_place, before_value, held_at, is_pending_for, name_pushed, ready_value, row_for}

-- ---- a word that is no flag

plain_met : (c : List Rule) (waiting : Waiting) (position : ℕ) (word : Text) (h : Held) → IsFileName word
    → subcommand_or_other c None waiting position word h ≡ plain_word c waiting word h
unfolding clap_on_literals
plain_met c waiting position word h (inl dash) =
    subst (λ (w : Text). subcommand_or_other c None waiting position w h ≡ plain_word c waiting w h) (sym dash) refl
plain_met c waiting position [] h (inr plain) = refl
plain_met c waiting position (a ∷ word) h (inr plain) = simp plain

plain_passes : (s : Shape) (word : Text) (h : Held) → IsFileName word → other_fault s None word h ≡ []
unfolding clap_on_literals
plain_passes s word h (inl dash) = subst (λ (w : Text). other_fault s None w h ≡ []) (sym dash) refl
plain_passes s [] h (inr plain) = refl
plain_passes s (a ∷ word) h (inr plain) = simp plain

-- ---- one value

-- the argument of this name takes one value, as it is written, and not twice
pub record TakesOne (s : Shape) (name : Text) : Type 0 where
  pub settles : (word : Text) (rows : List Row)
      → settled_rows s.rules (Some (name, word ∷ [])) rows ≡ with_values name AsWritten CommandLine (word ∷ []) (without name rows)
  pub passes : (word : Text) (rows : List Row)
      → settle_fault s.rules s.args_override_self (held_at rows (Some (name, word ∷ []))) ≡ or_else (repeat_fault false name rows) []

pub ready_one : (s : Shape) (name : Text) → TakesOne s name → (word : Text) (rows : List Row) → has_row name rows ≡ false
    → Ready s rows (Some (name, word ∷ [])) (rows ++ row_for name word ∷ [])
ready_one s name one word rows new = ready_value s name word rows new (one.settles word rows) (one.passes word rows)

-- ---- options

-- the option waits for its value
abbrev pub waits : Text → List Row → Held
waits name used = held_at used (Some (name, []))

-- it is an option, which waits for no more than that value
pub record IsOption (s : Shape) (name : Text) : Type 0 where
  pub one : TakesOne s name
  pub ends : (word : Text) (used : List Row)
      → option_word (arg_by_id s.rules name) name word (waits name used) ≡ (held_at used (Some (name, word ∷ [])), idle)

pub takes_value : (s : Shape) (name : Text) → IsOption s name → (word : Text) → begins_with_dash word ≡ false → TakesValue s name word
unfolding clap_on_literals
takes_value s name is word plain = record {
  walks = λ used. ap (λ (m : Held × Step). after_step s.rules word (before_value name used) m.0 m.1) (plain_met s.rules (option name) 1 word (waits name used) (inr plain))
      ∙ ap (λ (w : Held × Waiting). after_step s.rules word (before_value name used) w.0 (next w.1)) (is.ends word used);
  passes = λ used. ap₂ (λ (k : Kinds) (m : Held × Step). or_else k (step_fault s 1 m.0 m.1))
      (plain_passes s word (waits name used) (inr plain)) (plain_met s.rules (option name) 1 word (waits name used) (inr plain));
  ready = λ used new. ready_one s name is.one word used new;
}

-- ---- names

-- it is the positional of this place
pub record IsPositional (s : Shape) (position : ℕ) (name : Text) : Type 0 where
  pub one : TakesOne s name
  pub goes : (word : Text) (rows : List Row) (pending : Pending)
      → to_positional s.rules (arg_by_index s.rules position) word (at_place position rows pending) (held_at rows pending)
      ≡ name_pushed s position name rows pending word (is_pending_for name pending && false)
  pub asks : (rows : List Row) (pending : Pending)
      → step_fault s position (held_at rows pending) value ≡ asks_settled s rows pending (is_pending_for name pending && false)

module _ (s : Shape) (position : ℕ) (name : Text) (is : IsPositional s position name) where
  module _ (word : Text) (is_name : IsFileName word) where
    pub takes_name : TakesWord s position name word
    unfolding clap_on_literals
    takes_name = record {
      walks = λ rows pending.
          ap (λ (m : Held × Step). after_step s.rules word (at_place position rows pending) m.0 m.1) (plain_met s.rules idle position word (held_at rows pending) is_name)
          ∙ is.goes word rows pending;
      asks = λ rows pending. ap₂ (λ (k : Kinds) (m : Held × Step). or_else k (step_fault s position m.0 m.1))
          (plain_passes s word (held_at rows pending) is_name) (plain_met s.rules idle position word (held_at rows pending) is_name)
          ∙ is.asks rows pending;
    }

  pub named : (o : Options s) → ((c : o.Choice) → bytes_eq (o.name_of c) name ≡ false) → Named s o position name
  named o other = record { no_option = other; takes = takes_name; ready = ready_one s name is.one }
