-- The walk of `clap` over plain words, of any command without subcommands (`s`, as it is built). No public contract cites it.
use Rattle.std.proofs.Common.{◌≡◌, ◌&&◌, ◌||◌, ◌++◌, ◌∙◌, if◌then◌else◌, ℕ, suc, Bool, cond, true, false, List, [], ◌∷◌, Option, Some, None, codes}
use Rattle.std.proofs.Common.{refl, sym, ap, ap₂, append-nil, append_assoc, subst, true≢false}
use Rattle.std.specs.List.{fold, list_any}
use Rattle.std.specs.Option.{option_map_or}
use Rattle.std.specs.Str.{bytes_eq}
use Rattle.clap.specs.Words.{Kinds, Row, Shape, Text}
use Rattle.clap.specs.Kinds.{or_else}
use Rattle.clap.specs.Faults.{repeat_fault, settle_fault, turn_fault, walk_fault}
use Rattle.clap.specs.Walk.{Held, Walk, at_row, has_row, idle, more_values, option, pushed, settled, settled_rows, walked, with_values, without}
use Rattle.clap.specs.declared.builder.value_parser.Reading.TheVariants.{AsWritten}
use Rattle.clap.specs.declared.error.kind.ErrorKind.TheVariants.{ArgumentConflict}
use Rattle.clap.specs.declared.parser.matches.ValueSource.TheVariants.{CommandLine}
use Rattle.osm_words.specs.PlainWords.{Form, HaveDistinctNames, HavePlainValues, IsFileName, plain_words, plain_words_of_two, words_of_options}
use Rattle.std.proofs.Math.Bool.{and-false}
use Rattle.std.proofs.lemmas.Bool.{or_parts}

abbrev pub Pending : Type 0
Pending = Option (Text × List Text)

abbrev pub held_at : List Row → Pending → Held
held_at rows pending = record { rows = rows; pending = pending; skip = 0 }

-- the walk between two words, where the next word that is no option goes to the positional of this place
abbrev pub at_place : ℕ → List Row → Pending → Walk
at_place position rows pending = record { held = held_at rows pending; waiting = idle; position = position; is_trailing = false; stopped = None }

-- and between two options, which stand before all names
abbrev pub at : List Row → Pending → Walk
at = at_place 1

-- the walk between an option and its value
abbrev pub before_value : Text → List Row → Walk
before_value name rows = record { held = held_at rows (Some (name, [])); waiting = option name; position = 1; is_trailing = false; stopped = None }

abbrev pub row_for : Text → Text → Row
row_for name value = record { id = name; values = value ∷ []; count = None; source = Some CommandLine; reading = AsWritten }

-- ---- rows

pub at_new : (id : Text) (change : Row → List Row) (missing rows : List Row) → has_row id rows ≡ false → at_row id change missing rows ≡ rows ++ missing
at_new id change missing [] none = refl
at_new id change missing (r ∷ rs) none = go (bytes_eq r.id id) none (at_new id change missing rs)
  where
    go : (b : Bool) → (b || has_row id rs) ≡ false → (has_row id rs ≡ false → at_row id change missing rs ≡ rs ++ missing)
        → cond b (change r ++ rs) (r ∷ at_row id change missing rs) ≡ r ∷ rs ++ missing
    go true none more = absurd (true≢false none)
    go false none more = ap (λ (later : List Row). r ∷ later) (more none)

pub new_row : (id value : Text) (rows : List Row) → has_row id rows ≡ false
    → with_values id AsWritten CommandLine (value ∷ []) (without id rows) ≡ rows ++ row_for id value ∷ []
new_row id value rows none =
    ap (with_values id AsWritten CommandLine (value ∷ [])) (at_new id (λ _. []) [] rows none ∙ append-nil rows)
    ∙ at_new id (more_values CommandLine (value ∷ [])) (row_for id value ∷ []) rows none

pub no_repeat : (id : Text) (rows : List Row) → has_row id rows ≡ false → repeat_fault false id rows ≡ []
no_repeat id rows none = ap (λ (b : Bool). cond (b && true) (ArgumentConflict ∷ []) []) none

-- ---- what is pending, once it is used

-- the pending option may be used, and gives the rows `used`
pub record Ready (s : Shape) (rows : List Row) (pending : Pending) (used : List Row) : Type 0 where
  pub settles : settled_rows s.rules pending rows ≡ used
  pub passes : settle_fault s.rules s.args_override_self (held_at rows pending) ≡ []

pub ready_none : (s : Shape) (rows : List Row) → Ready s rows None rows
ready_none s rows = record { settles = refl; passes = refl }

pub ready_value : (s : Shape) (name value : Text) (rows : List Row) → has_row name rows ≡ false
    → settled_rows s.rules (Some (name, value ∷ [])) rows ≡ with_values name AsWritten CommandLine (value ∷ []) (without name rows)
    → settle_fault s.rules s.args_override_self (held_at rows (Some (name, value ∷ []))) ≡ or_else (repeat_fault false name rows) []
    → Ready s rows (Some (name, value ∷ [])) (rows ++ row_for name value ∷ [])
ready_value s name value rows new settles passes = record {
  settles = settles ∙ new_row name value rows new;
  passes = passes ∙ ap (λ (k : Kinds). or_else k []) (no_repeat name rows new);
}

-- ---- steps

-- the words lead the walk from one place to the next, without a fault
pub record Steps (s : Shape) (words : List Text) (rows : List Row) (pending : Pending) (later : List Row) (left : Pending) : Type 0 where
  pub walks : fold (walked s.rules []) (at rows pending) words ≡ at later left
  pub faults : (rest : List Text) → walk_fault s [] (at rows pending) (words ++ rest) ≡ walk_fault s [] (at later left) rest

-- and so, where what is pending then may be used, and gives the rows `used`
pub record Leads (s : Shape) (words : List Text) (rows : List Row) (pending : Pending) (used : List Row) : Type 0 where
  pub later : List Row
  pub left : Pending
  pub steps : Steps s words rows pending later left
  pub ready : Ready s later left used

-- and so with one more row used
abbrev pub Moves : Shape → List Text → Row → List Row → Pending → List Row → Type 0
Moves s words row rows pending used = Leads s words rows pending (used ++ row ∷ [])

one_word : (s : Shape) (word : Text) (rows : List Row) (pending : Pending) (later : List Row) (left : Pending)
    → walked s.rules [] (at rows pending) word ≡ at later left → turn_fault s [] (at rows pending) word ≡ [] → Steps s (word ∷ []) rows pending later left
unfolding walk_fault
one_word s word rows pending later left walks turn = record {
  walks = walks;
  faults = λ rest. ap₂ (λ (k : Kinds) (w : Walk). or_else k (walk_fault s [] w rest)) turn walks;
}

two_words : (s : Shape) (word value : Text) (rows : List Row) (pending : Pending) (middle : Walk) (later : List Row) (left : Pending)
    → walked s.rules [] (at rows pending) word ≡ middle → turn_fault s [] (at rows pending) word ≡ []
    → walked s.rules [] middle value ≡ at later left → turn_fault s [] middle value ≡ []
    → Steps s (word ∷ value ∷ []) rows pending later left
unfolding walk_fault
two_words s word value rows pending middle later left walks turn walks_on turn_on = record {
  walks = ap (λ (w : Walk). walked s.rules [] w value) walks ∙ walks_on;
  faults = λ rest. ap₂ (λ (k : Kinds) (w : Walk). or_else k (or_else (turn_fault s [] w value) (walk_fault s [] (walked s.rules [] w value) rest))) turn walks
      ∙ ap₂ (λ (k : Kinds) (w : Walk). or_else k (walk_fault s [] w rest)) turn_on walks_on;
}

-- a flag, by what its word does to whatever is pending: `asks` is the fault of its word, by the faults of what is pending and of a repeat
pub flag_moves : (s : Shape) (word name : Text) (asks : Kinds → Kinds → Kinds) (rows : List Row) (pending : Pending) (used : List Row) → Ready s rows pending used
    → has_row name used ≡ false → asks [] [] ≡ []
    → walked s.rules [] (at rows pending) word ≡ at (with_values name AsWritten CommandLine (codes "true" ∷ []) (without name (settled_rows s.rules pending rows))) None
    → turn_fault s [] (at rows pending) word ≡ asks (settle_fault s.rules s.args_override_self (held_at rows pending)) (repeat_fault false name (settled_rows s.rules pending rows))
    → Moves s (word ∷ []) (row_for name (codes "true")) rows pending used
flag_moves s word name asks rows pending used ready new none walks turn = record {
  later = used ++ row_for name (codes "true") ∷ [];
  left = None;
  steps = one_word s word rows pending (used ++ row_for name (codes "true") ∷ []) None
      (walks ∙ ap (λ (r : List Row). at (with_values name AsWritten CommandLine (codes "true" ∷ []) (without name r)) None) ready.settles
      ∙ ap (λ (r : List Row). at r None) (new_row name (codes "true") used new))
      (turn ∙ ap₂ asks ready.passes (ap (repeat_fault false name) ready.settles ∙ no_repeat name used new) ∙ none);
  ready = ready_none s (used ++ row_for name (codes "true") ∷ []);
}

-- the fault of `-x`, and that of `--name`
abbrev pub by_letter : Kinds → Kinds → Kinds
by_letter settles repeats = or_else (or_else (or_else settles (or_else repeats [])) []) []

abbrev pub by_long : Kinds → Kinds → Kinds
by_long settles repeats = or_else (or_else settles (or_else repeats [])) []

-- what an option takes as its value in the next word
pub record TakesValue (s : Shape) (name value : Text) : Type 0 where
  pub walks : (used : List Row) → walked s.rules [] (before_value name used) value ≡ at used (Some (name, value ∷ []))
  pub passes : (used : List Row) → turn_fault s [] (before_value name used) value ≡ []
  pub ready : (used : List Row) → has_row name used ≡ false → Ready s used (Some (name, value ∷ [])) (used ++ row_for name value ∷ [])

-- an option with a value, by what its word does to whatever is pending
pub option_moves : (s : Shape) (word name value : Text) (rows : List Row) (pending : Pending) (used : List Row) → Ready s rows pending used
    → has_row name used ≡ false → TakesValue s name value
    → walked s.rules [] (at rows pending) word ≡ before_value name (settled_rows s.rules pending rows)
    → turn_fault s [] (at rows pending) word ≡ or_else (settle_fault s.rules s.args_override_self (held_at rows pending)) []
    → Moves s (word ∷ value ∷ []) (row_for name value) rows pending used
option_moves s word name value rows pending used ready new takes walks turn = record {
  later = used;
  left = Some (name, value ∷ []);
  steps = two_words s word value rows pending (before_value name used) used (Some (name, value ∷ []))
      (walks ∙ ap (before_value name) ready.settles) (turn ∙ ap (λ (k : Kinds). or_else k []) ready.passes) (takes.walks used) (takes.passes used);
  ready = takes.ready used new;
}

-- ---- a word of a positional

abbrev pub asks_settled : Shape → List Row → Pending → Bool → Kinds
asks_settled s rows pending several = if several then [] else settle_fault s.rules s.args_override_self (held_at rows pending)

abbrev pub is_pending_for : Text → Pending → Bool
is_pending_for name pending = option_map_or (λ q. bytes_eq q.0 name) pending false

abbrev pub name_pushed : Shape → ℕ → Text → List Row → Pending → Text → Bool → Walk
name_pushed s position name rows pending word several = record {
  held = pushed name word (if several then held_at rows pending else settled s.rules (held_at rows pending));
  waiting = idle;
  position = suc position;
  is_trailing = false;
  stopped = None;
}

-- the positional of this place and name takes the word
pub record TakesWord (s : Shape) (position : ℕ) (name word : Text) : Type 0 where
  pub walks : (rows : List Row) (pending : Pending)
      → walked s.rules [] (at_place position rows pending) word ≡ name_pushed s position name rows pending word (is_pending_for name pending && false)
  pub asks : (rows : List Row) (pending : Pending)
      → turn_fault s [] (at_place position rows pending) word ≡ asks_settled s rows pending (is_pending_for name pending && false)

module _ (s : Shape) (position : ℕ) (name word : Text) (takes : TakesWord s position name word) where
  -- what was pending is used, and the word is pending
  pub word_walks : (rows : List Row) (pending : Pending) (used : List Row) → Ready s rows pending used
      → walked s.rules [] (at_place position rows pending) word ≡ at_place (suc position) used (Some (name, word ∷ []))
  word_walks rows pending used ready =
      takes.walks rows pending ∙ ap (name_pushed s position name rows pending word) (and-false (is_pending_for name pending))
      ∙ ap (λ (r : List Row). at_place (suc position) r (Some (name, word ∷ []))) ready.settles

  pub word_passes : (rows : List Row) (pending : Pending) (used : List Row) → Ready s rows pending used
      → turn_fault s [] (at_place position rows pending) word ≡ []
  word_passes rows pending used ready =
      takes.asks rows pending ∙ ap (asks_settled s rows pending) (and-false (is_pending_for name pending)) ∙ ready.passes

-- ---- all words

-- the walk over the words ends with these rows and the last name pending, and without a fault
pub record Ends (s : Shape) (last : Text) (words : List Text) (used : List Row) (word : Text) : Type 0 where
  pub holds : (fold (walked s.rules []) (at [] None) words).held ≡ held_at used (Some (last, word ∷ []))
  pub passes : walk_fault s [] (at [] None) words ≡ []
  pub new : has_row last used ≡ false

fold_join : (f : Walk → Text → Walk) (start : Walk) (xs ys : List Text) → fold f start (xs ++ ys) ≡ fold f (fold f start xs) ys
fold_join f start [] ys = refl
fold_join f start (x ∷ xs) ys = fold_join f (f start x) xs ys

pub has_row_more : (id : Text) (rows : List Row) (r : Row) → has_row id rows ≡ false → bytes_eq r.id id ≡ false → has_row id (rows ++ r ∷ []) ≡ false
has_row_more id [] r none other = ap (λ (b : Bool). b || false) other
has_row_more id (x ∷ xs) r none other = go (bytes_eq x.id id) none (λ rest. has_row_more id xs r rest other)
  where
    go : (b : Bool) → (b || has_row id xs) ≡ false → (has_row id xs ≡ false → has_row id (xs ++ r ∷ []) ≡ false) → (b || has_row id (xs ++ r ∷ [])) ≡ false
    go true rest more = rest
    go false rest more = more rest

-- what a command's options are, and that its walk takes each
pub record Options (s : Shape) : Type 1 where
  pub Choice : Type 0
  pub name_of : Choice → Text
  pub value_of : Choice → Text
  pub words_of : Form → Choice → List Text
  pub HasPlainValue : Choice → Type 0
  pub moves : (form : Form) (c : Choice) (rows : List Row) (pending : Pending) (used : List Row) → Ready s rows pending used → has_row (name_of c) used ≡ false
      → HasPlainValue c → Moves s (words_of form c) (row_for (name_of c) (value_of c)) rows pending used

-- a name behind the options: no option has the name of its positional, which takes each name of a file and may be used then
pub record Named (s : Shape) (o : Options s) (position : ℕ) (name : Text) : Type 0 where
  pub no_option : (c : o.Choice) → bytes_eq (o.name_of c) name ≡ false
  pub takes : (word : Text) → IsFileName word → TakesWord s position name word
  pub ready : (word : Text) (rows : List Row) → has_row name rows ≡ false → Ready s rows (Some (name, word ∷ [])) (rows ++ row_for name word ∷ [])

module _ (s : Shape) (o : Options s) where
  abbrev pub row_of : o.Choice → Row
  row_of c = row_for (o.name_of c) (o.value_of c)

  -- the rows with one for each option
  abbrev pub rows_with : List (Form × o.Choice) → List Row
  rows_with [] = []
  rows_with (first ∷ others) = row_of first.1 ∷ rows_with others

  abbrev AreNew : List Row → List (Form × o.Choice) → Type 0
  AreNew rows [] = Unit {0}
  AreNew rows (first ∷ others) = (has_row (o.name_of first.1) rows ≡ false) × AreNew rows others

  still_new : (c : o.Choice) (rows : List Row) (options : List (Form × o.Choice)) → AreNew rows options
      → list_any (λ other. bytes_eq (o.name_of c) (o.name_of other.1)) options ≡ false → AreNew (rows ++ row_of c ∷ []) options
  still_new c rows [] new once = tt
  still_new c rows (first ∷ others) new once =
      let both = or_parts (bytes_eq (o.name_of c) (o.name_of first.1)) _ once in
      (has_row_more (o.name_of first.1) rows (row_of c) new.0 both.0, still_new c rows others new.1 both.1)

  all_new : (options : List (Form × o.Choice)) → AreNew [] options
  all_new [] = tt
  all_new (first ∷ others) = (refl, all_new others)

  -- the options lead on, with a row for each in their order
  leads_from : (options : List (Form × o.Choice)) (rows : List Row) (pending : Pending) (used : List Row) → Ready s rows pending used
      → AreNew used options → HaveDistinctNames o.name_of options → HavePlainValues o.HasPlainValue options
      → Leads s (words_of_options o.words_of options) rows pending (used ++ rows_with options)
  leads_from [] rows pending used ready new once plain = record {
    later = rows;
    left = pending;
    steps = record { walks = refl; faults = λ rest. refl };
    ready = subst (Ready s rows pending) (sym (append-nil used)) ready;
  }
  leads_from (first ∷ others) rows pending used ready new once plain =
      let words = o.words_of first.0 first.1 in
      let more = words_of_options o.words_of others in
      let moved = o.moves first.0 first.1 rows pending used ready new.0 plain.0 in
      let others_new = still_new first.1 used others new.1 once.0 in
      let rest = leads_from others moved.later moved.left (used ++ row_of first.1 ∷ []) moved.ready others_new once.1 plain.1 in
      record {
        later = rest.later;
        left = rest.left;
        steps = record {
          walks = fold_join (walked s.rules []) (at rows pending) words more
              ∙ ap (λ (from : Walk). fold (walked s.rules []) from more) moved.steps.walks ∙ rest.steps.walks;
          faults = λ behind. ap (walk_fault s [] (at rows pending)) (append_assoc words more behind) ∙ moved.steps.faults (more ++ behind)
              ∙ rest.steps.faults behind;
        };
        ready = subst (Ready s rest.later rest.left) (append_assoc used (row_of first.1 ∷ []) (rows_with others)) rest.ready;
      }

  leads : (options : List (Form × o.Choice)) → HaveDistinctNames o.name_of options → HavePlainValues o.HasPlainValue options
      → Leads s (words_of_options o.words_of options) [] None (rows_with options)
  leads options once plain = leads_from options [] None [] (ready_none s []) (all_new options) once plain

  pub no_row : (name : Text) → ((c : o.Choice) → bytes_eq (o.name_of c) name ≡ false)
      → (options : List (Form × o.Choice)) → has_row name (rows_with options) ≡ false
  no_row name other [] = refl
  no_row name other (first ∷ others) = ap₂ (λ (a b : Bool). a || b) (other first.1) (no_row name other others)

  -- plain words end with a row for each option, in their order, and the file pending
  pub ends : (last : Text) → Named s o 1 last → (options : List (Form × o.Choice)) (file : Text) → HaveDistinctNames o.name_of options
      → HavePlainValues o.HasPlainValue options → IsFileName file → Ends s last (plain_words o.words_of options file) (rows_with options) file
  unfolding walk_fault
  ends last named options file once plain is_name =
      let words = words_of_options o.words_of options in
      let led = leads options once plain in
      let takes = named.takes file is_name in
      let walks : walked s.rules [] (at led.later led.left) file ≡ at_place 2 (rows_with options) (Some (last, file ∷ [])) =
      word_walks s 1 last file takes led.later led.left (rows_with options) led.ready in
      let passes : turn_fault s [] (at led.later led.left) file ≡ [] = word_passes s 1 last file takes led.later led.left (rows_with options) led.ready in
      record {
        holds = ap (λ (w : Walk). w.held) (fold_join (walked s.rules []) (at [] None) words (file ∷ [])
            ∙ ap (λ (from : Walk). walked s.rules [] from file) led.steps.walks ∙ walks);
        passes = led.steps.faults (file ∷ []) ∙ ap (λ (k : Kinds). or_else k []) passes;
        new = no_row last named.no_option options;
      }

  -- and so with two names: the first has its row too, and the second is pending
  pub ends_of_two : (first last : Text) → Named s o 1 first → Named s o 2 last → bytes_eq first last ≡ false
      → (options : List (Form × o.Choice)) (file second : Text) → HaveDistinctNames o.name_of options
      → HavePlainValues o.HasPlainValue options → IsFileName file → IsFileName second
      → Ends s last (plain_words_of_two o.words_of options file second) (rows_with options ++ row_for first file ∷ []) second
  unfolding walk_fault
  ends_of_two first last file_named second_named other options file second once plain is_file is_second =
      let words = words_of_options o.words_of options in
      let used = rows_with options in
      let both = used ++ row_for first file ∷ [] in
      let led = leads options once plain in
      let takes = file_named.takes file is_file in
      let takes_second = second_named.takes second is_second in
      let ready : Ready s used (Some (first, file ∷ [])) both = file_named.ready file used (no_row first file_named.no_option options) in
      let walks : walked s.rules [] (at led.later led.left) file ≡ at_place 2 used (Some (first, file ∷ [])) =
      word_walks s 1 first file takes led.later led.left used led.ready in
      let passes : turn_fault s [] (at led.later led.left) file ≡ [] = word_passes s 1 first file takes led.later led.left used led.ready in
      let walks_on : walked s.rules [] (at_place 2 used (Some (first, file ∷ []))) second ≡ at_place 3 both (Some (last, second ∷ [])) =
      word_walks s 2 last second takes_second used (Some (first, file ∷ [])) both ready in
      let passes_on : turn_fault s [] (at_place 2 used (Some (first, file ∷ []))) second ≡ [] =
      word_passes s 2 last second takes_second used (Some (first, file ∷ [])) both ready in
      record {
        holds = ap (λ (w : Walk). w.held) (fold_join (walked s.rules []) (at [] None) words (file ∷ second ∷ [])
            ∙ ap (λ (from : Walk). walked s.rules [] (walked s.rules [] from file) second) led.steps.walks
            ∙ ap (λ (from : Walk). walked s.rules [] from second) walks ∙ walks_on);
        passes = led.steps.faults (file ∷ second ∷ [])
            ∙ ap₂ (λ (k : Kinds) (w : Walk). or_else k (or_else (turn_fault s [] w second) [])) passes walks
            ∙ ap (λ (k : Kinds). or_else k []) passes_on;
        new = has_row_more last used (row_for first file) (no_row last second_named.no_option options) other;
      }
