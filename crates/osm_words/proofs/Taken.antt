-- A command without subcommands, as it is built (`s`), takes the words over which its walk ends well, and finds what they gave. No public contract cites it.
use Rattle.std.proofs.Common.{◌≡◌, ◌++◌, ◌∙◌, false, true, List, [], ◌∷◌, Bool, Option, Some, None, ap, ap₂, refl, sym, true≢false}
use Rattle.std.specs.List.{fold}
use Rattle.std.specs.Option.{option_map_or}
use Rattle.std.specs.Prelude.{option_and_then, slice_get, if◌then◌else◌}
use Rattle.std.specs.Str.{bytes_eq}
use Rattle.std.proofs.lemmas.Slice.Eq.{bytes_eq-Decides}
use Rattle.clap.specs.Words.{Kinds, Row, Shape, Text, first_of}
use Rattle.clap.specs.Kinds.{or_else}
use Rattle.clap.specs.Facts.{explicit_source}
use Rattle.clap.specs.Faults.{built_fault, check_fault, defaults_fault, settle_fault}
use Rattle.clap.specs.Takes.{is_given}
use Rattle.clap.specs.Walk.{Held, finished, has_row, nothing_held, rows_after, settled, with_default}
use Rattle.clap.proofs.FaultLemmas.{leaf_fault}
use Rattle.osm_words.proofs.Walk.{Ends, Ready, held_at, row_for}
use Rattle.osm_words.proofs.Lookups.{HavePlainDefaults, default_in, look, look_finished, look_more, look_none, no_default_fault, or_some}

-- the words gave something for each of the names
abbrev pub AreGiven : List Text → List Row → Type 0
AreGiven [] rows = Unit {0}
AreGiven (name ∷ names) rows = (is_given name rows ≡ true) × AreGiven names rows

-- what the command asks of the end: only that its positionals are there, the last and those before it
pub record EndsWell (s : Shape) (before : List Text) (last : Text) : Type 0 where
  pub ready : (file : Text) (rows : List Row) → has_row last rows ≡ false → Ready s rows (Some (last, file ∷ [])) (rows ++ row_for last file ∷ [])
  pub defaults : HavePlainDefaults s.rules
  pub checks : (rows : List Row) → AreGiven before rows → is_given last rows ≡ true → check_fault s rows false ≡ []

-- the value of a name, where `rows` were found
abbrev pub value_in : Shape → Text → List Row → Option Text
value_in s name rows = option_and_then (λ r. slice_get r.values 0) (or_some (look name rows) (default_in name s.rules))

-- the row of a name that was new is found
found_new : (name word : Text) (rows : List Row) → has_row name rows ≡ false
    → or_some (look name rows) (if bytes_eq name name then Some (row_for name word) else None) ≡ Some (row_for name word)
found_new name word rows new =
    let same : bytes_eq name name ≡ true = (bytes_eq-Decides name name).1 refl in
    λ i. or_some (look_none name rows new i) (if same i then Some (row_for name word) else None)

-- ---- what was given stays so

abbrev is_explicit : Option Row → Bool
is_explicit found = option_map_or (λ r. explicit_source r.source) found false

still_explicit : (found more default : Option Row) → is_explicit found ≡ true → is_explicit (or_some (or_some found more) default) ≡ true
still_explicit None more default given = absurd (true≢false (sym given))
still_explicit (Some r) more default given = given

still_given : (s : Shape) (name : Text) (used : List Row) (r : Row) → is_given name used ≡ true
    → is_given name (fold with_default (used ++ r ∷ []) s.rules) ≡ true
still_given s name used r given =
    let more : Option Row = if bytes_eq r.id name then Some r else None in
    ap is_explicit (look_finished name s.rules (used ++ r ∷ []) ∙ ap (λ (o : Option Row). or_some o (default_in name s.rules)) (look_more name used r))
    ∙ still_explicit (look name used) more (default_in name s.rules) given

all_still_given : (s : Shape) (names : List Text) (used : List Row) (r : Row) → AreGiven names used
    → AreGiven names (fold with_default (used ++ r ∷ []) s.rules)
all_still_given s [] used r given = tt
all_still_given s (name ∷ names) used r given = (still_given s name used r given.0, all_still_given s names used r given.1)

-- the row of a name that was new
pub new_given : (name word : Text) (rows : List Row) → has_row name rows ≡ false → is_given name (rows ++ row_for name word ∷ []) ≡ true
new_given name word rows new = ap is_explicit (look_more name rows (row_for name word) ∙ found_new name word rows new)

-- ---- the command

module _ (s : Shape) (before : List Text) (last : Text) (well : EndsWell s before last) where
  abbrev finished_rows : List Row → Text → List Row
  finished_rows used file = fold with_default (used ++ row_for last file ∷ []) s.rules

  abbrev level_by : Kinds → Held → Kinds
  level_by walks end = or_else walks
      (or_else []
      (or_else (settle_fault s.rules s.args_override_self end)
      (or_else (defaults_fault (settled s.rules end).rows s.rules) (check_fault s (finished s.rules end) false))))

  last_found : (used : List Row) (file : Text) → has_row last used ≡ false → look last (finished_rows used file) ≡ Some (row_for last file)
  last_found used file new =
      look_finished last s.rules (used ++ row_for last file ∷ [])
      ∙ ap (λ (o : Option Row). or_some o (default_in last s.rules)) (look_more last used (row_for last file) ∙ found_new last file used new)

  end_passes : (used : List Row) (file : Text) → AreGiven before used → has_row last used ≡ false → level_by [] (held_at used (Some (last, file ∷ []))) ≡ []
  end_passes used file there new =
      let ready = well.ready file used new in
      let given : is_given last (finished_rows used file) ≡ true =
      ap is_explicit (last_found used file new) in
      let checks : check_fault s (finished s.rules (held_at used (Some (last, file ∷ [])))) false ≡ [] =
      ap (λ (rows : List Row). check_fault s (fold with_default rows s.rules) false) ready.settles
      ∙ well.checks (finished_rows used file) (all_still_given s before used (row_for last file) there) given in
      let defaults = no_default_fault (settled s.rules (held_at used (Some (last, file ∷ [])))).rows s.rules well.defaults in
      ap₂ or_else ready.passes (ap₂ or_else defaults checks)

  -- the words are taken
  pub taken : (words : List Text) (used : List Row) (file : Text) → AreGiven before used → Ends s last words used file
      → built_fault (record { top = s; subs = [] }) nothing_held words ≡ []
  taken words used file there end =
      leaf_fault (record { top = s; subs = [] }) nothing_held words refl
      ∙ ap₂ level_by end.passes end.holds ∙ end_passes used file there end.new

  -- and each name has its value in what was found, or its default
  pub given : (words : List Text) (used : List Row) (file : Text) → Ends s last words used file
      → (name : Text) → first_of name (rows_after s.rules [] words) ≡ value_in s name (used ++ row_for last file ∷ [])
  given words used file end name =
      let rows_are : rows_after s.rules [] words ≡ finished_rows used file =
      ap (finished s.rules) end.holds
      ∙ ap (λ (rows : List Row). fold with_default rows s.rules) (well.ready file used end.new).settles in
      ap (first_of name) rows_are ∙ ap (option_and_then (λ (r : Row). slice_get r.values 0)) (look_finished name s.rules (used ++ row_for last file ∷ []))
