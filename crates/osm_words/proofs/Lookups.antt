-- What a lookup by a name finds in the rows of a parse, before and after the defaults. No public contract cites it.
use Rattle.std.proofs.Common.{◌≡◌, ◌||◌, ◌++◌, ◌∙◌, Bool, cond, true, false, List, [], ◌∷◌, Option, Some, None, refl, sym, ap, true≢false, if◌then◌else◌}
use Rattle.std.specs.List.{find, fold}
use Rattle.std.specs.Str.{bytes_eq}
use Rattle.std.proofs.lemmas.Slice.Eq.{bytes_eq-Decides}
use Rattle.clap.specs.Words.{Kinds, Row, Rule, Text}
use Rattle.clap.specs.Kinds.{or_else}
use Rattle.clap.specs.Faults.{defaults_fault, given_default_fault}
use Rattle.clap.specs.Walk.{default_rows, has_row, is_empty, more_values, reading_by, with_default}
use Rattle.clap.specs.declared.builder.value_parser.Reading.{Reading}
use Rattle.clap.specs.declared.parser.matches.ValueSource.TheVariants.{DefaultValue}
use Rattle.osm_words.proofs.Walk.{at_new}

abbrev pub look : Text → List Row → Option Row
look id rows = find (λ r. bytes_eq r.id id) rows

abbrev pub or_some : Option Row → Option Row → Option Row
or_some None other = other
or_some (Some r) other = Some r

or_none : (o : Option Row) → or_some o None ≡ o
or_none None = refl
or_none (Some r) = refl

or_some_assoc : (a b c : Option Row) → or_some (or_some a b) c ≡ or_some a (or_some b c)
or_some_assoc None b c = refl
or_some_assoc (Some r) b c = refl

-- ---- one more row

pub look_more : (id : Text) (rows : List Row) (r : Row) → look id (rows ++ r ∷ []) ≡ or_some (look id rows) (if bytes_eq r.id id then Some r else None)
look_more id [] r = refl
look_more id (x ∷ xs) r = go (bytes_eq x.id id) (look_more id xs r)
  where
    go : (b : Bool) → look id (xs ++ r ∷ []) ≡ or_some (look id xs) (if bytes_eq r.id id then Some r else None)
        → cond b (Some x) (look id (xs ++ r ∷ [])) ≡ or_some (cond b (Some x) (look id xs)) (if bytes_eq r.id id then Some r else None)
    go true more = refl
    go false more = more

pub look_none : (id : Text) (rows : List Row) → has_row id rows ≡ false → look id rows ≡ None
look_none id [] none = refl
look_none id (x ∷ xs) none = go (bytes_eq x.id id) none (look_none id xs)
  where
    go : (b : Bool) → (b || has_row id xs) ≡ false → (has_row id xs ≡ false → look id xs ≡ None) → cond b (Some x) (look id xs) ≡ None
    go true rest more = absurd (true≢false rest)
    go false rest more = more rest

look_past : (id : Text) (rows : List Row) (other : Option Row) → has_row id rows ≡ true → look id rows ≡ or_some (look id rows) other
look_past id [] other some = absurd (true≢false (sym some))
look_past id (x ∷ xs) other some = go (bytes_eq x.id id) some (look_past id xs other)
  where
    go : (b : Bool) → (b || has_row id xs) ≡ true → (has_row id xs ≡ true → look id xs ≡ or_some (look id xs) other)
        → cond b (Some x) (look id xs) ≡ or_some (cond b (Some x) (look id xs)) other
    go true rest more = refl
    go false rest more = more rest

-- ---- the defaults

abbrev pub default_row : Text → Reading → List Text → Option Row
default_row id how [] = None
default_row id how (v ∷ vs) = Some (record { id = id; values = v ∷ vs; count = None; source = Some DefaultValue; reading = how })

abbrev default_at : Text → Rule → Option Row
default_at id a = if bytes_eq a.id id then default_row a.id (reading_by a) a.defaults else None

abbrev pub default_in : Text → List Rule → Option Row
default_in id [] = None
default_in id (a ∷ rest) = or_some (default_at id a) (default_in id rest)

look_default_rows : (id name : Text) (how : Reading) (values : List Text) (rows : List Row) → has_row name rows ≡ false
    → look id (default_rows name how values rows) ≡ or_some (look id rows) (if bytes_eq name id then default_row name how values else None)
look_default_rows id name how [] rows none = go (bytes_eq name id)
  where
    go : (b : Bool) → look id rows ≡ or_some (look id rows) (cond b None None)
    go true = sym (or_none (look id rows))
    go false = sym (or_none (look id rows))
look_default_rows id name how (v ∷ vs) rows none =
    ap (look id) (at_new name (more_values DefaultValue (v ∷ vs)) (record { id = name; values = v ∷ vs; count = None; source = Some DefaultValue; reading = how } ∷ []) rows none)
    ∙ look_more id rows (record { id = name; values = v ∷ vs; count = None; source = Some DefaultValue; reading = how })

look_with_default : (id : Text) (rows : List Row) (a : Rule) → look id (with_default rows a) ≡ or_some (look id rows) (default_at id a)
look_with_default id rows a = go (has_row a.id rows) refl
  where
    kept : (b : Bool) → bytes_eq a.id id ≡ b → has_row a.id rows ≡ true
        → look id rows ≡ or_some (look id rows) (cond b (default_row a.id (reading_by a) a.defaults) None)
    kept true same some = look_past id rows (default_row a.id (reading_by a) a.defaults) (ap (λ (name : Text). has_row name rows) (sym ((bytes_eq-Decides a.id id).0 same)) ∙ some)
    kept false same some = sym (or_none (look id rows))

    go : (b : Bool) → has_row a.id rows ≡ b → look id (cond b rows (default_rows a.id (reading_by a) a.defaults rows)) ≡ or_some (look id rows) (default_at id a)
    go true some = kept (bytes_eq a.id id) refl some
    go false none = look_default_rows id a.id (reading_by a) a.defaults rows none

-- a lookup finds the row that was there, or the default of the first argument with that name
pub look_finished : (id : Text) (arguments : List Rule) (rows : List Row) → look id (fold with_default rows arguments) ≡ or_some (look id rows) (default_in id arguments)
look_finished id [] rows = sym (or_none (look id rows))
look_finished id (a ∷ rest) rows =
    look_finished id rest (with_default rows a) ∙ ap (λ (o : Option Row). or_some o (default_in id rest)) (look_with_default id rows a)
    ∙ or_some_assoc (look id rows) (default_at id a) (default_in id rest)

-- ---- the defaults are values that pass

abbrev pub HavePlainDefaults : List Rule → Type 0
HavePlainDefaults [] = Unit {0}
HavePlainDefaults (a ∷ rest) = (given_default_fault a a.defaults ≡ []) × HavePlainDefaults rest

pub no_default_fault : (rows : List Row) (arguments : List Rule) → HavePlainDefaults arguments → defaults_fault rows arguments ≡ []
unfolding defaults_fault
no_default_fault rows [] plain = refl
no_default_fault rows (a ∷ rest) plain = ap (λ (k : Kinds). or_else k (defaults_fault (with_default rows a) rest)) (go (has_row a.id rows || is_empty a.defaults)) ∙ no_default_fault (with_default rows a) rest plain.1
  where
    go : (b : Bool) → cond b [] (given_default_fault a a.defaults) ≡ []
    go true = refl
    go false = plain.0
