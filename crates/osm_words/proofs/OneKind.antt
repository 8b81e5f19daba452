-- A parse by a command without subcommands fails by one kind of error alone. No public contract cites it.
use Rattle.std.proofs.Common.{◌≡◌, ◌+◌, ◌==◌, ◌&&◌, ◌||◌, ℕ, Bool, cond, subst, true, false, not, zero, suc, List, [], ◌∷◌, Option, Some, None, Result, Err, inl, inr, sym, ap, ◌∙◌, min, length, drop, nat_lt, is_some}
use Rattle.std.specs.Option.{option_map_or}
use Rattle.std.specs.Prelude.{encode_utf8, slice_get}
use Rattle.std.specs.Str.{bytes_eq, chars}
use Rattle.clap.specs.Words.{App, Kinds, Row, Rule, Shape, Text, built, fault_of}
use Rattle.clap.specs.Kinds.{HasKind, IsAmong, check_kinds, or_else, range_kinds, request_kinds, value_kinds, values_kinds}
use Rattle.clap.specs.Facts.{parser_of_value, unwrap_or_range}
use Rattle.clap.specs.Faults.{action_fault, bundle_fault, bundle_step_fault, check_fault, count_fault, default_fault, defaults_fault, flag_word_fault, flags_fault, given_default_fault, level_fault, long_fault, option_fault, other_fault, positional_fault, react_fault, repeat_fault, set_fault, settle_fault, short_fault, step_fault, turn_fault, use_fault, values_fault, walk_fault, word_fault}
use Rattle.clap.specs.Lexer.{long_of, short_of}
use Rattle.clap.specs.Matches.{count_text}
use Rattle.clap.specs.Simple.{argument_words}
use Rattle.clap.specs.Values.{kind_of, refused_kind}
use Rattle.clap.specs.declared.error.Error.{Error}
use Rattle.clap.specs.ValueTests.{accepts}
use Rattle.clap.specs.Walk.{Held, Step, Waiting, Walk, action_of, arg_by_id, arg_by_index, arg_by_long, arg_by_short, attached_value, count_of, finished, has_row, idle, is_empty, is_pending, most_values, next, nothing_held, option, positional, reacted, settled, subcommand, takes_several, takes_values, trailing, value, values_or_missing, walk, walk_from, walked, with_default, word_met}
use Rattle.clap.specs.declared.builder.action.ArgAction.{ArgAction}
use Rattle.clap.specs.declared.builder.action.ArgAction.TheVariants.{Set, Append, SetTrue, SetFalse, Count, Help, HelpShort, HelpLong, Version}
use Rattle.clap.specs.declared.builder.value_parser.ValueParser.{ValueParser}
use Rattle.clap.specs.declared.error.kind.ErrorKind.{ErrorKind}
use Rattle.clap.specs.declared.error.kind.ErrorKind.TheVariants as fault
use Rattle.osm_words.specs.Parsed.{unless_refused}
use Rattle.osm_words.specs.Private.{AnswersBy, IsRefusal}
use Rattle.osm_words.specs.declared.fault.WordsFault.{WordsFault}
use Rattle.osm_words.specs.declared.fault.WordsFault.TheVariants.{Refused}
use Rattle.osm_words.specs.declared.fault.WordsError.{WordsError}
use Rattle.osm_words.specs.declared.fault.WordsError.TheVariants.{BadWords, OutOfMemory}
use Rattle.clap.proofs.FaultLemmas.{leaf_fault}

abbrev pub AtMostOne : Kinds → Type 0
AtMostOne [] = Unit {0}
AtMostOne (kind ∷ []) = Unit {0}
AtMostOne (kind ∷ other ∷ others) = ⊥

either : (a b : Kinds) → AtMostOne a → AtMostOne b → AtMostOne (or_else a b)
either [] b one two = two
either (k ∷ []) b one two = tt
either (k ∷ l ∷ ks) b one two = one

when : (b : Bool) (x y : Kinds) → AtMostOne x → AtMostOne y → AtMostOne (cond b x y)
when true x y one two = one
when false x y one two = two

where_some : {X : Type 0} (f : X → Kinds) (o : Option X) (missing : Kinds) → ((x : X) → AtMostOne (f x)) → AtMostOne missing → AtMostOne (option_map_or f o missing)
where_some f None missing each one = one
where_some f (Some x) missing each one = each x

of_value : (ignore_case : Bool) (parser : ValueParser) (text : Text) → AtMostOne (value_kinds ignore_case parser text)
of_value ignore_case parser text = when (accepts ignore_case parser text) [] (refused_kind parser ∷ []) tt tt

of_values : (ignore_case : Bool) (parser : ValueParser) (values : List Text) → AtMostOne (values_kinds ignore_case parser values)
of_values ignore_case parser [] = tt
of_values ignore_case parser (v ∷ vs) = either (value_kinds ignore_case parser v) (values_kinds ignore_case parser vs) (of_value ignore_case parser v) (of_values ignore_case parser vs)

of_range : (least most n : ℕ) → AtMostOne (range_kinds least most n)
of_range least most n = go (nat_lt 0 least && n == 0) (least == most) (least == n) (nat_lt n least) (nat_lt most n)
  where
    go : (a b c d e : Bool) → AtMostOne (cond a (fault.InvalidValue ∷ [])
        (cond b (cond c [] (fault.WrongNumberOfValues ∷ []))
        (cond d (fault.TooFewValues ∷ [])
        (cond e (fault.TooManyValues ∷ []) []))))
    go true b c d e = tt
    go false true true d e = tt
    go false true false d e = tt
    go false false c true e = tt
    go false false c false true = tt
    go false false c false false = tt

of_request : (x : ArgAction) → AtMostOne (request_kinds x)
of_request Set = tt
of_request Append = tt
of_request SetTrue = tt
of_request SetFalse = tt
of_request Count = tt
of_request Help = tt
of_request HelpShort = tt
of_request HelpLong = tt
of_request Version = tt

of_repeat : (again : Bool) (id : Text) (rows : List Row) → AtMostOne (repeat_fault again id rows)
of_repeat again id rows = when (has_row id rows && not again) (fault.ArgumentConflict ∷ []) [] tt tt

of_set : (again : Bool) (a : Rule) (values : List Text) (rows : List Row) → AtMostOne (set_fault again a values rows)
of_set again a values rows = either (repeat_fault again a.id rows) (values_fault a values) (of_repeat again a.id rows) (of_values a.ignore_case (parser_of_value a.parser) values)

of_count : (a : Rule) (values : List Text) (rows : List Row) → AtMostOne (count_fault a values rows)
of_count a [] rows = of_value a.ignore_case (parser_of_value a.parser) (count_text (min (count_of a.id rows + 1) 255))
of_count a (v ∷ vs) rows = of_values a.ignore_case (parser_of_value a.parser) (v ∷ vs)

of_action : (x : ArgAction) (again : Bool) (a : Rule) (values : List Text) (rows : List Row) → AtMostOne (action_fault x again a values rows)
of_action Set again a values rows = of_set again a values rows
of_action SetTrue again a values rows = of_set again a values rows
of_action SetFalse again a values rows = of_set again a values rows
of_action Append again a values rows = of_values a.ignore_case (parser_of_value a.parser) values
of_action Count again a values rows = of_count a values rows
of_action Help again a values rows = tt
of_action HelpShort again a values rows = tt
of_action HelpLong again a values rows = tt
of_action Version again a values rows = tt

of_use : (again : Bool) (a : Rule) (values : List Text) (rows : List Row) → AtMostOne (use_fault again a values rows)
of_use again a values rows =
    either (range_kinds (unwrap_or_range a.range).start_inclusive (most_values a) (length values)) (action_fault (action_of a) again a (values_or_missing a values) rows)
    (of_range (unwrap_or_range a.range).start_inclusive (most_values a) (length values)) (of_action (action_of a) again a (values_or_missing a values) rows)

of_settle : (c : List Rule) (again : Bool) (h : Held) → AtMostOne (settle_fault c again h)
of_settle c again h =
    where_some (λ (p : Text × List Text). option_map_or (λ (a : Rule). use_fault again a p.1 h.rows) (arg_by_id c p.0) []) h.pending []
    (λ p. where_some (λ (a : Rule). use_fault again a p.1 h.rows) (arg_by_id c p.0) [] (λ a. of_use again a p.1 h.rows) tt) tt

of_react : (c : List Rule) (again : Bool) (a : Rule) (values : List Text) (h : Held) → AtMostOne (react_fault c again a values h)
of_react c again a values h =
    either (settle_fault c again h) (use_fault again a values (settled c h).rows) (of_settle c again h) (of_use again a values (settled c h).rows)

of_option : (c : List Rule) (again : Bool) (a : Rule) (v : Option Text) (h : Held) → AtMostOne (option_fault c again a v h)
of_option c again a (Some v) h = of_react c again a (v ∷ []) h
of_option c again a None h = of_settle c again h

of_long : (c : List Rule) (again : Bool) (found : Option Rule) (v : Option Text) (h : Held) → AtMostOne (long_fault c again found v h)
of_long c again None v h = tt
of_long c again (Some a) v h =
    when (takes_values a) (option_fault c again a v h) (cond (is_some v) (fault.TooManyValues ∷ []) (react_fault c again a [] h))
    (of_option c again a v h) (when (is_some v) (fault.TooManyValues ∷ []) (react_fault c again a [] h) tt (of_react c again a [] h))

of_short : (c : List Rule) (again : Bool) (found : Option Rule) (rest : Text) (h : Held) (more : Held → Kinds) → ((g : Held) → AtMostOne (more g))
    → AtMostOne (short_fault c again found rest h more)
of_short c again None rest h more each = tt
of_short c again (Some a) rest h more each =
    when (takes_values a) (option_fault c again a (attached_value rest) h) (or_else (react_fault c again a [] h) (more (reacted c a [] h)))
    (of_option c again a (attached_value rest) h) (either (react_fault c again a [] h) (more (reacted c a [] h)) (of_react c again a [] h) (each (reacted c a [] h)))

of_bundle_step : (c : List Rule) (again : Bool) (x : Option ℕ) (flags : Text) (skip : ℕ) (h : Held) (more : Text → ℕ → Held → Kinds)
    → ((t : Text) (n : ℕ) (g : Held) → AtMostOne (more t n g)) → AtMostOne (bundle_step_fault c again x flags skip h more)
of_bundle_step c again None flags skip h more each = tt
of_bundle_step c again (Some x) flags zero h more each =
    of_short c again (arg_by_short c x) (drop (length (encode_utf8 x)) flags) h (more (drop (length (encode_utf8 x)) flags) 0) (each (drop (length (encode_utf8 x)) flags) 0)
of_bundle_step c again (Some x) flags (suc skip) h more each = each (drop (length (encode_utf8 x)) flags) skip h

of_flags : (c : List Rule) (again : Bool) (k : ℕ) (flags : Text) (skip : ℕ) (h : Held) → AtMostOne (flags_fault c again k flags skip h)
unfolding flags_fault
of_flags c again zero flags skip h = tt
of_flags c again (suc k) flags skip h = of_bundle_step c again (slice_get (chars flags) 0) flags skip h (flags_fault c again k) (of_flags c again k)

of_flag_word : (c : List Rule) (again : Bool) (p : Option (Text × Option Text)) (word : Text) (h : Held) → AtMostOne (flag_word_fault c again p word h)
of_flag_word c again (Some p) word h = of_long c again (arg_by_long c p.0) p.1 h
of_flag_word c again None word h =
    where_some (λ (flags : Text). bundle_fault c again flags h) (short_of word) [] (λ flags. of_flags c again (length flags) flags h.skip (record h { skip = 0 })) tt

of_other : (s : Shape) (word : Text) (h : Held) → AtMostOne (other_fault s None word h)
of_other s word h =
    when (bytes_eq word (45 ∷ 45 ∷ [])) [] (flag_word_fault s.rules s.args_override_self (long_of word) word h) tt (of_flag_word s.rules s.args_override_self (long_of word) word h)

of_word : (s : Shape) (is_trailing : Bool) (waiting : Waiting) (word : Text) (h : Held) → AtMostOne (word_fault s [] is_trailing waiting word h)
of_word s true waiting word h = tt
of_word s false idle word h = of_other s word h
of_word s false (option id) word h = of_other s word h
of_word s false positional word h = of_other s word h

of_positional : (c : List Rule) (again : Bool) (a : Rule) (h : Held) → AtMostOne (positional_fault c again a h)
of_positional c again a h = when (is_pending a h.pending && takes_several a) [] (settle_fault c again h) tt (of_settle c again h)

of_step : (s : Shape) (position : ℕ) (h : Held) (step : Step) → s.is_leaf ≡ true → AtMostOne (step_fault s position h step)
of_step s position h (next waiting) leaf = tt
of_step s position h (trailing n) leaf = tt
of_step s position h (subcommand name) leaf = tt
of_step s position h value leaf =
    where_some (λ (a : Rule). positional_fault s.rules s.args_override_self a h) (arg_by_index s.rules position) _ (λ a. of_positional s.rules s.args_override_self a h)
    (subst (λ (b : Bool). AtMostOne (cond b (fault.UnknownArgument ∷ []) (fault.UnknownArgument ∷ fault.InvalidSubcommand ∷ []))) (sym leaf) tt)

of_turn : (s : Shape) (w : Walk) (word : Text) → s.is_leaf ≡ true → AtMostOne (turn_fault s [] w word)
of_turn s w word leaf =
    let met = word_met s.rules [] w.is_trailing w.waiting w.position word w.held in
    when (is_some w.stopped) [] (or_else (word_fault s [] w.is_trailing w.waiting word w.held) (step_fault s w.position met.0 met.1)) tt
    (either (word_fault s [] w.is_trailing w.waiting word w.held) (step_fault s w.position met.0 met.1) (of_word s w.is_trailing w.waiting word w.held) (of_step s w.position met.0 met.1 leaf))

of_walk : (s : Shape) (w : Walk) (words : List Text) → s.is_leaf ≡ true → AtMostOne (walk_fault s [] w words)
unfolding walk_fault
of_walk s w [] leaf = tt
of_walk s w (word ∷ rest) leaf =
    either (turn_fault s [] w word) (walk_fault s [] (walked s.rules [] w word) rest) (of_turn s w word leaf) (of_walk s (walked s.rules [] w word) rest leaf)

of_default : (rows : List Row) (a : Rule) → AtMostOne (default_fault rows a)
of_default rows a =
    when (has_row a.id rows || is_empty a.defaults) [] (given_default_fault a a.defaults) tt
    (either (request_kinds (action_of a)) (values_fault a a.defaults) (of_request (action_of a)) (of_values a.ignore_case (parser_of_value a.parser) a.defaults))

of_defaults : (rows : List Row) (arguments : List Rule) → AtMostOne (defaults_fault rows arguments)
unfolding defaults_fault
of_defaults rows [] = tt
of_defaults rows (a ∷ rest) = either (default_fault rows a) (defaults_fault (with_default rows a) rest) (of_default rows a) (of_defaults (with_default rows a) rest)

of_check : (help wants argument : Bool) → AtMostOne (check_kinds help wants argument)
of_check true wants argument = tt
of_check false true argument = tt
of_check false false true = tt
of_check false false false = tt

of_level : (s : Shape) (h : Held) (words : List Text) → s.is_leaf ≡ true → AtMostOne (level_fault s [] h words false [])
of_level s h words leaf =
    let end = (walk s.rules [] h words).held in
    let checks = check_fault s (finished s.rules end) false in
    let defaults = defaults_fault (settled s.rules end).rows s.rules in
    let settles = settle_fault s.rules s.args_override_self end in
    either (walk_fault s [] (walk_from h) words) (or_else settles (or_else defaults checks)) (of_walk s (walk_from h) words leaf)
    (either settles (or_else defaults checks) (of_settle s.rules s.args_override_self end)
    (either defaults checks (of_defaults (settled s.rules end).rows s.rules) (of_check _ _ _)))

-- a command that is built, without subcommands
pub one_kind : (a : App) (words : List Text) → (built a).subs ≡ [] → (built a).top.is_leaf ≡ true → AtMostOne (fault_of a words)
one_kind a words none leaf =
    subst AtMostOne (sym (leaf_fault (built a) nothing_held (argument_words a words) none)) (of_level (built a).top nothing_held (argument_words a words) leaf)

refused_by : {S : Type 0} (kinds : Kinds) (kind : ErrorKind) (said : Result S WordsFault) → AtMostOne kinds → IsAmong kind kinds → unless_refused kinds said ≡ Err (Refused kind)
refused_by [] kind said one among = absurd among
refused_by (k ∷ []) kind said one (inl same) = ap (λ (x : ErrorKind). Err (Refused x)) (sym same)
refused_by (k ∷ []) kind said one (inr none) = absurd none
refused_by (k ∷ l ∷ ks) kind said one among = absurd one

-- the kind of the error with which a command without subcommands fails is the one that refuses the words
pub refuses_by : {S C : Type 0} (seen : C → S) (a : App) (words : List Text) (said : Result S WordsFault) (e : Error) (kind : ErrorKind) (error : WordsError)
    → (built a).subs ≡ [] → (built a).top.is_leaf ≡ true → HasKind (fault_of a words) e → kind ≡ kind_of e → IsRefusal kind error
    → AnswersBy seen (unless_refused (fault_of a words) said) (Err error)
refuses_by seen a words said e kind OutOfMemory none leaf has is refusal = tt
refuses_by seen a words said e kind (BadWords cause) none leaf (inl wanting) is refusal = absurd (refusal.1 (is ∙ wanting))
refuses_by seen a words said e kind (BadWords cause) none leaf (inr among) is refusal =
    refused_by (fault_of a words) kind said (one_kind a words none leaf) (subst (λ (k : ErrorKind). IsAmong k (fault_of a words)) (sym is) among)
    ∙ ap Err (sym refusal.0)
