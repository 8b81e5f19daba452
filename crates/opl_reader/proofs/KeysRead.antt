-- KEYS is read as the keys that it writes, and the other way round.
use Rattle.std.proofs.Common.{◌≡◌, ℕ, ◌+◌, ◌<◌, ◌≤◌, Bool, true, false, leb, ltb, not, ◌&&◌, cond, List, [], ◌∷◌, ◌++◌, length, Option, Some, None, Result, Ok, Err, Bor, refl, sym, ap, subst, ◌∙◌, append_assoc, arith}
use Rattle.std.specs.Prelude.{IfOk, IfSome, encode_utf8, is_some, option_map}
use Rattle.std.specs.List.{list_all, slice_split}
use Rattle.std.specs.Option.{option_copied}
use Rattle.std.specs.Str.{IsUtf8}
use Rattle.std.proofs.lemmas.Bool.{and_parts, ltb-true, leb-true, lt-ltb, le-leb, lt-leb}
use Rattle.std.proofs.lemmas.List.{append-nil, length-append}
use Rattle.std.proofs.lemmas.List.Sums.{AllPass-from_list_all, list_all-from_AllPass}
use Rattle.std.proofs.lemmas.List.Splits.{length-slice_split}
use Rattle.std.proofs.lemmas.Str.{length-encode, len_utf8_bounds}
use Rattle.opl_reader.specs.declared.fault.FaultKind.TheVariants.{BadEscape}
use Rattle.opl_reader.specs.declared.fault.LineFault.{LineFault}
use Rattle.opl_reader.specs.Reading.{or_fault}
use Rattle.opl_reader.specs.Parts.{IsSeparator}
use Rattle.opl_reader.specs.Strings.{IsString, ends, stands, escape}
use Rattle.opl_reader.specs.Items.{Each}
use Rattle.opl_reader.specs.StringReading.{string_of, string_at}
use Rattle.opl_reader.specs.ItemReading.{is_comma}
use Rattle.opl_reader.specs.Steps.{left_parts}
use Rattle.opl_reader.specs.Keys.{IsKey, AreKeys, is_inner, key_said, each_said, keys_said}
use Rattle.opl_reader.proofs.ItemLaws.{or_fault_ok}
use Rattle.opl_reader.proofs.PartedLaws.{separator_is, no_separator, commas, are_commas}
use Rattle.opl_reader.proofs.SpellingLaws.{map_some, and_then_some, read_is_spelled, spelled_is_read}

cond_then : {A : Type 0} (b : Bool) (o : Option A) (y : A) → cond b o None ≡ Some y → (b ≡ true) × (o ≡ Some y)
cond_then true o y e = (refl, e)
cond_then false o y e = absurd cc

pub one_of : {A : Type 0} (o : Option A) → is_some o ≡ true → (x : A) × (Some x ≡ o)
one_of None e = absurd cc
one_of (Some x) e = (x, refl)

pub none_of : {A : Type 0} (o : Option A) → is_some o ≡ false → None ≡ o
none_of None e = refl
none_of (Some x) e = absurd cc

-- ---- one key

text-some : (bytes key : List ℕ) → IsString bytes key → 0 < length bytes → 0 < length key
text-some bytes key ends some = absurd (omega arith)
text-some bytes key (stands b rest text ne s) some = omega arith
text-some bytes key (escape digits c rest text code s) some =
    let least = (len_utf8_bounds c).0 in
    omega (arith, length-append (encode_utf8 c) text, length-encode c)

bytes-some : (bytes key : List ℕ) → IsString bytes key → 0 < length key → 0 < length bytes
bytes-some bytes key ends some = absurd (omega arith)
bytes-some bytes key (stands b rest text ne s) some = omega arith
bytes-some bytes key (escape digits c rest text code s) some = omega arith

inner_is : (b : ℕ) → is_inner b ≡ true → ¬ IsSeparator b
inner_is b inner s = let e : not true ≡ true = rw (separator_is b s) at inner in absurd cc

is_inner_from : (b : ℕ) → ¬ IsSeparator b → is_inner b ≡ true
is_inner_from b none = ap not (no_separator b none)

pub key_is : (bytes key : List ℕ) → key_said bytes ≡ Some key → IsKey bytes key
unfolding key_said
key_is bytes key e =
    let s = cond_then (ltb 0 (length bytes) && list_all is_inner bytes) (string_of bytes) key e in
    let p = and_parts (ltb 0 (length bytes)) (list_all is_inner bytes) s.0 in
    let string = read_is_spelled bytes key s.1 in
    record {
      one_word = λ k d lt. inner_is _ (AllPass-from_list_all is_inner bytes p.1 k d lt);
      string = string;
      some = text-some bytes key string (ltb-true _ _ p.0);
    }

pub is_key : (bytes key : List ℕ) → IsKey bytes key → key_said bytes ≡ Some key
unfolding key_said
is_key bytes key h =
    let inner : list_all is_inner bytes ≡ true = list_all-from_AllPass is_inner bytes (λ k d lt. is_inner_from _ (h.one_word k d lt)) in
    rw (lt-ltb 0 (length bytes) (bytes-some bytes key h.string h.some), inner) (spelled_is_read bytes key h.string)

-- ---- one key, step by step

pub no-key : (bytes : List ℕ) → (ltb 0 (length bytes) && list_all is_inner bytes) ≡ false → false ≡ is_some (key_said bytes)
unfolding key_said
no-key bytes e = rw e refl

pub key-string : (bytes : List ℕ) → 0 < length bytes → list_all is_inner bytes ≡ true → string_of bytes ≡ key_said bytes
unfolding key_said
key-string bytes some inner = rw (lt-ltb 0 (length bytes) some, inner) refl

string-is : (bytes : List ℕ) → true ≡ is_some (key_said bytes) → key_said bytes ≡ string_of bytes
unfolding key_said
string-is bytes is = let one = one_of (key_said bytes) (sym is) in sym one.1 ∙ sym (cond_then (ltb 0 (length bytes) && list_all is_inner bytes) (string_of bytes) one.0 (sym one.1)).1

pub key-read : (place : ℕ) (bytes key : List ℕ) → true ≡ is_some (key_said bytes) → string_at place bytes ≡ Ok key → Some key ≡ key_said bytes
unfolding string_at
key-read place bytes key is e = sym (string-is bytes is ∙ or_fault_ok BadEscape place (string_of bytes) key e)

pub key-fails : (place : ℕ) (bytes : List ℕ) (f : LineFault) → true ≡ is_some (key_said bytes) → string_at place bytes ≡ Err f → None ≡ key_said bytes
unfolding string_at
key-fails place bytes f is e = sym (string-is bytes is ∙ failed (string_of bytes) e)
  where
    failed : (o : Option (List ℕ)) → or_fault BadEscape place o ≡ Err f → o ≡ None
    failed None e = refl
    failed (Some key) e = absurd cc

-- ---- each key

each_are : (parts keys : List (List ℕ)) → each_said parts ≡ Some keys → Each IsKey parts keys
each_are [] [] e = tt
each_are [] (key ∷ keys) e = absurd cc
each_are (part ∷ parts) keys e =
    let a = and_then_some (key_said part) (λ key. option_map (λ ks. key ∷ ks) (each_said parts)) keys e in
    let b = map_some (each_said parts) (λ ks. a.0 ∷ ks) keys a.2 in
    subst (Each IsKey (part ∷ parts)) b.2 (key_is part a.0 a.1, each_are parts b.0 b.1)

are_each : (parts keys : List (List ℕ)) → Each IsKey parts keys → each_said parts ≡ Some keys
are_each [] [] h = refl
are_each [] (key ∷ keys) h = absurd h
are_each (part ∷ parts) [] h = absurd h
are_each (part ∷ parts) (key ∷ keys) h = rw (is_key part key h.0, are_each parts keys h.1) refl

as_many : (parts keys : List (List ℕ)) → Each IsKey parts keys → length parts ≡ length keys
as_many [] [] h = refl
as_many [] (key ∷ keys) h = absurd h
as_many (part ∷ parts) [] h = absurd h
as_many (part ∷ parts) (key ∷ keys) h = let m = as_many parts keys h.1 in omega arith

pub said_are : (bytes : List ℕ) (keys : List (List ℕ)) → keys_said bytes ≡ Some keys → AreKeys bytes keys
unfolding keys_said
said_are bytes keys e =
    let parts = slice_split is_comma bytes in
    let s = cond_then (leb (length parts) 64) (each_said parts) keys e in
    let written = each_are parts keys s.1 in
    record { parts = parts; parted = commas bytes; written = written; few = let le = leb-true _ _ s.0 in let m = as_many parts keys written in omega arith }

pub are_said : (bytes : List ℕ) (keys : List (List ℕ)) → AreKeys bytes keys → keys_said bytes ≡ Some keys
unfolding keys_said
are_said bytes keys h =
    let few = h.few in
    let m = as_many h.parts keys h.written in
    rw (are_commas bytes h.parts h.parted, le-leb (length h.parts) 64 (omega arith)) (are_each h.parts keys h.written)

pub none_are : (bytes : List ℕ) (keys : List (List ℕ)) → None ≡ keys_said bytes → ¬ AreKeys bytes keys
none_are bytes keys none h = let e : ◌≡◌ {A = Option (List (List ℕ))} None (Some keys) = none ∙ are_said bytes keys h in absurd cc

-- ---- one key more at a time

-- what was read before, and what is still read
abbrev pub with_front : List (List ℕ) → Option (List (List ℕ)) → Option (List (List ℕ))
with_front front read = option_map (λ keys. front ++ keys) read

regroup : (front : List (List ℕ)) (key : List ℕ) (read : Option (List (List ℕ))) → with_front front (option_map (λ keys. key ∷ keys) read) ≡ with_front (front ++ key ∷ []) read
regroup front key None = refl
regroup front key (Some keys) = ap (λ (ks : List (List ℕ)). Some ks) (simp append_assoc)

begins : (read : Option (List (List ℕ))) → with_front [] read ≡ read
begins None = refl
begins (Some keys) = refl

-- front, of n keys, is read, and what is left is text that is still to be read
pub record KeysTo (front : List (List ℕ)) (left : Option (Bor (List ℕ))) (n : ℕ) (text : List ℕ) : Type 0 where
  pub utf8 : IfSome left (λ rest. IsUtf8 rest.now)
  pub count : n + length (left_parts (option_copied left)) ≡ length (slice_split is_comma text)
  pub so_far : with_front front (each_said (left_parts (option_copied left))) ≡ each_said (slice_split is_comma text)

pub keys-begin : (text : Bor (List ℕ)) → IsUtf8 text.now → KeysTo [] (Some text) 0 text.now
keys-begin text utf8 = record { utf8 = utf8; count = omega arith; so_far = begins (each_said (slice_split is_comma text.now)) }

module _ (front : List (List ℕ)) (rest : Bor (List ℕ)) (n : ℕ) (text : List ℕ) (so_far : KeysTo front (Some rest) n text) where
  module _ (item : List ℕ) (more : Option (Bor (List ℕ))) (parts : slice_split is_comma rest.now ≡ item ∷ left_parts (option_copied more)) where
    pub keys-on : (key : List ℕ) → IfSome more (λ left. IsUtf8 left.now) → Some key ≡ key_said item → KeysTo (front ++ key ∷ []) more (n + 1) text
    keys-on key utf8 is = record {
      utf8 = utf8;
      count = let count : n + length (item ∷ left_parts (option_copied more)) ≡ length (slice_split is_comma text) = rw parts at so_far.count in omega arith;
      so_far =
          let step : with_front front (each_said (slice_split is_comma rest.now)) ≡ with_front (front ++ key ∷ []) (each_said (left_parts (option_copied more))) =
          rw (parts, sym is) (regroup front key (each_said (left_parts (option_copied more)))) in
          sym step ∙ so_far.so_far;
    }

    pub keys-bad : None ≡ key_said item → None ≡ keys_said text
    unfolding keys_said
    keys-bad none =
        let e : None ≡ each_said (slice_split is_comma text) = sym (rw (parts, sym none) refl) ∙ so_far.so_far in
        rw (sym e) (sym (none-either (leb (length (slice_split is_comma text)) 64)))
      where
        none-either : (b : Bool) → cond {A = Option (List (List ℕ))} b None None ≡ None
        none-either true = refl
        none-either false = refl

  pub keys-many : 64 ≤ n → None ≡ keys_said text
  unfolding keys_said
  keys-many most =
      let some = length-slice_split is_comma rest.now in
      let count = so_far.count in
      let many : 64 < length (slice_split is_comma text) = omega arith in
      rw (lt-leb (length (slice_split is_comma text)) 64 many) refl

pub keys-done : (front : List (List ℕ)) (n : ℕ) (text : List ℕ) → KeysTo front None n text → n ≤ 64 → Some front ≡ keys_said text
unfolding keys_said
keys-done front n text so_far few =
    let count = so_far.count in
    let le : length (slice_split is_comma text) ≤ 64 = omega arith in
    rw (le-leb (length (slice_split is_comma text)) 64 le) (ap (λ (ks : List (List ℕ)). Some ks) (sym (append-nil front)) ∙ so_far.so_far)

pub many-left : (text : List ℕ) (left : Option (Bor (List ℕ))) (front : List (List ℕ)) (n : ℕ) → KeysTo front left n text → is_some left ≡ true → 64 ≤ n → None ≡ keys_said text
many-left text None front n so_far some most = absurd cc
many-left text (Some rest) front n so_far some most = keys-many front rest n text so_far most

pub none-left : (text : List ℕ) (left : Option (Bor (List ℕ))) (front : List (List ℕ)) (n : ℕ) → KeysTo front left n text → is_some left ≡ false → n ≤ 64 → Some front ≡ keys_said text
none-left text None front n so_far none few = keys-done front n text so_far few
none-left text (Some rest) front n so_far none few = absurd cc

-- ---- the same, where the keys themselves aren't kept

-- keys of the text stand before what is left
pub AfterKeys : Option (Bor (List ℕ)) → ℕ → List ℕ → Type 0
AfterKeys left n text = (front : List (List ℕ)) × KeysTo front left n text

pub after-begin : (text : Bor (List ℕ)) → IsUtf8 text.now → AfterKeys (Some text) 0 text.now
unfolding AfterKeys
after-begin text utf8 = ([], keys-begin text utf8)

pub after-done : (left : Option (Bor (List ℕ))) (n : ℕ) (text : List ℕ) → AfterKeys left n text → left ≡ None → n ≤ 64 → true ≡ is_some (keys_said text)
unfolding AfterKeys
after-done None n text after none few = ap is_some (keys-done after.0 n text after.1 few)
after-done (Some rest) n text after none few = absurd cc

pub after-bad : (rest : Bor (List ℕ)) (n : ℕ) (text item : List ℕ) (more : Option (Bor (List ℕ))) → AfterKeys (Some rest) n text → slice_split is_comma rest.now ≡ item ∷ left_parts (option_copied more)
    → is_some (key_said item) ≡ false → false ≡ is_some (keys_said text)
unfolding AfterKeys
after-bad rest n text item more after parts bad = ap is_some (keys-bad after.0 rest n text after.1 item more parts (none_of (key_said item) bad))

pub after-on : (rest : Bor (List ℕ)) (n : ℕ) (text item : List ℕ) (more : Option (Bor (List ℕ))) → AfterKeys (Some rest) n text → slice_split is_comma rest.now ≡ item ∷ left_parts (option_copied more)
    → IfSome more (λ left. IsUtf8 left.now) → is_some (key_said item) ≡ true → AfterKeys more (n + 1) text
unfolding AfterKeys
after-on rest n text item more after parts utf8 good = let key = one_of (key_said item) good in (after.0 ++ key.0 ∷ [], keys-on after.0 rest n text after.1 item more parts key.0 utf8 key.1)

pub after-end : (left : Option (Bor (List ℕ))) (n : ℕ) (text : List ℕ) (at_end : Bool) → AfterKeys left n text → n ≡ 64 → not at_end ≡ is_some left → at_end ≡ is_some (keys_said text)
unfolding AfterKeys
after-end None n text true after most e = ap is_some (keys-done after.0 n text after.1 (omega arith))
after-end None n text false after most e = absurd cc
after-end (Some rest) n text true after most e = absurd cc
after-end (Some rest) n text false after most e = ap is_some (keys-many after.0 rest n text after.1 (omega arith))

-- ---- what a call returned

module _ {E : Type 0} (text : List ℕ) where
  pub told-keys : (r : Result (Option (List (List ℕ))) E) → IfOk r (λ read. read ≡ keys_said text) → IfOk r (λ read. IfSome read (AreKeys text))
  told-keys (Ok None) e = tt
  told-keys (Ok (Some keys)) e = said_are text keys (sym e)
  told-keys (Err error) e = tt

  pub told-none : (r : Result (Option (List (List ℕ))) E) → IfOk r (λ read. read ≡ keys_said text) → IfOk r (λ read. read ≡ None → (keys : List (List ℕ)) → ¬ AreKeys text keys)
  told-none (Ok read) e = λ none keys. none_are text keys (sym none ∙ e)
  told-none (Err error) e = tt
