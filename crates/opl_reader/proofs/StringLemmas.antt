-- A string, one escape more at a time.
use Rattle.std.proofs.Common.{◌≡◌, ℕ, ◌==◌, true, false, List, [], ◌∷◌, ◌++◌, Option, Some, None, Ok, refl, sym, ap, ◌∙◌, append_assoc}
use Rattle.std.specs.Prelude.{option_map, option_and_then, encode_utf8, is_some}
use Rattle.std.specs.List.{slice_split}
use Rattle.std.specs.Str.{IsUtf8}
use Rattle.opl_reader.specs.declared.fault.FaultKind.TheVariants.{BadEscape}
use Rattle.opl_reader.specs.Reading.{no_reading}
use Rattle.opl_reader.specs.StringReading.{code_point, joined_text, string_of, string_at}
use Rattle.lists.proofs.ListsKit.{is_some-map}

abbrev pub parts : List ℕ → List (List ℕ)
parts bytes = slice_split (λ b. b == 37) bytes

-- what was read before, and what is still read
abbrev pub with_front : List ℕ → Option (List ℕ) → Option (List ℕ)
with_front front read = option_map (λ t. front ++ t) read

pub string-plain : (bytes : List ℕ) → parts bytes ≡ bytes ∷ [] → string_of bytes ≡ Some bytes
unfolding string_of joined_text
string-plain bytes e = rw e refl

string-step : (bytes plain escape after more : List ℕ) (c : ℕ) → parts bytes ≡ plain ∷ parts after → parts after ≡ escape ∷ parts more → code_point escape ≡ Some c
    → string_of bytes ≡ option_map (λ rest. plain ++ encode_utf8 c ++ rest) (string_of more)
unfolding string_of joined_text
string-step bytes plain escape after more c e f g = rw (e, f, g) refl

joined-one : (plain : List ℕ) (rest : List (List ℕ)) (o : Option ℕ) (escape : List ℕ) → code_point escape ≡ None → joined_text (plain ∷ escape ∷ rest) ≡ None
unfolding joined_text
joined-one plain rest o escape e = rw e refl

ends-inside : (o : Option ℕ) (f : ℕ → Option (List ℕ)) → ((c : ℕ) → f c ≡ None) → option_and_then f o ≡ None
ends-inside None f h = refl
ends-inside (Some c) f h = h c

string-open : (bytes plain after : List ℕ) → parts bytes ≡ plain ∷ parts after → parts after ≡ after ∷ [] → string_of bytes ≡ None
unfolding string_of joined_text
string-open bytes plain after e f = rw (e, f) (ends-inside (code_point after) _ (λ c. refl))

string-bad : (bytes plain escape after more : List ℕ) → parts bytes ≡ plain ∷ parts after → parts after ≡ escape ∷ parts more → code_point escape ≡ None → string_of bytes ≡ None
unfolding string_of
string-bad bytes plain escape after more e f g = ap joined_text (e ∙ ap (λ (x : List (List ℕ)). plain ∷ x) f) ∙ joined-one plain (parts more) None escape g

regroup : (front plain code : List ℕ) (o : Option (List ℕ)) → with_front front (option_map (λ rest. plain ++ code ++ rest) o) ≡ with_front (front ++ plain ++ code) o
regroup front plain code None = refl
regroup front plain code (Some rest) = ap (λ (t : List ℕ). Some t) (simp append_assoc)

pub goes_on : (front text bytes plain escape after more : List ℕ) (c : ℕ) → parts bytes ≡ plain ∷ parts after → parts after ≡ escape ∷ parts more → Some c ≡ code_point escape
    → with_front front (string_of bytes) ≡ string_of text → with_front (front ++ plain ++ encode_utf8 c) (string_of more) ≡ string_of text
goes_on front text bytes plain escape after more c e f g so_far =
    sym (ap (with_front front) (string-step bytes plain escape after more c e f (sym g)) ∙ regroup front plain (encode_utf8 c) (string_of more)) ∙ so_far

fails : (place : ℕ) (front text bytes : List ℕ) → string_of bytes ≡ None → with_front front (string_of bytes) ≡ string_of text → string_at place text ≡ no_reading BadEscape place
unfolding string_at
fails place front text bytes none so_far =
    let e : string_of text ≡ None = sym so_far ∙ ap (with_front front) none in rw e refl

pub fails-open : (place : ℕ) (front text bytes plain after : List ℕ) → parts bytes ≡ plain ∷ parts after → parts after ≡ after ∷ []
    → with_front front (string_of bytes) ≡ string_of text → string_at place text ≡ no_reading BadEscape place
fails-open place front text bytes plain after e f so_far = fails place front text bytes (string-open bytes plain after e f) so_far

pub fails-code : (place : ℕ) (front text bytes plain escape after more : List ℕ) → parts bytes ≡ plain ∷ parts after → parts after ≡ escape ∷ parts more → None ≡ code_point escape
    → with_front front (string_of bytes) ≡ string_of text → string_at place text ≡ no_reading BadEscape place
fails-code place front text bytes plain escape after more e f g so_far = fails place front text bytes (string-bad bytes plain escape after more e f (sym g)) so_far

pub is_read : (place : ℕ) (front text bytes : List ℕ) → parts bytes ≡ bytes ∷ [] → with_front front (string_of bytes) ≡ string_of text → string_at place text ≡ Ok (front ++ bytes)
unfolding string_at
is_read place front text bytes e so_far =
    let is : string_of text ≡ Some (front ++ bytes) = sym so_far ∙ ap (with_front front) (string-plain bytes e) in rw is refl

pub begins : (text : List ℕ) → (o : Option (List ℕ)) → with_front [] o ≡ o
begins text None = refl
begins text (Some t) = refl

-- front is read, and rest is text that is still to be read
pub record ReadTo (front rest text : List ℕ) : Type 0 where
  pub utf8 : IsUtf8 rest
  pub so_far : with_front front (string_of rest) ≡ string_of text

-- ---- whether a string stands here

-- the rest is a string exactly where the text is one
pub record TestedTo (rest text : List ℕ) : Type 0 where
  pub utf8 : IsUtf8 rest
  pub so_far : is_some (string_of rest) ≡ is_some (string_of text)

pub tested-on : (text rest plain escape after more : List ℕ) (c : ℕ) → parts rest ≡ plain ∷ parts after → parts after ≡ escape ∷ parts more → Some c ≡ code_point escape
    → is_some (string_of rest) ≡ is_some (string_of text) → is_some (string_of more) ≡ is_some (string_of text)
tested-on text rest plain escape after more c e f g so_far =
    sym (ap is_some (string-step rest plain escape after more c e f (sym g)) ∙ is_some-map (λ (t : List ℕ). plain ++ encode_utf8 c ++ t) (string_of more)) ∙ so_far

pub tested-open : (text rest plain after : List ℕ) → parts rest ≡ plain ∷ parts after → parts after ≡ after ∷ [] → is_some (string_of rest) ≡ is_some (string_of text) → false ≡ is_some (string_of text)
tested-open text rest plain after e f so_far = sym (ap is_some (string-open rest plain after e f)) ∙ so_far

pub tested-bad : (text rest plain escape after more : List ℕ) → parts rest ≡ plain ∷ parts after → parts after ≡ escape ∷ parts more → None ≡ code_point escape
    → is_some (string_of rest) ≡ is_some (string_of text) → false ≡ is_some (string_of text)
tested-bad text rest plain escape after more e f g so_far = sym (ap is_some (string-bad rest plain escape after more e f (sym g))) ∙ so_far

pub tested-end : (text rest : List ℕ) → parts rest ≡ rest ∷ [] → is_some (string_of rest) ≡ is_some (string_of text) → true ≡ is_some (string_of text)
tested-end text rest e so_far = sym (ap is_some (string-plain rest e)) ∙ so_far
