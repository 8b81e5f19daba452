-- The reading of a line, step by step.
use Rattle.std.proofs.Common.{◌≡◌, ℕ, true, false, List, [], ◌∷◌, Some, Ok, refl, sym, ap, ◌∙◌, ℤ}
use Rattle.std.specs.Str.{IsUtf8, is_utf8}
use Rattle.std.specs.Str.Lossy.{utf8_valid_len}
use Rattle.std.proofs.lemmas.Bool.{false_from_ne_true}
use Rattle.std.proofs.lemmas.Str.{is_utf8-from_IsUtf8, IsUtf8-from_is_utf8}
use Rattle.opl_reader.specs.declared.fault.FaultKind.TheVariants.{NotUtf8}
use Rattle.opl_reader.specs.declared.fault.LineError.{LineError}
use Rattle.opl_reader.specs.declared.fault.LineError.TheVariants.{Fault, OutOfMemory}
use Rattle.osm_elements.specs.declared.object.ObjectKind.{ObjectKind}
use Rattle.opl_reader.specs.declared.content.Content.{Content}
use Rattle.opl_reader.specs.Reading.{◌>>=◌, Fails, no_reading}
use Rattle.opl_reader.specs.Parts.{Part, without_cr}
use Rattle.opl_reader.specs.Fields.{object_of, nothing}
use Rattle.opl_reader.specs.FieldReading.{with_fields}
use Rattle.opl_reader.specs.LineReading.{reading, reading_of, object_in_parts, head_at, fields_from}
use Rattle.opl_reader.specs.Steps.{begins_passed}

-- the first field of a line that is neither passed over nor other bytes than UTF-8, and the fields behind it
pub record Begins (line text : List ℕ) (place : ℕ) (head : List ℕ) (others : List Part) : Type 0 where
  pub is : text ≡ without_cr line
  pub utf8 : IsUtf8 text
  pub passed : begins_passed (fields_from 0 text) ≡ false
  pub fields : fields_from 0 text ≡ record { at = place; bytes = head } ∷ others

is_object : (line text : List ℕ) (place : ℕ) (head : List ℕ) (others : List Part) → Begins line text place head others
    → reading line ≡ (object_in_parts (record { at = place; bytes = head }) others >>= λ o. Ok (Some o))
unfolding reading
is_object line text place head others b =
    let first : Part = record { at = place; bytes = head } in
    let not_passed : begins_passed (first ∷ others) ≡ false = sym (ap begins_passed b.fields) ∙ b.passed in
    let valid : is_utf8 text ≡ true = is_utf8-from_IsUtf8 text b.utf8 in
    ap (λ (t : List ℕ). reading_of t (fields_from 0 t)) (sym b.is) ∙ ap (reading_of text) b.fields ∙ rw (not_passed, valid) refl

pub fails-head : (line text : List ℕ) (place : ℕ) (head : List ℕ) (others : List Part) (err : LineError) → Begins line text place head others → Fails err (head_at place head) → Fails err (reading line)
unfolding object_in_parts
fails-head line text place head others OutOfMemory b h = tt
fails-head line text place head others (Fault f) b h = is_object line text place head others b ∙ rw h refl

pub fails-fields : (line text : List ℕ) (place : ℕ) (head : List ℕ) (others : List Part) (kind : ObjectKind) (id : ℤ) (err : LineError) → Begins line text place head others → head_at place head ≡ Ok (kind, id)
    → Fails err (with_fields kind [] others nothing) → Fails err (reading line)
unfolding object_in_parts
fails-fields line text place head others kind id OutOfMemory b h r = tt
fails-fields line text place head others kind id (Fault f) b h r = is_object line text place head others b ∙ rw (h, r) refl

pub is_read : (line text : List ℕ) (place : ℕ) (head : List ℕ) (others : List Part) (kind : ObjectKind) (id : ℤ) (content : Content) → Begins line text place head others → head_at place head ≡ Ok (kind, id)
    → with_fields kind [] others nothing ≡ Ok content → reading line ≡ Ok (Some (object_of kind id content))
unfolding object_in_parts
is_read line text place head others kind id content b h r = is_object line text place head others b ∙ rw (h, r) refl

not_utf8 : (text : List ℕ) (fields : List Part) → begins_passed fields ≡ false → (IsUtf8 text → ⊥) → reading_of text fields ≡ no_reading NotUtf8 (utf8_valid_len text)
not_utf8 text [] passed bad = absurd cc
not_utf8 text (first ∷ others) passed bad =
    let b : is_utf8 text ≡ false = false_from_ne_true (is_utf8 text) (λ t. bad (IsUtf8-from_is_utf8 text t)) in
    rw (passed, b) refl

pub fails-utf8 : (line text : List ℕ) → text ≡ without_cr line → begins_passed (fields_from 0 text) ≡ false → (IsUtf8 text → ⊥) → reading line ≡ no_reading NotUtf8 (utf8_valid_len text)
unfolding reading
fails-utf8 line text is passed bad = ap (λ (t : List ℕ). reading_of t (fields_from 0 t)) (sym is) ∙ not_utf8 text (fields_from 0 text) passed bad
