-- Items, one more at a time.
use Rattle.std.proofs.Common.{◌≡◌, ℕ, suc, ◌+◌, ◌^◌, ◌<◌, ◌≤◌, Bool, true, false, cond, eqb, ltb, leb, List, [], ◌∷◌, ◌++◌, length, get_or, take, drop, pos, Option, Some, None, Result, Ok, Err, Bor, refl, sym, ap, ◌∙◌, inl, inr, append_assoc, arith}
use Rattle.std.specs.Prelude.{IfSome}
use Rattle.std.specs.Option.{option_copied}
use Rattle.std.specs.Char.{is_ascii_digit}
use Rattle.std.specs.List.{slice_split, list_all, position_or_len}
use Rattle.std.specs.Str.Parse.{digits_value}
use Rattle.std.specs.Str.{IsUtf8}
use Rattle.std.proofs.lemmas.Bool.{and_parts, eqb-true, eqb-false, ne_eqb, lt-ltb, le-ltb, le-leb, leb-true}
use Rattle.std.proofs.lemmas.List.{append-nil, take_all, length-take, length-drop}
use Rattle.opl_reader.specs.declared.fault.LineFault.{LineFault}
use Rattle.opl_reader.specs.declared.fault.LineError.{LineError}
use Rattle.opl_reader.specs.declared.fault.LineError.TheVariants.{Fault, OutOfMemory}
use Rattle.opl_reader.specs.declared.fault.FaultKind.TheVariants.{BadReference}
use Rattle.osm_elements.specs.declared.object.Ref.{Ref}
use Rattle.opl_reader.specs.Reading.{◌>>=◌, Fails, or_fault}
use Rattle.opl_reader.specs.Parts.{Part}
use Rattle.opl_reader.specs.ItemReading.{placed, is_comma, items, each, ref_behind, ref_spelled, ref_at}
use Rattle.opl_reader.specs.NumberReading.{id_spelled, magnitude_of}
use Rattle.opl_reader.specs.Steps.{LeadingDigits, BeginsWithRef, IsFirstRef, all_left, left_parts, left_len}
use Rattle.opl_reader.proofs.CutLemmas.{split-none, split-some, passes-at}
use Rattle.opl_reader.proofs.NumberLemmas.{first_behind}

-- what was read before, and what is still read
abbrev pub with_front : {A : Type 0} → List A → Result (List A) LineFault → Result (List A) LineFault
with_front front reading = reading >>= λ xs. Ok (front ++ xs)

regroup : {A : Type 0} (front : List A) (x : A) (reading : Result (List A) LineFault) → with_front front (reading >>= λ xs. Ok (x ∷ xs)) ≡ with_front (front ++ x ∷ []) reading
regroup front x (Ok xs) = ap (λ (ys : List _). Ok ys) (simp append_assoc)
regroup front x (Err f) = refl

-- front is read, and what is left begins at a byte of the text that begins at place
pub record ItemsTo {A : Type 0} (read : ℕ → List ℕ → Result A LineFault) (front : List A) (at : ℕ) (left : Option (Bor (List ℕ))) (place : ℕ) (text : List ℕ) : Type 0 where
  pub utf8 : IfSome left (λ rest. IsUtf8 rest.now)
  pub room : at + left_len (option_copied left) ≤ place + length text + 1
  pub so_far : with_front front (each read (placed at (left_parts (option_copied left)))) ≡ each read (items place text)

module _ {A : Type 0} (read : ℕ → List ℕ → Result A LineFault) where
  begins : (parts : List Part) → with_front [] (each read parts) ≡ each read parts
  begins parts = same (each read parts)
    where
      same : (r : Result (List A) LineFault) → with_front [] r ≡ r
      same (Ok xs) = refl
      same (Err f) = refl

  starts : (place : ℕ) (text : List ℕ) (b : Bool) → (b ≡ false → 0 < length text)
      → (place + left_len (cond b None (Some text)) ≤ place + length text + 1) × (with_front [] (each read (placed place (left_parts (cond b None (Some text))))) ≡ each read (placed place (cond b [] (slice_split is_comma text))))
  starts place text true h = (omega arith, refl)
  starts place text false h = (omega arith, begins (placed place (slice_split is_comma text)))

  pub begins-all : (place : ℕ) (text : List ℕ) (left : Option (Bor (List ℕ))) → option_copied left ≡ all_left text → IfSome left (λ rest. IsUtf8 rest.now) → ItemsTo read [] place left place text
  unfolding items
  begins-all place text left e utf8 =
      let s = starts place text (eqb (length text) 0) (λ f. let ne : length text ≡ 0 → ⊥ = eqb-false _ _ f in omega arith) in
      record { utf8 = utf8; room = rw e s.0; so_far = rw e s.1 }

  stepped : (front : List A) (at : ℕ) (rest item : List ℕ) (more : Option (List ℕ)) (x : A) → slice_split is_comma rest ≡ item ∷ left_parts more → read at item ≡ Ok x
      → with_front front (each read (placed at (slice_split is_comma rest))) ≡ with_front (front ++ x ∷ []) (each read (placed (at + length item + 1) (left_parts more)))
  stepped front at rest item more x e r = rw (e, r) (regroup front x (each read (placed (at + length item + 1) (left_parts more))))

  pub goes_on : (front : List A) (at : ℕ) (rest : Bor (List ℕ)) (item : List ℕ) (more : Option (Bor (List ℕ))) (x : A) (place : ℕ) (text : List ℕ)
      → slice_split is_comma rest.now ≡ item ∷ left_parts (option_copied more) → length item + left_len (option_copied more) ≡ length rest.now → IfSome more (λ left. IsUtf8 left.now)
      → read at item ≡ Ok x → ItemsTo read front at (Some rest) place text → ItemsTo read (front ++ x ∷ []) (at + (length item + 1)) more place text
  goes_on front at rest item more x place text e len utf8 r so_far = record {
    utf8 = utf8;
    room = let room = so_far.room in omega arith;
    so_far =
        let next : at + length item + 1 ≡ at + (length item + 1) = omega arith in
        let s = stepped front at rest.now item (option_copied more) x e r in
        sym (rw next at s) ∙ so_far.so_far;
  }

  pub stops : (front : List A) (at : ℕ) (rest : Bor (List ℕ)) (item : List ℕ) (more : Option (List ℕ)) (f : LineFault) (place : ℕ) (text : List ℕ)
      → slice_split is_comma rest.now ≡ item ∷ left_parts more → read at item ≡ Err f → ItemsTo read front at (Some rest) place text → each read (items place text) ≡ Err f
  stops front at rest item more f place text e r so_far = sym so_far.so_far ∙ rw (e, r) refl

  pub fails : (front : List A) (at : ℕ) (rest : Bor (List ℕ)) (item : List ℕ) (more : Option (List ℕ)) (err : LineError) (place : ℕ) (text : List ℕ)
      → slice_split is_comma rest.now ≡ item ∷ left_parts more → Fails err (read at item) → ItemsTo read front at (Some rest) place text → Fails err (each read (items place text))
  fails front at rest item more OutOfMemory place text e r so_far = tt
  fails front at rest item more (Fault f) place text e r so_far = stops front at rest item more f place text e r so_far

  pub is_read : (front : List A) (at place : ℕ) (text : List ℕ) → ItemsTo read front at None place text → each read (items place text) ≡ Ok front
  is_read front at place text so_far = sym so_far.so_far ∙ ap (λ (xs : List A). Ok xs) (append-nil front)

-- ---- a reference as most are written

digits_id : (b : ℕ) (bytes : List ℕ) (node : ℕ) → list_all is_ascii_digit (b ∷ bytes) ≡ true → node ≡ digits_value 10 (b ∷ bytes) → node < 10 ^ 18 → id_spelled (b ∷ bytes) ≡ Some (pos node)
unfolding id_spelled magnitude_of
digits_id b bytes node digits worth small =
    let p = and_parts (is_ascii_digit b) (list_all is_ascii_digit bytes) digits in
    let q = and_parts (leb 48 b) (leb b 57) p.0 in
    let low = leb-true 48 b q.0 in
    let value : digits_value 10 (b ∷ bytes) ≤ 4611686018427387903 = omega (arith, worth) in
    rw (ne_eqb b 45 (λ e. absurd (omega arith)), lt-ltb 0 (length (b ∷ bytes)) (omega arith), digits, le-leb (digits_value 10 (b ∷ bytes)) 4611686018427387903 value) (ap (λ (k : ℕ). Some (pos k)) (sym worth))

some_digits : (bytes : List ℕ) (node : ℕ) → 0 < length bytes → list_all is_ascii_digit bytes ≡ true → node ≡ digits_value 10 bytes → node < 10 ^ 18 → id_spelled bytes ≡ Some (pos node)
some_digits [] node some digits worth small = absurd (omega arith)
some_digits (b ∷ bytes) node some digits worth small = digits_id b bytes node digits worth small

digits_behind : (bytes : List ℕ) (node : ℕ) → 0 < length bytes → list_all is_ascii_digit bytes ≡ true → node ≡ digits_value 10 bytes → node < 10 ^ 18 → ref_behind bytes ≡ Some (record { node = pos node; at = None })
unfolding ref_behind
digits_behind bytes node some digits worth small =
    let all : list_all is_ascii_digit (take (length bytes) bytes) ≡ true = ap (list_all is_ascii_digit) (take_all (length bytes) bytes (omega arith)) ∙ digits in
    let no_x : position_or_len (λ b. eqb b 120) bytes ≡ length bytes = first_behind 120 bytes (length bytes) (inr (omega arith)) (omega arith) all (λ lt. absurd (omega arith)) in
    let none : ltb (position_or_len (λ b. eqb b 120) bytes) (length bytes) ≡ false = le-ltb _ _ (omega arith) in
    rw (none, some_digits bytes node some digits worth small) refl

pub begins_with_ref : (rest digits : List ℕ) (node count : ℕ) → rest ≡ 110 ∷ digits → LeadingDigits digits node count → 0 < count → count ≤ length digits → node < 10 ^ 18 → (count < length digits → get_or digits count 0 ≡ 44)
    → BeginsWithRef rest (record { node = pos node; at = None }) (count + 1)
unfolding ref_spelled
begins_with_ref rest digits node count is lead some inside small comma = record {
  inside = omega (arith, ap length is);
  ends =
      let first = first_behind 44 digits count (inl (omega arith)) inside lead.digits comma in
      ap (position_or_len is_comma) is ∙ omega (arith, first);
  read =
      let next : count + 1 ≡ suc count = omega arith in
      rw (is, next) (digits_behind (take count digits) node (omega (arith, length-take count digits)) lead.digits lead.worth small);
}

pub first_and_others : (rest digits : List ℕ) → 0 < length rest → get_or rest 0 0 ≡ 110 → digits ≡ drop 1 rest → rest ≡ 110 ∷ digits
first_and_others [] digits some first behind = absurd (omega arith)
first_and_others (b ∷ rest) digits some first behind = cc (first, behind)

pub usual_last : (rest : List ℕ) (reference : Ref) (len : ℕ) → BeginsWithRef rest reference len → len ≡ length rest → IsFirstRef rest (Some reference) len None
usual_last rest reference len begins is = record {
  item = rest;
  parts = split-none is_comma rest (begins.ends ∙ is);
  read = sym begins.read ∙ ap ref_spelled (take_all len rest (omega arith));
  long = sym is;
  whole = omega arith;
}

pub usual_more : (rest back : List ℕ) (reference : Ref) (len : ℕ) → BeginsWithRef rest reference len → len < length rest → back ≡ drop (len + 1) rest → IsFirstRef rest (Some reference) len (Some back)
usual_more rest back reference len begins lt behind = record {
  item = take len rest;
  parts = split-some is_comma rest (take len rest) back len (sym begins.ends) lt refl behind;
  read = sym begins.read;
  long = omega (arith, length-take len rest);
  whole = omega (arith, ap length behind, length-drop (len + 1) rest);
}

pub any_ref : (rest item : List ℕ) (left : Option (List ℕ)) → slice_split is_comma rest ≡ item ∷ left_parts left → length item + left_len left ≡ length rest → IsFirstRef rest (ref_spelled item) (length item) left
any_ref rest item left parts whole = record { item = item; parts = parts; read = refl; long = refl; whole = whole }

pub comma_ascii : (rest : List ℕ) (reference : Ref) (len : ℕ) → BeginsWithRef rest reference len → len < length rest → get_or rest len 0 < 128
comma_ascii rest reference len begins lt =
    let comma : get_or rest len 0 ≡ 44 = eqb-true (get_or rest len 0) 44 (passes-at is_comma rest len (sym begins.ends) lt) in
    omega arith

pub no_ref : (place : ℕ) (item : List ℕ) → None ≡ ref_spelled item → ref_at place item ≡ Err (record { kind = BadReference; place = place })
unfolding ref_at
no_ref place item e = ap (or_fault BadReference place) (sym e)

pub one_ref : (place : ℕ) (item : List ℕ) (reference : Ref) → Some reference ≡ ref_spelled item → ref_at place item ≡ Ok reference
unfolding ref_at
one_ref place item reference e = ap (or_fault BadReference place) (sym e)
