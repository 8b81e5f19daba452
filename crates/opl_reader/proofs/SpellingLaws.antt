-- What is read is what is spelled, and the other way round.
use Rattle.std.proofs.Common.{◌≡◌, ◌≢◌, ℕ, ◌<◌, ◌≤◌, true, false, eqb, ltb, leb, ◌&&◌, ◌⊎◌, List, [], ◌∷◌, ◌++◌, length, Option, Some, None, All, refl, sym, ap, subst, ◌∙◌, append_assoc, inl, inr, arith}
use Rattle.std.specs.Prelude.{option_map, option_and_then, encode_utf8}
use Rattle.std.specs.Char.{digit_value}
use Rattle.std.specs.List.{list_all, slice_split, onto_first, join_with_byte, AllByRecursion}
use Rattle.std.specs.Str.Parse.{digits_value}
use Rattle.std.proofs.lemmas.Bool.{cases_eq, and_parts, and_from, or_cases, or_left, or_right, ltb-true, leb-true, lt-ltb, le-leb, ne_eqb}
use Rattle.std.proofs.lemmas.List.{append-nil}
use Rattle.std.proofs.lemmas.List.Elements.{All-nil, All-cons, All-head, All-tail}
use Rattle.std.proofs.lemmas.List.Sums.{AllPass-from_list_all, list_all-from_AllPass}
use Rattle.std.proofs.lemmas.List.Splits.{slice_split-cons_yes, slice_split-cons_no, slice_split_at, length-slice_split, join_with_byte-slice_split}
use Rattle.std.proofs.lemmas.Option.{cond_some, none-some}
use Rattle.opl_reader.specs.Strings.{IsCode, IsString, ends, stands, escape}
use Rattle.opl_reader.specs.StringReading.{is_hex, is_scalar, code_point, joined_text, string_of}

pub and_then_some : {A B : Type 0} (o : Option A) (f : A → Option B) (y : B) → option_and_then f o ≡ Some y → (x : A) × (o ≡ Some x) × (f x ≡ Some y)
and_then_some None f y e = absurd cc
and_then_some (Some x) f y e = (x, refl, e)

pub map_some : {A B : Type 0} (o : Option A) (f : A → B) (y : B) → option_map f o ≡ Some y → (x : A) × (o ≡ Some x) × (f x ≡ y)
map_some None f y e = absurd cc
map_some (Some x) f y e = (x, refl, cc)

-- ---- escapes

scalar_is : (c : ℕ) → is_scalar c ≡ true → (c < 0xD800) ⊎ ((0xE000 ≤ c) × (c ≤ 0x10_FFFF))
scalar_is c h =
    elim (or_cases (ltb c 0xD800) (leb 0xE000 c && leb c 0x10_FFFF) h) [
      | inl e ↦ inl (ltb-true _ _ e)
      | inr e ↦ let p = and_parts (leb 0xE000 c) (leb c 0x10_FFFF) e in inr (leb-true _ _ p.0, leb-true _ _ p.1)
    ]

is_scalar_from : (c : ℕ) → (c < 0xD800) ⊎ ((0xE000 ≤ c) × (c ≤ 0x10_FFFF)) → is_scalar c ≡ true
is_scalar_from c (inl lt) = or_left (ltb c 0xD800) (leb 0xE000 c && leb c 0x10_FFFF) (lt-ltb _ _ lt)
is_scalar_from c (inr r) = or_right (ltb c 0xD800) (leb 0xE000 c && leb c 0x10_FFFF) (and_from _ _ (le-leb _ _ r.0) (le-leb _ _ r.1))

code_is : (digits : List ℕ) (c : ℕ) → code_point digits ≡ Some c → IsCode digits c
unfolding code_point
code_is digits c e =
    let s = cond_some _ (digits_value 16 digits) c e in
    let p = and_parts ((ltb 0 (length digits) && leb (length digits) 6) && list_all is_hex digits) (is_scalar (digits_value 16 digits)) s.0 in
    let q = and_parts (ltb 0 (length digits) && leb (length digits) 6) (list_all is_hex digits) p.0 in
    let r = and_parts (ltb 0 (length digits)) (leb (length digits) 6) q.0 in
    record {
      hex = λ k d lt. ltb-true _ _ (AllPass-from_list_all is_hex digits q.1 k d lt);
      some = ltb-true _ _ r.0;
      few = leb-true _ _ r.1;
      scalar = scalar_is c (ap is_scalar (sym s.1) ∙ p.1);
      worth = sym s.1;
    }

is_code : (digits : List ℕ) (c : ℕ) → IsCode digits c → code_point digits ≡ Some c
unfolding code_point
is_code digits c code =
    let hex : list_all is_hex digits ≡ true = list_all-from_AllPass is_hex digits (λ k d lt. lt-ltb _ _ (code.hex k d lt)) in
    let scalar : is_scalar (digits_value 16 digits) ≡ true = ap is_scalar (sym code.worth) ∙ is_scalar_from c code.scalar in
    rw (lt-ltb 0 (length digits) code.some, le-leb (length digits) 6 code.few, hex, scalar) (ap (λ (x : ℕ). Some x) (sym code.worth))

-- ---- what is read is spelled

Free : List ℕ → Type 0
Free part = All (λ b. b ≢ 37) part

free-onto : (b : ℕ) (parts : List (List ℕ)) → b ≢ 37 → AllByRecursion Free parts → AllByRecursion Free (onto_first b parts)
unfolding Free
free-onto b [] ne h = (All-cons (λ x. x ≢ 37) b [] ne (All-nil (λ x. x ≢ 37)), tt)
free-onto b (part ∷ parts) ne h = (All-cons (λ x. x ≢ 37) b part ne h.0, h.1)

free_parts : (bytes : List ℕ) → AllByRecursion Free (slice_split (λ b. eqb b 37) bytes)
unfolding Free
free_parts [] = (All-nil (λ x. x ≢ 37), tt)
free_parts (b ∷ bytes) =
    elim (cases_eq b 37) [
      | inl e ↦ rw (slice_split-cons_yes (λ x. eqb x 37) b bytes (ap (λ (x : ℕ). eqb x 37) e)) (All-nil (λ x. x ≢ 37), free_parts bytes)
      | inr ne ↦ rw (slice_split-cons_no (λ x. eqb x 37) b bytes (ne_eqb b 37 ne)) (free-onto b (slice_split (λ x. eqb x 37) bytes) ne (free_parts bytes))
    ]

stands-all : (plain bytes text : List ℕ) → Free plain → IsString bytes text → IsString (plain ++ bytes) (plain ++ text)
unfolding Free
stands-all [] bytes text free s = s
stands-all (b ∷ plain) bytes text free s = stands b (plain ++ bytes) (plain ++ text) (All-head (λ x. x ≢ 37) b plain free) (stands-all plain bytes text (All-tail (λ x. x ≢ 37) b plain free) s)

joined_is : (parts : List (List ℕ)) (text : List ℕ) → AllByRecursion Free parts → joined_text parts ≡ Some text → IsString (join_with_byte 37 parts) text
unfolding joined_text
joined_is [] text free e = absurd cc
joined_is (plain ∷ []) text free e =
    let same : plain ≡ text = cc in
    subst (λ (t : List ℕ). IsString plain t) same (subst (λ (t : List ℕ). IsString t t) (append-nil plain) (stands-all plain [] [] free.0 ends))
joined_is (plain ∷ code ∷ []) text free e =
    let a = and_then_some (code_point code) (λ c. None) text e in absurd (none-some text a.2)
joined_is (plain ∷ code ∷ part ∷ parts) text free e =
    let a = and_then_some (code_point code) (λ c. option_map (λ rest. plain ++ encode_utf8 c ++ rest) (joined_text (part ∷ parts))) text e in
    let b = map_some (joined_text (part ∷ parts)) (λ rest. plain ++ encode_utf8 a.0 ++ rest) text a.2 in
    let inner = joined_is (part ∷ parts) b.0 free.1.1 b.1 in
    let whole = stands-all plain (37 ∷ (code ++ 37 ∷ join_with_byte 37 (part ∷ parts))) (encode_utf8 a.0 ++ b.0) free.0 (escape code a.0 (join_with_byte 37 (part ∷ parts)) b.0 (code_is code a.0 a.1) inner) in
    subst (λ (t : List ℕ). IsString (join_with_byte 37 (plain ∷ code ∷ part ∷ parts)) t) (sym (append_assoc plain (encode_utf8 a.0) b.0) ∙ b.2) whole

pub read_is_spelled : (bytes text : List ℕ) → string_of bytes ≡ Some text → IsString bytes text
unfolding string_of
read_is_spelled bytes text e = subst (λ (b : List ℕ). IsString b text) (join_with_byte-slice_split 37 bytes) (joined_is (slice_split (λ b. eqb b 37) bytes) text (free_parts bytes) e)

-- ---- what is spelled is read

joined-onto : (b : ℕ) (parts : List (List ℕ)) → 0 < length parts → joined_text (onto_first b parts) ≡ option_map (λ t. b ∷ t) (joined_text parts)
unfolding joined_text
joined-onto b [] some = absurd (omega arith)
joined-onto b (plain ∷ []) some = refl
joined-onto b (plain ∷ code ∷ parts) some = through (code_point code) (joined_text parts)
  where
    through : (o : Option ℕ) (r : Option (List ℕ)) → option_and_then (λ c. option_map (λ rest. (b ∷ plain) ++ encode_utf8 c ++ rest) r) o ≡ option_map (λ t. b ∷ t) (option_and_then (λ c. option_map (λ rest. plain ++ encode_utf8 c ++ rest) r) o)
    through None r = refl
    through (Some c) None = refl
    through (Some c) (Some rest) = refl

no_percent : (b : ℕ) → digit_value b < 16 → eqb b 37 ≡ false
no_percent b hex = ne_eqb b 37 (λ e. let h : digit_value 37 < 16 = subst (λ (x : ℕ). digit_value x < 16) e hex in absurd (omega arith))

pub spelled_is_read : (bytes text : List ℕ) → IsString bytes text → string_of bytes ≡ Some text
unfolding string_of joined_text
spelled_is_read bytes text ends = refl
spelled_is_read bytes text (stands b rest t ne s) =
    let some : 0 < length (slice_split (λ x. eqb x 37) rest) = omega (arith, length-slice_split (λ x. eqb x 37) rest) in
    ap joined_text (slice_split-cons_no (λ x. eqb x 37) b rest (ne_eqb b 37 ne)) ∙ joined-onto b (slice_split (λ x. eqb x 37) rest) some ∙ ap (option_map (λ (t : List ℕ). b ∷ t)) (spelled_is_read rest t s)
spelled_is_read bytes text (escape digits c rest t code s) =
    let cut : slice_split (λ x. eqb x 37) (digits ++ 37 ∷ rest) ≡ digits ∷ slice_split (λ x. eqb x 37) rest = slice_split_at (λ x. eqb x 37) digits 37 rest (λ k d lt. no_percent _ (code.hex k d lt)) refl in
    ap (λ (parts : List (List ℕ)). joined_text ([] ∷ parts)) cut ∙ rw (is_code digits c code) (ap (option_map (λ (r : List ℕ). encode_utf8 c ++ r)) (spelled_is_read rest t s))
