-- What is read as a decimal or an id is what spells it, and the other way round.
use Rattle.std.proofs.Common.{◌≡◌, ℕ, zero, suc, ◌+◌, ◌<◌, ◌≤◌, true, false, ltb, leb, ◌&&◌, List, [], ◌∷◌, ◌++◌, length, get_or, take, drop, Option, Some, None, ℤ, pos, neg_ℤ, nat_abs, ◌≤ℤ◌, refl, sym, ap, subst, ◌∙◌, append_assoc, inl, inr, arith}
use Rattle.std.specs.Prelude.{option_map, int_le, IfSome, IfNone}
use Rattle.std.specs.Char.{is_ascii_digit}
use Rattle.std.specs.List.{list_all, position_or_len, before_first, after_first}
use Rattle.std.specs.Str.Parse.{digits_value}
use Rattle.std.proofs.lemmas.Bool.{cases_eq, cases_lt, and_parts, and_from, ltb-true, leb-true, eqb-true, lt-ltb, le-leb, ne_eqb, eq-eqb}
use Rattle.std.proofs.lemmas.List.{take_at, drop_at, take_all, drop_all, length-append, get_or_append_left}
use Rattle.std.proofs.Math.Seq.{get_or-append_seam}
use Rattle.std.proofs.lemmas.List.Sums.{AllPass-from_list_all, list_all-from_AllPass, position_or_len_is, split_at_first, passes_at_first}
use Rattle.std.proofs.lemmas.Option.{cond_some, none-some}
use Rattle.std.specs.Int.Signed.{le_z_yes}
use Rattle.std.proofs.lemmas.Float.{T_from_true}
use Rattle.std.proofs.lemmas.Int.{ints}
use Rattle.opl_reader.specs.Numbers.{units, AreDigits, IsUnsigned, IsMagnitude, IsId, IsDecimal}
use Rattle.opl_reader.specs.NumberReading.{is_point, unsigned_of, up_to, within, decimal_of, magnitude_of, id_spelled}
use Rattle.opl_reader.proofs.SpellingLaws.{map_some, and_then_some}

pub digits_are : (bytes : List ℕ) → list_all is_ascii_digit bytes ≡ true → AreDigits bytes
digits_are bytes h k d lt =
    let p = and_parts (leb 48 (get_or bytes k d)) (leb (get_or bytes k d) 57) (AllPass-from_list_all is_ascii_digit bytes h k d lt) in
    (leb-true _ _ p.0, leb-true _ _ p.1)

pub are_digits : (bytes : List ℕ) → AreDigits bytes → list_all is_ascii_digit bytes ≡ true
are_digits bytes h = list_all-from_AllPass is_ascii_digit bytes (λ k d lt. let r = h k d lt in and_from _ _ (le-leb _ _ r.0) (le-leb _ _ r.1))

-- ---- ids

magnitude_is : (text : List ℕ) (z : ℤ) → magnitude_of text ≡ Some z → (n : ℕ) × IsMagnitude text n × (z ≡ pos n)
unfolding magnitude_of
magnitude_is text z e =
    let s = cond_some _ (pos (digits_value 10 text)) z e in
    let p = and_parts (ltb 0 (length text) && list_all is_ascii_digit text) (leb (digits_value 10 text) 4611686018427387903) s.0 in
    let q = and_parts (ltb 0 (length text)) (list_all is_ascii_digit text) p.0 in
    (digits_value 10 text, record { digits = digits_are text q.1; some = ltb-true _ _ q.0; most = leb-true _ _ p.1; worth = refl }, sym s.1)

is_magnitude : (text : List ℕ) (n : ℕ) → IsMagnitude text n → magnitude_of text ≡ Some (pos n)
unfolding magnitude_of
is_magnitude text n m = rw (lt-ltb 0 (length text) m.some, are_digits text m.digits, le-leb (digits_value 10 text) 4611686018427387903 m.most) (ap (λ (k : ℕ). Some (pos k)) (sym m.worth))

pub id_is : (text : List ℕ) (z : ℤ) → id_spelled text ≡ Some z → IsId text z
unfolding id_spelled
id_is [] z e = inl (magnitude_is [] z e)
id_is (b ∷ bytes) z e =
    elim (cases_eq b 45) [
      | inl is ↦
          let e2 : option_map neg_ℤ (magnitude_of bytes) ≡ Some z = rw (eq-eqb b 45 is) at e in
          let m = map_some (magnitude_of bytes) neg_ℤ z e2 in
          let n = magnitude_is bytes m.0 m.1 in
          inr (bytes, n.0, ap (λ (x : ℕ). x ∷ bytes) is, n.1, sym m.2 ∙ ap neg_ℤ n.2)
      | inr ne ↦ let e2 : magnitude_of (b ∷ bytes) ≡ Some z = rw (ne_eqb b 45 ne) at e in inl (magnitude_is (b ∷ bytes) z e2)
    ]

pub is_id : (text : List ℕ) (z : ℤ) → IsId text z → id_spelled text ≡ Some z
unfolding id_spelled
is_id [] z (inl m) = is_magnitude [] m.0 m.1 ∙ ap (λ (x : ℤ). Some x) (sym m.2)
is_id (b ∷ bytes) z (inl m) =
    let digit = m.1.digits 0 0 (omega arith) in
    rw (ne_eqb b 45 (λ e. absurd (omega (arith, digit.0)))) (is_magnitude (b ∷ bytes) m.0 m.1 ∙ ap (λ (x : ℤ). Some x) (sym m.2))
is_id text z (inr m) = ap id_spelled m.2 ∙ ap (option_map neg_ℤ) (is_magnitude m.0 m.1 m.3) ∙ ap (λ (x : ℤ). Some x) (sym m.4)

-- ---- decimals

pub unsigned_is : (text : List ℕ) (n : ℕ) → unsigned_of text ≡ Some n → IsUnsigned text n
unfolding unsigned_of
unsigned_is text n e =
    let whole = before_first is_point text in
    let decimals = after_first is_point text in
    let s = cond_some _ (units whole decimals) n e in
    let p = and_parts (ltb 0 (length whole + length decimals) && list_all is_ascii_digit whole) (list_all is_ascii_digit decimals) s.0 in
    let q = and_parts (ltb 0 (length whole + length decimals)) (list_all is_ascii_digit whole) p.0 in
    record {
      whole = whole;
      decimals = decimals;
      spelled =
          elim (cases_lt (position_or_len is_point text) (length text)) [
            | inl lt ↦ inr (split_at_first is_point text 0 lt ∙ ap (λ (x : ℕ). whole ++ x ∷ decimals) (eqb-true _ _ (passes_at_first is_point text 0 lt)))
            | inr le ↦ inl (sym (take_all (position_or_len is_point text) text le), drop_all (position_or_len is_point text + 1) text (omega arith))
          ];
      whole_digits = digits_are whole q.1;
      decimal_digits = digits_are decimals p.1;
      some = ltb-true _ _ q.0;
      worth = sym s.1;
    }

read_parts : (text whole decimals : List ℕ) → before_first is_point text ≡ whole → after_first is_point text ≡ decimals → AreDigits whole → AreDigits decimals → 0 < length whole + length decimals → unsigned_of text ≡ Some (units whole decimals)
unfolding unsigned_of
read_parts text whole decimals e f w d some = rw (e, f, lt-ltb 0 (length whole + length decimals) some, are_digits whole w, are_digits decimals d) refl

no_point : (whole : List ℕ) (k : ℕ) → AreDigits whole → k < length whole → is_point (get_or whole k 0) ≡ false
no_point whole k digits lt = let r = digits k 0 lt in ne_eqb (get_or whole k 0) 46 (λ e. absurd (omega (arith, r.0)))

pub is_unsigned : (text : List ℕ) (n : ℕ) → IsUnsigned text n → unsigned_of text ≡ Some n
is_unsigned text n u =
    let whole = u.whole in
    let decimals = u.decimals in
    elim u.spelled [
      | inl plain ↦
          let at : position_or_len is_point whole ≡ length whole = position_or_len_is is_point whole (length whole) 0 (omega arith) (λ k lt. no_point whole k u.whole_digits lt) (λ lt. absurd (omega arith)) in
          let e : before_first is_point text ≡ whole = ap (before_first is_point) plain.0 ∙ take_all (position_or_len is_point whole) whole (omega arith) in
          let f : after_first is_point text ≡ decimals = ap (after_first is_point) plain.0 ∙ drop_all (position_or_len is_point whole + 1) whole (omega arith) ∙ sym plain.1 in
          read_parts text whole decimals e f u.whole_digits u.decimal_digits u.some ∙ ap (λ (k : ℕ). Some k) (sym u.worth)
      | inr pointed ↦
          let all = whole ++ 46 ∷ decimals in
          let at : position_or_len is_point all ≡ length whole =
          position_or_len_is is_point all (length whole) 0 (omega (arith, length-append whole (46 ∷ decimals)))
          (λ k lt. ap is_point (get_or_append_left whole (46 ∷ decimals) 0 k lt) ∙ no_point whole k u.whole_digits lt)
          (λ _. ap is_point (get_or-append_seam whole 46 decimals 0)) in
          let e : before_first is_point text ≡ whole = ap (before_first is_point) pointed ∙ ap (λ (k : ℕ). take k all) at ∙ take_at whole (46 ∷ decimals) (length whole) refl in
          let grouped : all ≡ (whole ++ 46 ∷ []) ++ decimals = sym (append_assoc whole (46 ∷ []) decimals) in
          let f : after_first is_point text ≡ decimals =
          ap (after_first is_point) pointed ∙ ap (λ (k : ℕ). drop (k + 1) all) at ∙ ap (drop (length whole + 1)) grouped ∙ drop_at (whole ++ 46 ∷ []) decimals (length whole + 1) (omega (arith, length-append whole (46 ∷ []))) in
          read_parts text whole decimals e f u.whole_digits u.decimal_digits u.some ∙ ap (λ (k : ℕ). Some k) (sym u.worth)
    ]

-- ---- decimals with their sign

within_is : (limit : ℤ) (text : List ℕ) (z : ℤ) → within limit text ≡ Some z → (n : ℕ) × IsUnsigned text n × (z ≡ pos n) × (pos n ≤ℤ limit)
unfolding within
within_is limit text z e =
    let a = and_then_some (unsigned_of text) (up_to limit) z e in
    let s = cond_some (int_le (pos a.0) limit) (pos a.0) z a.2 in
    (a.0, unsigned_is text a.0 a.1, sym s.1, le_z_yes (T_from_true (int_le (pos a.0) limit) s.0))

is_within : (limit : ℤ) (text : List ℕ) (n : ℕ) → IsUnsigned text n → pos n ≤ℤ limit → within limit text ≡ Some (pos n)
unfolding within
is_within limit text n u le = let t : int_le (pos n) limit ≡ true = grind (arith, ints) in rw (is_unsigned text n u, t) refl

pub abs_neg : (n : ℕ) → nat_abs (neg_ℤ (pos n)) ≡ n
abs_neg zero = refl
abs_neg (suc n) = refl

first_low : (b : ℕ) (bytes : List ℕ) (n : ℕ) → IsUnsigned (b ∷ bytes) n → 46 ≤ b
first_low b bytes n u = elim u.spelled [
  | inl flat ↦ let d = u.whole_digits 0 0 (subst (λ (w : List ℕ). 0 < length w) flat.0 (omega arith)) in let same : get_or u.whole 0 0 ≡ b = ap (λ (w : List ℕ). get_or w 0 0) (sym flat.0) in let low = d.0 in omega arith
  | inr pointed ↦ head u.whole pointed u.whole_digits
]
  where
    head : (whole : List ℕ) → b ∷ bytes ≡ whole ++ 46 ∷ u.decimals → AreDigits whole → 46 ≤ b
    head [] e digits = let same : b ≡ 46 = cc in omega arith
    head (w ∷ whole) e digits = let same : b ≡ w = cc in let d = digits 0 0 (omega arith) in let low : 48 ≤ w = d.0 in omega arith

plain : (limit : ℤ) (text : List ℕ) (z : ℤ) → within limit text ≡ Some z → IsDecimal text z × (pos (nat_abs z) ≤ℤ limit)
plain limit text z e = let n = within_is limit text z e in (inl (n.0, n.1, n.2), subst (λ (k : ℕ). pos k ≤ℤ limit) (sym (ap nat_abs n.2)) n.3)

pub decimal_is : (limit : ℤ) (text : List ℕ) (z : ℤ) → decimal_of limit text ≡ Some z → IsDecimal text z × (pos (nat_abs z) ≤ℤ limit)
unfolding decimal_of
decimal_is limit [] z e = plain limit [] z e
decimal_is limit (b ∷ bytes) z e =
    elim (cases_eq b 45) [
      | inl is ↦
          let e2 : option_map neg_ℤ (within limit bytes) ≡ Some z = rw (eq-eqb b 45 is) at e in
          let m = map_some (within limit bytes) neg_ℤ z e2 in
          let n = within_is limit bytes m.0 m.1 in
          let neg : z ≡ neg_ℤ (pos n.0) = sym m.2 ∙ ap neg_ℤ n.2 in
          (inr (inr (bytes, n.0, ap (λ (x : ℕ). x ∷ bytes) is, n.1, neg)), subst (λ (k : ℕ). pos k ≤ℤ limit) (sym (ap nat_abs neg ∙ abs_neg n.0)) n.3)
      | inr ne ↦ elim (cases_eq b 43) [
        | inl is ↦
            let e2 : within limit bytes ≡ Some z = rw (ne_eqb b 45 ne, eq-eqb b 43 is) at e in
            let n = within_is limit bytes z e2 in
            (inr (inl (bytes, n.0, ap (λ (x : ℕ). x ∷ bytes) is, n.1, n.2)), subst (λ (k : ℕ). pos k ≤ℤ limit) (sym (ap nat_abs n.2)) n.3)
        | inr ne2 ↦ let e2 : within limit (b ∷ bytes) ≡ Some z = rw (ne_eqb b 45 ne, ne_eqb b 43 ne2) at e in plain limit (b ∷ bytes) z e2
      ]
    ]

pub is_decimal : (limit : ℤ) (text : List ℕ) (z : ℤ) → IsDecimal text z → pos (nat_abs z) ≤ℤ limit → decimal_of limit text ≡ Some z
unfolding decimal_of
is_decimal limit [] z (inl m) le = is_within limit [] m.0 m.1 (subst (λ (k : ℕ). pos k ≤ℤ limit) (ap nat_abs m.2) le) ∙ ap (λ (x : ℤ). Some x) (sym m.2)
is_decimal limit (b ∷ bytes) z (inl m) le =
    let low = first_low b bytes m.0 m.1 in
    rw (ne_eqb b 45 (λ e. absurd (omega arith)), ne_eqb b 43 (λ e. absurd (omega arith))) (is_within limit (b ∷ bytes) m.0 m.1 (subst (λ (k : ℕ). pos k ≤ℤ limit) (ap nat_abs m.2) le) ∙ ap (λ (x : ℤ). Some x) (sym m.2))
is_decimal limit text z (inr (inl m)) le =
    ap (decimal_of limit) m.2 ∙ is_within limit m.0 m.1 m.3 (subst (λ (k : ℕ). pos k ≤ℤ limit) (ap nat_abs m.4) le) ∙ ap (λ (x : ℤ). Some x) (sym m.4)
is_decimal limit text z (inr (inr m)) le =
    ap (decimal_of limit) m.2 ∙ ap (option_map neg_ℤ) (is_within limit m.0 m.1 m.3 (subst (λ (k : ℕ). pos k ≤ℤ limit) (ap nat_abs m.4 ∙ abs_neg m.1) le)) ∙ ap (λ (x : ℤ). Some x) (sym m.4)

-- ---- as clauses

pub id_found : (text : List ℕ) (r : Option ℤ) → r ≡ id_spelled text → IfSome r (λ id. IsId text id)
id_found text None e = tt
id_found text (Some z) e = id_is text z (sym e)

pub id_none : (text : List ℕ) (r : Option ℤ) → r ≡ id_spelled text → IfNone r ((id : ℤ) → IsId text id → ⊥)
id_none text None e = λ z is. none-some z (e ∙ is_id text z is)
id_none text (Some z) e = tt

pub decimal_found : (limit : ℤ) (text : List ℕ) (r : Option ℤ) → r ≡ decimal_of limit text → IfSome r (λ z. IsDecimal text z × (pos (nat_abs z) ≤ℤ limit))
decimal_found limit text None e = tt
decimal_found limit text (Some z) e = decimal_is limit text z (sym e)

pub decimal_none : (limit : ℤ) (text : List ℕ) (r : Option ℤ) → r ≡ decimal_of limit text → IfNone r ((z : ℤ) → IsDecimal text z → pos (nat_abs z) ≤ℤ limit → ⊥)
decimal_none limit text None e = λ z is le. none-some z (e ∙ is_decimal limit text z is le)
decimal_none limit text (Some z) e = tt
