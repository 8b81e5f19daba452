-- Digits, one more at a time.
use Rattle.std.proofs.Common.{◌≡◌, ℕ, zero, suc, ◌+◌, ◌*◌, ◌-◌, ◌/◌, ◌^◌, ◌<◌, ◌≤◌, ◌⊎◌, eqb, min, Bool, true, false, cond, ◌&&◌, List, [], ◌∷◌, length, get_or, take, drop, replicate, leb, ◌++◌, Some, None, option_map, refl, sym, ap, inl, inr, append-nil, append_assoc, ◌∙◌, arith}
use Rattle.std.specs.List.{list_all, before_first, after_first, position_or_len}
use Rattle.std.specs.Char.{is_ascii_digit, digit_value}
use Rattle.std.specs.Str.Parse.{digits_value, AllDigits}
use Rattle.std.proofs.lemmas.Int.Digits.{digits_value_more, digits_value_push, digits_value-lt}
use Rattle.std.proofs.Math.Nat.{pow-suc, pow-le-pow_right}
use Rattle.std.proofs.lemmas.Str.{digit_value_digit}
use Rattle.std.proofs.lemmas.List.Folds.{list_all_more, list_all-append}
use Rattle.std.proofs.lemmas.List.{get_or-take, take_all, take-append-drop, length-append, length-take, length-replicate}
use Rattle.std.proofs.lemmas.List.Sums.{AllPass-from_list_all, list_all-from_AllPass, position_or_len_is}
use Rattle.std.proofs.lemmas.List.Elements.{All-take, All-replicate}
use Rattle.std.proofs.lemmas.Bool.{lt-ltb, ne_eqb, eq-eqb, and_from, and_parts, and_left, and_right, cases_Bool, cond-false, leb-true}
use Rattle.opl_reader.specs.declared.number.TheConstants.{UNITS}
use Rattle.opl_reader.specs.Numbers.{first_eight}
use Rattle.opl_reader.specs.NumberReading.{is_point, unsigned_of}
use Rattle.opl_reader.specs.Steps.{capped, LeadingDigits}

step : (n d m : ℕ) → min (min (min n m * 10) m + d) m ≡ min (n * 10 + d) m
step n d m = omega arith

pub digit : (b : ℕ) → 48 ≤ b → b ≤ 57 → digit_value b ≡ b - 48
digit b low high = omega (arith, digit_value_digit b (low, high))

-- the digits so far are digits, and v is what they are worth
pub record Read (bytes : List ℕ) (i v : ℕ) : Type 0 where
  pub digits : list_all is_ascii_digit (take i bytes) ≡ true
  pub worth : v ≡ capped (digits_value 10 (take i bytes))

pub read-more : (bytes : List ℕ) (i v w : ℕ) → i < length bytes → 48 ≤ get_or bytes i 0 → get_or bytes i 0 ≤ 57 → is_ascii_digit (get_or bytes i 0) ≡ true
    → Read bytes i v → w ≡ min (min (v * 10) (2 ^ 64 - 1) + (get_or bytes i 0 - 48)) (2 ^ 64 - 1) → Read bytes (i + 1) w
read-more bytes i v w lt low high is so_far next = record {
  digits = list_all_more is_ascii_digit bytes i 0 lt ∙ and_from _ _ so_far.digits is;
  worth =
      let d = digit (get_or bytes i 0) low high in
      let e = digits_value_more 10 bytes i lt in
      next ∙ rw (so_far.worth) (rw (e, d) (step (digits_value 10 (take i bytes)) (get_or bytes i 0 - 48) (2 ^ 64 - 1)));
}

-- ---- few digits, whose value a u64 holds

-- the digits so far are digits, and v is their value
pub record ReadFew (bytes : List ℕ) (i v : ℕ) : Type 0 where
  pub digits : list_all is_ascii_digit (take i bytes) ≡ true
  pub worth : v ≡ digits_value 10 (take i bytes)

pub few-more : (bytes : List ℕ) (i v d : ℕ) → i < length bytes → 48 ≤ get_or bytes i 0 → get_or bytes i 0 ≤ 57 → is_ascii_digit (get_or bytes i 0) ≡ true
    → ReadFew bytes i v → d ≡ get_or bytes i 0 - 48 → ReadFew bytes (i + 1) (v * 10 + d)
few-more bytes i v d lt low high is so_far e = record {
  digits = list_all_more is_ascii_digit bytes i 0 lt ∙ and_from _ _ so_far.digits is;
  worth = omega (arith, so_far.worth, digit (get_or bytes i 0) low high, digits_value_more 10 bytes i lt);
}

-- ---- eight decimals

AllPass-take-digits : (d : List ℕ) → list_all is_ascii_digit d ≡ true → list_all is_ascii_digit (take 8 d) ≡ true
AllPass-take-digits d h = list_all-from_AllPass is_ascii_digit (take 8 d) (All-take (λ b. is_ascii_digit b ≡ true) 8 d (AllPass-from_list_all is_ascii_digit d h))

zeros : (n : ℕ) → list_all is_ascii_digit (replicate n 48) ≡ true
zeros n = list_all-from_AllPass is_ascii_digit (replicate n 48) (All-replicate (λ b. is_ascii_digit b ≡ true) n 48 refl)

pub first_eight-digits : (d : List ℕ) → list_all is_ascii_digit d ≡ true → list_all is_ascii_digit (first_eight d) ≡ true
first_eight-digits d h = list_all-append is_ascii_digit (take 8 d) (replicate (8 - length d) 48) ∙ and_from _ _ (AllPass-take-digits d h) (zeros (8 - length d))

length-first_eight : (d : List ℕ) → length (first_eight d) ≡ 8
length-first_eight d = omega (arith, length-append (take 8 d) (replicate (8 - length d) 48), length-take 8 d, length-replicate {A = ℕ} (8 - length d) 48)

all_digits : (d : List ℕ) → list_all is_ascii_digit d ≡ true → AllDigits 10 d
all_digits [] h = tt
all_digits (b ∷ bs) h =
    let parts = and_parts (is_ascii_digit b) (list_all is_ascii_digit bs) h in
    (digit_below b parts.0, all_digits bs parts.1)
  where
    digit_below : (b : ℕ) → is_ascii_digit b ≡ true → digit_value b < 10
    digit_below b h = let r = and_parts (leb 48 b) (leb b 57) h in omega (arith, digit_value_digit b (leb-true 48 b r.0, leb-true b 57 r.1), leb-true b 57 r.1)

pub few-small : (bytes : List ℕ) (i v : ℕ) → i < length bytes → length bytes ≤ 19 → ReadFew bytes i v → v < 10 ^ 18
few-small bytes i v lt few so_far =
    let long : length (take i bytes) ≡ i = omega (arith, length-take i bytes) in
    let less : digits_value 10 (take i bytes) < 10 ^ i = rw long at (digits_value-lt 10 (take i bytes) (all_digits (take i bytes) so_far.digits)) in
    let most : 10 ^ i ≤ 10 ^ 18 = pow-le-pow_right (omega arith) (let h : i ≤ 18 = omega arith in h) in
    omega (arith, so_far.worth)

pub front-small : (bytes : List ℕ) (i v : ℕ) → i ≤ length bytes → i ≤ 18 → ReadFew bytes i v → v < 10 ^ 18
front-small bytes i v inside few so_far =
    let long : length (take i bytes) ≡ i = omega (arith, length-take i bytes) in
    let less : digits_value 10 (take i bytes) < 10 ^ i = rw long at (digits_value-lt 10 (take i bytes) (all_digits (take i bytes) so_far.digits)) in
    let most : 10 ^ i ≤ 10 ^ 18 = pow-le-pow_right (omega arith) few in
    omega (arith, so_far.worth)

pub first_eight-bound : (d : List ℕ) → list_all is_ascii_digit d ≡ true → digits_value 10 (first_eight d) < 100000000
first_eight-bound d h = rw length-first_eight at (digits_value-lt 10 (first_eight d) (all_digits (first_eight d) (first_eight-digits d h)))

-- so many zeros behind digits
with_zeros : (k : ℕ) (xs : List ℕ) → digits_value 10 (xs ++ replicate k 48) ≡ digits_value 10 xs * 10 ^ k
with_zeros zero xs = ap (digits_value 10) (append-nil xs) ∙ omega arith
with_zeros (suc k) xs =
    let more : digits_value 10 (xs ++ 48 ∷ []) ≡ digits_value 10 xs * 10 = digits_value_push 10 xs 48 ∙ omega arith in
    ap (digits_value 10) (sym (append_assoc xs (48 ∷ []) (replicate k 48))) ∙ with_zeros k (xs ++ 48 ∷ []) ∙ ap (λ v. v * 10 ^ k) more ∙ regroup (digits_value 10 xs) (10 ^ k) ∙ ap (λ p. digits_value 10 xs * p) (sym (pow-suc 10 k))
  where
    regroup : (v p : ℕ) → v * 10 * p ≡ v * (p * 10)
    regroup v p = omega arith

-- eight decimals and more
eight : (d : List ℕ) → 8 ≤ length d → first_eight d ≡ take 8 d
eight d le = let none : 8 - length d ≡ 0 = omega arith in ap (λ k. take 8 d ++ replicate k 48) none ∙ append-nil (take 8 d)

-- ---- values that came back

pub some_if : {A : Type 0} (b : Bool) (x y : A) → Some y ≡ cond b (Some x) None → (b ≡ true) × (y ≡ x)
some_if true x y e = (refl, cc)
some_if false x y e = absurd cc

pub none_if : {A : Type 0} (b : Bool) (x : A) → None ≡ cond b (Some x) None → b ≡ false
none_if true x e = absurd cc
none_if false x e = refl

-- ---- the first decimals and the others

all_parts : (m : ℕ) (d : List ℕ) → list_all is_ascii_digit d ≡ (list_all is_ascii_digit (take m d) && list_all is_ascii_digit (drop m d))
all_parts m d = ap (list_all is_ascii_digit) (sym (take-append-drop m d)) ∙ list_all-append is_ascii_digit (take m d) (drop m d)

pub first_lack : (m : ℕ) (d : List ℕ) → list_all is_ascii_digit (take m d) ≡ false → list_all is_ascii_digit d ≡ false
first_lack m d e = all_parts m d ∙ and_left _ _ e

pub others_lack : (m : ℕ) (d : List ℕ) → list_all is_ascii_digit (drop m d) ≡ false → list_all is_ascii_digit d ≡ false
others_lack m d e = all_parts m d ∙ and_right (list_all is_ascii_digit (take m d)) _ e

pub both_digits : (m : ℕ) (d : List ℕ) → list_all is_ascii_digit (take m d) ≡ true → list_all is_ascii_digit (drop m d) ≡ true → list_all is_ascii_digit d ≡ true
both_digits m d e f = all_parts m d ∙ and_from _ _ e f

-- what the first decimals are worth, in tenths
pub record Tenths (d : List ℕ) (t : ℕ) : Type 0 where
  pub digits : list_all is_ascii_digit d ≡ true
  pub worth : t ≡ digits_value 10 (first_eight d)
  pub bound : t < 100000000

pub tenths_read : (d first others : List ℕ) (v : ℕ) → 8 ≤ length d → first ≡ take 8 d → others ≡ drop 8 d
    → Some v ≡ cond (list_all is_ascii_digit first) (Some (digits_value 10 first)) None → true ≡ list_all is_ascii_digit others → Tenths d v
tenths_read d first others v le f o given all =
    let s = some_if (list_all is_ascii_digit first) (digits_value 10 first) v given in
    let digits = both_digits 8 d (sym (ap (list_all is_ascii_digit) f) ∙ s.0) (sym (ap (list_all is_ascii_digit) o) ∙ sym all) in
    let worth = s.1 ∙ ap (digits_value 10) (f ∙ sym (eight d le)) in
    record { digits = digits; worth = worth; bound = omega (arith, worth, first_eight-bound d digits) }

pub few-capped : (bytes : List ℕ) → length bytes ≤ 19
    → cond (list_all is_ascii_digit bytes) (Some (digits_value 10 bytes)) None ≡ cond (list_all is_ascii_digit bytes) (Some (capped (digits_value 10 bytes))) None
few-capped bytes few =
    elim (cases_Bool (list_all is_ascii_digit bytes)) [
      | inl h ↦
          let less = digits_value-lt 10 bytes (all_digits bytes h) in
          let most : 10 ^ length bytes ≤ 10 ^ 19 = pow-le-pow_right (omega arith) few in
          let same : digits_value 10 bytes ≡ capped (digits_value 10 bytes) = omega arith in
          ap (λ v. cond (list_all is_ascii_digit bytes) (Some v) None) same
      | inr h ↦ rw h refl
    ]

pub capped_units : (n d : ℕ) → min (min (capped n * 10000000) (2 ^ 64 - 1) + d) (2 ^ 64 - 1) ≡ capped (n * 10000000 + d)
capped_units n d = step_by n d (2 ^ 64 - 1)
  where
    step_by : (n d m : ℕ) → min (min (min n m * 10000000) m + d) m ≡ min (n * 10000000 + d) m
    step_by n d m = omega arith

pub no_decimals : (text : List ℕ) → list_all is_ascii_digit (after_first is_point text) ≡ false → None ≡ option_map capped (unsigned_of text)
unfolding unsigned_of
no_decimals text h = sym (ap (option_map capped) (cond-false _ _ None (and_right _ (list_all is_ascii_digit (after_first is_point text)) h)))

-- ---- a coordinate as most are written

-- a digit among the first few
digit-at : (text : List ℕ) (count k : ℕ) → count ≤ length text → k < count → list_all is_ascii_digit (take count text) ≡ true → (48 ≤ get_or text k 0) × (get_or text k 0 ≤ 57)
digit-at text count k inside lt h =
    let at = get_or-take count text k 0 lt in
    let is = rw at at (AllPass-from_list_all is_ascii_digit (take count text) h k 0 (omega (arith, length-take count text))) in
    let p = and_parts (leb 48 (get_or text k 0)) (leb (get_or text k 0) 57) is in
    (leb-true _ _ p.0, leb-true _ _ p.1)

-- what no digit is stands first behind the digits in front
pub first_behind : (b : ℕ) (text : List ℕ) (count : ℕ) → (b < 48) ⊎ (57 < b) → count ≤ length text → list_all is_ascii_digit (take count text) ≡ true → (count < length text → get_or text count 0 ≡ b)
    → position_or_len (λ x. eqb x b) text ≡ count
first_behind b text count no_digit inside digits here =
    position_or_len_is (λ x. eqb x b) text count 0 inside (λ k lt. let d = digit-at text count k inside lt digits in ne_eqb (get_or text k 0) b (λ e. elim no_digit [ inl low ↦ absurd (omega arith) | inr high ↦ absurd (omega arith) ])) (λ lt. eq-eqb (get_or text count 0) b (here lt))

unit : (n : ℕ) → n ≤ 7 → get_or UNITS n 0 * 10 ≡ 10 ^ (8 - n)
unit zero le = refl
unit (suc zero) le = refl
unit (suc (suc zero)) le = refl
unit (suc (suc (suc zero))) le = refl
unit (suc (suc (suc (suc zero)))) le = refl
unit (suc (suc (suc (suc (suc zero))))) le = refl
unit (suc (suc (suc (suc (suc (suc zero)))))) le = refl
unit (suc (suc (suc (suc (suc (suc (suc zero))))))) le = refl
unit (suc (suc (suc (suc (suc (suc (suc (suc n)))))))) le = absurd (omega arith)

-- up to seven decimals count so many units, and none rounds
pub few_units : (d : List ℕ) (v : ℕ) → length d ≤ 7 → v ≡ digits_value 10 d → (digits_value 10 (first_eight d) + 5) / 10 ≡ v * get_or UNITS (length d) 0
few_units d v few worth =
    let all : take 8 d ≡ d = take_all 8 d (omega arith) in
    let e : digits_value 10 (first_eight d) ≡ v * (get_or UNITS (length d) 0 * 10) = with_zeros (8 - length d) (take 8 d) ∙ ap (λ n. n * 10 ^ (8 - length d)) (ap (digits_value 10) all ∙ sym worth) ∙ ap (λ t. v * t) (sym (unit (length d) few)) in
    ap (λ n. (n + 5) / 10) e ∙ rounds v (get_or UNITS (length d) 0)
  where
    rounds : (v u : ℕ) → (v * (u * 10) + 5) / 10 ≡ v * u
    rounds v u = let p = v * u in let e : v * (u * 10) ≡ (v * u) * 10 = omega arith in rw e (whole (v * u))
      where
        whole : (p : ℕ) → (p * 10 + 5) / 10 ≡ p
        whole p = omega arith

pub few_bound : (d : List ℕ) (v : ℕ) → length d ≤ 7 → list_all is_ascii_digit d ≡ true → v ≡ digits_value 10 d → v * get_or UNITS (length d) 0 ≤ 10000000
few_bound d v few digits worth = omega (arith, few_units d v few worth, first_eight-bound d digits)

pub usual_units : (text decimals : List ℕ) (count degrees n : ℕ) → 0 < count → count < length text → LeadingDigits text degrees count → get_or text count 0 ≡ 46 → decimals ≡ drop (count + 1) text
    → Some n ≡ cond (list_all is_ascii_digit decimals) (Some ((digits_value 10 (first_eight decimals) + 5) / 10)) None → unsigned_of text ≡ Some (degrees * 10000000 + n)
unfolding unsigned_of
usual_units text decimals count degrees n some inside lead here behind given =
    let point : position_or_len is_point text ≡ count = first_behind 46 text count (inl (omega arith)) (omega arith) lead.digits (λ _. here) in
    let before : before_first is_point text ≡ take count text = ap (λ k. take k text) point in
    let after : after_first is_point text ≡ decimals = ap (λ k. drop (k + 1) text) point ∙ sym behind in
    let whole : 0 < length (take count text) + length decimals = omega (arith, length-take count text) in
    let read = some_if (list_all is_ascii_digit decimals) ((digits_value 10 (first_eight decimals) + 5) / 10) n given in
    rw (before, after, lt-ltb 0 (length (take count text) + length decimals) whole, lead.digits, read.0) (same (digits_value 10 (take count text)) degrees ((digits_value 10 (first_eight decimals) + 5) / 10) n lead.worth read.1)
  where
    same : (d degrees e n : ℕ) → degrees ≡ d → n ≡ e → Some (d * 10000000 + e) ≡ Some (degrees * 10000000 + n)
    same d degrees e n p q = rw (p, q) refl
