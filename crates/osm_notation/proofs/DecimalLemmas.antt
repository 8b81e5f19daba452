-- The decimals behind the point.
use Rattle.std.proofs.Common.{◌≡◌, ◌≢◌, ◌∙◌, ℕ, suc, ◌+◌, ◌-◌, ◌/◌, ◌^◌, ◌<◌, ◌≤◌, ◌==◌, ◌&&◌, if◌then◌else◌, Bool, false, List, [], ◌∷◌, ◌++◌, drop, get_or, take, refl, sym, ap, subst, append_assoc, length, arith}
use Rattle.std.specs.Prelude.{decimal}
use Rattle.std.proofs.Math.Seq.{take-suc}
use Rattle.std.proofs.lemmas.Bool.{ne_eqb}
use Rattle.std.proofs.lemmas.Fmt.{length-decimal-le}
use Rattle.std.proofs.lemmas.List.{get_or-take, length-append, length-take-le, take-append-drop, take-take, take_at}
use Rattle.std.proofs.lemmas.List.Folds.{list_all_at}
use Rattle.std.proofs.lemmas.Nat.{div_below}
use Rattle.std.specs.List.{list_all}
use Rattle.osm_notation.specs.Decimal.{last_digits, without_end_zeros, fraction_text}

abbrev is_zero : ℕ → Bool
is_zero d = d == 48

-- a zero more at the end
all-more : (digits : List ℕ) → list_all is_zero (digits ++ 48 ∷ []) ≡ list_all is_zero digits
all-more [] = refl
all-more (d ∷ digits) = ap (λ (b : Bool). is_zero d && b) (all-more digits)

zero-dropped : (front : List ℕ) → without_end_zeros (front ++ 48 ∷ []) ≡ without_end_zeros front
unfolding without_end_zeros
zero-dropped [] = refl
zero-dropped (d ∷ front) =
    ap (λ (more : List ℕ). if list_all is_zero (d ∷ front ++ 48 ∷ []) then [] else d ∷ more) (zero-dropped front)
    ∙ ap (λ (b : Bool). if b then [] else d ∷ without_end_zeros front) (all-more (d ∷ front))

-- digits with another digit than zero at their end stay
none-dropped : (digits : List ℕ) → (0 < length digits → is_zero (get_or digits (length digits - 1) 0) ≡ false) → without_end_zeros digits ≡ digits
unfolding without_end_zeros
none-dropped [] last = refl
none-dropped (d ∷ []) last = rw (last (omega arith)) refl
none-dropped (d ∷ e ∷ digits) last =
    let end : length (d ∷ e ∷ digits) - 1 ≡ suc (length digits) = omega arith in
    let here : is_zero (get_or (d ∷ e ∷ digits) (suc (length digits)) 0) ≡ false = subst (λ (i : ℕ). is_zero (get_or (d ∷ e ∷ digits) i 0) ≡ false) end (last (omega arith)) in
    let some : list_all is_zero (d ∷ e ∷ digits) ≡ false = list_all_at is_zero (d ∷ e ∷ digits) (suc (length digits)) 0 (omega arith) here in
    let same : length digits ≡ length (e ∷ digits) - 1 = omega arith in
    let later : is_zero (get_or (e ∷ digits) (length (e ∷ digits) - 1) 0) ≡ false = subst (λ (i : ℕ). is_zero (get_or (e ∷ digits) i 0) ≡ false) same here in
    rw some (ap (λ (more : List ℕ). d ∷ more) (none-dropped (e ∷ digits) (λ h. later)))

-- the last of the first digits is a zero and dropped
pub zero_less : (digits : List ℕ) (len : ℕ) → 0 < len → len ≤ length digits → get_or digits (len - 1) 0 ≡ 48 → without_end_zeros (take len digits) ≡ without_end_zeros digits
    → without_end_zeros (take (len - 1) digits) ≡ without_end_zeros digits
zero_less digits len some le is so_far =
    let next : len ≡ suc (len - 1) = omega arith in
    let cut : take len digits ≡ take (len - 1) digits ++ 48 ∷ [] = ap (λ (n : ℕ). take n digits) next ∙ take-suc digits (len - 1) 0 (omega arith) ∙ ap (λ (d : ℕ). take (len - 1) digits ++ d ∷ []) is in
    sym (zero-dropped (take (len - 1) digits)) ∙ ap without_end_zeros (sym cut) ∙ so_far

-- the first digits are all that stay, where the last of them is no zero
stay : (digits : List ℕ) (len : ℕ) → len ≤ length digits → (0 < len → get_or digits (len - 1) 0 ≢ 48) → without_end_zeros (take len digits) ≡ take len digits
stay digits len le last = none-dropped (take len digits) (λ some.
    let size : length (take len digits) ≡ len = length-take-le len digits le in
    let above : 0 < len = omega (arith, size, some) in
    ap (λ (n : ℕ). is_zero (get_or (take len digits) (n - 1) 0)) size
    ∙ ap is_zero (get_or-take len digits (len - 1) 0 (omega (arith, above)))
    ∙ ne_eqb (get_or digits (len - 1) 0) 48 (last above))

fraction-some : (rest : ℕ) (digits : List ℕ) (len : ℕ) → 0 < rest → digits ≡ last_digits 7 rest → len ≤ length digits → without_end_zeros (take len digits) ≡ without_end_zeros digits
    → (0 < len → get_or digits (len - 1) 0 ≢ 48) → fraction_text rest ≡ 46 ∷ take len digits
unfolding fraction_text
fraction-some rest digits len some is le same last =
    rw (ne_eqb rest 0 (omega arith)) (ap (λ (ds : List ℕ). 46 ∷ ds) (ap without_end_zeros (sym is) ∙ sym same ∙ stay digits len le last))

-- a point and the digits that stay, put behind what stands
pub fraction-put : (rest : ℕ) (digits : List ℕ) (len : ℕ) (before point after : List ℕ) → 0 < rest → digits ≡ last_digits 7 rest → len ≤ length digits → without_end_zeros (take len digits) ≡ without_end_zeros digits
    → (0 < len → get_or digits (len - 1) 0 ≢ 48) → point ≡ before ++ 46 ∷ [] → after ≡ point ++ take len digits → after ≡ before ++ fraction_text rest
fraction-put rest digits len before point after some is le same last put_point put_digits =
    put_digits
    ∙ ap (λ (xs : List ℕ). xs ++ take len digits) put_point
    ∙ append_assoc before (46 ∷ []) (take len digits)
    ∙ ap (λ (xs : List ℕ). before ++ xs) (sym (fraction-some rest digits len some is le same last))

-- of digits that are put, the first are to stand
pub front_stands : (new before digits : List ℕ) (at len end : ℕ) → take end new ≡ before ++ digits → end ≡ at + length digits → length before ≡ at → len ≤ length digits → take (at + len) new ≡ before ++ take len digits
front_stands new before digits at len end put is size few =
    let long : length (before ++ take len digits) ≡ at + len = omega (arith, length-append before (take len digits), length-take-le len digits few, size) in
    sym (take-take (at + len) end new (omega arith))
    ∙ ap (take (at + len)) (put ∙ ap (λ (xs : List ℕ). before ++ xs) (sym (take-append-drop len digits)) ∙ sym (append_assoc before (take len digits) (drop len digits)))
    ∙ take_at (before ++ take len digits) (drop len digits) (at + len) long

-- ---- whole degrees

-- the digits of the degrees of a u64 are at most 13
pub few_degrees : (m : ℕ) → m < 2 ^ 64 → m / 10 ^ 7 < 10 ^ 13
few_degrees m small = div_below m (10 ^ 7) (10 ^ 13) (omega arith) (omega arith)

pub short_degrees : (n : ℕ) → n < 10 ^ 13 → length (decimal n) ≤ 13
short_degrees n below = length-decimal-le 13 n (omega arith) below (omega arith)
