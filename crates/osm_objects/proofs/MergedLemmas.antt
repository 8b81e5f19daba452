-- What is found in two lists as in the one list that they stand for.
use Rattle.std.proofs.Common.{◌≡◌, ◌∙◌, refl, sym, ap, subst, ℕ, suc, zero, ◌+◌, ◌≤◌, Bool, true, false, cond, List, [], ◌∷◌, ◌++◌, length, take, drop, map, filter, None, Some, append_assoc, length-append, length-drop, arith}
use Rattle.std.specs.List.{AllByRecursion, find}
use Rattle.std.proofs.lemmas.List.{take-append-le, drop-append-le, take_all, drop_all, take-append-drop}
use Rattle.std.proofs.lemmas.List.Elements.{filter-append}
use Rattle.osm_objects.specs.Merged.{Other, other, merged, Fit}

abbrev pub items_of : {A : Type 0} → List (Other A) → List A
items_of others = map (λ o. o.item) others

-- ---- one more item comes last

pub plain_last : {A : Type 0} (plain : List A) (others : List (Other A)) (since : ℕ) (x : A) → Fit plain others since → merged (plain ++ x ∷ []) others ≡ merged plain others ++ x ∷ []
plain_last plain [] since x f = refl
plain_last plain (o ∷ others) since x (le, f) =
    rw (take-append-le o.gap plain (x ∷ []) le, drop-append-le o.gap plain (x ∷ []) le, plain_last (drop o.gap plain) others since x f)
    (sym (append_assoc (take o.gap plain) (o.item ∷ merged (drop o.gap plain) others) (x ∷ [])))

pub plain_fits : {A : Type 0} (plain : List A) (others : List (Other A)) (since : ℕ) (x : A) → Fit plain others since → Fit (plain ++ x ∷ []) others (since + 1)
plain_fits plain [] since x f = let n = length-append plain (x ∷ []) in omega arith
plain_fits plain (o ∷ others) since x (le, f) =
    let n = length-append plain (x ∷ []) in
    (omega arith, rw (drop-append-le o.gap plain (x ∷ []) le) (plain_fits (drop o.gap plain) others since x f))

pub other_last : {A : Type 0} (plain : List A) (others : List (Other A)) (since : ℕ) (x : A) → Fit plain others since → merged plain (others ++ other since x ∷ []) ≡ merged plain others ++ x ∷ []
other_last plain [] since x f = rw (take_all since plain (omega arith), drop_all since plain (omega arith)) refl
other_last plain (o ∷ others) since x (le, f) =
    rw (other_last (drop o.gap plain) others since x f) (sym (append_assoc (take o.gap plain) (o.item ∷ merged (drop o.gap plain) others) (x ∷ [])))

pub other_fits : {A : Type 0} (plain : List A) (others : List (Other A)) (since : ℕ) (x : A) → Fit plain others since → Fit plain (others ++ other since x ∷ []) 0
other_fits plain [] since x f = let n = length-drop since plain in (omega arith, omega arith)
other_fits plain (o ∷ others) since x (le, f) = (le, other_fits (drop o.gap plain) others since x f)

-- so many plain items there are at least
pub since_most : {A : Type 0} (plain : List A) (others : List (Other A)) (since : ℕ) → Fit plain others since → since ≤ length plain
since_most plain [] since f = omega arith
since_most plain (o ∷ others) since (le, f) = let most = since_most (drop o.gap plain) others since f in omega (arith, length-drop o.gap plain)

-- ---- what is found

pub find-append_none : {A : Type 0} (p : A → Bool) (xs ys : List A) → find p xs ≡ None → find p (xs ++ ys) ≡ find p ys
find-append_none p [] ys none = refl
find-append_none p (x ∷ xs) ys none = by (p x) none (find-append_none p xs ys)
  where
    by : (b : Bool) → cond b (Some x) (find p xs) ≡ None → (find p xs ≡ None → find p (xs ++ ys) ≡ find p ys) → cond b (Some x) (find p (xs ++ ys)) ≡ find p ys
    by true none rest = absurd (cc)
    by false none rest = rest none

find-take : {A : Type 0} (p : A → Bool) (n : ℕ) (xs : List A) → find p xs ≡ None → find p (take n xs) ≡ None
find-take p zero xs none = refl
find-take p (suc n) [] none = refl
find-take p (suc n) (x ∷ xs) none = by (p x) none (find-take p n xs)
  where
    by : (b : Bool) → cond b (Some x) (find p xs) ≡ None → (find p xs ≡ None → find p (take n xs) ≡ None) → cond b (Some x) (find p (take n xs)) ≡ None
    by true none rest = absurd (cc)
    by false none rest = rest none

find-drop : {A : Type 0} (p : A → Bool) (n : ℕ) (xs : List A) → find p xs ≡ None → find p (drop n xs) ≡ None
find-drop p zero xs none = none
find-drop p (suc n) [] none = refl
find-drop p (suc n) (x ∷ xs) none = by (p x) none (find-drop p n xs)
  where
    by : (b : Bool) → cond b (Some x) (find p xs) ≡ None → (find p xs ≡ None → find p (drop n xs) ≡ None) → find p (drop n xs) ≡ None
    by true none rest = absurd (cc)
    by false none rest = rest none

-- where no plain item is one, the others tell
pub found_among_others : {A : Type 0} (p : A → Bool) (plain : List A) (others : List (Other A)) → find p plain ≡ None → find p (merged plain others) ≡ find p (items_of others)
found_among_others p plain [] none = none
found_among_others p plain (o ∷ others) none =
    find-append_none p (take o.gap plain) (o.item ∷ merged (drop o.gap plain) others) (find-take p o.gap plain none)
    ∙ ap (cond (p o.item) (Some o.item)) (found_among_others p (drop o.gap plain) others (find-drop p o.gap plain none))

-- ---- what holds of all, and what is kept

all-append_front : {A : Type 0} (P : A → Type 0) (xs ys : List A) → AllByRecursion P (xs ++ ys) → AllByRecursion P xs × AllByRecursion P ys
all-append_front P [] ys all = (tt, all)
all-append_front P (x ∷ xs) ys all = let rest = all-append_front P xs ys all.1 in ((all.0, rest.0), rest.1)

all-append : {A : Type 0} (P : A → Type 0) (xs ys : List A) → AllByRecursion P xs → AllByRecursion P ys → AllByRecursion P (xs ++ ys)
all-append P [] ys xs_all ys_all = ys_all
all-append P (x ∷ xs) ys xs_all ys_all = (xs_all.0, all-append P xs ys xs_all.1 ys_all)

pub plain_of_all : {A : Type 0} (P : A → Type 0) (plain : List A) (others : List (Other A)) → AllByRecursion P (merged plain others) → AllByRecursion P plain
plain_of_all P plain [] all = all
plain_of_all {A} P plain (o ∷ others) all =
    let cut = all-append_front P (take o.gap plain) (o.item ∷ merged (drop o.gap plain) others) all in
    let behind = plain_of_all P (drop o.gap plain) others cut.1.1 in
    subst (AllByRecursion P) (take-append-drop o.gap plain) (all-append P (take o.gap plain) (drop o.gap plain) cut.0 behind)

pub others_of_all : {A : Type 0} (P : A → Type 0) (plain : List A) (others : List (Other A)) → AllByRecursion P (merged plain others) → AllByRecursion P (items_of others)
others_of_all P plain [] all = tt
others_of_all P plain (o ∷ others) all =
    let cut = all-append_front P (take o.gap plain) (o.item ∷ merged (drop o.gap plain) others) all in
    (cut.1.0, others_of_all P (drop o.gap plain) others cut.1.1)

pub all_merged : {A : Type 0} (P : A → Type 0) (plain : List A) (others : List (Other A)) → AllByRecursion P plain → AllByRecursion P (items_of others) → AllByRecursion P (merged plain others)
all_merged P plain [] all there = all
all_merged {A} P plain (o ∷ others) all there =
    let cut = all-append_front P (take o.gap plain) (drop o.gap plain) (subst (AllByRecursion P) (sym (take-append-drop o.gap plain)) all) in
    all-append P (take o.gap plain) (o.item ∷ merged (drop o.gap plain) others) cut.0 (there.0, all_merged P (drop o.gap plain) others cut.1 there.1)

filter-none : {A : Type 0} (p : A → Bool) (xs : List A) → AllByRecursion (λ x. p x ≡ false) xs → filter p xs ≡ []
filter-none p [] all = refl
filter-none p (x ∷ xs) all = rw (all.0) (filter-none p xs all.1)

-- where no plain item passes, those that pass are others
pub filter-merged : {A : Type 0} (p : A → Bool) (plain : List A) (others : List (Other A)) → AllByRecursion (λ x. p x ≡ false) plain → filter p (merged plain others) ≡ filter p (items_of others)
filter-merged p plain [] none = filter-none p plain none
filter-merged {A} p plain (o ∷ others) none =
    let cut = all-append_front (λ x. p x ≡ false) (take o.gap plain) (drop o.gap plain) (subst (AllByRecursion (λ (x : A). p x ≡ false)) (sym (take-append-drop o.gap plain)) none) in
    filter-append p (take o.gap plain) (o.item ∷ merged (drop o.gap plain) others)
    ∙ rw (filter-none p (take o.gap plain) cut.0) (rw (filter-merged p (drop o.gap plain) others cut.1) refl)
