-- One more item of a filtered list.
use Rattle.std.proofs.Common.{◌≡◌, ℕ, suc, ◌+◌, ◌<◌, List, [], ◌∷◌, ◌++◌, length, take, get_or, All, Option, Some, None, refl, sym, ap, subst, ◌∙◌, arith}
use Rattle.std.specs.List.{cons_option, enumerate_from, filter_map, flat_map}
use Rattle.std.specs.Option.{option_to_list}
use Rattle.std.proofs.lemmas.List.{append_assoc, append-nil, length-take-le}
use Rattle.std.proofs.lemmas.List.Elements.{All-append, All-cons, filter_map-append}
use Rattle.lists.proofs.ListsKit.{taken_more}

enumerate_push : {X : Type 0} (n : ℕ) (xs : List X) (x : X) (k : ℕ) → k ≡ n + length xs → enumerate_from n (xs ++ x ∷ []) ≡ enumerate_from n xs ++ (k, x) ∷ []
enumerate_push n [] x k e = ap (λ m. (m, x) ∷ []) (omega arith)
enumerate_push n (y ∷ ys) x k e = ap (λ zs. (n, y) ∷ zs) (enumerate_push (n + 1) ys x k (omega arith))

one_of : {X Y : Type 0} (f : X → Option Y) (x : X) (o : Option Y) → f x ≡ o → filter_map f (x ∷ []) ≡ option_to_list o
one_of f x None e = rw e refl
one_of f x (Some y) e = rw e refl

pub filtered_more : {X Y : Type 0} (f : X → Option Y) (xs : List X) (i : ℕ) (x : X) (o : Option Y) → i < length xs → x ≡ get_or xs i x → f x ≡ o → filter_map f (take (i + 1) xs) ≡ filter_map f (take i xs) ++ option_to_list o
filtered_more f xs i x o h e t = ap (filter_map f) (taken_more xs i x h e) ∙ (filter_map-append f (take i xs) (x ∷ []) ∙ ap (λ ys. filter_map f (take i xs) ++ ys) (one_of f x o t))

pub enumerated_more : {X Y : Type 0} (f : ℕ × X → Option Y) (xs : List X) (i : ℕ) (x : X) (o : Option Y) → i < length xs → x ≡ get_or xs i x → f (i, x) ≡ o → filter_map f (enumerate_from 0 (take (i + 1) xs)) ≡ filter_map f (enumerate_from 0 (take i xs)) ++ option_to_list o
enumerated_more {X} {Y} f xs i x o h e t =
    let long = length-take-le i xs (omega arith) in
    let pushed : enumerate_from 0 (take i xs ++ x ∷ []) ≡ enumerate_from 0 (take i xs) ++ (i, x) ∷ [] = enumerate_push 0 (take i xs) x i (omega arith) in
    let last : List (ℕ × X) = (i, x) ∷ [] in
    ap (λ (ys : List X). filter_map f (enumerate_from 0 ys)) (taken_more xs i x h e)
    ∙ (ap (filter_map f) pushed ∙ (filter_map-append f (enumerate_from 0 (take i xs)) last ∙ ap (λ (ys : List Y). filter_map f (enumerate_from 0 (take i xs)) ++ ys) (one_of f (i, x) o t)))

-- behind what was there
pub added_some : {X Y : Type 0} (f : X → Option Y) (xs : List X) (i : ℕ) (x : X) (y : Y) (old now new : List Y) → i < length xs → x ≡ get_or xs i x → f x ≡ Some y → now ≡ old ++ filter_map f (take i xs) → new ≡ now ++ y ∷ [] → new ≡ old ++ filter_map f (take (i + 1) xs)
added_some f xs i x y old now new h e t was is =
    is ∙ (ap (λ ys. ys ++ y ∷ []) was ∙ (append_assoc old (filter_map f (take i xs)) (y ∷ []) ∙ ap (λ ys. old ++ ys) (sym (filtered_more f xs i x (Some y) h e t))))

pub added_none : {X Y : Type 0} (f : X → Option Y) (xs : List X) (i : ℕ) (x : X) (old now : List Y) → i < length xs → x ≡ get_or xs i x → f x ≡ None → now ≡ old ++ filter_map f (take i xs) → now ≡ old ++ filter_map f (take (i + 1) xs)
added_none f xs i x old now h e t was =
    was ∙ ap (λ ys. old ++ ys) (sym (filtered_more f xs i x None h e t ∙ append-nil (filter_map f (take i xs))))

-- by a test of the item
pub tested_some : {X Y : Type 0} (f : ℕ × X → Option Y) (xs : List X) (i : ℕ) (x : X) (y : Y) (now new : List Y) → i < length xs → x ≡ get_or xs i x → f (i, x) ≡ Some y → now ≡ filter_map f (enumerate_from 0 (take i xs)) → new ≡ now ++ y ∷ [] → new ≡ filter_map f (enumerate_from 0 (take (i + 1) xs))
tested_some f xs i x y now new h e t was is = is ∙ (ap (λ ys. ys ++ y ∷ []) was ∙ sym (enumerated_more f xs i x (Some y) h e t))

pub tested_none : {X Y : Type 0} (f : ℕ × X → Option Y) (xs : List X) (i : ℕ) (x : X) (now : List Y) → i < length xs → x ≡ get_or xs i x → f (i, x) ≡ None → now ≡ filter_map f (enumerate_from 0 (take i xs)) → now ≡ filter_map f (enumerate_from 0 (take (i + 1) xs))
tested_none f xs i x now h e t was = was ∙ sym (enumerated_more f xs i x None h e t ∙ append-nil (filter_map f (enumerate_from 0 (take i xs))))

-- ---- what holds of each item that is kept

pub All-filter_map : {X Y : Type 0} (P : Y → Type 0) (f : X → Option Y) (xs : List X) → All (λ x. (y : Y) → f x ≡ Some y → P y) xs → All P (filter_map f xs)
All-filter_map P f [] h = λ k d l. absurd (omega arith)
All-filter_map {X} {Y} P f (x ∷ xs) h = by (f x) refl (All-filter_map P f xs (λ k d l. h (suc k) d (omega arith)))
  where
    by : (o : Option Y) → f x ≡ o → All P (filter_map f xs) → All P (cons_option o (filter_map f xs))
    by None e rest = rest
    by (Some y) e rest = All-cons P y (filter_map f xs) (h 0 x (omega arith) y e) rest

pub All-flat_map : {X Y : Type 0} (P : Y → Type 0) (f : X → List Y) (xs : List X) → All (λ x. All P (f x)) xs → All P (flat_map f xs)
All-flat_map P f [] h = λ k d l. absurd (omega arith)
All-flat_map P f (x ∷ xs) h = All-append P (f x) (flat_map f xs) (h 0 x (omega arith)) (All-flat_map P f xs (λ k d l. h (suc k) d (omega arith)))

pub All-enumerated : {X : Type 0} (P : ℕ × X → Type 0) (n : ℕ) (xs : List X) → ((k : ℕ) (x : X) → k < length xs → P (n + k, x)) → All P (enumerate_from n xs)
All-enumerated P n [] h = λ k d l. absurd (omega arith)
All-enumerated {X} P n (x ∷ xs) h = All-cons P (n, x) (enumerate_from (n + 1) xs) (subst (λ m. P (m, x)) (omega arith) (h 0 x (omega arith))) (All-enumerated P (n + 1) xs (λ k y l. subst (λ m. P (m, y)) (omega arith) (h (suc k) y (omega arith))))
