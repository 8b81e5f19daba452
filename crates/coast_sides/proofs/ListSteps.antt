-- One more item: of what was found among items, and of what a test keeps of them.
use Rattle.std.proofs.Common.{◌≡◌, ℕ, ◌+◌, ◌<◌, ◌||◌, Bool, true, false, cond, if◌then◌else◌, not, List, [], ◌∷◌, ◌++◌, filter, length, map, Option, Some, None, take, get_or, refl, sym, ap, ◌∙◌}
use Rattle.std.specs.List.{cons_option, filter_map, list_any}
use Rattle.std.specs.Option.{option_to_list}
use Rattle.std.proofs.lemmas.List.{map-append, take_more}
use Rattle.std.proofs.lemmas.List.Elements.{filter_map-append, filter_more}
use Rattle.std.proofs.lemmas.List.Folds.{list_any_more}
pub use Rattle.lists.proofs.ListsKit.{taken_more}
pub use Rattle.osm_segments.proofs.CountLemmas.{IfOk-both}

pub or_false : (b : Bool) → (b || false) ≡ b
or_false true = refl
or_false false = refl

-- two items put in, one after the other
pub both_turned : (a b old : Bool) → cond b true (cond a true old) ≡ (old || (a || b))
both_turned true true true = refl
both_turned true true false = refl
both_turned true false true = refl
both_turned true false false = refl
both_turned false true true = refl
both_turned false true false = refl
both_turned false false true = refl
both_turned false false false = refl

module _ {X : Type 0} where
  -- what was found among the first items, and one more
  pub any_step : (p : X → Bool) (xs : List X) (i : ℕ) (x : X) (old new : Bool) → i < length xs → x ≡ get_or xs i x → old ≡ list_any p (take i xs) → new ≡ (old || p x) → new ≡ list_any p (take (i + 1) xs)
  any_step p xs i x old new h is inv after =
      after ∙ (ap (λ b. b || p x) inv ∙ (ap (λ y. list_any p (take i xs) || p y) is ∙ sym (list_any_more p xs i x h)))

  -- what was found elsewhere or among the first items, and one more
  pub or_any_step : (p : X → Bool) (xs : List X) (i : ℕ) (x : X) (first old new : Bool) → i < length xs → x ≡ get_or xs i x → old ≡ (first || list_any p (take i xs)) → new ≡ (old || p x) → new ≡ (first || list_any p (take (i + 1) xs))
  or_any_step p xs i x true old new h is inv after = after ∙ ap (λ b. b || p x) inv
  or_any_step p xs i x false old new h is inv after = any_step p xs i x old new h is inv after

  -- what passes is put at the end
  pub kept_step : (p : X → Bool) (xs : List X) (i : ℕ) (x : X) (b : Bool) (old new : List X) → i < length xs → x ≡ get_or xs i x → b ≡ p x → old ≡ filter p (take i xs) → new ≡ old ++ (if b then x ∷ [] else []) → new ≡ filter p (take (i + 1) xs)
  kept_step p xs i x b old new h is e inv after =
      after ∙ (ap (λ ys. ys ++ (if b then x ∷ [] else [])) inv ∙ (ap (λ (c : Bool). filter p (take i xs) ++ (if c then x ∷ [] else [])) e ∙ (ap (λ y. filter p (take i xs) ++ cond (p y) (y ∷ []) []) is ∙ sym (filter_more p xs i x h))))

  -- what fails is put at the end
  pub left_step : (p : X → Bool) (xs : List X) (i : ℕ) (x : X) (b : Bool) (old new : List X) → i < length xs → x ≡ get_or xs i x → b ≡ p x → old ≡ filter (λ y. not (p y)) (take i xs) → new ≡ old ++ (if b then [] else x ∷ []) → new ≡ filter (λ y. not (p y)) (take (i + 1) xs)
  left_step p xs i x b old new h is e inv after = kept_step (λ y. not (p y)) xs i x (not b) old new h is (ap not e) inv (after ∙ turned b)
    where
      turned : (b : Bool) → old ++ (if b then [] else x ∷ []) ≡ old ++ (if not b then x ∷ [] else [])
      turned true = refl
      turned false = refl

one_given : {Y : Type 0} (o : Option Y) → option_to_list o ≡ cons_option o []
one_given None = refl
one_given (Some y) = refl

module _ {X Y : Type 0} where
  -- of what passes, what it gives is put at the end
  pub named_step : (f : X → Y) (p : X → Bool) (xs : List X) (i : ℕ) (x : X) (b : Bool) (old new : List Y) → i < length xs → x ≡ get_or xs i x → b ≡ p x → old ≡ map f (filter p (take i xs)) → new ≡ old ++ (if b then f x ∷ [] else []) → new ≡ map f (filter p (take (i + 1) xs))
  named_step f p xs i x b old new h is e inv after =
      let kept = filter p (take i xs) in
      after ∙ (ap (λ ys. ys ++ (if b then f x ∷ [] else [])) inv ∙ (turned b ∙ (sym (map-append f kept (if b then x ∷ [] else [])) ∙ ap (map f) (kept_step p xs i x b kept (kept ++ (if b then x ∷ [] else [])) h is e refl refl))))
    where
      turned : (c : Bool) → map f (filter p (take i xs)) ++ (if c then f x ∷ [] else []) ≡ map f (filter p (take i xs)) ++ map f (if c then x ∷ [] else [])
      turned true = refl
      turned false = refl

  -- what it gives, if anything, is put at the end
  pub given_step : (f : X → Option Y) (xs : List X) (i : ℕ) (x : X) (old new : List Y) → i < length xs → x ≡ get_or xs i x → old ≡ filter_map f (take i xs) → new ≡ old ++ option_to_list (f x) → new ≡ filter_map f (take (i + 1) xs)
  given_step f xs i x old new h is inv after =
      after ∙ (ap (λ ys. ys ++ option_to_list (f x)) inv ∙ (ap (λ (ys : List Y). filter_map f (take i xs) ++ ys) (one_given (f x)) ∙ (sym (filter_map-append f (take i xs) (x ∷ [])) ∙ ap (filter_map f) (sym (take_more xs i x h ∙ ap (λ (y : X). take i xs ++ y ∷ []) (sym is))))))
