-- What stands in a list, and at which place.
use Rattle.std.proofs.Common.{List, [], ap, arith, drop, get_or, inl, inr, length, refl, subst, suc, sym, take, take-append-drop, zero, ℕ, ◌++◌, ◌+◌, ◌<◌, ◌∙◌, ◌∷◌, ◌≡◌}
use Rattle.std.proofs.lemmas.List.{take_more}
use Rattle.lists.specs.Member.{In}
use Rattle.lists.proofs.Members.{in-left}

pub in-at : {X : Type 0} (x : X) (xs : List X) → In x xs → (k : ℕ) × (k < length xs) × ((d : X) → get_or xs k d ≡ x)
in-at x [] i = absurd i
in-at x (y ∷ ys) (inl e) = (0, omega arith, λ d. sym e)
in-at x (y ∷ ys) (inr i) = let r = in-at x ys i in (r.0 + 1, omega arith, λ d. let same : r.0 + 1 ≡ suc r.0 = omega arith in ap (λ k. get_or (y ∷ ys) k d) same ∙ r.2 d)

pub at-in : {X : Type 0} (xs : List X) (k : ℕ) (d : X) → k < length xs → In (get_or xs k d) xs
at-in [] k d h = absurd (omega arith)
at-in (x ∷ xs) zero d h = inl refl
at-in (x ∷ xs) (suc k) d h = inr (at-in xs k d (omega arith))

-- what stands at a place is in the list
pub item-in : {X : Type 0} (xs : List X) (k : ℕ) (x : X) → k < length xs → x ≡ get_or xs k x → In x xs
item-in xs k x h is = subst (λ y. In y xs) (sym is) (at-in xs k x h)

pub in-take : {X : Type 0} (k : ℕ) (xs : List X) (x : X) → In x (take k xs) → In x xs
in-take k xs x i = subst (In x) (take-append-drop k xs) (in-left (take k xs) (drop k xs) x i)

-- one item more at the front of a list
pub taken_more : {X : Type 0} (xs : List X) (i : ℕ) (x : X) → i < length xs → x ≡ get_or xs i x → take (i + 1) xs ≡ take i xs ++ x ∷ []
taken_more {X} xs i x h is = take_more xs i x h ∙ ap (λ (y : X). take i xs ++ y ∷ []) (sym is)

pub some_member : {X : Type 0} (xs : List X) → 0 < length xs → (x : X) × In x xs
some_member [] h = absurd (omega arith)
some_member (x ∷ xs) h = (x, inl refl)

-- inside a list the default is not looked at
pub same_get : {X : Type 0} (xs : List X) (i : ℕ) (d e : X) → i < length xs → get_or xs i d ≡ get_or xs i e
same_get [] i d e h = absurd (omega arith)
same_get (x ∷ xs) zero d e h = refl
same_get (x ∷ xs) (suc i) d e h = same_get xs i d e (omega arith)

-- at each place inside a list stands an item
pub item_at : {X : Type 0} (xs : List X) (k : ℕ) → k < length xs → (x : X) × (x ≡ get_or xs k x)
item_at [] k h = absurd (omega arith)
item_at (y ∷ ys) zero h = (y, refl)
item_at (y ∷ ys) (suc k) h = item_at ys k (omega arith)
