-- Lists with one item put in or taken out: what holds of neighbours, and of all pairs.
use Rattle.std.proofs.Common.{◌≢◌, All, AllPairs, List, [], ap, arith, get_or, length, refl, remove, subst, suc, sym, zero, ℕ, ◌+◌, ◌-◌, ◌<◌, ◌≡◌, ◌≤◌, ◌∙◌, ◌∷◌, ⊎_elim}
use Rattle.std.specs.List.{AllAdjacentBelow, insert}
use Rattle.std.proofs.lemmas.Bool.{cases_eq, cases_lt}
use Rattle.std.proofs.lemmas.List.Edits.{get_or-insert_above, get_or-insert_at, get_or-insert_below, get_or-remove_above, get_or-remove_below, length-insert, length-remove}

module _ {X : Type 0} where
  -- neighbours
  abbrev pub Linked : (X → X → Type 0) → List X → Type 0
  Linked R xs = AllAdjacentBelow R xs (length xs)

  pub linked_insert : (R : X → X → Type 0) (xs : List X) (i : ℕ) (x : X) → i ≤ length xs → Linked R xs → (0 < i → R (get_or xs (i - 1) x) x) → (i < length xs → R x (get_or xs i x)) → Linked R (insert xs i x)
  linked_insert R xs i x within linked before after k d h =
      ⊎_elim
      (λ (low : k + 1 < i). subst (λ y. R y (get_or (insert xs i x) (k + 1) d)) (sym (get_or-insert_below xs i x d k (omega arith) within)) (subst (R (get_or xs k d)) (sym (get_or-insert_below xs i x d (k + 1) low within)) (linked k d (omega arith))))
      (λ (high : i ≤ k + 1). ⊎_elim
      (λ (here : k + 1 ≡ i). subst (λ y. R y (get_or (insert xs i x) (k + 1) d)) (sym (get_or-insert_below xs i x d k (omega arith) within)) (subst (R (get_or xs k d)) (sym (ap (λ j. get_or (insert xs i x) j d) here ∙ get_or-insert_at xs i x d within)) (subst (λ y. R y x) (same-get xs (i - 1) k x d (omega arith) (omega arith)) (before (omega arith)))))
      (λ (apart : k + 1 ≢ i). ⊎_elim
      (λ (at : k ≡ i). subst (λ y. R y (get_or (insert xs i x) (k + 1) d)) (sym (ap (λ j. get_or (insert xs i x) j d) at ∙ get_or-insert_at xs i x d within)) (subst (R x) (sym (get_or-insert_above xs i x d k (omega arith) within)) (subst (R x) (same-get xs i k x d (omega arith) (omega (arith, h, length-insert xs i x within))) (after (omega (arith, h, length-insert xs i x within))))))
      (λ (past : k ≢ i). let j : ℕ = k - 1 in let e : k ≡ j + 1 = omega arith in
      subst (λ y. R y (get_or (insert xs i x) (k + 1) d)) (sym (ap (λ m. get_or (insert xs i x) m d) e ∙ get_or-insert_above xs i x d j (omega arith) within))
      (subst (R (get_or xs j d)) (ap (λ m. get_or xs m d) (sym e) ∙ sym (get_or-insert_above xs i x d k (omega arith) within)) (linked j d (omega (arith, h, length-insert xs i x within)))))
      (cases_eq k i))
      (cases_eq (k + 1) i))
      (cases_lt (k + 1) i)
    where
      same-get : (xs : List X) (i j : ℕ) (d e : X) → i ≡ j → j < length xs → get_or xs i d ≡ get_or xs j e
      same-get [] i j d e s h = absurd (omega arith)
      same-get (x ∷ xs) zero zero d e s h = refl
      same-get (x ∷ xs) zero (suc j) d e s h = absurd (omega arith)
      same-get (x ∷ xs) (suc i) zero d e s h = absurd (omega arith)
      same-get (x ∷ xs) (suc i) (suc j) d e s h = same-get xs i j d e (omega arith) (omega arith)

  pub linked_remove : (R : X → X → Type 0) (xs : List X) (i : ℕ) → i < length xs → Linked R xs → ((d : X) → 0 < i → i + 1 < length xs → R (get_or xs (i - 1) d) (get_or xs (i + 1) d)) → Linked R (remove xs i)
  linked_remove R xs i inside linked over k d h =
      let len = length-remove xs i inside in
      ⊎_elim
      (λ (low : k + 1 < i). subst (λ y. R y (get_or (remove xs i) (k + 1) d)) (sym (get_or-remove_below xs i d k (omega arith) inside)) (subst (R (get_or xs k d)) (sym (get_or-remove_below xs i d (k + 1) low inside)) (linked k d (omega arith))))
      (λ (high : i ≤ k + 1). ⊎_elim
      (λ (here : k + 1 ≡ i). subst (λ y. R y (get_or (remove xs i) (k + 1) d)) (sym (get_or-remove_below xs i d k (omega arith) inside))
      (subst (R (get_or xs k d)) (sym (get_or-remove_above xs i d (k + 1) (omega arith) inside))
      (subst (λ m. R (get_or xs m d) (get_or xs (k + 1 + 1) d)) (let e : i - 1 ≡ k = omega arith in e) (subst (λ m. R (get_or xs (i - 1) d) (get_or xs m d)) (let e : i + 1 ≡ k + 1 + 1 = omega arith in e) (over d (omega arith) (omega (arith, len, h)))))))
      (λ (past : k + 1 ≢ i). subst (λ y. R y (get_or (remove xs i) (k + 1) d)) (sym (get_or-remove_above xs i d k (omega arith) inside)) (subst (R (get_or xs (k + 1) d)) (sym (get_or-remove_above xs i d (k + 1) (omega arith) inside)) (linked (k + 1) d (omega (arith, len, h)))))
      (cases_eq (k + 1) i))
      (cases_lt (k + 1) i)

  -- what goes on from neighbour to neighbour holds of all pairs
  far : (R : X → X → Type 0) (P : X → Type 0) (xs : List X) → All P xs → ((x y z : X) → P x → P y → P z → R x y → R y z → R x z) → Linked R xs → (n i : ℕ) (d : X) → i + n + 1 < length xs → R (get_or xs i d) (get_or xs (i + n + 1) d)
  far R P xs all chain linked zero i d h = subst (λ m. R (get_or xs i d) (get_or xs m d)) (let e : i + 1 ≡ i + 0 + 1 = omega arith in e) (linked i d (omega arith))
  far R P xs all chain linked (suc n) i d h =
      let near = far R P xs all chain linked n i d (omega arith) in
      let next = linked (i + n + 1) d (omega arith) in
      subst (λ m. R (get_or xs i d) (get_or xs m d)) (let e : i + n + 1 + 1 ≡ i + suc n + 1 = omega arith in e)
      (chain (get_or xs i d) (get_or xs (i + n + 1) d) (get_or xs (i + n + 1 + 1) d) (all i d (omega arith)) (all (i + n + 1) d (omega arith)) (all (i + n + 1 + 1) d (omega arith)) near next)

  pub pairs_from_linked : (R : X → X → Type 0) (P : X → Type 0) (xs : List X) → All P xs → ((x y z : X) → P x → P y → P z → R x y → R y z → R x z) → Linked R xs → AllPairs R xs
  pairs_from_linked R P xs all chain linked i j d h l =
      let n : ℕ = j - i - 1 in
      subst (λ m. R (get_or xs i d) (get_or xs m d)) (let e : i + n + 1 ≡ j = omega arith in e) (far R P xs all chain linked n i d (omega arith))

  pub linked_weaker : (R S : X → X → Type 0) (P : X → Type 0) (xs : List X) → All P xs → ((x y : X) → P x → P y → R x y → S x y) → Linked R xs → Linked S xs
  linked_weaker R S P xs all weaker linked k d h = weaker (get_or xs k d) (get_or xs (k + 1) d) (all k d (omega arith)) (all (k + 1) d h) (linked k d h)
