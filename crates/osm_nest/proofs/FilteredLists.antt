-- Lists of which a test keeps some: where an item stands among those that are kept, and what an edit of the list does to them.
use Rattle.std.proofs.Common.{Bool, List, [], ap, arith, cond, drop, false, filter, get_or, length, refl, remove, subst, suc, sym, take, true, zero, ℕ, ◌+◌, ◌<◌, ◌∙◌, ◌∷◌, ◌≡◌, ◌≤◌, ◌⊎◌, inl, inr, ⊎_elim}
use Rattle.std.specs.List.{insert}
use Rattle.std.proofs.lemmas.Bool.{cases_lt}
use Rattle.std.proofs.lemmas.List.{length-append, take-append-drop, take_all}
use Rattle.std.proofs.lemmas.List.Elements.{filter-append}
use Rattle.lists.specs.Member.{In}

-- ---- members
module _ {X : Type 0} where
  pub in-remove : (xs : List X) (k : ℕ) (x : X) → In x (remove xs k) → In x xs
  in-remove [] zero x i = i
  in-remove [] (suc k) x i = i
  in-remove (y ∷ ys) zero x i = inr i
  in-remove (y ∷ ys) (suc k) x (inl e) = inl e
  in-remove (y ∷ ys) (suc k) x (inr i) = inr (in-remove ys k x i)

  pub in-insert : (xs : List X) (k : ℕ) (y x : X) → In x (insert xs k y) → (In x xs) ⊎ (x ≡ y)
  in-insert xs zero y x (inl e) = inr e
  in-insert xs zero y x (inr i) = inl i
  in-insert [] (suc k) y x (inl e) = inr e
  in-insert [] (suc k) y x (inr i) = absurd i
  in-insert (z ∷ zs) (suc k) y x (inl e) = inl (inl e)
  in-insert (z ∷ zs) (suc k) y x (inr i) = ⊎_elim (λ j. inl (inr j)) inr (in-insert zs k y x i)

  pub in-sooner : (xs : List X) (k n : ℕ) (x : X) → k ≤ n → In x (take k xs) → In x (take n xs)
  in-sooner xs zero n x h i = absurd i
  in-sooner [] (suc k) n x h i = absurd i
  in-sooner (y ∷ ys) (suc k) zero x h i = absurd (omega arith)
  in-sooner (y ∷ ys) (suc k) (suc n) x h (inl e) = inl e
  in-sooner (y ∷ ys) (suc k) (suc n) x h (inr i) = inr (in-sooner ys k n x (omega arith) i)

  pub next-taken : (xs : List X) (k : ℕ) (x : X) → k < length xs → x ≡ get_or xs k x → In x (take (k + 1) xs)
  next-taken xs k x h is = let e : k + 1 ≡ suc k = omega arith in subst (λ n. In x (take n xs)) (sym e) (by xs k h is)
    where
      by : (xs : List X) (k : ℕ) → k < length xs → x ≡ get_or xs k x → In x (take (suc k) xs)
      by [] k h is = absurd (omega arith)
      by (y ∷ ys) zero h is = inl is
      by (y ∷ ys) (suc k) h is = inr (by ys k (omega arith) is)

-- ---- two tests
module _ {X : Type 0} (p q : X → Bool) where
  pub filter-alike : (xs : List X) → ((x : X) → In x xs → p x ≡ q x) → filter p xs ≡ filter q xs
  filter-alike [] h = refl
  filter-alike (x ∷ xs) h = ap (λ b. cond b (x ∷ filter p xs) (filter p xs)) (h x (inl refl)) ∙ ap (λ ys. cond (q x) (x ∷ ys) ys) (filter-alike xs (λ y i. h y (inr i)))

  -- what passes the second passes the first
  pub filter-narrower : (xs : List X) → ((x : X) → In x xs → q x ≡ true → p x ≡ true) → filter q xs ≡ filter q (filter p xs)
  filter-narrower [] h = refl
  filter-narrower (x ∷ xs) h = by (p x) refl (q x) refl (filter-narrower xs (λ y i. h y (inr i)))
    where
      by : (b : Bool) → p x ≡ b → (c : Bool) → q x ≡ c → filter q xs ≡ filter q (filter p xs) → filter q (x ∷ xs) ≡ filter q (cond b (x ∷ filter p xs) (filter p xs))
      by true e c f rest = ap (λ ys. cond (q x) (x ∷ ys) ys) rest
      by false e true f rest = let z = h x (inl refl) f in absurd (cc (sym e ∙ z))
      by false e false f rest = ap (λ b. cond b (x ∷ filter q xs) (filter q xs)) f ∙ rest

-- ---- one test
module _ {X : Type 0} (p : X → Bool) where
  -- how many of the first k are kept
  abbrev pub kept : ℕ → List X → ℕ
  kept k xs = length (filter p (take k xs))

  filter-first : (x : X) (xs : List X) (b : Bool) → p x ≡ b → filter p (x ∷ xs) ≡ cond b (x ∷ filter p xs) (filter p xs)
  filter-first x xs b h = ap (λ b. cond b (x ∷ filter p xs) (filter p xs)) h

  -- taking out an item that fails the test keeps what is kept
  pub filter-remove : (xs : List X) (k : ℕ) (d : X) → k < length xs → p (get_or xs k d) ≡ false → filter p (remove xs k) ≡ filter p xs
  filter-remove [] k d h n = absurd (omega arith)
  filter-remove (x ∷ xs) zero d h n = sym (filter-first x xs false n)
  filter-remove (x ∷ xs) (suc k) d h n = ap (λ ys. cond (p x) (x ∷ ys) ys) (filter-remove xs k d (omega arith) n)

  pub filter-insert : (xs : List X) (k : ℕ) (x : X) → k ≤ length xs → p x ≡ true → filter p (insert xs k x) ≡ insert (filter p xs) (kept k xs) x
  filter-insert [] zero x h y = filter-first x [] true y
  filter-insert [] (suc k) x h y = absurd (omega arith)
  filter-insert (z ∷ zs) zero x h y = filter-first x (z ∷ zs) true y
  filter-insert (z ∷ zs) (suc k) x h y = by (p z) (filter-insert zs k x (omega arith) y)
    where
      by : (b : Bool) → filter p (insert zs k x) ≡ insert (filter p zs) (kept k zs) x →
          cond b (z ∷ filter p (insert zs k x)) (filter p (insert zs k x)) ≡ insert (cond b (z ∷ filter p zs) (filter p zs)) (length (cond b (z ∷ filter p (take k zs)) (filter p (take k zs)))) x
      by true rest = ap (λ ys. z ∷ ys) rest
      by false rest = rest

  -- an item that is kept stands at the place that counts those kept before it
  pub kept-at : (xs : List X) (k : ℕ) (d : X) → k < length xs → p (get_or xs k d) ≡ true → (kept k xs < length (filter p xs)) × (get_or (filter p xs) (kept k xs) d ≡ get_or xs k d)
  kept-at [] k d h y = absurd (omega arith)
  kept-at (x ∷ xs) zero d h y = let e = filter-first x xs true y in (subst (λ zs. 0 < length zs) (sym e) (omega arith), ap (λ zs. get_or zs 0 d) e)
  kept-at (x ∷ xs) (suc k) d h y = by (p x) (kept-at xs k d (omega arith) y)
    where
      by : (b : Bool) → (kept k xs < length (filter p xs)) × (get_or (filter p xs) (kept k xs) d ≡ get_or xs k d) → (length (cond b (x ∷ filter p (take k xs)) (filter p (take k xs))) < length (cond b (x ∷ filter p xs) (filter p xs)))
          × (get_or (cond b (x ∷ filter p xs) (filter p xs)) (length (cond b (x ∷ filter p (take k xs)) (filter p (take k xs)))) d ≡ get_or xs k d)
      by true rest = let l = rest.0 in (omega (arith, l), rest.1)
      by false rest = rest

  pub kept-next : (xs : List X) (k : ℕ) (d : X) → k < length xs → p (get_or xs k d) ≡ true → kept (suc k) xs ≡ suc (kept k xs)
  kept-next [] k d h y = absurd (omega arith)
  kept-next (x ∷ xs) zero d h y = ap length (filter-first x (take 0 xs) true y)
  kept-next (x ∷ xs) (suc k) d h y = by (p x) (kept-next xs k d (omega arith) y)
    where
      by : (b : Bool) → kept (suc k) xs ≡ suc (kept k xs) → length (cond b (x ∷ filter p (take (suc k) xs)) (filter p (take (suc k) xs))) ≡ suc (length (cond b (x ∷ filter p (take k xs)) (filter p (take k xs))))
      by true rest = ap suc rest
      by false rest = rest

  pub kept-most : (xs : List X) (k : ℕ) → kept k xs ≤ length (filter p xs)
  kept-most xs k =
      let whole = ap (λ ys. length (filter p ys)) (take-append-drop k xs) in
      let parts = ap length (filter-append p (take k xs) (drop k xs)) in
      let sum = length-append (filter p (take k xs)) (filter p (drop k xs)) in
      omega (arith, whole, parts, sum)

  -- where some are kept after a place, the list goes on there
  pub kept-inside : (xs : List X) (k : ℕ) → kept k xs < length (filter p xs) → k < length xs
  kept-inside xs k h = ⊎_elim (λ l. l)
      (λ (past : length xs ≤ k). let all = ap (λ ys. length (filter p ys)) (take_all k xs past) in absurd (omega (arith, h, all)))
      (cases_lt k (length xs))
