-- Items are chosen of which none is beaten by a chosen one: there is one such choice, and there is one at all.
use Rattle.std.proofs.Common.{◌≡◌, ℕ, zero, suc, ◌<◌, ◌≤◌, Bool, true, false, cond, not, ◌&&◌, List, [], ◌∷◌, length, Contains, refl, sym, ap, ◌∙◌, arith, ⊎_elim}
use Rattle.std.specs.List.{count_by, list_any}
use Rattle.std.proofs.lemmas.Bool.{and_right}
use Rattle.std.proofs.lemmas.List.Sums.{count_by-le-length, sum_by-cons}
use Rattle.coast_sides.proofs.SomeMember.{any_same, member_cases, no_member}

more_or_one : (a b : Bool) → (a ≡ true → b ≡ true) → cond {A = ℕ} a 1 0 ≤ cond {A = ℕ} b 1 0
more_or_one false b h = omega arith
more_or_one true b h = rw (h refl) (omega arith)

module _ {X : Type 0} where
  -- where whatever passes the one test passes the other, as many pass it
  counts_below : (p q : X → Bool) (xs : List X) → ((x : X) → p x ≡ true → q x ≡ true) → count_by p xs ≤ count_by q xs
  counts_below p q [] h = omega arith
  counts_below p q (x ∷ xs) h =
      let one = more_or_one (p x) (q x) (h x) in
      let rest = counts_below p q xs h in
      omega (arith, sum_by-cons (λ z. cond {A = ℕ} (p z) 1 0) x xs, sum_by-cons (λ z. cond {A = ℕ} (q z) 1 0) x xs)

  -- and more, where some member passes the other alone
  counts_more : (p q : X → Bool) (xs : List X) (y : X) → ((x : X) → p x ≡ true → q x ≡ true) → Contains xs y → p y ≡ false → q y ≡ true → count_by p xs < count_by q xs
  counts_more p q [] y h c f t = absurd (no_member y c)
  counts_more p q (x ∷ xs) y h c f t =
      let one = more_or_one (p x) (q x) (h x) in
      ⊎_elim
      (λ (e : x ≡ y).
      let a : cond {A = ℕ} (p x) 1 0 ≡ 0 = ap (λ (z : X). cond {A = ℕ} (p z) 1 0) e ∙ ap (λ b. cond {A = ℕ} b 1 0) f in
      let b : cond {A = ℕ} (q x) 1 0 ≡ 1 = ap (λ (z : X). cond {A = ℕ} (q z) 1 0) e ∙ ap (λ b. cond {A = ℕ} b 1 0) t in
      let rest = counts_below p q xs h in
      omega (arith, sum_by-cons (λ z. cond {A = ℕ} (p z) 1 0) x xs, sum_by-cons (λ z. cond {A = ℕ} (q z) 1 0) x xs))
      (λ (c : Contains xs y). let rest = counts_more p q xs y h c f t in omega (arith, sum_by-cons (λ z. cond {A = ℕ} (p z) 1 0) x xs, sum_by-cons (λ z. cond {A = ℕ} (q z) 1 0) x xs))
      (member_cases x y xs c)

module _ {X : Type 0} (above fights : X → X → Bool) (xs : List X) where
  -- some chosen one of the items is above x and fights it
  abbrev pub beaten : (X → Bool) → X → Bool
  beaten chosen x = list_any (λ f. chosen f && (above f x && fights f x)) xs

  abbrev pub Chooses : (X → Bool) → Type 0
  Chooses chosen = (x : X) → Contains xs x → chosen x ≡ not (beaten chosen x)

  -- the choice, of those of which fewer than n are above
  pub choice_within : ℕ → X → Bool
  choice_within zero x = true
  choice_within (suc n) x = not (beaten (choice_within n) x)

  pub choice : X → Bool
  choice = choice_within (suc (length xs))

  module _ (apart : (x : X) → above x x ≡ false) (trans : (x y z : X) → above x y ≡ true → above y z ≡ true → above x z ≡ true) where
    how_many : X → ℕ
    how_many x = count_by (λ f. above f x) xs

    fewer : (f x : X) → Contains xs f → above f x ≡ true → how_many f < how_many x
    unfolding how_many
    fewer f x c up = counts_more (λ g. above g f) (λ g. above g x) xs f (λ g h. trans g f x h up) c (apart f) up

    -- two tests that agree on those above
    beaten_alike : (p q : X → Bool) (x : X) → ((f : X) → Contains xs f → above f x ≡ true → p f ≡ q f) → beaten p x ≡ beaten q x
    beaten_alike p q x same = any_same (λ f. p f && (above f x && fights f x)) (λ f. q f && (above f x && fights f x)) xs (λ f c. by f c (above f x) refl)
      where
        by : (f : X) → Contains xs f → (b : Bool) → above f x ≡ b → (p f && (above f x && fights f x)) ≡ (q f && (above f x && fights f x))
        by f c true e = ap (λ b. b && (above f x && fights f x)) (same f c e)
        by f c false e =
            let none : (above f x && fights f x) ≡ false = ap (λ b. b && fights f x) e in
            and_right (p f) (above f x && fights f x) none ∙ sym (and_right (q f) (above f x && fights f x) none)

    one_within : (n : ℕ) (p q : X → Bool) → Chooses p → Chooses q → (x : X) → Contains xs x → how_many x < n → p x ≡ q x
    one_within zero p q cp cq x c h = absurd (omega arith)
    one_within (suc n) p q cp cq x c h =
        cp x c ∙ (ap not (beaten_alike p q x (λ f d up. let less = fewer f x d up in one_within n p q cp cq f d (omega arith))) ∙ sym (cq x c))

    pub choice_one : (p q : X → Bool) → Chooses p → Chooses q → (x : X) → Contains xs x → p x ≡ q x
    choice_one p q cp cq x c = one_within (suc (how_many x)) p q cp cq x c (omega arith)

    settled : (n m : ℕ) (x : X) → Contains xs x → how_many x < n → how_many x < m → choice_within n x ≡ choice_within m x
    unfolding choice_within
    settled zero m x c h l = absurd (omega arith)
    settled (suc n) zero x c h l = absurd (omega arith)
    settled (suc n) (suc m) x c h l =
        ap not (beaten_alike (choice_within n) (choice_within m) x (λ f d up. let less = fewer f x d up in settled n m f d (omega arith) (omega arith)))

    pub choice_chooses : Chooses choice
    unfolding choice choice_within how_many
    choice_chooses x c = ap not (beaten_alike (choice_within (length xs)) (choice_within (suc (length xs))) x (λ f d up.
        let less = fewer f x d up in
        let most = count_by-le-length (λ g. above g x) xs in
        settled (length xs) (suc (length xs)) f d (omega arith) (omega arith)))
