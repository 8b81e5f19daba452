-- Tests that some member of a list passes.
use Rattle.std.proofs.Common.{◌≡◌, ⊎_elim, suc, ◌||◌, Bool, true, false, cond, List, [], ◌∷◌, ◌++◌, filter, map, Option, Some, None, AllPairs, Contains, refl, sym, ap, subst, ◌∙◌, arith}
use Rattle.std.specs.List.{cons_option, filter_map, flat_map, list_any}
use Rattle.std.proofs.lemmas.Bool.{false≢true}
use Rattle.std.proofs.lemmas.List.Elements.{All-contains, Contains-append_cases, Contains-append_left, Contains-append_right}
use Rattle.std.proofs.lemmas.List.Folds.{list_any_at}
pub use Rattle.lists.proofs.ListsKit.{first_member, later_member, member_cases, no_member}

-- two truths that follow from each other are one
pub same_truth : (a b : Bool) → (a ≡ true → b ≡ true) → (b ≡ true → a ≡ true) → a ≡ b
same_truth true b there back = sym (there refl)
same_truth false true there back = back refl
same_truth false false there back = refl

module _ {X : Type 0} where
  -- a member that passes
  pub record Passes (p : X → Bool) (xs : List X) : Type 0 where
    pub item : X
    pub member : Contains xs item
    pub passes : p item ≡ true

  pub some_passes : (p : X → Bool) (xs : List X) → list_any p xs ≡ true → Passes p xs
  some_passes p [] e = absurd (false≢true e)
  some_passes p (x ∷ xs) e = by (p x) refl e (some_passes p xs)
    where
      by : (b : Bool) → p x ≡ b → (b || list_any p xs) ≡ true → (list_any p xs ≡ true → Passes p xs) → Passes p (x ∷ xs)
      by true h e later = record { item = x; member = first_member x xs; passes = h }
      by false h e later = let r = later e in record { item = r.item; member = later_member x r.item xs r.member; passes = r.passes }

  pub any_from : (p : X → Bool) (xs : List X) (x : X) → Contains xs x → p x ≡ true → list_any p xs ≡ true
  any_from p xs x (k, h, e) passes = list_any_at p xs k x h (ap p e ∙ passes)

  -- tests that agree at each member
  pub any_same : (p q : X → Bool) (xs : List X) → ((x : X) → Contains xs x → p x ≡ q x) → list_any p xs ≡ list_any q xs
  any_same p q [] same = refl
  any_same p q (x ∷ xs) same =
      let rest = any_same p q xs (λ y c. same y (later_member x y xs c)) in
      ap (λ b. b || list_any p xs) (same x (first_member x xs)) ∙ ap (λ b. q x || b) rest

  pub filter_alike : (p q : X → Bool) (xs : List X) → ((x : X) → Contains xs x → p x ≡ q x) → filter p xs ≡ filter q xs
  filter_alike p q [] same = refl
  filter_alike p q (x ∷ xs) same =
      let rest = filter_alike p q xs (λ y c. same y (later_member x y xs c)) in
      ap (λ (b : Bool). cond b (x ∷ filter p xs) (filter p xs)) (same x (first_member x xs)) ∙ ap (λ (ys : List X). cond (q x) (x ∷ ys) ys) rest

  -- what a filter keeps
  pub kept_is : (p : X → Bool) (xs : List X) (y : X) → Contains (filter p xs) y → Contains xs y × (p y ≡ true)
  kept_is p [] y c = absurd (no_member y c)
  kept_is p (x ∷ xs) y c = by (p x) refl c (kept_is p xs y)
    where
      by : (b : Bool) → p x ≡ b → Contains (cond b (x ∷ filter p xs) (filter p xs)) y → (Contains (filter p xs) y → Contains xs y × (p y ≡ true)) → Contains (x ∷ xs) y × (p y ≡ true)
      by true h c later =
          ⊎_elim
          (λ (e : x ≡ y). ((0, omega arith, e), ap p (sym e) ∙ h))
          (λ (c : Contains (filter p xs) y). let r = later c in (later_member x y xs r.0, r.1))
          (member_cases x y (filter p xs) c)
      by false h c later = let r = later c in (later_member x y xs r.0, r.1)

  -- what passes is kept
  pub filter_has : (p : X → Bool) (xs : List X) (y : X) → Contains xs y → p y ≡ true → Contains (filter p xs) y
  filter_has p [] y c e = absurd (no_member y c)
  filter_has p (x ∷ xs) y c e =
      ⊎_elim
      (λ (q : x ≡ y). subst (λ b. Contains (cond b (x ∷ filter p xs) (filter p xs)) y) (sym (ap p q ∙ e)) (subst (Contains (x ∷ filter p xs)) q (first_member x (filter p xs))))
      (λ (c : Contains xs y). later (p x) (filter_has p xs y c e))
      (member_cases x y xs c)
    where
      later : (b : Bool) → Contains (filter p xs) y → Contains (cond b (x ∷ filter p xs) (filter p xs)) y
      later true c = later_member x y (filter p xs) c
      later false c = c

  -- ---- an item with items before and behind it, where R holds of each two

  pub pairs_after : (R : X → X → Type 0) (xs : List X) (y : X) (zs : List X) → AllPairs R (xs ++ y ∷ zs) → (z : X) → Contains zs z → R y z
  pairs_after R [] y zs pairs z c = All-contains (R y) zs z (λ k d h. pairs 0 (suc k) d (omega arith) (omega arith)) c
  pairs_after R (x ∷ xs) y zs pairs z c = pairs_after R xs y zs (λ i j d h l. pairs (suc i) (suc j) d (omega arith) (omega arith)) z c

  pub pairs_before : (R : X → X → Type 0) (xs : List X) (y : X) (zs : List X) → AllPairs R (xs ++ y ∷ zs) → (x : X) → Contains xs x → R x y
  pairs_before R [] y zs pairs x c = absurd (no_member x c)
  pairs_before R (w ∷ ws) y zs pairs x c =
      ⊎_elim
      (λ (e : w ≡ x). subst (λ u. R u y) e (All-contains (R w) (ws ++ y ∷ zs) y (λ k d h. pairs 0 (suc k) d (omega arith) (omega arith)) (Contains-append_right ws (y ∷ zs) y (first_member y zs))))
      (λ (c : Contains ws x). pairs_before R ws y zs (λ i j d h l. pairs (suc i) (suc j) d (omega arith) (omega arith)) x c)
      (member_cases w x ws c)

module _ {X Y : Type 0} where
  -- an item of xs of which f makes y
  pub record Makes (f : X → Y) (xs : List X) (y : Y) : Type 0 where
    pub item : X
    pub member : Contains xs item
    pub makes : f item ≡ y

  pub map_from : (f : X → Y) (xs : List X) (y : Y) → Contains (map f xs) y → Makes f xs y
  map_from f [] y c = absurd (no_member y c)
  map_from f (x ∷ xs) y c =
      ⊎_elim
      (λ (e : f x ≡ y). record { item = x; member = first_member x xs; makes = e })
      (λ (c : Contains (map f xs) y). let r = map_from f xs y c in record { item = r.item; member = later_member x r.item xs r.member; makes = r.makes })
      (member_cases (f x) y (map f xs) c)

  pub map_has : (f : X → Y) (xs : List X) (x : X) → Contains xs x → Contains (map f xs) (f x)
  map_has f [] x c = absurd (no_member x c)
  map_has f (z ∷ zs) x c =
      ⊎_elim
      (λ (e : z ≡ x). subst (Contains (map f (z ∷ zs))) (ap f e) (first_member (f z) (map f zs)))
      (λ (c : Contains zs x). later_member (f z) (f x) (map f zs) (map_has f zs x c))
      (member_cases z x zs c)

  -- an item of xs that gives y
  pub record Gives (h : X → Option Y) (xs : List X) (y : Y) : Type 0 where
    pub item : X
    pub member : Contains xs item
    pub gives : h item ≡ Some y

  pub filter_map_from : (h : X → Option Y) (xs : List X) (y : Y) → Contains (filter_map h xs) y → Gives h xs y
  filter_map_from h [] y c = absurd (no_member y c)
  filter_map_from h (x ∷ xs) y c = by (h x) refl c (filter_map_from h xs y)
    where
      by : (o : Option Y) → h x ≡ o → Contains (cons_option o (filter_map h xs)) y → (Contains (filter_map h xs) y → Gives h xs y) → Gives h (x ∷ xs) y
      by None e c later = let r = later c in record { item = r.item; member = later_member x r.item xs r.member; gives = r.gives }
      by (Some z) e c later =
          ⊎_elim
          (λ (d : z ≡ y). record { item = x; member = first_member x xs; gives = e ∙ ap (λ w. Some w) d })
          (λ (c : Contains (filter_map h xs) y). let r = later c in record { item = r.item; member = later_member x r.item xs r.member; gives = r.gives })
          (member_cases z y (filter_map h xs) c)

  pub filter_map_has : (h : X → Option Y) (xs : List X) (x : X) (y : Y) → Contains xs x → h x ≡ Some y → Contains (filter_map h xs) y
  filter_map_has h [] x y c e = absurd (no_member x c)
  filter_map_has h (z ∷ zs) x y c e =
      ⊎_elim
      (λ (q : z ≡ x). first_option (h z) (ap h q ∙ e))
      (λ (c : Contains zs x). later_option (h z) (filter_map_has h zs x y c e))
      (member_cases z x zs c)
    where
      first_option : (o : Option Y) → o ≡ Some y → Contains (cons_option o (filter_map h zs)) y
      first_option o e = rw e (first_member y (filter_map h zs))

      later_option : (o : Option Y) → Contains (filter_map h zs) y → Contains (cons_option o (filter_map h zs)) y
      later_option None c = c
      later_option (Some w) c = later_member w y (filter_map h zs) c

  -- an item of xs whose list has y
  pub record Holds (f : X → List Y) (xs : List X) (y : Y) : Type 0 where
    pub item : X
    pub member : Contains xs item
    pub holds : Contains (f item) y

  pub flat_map_from : (f : X → List Y) (xs : List X) (y : Y) → Contains (flat_map f xs) y → Holds f xs y
  flat_map_from f [] y c = absurd (no_member y c)
  flat_map_from f (x ∷ xs) y c =
      ⊎_elim
      (λ (c : Contains (f x) y). record { item = x; member = first_member x xs; holds = c })
      (λ (c : Contains (flat_map f xs) y). let r = flat_map_from f xs y c in record { item = r.item; member = later_member x r.item xs r.member; holds = r.holds })
      (Contains-append_cases (f x) (flat_map f xs) y c)

  pub flat_map_has : (f : X → List Y) (xs : List X) (x : X) (y : Y) → Contains xs x → Contains (f x) y → Contains (flat_map f xs) y
  flat_map_has f [] x y c d = absurd (no_member x c)
  flat_map_has f (z ∷ zs) x y c d =
      ⊎_elim
      (λ (e : z ≡ x). Contains-append_left (f z) (flat_map f zs) y (rw e d))
      (λ (c : Contains zs x). Contains-append_right (f z) (flat_map f zs) y (flat_map_has f zs x y c d))
      (member_cases z x zs c)
