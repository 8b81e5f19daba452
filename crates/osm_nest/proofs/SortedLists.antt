-- Lists in strict order are told by their members.
use Rattle.std.proofs.Common.{List, [], ap, inl, inr, refl, subst, sym, ◌∙◌, ◌∷◌, ◌≡◌, ◌⊎◌}
use Rattle.lists.specs.Member.{EachPair, In}
use Rattle.lists.proofs.ListsKit.{in-all}

module _ {X : Type 0} (R : X → X → Type 0) (Good : X → Type 0) (apart : (x y : X) → Good x → R x y → R y x → ⊥) where
  heads : (x y : X) (xs ys : List X) → EachPair R (x ∷ xs) → EachPair R (y ∷ ys) → Good x → (x ≡ y) ⊎ In x ys → (y ≡ x) ⊎ In y xs → x ≡ y
  heads x y xs ys p q g (inl e) j = e
  heads x y xs ys p q g (inr i) (inl e) = sym e
  heads x y xs ys p q g (inr i) (inr j) = absurd (apart x y g (in-all (R x) xs y p.0 j) (in-all (R y) ys x q.0 i))

  later : (x y z : X) (xs ys : List X) → EachPair R (x ∷ xs) → x ≡ y → Good x → In z xs → (z ≡ y) ⊎ In z ys → In z ys
  later x y z xs ys p e g i (inl k) =
      let r : R x x = subst (R x) (k ∙ sym e) (in-all (R x) xs z p.0 i) in absurd (apart x x g r r)
  later x y z xs ys p e g i (inr j) = j

  pub same-sorted : (xs ys : List X) → EachPair R xs → EachPair R ys → ((x : X) → In x xs → Good x) → ((x : X) → In x ys → Good x) → ((x : X) → In x xs → In x ys) → ((x : X) → In x ys → In x xs) → xs ≡ ys
  same-sorted [] [] p q g h i j = refl
  same-sorted [] (y ∷ ys) p q g h i j = absurd (j y (inl refl))
  same-sorted (x ∷ xs) [] p q g h i j = absurd (i x (inl refl))
  same-sorted (x ∷ xs) (y ∷ ys) p q g h i j =
      let gx = g x (inl refl) in
      let e = heads x y xs ys p q gx (i x (inl refl)) (j y (inl refl)) in
      let rest = same-sorted xs ys p.1 q.1 (λ z k. g z (inr k)) (λ z k. h z (inr k))
      (λ z k. later x y z xs ys p e gx k (i z (inr k))) (λ z k. later y x z ys xs q (sym e) (subst Good e gx) k (j z (inr k))) in
      ap (λ w. w ∷ xs) e ∙ ap (λ l. y ∷ l) rest
