-- The items of a list of which something holds.
use Rattle.std.proofs.Common.{◌≡◌, ◌∙◌, refl, sym, ap, List, [], ◌∷◌, ◌++◌, ◌⊎◌, inl, inr}
use Rattle.area_certify.specs.Areas.{AreThose}

pub those_same : {X : Type 0} (P : X → Type 0) (xs ys zs : List X) → AreThose P xs ys → AreThose P xs zs → ys ≡ zs
those_same P [] ys zs a b = a ∙ sym b
those_same P (x ∷ xs) ys zs (inl a) (inl b) = a.3 ∙ ap (λ others. x ∷ others) (those_same P xs a.1 b.1 a.2 b.2) ∙ sym b.3
those_same P (x ∷ xs) ys zs (inl a) (inr b) = absurd (b.0 a.0)
those_same P (x ∷ xs) ys zs (inr a) (inl b) = absurd (a.0 b.0)
those_same P (x ∷ xs) ys zs (inr a) (inr b) = those_same P xs ys zs a.1 b.1

pub those_append : {X : Type 0} (P : X → Type 0) (xs more ys later : List X) → AreThose P xs ys → AreThose P more later → AreThose P (xs ++ more) (ys ++ later)
those_append P [] more ys later a b = rw a b
those_append P (x ∷ xs) more ys later (inl a) b = inl (a.0, a.1 ++ later, those_append P xs more a.1 later a.2 b, ap (λ zs. zs ++ later) a.3)
those_append P (x ∷ xs) more ys later (inr a) b = inr (a.0, those_append P xs more ys later a.1 b)

module _ {X : Type 0} (P : X → Type 0) (decide : (x : X) → P x ⊎ (P x → ⊥)) where
  with_first : (x : X) (xs : List X) → P x ⊎ (P x → ⊥) → ((ys : List X) × AreThose P xs ys) → (ys : List X) × AreThose P (x ∷ xs) ys
  with_first x xs (inl holds) others = (x ∷ others.0, inl (holds, others.0, others.1, refl))
  with_first x xs (inr fails) others = (others.0, inr (fails, others.1))

  pub those_exist : (xs : List X) → (ys : List X) × AreThose P xs ys
  those_exist [] = ([], refl)
  those_exist (x ∷ xs) = with_first x xs (decide x) (those_exist xs)
