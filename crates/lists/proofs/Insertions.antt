-- Lists with one item put in.
use Rattle.std.proofs.Common.{All, AllPairs, List, [], arith, insert, length, suc, zero, ℕ, ◌∷◌, ◌≤◌}
use Rattle.std.specs.List.{AllWithin}
use Rattle.std.proofs.lemmas.List.Elements.{All-cons, All-head, All-tail}
use Rattle.std.proofs.lemmas.List.Kept.{AllPairs-cons}

module _ {X : Type 0} where
  pub all_insert : (P : X → Type 0) (xs : List X) (i : ℕ) (x : X) → All P xs → P x → All P (insert xs i x)
  all_insert P xs zero x all here = All-cons P x xs here all
  all_insert P [] (suc i) x all here = All-cons P x [] here all
  all_insert P (y ∷ ys) (suc i) x all here = All-cons P y (insert ys i x) (All-head P y ys all) (all_insert P ys i x (All-tail P y ys all) here)

  pub pairs_insert : (R : X → X → Type 0) (xs : List X) (i : ℕ) (x : X) → AllPairs R xs → AllWithin (λ y. R y x) xs 0 i → AllWithin (R x) xs i (length xs) → i ≤ length xs → AllPairs R (insert xs i x)
  pairs_insert R xs zero x pairs before after within = AllPairs-cons R x xs (λ k d h. after k d (omega arith) h) pairs
  pairs_insert R [] (suc i) x pairs before after within = absurd (omega arith)
  pairs_insert R (y ∷ ys) (suc i) x pairs before after within =
      AllPairs-cons R y (insert ys i x)
      (all_insert (R y) ys i x (λ k d h. pairs 0 (suc k) d (omega arith) (omega arith)) (before 0 y (omega arith) (omega arith)))
      (pairs_insert R ys i x (λ k l d h m. pairs (suc k) (suc l) d (omega arith) (omega arith)) (λ k d h l. before (suc k) d (omega arith) (omega arith)) (λ k d h l. after (suc k) d (omega arith) (omega arith)) (omega arith))
