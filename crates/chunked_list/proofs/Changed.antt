-- Numbers that are changed one after another, from a place on.
use Rattle.std.proofs.Common.{arith, length, List, ◌+◌, ◌<◌, ◌≡◌, ◌≤◌, ℕ, ⊎_elim}
use Rattle.std.proofs.Math.ListN.{get_or, set}
use Rattle.std.proofs.Math.Path.{ap, refl, sym, ◌∙◌}
use Rattle.std.proofs.lemmas.Bool.{cases_eq}
use Rattle.std.proofs.lemmas.List.{get_or-set_other, get_or-set_same, length-set}
use Rattle.chunked_list.specs.Blocks.{AreChanged}

module _ (f : ℕ → ℕ) (from : ℕ) (ns : List ℕ) where
  pub changed_none : AreChanged f from from ns ns
  changed_none = record { long = refl; below = λ k up. refl; there = λ k up below. absurd (omega arith); above = λ k up. refl }

  pub changed_more : (ms : List ℕ) (i : ℕ) → from ≤ i → i < length ns → AreChanged f from i ns ms → AreChanged f from (i + 1) ns (set ms i (f (get_or ms i 0)))
  changed_more ms i up inside are =
      let m = f (get_or ms i 0) in
      let long = are.long in
      let same : get_or (set ms i m) i 0 ≡ f (get_or ns i 0) = get_or-set_same ms i m 0 (omega arith) ∙ ap f (are.above i (omega arith)) in
      record {
        long = length-set ms i m ∙ long;
        below = λ k below. get_or-set_other ms i k m 0 (λ at. absurd (omega arith)) ∙ are.below k below;
        there = λ k up' below. ⊎_elim
            (λ (at : k ≡ i). ap (λ j. get_or (set ms i m) j 0) at ∙ same ∙ ap (λ j. f (get_or ns j 0)) (sym at))
            (λ (at : k ≡ i → ⊥). get_or-set_other ms i k m 0 at ∙ are.there k up' (omega arith))
            (cases_eq k i);
        above = λ k up'. get_or-set_other ms i k m 0 (λ at. absurd (omega arith)) ∙ are.above k (omega arith);
      }
