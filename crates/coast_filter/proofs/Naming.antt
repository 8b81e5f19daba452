-- Ids among names, picked one by one.
use Rattle.std.proofs.Common.{◌≡◌, ◌∙◌, refl, sym, ap, Bool, true, false, append-nil, ℕ, ℤ, pos, ◌+◌, ◌<◌, List, [], ◌∷◌, ◌++◌, length, take, get_or}
use Rattle.std.proofs.Math.Path.{fun_ext}
use Rattle.std.specs.List.{flat_map, list_any}
use Rattle.std.specs.Ordering.{int_eq}
use Rattle.std.proofs.lemmas.List.{flat_map_more, take_more}
use Rattle.std.proofs.lemmas.List.Elements.{filter-append}
use Rattle.std.proofs.lemmas.Cmp.{int_eq_equiv}
use Rattle.coast_filter.specs.ByIds.{among}

-- a name is looked for from either side
pub any-turned : (name : ℤ) (names : List ℤ) → list_any (int_eq name) names ≡ list_any (λ other. int_eq other name) names
any-turned name names = ap (λ (f : ℤ → Bool). list_any f names) (fun_ext (λ other. int_eq_equiv.symm name other))

-- ---- one more id, among the names or not

module _ {A : Type 0} (f : ℤ → List A) (names ids : List ℤ) (i : ℕ) (z : ℤ) (within : i < length ids) (is_next : z ≡ get_or ids i (pos 0)) where
  split : among names (take (i + 1) ids) ≡ among names (take i ids) ++ among names (z ∷ [])
  split =
      let more : take (i + 1) ids ≡ take i ids ++ z ∷ [] = take_more ids i (pos 0) within ∙ ap (λ (w : ℤ). take i ids ++ w ∷ []) (sym is_next) in
      ap (among names) more ∙ filter-append (λ w. list_any (int_eq w) names) (take i ids) (z ∷ [])

  pub one_picked : (text now new : List A) → list_any (int_eq z) names ≡ true → now ≡ text ++ flat_map f (among names (take i ids)) → new ≡ now ++ f z →
      new ≡ text ++ flat_map f (among names (take (i + 1) ids))
  one_picked text now new there was is =
      let more : among names (take (i + 1) ids) ≡ among names (take i ids) ++ z ∷ [] = split ∙ rw there refl in
      is ∙ ap (λ (xs : List A). xs ++ f z) was ∙ flat_map_more f text (among names (take i ids)) z ∙ ap (λ (zs : List ℤ). text ++ flat_map f zs) (sym more)

  pub none_picked : (text now : List A) → list_any (int_eq z) names ≡ false → now ≡ text ++ flat_map f (among names (take i ids)) → now ≡ text ++ flat_map f (among names (take (i + 1) ids))
  none_picked text now absent was =
      let same : among names (take (i + 1) ids) ≡ among names (take i ids) = split ∙ rw absent (append-nil (among names (take i ids))) in
      was ∙ ap (λ (zs : List ℤ). text ++ flat_map f zs) (sym same)
