-- Places in order of the ids that stand there.
use Rattle.std.proofs.Common.{◌≡◌, ℕ, ℤ, pos, suc, ◌+◌, false, List, [], ◌∷◌, ◌++◌, length, map, get_or, All, refl, sym, ap, subst, ◌∙◌, arith}
use Rattle.std.specs.declared.cmp.Ordering.{Ordering}
use Rattle.std.specs.declared.cmp.Ordering.TheVariants.{Less, Equal, Greater}
use Rattle.std.specs.Ordering.{int_cmp, int_eq, nat_cmp, is_lt, ordering_then, ordering_reverse}
use Rattle.std.specs.Cmp.{IsTotalOrder}
use Rattle.std.specs.List.{IsDistinct, range_with_len}
use Rattle.std.specs.List.Sorted.{IsPermutation, IsSorted}
use Rattle.std.proofs.lemmas.Bool.{false≢true}
use Rattle.std.proofs.lemmas.Cmp.{int_cmp_total, nat_cmp_total, on_total, then_total, int_ranked, int_eq_equiv}
use Rattle.std.proofs.lemmas.List.{get_or-map, length-map}
use Rattle.std.proofs.lemmas.List.FromFn.{fill_by_all, map-range_with_len_more}
use Rattle.std.proofs.lemmas.List.Elements.{All-map}
use Rattle.std.proofs.lemmas.List.Sorted.{ranks_by, sorted_far, IsPermutation-map, All-permutation}
use Rattle.std.proofs.lemmas.Map.Keys.{IsDistinct-IsPermutation, apart_from_distinct}
use Rattle.lists.specs.Rising.{IsRising}
use Rattle.coast_join.specs.ById.{AreById, id_at, ids_with_places}
use Rattle.lists.proofs.ListsKit.{int_eq-same, map-map}

abbrev pub pair_cmp : ℤ × ℕ → ℤ × ℕ → Ordering
pair_cmp a b = ordering_then (int_cmp a.0 b.0) (nat_cmp a.1 b.1)

pub pair_cmp_total : IsTotalOrder pair_cmp
pair_cmp_total = then_total (on_total (λ (p : ℤ × ℕ). p.0) int_cmp_total) (on_total (λ (p : ℤ × ℕ). p.1) nat_cmp_total)

pub map-same : {A B : Type 0} (f g : A → B) (xs : List A) → All (λ x. f x ≡ g x) xs → map f xs ≡ map g xs
map-same f g [] h = refl
map-same f g (x ∷ xs) h =
    let here : f x ≡ g x = h 0 x (omega arith) in
    let rest = map-same f g xs (λ k d l. h (suc k) d (omega arith)) in
    cc

pub map-self : {A : Type 0} (xs : List A) → map (λ (x : A). x) xs ≡ xs
map-self [] = refl
map-self (x ∷ xs) = ap (λ ys. x ∷ ys) (map-self xs)

placed_places : (ids : List ℤ) → map (λ (p : ℤ × ℕ). p.1) (ids_with_places ids) ≡ range_with_len 0 (length ids)
placed_places ids = map-map (λ (p : ℤ × ℕ). p.1) (λ i. (id_at ids i, i)) (range_with_len 0 (length ids)) ∙ map-self (range_with_len 0 (length ids))

placed_ids : (ids : List ℤ) → map (λ (p : ℤ × ℕ). p.0) (ids_with_places ids) ≡ ids
placed_ids ids = map-map (λ (p : ℤ × ℕ). p.0) (λ i. (id_at ids i, i)) (range_with_len 0 (length ids)) ∙ sym (fill_by_all (id_at ids) ids (length ids) (pos 0) refl (λ k h. refl))

placed_is : (ids : List ℤ) → All (λ (p : ℤ × ℕ). p.0 ≡ id_at ids p.1) (ids_with_places ids)
placed_is ids = All-map (λ (p : ℤ × ℕ). p.0 ≡ id_at ids p.1) (λ i. (id_at ids i, i)) (range_with_len 0 (length ids)) (λ k d h. refl)

pub placed_more : (ids : List ℤ) (i : ℕ) (z : ℤ) (xs : List (ℤ × ℕ)) → z ≡ id_at ids i → xs ≡ map (λ k. (id_at ids k, k)) (range_with_len 0 i) → xs ++ (z, i) ∷ [] ≡ map (λ k. (id_at ids k, k)) (range_with_len 0 (i + 1))
placed_more ids i z xs e h =
    let f : ℕ → ℤ × ℕ = λ k. (id_at ids k, k) in
    ap (λ (w : ℤ). xs ++ (w, i) ∷ []) e ∙ (ap (λ (ys : List (ℤ × ℕ)). ys ++ (id_at ids i, i) ∷ []) h ∙ sym (map-range_with_len_more f 0 i i (omega arith)))

below : (a b : ℤ × ℕ) → is_lt (pair_cmp b a) ≡ false → int_eq a.0 b.0 ≡ false → int_cmp a.0 b.0 ≡ Less
below a b up apart = by (int_cmp b.0 a.0) refl up
  where
    by : (o : Ordering) → int_cmp b.0 a.0 ≡ o → is_lt (ordering_then o (nat_cmp b.1 a.1)) ≡ false → int_cmp a.0 b.0 ≡ Less
    by Less e u = absurd (false≢true (sym u))
    by Equal e u = absurd (false≢true (sym apart ∙ int_eq-same a.0 b.0 (sym (int_ranked b.0 a.0 Equal (sym e)))))
    by Greater e u = int_cmp_total.antisymm a.0 b.0 ∙ ap ordering_reverse e

pub by_id_are : (ids : List ℤ) (s : List (ℤ × ℕ)) → IsDistinct int_eq ids → IsPermutation (ids_with_places ids) s → IsSorted pair_cmp s → AreById ids (map (λ p. p.1) s)
by_id_are ids s differ moved sorted = record {
  each = subst (λ xs. IsPermutation xs (map (λ p. p.1) s)) (placed_places ids) (IsPermutation-map (λ (p : ℤ × ℕ). p.1) (ids_with_places ids) s moved);
  rising = subst (IsRising int_cmp) (sym same) rises;
}
  where
    same : map (id_at ids) (map (λ (p : ℤ × ℕ). p.1) s) ≡ map (λ (p : ℤ × ℕ). p.0) s
    same = map-map (id_at ids) (λ (p : ℤ × ℕ). p.1) s ∙ sym (map-same (λ (p : ℤ × ℕ). p.0) (λ p. id_at ids p.1) s (All-permutation (λ (p : ℤ × ℕ). p.0 ≡ id_at ids p.1) (ids_with_places ids) s moved (placed_is ids)))

    apart : IsDistinct int_eq (map (λ (p : ℤ × ℕ). p.0) s)
    apart = IsDistinct-IsPermutation int_eq int_eq_equiv.symm ids (map (λ (p : ℤ × ℕ). p.0) s) (subst (λ xs. IsPermutation xs (map (λ (p : ℤ × ℕ). p.0) s)) (placed_ids ids) (IsPermutation-map (λ (p : ℤ × ℕ). p.0) (ids_with_places ids) s moved)) differ

    rises : IsRising int_cmp (map (λ (p : ℤ × ℕ). p.0) s)
    rises i j d h l =
        let long : length (map (λ (p : ℤ × ℕ). p.0) s) ≡ length s = length-map s (λ (p : ℤ × ℕ). p.0) in
        let zero_pair : ℤ × ℕ = (d, 0) in
        let a = get_or-map (λ (p : ℤ × ℕ). p.0) s i zero_pair d (omega arith) in
        let b = get_or-map (λ (p : ℤ × ℕ). p.0) s j zero_pair d (omega arith) in
        let far = sorted_far (λ x y. is_lt (pair_cmp x y)) (ranks_by pair_cmp_total (λ (p : ℤ × ℕ). p)) s sorted i j zero_pair (omega arith) (omega arith) in
        let differs = apart_from_distinct int_eq (map (λ (p : ℤ × ℕ). p.0) s) i j d apart h l in
        rw (a, b) (below (get_or s i zero_pair) (get_or s j zero_pair) far (rw (a, b) at differs))
