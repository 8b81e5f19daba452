-- Where names rise along a list of chains, pairs stand in one order by names and by places.
use Rattle.std.proofs.Common.{◌≡◌, ℕ, ℤ, pos, ◌<◌, cond, nat_eq, List, length, get_or, All, sym, ap, ◌∙◌, arith, ⊎_elim}
use Rattle.std.specs.declared.cmp.Ordering.{Ordering}
use Rattle.std.specs.declared.cmp.Ordering.TheVariants.{Less, Equal, Greater}
use Rattle.std.specs.Ordering.{int_cmp, nat_cmp, ordering_reverse, ordering_then}
use Rattle.std.proofs.lemmas.Bool.{cases_lt, lt-ltb}
use Rattle.std.proofs.lemmas.Cmp.{int_cmp_total, nat_cmp_total, tied_itself}
use Rattle.std.proofs.lemmas.List.Elements.{All-contains, Contains-get_or}
use Rattle.lists.specs.Rising.{IsRising}
use Rattle.coast_join.specs.declared.gap.Gap.{Gap}
use Rattle.coast_join.specs.ById.{id_at}
use Rattle.coast_join.specs.GapSteps.{gap_cmp}
use Rattle.coast_join.specs.Taken.{AreTaken, named_gap_cmp}
use Rattle.coast_join.proofs.OneTaken.{one_taken}

abbrev pub IsBelow : ℕ → Gap → Type 0
IsBelow n g = (g.from_chain < n) × (g.to_chain < n)

nat_less : (i j : ℕ) → i < j → nat_cmp i j ≡ Less
nat_less i j h = ap (λ b. cond b Less (cond (nat_eq i j) Equal Greater)) (lt-ltb i j h)

module _ (names : List ℤ) (rising : IsRising int_cmp names) where
  less_place : (i j : ℕ) → i < j → j < length names → int_cmp (id_at names i) (id_at names j) ≡ Less
  less_place i j h l = rising i j (pos 0) h l

  same_place : (i j : ℕ) → i < length names → j < length names → int_cmp (id_at names i) (id_at names j) ≡ nat_cmp i j
  same_place i j h l = ⊎_elim
      (λ less. less_place i j less l ∙ sym (nat_less i j less))
      (λ rest. ⊎_elim
      (λ more. int_cmp_total.antisymm (id_at names i) (id_at names j) ∙ (ap ordering_reverse (less_place j i more h) ∙ sym (nat_cmp_total.antisymm i j ∙ ap ordering_reverse (nat_less j i more))))
      (λ rest_2. let same : i ≡ j = omega arith in ap (λ k. int_cmp (id_at names i) (id_at names k)) (sym same) ∙ (tied_itself int_cmp_total (id_at names i) ∙ (sym (tied_itself nat_cmp_total i) ∙ ap (nat_cmp i) same)))
      (cases_lt j i))
      (cases_lt i j)

  same_order : (g h : Gap) → IsBelow (length names) g → IsBelow (length names) h → named_gap_cmp names g h ≡ gap_cmp g h
  same_order g h a b =
      ap (ordering_then (nat_cmp g.square h.square)) (
      ap (λ o. ordering_then o (int_cmp (id_at names g.to_chain) (id_at names h.to_chain))) (same_place g.from_chain h.from_chain a.0 b.0)
      ∙ ap (ordering_then (nat_cmp g.from_chain h.from_chain)) (same_place g.to_chain h.to_chain a.1 b.1))

-- what is taken by one order is taken by another that agrees with it on the pairs
retold : (R S : Gap → Gap → Ordering) (P : Gap → Type 0) → ((g h : Gap) → P g → P h → R g h ≡ S g h) → (pairs taken : List Gap) → All P pairs → AreTaken R pairs taken → AreTaken S pairs taken
retold R S P same pairs taken all are = record {
  rising = λ i j d h l. sym (same (get_or taken i d) (get_or taken j d) (passes i d (omega arith)) (passes j d l)) ∙ are.rising i j d h l;
  exact = λ g. (
    (λ c. let w = (are.exact g).0 c in (w.0, λ k d h less. w.1 k d h (same (get_or taken k d) g (passes k d h) (All-contains P pairs g all w.0) ∙ less))),
    (λ p. (are.exact g).1 (p.0, λ k d h less. p.1 k d h (sym (same (get_or taken k d) g (passes k d h) (All-contains P pairs g all p.0)) ∙ less))),
  );
}
  where
    passes : (k : ℕ) (d : Gap) → k < length taken → P (get_or taken k d)
    passes k d h = All-contains P pairs (get_or taken k d) all ((are.exact (get_or taken k d)).0 (Contains-get_or taken k d h)).0

pub by_names : (names : List ℤ) → IsRising int_cmp names → (pairs taken : List Gap) → All (IsBelow (length names)) pairs → AreTaken gap_cmp pairs taken → AreTaken (named_gap_cmp names) pairs taken
by_names names rising pairs taken below = retold gap_cmp (named_gap_cmp names) (IsBelow (length names)) (λ g h a b. sym (same_order names rising g h a b)) pairs taken below

by_places : (names : List ℤ) → IsRising int_cmp names → (pairs taken : List Gap) → All (IsBelow (length names)) pairs → AreTaken (named_gap_cmp names) pairs taken → AreTaken gap_cmp pairs taken
by_places names rising pairs taken below = retold (named_gap_cmp names) gap_cmp (IsBelow (length names)) (same_order names rising) pairs taken below

pub one_by_names : (names : List ℤ) (pairs taken others : List Gap) → IsRising int_cmp names → All (IsBelow (length names)) pairs → AreTaken (named_gap_cmp names) pairs taken → AreTaken (named_gap_cmp names) pairs others → taken ≡ others
one_by_names names pairs taken others rising below a b = one_taken pairs taken others (by_places names rising pairs taken below a) (by_places names rising pairs others below b)
