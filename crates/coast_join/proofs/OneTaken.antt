-- Of pairs there is one list of those that are taken.
use Rattle.std.proofs.Common.{◌≡◌, ◌≢◌, ℕ, suc, ◌<◌, List, [], ◌∷◌, ◌++◌, length, get_or, All, Contains, refl, sym, ap, subst, ◌∙◌, arith, ⊎_elim}
use Rattle.std.specs.declared.cmp.Ordering.{Ordering}
use Rattle.std.specs.declared.cmp.Ordering.TheVariants.{Less, Equal, Greater}
use Rattle.std.specs.Ordering.{is_eq, ordering_reverse}
use Rattle.std.proofs.lemmas.List.{append_assoc}
use Rattle.std.proofs.lemmas.List.Elements.{All-contains, All-append, All-nil, All-cons, Contains-append_cases, Contains-append_left, Contains-append_right, Contains-get_or}
use Rattle.lists.specs.Rising.{IsRising}
use Rattle.coast_join.specs.declared.gap.Gap.{Gap}
use Rattle.coast_join.specs.GapSteps.{gap_cmp}
use Rattle.coast_join.specs.Taken.{AreTaken, IsFree}
use Rattle.coast_join.proofs.NearestFirst.{gap_cmp_total, not_both, not_itself}
use Rattle.coast_join.proofs.NearPairs.{tied_gaps}

abbrev Less_than : Gap → Gap → Type 0
Less_than g h = gap_cmp g h ≡ Less

-- what stands before an item of a rising list is less, and what stands after it is greater
before_less : (c : List Gap) (g : Gap) (r : List Gap) → IsRising gap_cmp (c ++ g ∷ r) → All (λ h. Less_than h g) c
before_less [] g r up = All-nil (λ h. Less_than h g)
before_less (x ∷ c) g r up = All-cons (λ h. Less_than h g) x c (first x c up) (before_less c g r (λ i j d h l. up (suc i) (suc j) d (omega arith) (omega arith)))
  where
    place : (ys : List Gap) → (k : ℕ) × (k < length (ys ++ g ∷ r)) × ((d : Gap) → get_or (ys ++ g ∷ r) k d ≡ g)
    place [] = (0, omega arith, λ d. refl)
    place (y ∷ ys) = let p = place ys in (suc p.0, (let l = p.1 in omega arith), p.2)

    first : (y : Gap) (ys : List Gap) → IsRising gap_cmp (y ∷ (ys ++ g ∷ r)) → Less_than y g
    first y ys h = let p = place ys in let l = p.1 in subst (Less_than y) (p.2 y) (h 0 (suc p.0) y (omega arith) (omega arith))

after_less : (c : List Gap) (g : Gap) (r : List Gap) → IsRising gap_cmp (c ++ g ∷ r) → All (λ h. Less_than g h) r
after_less [] g r up = λ k d h. up 0 (suc k) d (omega arith) (omega arith)
after_less (x ∷ c) g r up = after_less c g r (λ i j d h l. up (suc i) (suc j) d (omega arith) (omega arith))

-- an item that stands in a list with c in front and is less than g, which comes next, stands in c
module _ (pairs : List Gap) where
  -- g stands in t right after c, and is less than what comes after c in u, if anything does: then it stands in u
  moved : (t u c : List Gap) (g : Gap) (r rest : List Gap) → AreTaken gap_cmp pairs t → AreTaken gap_cmp pairs u → t ≡ c ++ g ∷ r → u ≡ c ++ rest → All (λ h. Less_than g h) rest → Contains u g → ⊥
  moved t u c g r rest at au te ue above inside = ⊎_elim
      (λ in_c. not_itself g (All-contains (λ h. Less_than h g) c g (before_less c g r (subst (IsRising gap_cmp) te at.rising)) in_c))
      (λ in_rest. not_itself g (All-contains (λ h. Less_than g h) rest g above in_rest))
      (Contains-append_cases c rest g (subst (λ xs. Contains xs g) ue inside))

  taken_too : (t u c : List Gap) (g : Gap) (r rest : List Gap) → AreTaken gap_cmp pairs t → AreTaken gap_cmp pairs u → t ≡ c ++ g ∷ r → u ≡ c ++ rest → All (λ h. Less_than g h) rest → Contains u g
  taken_too t u c g r rest at au te ue above =
      let here : Contains t g = subst (λ xs. Contains xs g) (sym te) (Contains-append_right c (g ∷ r) g (0, omega arith, refl)) in
      let w = (at.exact g).0 here in
      let free_c : IsFree gap_cmp c g = λ k d h. let f = All-contains (λ x. gap_cmp x g ≡ Less → (x.from_chain ≢ g.from_chain) × (x.to_chain ≢ g.to_chain)) t (get_or c k d) w.1 (subst (λ xs. Contains xs (get_or c k d)) (sym te) (Contains-append_left c (g ∷ r) (get_or c k d) (Contains-get_or c k d h))) in f in
      let free_rest : IsFree gap_cmp rest g = λ k d h less. absurd (not_both (get_or rest k d) g less (above k d h)) in
      let free : IsFree gap_cmp u g = subst (λ xs. IsFree gap_cmp xs g) (sym ue) (All-append (λ x. gap_cmp x g ≡ Less → (x.from_chain ≢ g.from_chain) × (x.to_chain ≢ g.to_chain)) c rest free_c free_rest) in
      (au.exact g).1 (w.0, free)

  clash : (t u c : List Gap) (g : Gap) (r rest : List Gap) → AreTaken gap_cmp pairs t → AreTaken gap_cmp pairs u → t ≡ c ++ g ∷ r → u ≡ c ++ rest → All (λ h. Less_than g h) rest → ⊥
  clash t u c g r rest at au te ue above = moved t u c g r rest at au te ue above (taken_too t u c g r rest at au te ue above)

  next_above : (u c : List Gap) (g h : Gap) (s : List Gap) → AreTaken gap_cmp pairs u → u ≡ c ++ h ∷ s → Less_than g h → All (λ x. Less_than g x) (h ∷ s)
  next_above u c g h s au ue less = All-cons (λ x. Less_than g x) h s less (λ k d l. gap_cmp_total.trans g h (get_or s k d) less (after_less c h s (subst (IsRising gap_cmp) ue au.rising) k d l))

  same_from : (t u : List Gap) → AreTaken gap_cmp pairs t → AreTaken gap_cmp pairs u → (c r s : List Gap) → t ≡ c ++ r → u ≡ c ++ s → r ≡ s
  same_from t u at au c [] [] te ue = refl
  same_from t u at au c [] (h ∷ s) te ue = absurd (clash u t c h s [] au at ue te (All-nil (λ x. Less_than h x)))
  same_from t u at au c (g ∷ r) [] te ue = absurd (clash t u c g r [] at au te ue (All-nil (λ x. Less_than g x)))
  same_from t u at au c (g ∷ r) (h ∷ s) te ue = by (gap_cmp g h) refl (λ e. same_from t u at au (c ++ g ∷ []) r s (te ∙ sym (append_assoc c (g ∷ []) r)) (ue ∙ (ap (λ (x : Gap). c ++ x ∷ s) (sym e) ∙ sym (append_assoc c (g ∷ []) s))))
    where
      by : (o : Ordering) → gap_cmp g h ≡ o → (g ≡ h → r ≡ s) → g ∷ r ≡ h ∷ s
      by Less e rest = absurd (clash t u c g r (h ∷ s) at au te ue (next_above u c g h s au ue e))
      by Greater e rest = absurd (clash u t c h s (g ∷ r) au at ue te (next_above t c h g r at te (gap_cmp_total.antisymm h g ∙ ap ordering_reverse e)))
      by Equal e rest = let heads : g ≡ h = tied_gaps g h (ap is_eq e) in let tails = rest heads in cc

  pub one_taken : (t u : List Gap) → AreTaken gap_cmp pairs t → AreTaken gap_cmp pairs u → t ≡ u
  one_taken t u at au = same_from t u at au [] t u refl refl
