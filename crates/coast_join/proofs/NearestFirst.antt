-- The nearest pairs first.
use Rattle.std.proofs.Common.{◌≡◌, ◌≢◌, ◌⊎◌, ℕ, zero, suc, ◌<◌, Bool, true, false, ◌||◌, List, [], ◌∷◌, ◌++◌, length, take, get_or, All, Contains, nat_eq, refl, sym, ap, subst, ◌∙◌, arith, ⊎_elim}
use Rattle.std.specs.declared.cmp.Ordering.TheVariants.{Less, Equal, Greater}
use Rattle.std.specs.Cmp.{IsTotalOrder}
use Rattle.std.specs.List.{list_any}
use Rattle.std.specs.Ordering.{ordering_reverse}
use Rattle.std.proofs.lemmas.Bool.{false≢true, eq-eqb, eqb-true}
use Rattle.std.proofs.lemmas.Cmp.{nat_cmp_total, on_total, then_total, tied_itself}
use Rattle.std.proofs.lemmas.List.{get_or_default, length-take-le, get_or-take}
use Rattle.std.proofs.lemmas.List.Elements.{All-push, All-contains, Contains-push, Contains-push_cases, Contains-append_left, Contains-get_or}
use Rattle.std.proofs.lemmas.List.Quantifiers.{all_pairs_push}
use Rattle.lists.specs.Rising.{IsRising}
use Rattle.coast_join.specs.declared.gap.Gap.{Gap}
use Rattle.coast_join.specs.GapSteps.{gap_cmp}
use Rattle.coast_join.specs.Taken.{AreTaken, IsFree}

pub gap_cmp_total : IsTotalOrder gap_cmp
gap_cmp_total = then_total (on_total (λ (g : Gap). g.square) nat_cmp_total) (then_total (on_total (λ (g : Gap). g.from_chain) nat_cmp_total) (on_total (λ (g : Gap). g.to_chain) nat_cmp_total))

pub not_itself : (g : Gap) → gap_cmp g g ≡ Less → ⊥
not_itself g e = let t = tied_itself gap_cmp_total g in let c : Less ≡ Equal = sym e ∙ t in absurd (cc)

pub not_both : (g h : Gap) → gap_cmp g h ≡ Less → gap_cmp h g ≡ Less → ⊥
not_both g h a b = let t : gap_cmp g h ≡ Greater = gap_cmp_total.antisymm g h ∙ ap ordering_reverse b in let c : Less ≡ Greater = sym a ∙ t in absurd (cc)

pub none_marked : (place : Gap → ℕ) (c : ℕ) (taken : List Gap) → list_any (λ g. nat_eq (place g) c) taken ≡ false → All (λ g. place g ≢ c) taken
none_marked place c [] e k d h = absurd (omega arith)
none_marked place c (g ∷ gs) e zero d h = λ s. absurd (false≢true (sym e ∙ ap (λ b. b || list_any (λ g. nat_eq (place g) c) gs) (eq-eqb (place g) c s)))
none_marked place c (g ∷ gs) e (suc k) d h = none_marked place c gs (rest (nat_eq (place g) c) e) k d (omega arith)
  where
    rest : (b : Bool) → (b || list_any (λ g. nat_eq (place g) c) gs) ≡ false → list_any (λ g. nat_eq (place g) c) gs ≡ false
    rest true e = absurd (false≢true (sym e))
    rest false e = e

pub some_marked : (place : Gap → ℕ) (c : ℕ) (taken : List Gap) → list_any (λ g. nat_eq (place g) c) taken ≡ true → (g : Gap) × Contains taken g × (place g ≡ c)
some_marked place c [] e = absurd (false≢true e)
some_marked place c (g ∷ gs) e = by (nat_eq (place g) c) refl e (some_marked place c gs)
  where
    by : (b : Bool) → nat_eq (place g) c ≡ b → (b || list_any (λ g. nat_eq (place g) c) gs) ≡ true → (list_any (λ g. nat_eq (place g) c) gs ≡ true → (h : Gap) × Contains gs h × (place h ≡ c)) → (h : Gap) × Contains (g ∷ gs) h × (place h ≡ c)
    by true s t later = (g, (0, omega arith, refl), eqb-true (place g) c s)
    by false s t later = let r = later t in (r.0, (suc r.1.0, (let l = r.1.1 in omega arith), r.1.2), r.2)

module _ (passed : List Gap) (g : Gap) (above : All (λ h. gap_cmp h g ≡ Less) passed) (taken : List Gap) (are : AreTaken gap_cmp passed taken) where
  all_passed : (h : Gap) → Contains taken h → Contains passed h
  all_passed h c = ((are.exact h).0 c).0

  below : (h : Gap) → Contains taken h → gap_cmp h g ≡ Less
  below h c = All-contains (λ h. gap_cmp h g ≡ Less) passed h above (all_passed h c)

  below_at : (k : ℕ) (d : Gap) → k < length taken → gap_cmp (get_or taken k d) g ≡ Less
  below_at k d h = below (get_or taken k d) (Contains-get_or taken k d h)

  -- a lesser one that is taken touches it
  pub skip : (h : Gap) → Contains taken h → (h.from_chain ≡ g.from_chain) ⊎ (h.to_chain ≡ g.to_chain) → AreTaken gap_cmp (passed ++ g ∷ []) taken
  skip h c touches = record { rising = are.rising; exact = λ x. ((λ t. let w = (are.exact x).0 t in (Contains-append_left passed (g ∷ []) x w.0, w.1)), back x) }
    where
      back : (x : Gap) → Contains (passed ++ g ∷ []) x × IsFree gap_cmp taken x → Contains taken x
      back x (p, f) = ⊎_elim (λ old. (are.exact x).1 (old, f))
          (λ e. let free : IsFree gap_cmp taken g = subst (IsFree gap_cmp taken) (sym e) f in
          let apart = All-contains (λ y. gap_cmp y g ≡ Less → (y.from_chain ≢ g.from_chain) × (y.to_chain ≢ g.to_chain)) taken h free c (below h c) in
          absurd (⊎_elim (λ s. apart.0 s) (λ s. apart.1 s) touches))
          (Contains-push_cases passed g x p)

  pub choose : All (λ h. h.from_chain ≢ g.from_chain) taken → All (λ h. h.to_chain ≢ g.to_chain) taken → AreTaken gap_cmp (passed ++ g ∷ []) (taken ++ g ∷ [])
  choose ends starts = record {
    rising = all_pairs_push (λ x y. gap_cmp x y ≡ Less) taken g are.rising below_at;
    exact = λ x. (forth x, back x);
  }
    where
      free_of : (x : Gap) → IsFree gap_cmp taken x → (gap_cmp g x ≡ Less → ⊥) → IsFree gap_cmp (taken ++ g ∷ []) x
      free_of x f never = All-push (λ h. gap_cmp h x ≡ Less → (h.from_chain ≢ x.from_chain) × (h.to_chain ≢ x.to_chain)) taken g f (λ l. absurd (never l))

      free_itself : IsFree gap_cmp taken g
      free_itself k d h = λ _. (ends k d h, starts k d h)

      forth : (x : Gap) → Contains (taken ++ g ∷ []) x → Contains (passed ++ g ∷ []) x × IsFree gap_cmp (taken ++ g ∷ []) x
      forth x c = ⊎_elim
          (λ old. let w = (are.exact x).0 old in (Contains-append_left passed (g ∷ []) x w.0, free_of x w.1 (λ l. not_both g x l (below x old))))
          (λ e. (subst (Contains (passed ++ g ∷ [])) e (Contains-push passed g), subst (IsFree gap_cmp (taken ++ g ∷ [])) e (free_of g free_itself (not_itself g))))
          (Contains-push_cases taken g x c)

      back : (x : Gap) → Contains (passed ++ g ∷ []) x × IsFree gap_cmp (taken ++ g ∷ []) x → Contains (taken ++ g ∷ []) x
      back x (p, f) = ⊎_elim
          (λ old. Contains-append_left taken (g ∷ []) x ((are.exact x).1 (old, λ k d h. front k d h)))
          (λ e. subst (Contains (taken ++ g ∷ [])) e (Contains-push taken g))
          (Contains-push_cases passed g x p)
        where
          front : (k : ℕ) (d : Gap) → k < length taken → gap_cmp (get_or taken k d) x ≡ Less → ((get_or taken k d).from_chain ≢ x.from_chain) × ((get_or taken k d).to_chain ≢ x.to_chain)
          front k d h = All-contains (λ y. gap_cmp y x ≡ Less → (y.from_chain ≢ x.from_chain) × (y.to_chain ≢ x.to_chain)) (taken ++ g ∷ []) (get_or taken k d) f (Contains-append_left taken (g ∷ []) (get_or taken k d) (Contains-get_or taken k d h))

pub rising_front : (pairs : List Gap) (i : ℕ) (g : Gap) → IsRising gap_cmp pairs → i < length pairs → g ≡ get_or pairs i g → All (λ h. gap_cmp h g ≡ Less) (take i pairs)
rising_front pairs i g rising l e k d h =
    let long = length-take-le i pairs (omega arith) in
    let at = get_or-take i pairs k d (omega arith) in
    let here : get_or pairs i d ≡ g = get_or_default pairs i d g l ∙ sym e in
    rw at (subst (λ y. gap_cmp (get_or pairs k d) y ≡ Less) here (rising k i d (omega arith) l))
