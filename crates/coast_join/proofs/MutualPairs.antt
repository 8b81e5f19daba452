-- A pair that is the nearest both ways may be taken at any time.
use Rattle.std.proofs.Common.{◌≡◌, ◌≢◌, ◌⊎◌, inl, inr, ℕ, ◌<◌, Bool, true, false, List, [], ◌∷◌, ◌++◌, length, get_or, set, Contains, refl, sym, ap, subst, ◌∙◌, arith, ⊎_elim}
use Rattle.std.specs.declared.cmp.Ordering.{Ordering}
use Rattle.std.specs.declared.cmp.Ordering.TheVariants.{Less, Equal, Greater}
use Rattle.std.specs.Ordering.{is_eq, nat_cmp, ordering_reverse, ordering_then}
use Rattle.std.proofs.lemmas.Bool.{cases_eq, false≢true}
use Rattle.std.proofs.lemmas.Cmp.{ranked}
use Rattle.std.proofs.lemmas.List.{get_or-set_other, get_or-set_same}
use Rattle.std.proofs.lemmas.List.Elements.{All-contains, All-nil, All-push, All-weaker, Contains-append_left, Contains-get_or, Contains-push}
use Rattle.coast_join.specs.declared.gap.Gap.{Gap}
use Rattle.coast_join.specs.GapSteps.{gap_cmp}
use Rattle.coast_join.specs.Matches.{AreTakenSoFar, is_chain_marked}
use Rattle.coast_join.specs.Sites.{nearness}
use Rattle.coast_join.specs.Taken.{IsFree}
use Rattle.coast_join.proofs.NearPairs.{tied_gaps}
use Rattle.coast_join.proofs.NearestFirst.{gap_cmp_total, not_itself}
use Rattle.coast_join.proofs.SiteStretches.{still_gone}

-- ---- pairs with a chain in common are ordered by nearness

-- one number is less than the other, or they are equal and the rest decides
before_rest : (m n : ℕ) (rest : Ordering) → ordering_then (nat_cmp m n) rest ≡ Less → (m < n) ⊎ ((m ≡ n) × (rest ≡ Less))
before_rest m n rest h = by (nat_cmp m n) refl h
  where
    by : (o : Ordering) → o ≡ nat_cmp m n → ordering_then o rest ≡ Less → (m < n) ⊎ ((m ≡ n) × (rest ≡ Less))
    by Less e t = inl (ranked m n Less e)
    by Equal e t = inr (ranked m n Equal e, t)
    by Greater e t = absurd (cc)

less_nearness : (s t a b : ℕ) → a < 18446744073709551616 → (s < t) ⊎ ((s ≡ t) × (a < b)) → nearness s a < nearness t b
less_nearness s t a b small (inl l) = omega arith
less_nearness s t a b small (inr (e, l)) = omega arith

pub less_by_start : (g h : Gap) → g.from_chain ≡ h.from_chain → g.to_chain < 18446744073709551616 → gap_cmp g h ≡ Less → nearness g.square g.to_chain < nearness h.square h.to_chain
less_by_start g h same small less = less_nearness g.square h.square g.to_chain h.to_chain small (⊎_elim
    (λ l. inl l)
    (λ p. inr (p.0, ⊎_elim (λ l. absurd (omega arith)) (λ q. ranked g.to_chain h.to_chain Less (sym q.1)) (before_rest g.from_chain h.from_chain (nat_cmp g.to_chain h.to_chain) p.1)))
    (before_rest g.square h.square (ordering_then (nat_cmp g.from_chain h.from_chain) (nat_cmp g.to_chain h.to_chain)) less))

pub less_by_end : (g h : Gap) → g.to_chain ≡ h.to_chain → g.from_chain < 18446744073709551616 → gap_cmp g h ≡ Less → nearness g.square g.from_chain < nearness h.square h.from_chain
less_by_end g h same small less = less_nearness g.square h.square g.from_chain h.from_chain small (⊎_elim
    (λ l. inl l)
    (λ p. inr (p.0, ⊎_elim (λ l. l) (λ q. let l = ranked g.to_chain h.to_chain Less (sym q.1) in absurd (omega arith)) (before_rest g.from_chain h.from_chain (nat_cmp g.to_chain h.to_chain) p.1)))
    (before_rest g.square h.square (ordering_then (nat_cmp g.from_chain h.from_chain) (nat_cmp g.to_chain h.to_chain)) less))

-- ---- one more chain is marked

-- what the new mark marked
new_mark : (marks : List Bool) (c k : ℕ) → get_or marks k true ≡ false → get_or (set marks c true) k true ≡ true → k ≡ c
new_mark marks c k was now = ⊎_elim (λ e. e) (λ ne. absurd (false≢true (sym was ∙ (sym (get_or-set_other marks c k true true ne) ∙ now)))) (cases_eq k c)

unlike : (marks : List Bool) (a b : ℕ) → get_or marks a true ≡ true → get_or marks b true ≡ false → a ≢ b
unlike marks a b t f e = false≢true (sym f ∙ (ap (λ k. get_or marks k true) (sym e) ∙ t))

module _ (P : Gap → Type 0) (ended started : List Bool) (taken : List Gap) (so_far : AreTakenSoFar P ended started taken) where
  -- no unmarked start is near the end of chain c, which is put aside
  pub put_aside : (c : ℕ) → ((g : Gap) → P g → g.from_chain ≡ c → is_chain_marked started g.to_chain ≡ false → ⊥) → AreTakenSoFar P (set ended c true) started taken
  put_aside c none = record {
    near = so_far.near;
    ends = All-weaker (λ (g : Gap). is_chain_marked ended g.from_chain ≡ true) (λ (g : Gap). is_chain_marked (set ended c true) g.from_chain ≡ true) (λ g m. still_gone ended c g.from_chain m) taken so_far.ends;
    starts = so_far.starts;
    apart = so_far.apart;
    settled = settled;
  }
    where
      by : (g : Gap) → P g → (is_chain_marked (set ended c true) g.from_chain ≡ true) ⊎ (is_chain_marked started g.to_chain ≡ true) → IsFree gap_cmp taken g → (a b : Bool) → is_chain_marked ended g.from_chain ≡ a → is_chain_marked started g.to_chain ≡ b → Contains taken g
      by g p m free true b ea eb = so_far.settled g p (inl ea) free
      by g p m free false true ea eb = so_far.settled g p (inr eb) free
      by g p m free false false ea eb = ⊎_elim
          (λ t. absurd (none g p (new_mark ended c g.from_chain ea t) eb))
          (λ t. absurd (false≢true (sym eb ∙ t)))
          m

      settled : (g : Gap) → P g → (is_chain_marked (set ended c true) g.from_chain ≡ true) ⊎ (is_chain_marked started g.to_chain ≡ true) → IsFree gap_cmp taken g → Contains taken g
      settled g p m free = by g p m free (is_chain_marked ended g.from_chain) (is_chain_marked started g.to_chain) refl refl

  module _ (new : Gap) (near : P new) (from_in : new.from_chain < length ended) (to_in : new.to_chain < length started) (end_free : is_chain_marked ended new.from_chain ≡ false) (start_free : is_chain_marked started new.to_chain ≡ false)
      (by_start : (g : Gap) → P g → g.from_chain ≡ new.from_chain → is_chain_marked started g.to_chain ≡ false → gap_cmp g new ≡ Less → ⊥)
      (by_end : (g : Gap) → P g → g.to_chain ≡ new.to_chain → is_chain_marked ended g.from_chain ≡ false → gap_cmp g new ≡ Less → ⊥) where
    apart_from : (h : Gap) → Contains taken h → (h.from_chain ≢ new.from_chain) × (h.to_chain ≢ new.to_chain)
    apart_from h c = (
      unlike ended h.from_chain new.from_chain (All-contains (λ (g : Gap). is_chain_marked ended g.from_chain ≡ true) taken h so_far.ends c) end_free,
      unlike started h.to_chain new.to_chain (All-contains (λ (g : Gap). is_chain_marked started g.to_chain ≡ true) taken h so_far.starts c) start_free,
    )

    -- a free pair that has a chain in common with the new one is the new one
    is_new : (g : Gap) → (g.from_chain ≡ new.from_chain) ⊎ (g.to_chain ≡ new.to_chain) → (gap_cmp g new ≡ Less → ⊥) → IsFree gap_cmp (taken ++ new ∷ []) g → new ≡ g
    is_new g touches not_less free = by (gap_cmp g new) refl
      where
        by : (o : Ordering) → gap_cmp g new ≡ o → new ≡ g
        by Less e = absurd (not_less e)
        by Equal e = sym (tied_gaps g new (ap is_eq e))
        by Greater e =
            let less : gap_cmp new g ≡ Less = gap_cmp_total.antisymm new g ∙ ap ordering_reverse e in
            let d = All-contains (λ h. gap_cmp h g ≡ Less → (h.from_chain ≢ g.from_chain) × (h.to_chain ≢ g.to_chain)) (taken ++ new ∷ []) new free (Contains-push taken new) less in
            absurd (⊎_elim (λ s. d.0 (sym s)) (λ s. d.1 (sym s)) touches)

    front_free : (g : Gap) → IsFree gap_cmp (taken ++ new ∷ []) g → IsFree gap_cmp taken g
    front_free g free k d h = All-contains (λ y. gap_cmp y g ≡ Less → (y.from_chain ≢ g.from_chain) × (y.to_chain ≢ g.to_chain)) (taken ++ new ∷ []) (get_or taken k d) free (Contains-append_left taken (new ∷ []) (get_or taken k d) (Contains-get_or taken k d h))

    old_free : (g : Gap) → Contains taken g → IsFree gap_cmp taken g → IsFree gap_cmp (taken ++ new ∷ []) g
    old_free g c free = let a = apart_from g c in All-push (λ h. gap_cmp h g ≡ Less → (h.from_chain ≢ g.from_chain) × (h.to_chain ≢ g.to_chain)) taken new free (λ _. ((λ e. a.0 (sym e)), (λ e. a.1 (sym e))))

    new_free : IsFree gap_cmp (taken ++ new ∷ []) new
    new_free = All-push (λ h. gap_cmp h new ≡ Less → (h.from_chain ≢ new.from_chain) × (h.to_chain ≢ new.to_chain)) taken new (λ k d h less. apart_from (get_or taken k d) (Contains-get_or taken k d h)) (λ less. absurd (not_itself new less))

    by_marks : (g : Gap) → P g → (is_chain_marked (set ended new.from_chain true) g.from_chain ≡ true) ⊎ (is_chain_marked (set started new.to_chain true) g.to_chain ≡ true) → IsFree gap_cmp (taken ++ new ∷ []) g → (a b : Bool) → is_chain_marked ended g.from_chain ≡ a → is_chain_marked started g.to_chain ≡ b → Contains (taken ++ new ∷ []) g
    by_marks g p m free true b ea eb = Contains-append_left taken (new ∷ []) g (so_far.settled g p (inl ea) (front_free g free))
    by_marks g p m free false true ea eb = Contains-append_left taken (new ∷ []) g (so_far.settled g p (inr eb) (front_free g free))
    by_marks g p m free false false ea eb = ⊎_elim
        (λ t. let e = new_mark ended new.from_chain g.from_chain ea t in subst (Contains (taken ++ new ∷ [])) (is_new g (inl e) (by_start g p e eb) free) (Contains-push taken new))
        (λ t. let e = new_mark started new.to_chain g.to_chain eb t in subst (Contains (taken ++ new ∷ [])) (is_new g (inr e) (by_end g p e ea) free) (Contains-push taken new))
        m

    pub take_pair : AreTakenSoFar P (set ended new.from_chain true) (set started new.to_chain true) (taken ++ new ∷ [])
    take_pair = record {
      near = All-push P taken new so_far.near near;
      ends = All-push (λ (g : Gap). is_chain_marked (set ended new.from_chain true) g.from_chain ≡ true) taken new
          (All-weaker (λ (g : Gap). is_chain_marked ended g.from_chain ≡ true) (λ (g : Gap). is_chain_marked (set ended new.from_chain true) g.from_chain ≡ true) (λ g m. still_gone ended new.from_chain g.from_chain m) taken so_far.ends)
          (get_or-set_same ended new.from_chain true true from_in);
      starts = All-push (λ (g : Gap). is_chain_marked (set started new.to_chain true) g.to_chain ≡ true) taken new
          (All-weaker (λ (g : Gap). is_chain_marked started g.to_chain ≡ true) (λ (g : Gap). is_chain_marked (set started new.to_chain true) g.to_chain ≡ true) (λ g m. still_gone started new.to_chain g.to_chain m) taken so_far.starts)
          (get_or-set_same started new.to_chain true true to_in);
      apart = All-push (IsFree gap_cmp (taken ++ new ∷ [])) taken new
          (λ k d h. old_free (get_or taken k d) (Contains-get_or taken k d h) (so_far.apart k d h))
          new_free;
      settled = λ g p m free. by_marks g p m free (is_chain_marked ended g.from_chain) (is_chain_marked started g.to_chain) refl refl;
    }

-- ---- the first pair, and the last

pub none_taken : (P : Gap → Type 0) (ended started : List Bool) → ((g : Gap) → P g → (is_chain_marked ended g.from_chain ≡ false) × (is_chain_marked started g.to_chain ≡ false)) → AreTakenSoFar P ended started []
none_taken P ended started free = record {
  near = All-nil P;
  ends = All-nil (λ (g : Gap). is_chain_marked ended g.from_chain ≡ true);
  starts = All-nil (λ (g : Gap). is_chain_marked started g.to_chain ≡ true);
  apart = All-nil (IsFree gap_cmp []);
  settled = λ g p m f. let u = free g p in absurd (⊎_elim (λ t. false≢true (sym u.0 ∙ t)) (λ t. false≢true (sym u.1 ∙ t)) m);
}

-- a list that contains the same has the same free pairs
pub free_alike : (xs ys : List Gap) (g : Gap) → ((h : Gap) → Contains ys h → Contains xs h) → IsFree gap_cmp xs g → IsFree gap_cmp ys g
free_alike xs ys g same free k d h = All-contains (λ y. gap_cmp y g ≡ Less → (y.from_chain ≢ g.from_chain) × (y.to_chain ≢ g.to_chain)) xs (get_or ys k d) free (same (get_or ys k d) (Contains-get_or ys k d h))

pub all_settled : (P : Gap → Type 0) (ended started : List Bool) (taken gaps : List Gap) → AreTakenSoFar P ended started taken → ((g : Gap) → P g → is_chain_marked ended g.from_chain ≡ true) → ((g : Gap) → Contains gaps g → Contains taken g) → ((g : Gap) → Contains taken g → Contains gaps g) → (g : Gap) → (Contains gaps g → P g × IsFree gap_cmp gaps g) × (P g × IsFree gap_cmp gaps g → Contains gaps g)
all_settled P ended started taken gaps so_far marked into out g = (
  (λ c. (All-contains P taken g so_far.near (into g c), free_alike taken gaps g into (All-contains (IsFree gap_cmp taken) taken g so_far.apart (into g c)))),
  (λ p. out g (so_far.settled g p.0 (inl (marked g p.0)) (free_alike gaps taken g out p.1))),
)
