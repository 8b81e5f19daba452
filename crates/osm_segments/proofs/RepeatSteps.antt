-- Segments in order that equal the one before: each stands among them once less than in the list.
use Rattle.std.proofs.Common.{Bool, Contains, List, [], ap, arith, cond, false, get_or, length, min, nat_le, refl, suc, sym, take, true, zero, ℕ, ⊎_elim, ◌++◌, ◌+◌, ◌-◌, ◌<◌, ◌∙◌, ◌∷◌, ◌≡◌, ◌≢◌, ◌≤◌, if◌then◌else◌}
use Rattle.std.specs.declared.cmp.Ordering.{Ordering}
use Rattle.std.specs.declared.cmp.Ordering.TheVariants.{Equal, Greater, Less}
use Rattle.std.specs.Ordering.{is_eq, is_lt, ordering_reverse}
use Rattle.std.specs.List.Sorted.{IsSorted}
use Rattle.std.proofs.lemmas.Bool.{cases_Bool}
use Rattle.std.proofs.lemmas.Cmp.{tied_itself}
use Rattle.std.proofs.lemmas.List.{get_or-map, get_or-take, get_or_default, length-map, length-take}
use Rattle.std.proofs.lemmas.List.Sorted.{ranks_by, sorted_far}
use Rattle.std.proofs.lemmas.List.Sums.{sum_by_push, sum_by-le}
use Rattle.lists.specs.Rising.{count_of}
use Rattle.lists.proofs.ListsKit.{equal_from, taken_more}
use Rattle.osm_lattice.specs.declared.seg.Seg.{Seg}
use Rattle.osm_lattice.specs.Seg.{seg_cmp}
use Rattle.osm_lattice.proofs.LatticeKit.{seg_same, seg_total}
use Rattle.osm_segments.specs.declared.counts.Repeat.{Repeat}
use Rattle.osm_segments.specs.Repeats.{AreRepeats, segs_of}
use Rattle.osm_segments.proofs.FoundPairs.{counted}
use Rattle.osm_segments.proofs.StandOnce.{none-repeated}

tied : (r : Ordering) → is_lt r ≡ false → is_lt (ordering_reverse r) ≡ false → r ≡ Equal
tied Less h k = absurd (cc h)
tied Equal h k = refl
tied Greater h k = absurd (cc k)

one_push : (s y : Seg) (xs : List Seg) → count_of seg_cmp s (xs ++ y ∷ []) ≡ count_of seg_cmp s xs + cond (is_eq (seg_cmp y s)) 1 0
one_push s y xs = sum_by_push (λ (t : Seg). cond (is_eq (seg_cmp t s)) 1 0) xs y

none_there : (s : Seg) (xs : List Seg) → ((k : ℕ) (d : Seg) → k < length xs → is_eq (seg_cmp (get_or xs k d) s) ≡ false) → count_of seg_cmp s xs ≡ 0
none_there s xs other =
    let most = sum_by-le (λ (t : Seg). cond (is_eq (seg_cmp t s)) 1 0) 0 xs (λ k d h. by (is_eq (seg_cmp (get_or xs k d) s)) (other k d h)) in
    omega arith
  where
    by : (b : Bool) → b ≡ false → cond b 1 0 ≤ 0
    by b e = rw e (omega arith)

-- the one at a place, and the one before
module _ (xs : List Seg) (sorted : IsSorted seg_cmp xs) (place : ℕ) (some : 0 < place) (inside : place < length xs) (d : Seg) where
  abbrev last : Seg
  last = get_or xs (place - 1) d

  abbrev this : Seg
  this = get_or xs place d

  -- it comes behind, so none of those before equals it
  none_before : is_lt (seg_cmp last this) ≡ true → (s : Seg) → is_eq (seg_cmp this s) ≡ true → count_of seg_cmp s (take place xs) ≡ 0
  none_before less s e =
      none_there s (take place xs) (λ k c h. ⊎_elim (λ (yes : is_eq (seg_cmp (get_or (take place xs) k c) s) ≡ true).
      let low : k < place = omega (arith, h, length-take place xs) in
      let there : get_or xs k d ≡ s = sym (get_or_default xs k c d (omega arith)) ∙ (sym (get_or-take place xs k c low) ∙ seg_same (get_or (take place xs) k c) s (equal_from (seg_cmp (get_or (take place xs) k c) s) yes)) in
      let here : this ≡ s = seg_same this s (equal_from (seg_cmp this s) e) in
      let far : is_lt (seg_cmp last (get_or xs k d)) ≡ false = sorted_far (λ y z. is_lt (seg_cmp y z)) (ranks_by seg_total (λ (y : Seg). y)) xs sorted k (place - 1) d (omega arith) (omega arith) in
      absurd (cc (sym less ∙ ap (λ t. is_lt (seg_cmp last t)) (here ∙ sym there) ∙ far)))
      (λ no. no) (cases_Bool (is_eq (seg_cmp (get_or (take place xs) k c) s))))

  -- it doesn't, so it equals the one before
  same_as_last : is_lt (seg_cmp last this) ≡ false → last ≡ this
  same_as_last not-less =
      let next : is_lt (seg_cmp this last) ≡ false = sorted_far (λ y z. is_lt (seg_cmp y z)) (ranks_by seg_total (λ (y : Seg). y)) xs sorted (place - 1) place d (omega arith) inside in
      seg_same last this (tied (seg_cmp last this) not-less (ap is_lt (sym (seg_total.antisymm this last)) ∙ next))

  stands_before : is_lt (seg_cmp last this) ≡ false → (s : Seg) → is_eq (seg_cmp this s) ≡ true → 0 < count_of seg_cmp s (take place xs)
  stands_before not-less s e =
      let there : last ≡ s = same_as_last not-less ∙ seg_same this s (equal_from (seg_cmp this s) e) in
      counted (tied_itself seg_total) seg_same s (take place xs)
      (place - 1, omega (arith, length-take place xs), get_or-take place xs (place - 1) s (omega arith) ∙ (get_or_default xs (place - 1) s d (omega arith) ∙ there))

  step : (n c : ℕ) (b : Bool) → n ≡ c - 1 → (b ≡ true → 0 < c) → n + cond b 1 0 ≡ c + cond b 1 0 - 1
  step n c true e h = let z = h refl in omega (arith, e, z)
  step n c false e h = omega (arith, e)

  skip : (n c : ℕ) (b : Bool) → n ≡ c - 1 → (b ≡ true → c ≡ 0) → n ≡ c + cond b 1 0 - 1
  skip n c true e h = let z = h refl in omega (arith, e, z)
  skip n c false e h = omega (arith, e)

  more : (s : Seg) → count_of seg_cmp s (take (place + 1) xs) ≡ count_of seg_cmp s (take place xs) + cond (is_eq (seg_cmp this s)) 1 0
  more s = ap (count_of seg_cmp s) (taken_more xs place this inside (get_or_default xs place d this inside)) ∙ one_push s this (take place xs)

  pub equal_more : (s : Seg) (found : List Seg) → is_lt (seg_cmp last this) ≡ false → count_of seg_cmp s found ≡ count_of seg_cmp s (take place xs) - 1 → count_of seg_cmp s (found ++ this ∷ []) ≡ count_of seg_cmp s (take (place + 1) xs) - 1
  equal_more s found not-less e =
      one_push s this found ∙ (step (count_of seg_cmp s found) (count_of seg_cmp s (take place xs)) (is_eq (seg_cmp this s)) e (stands_before not-less s) ∙ ap (λ n. n - 1) (sym (more s)))

  pub other_more : (s : Seg) (found : List Seg) → is_lt (seg_cmp last this) ≡ true → count_of seg_cmp s found ≡ count_of seg_cmp s (take place xs) - 1 → count_of seg_cmp s found ≡ count_of seg_cmp s (take (place + 1) xs) - 1
  other_more s found less e = skip (count_of seg_cmp s found) (count_of seg_cmp s (take place xs)) (is_eq (seg_cmp this s)) e (none_before less s) ∙ ap (λ n. n - 1) (sym (more s))

-- none equals the one before it in a list of one at most
pub first_alone : (s : Seg) (xs : List Seg) → 0 ≡ count_of seg_cmp s (take 1 xs) - 1
first_alone s [] = refl
first_alone s (x ∷ xs) = by (count_of seg_cmp s (x ∷ [])) (is_eq (seg_cmp x s)) (one_push s x [])
  where
    by : (n : ℕ) (b : Bool) → n ≡ 0 + cond b 1 0 → 0 ≡ n - 1
    by n true e = omega (arith, e)
    by n false e = omega (arith, e)

-- ---- repeats of two lists in which those that stand at least twice are the same
all_copies : (n : ℕ) → suc (suc n) - 1 + min 1 (suc (suc n) - 1) ≡ suc (suc n)
all_copies n = omega arith

kept : (n : ℕ) → nat_le 2 (n - 1 + min 1 (n - 1)) ≡ nat_le 2 n
kept zero = refl
kept (suc zero) = refl
kept (suc (suc n)) = ap (nat_le 2) (all_copies n)

once_again : (n : ℕ) → n - 1 + min 1 (n - 1) ≢ 0 → n - 1 + min 1 (n - 1) ≡ n
once_again zero h = absurd (h refl)
once_again (suc zero) h = absurd (h refl)
once_again (suc (suc n)) h = all_copies n

repeat_there : (rs : List Repeat) (k : ℕ) (d : Repeat) → k < length rs → Contains (segs_of rs) (get_or rs k d).seg
repeat_there rs k d h = (k, omega (arith, h, length-map rs (λ (r : Repeat). r.seg)), get_or-map (λ (r : Repeat). r.seg) rs k d (get_or rs k d).seg h)

pub repeats_from_copies : (xs copies : List Seg) (rs : List Repeat) → ((s : Seg) → count_of seg_cmp s copies ≡ count_of seg_cmp s xs - 1 + min 1 (count_of seg_cmp s xs - 1)) → AreRepeats copies rs → AreRepeats xs rs
repeats_from_copies xs copies rs counts are = record {
  twice = λ s. are.twice s ∙ ap (λ (b : Bool). cond {A = ℕ} b 1 0) (ap (nat_le 2) (counts s) ∙ kept (count_of seg_cmp s xs));
  times = λ k d h.
      let s = (get_or rs k d).seg in let n = count_of seg_cmp s xs in
      are.times k d h ∙ counts s ∙ once_again n (λ e. none-at s (counted (tied_itself seg_total) seg_same s (segs_of rs) (repeat_there rs k d h)) (are.twice s) (counts s ∙ e));
  rising = are.rising;
}
  where
    none-at : (s : Seg) → 0 < count_of seg_cmp s (segs_of rs) → ◌≡◌ {A = ℕ} (count_of seg_cmp s (segs_of rs)) (if nat_le 2 (count_of seg_cmp s copies) then 1 else 0) → count_of seg_cmp s copies ≡ 0 → ⊥
    none-at s some twice none = let z : count_of seg_cmp s (segs_of rs) ≡ 0 = twice ∙ ap (λ n. cond {A = ℕ} (nat_le 2 n) 1 0) none in omega (arith, some, z)

pub no_repeats : (xs copies : List Seg) → length copies ≡ 0 → ((s : Seg) → count_of seg_cmp s copies ≡ count_of seg_cmp s xs - 1) → AreRepeats xs []
no_repeats xs [] e counts = none-repeated xs (λ s. let c = counts s in omega (arith, c))
no_repeats xs (x ∷ ys) e counts = absurd (omega arith)

pub repeats_alike : (xs ys : List Seg) (rs : List Repeat) → ((s : Seg) → count_of seg_cmp s xs ≡ count_of seg_cmp s ys) → AreRepeats xs rs → AreRepeats ys rs
repeats_alike xs ys rs same are = record {
  twice = λ s. are.twice s ∙ ap (λ n. cond {A = ℕ} (nat_le 2 n) 1 0) (same s);
  times = λ k d h. are.times k d h ∙ same (get_or rs k d).seg;
  rising = are.rising;
}
