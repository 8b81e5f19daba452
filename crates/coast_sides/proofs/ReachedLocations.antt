-- Which locations are reached behind steps, and what a walk along them carries on.
use Rattle.std.proofs.Common.{◌≡◌, ◌⊎◌, inl, inr, ⊎_elim, ℕ, ◌+◌, ◌-◌, ◌<◌, ◌≤◌, ◌&&◌, ◌||◌, true, max, All, Contains, List, length, get_or, set, refl, sym, ap, subst, ◌∙◌, arith}
use Rattle.std.specs.Prelude.{nat_lt}
use Rattle.std.specs.List.{enumerate_from, list_any}
use Rattle.std.specs.Ordering.{is_eq}
use Rattle.std.proofs.lemmas.Bool.{and_from, and_parts, cases_eq, cases_lt, lt-ltb, ltb-true, or_cases, or_left, or_right}
use Rattle.std.proofs.lemmas.List.{get_or-set_other, get_or-set_same, get_or_default, length-set}
use Rattle.std.proofs.lemmas.List.Elements.{All-contains, Contains-get_or}
use Rattle.std.proofs.lemmas.List.Folds.{list_any_at}
use Rattle.std.proofs.lemmas.List.FromFn.{get_or-enumerate_from, length-enumerate_from}
use Rattle.coast_sides.specs.declared.steps_along.StepAlong.{StepAlong}
use Rattle.coast_sides.specs.ShortcutSteps.{AreAlong, IsCarriedRound, IsFarthest, IsShorter, ahead, is_on_stretch, is_reached, lies_between, pair_cuts_out, place_before, run_along_pair}
use Rattle.coast_sides.specs.Shortcuts.{is_among_fewer}
use Rattle.osm_lattice.specs.OrderLaws.{SegmentOrderTellsApart}
use Rattle.osm_lattice.specs.Seg.{seg_cmp}
use Rattle.osm_lattice.specs.declared.seg.Seg.{Seg}
use Rattle.osm_segments.specs.declared.pairs.Pair.{Pair}
use Rattle.coast_sides.proofs.Conflicts.{is_eq_same, tied}
use Rattle.coast_sides.proofs.FarSteps.{Beside, LiesAhead, LiesWithin, ahead_found, ahead_reached, behind_found, behind_reached, between_in, between_out, wider, within_in, within_out}
use Rattle.coast_sides.proofs.SomeMember.{any_from, same_truth, some_passes}

-- ---- reached locations

-- the k-th location is reached behind a step
pub record Reached (reach : List ℕ) (k : ℕ) : Type 0 where
  pub step : ℕ
  pub inside : step < length reach
  pub within : LiesWithin (length reach) step (get_or reach step 0) k

pub reached_in : (reach : List ℕ) (k : ℕ) → Reached reach k → is_reached reach k ≡ true
reached_in reach k r =
    let pair : ℕ × ℕ = (r.step, 0) in
    let long = length-enumerate_from 0 reach in
    let at = get_or-enumerate_from 0 reach r.step pair r.inside in
    let count = get_or reach r.step 0 in
    list_any_at (λ (p : ℕ × ℕ). is_on_stretch (length reach) p.0 p.1 k) (enumerate_from 0 reach) r.step pair (omega (arith, r.inside))
    (ap (λ (p : ℕ × ℕ). is_on_stretch (length reach) p.0 p.1 k) at ∙ (ap (λ i. is_on_stretch (length reach) i count k) (zero_add r.step) ∙ within_in (length reach) r.step count k r.within))
  where
    zero_add : (n : ℕ) → 0 + n ≡ n
    zero_add n = omega arith

pub reached_out : (reach : List ℕ) (k : ℕ) → is_reached reach k ≡ true → Reached reach k
reached_out reach k e = by (some_passes (λ (p : ℕ × ℕ). is_on_stretch (length reach) p.0 p.1 k) (enumerate_from 0 reach) e).item
    (some_passes (λ (p : ℕ × ℕ). is_on_stretch (length reach) p.0 p.1 k) (enumerate_from 0 reach) e).member
    (some_passes (λ (p : ℕ × ℕ). is_on_stretch (length reach) p.0 p.1 k) (enumerate_from 0 reach) e).passes
  where
    by : (p : ℕ × ℕ) → Contains (enumerate_from 0 reach) p → is_on_stretch (length reach) p.0 p.1 k ≡ true → Reached reach k
    by p (i, h, at) passes =
        let long = length-enumerate_from 0 reach in
        let inside : i < length reach = omega (arith, h) in
        let is = sym at ∙ get_or-enumerate_from 0 reach i p inside in
        let place : p.0 ≡ i = ap (λ (q : ℕ × ℕ). q.0) is ∙ zero_add i in
        let count : p.1 ≡ get_or reach i 0 = ap (λ (q : ℕ × ℕ). q.1) is ∙ get_or_default reach i p.1 0 inside in
        let same : is_on_stretch (length reach) i (get_or reach i 0) k ≡ true = ap (λ j. is_on_stretch (length reach) j (get_or reach i 0) k) (sym place) ∙ (ap (λ c. is_on_stretch (length reach) p.0 c k) (sym count) ∙ passes) in
        record { step = i; inside = inside; within = within_out (length reach) i (get_or reach i 0) k same }
      where
        zero_add : (n : ℕ) → 0 + n ≡ n
        zero_add n = omega arith

-- ---- one more stretch

pub raised : (reach : List ℕ) (from count k : ℕ) → from < length reach → get_or reach from 0 < count → is_reached (set reach from count) k ≡ (is_reached reach k || is_on_stretch (length reach) from count k)
raised reach from count k inside more = same_truth (is_reached (set reach from count) k) (is_reached reach k || is_on_stretch (length reach) from count k) there back
  where
    there : is_reached (set reach from count) k ≡ true → (is_reached reach k || is_on_stretch (length reach) from count k) ≡ true
    there e = by (reached_out (set reach from count) k e)
      where
        long : length (set reach from count) ≡ length reach
        long = length-set reach from count

        by : Reached (set reach from count) k → (is_reached reach k || is_on_stretch (length reach) from count k) ≡ true
        by r = ⊎_elim same other (cases_eq r.step from)
          where
            w : LiesWithin (length reach) r.step (get_or (set reach from count) r.step 0) k
            w = subst (λ n. LiesWithin n r.step (get_or (set reach from count) r.step 0) k) long r.within

            same : r.step ≡ from → (is_reached reach k || is_on_stretch (length reach) from count k) ≡ true
            same e =
                let at = ap (λ i. get_or (set reach from count) i 0) e ∙ get_or-set_same reach from count 0 inside in
                let v = subst (λ i. LiesWithin (length reach) i (get_or (set reach from count) r.step 0) k) e w in
                or_right (is_reached reach k) (is_on_stretch (length reach) from count k) (within_in (length reach) from count k (subst (λ c. LiesWithin (length reach) from c k) at v))

            other : (r.step ≡ from → ⊥) → (is_reached reach k || is_on_stretch (length reach) from count k) ≡ true
            other ne =
                let at = get_or-set_other reach from r.step count 0 ne in
                or_left (is_reached reach k) (is_on_stretch (length reach) from count k)
                (reached_in reach k (record { step = r.step; inside = omega (arith, r.inside, long); within = subst (λ c. LiesWithin (length reach) r.step c k) at w }))

    back : (is_reached reach k || is_on_stretch (length reach) from count k) ≡ true → is_reached (set reach from count) k ≡ true
    back e = ⊎_elim old new_one (or_cases (is_reached reach k) (is_on_stretch (length reach) from count k) e)
      where
        long : length (set reach from count) ≡ length reach
        long = length-set reach from count

        put : (step c : ℕ) → step < length reach → get_or (set reach from count) step 0 ≡ c → LiesWithin (length reach) step c k → is_reached (set reach from count) k ≡ true
        put step c h at w = reached_in (set reach from count) k (record {
          step = step;
          inside = omega (arith, long);
          within = subst (λ n. LiesWithin n step (get_or (set reach from count) step 0) k) (sym long) (subst (λ d. LiesWithin (length reach) step d k) (sym at) w);
        })

        new_one : is_on_stretch (length reach) from count k ≡ true → is_reached (set reach from count) k ≡ true
        new_one w = put from count inside (get_or-set_same reach from count 0 inside) (within_out (length reach) from count k w)

        old : is_reached reach k ≡ true → is_reached (set reach from count) k ≡ true
        old e = by (reached_out reach k e)
          where
            by : Reached reach k → is_reached (set reach from count) k ≡ true
            by r = ⊎_elim same other (cases_eq r.step from)
              where
                same : r.step ≡ from → is_reached (set reach from count) k ≡ true
                same e =
                    let w = subst (λ i. LiesWithin (length reach) i (get_or reach i 0) k) e r.within in
                    put from count inside (get_or-set_same reach from count 0 inside) (wider (length reach) from (get_or reach from 0) count k (omega arith) w)

                other : (r.step ≡ from → ⊥) → is_reached (set reach from count) k ≡ true
                other ne = put r.step (get_or reach r.step 0) r.inside (get_or-set_other reach from r.step count 0 ne) r.within

pub not_raised : (reach : List ℕ) (from count k : ℕ) → from < length reach → count ≤ get_or reach from 0 → is_reached reach k ≡ (is_reached reach k || is_on_stretch (length reach) from count k)
not_raised reach from count k inside less = same_truth (is_reached reach k) (is_reached reach k || is_on_stretch (length reach) from count k) (or_left (is_reached reach k) (is_on_stretch (length reach) from count k)) (λ e. ⊎_elim
    (λ h. h)
    (λ h. reached_in reach k (record { step = from; inside = inside; within = wider (length reach) from count (get_or reach from 0) k less (within_out (length reach) from count k h) }))
    (or_cases (is_reached reach k) (is_on_stretch (length reach) from count k) e))

-- ---- what lies between a step and others

pub found_from : (n a k far behind from : ℕ) (others : List StepAlong) (in_a : a < n) → k < n → All (λ (t : StepAlong). t.place < n) others
    → IsFarthest (IsShorter n a) (ahead n a) others far → IsFarthest (λ place. IsShorter n place a) (λ place. ahead n place a) others behind → from ≡ place_before n a behind
    → (is_on_stretch n a far k || is_on_stretch n from behind k) ≡ list_any (λ (t : StepAlong). lies_between n a t.place k) others
found_from n a k far behind from others in_a in_k inside ahead_is behind_is at = same_truth (is_on_stretch n a far k || is_on_stretch n from behind k) (list_any (λ (t : StepAlong). lies_between n a t.place k) others) there back
  where
    below : (t : StepAlong) → Contains others t → t.place < n
    below t c = All-contains (λ (t : StepAlong). t.place < n) others t inside c

    found : Beside n a k others in_a in_k below → list_any (λ (t : StepAlong). lies_between n a t.place k) others ≡ true
    found b = any_from (λ (t : StepAlong). lies_between n a t.place k) others b.step b.there (between_in n a b.step.place k in_a (below b.step b.there) in_k b.lies)

    there : (is_on_stretch n a far k || is_on_stretch n from behind k) ≡ true → list_any (λ (t : StepAlong). lies_between n a t.place k) others ≡ true
    there e = ⊎_elim
        (λ h. found (ahead_found n a k others in_a in_k below far ahead_is (within_out n a far k h)))
        (λ h. found (behind_found n a k others in_a in_k below behind from behind_is at (within_out n from behind k h)))
        (or_cases (is_on_stretch n a far k) (is_on_stretch n from behind k) e)

    back : list_any (λ (t : StepAlong). lies_between n a t.place k) others ≡ true → (is_on_stretch n a far k || is_on_stretch n from behind k) ≡ true
    back e = by (some_passes (λ (t : StepAlong). lies_between n a t.place k) others e).item
        (some_passes (λ (t : StepAlong). lies_between n a t.place k) others e).member
        (some_passes (λ (t : StepAlong). lies_between n a t.place k) others e).passes
      where
        by : (t : StepAlong) → Contains others t → lies_between n a t.place k ≡ true → (is_on_stretch n a far k || is_on_stretch n from behind k) ≡ true
        by t c h = ⊎_elim
            (λ (l : LiesAhead n a t.place k). or_left (is_on_stretch n a far k) (is_on_stretch n from behind k) (within_in n a far k (ahead_reached n a k others in_a in_k below far ahead_is t c l)))
            (λ (l : LiesAhead n t.place a k). or_right (is_on_stretch n a far k) (is_on_stretch n from behind k) (within_in n from behind k (behind_reached n a k others in_a in_k below behind from behind_is at t c l)))
            (between_out n a t.place k in_a (below t c) in_k h)

-- ---- a walk along the stretches

-- what is reached behind the first steps of a walk goes on for so many locations
pub record IsCarried (reach : List ℕ) (k left : ℕ) : Type 0 where
  pub before : (i : ℕ) → i < k → get_or reach i 0 + i < left + k
  pub is : (left ≡ 0) ⊎ ((i : ℕ) × (i < k) × (left + k ≡ get_or reach i 0 + i + 1))

pub carried_none : (reach : List ℕ) → IsCarried reach 0 0
carried_none reach = record { before = λ i h. absurd (omega arith); is = inl refl }

-- one more step
pub carried_more : (reach : List ℕ) (k left here next : ℕ) → here ≡ get_or reach k 0 → next ≡ max (left - 1) here → IsCarried reach k left → IsCarried reach (k + 1) next
carried_more reach k left here next e m c = record { before = before; is = ⊎_elim (λ h. inl h) (λ h. inr h) is }
  where
    before : (i : ℕ) → i < k + 1 → get_or reach i 0 + i < next + (k + 1)
    before i h = ⊎_elim
        (λ (l : i < k). let b = c.before i l in omega arith)
        (λ (l : k ≤ i). let same : i ≡ k = omega arith in let at = ap (λ j. get_or reach j 0) same in omega arith)
        (cases_lt i k)

    is : (next ≡ 0) ⊎ ((i : ℕ) × (i < k + 1) × (next + (k + 1) ≡ get_or reach i 0 + i + 1))
    is = ⊎_elim
        (λ (l : here < left - 1). kept l c.is)
        (λ (l : left - 1 ≤ here). inr (k, omega arith, omega arith))
        (cases_lt here (left - 1))
      where
        kept : here < left - 1 → (left ≡ 0) ⊎ ((i : ℕ) × (i < k) × (left + k ≡ get_or reach i 0 + i + 1)) → (next ≡ 0) ⊎ ((i : ℕ) × (i < k + 1) × (next + (k + 1) ≡ get_or reach i 0 + i + 1))
        kept l (inl z) = absurd (omega arith)
        kept l (inr r) = let below = r.1 in let same = r.2 in inr (r.0, omega arith, omega arith)

pub carried_round : (reach : List ℕ) (left : ℕ) → IsCarried reach (length reach) left → IsCarriedRound reach 0 left
carried_round reach left c = record { before = λ i h. absurd (omega arith); round = λ i h. let b = c.before i h in omega arith; is = by c.is }
  where
    by : (left ≡ 0) ⊎ ((i : ℕ) × (i < length reach) × (left + length reach ≡ get_or reach i 0 + i + 1))
        → (left ≡ 0) ⊎ (((i : ℕ) × (i < 0) × (left + 0 ≡ get_or reach i 0 + i + 1)) ⊎ ((i : ℕ) × (i < length reach) × (left + 0 + length reach ≡ get_or reach i 0 + i + 1)))
    by (inl z) = inl z
    by (inr r) = let same = r.2 in inr (inr (r.0, r.1, omega arith))

pub round_more : (reach : List ℕ) (k left here next : ℕ) → here ≡ get_or reach k 0 → next ≡ max (left - 1) here → IsCarriedRound reach k left → IsCarriedRound reach (k + 1) next
round_more reach k left here next e m c = record { before = before; round = λ i h. let b = c.round i h in omega arith; is = is }
  where
    before : (i : ℕ) → i < k + 1 → get_or reach i 0 + i < next + (k + 1)
    before i h = ⊎_elim
        (λ (l : i < k). let b = c.before i l in omega arith)
        (λ (l : k ≤ i). let same : i ≡ k = omega arith in let at = ap (λ j. get_or reach j 0) same in omega arith)
        (cases_lt i k)

    Is : ℕ → ℕ → Type 0
    Is left k = (left ≡ 0) ⊎ (((i : ℕ) × (i < k) × (left + k ≡ get_or reach i 0 + i + 1)) ⊎ ((i : ℕ) × (i < length reach) × (left + k + length reach ≡ get_or reach i 0 + i + 1)))

    is : (next ≡ 0) ⊎ (((i : ℕ) × (i < k + 1) × (next + (k + 1) ≡ get_or reach i 0 + i + 1)) ⊎ ((i : ℕ) × (i < length reach) × (next + (k + 1) + length reach ≡ get_or reach i 0 + i + 1)))
    is = ⊎_elim
        (λ (l : here < left - 1). kept l c.is)
        (λ (l : left - 1 ≤ here). inr (inl (k, omega arith, omega arith)))
        (cases_lt here (left - 1))
      where
        kept : here < left - 1 → (left ≡ 0) ⊎ (((i : ℕ) × (i < k) × (left + k ≡ get_or reach i 0 + i + 1)) ⊎ ((i : ℕ) × (i < length reach) × (left + k + length reach ≡ get_or reach i 0 + i + 1)))
            → (next ≡ 0) ⊎ (((i : ℕ) × (i < k + 1) × (next + (k + 1) ≡ get_or reach i 0 + i + 1)) ⊎ ((i : ℕ) × (i < length reach) × (next + (k + 1) + length reach ≡ get_or reach i 0 + i + 1)))
        kept l (inl z) = absurd (omega arith)
        kept l (inr (inl r)) = let below = r.1 in let same = r.2 in inr (inl (r.0, omega arith, omega arith))
        kept l (inr (inr r)) = let same = r.2 in inr (inr (r.0, r.1, omega arith))

-- something is carried on to a location exactly where it is reached
pub carried_reaches : (reach : List ℕ) (k left : ℕ) → k < length reach → IsCarriedRound reach k left → nat_lt 0 left ≡ is_reached reach k
carried_reaches reach k left h c = same_truth (nat_lt 0 left) (is_reached reach k) there back
  where
    there : nat_lt 0 left ≡ true → is_reached reach k ≡ true
    there e = by (ltb-true 0 left e) c.is
      where
        by : 0 < left → (left ≡ 0) ⊎ (((i : ℕ) × (i < k) × (left + k ≡ get_or reach i 0 + i + 1)) ⊎ ((i : ℕ) × (i < length reach) × (left + k + length reach ≡ get_or reach i 0 + i + 1))) → is_reached reach k ≡ true
        by some (inl z) = absurd (omega arith)
        by some (inr (inl r)) = let less = r.1 in let same = r.2 in reached_in reach k (record { step = r.0; inside = omega arith; within = inl (less, omega arith) })
        by some (inr (inr r)) =
            let same = r.2 in
            reached_in reach k (record { step = r.0; inside = r.1; within = ⊎_elim (λ (l : r.0 < k). inl (l, omega arith)) (λ (l : k ≤ r.0). inr (l, omega arith)) (cases_lt r.0 k) })

    back : is_reached reach k ≡ true → nat_lt 0 left ≡ true
    back e = by (reached_out reach k e)
      where
        at : (r : Reached reach k) → LiesWithin (length reach) r.step (get_or reach r.step 0) k → 0 < left
        at r (inl w) = let less = w.0 in let most = w.1 in let b = c.before r.step less in omega arith
        at r (inr w) = let most = w.1 in let b = c.round r.step r.inside in omega arith

        by : Reached reach k → nat_lt 0 left ≡ true
        by r = lt-ltb 0 left (at r r.within)

-- ---- what lies between the steps along a pair of segments

pub along_inside : (n : ℕ) (steps part : List StepAlong) (seg : Seg) → All (λ (t : StepAlong). t.place < n) steps → AreAlong steps seg part → All (λ (t : StepAlong). t.place < n) part
along_inside n steps part seg inside are k d h = All-contains (λ (t : StepAlong). t.place < n) steps (get_or part k d) inside (are.among (get_or part k d) (Contains-get_or part k d h)).0

module _ (exact : SegmentOrderTellsApart) (n k : ℕ) (steps first second : List StepAlong) (pair : Pair) (one : AreAlong steps pair.first first) (two : AreAlong steps pair.second second) where
  pub by_pair : list_any (λ (s : StepAlong). list_any (λ (t : StepAlong). lies_between n s.place t.place k) second) first ≡ pair_cuts_out n k steps pair
  by_pair = same_truth (list_any (λ (s : StepAlong). list_any (λ (t : StepAlong). lies_between n s.place t.place k) second) first) (pair_cuts_out n k steps pair) there back
    where
      there : list_any (λ (s : StepAlong). list_any (λ (t : StepAlong). lies_between n s.place t.place k) second) first ≡ true → pair_cuts_out n k steps pair ≡ true
      there e =
          let a = some_passes (λ (s : StepAlong). list_any (λ (t : StepAlong). lies_between n s.place t.place k) second) first e in
          let b = some_passes (λ (t : StepAlong). lies_between n a.item.place t.place k) second a.passes in
          let c = one.among a.item a.member in
          let d = two.among b.item b.member in
          let runs = and_from (is_eq (seg_cmp a.item.seg pair.first)) (is_eq (seg_cmp b.item.seg pair.second)) (ap (λ s. is_eq (seg_cmp s pair.first)) c.1 ∙ tied pair.first) (ap (λ s. is_eq (seg_cmp s pair.second)) d.1 ∙ tied pair.second) in
          any_from (λ s. list_any (λ t. run_along_pair pair s t && lies_between n s.place t.place k) steps) steps a.item c.0
          (any_from (λ t. run_along_pair pair a.item t && lies_between n a.item.place t.place k) steps b.item d.0 (and_from (run_along_pair pair a.item b.item) (lies_between n a.item.place b.item.place k) runs b.passes))

      back : pair_cuts_out n k steps pair ≡ true → list_any (λ (s : StepAlong). list_any (λ (t : StepAlong). lies_between n s.place t.place k) second) first ≡ true
      back e =
          let a = some_passes (λ s. list_any (λ t. run_along_pair pair s t && lies_between n s.place t.place k) steps) steps e in
          let b = some_passes (λ t. run_along_pair pair a.item t && lies_between n a.item.place t.place k) steps a.passes in
          let p = and_parts (run_along_pair pair a.item b.item) (lies_between n a.item.place b.item.place k) b.passes in
          let q = and_parts (is_eq (seg_cmp a.item.seg pair.first)) (is_eq (seg_cmp b.item.seg pair.second)) p.0 in
          any_from (λ (s : StepAlong). list_any (λ (t : StepAlong). lies_between n s.place t.place k) second) first a.item (one.all a.item a.member (is_eq_same exact a.item.seg pair.first q.0))
          (any_from (λ (t : StepAlong). lies_between n a.item.place t.place k) second b.item (two.all b.item b.member (is_eq_same exact b.item.seg pair.second q.1)) p.1)

-- it doesn't matter which is named first
pub either_first : (n k : ℕ) (first second : List StepAlong) → list_any (λ (s : StepAlong). list_any (λ (t : StepAlong). lies_between n s.place t.place k) first) second ≡ list_any (λ (s : StepAlong). list_any (λ (t : StepAlong). lies_between n s.place t.place k) second) first
either_first n k first second = same_truth (list_any (λ (s : StepAlong). list_any (λ (t : StepAlong). lies_between n s.place t.place k) first) second) (list_any (λ (s : StepAlong). list_any (λ (t : StepAlong). lies_between n s.place t.place k) second) first) (turned first second) (turned second first)
  where
    swapped : (i j : ℕ) → lies_between n i j k ≡ true → lies_between n j i k ≡ true
    swapped i j e =
        let a = nat_lt i j && is_among_fewer n i j k in
        let b = nat_lt j i && is_among_fewer n j i k in
        ⊎_elim (or_right b a) (or_left b a) (or_cases a b e)

    turned : (first second : List StepAlong) → list_any (λ (s : StepAlong). list_any (λ (t : StepAlong). lies_between n s.place t.place k) first) second ≡ true → list_any (λ (s : StepAlong). list_any (λ (t : StepAlong). lies_between n s.place t.place k) second) first ≡ true
    turned first second e =
        let a = some_passes (λ (s : StepAlong). list_any (λ (t : StepAlong). lies_between n s.place t.place k) first) second e in
        let b = some_passes (λ (t : StepAlong). lies_between n a.item.place t.place k) first a.passes in
        any_from (λ (s : StepAlong). list_any (λ (t : StepAlong). lies_between n s.place t.place k) second) first b.item b.member
        (any_from (λ (t : StepAlong). lies_between n b.item.place t.place k) second a.item a.member
        (swapped a.item.place b.item.place b.passes))
