-- Steps in order of their segments, and those along one segment.
use Rattle.std.proofs.Common.{◌≡◌, ⊎_elim, ℕ, ◌+◌, ◌-◌, ◌<◌, ◌≤◌, true, false, Equal, Greater, Less, Ordering, Contains, List, [], ◌∷◌, drop, get_or, leb, length, ltb, take, refl, sym, ap, ◌∙◌, arith}
use Rattle.std.specs.Cmp.{IsTotalOrder}
use Rattle.std.specs.List.Sorted.{IsNonDecreasingBy, IsPartitionPoint, IsPartitionedBy, IsSorted}
use Rattle.std.specs.Ordering.{is_le, is_lt, nat_cmp, ordering_index, ordering_then}
use Rattle.std.proofs.lemmas.Bool.{both_ways, cases_lt, leb-false, leb-true, ltb-false, ltb-true}
use Rattle.std.proofs.lemmas.Bool.Decides.{nat_tests}
use Rattle.std.proofs.lemmas.Cmp.{nat_cmp_total, on_total, then_total, tied_itself}
use Rattle.std.proofs.lemmas.List.{get_or-drop, get_or-take, get_or_default, length-drop, length-take}
use Rattle.std.proofs.lemmas.List.Elements.{Contains-get_or}
use Rattle.std.proofs.lemmas.List.Sorted.{IsPartitionedBy-leb, IsPartitionedBy-ltb, ranks_by, searchable_from_sorted, sorted_far}
use Rattle.osm_lattice.specs.OrderLaws.{SegmentOrderTellsApart}
use Rattle.osm_lattice.specs.Seg.{seg_cmp}
use Rattle.osm_lattice.specs.declared.seg.Seg.{Seg}
use Rattle.coast_sides.specs.declared.steps_along.StepAlong.{StepAlong}
use Rattle.coast_sides.specs.ShortcutSteps.{AreAlong, IsFirstPlaceFrom, IsLastPlaceUpTo, step_along_cmp}
use Rattle.coast_sides.proofs.EvenRings.{seg_cmp_total}

-- ---- orderings

less_test : (o : Ordering) → is_lt o ≡ ltb (ordering_index o) 1
less_test Less = refl
less_test Equal = refl
less_test Greater = refl

up_to_test : (o : Ordering) → is_le o ≡ leb (ordering_index o) 1
up_to_test Less = refl
up_to_test Equal = refl
up_to_test Greater = refl

equal_at : (o : Ordering) → ordering_index o ≡ 1 → o ≡ Equal
equal_at Less e = absurd (omega arith)
equal_at Equal e = refl
equal_at Greater e = absurd (omega arith)

parts_kept : (r s : Ordering) → is_lt (ordering_then r s) ≡ false → (is_lt r ≡ false) × (r ≡ Equal → is_lt s ≡ false)
parts_kept Less s e = (e, λ h. absurd (cc h))
parts_kept Equal s e = (refl, λ h. e)
parts_kept Greater s e = (refl, λ h. absurd (cc h))

not_above : (m n : ℕ) → is_lt (nat_cmp n m) ≡ false → m ≤ n
not_above m n e = ⊎_elim (λ (l : n < m). absurd (both_ways (is_lt (nat_cmp n m)) e (less l))) (λ (l : m ≤ n). l) (cases_lt n m)
  where
    less : n < m → is_lt (nat_cmp n m) ≡ true
    less l = grind (arith, nat_tests)

step_total : IsTotalOrder step_along_cmp
step_total = then_total (on_total (λ (t : StepAlong). t.seg) seg_cmp_total) (on_total (λ (t : StepAlong). t.place) nat_cmp_total)

-- ---- the steps along a segment

-- how the segment of a step compares to another: 0 below, 1 the same, 2 above
abbrev side : Seg → StepAlong → ℕ
side seg t = ordering_index (seg_cmp t.seg seg)

module _ (steps : List StepAlong) (sorted : IsSorted step_along_cmp steps) (seg : Seg) where
  rise : IsNonDecreasingBy (side seg) steps
  rise = searchable_from_sorted seg_cmp_total (λ (t : StepAlong). t.seg) steps seg (λ k d h m. (parts_kept (seg_cmp (get_or steps (k + 1) d).seg (get_or steps k d).seg) (nat_cmp (get_or steps (k + 1) d).place (get_or steps k d).place) (sorted k d h m)).0)

  pub parted_below : IsPartitionedBy (λ (t : StepAlong). is_lt (seg_cmp t.seg seg)) steps
  parted_below i j d h l k = less_test (seg_cmp (get_or steps i d).seg seg) ∙ IsPartitionedBy-ltb (side seg) steps 1 rise i j d h l (sym (less_test (seg_cmp (get_or steps j d).seg seg)) ∙ k)

  pub parted_up_to : IsPartitionedBy (λ (t : StepAlong). is_le (seg_cmp t.seg seg)) steps
  parted_up_to i j d h l k = up_to_test (seg_cmp (get_or steps i d).seg seg) ∙ IsPartitionedBy-leb (side seg) steps 1 rise i j d h l (sym (up_to_test (seg_cmp (get_or steps j d).seg seg)) ∙ k)

  module _ (exact : SegmentOrderTellsApart) (from end : ℕ) (below : IsPartitionPoint (λ (t : StepAlong). is_lt (seg_cmp t.seg seg) ≡ true) (λ (t : StepAlong). is_lt (seg_cmp t.seg seg) ≡ false) steps from)
      (up_to : IsPartitionPoint (λ (t : StepAlong). is_le (seg_cmp t.seg seg) ≡ true) (λ (t : StepAlong). is_le (seg_cmp t.seg seg) ≡ false) steps end) (inside : from ≤ length steps) (within : end ≤ length steps) where
    less_at : (k : ℕ) (d : StepAlong) → k < from → side seg (get_or steps k d) < 1
    less_at k d h = ltb-true (side seg (get_or steps k d)) 1 (sym (less_test (seg_cmp (get_or steps k d).seg seg)) ∙ below.0 k d (omega arith) h)

    from_at : (k : ℕ) (d : StepAlong) → from ≤ k → k < length steps → 1 ≤ side seg (get_or steps k d)
    from_at k d h l = ltb-false (side seg (get_or steps k d)) 1 (sym (less_test (seg_cmp (get_or steps k d).seg seg)) ∙ below.1 k d h l)

    up_to_at : (k : ℕ) (d : StepAlong) → k < end → side seg (get_or steps k d) ≤ 1
    up_to_at k d h = leb-true (side seg (get_or steps k d)) 1 (sym (up_to_test (seg_cmp (get_or steps k d).seg seg)) ∙ up_to.0 k d (omega arith) h)

    more_at : (k : ℕ) (d : StepAlong) → end ≤ k → k < length steps → 1 < side seg (get_or steps k d)
    more_at k d h l = leb-false (side seg (get_or steps k d)) 1 (sym (up_to_test (seg_cmp (get_or steps k d).seg seg)) ∙ up_to.1 k d h l)

    same_there : (k : ℕ) (d : StepAlong) → from ≤ k → k < end → (get_or steps k d).seg ≡ seg
    same_there k d h l =
        let at_least = from_at k d h (omega arith) in
        let at_most = up_to_at k d l in
        (exact (get_or steps k d).seg seg).0 (equal_at (seg_cmp (get_or steps k d).seg seg) (omega arith))

    one_there : (t : StepAlong) → t.seg ≡ seg → side seg t ≡ 1
    one_there t e = ap (λ s. ordering_index (seg_cmp s seg)) e ∙ ap ordering_index (tied_itself seg_cmp_total seg)

    there_from : (k : ℕ) (d : StepAlong) → k < length steps → (get_or steps k d).seg ≡ seg → from ≤ k
    there_from k d h e = ⊎_elim
        (λ (l : k < from). let less = less_at k d l in let one = one_there (get_or steps k d) e in absurd (omega arith))
        (λ (l : from ≤ k). l)
        (cases_lt k from)

    there_to : (k : ℕ) (d : StepAlong) → k < length steps → (get_or steps k d).seg ≡ seg → k < end
    there_to k d h e = ⊎_elim
        (λ (l : k < end). l)
        (λ (l : end ≤ k). let more = more_at k d l h in let one = one_there (get_or steps k d) e in absurd (omega arith))
        (cases_lt k end)

    pub from_to_end : from ≤ end
    from_to_end = ⊎_elim (λ (l : end < from). absurd (at (some steps end (omega arith)) l)) (λ (l : from ≤ end). l) (cases_lt end from)
      where
        some : (xs : List StepAlong) (k : ℕ) → k < length xs → StepAlong
        some [] k h = absurd (omega arith)
        some (x ∷ xs) k h = x

        at : StepAlong → end < from → ⊥
        at d l =
            let less = less_at end d l in
            let more = more_at end d (omega arith) (omega arith) in
            omega arith

    pub along_part : (part : List StepAlong) → part ≡ take (end - from) (drop from steps) → AreAlong steps seg part
    along_part part is = record { among = among; all = all; rise = places }
      where
        long : length part ≡ end - from
        long = let l = length-drop from steps in let m = length-take (end - from) (drop from steps) in let n = ap length is in omega arith

        read : (i : ℕ) (d : StepAlong) → i < end - from → get_or part i d ≡ get_or steps (from + i) d
        read i d h = ap (λ (xs : List StepAlong). get_or xs i d) is ∙ (get_or-take (end - from) (drop from steps) i d h ∙ get_or-drop from steps i d)

        among : (t : StepAlong) → Contains part t → Contains steps t × (t.seg ≡ seg)
        among t (i, h, e) =
            let m : i < end - from = omega (arith, long, h) in
            let at = sym (read i t m) ∙ e in
            ((from + i, omega arith, at), ap (λ (s : StepAlong). s.seg) (sym at) ∙ same_there (from + i) t (omega arith) (omega arith))

        all : (t : StepAlong) → Contains steps t → t.seg ≡ seg → Contains part t
        all t (k, h, e) s =
            let here = ap (λ (u : StepAlong). u.seg) e ∙ s in
            let low = there_from k t h here in
            let high = there_to k t h here in
            let at : from + (k - from) ≡ k = omega arith in
            (k - from, omega (arith, long), read (k - from) t (omega arith) ∙ (ap (λ j. get_or steps j t) at ∙ e))

        places : IsNonDecreasingBy (λ (t : StepAlong). t.place) part
        places i j d h l =
            let m : j < end - from = omega (arith, long, l) in
            let a = ap (λ (t : StepAlong). t.place) (read i d (omega arith)) in
            let b = ap (λ (t : StepAlong). t.place) (read j d m) in
            let same = same_there (from + j) d (omega arith) (omega arith) ∙ sym (same_there (from + i) d (omega arith) (omega arith)) in
            let tied = (exact (get_or steps (from + j) d).seg (get_or steps (from + i) d).seg).1 same in
            let far = sorted_far (λ x y. is_lt (step_along_cmp x y)) (ranks_by step_total (λ (t : StepAlong). t)) steps sorted (from + i) (from + j) d (omega arith) (omega arith) in
            let up = not_above (get_or steps (from + i) d).place (get_or steps (from + j) d).place ((parts_kept (seg_cmp (get_or steps (from + j) d).seg (get_or steps (from + i) d).seg) (nat_cmp (get_or steps (from + j) d).place (get_or steps (from + i) d).place) far).1 tied) in
            omega arith

-- ---- the last step up to a place, and the first from one on

module _ (steps : List StepAlong) (limit count : ℕ) (up : IsNonDecreasingBy (λ (t : StepAlong). t.place) steps) (inside : count ≤ length steps) where
  module _ (point : IsPartitionPoint (λ (t : StepAlong). leb t.place limit ≡ true) (λ (t : StepAlong). leb t.place limit ≡ false) steps count) where
    pub none_up_to : count ≡ 0 → (t : StepAlong) → Contains steps t → limit < t.place
    none_up_to none t (i, h, e) = let at = ap (λ (s : StepAlong). s.place) e in let past = leb-false (get_or steps i t).place limit (point.1 i t (omega arith) h) in omega arith

    pub last_up_to : 0 < count → (d : StepAlong) → IsLastPlaceUpTo steps limit (get_or steps (count - 1) d).place
    last_up_to some d = record {
      up_to = leb-true (get_or steps (count - 1) d).place limit (point.0 (count - 1) d (omega arith) (omega arith));
      step = get_or steps (count - 1) d;
      there = Contains-get_or steps (count - 1) d (omega arith);
      is = refl;
      last = last;
    }
      where
        last : (t : StepAlong) → Contains steps t → t.place ≤ limit → t.place ≤ (get_or steps (count - 1) d).place
        last t (i, h, e) l = ⊎_elim
            (λ (m : i < count). let rises = up i (count - 1) t (omega arith) (omega arith) in let at = ap (λ (s : StepAlong). s.place) e in let same = ap (λ (s : StepAlong). s.place) (get_or_default steps (count - 1) t d (omega arith)) in omega arith)
            (λ (m : count ≤ i). let past = leb-false (get_or steps i t).place limit (point.1 i t m h) in let at = ap (λ (s : StepAlong). s.place) e in absurd (omega arith))
            (cases_lt i count)

  module _ (point : IsPartitionPoint (λ (t : StepAlong). ltb t.place limit ≡ true) (λ (t : StepAlong). ltb t.place limit ≡ false) steps count) where
    pub none_from : count ≡ length steps → (t : StepAlong) → Contains steps t → t.place < limit
    none_from all t (i, h, e) = let at = ap (λ (s : StepAlong). s.place) e in let before = ltb-true (get_or steps i t).place limit (point.0 i t (omega arith) (omega arith)) in omega arith

    pub first_from : count < length steps → (d : StepAlong) → IsFirstPlaceFrom steps limit (get_or steps count d).place
    first_from some d = record {
      from = ltb-false (get_or steps count d).place limit (point.1 count d (omega arith) some);
      step = get_or steps count d;
      there = Contains-get_or steps count d some;
      is = refl;
      first = first;
    }
      where
        first : (t : StepAlong) → Contains steps t → limit ≤ t.place → (get_or steps count d).place ≤ t.place
        first t (i, h, e) l = ⊎_elim
            (λ (m : i < count). let before = ltb-true (get_or steps i t).place limit (point.0 i t (omega arith) m) in let at = ap (λ (s : StepAlong). s.place) e in absurd (omega arith))
            (λ (m : count ≤ i). let rises = up count i t m h in let at = ap (λ (s : StepAlong). s.place) e in let same = ap (λ (s : StepAlong). s.place) (get_or_default steps count t d some) in omega arith)
            (cases_lt i count)
