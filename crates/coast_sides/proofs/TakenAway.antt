-- The segments of kept rings: those of all rings, without those of the rings that are left out.
use Rattle.std.proofs.Common.{◌≡◌, ℕ, ◌+◌, ◌<◌, ◌≤◌, ◌%◌, ⊎_elim, AllPairs, Bool, true, false, cond, not, List, [], ◌∷◌, ◌++◌, filter, length, set, take, get_or, min, nat_le, refl, sym, ap, subst, ◌∙◌, arith}
use Rattle.std.specs.Ordering.{is_eq}
use Rattle.std.proofs.lemmas.Bool.{cases_lt}
use Rattle.std.proofs.lemmas.List.{get_or-set_other, get_or-take, get_or_default, length-take, take_more_set}
use Rattle.std.proofs.lemmas.Grind.{get_or-set_at}
use Rattle.std.proofs.lemmas.List.Quantifiers.{all_pairs_push}
use Rattle.std.proofs.lemmas.List.Sums.{sum_by-append, sum_by_more, sum_by_push}
use Rattle.lists.specs.Rising.{count_of}
use Rattle.osm_lattice.specs.Seg.{seg_cmp}
use Rattle.osm_lattice.specs.declared.seg.Seg.{Seg}
use Rattle.osm_segments.specs.Counts.{AreSurvivors}
use Rattle.osm_segments.specs.Repeats.{AreRepeats}
use Rattle.osm_segments.specs.declared.counts.Repeat.{Repeat}
use Rattle.osm_segments.specs.declared.pairs.Pair.{Pair}
use Rattle.coast_rings.specs.declared.ring.CoastRing.{CoastRing}
use Rattle.coast_sides.specs.Segments.{all_segments, segments_round}
use Rattle.coast_sides.specs.Sorting.{AreConflicts}

abbrev pub same_counts : List Seg → List Seg → Type 0
same_counts xs ys = (s : Seg) → count_of seg_cmp s xs ≡ count_of seg_cmp s ys

-- ---- one segment more

module _ (segs away left : List Seg) (i found : ℕ) (x : Seg) (inside : i < length segs) (is : x ≡ get_or segs i x)
    (so_far : (s : Seg) → count_of seg_cmp s left + count_of seg_cmp s (take found away) ≡ count_of seg_cmp s (take i segs)) where
  more : (s : Seg) → count_of seg_cmp s (take (i + 1) segs) ≡ count_of seg_cmp s (take i segs) + cond {A = ℕ} (is_eq (seg_cmp x s)) 1 0
  more s = sum_by_more (λ y. cond {A = ℕ} (is_eq (seg_cmp y s)) 1 0) segs i x inside ∙ ap (λ (y : Seg). count_of seg_cmp s (take i segs) + cond {A = ℕ} (is_eq (seg_cmp y s)) 1 0) (sym is)

  -- it is taken away
  pub one_found : found < length away → get_or away found x ≡ x → (s : Seg) → count_of seg_cmp s left + count_of seg_cmp s (take (found + 1) away) ≡ count_of seg_cmp s (take (i + 1) segs)
  one_found h at s =
      let one = sum_by_more (λ y. cond {A = ℕ} (is_eq (seg_cmp y s)) 1 0) away found x h ∙ ap (λ (y : Seg). count_of seg_cmp s (take found away) + cond {A = ℕ} (is_eq (seg_cmp y s)) 1 0) at in
      let all = more s in
      let before = so_far s in
      omega arith

  -- it is left
  pub one_left : (now : List Seg) → now ≡ left ++ x ∷ [] → (s : Seg) → count_of seg_cmp s now + count_of seg_cmp s (take found away) ≡ count_of seg_cmp s (take (i + 1) segs)
  one_left now put s =
      let one = ap (count_of seg_cmp s) put ∙ sum_by_push (λ y. cond {A = ℕ} (is_eq (seg_cmp y s)) 1 0) left x in
      let all = more s in
      let before = so_far s in
      omega arith

-- ---- the order of those that are left

module _ (r : Seg → Seg → Bool) (old now : List Seg) (left i : ℕ) (seg : Seg) (pairs : AllPairs (λ s t. r s t ≡ true) old) (front : left ≤ i) (inside : i < length old) (sized : length now ≡ length old) (is : seg ≡ get_or old i seg)
    (so_far : AllPairs (λ s t. r s t ≡ true) (take left now)) (ahead : (j k : ℕ) (d : Seg) → j < left → i ≤ k → k < length old → r (get_or now j d) (get_or old k d) ≡ true) where
  here : (d : Seg) → get_or old i d ≡ seg
  here d = get_or_default old i d seg inside ∙ sym is

  pub ordered_more : AllPairs (λ s t. r s t ≡ true) (take (left + 1) (set now left seg))
  ordered_more = subst (AllPairs (λ s t. r s t ≡ true)) (sym (take_more_set now left seg (omega arith))) (all_pairs_push (λ s t. r s t ≡ true) (take left now) seg so_far (λ k d h.
      let long = length-take left now in
      let at : get_or (take left now) k d ≡ get_or now k d = get_or-take left now k d (omega arith) in
      ap (λ (s : Seg). r s seg) at ∙ (ap (λ (t : Seg). r (get_or now k d) t) (sym (here d)) ∙ ahead k i d (omega arith) (omega arith) inside)))

  pub ahead_more : (j k : ℕ) (d : Seg) → j < left + 1 → i + 1 ≤ k → k < length old → r (get_or (set now left seg) j d) (get_or old k d) ≡ true
  ahead_more j k d h m l = ⊎_elim
      (λ (b : j < left). ap (λ (s : Seg). r s (get_or old k d)) (get_or-set_other now left j seg d (λ e. absurd (omega arith))) ∙ ahead j k d b (omega arith) l)
      (λ (b : left ≤ j). let last : j ≡ left = omega arith in ap (λ (s : Seg). r s (get_or old k d)) (ap (λ n. get_or (set now left seg) n d) last ∙ (get_or-set_at now left left seg d refl (omega arith) ∙ sym (here d))) ∙ pairs i k d (omega arith) l)
      (cases_lt j left)

-- ---- rings kept and left out

pub parted_counts : (p : CoastRing → Bool) (rings : List CoastRing) (s : Seg)
    → count_of seg_cmp s (all_segments rings) ≡ count_of seg_cmp s (all_segments (filter (λ ring. not (p ring)) rings)) + count_of seg_cmp s (all_segments (filter p rings))
parted_counts p [] s = refl
parted_counts p (ring ∷ rings) s = by (parted_counts p rings s) (p ring) refl
  where
    f : Seg → ℕ
    f x = cond {A = ℕ} (is_eq (seg_cmp x s)) 1 0

    round : List Seg
    round = segments_round ring.path

    free : List CoastRing
    free = filter (λ r. not (p r)) rings

    along : List CoastRing
    along = filter p rings

    by : count_of seg_cmp s (all_segments rings) ≡ count_of seg_cmp s (all_segments free) + count_of seg_cmp s (all_segments along) → (b : Bool) → p ring ≡ b
        → count_of seg_cmp s (all_segments (ring ∷ rings)) ≡ count_of seg_cmp s (all_segments (filter (λ r. not (p r)) (ring ∷ rings))) + count_of seg_cmp s (all_segments (filter p (ring ∷ rings)))
    by rest true e =
        let all = sum_by-append f round (all_segments rings) in
        let one = sum_by-append f round (all_segments along) in
        rw e (omega arith)
    by rest false e =
        let all = sum_by-append f round (all_segments rings) in
        let one = sum_by-append f round (all_segments free) in
        rw e (omega arith)

pub no_ring : (rings : List CoastRing) → length rings ≡ 0 → (s : Seg) → count_of seg_cmp s (all_segments rings) ≡ 0
no_ring [] e s = refl
no_ring (ring ∷ rings) e s = absurd (omega arith)

-- ---- what rests on counts alone

pub left_alike : (xs ys left : List Seg) → same_counts xs ys → AreSurvivors xs left → AreSurvivors ys left
left_alike xs ys left same are = record { odd = λ s. are.odd s ∙ ap (λ n. n % 2) (same s); rising = are.rising }

pub told_alike : (xs ys : List Seg) (repeats : List Repeat) → same_counts xs ys → AreRepeats xs repeats → AreRepeats ys repeats
told_alike xs ys repeats same are = record {
  twice = λ s. are.twice s ∙ ap (λ n. cond {A = ℕ} (nat_le 2 n) 1 0) (same s);
  times = λ k d h. are.times k d h ∙ same (get_or repeats k d).seg;
  rising = are.rising;
}

pub pairs_alike : (xs ys : List Seg) (pairs : List Pair) → same_counts xs ys → AreConflicts xs pairs → AreConflicts ys pairs
pairs_alike xs ys pairs same are = record {
  distinct = are.distinct;
  once = record { once = λ s. are.once.once s ∙ ap (λ n. min 1 n) (same s); rising = are.once.rising };
  are = are.are;
}
