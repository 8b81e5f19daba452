-- What is left of segments, in the order of upper ends, by the order in which it stands among others.
use Rattle.std.proofs.Common.{◌≡◌, ⊎_elim, ℕ, zero, suc, ◌+◌, ◌<◌, ◌≤◌, ◌||◌, Bool, true, false, cond, not, min, nat_le, List, [], ◌∷◌, ◌++◌, AllPairs, IsPermutation, filter, get_or, remove, refl, sym, ap, subst, ◌∙◌, arith}
use Rattle.std.specs.Cmp.{IsTotalOrder}
use Rattle.std.specs.declared.cmp.Ordering.{Ordering}
use Rattle.std.specs.declared.cmp.Ordering.TheVariants.{Less}
use Rattle.std.specs.List.Sorted.{IsSortedBy}
use Rattle.std.specs.Ordering.{is_eq, is_lt, ordering_reverse, ordering_then}
use Rattle.std.proofs.lemmas.Bool.{cases_lt, false≢true}
use Rattle.std.proofs.lemmas.Bool.Decides.{nat_tests}
use Rattle.std.proofs.lemmas.Cmp.{on_total, then_total, tied_itself}
use Rattle.std.proofs.lemmas.List.Folds.{list_any_at}
use Rattle.std.proofs.lemmas.List.Sorted.{ranks_by, sorted_far, IsPermutation-cons, IsPermutation-refl, IsPermutation-remove, IsPermutation-sym, IsPermutation-trans}
use Rattle.std.proofs.lemmas.List.Sums.{sum_by-append, sum_by-remove}
use Rattle.plane.specs.Order.{order}
use Rattle.plane.specs.Sign.{Minus, Null, Plus, Sign, is_minus}
use Rattle.lists.specs.Rising.{count_of}
use Rattle.osm_lattice.specs.declared.loc.Loc.{Loc}
use Rattle.osm_lattice.specs.declared.seg.Seg.{Seg}
use Rattle.osm_lattice.specs.Loc.{loc_cmp, vector_of}
use Rattle.osm_lattice.specs.OrderLaws.{LocationOrderIsPointOrder, SegmentOrderTellsApart, ordering_of}
use Rattle.osm_lattice.specs.Seg.{seg_cmp}
use Rattle.osm_segments.specs.Counts.{AreSurvivors}
use Rattle.osm_segments.specs.Repeats.{AreRepeats, segs_of}
use Rattle.osm_segments.specs.Sweep.{AreByEnds, EndsRise, IsNotBefore}
use Rattle.osm_segments.specs.declared.counts.Repeat.{Repeat}
use Rattle.coast_sides.specs.KeptSegments.{AreByEndsAmong, is_left}
use Rattle.coast_sides.specs.declared.kept_segments.EndOrder.{EndOrder}
use Rattle.coast_sides.proofs.Cancelling.{count-cons}
use Rattle.coast_sides.proofs.Clearing.{counted, stands}
use Rattle.coast_sides.proofs.Conflicts.{equal_from}
use Rattle.coast_sides.proofs.EvenRings.{loc_cmp_total, seg_cmp_total}
use Rattle.coast_sides.proofs.TakenAway.{same_counts}

-- ---- lists that have each segment as often

module _ (exact : SegmentOrderTellsApart) where
  none_there : (ys : List Seg) → same_counts [] ys → [] ≡ ys
  none_there [] same = refl
  none_there (y ∷ ys) same = let none = same y in let some = counted y (y ∷ ys) 0 (omega arith) refl in absurd (omega arith)

  pub moved_by_counts : (xs ys : List Seg) → same_counts xs ys → IsPermutation xs ys
  moved_by_counts [] ys same = subst (IsPermutation []) (none_there ys same) (IsPermutation-refl [])
  moved_by_counts (x ∷ xs) ys same =
      let here = counted x (x ∷ xs) 0 (omega arith) refl in
      let alike = same x in
      let at = stands exact x ys (omega arith) in
      let k = at.0 in
      let left : same_counts xs (remove ys k) = λ s.
      let first = count-cons seg_cmp s x xs in
      let all = same s in
      let without = sum_by-remove (λ (y : Seg). cond {A = ℕ} (is_eq (seg_cmp y s)) 1 0) ys k x at.1 in
      let is = ap (λ (y : Seg). cond {A = ℕ} (is_eq (seg_cmp y s)) 1 0) at.2 in
      omega arith in
      IsPermutation-trans (x ∷ xs) (x ∷ remove ys k) ys (IsPermutation-cons x xs (remove ys k) (moved_by_counts xs (remove ys k) left)) (IsPermutation-sym ys (x ∷ remove ys k) (IsPermutation-remove ys k x at.1 (sym at.2)))

-- ---- those that are left keep their order

-- q isn't before p if it is less neither at first nor at last
not_before : (p q : Loc) (last : Ordering) (s : Sign) → loc_cmp p q ≡ ordering_of s → is_lt (ordering_then (loc_cmp q p) last) ≡ false → not (is_minus s) ≡ true
not_before p q last Plus is e = refl
not_before p q last Null is e = refl
not_before p q last Minus is e = let less : loc_cmp q p ≡ Less = loc_cmp_total.antisymm q p ∙ ap ordering_reverse is in absurd (false≢true (sym e ∙ ap (λ (o : Ordering). is_lt (ordering_then o last)) less))

abbrev pub by_both_ends : Seg → Seg → Ordering
by_both_ends s t = ordering_then (loc_cmp s.b t.b) (loc_cmp s.a t.a)

pub both_ends_total : IsTotalOrder by_both_ends
both_ends_total = then_total (on_total (λ (s : Seg). s.b) loc_cmp_total) (on_total (λ (s : Seg). s.a) loc_cmp_total)

module _ (points : LocationOrderIsPointOrder) where
  -- those in the order of upper ends and then of lower ones are in that of upper ends
  pub both_ends_rise : (ends : List Seg) → IsSortedBy (λ (s t : Seg). is_lt (by_both_ends s t)) ends → EndsRise ends
  both_ends_rise ends sorted i j d h l =
      let first = get_or ends i d in
      let later = get_or ends j d in
      not_before first.b later.b (loc_cmp later.a first.a) (order (vector_of first.b) (vector_of later.b)) (points first.b later.b)
      (sorted_far (λ (s t : Seg). is_lt (by_both_ends s t)) (ranks_by both_ends_total (λ (s : Seg). s)) ends sorted i j d h l)

  -- no upper end comes before itself, as a list of one segment shows
  itself : (s : Seg) → IsNotBefore s.b s.b
  itself s = both_ends_rise (s ∷ []) (λ k d h m. absurd (omega arith)) 0 0 s (omega arith) (omega arith)

  abbrev is_not_before : Seg → Seg → Bool
  is_not_before s t = not (is_minus (order (vector_of s.b) (vector_of t.b)))

  pub rise_kept : (old new : List Seg) → ((r : Seg → Seg → Bool) → AllPairs (λ s t. r s t ≡ true) old → AllPairs (λ s t. r s t ≡ true) new) → EndsRise old → EndsRise new
  rise_kept old new keeps rise i j d h l = ⊎_elim
      (λ (m : i < j). keeps is_not_before (λ a b e k n. rise a b e (omega arith) n) i j d m l)
      (λ (m : j ≤ i). let same : i ≡ j = omega arith in subst (λ k. IsNotBefore (get_or new k d).b (get_or new j d).b) (sym same) (itself (get_or new j d)))
      (cases_lt i j)

-- ---- those that are gone

module _ (exact : SegmentOrderTellsApart) where
  -- a segment that is left is told so
  left_told : (left : List Seg) (s : Seg) → 0 < count_of seg_cmp s left → is_left left s ≡ true
  left_told left s some = let at = stands exact s left some in list_any_at (λ t. is_eq (seg_cmp t s)) left at.0 s at.1 (ap (λ (t : Seg). is_eq (seg_cmp t s)) at.2 ∙ ap is_eq (tied_itself seg_cmp_total s))

  not_left_told : (left : List Seg) (s : Seg) → count_of seg_cmp s left ≡ 0 → is_left left s ≡ false
  not_left_told [] s none = refl
  not_left_told (t ∷ left) s none = by (is_eq (seg_cmp t s)) refl (not_left_told left s)
    where
      by : (b : Bool) → is_eq (seg_cmp t s) ≡ b → (count_of seg_cmp s left ≡ 0 → is_left left s ≡ false) → is_left (t ∷ left) s ≡ false
      by true e rest = let one : cond {A = ℕ} (is_eq (seg_cmp t s)) 1 0 ≡ 1 = ap (λ (b : Bool). cond {A = ℕ} b 1 0) e in let all = count-cons seg_cmp s t left in absurd (omega arith)
      by false e rest = let zero_1 : cond {A = ℕ} (is_eq (seg_cmp t s)) 1 0 ≡ 0 = ap (λ (b : Bool). cond {A = ℕ} b 1 0) e in let all = count-cons seg_cmp s t left in ap (λ (b : Bool). b || is_left left s) e ∙ rest (omega arith)

  -- how often a segment passes
  count_passing : (p : Seg → Bool) (xs : List Seg) (s : Seg) → p s ≡ true → count_of seg_cmp s (filter p xs) ≡ count_of seg_cmp s xs
  count_passing p [] s e = refl
  count_passing p (x ∷ xs) s e = by (p x) refl (count_passing p xs s e)
    where
      by : (b : Bool) → p x ≡ b → count_of seg_cmp s (filter p xs) ≡ count_of seg_cmp s xs → count_of seg_cmp s (filter p (x ∷ xs)) ≡ count_of seg_cmp s (x ∷ xs)
      by true h rest = let one = count-cons seg_cmp s x (filter p xs) in let all = count-cons seg_cmp s x xs in ap (λ (b : Bool). count_of seg_cmp s (cond b (x ∷ filter p xs) (filter p xs))) h ∙ omega arith
      by false h rest = apart (is_eq (seg_cmp x s)) refl
        where
          apart : (b : Bool) → is_eq (seg_cmp x s) ≡ b → count_of seg_cmp s (filter p (x ∷ xs)) ≡ count_of seg_cmp s (x ∷ xs)
          apart true tied = let same : x ≡ s = (exact x s).0 (equal_from (seg_cmp x s) tied) in absurd (false≢true (sym h ∙ (ap p same ∙ e)))
          apart false tied = let none : cond {A = ℕ} (is_eq (seg_cmp x s)) 1 0 ≡ 0 = ap (λ (b : Bool). cond {A = ℕ} b 1 0) tied in let all = count-cons seg_cmp s x xs in ap (λ (b : Bool). count_of seg_cmp s (cond b (x ∷ filter p xs) (filter p xs))) h ∙ omega arith

  count_failing : (p : Seg → Bool) (xs : List Seg) (s : Seg) → p s ≡ false → count_of seg_cmp s (filter p xs) ≡ 0
  count_failing p [] s e = refl
  count_failing p (x ∷ xs) s e = by (p x) refl (count_failing p xs s e)
    where
      by : (b : Bool) → p x ≡ b → count_of seg_cmp s (filter p xs) ≡ 0 → count_of seg_cmp s (filter p (x ∷ xs)) ≡ 0
      by false h rest = ap (λ (b : Bool). count_of seg_cmp s (cond b (x ∷ filter p xs) (filter p xs))) h ∙ rest
      by true h rest = apart (is_eq (seg_cmp x s)) refl
        where
          apart : (b : Bool) → is_eq (seg_cmp x s) ≡ b → count_of seg_cmp s (filter p (x ∷ xs)) ≡ 0
          apart true tied = let same : x ≡ s = (exact x s).0 (equal_from (seg_cmp x s) tied) in absurd (false≢true (sym e ∙ (ap p (sym same) ∙ h)))
          apart false tied = let none : cond {A = ℕ} (is_eq (seg_cmp x s)) 1 0 ≡ 0 = ap (λ (b : Bool). cond {A = ℕ} b 1 0) tied in let all = count-cons seg_cmp s x (filter p xs) in ap (λ (b : Bool). count_of seg_cmp s (cond b (x ∷ filter p xs) (filter p xs))) h ∙ omega arith

  -- ---- what is left among others

  module _ (segs left : List Seg) (repeats : List Repeat) (order : EndOrder) (gone ends : List Seg) (are : AreSurvivors segs left) (told : AreRepeats segs repeats) (among : AreByEndsAmong segs order)
      (gone_is : (s : Seg) → count_of seg_cmp s gone ≡ min 1 (count_of seg_cmp s (filter (λ t. not (is_left left t)) (segs_of repeats ++ order.others))))
      (counts : (s : Seg) → count_of seg_cmp s ends + count_of seg_cmp s gone ≡ count_of seg_cmp s order.segs)
      (keeps : (r : Seg → Seg → Bool) → AllPairs (λ s t. r s t ≡ true) order.segs → AllPairs (λ s t. r s t ≡ true) ends) where
    candidates : (s : Seg) → count_of seg_cmp s (segs_of repeats ++ order.others) ≡ count_of seg_cmp s (segs_of repeats) + count_of seg_cmp s order.others
    candidates s = sum_by-append (λ (t : Seg). cond {A = ℕ} (is_eq (seg_cmp t s)) 1 0) (segs_of repeats) order.others

    same : same_counts left ends
    same s = by (count_of seg_cmp s left) refl
      where
        by : (n : ℕ) → count_of seg_cmp s left ≡ n → count_of seg_cmp s left ≡ count_of seg_cmp s ends
        by (suc n) e =
            let odd = are.odd s in
            let fails = count_failing (λ t. not (is_left left t)) (segs_of repeats ++ order.others) s (ap not (left_told left s (omega arith))) in
            let none = gone_is s ∙ ap (min 1) fails in
            let all = among.once s in
            let parts = counts s in
            omega arith
        by zero e =
            let odd = are.odd s in
            let passes = count_passing (λ t. not (is_left left t)) (segs_of repeats ++ order.others) s (ap not (not_left_told left s e)) in
            let some = gone_is s ∙ ap (min 1) (passes ∙ candidates s) in
            let all = among.once s in
            let parts = counts s in
            let twice = told.twice s in
            ⊎_elim
            (λ (l : count_of seg_cmp s segs < 2). let test : nat_le 2 (count_of seg_cmp s segs) ≡ false = grind (arith, nat_tests) in let no : count_of seg_cmp s (segs_of repeats) ≡ 0 = twice ∙ ap (λ (b : Bool). cond {A = ℕ} b 1 0) test in omega arith)
            (λ (l : 2 ≤ count_of seg_cmp s segs). let test : nat_le 2 (count_of seg_cmp s segs) ≡ true = grind (arith, nat_tests) in let yes : count_of seg_cmp s (segs_of repeats) ≡ 1 = twice ∙ ap (λ (b : Bool). cond {A = ℕ} b 1 0) test in omega arith)
            (cases_lt (count_of seg_cmp s segs) 2)

    pub are_left : LocationOrderIsPointOrder → AreByEnds left ends
    are_left points = record { moved = moved_by_counts exact left ends same; rise = rise_kept points order.segs ends keeps among.rise }
