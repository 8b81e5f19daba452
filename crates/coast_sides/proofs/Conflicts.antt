-- The segments of conflicting pairs are those that conflict with some segment.
use Rattle.std.proofs.Common.{◌≡◌, ◌⊎◌, inl, inr, ℕ, ◌<◌, ⊎_elim, Bool, true, false, not, ◌&&◌, min, List, [], ◌∷◌, ◌++◌, filter, Option, Some, None, option_map, Contains, refl, sym, ap, ◌∙◌, subst, arith, zero, suc}
use Rattle.std.specs.Prelude.{is_some}
use Rattle.std.specs.List.{filter_map, list_any}
use Rattle.std.specs.Ordering.{is_eq}
use Rattle.std.proofs.lemmas.Bool.{and_from, false≢true, or_left, or_right}
use Rattle.std.proofs.lemmas.Cmp.{tied_itself}
use Rattle.std.proofs.lemmas.List.Elements.{Contains-append_cases, Contains-append_left, Contains-append_right}
use Rattle.osm_lattice.specs.declared.conflicts.Kind.{Kind}
use Rattle.osm_lattice.specs.declared.seg.Seg.{Seg}
use Rattle.osm_lattice.specs.Conflict.{conflict_of}
use Rattle.osm_lattice.specs.ConflictLaws.{ConflictIsSymmetric}
use Rattle.osm_lattice.specs.Loc.{loc_cmp}
use Rattle.osm_lattice.specs.OrderLaws.{LocationOrderTellsApart, SegmentOrderTellsApart}
use Rattle.osm_lattice.specs.declared.loc.Loc.{Loc}
use Rattle.osm_lattice.specs.Seg.{seg_cmp}
use Rattle.lists.specs.Rising.{count_of}
pub use Rattle.lists.proofs.ListsKit.{equal_from}
use Rattle.lists.proofs.ListsKit.{first_member, later_member, member_cases, no_member, not-true-out, or-out}
use Rattle.osm_segments.specs.Counts.{AreDistinct}
use Rattle.osm_segments.specs.Pairs.{conflicts_of, pair_of}
use Rattle.osm_segments.specs.declared.pairs.Pair.{Pair}
use Rattle.coast_rings.specs.declared.ring.CoastRing.{CoastRing}
use Rattle.coast_sides.specs.declared.cut.Cut.{Cut}
use Rattle.coast_sides.specs.ChoiceSteps.{are_paired, is_same_segment}
use Rattle.coast_sides.specs.Land.{HaveNoConflicts}
use Rattle.coast_sides.specs.Segments.{all_segments, segments_round}
use Rattle.coast_sides.specs.Sorting.{AreConflicts, IsSorted, conflicts_with, is_in_pair, is_left_out}
use Rattle.coast_sides.proofs.Clearing.{counted, stands}
use Rattle.coast_sides.proofs.EvenRings.{seg_cmp_total}
use Rattle.coast_sides.proofs.SomeMember.{Gives, Passes, any_from, any_same, filter_map_from, filter_map_has, flat_map_from, flat_map_has, kept_is, same_truth, some_passes, filter_alike}

-- ---- one pair

pair_is : (s t : Seg) (p : Pair) → pair_of s t ≡ Some p → (p.first ≡ s) × (p.second ≡ t) × (is_some (conflict_of s t) ≡ true)
unfolding pair_of
pair_is s t p e = by (conflict_of s t) e
  where
    by : (o : Option Kind) → option_map (λ k. record { kind = k; first = s; second = t }) o ≡ Some p → (p.first ≡ s) × (p.second ≡ t) × (is_some o ≡ true)
    by None e = absurd (cc e)
    by (Some k) e = let same : record { kind = k; first = s; second = t } ≡ p = cc e in (ap (λ (q : Pair). q.first) (sym same), ap (λ (q : Pair). q.second) (sym same), refl)

-- the pair of two segments that conflict
record Paired (s t : Seg) : Type 0 where
  pub pair : Pair
  pub is : pair_of s t ≡ Some pair
  pub first : pair.first ≡ s
  pub second : pair.second ≡ t

paired : (s t : Seg) → is_some (conflict_of s t) ≡ true → Paired s t
unfolding pair_of
paired s t e = by (conflict_of s t) refl e
  where
    by : (o : Option Kind) → conflict_of s t ≡ o → is_some o ≡ true → Paired s t
    by None d e = absurd (false≢true e)
    by (Some k) d e = record { pair = record { kind = k; first = s; second = t }; is = ap (option_map (λ k. record { kind = k; first = s; second = t })) d; first = refl; second = refl }

pub tied : (s : Seg) → is_eq (seg_cmp s s) ≡ true
tied s = ap is_eq (tied_itself seg_cmp_total s)

in_first : (s : Seg) (p : Pair) → p.first ≡ s → is_in_pair s p ≡ true
in_first s p e = or_left (is_eq (seg_cmp p.first s)) (is_eq (seg_cmp p.second s)) (ap (λ u. is_eq (seg_cmp u s)) e ∙ tied s)

in_second : (s : Seg) (p : Pair) → p.second ≡ s → is_in_pair s p ≡ true
in_second s p e = or_right (is_eq (seg_cmp p.first s)) (is_eq (seg_cmp p.second s)) (ap (λ u. is_eq (seg_cmp u s)) e ∙ tied s)

-- a segment doesn't conflict with itself
pub unlike_itself : (s : Seg) → is_some (conflict_of s s) ≡ true → ⊥
unlike_itself s e = let none : conflict_of s s ≡ None = rw (tied s) refl in false≢true (sym (ap is_some none) ∙ e)

pub is_eq_same : SegmentOrderTellsApart → (s t : Seg) → is_eq (seg_cmp s t) ≡ true → s ≡ t
is_eq_same exact s t e = (exact s t).0 (equal_from (seg_cmp s t) e)

pub is_eq_there : LocationOrderTellsApart → (p q : Loc) → is_eq (loc_cmp p q) ≡ true → p ≡ q
is_eq_there exact p q e = (exact p q).0 (equal_from (loc_cmp p q) e)

-- ---- the pairs among segments

-- a pair of these two segments, whichever is first
pub record PairOf (s t : Seg) (pairs : List Pair) : Type 0 where
  pub item : Pair
  pub member : Contains pairs item
  pub are : ((item.first ≡ s) × (item.second ≡ t)) ⊎ ((item.first ≡ t) × (item.second ≡ s))

in_made : (s t : Seg) (pairs : List Pair) (made : PairOf s t pairs) → is_in_pair s made.item ≡ true
in_made s t pairs made = by made.are
  where
    by : ((made.item.first ≡ s) × (made.item.second ≡ t)) ⊎ ((made.item.first ≡ t) × (made.item.second ≡ s)) → is_in_pair s made.item ≡ true
    by (inl e) = in_first s made.item e.0
    by (inr e) = in_second s made.item e.1

-- the two segments of a pair, in either order
paired_forth : (s t : Seg) (p : Pair) → p.first ≡ s → p.second ≡ t → are_paired s t p ≡ true
paired_forth s t p e f =
    or_left (is_same_segment p.first s && is_same_segment p.second t) (is_same_segment p.second s && is_same_segment p.first t)
    (and_from (is_same_segment p.first s) (is_same_segment p.second t) (ap (λ u. is_same_segment u s) e ∙ tied s) (ap (λ u. is_same_segment u t) f ∙ tied t))

paired_back : (s t : Seg) (p : Pair) → p.first ≡ t → p.second ≡ s → are_paired s t p ≡ true
paired_back s t p e f =
    or_right (is_same_segment p.first s && is_same_segment p.second t) (is_same_segment p.second s && is_same_segment p.first t)
    (and_from (is_same_segment p.second s) (is_same_segment p.first t) (ap (λ u. is_same_segment u s) f ∙ tied s) (ap (λ u. is_same_segment u t) e ∙ tied t))

pub pair_passes : (s t : Seg) (pairs : List Pair) → PairOf s t pairs → Passes (are_paired s t) pairs
pair_passes s t pairs made = record { item = made.item; member = made.member; passes = by made.are }
  where
    by : ((made.item.first ≡ s) × (made.item.second ≡ t)) ⊎ ((made.item.first ≡ t) × (made.item.second ≡ s)) → are_paired s t made.item ≡ true
    by (inl e) = paired_forth s t made.item e.0 e.1
    by (inr e) = paired_back s t made.item e.0 e.1

module _ (exact : SegmentOrderTellsApart) (symmetric : ConflictIsSymmetric) where
  -- a pair is of two of the segments, which conflict
  pub pair_stands : (segs : List Seg) (p : Pair) → Contains (conflicts_of segs) p → Contains segs p.first × Contains segs p.second × (is_some (conflict_of p.first p.second) ≡ true)
  pair_stands [] p c = absurd (no_member p c)
  pair_stands (s ∷ ts) p c =
      ⊎_elim
      (λ (c : Contains (filter_map (pair_of s) ts) p). here (filter_map_from (pair_of s) ts p c))
      (λ (c : Contains (conflicts_of ts) p). let r = pair_stands ts p c in (later_member s p.first ts r.0, later_member s p.second ts r.1, r.2))
      (Contains-append_cases (filter_map (pair_of s) ts) (conflicts_of ts) p c)
    where
      here : Gives (pair_of s) ts p → Contains (s ∷ ts) p.first × Contains (s ∷ ts) p.second × (is_some (conflict_of p.first p.second) ≡ true)
      here g =
          let is = pair_is s g.item p g.gives in (
            subst (Contains (s ∷ ts)) (sym is.0) (first_member s ts),
            subst (Contains (s ∷ ts)) (sym is.1) (later_member s g.item ts g.member),
            ap (λ u. is_some (conflict_of u p.second)) is.0 ∙ (ap (λ u. is_some (conflict_of s u)) is.1 ∙ is.2),
          )

  -- two of the segments that conflict are in a pair
  pub pair_made : (segs : List Seg) (s t : Seg) → Contains segs s → Contains segs t → is_some (conflict_of s t) ≡ true → PairOf s t (conflicts_of segs)
  pair_made [] s t c d e = absurd (no_member s c)
  pair_made (x ∷ xs) s t c d e =
      ⊎_elim
      (λ (is : x ≡ s). ⊎_elim (λ (at : x ≡ t). absurd (unlike_itself s (subst (λ u. is_some (conflict_of s u) ≡ true) (sym at ∙ is) e))) (λ (d : Contains xs t). front is d) (member_cases x t xs d))
      (λ (c : Contains xs s). ⊎_elim (λ (at : x ≡ t). back at c) (λ (d : Contains xs t). later (pair_made xs s t c d e)) (member_cases x t xs d))
      (member_cases x s xs c)
    where
      later : PairOf s t (conflicts_of xs) → PairOf s t (filter_map (pair_of x) xs ++ conflicts_of xs)
      later r = record { item = r.item; member = Contains-append_right (filter_map (pair_of x) xs) (conflicts_of xs) r.item r.member; are = r.are }

      front : x ≡ s → Contains xs t → PairOf s t (filter_map (pair_of x) xs ++ conflicts_of xs)
      front is d =
          let p = paired x t (subst (λ u. is_some (conflict_of u t) ≡ true) (sym is) e) in
          record { item = p.pair; member = Contains-append_left (filter_map (pair_of x) xs) (conflicts_of xs) p.pair (filter_map_has (pair_of x) xs t p.pair d p.is); are = inl (p.first ∙ is, p.second) }

      back : x ≡ t → Contains xs s → PairOf s t (filter_map (pair_of x) xs ++ conflicts_of xs)
      back at c =
          let p = paired x s (ap is_some (symmetric x s) ∙ (ap (λ u. is_some (conflict_of s u)) at ∙ e)) in
          record { item = p.pair; member = Contains-append_left (filter_map (pair_of x) xs) (conflicts_of xs) p.pair (filter_map_has (pair_of x) xs s p.pair c p.is); are = inr (p.first ∙ at, p.second) }

  -- ---- segments taken once

  some_once : (n m : ℕ) → m ≡ min 1 n → 0 < n → 0 < m
  some_once zero m e h = absurd (omega arith)
  some_once (suc n) m e h = omega arith

  some_of : (n m : ℕ) → m ≡ min 1 n → 0 < m → 0 < n
  some_of zero m e h = absurd (omega arith)
  some_of (suc n) m e h = omega arith

  pub once_stands : (segs distinct : List Seg) → AreDistinct segs distinct → (s : Seg) → Contains segs s → Contains distinct s
  once_stands segs distinct are s (k, h, e) = stands exact s distinct (some_once (count_of seg_cmp s segs) (count_of seg_cmp s distinct) (are.once s) (counted s segs k h e))

  pub from_once : (segs distinct : List Seg) → AreDistinct segs distinct → (s : Seg) → Contains distinct s → Contains segs s
  from_once segs distinct are s (k, h, e) = stands exact s segs (some_of (count_of seg_cmp s segs) (count_of seg_cmp s distinct) (are.once s) (counted s distinct k h e))

  pub in_pairs : (segs distinct : List Seg) → AreDistinct segs distinct → (s : Seg) → Contains segs s → list_any (is_in_pair s) (conflicts_of distinct) ≡ conflicts_with segs s
  in_pairs segs distinct are s c = same_truth (list_any (is_in_pair s) (conflicts_of distinct)) (conflicts_with segs s) there back
    where
      by_pair : (p : Pair) → Contains (conflicts_of distinct) p → is_in_pair s p ≡ true → conflicts_with segs s ≡ true
      by_pair p m e =
          let r = pair_stands distinct p m in
          ⊎_elim
          (λ h. let is = is_eq_same exact p.first s h in
          any_from (λ t. is_some (conflict_of s t)) segs p.second (from_once segs distinct are p.second r.1) (ap (λ u. is_some (conflict_of u p.second)) (sym is) ∙ r.2))
          (λ h. let is = is_eq_same exact p.second s h in
          any_from (λ t. is_some (conflict_of s t)) segs p.first (from_once segs distinct are p.first r.0)
          (ap is_some (symmetric s p.first) ∙ (ap (λ u. is_some (conflict_of p.first u)) (sym is) ∙ r.2)))
          (or-out (is_eq (seg_cmp p.first s)) (is_eq (seg_cmp p.second s)) e)

      there : list_any (is_in_pair s) (conflicts_of distinct) ≡ true → conflicts_with segs s ≡ true
      there e = let r = some_passes (is_in_pair s) (conflicts_of distinct) e in by_pair r.item r.member r.passes

      back : conflicts_with segs s ≡ true → list_any (is_in_pair s) (conflicts_of distinct) ≡ true
      back e =
          let r = some_passes (λ t. is_some (conflict_of s t)) segs e in
          let p = pair_made distinct s r.item (once_stands segs distinct are s c) (once_stands segs distinct are r.item r.member) r.passes in
          any_from (is_in_pair s) (conflicts_of distinct) p.item p.member (in_made s r.item (conflicts_of distinct) p)

  -- ---- rings

  ring_test : (rings : List CoastRing) (distinct : List Seg) → AreDistinct (all_segments rings) distinct → (found : Seg → Bool) → ((s : Seg) → found s ≡ list_any (is_in_pair s) (conflicts_of distinct))
      → (ring : CoastRing) → Contains rings ring → list_any found (segments_round ring.path) ≡ is_left_out (all_segments rings) ring
  ring_test rings distinct are found is ring c = any_same found (conflicts_with (all_segments rings)) (segments_round ring.path) (λ s d.
      is s ∙ in_pairs (all_segments rings) distinct are s (flat_map_has (λ (r : CoastRing). segments_round r.path) rings ring s c d))

  pub left_out_are : (rings : List CoastRing) (distinct : List Seg) → AreDistinct (all_segments rings) distinct → (found : Seg → Bool) → ((s : Seg) → found s ≡ list_any (is_in_pair s) (conflicts_of distinct))
      → filter (λ (ring : CoastRing). list_any found (segments_round ring.path)) rings ≡ filter (is_left_out (all_segments rings)) rings
  left_out_are rings distinct are found is = filter_alike (λ (ring : CoastRing). list_any found (segments_round ring.path)) (is_left_out (all_segments rings)) rings (ring_test rings distinct are found is)

  pub kept_are : (rings : List CoastRing) (distinct : List Seg) → AreDistinct (all_segments rings) distinct → (found : Seg → Bool) → ((s : Seg) → found s ≡ list_any (is_in_pair s) (conflicts_of distinct))
      → filter (λ (ring : CoastRing). not (list_any found (segments_round ring.path))) rings ≡ filter (λ ring. not (is_left_out (all_segments rings) ring)) rings
  kept_are rings distinct are found is =
      filter_alike (λ (ring : CoastRing). not (list_any found (segments_round ring.path))) (λ ring. not (is_left_out (all_segments rings) ring)) rings (λ ring c. ap not (ring_test rings distinct are found is ring c))

pub none_from : (o : Option Kind) → is_some o ≡ false → o ≡ None
none_from None e = refl
none_from (Some k) e = absurd (false≢true (sym e))

any_none : {X : Type 0} (p : X → Bool) (xs : List X) (x : X) → list_any p xs ≡ false → Contains xs x → p x ≡ false
any_none p xs x e c = by (p x) refl
  where
    by : (b : Bool) → p x ≡ b → p x ≡ false
    by true h = absurd (false≢true (sym e ∙ any_from p xs x c h))
    by false h = h

-- kept rings don't conflict
pub kept_clear : (rings kept : List CoastRing) → kept ≡ filter (λ ring. not (is_left_out (all_segments rings) ring)) rings → HaveNoConflicts (all_segments kept)
kept_clear rings kept is s t c d =
    let f : CoastRing → List Seg = λ r. segments_round r.path in
    let p : CoastRing → Bool = λ ring. not (is_left_out (all_segments rings) ring) in
    let a = flat_map_from f kept s c in
    let b = flat_map_from f kept t d in
    let ka = kept_is p rings a.item (subst (λ (rs : List CoastRing). Contains rs a.item) is a.member) in
    let kb = kept_is p rings b.item (subst (λ (rs : List CoastRing). Contains rs b.item) is b.member) in
    let clear = any_none (conflicts_with (all_segments rings)) (segments_round a.item.path) s (not-true-out (is_left_out (all_segments rings) a.item) ka.1) a.holds in
    none_from (conflict_of s t) (any_none (λ u. is_some (conflict_of s u)) (all_segments rings) t clear (flat_map_has f rings b.item t kb.0 b.holds))

-- what the looked up segments tell is the definition
pub sorted_are : SegmentOrderTellsApart → ConflictIsSymmetric → (rings : List CoastRing) (segs lent : List Seg) (pairs lent_pairs told : List Pair) (found : Seg → Bool) (kept left : List CoastRing) (cuts : List Cut)
    → segs ≡ all_segments rings → lent ≡ segs → AreConflicts lent pairs → lent_pairs ≡ pairs → ((s : Seg) → found s ≡ list_any (is_in_pair s) lent_pairs)
    → kept ≡ filter (λ (ring : CoastRing). not (list_any found (segments_round ring.path))) rings → left ≡ filter (λ (ring : CoastRing). list_any found (segments_round ring.path)) rings → told ≡ pairs → cuts ≡ []
    → IsSorted rings (record { kept = kept; left_out = left; pairs = told; cuts = cuts })
sorted_are exact symmetric rings segs lent pairs lent_pairs told found kept left cuts all borrowed are same is kept_is left_is told_is none =
    let of_rings : AreConflicts (all_segments rings) pairs = subst (λ (ss : List Seg). AreConflicts ss pairs) (borrowed ∙ all) are in
    let looked : (s : Seg) → found s ≡ list_any (is_in_pair s) (conflicts_of of_rings.distinct) = λ s. is s ∙ ap (list_any (is_in_pair s)) (same ∙ of_rings.are) in
    record {
      left_out = left_is ∙ left_out_are exact symmetric rings of_rings.distinct of_rings.once found looked;
      kept = kept_is ∙ kept_are exact symmetric rings of_rings.distinct of_rings.once found looked;
      pairs = subst (AreConflicts (all_segments rings)) (sym told_is) of_rings;
      uncut = none;
    }
