-- Laws of rings whose crossings are cut.
use Rattle.std.proofs.Common.{◌≡◌, Bool, true, false, not, ◌&&◌, List, [], ◌∷◌, filter, Contains, refl, sym, ap, subst, ◌∙◌}
use Rattle.std.specs.Prelude.{is_some}
use Rattle.std.specs.List.{list_any}
use Rattle.std.proofs.lemmas.Bool.{and_right, false≢true}
use Rattle.osm_lattice.specs.declared.seg.Seg.{Seg}
use Rattle.osm_lattice.specs.Conflict.{conflict_of}
use Rattle.coast_rings.specs.declared.ring.CoastRing.{CoastRing}
use Rattle.coast_sides.specs.declared.sorted.Sorted.{Sorted}
use Rattle.coast_sides.specs.Choice.{AreChosen, is_beaten, outranks, rings_conflict}
use Rattle.coast_sides.specs.CutSorting.{ClearRingsStay, IsCutAndSorted, UnopposedRingsStay}
use Rattle.coast_sides.specs.Land.{HaveNoConflicts}
use Rattle.coast_sides.specs.Rounds.{AreCutDown, conflicts_itself}
use Rattle.coast_sides.specs.Segments.{all_segments, segments_round}
use Rattle.coast_sides.specs.Sorting.{IsSorted, conflicts_with, is_left_out}
use Rattle.coast_sides.proofs.CutDowns.{cut_down_one, nothing_cut, stays}
use Rattle.coast_sides.proofs.SomeMember.{filter_has, first_member, flat_map_has, later_member, some_passes}

-- ---- rings without conflicts

none_passes : {X : Type 0} (p : X → Bool) (xs : List X) → ((x : X) → Contains xs x → p x ≡ false) → list_any p xs ≡ false
none_passes p xs none = by (list_any p xs) refl
  where
    by : (b : Bool) → list_any p xs ≡ b → list_any p xs ≡ false
    by true e = let r = some_passes p xs e in absurd (false≢true (sym (none r.item r.member) ∙ r.passes))
    by false e = e

filter_none : {X : Type 0} (p : X → Bool) (xs : List X) → ((x : X) → Contains xs x → p x ≡ false) → filter p xs ≡ []
filter_none p [] none = refl
filter_none p (x ∷ xs) none = rw (none x (first_member x xs)) (filter_none p xs (λ y c. none y (later_member x y xs c)))

filter_whole : {X : Type 0} (p : X → Bool) (xs : List X) → ((x : X) → Contains xs x → p x ≡ true) → filter p xs ≡ xs
filter_whole p [] all = refl
filter_whole p (x ∷ xs) all = rw (all x (first_member x xs)) (ap (λ ys. x ∷ ys) (filter_whole p xs (λ y c. all y (later_member x y xs c))))

module _ (rings : List CoastRing) (clear : HaveNoConflicts (all_segments rings)) where
  segment_in : (ring : CoastRing) (s : Seg) → Contains rings ring → Contains (segments_round ring.path) s → Contains (all_segments rings) s
  segment_in ring s c d = flat_map_has (λ (r : CoastRing). segments_round r.path) rings ring s c d

  none_meet : (a b : CoastRing) → Contains rings a → Contains rings b → rings_conflict a b ≡ false
  none_meet a b ca cb = none_passes (conflicts_with (segments_round b.path)) (segments_round a.path) (λ s cs.
      none_passes (λ t. is_some (conflict_of s t)) (segments_round b.path) (λ t ct. ap is_some (clear s t (segment_in a s ca cs) (segment_in b t cb ct))))

  itself_clear : (ring : CoastRing) → Contains rings ring → conflicts_itself ring.path ≡ false
  itself_clear ring c = none_meet ring ring c c

  not_left_out : (ring : CoastRing) → Contains rings ring → is_left_out (all_segments rings) ring ≡ false
  not_left_out ring c = none_passes (conflicts_with (all_segments rings)) (segments_round ring.path) (λ s cs.
      none_passes (λ t. is_some (conflict_of s t)) (all_segments rings) (λ t ct. ap is_some (clear s t (segment_in ring s c cs) ct)))

  not_beaten : (is_kept : CoastRing → Bool) (ring : CoastRing) → Contains rings ring → is_beaten is_kept rings ring ≡ false
  not_beaten is_kept ring c = none_passes (λ foe. is_kept foe && (outranks foe ring && rings_conflict foe ring)) rings (λ foe d.
      and_right (is_kept foe) (outranks foe ring && rings_conflict foe ring) (and_right (outranks foe ring) (rings_conflict foe ring) (none_meet foe ring d c)))

  kept_with : (kept left : List CoastRing) → AreChosen rings kept left → (kept ≡ rings) × (left ≡ [])
  kept_with kept left chosen =
      let all : (ring : CoastRing) → Contains rings ring → chosen.is_kept ring ≡ true = λ ring c. chosen.exact ring c ∙ ap not (not_beaten chosen.is_kept ring c) in (
        chosen.keeps ∙ filter_whole chosen.is_kept rings all,
        chosen.leaves ∙ filter_none (λ ring. not (chosen.is_kept ring)) rings (λ ring c. ap not (all ring c)),
      )

  kept_without : filter (λ ring. not (is_left_out (all_segments rings) ring)) rings ≡ rings
  kept_without = filter_whole (λ ring. not (is_left_out (all_segments rings) ring)) rings (λ ring c. ap not (not_left_out ring c))

  left_without : filter (is_left_out (all_segments rings)) rings ≡ []
  left_without = filter_none (is_left_out (all_segments rings)) rings not_left_out

  to_without : (sorted : Sorted) → IsCutAndSorted rings sorted → IsSorted rings sorted
  to_without sorted is =
      let same = cut_down_one rings is.left rings sorted.cuts [] is.cut (nothing_cut rings itself_clear) in
      let kept = kept_with sorted.kept sorted.left_out (subst (λ (rs : List CoastRing). AreChosen rs sorted.kept sorted.left_out) same.0 is.chosen) in
      record { left_out = kept.1 ∙ sym left_without; kept = kept.0 ∙ sym kept_without; pairs = is.pairs; uncut = same.1 }

  all_chosen : (kept left : List CoastRing) → kept ≡ rings → left ≡ [] → AreChosen rings kept left
  all_chosen kept left k l = record {
    is_kept = λ ring. true;
    exact = λ ring c. sym (ap not (not_beaten (λ r. true) ring c));
    keeps = k ∙ sym (filter_whole (λ ring. true) rings (λ ring c. refl));
    leaves = l ∙ sym (filter_none (λ ring. not true) rings (λ ring c. refl));
  }

  to_with : (sorted : Sorted) → IsSorted rings sorted → IsCutAndSorted rings sorted
  to_with sorted is = record {
    left = rings;
    cut = subst (AreCutDown rings rings) (sym is.uncut) (nothing_cut rings itself_clear);
    chosen = all_chosen sorted.kept sorted.left_out (is.kept ∙ kept_without) (is.left_out ∙ left_without);
    pairs = is.pairs;
  }

pub rings_stay : ClearRingsStay
rings_stay rings sorted clear = (to_without rings clear sorted, to_with rings clear sorted)

-- ---- a ring that no kept one of a higher rank conflicts with

pub unopposed_stay : UnopposedRingsStay
unopposed_stay rings sorted ring is c clear unopposed =
    let chosen = is.chosen in
    let here = stays rings is.left sorted.cuts is.cut ring c clear in
    let free : is_beaten chosen.is_kept is.left ring ≡ false = none_passes (λ foe. chosen.is_kept foe && (outranks foe ring && rings_conflict foe ring)) is.left (λ foe d. by foe d (chosen.is_kept foe) refl (outranks foe ring) refl) in
    subst (λ (rs : List CoastRing). Contains rs ring) (sym chosen.keeps) (filter_has chosen.is_kept is.left ring here (chosen.exact ring here ∙ ap not free))
  where
    by : (foe : CoastRing) → Contains is.left foe → (k : Bool) → is.chosen.is_kept foe ≡ k → (o : Bool) → outranks foe ring ≡ o → (is.chosen.is_kept foe && (outranks foe ring && rings_conflict foe ring)) ≡ false
    by foe d false ek o eo = ap (λ b. b && (outranks foe ring && rings_conflict foe ring)) ek
    by foe d true ek false eo = and_right (is.chosen.is_kept foe) (outranks foe ring && rings_conflict foe ring) (ap (λ b. b && rings_conflict foe ring) eo)
    by foe d true ek true eo =
        let kept = subst (λ (rs : List CoastRing). Contains rs foe) (sym is.chosen.keeps) (filter_has is.chosen.is_kept is.left foe d ek) in
        and_right (is.chosen.is_kept foe) (outranks foe ring && rings_conflict foe ring) (and_right (outranks foe ring) (rings_conflict foe ring) (unopposed foe kept eo))
