-- Which rings are kept: that this is settled, how it is found in order of rank, and that kept rings don't conflict.
use Rattle.std.proofs.Common.{◌≡◌, ℕ, ℤ, suc, ◌+◌, ◌<◌, Bool, true, false, not, ◌&&◌, ◌||◌, if◌then◌else◌, List, [], ◌∷◌, ◌++◌, filter, All, AllPairs, Contains, length, take, drop, get_or, Option, Some, refl, sym, ap, subst, ◌∙◌, ⊎_elim}
use Rattle.std.specs.Prelude.{is_some}
use Rattle.std.specs.List.{cons_option, list_any, slice_get}
use Rattle.std.specs.declared.cmp.Ordering.{Ordering}
use Rattle.std.specs.declared.cmp.Ordering.TheVariants.{Less, Equal, Greater}
use Rattle.std.specs.Ordering.{int_cmp, is_eq, ordering_reverse}
use Rattle.std.proofs.lemmas.Bool.{and_from, and_parts, false≢true}
use Rattle.std.proofs.lemmas.Cmp.{int_cmp_total, tied_itself}
use Rattle.std.proofs.Math.Seq.{drop-cons}
use Rattle.std.proofs.lemmas.List.{append-nil, append_assoc, take-append-drop}
use Rattle.std.proofs.lemmas.List.Elements.{Contains-append_cases, Contains-get_or, filter-append, filter_map-append}
use Rattle.std.proofs.lemmas.List.Folds.{list_any-append}
use Rattle.std.proofs.lemmas.Option.{get_or_from_slice_get, slice_get_within}
use Rattle.osm_lattice.specs.declared.seg.Seg.{Seg}
use Rattle.osm_lattice.specs.Conflict.{conflict_of}
use Rattle.osm_lattice.specs.ConflictLaws.{ConflictIsSymmetric}
use Rattle.lists.proofs.ListsKit.{equal_from}
use Rattle.coast_rings.specs.declared.ring.CoastRing.{CoastRing}
use Rattle.coast_sides.specs.Choice.{AreChosen, KeepsUnbeaten, is_beaten, outranks, rings_conflict}
use Rattle.coast_sides.specs.ChoiceSteps.{AreBlocked, AreByRank, is_free, rings_at}
use Rattle.coast_sides.specs.CutSorting.{NamesOfRingsRise}
use Rattle.coast_sides.specs.Land.{HaveNoConflicts}
use Rattle.coast_sides.specs.Rounds.{conflicts_itself}
use Rattle.coast_sides.specs.Segments.{all_segments, segments_round}
use Rattle.coast_sides.specs.Sorting.{conflicts_with}
use Rattle.coast_sides.proofs.Conflicts.{none_from}
use Rattle.coast_sides.proofs.ListSteps.{or_false, taken_more}
use Rattle.coast_sides.proofs.OneChoice.{choice, choice_chooses, choice_one}
use Rattle.coast_sides.proofs.RingRanks.{less_outranks, level_names, not_both, not_itself, one_by_name, outranks_trans, ring_cmp, ring_cmp_total}
use Rattle.coast_sides.proofs.SomeMember.{any_from, filter_alike, filter_has, filter_map_from, flat_map_from, flat_map_has, kept_is, member_cases, pairs_after, pairs_before, same_truth, some_passes}

-- ---- there is one choice

-- the rings that are kept
pub kept_by : List CoastRing → CoastRing → Bool
kept_by rings = choice outranks rings_conflict rings

pub kept_by_rank : (rings : List CoastRing) → KeepsUnbeaten rings (kept_by rings)
unfolding kept_by
kept_by_rank rings = choice_chooses outranks rings_conflict rings not_itself outranks_trans

pub chosen_exist : (rings : List CoastRing) → AreChosen rings (filter (kept_by rings) rings) (filter (λ ring. not (kept_by rings ring)) rings)
chosen_exist rings = record { is_kept = kept_by rings; exact = kept_by_rank rings; keeps = refl; leaves = refl }

pub chosen_one : (rings kept left other_kept other_left : List CoastRing) → AreChosen rings kept left → AreChosen rings other_kept other_left → (kept ≡ other_kept) × (left ≡ other_left)
chosen_one rings kept left other_kept other_left a b =
    let same = choice_one outranks rings_conflict rings not_itself outranks_trans a.is_kept b.is_kept a.exact b.exact in (
      a.keeps ∙ (filter_alike a.is_kept b.is_kept rings same ∙ sym b.keeps),
      a.leaves ∙ (filter_alike (λ ring. not (a.is_kept ring)) (λ ring. not (b.is_kept ring)) rings (λ ring c. ap not (same ring c)) ∙ sym b.leaves),
    )

-- ---- two rings that conflict

module _ (symmetric : ConflictIsSymmetric) where
  meet_from : (a b : CoastRing) (s t : Seg) → Contains (segments_round a.path) s → Contains (segments_round b.path) t → is_some (conflict_of s t) ≡ true → rings_conflict a b ≡ true
  meet_from a b s t c d e = any_from (conflicts_with (segments_round b.path)) (segments_round a.path) s c (any_from (λ u. is_some (conflict_of s u)) (segments_round b.path) t d e)

  turned : (s t : Seg) → is_some (conflict_of s t) ≡ true → is_some (conflict_of t s) ≡ true
  turned s t e = ap is_some (symmetric t s) ∙ e

  -- kept rings without conflicts of their own don't conflict with each other either
  pub chosen_clear : (rings kept left : List CoastRing) → NamesOfRingsRise rings → ((r : CoastRing) → Contains rings r → conflicts_itself r.path ≡ false) → AreChosen rings kept left → HaveNoConflicts (all_segments kept)
  chosen_clear rings kept left up clear chosen s t c d =
      let f : CoastRing → List Seg = λ r. segments_round r.path in
      let a = flat_map_from f kept s c in
      let b = flat_map_from f kept t d in
      let ka = kept_is chosen.is_kept rings a.item (subst (λ (rs : List CoastRing). Contains rs a.item) chosen.keeps a.member) in
      let kb = kept_is chosen.is_kept rings b.item (subst (λ (rs : List CoastRing). Contains rs b.item) chosen.keeps b.member) in
      none_from (conflict_of s t) (by a.item b.item ka.0 kb.0 ka.1 kb.1 a.holds b.holds (is_some (conflict_of s t)) refl)
    where
      beaten_by : (a b : CoastRing) → Contains rings a → Contains rings b → chosen.is_kept a ≡ true → chosen.is_kept b ≡ true → outranks a b ≡ true → rings_conflict a b ≡ true → ⊥
      beaten_by a b ca cb ka kb up e =
          let beaten = any_from (λ foe. chosen.is_kept foe && (outranks foe b && rings_conflict foe b)) rings a ca (and_from (chosen.is_kept a) (outranks a b && rings_conflict a b) ka (and_from (outranks a b) (rings_conflict a b) up e)) in
          false≢true (sym (sym kb ∙ (chosen.exact b cb ∙ ap not beaten)))

      apart : (a b : CoastRing) → Contains rings a → Contains rings b → chosen.is_kept a ≡ true → chosen.is_kept b ≡ true → Contains (segments_round a.path) s → Contains (segments_round b.path) t → is_some (conflict_of s t) ≡ true → (o : Ordering) → ring_cmp a b ≡ o → ⊥
      apart a b ca cb ka kb sa tb e Less o = beaten_by a b ca cb ka kb (less_outranks a b o) (meet_from a b s t sa tb e)
      apart a b ca cb ka kb sa tb e Greater o = beaten_by b a cb ca kb ka (less_outranks b a (ring_cmp_total.antisymm b a ∙ ap ordering_reverse o)) (meet_from b a t s tb sa (turned s t e))
      apart a b ca cb ka kb sa tb e Equal o =
          let one = one_by_name rings up a b ca cb (level_names a b o) in
          false≢true (sym (clear b cb) ∙ subst (λ (r : CoastRing). rings_conflict r b ≡ true) one (meet_from a b s t sa tb e))

      by : (a b : CoastRing) → Contains rings a → Contains rings b → chosen.is_kept a ≡ true → chosen.is_kept b ≡ true → Contains (segments_round a.path) s → Contains (segments_round b.path) t → (x : Bool) → is_some (conflict_of s t) ≡ x → is_some (conflict_of s t) ≡ false
      by a b ca cb ka kb sa tb true e = absurd (apart a b ca cb ka kb sa tb e (ring_cmp a b) refl)
      by a b ca cb ka kb sa tb false e = e

-- ---- found in order of rank

ring_stands : (rings : List CoastRing) (places : List ℕ) (q : CoastRing) → Contains (rings_at rings places) q → Contains rings q
ring_stands rings places q c =
    let g = filter_map_from (slice_get rings) places q c in
    (g.item, slice_get_within rings g.item q g.gives, get_or_from_slice_get rings g.item q q g.gives)

-- a ring has this name
abbrev pub is_named : ℤ → CoastRing → Bool
is_named n ring = is_eq (int_cmp ring.name n)

-- what has been found once these rings, the first of all in order of rank, have been looked at
pub record AreHeld (rings passed : List CoastRing) (is_kept : CoastRing → Bool) (names : ℤ → Bool) (known : Seg → Seg → Bool) (blocked : Seg → Bool) : Type 0 where
  pub named : (n : ℤ) → names n ≡ list_any (is_named n) (filter is_kept passed)
  pub bars : AreBlocked (all_segments rings) (all_segments (filter is_kept passed)) known blocked

module _ (symmetric : ConflictIsSymmetric) (rings : List CoastRing) (up : NamesOfRingsRise rings) (places : List ℕ) (order : AreByRank rings places) (is_kept : CoastRing → Bool) (is : KeepsUnbeaten rings is_kept) where
  module _ (passed later : List CoastRing) (ring : CoastRing) (whole : rings_at rings places ≡ passed ++ ring ∷ later) where
    in_pairs : AllPairs (λ a b. outranks a b ≡ true) (passed ++ ring ∷ later)
    in_pairs = subst (AllPairs (λ a b. outranks a b ≡ true)) whole order.ranked

    outranked : (q : CoastRing) → Contains passed q → outranks q ring ≡ true
    outranked q c = pairs_before (λ a b. outranks a b ≡ true) passed ring later in_pairs q c

    -- what outranks the ring was looked at before it
    passed_has : (q : CoastRing) → Contains rings q → outranks q ring ≡ true → Contains passed q
    passed_has q c above = ⊎_elim
        (λ (p : Contains passed q). p)
        (λ (p : Contains (ring ∷ later) q). ⊎_elim
        (λ (e : ring ≡ q). absurd (false≢true (sym (not_itself ring) ∙ subst (λ (r : CoastRing). outranks r ring ≡ true) (sym e) above)))
        (λ (p : Contains later q). absurd (not_both q ring above (pairs_after (λ a b. outranks a b ≡ true) passed ring later in_pairs q p)))
        (member_cases ring q later p))
        (Contains-append_cases passed (ring ∷ later) q (subst (λ (rs : List CoastRing). Contains rs q) whole (order.each q c)))

    module _ (here : Contains rings ring) (passed_in : (q : CoastRing) → Contains passed q → Contains rings q) (known : Seg → Seg → Bool) (blocked : Seg → Bool)
        (are : AreBlocked (all_segments rings) (all_segments (filter is_kept passed)) known blocked) where
      segment_in : (s : Seg) → Contains (segments_round ring.path) s → Contains (all_segments rings) s
      segment_in s c = flat_map_has (λ (r : CoastRing). segments_round r.path) rings ring s here c

      there : list_any blocked (segments_round ring.path) ≡ true → is_beaten is_kept rings ring ≡ true
      there e =
          let p = some_passes blocked (segments_round ring.path) e in
          let s = p.item in
          let met = some_passes (λ t. is_some (conflict_of s t)) (all_segments (filter is_kept passed)) (sym (are.found s (segment_in s p.member)) ∙ p.passes) in
          let t = met.item in
          let q = flat_map_from (λ (r : CoastRing). segments_round r.path) (filter is_kept passed) t met.member in
          let k = kept_is is_kept passed q.item q.member in
          let meets = meet_from symmetric q.item ring t s q.holds p.member (turned symmetric s t met.passes) in
          any_from (λ foe. is_kept foe && (outranks foe ring && rings_conflict foe ring)) rings q.item (passed_in q.item k.0)
          (and_from (is_kept q.item) (outranks q.item ring && rings_conflict q.item ring) k.1 (and_from (outranks q.item ring) (rings_conflict q.item ring) (outranked q.item k.0) meets))

      back : is_beaten is_kept rings ring ≡ true → list_any blocked (segments_round ring.path) ≡ true
      back e =
          let p = some_passes (λ foe. is_kept foe && (outranks foe ring && rings_conflict foe ring)) rings e in
          let q = p.item in
          let parts = and_parts (is_kept q) (outranks q ring && rings_conflict q ring) p.passes in
          let rest = and_parts (outranks q ring) (rings_conflict q ring) parts.1 in
          let m = some_passes (conflicts_with (segments_round ring.path)) (segments_round q.path) rest.1 in
          let t = m.item in
          let n = some_passes (λ u. is_some (conflict_of t u)) (segments_round ring.path) m.passes in
          let s = n.item in
          let in_held = flat_map_has (λ (r : CoastRing). segments_round r.path) (filter is_kept passed) q t (filter_has is_kept passed q (passed_has q p.member rest.0) parts.0) m.member in
          let meets = any_from (λ u. is_some (conflict_of s u)) (all_segments (filter is_kept passed)) t in_held (turned symmetric t s n.passes) in
          any_from blocked (segments_round ring.path) s n.member (are.found s (segment_in s n.member) ∙ meets)

      pub free_kept : is_free blocked ring ≡ is_kept ring
      free_kept = ap not (same_truth (list_any blocked (segments_round ring.path)) (is_beaten is_kept rings ring) there back) ∙ sym (is ring here)

  -- ---- one more ring

  one_kept : (ring : CoastRing) → filter is_kept (ring ∷ []) ≡ (if is_kept ring then ring ∷ [] else [])
  one_kept ring = refl

  segments_of_one : (ring : CoastRing) (b : Bool) → all_segments (if b then ring ∷ [] else []) ≡ (if b then segments_round ring.path else [])
  segments_of_one ring true = append-nil (segments_round ring.path)
  segments_of_one ring false = refl

  named_one : (ring : CoastRing) (n : ℤ) (b : Bool) → list_any (is_named n) (if b then ring ∷ [] else []) ≡ (b && is_named n ring)
  named_one ring n true = or_false (is_named n ring)
  named_one ring n false = refl

  flat_more : (xs ys : List CoastRing) → all_segments (xs ++ ys) ≡ all_segments xs ++ all_segments ys
  flat_more [] ys = refl
  flat_more (x ∷ xs) ys = ap (λ ss. segments_round x.path ++ ss) (flat_more xs ys) ∙ sym (append_assoc (segments_round x.path) (all_segments xs) (all_segments ys))

  pub one_held : (i : ℕ) (place : ℕ) (ring : CoastRing) (names names_then : ℤ → Bool) (known known_then : Seg → Seg → Bool) (blocked blocked_then : Seg → Bool) → i < length places → place ≡ get_or places i place → slice_get rings place ≡ Some ring
      → AreHeld rings (rings_at rings (take i places)) is_kept names known blocked
      → ((n : ℤ) → names_then n ≡ (names n || (is_free blocked ring && is_eq (int_cmp ring.name n))))
      → ((segs held : List Seg) → All (Contains segs) (segments_round ring.path) → AreBlocked segs held known blocked → AreBlocked segs (held ++ (if is_free blocked ring then segments_round ring.path else [])) known_then blocked_then)
      → AreHeld rings (rings_at rings (take (i + 1) places)) is_kept names_then known_then blocked_then
  one_held i place ring names names_then known known_then blocked blocked_then inside read at held more blocks = record {
    named = λ n.
        more n
        ∙ (ap (λ b. names n || (b && is_named n ring)) free
        ∙ (ap (λ b. b || (is_kept ring && is_named n ring)) (held.named n)
        ∙ (ap (λ b. list_any (is_named n) (filter is_kept (rings_at rings (take i places))) || b) (sym (named_one ring n (is_kept ring)))
        ∙ (sym (list_any-append (is_named n) (filter is_kept (rings_at rings (take i places))) (if is_kept ring then ring ∷ [] else [])) ∙ ap (list_any (is_named n)) (sym kept_more)))));
    bars = subst (λ (ss : List Seg). AreBlocked (all_segments rings) ss known_then blocked_then)
        (ap (λ b. all_segments (filter is_kept (rings_at rings (take i places))) ++ (if b then segments_round ring.path else [])) free
        ∙ (ap (λ ss. all_segments (filter is_kept (rings_at rings (take i places))) ++ ss) (sym (segments_of_one ring (is_kept ring)))
        ∙ (sym (flat_more (filter is_kept (rings_at rings (take i places))) (if is_kept ring then ring ∷ [] else [])) ∙ ap all_segments (sym kept_more))))
        (blocks (all_segments rings) (all_segments (filter is_kept (rings_at rings (take i places)))) segments_in held.bars);
  }
    where
      here : Contains rings ring
      here = (place, slice_get_within rings place ring at, get_or_from_slice_get rings place ring ring at)

      parts : places ≡ take i places ++ place ∷ drop (suc i) places
      parts = sym (take-append-drop i places) ∙ ap (λ ps. take i places ++ ps) (drop-cons places i place inside ∙ ap (λ p. p ∷ drop (suc i) places) (sym read))

      whole : rings_at rings places ≡ (rings_at rings (take i places)) ++ ring ∷ (rings_at rings (drop (suc i) places))
      whole =
          ap (rings_at rings) parts
          ∙ (filter_map-append (slice_get rings) (take i places) (place ∷ drop (suc i) places) ∙ ap (λ (o : Option CoastRing). (rings_at rings (take i places)) ++ cons_option o (rings_at rings (drop (suc i) places))) at)

      passed_more : rings_at rings (take (i + 1) places) ≡ (rings_at rings (take i places)) ++ ring ∷ []
      passed_more = ap (rings_at rings) (taken_more places i place inside read) ∙ (filter_map-append (slice_get rings) (take i places) (place ∷ []) ∙ ap (λ (o : Option CoastRing). (rings_at rings (take i places)) ++ cons_option o []) at)

      kept_more : filter is_kept (rings_at rings (take (i + 1) places)) ≡ filter is_kept (rings_at rings (take i places)) ++ (if is_kept ring then ring ∷ [] else [])
      kept_more = ap (filter is_kept) passed_more ∙ filter-append is_kept (rings_at rings (take i places)) (ring ∷ [])

      free : is_free blocked ring ≡ is_kept ring
      free = free_kept (rings_at rings (take i places)) (rings_at rings (drop (suc i) places)) ring whole here (λ q c. ring_stands rings (take i places) q c) known blocked held.bars

      segments_in : All (Contains (all_segments rings)) (segments_round ring.path)
      segments_in k d h =
          let segs = segments_round ring.path in
          flat_map_has (λ (r : CoastRing). segments_round r.path) rings ring (get_or segs k d) here (Contains-get_or segs k d h)

  -- all rings have been looked at: the kept ones are those with one of the names
  pub names_are : (i : ℕ) (names : ℤ → Bool) (known : Seg → Seg → Bool) (blocked : Seg → Bool) → take i places ≡ places → AreHeld rings (rings_at rings (take i places)) is_kept names known blocked → (ring : CoastRing) → Contains rings ring → names ring.name ≡ is_kept ring
  names_are i names known blocked all held ring c =
      held.named ring.name
      ∙ (ap (λ ps. list_any (is_named ring.name) (filter is_kept (rings_at rings ps))) all
      ∙ same_truth (list_any (is_named ring.name) (filter is_kept (rings_at rings places))) (is_kept ring) there back)
    where
      there : list_any (is_named ring.name) (filter is_kept (rings_at rings places)) ≡ true → is_kept ring ≡ true
      there e =
          let p = some_passes (is_named ring.name) (filter is_kept (rings_at rings places)) e in
          let k = kept_is is_kept (rings_at rings places) p.item p.member in
          let one = one_by_name rings up p.item ring (ring_stands rings places p.item k.0) c (equal_from (int_cmp p.item.name ring.name) p.passes) in
          ap is_kept (sym one) ∙ k.1

      back : is_kept ring ≡ true → list_any (is_named ring.name) (filter is_kept (rings_at rings places)) ≡ true
      back e = any_from (is_named ring.name) (filter is_kept (rings_at rings places)) ring (filter_has is_kept (rings_at rings places) ring (order.each ring c) e) (ap is_eq (tied_itself int_cmp_total ring.name))

-- the rings with one of these names, and the others
pub named_chosen : (rings kept left : List CoastRing) (names : ℤ → Bool) → ((is_kept : CoastRing → Bool) → KeepsUnbeaten rings is_kept → (ring : CoastRing) → Contains rings ring → names ring.name ≡ is_kept ring)
    → kept ≡ filter (λ ring. names ring.name) rings → left ≡ filter (λ ring. not (names ring.name)) rings → AreChosen rings kept left
named_chosen rings kept left names are kept_is left_is =
    let same : (ring : CoastRing) → Contains rings ring → names ring.name ≡ kept_by rings ring = are (kept_by rings) (kept_by_rank rings) in
    record {
      is_kept = kept_by rings;
      exact = kept_by_rank rings;
      keeps = kept_is ∙ filter_alike (λ ring. names ring.name) (kept_by rings) rings same;
      leaves = left_is ∙ filter_alike (λ ring. not (names ring.name)) (λ ring. not (kept_by rings ring)) rings (λ ring c. ap not (same ring c));
    }
