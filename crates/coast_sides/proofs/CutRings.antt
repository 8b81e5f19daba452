-- Rounds one after the other, and rings one after the other.
use Rattle.std.proofs.Common.{◌≡◌, inr, ℕ, ℤ, ◌+◌, ◌<◌, ◌≤◌, Bool, true, false, Contains, List, [], ◌∷◌, ◌++◌, Some, length, get_or, map, take, refl, sym, ap, subst, ◌∙◌, arith}
use Rattle.std.specs.Prelude.{is_some}
use Rattle.std.specs.List.{flat_map, list_any}
use Rattle.std.proofs.lemmas.Bool.{false_from_ne_true, false≢true}
use Rattle.std.proofs.lemmas.List.{append-nil, append_assoc, take_more}
use Rattle.std.proofs.lemmas.List.Concat.{flat_map-append}
use Rattle.osm_lattice.specs.Conflict.{conflict_of}
use Rattle.osm_lattice.specs.ConflictLaws.{ConflictIsSymmetric}
use Rattle.osm_lattice.specs.OrderLaws.{SegmentOrderTellsApart}
use Rattle.osm_lattice.specs.declared.loc.Loc.{Loc}
use Rattle.osm_lattice.specs.declared.seg.Seg.{Seg}
use Rattle.osm_segments.specs.Counts.{AreDistinct}
use Rattle.osm_segments.specs.Pairs.{conflicts_of}
use Rattle.osm_segments.specs.Places.{AreConflictPlaces, pair_at}
use Rattle.osm_segments.specs.declared.pairs.Pair.{Pair}
use Rattle.osm_segments.specs.declared.places.Places.{Places}
use Rattle.coast_rings.specs.Round.{IsRound}
use Rattle.coast_rings.specs.declared.ring.CoastRing.{CoastRing}
use Rattle.coast_sides.specs.CutSteps.{AreCrossed, IsCutLine, IsCutRing, IsFoundBy, IsLeftBehind, IsShortened}
use Rattle.coast_sides.specs.Rounds.{AreCutDown, AreRounds, conflicts_itself, round_cuts}
use Rattle.coast_sides.specs.Segments.{all_segments, segments_round}
use Rattle.coast_sides.specs.Sorting.{conflicts_with, is_in_pair}
use Rattle.coast_sides.specs.declared.cut.Cut.{Cut}
use Rattle.coast_sides.proofs.Conflicts.{from_once, in_pairs, pair_stands}
use Rattle.coast_sides.proofs.SomeMember.{any_from, flat_map_has, some_passes}

-- ---- whether a line conflicts with itself

module _ (exact : SegmentOrderTellsApart) (symmetric : ConflictIsSymmetric) where
  no_pairs : (segs distinct : List Seg) → AreDistinct segs distinct → conflicts_of distinct ≡ [] → list_any (conflicts_with segs) segs ≡ false
  no_pairs segs distinct are none = false_from_ne_true (list_any (conflicts_with segs) segs) (λ e.
      let p = some_passes (conflicts_with segs) segs e in
      let found = ap (list_any (is_in_pair p.item)) (sym none) ∙ (in_pairs exact symmetric segs distinct are p.item p.member ∙ p.passes) in
      false≢true found)

  some_pair : (segs distinct : List Seg) → AreDistinct segs distinct → (pair : Pair) → Contains (conflicts_of distinct) pair → list_any (conflicts_with segs) segs ≡ true
  some_pair segs distinct are pair c =
      let r = pair_stands exact symmetric distinct pair c in
      any_from (conflicts_with segs) segs pair.first (from_once exact symmetric segs distinct are pair.first r.0)
      (any_from (λ t. is_some (conflict_of pair.first t)) segs pair.second (from_once exact symmetric segs distinct are pair.second r.1) r.2)

  pub clear_line : (path : List Loc) (distinct : List Seg) (places : List Places) → AreDistinct (segments_round path) distinct → AreConflictPlaces distinct places → length places ≡ 0 → conflicts_itself path ≡ false
  clear_line path distinct [] are is none = no_pairs (segments_round path) distinct are (no_items (conflicts_of distinct) is)
    where
      no_items : (pairs : List Pair) → [] ≡ map (λ (p : Pair). Some p) pairs → pairs ≡ []
      no_items [] e = refl
      no_items (p ∷ ps) e = absurd (cc e)
  clear_line path distinct (p ∷ ps) are is none = absurd (omega (arith, none))

  pub crossed_line : (path : List Loc) (distinct : List Seg) (places : List Places) → AreDistinct (segments_round path) distinct → AreConflictPlaces distinct places → (length places ≡ 0 → ⊥) → conflicts_itself path ≡ true
  crossed_line path distinct [] are is some = absurd (some refl)
  crossed_line path distinct (p ∷ ps) are is some = by (conflicts_of distinct) refl is
    where
      by : (pairs : List Pair) → conflicts_of distinct ≡ pairs → map (pair_at distinct) (p ∷ ps) ≡ map (λ (p : Pair). Some p) pairs → conflicts_itself path ≡ true
      by [] e f = absurd (cc f)
      by (q ∷ qs) e f = some_pair (segments_round path) distinct are q (subst (λ (qs : List Pair). Contains qs q) (sym e) (0, omega arith, refl))

  -- a ring along no segment in conflict doesn't conflict with itself
  pub found_by : (rings : List CoastRing) (found : Seg → Bool) → AreCrossed rings found → (ring : CoastRing) → Contains rings ring → IsFoundBy found ring
  found_by rings found crossed ring c none = false_from_ne_true (conflicts_itself ring.path) (λ e.
      let segs = segments_round ring.path in
      let p = some_passes (conflicts_with segs) segs e in
      let q = some_passes (λ t. is_some (conflict_of p.item t)) segs p.passes in
      let s = flat_map_has (λ (r : CoastRing). segments_round r.path) rings ring p.item c p.member in
      let t = flat_map_has (λ (r : CoastRing). segments_round r.path) rings ring q.item c q.member in
      let conflict = any_from (λ t. is_some (conflict_of p.item t)) (all_segments rings) q.item t q.passes in
      let are = crossed.conflicts in
      let told = crossed.are p.item ∙ (ap (list_any (is_in_pair p.item)) are.are ∙ (in_pairs exact symmetric (all_segments rings) are.distinct are.once p.item s ∙ conflict)) in
      false≢true (sym none ∙ any_from found segs p.item p.member told))

-- ---- round by round

-- after some rounds this is left of a line
pub record AreUnderway (ring : ℤ) (path : List Loc) (old : List Cut) (left : List Loc) (new : List Cut) : Type 0 where
  pub done : List (List Loc)
  pub on : (more : List (List Loc)) (last : List Loc) → AreRounds left more last → AreRounds path (done ++ more) last
  pub round : 2 ≤ length left → IsRound left
  pub told : new ≡ old ++ flat_map (round_cuts ring) done

pub underway_none : (ring : ℤ) (path left : List Loc) (old : List Cut) → left ≡ path → (2 ≤ length path → IsRound path) → AreUnderway ring path old left old
underway_none ring path left old e round = record {
  done = [];
  on = λ more last are. subst (λ (p : List Loc). AreRounds p more last) e are;
  round = subst (λ (p : List Loc). 2 ≤ length p → IsRound p) (sym e) round;
  told = sym (append-nil old);
}

pub underway_more : (ring : ℤ) (path left lent next : List Loc) (old now new : List Cut) → lent ≡ left → AreUnderway ring path old left now → IsShortened ring lent now next new → AreUnderway ring path old next new
underway_more ring path left lent next old now new e u r = record {
  done = u.done ++ lent ∷ [];
  on = λ more last are. subst (λ (rounds : List (List Loc)). AreRounds path rounds last) (sym (append_assoc u.done (lent ∷ []) more))
      (u.on (lent ∷ more) last (subst (λ (p : List Loc). AreRounds p (lent ∷ more) last) e (r.conflicts, refl, subst (λ (p : List Loc). AreRounds p more last) r.is are)));
  round = r.round;
  told = r.told ∙ (ap (λ (cuts : List Cut). cuts ++ round_cuts ring lent) u.told ∙ (append_assoc old (flat_map (round_cuts ring) u.done) (round_cuts ring lent)
      ∙ ap (λ (cuts : List Cut). old ++ cuts) (ap (λ (cuts : List Cut). flat_map (round_cuts ring) u.done ++ cuts) (sym (append-nil (round_cuts ring lent))) ∙ sym (flat_map-append (round_cuts ring) u.done (lent ∷ [])))));
}

pub underway_end : (ring : ℤ) (path left lent : List Loc) (old now new : List Cut) → lent ≡ left → AreUnderway ring path old left now → conflicts_itself lent ≡ false → new ≡ now → IsCutLine ring path old left new
underway_end ring path left lent old now new e u clear same = record {
  rounds = u.done ++ [];
  are = u.on [] left (ap conflicts_itself (sym e) ∙ clear, refl);
  round = u.round;
  told = same ∙ (u.told ∙ ap (λ (rounds : List (List Loc)). old ++ flat_map (round_cuts ring) rounds) (sym (append-nil u.done)));
}

-- a line that isn't looked at
pub no_rounds : (ring : ℤ) (path left : List Loc) (old : List Cut) → left ≡ path → (2 ≤ length path → IsRound path) → conflicts_itself path ≡ false → IsCutLine ring path old left old
no_rounds ring path left old e round clear = record {
  rounds = [];
  are = (clear, e);
  round = subst (λ (p : List Loc). 2 ≤ length p → IsRound p) (sym e) round;
  told = sym (append-nil old);
}

-- ---- ring by ring

two_lists : {X Y : Type 0} (R : List X → List Y → Type 0) (a b : List X) (c d : List Y) → a ≡ b → c ≡ d → R b d → R a c
two_lists R a b c d e f r = subst (λ xs. R xs c) (sym e) (subst (λ ys. R b ys) (sym f) r)

more_rings : (rings : List CoastRing) (left first : List CoastRing) (cuts more : List Cut) (ring : CoastRing) → AreCutDown rings left cuts → AreCutDown (ring ∷ []) first more → AreCutDown (rings ++ ring ∷ []) (left ++ first) (cuts ++ more)
more_rings [] left first cuts more ring are one = two_lists (AreCutDown (ring ∷ [])) (left ++ first) first (cuts ++ more) more (ap (λ (rs : List CoastRing). rs ++ first) are.0) (ap (λ (cs : List Cut). cs ++ more) are.1) one
more_rings (r ∷ rings) left first cuts more ring are one = (
  are.0,
  are.1,
  are.2,
  are.3,
  are.4,
  are.5 ++ first,
  are.6 ++ more,
  more_rings rings are.5 first are.6 more ring are.7 one,
  ap (λ (rs : List CoastRing). rs ++ first) are.8 ∙ append_assoc are.3 are.5 first,
  ap (λ (cs : List Cut). cs ++ more) are.9 ∙ append_assoc (flat_map (round_cuts r.name) are.0) are.6 more,
)

pub ring_more : (rings : List CoastRing) (i : ℕ) (ring : CoastRing) (left next : List CoastRing) (cuts told : List Cut) → i < length rings → ring ≡ get_or rings i ring → AreCutDown (take i rings) left cuts → IsCutRing ring left cuts next told
    → AreCutDown (take (i + 1) rings) next told
ring_more rings i ring left next cuts told h at are r =
    let first = r.left_behind.0 in
    let more = flat_map (round_cuts ring.name) r.rounds in
    subst (λ (rs : List CoastRing). AreCutDown rs next told) (sym (take_more rings i ring h ∙ ap (λ (r : CoastRing). take i rings ++ r ∷ []) (sym at)))
    (two_lists (AreCutDown (take i rings ++ ring ∷ [])) next (left ++ first) told (cuts ++ more) r.left_behind.2 r.told
    (more_rings (take i rings) left first cuts more ring are (r.rounds, r.last, r.are, first, r.left_behind.1, [], [], (refl, refl), sym (append-nil first), sym (append-nil more))))

pub left_behind : (item ring : CoastRing) (path : List Loc) (old new : List CoastRing) → new ≡ old ++ item ∷ [] → item.name ≡ ring.name → item.path ≡ path → IsLeftBehind ring path old new
left_behind item ring path old new is name line = (item ∷ [], inr (item, name, line, refl), is)
