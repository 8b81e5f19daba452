-- What steps in conflict cut out, told by the pairs of their segments.
use Rattle.std.proofs.Common.{◌≡◌, ◌⊎◌, inl, inr, ⊎_elim, ℕ, ◌&&◌, true, Contains, List, Option, Some, None, length, option_map, refl, sym, ap, ◌∙◌, arith}
use Rattle.std.specs.Prelude.{is_some, nat_lt}
use Rattle.std.specs.List.{enumerate_from, list_any}
use Rattle.std.specs.Ordering.{is_eq}
use Rattle.std.proofs.lemmas.Bool.{and_from, and_parts, false≢true, or_cases, or_left, or_right}
use Rattle.std.proofs.lemmas.List.FromFn.{get_or-enumerate_from, length-enumerate_from}
use Rattle.std.proofs.lemmas.List.Sorted.{Contains-permutation, IsPermutation-sym}
use Rattle.osm_lattice.specs.Conflict.{conflict_of}
use Rattle.osm_lattice.specs.ConflictLaws.{ConflictIsSymmetric}
use Rattle.osm_lattice.specs.OrderLaws.{SegmentOrderTellsApart}
use Rattle.osm_lattice.specs.Seg.{seg_cmp, segment_between}
use Rattle.osm_lattice.specs.declared.loc.Loc.{Loc}
use Rattle.osm_lattice.specs.declared.seg.Seg.{Seg}
use Rattle.osm_segments.specs.Counts.{AreDistinct}
use Rattle.osm_segments.specs.Pairs.{conflicts_of}
use Rattle.osm_segments.specs.declared.pairs.Pair.{Pair}
use Rattle.coast_sides.specs.Segments.{segments_round, steps_round}
use Rattle.coast_sides.specs.Shortcuts.{cuts_out, do_conflict, is_among_fewer, is_cut_out, steps_conflict}
use Rattle.coast_sides.specs.ShortcutSteps.{AreStepsAlong, lies_between, pair_cuts_out, run_along_pair, step_along, steps_along}
use Rattle.coast_sides.specs.declared.steps_along.StepAlong.{StepAlong}
use Rattle.coast_sides.proofs.Conflicts.{is_eq_same, once_stands, pair_made, pair_stands, tied}
use Rattle.coast_sides.proofs.SomeMember.{Gives, any_from, filter_map_from, filter_map_has, same_truth, some_passes}

-- ---- steps and their segments

-- two steps along segments that conflict
record Conflicting (o p : Option Seg) : Type 0 where
  pub s : Seg
  pub t : Seg
  pub first : o ≡ Some s
  pub second : p ≡ Some t
  pub conflict : is_some (conflict_of s t) ≡ true

conflicting : (o p : Option Seg) → do_conflict o p ≡ true → Conflicting o p
conflicting (Some s) (Some t) e = record { s = s; t = t; first = refl; second = refl; conflict = e }
conflicting (Some s) None e = absurd (false≢true e)
conflicting None t e = absurd (false≢true e)

-- an item with its place
pub numbered_out : {X : Type 0} (xs : List X) (a : ℕ × X) → Contains (enumerate_from 0 xs) a → Contains xs a.1
numbered_out xs a (i, h, e) =
    let long = length-enumerate_from 0 xs in
    let at = sym (get_or-enumerate_from 0 xs i a (omega (arith, h))) ∙ e in
    (i, omega (arith, h), ap (λ b. b.1) at)

step_of : (a : ℕ × (Loc × Loc)) (o : Option Seg) (t : StepAlong) → option_map (λ s. record { seg = s; place = a.0 }) o ≡ Some t → (o ≡ Some t.seg) × (a.0 ≡ t.place)
step_of a None t e = absurd (cc e)
step_of a (Some s) t e =
    let step : StepAlong = record { seg = s; place = a.0 } in
    let same : step ≡ t = cc e in
    (ap (λ (u : StepAlong). Some u.seg) same, ap (λ (u : StepAlong). u.place) same)

-- the steps, each with its place
abbrev pub numbered : List Loc → List (ℕ × (Loc × Loc))
numbered path = enumerate_from 0 (steps_round path)

module _ (path : List Loc) (steps : List StepAlong) (are : AreStepsAlong path steps) where
  step_in : (a : ℕ × (Loc × Loc)) (s : Seg) → Contains (numbered path) a → segment_between a.1.0 a.1.1 ≡ Some s → Contains steps (record { seg = s; place = a.0 })
  step_in a s c e =
      let t : StepAlong = record { seg = s; place = a.0 } in
      Contains-permutation (steps_along path) steps t are.moved (filter_map_has step_along (numbered path) a t c (ap (option_map (λ u. record { seg = u; place = a.0 })) e))

  -- a step of the line along this segment
  pub record Numbered (t : StepAlong) : Type 0 where
    pub item : ℕ × (Loc × Loc)
    pub member : Contains (numbered path) item
    pub seg : segment_between item.1.0 item.1.1 ≡ Some t.seg
    pub place : item.0 ≡ t.place

  pub step_out : (t : StepAlong) → Contains steps t → Numbered t
  step_out t c = by (filter_map_from step_along (numbered path) t (Contains-permutation steps (steps_along path) t (IsPermutation-sym (steps_along path) steps are.moved) c))
    where
      by : Gives step_along (numbered path) t → Numbered t
      by g = let r = step_of g.item (segment_between g.item.1.0 g.item.1.1) t g.gives in record { item = g.item; member = g.member; seg = r.0; place = r.1 }

  along_round : (a : ℕ × (Loc × Loc)) (s : Seg) → Contains (numbered path) a → segment_between a.1.0 a.1.1 ≡ Some s → Contains (segments_round path) s
  along_round a s c e = filter_map_has (λ (step : Loc × Loc). segment_between step.0 step.1) (steps_round path) a.1 s (numbered_out (steps_round path) a c) e

  module _ (exact : SegmentOrderTellsApart) (symmetric : ConflictIsSymmetric) (distinct : List Seg) (once : AreDistinct (segments_round path) distinct) (k : ℕ) where
    pair_cuts : (pair : Pair) (a b : StepAlong) → Contains (conflicts_of distinct) pair → Contains steps a → Contains steps b → a.seg ≡ pair.first → b.seg ≡ pair.second → lies_between (length path) a.place b.place k ≡ true
        → list_any (pair_cuts_out (length path) k steps) (conflicts_of distinct) ≡ true
    pair_cuts pair a b m c d e f l =
        any_from (pair_cuts_out (length path) k steps) (conflicts_of distinct) pair m
        (any_from (λ a. list_any (λ b. run_along_pair pair a b && lies_between (length path) a.place b.place k) steps) steps a c
        (any_from (λ b. run_along_pair pair a b && lies_between (length path) a.place b.place k) steps b d
        (and_from (run_along_pair pair a b) (lies_between (length path) a.place b.place k)
        (and_from (is_eq (seg_cmp a.seg pair.first)) (is_eq (seg_cmp b.seg pair.second)) (ap (λ s. is_eq (seg_cmp s pair.first)) e ∙ tied pair.first) (ap (λ s. is_eq (seg_cmp s pair.second)) f ∙ tied pair.second)) l)))

    two_steps : (a b : ℕ × (Loc × Loc)) → Contains (numbered path) a → Contains (numbered path) b → nat_lt a.0 b.0 ≡ true → is_among_fewer (length path) a.0 b.0 k ≡ true → Conflicting (segment_between a.1.0 a.1.1) (segment_between b.1.0 b.1.1)
        → list_any (pair_cuts_out (length path) k steps) (conflicts_of distinct) ≡ true
    two_steps a b c d less fewer both =
        let made = pair_made exact symmetric distinct both.s both.t (once_stands exact symmetric (segments_round path) distinct once both.s (along_round a both.s c both.first)) (once_stands exact symmetric (segments_round path) distinct once both.t (along_round b both.t d both.second)) both.conflict in
        by made.item made.member made.are
      where
        first : (nat_lt a.0 b.0 && is_among_fewer (length path) a.0 b.0 k) ≡ true
        first = and_from (nat_lt a.0 b.0) (is_among_fewer (length path) a.0 b.0 k) less fewer

        by : (pair : Pair) → Contains (conflicts_of distinct) pair → ((pair.first ≡ both.s) × (pair.second ≡ both.t)) ⊎ ((pair.first ≡ both.t) × (pair.second ≡ both.s))
            → list_any (pair_cuts_out (length path) k steps) (conflicts_of distinct) ≡ true
        by pair m (inl e) =
            pair_cuts pair (record { seg = both.s; place = a.0 }) (record { seg = both.t; place = b.0 }) m (step_in a both.s c both.first) (step_in b both.t d both.second) (sym e.0) (sym e.1)
            (or_left (nat_lt a.0 b.0 && is_among_fewer (length path) a.0 b.0 k) (nat_lt b.0 a.0 && is_among_fewer (length path) b.0 a.0 k) first)
        by pair m (inr e) =
            pair_cuts pair (record { seg = both.t; place = b.0 }) (record { seg = both.s; place = a.0 }) m (step_in b both.t d both.second) (step_in a both.s c both.first) (sym e.0) (sym e.1)
            (or_right (nat_lt b.0 a.0 && is_among_fewer (length path) b.0 a.0 k) (nat_lt a.0 b.0 && is_among_fewer (length path) a.0 b.0 k) first)

    there : is_cut_out path k ≡ true → list_any (pair_cuts_out (length path) k steps) (conflicts_of distinct) ≡ true
    there e =
        let p = some_passes (λ a. list_any (cuts_out (length path) k a) (numbered path)) (numbered path) e in
        let q = some_passes (cuts_out (length path) k p.item) (numbered path) p.passes in
        let r = and_parts (nat_lt p.item.0 q.item.0) (steps_conflict p.item.1 q.item.1 && is_among_fewer (length path) p.item.0 q.item.0 k) q.passes in
        let s = and_parts (steps_conflict p.item.1 q.item.1) (is_among_fewer (length path) p.item.0 q.item.0 k) r.1 in
        two_steps p.item q.item p.member q.member r.0 s.1 (conflicting (segment_between p.item.1.0 p.item.1.1) (segment_between q.item.1.0 q.item.1.1) s.0)

    -- steps along segments that conflict cut out
    in_order : (a b : StepAlong) → Contains steps a → Contains steps b → is_some (conflict_of a.seg b.seg) ≡ true → (nat_lt a.place b.place && is_among_fewer (length path) a.place b.place k) ≡ true → is_cut_out path k ≡ true
    in_order a b c d conflict l = by (step_out a c) (step_out b d)
      where
        by : Numbered a → Numbered b → is_cut_out path k ≡ true
        by m n =
            let p = and_parts (nat_lt a.place b.place) (is_among_fewer (length path) a.place b.place k) l in
            let less = (λ i. nat_lt (m.place i) (n.place i)) ∙ p.0 in
            let fewer = (λ i. is_among_fewer (length path) (m.place i) (n.place i) k) ∙ p.1 in
            let both = (λ i. do_conflict (m.seg i) (n.seg i)) ∙ conflict in
            any_from (λ a. list_any (cuts_out (length path) k a) (numbered path)) (numbered path) m.item m.member
            (any_from (cuts_out (length path) k m.item) (numbered path) n.item n.member
            (and_from (nat_lt m.item.0 n.item.0) (steps_conflict m.item.1 n.item.1 && is_among_fewer (length path) m.item.0 n.item.0 k) less
            (and_from (steps_conflict m.item.1 n.item.1) (is_among_fewer (length path) m.item.0 n.item.0 k) both fewer)))

    back : list_any (pair_cuts_out (length path) k steps) (conflicts_of distinct) ≡ true → is_cut_out path k ≡ true
    back e =
        let p = some_passes (pair_cuts_out (length path) k steps) (conflicts_of distinct) e in
        let a = some_passes (λ a. list_any (λ b. run_along_pair p.item a b && lies_between (length path) a.place b.place k) steps) steps p.passes in
        let b = some_passes (λ b. run_along_pair p.item a.item b && lies_between (length path) a.item.place b.place k) steps a.passes in
        by p.item a.item b.item p.member a.member b.member b.passes
      where
        by : (pair : Pair) (a b : StepAlong) → Contains (conflicts_of distinct) pair → Contains steps a → Contains steps b → (run_along_pair pair a b && lies_between (length path) a.place b.place k) ≡ true → is_cut_out path k ≡ true
        by pair a b m c d e =
            let r = and_parts (run_along_pair pair a b) (lies_between (length path) a.place b.place k) e in
            let s = and_parts (is_eq (seg_cmp a.seg pair.first)) (is_eq (seg_cmp b.seg pair.second)) r.0 in
            let first = is_eq_same exact a.seg pair.first s.0 in
            let second = is_eq_same exact b.seg pair.second s.1 in
            let stands = pair_stands exact symmetric distinct pair m in
            let conflict = (λ i. is_some (conflict_of (first i) (second i))) ∙ stands.2 in
            ⊎_elim
            (λ l. in_order a b c d conflict l)
            (λ l. in_order b a d c (ap is_some (symmetric b.seg a.seg) ∙ conflict) l)
            (or_cases (nat_lt a.place b.place && is_among_fewer (length path) a.place b.place k) (nat_lt b.place a.place && is_among_fewer (length path) b.place a.place k) r.1)

    pub cut_by_pairs : is_cut_out path k ≡ list_any (pair_cuts_out (length path) k steps) (conflicts_of distinct)
    cut_by_pairs = same_truth (is_cut_out path k) (list_any (pair_cuts_out (length path) k steps) (conflicts_of distinct)) there back
