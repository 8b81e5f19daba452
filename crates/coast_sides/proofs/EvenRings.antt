-- At each location an even number of the segments of closed lines end.
use Rattle.std.proofs.Common.{◌≡◌, ℕ, suc, ◌+◌, ◌%◌, cond, List, [], ◌∷◌, ◌++◌, length, Option, Some, None, refl, sym, ap, subst, ◌∙◌, arith}
use Rattle.std.specs.declared.cmp.Ordering.{Ordering}
use Rattle.std.specs.declared.cmp.Ordering.TheVariants.{Less, Equal, Greater}
use Rattle.std.specs.Cmp.{IsTotalOrder}
use Rattle.std.specs.List.{cons_option, filter_map, sum_by, zip}
use Rattle.std.specs.Ordering.{is_eq, ordering_reverse}
use Rattle.std.proofs.lemmas.Cmp.{tied_itself, int_cmp_total, on_total, then_total}
use Rattle.std.proofs.lemmas.List.Sums.{sum_by-append, sum_by-cons}
use Rattle.osm_lattice.specs.declared.loc.Loc.{Loc}
use Rattle.osm_lattice.specs.declared.seg.Seg.{Seg}
use Rattle.osm_lattice.specs.Loc.{loc_cmp}
use Rattle.osm_lattice.specs.OrderLaws.{LocationOrderTellsApart, SegmentOrderTellsApart}
use Rattle.osm_lattice.specs.Seg.{seg_cmp, segment_between, segment_by}
use Rattle.lists.specs.Rising.{IsRising, count_of}
use Rattle.osm_segments.specs.Counts.{AreSurvivors, ends_of}
use Rattle.osm_segments.specs.Counts.{HasEvenNodes}
use Rattle.coast_rings.specs.declared.ring.CoastRing.{CoastRing}
use Rattle.coast_sides.specs.Segments.{all_segments, segments_round, steps_round}
use Rattle.coast_sides.proofs.Cancelling.{odd_parity}

pub loc_cmp_total : IsTotalOrder loc_cmp
loc_cmp_total = then_total (on_total (λ (p : Loc). p.y) int_cmp_total) (on_total (λ (p : Loc). p.x) int_cmp_total)

pub seg_cmp_total : IsTotalOrder seg_cmp
seg_cmp_total = then_total (on_total (λ (s : Seg). s.a) loc_cmp_total) (on_total (λ (s : Seg). s.b) loc_cmp_total)

-- 1 where q is p
abbrev pub one : Loc → Loc → ℕ
one p q = cond {A = ℕ} (is_eq (loc_cmp q p)) 1 0

abbrev pub ends_at : Loc → Seg → ℕ
ends_at p s = one p s.a + one p s.b

pub ends_are : (p : Loc) (segs : List Seg) → count_of loc_cmp p (ends_of segs) ≡ sum_by (ends_at p) segs
ends_are p [] = refl
ends_are p (s ∷ segs) =
    let rest = ends_are p segs in
    let a = sum_by-cons (one p) s.a (s.b ∷ ends_of segs) in
    let b = sum_by-cons (one p) s.b (ends_of segs) in
    let c = sum_by-cons (ends_at p) s segs in
    omega arith

-- a step's segment ends where it begins and ends; where there is none, the step begins where it ends
step_ends : LocationOrderTellsApart → (p a b : Loc) → sum_by (ends_at p) (cons_option (segment_between a b) []) % 2 ≡ (one p a + one p b) % 2
unfolding segment_between
step_ends exact p a b = by (loc_cmp a b) (loc_cmp b a) refl refl
  where
    apart : (forth back : Ordering) → loc_cmp a b ≡ forth → forth ≡ Equal → (one p a + one p b) % 2 ≡ 0
    apart forth back e t = let same : a ≡ b = (exact a b).0 (e ∙ t) in let n : one p a ≡ one p b = ap (one p) same in omega arith

    never : loc_cmp a b ≡ Greater → loc_cmp b a ≡ Greater → ⊥
    never e d = let t : loc_cmp a b ≡ Less = loc_cmp_total.antisymm a b ∙ ap ordering_reverse d in let c : Greater ≡ Less = sym e ∙ t in absurd (cc)

    even : loc_cmp a b ≡ Equal → 0 ≡ (one p a + one p b) % 2
    even e = sym (apart Equal Equal e refl)

    by : (forth back : Ordering) (e : loc_cmp a b ≡ forth) (d : loc_cmp b a ≡ back) → sum_by (ends_at p) (cons_option (segment_by a b forth back e d) []) % 2 ≡ (one p a + one p b) % 2
    by Less back e d = omega arith
    by Equal Less e d = omega arith
    by Equal Equal e d = even e
    by Equal Greater e d = even e
    by Greater Less e d = omega arith
    by Greater Equal e d = let same : a ≡ b = sym ((exact b a).0 d) in even (subst (λ (q : Loc). loc_cmp a q ≡ Equal) same (tied_itself loc_cmp_total a))
    by Greater Greater e d = absurd (never e d)

abbrev both : Loc → Loc × Loc → ℕ
both p step = one p step.0 + one p step.1

steps_ends : LocationOrderTellsApart → (p : Loc) (steps : List (Loc × Loc)) → sum_by (ends_at p) (filter_map (λ step. segment_between step.0 step.1) steps) % 2 ≡ sum_by (both p) steps % 2
steps_ends exact p [] = refl
steps_ends exact p (s ∷ steps) =
    let rest = steps_ends exact p steps in
    let here = step_ends exact p s.0 s.1 in
    let head = parted (segment_between s.0 s.1) (filter_map (λ step. segment_between step.0 step.1) steps) in
    let total = sum_by-cons (both p) s steps in
    omega arith
  where
    parted : (o : Option Seg) (ss : List Seg) → sum_by (ends_at p) (cons_option o ss) ≡ sum_by (ends_at p) (cons_option o []) + sum_by (ends_at p) ss
    parted None ss = omega arith
    parted (Some t) ss = let h = sum_by-cons (ends_at p) t ss in omega arith

zipped : (p : Loc) (xs ys : List Loc) → length xs ≡ length ys → sum_by (both p) (zip xs ys) ≡ sum_by (one p) xs + sum_by (one p) ys
zipped p [] [] e = refl
zipped p [] (y ∷ ys) e = absurd (omega arith)
zipped p (x ∷ xs) [] e = absurd (omega arith)
zipped p (x ∷ xs) (y ∷ ys) e =
    let rest = zipped p xs ys (omega arith) in
    let a = sum_by-cons (one p) x xs in
    let b = sum_by-cons (one p) y ys in
    let c = sum_by-cons (both p) (x, y) (zip xs ys) in
    omega arith

round_even : (p : Loc) (path : List Loc) → sum_by (both p) (steps_round path) % 2 ≡ 0
round_even p [] = refl
round_even p (a ∷ rest) =
    let turned = sum_by-append (one p) rest (a ∷ []) in
    let first = sum_by-cons (one p) a rest in
    let alone = sum_by-cons (one p) a [] in
    let sized : length (a ∷ rest) ≡ length (rest ++ a ∷ []) = sized_turn rest in
    let all = zipped p (a ∷ rest) (rest ++ a ∷ []) sized in
    omega arith
  where
    sized_turn : (r : List Loc) → suc (length r) ≡ length (r ++ a ∷ [])
    sized_turn [] = refl
    sized_turn (x ∷ r) = ap (λ n. suc n) (sized_turn r)

pub ring_even : LocationOrderTellsApart → (p : Loc) (path : List Loc) → sum_by (ends_at p) (segments_round path) % 2 ≡ 0
ring_even exact p path = steps_ends exact p (steps_round path) ∙ round_even p path

pub rings_even : LocationOrderTellsApart → (p : Loc) (rings : List CoastRing) → sum_by (ends_at p) (all_segments rings) % 2 ≡ 0
rings_even exact p [] = refl
rings_even exact p (r ∷ rings) =
    let here = ring_even exact p r.path in
    let rest = rings_even exact p rings in
    let parts = sum_by-append (ends_at p) (segments_round r.path) (all_segments rings) in
    omega arith

pub rising_none : IsRising loc_cmp []
rising_none i j d h l = absurd (omega arith)

-- what is left of lines that are even at a location is even there
pub survivors_even : LocationOrderTellsApart → SegmentOrderTellsApart → (segs survivors : List Seg) → ((p : Loc) → sum_by (ends_at p) segs % 2 ≡ 0) → AreSurvivors segs survivors → HasEvenNodes survivors
survivors_even exact exact_2 segs survivors even are = record {
  odd = λ p. let left = odd_parity seg_cmp_total (λ s t. (exact_2 s t).0) (ends_at p) survivors segs are.odd in let all = even p in let ends = ends_are p survivors in omega arith;
  rising = rising_none;
}
