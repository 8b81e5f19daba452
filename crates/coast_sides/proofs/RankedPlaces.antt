-- The places of rings in order of rank.
use Rattle.std.proofs.Common.{◌≡◌, ℕ, suc, ◌+◌, ◌<◌, true, List, [], ◌∷◌, length, map, All, AllPairs, Contains, Option, Some, get_or, min, refl, sym, ap, subst, ◌∙◌, arith, ⊎_elim}
use Rattle.std.specs.List.{cons_option, enumerate_from, slice_get}
use Rattle.std.specs.declared.cmp.Ordering.{Ordering}
use Rattle.std.specs.declared.cmp.Ordering.TheVariants.{Less, Equal, Greater}
use Rattle.std.specs.Cmp.{IsTotalOrder}
use Rattle.std.specs.Ordering.{int_cmp, nat_cmp, on, ordering_then, then_cmp}
use Rattle.std.proofs.lemmas.Cmp.{back_total, int_cmp_total, int_ranked, nat_cmp_total, on_total, ranked, then_total}
use Rattle.std.proofs.lemmas.List.Elements.{All-contains, Contains-get_or}
use Rattle.std.proofs.lemmas.List.Kept.{AllPairs-cons}
use Rattle.std.proofs.lemmas.Option.{get_or_from_slice_get, slice_get_within}
use Rattle.lists.specs.Rising.{IsRising, count_of}
use Rattle.lists.proofs.ListsKit.{count_some, count_stands}
use Rattle.coast_rings.specs.declared.ring.CoastRing.{CoastRing}
use Rattle.coast_sides.specs.declared.ranking.Rank.{Rank}
use Rattle.coast_sides.specs.Choice.{outranks}
use Rattle.coast_sides.specs.ChoiceSteps.{AreByRank, ring_rank, rings_at}
use Rattle.coast_sides.specs.CutSorting.{NamesOfRingsRise}
use Rattle.coast_sides.proofs.RingRanks.{less_outranks, level_names, name_at_less, ring_cmp, then_tied}
use Rattle.coast_sides.proofs.SomeMember.{filter_map_from, filter_map_has, first_member, later_member, map_from, map_has, member_cases, no_member}

-- ---- the order of ranks tells them apart

-- by the locations, the most first, then by the name, then by the place
abbrev pub rank_cmp : Rank → Rank → Ordering
rank_cmp = then_cmp (λ a b. nat_cmp b.locations.0 a.locations.0) (then_cmp (on (λ r. r.name) int_cmp) (on (λ r. r.place) nat_cmp))

rank_cmp_total : IsTotalOrder rank_cmp
rank_cmp_total = then_total (on_total (λ (r : Rank). r.locations.0) (back_total nat_cmp_total)) (then_total (on_total (λ (r : Rank). r.name) int_cmp_total) (on_total (λ (r : Rank). r.place) nat_cmp_total))

first_tied : (o p : Ordering) → ordering_then o p ≡ Equal → o ≡ Equal
first_tied Less p e = absurd (cc e)
first_tied Equal p e = refl
first_tied Greater p e = absurd (cc e)

rank_exact : (x y : Rank) → rank_cmp x y ≡ Equal → x ≡ y
rank_exact x y e =
    let long : nat_cmp y.locations.0 x.locations.0 ≡ Equal = first_tied (nat_cmp y.locations.0 x.locations.0) (ordering_then (int_cmp x.name y.name) (nat_cmp x.place y.place)) e in
    let rest : ordering_then (int_cmp x.name y.name) (nat_cmp x.place y.place) ≡ Equal = then_tied (nat_cmp y.locations.0 x.locations.0) (ordering_then (int_cmp x.name y.name) (nat_cmp x.place y.place)) e in
    let locations : y.locations.0 ≡ x.locations.0 = ranked y.locations.0 x.locations.0 Equal (sym long) in
    let name : x.name ≡ y.name = int_ranked x.name y.name Equal (sym (first_tied (int_cmp x.name y.name) (nat_cmp x.place y.place) rest)) in
    let place : x.place ≡ y.place = ranked x.place y.place Equal (sym (then_tied (int_cmp x.name y.name) (nat_cmp x.place y.place) rest)) in
    λ i. record { locations = record { 0 = sym locations i }; name = name i; place = place i }

-- ---- what has a rank

-- the ring of a rank
record Ranked (rings : List CoastRing) (r : Rank) : Type 0 where
  pub ring : CoastRing
  pub at : slice_get rings r.place ≡ Some ring
  pub is : r ≡ ring_rank r.place ring

abbrev ranks_from : ℕ → List CoastRing → List Rank
ranks_from n rings = map (λ p. ring_rank p.0 p.1) (enumerate_from n rings)

-- that of a rank, the places of which begin with n
record RankedFrom (n : ℕ) (rings : List CoastRing) (r : Rank) : Type 0 where
  pub place : ℕ
  pub ring : CoastRing
  pub at : slice_get rings place ≡ Some ring
  pub is : r ≡ ring_rank (n + place) ring

has_ring : (n : ℕ) (rings : List CoastRing) (r : Rank) → Contains (ranks_from n rings) r → RankedFrom n rings r
has_ring n [] r c = absurd (no_member r c)
has_ring n (x ∷ xs) r c =
    ⊎_elim
    (λ (e : ring_rank n x ≡ r). record { place = 0; ring = x; at = refl; is = sym e ∙ ap (λ k. ring_rank k x) (omega arith) })
    (λ (c : Contains (ranks_from (n + 1) xs) r).
    let d = has_ring (n + 1) xs r c in
    record { place = suc d.place; ring = d.ring; at = d.at; is = d.is ∙ ap (λ k. ring_rank k d.ring) (omega arith) })
    (member_cases (ring_rank n x) r (ranks_from (n + 1) xs) c)

ranked_ring : (rings : List CoastRing) (r : Rank) → Contains (ranks_from 0 rings) r → Ranked rings r
ranked_ring rings r c =
    let d = has_ring 0 rings r c in
    let place : r.place ≡ d.place = ap (λ (x : Rank). x.place) d.is ∙ omega arith in
    record { ring = d.ring; at = ap (slice_get rings) place ∙ d.at; is = d.is ∙ ap (λ k. ring_rank k d.ring) (let e = sym place in omega arith) }

-- a rank of each ring
record HasRank (n : ℕ) (rings : List CoastRing) (ring : CoastRing) : Type 0 where
  pub place : ℕ
  pub at : slice_get rings place ≡ Some ring
  pub member : Contains (ranks_from n rings) (ring_rank (n + place) ring)

has_rank : (n : ℕ) (rings : List CoastRing) (ring : CoastRing) → Contains rings ring → HasRank n rings ring
has_rank n [] ring c = absurd (no_member ring c)
has_rank n (x ∷ xs) ring c =
    ⊎_elim
    (λ (e : x ≡ ring).
    let same : ring_rank n x ≡ ring_rank (n + 0) ring = ap (ring_rank n) e ∙ ap (λ k. ring_rank k ring) (omega arith) in
    record { place = 0; at = ap Some e; member = subst (Contains (ranks_from n (x ∷ xs))) same (first_member (ring_rank n x) (ranks_from (n + 1) xs)) })
    (λ (c : Contains xs ring).
    let d = has_rank (n + 1) xs ring c in
    let same : ring_rank (n + 1 + d.place) ring ≡ ring_rank (n + suc d.place) ring = ap (λ k. ring_rank k ring) (omega arith) in
    record { place = suc d.place; at = d.at; member = subst (Contains (ranks_from n (x ∷ xs))) same (later_member (ring_rank n x) (ring_rank (n + 1 + d.place) ring) (ranks_from (n + 1) xs) d.member) })
    (member_cases x ring xs c)

-- ---- ranks in order, and their rings

two_ties : (o p q : Ordering) → ordering_then (ordering_then o p) q ≡ ordering_then o (ordering_then p q)
two_ties Less p q = refl
two_ties Equal p q = refl
two_ties Greater p q = refl

module _ (rings : List CoastRing) (up : NamesOfRingsRise rings) where
  -- the ring of a lesser rank outranks that of a greater one
  outranks_later : (i j : ℕ) (a b : CoastRing) → slice_get rings i ≡ Some a → slice_get rings j ≡ Some b → rank_cmp (ring_rank i a) (ring_rank j b) ≡ Less → outranks a b ≡ true
  outranks_later i j a b ea eb less = by (ring_cmp a b) refl (two_ties (nat_cmp (length b.path) (length a.path)) (int_cmp a.name b.name) (nat_cmp i j) ∙ less)
    where
      by : (o : Ordering) → ring_cmp a b ≡ o → ordering_then o (nat_cmp i j) ≡ Less → outranks a b ≡ true
      by Less e l = less_outranks a b e
      by Equal e l =
          let before : i < j = ranked i j Less (sym l) in
          let lesser = name_at_less rings up a b i j before (slice_get_within rings j b eb) (get_or_from_slice_get rings i a a ea) (get_or_from_slice_get rings j b b eb) in
          let c : Equal ≡ Less = sym (level_names a b e) ∙ lesser in
          absurd (cc)
      by Greater e l = absurd (cc l)

  later_outranked : (r : Rank) (d : Ranked rings r) (rs : List Rank) → ((s : Rank) → Contains rs s → Ranked rings s) → All (λ s. rank_cmp r s ≡ Less) rs → (q : CoastRing) → Contains (rings_at rings (map (λ (s : Rank). s.place) rs)) q → outranks d.ring q ≡ true
  later_outranked r d rs each less q c =
      let g = filter_map_from (slice_get rings) (map (λ (s : Rank). s.place) rs) q c in
      let m = map_from (λ (s : Rank). s.place) rs g.item g.member in
      let e = each m.item m.member in
      let at : slice_get rings m.item.place ≡ Some q = ap (slice_get rings) m.makes ∙ g.gives in
      let same : e.ring ≡ q = some_same e.ring q (sym e.at ∙ at) in
      let is : m.item ≡ ring_rank m.item.place q = e.is ∙ ap (ring_rank m.item.place) same in
      outranks_later r.place m.item.place d.ring q d.at at (subst (λ s. rank_cmp (ring_rank r.place d.ring) s ≡ Less) is (subst (λ s. rank_cmp s m.item ≡ Less) d.is (All-contains (λ s. rank_cmp r s ≡ Less) rs m.item less m.member)))
    where
      some_same : (x y : CoastRing) → Some x ≡ Some y → x ≡ y
      some_same x y e = cc e

  in_order : (rs : List Rank) → ((s : Rank) → Contains rs s → Ranked rings s) → IsRising rank_cmp rs → AllPairs (λ a b. outranks a b ≡ true) (rings_at rings (map (λ (s : Rank). s.place) rs))
  in_order [] each rising = λ i j d h l. absurd (omega arith)
  in_order (r ∷ rs) each rising =
      let d = each r (first_member r rs) in
      let others = rings_at rings (map (λ (s : Rank). s.place) rs) in
      let each_later : (s : Rank) → Contains rs s → Ranked rings s = λ s c. each s (later_member r s rs c) in
      let rest : AllPairs (λ a b. outranks a b ≡ true) others = in_order rs each_later (λ i j e h l. rising (suc i) (suc j) e (omega arith) (omega arith)) in
      let less : All (λ s. rank_cmp r s ≡ Less) rs = λ k e h. rising 0 (suc k) e (omega arith) (omega arith) in
      subst (λ (o : Option CoastRing). AllPairs (λ a b. outranks a b ≡ true) (cons_option o others)) (sym d.at)
      (AllPairs-cons (λ a b. outranks a b ≡ true) d.ring others (λ k e h. later_outranked r d rs each_later less (get_or others k e) (Contains-get_or others k e h)) rest)

  pub ranked_places : (ranks sorted : List Rank) → ranks ≡ ranks_from 0 rings → ((x : Rank) → count_of rank_cmp x sorted ≡ min 1 (count_of rank_cmp x ranks)) → IsRising rank_cmp sorted → AreByRank rings (map (λ (s : Rank). s.place) sorted)
  ranked_places ranks sorted are once rising = record { within = within; each = each; ranked = in_order sorted ranked_each rising }
    where
      stands : (r : Rank) → Contains sorted r → Contains (ranks_from 0 rings) r
      stands r c =
          let some = count_some rank_cmp_total r sorted c.0 c.1 c.2 in
          let same = once r in
          subst (λ (rs : List Rank). Contains rs r) are (count_stands rank_cmp rank_exact r ranks (omega arith))

      ranked_each : (r : Rank) → Contains sorted r → Ranked rings r
      ranked_each r c = ranked_ring rings r (stands r c)

      sorted_has : (r : Rank) → Contains (ranks_from 0 rings) r → Contains sorted r
      sorted_has r c =
          let d = subst (λ (rs : List Rank). Contains rs r) (sym are) c in
          let some = count_some rank_cmp_total r ranks d.0 d.1 d.2 in
          let same = once r in
          count_stands rank_cmp rank_exact r sorted (omega arith)

      within : All (λ k. k < length rings) (map (λ (s : Rank). s.place) sorted)
      within k d h =
          let m = map_from (λ (s : Rank). s.place) sorted (get_or (map (λ (s : Rank). s.place) sorted) k d) (Contains-get_or (map (λ (s : Rank). s.place) sorted) k d h) in
          let e = ranked_each m.item m.member in
          subst (λ n. n < length rings) m.makes (slice_get_within rings m.item.place e.ring e.at)

      each : (ring : CoastRing) → Contains rings ring → Contains (rings_at rings (map (λ (s : Rank). s.place) sorted)) ring
      each ring c =
          let h = has_rank 0 rings ring c in
          let place : 0 + h.place ≡ h.place = omega arith in
          filter_map_has (slice_get rings) (map (λ (s : Rank). s.place) sorted) (0 + h.place) ring
          (map_has (λ (s : Rank). s.place) sorted (ring_rank (0 + h.place) ring) (sorted_has (ring_rank (0 + h.place) ring) h.member))
          (ap (slice_get rings) place ∙ h.at)
