-- Chains have closings, and these a joined: on lists, with no memory.
use Rattle.std.proofs.Common.{◌≡◌, ◌≢◌, ◌⊎◌, inl, inr, ℕ, zero, suc, ◌+◌, ◌<◌, ◌≤◌, ◌≤ℤ◌, ℤ, pos, negsuc, Bool, true, false, not, nat_eq, if◌then◌else◌, List, [], ◌∷◌, ◌++◌, length, take, filter, map, get_or, All, Option, Some, None, refl, sym, ap, subst, ◌∙◌, arith, ⊎_elim}
use Rattle.std.specs.declared.cmp.Ordering.TheVariants.{Less}
use Rattle.std.specs.Ordering.{int_cmp, int_eq, on}
use Rattle.std.specs.List.{AllPairs, AllZip, IsDistinct, list_any}
use Rattle.std.specs.List.Sorted.{IsPermutation}
use Rattle.std.proofs.lemmas.Bool.{cases_lt}
use Rattle.std.proofs.lemmas.Int.{ints}
use Rattle.std.proofs.lemmas.List.{length-map, take_all, take_more}
use Rattle.std.proofs.lemmas.List.Elements.{All-cons, All-nil}
use Rattle.std.proofs.lemmas.Map.Keys.{apart_from_distinct}
use Rattle.osm_lattice.specs.OrderLaws.{LocationOrderTellsApart}
use Rattle.lists.specs.Rising.{CountedListsExist, IsRising}
use Rattle.orbits.specs.OnceLaws.{StandBelow}
use Rattle.orbits.specs.OrbitLaws.{OrbitsExist}
use Rattle.orbits.specs.Orbits.{after, IsOneToOne}
use Rattle.coast_join.specs.declared.chain.Chain.{Chain}
use Rattle.coast_join.specs.declared.gap.Closings.{Closings}
use Rattle.coast_join.specs.declared.gap.Gap.{Gap}
use Rattle.coast_rings.specs.declared.ring.CoastRing.{CoastRing}
use Rattle.coast_join.specs.declared.joined.Joined.{Joined}
use Rattle.coast_join.specs.declared.way.CoastWay.{CoastWay}
use Rattle.coast_join.specs.ById.{id_at}
use Rattle.coast_join.specs.Chains.{AreChains}
use Rattle.coast_join.specs.ChainLaws.{NamesRise, UnclosedEndsDiffer}
use Rattle.coast_join.specs.Closings.{AreClosings, is_antarctic, is_open, names_of, near_pairs, open_ends, places_where}
use Rattle.coast_join.specs.GapSteps.{gap_cmp}
use Rattle.coast_join.specs.Joined.{AreJoined, AreNext, IsCoastRing, IsLeast, IsUnclosed, chains_at, corners, is_closed_orbit, locations_along, ring_path, ways_of}
use Rattle.coast_join.specs.JoinSteps.{AreGapLinks, AreNextBy, AreParts}
use Rattle.coast_join.specs.RingLaws.{ClosedEndsDiffer}
use Rattle.coast_rings.specs.Round.{IsRound, once}
use Rattle.coast_join.specs.Taken.{AreTaken, named_gap_cmp}
use Rattle.coast_join.proofs.Following.{gaps_apart, gaps_from, line_of_chains, links_more, links_none, next_are, next_none, next_one, next_push, ways_some}
use Rattle.coast_join.proofs.NameOrder.{IsBelow, by_names}
use Rattle.coast_join.proofs.NearPairs.{ends_below, pairs_below, taken_once}
use Rattle.coast_join.proofs.NearestFirst.{choose, none_marked, rising_front, skip, some_marked}
use Rattle.coast_join.proofs.Parts.{orbits_are_parts, parts_round}
use Rattle.coast_join.proofs.RingNames.{names_apart, rising_unclosed}
use Rattle.coast_rings.proofs.RingsKit.{round_from}
use Rattle.coast_join.proofs.SomeChains.{all_pairs, by_pushing, ordered}
use Rattle.lists.proofs.ListsKit.{all-in, in-all, in-filter, pairs-each, pairs-out-of-map}

-- ---- of pairs in strict order some are taken

abbrev Taken : List Gap → Type 0
Taken passed = (taken : List Gap) × AreTaken gap_cmp passed taken

taken_more : (passed : List Gap) (g : Gap) → All (λ h. gap_cmp h g ≡ Less) passed → Taken passed → Taken (passed ++ g ∷ [])
taken_more passed g above t = by (list_any (λ h. nat_eq h.from_chain g.from_chain) t.0) (list_any (λ h. nat_eq h.to_chain g.to_chain) t.0) refl refl
  where
    by : (a b : Bool) → list_any (λ h. nat_eq h.from_chain g.from_chain) t.0 ≡ a → list_any (λ h. nat_eq h.to_chain g.to_chain) t.0 ≡ b → Taken (passed ++ g ∷ [])
    by true b e s = let w = some_marked (λ h. h.from_chain) g.from_chain t.0 e in (t.0, skip passed g above t.0 t.1 w.0 w.1 (inl w.2))
    by false true e s = let w = some_marked (λ h. h.to_chain) g.to_chain t.0 s in (t.0, skip passed g above t.0 t.1 w.0 w.1 (inr w.2))
    by false false e s = (t.0 ++ g ∷ [], choose passed g above t.0 t.1 (none_marked (λ h. h.from_chain) g.from_chain t.0 e) (none_marked (λ h. h.to_chain) g.to_chain t.0 s))

no_gap : Gap
no_gap = record { square = 0; from_chain = 0; to_chain = 0 }

inside_same : (xs : List Gap) (k : ℕ) → k < length xs → get_or xs k no_gap ≡ get_or xs k (get_or xs k no_gap)
inside_same [] k l = absurd (omega arith)
inside_same (x ∷ xs) zero l = refl
inside_same (x ∷ xs) (suc k) l = inside_same xs k (omega arith)

taken_front : (pairs : List Gap) → IsRising gap_cmp pairs → (i : ℕ) → i ≤ length pairs → Taken (take i pairs)
taken_front pairs rising zero h = ([], record { rising = λ i j d l m. absurd (omega arith); exact = λ g. ((λ c. absurd (let l = c.1 in omega arith)), (λ p. absurd (let l = p.0.1 in omega arith))) })
taken_front pairs rising (suc i) h =
    let g = get_or pairs i no_gap in
    let e : i + 1 ≡ suc i = omega arith in
    let same : g ≡ get_or pairs i g = inside_same pairs i (omega arith) in
    let above = rising_front pairs i g rising (omega arith) same in
    subst Taken (sym (ap (λ n. take n pairs) (sym e) ∙ (take_more pairs i g (omega arith) ∙ ap (λ (y : Gap). take i pairs ++ y ∷ []) (sym same)))) (taken_more (take i pairs) g above (taken_front pairs rising i (omega arith)))

taken_exist : (pairs : List Gap) → IsRising gap_cmp pairs → Taken pairs
taken_exist pairs rising = subst Taken (take_all (length pairs) pairs (omega arith)) (taken_front pairs rising (length pairs) (omega arith))

pub some_closings : NamesRise → CountedListsExist gap_cmp → (ways : List CoastWay) (chains : List Chain) → AreChains ways chains → (limit : ℕ) → (closings : Closings) × AreClosings chains limit closings
some_closings rise counted ways chains are limit =
    let near = near_pairs limit (open_ends chains) in
    let sorted = counted (λ n. true) near in
    let taken = taken_exist sorted.0 sorted.1 in
    let below : All (IsBelow (length (names_of chains))) near = subst (λ n. All (IsBelow n) near) (sym (length-map chains (λ (x : Chain). x.name))) (pairs_below (length chains) limit (open_ends chains) (ends_below chains)) in (
      record { antarctica = places_where is_antarctic chains; gaps = taken.0 },
      record { antarctica = refl; gaps = by_names (names_of chains) (rise ways chains are) near taken.0 below (taken_once near sorted.0 sorted.2 taken.0 taken.1) },
    )

-- ---- what chains go on to

abbrev nones : ℕ → List (Option ℕ)
nones zero = []
nones (suc n) = None ∷ nones n

nones_long : (n : ℕ) → length (nones n) ≡ n
nones_long zero = refl
nones_long (suc n) = ap suc (nones_long n)

nones_none : (n k : ℕ) → after (nones n) k ≡ None
nones_none zero k = refl
nones_none (suc n) zero = refl
nones_none (suc n) (suc k) = nones_none n k

links_exist : (gaps : List Gap) (n : ℕ) → All (λ (g : Gap). g.from_chain < n) gaps → AllPairs (λ (g : Gap) (h : Gap). g.from_chain ≢ h.from_chain) gaps → (links : List (Option ℕ)) × AreGapLinks gaps n links
links_exist gaps n inside apart = subst (λ (xs : List Gap). (links : List (Option ℕ)) × AreGapLinks xs n links) (take_all (length gaps) gaps (omega arith)) (front (length gaps) (omega arith))
  where
    front : (i : ℕ) → i ≤ length gaps → (links : List (Option ℕ)) × AreGapLinks (take i gaps) n links
    front zero h = (nones n, links_none n (nones n) (nones_long n) (nones_none n))
    front (suc i) h =
        let g = get_or gaps i no_gap in
        let e : i + 1 ≡ suc i = omega arith in
        let same : g ≡ get_or gaps i g = inside_same gaps i (omega arith) in
        let rest = front i (omega arith) in
        subst (λ k. (links : List (Option ℕ)) × AreGapLinks (take k gaps) n links) e (_, links_more gaps n i rest.0 g (omega arith) same inside apart rest.1)

next_exists : (links : List (Option ℕ)) (chains : List Chain) → (next : List (Option ℕ)) × AreNextBy links chains next
next_exists links chains = by_pushing (λ (cs : List Chain). (next : List (Option ℕ)) × AreNextBy links cs next)
    (λ cs c h. (h.0 ++ (if is_open c then after links (length cs) else Some (length cs)) ∷ [], next_push links cs h.0 c _ refl h.1))
    [] chains ([], next_none links)

-- ---- what orbits give

either : (a b : ℤ) → (a ≤ℤ b) ⊎ (b ≤ℤ a)
either (pos a) (pos b) = ⊎_elim (λ l. inl (omega (arith, ints))) (λ l. inr (omega (arith, ints))) (cases_lt a b)
either (pos a) (negsuc b) = inr (omega (arith, ints))
either (negsuc a) (pos b) = inl (omega (arith, ints))
either (negsuc a) (negsuc b) = ⊎_elim (λ l. inr (omega (arith, ints))) (λ l. inl (omega (arith, ints))) (cases_lt a b)

least_exists : (ids : List ℤ) → 0 < length ids → (id : ℤ) × IsLeast ids id
least_exists [] h = absurd (omega arith)
least_exists (x ∷ []) h = (x, record { stands = (0, omega arith, refl); least = All-cons (λ other. x ≤ℤ other) x [] (omega (arith, ints)) (All-nil (λ other. x ≤ℤ other)) })
least_exists (x ∷ (y ∷ ids)) h = by (least_exists (y ∷ ids) (omega arith))
  where
    by : (id : ℤ) × IsLeast (y ∷ ids) id → (id : ℤ) × IsLeast (x ∷ (y ∷ ids)) id
    by (z, least) = ⊎_elim
        (λ l. (x, record { stands = (0, omega arith, refl); least = All-cons (λ other. x ≤ℤ other) x (y ∷ ids) (omega (arith, ints)) (λ k d h. let a = least.least k d h in omega (arith, ints)) }))
        (λ l. (z, record { stands = (let s = least.stands in (suc s.0, (let m = s.1 in omega arith), s.2)); least = All-cons (λ other. z ≤ℤ other) x (y ∷ ids) l least.least }))
        (either x z)

module _ (exact : LocationOrderTellsApart) (chains : List Chain) where
  path_round : (o : List ℕ) → AreParts chains o → IsRound (ring_path (chains_at chains o))
  path_round o parts = by (list_any is_antarctic (chains_at chains o)) refl
    where
      by : (b : Bool) → list_any is_antarctic (chains_at chains o) ≡ b → IsRound (ring_path (chains_at chains o))
      by true e = rw e (round_from exact (once (locations_along (chains_at chains o) ++ corners)) (line_of_chains exact chains o corners parts.some parts.inside))
      by false e = rw e (parts_round chains o parts)

  ring_exists : (o : List ℕ) → AreParts chains o → (r : CoastRing) × IsCoastRing (chains_at chains o) r
  ring_exists o parts =
      let least = least_exists (ways_of (chains_at chains o)) (ways_some chains o parts.some parts.inside) in (
        record { name = least.0; path = ring_path (chains_at chains o); round = path_round o parts },
        record { name = least.1; path = refl },
      )

  unclosed_exists : (o : List ℕ) → AreParts chains o → (c : Chain) × IsUnclosed (chains_at chains o) c
  unclosed_exists o parts = (
    record { name = id_at (ways_of (chains_at chains o)) 0; ways = ways_of (chains_at chains o); path = locations_along (chains_at chains o); closed = false; line = (parts_round chains o parts).line; some = ways_some chains o parts.some parts.inside },
    record { ways = refl; name = refl; path = refl; closed = refl },
  )

zip_exists : {A B : Type 0} (P : A → Type 0) (R : A → B → Type 0) → ((x : A) → P x → (y : B) × R x y) → (xs : List A) → All P xs → (ys : List B) × AllZip R xs ys
zip_exists P R each [] all = ([], tt)
zip_exists P R each (x ∷ xs) all =
    let here = each x (all 0 x (omega arith)) in
    let rest = zip_exists P R each xs (λ k d h. all (suc k) d (omega arith)) in
    (here.0 ∷ rest.0, (here.1, rest.1))

kept_all : {A : Type 0} (P : A → Type 0) (p : A → Bool) (xs : List A) → All P xs → All P (filter p xs)
kept_all P p xs all = all-in P (filter p xs) (λ y i. in-all P xs y all (in-filter p xs y i))

by_name : (rings : List CoastRing) → IsDistinct int_eq (map (λ (r : CoastRing). r.name) rings) → (sorted : List CoastRing) × IsPermutation rings sorted × IsRising (on (λ (r : CoastRing). r.name) int_cmp) sorted
by_name rings differ =
    let apart : AllPairs (λ (a : ℤ) (b : ℤ). int_eq a b ≡ false) (map (λ (r : CoastRing). r.name) rings) = λ i j d h l. apart_from_distinct int_eq (map (λ (r : CoastRing). r.name) rings) i j d differ h l in
    let s = ordered (λ (r : CoastRing). r.name) rings (pairs-out-of-map (λ (a : ℤ) (b : ℤ). int_eq a b ≡ false) (λ (r : CoastRing). r.name) rings (pairs-each (λ (a : ℤ) (b : ℤ). int_eq a b ≡ false) (map (λ (r : CoastRing). r.name) rings) apart)) in
    (s.0, s.1, all_pairs (λ (x : CoastRing) (y : CoastRing). int_cmp x.name y.name ≡ Less) s.0 s.2)

pub some_joined : LocationOrderTellsApart → StandBelow → OrbitsExist → NamesRise → UnclosedEndsDiffer → ClosedEndsDiffer → (ways : List CoastWay) (chains : List Chain) → AreChains ways chains → (limit : ℕ) (closings : Closings) → AreClosings chains limit closings → (joined : Joined) × AreJoined chains closings joined
some_joined exact stand exist rise unclosed closed ways chains are limit closings is =
    let cmp = named_gap_cmp (names_of chains) in
    let gaps = closings.gaps in
    let links = links_exist gaps (length chains) (gaps_from cmp limit chains gaps is.gaps) (gaps_apart cmp limit chains gaps is.gaps) in
    let made = next_exists links.0 chains in
    let next = made.0 in
    let are_next : AreNext chains gaps next = next_are gaps chains links.0 next links.1 made.1 in
    let one : IsOneToOne next = next_one cmp limit chains gaps is.gaps next are_next in
    let os = exist next one in
    let parts : All (AreParts chains) os.0 = orbits_are_parts ways chains are unclosed closed gaps next are_next one os.0 os.1 (stand (length next) os.0 os.1.once) in
    let rings = zip_exists (AreParts chains) (λ (o : List ℕ) (r : CoastRing). IsCoastRing (chains_at chains o) r) (ring_exists exact chains) (filter (is_closed_orbit next) os.0) (kept_all (AreParts chains) (is_closed_orbit next) os.0 parts) in
    let rest = zip_exists (AreParts chains) (λ (o : List ℕ) (c : Chain). IsUnclosed (chains_at chains o) c) (unclosed_exists exact chains) (filter (λ o. not (is_closed_orbit next o)) os.0) (kept_all (AreParts chains) (λ o. not (is_closed_orbit next o)) os.0 parts) in
    let sorted = by_name rings.0 (names_apart ways chains are (length next) os.0 os.1.once (is_closed_orbit next) rings.0 rings.1) in (
      record { rings = sorted.0; unclosed = rest.0 },
      record {
        next = next;
        are_next = are_next;
        orbits = os.0;
        are_orbits = os.1;
        in_order = os.2;
        rings = rings.0;
        each_ring = rings.1;
        same = sorted.1;
        rings_rise = sorted.2;
        each_unclosed = rest.1;
        unclosed_rise = rising_unclosed ways chains are rise os.0 (λ o. not (is_closed_orbit next o)) rest.0 parts os.2.firsts rest.1;
      },
    )
