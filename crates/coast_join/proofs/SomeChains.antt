-- Ways with different ids have chains: on lists, with no memory.
use Rattle.std.proofs.Common.{◌≡◌, ℕ, ℤ, pos, suc, ◌<◌, false, List, [], ◌∷◌, ◌++◌, length, map, get_or, cond, All, Option, Some, None, is_some, refl, sym, ap, subst, ◌∙◌, arith}
use Rattle.std.specs.declared.cmp.Ordering.{Ordering}
use Rattle.std.specs.declared.cmp.Ordering.TheVariants.{Less, Equal, Greater}
use Rattle.std.specs.Ordering.{int_cmp, int_eq, is_eq, ordering_reverse}
use Rattle.std.specs.List.{AllPairs, AllZip, IsDistinct, range_with_len}
use Rattle.std.specs.List.Sorted.{IsPermutation}
use Rattle.std.proofs.lemmas.Bool.{false≢true}
use Rattle.std.proofs.lemmas.Cmp.{int_cmp_total, int_ranked}
use Rattle.std.proofs.lemmas.List.{append-nil, append_assoc, length-map}
use Rattle.std.proofs.lemmas.List.Elements.{All-cons, All-nil}
use Rattle.std.proofs.lemmas.List.FromFn.{get_or-range_with_len, length-range_with_len}
use Rattle.std.proofs.lemmas.List.Kept.{AllPairs-cons}
use Rattle.std.proofs.lemmas.List.Sorted.{All-permutation, IsPermutation-cons, IsPermutation-refl, IsPermutation-swap, IsPermutation-trans}
use Rattle.std.proofs.lemmas.Map.Keys.{apart_from_distinct}
use Rattle.lists.specs.Member.{EachPair}
use Rattle.lists.proofs.ListsKit.{int_eq-same, map-map, pairs-each, pairs-into-map}
use Rattle.orbits.specs.OnceLaws.{StandBelow}
use Rattle.orbits.specs.OrbitLaws.{OrbitsExist}
use Rattle.orbits.specs.Orbits.{IsOrbit, after, first, last_number}
use Rattle.osm_lattice.specs.declared.loc.Loc.{Loc}
use Rattle.osm_lattice.specs.Loc.{loc_cmp}
use Rattle.osm_lattice.specs.OrderLaws.{LocationOrderTellsApart}
use Rattle.lists.specs.Rising.{count_of}
use Rattle.coast_join.specs.declared.way.CoastWay.{CoastWay}
use Rattle.coast_join.specs.declared.chain.Chain.{Chain}
use Rattle.coast_join.specs.ById.{AreById, id_at}
use Rattle.coast_join.specs.Chains.{IsChain, WayPath, joined_path, line_at}
use Rattle.coast_join.specs.ChainLaws.{ChainsExist}
use Rattle.coast_join.specs.ChainSteps.{member, ways_at}
use Rattle.coast_rings.specs.Line.{IsLine, first_location, last_location}
use Rattle.coast_join.specs.Links.{AreNextWays, AreNumbered, key_cmp}
use Rattle.coast_join.proofs.Joining.{line_joined, orbit_linked, order_inside, sorted_rising, sorted_same}
use Rattle.coast_join.proofs.Numbering.{ArePlaces, links_are, numbered_none, numbered_push, numbered_sized, one_to_one, places_none, places_push}

-- ---- a list whose keys differ has an order in which they rise

module _ {X : Type 0} (f : X → ℤ) where
  abbrev Rises : List X → Type 0
  Rises xs = EachPair (λ x y. int_cmp (f x) (f y) ≡ Less) xs

  abbrev Inserted : X → List X → Type 0
  Inserted x ys = (zs : List X) × IsPermutation (x ∷ ys) zs × Rises zs

  inserted : (x : X) (ys : List X) → Rises ys → All (λ y. int_eq (f x) (f y) ≡ false) ys → Inserted x ys
  inserted x [] up apart = (x ∷ [], IsPermutation-refl (x ∷ []), (All-nil _, tt))
  inserted x (y ∷ ys) up apart = by (int_cmp (f x) (f y)) refl (inserted x ys up.1 (λ k d h. apart (suc k) d (omega arith)))
    where
      by : (o : Ordering) → int_cmp (f x) (f y) ≡ o → Inserted x ys → Inserted x (y ∷ ys)
      by Less e rest = (
        x ∷ (y ∷ ys),
        IsPermutation-refl (x ∷ (y ∷ ys)),
        (All-cons (λ z. int_cmp (f x) (f z) ≡ Less) y ys e (λ k d h. int_cmp_total.trans (f x) (f y) (f (get_or ys k d)) e (up.0 k d h)), up),
      )
      by Equal e rest = absurd (false≢true (sym (apart 0 y (omega arith)) ∙ int_eq-same (f x) (f y) (int_ranked (f x) (f y) Equal (sym e))))
      by Greater e rest = (
        y ∷ rest.0,
        IsPermutation-trans (x ∷ (y ∷ ys)) (y ∷ (x ∷ ys)) (y ∷ rest.0) (IsPermutation-swap (x ∷ (y ∷ ys)) (y ∷ (x ∷ ys)) 0 1 (omega arith) (omega arith) refl) (IsPermutation-cons y (x ∷ ys) rest.0 rest.1),
        (All-permutation (λ z. int_cmp (f y) (f z) ≡ Less) (x ∷ ys) rest.0 rest.1 (All-cons (λ z. int_cmp (f y) (f z) ≡ Less) x ys (int_cmp_total.antisymm (f y) (f x) ∙ ap ordering_reverse e) up.0), rest.2),
      )

  pub ordered : (xs : List X) → EachPair (λ x y. int_eq (f x) (f y) ≡ false) xs → (ys : List X) × IsPermutation xs ys × Rises ys
  ordered [] apart = ([], IsPermutation-refl [], tt)
  ordered (x ∷ xs) apart =
      let rest = ordered xs apart.1 in
      let put = inserted x rest.0 rest.2 (All-permutation (λ y. int_eq (f x) (f y) ≡ false) xs rest.0 rest.1 apart.0) in
      (put.0, IsPermutation-trans (x ∷ xs) (x ∷ rest.0) put.0 (IsPermutation-cons x xs rest.0 rest.1) put.1, put.2)

pub all_pairs : {X : Type 0} (R : X → X → Type 0) (xs : List X) → EachPair R xs → AllPairs R xs
all_pairs R [] h = λ i j d l m. absurd (omega arith)
all_pairs R (x ∷ xs) h = AllPairs-cons R x xs h.0 (all_pairs R xs h.1)

order_exists : (ids : List ℤ) → IsDistinct int_eq ids → (order : List ℕ) × AreById ids order
order_exists ids differ =
    let n = length-range_with_len 0 (length ids) in
    let apart : AllPairs (λ i j. int_eq (id_at ids i) (id_at ids j) ≡ false) (range_with_len 0 (length ids)) = λ i j d h l.
    let a : get_or (range_with_len 0 (length ids)) i d ≡ i = get_or-range_with_len 0 (length ids) i d (omega arith) ∙ omega arith in
    let b : get_or (range_with_len 0 (length ids)) j d ≡ j = get_or-range_with_len 0 (length ids) j d (omega arith) ∙ omega arith in
    rw (a, b) (apart_from_distinct int_eq ids i j (pos 0) differ h (omega arith)) in
    let made = ordered (id_at ids) (range_with_len 0 (length ids)) (pairs-each (λ i j. int_eq (id_at ids i) (id_at ids j) ≡ false) (range_with_len 0 (length ids)) apart) in (
      made.0,
      record {
        each = made.1;
        rising = all_pairs (λ x y. int_cmp x y ≡ Less) (map (id_at ids) made.0) (pairs-into-map (λ x y. int_cmp x y ≡ Less) (id_at ids) made.0 made.2);
      },
    )

-- ---- links exist

-- what holds of no items, and with each list of one item more, holds of all
pub by_pushing : {X : Type 0} (P : List X → Type 0) → ((xs : List X) (x : X) → P xs → P (xs ++ x ∷ [])) → (done left : List X) → P done → P (done ++ left)
by_pushing P more done [] p = subst P (sym (append-nil done)) p
by_pushing P more done (x ∷ left) p = subst P (append_assoc done (x ∷ []) left) (by_pushing P more (done ++ x ∷ []) left (more done x p))

numbers_exist : (xs : List Loc) → (keys : List (Loc × ℕ)) × AreNumbered xs keys
numbers_exist xs = by_pushing (λ ys. (keys : List (Loc × ℕ)) × AreNumbered ys keys)
    (λ ys p h. (h.0 ++ (p, count_of loc_cmp p ys) ∷ [], numbered_push ys h.0 p (count_of loc_cmp p ys) (numbered_sized ys h.0 h.1) refl h.1))
    [] xs ([], numbered_none)

places_exist : LocationOrderTellsApart → (xs : List Loc) → (f : Loc × ℕ → Option ℕ) × ArePlaces xs f
places_exist exact xs = by_pushing (λ ys. (f : Loc × ℕ → Option ℕ) × ArePlaces ys f)
    (λ ys p h. (λ q. cond (is_eq (key_cmp (p, count_of loc_cmp p ys) q)) (Some (length ys)) (h.0 q), places_push exact ys h.0 _ (p, count_of loc_cmp p ys) (length ys) refl refl h.1 (λ q. refl)))
    [] xs (λ q. None, places_none (λ q. None) (λ q. refl))

links_exist : LocationOrderTellsApart → (ends starts : List Loc) → (next : List (Option ℕ)) × AreNextWays ends starts next
links_exist exact ends starts =
    let keys = numbers_exist ends in
    let places = places_exist exact starts in
    (map places.0 keys.0, links_are places.0 ends starts keys.0 (numbered_sized ends keys.0 keys.1) keys.1 places.1)

-- ---- each orbit has a chain

module _ (ways : List CoastWay) (order : List ℕ) (inside : All (λ i. i < length ways) order) (next : List (Option ℕ)) (links : AreNextWays (map (λ (l : WayPath). last_location l.path) (ways_at ways order)) (map (λ (l : WayPath). first_location l.path) (ways_at ways order)) next) where
  chain_exists : (o : List ℕ) → IsOrbit next o → All (λ k. k < length order) o → (c : Chain) × IsChain (ways_at ways order) next o c
  chain_exists o orbit below =
      let paths = map (λ i. (line_at (ways_at ways order) i).path) o in
      let closed = is_some (after next (last_number o)) in
      let same : map (λ (l : WayPath). l.path) (map (line_at (ways_at ways order)) o) ≡ map (λ i. (line_at (ways_at ways order) i).path) o = map-map (λ (l : WayPath). l.path) (line_at (ways_at ways order)) o in
      let linked = orbit_linked ways order inside next links o orbit below in
      let long = length-map o (λ i. (line_at (ways_at ways order) i).id) in
      let some = orbit.some in (
        record {
          name = (line_at (ways_at ways order) (first o)).id;
          ways = map (λ i. (line_at (ways_at ways order) i).id) o;
          path = joined_path (is_some (after next (last_number o))) (map (λ i. (line_at (ways_at ways order) i).path) o);
          closed = is_some (after next (last_number o));
          line = subst (λ ps. IsLine (joined_path (is_some (after next (last_number o))) ps)) same (line_joined (is_some (after next (last_number o))) _ linked);
          some = omega arith;
        },
        record { ways = refl; name = refl; closed = refl; path = refl },
      )

  all_exist : (os : List (List ℕ)) → All (IsOrbit next) os → All (λ o. All (λ k. k < length order) o) os → (cs : List Chain) × AllZip (IsChain (ways_at ways order) next) os cs
  all_exist [] orbits below = ([], tt)
  all_exist (o ∷ os) orbits below =
      let here = chain_exists o (orbits 0 o (omega arith)) (below 0 o (omega arith)) in
      let rest = all_exist os (λ k d h. orbits (suc k) d (omega arith)) (λ k d h. below (suc k) d (omega arith)) in
      (here.0 ∷ rest.0, (here.1, rest.1))

-- ---- the whole

pub some_list : LocationOrderTellsApart → StandBelow → OrbitsExist → ChainsExist
some_list exact below exist ways differ =
    let order = order_exists (map (λ (w : CoastWay). w.id) ways) differ in
    let lines = ways_at ways order.0 in
    let next = links_exist exact (map (λ (l : WayPath). last_location l.path) (ways_at ways order.0)) (map (λ (l : WayPath). first_location l.path) (ways_at ways order.0)) in
    let as_long = length-map (ways_at ways order.0) (λ (l : WayPath). first_location l.path) ∙ sym (length-map (ways_at ways order.0) (λ (l : WayPath). last_location l.path)) in
    let os = exist next.0 (one_to_one _ _ next.0 as_long next.1) in
    let sized : length next.0 ≡ length order.0 = next.1.sized ∙ (length-map (ways_at ways order.0) (λ (l : WayPath). last_location l.path) ∙ length-map order.0 (member ways)) in
    let within = subst (λ n. All (λ o. All (λ k. k < n) o) os.0) sized (below (length next.0) os.0 os.1.once) in
    let chains = all_exist ways order.0 (order_inside ways order.0 order.1) next.0 next.1 os.0 os.1.each within in (
      chains.0,
      record {
        sorted = ways_at ways order.0;
        same = sorted_same ways order.0 order.1;
        rising = sorted_rising ways order.0 order.1;
        next = next.0;
        links = next.1;
        orbits = os.0;
        are_orbits = os.1;
        in_order = os.2;
        each = chains.1;
      },
    )
