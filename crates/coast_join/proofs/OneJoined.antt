-- Of chains and closings there is one joined.
use Rattle.std.proofs.Common.{◌≡◌, ℕ, zero, suc, ◌<◌, ◌≤ℤ◌, ℤ, Bool, true, false, not, List, [], ◌∷◌, length, filter, Option, Some, None, refl, sym, ap, subst, ◌∙◌, arith, ⊎_elim}
use Rattle.std.specs.List.{AllZip, slice_get}
use Rattle.std.specs.List.Sorted.{IsPermutation}
use Rattle.std.specs.declared.cmp.Ordering.TheVariants.{Less}
use Rattle.std.specs.Ordering.{int_cmp}
use Rattle.std.proofs.lemmas.Bool.{cases_lt}
use Rattle.std.proofs.lemmas.List.{get_or_past}
use Rattle.std.proofs.lemmas.List.Elements.{All-contains}
use Rattle.orbits.specs.OrbitLaws.{OrbitsAreOne}
use Rattle.orbits.specs.Orbits.{after, AreOrbitsInOrder, AreOrbits, IsOneToOne}
use Rattle.coast_join.specs.declared.chain.Chain.{Chain}
use Rattle.coast_join.specs.declared.gap.Closings.{Closings}
use Rattle.coast_join.specs.declared.gap.Gap.{Gap}
use Rattle.coast_rings.specs.declared.ring.CoastRing.{CoastRing}
use Rattle.coast_join.specs.declared.joined.Joined.{Joined}
use Rattle.coast_join.specs.ById.{id_at}
use Rattle.coast_join.specs.Closings.{AreClosings, is_open, names_of}
use Rattle.coast_join.specs.Joined.{AreJoined, AreNext, IsCoastRing, IsLeast, IsUnclosed, chains_at, is_closed_orbit}
use Rattle.coast_join.specs.Taken.{named_gap_cmp}
use Rattle.coast_rings.proofs.RingsKit.{ring_from_fields}
use Rattle.coast_join.proofs.Following.{next_one}
use Rattle.coast_join.proofs.OneChains.{chain_from_fields, one_order, same_options}
use Rattle.lists.proofs.ListsKit.{pairs-each, same_from_least}

-- ---- one map of what chains go on to

chain_at : (chains : List Chain) (k : ℕ) → k < length chains → (c : Chain) × (slice_get chains k ≡ Some c)
chain_at [] k h = absurd (omega arith)
chain_at (c ∷ cs) zero h = (c, refl)
chain_at (c ∷ cs) (suc k) h = chain_at cs k (omega arith)

module _ (chains : List Chain) (gaps : List Gap) (a b : List (Option ℕ)) (na : AreNext chains gaps a) (nb : AreNext chains gaps b) where
  same_open : (i : ℕ) (c : Chain) → slice_get chains i ≡ Some c → is_open c ≡ true → (o p : Option ℕ) → after a i ≡ o → after b i ≡ p → after a i ≡ after b i
  same_open i c e is_so (Some j) p ea eb = ea ∙ sym ((nb.leads i c e is_so j).1 ((na.leads i c e is_so j).0 ea))
  same_open i c e is_so None (Some j) ea eb = (na.leads i c e is_so j).1 ((nb.leads i c e is_so j).0 eb) ∙ sym eb
  same_open i c e is_so None None ea eb = ea ∙ sym eb

  same_at : (i : ℕ) (c : Chain) → slice_get chains i ≡ Some c → (t : Bool) → is_open c ≡ t → after a i ≡ after b i
  same_at i c e true is_so = same_open i c e is_so (after a i) (after b i) refl refl
  same_at i c e false not_so = na.stays i c e not_so ∙ sym (nb.stays i c e not_so)

  pub one_next : a ≡ b
  one_next = same_options a b (na.sized ∙ sym nb.sized) (λ i. ⊎_elim
      (λ l. let c = chain_at chains i l in same_at i c.0 c.1 (is_open c.0) refl)
      (λ l. let m = na.sized in let n = nb.sized in get_or_past a i None (omega arith) ∙ sym (get_or_past b i None (omega arith)))
      (cases_lt i (length chains)))

-- ---- one ring and one unclosed chain of an orbit

one_least : (ids : List ℤ) (a b : ℤ) → IsLeast ids a → IsLeast ids b → a ≡ b
one_least ids a b la lb = same_from_least a b (All-contains (λ other. a ≤ℤ other) ids b la.least lb.stands) (All-contains (λ other. b ≤ℤ other) ids a lb.least la.stands)

one_zip : {A B : Type 0} (R : A → B → Type 0) → ((x : A) (y z : B) → R x y → R x z → y ≡ z) → (xs : List A) (ys zs : List B) → AllZip R xs ys → AllZip R xs zs → ys ≡ zs
one_zip R one [] [] [] h k = refl
one_zip R one [] [] (z ∷ zs) h k = absurd k
one_zip R one [] (y ∷ ys) zs h k = absurd h
one_zip R one (x ∷ xs) [] zs h k = absurd h
one_zip R one (x ∷ xs) (y ∷ ys) [] h k = absurd k
one_zip R one (x ∷ xs) (y ∷ ys) (z ∷ zs) h k =
    let here : y ≡ z = one x y z h.0 k.0 in
    let rest : ys ≡ zs = one_zip R one xs ys zs h.1 k.1 in
    cc

same_joined : (j k : Joined) → j.rings ≡ k.rings → j.unclosed ≡ k.unclosed → j ≡ k
same_joined j k r u =
    let one : j ≡ record { rings = k.rings; unclosed = j.unclosed } = ap (λ (xs : List CoastRing). record { rings = xs; unclosed = j.unclosed }) r in
    let two : ◌≡◌ {A = Joined} (record { rings = k.rings; unclosed = j.unclosed }) k = ap (λ (xs : List Chain). record { rings = k.rings; unclosed = xs }) u in
    one ∙ two

module _ (chains : List Chain) where
  one_ring : (o : List ℕ) (r s : CoastRing) → IsCoastRing (chains_at chains o) r → IsCoastRing (chains_at chains o) s → r ≡ s
  one_ring o r s ir is = ring_from_fields r s (one_least _ r.name s.name ir.name is.name) (ir.path ∙ sym is.path)

  one_unclosed : (o : List ℕ) (c d : Chain) → IsUnclosed (chains_at chains o) c → IsUnclosed (chains_at chains o) d → c ≡ d
  one_unclosed o c d ic id =
      let ways : c.ways ≡ d.ways = ic.ways ∙ sym id.ways in
      chain_from_fields c d (ic.name ∙ (ap (λ (xs : List ℤ). id_at xs 0) ways ∙ sym id.name)) ways (ic.path ∙ sym id.path) (ic.closed ∙ sym id.closed)

  pub one_joined : (limit : ℕ) (closings : Closings) → AreClosings chains limit closings → OrbitsAreOne → (j k : Joined) → AreJoined chains closings j → AreJoined chains closings k → j ≡ k
  one_joined limit closings are one_orbits j k aj ak = same_joined j k rings unclosed
    where
      next : ak.next ≡ aj.next
      next = one_next chains closings.gaps ak.next aj.next ak.are_next aj.are_next

      one : IsOneToOne aj.next
      one = next_one (named_gap_cmp (names_of chains)) limit chains closings.gaps are.gaps aj.next aj.are_next

      orbits : ak.orbits ≡ aj.orbits
      orbits = one_orbits aj.next one ak.orbits aj.orbits (subst (λ n. AreOrbits n ak.orbits) next ak.are_orbits) (subst (λ n. AreOrbitsInOrder n ak.orbits) next ak.in_order) aj.are_orbits aj.in_order

      closed : filter (is_closed_orbit ak.next) ak.orbits ≡ filter (is_closed_orbit aj.next) aj.orbits
      closed = ap (λ n. filter (is_closed_orbit n) ak.orbits) next ∙ ap (filter (is_closed_orbit aj.next)) orbits

      open_ones : filter (λ o. not (is_closed_orbit ak.next o)) ak.orbits ≡ filter (λ o. not (is_closed_orbit aj.next o)) aj.orbits
      open_ones = ap (λ n. filter (λ o. not (is_closed_orbit n o)) ak.orbits) next ∙ ap (filter (λ o. not (is_closed_orbit aj.next o))) orbits

      same : ak.rings ≡ aj.rings
      same = one_zip (λ (o : List ℕ) (r : CoastRing). IsCoastRing (chains_at chains o) r) one_ring (filter (is_closed_orbit aj.next) aj.orbits) ak.rings aj.rings
          (subst (λ os. AllZip (λ (o : List ℕ) (r : CoastRing). IsCoastRing (chains_at chains o) r) os ak.rings) closed ak.each_ring) aj.each_ring

      rings : j.rings ≡ k.rings
      rings = one_order (λ (r : CoastRing). r.name) aj.rings j.rings k.rings aj.same (subst (λ (rs : List CoastRing). IsPermutation rs k.rings) same ak.same)
          (pairs-each (λ (x : CoastRing) (y : CoastRing). int_cmp x.name y.name ≡ Less) j.rings aj.rings_rise) (pairs-each (λ (x : CoastRing) (y : CoastRing). int_cmp x.name y.name ≡ Less) k.rings ak.rings_rise)

      unclosed : j.unclosed ≡ k.unclosed
      unclosed = one_zip (λ (o : List ℕ) (c : Chain). IsUnclosed (chains_at chains o) c) one_unclosed (filter (λ o. not (is_closed_orbit aj.next o)) aj.orbits) j.unclosed k.unclosed aj.each_unclosed
          (subst (λ os. AllZip (λ (o : List ℕ) (c : Chain). IsUnclosed (chains_at chains o) c) os k.unclosed) open_ones ak.each_unclosed)
