-- Chains joined by gaps: the path of each is a line, and no chain ends where the next starts.
use Rattle.std.proofs.Common.{◌≡◌, ◌≢◌, ℕ, zero, suc, ◌+◌, ◌-◌, ◌<◌, Bool, true, false, not, ◌&&◌, List, [], ◌∷◌, ◌++◌, length, get_or, All, Contains, Option, Some, None, refl, sym, ap, subst, ◌∙◌, arith}
use Rattle.std.specs.List.{cons_option, slice_get}
use Rattle.std.proofs.lemmas.List.{append-nil, length-append}
use Rattle.std.proofs.lemmas.Option.{same_Some}
use Rattle.osm_lattice.specs.declared.loc.Loc.{Loc}
use Rattle.orbits.specs.Orbits.{after, AreOrbits, IsOneToOne, IsOrbit}
use Rattle.coast_join.specs.declared.chain.Chain.{Chain}
use Rattle.coast_join.specs.declared.gap.Gap.{Gap}
use Rattle.coast_join.specs.declared.way.CoastWay.{CoastWay}
use Rattle.coast_join.specs.Chains.{AreChains}
use Rattle.coast_join.specs.ChainLaws.{UnclosedEndsDiffer}
use Rattle.coast_join.specs.Closings.{is_antarctic, is_open}
use Rattle.coast_join.specs.Joined.{AreNext, chains_at, locations_along}
use Rattle.coast_join.specs.JoinSteps.{AreParts, EndWhereNoneStarts}
use Rattle.coast_rings.specs.Line.{IsLine, NeighboursDiffer, first_location, last_location, origin}
use Rattle.coast_join.specs.RingLaws.{ClosedEndsDiffer}
use Rattle.coast_rings.specs.Round.{IsRound}
use Rattle.coast_join.proofs.Following.{some_at}

-- ---- lines one after the other

joint_differ : (xs ys : List Loc) → NeighboursDiffer xs → NeighboursDiffer ys → (0 < length xs → 0 < length ys → last_location xs ≢ first_location ys) → NeighboursDiffer (xs ++ ys)
joint_differ [] ys h g apart = g
joint_differ (x ∷ []) [] h g apart = h
joint_differ (x ∷ []) (y ∷ ys) h g apart = step
  where
    step : NeighboursDiffer (x ∷ (y ∷ ys))
    step zero p e n = apart (omega arith) (omega arith) (same_Some x p e ∙ sym (same_Some y p n))
    step (suc k) p e n = g k p e n
joint_differ (x ∷ (z ∷ xs)) ys h g apart = step (joint_differ (z ∷ xs) ys (λ k. h (suc k)) g (λ a b e. apart (omega arith) b (last_more ∙ e)))
  where
    last_more : last_location (x ∷ (z ∷ xs)) ≡ last_location (z ∷ xs)
    last_more =
        let e : length (x ∷ (z ∷ xs)) - 1 ≡ suc (length (z ∷ xs) - 1) = omega arith in
        ap (λ n. get_or (x ∷ (z ∷ xs)) n origin) e

    step : NeighboursDiffer ((z ∷ xs) ++ ys) → NeighboursDiffer (x ∷ ((z ∷ xs) ++ ys))
    step rest zero p e n = h 0 p e n
    step rest (suc k) p e n = rest k p e n

pub first_joint : (xs ys : List Loc) → 0 < length xs → first_location (xs ++ ys) ≡ first_location xs
first_joint [] ys h = absurd (omega arith)
first_joint (x ∷ xs) ys h = refl

pub last_joint : (xs ys : List Loc) → 0 < length ys → last_location (xs ++ ys) ≡ last_location ys
last_joint [] ys h = refl
last_joint (x ∷ xs) [] h = absurd (omega arith)
last_joint (x ∷ xs) (y ∷ ys) h =
    let both = length-append xs (y ∷ ys) in
    let e : length (x ∷ (xs ++ y ∷ ys)) - 1 ≡ suc (length (xs ++ y ∷ ys) - 1) = omega arith in
    ap (λ n. get_or (x ∷ (xs ++ y ∷ ys)) n origin) e ∙ last_joint xs (y ∷ ys) h

path_some : (c : Chain) → 0 < length c.path
path_some c = let line : IsLine c.path = c.line in let long = line.long in omega arith

paths_some : (c : Chain) (cs : List Chain) → 0 < length (locations_along (c ∷ cs))
paths_some c cs = let here = path_some c in let both = length-append c.path (locations_along cs) in omega arith

head_in : (c : Chain) (cs : List Chain) → Contains (c ∷ cs) c
head_in c cs = (0, omega arith, refl)

tail_in : (c d : Chain) (cs : List Chain) → Contains cs d → Contains (c ∷ cs) d
tail_in c d cs (k, h, e) = (suc k, omega arith, e)

-- the whole path starts where the first chain starts, and ends where one of them ends
starts : (c : Chain) (cs : List Chain) → first_location (locations_along (c ∷ cs)) ≡ first_location c.path
starts c cs = first_joint c.path (locations_along cs) (path_some c)

ends : (c : Chain) (cs : List Chain) → (e : Chain) × Contains (c ∷ cs) e × (last_location (locations_along (c ∷ cs)) ≡ last_location e.path)
ends c [] = (c, head_in c [], ap last_location (append-nil c.path))
ends c (d ∷ cs) = let r = ends d cs in (r.0, tail_in c r.0 (d ∷ cs) r.1, last_joint c.path (locations_along (d ∷ cs)) (paths_some d cs) ∙ r.2)

whole : (c : Chain) (cs : List Chain) → EndWhereNoneStarts (c ∷ cs) → NeighboursDiffer (locations_along (c ∷ cs))
whole c [] apart = subst NeighboursDiffer (sym (append-nil c.path)) c.line.differ
whole c (d ∷ cs) apart =
    joint_differ c.path (locations_along (d ∷ cs)) c.line.differ (whole d cs (λ a b i j. apart a b (tail_in c a (d ∷ cs) i) (tail_in c b (d ∷ cs) j)))
    (λ x y e. apart c d (head_in c (d ∷ cs)) (tail_in c d (d ∷ cs) (head_in d cs)) (e ∙ starts d cs))

paths_round : (c : Chain) (cs : List Chain) → EndWhereNoneStarts (c ∷ cs) → IsRound (locations_along (c ∷ cs))
paths_round c cs apart =
    let line : IsLine c.path = c.line in
    let long = line.long in
    let both = length-append c.path (locations_along cs) in
    let e = ends c cs in
    record {
      line = record { long = omega arith; differ = whole c cs apart };
      apart = λ same. apart e.0 c e.1 (head_in c cs) (sym e.2 ∙ (same ∙ starts c cs));
    }

pub parts_round : (chains : List Chain) (places : List ℕ) → AreParts chains places → IsRound (locations_along (chains_at chains places))
parts_round chains places are =
    let s = some_at chains places are.some are.inside in
    subst (λ (cs : List Chain). IsRound (locations_along cs)) (sym s.2) (paths_round s.0 s.1 (subst EndWhereNoneStarts s.2 are.apart))

-- ---- the chains of an orbit

get_in : {X : Type 0} (xs : List X) (k : ℕ) (x : X) → slice_get xs k ≡ Some x → Contains xs x
get_in [] k x e = absurd (cc)
get_in (y ∷ ys) zero x e = (0, omega arith, same_Some y x e)
get_in (y ∷ ys) (suc k) x e = let r = get_in ys k x e in (suc r.0, (let l = r.1 in omega arith), r.2)

-- a chain that is at one of the places
part_at : (chains : List Chain) (places : List ℕ) (c : Chain) → Contains (chains_at chains places) c → (k : ℕ) × (k < length places) × (slice_get chains (get_or places k 0) ≡ Some c)
part_at chains [] c (j, h, e) = absurd (omega arith)
part_at chains (i ∷ places) c inside = by (slice_get chains i) refl inside (part_at chains places c)
  where
    by : (o : Option Chain) → slice_get chains i ≡ o → Contains (cons_option o (chains_at chains places)) c → (Contains (chains_at chains places) c → (k : ℕ) × (k < length places) × (slice_get chains (get_or places k 0) ≡ Some c)) → (k : ℕ) × (k < length (i ∷ places)) × (slice_get chains (get_or (i ∷ places) k 0) ≡ Some c)
    by None s m later = let r = later m in (suc r.0, (let l = r.1 in omega arith), r.2)
    by (Some d) s (zero, h, e) later = (0, omega arith, s ∙ ap Some e)
    by (Some d) s (suc j, h, e) later = let r = later (j, (omega arith), e) in (suc r.0, (let l = r.1 in omega arith), r.2)

-- ---- an orbit in which a number goes on to itself has no other
module _ (next : List (Option ℕ)) (o : List ℕ) (one : IsOneToOne next) (orbit : IsOrbit next o) (x : ℕ) (stays : after next x ≡ Some x) where
  step : (k : ℕ) → suc k < length o → after next (get_or o k 0) ≡ Some (get_or o (suc k) 0)
  step k h = let e : k + 1 ≡ suc k = omega arith in orbit.steps k (omega arith) ∙ ap (λ m. Some (get_or o m 0)) e

  to_first : (k : ℕ) → k < length o → get_or o k 0 ≡ x → get_or o 0 0 ≡ x
  to_first zero h e = e
  to_first (suc k) h e = to_first k (omega arith) (one.one (get_or o k 0) x x (step k h ∙ ap Some e) stays)

  from_first : get_or o 0 0 ≡ x → (k : ℕ) → k < length o → get_or o k 0 ≡ x
  from_first e zero h = e
  from_first e (suc k) h =
      let before = from_first e k (omega arith) in
      same_Some (get_or o (suc k) 0) x (sym (step k h) ∙ (ap (after next) before ∙ stays))

  pub alone_in : (j k : ℕ) → j < length o → k < length o → get_or o j 0 ≡ x → get_or o k 0 ≡ x
  alone_in j k h l e = from_first (to_first j h e) k l

not_open : (c : Chain) → c.closed ≡ true → is_open c ≡ false
not_open c e = ap (λ b. not b && not (is_antarctic c)) e

module _ (ways : List CoastWay) (chains : List Chain) (are : AreChains ways chains) (unclosed : UnclosedEndsDiffer) (closed : ClosedEndsDiffer) (gaps : List Gap) (next : List (Option ℕ)) (are_next : AreNext chains gaps next) (one : IsOneToOne next) where
  orbit_apart : (o : List ℕ) → IsOrbit next o → EndWhereNoneStarts (chains_at chains o)
  orbit_apart o orbit c d ic id = by c.closed d.closed refl refl
    where
      pc : (k : ℕ) × (k < length o) × (slice_get chains (get_or o k 0) ≡ Some c)
      pc = part_at chains o c ic

      pd : (k : ℕ) × (k < length o) × (slice_get chains (get_or o k 0) ≡ Some d)
      pd = part_at chains o d id

      in_c : Contains chains c
      in_c = get_in chains (get_or o pc.0 0) c pc.2

      in_d : Contains chains d
      in_d = get_in chains (get_or o pd.0 0) d pd.2

      by : (a b : Bool) → c.closed ≡ a → d.closed ≡ b → last_location c.path ≢ first_location d.path
      by true b e s =
          let i = get_or o pc.0 0 in
          let same : get_or o pd.0 0 ≡ i = alone_in next o one orbit i (are_next.stays i c pc.2 (not_open c e)) pc.0 pd.0 pc.1 pd.1 refl in
          let one_chain : d ≡ c = same_Some d c (sym pd.2 ∙ (ap (slice_get chains) same ∙ pc.2)) in
          subst (λ (x : Chain). last_location c.path ≢ first_location x.path) (sym one_chain) (closed ways chains are c in_c e)
      by false true e s =
          let i = get_or o pd.0 0 in
          let same : get_or o pc.0 0 ≡ i = alone_in next o one orbit i (are_next.stays i d pd.2 (not_open d s)) pd.0 pc.0 pd.1 pc.1 refl in
          let one_chain : c ≡ d = same_Some c d (sym pc.2 ∙ (ap (slice_get chains) same ∙ pd.2)) in
          subst (λ (x : Chain). last_location x.path ≢ first_location d.path) (sym one_chain) (closed ways chains are d in_d s)
      by false false e s = unclosed ways chains are c d in_c in_d e s

  pub orbits_are_parts : (os : List (List ℕ)) → AreOrbits next os → All (λ (o : List ℕ). All (λ k. k < length next) o) os → All (AreParts chains) os
  orbits_are_parts os are_orbits below k d h = record {
    some = (are_orbits.each k d h).some;
    inside = subst (λ m. All (λ i. i < m) (get_or os k d)) are_next.sized (below k d h);
    apart = orbit_apart (get_or os k d) (are_orbits.each k d h);
  }
