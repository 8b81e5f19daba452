-- Of ways there is one list of chains.
use Rattle.std.proofs.Common.{◌≡◌, inl, inr, ℕ, ℤ, suc, ◌<◌, List, [], ◌∷◌, length, map, Option, Some, None, refl, sym, ap, subst, ◌∙◌, arith}
use Rattle.std.proofs.Props.{props}
use Rattle.std.specs.declared.cmp.Ordering.TheVariants.{Less}
use Rattle.std.specs.Ordering.{int_cmp, ordering_reverse}
use Rattle.std.specs.List.{AllZip}
use Rattle.std.specs.List.Sorted.{IsPermutation}
use Rattle.std.proofs.lemmas.Cmp.{int_cmp_total}
use Rattle.std.proofs.lemmas.List.{length-map}
use Rattle.std.proofs.lemmas.List.Sorted.{All-permutation, IsPermutation-sym, IsPermutation-trans}
use Rattle.lists.specs.Member.{EachPair, In}
use Rattle.lists.specs.Rising.{IsRising}
use Rattle.lists.proofs.ListsKit.{all-in, in-all, pairs-each, pairs-out-of-map}
use Rattle.orbits.specs.OrbitLaws.{OrbitsAreOne}
use Rattle.orbits.specs.Orbits.{AreOrbits, AreOrbitsInOrder, IsOneToOne, after}
use Rattle.osm_lattice.specs.declared.loc.Loc.{Loc}
use Rattle.coast_join.specs.declared.chain.Chain.{Chain}
use Rattle.coast_join.specs.Chains.{IsChain, WayPath, joined_path, line_at, way_path_of}
use Rattle.coast_join.specs.ChainLaws.{ChainsAreOne}
use Rattle.coast_rings.specs.Line.{IsLine, first_location, last_location}
use Rattle.coast_join.specs.Links.{AreNextWays}
use Rattle.coast_rings.proofs.RingsKit.{line_prop}
use Rattle.coast_join.proofs.Numbering.{one_to_one}
use mathlib.Core.HLevel.{is_prop→PathP}

-- ---- two lists in strict order of a key, each of which has the items of the other, are one

module _ {X : Type 0} (f : X → ℤ) where
  abbrev Up : List X → Type 0
  Up xs = EachPair (λ x y. int_cmp (f x) (f y) ≡ Less) xs

  both_less : (x y : X) → int_cmp (f x) (f y) ≡ Less → int_cmp (f y) (f x) ≡ Less → ⊥
  both_less x y a b =
      let turned : int_cmp (f x) (f y) ≡ ordering_reverse Less = int_cmp_total.antisymm (f x) (f y) ∙ ap ordering_reverse b in
      cc

  less_itself : (x : X) → int_cmp (f x) (f x) ≡ Less → ⊥
  less_itself x e = both_less x x e e

  one_head : (x y : X) (xs ys : List X) → Up (x ∷ xs) → Up (y ∷ ys) → In x (y ∷ ys) → In y (x ∷ xs) → x ≡ y
  one_head x y xs ys up down (inl e) later = e
  one_head x y xs ys up down (inr i) (inl e) = sym e
  one_head x y xs ys up down (inr i) (inr j) = absurd (both_less x y (in-all (λ z. int_cmp (f x) (f z) ≡ Less) xs y up.0 j) (in-all (λ z. int_cmp (f y) (f z) ≡ Less) ys x down.0 i))

  -- what stands after the first stands after the same first of the other
  in_rest : (x y z : X) (xs ys : List X) → x ≡ y → Up (x ∷ xs) → In z xs → In z (y ∷ ys) → In z ys
  in_rest x y z xs ys same up i (inr j) = j
  in_rest x y z xs ys same up i (inl e) = absurd (less_itself x (subst (λ w. int_cmp (f x) (f w) ≡ Less) (e ∙ sym same) (in-all (λ w. int_cmp (f x) (f w) ≡ Less) xs z up.0 i)))

  one_rising : (xs ys : List X) → Up xs → Up ys → ((z : X) → In z xs → In z ys) → ((z : X) → In z ys → In z xs) → xs ≡ ys
  one_rising [] [] up down to from = refl
  one_rising [] (y ∷ ys) up down to from = absurd (from y (inl refl))
  one_rising (x ∷ xs) [] up down to from = absurd (to x (inl refl))
  one_rising (x ∷ xs) (y ∷ ys) up down to from =
      let heads = one_head x y xs ys up down (to x (inl refl)) (from y (inl refl)) in
      let rest = one_rising xs ys up.1 down.1 (λ z i. in_rest x y z xs ys heads up i (to z (inr i))) (λ z i. in_rest y x z ys xs (sym heads) down i (from z (inr i))) in
      cc

  moved_in : (xs ys : List X) → IsPermutation xs ys → (z : X) → In z xs → In z ys
  moved_in xs ys moved z i = in-all (λ w. In w ys) xs z (All-permutation (λ w. In w ys) ys xs (IsPermutation-sym xs ys moved) (all-in (λ w. In w ys) ys (λ w j. j))) i

  pub one_order : (xs ys zs : List X) → IsPermutation xs ys → IsPermutation xs zs → Up ys → Up zs → ys ≡ zs
  one_order xs ys zs left right up down =
      let over = IsPermutation-trans ys xs zs (IsPermutation-sym xs ys left) right in
      one_rising ys zs up down (moved_in ys zs over) (moved_in zs ys (IsPermutation-sym ys zs over))

-- ---- one list of links

pub same_options : (xs ys : List (Option ℕ)) → length xs ≡ length ys → ((i : ℕ) → after xs i ≡ after ys i) → xs ≡ ys
same_options [] [] sized same = refl
same_options [] (y ∷ ys) sized same = absurd (omega arith)
same_options (x ∷ xs) [] sized same = absurd (omega arith)
same_options (x ∷ xs) (y ∷ ys) sized same =
    let here : x ≡ y = same 0 in
    let rest = same_options xs ys (omega arith) (λ i. same (suc i)) in
    cc

one_next : (ends starts : List Loc) (a b : List (Option ℕ)) → AreNextWays ends starts a → AreNextWays ends starts b → a ≡ b
one_next ends starts a b la lb = same_options a b (la.sized ∙ sym lb.sized) (λ i. by i (after a i) (after b i) refl refl)
  where
    by : (i : ℕ) (o p : Option ℕ) → after a i ≡ o → after b i ≡ p → after a i ≡ after b i
    by i (Some j) p ea eb = ea ∙ sym ((lb.exact i j).1 ((la.exact i j).0 ea))
    by i None (Some j) ea eb = (la.exact i j).1 ((lb.exact i j).0 eb) ∙ sym eb
    by i None None ea eb = ea ∙ sym eb

-- ---- one chain of an orbit

some_prop : (ids : List ℤ) → IsProp (0 < length ids)
some_prop ids = hlevel props

-- the facts of a chain have one proof each, so its name, ways, path and whether it is closed make it
pub chain_from_fields : (c d : Chain) → c.name ≡ d.name → c.ways ≡ d.ways → c.path ≡ d.path → c.closed ≡ d.closed → c ≡ d
chain_from_fields c d n w p b = λ i. record {
  name = n i;
  ways = w i;
  path = p i;
  closed = b i;
  line = is_prop→PathP (λ j. IsLine (p j)) (λ j. line_prop (p j)) c.line d.line i;
  some = is_prop→PathP (λ j. 0 < length (w j)) (λ j. some_prop (w j)) c.some d.some i;
}

one_chain : (lines : List WayPath) (next : List (Option ℕ)) (o : List ℕ) (c d : Chain) → IsChain lines next o c → IsChain lines next o d → c ≡ d
one_chain lines next o c d ic id =
    let closed : c.closed ≡ d.closed = ic.closed ∙ sym id.closed in
    chain_from_fields c d (ic.name ∙ sym id.name) (ic.ways ∙ sym id.ways) (ic.path ∙ (ap (λ b. joined_path b (map (λ i. (line_at lines i).path) o)) closed ∙ sym id.path)) closed

all_one : (lines : List WayPath) (next : List (Option ℕ)) (os : List (List ℕ)) (cs ds : List Chain) → AllZip (IsChain lines next) os cs → AllZip (IsChain lines next) os ds → cs ≡ ds
all_one lines next [] [] [] zc zd = refl
all_one lines next [] [] (d ∷ ds) zc zd = absurd zd
all_one lines next [] (c ∷ cs) ds zc zd = absurd zc
all_one lines next (o ∷ os) [] ds zc zd = absurd zc
all_one lines next (o ∷ os) (c ∷ cs) [] zc zd = absurd zd
all_one lines next (o ∷ os) (c ∷ cs) (d ∷ ds) zc zd =
    let here = one_chain lines next o c d zc.0 zd.0 in
    let rest = all_one lines next os cs ds zc.1 zd.1 in
    cc

-- ---- the whole

pub one_list : OrbitsAreOne → ChainsAreOne
one_list orbits_one ways cs ds c d = all_one c.sorted c.next c.orbits cs ds c.each (subst (λ os. AllZip (IsChain c.sorted c.next) os ds) (sym orbits) each)
  where
    up : (lines : List WayPath) → IsRising int_cmp (map (λ (l : WayPath). l.id) lines) → EachPair (λ (x y : WayPath). int_cmp x.id y.id ≡ Less) lines
    up lines rising = pairs-out-of-map (λ x y. int_cmp x y ≡ Less) (λ (l : WayPath). l.id) lines (pairs-each (λ x y. int_cmp x y ≡ Less) (map (λ (l : WayPath). l.id) lines) rising)

    sorted : c.sorted ≡ d.sorted
    sorted = one_order (λ (l : WayPath). l.id) (map way_path_of ways) c.sorted d.sorted c.same d.same (up c.sorted c.rising) (up d.sorted d.rising)

    links : AreNextWays (map (λ (l : WayPath). last_location l.path) c.sorted) (map (λ (l : WayPath). first_location l.path) c.sorted) d.next
    links = subst (λ (lines : List WayPath). AreNextWays (map (λ (l : WayPath). last_location l.path) lines) (map (λ (l : WayPath). first_location l.path) lines) d.next) (sym sorted) d.links

    next : c.next ≡ d.next
    next = one_next (map (λ (l : WayPath). last_location l.path) c.sorted) (map (λ (l : WayPath). first_location l.path) c.sorted) c.next d.next c.links links

    goes : IsOneToOne c.next
    goes = one_to_one (map (λ (l : WayPath). last_location l.path) c.sorted) (map (λ (l : WayPath). first_location l.path) c.sorted) c.next (length-map c.sorted (λ (l : WayPath). first_location l.path) ∙ sym (length-map c.sorted (λ (l : WayPath). last_location l.path))) c.links

    orbits : c.orbits ≡ d.orbits
    orbits = orbits_one c.next goes c.orbits d.orbits c.are_orbits c.in_order
        (subst (λ n. AreOrbits n d.orbits) (sym next) d.are_orbits)
        (subst (λ n. AreOrbitsInOrder n d.orbits) (sym next) d.in_order)

    each : AllZip (IsChain c.sorted c.next) d.orbits ds
    each = subst (λ (lines : List WayPath). AllZip (IsChain lines c.next) d.orbits ds) (sym sorted) (subst (λ n. AllZip (IsChain d.sorted n) d.orbits ds) (sym next) d.each)
