-- Rings and unclosed chains stand in order of name, and no two have one name.
use Rattle.std.proofs.Common.{◌≡◌, ◌≢◌, inl, inr, ℕ, zero, suc, ◌+◌, ◌<◌, ◌≤◌, ℤ, pos, Bool, true, false, cond, nat_eq, nat_lt, List, [], ◌∷◌, ◌++◌, length, map, filter, get_or, All, AllPairs, Option, Some, None, refl, sym, ap, subst, ◌∙◌, arith, ⊎_elim}
use Rattle.std.specs.declared.cmp.Ordering.{Ordering}
use Rattle.std.specs.declared.cmp.Ordering.TheVariants.{Less, Equal, Greater}
use Rattle.std.specs.List.{AllZip, IsDistinct, cons_option, count_by, flat_map, slice_get}
use Rattle.std.specs.List.Sorted.{IsPermutation, IsSortedByKey}
use Rattle.std.specs.Ordering.{int_cmp, int_eq, is_lt, on, ordering_reverse}
use Rattle.std.proofs.lemmas.Bool.{cases_lt, cond_both, eq-eqb, false≢true, ltb-true}
use Rattle.std.proofs.lemmas.Cmp.{int_cmp_total, int_eq_equiv, int_ranked, tied_itself}
use Rattle.std.proofs.lemmas.List.{get_or-map, length-map}
use Rattle.std.proofs.lemmas.List.Kept.{AllPairs-filter}
use Rattle.std.proofs.lemmas.List.Sorted.{ranks_by, sorted_far, IsPermutation-map}
use Rattle.std.proofs.lemmas.Map.Keys.{IsDistinct-IsPermutation, IsDistinct-from_apart, apart_from_distinct}
use Rattle.std.proofs.lemmas.Option.{same_Some, slice_get-get_or}
use Rattle.lists.specs.Member.{In}
use Rattle.lists.specs.Rising.{IsRising}
use Rattle.orbits.specs.Once.{HoldEachOnce}
use Rattle.orbits.specs.Orbits.{first}
use Rattle.coast_join.specs.declared.chain.Chain.{Chain}
use Rattle.coast_rings.specs.declared.ring.CoastRing.{CoastRing}
use Rattle.coast_join.specs.declared.way.CoastWay.{CoastWay}
use Rattle.coast_join.specs.ById.{id_at}
use Rattle.coast_join.specs.Chains.{AreChains, IsChain, WayPath, line_at}
use Rattle.coast_join.specs.ChainLaws.{NamesRise}
use Rattle.coast_join.specs.Closings.{names_of}
use Rattle.coast_join.specs.Joined.{IsCoastRing, IsLeast, IsUnclosed, chains_at, ways_of}
use Rattle.coast_join.specs.JoinSteps.{AreParts}
use Rattle.lists.proofs.ListsKit.{at-in, count_by-cons, in-all, in-filter, in-either, in-map-out, int_eq-same, int_eq-true, total, total-is}

-- ---- a number stands in one of the lists that share out numbers

count_in : (i : ℕ) (xs : List ℕ) → In i xs → 0 < count_by (nat_eq i) xs
count_in i [] j = absurd j
count_in i (x ∷ xs) (inl e) =
    let all = count_by-cons (nat_eq i) x xs in
    let one : cond {A = ℕ} (nat_eq i x) 1 0 ≡ 1 = ap (λ b. cond {A = ℕ} b 1 0) (eq-eqb i x e) in
    omega arith
count_in i (x ∷ xs) (inr j) = let all = count_by-cons (nat_eq i) x xs in let rest = count_in i xs j in omega arith

one_list : (f : List ℕ → ℕ) (xss : List (List ℕ)) (b : ℕ) → b < length xss → 0 < f (get_or xss b []) → 0 < total f xss
one_list f [] b l p = absurd (omega arith)
one_list f (xs ∷ xss) zero l p = omega arith
one_list f (xs ∷ xss) (suc b) l p = let rest = one_list f xss b (omega arith) p in omega arith

two_lists : (f : List ℕ → ℕ) (xss : List (List ℕ)) (a b : ℕ) → a < b → b < length xss → 0 < f (get_or xss a []) → 0 < f (get_or xss b []) → 2 ≤ total f xss
two_lists f [] a b h l p q = absurd (omega arith)
two_lists f (xs ∷ xss) zero zero h l p q = absurd (omega arith)
two_lists f (xs ∷ xss) zero (suc b) h l p q = let rest = one_list f xss b (omega arith) q in omega arith
two_lists f (xs ∷ xss) (suc a) zero h l p q = absurd (omega arith)
two_lists f (xs ∷ xss) (suc a) (suc b) h l p q = let rest = two_lists f xss a b (omega arith) (omega arith) p q in omega arith

kept_less : (f : List ℕ → ℕ) (p : List ℕ → Bool) (xss : List (List ℕ)) → total f (filter p xss) ≤ total f xss
kept_less f p [] = omega arith
kept_less f p (xs ∷ xss) = by (p xs) (kept_less f p xss)
  where
    by : (b : Bool) → total f (filter p xss) ≤ total f xss → total f (cond b (xs ∷ filter p xss) (filter p xss)) ≤ f xs + total f xss
    by true h = omega arith
    by false h = omega arith

some_true : (b : Bool) → 0 < cond {A = ℕ} b 1 0 → b ≡ true
some_true true h = refl
some_true false h = absurd (omega arith)

module _ (n : ℕ) (xss : List (List ℕ)) (each : HoldEachOnce n xss) where
  held : (i : ℕ) → total (count_by (nat_eq i)) xss ≤ 1
  held i = let same = total-is (count_by (nat_eq i)) xss in let is = each i in let most = cond_both {A = ℕ} (nat_lt i n) 1 0 (λ x. x ≤ 1) (λ e. omega arith) (λ e. omega arith) in omega arith

  no_two : (p : List ℕ → Bool) (i a b : ℕ) → a < b → b < length (filter p xss) → In i (get_or (filter p xss) a []) → In i (get_or (filter p xss) b []) → ⊥
  no_two p i a b h l x y =
      let two = two_lists (count_by (nat_eq i)) (filter p xss) a b h l (count_in i (get_or (filter p xss) a []) x) (count_in i (get_or (filter p xss) b []) y) in
      let less = kept_less (count_by (nat_eq i)) p xss in
      let most = held i in
      absurd (omega arith)

  same_list : (i a b : ℕ) → a < length xss → b < length xss → In i (get_or xss a []) → In i (get_or xss b []) → a ≡ b
  same_list i a b la lb x y = ⊎_elim
      (λ h. absurd (let two = two_lists (count_by (nat_eq i)) xss a b h lb (count_in i (get_or xss a []) x) (count_in i (get_or xss b []) y) in let most = held i in omega arith))
      (λ r. ⊎_elim
      (λ h. absurd (let two = two_lists (count_by (nat_eq i)) xss b a h la (count_in i (get_or xss b []) y) (count_in i (get_or xss a []) x) in let most = held i in omega arith))
      (λ s. omega arith)
      (cases_lt b a))
      (cases_lt a b)

  below : (i a : ℕ) → a < length xss → In i (get_or xss a []) → i < n
  below i a l x =
      let some = one_list (count_by (nat_eq i)) xss a l (count_in i (get_or xss a []) x) in
      let same = total-is (count_by (nat_eq i)) xss in
      let is = each i in
      ltb-true i n (some_true (nat_lt i n) (omega arith))

-- ---- where things stand

zip_at : {A B : Type 0} (R : A → B → Type 0) (xs : List A) (ys : List B) (k : ℕ) (y : B) → AllZip R xs ys → slice_get ys k ≡ Some y → (k < length xs) × ((d : A) → R (get_or xs k d) y)
zip_at R [] [] k y z e = absurd (cc)
zip_at R [] (b ∷ ys) k y z e = absurd z
zip_at R (x ∷ xs) [] k y z e = absurd z
zip_at R (x ∷ xs) (b ∷ ys) zero y z e = (omega arith, λ d. subst (R x) (same_Some b y e) z.0)
zip_at R (x ∷ xs) (b ∷ ys) (suc k) y z e = let r = zip_at R xs ys k y z.1 e in ((let l = r.0 in omega arith), r.1)

zip_long : {A B : Type 0} (R : A → B → Type 0) (xs : List A) (ys : List B) → AllZip R xs ys → length xs ≡ length ys
zip_long R [] [] z = refl
zip_long R [] (b ∷ ys) z = absurd z
zip_long R (x ∷ xs) [] z = absurd z
zip_long R (x ∷ xs) (b ∷ ys) z = ap suc (zip_long R xs ys z.1)

pub part_in : (chains : List Chain) (places : List ℕ) (c : Chain) → In c (chains_at chains places) → (k : ℕ) × In k places × (slice_get chains k ≡ Some c)
part_in chains [] c j = absurd j
part_in chains (i ∷ places) c j = by (slice_get chains i) refl j (part_in chains places c)
  where
    by : (o : Option Chain) → slice_get chains i ≡ o → In c (cons_option o (chains_at chains places)) → (In c (chains_at chains places) → (k : ℕ) × In k places × (slice_get chains k ≡ Some c)) → (k : ℕ) × In k (i ∷ places) × (slice_get chains k ≡ Some c)
    by None s j later = let r = later j in (r.0, inr r.1, r.2)
    by (Some d) s (inl e) later = (i, inl refl, s ∙ ap Some (sym e))
    by (Some d) s (inr j) later = let r = later j in (r.0, inr r.1, r.2)

flat_in : {X Y : Type 0} (h : X → List Y) (xs : List X) (z : Y) → In z (flat_map h xs) → (x : X) × In x xs × In z (h x)
flat_in h [] z i = absurd i
flat_in h (x ∷ xs) z i = ⊎_elim (λ a. (x, inl refl, a)) (λ b. let r = flat_in h xs z b in (r.0, inr r.1, r.2)) (in-either (h x) (flat_map h xs) z i)

-- ---- names

not_less : (a b : ℤ) → a ≡ b → int_cmp a b ≡ Less → ⊥
not_less a b e l = let t : int_cmp a b ≡ Equal = ap (int_cmp a) (sym e) ∙ tied_itself int_cmp_total a in let c : Less ≡ Equal = sym l ∙ t in absurd (cc)

abbrev some_line : WayPath
some_line = record { id = pos 0; path = [] }

module _ (ways : List CoastWay) (chains : List Chain) (are : AreChains ways chains) where
  sized : length are.next ≡ length are.sorted
  sized = are.links.sized ∙ length-map are.sorted _

  id_less : (i j : ℕ) → i < j → j < length are.sorted → int_cmp (line_at are.sorted i).id (line_at are.sorted j).id ≡ Less
  id_less i j h l =
      let long = length-map are.sorted (λ (x : WayPath). x.id) in
      let a = get_or-map (λ (x : WayPath). x.id) are.sorted i some_line (pos 0) (omega arith) in
      let b = get_or-map (λ (x : WayPath). x.id) are.sorted j some_line (pos 0) (omega arith) in
      let less = are.rising i j (pos 0) h (omega arith) in
      rw (a, b) at less

  one_id : (i j : ℕ) → i < length are.sorted → j < length are.sorted → (line_at are.sorted i).id ≡ (line_at are.sorted j).id → i ≡ j
  one_id i j h l e = ⊎_elim
      (λ less. absurd (not_less (line_at are.sorted i).id (line_at are.sorted j).id e (id_less i j less l)))
      (λ r. ⊎_elim (λ more. absurd (not_less (line_at are.sorted j).id (line_at are.sorted i).id (sym e) (id_less j i more h))) (λ s. omega arith) (cases_lt j i))
      (cases_lt i j)

  -- the chain at a place and the way of it that names a ring
  record IsNamedBy (o : List ℕ) (id : ℤ) : Type 0 where
    chain : ℕ
    stands : In chain o
    inside : chain < length are.orbits
    line : ℕ
    within : In line (get_or are.orbits chain [])
    is : id ≡ (line_at are.sorted line).id

  named : (o : List ℕ) (id : ℤ) → IsLeast (ways_of (chains_at chains o)) id → IsNamedBy o id
  named o id least =
      let f = flat_in (λ (c : Chain). c.ways) (chains_at chains o) id (let s = least.stands in subst (λ y. In y (ways_of (chains_at chains o))) s.2 (at-in (ways_of (chains_at chains o)) s.0 id s.1)) in
      let p = part_in chains o f.0 f.1 in
      let z = zip_at (IsChain are.sorted are.next) are.orbits chains p.0 f.0 are.each p.2 in
      let is : IsChain are.sorted are.next (get_or are.orbits p.0 []) f.0 = z.1 [] in
      let m = in-map-out (λ i. (line_at are.sorted i).id) (get_or are.orbits p.0 []) id (subst (In id) is.ways f.2) in
      record { chain = p.0; stands = p.1; inside = z.0; line = m.0; within = m.1; is = m.2 }

  same_chain : (o p : List ℕ) (id : ℤ) (a : IsNamedBy o id) (b : IsNamedBy p id) → a.chain ≡ b.chain
  same_chain o p id a b =
      let n = sized in
      let la = below (length are.next) are.orbits are.are_orbits.once a.line a.chain a.inside a.within in
      let lb = below (length are.next) are.orbits are.are_orbits.once b.line b.chain b.inside b.within in
      let same : a.line ≡ b.line = one_id a.line b.line (omega arith) (omega arith) (sym a.is ∙ b.is) in
      same_list (length are.next) are.orbits are.are_orbits.once b.line a.chain b.chain a.inside b.inside (subst (λ i. In i (get_or are.orbits a.chain [])) same a.within) b.within

  module _ (n : ℕ) (os : List (List ℕ)) (each : HoldEachOnce n os) (keeps : List ℕ → Bool) (rings : List CoastRing) (made : AllZip (λ (o : List ℕ) (r : CoastRing). IsCoastRing (chains_at chains o) r) (filter keeps os) rings) where
    rings_apart : (a b : ℕ) (d : CoastRing) → a < b → b < length rings → (get_or rings a d).name ≢ (get_or rings b d).name
    rings_apart a b d h l e =
        let r = get_or rings a d in
        let s = get_or rings b d in
        let za = zip_at (λ (o : List ℕ) (r : CoastRing). IsCoastRing (chains_at chains o) r) (filter keeps os) rings a r made (slice_get-get_or rings a d (omega arith)) in
        let zb = zip_at (λ (o : List ℕ) (r : CoastRing). IsCoastRing (chains_at chains o) r) (filter keeps os) rings b s made (slice_get-get_or rings b d l) in
        let na = named (get_or (filter keeps os) a []) s.name (subst (IsLeast (ways_of (chains_at chains (get_or (filter keeps os) a [])))) e (za.1 []).name) in
        let nb = named (get_or (filter keeps os) b []) s.name (zb.1 []).name in
        let same = same_chain (get_or (filter keeps os) a []) (get_or (filter keeps os) b []) s.name na nb in
        no_two n os each keeps nb.chain a b h zb.0 (subst (λ k. In k (get_or (filter keeps os) a [])) same na.stands) nb.stands

    pub names_apart : IsDistinct int_eq (map (λ (r : CoastRing). r.name) rings)
    names_apart = IsDistinct-from_apart int_eq (map (λ (r : CoastRing). r.name) rings) apart
      where
        apart : (i j : ℕ) (d : ℤ) → i < j → j < length (map (λ (r : CoastRing). r.name) rings) → int_eq (get_or (map (λ (r : CoastRing). r.name) rings) i d) (get_or (map (λ (r : CoastRing). r.name) rings) j d) ≡ false
        apart i j d h l = by (int_eq (get_or (map (λ (r : CoastRing). r.name) rings) i d) (get_or (map (λ (r : CoastRing). r.name) rings) j d)) refl
          where
            long : length (map (λ (r : CoastRing). r.name) rings) ≡ length rings
            long = length-map rings (λ (r : CoastRing). r.name)

            some : (xs : List CoastRing) → j < length xs → CoastRing
            some [] m = absurd (omega arith)
            some (x ∷ xs) m = x

            by : (b : Bool) → int_eq (get_or (map (λ (r : CoastRing). r.name) rings) i d) (get_or (map (λ (r : CoastRing). r.name) rings) j d) ≡ b → int_eq (get_or (map (λ (r : CoastRing). r.name) rings) i d) (get_or (map (λ (r : CoastRing). r.name) rings) j d) ≡ false
            by false e = e
            by true e =
                let n = long in
                let x : CoastRing = some rings (omega arith) in
                let a = get_or-map (λ (r : CoastRing). r.name) rings i x d (omega arith) in
                let b = get_or-map (λ (r : CoastRing). r.name) rings j x d (omega arith) in
                absurd (rings_apart i j x h (omega arith) (sym a ∙ (int_eq-true _ _ e ∙ b)))

-- ---- sorted by names that differ, rings rise by name

less_name : (a b : ℤ) → is_lt (int_cmp b a) ≡ false → int_eq a b ≡ false → int_cmp a b ≡ Less
less_name a b up apart = by (int_cmp b a) refl up
  where
    by : (o : Ordering) → int_cmp b a ≡ o → is_lt o ≡ false → int_cmp a b ≡ Less
    by Less e u = absurd (false≢true (sym u))
    by Equal e u = absurd (false≢true (sym apart ∙ int_eq-same a b (sym (int_ranked b a Equal (sym e)))))
    by Greater e u = int_cmp_total.antisymm a b ∙ ap ordering_reverse e

pub rising_names : (rings sorted : List CoastRing) → IsDistinct int_eq (map (λ (r : CoastRing). r.name) rings) → IsPermutation rings sorted → IsSortedByKey (λ (r : CoastRing). r.name) int_cmp sorted → IsRising (on (λ (r : CoastRing). r.name) int_cmp) sorted
rising_names rings sorted differ moved up i j d h l =
    let apart : IsDistinct int_eq (map (λ (r : CoastRing). r.name) sorted) = IsDistinct-IsPermutation int_eq int_eq_equiv.symm (map (λ (r : CoastRing). r.name) rings) (map (λ (r : CoastRing). r.name) sorted) (IsPermutation-map (λ (r : CoastRing). r.name) rings sorted moved) differ in
    let long = length-map sorted (λ (r : CoastRing). r.name) in
    let a = get_or-map (λ (r : CoastRing). r.name) sorted i d (pos 0) (omega arith) in
    let b = get_or-map (λ (r : CoastRing). r.name) sorted j d (pos 0) (omega arith) in
    let far = sorted_far (λ (x : CoastRing) (y : CoastRing). is_lt (int_cmp x.name y.name)) (ranks_by int_cmp_total (λ (r : CoastRing). r.name)) sorted up i j d (omega arith) l in
    let differs = apart_from_distinct int_eq (map (λ (r : CoastRing). r.name) sorted) i j (pos 0) apart h (omega arith) in
    less_name (get_or sorted i d).name (get_or sorted j d).name far (rw (a, b) at differs)

-- ---- an unclosed chain has the name of its first chain

gone : (cs : List Chain) (k : ℕ) → k < length cs → slice_get cs k ≡ None → ⊥
gone [] k h e = absurd (omega arith)
gone (c ∷ cs) zero h e = absurd (cc)
gone (c ∷ cs) (suc k) h e = gone cs k (omega arith) e

pub lead : (chains : List Chain) (places : List ℕ) → 0 < length places → All (λ k. k < length chains) places → (c : Chain) × (rest : List Chain) × (chains_at chains places ≡ c ∷ rest) × (slice_get chains (get_or places 0 0) ≡ Some c)
lead chains [] h inside = absurd (omega arith)
lead chains (k ∷ ks) h inside = by (slice_get chains k) refl
  where
    by : (o : Option Chain) → slice_get chains k ≡ o → (c : Chain) × (rest : List Chain) × (chains_at chains (k ∷ ks) ≡ c ∷ rest) × (slice_get chains k ≡ Some c)
    by (Some c) e = (c, chains_at chains ks, rw e refl, e)
    by None e = absurd (gone chains k (inside 0 0 (omega arith)) e)

pub name_at : (chains : List Chain) (k : ℕ) (c : Chain) → slice_get chains k ≡ Some c → id_at (names_of chains) k ≡ c.name
name_at [] k c e = absurd (cc)
name_at (x ∷ xs) zero c e = ap (λ (y : Chain). y.name) (same_Some x c e)
name_at (x ∷ xs) (suc k) c e = name_at xs k c e

head_id : (xs ys : List ℤ) → 0 < length xs → id_at (xs ++ ys) 0 ≡ id_at xs 0
head_id [] ys h = absurd (omega arith)
head_id (x ∷ xs) ys h = refl

module _ (ways : List CoastWay) (chains : List Chain) (are : AreChains ways chains) (rise : NamesRise) where
  own_name : (k : ℕ) (c : Chain) → slice_get chains k ≡ Some c → id_at c.ways 0 ≡ c.name
  own_name k c e =
      let z = zip_at (IsChain are.sorted are.next) are.orbits chains k c are.each e in
      let is : IsChain are.sorted are.next (get_or are.orbits k []) c = z.1 [] in
      let f : ℕ → ℤ = λ i. (line_at are.sorted i).id in
      let some : 0 < length c.ways = c.some in
      let long : length c.ways ≡ length (get_or are.orbits k []) = ap length is.ways ∙ length-map (get_or are.orbits k []) f in
      ap (λ (xs : List ℤ). id_at xs 0) is.ways ∙ (get_or-map f (get_or are.orbits k []) 0 0 (pos 0) (omega arith) ∙ sym is.name)

  first_name : (o : List ℕ) (chain : Chain) → AreParts chains o → IsUnclosed (chains_at chains o) chain → chain.name ≡ id_at (names_of chains) (get_or o 0 0)
  first_name o chain parts is =
      let l = lead chains o parts.some parts.inside in
      let c : Chain = l.0 in
      let some : 0 < length c.ways = c.some in
      is.name ∙ (ap (λ (xs : List ℤ). id_at xs 0) (is.ways ∙ ap ways_of l.2) ∙ (head_id c.ways (ways_of l.1) some ∙ (own_name (get_or o 0 0) c l.3 ∙ sym (name_at chains (get_or o 0 0) c l.3))))

  pub rising_unclosed : (os : List (List ℕ)) (keeps : List ℕ → Bool) (unclosed : List Chain) → All (AreParts chains) os → AllPairs (λ (o : List ℕ) (p : List ℕ). first o < first p) os → AllZip (λ (o : List ℕ) (c : Chain). IsUnclosed (chains_at chains o) c) (filter keeps os) unclosed
      → IsRising (on (λ (c : Chain). c.name) int_cmp) unclosed
  rising_unclosed os keeps unclosed parts firsts made i j d h l =
      let zi = zip_at (λ (o : List ℕ) (c : Chain). IsUnclosed (chains_at chains o) c) (filter keeps os) unclosed i (get_or unclosed i d) made (slice_get-get_or unclosed i d (omega arith)) in
      let zj = zip_at (λ (o : List ℕ) (c : Chain). IsUnclosed (chains_at chains o) c) (filter keeps os) unclosed j (get_or unclosed j d) made (slice_get-get_or unclosed j d l) in
      let oi = get_or (filter keeps os) i [] in
      let oj = get_or (filter keeps os) j [] in
      let pi : AreParts chains oi = in-all (AreParts chains) os oi parts (in-filter keeps os oi (at-in (filter keeps os) i [] zi.0)) in
      let pj : AreParts chains oj = in-all (AreParts chains) os oj parts (in-filter keeps os oj (at-in (filter keeps os) j [] zj.0)) in
      let less : first oi < first oj = AllPairs-filter (λ (o : List ℕ) (p : List ℕ). first o < first p) keeps os firsts i j [] h zj.0 in
      let inside : get_or oj 0 0 < length chains = pj.inside 0 0 pj.some in
      let long = length-map chains (λ (c : Chain). c.name) in
      let names = rise ways chains are (get_or oi 0 0) (get_or oj 0 0) (pos 0) less (omega arith) in
      ap (λ z. int_cmp z (get_or unclosed j d).name) (first_name oi (get_or unclosed i d) pi (zi.1 []))
      ∙ (ap (int_cmp (id_at (names_of chains) (get_or oi 0 0))) (first_name oj (get_or unclosed j d) pj (zj.1 [])) ∙ names)
