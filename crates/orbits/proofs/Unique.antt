-- The orbits of a map in order are determined.
use Rattle.std.proofs.Common.{◌≡◌, ◌≢◌, ◌⊎◌, inl, inr, ℕ, zero, suc, ◌+◌, ◌-◌, ◌<◌, ◌≤◌, List, [], ◌∷◌, length, get_or, replicate, All, AllPairs, false, refl, sym, ap, ◌∙◌, arith, ⊎_elim, Option, Some, None, count_by, sum_by, eqb}
use Rattle.std.proofs.lemmas.Bool.{cases_lt, both_ways, lt-ltb}
use Rattle.std.proofs.lemmas.List.{length-replicate}
use Rattle.std.proofs.lemmas.Grind.{same_number_lists}
use Rattle.std.proofs.lemmas.List.Sums.{sum_by-cons}
use Rattle.orbits.specs.Marks.{IsMarked}
use Rattle.orbits.specs.Orbits.{after, IsOneToOne, IsOrbit, AreOrbits, AreOrbitsInOrder, first, last_number}
use Rattle.orbits.proofs.Reading.{unwrap}
use Rattle.orbits.proofs.Members.{Present, Distinct, find, count_absent, held_below, held_distinct}
use Rattle.orbits.proofs.Finding.{none_marked, mark_orbit, back_to_first, blank, some_or_none}
use Rattle.orbits.proofs.Exists.{mark_exists}

abbrev Rising : List (List ℕ) → Type 0
Rising os = AllPairs (λ o p. first o < first p) os

abbrev EachStands : List (List ℕ) → List (List ℕ) → Type 0
EachStands os ps = (a : ℕ) → a < length os → (b : ℕ) × (b < length ps) × (get_or os a [] ≡ get_or ps b [])

-- lists in the order of their firsts, each of which stands in the other, are one
same_rising_lists : (os ps : List (List ℕ)) → Rising os → Rising ps → EachStands os ps → EachStands ps os → os ≡ ps
same_rising_lists [] [] up down there back = refl
same_rising_lists [] (p ∷ ps) up down there back = let b = back 0 (omega arith) in let l = b.1 in absurd (omega arith)
same_rising_lists (o ∷ os) [] up down there back = let b = there 0 (omega arith) in let l = b.1 in absurd (omega arith)
same_rising_lists (o ∷ os) (p ∷ ps) up down there back =
    let rest = same_rising_lists os ps (λ i j d l m. up (suc i) (suc j) d (omega arith) (omega arith)) (λ i j d l m. down (suc i) (suc j) d (omega arith) (omega arith))
    (λ a h. tail o p os ps up heads a h (there (suc a) (omega arith)))
    (λ a h. tail p o ps os down (sym heads) a h (back (suc a) (omega arith))) in
    cc (heads, rest)
  where
    tail : (o p : List ℕ) (os ps : List (List ℕ)) → Rising (o ∷ os) → o ≡ p → (a : ℕ) → a < length os → ((b : ℕ) × (b < length (p ∷ ps)) × (get_or (o ∷ os) (suc a) [] ≡ get_or (p ∷ ps) b [])) → (b : ℕ) × (b < length ps) × (get_or os a [] ≡ get_or ps b [])
    tail o p os ps up same a h (zero, l, e) =
        let lower : first o < first (get_or os a []) = up 0 (suc a) [] (omega arith) (omega arith) in
        let is : first (get_or os a []) ≡ first o = ap first e ∙ ap first (sym same) in
        absurd (omega arith)
    tail o p os ps up same a h (suc b, l, e) = (b, omega arith, e)

    head : ((b : ℕ) × (b < length (p ∷ ps)) × (o ≡ get_or (p ∷ ps) b [])) → ((a : ℕ) × (a < length (o ∷ os)) × (p ≡ get_or (o ∷ os) a [])) → o ≡ p
    head (zero, l, e) t = e
    head (suc b, l, e) (zero, m, f) = sym f
    head (suc b, l, e) (suc a, m, f) =
        let one : first p < first (get_or ps b []) = down 0 (suc b) [] (omega arith) l in
        let two : first o < first (get_or os a []) = up 0 (suc a) [] (omega arith) m in
        let at_o = ap first e in
        let at_p = ap first f in
        absurd (omega arith)

    heads : o ≡ p
    heads = head (there 0 (omega arith)) (back 0 (omega arith))

module _ (next : List (Option ℕ)) (map : IsOneToOne next) where
  module _ (o p : List ℕ) (oo : IsOrbit next o) (pp : IsOrbit next p) (within : (k : ℕ) → k < length o → get_or o k 0 < length next) where
    -- an orbit holds the first of each orbit that it meets
    holds_first : (x : ℕ) → Present x o → Present x p → Present (first p) o
    holds_first x q r =
        let long = length-replicate (length next) false in
        let marks = mark_exists (replicate (length next) false) o (λ k h. let low = within k h in omega arith) in
        let closed = mark_orbit next map (replicate (length next) false) marks.0 o (none_marked next) oo marks.1 in
        let here : IsMarked marks.0 x = rw (← q.2) (marks.1.here q.0 q.1) in
        let at_first : IsMarked marks.0 (first p) = back_to_first next map marks.0 p closed pp.steps r.0 r.1 (rw r.2 here) in
        ⊎_elim (λ s. s) (λ gone. absurd (both_ways _ (marks.1.others (first p) gone ∙ blank (length next) (first p)) at_first)) (find (first p) o)

  -- each number of an orbit but the first has one before it
  before_or_first : (o : List ℕ) (y : ℕ) → IsOrbit next o → Present y o → (y ≡ first o) ⊎ ((i : ℕ) × (after next i ≡ Some y))
  before_or_first o y oo (zero, h, e) = inl (sym e)
  before_or_first o y oo (suc k, h, e) =
      let same : k + 1 ≡ suc k = omega arith in
      inr (get_or o k 0, oo.steps k (omega arith) ∙ ap Some (ap (λ m. get_or o m 0) same ∙ e))

  -- orbits that meet begin alike
  same_first : (o p : List ℕ) → IsOrbit next o → IsOrbit next p → ((k : ℕ) → k < length o → get_or o k 0 < length next) → ((k : ℕ) → k < length p → get_or p k 0 < length next) → (after next (last_number o) ≢ None → All (λ i. first o ≤ i) o) → (after next (last_number p) ≢ None → All (λ i. first p ≤ i) p) → (x : ℕ) → Present x o → Present x p → first o ≡ first p
  same_first o p oo pp below_o below_p least_o least_p x q r =
      let fp = holds_first o p oo pp below_o x q r in
      let fo = holds_first p o pp oo below_p x r q in
      ⊎_elim
      (λ on_o. ⊎_elim
      (λ on_p.
      let up = least_o (λ none. some_is_not on_o.0 (sym on_o.1 ∙ none)) fp.0 0 fp.1 in
      let down = least_p (λ none. some_is_not on_p.0 (sym on_p.1 ∙ none)) fo.0 0 fo.1 in
      let is_p = fp.2 in
      let is_o = fo.2 in
      omega arith)
      (λ none. ⊎_elim (λ e. sym e) (λ s. absurd (pp.opens none s.0 s.1)) (before_or_first o (first p) oo fp))
      (some_or_none (after next (last_number p))))
      (λ none. ⊎_elim (λ e. e) (λ s. absurd (oo.opens none s.0 s.1)) (before_or_first p (first o) pp fo))
      (some_or_none (after next (last_number o)))
    where
      some_is_not : (y : ℕ) → Some y ≡ None → ⊥
      some_is_not y e = cc

  agree : (o p : List ℕ) → IsOrbit next o → IsOrbit next p → first o ≡ first p → (k : ℕ) → k < length o → k < length p → get_or o k 0 ≡ get_or p k 0
  agree o p oo pp e zero h l = e
  agree o p oo pp e (suc k) h l =
      let before = agree o p oo pp e k (omega arith) (omega arith) in
      let same : k + 1 ≡ suc k = omega arith in
      let at_o : after next (get_or o k 0) ≡ Some (get_or o (suc k) 0) = oo.steps k (omega arith) ∙ ap Some (ap (λ m. get_or o m 0) same) in
      let at_p : after next (get_or p k 0) ≡ Some (get_or p (suc k) 0) = pp.steps k (omega arith) ∙ ap Some (ap (λ m. get_or p m 0) same) in
      unwrap _ _ (sym at_o ∙ (ap (after next) before ∙ at_p))

  not_shorter : (o p : List ℕ) → IsOrbit next o → IsOrbit next p → Distinct p → first o ≡ first p → length o < length p → ⊥
  not_shorter o p oo pp d e l =
      let some = oo.some in
      let m = length o - 1 in
      let end : last_number o ≡ get_or p m 0 = agree o p oo pp e m (omega arith) (omega arith) in
      let on : after next (last_number o) ≡ Some (get_or p (m + 1) 0) = ap (after next) end ∙ pp.steps m (omega arith) in
      d 0 (m + 1) (omega arith) (omega arith) (sym e ∙ sym (oo.closes (get_or p (m + 1) 0) on))

  same_orbit : (o p : List ℕ) → IsOrbit next o → IsOrbit next p → Distinct o → Distinct p → first o ≡ first p → o ≡ p
  same_orbit o p oo pp d_o d_p e = ⊎_elim
      (λ l. absurd (not_shorter o p oo pp d_p e l))
      (λ l. ⊎_elim
      (λ m. absurd (not_shorter p o pp oo d_o (sym e) m))
      (λ m. let long : length o ≡ length p = omega arith in same_number_lists o p long (λ k h. agree o p oo pp e k h (omega arith)))
      (cases_lt (length p) (length o)))
      (cases_lt (length o) (length p))

  where_held : (x : ℕ) (os : List (List ℕ)) → 1 ≤ sum_by (count_by (eqb x)) os → (a : ℕ) × (a < length os) × Present x (get_or os a [])
  where_held x [] h = absurd (omega arith)
  where_held x (o ∷ os) h = ⊎_elim
      (λ p. (0, omega arith, p))
      (λ gone. let none = count_absent x o gone in
      let split = sum_by-cons (count_by (eqb x)) o os in
      let rest = where_held x os (omega arith) in (suc rest.0, let l = rest.1 in omega arith, rest.2))
      (find x o)

  -- each orbit of one list stands in the other
  stands : (os ps : List (List ℕ)) → AreOrbits next os → AreOrbitsInOrder next os → AreOrbits next ps → AreOrbitsInOrder next ps → (a : ℕ) → a < length os → (b : ℕ) × (b < length ps) × (get_or os a [] ≡ get_or ps b [])
  stands os ps ao io ap_ ip a h =
      let o = get_or os a [] in
      let oo = ao.each a [] h in
      let below = held_below (length next) os ao.once a [] h in
      let x = first o in
      let inside : x < length next = below 0 oo.some in
      let count : 1 ≤ sum_by (count_by (eqb x)) ps = rw (ap_.once x, lt-ltb x (length next) inside) (omega arith) in
      let found = where_held x ps count in
      let p = get_or ps found.0 [] in
      let pp = ap_.each found.0 [] found.1 in
      let heads = same_first o p oo pp below (held_below (length next) ps ap_.once found.0 [] found.1) (io.least a [] h) (ip.least found.0 [] found.1) x (0, oo.some, refl) found.2 in
      (found.0, found.1, same_orbit o p oo pp (held_distinct (length next) os ao.once a [] h) (held_distinct (length next) ps ap_.once found.0 [] found.1) heads)

  -- the orbits in order are determined
  pub same_orbits : (os ps : List (List ℕ)) → AreOrbits next os → AreOrbitsInOrder next os → AreOrbits next ps → AreOrbitsInOrder next ps → os ≡ ps
  same_orbits os ps ao io ap_ ip = same_rising_lists os ps io.firsts ip.firsts (stands os ps ao io ap_ ip) (stands ps os ap_ ip ao io)
