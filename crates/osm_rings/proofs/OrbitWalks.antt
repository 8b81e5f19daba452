-- The orbits of the map from each place to its successor's are walks.
use Rattle.std.proofs.Common.{◌≡◌, inl, inr, ℕ, zero, suc, ◌+◌, ◌-◌, ◌<◌, List, [], ◌∷◌, length, get_or, map, take, All, refl, sym, ap, subst, ◌∙◌, arith, Option, Some, sum_by}
use Rattle.std.proofs.lemmas.List.{take_all}
use Rattle.std.proofs.lemmas.List.Sums.{sum_by-cons, sum_by-append, sum_by_more}
use Rattle.plane_lists.specs.Rings.Nesting.{edges_of}
use Rattle.plane_lists.specs.Rings.Walk.{AreWalks, Follow, IsSuccessor, IsWalk, last}
use Rattle.plane.specs.Edge.{Edge}
use Rattle.lists.specs.Member.{In}
use Rattle.lists.proofs.ListsKit.{at-in, in-map-out}
use Rattle.orbits.specs.Once.{HoldEachOnce}
use Rattle.orbits.specs.OnceLaws.{SumsAgree, StandBelow, sum_below}
use Rattle.orbits.specs.Orbits.{AreOrbits, IsOrbit, after, first}
use Rattle.orbits.specs.Orbits as orbit
use Rattle.osm_rings.specs.Numbered.{edge_at, nowhere}
use Rattle.osm_rings.proofs.PlaneNumbers.{AreSuccessors}

pub edge-in : (es : List Edge) (i : ℕ) → i < length es → In (edge_at es i) es
edge-in es i h = at-in es i nowhere h

-- the place of a member
pub place-in : {X : Type 0} (xs : List X) (d x : X) → In x xs → (i : ℕ) × (i < length xs) × (get_or xs i d ≡ x)
place-in [] d x h = absurd h
place-in (y ∷ xs) d x (inl e) = (0, omega arith, sym e)
place-in (y ∷ xs) d x (inr h) = let r = place-in xs d x h in (suc r.0, let l = r.1 in omega arith, r.2)

-- the last of a list and one before it
pub last-is : (es : List Edge) (z : ℕ) (o : List ℕ) → last (edge_at es z) (map (edge_at es) o) ≡ edge_at es (get_or (z ∷ o) (length o) 0)
last-is es z [] = refl
last-is es z (x ∷ xs) = last-is es x xs

module _ (es : List Edge) (next : List (Option ℕ)) (are : AreSuccessors es next) where
  module _ (o : List ℕ) (w : IsOrbit next o) (below : All (λ i. i < length es) o) where
    abbrev end : ℕ
    end = orbit.last_number o

    end-below : end < length es
    end-below = let some = w.some in below (length o - 1) 0 (omega arith)

    -- the last of an orbit leads to its first
    closes : after next end ≡ Some (first o)
    closes = let on = are.total end end-below in on.1 ∙ ap Some (w.closes on.0 on.1)

    -- each leads to the next, the last to the first
    pub round : (k : ℕ) → k < length o → after next (get_or (end ∷ o) k 0) ≡ Some (get_or o k 0)
    round zero h = closes
    round (suc k) h =
        let same : k + 1 ≡ suc k = omega arith in
        w.steps k (omega arith) ∙ ap Some (ap (λ m. get_or o m 0) same)

    pub end-is : get_or (end ∷ o) (length o) 0 ≡ end
    end-is = at-end (length o) w.some refl
      where
        at-end : (n : ℕ) → 0 < n → n ≡ length o → get_or (end ∷ o) n 0 ≡ end
        at-end zero h e = absurd (omega arith)
        at-end (suc n) h e = ap (λ m. get_or o m 0) (omega arith)

  follow : (z : ℕ) (o : List ℕ) → ((k : ℕ) → k < length o → after next (get_or (z ∷ o) k 0) ≡ Some (get_or o k 0)) → Follow (IsSuccessor es) (edge_at es z) (map (edge_at es) o)
  follow z [] h = tt
  follow z (x ∷ xs) h = (are.right z x (h 0 (omega arith)), follow x xs (λ k l. h (suc k) (omega arith)))

  pub orbit-walk : (o : List ℕ) → IsOrbit next o → All (λ i. i < length es) o → IsWalk es (map (edge_at es) o)
  orbit-walk o w below = record {
    here = λ e i.
        let r = in-map-out (edge_at es) o e i in
        let p = place-in o 0 r.0 r.1 in
        let low : r.0 < length es = rw (← p.2) (below p.0 0 p.1) in
        subst (λ x. In x es) (sym r.2) (edge-in es r.0 low);
    cycle = record {
      end = edge_at es (orbit.last_number o);
      closed = last-is es (orbit.last_number o) o ∙ ap (edge_at es) (end-is o w below);
      steps = follow (orbit.last_number o) o (round o w below);
    };
  }

  sum-map : (f : Edge → ℕ) (o : List ℕ) → sum_by f (map (edge_at es) o) ≡ sum_by (λ k. f (edge_at es k)) o
  sum-map f [] = refl
  sum-map f (x ∷ xs) = sum_by-cons f (edge_at es x) (map (edge_at es) xs) ∙ (ap (λ n. f (edge_at es x) + n) (sum-map f xs) ∙ sym (sum_by-cons (λ k. f (edge_at es k)) x xs))

  sum-edges : (f : Edge → ℕ) (os : List (List ℕ)) → sum_by f (edges_of (map (map (edge_at es)) os)) ≡ sum_by (λ o. sum_by (λ k. f (edge_at es k)) o) os
  sum-edges f [] = refl
  sum-edges f (o ∷ os) =
      sum_by-append f (map (edge_at es) o) (edges_of (map (map (edge_at es)) os))
      ∙ (rw (sum-map f o, sum-edges f os) (sym (sum_by-cons (λ o. sum_by (λ k. f (edge_at es k)) o) o os)))

  sum-front : (f : Edge → ℕ) (n : ℕ) → n < length es + 1 → sum_below (λ k. f (edge_at es k)) n ≡ sum_by f (take n es)
  sum-front f zero h = refl
  sum-front f (suc n) h =
      let rest = sum-front f n (omega arith) in
      let more = sum_by_more f es n nowhere (omega arith) in
      let same : suc n ≡ n + 1 = omega arith in
      ap (λ m. m + f (edge_at es n)) rest ∙ (sym more ∙ ap (λ m. sum_by f (take m es)) (sym same))

  -- the orbits are walks that hold each edge once
  pub orbits-walks : SumsAgree → StandBelow → (os : List (List ℕ)) → AreOrbits next os → AreWalks es (map (map (edge_at es)) os)
  orbits-walks sums stand os are_orbits =
      let once : HoldEachOnce (length es) os = rw (← are.sized) are_orbits.once in
      record {
        walk = λ w i.
            let r = in-map-out (map (edge_at es)) os w i in
            let p = place-in os [] r.0 r.1 in
            let o : IsOrbit next r.0 = rw (← p.2) (are_orbits.each p.0 [] p.1) in
            let low : All (λ i. i < length es) r.0 = rw (← p.2) (stand (length es) os once p.0 [] p.1) in
            subst (IsWalk es) (sym r.2) (orbit-walk r.0 o low);
        whole = λ f.
            sum-edges f os
            ∙ (sums (length es) os once (λ k. f (edge_at es k))
            ∙ (sum-front f (length es) (omega arith) ∙ ap (sum_by f) (take_all (length es) es (omega arith))));
      }
