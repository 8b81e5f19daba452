-- Closed walks that pass each edge once are the rings.
use Rattle.std.proofs.Common.{◌≡◌, ℕ, zero, suc, ◌+◌, ◌-◌, ◌<◌, ◌≤◌, List, [], ◌∷◌, ◌++◌, length, get_or, map, All, Option, Some, cond, refl, sym, ap, subst, ◌∙◌, arith, ⊎_elim, count_by, sum_by, eqb}
use Rattle.std.proofs.lemmas.Bool.{cases_lt, lt-ltb}
use Rattle.std.proofs.lemmas.List.{get_or_default}
use Rattle.std.proofs.lemmas.List.Sums.{sum_by-cons}
use Rattle.orbits.specs.Once.{HoldEachOnce}
use Rattle.orbits.specs.Orbits.{AreOrbits, IsOrbit, after, first, last_number}
use Rattle.orbits.proofs.Finding.{some_or_none}
use Rattle.orbits.proofs.Members.{count_absent, find}
use Rattle.orbits.proofs.Reading.{unwrap}
use Rattle.orbits.proofs.Sums.{all_below, sums_agree}
use Rattle.osm_geom.specs.declared.edge.Edge.{Edge}
use Rattle.osm_geom.specs.declared.point.Point.{Point}
use Rattle.osm_geom.specs.InPlane.Sided.{IsSided}
use Rattle.osm_rings.specs.Apart.{IsFirstLeaving, LeaveApart, LeavesFirst}
use Rattle.osm_rings.specs.Pieces.{AreRingsAlong, edges_at}
use Rattle.osm_rings.specs.RingList.{AreRingsOf}
use Rattle.osm_rings.specs.Walked.{AreWalksOf, IsClosedWalk, IsFollower}
use Rattle.osm_rings.proofs.ApartEdges.{AreFollowersUpTo, followers-lead, followers-more, numbers, orbits-cut, places-tell}
use Rattle.osm_rings.proofs.Multiplied.{pick}
use Rattle.osm_rings.proofs.RingLists.{pieces-are-rings}

-- ---- no two edges are the first to leave a point
first-one : (es : List Edge) (p : Point) (i j : ℕ) (d : Edge) → LeavesFirst es p i → LeavesFirst es p j → i ≡ j
first-one es p i j d a b = ⊎_elim
    (λ l. absurd (b.before i d l (a.leaves d)))
    (λ l. ⊎_elim
    (λ m. absurd (a.before j d m (b.leaves d)))
    (λ m. let e : i ≡ j = omega arith in e)
    (cases_lt j i))
    (cases_lt i j)

-- ---- one closed walk
module _ (es : List Edge) (o : List ℕ) (w : IsClosedWalk es o) where
  abbrev at : ℕ → ℕ
  at k = get_or o k 0

  -- each edge of it is the first that leaves its point
  entered : (k : ℕ) → k < length o → (z : Edge) → LeavesFirst es (get_or es (at k) z).from (at k)
  entered zero l z =
      let b = w.closes z in
      subst (λ p. LeavesFirst es p (at 0)) (sym (b.leaves z)) b
  entered (suc k) l z =
      let same : k + 1 ≡ suc k = omega arith in
      let b = w.steps k (omega arith) z in
      subst (λ m. LeavesFirst es (get_or es m z).from m) (ap at same) (subst (λ p. LeavesFirst es p (at (k + 1))) (sym (b.leaves z)) b)

  -- and has a follower
  leads : (k : ℕ) → k < length o → (j : ℕ) × IsFollower es (at k) j
  leads k l = ⊎_elim
      (λ m. (at (k + 1), w.steps k m))
      (λ m.
      let end : length o - 1 ≡ k = omega arith in
      (at 0, subst (λ i. IsFollower es i (at 0)) (ap at end) w.closes))
      (cases_lt (k + 1) (length o))

-- ---- closed walks that pass each edge once
module _ (es : List Edge) (walks : List (List ℕ)) (each : All (IsClosedWalk es) walks) (once : HoldEachOnce (length es) walks) where
  -- what holds of each place of each walk holds of each place
  held : (P : ℕ → Type 0) → All (λ o. (k : ℕ) → k < length o → P (get_or o k 0)) walks → (i : ℕ) → i < length es → P i
  held P all i h = somewhere walks all (let one = once i in let yes = ap (λ b. cond {A = ℕ} b 1 0) (lt-ltb i (length es) h) in omega arith)
    where
      somewhere : (os : List (List ℕ)) → All (λ o. (k : ℕ) → k < length o → P (get_or o k 0)) os → 1 ≤ sum_by (count_by (eqb i)) os → P i
      somewhere [] all some = absurd (omega arith)
      somewhere (o ∷ os) all some = ⊎_elim
          (λ p. subst P p.2 (all 0 [] (omega arith) p.0 p.1))
          (λ gone.
          let none = count_absent i o gone in
          let split = sum_by-cons (count_by (eqb i)) o os in
          somewhere os (λ k d l. all (suc k) d (omega arith)) (omega arith))
          (find i o)

  leave-apart : LeaveApart es
  leave-apart i z h = held (λ j. (z : Edge) → LeavesFirst es (get_or es j z).from j) (λ a d l. entered es (get_or walks a d) (each a d l)) i h z

  follower : (i : ℕ) → i < length es → (j : ℕ) × IsFollower es i j
  follower = held (λ i. (j : ℕ) × IsFollower es i j) (λ a d l. leads es (get_or walks a d) (each a d l))

  followers : (m : ℕ) → m ≤ length es → (next : List (Option ℕ)) × AreFollowersUpTo es m next
  followers zero h = ([], record { sized = refl; each = λ i z l. absurd (omega arith) })
  followers (suc m) h =
      let before = followers m (omega arith) in
      let f = follower m (omega arith) in
      let d = pick es (omega arith) in
      let e = get_or es m d in
      let same : m + 1 ≡ suc m = omega arith in
      let leaving : IsFirstLeaving es e.to (Some f.0) = record {
        some = λ place q. subst (LeavesFirst es e.to) (unwrap f.0 place q) (f.1 d);
        none = λ q. absurd (cc);
      } in (
        before.0 ++ Some f.0 ∷ [],
        subst (λ k. AreFollowersUpTo es k (before.0 ++ Some f.0 ∷ [])) same (followers-more es m e (omega arith) (get_or_default es m d e (omega arith)) before.0 (Some f.0) leaving before.1),
      )

  next : List (Option ℕ)
  next = (followers (length es) (omega arith)).0

  are-followers : AreFollowersUpTo es (length es) next
  unfolding next followers
  are-followers = (followers (length es) (omega arith)).1

  goes-on : (i j : ℕ) → i < length es → IsFollower es i j → after next i ≡ Some j
  goes-on i j h f =
      let d = pick es (omega arith) in
      let leaving = are-followers.each i d h in
      let here = f d in
      ⊎_elim
      (λ s. s.1 ∙ ap Some (first-one es (get_or es i d).to s.0 j d (leaving.some s.0 s.1) here))
      (λ none. absurd (leaving.none none j d here.inside (here.leaves d)))
      (some_or_none (after next i))

  orbit : (o : List ℕ) → IsClosedWalk es o → All (λ i. i < length es) o → IsOrbit next o
  orbit o w low = record {
    some = w.some;
    steps = λ k l. goes-on (get_or o k 0) (get_or o (k + 1) 0) (low k 0 (omega arith)) (w.steps k l);
    closes = λ j e. unwrap j (first o) (sym e ∙ come-back);
    opens = λ none i e. absurd (cc (sym none ∙ come-back));
  }
    where
      come-back : after next (last_number o) ≡ Some (first o)
      come-back = let some = w.some in goes-on (last_number o) (first o) (low (length o - 1) 0 (omega arith)) w.closes

  orbits : AreOrbits next walks
  orbits =
      let low = all_below (length es) walks once in
      record {
        once = subst (λ n. HoldEachOnce n walks) (sym are-followers.sized) once;
        each = λ k d l. orbit (get_or walks k d) (each k d l) (low k d l);
      }

  walks-are-rings : IsSided es → AreRingsOf es (map (edges_at es) walks)
  walks-are-rings sided =
      let are = followers-lead es leave-apart sided next are-followers in
      let cut = orbits-cut es leave-apart next are-followers.sized walks orbits in
      pieces-are-rings es sided next are (numbers es leave-apart) (places-tell es leave-apart) sums_agree all_below walks orbits walks cut

pub walks-along : (es : List Edge) → IsSided es → (places sizes : List ℕ) → AreWalksOf es places sizes → AreRingsAlong es places sizes
walks-along es sided places sizes are = record {
  walks = are.walks;
  along = are.along;
  within = all_below (length es) are.walks are.once;
  rings = walks-are-rings es are.walks are.each are.once sided;
}
