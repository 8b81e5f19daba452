-- Of edges of which no two leave one point each walk of successors is a ring.
use Rattle.std.proofs.Common.{◌≡◌, ◌≢◌, Bool, ℕ, zero, suc, ◌+◌, ◌<◌, List, [], ◌∷◌, ◌++◌, length, get_or, All, false, true, Option, Some, None, refl, sym, ap, subst, ◌∙◌, arith, ⊎_elim}
use Rattle.std.proofs.lemmas.Bool.{cases_lt}
use Rattle.std.specs.List.{IsAllAdjacentAnswer}
use Rattle.std.specs.Ordering.{is_eq}
use Rattle.std.proofs.lemmas.Cmp.{tied_itself}
use Rattle.std.proofs.lemmas.List.{append-nil, get_or_append_left, get_or_default, length-append}
use Rattle.std.proofs.Math.Seq.{get_or-append_seam}
use Rattle.lists.proofs.ListsKit.{clash, equal_from}
use Rattle.plane.specs.Edge as plane
use Rattle.plane.specs.Sign.{Minus, Null, Plus, Sign, sign}
use Rattle.plane.specs.Vector.{Vector, cross, dot, from_to}
use Rattle.plane.proofs.PlaneKit.{cross-self}
use Rattle.orbits.specs.Cutting.{IsPiece}
use Rattle.orbits.specs.Once.{HoldEachOnce}
use Rattle.orbits.specs.Orbits.{AreOrbits, IsOrbit, after}
use Rattle.osm_geom.specs.declared.edge.Edge.{Edge}
use Rattle.osm_geom.specs.declared.point.Point.{Point}
use Rattle.osm_geom.specs.Point.{point_cmp}
use Rattle.osm_geom.proofs.GeometryKit.{point_same, point_total}
use Rattle.osm_geom.specs.InPlane.Multiple.{point_times, product_of_denominators, whole_edges}
use Rattle.osm_geom.specs.InPlane.Sided.{IsSided}
use Rattle.osm_geom.proofs.EdgesKit.{same_is_same}
use Rattle.osm_rings.specs.Apart.{IsFirstLeaving, LeaveApart, LeavesFirst, NoneLeavesBefore}
use Rattle.osm_rings.specs.Clockwise.{earlier, is_met_before}
use Rattle.osm_rings.specs.declared.departure.Departure.{Departure}
use Rattle.osm_rings.specs.Departures.{AreDepartures, IsDepartureOf, IsFirstMet, start_at, step_at}
use Rattle.osm_rings.proofs.PieceSteps.{all_below, held_distinct}
use Rattle.osm_rings.proofs.Starts.{lt, lt-itself, ranked-chain, same-some, start-at}
use Rattle.std.proofs.lemmas.List.Elements.{All-contains}
use Rattle.osm_rings.specs.Numbered.{edge_at}
use Rattle.osm_rings.specs.Pieces.{AreAllCut}
use Rattle.osm_rings.proofs.Multiplied.{pick, read-edge, size, whole-at}
use Rattle.osm_rings.proofs.PlaneNumbers.{AreSuccessors, TellPoints}
use Rattle.osm_rings.proofs.RingLists.{successors-of}

-- ---- no direction is met before itself
earlier-itself : (x y : Sign) → earlier x y x y Null ≡ false
earlier-itself Minus Minus = refl
earlier-itself Minus Null = refl
earlier-itself Minus Plus = refl
earlier-itself Null Minus = refl
earlier-itself Null Null = refl
earlier-itself Null Plus = refl
earlier-itself Plus Minus = refl
earlier-itself Plus Null = refl
earlier-itself Plus Plus = refl

met-itself : (d a : Vector) → is_met_before d a a ≡ false
met-itself d a =
    ap (λ z. earlier (sign (dot d a)) (sign (cross d a)) (sign (dot d a)) (sign (cross d a)) (sign z)) (cross-self a)
    ∙ earlier-itself (sign (dot d a)) (sign (cross d a))

-- for each of the first edges the place of the first that leaves its end
pub record AreFollowersUpTo (es : List Edge) (n : ℕ) (next : List (Option ℕ)) : Type 0 where
  pub sized : length next ≡ n
  pub each : (i : ℕ) (d : Edge) → i < n → IsFirstLeaving es (get_or es i d).to (after next i)

-- ---- the first edge that leaves a point
module _ (es : List Edge) (n : ℕ) (e : Edge) (inside : n < length es) (is : e ≡ get_or es n e) where
  read : (d : Edge) → get_or es n d ≡ e
  read d = get_or_default es n d e inside ∙ sym is

  pub first-found : (p : Point) → is_eq (point_cmp e.from p) ≡ true → NoneLeavesBefore es p n → IsFirstLeaving es p (Some n)
  first-found p same before = record {
    some = λ place at. subst (LeavesFirst es p) (unwrap n place at) (record {
      inside = inside;
      leaves = λ d. ap (λ (f : Edge). f.from) (read d) ∙ point_same e.from p (equal_from (point_cmp e.from p) same);
      before = before;
    });
    none = λ at. absurd (cc);
  }
    where
      unwrap : (x y : ℕ) → Some x ≡ Some y → x ≡ y
      unwrap x y q = cc

  pub none-more : (p : Point) → is_eq (point_cmp e.from p) ≡ false → NoneLeavesBefore es p n → NoneLeavesBefore es p (n + 1)
  none-more p other before i d l leaves = ⊎_elim
      (λ m. before i d m leaves)
      (λ m.
      let at : n ≡ i = omega arith in
      let here : e.from ≡ p = ap (λ (f : Edge). f.from) (sym (read d) ∙ ap (λ k. get_or es k d) at) ∙ leaves in
      clash (is_eq (point_cmp e.from p)) (ap (λ q. is_eq (point_cmp q p)) here ∙ ap is_eq (tied_itself point_total p)) other)
      (cases_lt i n)

  pub followers-more : (next : List (Option ℕ)) (r : Option ℕ) → IsFirstLeaving es e.to r → AreFollowersUpTo es n next → AreFollowersUpTo es (n + 1) (next ++ r ∷ [])
  followers-more next r leaving before = record {
    sized = let sized = before.sized in omega (arith, length-append next (r ∷ []));
    each = λ i d l. ⊎_elim
        (λ m. let sized = before.sized in subst (IsFirstLeaving es (get_or es i d).to) (sym (get_or_append_left next (r ∷ []) None i (omega arith))) (before.each i d m))
        (λ m.
        let at : n ≡ i = omega arith in
        let last : r ≡ after (next ++ r ∷ []) i = sym (ap (λ j. get_or (next ++ r ∷ []) j None) (sym at ∙ sym before.sized) ∙ get_or-append_seam next r [] None) in
        subst (IsFirstLeaving es (get_or es i d).to) last (subst (λ k. IsFirstLeaving es (get_or es k d).to r) at (subst (λ (f : Edge). IsFirstLeaving es f.to r) (sym (read d)) leaving)))
        (cases_lt i n);
  }

pub none-found : (es : List Edge) (p : Point) (n : ℕ) → n ≡ length es → NoneLeavesBefore es p n → IsFirstLeaving es p None
none-found es p n all before = record {
  some = λ place at. absurd (cc);
  none = λ at. subst (NoneLeavesBefore es p) all before;
}

-- ---- the places themselves, as numbers of points
abbrev count_up : ℕ → ℕ → List ℕ
count_up k zero = []
count_up k (suc n) = k ∷ count_up (suc k) n

count_up-at : (k n i : ℕ) → i < n → get_or (count_up k n) i 0 ≡ k + i
count_up-at k zero i h = absurd (omega arith)
count_up-at k (suc n) zero h = omega arith
count_up-at k (suc n) (suc i) h = let later = count_up-at (suc k) n i (omega arith) in omega arith

module _ (es : List Edge) (apart : LeaveApart es) where
  abbrev m : ℕ
  m = product_of_denominators es

  abbrev xs : List plane.Edge
  xs = whole_edges es

  one-leaves : (j k : ℕ) (d : Edge) → j < length es → k < length es → (get_or es j d).from ≡ (get_or es k d).from → j ≡ k
  one-leaves j k d hj hk e = ⊎_elim
      (λ l. let first = apart k d hk in absurd (first.before j d l e))
      (λ l. ⊎_elim
      (λ g. let first = apart j d hj in absurd (first.before k d g (sym e)))
      (λ g. omega arith)
      (cases_lt k j))
      (cases_lt j k)

  start-is : (k : ℕ) (d : Edge) → k < length es → (edge_at xs k).from ≡ point_times m (get_or es k d).from
  start-is k d h = ap (λ x. x.from) (read-edge m es k d h)

  end-is : (k : ℕ) (d : Edge) → k < length es → (edge_at xs k).to ≡ point_times m (get_or es k d).to
  end-is k d h = ap (λ x. x.to) (read-edge m es k d h)

  one-leaves-in-plane : (j k : ℕ) → j < length es → k < length es → (edge_at xs j).from ≡ (edge_at xs k).from → j ≡ k
  one-leaves-in-plane j k hj hk e =
      let d = pick es (omega arith) in
      let wj = whole-at es j d hj in let wk = whole-at es k d hk in
      one-leaves j k d hj hk (same_is_same m (get_or es j d).from (get_or es k d).from wj.some wj.first wk.first (sym (start-is j d hj) ∙ (e ∙ start-is k d hk)))

  -- the first that leaves the end of an edge is met first, as the only one
  pub first-met : (i : ℕ) (r : Option ℕ) (d : Edge) → i < length es → IsFirstLeaving es (get_or es i d).to r → IsFirstMet xs (edge_at xs i) r
  first-met i r d h leaving = record {
    some = λ j is.
        let long = size es in
        let l = leaving.some j is in
        let inside : j < length es = l.inside in
        let leaves : (edge_at xs j).from ≡ (edge_at xs i).to = start-is j d inside ∙ (ap (point_times m) (l.leaves d) ∙ sym (end-is i d h)) in
        record {
          inside = omega arith;
          leaves = leaves;
          first = λ k hk out.
              let same : j ≡ k = one-leaves-in-plane j k inside (omega arith) (leaves ∙ sym out) in
              subst (λ n. is_met_before (from_to (edge_at xs i).to (edge_at xs i).from) (step_at xs n) (step_at xs j) ≡ false) same (met-itself (from_to (edge_at xs i).to (edge_at xs i).from) (step_at xs j));
        };
    none = λ is k hk out.
        let long = size es in
        let inside : k < length es = omega arith in
        let wk = whole-at es k d inside in let wi = whole-at es i d h in
        leaving.none is k d inside (same_is_same m (get_or es k d).from (get_or es i d).to wk.some wk.first wi.second (sym (start-is k d inside) ∙ (out ∙ end-is i d h)));
  }

  -- so the places of the followers are those of the successors
  pub followers-first : (next : List (Option ℕ)) → AreFollowersUpTo es (length es) next → (i : ℕ) → i < length es → IsFirstMet xs (edge_at xs i) (after next i)
  followers-first next followers i h = let d = pick es (omega arith) in first-met i (after next i) d h (followers.each i d h)

  pub followers-lead : IsSided es → (next : List (Option ℕ)) → AreFollowersUpTo es (length es) next → AreSuccessors xs next
  followers-lead sided next followers = successors-of es sided next followers.sized (followers-first next followers)

  abbrev pub numbers : List ℕ
  numbers = count_up 0 (length es)

  number-at : (i : ℕ) → i < length es → get_or numbers i 0 ≡ i
  number-at i h = let at = count_up-at 0 (length es) i h in omega arith

  pub places-tell : TellPoints xs numbers
  places-tell i j hi hj =
      let long = size es in
      let hi_es : i < length es = omega arith in
      let hj_es : j < length es = omega arith in (
        λ same. ap (λ k. (edge_at xs k).from) (sym (number-at i hi_es) ∙ (same ∙ number-at j hj_es)),
        λ same. number-at i hi_es ∙ (one-leaves-in-plane i j hi_es hj_es same ∙ sym (number-at j hj_es)),
      )

  -- ---- nothing is cut off an orbit but itself
  orbit-piece : (o : List ℕ) → 0 < length o → All (λ i. i < length es) o → ((i j : ℕ) → i < j → j < length o → get_or o i 0 ≢ get_or o j 0) → IsPiece numbers o []
  orbit-piece o some low distinct = record {
    some = some;
    simple = λ i j l h same. distinct i j l h (sym (number-at (get_or o i 0) (low i 0 (omega arith))) ∙ (same ∙ number-at (get_or o j 0) (low j 0 h)));
    closed = refl;
  }

  module _ (next : List (Option ℕ)) where
    cut-whole : (os : List (List ℕ)) → All (IsOrbit next) os → All (λ o. All (λ i. i < length es) o) os → All (λ o. (i j : ℕ) → i < j → j < length o → get_or o i 0 ≢ get_or o j 0) os → AreAllCut numbers os os
    cut-whole [] orbits low distinct = refl
    cut-whole (o ∷ os) orbits low distinct =
        let orbit = orbits 0 [] (omega arith) in
        let piece = orbit-piece o orbit.some (low 0 [] (omega arith)) (distinct 0 [] (omega arith)) in (
          o ∷ [],
          os,
          refl,
          ([], [], sym (append-nil o), piece, refl),
          cut-whole os (λ k d l. orbits (suc k) d (omega arith)) (λ k d l. low (suc k) d (omega arith)) (λ k d l. distinct (suc k) d (omega arith)),
        )

    pub orbits-cut : length next ≡ length es → (os : List (List ℕ)) → AreOrbits next os → AreAllCut numbers os os
    orbits-cut sized os orbits =
        let once : HoldEachOnce (length es) os = subst (λ n. HoldEachOnce n os) sized orbits.once in
        cut-whole os orbits.each (all_below (length es) os once) (held_distinct (length es) os once)

-- ---- edges whose departures leave later and later points
module _ (es : List Edge) (ws : List Departure) (are : AreDepartures es ws) (rises : (k : ℕ) (d : Departure) → k + 1 < length ws → lt (get_or ws k d).edge.now.from (get_or ws (k + 1) d).edge.now.from ≡ true) where
  far : (m n : ℕ) (d : Departure) → m < n → n < length ws → lt (get_or ws m d).edge.now.from (get_or ws n d).edge.now.from ≡ true
  far m n d l h = by (lt (get_or ws m d).edge.now.from (get_or ws n d).edge.now.from) refl
    where
      by : (b : Bool) → lt (get_or ws m d).edge.now.from (get_or ws n d).edge.now.from ≡ b → b ≡ true
      by true e = refl
      by false e = absurd (clash (lt (get_or ws m d).edge.now.from (get_or ws (m + 1) d).edge.now.from) (rises m d (omega arith)) (ranked-chain (get_or ws m d).edge.now.from (get_or ws n d).edge.now.from (get_or ws (m + 1) d).edge.now.from e (are.rising (m + 1) n d (omega arith) h)))

  not-one : (m n : ℕ) (d : Departure) → m < n → n < length ws → (get_or ws m d).edge.now.from ≡ (get_or ws n d).edge.now.from → ⊥
  not-one m n d l h same = clash (lt (get_or ws m d).edge.now.from (get_or ws n d).edge.now.from) (far m n d l h) (ap (λ p. lt (get_or ws m d).edge.now.from p) (sym same) ∙ lt-itself (get_or ws m d).edge.now.from)

  -- where the edge at a place departs
  departs : (k : ℕ) (d : Edge) → k < length es → (m : ℕ) × (w : Departure) × (m < length ws) × (get_or ws m w ≡ w) × (w.place ≡ k) × (w.edge.now.from ≡ (get_or es k d).from)
  departs k d h =
      let found = are.whole k h in
      let w = found.0 in
      let right : IsDepartureOf es w = All-contains (IsDepartureOf es) ws w are.right found.1 in
      (found.1.0, w, found.1.1, found.1.2, found.2, same-some w.edge.now.from (get_or es k d).from (sym right.from ∙ (ap (start_at es) found.2 ∙ start-at es k d h)))

  leave-apart-at : (i k : ℕ) (d e : Edge) → k < i → i < length es → (get_or es k e).from ≢ (get_or es i d).from
  leave-apart-at i k d e l h same =
      let a = departs k e (omega arith) in
      let b = departs i d h in
      let points : a.1.edge.now.from ≡ b.1.edge.now.from = a.5 ∙ (same ∙ sym b.5) in
      let at_a : get_or ws a.0 b.1 ≡ a.1 = get_or_default ws a.0 b.1 a.1 a.2 ∙ a.3 in
      let first : (get_or ws a.0 b.1).edge.now.from ≡ a.1.edge.now.from = ap (λ (w : Departure). w.edge.now.from) at_a in
      let second : (get_or ws b.0 b.1).edge.now.from ≡ b.1.edge.now.from = ap (λ (w : Departure). w.edge.now.from) b.3 in
      ⊎_elim
      (λ below. not-one a.0 b.0 b.1 below b.2 (first ∙ (points ∙ sym second)))
      (λ from. ⊎_elim
      (λ above. not-one b.0 a.0 b.1 above a.2 (second ∙ (sym points ∙ sym first)))
      (λ upto. let one : a.0 ≡ b.0 = omega arith in
      let edge : k ≡ i = sym a.4 ∙ (ap (λ (w : Departure). w.place) (sym at_a ∙ (ap (λ j. get_or ws j b.1) one ∙ b.3)) ∙ b.4) in
      absurd (omega arith))
      (cases_lt b.0 a.0))
      (cases_lt a.0 b.0)

  pub departures-apart : LeaveApart es
  departures-apart i d h = record {
    inside = h;
    leaves = λ e. ap (λ (x : Edge). x.from) (get_or_default es i e d h);
    before = λ k e l. leave-apart-at i k d e l h;
  }

pub apart-by-answer : (es : List Edge) (ws : List Departure) → AreDepartures es ws → (r : Bool) → r ≡ true → IsAllAdjacentAnswer (λ (v w : Departure) (b : Bool). b ≡ lt v.edge.now.from w.edge.now.from) ws r → LeaveApart es
apart-by-answer es ws are true h told = departures-apart es ws are (λ k d inside. sym (told k d inside))
apart-by-answer es ws are false h told = absurd (cc)
