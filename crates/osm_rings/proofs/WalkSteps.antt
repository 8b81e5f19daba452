-- The steps of walks along edges, and of what is noted on the way.
use Rattle.std.proofs.Common.{◌≡◌, ◌≢◌, ℕ, zero, suc, ◌+◌, ◌-◌, ◌<◌, ◌≤◌, List, [], ◌∷◌, ◌++◌, length, get_or, map, set, take, All, Bool, false, true, Some, cond, refl, sym, ap, subst, ◌∙◌, arith, ⊎_elim, count_by, sum_by, eqb, ltb}
use Rattle.std.specs.List.{concat}
use Rattle.std.proofs.lemmas.Bool.{cases_lt, le-ltb, lt-ltb}
use Rattle.std.proofs.lemmas.List.{append-nil, append_assoc, get_or-set_other, get_or-set_same, get_or_default, length-append, length-take-le, map-append, take_more_set}
use Rattle.std.proofs.lemmas.List.Elements.{All-nil, All-push}
use Rattle.std.proofs.lemmas.List.Folds.{concat-append}
use Rattle.std.proofs.lemmas.List.Sums.{sum_by-append, sum_by-cons}
use Rattle.orbits.specs.Once.{HoldEachOnce}
use Rattle.orbits.proofs.Members.{Absent, Distinct, Present, count_absent, count_present, distinct_below, find}
use Rattle.orbits.proofs.Reading.{at_new, at_old, length_push}
use Rattle.lists.proofs.ListsKit.{clash}
use Rattle.osm_geom.specs.declared.edge.Edge.{Edge}
use Rattle.osm_rings.specs.Apart.{IsFirstLeaving, LeavesFirst}
use Rattle.osm_rings.specs.Walked.{AreMarked, AreNoted, FollowAtPlaces, IsClosedWalk, IsFollower, IsFresh, IsNoted}

-- ---- one more place is marked
pub none-marked : (n : ℕ) (marks : List Bool) → AreMarked n marks []
none-marked n marks = record {
  within = All-nil (λ i. i < n);
  apart = λ i j l h. absurd (omega arith);
  marked = All-nil (λ i. get_or marks i false ≡ true);
}

module _ (n : ℕ) (marks : List Bool) (places : List ℕ) (place : ℕ) (are : AreMarked n marks places) (fresh : IsFresh marks place) (below : place < n) (room : place < length marks) where
  apart-from : (k : ℕ) → k < length places → get_or places k 0 ≢ place
  apart-from k h same = clash (get_or marks place true)
      (get_or_default marks place true false room ∙ (ap (λ i. get_or marks i false) (sym same) ∙ are.marked k 0 h))
      fresh

  pub marked-more : AreMarked n (set marks place true) (places ++ place ∷ [])
  marked-more =
      let long = length_push places place in
      record {
        within = All-push (λ i. i < n) places place are.within below;
        apart = λ i j l h. ⊎_elim
            (λ m. subst (λ x. x ≢ get_or (places ++ place ∷ []) j 0) (sym (at_old places place i (omega arith))) (subst (λ x. get_or places i 0 ≢ x) (sym (at_old places place j m)) (are.apart i j l m)))
            (λ m. subst (λ x. x ≢ get_or (places ++ place ∷ []) j 0) (sym (at_old places place i (omega arith))) (subst (λ x. get_or places i 0 ≢ x) (sym (at_new places place j (omega arith))) (apart-from i (omega arith))))
            (cases_lt j (length places));
        marked = All-push (λ i. get_or (set marks place true) i false ≡ true) places place
            (λ k d h. get_or-set_other marks place (get_or places k d) true false (λ e. apart-from k h (get_or_default places k 0 d h ∙ e)) ∙ are.marked k d h)
            (get_or-set_same marks place true false room);
      }

-- ---- a walk from a place on
-- it has come to a place that is fresh, past others that are noted after those before
pub record IsWalkingTo (es : List Edge) (before : List ℕ) (start end place : ℕ) (places : List ℕ) (marks : List Bool) : Type 0 where
  pub walk : List ℕ
  pub noted : take end places ≡ before ++ walk
  pub steps : FollowAtPlaces es (walk ++ place ∷ [])
  pub begins : get_or (walk ++ place ∷ []) 0 0 ≡ start
  pub marked : AreMarked (length es) marks (take end places)
  pub fresh : IsFresh marks place
  pub inside : place < length es

pub walk-begins : (es : List Edge) (start end : ℕ) (places : List ℕ) (marks : List Bool) → start < length es → IsFresh marks start → AreMarked (length es) marks (take end places) → IsWalkingTo es (take end places) start end start places marks
walk-begins es start end places marks inside fresh marked = record {
  walk = [];
  noted = sym (append-nil (take end places));
  steps = λ k l. absurd (omega arith);
  begins = refl;
  marked = marked;
  fresh = fresh;
  inside = inside;
}

module _ (es : List Edge) (before : List ℕ) (start end place : ℕ) (places : List ℕ) (marks : List Bool) (to : IsWalkingTo es before start end place places marks) (room : end < length places) (marks_room : place < length marks) where
  abbrev passed : List ℕ
  passed = to.walk ++ place ∷ []

  noted-more : take (end + 1) (set places end place) ≡ before ++ passed
  noted-more = take_more_set places end place room ∙ (ap (λ xs. xs ++ place ∷ []) to.noted ∙ append_assoc before to.walk (place ∷ []))

  marked-next : AreMarked (length es) (set marks place true) (take (end + 1) (set places end place))
  marked-next = subst (AreMarked (length es) (set marks place true)) (sym (take_more_set places end place room)) (marked-more (length es) marks (take end places) place to.marked to.fresh to.inside marks_room)

  module _ (e : Edge) (next : ℕ) (leaving : IsFirstLeaving es (get_or es place e).to (Some next)) where
    follows : IsFollower es place next
    follows d = subst (λ (x : Edge). LeavesFirst es x.to next) (sym (get_or_default es place d e to.inside)) (leaving.some next refl)

    last-is : get_or passed (length passed - 1) 0 ≡ place
    last-is = let long = length_push to.walk place in at_new to.walk place (length passed - 1) (omega arith)

    pub walk-more : IsFresh (set marks place true) next → IsWalkingTo es before start (end + 1) next (set places end place) (set marks place true)
    walk-more fresh =
        let long = length_push to.walk place in
        let longer = length_push passed next in
        record {
          walk = passed;
          noted = noted-more;
          steps = λ k l. ⊎_elim
              (λ m. subst (λ j. IsFollower es (get_or (passed ++ next ∷ []) k 0) j) (sym (at_old passed next (k + 1) m)) (subst (λ i. IsFollower es i (get_or passed (k + 1) 0)) (sym (at_old passed next k (omega arith))) (to.steps k m)))
              (λ m.
              let here : k ≡ length passed - 1 = omega arith in
              let from : get_or (passed ++ next ∷ []) k 0 ≡ place = at_old passed next k (omega arith) ∙ (ap (λ i. get_or passed i 0) here ∙ last-is) in
              subst (λ j. IsFollower es (get_or (passed ++ next ∷ []) k 0) j) (sym (at_new passed next (k + 1) (omega arith))) (subst (λ i. IsFollower es i next) (sym from) follows))
              (cases_lt (k + 1) (length passed));
          begins = at_old passed next 0 (omega arith) ∙ to.begins;
          marked = marked-next;
          fresh = fresh;
          inside = (leaving.some next refl).inside;
        }

    pub walk-closed : (done : ℕ) (old : List ℕ) → before ≡ take done old → done ≤ end → done ≤ length old → end < length es → next ≡ start → IsNoted es done (end + 1 - done) old (set places end place) (set marks place true)
    walk-closed done old same from fits inside back =
        let long = length_push to.walk place in
        let upto : done + (end + 1 - done) ≡ end + 1 = omega arith in
        let all : length (take (end + 1) (set places end place)) ≡ length before + length passed = ap length noted-more ∙ length-append before passed in
        record {
          walk = passed;
          closed = record {
            some = omega arith;
            steps = to.steps;
            closes = subst (λ j. IsFollower es (get_or passed (length passed - 1) 0) j) (back ∙ sym to.begins) (subst (λ i. IsFollower es i next) (sym last-is) follows);
          };
          sized =
              let front : length before ≡ done = ap length same ∙ length-take-le done old fits in
              let noted : length (take end places) ≡ length before + length to.walk = ap length to.noted ∙ length-append before to.walk in
              let whole : length (take end places) ≡ end = length-take-le end places (omega arith) in
              omega arith;
          room = omega arith;
          noted = ap (λ n. take n (set places end place)) upto ∙ (noted-more ∙ ap (λ xs. xs ++ passed) same);
          marked = subst (λ n. AreMarked (length es) (set marks place true) (take n (set places end place))) (sym upto) marked-next;
        }

-- ---- places below n that differ, as many as n, are all of them
module _ (n : ℕ) (places : List ℕ) (within : All (λ i. i < n) places) (apart : Distinct places) (whole : length places ≡ n) where
  present : (i : ℕ) → i < n → Present i places
  present i h = ⊎_elim
      (λ p. p)
      (λ gone. let most = distinct_below (i ∷ places) n (differ gone) below in absurd (omega arith))
      (find i places)
    where
      differ : Absent i places → Distinct (i ∷ places)
      differ gone a zero l m e = absurd (omega arith)
      differ gone zero (suc b) l m e = gone b (omega arith) (sym e)
      differ gone (suc a) (suc b) l m e = apart a b (omega arith) (omega arith) e

      below : (k : ℕ) → k < length (i ∷ places) → get_or (i ∷ places) k 0 < n
      below zero l = h
      below (suc k) l = within k 0 (omega arith)

  counts : (i : ℕ) → count_by (eqb i) places ≡ cond {A = ℕ} (ltb i n) 1 0
  counts i = ⊎_elim
      (λ h. let p = present i h in count_present i places p.0 apart p.1 p.2 ∙ sym (ap (λ b. cond {A = ℕ} b 1 0) (lt-ltb i n h)))
      (λ h. count_absent i places (λ k l e. let low = within k 0 l in absurd (omega (arith, e, h, low))) ∙ sym (ap (λ b. cond {A = ℕ} b 1 0) (le-ltb i n h)))
      (cases_lt i n)

  count-joined : (i : ℕ) (os : List (List ℕ)) → sum_by (count_by (eqb i)) os ≡ count_by (eqb i) (concat os)
  count-joined i [] = refl
  count-joined i (o ∷ os) = sum_by-cons (count_by (eqb i)) o os ∙ (ap (λ m. count_by (eqb i) o + m) (count-joined i os) ∙ sym (sum_by-append (λ x. cond {A = ℕ} (eqb i x) 1 0) o (concat os)))

  pub once : (os : List (List ℕ)) → concat os ≡ places → HoldEachOnce n os
  once os joined i = count-joined i os ∙ (ap (count_by (eqb i)) joined ∙ counts i)

-- ---- walk after walk
-- closed walks have passed so many places
pub record AreWalkedTo (es : List Edge) (done count : ℕ) (places sizes : List ℕ) (marks : List Bool) : Type 0 where
  pub walks : List (List ℕ)
  pub each : All (IsClosedWalk es) walks
  pub joined : concat walks ≡ take done places
  pub sized : map length walks ≡ take count sizes
  pub marked : AreMarked (length es) marks (take done places)
  pub room : done ≤ length es
  pub few : count ≤ done

pub none-walked : (es : List Edge) (places sizes : List ℕ) (marks : List Bool) → AreWalkedTo es 0 0 places sizes marks
none-walked es places sizes marks = record {
  walks = [];
  each = All-nil (IsClosedWalk es);
  joined = refl;
  sized = refl;
  marked = none-marked (length es) marks;
  room = omega arith;
  few = omega arith;
}

pub walked-more : (es : List Edge) (done count size : ℕ) (places new sizes : List ℕ) (marks marked : List Bool) → AreWalkedTo es done count places sizes marks → IsNoted es done size places new marked → count < length sizes → AreWalkedTo es (done + size) (count + 1) new (set sizes count size) marked
walked-more es done count size places new sizes marks marked are one room =
    let some = one.closed.some in
    let long = one.sized in
    let few = are.few in
    record {
      walks = are.walks ++ one.walk ∷ [];
      each = All-push (IsClosedWalk es) are.walks one.walk are.each one.closed;
      joined = concat-append are.walks (one.walk ∷ []) ∙ (ap (λ xs. concat are.walks ++ xs) (append-nil one.walk) ∙ (ap (λ xs. xs ++ one.walk) are.joined ∙ sym one.noted));
      sized = map-append length are.walks (one.walk ∷ []) ∙ (ap (λ n. map length are.walks ++ n ∷ []) one.sized ∙ (ap (λ xs. xs ++ size ∷ []) are.sized ∙ sym (take_more_set sizes count size room)));
      marked = one.marked;
      room = one.room;
      few = omega arith;
    }

pub all-walked : (es : List Edge) (done count : ℕ) (places sizes : List ℕ) (marks : List Bool) → AreWalkedTo es done count places sizes marks → done ≡ length es → length es ≤ length places → count ≤ length sizes → AreNoted es count places sizes
all-walked es done count places sizes marks are whole room fits = record {
  room = room;
  fits = fits;
  are = record {
    walks = are.walks;
    each = are.each;
    once = once (length es) (take done places) are.marked.within are.marked.apart (length-take-le done places (omega arith) ∙ whole) are.walks are.joined;
    along = record { joined = are.joined ∙ ap (λ n. take n places) whole; sized = are.sized };
  };
}
