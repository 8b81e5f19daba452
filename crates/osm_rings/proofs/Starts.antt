-- The departures in order: where those that begin at a point stand.
use Rattle.std.proofs.Common.{◌≡◌, ◌≢◌, inl, inr, ℕ, ◌+◌, ◌-◌, ◌<◌, ◌≤◌, List, [], ◌∷◌, ◌++◌, length, get_or, drop, All, Result, Ok, Err, IfOk, Bool, true, false, not, set, Some, None, refl, sym, ap, subst, ◌∙◌, arith, ⊎_elim}
use Rattle.std.specs.List.{Contains, slice_range}
use Rattle.std.specs.List.Sorted.{IsPartitionPoint, IsPartitionedBy, IsPermutation}
use Rattle.std.specs.Ordering.{is_lt}
use Rattle.std.proofs.lemmas.Bool.{cases_lt, false_from_ne_true}
use Rattle.std.proofs.lemmas.Cmp.{tied_itself}
use Rattle.std.proofs.lemmas.Grind.{get_or-set_at}
use Rattle.std.proofs.lemmas.List.{get_or_default, get_or-set_other, get_or-map, get_or-take, get_or-drop, length-append, length-drop, length-take-le}
use Rattle.std.proofs.lemmas.List.Elements.{All-append, All-contains, All-nil, All-push, Contains-append_left, Contains-append_right}
use Rattle.std.proofs.lemmas.List.MinMax.{ranks_by}
use Rattle.std.proofs.lemmas.List.Sorted.{All-permutation, Contains-permutation, length_permutation}
use Rattle.plane.specs.Vector.{east}
use Rattle.osm_geom.specs.declared.edge.Edge.{Edge}
use Rattle.osm_geom.specs.declared.point.Point.{Point}
use Rattle.osm_geom.specs.Edge.{direction_of}
use Rattle.osm_geom.specs.Point.{point_cmp}
use Rattle.osm_geom.proofs.GeometryKit.{neither_less, point_total}
use Rattle.osm_rings.specs.declared.departure.Departure.{Departure}
use Rattle.osm_rings.specs.Departures.{AreClockwiseRound, AreDepartures, AreFrom, AreInTwoLists, AreRising, IsDepartureOf, IsEndAt, IsFirstAt, TellStarts, start_at}
pub use Rattle.lists.proofs.ListsKit.{clash}
use Rattle.lists.proofs.ListsKit.{not-false-out, not-true-out}

-- what an edge leaves
pub start-at : (es : List Edge) (i : ℕ) (d : Edge) → i < length es → start_at es i ≡ Some (get_or es i d).from
start-at es i d h = get_or-map (λ (e : Edge). Some e.from) es i d None h

pub start-read : (es : List Edge) (i : ℕ) (e : Edge) → i < length es → e ≡ get_or es i e → start_at es i ≡ Some e.from
start-read es i e h is = start-at es i e h ∙ ap (λ (f : Edge). Some f.from) (sym is)

pub same-some : (p q : Point) → Some p ≡ Some q → p ≡ q
same-some p q e = cc

abbrev pub lt : Point → Point → Bool
lt p q = is_lt (point_cmp p q)

pub ranked-chain : (p q r : Point) → lt p q ≡ false → lt q r ≡ false → lt p r ≡ false
ranked-chain = (ranks_by point_total (λ (p : Point). p)).chain

pub lt-itself : (p : Point) → lt p p ≡ false
lt-itself p = ap is_lt (tied_itself point_total p)

-- neither begins before the other
same-from : (p q : Point) → lt p q ≡ false → lt q p ≡ false → p ≡ q
same-from p q h g = neither_less p q (λ e. clash (lt p q) (ap is_lt e) h) (λ e. clash (lt q p) (ap is_lt e) g)

by-neighbours : (test : Departure → Bool) (ws : List Departure) (i : ℕ) → i ≤ length ws → IsPartitionedBy test ws → ((d : Departure) → 0 < i → test (get_or ws (i - 1) d) ≡ true) → ((d : Departure) → i < length ws → test (get_or ws i d) ≡ false) → IsPartitionPoint (λ w. test w ≡ true) (λ w. test w ≡ false) ws i
by-neighbours test ws i within parted low high = (
  λ k d from below. parted k (i - 1) d (omega arith) (omega arith) (low d (omega arith)),
  λ k d from below. false_from_ne_true (test (get_or ws k d)) (λ passes. clash (test (get_or ws i d)) (parted i k d (omega arith) below passes) (high d (omega arith))),
)

module _ (ws : List Departure) where
  module _ (rising : AreRising ws) where
    pub before-parts : (p : Point) → IsPartitionedBy (λ w. lt w.edge.now.from p) ws
    before-parts p i j d h l below = decide (lt (get_or ws i d).edge.now.from p) refl
      where
        decide : (b : Bool) → lt (get_or ws i d).edge.now.from p ≡ b → lt (get_or ws i d).edge.now.from p ≡ true
        decide true e = e
        decide false e = absurd (clash (lt (get_or ws j d).edge.now.from p) below (ranked-chain (get_or ws j d).edge.now.from (get_or ws i d).edge.now.from p (rising i j d h l) e))

    pub after-parts : (p : Point) → IsPartitionedBy (λ w. not (lt p w.edge.now.from)) ws
    after-parts p i j d h l upto = ap not (ranked-chain p (get_or ws j d).edge.now.from (get_or ws i d).edge.now.from (not-true-out (lt p (get_or ws j d).edge.now.from) upto) (rising i j d h l))

    -- told by the departures on both sides of the place
    pub first-by-neighbours : (p : Point) (i : ℕ) → i ≤ length ws → ((d : Departure) → 0 < i → lt (get_or ws (i - 1) d).edge.now.from p ≡ true) → ((d : Departure) → i < length ws → lt (get_or ws i d).edge.now.from p ≡ false) → IsFirstAt ws p i
    first-by-neighbours p i within low high = by-neighbours (λ w. lt w.edge.now.from p) ws i within (before-parts p) low high

    pub end-by-neighbours : (p : Point) (i : ℕ) → i ≤ length ws → ((d : Departure) → 0 < i → lt p (get_or ws (i - 1) d).edge.now.from ≡ false) → ((d : Departure) → i < length ws → lt p (get_or ws i d).edge.now.from ≡ true) → IsEndAt ws p i
    end-by-neighbours p i within low high = by-neighbours (λ w. not (lt p w.edge.now.from)) ws i within (after-parts p) (λ d h. ap not (low d h)) (λ d h. ap not (high d h))

    at-itself : (i : ℕ) (d e : Departure) → i < length ws → lt (get_or ws i e).edge.now.from (get_or ws i d).edge.now.from ≡ false
    at-itself i d e inside = ap (λ (w : Departure). lt w.edge.now.from (get_or ws i d).edge.now.from) (get_or_default ws i e d inside) ∙ lt-itself (get_or ws i d).edge.now.from

    pub first-of-all : (i : ℕ) → i ≡ 0 → i < length ws → (d : Departure) → IsFirstAt ws (get_or ws i d).edge.now.from i
    first-of-all i none inside d = first-by-neighbours (get_or ws i d).edge.now.from i (omega arith) (λ e some. absurd (omega arith)) (λ e h. at-itself i d e inside)

    -- one that begins later than the one before it is the first of its point
    pub first-there : (i : ℕ) (v w : Departure) → i ≢ 0 → i < length ws → v ≡ get_or ws (i - 1) v → w ≡ get_or ws i w → lt v.edge.now.from w.edge.now.from ≡ true → (d : Departure) → IsFirstAt ws (get_or ws i d).edge.now.from i
    first-there i v w some inside is_v is_w up d =
        let before : i - 1 < length ws = omega arith in
        first-by-neighbours (get_or ws i d).edge.now.from i (omega arith)
        (λ e h. ap (λ (x : Departure). lt x.edge.now.from (get_or ws i d).edge.now.from) (get_or_default ws (i - 1) e v before ∙ sym is_v) ∙ (ap (λ (x : Departure). lt v.edge.now.from x.edge.now.from) (get_or_default ws i d w inside ∙ sym is_w) ∙ up))
        (λ e h. at-itself i d e inside)

    -- else both begin at one point
    pub same-there : (i : ℕ) (v w : Departure) → i ≢ 0 → i < length ws → v ≡ get_or ws (i - 1) v → w ≡ get_or ws i w → lt v.edge.now.from w.edge.now.from ≡ false → (d : Departure) → (get_or ws (i - 1) d).edge.now.from ≡ (get_or ws i d).edge.now.from
    same-there i v w some inside is_v is_w level d =
        let before : i - 1 < length ws = omega arith in
        same-from (get_or ws (i - 1) d).edge.now.from (get_or ws i d).edge.now.from
        (ap (λ (x : Departure). lt x.edge.now.from (get_or ws i d).edge.now.from) (get_or_default ws (i - 1) d v before ∙ sym is_v) ∙ (ap (λ (x : Departure). lt v.edge.now.from x.edge.now.from) (get_or_default ws i d w inside ∙ sym is_w) ∙ level))
        (rising (i - 1) i d (omega arith) inside)

    -- a departure that begins at p stands at the first place or later, and one begins there
    pub found-at : (p : Point) (i : ℕ) (w : Departure) → IsFirstAt ws p i → Contains ws w → w.edge.now.from ≡ p → (i < length ws) × ((get_or ws i w).edge.now.from ≡ p)
    found-at p i w first (m, inside, is) at_p =
        let here : (get_or ws m w).edge.now.from ≡ p = ap (λ v. v.edge.now.from) is ∙ at_p in
        let late : i ≤ m = ⊎_elim
        (λ early. absurd (clash (lt (get_or ws m w).edge.now.from p) (first.0 m w (omega arith) early) (ap (λ q. lt q p) here ∙ lt-itself p)))
        (λ late. late)
        (cases_lt m i) in
        let fits : i < length ws = omega arith in
        let up : lt p (get_or ws i w).edge.now.from ≡ false = subst (λ q. lt q (get_or ws i w).edge.now.from ≡ false) here (rising i m w late inside) in
        (fits, same-from (get_or ws i w).edge.now.from p (first.1 i w (omega arith) fits) up)

    -- there is one first place
    pub first-one : (p : Point) (i j : ℕ) (d : Departure) → i < length ws → j < length ws → IsFirstAt ws p i → IsFirstAt ws p j → i ≡ j
    first-one p i j d hi hj f g = ⊎_elim
        (λ l. absurd (clash (lt (get_or ws i d).edge.now.from p) (g.0 i d (omega arith) l) (f.1 i d (omega arith) hi)))
        (λ l. ⊎_elim
        (λ m. absurd (clash (lt (get_or ws j d).edge.now.from p) (f.0 j d (omega arith) m) (g.1 j d (omega arith) hj)))
        (λ m. omega arith)
        (cases_lt j i))
        (cases_lt i j)

  -- the first place is not after the end
  pub first-to-end : (p : Point) (a b : ℕ) → a ≤ length ws → IsFirstAt ws p a → IsEndAt ws p b → a ≤ b
  first-to-end p a b h first end = by-length ws refl
    where
      before-end : (d : Departure) → a ≤ b
      before-end d = ⊎_elim
          (λ l.
          let low : lt (get_or ws b d).edge.now.from p ≡ true = first.0 b d (omega arith) l in
          let high : lt p (get_or ws b d).edge.now.from ≡ true = not-false-out (lt p (get_or ws b d).edge.now.from) (end.1 b d (omega arith) (omega arith)) in
          absurd (clash (lt (get_or ws b d).edge.now.from p) low ((ranks_by point_total (λ (q : Point). q)).one_way p (get_or ws b d).edge.now.from high)))
          (λ l. l)
          (cases_lt b a)

      by-length : (xs : List Departure) → ws ≡ xs → a ≤ b
      by-length [] e = let none : length ws ≡ 0 = ap length e in omega arith
      by-length (x ∷ xs) e = before-end x

  -- what stands from the first place up to the end begins at p, and nothing else does
  pub range-from : AreClockwiseRound ws → (p : Point) (a b : ℕ) → a ≤ b → b ≤ length ws → IsFirstAt ws p a → IsEndAt ws p b → AreFrom ws p (slice_range ws a b)
  range-from round p a b l low_end first end =
      let range = slice_range ws a b in
      let dropped : length (drop a ws) ≡ length ws - a = length-drop a ws in
      let long : length range ≡ b - a = length-take-le (b - a) (drop a ws) (omega arith) in
      let read : (k : ℕ) (d : Departure) → k < length range → get_or range k d ≡ get_or ws (a + k) d = λ k d m. get_or-take (b - a) (drop a ws) k d (omega arith) ∙ get_or-drop a ws k d in
      let begins : (k : ℕ) (d : Departure) → k < length range → (get_or range k d).edge.now.from ≡ p = λ k d m.
      let w = get_or ws (a + k) d in
      let low : lt w.edge.now.from p ≡ false = first.1 (a + k) d (omega arith) (omega arith) in
      let high : lt p w.edge.now.from ≡ false = not-true-out (lt p w.edge.now.from) (end.0 (a + k) d (omega arith) (omega arith)) in
      ap (λ v. v.edge.now.from) (read k d m) ∙ same-from w.edge.now.from p low high in
      record {
        right = λ k d m.
            let w = get_or range k d in
            let fits : a + k < length ws = omega arith in
            ((a + k, fits, get_or_default ws (a + k) w d fits ∙ sym (read k d m)), begins k d m);
        whole = λ w (m, inside, it) at_p.
            let here : (get_or ws m w).edge.now.from ≡ p = ap (λ v. v.edge.now.from) it ∙ at_p in
            let late : a ≤ m = ⊎_elim
            (λ early. absurd (clash (lt (get_or ws m w).edge.now.from p) (first.0 m w (omega arith) early) (ap (λ q. lt q p) here ∙ lt-itself p)))
            (λ late. late)
            (cases_lt m a) in
            let early : m < b = ⊎_elim
            (λ early. early)
            (λ late. absurd (clash (lt p (get_or ws m w).edge.now.from) (not-false-out (lt p (get_or ws m w).edge.now.from) (end.1 m w late inside)) (ap (λ q. lt p q) here ∙ lt-itself p)))
            (cases_lt m b) in
            let same : a + (m - a) ≡ m = omega arith in
            let fits : m - a < length range = omega arith in
            (m - a, fits, read (m - a) w fits ∙ (ap (λ n. get_or ws n w) same ∙ it));
        clockwise = λ i j d h m.
            let fits : i < length range = omega arith in
            let same : (get_or ws (a + j) d).edge.now.from ≡ (get_or ws (a + i) d).edge.now.from =
            ap (λ v. v.edge.now.from) (sym (read j d m)) ∙ (begins j d m ∙ (sym (begins i d fits) ∙ ap (λ v. v.edge.now.from) (read i d fits))) in
            rw (read j d m, read i d fits) (round (a + i) (a + j) d (omega arith) (omega arith) same);
      }

-- ---- the departures of the edges passed so far
pub departure-of : (es : List Edge) (w : Departure) → w.place < length es → w.edge.now ≡ get_or es w.place w.edge.now → IsDepartureOf es w
departure-of es w inside is = record {
  inside = inside;
  from = start-read es w.place w.edge.now inside is;
  along = sym (get_or-map direction_of es w.place w.edge.now east inside ∙ ap direction_of (sym is));
}

pushed : (ws : List Departure) (w : Departure) → Contains (ws ++ w ∷ []) w
pushed ws w = Contains-append_right ws (w ∷ []) w (0, omega arith, refl)

pub listed-none : (es : List Edge) → AreInTwoLists es 0 [] []
listed-none es = record {
  sized = refl;
  whole = λ k h. absurd (omega arith);
  right = All-nil (IsDepartureOf es);
  others = All-nil (IsDepartureOf es);
}

module _ (es : List Edge) (n : ℕ) (ws vs : List Departure) (w : Departure) (l : AreInTwoLists es n ws vs) (is : w.place ≡ n) (right : IsDepartureOf es w) where
  pub listed-more : AreInTwoLists es (n + 1) (ws ++ w ∷ []) vs
  listed-more = record {
    sized = let e = length-append ws (w ∷ []) in let sized = l.sized in omega arith;
    whole = λ k h. ⊎_elim
        (λ m. let found = l.whole k m in (found.0, ⊎_elim (λ c. inl (Contains-append_left ws (w ∷ []) found.0 c)) inr found.1, found.2))
        (λ m. let e : n ≡ k = omega arith in (w, inl (pushed ws w), is ∙ e))
        (cases_lt k n);
    right = All-push (IsDepartureOf es) ws w l.right right;
    others = l.others;
  }

  pub listed-other : AreInTwoLists es (n + 1) ws (vs ++ w ∷ [])
  listed-other = record {
    sized = let e = length-append vs (w ∷ []) in let sized = l.sized in omega arith;
    whole = λ k h. ⊎_elim
        (λ m. let found = l.whole k m in (found.0, ⊎_elim inl (λ c. inr (Contains-append_left vs (w ∷ []) found.0 c)) found.1, found.2))
        (λ m. let e : n ≡ k = omega arith in (w, inr (pushed vs w), is ∙ e))
        (cases_lt k n);
    right = l.right;
    others = All-push (IsDepartureOf es) vs w l.others right;
  }

-- joined and sorted, they are the departures of all edges
pub listed-sorted : (es : List Edge) (ws vs us : List Departure) (n : ℕ) → n ≡ length es → AreInTwoLists es n ws vs → IsPermutation (ws ++ vs) us → AreRising us → AreClockwiseRound us → AreDepartures es us
listed-sorted es ws vs us n whole l moved rising round = record {
  sized = let joined = length-append ws vs in let sized = l.sized in let same = length_permutation (ws ++ vs) us moved in omega arith;
  rising = rising;
  round = round;
  right = All-permutation (IsDepartureOf es) (ws ++ vs) us moved (All-append (IsDepartureOf es) ws vs l.right l.others);
  whole = λ k h.
      let found = l.whole k (omega arith) in
      let w = found.0 in
      (w, Contains-permutation (ws ++ vs) us w moved (⊎_elim (Contains-append_left ws vs w) (Contains-append_right ws vs w) found.1), found.2);
}

-- ---- the numbers of the nodes

-- the edges passed have as their numbers the places of the first departures from their points
pub record AreKeyed (es : List Edge) (ws : List Departure) (n : ℕ) (numbers : List ℕ) : Type 0 where
  pub sized : length numbers ≡ n
  pub first : (i : ℕ) → i < n → (p : Point) × (start_at es i ≡ Some p) × IsFirstAt ws p (get_or numbers i 0)

-- those of the edges of the first n departures, of which the last one's is `number`
pub record AreNumbered (ws : List Departure) (n number : ℕ) (numbers : List ℕ) : Type 0 where
  pub last : (d : Departure) → 0 < n → IsFirstAt ws (get_or ws (n - 1) d).edge.now.from number
  pub each : (k : ℕ) (d : Departure) → k < n → IsFirstAt ws (get_or ws k d).edge.now.from (get_or numbers (get_or ws k d).place 0)

module _ (es : List Edge) (ws : List Departure) (right : All (IsDepartureOf es) ws) where
  -- departures of one edge begin at one point
  pub one-edge : (i j : ℕ) (d : Departure) → i < length ws → j < length ws → (get_or ws i d).place ≡ (get_or ws j d).place → (get_or ws i d).edge.now.from ≡ (get_or ws j d).edge.now.from
  one-edge i j d hi hj same = same-some (get_or ws i d).edge.now.from (get_or ws j d).edge.now.from (sym (right i d hi).from ∙ (ap (start_at es) same ∙ (right j d hj).from))

  pub numbered-more : (n number next : ℕ) (numbers after : List ℕ) (w : Departure) → n < length ws → w ≡ get_or ws n w → length numbers ≡ length es → after ≡ set numbers (get_or ws n w).place next
      → ((d : Departure) → IsFirstAt ws (get_or ws n d).edge.now.from next) → AreNumbered ws n number numbers → AreNumbered ws (n + 1) next after
  numbered-more n number next numbers after w inside is sized made first so_far = record {
    last = λ d h. let same : n ≡ n + 1 - 1 = omega arith in subst (λ k. IsFirstAt ws (get_or ws k d).edge.now.from next) same (first d);
    each = λ k d h. subst (λ ns. IsFirstAt ws (get_or ws k d).edge.now.from (get_or ns (get_or ws k d).place 0)) (sym (made ∙ ap (λ (v : Departure). set numbers v.place next) (sym is))) (at k d h);
  }
    where
      here : (d : Departure) → get_or ws n d ≡ w
      here d = get_or_default ws n d w inside ∙ sym is

      room : w.place < length numbers
      room = let e = (right n w inside).inside in let i = ap (λ (v : Departure). v.place) is in omega (arith, e, i, sized)

      changed : (k : ℕ) (d : Departure) → k < length ws → (get_or ws k d).place ≡ w.place → IsFirstAt ws (get_or ws k d).edge.now.from (get_or (set numbers w.place next) (get_or ws k d).place 0)
      changed k d h same =
          let there : (get_or ws k d).edge.now.from ≡ (get_or ws n d).edge.now.from = one-edge k n d h inside (same ∙ ap (λ (v : Departure). v.place) (sym (here d))) in
          subst (IsFirstAt ws (get_or ws k d).edge.now.from) (sym (get_or-set_at numbers w.place (get_or ws k d).place next 0 same room))
          (subst (λ p. IsFirstAt ws p next) (sym there) (first d))

      kept : (k : ℕ) (d : Departure) → k < n + 1 → (get_or ws k d).place ≢ w.place → IsFirstAt ws (get_or ws k d).edge.now.from (get_or (set numbers w.place next) (get_or ws k d).place 0)
      kept k d h other = ⊎_elim
          (λ early. subst (IsFirstAt ws (get_or ws k d).edge.now.from) (sym (get_or-set_other numbers w.place (get_or ws k d).place next 0 other)) (so_far.each k d early))
          (λ late. absurd (other (ap (λ (v : Departure). v.place) (ap (λ j. get_or ws j d) (let e : k ≡ n = omega arith in e) ∙ here d))))
          (cases_lt k n)

      at : (k : ℕ) (d : Departure) → k < n + 1 → IsFirstAt ws (get_or ws k d).edge.now.from (get_or (set numbers w.place next) (get_or ws k d).place 0)
      at k d h = ⊎_elim
          (λ below. kept k d h (λ e. absurd (omega arith)))
          (λ from. ⊎_elim
          (λ above. kept k d h (λ e. absurd (omega arith)))
          (λ upto. changed k d (omega arith) (omega arith))
          (cases_lt w.place (get_or ws k d).place))
          (cases_lt (get_or ws k d).place w.place)

-- the numbers of all edges
pub numbered-all : (es : List Edge) (ws : List Departure) → AreDepartures es ws → (n number : ℕ) (numbers : List ℕ) → n ≡ length ws → length numbers ≡ length es → AreNumbered ws n number numbers → AreKeyed es ws (length es) numbers
numbered-all es ws are n number numbers all sized told = record {
  sized = sized;
  first = λ i h.
      let found = are.whole i h in
      let w = found.0 in
      let right : IsDepartureOf es w = All-contains (IsDepartureOf es) ws w are.right found.1 in
      let k = found.1.0 in
      let inside : k < length ws = found.1.1 in (
        w.edge.now.from,
        ap (start_at es) (sym found.2) ∙ right.from,
        subst (λ j. IsFirstAt ws w.edge.now.from (get_or numbers j 0)) found.2
            (subst (λ (v : Departure). IsFirstAt ws v.edge.now.from (get_or numbers v.place 0)) found.1.2 (told.each k w (omega arith))),
      );
}

module _ (es : List Edge) (ws : List Departure) (are : AreDepartures es ws) (numbers : List ℕ) (keyed : AreKeyed es ws (length es) numbers) where
  -- the departure of an edge begins where the edge does
  begins-there : (i : ℕ) (p : Point) → i < length es → start_at es i ≡ Some p → (w : Departure) × Contains ws w × (w.edge.now.from ≡ p)
  begins-there i p h from =
      let found = are.whole i h in
      let w = found.0 in
      let right : IsDepartureOf es w = All-contains (IsDepartureOf es) ws w are.right found.1 in
      (w, found.1, same-some w.edge.now.from p (sym right.from ∙ (ap (start_at es) found.2 ∙ from)))

  at-key : (i : ℕ) → i < length es → (p : Point) × (w : Departure) × (start_at es i ≡ Some p) × IsFirstAt ws p (get_or numbers i 0) × (get_or numbers i 0 < length ws) × ((get_or ws (get_or numbers i 0) w).edge.now.from ≡ p)
  at-key i h =
      let key = keyed.first i h in
      let w = begins-there i key.0 h key.1 in
      let at = found-at ws are.rising key.0 (get_or numbers i 0) w.0 key.2 w.1 w.2 in
      (key.0, w.0, key.1, key.2, at.0, at.1)

  pub numbers-below : All (λ k. k < length es) numbers
  numbers-below i d h =
      let sized = keyed.sized in
      let at = at-key i (omega arith) in
      let fits = at.4 in
      let size = are.sized in
      let read : get_or numbers i d ≡ get_or numbers i 0 = get_or_default numbers i d 0 h in
      rw read (omega arith)

  pub numbers-tell : TellStarts es numbers
  numbers-tell i j hi hj =
      let a = at-key i hi in
      let b = at-key j hj in (
        λ same.
            let here : (get_or ws (get_or numbers j 0) b.1).edge.now.from ≡ a.0 =
            ap (λ w. w.edge.now.from) (get_or_default ws (get_or numbers j 0) b.1 a.1 b.4) ∙ (ap (λ k. (get_or ws k a.1).edge.now.from) (sym same) ∙ a.5) in
            a.2 ∙ (ap Some (sym here ∙ b.5) ∙ sym b.2),
        λ same.
            let one : a.0 ≡ b.0 = same-some a.0 b.0 (sym a.2 ∙ (same ∙ b.2)) in
            first-one ws are.rising b.0 (get_or numbers i 0) (get_or numbers j 0) b.1 a.4 b.4 (subst (λ p. IsFirstAt ws p (get_or numbers i 0)) one a.3) b.3,
      )

pub if-all-ok : {A E : Type 0} {P Q R S : A → Type 0} (r : Result A E) → IfOk r P → IfOk r Q → IfOk r R → ((v : A) → P v → Q v → R v → S v) → IfOk r S
if-all-ok (Ok v) p q r f = f v p q r
if-all-ok (Err e) p q r f = tt
