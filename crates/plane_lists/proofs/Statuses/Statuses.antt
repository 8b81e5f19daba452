-- The laws of a status.
use Rattle.std.proofs.Common.{Bool, List, [], ap, arith, cond, count_by, eq-or-lt_of_le, false, get_or, inl, inr, length, map, not, refl, remove, subst, suc, sym, true, ℕ, ⊎_elim, ◌&&◌, ◌++◌, ◌+◌, ◌-◌, ◌<◌, ◌∙◌, ◌∷◌, ◌≡◌, ◌≢◌, ◌≤◌, ◌⊎◌}
use Rattle.std.specs.List.{AllWithin, filter, insert, sum_by}
use Rattle.std.specs.List.Sorted.{IsPartitionedBy}
use Rattle.std.proofs.lemmas.Bool.{cases_eq, cases_lt, and_from}
use Rattle.std.proofs.lemmas.List.Elements.{All-filter, filter_passes}
use Rattle.std.proofs.lemmas.List.Kept.{AllPairs-filter}
use Rattle.std.proofs.lemmas.List.Edits.{get_or-remove_above, get_or-remove_below, length-remove}
use Rattle.std.proofs.lemmas.List.Quantifiers.{all_pairs_remove}
use Rattle.std.proofs.lemmas.List.Sorted.{IsPermutation-remove, sum_by-IsPermutation}
use Rattle.std.proofs.lemmas.List.Sums.{sum_by-cons, sum_by-insert}
use Rattle.plane.specs.Conflict.{IsClearOf}
use Rattle.plane.specs.Edge.{Edge, same_edge}
use Rattle.plane.specs.Height.{is_in_span, is_right_above}
use Rattle.plane.specs.Sign.{is_plus}
use Rattle.plane.specs.Vector.{Vector}
use Rattle.lists.proofs.ListsKit.{all_insert, and-left, and-right, in-all, in-filter, in-map, in-passes, into-filter, pairs_insert}
use Rattle.plane.proofs.PlaneKit.{clear_back, same_edge-refl, same_edge-true, order_persists, right_chain, right_either, right_itself, right_of}
use Rattle.plane_lists.specs.Lists.ConflictFree.{IsConflictFree}
use Rattle.lists.specs.Member.{In}
use Rattle.plane_lists.proofs.WindingKit.{clear_pair, right_apart}
use Rattle.plane_lists.specs.Statuses.Status.{IsRightJustAbove, IsStatus, spanning}
use Rattle.plane_lists.proofs.Statuses.Lists.{sum-filter, sum-same}

module _ {X : Type 0} (edge : X → Edge) where
  span : Vector → X → Bool
  span p x = is_in_span p (edge x)

  split : (p : Vector) (x : X) (xs : List X) → (b : Bool) → is_in_span p (edge x) ≡ b → spanning edge p (x ∷ xs) ≡ cond b (x ∷ spanning edge p xs) (spanning edge p xs)
  split p x xs b h = ap (λ b. cond b (x ∷ spanning edge p xs) (spanning edge p xs)) h

  pub enters : (p : Vector) (xs status : List X) (x : X) (place : ℕ) → IsConflictFree (map edge (x ∷ xs)) → IsStatus edge p xs status → is_in_span p (edge x) ≡ true → place ≤ length status →
      AllWithin (λ (t : X). is_right_above p (edge x) (edge t) ≡ false) status 0 place → AllWithin (λ (t : X). is_right_above p (edge x) (edge t) ≡ true) status place (length status) → IsStatus edge p (x ∷ xs) (insert status place x)
  enters p xs status x place free is sx within before after =
      let all = split p x xs true sx in
      record {
        order = pairs_insert (IsRightJustAbove edge p) status place x is.order
            (λ k d h l. left-of (get_or status k d) (is.members k d (omega arith)) (before k d h l))
            (λ k d h l. and-right (is_in_span p (edge (get_or status k d))) (right_of p (edge x) (edge (get_or status k d))) (after k d h l)) within;
        whole = λ f. sum_by-insert f status place x ∙ ap (λ n. n + f x) (is.whole f) ∙ turned (sum_by f (spanning edge p xs)) (f x) ∙ sym (ap (sum_by f) all ∙ sum_by-cons f x (spanning edge p xs));
        members = all_insert (λ (t : X). In t (spanning edge p (x ∷ xs))) status place x (λ k d h. subst (In (get_or status k d)) (sym all) (inr (is.members k d h))) (subst (In x) (sym all) (inl refl));
      }
    where
      turned : (m n : ℕ) → m + n ≡ n + m
      turned m n = omega arith

      -- one of the list that isn't right of x is left of it
      left-of : (t : X) → In t (spanning edge p xs) → is_right_above p (edge x) (edge t) ≡ false → right_of p (edge t) (edge x) ≡ true
      left-of t i not-right =
          let st = in-passes (λ (x : X). is_in_span p (edge x)) xs t i in
          let j = in-filter (λ (x : X). is_in_span p (edge x)) xs t i in
          let es = map edge (x ∷ xs) in
          let clear : IsClearOf (edge x) (edge t) = in-all (IsClearOf (edge x)) (map edge xs) (edge t) free.clear.0 (in-map edge xs t j) in
          right_either p (edge t) (edge x) (right_apart p (edge t) (edge x) es free (inr (in-map edge xs t j)) (inl refl) (clear_back (edge x) (edge t) clear) sx st)
          ∙ ap not (right-false (is_in_span p (edge t)) (right_of p (edge x) (edge t)) st not-right)
        where
          right-false : (a b : Bool) → a ≡ true → a && b ≡ false → b ≡ false
          right-false true b h k = k
          right-false false b h k = absurd (cc h)

  pub passes : (p : Vector) (xs status : List X) (x : X) → IsStatus edge p xs status → is_in_span p (edge x) ≡ false → IsStatus edge p (x ∷ xs) status
  passes p xs status x is away =
      let all = split p x xs false away in
      record { order = is.order; whole = λ f. is.whole f ∙ sym (ap (sum_by f) all); members = λ k d h. subst (In (get_or status k d)) (sym all) (is.members k d h) }

  -- the same for items whose edges are of a list without conflicts
  pub rises-among : (p q : Vector) (xs status : List X) (es : List Edge) → IsConflictFree es → ((x : X) → In x xs → In (edge x) es) → IsStatus edge p xs status → ((x : X) → In x xs → is_in_span q (edge x) ≡ true → is_in_span p (edge x) ≡ true) →
      IsStatus edge q xs (filter (λ (x : X). is_in_span q (edge x)) status)
  rises-among p q xs status es free among is both =
      let sq = λ (x : X). is_in_span q (edge x) in let sp = λ (x : X). is_in_span p (edge x) in
      let low = All-filter sq (λ (x : X). In x (spanning edge p xs)) status is.members in
      let high = filter_passes sq status in
      record {
        order = λ i j d h l. stays (get_or (filter sq status) i d) (get_or (filter sq status) j d) (low i d (omega arith)) (low j d l) (high i d (omega arith)) (high j d l) (AllPairs-filter (IsRightJustAbove edge p) sq status is.order i j d h l);
        whole = λ f. sum-filter sq f status ∙ is.whole (λ x. cond (sq x) (f x) 0) ∙ sum-filter sp (λ x. cond (sq x) (f x) 0) xs ∙ in-both f xs (λ x i. both x i) ∙ sym (sum-filter sq f xs);
        members = λ k d h. into-filter sq xs (get_or (filter sq status) k d) (in-filter sp xs (get_or (filter sq status) k d) (low k d h)) (high k d h);
      }
    where
      once : (b c : Bool) (n : ℕ) → (c ≡ true → b ≡ true) → cond b (cond c n 0) 0 ≡ cond c n 0
      once true c n h = refl
      once false true n h = absurd (cc (h refl))
      once false false n h = refl

      in-both : (f : X → ℕ) (ys : List X) → ((x : X) → In x ys → is_in_span q (edge x) ≡ true → is_in_span p (edge x) ≡ true) →
          sum_by (λ x. cond (is_in_span p (edge x)) (cond (is_in_span q (edge x)) (f x) 0) 0) ys ≡ sum_by (λ x. cond (is_in_span q (edge x)) (f x) 0) ys
      in-both f [] h = refl
      in-both f (y ∷ ys) h =
          sum_by-cons (λ x. cond (is_in_span p (edge x)) (cond (is_in_span q (edge x)) (f x) 0) 0) y ys
          ∙ ap (λ n. n + sum_by (λ x. cond (is_in_span p (edge x)) (cond (is_in_span q (edge x)) (f x) 0) 0) ys) (once (is_in_span p (edge y)) (is_in_span q (edge y)) (f y) (h y (inl refl)))
          ∙ ap (λ n. cond (is_in_span q (edge y)) (f y) 0 + n) (in-both f ys (λ x i. h x (inr i)))
          ∙ sym (sum_by-cons (λ x. cond (is_in_span q (edge x)) (f x) 0) y ys)

      apart-by : (t u : X) → right_of p (edge t) (edge u) ≡ true → (b : Bool) → same_edge (edge t) (edge u) ≡ b → b ≡ false
      apart-by t u r false e = refl
      apart-by t u r true e = let g = ap (λ (f : Edge). right_of p (edge t) f) (same_edge-true (edge t) (edge u) e) in absurd (cc (sym r ∙ sym g ∙ right_itself p (edge t)))

      stays : (t u : X) → In t (spanning edge p xs) → In u (spanning edge p xs) → is_in_span q (edge t) ≡ true → is_in_span q (edge u) ≡ true → right_of p (edge t) (edge u) ≡ true → right_of q (edge t) (edge u) ≡ true
      stays t u i j a b r =
          let sp = λ (x : X). is_in_span p (edge x) in
          let it = among t (in-filter sp xs t i) in let iu = among u (in-filter sp xs u j) in
          sym (ap is_plus (order_persists p q (edge t) (edge u) (clear_pair (edge t) (edge u) es free it iu (apart-by t u r (same_edge (edge t) (edge u)) refl)) (in-passes sp xs t i) (in-passes sp xs u j) a b)) ∙ r

  pub rises : (p q : Vector) (xs status : List X) → IsConflictFree (map edge xs) → IsStatus edge p xs status → ((x : X) → In x xs → is_in_span q (edge x) ≡ true → is_in_span p (edge x) ≡ true) →
      IsStatus edge q xs (filter (λ (x : X). is_in_span q (edge x)) status)
  rises p q xs status free is both = rises-among p q xs status (map edge xs) free (λ x i. in-map edge xs x i) is both

  pub counts : (p : Vector) (xs status : List X) → IsStatus edge p xs status → (test : X → Bool) → ((x : X) → test x ≡ true → is_in_span p (edge x) ≡ true) → count_by test status ≡ count_by test xs
  counts p xs status is test spans =
      let sp = λ (x : X). is_in_span p (edge x) in
      is.whole (λ x. cond (test x) 1 0) ∙ sum-filter sp (λ x. cond (test x) 1 0) xs
      ∙ sum-same (λ x. cond (sp x) (cond (test x) 1 0) 0) (λ x. cond (test x) 1 0) xs (λ k d h. kept (sp (get_or xs k d)) (test (get_or xs k d)) (spans (get_or xs k d)))
    where
      kept : (b c : Bool) → (c ≡ true → b ≡ true) → cond {A = ℕ} b (cond c 1 0) 0 ≡ cond c 1 0
      kept true c h = refl
      kept false true h = absurd (cc (h refl))
      kept false false h = refl

  -- each item of the list that spans the height stands in the status, as an edge
  present-step : (f y : X) (ys : List X) (n : ℕ) (d : X) (b : Bool) → same_edge (edge f) (edge y) ≡ b → cond {A = ℕ} b 1 0 + sum_by (λ x. cond (same_edge (edge f) (edge x)) 1 0) ys ≡ n → 1 ≤ n →
      (sum_by (λ x. cond (same_edge (edge f) (edge x)) 1 0) ys ≡ n → (k : ℕ) × (k < length ys) × (edge f ≡ edge (get_or ys k d))) → (k : ℕ) × (k < length (y ∷ ys)) × (edge f ≡ edge (get_or (y ∷ ys) k d))
  present-step f y ys n d true q e h later = (0, omega arith, same_edge-true (edge f) (edge y) q)
  present-step f y ys n d false q e h later = let r = later (let g : sum_by (λ x. cond {A = ℕ} (same_edge (edge f) (edge x)) 1 0) ys ≡ n = omega arith in g) in (suc r.0, (let s = r.1 in omega arith), r.2)

  present-by : (f : X) (ys : List X) (n : ℕ) (d : X) → sum_by (λ x. cond (same_edge (edge f) (edge x)) 1 0) ys ≡ n → 1 ≤ n → (k : ℕ) × (k < length ys) × (edge f ≡ edge (get_or ys k d))
  present-by f [] n d e h = absurd (omega arith)
  present-by f (y ∷ ys) n d e h =
      present-step f y ys n d (same_edge (edge f) (edge y)) refl (sym (sum_by-cons (λ x. cond {A = ℕ} (same_edge (edge f) (edge x)) 1 0) y ys) ∙ e) h (λ g. present-by f ys n d g h)

  some-by : (f : X) (ys : List X) → In f ys → 1 ≤ sum_by (λ x. cond {A = ℕ} (same_edge (edge f) (edge x)) 1 0) ys
  some-by f [] i = absurd i
  some-by f (y ∷ ys) (inl e) =
      let a = sum_by-cons (λ x. cond {A = ℕ} (same_edge (edge f) (edge x)) 1 0) y ys in
      let b : same_edge (edge f) (edge y) ≡ true = subst (λ u. same_edge (edge f) (edge u) ≡ true) e (same_edge-refl (edge f)) in
      let c = ap (λ b. cond {A = ℕ} b 1 0) b in omega arith
  some-by f (y ∷ ys) (inr i) = let a = sum_by-cons (λ x. cond {A = ℕ} (same_edge (edge f) (edge x)) 1 0) y ys in let b = some-by f ys i in omega arith

  pub present : (p : Vector) (xs status : List X) → IsStatus edge p xs status → (f : X) (d : X) → In f xs → is_in_span p (edge f) ≡ true → (k : ℕ) × (k < length status) × (edge f ≡ edge (get_or status k d))
  present p xs status is f d i s =
      present-by f status (sum_by (λ x. cond {A = ℕ} (same_edge (edge f) (edge x)) 1 0) (spanning edge p xs)) d (is.whole (λ x. cond (same_edge (edge f) (edge x)) 1 0))
      (some-by f (spanning edge p xs) (into-filter (λ (x : X). is_in_span p (edge x)) xs f i s))

  member-spans : (p : Vector) (xs status : List X) → IsStatus edge p xs status → (k : ℕ) (d : X) → k < length status → is_in_span p (edge (get_or status k d)) ≡ true
  member-spans p xs status is k d h = in-passes (λ (x : X). is_in_span p (edge x)) xs (get_or status k d) (is.members k d h)

  pub nearest : (p : Vector) (xs status : List X) → IsStatus edge p xs status → (i : ℕ) (d : X) → i + 1 < length status → (f : X) → In f xs → is_right_above p (edge (get_or status i d)) (edge f) ≡ true →
      (edge f ≡ edge (get_or status (i + 1) d)) ⊎ IsRightJustAbove edge p (get_or status (i + 1) d) f
  nearest p xs status is i d inside f j r =
      let e = edge (get_or status i d) in
      let sf = and-left (is_in_span p (edge f)) (right_of p e (edge f)) r in let rf = and-right (is_in_span p (edge f)) (right_of p e (edge f)) r in
      let at = present p xs status is f d j sf in let m = at.0 in
      ⊎_elim
      (λ (here : m ≡ i + 1). inl (at.2 ∙ ap (λ k. edge (get_or status k d)) here))
      (λ (other : m ≢ i + 1). ⊎_elim
      (λ (after : i + 1 < m). inr (subst (λ g. right_of p (edge (get_or status (i + 1) d)) g ≡ true) (sym at.2) (is.order (i + 1) m d after at.1)))
      (λ (not-after : m ≤ i + 1). absurd (behind p xs status is i m d (omega arith) (omega (arith, other)) f at.2 rf))
      (cases_lt (i + 1) m))
      (cases_eq m (i + 1))
    where
      behind : (p : Vector) (xs status : List X) → IsStatus edge p xs status → (i m : ℕ) (d : X) → i < length status → m ≤ i → (f : X) → edge f ≡ edge (get_or status m d) → right_of p (edge (get_or status i d)) (edge f) ≡ true → ⊥
      behind p xs status is i m d inside low f at r =
          let e = edge (get_or status i d) in
          let r' : right_of p e (edge (get_or status m d)) ≡ true = subst (λ g. right_of p e g ≡ true) at r in
          ⊎_elim
          (λ (one : m ≡ i). let q = subst (λ k. right_of p e (edge (get_or status k d)) ≡ true) one r' in cc (sym q ∙ right_itself p e))
          (λ (apart : m ≢ i).
          let back = is.order m i d (omega (arith, apart)) inside in
          let round = right_chain p e (edge (get_or status m d)) e (member-spans p xs status is i d inside) (member-spans p xs status is m d (omega arith)) (member-spans p xs status is i d inside) r' back in
          cc (sym round ∙ right_itself p e))
          (cases_eq m i)

  -- those right of an item that spans the height stand last
  pub parted : (p : Vector) (xs status : List X) → IsStatus edge p xs status → (x : X) → is_in_span p (edge x) ≡ true → IsPartitionedBy (λ (t : X). not (is_right_above p (edge x) (edge t))) status
  parted p xs status is x sx i j d h l k = ⊎_elim
      (λ (one : i ≡ j). subst (λ m. not (is_right_above p (edge x) (edge (get_or status m d))) ≡ true) (sym one) k)
      (λ (before : i < j).
      let st = member-spans p xs status is i d (omega arith) in let su = member-spans p xs status is j d l in
      parted-by (is_right_above p (edge x) (edge (get_or status i d))) refl k
      (λ r. and_from (is_in_span p (edge (get_or status j d))) (right_of p (edge x) (edge (get_or status j d))) su
      (right_chain p (edge x) (edge (get_or status i d)) (edge (get_or status j d)) sx st su (and-right (is_in_span p (edge (get_or status i d))) (right_of p (edge x) (edge (get_or status i d))) r) (is.order i j d before l))))
      (eq-or-lt_of_le h)
    where
      parted-by : {u : Bool} (b : Bool) → {t : Bool} → t ≡ b → not u ≡ true → (t ≡ true → u ≡ true) → not t ≡ true
      parted-by false e n f = ap not e
      parted-by true e n f = let g = f e in absurd (cc (sym n ∙ ap not g))

  -- ---- by neighbours
  pub fits : (p : Vector) (xs status : List X) (x : X) (place : ℕ) → IsStatus edge p xs status → is_in_span p (edge x) ≡ true → place ≤ length status →
      ((d : X) → 0 < place → IsRightJustAbove edge p (get_or status (place - 1) d) x) → ((d : X) → place < length status → IsRightJustAbove edge p x (get_or status place d)) → IsStatus edge p (x ∷ xs) (insert status place x)
  fits p xs status x place is sx within before after =
      let all = split p x xs true sx in
      let spans = member-spans p xs status is in
      record {
        order = pairs_insert (IsRightJustAbove edge p) status place x is.order
            (λ k d h l. ⊎_elim
            (λ (next : k ≡ place - 1). subst (λ m. IsRightJustAbove edge p (get_or status m d) x) (sym next) (before d (omega arith)))
            (λ (far : k ≢ place - 1). right_chain p (edge (get_or status k d)) (edge (get_or status (place - 1) d)) (edge x) (spans k d (omega arith)) (spans (place - 1) d (omega arith)) sx
            (is.order k (place - 1) d (omega (arith, far)) (omega arith)) (before d (omega arith)))
            (cases_eq k (place - 1)))
            (λ k d h l. ⊎_elim
            (λ (next : k ≡ place). subst (λ m. IsRightJustAbove edge p x (get_or status m d)) (sym next) (after d (omega arith)))
            (λ (far : k ≢ place). right_chain p (edge x) (edge (get_or status place d)) (edge (get_or status k d)) sx (spans place d (omega arith)) (spans k d l) (after d (omega arith))
            (is.order place k d (omega (arith, far)) l))
            (cases_eq k place)) within;
        whole = λ f. sum_by-insert f status place x ∙ ap (λ n. n + f x) (is.whole f) ∙ turned-sum (sum_by f (spanning edge p xs)) (f x) ∙ sym (ap (sum_by f) all ∙ sum_by-cons f x (spanning edge p xs));
        members = all_insert (λ (t : X). In t (spanning edge p (x ∷ xs))) status place x (λ k d h. subst (In (get_or status k d)) (sym all) (inr (is.members k d h))) (subst (In x) (sym all) (inl refl));
      }
    where
      turned-sum : (m n : ℕ) → m + n ≡ n + m
      turned-sum m n = omega arith

  pub climbs : (p q : Vector) (xs status : List X) (es : List Edge) → IsConflictFree es → ((x : X) → In x xs → In (edge x) es) → IsStatus edge p xs status →
      ((x : X) → In x xs → is_in_span p (edge x) ≡ is_in_span q (edge x)) → IsStatus edge q xs status
  climbs p q xs status es free among is same =
      let one = same-filter xs same in
      record {
        order = λ i j d h l. stays-by (get_or status i d) (get_or status j d) (is.members i d (omega arith)) (is.members j d l) (is.order i j d h l);
        whole = λ f. is.whole f ∙ ap (sum_by f) one;
        members = λ k d h. subst (In (get_or status k d)) one (is.members k d h);
      }
    where
      same-filter : (ys : List X) → ((x : X) → In x ys → is_in_span p (edge x) ≡ is_in_span q (edge x)) → spanning edge p ys ≡ spanning edge q ys
      same-filter [] h = refl
      same-filter (y ∷ ys) h =
          ap (λ b. cond b (y ∷ spanning edge p ys) (spanning edge p ys)) (h y (inl refl))
          ∙ ap (λ zs. cond (is_in_span q (edge y)) (y ∷ zs) zs) (same-filter ys (λ x i. h x (inr i)))

      differ-by : (t u : X) → right_of p (edge t) (edge u) ≡ true → (b : Bool) → same_edge (edge t) (edge u) ≡ b → b ≡ false
      differ-by t u r false e = refl
      differ-by t u r true e = let g = ap (λ (f : Edge). right_of p (edge t) f) (same_edge-true (edge t) (edge u) e) in absurd (cc (sym r ∙ sym g ∙ right_itself p (edge t)))

      stays-by : (t u : X) → In t (spanning edge p xs) → In u (spanning edge p xs) → right_of p (edge t) (edge u) ≡ true → right_of q (edge t) (edge u) ≡ true
      stays-by t u i j r =
          let sp = λ (x : X). is_in_span p (edge x) in
          let it = in-filter sp xs t i in let iu = in-filter sp xs u j in
          let st = in-passes sp xs t i in let su = in-passes sp xs u j in
          sym (ap is_plus (order_persists p q (edge t) (edge u) (clear_pair (edge t) (edge u) es free (among t it) (among u iu) (differ-by t u r (same_edge (edge t) (edge u)) refl)) st su (sym (same t it) ∙ st) (sym (same u iu) ∙ su))) ∙ r

  -- ---- one is taken out
  from-middle : (t x : X) (front back : List X) → In t (front ++ x ∷ back) → (t ≡ x) ⊎ In t (front ++ back)
  from-middle t x [] back (inl e) = inl e
  from-middle t x [] back (inr i) = inr i
  from-middle t x (y ∷ front) back (inl e) = inr (inl e)
  from-middle t x (y ∷ front) back (inr i) = ⊎_elim inl (λ j. inr (inr j)) (from-middle t x front back i)

  middle-step : (f : X → ℕ) (y : X) (us vs : List X) (n : ℕ) → sum_by f us ≡ sum_by f vs + n → (b : Bool) → sum_by f (cond b (y ∷ us) us) ≡ sum_by f (cond b (y ∷ vs) vs) + n
  middle-step f y us vs n e false = e
  middle-step f y us vs n e true = let c = sum_by-cons f y us in let d = sum_by-cons f y vs in omega (arith, c, d, e)

  middle : (p : Vector) (f : X → ℕ) (x : X) (back : List X) → is_in_span p (edge x) ≡ true → (fs : List X) → sum_by f (spanning edge p (fs ++ x ∷ back)) ≡ sum_by f (spanning edge p (fs ++ back)) + f x
  middle p f x back s [] = let e = ap (sum_by f) (split p x back true s) ∙ sum_by-cons f x (spanning edge p back) in omega (arith, e)
  middle p f x back s (y ∷ fs) = middle-step f y (spanning edge p (fs ++ x ∷ back)) (spanning edge p (fs ++ back)) (f x) (middle p f x back s fs) (is_in_span p (edge y))

  pub leaves : (p : Vector) (front back status : List X) (x : X) (place : ℕ) → IsStatus edge p (front ++ x ∷ back) status → place < length status → ((d : X) → get_or status place d ≡ x) →
      IsStatus edge p (front ++ back) (remove status place)
  leaves p front back status x place is inside at =
      let sp = λ (t : X). is_in_span p (edge t) in
      let sx : is_in_span p (edge x) ≡ true = subst (λ t. is_in_span p (edge t) ≡ true) (at x) (member-spans p (front ++ x ∷ back) status is place x inside) in
      record {
        order = all_pairs_remove (IsRightJustAbove edge p) status place inside is.order;
        whole = λ f. less (sum_by f (remove status place)) (sum_by f (spanning edge p (front ++ back))) (f x) (sum_by f status) (removed f) (is.whole f ∙ middle p f x back sx front);
        members = λ k d h.
            let len = length-remove status place inside in
            let t = get_or (remove status place) k d in
            ⊎_elim
            (λ (low : k < place). other-member k k d (omega arith) (λ e. omega (arith, e)) (get_or-remove_below status place d k low inside))
            (λ (high : place ≤ k). other-member k (k + 1) d (omega (arith, len, h)) (λ e. omega (arith, e)) (get_or-remove_above status place d k high inside))
            (cases_lt k place);
      }
    where
      less : (a b c s : ℕ) → a + c ≡ s → s ≡ b + c → a ≡ b
      less a b c s h k = omega (arith, h, k)

      removed : (f : X → ℕ) → sum_by f (remove status place) + f x ≡ sum_by f status
      removed f = let e = sum_by-IsPermutation f status (x ∷ remove status place) (IsPermutation-remove status place x inside (sym (at x))) in let c = sum_by-cons f x (remove status place) in omega (arith, e, c)

      other-member : (k m : ℕ) (d : X) → m < length status → m ≢ place → get_or (remove status place) k d ≡ get_or status m d → In (get_or (remove status place) k d) (spanning edge p (front ++ back))
      other-member k m d h o e =
          let sp = λ (t : X). is_in_span p (edge t) in
          let i = is.members m d h in
          subst (λ t. In t (spanning edge p (front ++ back))) (sym e)
          (into-filter sp (front ++ back) (get_or status m d)
          (⊎_elim (λ (q : get_or status m d ≡ x). absurd (twice m d h o (q ∙ sym (at d)))) (λ j. j) (from-middle (get_or status m d) x front back (in-filter sp (front ++ x ∷ back) (get_or status m d) i)))
          (in-passes sp (front ++ x ∷ back) (get_or status m d) i))
        where
          twice : (m : ℕ) (d : X) → m < length status → m ≢ place → get_or status m d ≡ get_or status place d → ⊥
          twice m d h o q = ⊎_elim
              (λ (low : m < place). let r = is.order m place d low inside in let r' = subst (λ t. right_of p (edge t) (edge (get_or status place d)) ≡ true) q r in cc (sym r' ∙ right_itself p (edge (get_or status place d))))
              (λ (high : place ≤ m). let r = is.order place m d (omega (arith, o)) h in let r' = subst (λ t. right_of p (edge (get_or status place d)) (edge t) ≡ true) q r in cc (sym r' ∙ right_itself p (edge (get_or status place d))))
              (cases_lt m place)
