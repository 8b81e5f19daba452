-- A sweep over segments, which enter in order of their lower ends and leave in order of their upper ones. Where each enters between two that fit, and each two that come to stand
-- side by side don't conflict, no two conflict at all.
use Rattle.std.proofs.Common.{All, AllPairs, Bool, Contains, List, None, Option, Some, [], ap, arith, cond, drop, false, get_or, inl, inr, length, not, pos, refl, remove, set, subst, suc, sym, take, true, zero, ℕ, ℤ, ⊎_elim, ◌&&◌, ◌++◌, ◌+◌, ◌-◌, ◌-ℤ◌, ◌<◌, ◌||◌, ◌∙◌, ◌∷◌, ◌≡◌, ◌≢◌, ◌≤◌, ◌⊎◌}
use borrow.Author.Differences.{ints}
use Rattle.std.specs.declared.cmp.Ordering.{Ordering}
use Rattle.std.specs.declared.cmp.Ordering.TheVariants.{Equal, Greater, Less}
use Rattle.std.specs.Ordering.{is_eq, is_lt, ordering_then}
use Rattle.std.specs.Option.{is_some}
use Rattle.std.specs.Prelude.{IfSome}
use Rattle.std.specs.List.Sorted.{IsSortedBy}
use Rattle.std.proofs.lemmas.List.MinMax.{ranks_by}
use Rattle.std.proofs.lemmas.List.Sorted.{sorted_far}
use Rattle.std.specs.List.{filter_map, insert}
use Rattle.std.proofs.lemmas.Bool.{cases_eq, cases_lt}
use Rattle.std.proofs.lemmas.Cmp.{tied_itself}
use Rattle.std.proofs.lemmas.List.{get_or-drop, get_or-take, length-drop, length-take-le, take-append-drop, take_all, take_more}
use Rattle.std.proofs.lemmas.List.Edits.{get_or-insert_above, get_or-insert_at, get_or-insert_below, get_or-remove_above, get_or-remove_below, length-insert, length-remove}
use Rattle.std.proofs.lemmas.List.Quantifiers.{all_pairs_remove}
use Rattle.plane.specs.Conflict.{IsClearOf}
use Rattle.plane.specs.Height.{is_in_span}
use Rattle.plane.specs.Order.{order}
use Rattle.plane.specs.Sign.{Minus, Null, Plus, Sign, is_minus, is_plus, negated, sign, then_sign}
use Rattle.plane.specs.Vector.{Vector, orient}
use Rattle.plane.proofs.PlaneKit.{clear_back, order_persists, right_chain, right_itself, right_of, order-reversed, order-self-null, order-sum, at-first-from, at-second-from}
use Rattle.plane.proofs.SignKit.{agree, all, all-out, all2-out, imp, imp-out, says-at, self-diff, sign-from, negated-not-plus, sum-not-minus, not-minus-back}
use Rattle.lists.specs.Member.{In}
use Rattle.lists.proofs.ListsKit.{all_insert, at-in, in-either, in-left, in-right, no_member, pairs_insert, same_get}
use Rattle.osm_lattice.specs.declared.loc.Loc.{Loc}
use Rattle.osm_lattice.specs.declared.seg.Seg.{Seg}
use Rattle.osm_lattice.specs.Conflict.{are_crossing, are_overlapping, conflict_of}
use Rattle.osm_lattice.specs.Loc.{loc_cmp, vector_of}
use Rattle.osm_lattice.specs.Seg.{seg_cmp}
use Rattle.osm_lattice.specs.declared.conflicts.Kind.{Kind}
use Rattle.osm_lattice.specs.declared.conflicts.Kind.TheVariants.{Crossing, Overlap}
use Rattle.osm_lattice.proofs.LatticeKit.{loc_cmp-is, loc_total, rising_edge, seg_total, seg_same}
use Rattle.osm_lattice.specs.OrderLaws.{ordering_of}
use Rattle.lists.specs.Rising.{IsRising}
use Rattle.osm_segments.specs.Pairs.{conflicts_of, pair_of}
use Rattle.osm_segments.specs.Sweep.{EndsRise, FitsAfter, FitsBefore, IsNotBefore, IsFollowed, HasLeft, AreInTheWay, IsPutBetween, lies_left, lies_right}
use Rattle.osm_lattice.specs.Line.{is_left_of_line, is_right_of_line, side_of_line}
use Rattle.osm_segments.specs.Tilted.{tilted, tilted_point}
use Rattle.osm_segments.proofs.EdgePairs.{BeginsLeft, fans, turn-first, turn-second, two_ends}
use Rattle.osm_segments.proofs.EdgeOrders.{BottomsLeft, TopsLeft, begins_left, beside, bottoms-chain, bottoms_left, clear_apart, ends_left, high-of, low-of, same-level, tops-chain, tops_left}
use Rattle.osm_segments.proofs.ToldPlaces.{own_kind}
use Rattle.osm_segments.proofs.SweptLists.{Linked, linked_insert, linked_remove, linked_weaker, pairs_from_linked}
use Rattle.osm_segments.proofs.TiltedEdges.{conflicts-tilted, cross-tilted, height-tilted, order-tilted, tall-tilted}

abbrev pub at_height : ℤ → Vector
at_height y = record { x = pos 0; y = y }

-- u is right of t just above the height
abbrev pub IsRight : ℤ → Seg → Seg → Type 0
IsRight y t u = right_of (at_height y) (tilted t) (tilted u) ≡ true

pub record FitsAbove (y : ℤ) (t u : Seg) : Type 0 where
  pub clear : IsClearOf (tilted t) (tilted u)
  pub right : IsRight y t u

abbrev pub Spans : ℤ → Seg → Type 0
Spans y t = is_in_span (at_height y) (tilted t) ≡ true

-- they are the same, or don't conflict, or one is set aside
abbrev pub Apart : List Seg → Seg → Seg → Type 0
Apart aside u x = (u ≡ x) ⊎ (IsClearOf (tilted u) (tilted x) ⊎ (In u aside ⊎ In x aside))

-- those that entered, and aren't set aside, span a height, in order, and neighbours don't conflict; or they are gone, and don't conflict with any that entered
pub record IsSwept (segs ends aside : List Seg) (next left : ℕ) (status : List Seg) : Type 0 where
  pub gone : List Seg
  pub height : ℤ
  pub entered : All (λ t. In t (take next segs)) status
  pub waiting : All (λ t. In t (drop left ends)) status
  pub spans : All (Spans height) status
  pub linked : Linked (FitsAbove height) status
  pub births : AllPairs (λ t u. BeginsLeft (tilted t) (tilted u)) status
  pub cover : (x : Seg) → In x (take next segs) → (In x status) ⊎ (In x gone ⊎ In x aside)
  pub apart : (u x : Seg) → In u gone → In x (take next segs) → Apart aside u x
  pub aside_in : (u : Seg) → In u aside → In u (take next segs)
  pub aside_out : (u : Seg) → In u aside → In u status → ⊥
  pub gone_in : (u : Seg) → In u gone → In u (take left ends)
  pub passed : (u : Seg) → In u (take left ends) → (i : ℕ) (d : Seg) → next ≤ i → i < length segs → IsNotBefore u.b (get_or segs i d).a

-- ---- lists
in-index : {X : Type 0} (x : X) (xs : List X) (d : X) → In x xs → (m : ℕ) × (m < length xs) × (get_or xs m d ≡ x)
in-index x [] d i = absurd i
in-index x (y ∷ ys) d (inl e) = (0, omega arith, sym e)
in-index x (y ∷ ys) d (inr i) = let r = in-index x ys d i in (suc r.0, (let h = r.1 in omega arith), r.2)

in-remove : {X : Type 0} (x : X) (xs : List X) (i : ℕ) (d : X) → In x xs → i < length xs → (x ≡ get_or xs i d) ⊎ In x (remove xs i)
in-remove x [] i d j h = absurd j
in-remove x (y ∷ ys) zero d (inl e) h = inl e
in-remove x (y ∷ ys) zero d (inr j) h = inr j
in-remove x (y ∷ ys) (suc i) d (inl e) h = inr (inl e)
in-remove x (y ∷ ys) (suc i) d (inr j) h = ⊎_elim (λ e. inl e) (λ k. inr (inr k)) (in-remove x ys i d j (omega arith))

in-removed : {X : Type 0} (x : X) (xs : List X) (i : ℕ) → In x (remove xs i) → In x xs
in-removed x [] zero j = j
in-removed x [] (suc i) j = j
in-removed x (y ∷ ys) zero j = inr j
in-removed x (y ∷ ys) (suc i) (inl e) = inl e
in-removed x (y ∷ ys) (suc i) (inr j) = inr (in-removed x ys i j)

in-whole : {X : Type 0} (x : X) (xs : List X) (i : ℕ) → (In x (take i xs)) ⊎ (In x (drop i xs)) → In x xs
in-whole x xs i (inl k) = subst (In x) (take-append-drop i xs) (in-left (take i xs) (drop i xs) x k)
in-whole x xs i (inr k) = subst (In x) (take-append-drop i xs) (in-right (take i xs) (drop i xs) x k)

in-inserted : {X : Type 0} (x y : X) (xs : List X) (i : ℕ) → In x (insert xs i y) → (x ≡ y) ⊎ In x xs
in-inserted x y xs i j =
    ⊎_elim (λ (k : In x (take i xs)). inr (in-whole x xs i (inl k))) (λ (k : In x (y ∷ drop i xs)). ⊎_elim (λ (e : x ≡ y). inl e) (λ (l : In x (drop i xs)). inr (in-whole x xs i (inr l))) k)
    (in-either (take i xs) (y ∷ drop i xs) x j)

in-insert-new : {X : Type 0} (x : X) (xs : List X) (i : ℕ) → In x (insert xs i x)
in-insert-new x xs i = in-right (take i xs) (x ∷ drop i xs) x (inl refl)

in-insert-old : {X : Type 0} (x y : X) (xs : List X) (i : ℕ) → In x xs → In x (insert xs i y)
in-insert-old x y xs i j =
    ⊎_elim (λ k. in-left (take i xs) (y ∷ drop i xs) x k) (λ k. in-right (take i xs) (y ∷ drop i xs) x (inr k))
    (in-either (take i xs) (drop i xs) x (subst (In x) (sym (take-append-drop i xs)) j))

in-more : {X : Type 0} (x : X) (xs : List X) (k : ℕ) (d : X) → k < length xs → In x (take (k + 1) xs) → (In x (take k xs)) ⊎ (x ≡ get_or xs k d)
in-more x xs k d h j =
    ⊎_elim inl (λ (l : In x (get_or xs k d ∷ [])). ⊎_elim inr (λ none. absurd none) l)
    (in-either (take k xs) (get_or xs k d ∷ []) x (subst (In x) (take_more xs k d h) j))

more-old : {X : Type 0} (x : X) (xs : List X) (k : ℕ) (d : X) → k < length xs → In x (take k xs) → In x (take (k + 1) xs)
more-old x xs k d h j = subst (In x) (sym (take_more xs k d h)) (in-left (take k xs) (get_or xs k d ∷ []) x j)

more-new : {X : Type 0} (xs : List X) (k : ℕ) (d : X) → k < length xs → In (get_or xs k d) (take (k + 1) xs)
more-new xs k d h = subst (In (get_or xs k d)) (sym (take_more xs k d h)) (in-right (take k xs) (get_or xs k d ∷ []) (get_or xs k d) (inl refl))

in-drop-by : {X : Type 0} (x : X) (xs : List X) (k : ℕ) (d : X) → k < length xs → In x (drop k xs) → (x ≡ get_or xs k d) ⊎ In x (drop (suc k) xs)
in-drop-by x [] k d h j = absurd (omega arith)
in-drop-by x (y ∷ ys) zero d h (inl e) = inl e
in-drop-by x (y ∷ ys) zero d h (inr j) = inr j
in-drop-by x (y ∷ ys) (suc k) d h j = in-drop-by x ys k d (omega arith) j

in-drop : {X : Type 0} (x : X) (xs : List X) (k : ℕ) (d : X) → k < length xs → In x (drop k xs) → (x ≡ get_or xs k d) ⊎ In x (drop (k + 1) xs)
in-drop x xs k d h j = ⊎_elim inl (λ i. inr (subst (λ m. In x (drop m xs)) (let e : suc k ≡ k + 1 = omega arith in e) i)) (in-drop-by x xs k d h j)

-- what holds of all but the one that is taken out
all_remove_other : {X : Type 0} (P : X → Type 0) (xs : List X) (i : ℕ) → i < length xs → ((m : ℕ) (d : X) → m < length xs → m ≢ i → P (get_or xs m d)) → All P (remove xs i)
all_remove_other P xs i inside other k d h =
    let len = length-remove xs i inside in
    ⊎_elim
    (λ (low : k < i). subst P (sym (get_or-remove_below xs i d k low inside)) (other k d (omega arith) (λ e. omega (arith, e))))
    (λ (high : i ≤ k). subst P (sym (get_or-remove_above xs i d k high inside)) (other (k + 1) d (omega (arith, len, h)) (λ e. omega (arith, e))))
    (cases_lt k i)

pub from-contains : (xs : List Seg) (x : Seg) → Contains xs x → In x xs
from-contains xs x (m, inside, at) = subst (λ y. In y xs) at (at-in xs m x inside)

pub to-contains : (xs : List Seg) (x : Seg) → In x xs → Contains xs x
to-contains xs x i = in-index x xs x i

-- ---- segments that differ and have no conflict are clear
none_clear : (e o x : Bool) → (if_kind : Option Kind) → if_kind ≡ cond e None (cond o (Some Overlap) (cond x (Some Crossing) None)) → e ≡ false → if_kind ≡ None → (o || x) ≡ false
none_clear true o x k h f n = absurd (cc f)
none_clear false true x k h f n = absurd (cc (sym h ∙ n))
none_clear false false true k h f n = absurd (cc (sym h ∙ n))
none_clear false false false k h f n = refl

untied : (s t : Seg) (o : Ordering) → seg_cmp s t ≡ o → (s ≡ t → ⊥) → is_eq o ≡ false
untied s t Less h n = refl
untied s t Greater h n = refl
untied s t Equal h n = absurd (n (seg_same s t h))

pub clear_of_none : (s t : Seg) → (s ≡ t → ⊥) → conflict_of s t ≡ None → IsClearOf (tilted s) (tilted t)
unfolding are_overlapping are_crossing
clear_of_none s t differ none = conflicts-tilted s t ∙ none_clear (is_eq (seg_cmp s t)) (are_overlapping s t) (are_crossing s t) (conflict_of s t) refl (untied s t (seg_cmp s t) refl differ) none

-- and the other way round
clear_none : (e o x : Bool) → (o || x) ≡ false → cond e None (cond o (Some Overlap) (cond x (Some Crossing) None)) ≡ None
clear_none true o x h = refl
clear_none false true x h = absurd (cc h)
clear_none false false true h = absurd (cc h)
clear_none false false false h = refl

pub none_of_clear : (s t : Seg) → IsClearOf (tilted s) (tilted t) → conflict_of s t ≡ None
unfolding are_overlapping are_crossing
none_of_clear s t clear = clear_none (is_eq (seg_cmp s t)) (are_overlapping s t) (are_crossing s t) (sym (conflicts-tilted s t) ∙ clear)

-- ---- heights of points
after-height : (p q : Loc) → IsNotBefore p q → not (is_minus (sign ((tilted_point q).y -ℤ (tilted_point p).y))) ≡ true
after-height p q h = subst (λ s. not (is_minus s) ≡ true) (sym (height-tilted p q)) h

before-height : (p q : Loc) → IsNotBefore p q → not (is_plus (sign ((tilted_point p).y -ℤ (tilted_point q).y))) ≡ true
before-height p q h = subst (λ s. not (is_plus s) ≡ true) (sym (height-tilted q p ∙ order-reversed (vector_of p) (vector_of q))) (negated-not-plus (order (vector_of p) (vector_of q)) h)

own-height : (y : ℤ) → sign (y -ℤ y) ≡ Null
own-height y = self-diff y

-- ---- all that stand in the status, at its height
module _ (y : ℤ) (xs : List Seg) (spans : All (Spans y) xs) (linked : Linked (FitsAbove y) xs) where
  pub all-right : AllPairs (IsRight y) xs
  all-right = pairs_from_linked (IsRight y) (Spans y) xs spans (λ s t u a b c h k. right_chain (at_height y) (tilted s) (tilted t) (tilted u) a b c h k)
      (linked_weaker (FitsAbove y) (IsRight y) (Spans y) xs spans (λ s t a b f. f.right) linked)

  -- none stands twice
  pub all-differ : (i j : ℕ) (d : Seg) → i < j → j < length xs → get_or xs i d ≡ get_or xs j d → ⊥
  all-differ i j d h l e =
      let r = all-right i j d h l in let own = right_itself (at_height y) (tilted (get_or xs i d)) in
      let r' : right_of (at_height y) (tilted (get_or xs i d)) (tilted (get_or xs i d)) ≡ true = subst (λ (t : Seg). right_of (at_height y) (tilted (get_or xs i d)) (tilted t) ≡ true) (sym e) r in
      cc (sym r' ∙ own)

  -- beside each other where one begins
  pub all-begin : AllPairs (λ t u. BottomsLeft (at_height y) (tilted t) (tilted u)) xs
  all-begin = pairs_from_linked (λ t u. BottomsLeft (at_height y) (tilted t) (tilted u)) (Spans y) xs spans
      (λ s t u a b c h k. bottoms-chain (tilted s) (tilted t) (tilted u) (tall-tilted s) (tall-tilted t) (tall-tilted u) (at_height y) h k)
      (linked_weaker (FitsAbove y) (λ t u. BottomsLeft (at_height y) (tilted t) (tilted u)) (Spans y) xs spans
      (λ t u a b f. bottoms_left (tilted t) (tilted u) (tall-tilted t) (tall-tilted u) f.clear (at_height y) a b f.right) linked)

  -- beside each other at a greater height that all reach
  module _ (q : Vector) (up : sign (q.y -ℤ y) ≡ Plus) (high : All (λ (t : Seg). not (is_minus (sign ((tilted t).to.y -ℤ q.y))) ≡ true) xs) where
    abbrev Reaches : Seg → Type 0
    Reaches t = Spans y t × (not (is_minus (sign ((tilted t).to.y -ℤ q.y))) ≡ true)

    reaches : All Reaches xs
    reaches i d h = (spans i d h, high i d h)

    pub all-end : AllPairs (λ t u. TopsLeft q (tilted t) (tilted u)) xs
    all-end = pairs_from_linked (λ t u. TopsLeft q (tilted t) (tilted u)) Reaches xs reaches
        (λ s t u a b c h k. tops-chain (tilted s) (tilted t) (tilted u) (tall-tilted s) (tall-tilted t) (tall-tilted u) q h k)
        (linked_weaker (FitsAbove y) (λ t u. TopsLeft q (tilted t) (tilted u)) Reaches xs reaches
        (λ t u a b f. tops_left (tilted t) (tilted u) (tall-tilted t) (tall-tilted u) f.clear (at_height y) a.0 b.0 f.right q up a.1 b.1) linked)

-- ---- the upper ends in order
later-ends : (ends : List Seg) → EndsRise ends → (left : ℕ) (d u : Seg) → left < length ends → In u (drop left ends) → IsNotBefore (get_or ends left d).b u.b
later-ends ends rise left d u inside i =
    let r = in-index u (drop left ends) d i in
    let far : left + r.0 < length ends = (let h = r.1 in omega (arith, h, length-drop left ends)) in
    subst (λ (t : Seg). IsNotBefore (get_or ends left d).b t.b) (sym (get_or-drop left ends r.0 d) ∙ r.2) (rise left (left + r.0) d (omega arith) far)

-- ---- some that are set aside
apart_back : (aside : List Seg) (u x : Seg) → Apart aside u x → Apart aside x u
apart_back aside u x (inl e) = inl (sym e)
apart_back aside u x (inr (inl c)) = inr (inl (clear_back (tilted u) (tilted x) c))
apart_back aside u x (inr (inr (inl i))) = inr (inr (inr i))
apart_back aside u x (inr (inr (inr i))) = inr (inr (inl i))

apart_more : (aside : List Seg) (v u x : Seg) → Apart aside u x → Apart (aside ++ v ∷ []) u x
apart_more aside v u x (inl e) = inl e
apart_more aside v u x (inr (inl c)) = inr (inl c)
apart_more aside v u x (inr (inr (inl i))) = inr (inr (inl (in-left aside (v ∷ []) u i)))
apart_more aside v u x (inr (inr (inr i))) = inr (inr (inr (in-left aside (v ∷ []) x i)))

last-in : (aside : List Seg) (v u : Seg) → u ≡ v → In u (aside ++ v ∷ [])
last-in aside v u e = in-right aside (v ∷ []) u (inl e)

one-of : (aside : List Seg) (v u : Seg) → In u (aside ++ v ∷ []) → (In u aside) ⊎ (u ≡ v)
one-of aside v u i = ⊎_elim inl (λ (l : In u (v ∷ [])). ⊎_elim inr (λ none. absurd none) l) (in-either aside (v ∷ []) u i)

-- ---- one is taken out of the status
module _ (segs ends aside : List Seg) (next left : ℕ) (old new : List Seg) (is : IsSwept segs ends aside next left old) (t : Seg) (out : HasLeft t old new) where
  t-is : (d : Seg) → get_or old out.place d ≡ t
  t-is d = same_get old out.place d t out.inside ∙ out.at

  differs-from : (m : ℕ) (d : Seg) → m < length old → m ≢ out.place → get_or old m d ≡ t → ⊥
  differs-from m d h other e = ⊎_elim
      (λ (low : m < out.place). all-differ is.height old is.spans is.linked m out.place d low out.inside (e ∙ sym (t-is d)))
      (λ (not-low : out.place ≤ m). all-differ is.height old is.spans is.linked out.place m d (omega (arith, other)) h (t-is d ∙ sym e))
      (cases_lt m out.place)

  t-entered : In t (take next segs)
  t-entered = subst (λ s. In s (take next segs)) out.at (is.entered out.place t out.inside)

  entered-out : All (λ s. In s (take next segs)) (remove old out.place)
  entered-out = all_remove_other (λ s. In s (take next segs)) old out.place out.inside (λ m d h o. is.entered m d h)

  spans-out : All (Spans is.height) (remove old out.place)
  spans-out = all_remove_other (Spans is.height) old out.place out.inside (λ m d h o. is.spans m d h)

  linked-out : Linked (FitsAbove is.height) (remove old out.place)
  linked-out = linked_remove (FitsAbove is.height) old out.place out.inside is.linked
      (λ d a b. record {
        clear = clear_of_none (get_or old (out.place - 1) d) (get_or old (out.place + 1) d) (all-differ is.height old is.spans is.linked (out.place - 1) (out.place + 1) d (omega arith) b) (out.closes d a b);
        right = all-right is.height old is.spans is.linked (out.place - 1) (out.place + 1) d (omega arith) b;
      })

  births-out : AllPairs (λ s u. BeginsLeft (tilted s) (tilted u)) (remove old out.place)
  births-out = all_pairs_remove (λ s u. BeginsLeft (tilted s) (tilted u)) old out.place out.inside is.births

  from-old : (x : Seg) → In x old → (x ≡ t) ⊎ In x (remove old out.place)
  from-old x j = ⊎_elim (λ (e : x ≡ get_or old out.place t). inl (e ∙ t-is t)) (λ k. inr k) (in-remove x old out.place t j out.inside)

  out-of-new : In t (remove old out.place) → ⊥
  out-of-new i =
      let r = in-index t (remove old out.place) t i in
      all_remove_other (λ s. s ≡ t → ⊥) old out.place out.inside (λ m d h o e. differs-from m d h o e) r.0 t r.1 r.2

  -- it is set aside
  pub has_made_way : IsSwept segs ends (aside ++ t ∷ []) next left new
  has_made_way =
      let fresh : IsSwept segs ends (aside ++ t ∷ []) next left (remove old out.place) = record {
        gone = is.gone;
        height = is.height;
        entered = entered-out;
        waiting = all_remove_other (λ s. In s (drop left ends)) old out.place out.inside (λ m d h o. is.waiting m d h);
        spans = spans-out;
        linked = linked-out;
        births = births-out;
        cover = λ x i. ⊎_elim
            (λ (j : In x old). ⊎_elim (λ (e : x ≡ t). inr (inr (last-in aside t x e))) (λ k. inl k) (from-old x j))
            (λ (j : In x is.gone ⊎ In x aside). ⊎_elim (λ (k : In x is.gone). inr (inl k)) (λ (k : In x aside). inr (inr (in-left aside (t ∷ []) x k))) j) (is.cover x i);
        apart = λ u x i j. apart_more aside t u x (is.apart u x i j);
        aside_in = λ u i. ⊎_elim (λ (k : In u aside). is.aside_in u k) (λ (e : u ≡ t). subst (λ s. In s (take next segs)) (sym e) t-entered) (one-of aside t u i);
        aside_out = λ u i j. ⊎_elim (λ (k : In u aside). is.aside_out u k (in-removed u old out.place j)) (λ (e : u ≡ t). out-of-new (subst (λ s. In s (remove old out.place)) e j)) (one-of aside t u i);
        gone_in = is.gone_in;
        passed = is.passed;
      } in subst (IsSwept segs ends (aside ++ t ∷ []) next left) (sym out.is) fresh

-- ---- one that is set aside ends
module _ (segs ends aside : List Seg) (next left : ℕ) (status : List Seg) (is : IsSwept segs ends aside next left status) (t : Seg) (there : In t aside)
    (at : t ≡ get_or ends left t) (inside : left < length ends) (passes : (i : ℕ) (d : Seg) → next ≤ i → i < length segs → IsNotBefore t.b (get_or segs i d).a) where
  passed-more : (u : Seg) → In u (take (left + 1) ends) → (i : ℕ) (d : Seg) → next ≤ i → i < length segs → IsNotBefore u.b (get_or segs i d).a
  passed-more u i k d l m = ⊎_elim (λ j. is.passed u j k d l m) (λ (e : u ≡ get_or ends left t). subst (λ (s : Seg). IsNotBefore s.b (get_or segs k d).a) (at ∙ sym e) (passes k d l m)) (in-more u ends left t inside i)

  pub has_ended : IsSwept segs ends aside next (left + 1) status
  has_ended = record {
    gone = is.gone;
    height = is.height;
    entered = is.entered;
    waiting = λ m d h. ⊎_elim
        (λ (e : get_or status m d ≡ get_or ends left t). absurd (is.aside_out t there (subst (λ s. In s status) (e ∙ sym at) (at-in status m d h))))
        (λ i. i) (in-drop (get_or status m d) ends left t inside (is.waiting m d h));
    spans = is.spans;
    linked = is.linked;
    births = is.births;
    cover = is.cover;
    apart = is.apart;
    aside_in = is.aside_in;
    aside_out = is.aside_out;
    gone_in = λ u i. more-old u ends left t inside (is.gone_in u i);
    passed = passed-more;
  }

-- ---- one leaves
module _ (segs ends aside : List Seg) (rise : EndsRise ends) (next left : ℕ) (old new : List Seg) (is : IsSwept segs ends aside next left old) (t : Seg) (out : HasLeft t old new)
    (at : t ≡ get_or ends left t) (inside : left < length ends) (passes : (i : ℕ) (d : Seg) → next ≤ i → i < length segs → IsNotBefore t.b (get_or segs i d).a) where
  abbrev q : Vector
  q = tilted_point t.b

  at-place : (d : Seg) → get_or old out.place d ≡ t
  at-place d = t-is segs ends aside next left old new is t out d

  others : (m : ℕ) (d : Seg) → m < length old → m ≢ out.place → get_or old m d ≡ t → ⊥
  others = differs-from segs ends aside next left old new is t out

  up : sign (q.y -ℤ is.height) ≡ Plus
  up = high-of (at_height is.height) (tilted t) (subst (Spans is.height) out.at (is.spans out.place t out.inside))

  high : All (λ (u : Seg). not (is_minus (sign ((tilted u).to.y -ℤ q.y))) ≡ true) old
  high i d h = after-height t.b (get_or old i d).b (subst (λ (s : Seg). IsNotBefore s.b (get_or old i d).b) (sym at) (later-ends ends rise left t (get_or old i d) inside (is.waiting i d h)))

  -- no other in the status conflicts with it
  clear-with : (m : ℕ) (d : Seg) → m < length old → m ≢ out.place → IsClearOf (tilted t) (tilted (get_or old m d))
  clear-with m d h other = ⊎_elim
      (λ (low : m < out.place).
      let u = get_or old m d in
      let begins = subst (λ (s : Seg). BeginsLeft (tilted u) (tilted s)) (at-place d) (is.births m out.place d low out.inside) in
      let tops = subst (λ (s : Seg). TopsLeft q (tilted u) (tilted s)) (at-place d) (all-end is.height old is.spans is.linked q up high m out.place d low out.inside) in
      let ends = ends_left (tilted u) (tilted t) (tall-tilted u) (tall-tilted t) q tops (inr (own-height q.y)) (high m d h) (ap (λ s. not (is_minus s)) (own-height q.y)) in
      clear_back (tilted u) (tilted t) (two_ends (tilted u) (tilted t) begins ends))
      (λ (not-low : out.place ≤ m).
      let above : out.place < m = omega (arith, other) in
      let u = get_or old m d in
      let begins = subst (λ (s : Seg). BeginsLeft (tilted s) (tilted u)) (at-place d) (is.births out.place m d above h) in
      let tops = subst (λ (s : Seg). TopsLeft q (tilted s) (tilted u)) (at-place d) (all-end is.height old is.spans is.linked q up high out.place m d above h) in
      let ends = ends_left (tilted t) (tilted u) (tall-tilted t) (tall-tilted u) q tops (inl (own-height q.y)) (ap (λ s. not (is_minus s)) (own-height q.y)) (high m d h) in
      two_ends (tilted t) (tilted u) begins ends)
      (cases_lt m out.place)

  from-status : (x : Seg) → In x old → (t ≡ x) ⊎ IsClearOf (tilted t) (tilted x)
  from-status x i =
      let r = in-index x old t i in
      ⊎_elim
      (λ (here : r.0 ≡ out.place). inl (sym (at-place t) ∙ ap (λ m. get_or old m t) (sym here) ∙ r.2))
      (λ (other : r.0 ≢ out.place). inr (subst (λ (s : Seg). IsClearOf (tilted t) (tilted s)) r.2 (clear-with r.0 t r.1 other)))
      (cases_eq r.0 out.place)

  from-gone : (x : Seg) → In x is.gone → Apart aside t x
  from-gone x i = apart_back aside x t (is.apart x t i (t-entered segs ends aside next left old new is t out))

  from-all : (x : Seg) → In x (take next segs) → Apart aside t x
  from-all x j = ⊎_elim
      (λ (k : In x old). ⊎_elim (λ (e : t ≡ x). inl e) (λ c. inr (inl c)) (from-status x k))
      (λ (k : In x is.gone ⊎ In x aside). ⊎_elim (λ (l : In x is.gone). from-gone x l) (λ (l : In x aside). inr (inr (inr l))) k)
      (is.cover x j)

  pub has_left : IsSwept segs ends aside next (left + 1) new
  has_left =
      let fresh : IsSwept segs ends aside next (left + 1) (remove old out.place) = record {
        gone = t ∷ is.gone;
        height = is.height;
        entered = entered-out segs ends aside next left old new is t out;
        waiting = all_remove_other (λ s. In s (drop (left + 1) ends)) old out.place out.inside
            (λ m d h o. ⊎_elim (λ (e : get_or old m d ≡ get_or ends left t). absurd (others m d h o (e ∙ sym at))) (λ i. i) (in-drop (get_or old m d) ends left t inside (is.waiting m d h)));
        spans = spans-out segs ends aside next left old new is t out;
        linked = linked-out segs ends aside next left old new is t out;
        births = births-out segs ends aside next left old new is t out;
        cover = λ x i. ⊎_elim
            (λ (j : In x old). ⊎_elim (λ (e : x ≡ t). inr (inl (inl e))) (λ k. inl k) (from-old segs ends aside next left old new is t out x j))
            (λ (j : In x is.gone ⊎ In x aside). ⊎_elim (λ (k : In x is.gone). inr (inl (inr k))) (λ (k : In x aside). inr (inr k)) j) (is.cover x i);
        apart = λ u x i j. ⊎_elim
            (λ (e : u ≡ t). subst (λ (s : Seg). Apart aside s x) (sym e) (from-all x j))
            (λ (k : In u is.gone). is.apart u x k j) i;
        aside_in = is.aside_in;
        aside_out = λ u i j. is.aside_out u i (in-removed u old out.place j);
        gone_in = λ u i. ⊎_elim (λ (e : u ≡ t). subst (λ s. In s (take (left + 1) ends)) (sym (e ∙ at)) (more-new ends left t inside)) (λ k. more-old u ends left t inside (is.gone_in u k)) i;
        passed = λ u i k d l m. ⊎_elim (λ j. is.passed u j k d l m) (λ (e : u ≡ get_or ends left t). subst (λ (s : Seg). IsNotBefore s.b (get_or segs k d).a) (at ∙ sym e) (passes k d l m)) (in-more u ends left t inside i);
      } in subst (IsSwept segs ends aside next (left + 1)) (sym out.is) fresh

-- ---- one enters
-- x, y: the sides of t on which s begins and ends; k: the turn
abbrev left_table : Sign → Sign → Sign → Bool
left_table x y k = imp (agree x (negated k) y) λ _. imp (is_minus x || (not (is_plus x) && is_minus y)) λ _. is_plus (then_sign (negated x) k)

abbrev right_table : Sign → Sign → Sign → Bool
right_table x y k = imp (agree x k y) λ _. imp (is_plus x || (not (is_minus x) && is_plus y)) λ _. is_plus (then_sign x k)

side-tilted : (p : Loc) (t : Seg) → orient (tilted t).from (tilted t).to (tilted_point p) ≡ side_of_line p t
side-tilted p t = cross-tilted (vector_of t.a) (vector_of t.b) (vector_of t.a) (vector_of p)

module _ (s t : Seg) (y : ℤ) (level : sign ((tilted s).from.y -ℤ y) ≡ Null) where
  level-back : sign (y -ℤ (tilted s).from.y) ≡ Null
  level-back = sign-back (tilted s).from.y y level
    where
      sign-back : (a b : ℤ) → sign (a -ℤ b) ≡ Null → sign (b -ℤ a) ≡ Null
      sign-back a b h = let x = says-at Null (a -ℤ b) h in sign-from Null (b -ℤ a) (omega (arith, ints))

  pub left-fits : lies_left s t ≡ true → IsRight y t s
  unfolding is_left_of_line is_right_of_line
  left-fits h =
      let x = side_of_line s.a t in let z = side_of_line s.b t in let k = fans (tilted t) (tilted s) in
      let a : agree x (negated k) z ≡ true =
      subst (λ w. agree w (negated k) z ≡ true) (side-tilted s.a t) (subst (λ w. agree (orient (tilted t).from (tilted t).to (tilted s).from) (negated k) w ≡ true) (side-tilted s.b t) (turn-first (tilted t) (tilted s))) in
      let b : beside (at_height y) (tilted t) (tilted s) ≡ negated x =
      same-level (tilted t) (tilted s) (tall-tilted t) (tall-tilted s) (at_height y) (tilted s).from level-back
      ∙ twice (beside (tilted s).from (tilted t) (tilted s)) ∙ ap negated (sym (at-second-from (tilted t) (tilted s) (tall-tilted t) (tall-tilted s)) ∙ side-tilted s.a t) in
      ap (λ w. is_plus (then_sign w k)) b ∙ imp-out _ _ (imp-out _ _ (all-out (λ k. left_table x z k) (all2-out (λ x z. all (left_table x z)) refl x z) k) a) h
    where
      twice : (s : Sign) → s ≡ negated (negated s)
      twice Plus = refl
      twice Null = refl
      twice Minus = refl

  pub right-fits : lies_right s t ≡ true → IsRight y s t
  unfolding is_left_of_line is_right_of_line
  right-fits h =
      let x = side_of_line s.a t in let z = side_of_line s.b t in let k = fans (tilted s) (tilted t) in
      let a : agree x k z ≡ true =
      subst (λ w. agree w k z ≡ true) (side-tilted s.a t) (subst (λ w. agree (orient (tilted t).from (tilted t).to (tilted s).from) k w ≡ true) (side-tilted s.b t) (turn-second (tilted s) (tilted t))) in
      let b : beside (at_height y) (tilted s) (tilted t) ≡ x =
      same-level (tilted s) (tilted t) (tall-tilted s) (tall-tilted t) (at_height y) (tilted s).from level-back
      ∙ at-first-from (tilted s) (tilted t) (tall-tilted s) (tall-tilted t) ∙ side-tilted s.a t in
      ap (λ w. is_plus (then_sign w k)) b ∙ imp-out _ _ (imp-out _ _ (all-out (λ k. right_table x z k) (all2-out (λ x z. all (right_table x z)) refl x z) k) a) h

-- segments in order begin in order
begins-after-by : (o r : Ordering) → ordering_then o r ≡ Less → (s : Sign) → o ≡ ordering_of s → not (is_minus s) ≡ true
begins-after-by o r h Plus e = refl
begins-after-by o r h Null e = refl
begins-after-by o r h Minus e = let g = ap (λ o. ordering_then o r) e in absurd (cc (sym h ∙ g))

begins-after : (t s : Seg) → seg_cmp t s ≡ Less → IsNotBefore t.a s.a
begins-after t s h = begins-after-by (loc_cmp t.a s.a) (loc_cmp t.b s.b) h (order (vector_of t.a) (vector_of s.a)) (loc_cmp-is t.a s.a)

pub after-own : (p : Loc) → IsNotBefore p p
after-own p = ap (λ s. not (is_minus s)) (order-self-null (vector_of p))

pub after-plus : (p q : Loc) → order (vector_of p) (vector_of q) ≡ Plus → IsNotBefore p q
after-plus p q h = ap (λ s. not (is_minus s)) h

plus-then-after : (p q r : Loc) → order (vector_of p) (vector_of q) ≡ Plus → IsNotBefore q r → order (vector_of p) (vector_of r) ≡ Plus
plus-then-after p q r h k = by-signs (order (vector_of p) (vector_of q)) (order (vector_of q) (vector_of r)) (order (vector_of p) (vector_of r)) (order-sum (vector_of p) (vector_of q) (vector_of r)) h k
  where
    by-signs : (x y z : Sign) → agree x y z ≡ true → x ≡ Plus → not (is_minus y) ≡ true → z ≡ Plus
    by-signs Plus Plus Plus a h k = refl
    by-signs Plus Null Plus a h k = refl
    by-signs Plus Minus z a h k = absurd (cc k)
    by-signs Plus Plus Null a h k = absurd (cc a)
    by-signs Plus Plus Minus a h k = absurd (cc a)
    by-signs Plus Null Null a h k = absurd (cc a)
    by-signs Plus Null Minus a h k = absurd (cc a)
    by-signs Null y z a h k = absurd (cc h)
    by-signs Minus y z a h k = absurd (cc h)

-- one that begins next isn't among those that entered
module _ (segs : List Seg) (rising : IsRising seg_cmp segs) (next : ℕ) (s : Seg) (at : s ≡ get_or segs next s) (inside : next < length segs) where
  pub before-next : (t : Seg) → In t (take next segs) → seg_cmp t s ≡ Less
  before-next t i =
      let r = in-index t (take next segs) s i in
      let low : r.0 < next = (let h = r.1 in omega (arith, h, length-take-le next segs)) in
      subst (λ u. seg_cmp u s ≡ Less) (sym (get_or-take next segs r.0 s low) ∙ r.2) (subst (λ u. seg_cmp (get_or segs r.0 s) u ≡ Less) (sym at) (rising r.0 next s low inside))

  pub differs-from-next : (t : Seg) → In t (take next segs) → t ≡ s → ⊥
  differs-from-next t i e = let own = tied_itself seg_total s in let less : seg_cmp s s ≡ Less = subst (λ u. seg_cmp u s ≡ Less) e (before-next t i) in cc (sym less ∙ own)

-- ---- one is set aside as it begins
module _ (segs ends aside : List Seg) (rising : IsRising seg_cmp segs) (next left : ℕ) (status : List Seg) (is : IsSwept segs ends aside next left status) (s : Seg) (at : s ≡ get_or segs next s) (inside : next < length segs) where
  in-status : (u : Seg) → In u status → In u (take next segs)
  in-status u i = let r = in-index u status s i in subst (λ t. In t (take next segs)) r.2 (is.entered r.0 s r.1)

  pub has_stepped_aside : IsSwept segs ends (aside ++ s ∷ []) (next + 1) left status
  has_stepped_aside = record {
    gone = is.gone;
    height = is.height;
    entered = λ i d h. more-old (get_or status i d) segs next s inside (is.entered i d h);
    waiting = is.waiting;
    spans = is.spans;
    linked = is.linked;
    births = is.births;
    cover = λ x i. ⊎_elim
        (λ (j : In x (take next segs)). ⊎_elim (λ (k : In x status). inl k)
        (λ (k : In x is.gone ⊎ In x aside). ⊎_elim (λ (l : In x is.gone). inr (inl l)) (λ (l : In x aside). inr (inr (in-left aside (s ∷ []) x l))) k) (is.cover x j))
        (λ (e : x ≡ get_or segs next s). inr (inr (last-in aside s x (e ∙ sym at))))
        (in-more x segs next s inside i);
    apart = λ u x i j. ⊎_elim
        (λ (k : In x (take next segs)). apart_more aside s u x (is.apart u x i k))
        (λ (e : x ≡ get_or segs next s). inr (inr (inr (last-in aside s x (e ∙ sym at)))))
        (in-more x segs next s inside j);
    aside_in = λ u i. ⊎_elim
        (λ (k : In u aside). more-old u segs next s inside (is.aside_in u k))
        (λ (e : u ≡ s). subst (λ t. In t (take (next + 1) segs)) (sym (e ∙ at)) (more-new segs next s inside))
        (one-of aside s u i);
    aside_out = λ u i j. ⊎_elim
        (λ (k : In u aside). is.aside_out u k j)
        (λ (e : u ≡ s). differs-from-next segs rising next s at inside u (in-status u j) e)
        (one-of aside s u i);
    gone_in = is.gone_in;
    passed = λ u i k d l m. is.passed u i k d (omega arith) m;
  }

module _ (segs ends aside : List Seg) (rising : IsRising seg_cmp segs) (rise : EndsRise ends) (next left : ℕ) (old new : List Seg) (is : IsSwept segs ends aside next left old) (s : Seg) (put : IsPutBetween s old new)
    (at : s ≡ get_or segs next s) (inside : next < length segs) (some : left < length ends) (first : order (vector_of s.a) (vector_of (get_or ends left s).b) ≡ Plus) (all-end : (x : Seg) → In x segs → In x ends) where
  abbrev h' : ℤ
  h' = (tilted s).from.y

  before-s : (t : Seg) → In t (take next segs) → seg_cmp t s ≡ Less
  before-s = before-next segs rising next s at inside

  differs-from-s : (t : Seg) → In t (take next segs) → t ≡ s → ⊥
  differs-from-s = differs-from-next segs rising next s at inside

  -- all that wait end above s.a
  ends-above : (u : Seg) → In u (drop left ends) → order (vector_of s.a) (vector_of u.b) ≡ Plus
  ends-above u i = plus-then-after s.a (get_or ends left s).b u.b first (later-ends ends rise left s u some i)

  spans-there : (t : Seg) → In t (take next segs) → In t (drop left ends) → Spans h' t
  spans-there t i j = both-in (not (is_plus (sign ((tilted t).from.y -ℤ h')))) (is_plus (sign ((tilted t).to.y -ℤ h'))) (before-height t.a s.a (begins-after t s (before-s t i))) (ap is_plus (height-tilted s.a t.b ∙ ends-above t j))
    where
      both-in : (a b : Bool) → a ≡ true → b ≡ true → a && b ≡ true
      both-in a b h k = rw (h, k) refl

  spans-old : All (Spans h') old
  spans-old i d h = spans-there (get_or old i d) (is.entered i d h) (is.waiting i d h)

  spans-own : Spans h' s
  spans-own = both-in (not (is_plus (sign (h' -ℤ h')))) (is_plus (sign ((tilted s).to.y -ℤ h'))) (ap (λ z. not (is_plus z)) (own-height h')) (ap is_plus (tall-tilted s))
    where
      both-in : (a b : Bool) → a ≡ true → b ≡ true → a && b ≡ true
      both-in a b h k = rw (h, k) refl

  abbrev BothSpan : Seg → Type 0
  BothSpan t = Spans is.height t × Spans h' t

  linked-old : Linked (FitsAbove h') old
  linked-old = linked_weaker (FitsAbove is.height) (FitsAbove h') BothSpan old (λ i d h. (is.spans i d h, spans-old i d h))
      (λ t u a b f. record { clear = f.clear; right = sym (ap is_plus (order_persists (at_height is.height) (at_height h') (tilted t) (tilted u) f.clear a.0 b.0 a.1 b.1)) ∙ f.right }) is.linked

  spans-new : All (Spans h') (insert old put.place s)
  spans-new = all_insert (Spans h') old put.place s spans-old spans-own

  linked-new : Linked (FitsAbove h') (insert old put.place s)
  linked-new = linked_insert (FitsAbove h') old put.place s put.within linked-old
      (λ some. let t = get_or old (put.place - 1) s in let f = put.before some in record {
        clear = clear_of_none t s (differs-from-s t (is.entered (put.place - 1) s (omega (arith, put.within)))) f.0;
        right = left-fits s t h' (own-height h') f.1;
      })
      (λ some. let t = get_or old put.place s in let f = put.after some in record {
        clear = clear_of_none s t (λ e. differs-from-s t (is.entered put.place s some) (sym e)) f.0;
        right = right-fits s t h' (own-height h') f.1;
      })

  bottoms-new : AllPairs (λ t u. BottomsLeft (at_height h') (tilted t) (tilted u)) (insert old put.place s)
  bottoms-new = all-begin h' (insert old put.place s) spans-new linked-new

  s-there : (d : Seg) → get_or (insert old put.place s) put.place d ≡ s
  s-there d = get_or-insert_at old put.place s d put.within

  births-new : AllPairs (λ t u. BeginsLeft (tilted t) (tilted u)) (insert old put.place s)
  births-new = pairs_insert (λ t u. BeginsLeft (tilted t) (tilted u)) old put.place s is.births
      (λ m d low l.
      let t = get_or old m d in
      let b = subst (λ (u : Seg). BottomsLeft (at_height h') (tilted u) (tilted s)) (get_or-insert_below old put.place s d m l put.within)
      (subst (λ (u : Seg). BottomsLeft (at_height h') (tilted (get_or (insert old put.place s) m d)) (tilted u)) (s-there d) (bottoms-new m put.place d l (omega (arith, put.within, length-insert old put.place s put.within)))) in
      begins_left (tilted t) (tilted s) (tall-tilted t) (tall-tilted s) (at_height h') b (inr (own-height h')) (low-of (at_height h') (tilted t) (spans-old m d (omega (arith, put.within)))) (low-of (at_height h') (tilted s) spans-own))
      (λ m d low l.
      let t = get_or old m d in
      let b = subst (λ (u : Seg). BottomsLeft (at_height h') (tilted s) (tilted u)) (get_or-insert_above old put.place s d m low put.within)
      (subst (λ (u : Seg). BottomsLeft (at_height h') (tilted u) (tilted (get_or (insert old put.place s) (m + 1) d))) (s-there d) (bottoms-new put.place (m + 1) d (omega arith) (omega (arith, length-insert old put.place s put.within)))) in
      begins_left (tilted s) (tilted t) (tall-tilted s) (tall-tilted t) (at_height h') b (inl (own-height h')) (low-of (at_height h') (tilted s) spans-own) (low-of (at_height h') (tilted t) (spans-old m d l)))
      put.within

  stands : In s (drop left ends)
  stands = ⊎_elim
      (λ (i : In s (take left ends)).
      let after = subst (λ (t : Seg). IsNotBefore s.b t.a) (sym at) (is.passed s i next s (omega arith) inside) in
      let back : order (vector_of s.b) (vector_of s.a) ≡ Minus = order-reversed (vector_of s.a) (vector_of s.b) ∙ ap negated (rising_edge s) in
      absurd (cc (sym (ap (λ z. not (is_minus z)) back) ∙ after)))
      (λ (i : In s (drop left ends)). i)
      (in-either (take left ends) (drop left ends) s (subst (In s) (sym (take-append-drop left ends)) (all-end s (subst (λ t. In t segs) (sym at) (at-in segs next s inside)))))

  pub has_entered : IsSwept segs ends aside (next + 1) left new
  has_entered =
      let fresh : IsSwept segs ends aside (next + 1) left (insert old put.place s) = record {
        gone = is.gone;
        height = h';
        entered = all_insert (λ t. In t (take (next + 1) segs)) old put.place s (λ i d h. more-old (get_or old i d) segs next s inside (is.entered i d h)) (subst (λ t. In t (take (next + 1) segs)) (sym at) (more-new segs next s inside));
        waiting = all_insert (λ t. In t (drop left ends)) old put.place s is.waiting stands;
        spans = spans-new;
        linked = linked-new;
        births = births-new;
        cover = λ x i. ⊎_elim
            (λ (j : In x (take next segs)). ⊎_elim (λ (k : In x old). inl (in-insert-old x s old put.place k)) (λ k. inr k) (is.cover x j))
            (λ (e : x ≡ get_or segs next s). inl (subst (λ t. In t (insert old put.place s)) (at ∙ sym e) (in-insert-new s old put.place)))
            (in-more x segs next s inside i);
        apart = λ u x i j. ⊎_elim
            (λ (k : In x (take next segs)). is.apart u x i k)
            (λ (e : x ≡ get_or segs next s).
            let after = subst (λ (t : Seg). IsNotBefore u.b t.a) (sym at) (is.passed u (is.gone_in u i) next s (omega arith) inside) in
            let clear = clear_apart (tilted u) (tilted s) (tall-tilted u) (tall-tilted s) (after-height u.b s.a after) (subst (λ z. not (is_minus z) ≡ true) (sym (order-tilted u.b s.a)) after) in
            inr (inl (subst (λ (t : Seg). IsClearOf (tilted u) (tilted t)) (at ∙ sym e) clear)))
            (in-more x segs next s inside j);
        aside_in = λ u i. more-old u segs next s inside (is.aside_in u i);
        aside_out = λ u i j. ⊎_elim (λ (e : u ≡ s). differs-from-s u (is.aside_in u i) e) (λ (k : In u old). is.aside_out u i k) (in-inserted u s old put.place j);
        gone_in = is.gone_in;
        passed = λ u i k d l m. is.passed u i k d (omega arith) m;
      } in subst (IsSwept segs ends aside (next + 1) left) (sym put.is) fresh

-- ---- when all have left, of each two that conflict one is set aside
none-with : (s : Seg) (ts : List Seg) → ((t : Seg) → In t ts → conflict_of s t ≡ None) → filter_map (pair_of s) ts ≡ []
unfolding pair_of
none-with s [] none = refl
none-with s (t ∷ ts) none = rw (none t (inl refl)) (none-with s ts (λ u i. none u (inr i)))

no-conflicts : (ss : List Seg) → ((s t : Seg) → In s ss → In t ss → conflict_of s t ≡ None) → conflicts_of ss ≡ []
no-conflicts [] none = refl
no-conflicts (s ∷ ts) none = rw (none-with s ts (λ t i. none s t (inl refl) (inr i))) (no-conflicts ts (λ t u i j. none t u (inr i) (inr j)))

-- none is set aside
pub all_clear : (segs aside : List Seg) → length aside ≤ 0 → AreInTheWay segs aside → conflicts_of segs ≡ []
all_clear segs [] few others = no-conflicts segs
    (λ s t i j. ⊎_elim (λ none. none) (λ (k : Contains [] s ⊎ Contains [] t). absurd (⊎_elim (no_member s) (no_member t) k)) (others s t (to-contains segs s i) (to-contains segs t j)))
all_clear segs (x ∷ xs) few others = absurd (omega arith)

pub clear_if_found : {A : Type 0} (items : A → List Seg) (segs : List Seg) (found : Option A) → IfSome found (λ a. AreInTheWay segs (items a)) → IfSome found (λ a. length (items a) ≤ 0) → is_some found ≡ true → conflicts_of segs ≡ []
clear_if_found items segs None others few e = absurd (cc e)
clear_if_found items segs (Some a) others few e = all_clear segs (items a) few others

pub all_swept : (segs ends aside : List Seg) (next left : ℕ) (status : List Seg) → next ≡ length segs → length status ≡ 0 → IsSwept segs ends aside next left status → AreInTheWay segs aside
all_swept segs ends aside next left status whole empty is s t i j = ⊎_elim
    (λ (k : In s status). absurd (none-in s status empty k))
    (λ (k : In s is.gone ⊎ In s aside). ⊎_elim (λ (l : In s is.gone). by-apart (is.apart s t l (among t j))) (λ (l : In s aside). inr (inl (to-contains aside s l))) k)
    (is.cover s (among s i))
  where
    none-in : (s : Seg) (xs : List Seg) → length xs ≡ 0 → In s xs → ⊥
    none-in s [] e i = i
    none-in s (x ∷ xs) e i = absurd (omega arith)

    among : (x : Seg) → Contains segs x → In x (take next segs)
    among x c = subst (In x) (sym (take_all next segs (omega arith))) (from-contains segs x c)

    by-apart : Apart aside s t → (conflict_of s t ≡ None) ⊎ (Contains aside s ⊎ Contains aside t)
    by-apart (inl e) = inl (own_kind s t e)
    by-apart (inr (inl c)) = inl (none_of_clear s t c)
    by-apart (inr (inr (inl l))) = inr (inl (to-contains aside s l))
    by-apart (inr (inr (inr l))) = inr (inr (to-contains aside t l))

pub none_swept : (segs ends : List Seg) → IsSwept segs ends [] 0 0 []
none_swept segs ends = record {
  gone = [];
  height = pos 0;
  entered = λ i d h. absurd (omega arith);
  waiting = λ i d h. absurd (omega arith);
  spans = λ i d h. absurd (omega arith);
  linked = λ k d h. absurd (omega arith);
  births = λ i j d h l. absurd (omega arith);
  cover = λ x i. absurd i;
  apart = λ u x i j. absurd i;
  aside_in = λ u i. absurd i;
  aside_out = λ u i j. i;
  gone_in = λ u i. absurd i;
  passed = λ u i k d l m. absurd i;
}

-- ---- sorted by the upper ends
pub ends-rise : (ends : List Seg) → IsSortedBy (λ (s t : Seg). is_lt (loc_cmp s.b t.b)) ends → EndsRise ends
ends-rise ends sorted i j d h l =
    not-less (order (vector_of (get_or ends i d).b) (vector_of (get_or ends j d).b)) (loc_cmp (get_or ends j d).b (get_or ends i d).b)
    (loc_cmp-is (get_or ends j d).b (get_or ends i d).b ∙ ap ordering_of (order-reversed (vector_of (get_or ends i d).b) (vector_of (get_or ends j d).b)))
    (sorted_far (λ (s t : Seg). is_lt (loc_cmp s.b t.b)) (ranks_by loc_total (λ (s : Seg). s.b)) ends sorted i j d h l)
  where
    not-less : (s : Sign) (o : Ordering) → o ≡ ordering_of (negated s) → is_lt o ≡ false → not (is_minus s) ≡ true
    not-less Plus o e h = refl
    not-less Null o e h = refl
    not-less Minus o e h = absurd (cc (sym (ap is_lt e) ∙ h))

-- ---- a segment that doesn't begin before the next upper end, nor any later one
pub after-chain : (p q r : Loc) → IsNotBefore p q → IsNotBefore q r → IsNotBefore p r
after-chain p q r h k = sum-not-minus (order (vector_of p) (vector_of q)) (order (vector_of q) (vector_of r)) (order (vector_of p) (vector_of r)) (order-sum (vector_of p) (vector_of q) (vector_of r)) h k

-- one that doesn't end after another begins has no conflict with it
pub none_below : (s t : Seg) → IsNotBefore s.b t.a → conflict_of s t ≡ None
none_below s t h = none_of_clear s t (clear_apart (tilted s) (tilted t) (tall-tilted s) (tall-tilted t) (after-height s.b t.a h) (subst (λ z. not (is_minus z) ≡ true) (sym (order-tilted s.b t.a)) h))

pub plus-after : (p q : Loc) → is_plus (order (vector_of p) (vector_of q)) ≡ true → IsNotBefore p q
plus-after p q h = by (order (vector_of p) (vector_of q)) h
  where
    by : (s : Sign) → is_plus s ≡ true → not (is_minus s) ≡ true
    by Plus e = refl
    by Null e = refl
    by Minus e = absurd (cc e)

-- p isn't before q
pub not-after : (p q : Loc) → is_plus (order (vector_of p) (vector_of q)) ≡ false → IsNotBefore q p
not-after p q h = not-minus-back (order (vector_of p) (vector_of q)) (order (vector_of q) (vector_of p)) (order-reversed (vector_of p) (vector_of q)) h

pub leaves-by : (segs : List Seg) → IsRising seg_cmp segs → (next : ℕ) (e : Loc) (s : Seg) → s ≡ get_or segs next s → next < length segs → is_plus (order (vector_of s.a) (vector_of e)) ≡ false →
    (i : ℕ) (d : Seg) → next ≤ i → i < length segs → IsNotBefore e (get_or segs i d).a
leaves-by segs rising next e s at inside not-before i d h l =
    let here : IsNotBefore e (get_or segs next d).a = subst (λ (t : Seg). IsNotBefore e t.a) (at ∙ same_get segs next s d inside) (not-minus-back (order (vector_of s.a) (vector_of e)) (order (vector_of e) (vector_of s.a)) (order-reversed (vector_of s.a) (vector_of e)) not-before) in
    ⊎_elim
    (λ (same : i ≡ next). subst (λ m. IsNotBefore e (get_or segs m d).a) (sym same) here)
    (λ (other : i ≢ next). after-chain e (get_or segs next d).a (get_or segs i d).a here (begins-after (get_or segs next d) (get_or segs i d) (rising next i d (omega (arith, other)) l)))
    (cases_eq i next)

-- ---- one in the place of another
in_place : (xs : List Seg) (i : ℕ) (x : Seg) → i < length xs → set xs i x ≡ insert (remove xs i) i x
in_place [] i x h = absurd (omega arith)
in_place (y ∷ ys) zero x h = refl
in_place (y ∷ ys) (suc i) x h = ap (λ zs. y ∷ zs) (in_place ys i x (omega arith))

pub followed : (s t : Seg) (old new : List Seg) (place : ℕ) → place < length old → get_or old place s ≡ s →
    ((d : Seg) → 0 < place → place + 1 < length old → conflict_of (get_or old (place - 1) d) (get_or old (place + 1) d) ≡ None) →
    (0 < place → FitsBefore t (get_or old (place - 1) t)) → (place + 1 < length old → FitsAfter t (get_or old (place + 1) t)) → new ≡ set old place t → IsFollowed s t old new
followed s t old new place inside at closes before after is = record {
  between = remove old place;
  left = record { place = place; inside = inside; at = at; closes = closes; is = refl };
  entered = record {
    place = place;
    within = omega (arith, length-remove old place inside);
    before = λ some. subst (FitsBefore t) (sym (get_or-remove_below old place t (place - 1) (omega arith) inside)) (before some);
    after = λ some. subst (FitsAfter t) (sym (get_or-remove_above old place t place (omega arith) inside)) (after (omega (arith, length-remove old place inside, some)));
    is = is ∙ in_place old place t inside;
  };
}
