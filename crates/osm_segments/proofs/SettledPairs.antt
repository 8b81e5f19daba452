-- Pairs of segments that were tried or are clear within a strip: rows, halves of a strip, and what is left to settle.
use Rattle.std.proofs.Common.{Bool, Contains, cond, false, filter, true, List, [], ap, arith, get_or, inl, inr, length, length-append, refl, subst, sym, take, ⊎_elim, ℕ, ◌++◌, ◌+◌, ◌-◌, ◌<◌, ◌≤ℤ◌, ◌∙◌, ◌∷◌, ◌≡◌, ◌≢◌, ◌≤◌, ◌⊎◌}
use borrow.Author.Differences.{ints}
use Rattle.std.proofs.lemmas.Bool.{cases_eq, cases_lt}
use Rattle.std.proofs.Math.ListN.{get_or-append}
use Rattle.std.proofs.Math.Seq.{get_or-append_seam}
use Rattle.std.proofs.lemmas.List.{take_all}
use Rattle.std.proofs.lemmas.List.Elements.{Contains-append_cases, Contains-append_left, Contains-append_right}
use Rattle.lists.proofs.ListsKit.{first_member, later_member, member_cases, no_member, same_get, taken_more}
use Rattle.osm_lattice.specs.declared.loc.Loc.{Loc}
use Rattle.osm_lattice.specs.declared.seg.Seg.{Seg}
use Rattle.osm_segments.specs.declared.places.Places.{Places}
use Rattle.osm_segments.specs.declared.ranges.strips.SegAt.{SegAt}
use Rattle.osm_segments.specs.declared.ranges.strips.Strip.{Strip}
use Rattle.osm_segments.specs.Ranges.{AreKept, AreSettled, BothRun, IsConflictAt, IsGrown, IsReduced, IsSettled, IsToldOrNone, IsTried, RunClear, RunsLeft, StandInRow, height}
use Rattle.osm_segments.proofs.StripOrders.{clear_upon, left_chain, left_in_part, turned_run}

-- ---- what was told stays told
pub grown_none : (segs : List Seg) (told : List Places) → IsGrown segs told told
grown_none segs told = record { kept = λ p c. c; known = λ p c. inl c }

pub grown_more : (segs : List Seg) (old mid new : List Places) → IsGrown segs old mid → IsGrown segs mid new → IsGrown segs old new
grown_more segs old mid new first second = record {
  kept = λ p c. second.kept p (first.kept p c);
  known = λ p c. ⊎_elim (λ (c : Contains mid p). first.known p c) (λ (k : IsConflictAt segs p). inr k) (second.known p c);
}

told_still : (segs : List Seg) (old new : List Places) (p : Places) → AreKept old new → IsToldOrNone segs old p → IsToldOrNone segs new p
told_still segs old new p kept (inl c) = inl (kept p c)
told_still segs old new p kept (inr none) = inr none

pub tried_still : (segs : List Seg) (old new : List Places) (i j : ℕ) → AreKept old new → IsTried segs old i j → IsTried segs new i j
tried_still segs old new i j kept (inl t) = inl (told_still segs old new (record { first = i; second = j }) kept t)
tried_still segs old new i j kept (inr t) = inr (told_still segs old new (record { first = j; second = i }) kept t)

pub settled_still : (segs : List Seg) (old new : List Places) (strip : Strip) (s t : SegAt) → AreKept old new → IsSettled segs old strip s t → IsSettled segs new strip s t
settled_still segs old new strip s t kept (inl e) = inl e
settled_still segs old new strip s t kept (inr (inl tried)) = inr (inl (tried_still segs old new s.place t.place kept tried))
settled_still segs old new strip s t kept (inr (inr clear)) = inr (inr clear)

-- ---- what passes a test stays
kept_here : {X : Type 0} (b : Bool) (x y : X) (zs : List X) → b ≡ true → y ≡ x → Contains (cond b (y ∷ zs) zs) x
kept_here true x y zs passes e = subst (Contains (y ∷ zs)) e (first_member y zs)
kept_here false x y zs passes e = absurd (cc passes)

kept_later : {X : Type 0} (b : Bool) (x y : X) (zs : List X) → Contains zs x → Contains (cond b (y ∷ zs) zs) x
kept_later true x y zs c = later_member y x zs c
kept_later false x y zs c = c

kept : {X : Type 0} (p : X → Bool) (xs : List X) (x : X) → p x ≡ true → Contains xs x → Contains (filter p xs) x
kept p [] x passes c = absurd (no_member x c)
kept p (y ∷ ys) x passes c =
    ⊎_elim
    (λ (e : y ≡ x). kept_here (p y) x y (filter p ys) (ap p e ∙ passes) e)
    (λ (d : Contains ys x). kept_later (p y) x y (filter p ys) (kept p ys x passes d))
    (member_cases y x ys c)

pub kept_or : {X : Type 0} (p : X → Bool) (xs : List X) (x : X) → Contains xs x → Contains (filter p xs) x ⊎ (p x ≡ false)
kept_or p xs x c = by (p x) refl
  where
    by : (b : Bool) → p x ≡ b → Contains (filter p xs) x ⊎ (p x ≡ false)
    by true passes = inl (kept p xs x passes c)
    by false fails = inr fails

-- ---- the other way round
turned_clear : (strip : Strip) (s t : Seg) → RunClear strip s t → RunClear strip t s
turned_clear strip s t clear p q run = ⊎_elim inr inl (clear p q (turned_run strip t s p q run))

turned_tried : (segs : List Seg) (told : List Places) (i j : ℕ) → IsTried segs told i j → IsTried segs told j i
turned_tried segs told i j (inl t) = inr t
turned_tried segs told i j (inr t) = inl t

pub turned_settled : (segs : List Seg) (told : List Places) (strip : Strip) (s t : SegAt) → IsSettled segs told strip s t → IsSettled segs told strip t s
turned_settled segs told strip s t (inl e) = inl (sym e)
turned_settled segs told strip s t (inr (inl tried)) = inr (inl (turned_tried segs told s.place t.place tried))
turned_settled segs told strip s t (inr (inr (inl clear))) = inr (inr (inl (turned_clear strip s.seg t.seg clear)))
turned_settled segs told strip s t (inr (inr (inr none))) = inr (inr (inr (none.1, none.0)))

-- ---- rows
-- what both have of a strip lies within the part in which the second runs
module _ (strip part : Strip) (s t : Seg) (low : (part.low ≡ strip.low) ⊎ (part.low ≡ t.a)) (high : (part.high ≡ strip.high) ⊎ (part.high ≡ t.b)) (p q : Loc) (run : BothRun strip s t p q) where
  above_low : height part.low ≤ℤ height p
  above_low = ⊎_elim
      (λ (e : part.low ≡ strip.low). subst (λ (v : Loc). height v ≤ℤ height p) (sym e) run.above)
      (λ (e : part.low ≡ t.a). subst (λ (v : Loc). height v ≤ℤ height p) (sym e) run.second_begins) low

  below_high : height q ≤ℤ height part.high
  below_high = ⊎_elim
      (λ (e : part.high ≡ strip.high). subst (λ (v : Loc). height q ≤ℤ height v) (sym e) run.below)
      (λ (e : part.high ≡ t.b). subst (λ (v : Loc). height q ≤ℤ height v) (sym e) run.second_ends) high

  in_common : (u v : Seg) → RunsLeft part.low part.high u v → RunsLeft p q u v
  in_common u v runs = left_in_part u v part.low part.high p q above_low run.rises below_high runs

row_left : (strip : Strip) (s t : Seg) → RunsLeft strip.low strip.high s t → RunClear strip s t
row_left strip s t runs p q run = inl (left_in_part s t strip.low strip.high p q run.above run.rises run.below runs)

-- of two of a row the earlier one is left
row_at : (strip : Strip) (row : List SegAt) → StandInRow strip row → (s t : SegAt) (i j : ℕ) → i < j → j < length row → get_or row i s ≡ s → get_or row j t ≡ t → RunsLeft strip.low strip.high s.seg t.seg
row_at strip row stand s t i j l hj ei ej =
    subst (λ (u : SegAt). RunsLeft strip.low strip.high u.seg t.seg) ei
    (subst (λ (u : SegAt). RunsLeft strip.low strip.high (get_or row i s).seg u.seg) (same_get row j s t hj ∙ ej) (stand i j s l hj))

-- two of a row
settled_in_row : (segs : List Seg) (told : List Places) (strip : Strip) (row : List SegAt) → StandInRow strip row → (s t : SegAt) → Contains row s → Contains row t → IsSettled segs told strip s t
settled_in_row segs told strip row stand s t (i, hi, ei) (j, hj, ej) =
    ⊎_elim
    (λ (e : i ≡ j). inl (ap (λ (u : SegAt). u.place) (sym ei ∙ (same_get row i s t hi ∙ (ap (λ k. get_or row k t) e ∙ ej)))))
    (λ (n : i ≢ j). ⊎_elim
    (λ (l : i < j). inr (inr (inl (row_left strip s.seg t.seg (row_at strip row stand s t i j l hj ei ej)))))
    (λ (l : j ≤ i). inr (inr (inl (turned_clear strip t.seg s.seg (row_left strip t.seg s.seg (row_at strip row stand t s j i (omega (arith, n)) hi ej ei))))))
    (cases_lt i j))
    (cases_eq i j)

-- one with those of a row: those before `from` are left of it, those from `to` on are right, and the others were tried
module _ (segs : List Seg) (told : List Places) (strip part : Strip) (row : List SegAt) (stand : StandInRow strip row) (t : SegAt) (low : (part.low ≡ strip.low) ⊎ (part.low ≡ t.seg.a)) (high : (part.high ≡ strip.high) ⊎ (part.high ≡ t.seg.b)) (from to : ℕ)
    (from_in : from ≤ length row) (left : 0 < from → (d : SegAt) → RunsLeft part.low part.high (get_or row (from - 1) d).seg t.seg) (right : to < length row → (d : SegAt) → RunsLeft part.low part.high t.seg (get_or row to d).seg)
    (tried : (k : ℕ) (d : SegAt) → from ≤ k → k < to → IsTried segs told (get_or row k d).place t.place) where
  left_of : (s : SegAt) (k : ℕ) → k < from → get_or row k s ≡ s → RunClear strip s.seg t.seg
  left_of s k h e p q run =
      let last = get_or row (from - 1) s in
      let near : RunsLeft p q last.seg t.seg = in_common strip part s.seg t.seg low high p q run last.seg t.seg (left (omega arith) s) in
      ⊎_elim
      (λ (here : k ≡ from - 1). inl (subst (λ (u : SegAt). RunsLeft p q u.seg t.seg) (ap (λ i. get_or row i s) (sym here) ∙ e) near))
      (λ (n : k ≢ from - 1).
      let far : RunsLeft strip.low strip.high s.seg last.seg = subst (λ (u : SegAt). RunsLeft strip.low strip.high u.seg last.seg) e (stand k (from - 1) s (omega (arith, n)) (omega arith)) in
      inl (left_chain p q s.seg last.seg t.seg (left_in_part s.seg last.seg strip.low strip.high p q run.above run.rises run.below far) near))
      (cases_eq k (from - 1))

  right_of : (s : SegAt) (k : ℕ) → to ≤ k → k < length row → get_or row k s ≡ s → RunClear strip s.seg t.seg
  right_of s k h inside e p q run =
      let first = get_or row to s in
      let near : RunsLeft p q t.seg first.seg = in_common strip part s.seg t.seg low high p q run t.seg first.seg (right (omega arith) s) in
      ⊎_elim
      (λ (here : k ≡ to). inr (subst (λ (u : SegAt). RunsLeft p q t.seg u.seg) (ap (λ i. get_or row i s) (sym here) ∙ e) near))
      (λ (n : k ≢ to).
      let far : RunsLeft strip.low strip.high first.seg s.seg = subst (λ (u : SegAt). RunsLeft strip.low strip.high first.seg u.seg) e (stand to k s (omega (arith, n)) inside) in
      inr (left_chain p q t.seg first.seg s.seg near (left_in_part first.seg s.seg strip.low strip.high p q run.above run.rises run.below far)))
      (cases_eq k to)

  pub settled_beside : (s : SegAt) → Contains row s → IsSettled segs told strip s t
  settled_beside s (k, inside, e) =
      ⊎_elim
      (λ (l : k < from). inr (inr (inl (left_of s k l e))))
      (λ (l : from ≤ k). ⊎_elim
      (λ (m : k < to). inr (inl (subst (λ (u : SegAt). IsTried segs told u.place t.place) e (tried k s l m))))
      (λ (m : to ≤ k). inr (inr (inl (right_of s k m inside e))))
      (cases_lt k to))
      (cases_lt k from)

-- ---- one more in a list
pub one_more_in : {X : Type 0} (xs : List X) (i : ℕ) (x : X) → i < length xs → x ≡ get_or xs i x → (s : X) → Contains (take (i + 1) xs) s → Contains (take i xs) s ⊎ (x ≡ s)
one_more_in xs i x h is s c =
    ⊎_elim
    (λ (k : Contains (take i xs) s). inl k)
    (λ (k : Contains (x ∷ []) s). ⊎_elim (λ (e : x ≡ s). inr e) (λ (n : Contains [] s). absurd (no_member s n)) (member_cases x s [] k))
    (Contains-append_cases (take i xs) (x ∷ []) s (subst (λ ys. Contains ys s) (taken_more xs i x h is) c))

pub last_in : {X : Type 0} (xs : List X) (x : X) → Contains (xs ++ x ∷ []) x
last_in xs x = Contains-append_right xs (x ∷ []) x (first_member x [])

pub none_taken : {X : Type 0} (xs : List X) (s : X) → Contains (take 0 xs) s → ⊥
none_taken [] s c = no_member s c
none_taken (x ∷ xs) s c = no_member s c

-- each of the first i went to one of two lists, and so does the next
pub went_first : (xs xs1 xs2 : List SegAt) (i : ℕ) (x : SegAt) → i < length xs → x ≡ get_or xs i x → ((s : SegAt) → Contains (take i xs) s → Contains xs1 s ⊎ Contains xs2 s) → (s : SegAt) → Contains (take (i + 1) xs) s → Contains (xs1 ++ x ∷ []) s ⊎ Contains xs2 s
went_first xs xs1 xs2 i x h is before s c =
    ⊎_elim
    (λ (k : Contains (take i xs) s). ⊎_elim (λ (j : Contains xs1 s). inl (Contains-append_left xs1 (x ∷ []) s j)) (λ (j : Contains xs2 s). inr j) (before s k))
    (λ (e : x ≡ s). inl (subst (Contains (xs1 ++ x ∷ [])) e (last_in xs1 x)))
    (one_more_in xs i x h is s c)

pub went_second : (xs xs1 xs2 : List SegAt) (i : ℕ) (x : SegAt) → i < length xs → x ≡ get_or xs i x → ((s : SegAt) → Contains (take i xs) s → Contains xs1 s ⊎ Contains xs2 s) → (s : SegAt) → Contains (take (i + 1) xs) s → Contains xs1 s ⊎ Contains (xs2 ++ x ∷ []) s
went_second xs xs1 xs2 i x h is before s c =
    ⊎_elim
    (λ (k : Contains (take i xs) s). ⊎_elim (λ (j : Contains xs1 s). inl j) (λ (j : Contains xs2 s). inr (Contains-append_left xs2 (x ∷ []) s j)) (before s k))
    (λ (e : x ≡ s). inr (subst (Contains (xs2 ++ x ∷ [])) e (last_in xs2 x)))
    (one_more_in xs i x h is s c)

pub all_taken : {X : Type 0} (xs : List X) (i : ℕ) (s : X) → length xs ≤ i → Contains xs s → Contains (take i xs) s
all_taken xs i s h c = subst (λ ys. Contains ys s) (sym (take_all i xs h)) c

-- one more at the end of a row
pub longer_row : (strip : Strip) (row : List SegAt) (x : SegAt) → StandInRow strip row → ((d : SegAt) → 0 < length row → RunsLeft strip.low strip.high (get_or row (length row - 1) d).seg x.seg) → StandInRow strip (row ++ x ∷ [])
longer_row strip row x stand after i j d l h =
    ⊎_elim
    (λ (inside : j < length row).
    subst (λ (u : SegAt). RunsLeft strip.low strip.high u.seg (get_or (row ++ x ∷ []) j d).seg) (sym (get_or-append row (x ∷ []) d i (omega arith)))
    (subst (λ (u : SegAt). RunsLeft strip.low strip.high (get_or row i d).seg u.seg) (sym (get_or-append row (x ∷ []) d j inside)) (stand i j d l inside)))
    (λ (end : length row ≤ j).
    let last : j ≡ length row = omega (arith, h, length-append row (x ∷ [])) in
    let there : get_or (row ++ x ∷ []) j d ≡ x = ap (λ k. get_or (row ++ x ∷ []) k d) last ∙ get_or-append_seam row x [] d in
    subst (λ (u : SegAt). RunsLeft strip.low strip.high u.seg (get_or (row ++ x ∷ []) j d).seg) (sym (get_or-append row (x ∷ []) d i (omega arith)))
    (subst (λ (u : SegAt). RunsLeft strip.low strip.high (get_or row i d).seg u.seg) (sym there) (before-last i (omega arith))))
    (cases_lt j (length row))
  where
    before-last : (i : ℕ) → i < length row → RunsLeft strip.low strip.high (get_or row i d).seg x.seg
    before-last i h =
        ⊎_elim
        (λ (here : i ≡ length row - 1). subst (λ k. RunsLeft strip.low strip.high (get_or row k d).seg x.seg) (sym here) (after d (omega arith)))
        (λ (n : i ≢ length row - 1). left_chain strip.low strip.high (get_or row i d).seg (get_or row (length row - 1) d).seg x.seg (stand i (length row - 1) d (omega (arith, n)) (omega arith)) (after d (omega arith)))
        (cases_eq i (length row - 1))

-- ---- what is left to settle
pub reduced_none : (segs : List Seg) (strip : Strip) (told : List Places) (left all : List SegAt) → ((s : SegAt) → Contains all s → Contains left s) → IsReduced segs strip told left all
reduced_none segs strip told left all within later kept settled s t i j = settled s t (within s i) (within t j)

pub reduced_more : (segs : List Seg) (strip : Strip) (old new : List Places) (least left all : List SegAt) → AreKept old new → IsReduced segs strip old left all → IsReduced segs strip new least left → IsReduced segs strip new least all
reduced_more segs strip old new least left all kept first second later still settled =
    first later (λ p c. still p (kept p c)) (second later still settled)

-- a row was taken out, and settled with all that is left
module _ (segs : List Seg) (strip : Strip) (told : List Places) (row rest others all : List SegAt) (whole : (s : SegAt) → Contains all s → Contains row s ⊎ Contains rest s) (stand : StandInRow strip row)
    (with_rest : (s t : SegAt) → Contains row s → Contains rest t → IsSettled segs told strip s t) (with_others : (s t : SegAt) → Contains row s → Contains others t → IsSettled segs told strip s t) where
  parts : (s : SegAt) → Contains (all ++ others) s → Contains row s ⊎ Contains (rest ++ others) s
  parts s c =
      ⊎_elim
      (λ (i : Contains all s). ⊎_elim (λ (k : Contains row s). inl k) (λ (k : Contains rest s). inr (Contains-append_left rest others s k)) (whole s i))
      (λ (i : Contains others s). inr (Contains-append_right rest others s i))
      (Contains-append_cases all others s c)

  across : (s t : SegAt) → Contains row s → Contains (rest ++ others) t → IsSettled segs told strip s t
  across s t i c =
      ⊎_elim (λ (j : Contains rest t). with_rest s t i j) (λ (j : Contains others t). with_others s t i j) (Contains-append_cases rest others t c)

  pub row_out : IsReduced segs strip told (rest ++ others) (all ++ others)
  row_out later kept settled s t i j =
      ⊎_elim
      (λ (r : Contains row s). ⊎_elim
      (λ (q : Contains row t). settled_in_row segs later strip row stand s t r q)
      (λ (q : Contains (rest ++ others) t). settled_still segs told later strip s t kept (across s t r q))
      (parts t j))
      (λ (r : Contains (rest ++ others) s). ⊎_elim
      (λ (q : Contains row t). turned_settled segs later strip t s (settled_still segs told later strip t s kept (across t s q r)))
      (λ (q : Contains (rest ++ others) t). settled s t r q)
      (parts t j))
      (parts s i)

pub none_left : (rest others : List SegAt) → length rest ≡ 0 → (s : SegAt) → Contains (rest ++ others) s → Contains others s
none_left [] others e s c = c
none_left (x ∷ xs) others e s c = absurd (omega arith)

-- ---- halves of a strip
module _ (segs : List Seg) (told : List Places) (strip : Strip) (m : Loc) (s t : SegAt) where
  -- none reaches below m, or above it
  high_one : (height m ≤ℤ height s.seg.a) ⊎ (height m ≤ℤ height t.seg.a) → RunClear (record { low = strip.low; high = m }) s.seg t.seg
  high_one (inl h) p q run = let a = run.rises in let b = run.below in let c = run.first_begins in absurd (omega (arith, ints))
  high_one (inr h) p q run = let a = run.rises in let b = run.below in let c = run.second_begins in absurd (omega (arith, ints))

  low_one : (height s.seg.b ≤ℤ height m) ⊎ (height t.seg.b ≤ℤ height m) → RunClear (record { low = m; high = strip.high }) s.seg t.seg
  low_one (inl h) p q run = let a = run.rises in let b = run.above in let c = run.first_ends in absurd (omega (arith, ints))
  low_one (inr h) p q run = let a = run.rises in let b = run.above in let c = run.second_ends in absurd (omega (arith, ints))

  upon : IsSettled segs told (record { low = strip.low; high = m }) s t → IsSettled segs told (record { low = m; high = strip.high }) s t → IsSettled segs told strip s t
  upon (inl e) above = inl e
  upon (inr (inl tried)) above = inr (inl tried)
  upon (inr (inr (inr none))) above = inr (inr (inr none))
  upon (inr (inr (inl clear))) (inl e) = inl e
  upon (inr (inr (inl clear))) (inr (inl tried)) = inr (inl tried)
  upon (inr (inr (inl clear))) (inr (inr (inr none))) = inr (inr (inr none))
  upon (inr (inr (inl clear))) (inr (inr (inl clear'))) = inr (inr (inl (clear_upon strip m s.seg t.seg clear clear')))

pub halves_settled : (segs : List Seg) (mid told : List Places) (strip : Strip) (m : Loc) (all below above : List SegAt) →
    ((s : SegAt) → Contains all s → Contains below s ⊎ (height m ≤ℤ height s.seg.a)) → ((s : SegAt) → Contains all s → Contains above s ⊎ (height s.seg.b ≤ℤ height m)) → AreKept mid told →
    AreSettled segs mid (record { low = strip.low; high = m }) below → AreSettled segs told (record { low = m; high = strip.high }) above → AreSettled segs told strip all
halves_settled segs mid told strip m all below above to_below to_above kept settled_below settled_above s t i j =
    upon segs told strip m s t
    (⊎_elim
    (λ (r : Contains below s). ⊎_elim
    (λ (q : Contains below t). settled_still segs mid told (record { low = strip.low; high = m }) s t kept (settled_below s t r q))
    (λ (h : height m ≤ℤ height t.seg.a). inr (inr (inl (high_one segs told strip m s t (inr h))))) (to_below t j))
    (λ (h : height m ≤ℤ height s.seg.a). inr (inr (inl (high_one segs told strip m s t (inl h))))) (to_below s i))
    (⊎_elim
    (λ (r : Contains above s). ⊎_elim
    (λ (q : Contains above t). settled_above s t r q)
    (λ (h : height t.seg.b ≤ℤ height m). inr (inr (inl (low_one segs told strip m s t (inr h))))) (to_above t j))
    (λ (h : height s.seg.b ≤ℤ height m). inr (inr (inl (low_one segs told strip m s t (inl h))))) (to_above s i))
