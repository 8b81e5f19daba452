-- The places that were told, in order and each once, are those of all conflicts of a list.
use Rattle.std.proofs.Common.{All, Contains, List, None, Option, Some, [], ap, arith, cond, get_or, inl, inr, length, map, option_map, refl, subst, suc, sym, zero, ⊎_elim, ℕ, ◌<◌, ◌∙◌, ◌∷◌, ◌≡◌, ◌⊎◌}
use Rattle.std.specs.List.{cons_option, filter_map, slice_get}
use Rattle.std.specs.Option.{option_and_then}
use Rattle.std.specs.declared.cmp.Ordering.{Ordering}
use Rattle.std.specs.declared.cmp.Ordering.TheVariants.{Equal, Greater, Less}
use Rattle.std.specs.Ordering.{is_eq, nat_cmp, ordering_then}
use Rattle.std.proofs.lemmas.Cmp.{tied_itself}
use Rattle.std.proofs.lemmas.List.{length-map}
use Rattle.std.proofs.lemmas.Option.{get_or_from_slice_get, slice_get-get_or, slice_get_within}
use Rattle.std.proofs.lemmas.List.Elements.{Contains-append_cases, Contains-append_left, Contains-append_right}
use Rattle.std.proofs.lemmas.Bool.Decides.{nat_tests}
use Rattle.std.proofs.lemmas.List.Kept.{AllPairs-cons}
use Rattle.osm_lattice.specs.declared.seg.Seg.{Seg}
use Rattle.osm_lattice.specs.Conflict.{are_crossing, are_overlapping, conflict_of}
use Rattle.osm_lattice.specs.declared.conflicts.Kind.{Kind}
use Rattle.osm_lattice.specs.declared.conflicts.Kind.TheVariants.{Crossing, Overlap}
use Rattle.osm_lattice.proofs.LatticeKit.{seg_total}
use Rattle.osm_lattice.specs.ConflictLaws.{ConflictIsSymmetric}
use Rattle.osm_lattice.specs.Seg.{seg_cmp}
use Rattle.lists.specs.Rising.{CountsDetermine, IsRising}
use Rattle.lists.proofs.ListsKit.{first_member, later_member, member_cases, no_member, same_get, stands_once}
use Rattle.osm_segments.specs.declared.pairs.Pair.{Pair}
use Rattle.osm_segments.specs.declared.places.Places.{Places}
use Rattle.osm_segments.specs.contracts.pairs.PairOrd.TheImpl.{cmp-value}
use Rattle.osm_segments.specs.Pairs.{conflicts_of, pair_cmp, pair_of}
use Rattle.osm_segments.specs.Places.{AreConflictPlaces, pair_at}
use Rattle.osm_segments.specs.Ranges.{AreToldOrClear, IsConflictAt, IsGrown, IsTried, places_cmp}
use Rattle.osm_segments.proofs.FoundPairs.{pair_exact, pair_itself, rising_whole, same_once}
use Rattle.osm_segments.proofs.RisingPairs.{before_by_first, before_by_second, conflicts_rising, pair_is}
use Rattle.osm_segments.proofs.ConflictPlaces.{pair-at_both}

-- ---- items that a test keeps
module _ {X Y : Type 0} (h : X → Option Y) where
  -- an item of xs that gives y
  pub record Gives (xs : List X) (y : Y) : Type 0 where
    pub item : X
    pub member : Contains xs item
    pub gives : h item ≡ Some y

  later_option : (o : Option Y) (y : Y) (ys : List Y) → Contains ys y → Contains (cons_option o ys) y
  later_option None y ys c = c
  later_option (Some z) y ys c = later_member z y ys c

  first_option : (o : Option Y) (y : Y) (ys : List Y) → o ≡ Some y → Contains (cons_option o ys) y
  first_option o y ys e = rw e (first_member y ys)

  pub in_filter_map : (xs : List X) (x : X) (y : Y) → Contains xs x → h x ≡ Some y → Contains (filter_map h xs) y
  in_filter_map [] x y c e = absurd (no_member x c)
  in_filter_map (z ∷ zs) x y c e =
      ⊎_elim
      (λ (q : z ≡ x). first_option (h z) y (filter_map h zs) (ap h q ∙ e))
      (λ (c : Contains zs x). later_option (h z) y (filter_map h zs) (in_filter_map zs x y c e))
      (member_cases z x zs c)

  later_gives : (x : X) (xs : List X) (y : Y) → Gives xs y → Gives (x ∷ xs) y
  later_gives x xs y g = record { item = g.item; member = later_member x g.item xs g.member; gives = g.gives }

  from_option : (x : X) (xs : List X) (o : Option Y) (y : Y) → h x ≡ o → (Contains (filter_map h xs) y → Gives xs y) → Contains (cons_option o (filter_map h xs)) y → Gives (x ∷ xs) y
  from_option x xs None y e later c = later_gives x xs y (later c)
  from_option x xs (Some z) y e later c =
      ⊎_elim
      (λ (q : z ≡ y). record { item = x; member = first_member x xs; gives = e ∙ ap Some q })
      (λ (c : Contains (filter_map h xs) y). later_gives x xs y (later c))
      (member_cases z y (filter_map h xs) c)

  pub from_filter_map : (xs : List X) (y : Y) → Contains (filter_map h xs) y → Gives xs y
  from_filter_map [] y c = absurd (no_member y c)
  from_filter_map (x ∷ xs) y c = from_option x xs (h x) y refl (from_filter_map xs y) c

  -- where each item gives something, nothing is left out
  pub all_kept : (xs : List X) → ((x : X) → Contains xs x → (y : Y) × (h x ≡ Some y)) → map h xs ≡ map Some (filter_map h xs)
  all_kept [] each = refl
  all_kept (x ∷ xs) each = (let first = each x (first_member x xs) in kept-by (h x) first.0 first.1) (all_kept xs (λ y c. each y (later_member x y xs c)))
    where
      kept-by : (o : Option Y) (y : Y) → o ≡ Some y → map h xs ≡ map Some (filter_map h xs) → o ∷ map h xs ≡ map Some (cons_option o (filter_map h xs))
      kept-by None y e same = absurd (cc e)
      kept-by (Some z) y e same = ap (λ os. Some z ∷ os) same

  -- and the other way round
  pub kept_items : (xs : List X) (ys : List Y) → map h xs ≡ map Some ys → filter_map h xs ≡ ys
  kept_items [] [] e = refl
  kept_items [] (y ∷ ys) e = absurd (cc e)
  kept_items (x ∷ xs) [] e = absurd (cc e)
  kept_items (x ∷ xs) (y ∷ ys) e =
      let head : h x ≡ Some y = first-is (h x) (Some y) (map h xs) (map Some ys) e in
      let tail : map h xs ≡ map Some ys = rest-is (h x) (Some y) (map h xs) (map Some ys) e in
      rw head (ap (λ zs. y ∷ zs) (kept_items xs ys tail))
    where
      first-is : (a b : Option Y) (xs ys : List (Option Y)) → a ∷ xs ≡ b ∷ ys → a ≡ b
      first-is a b xs ys e = cc

      rest-is : (a b : Option Y) (xs ys : List (Option Y)) → a ∷ xs ≡ b ∷ ys → xs ≡ ys
      rest-is a b xs ys e = cc

all_by_members : {X : Type 0} (P : X → Type 0) (xs : List X) → ((x : X) → Contains xs x → P x) → All P xs
all_by_members P xs each k d h = each (get_or xs k d) (k, h, same_get xs k (get_or xs k d) d h)

-- ---- the segments at two places
record StandAt (segs : List Seg) (p : Places) (x : Pair) : Type 0 where
  pub s : Seg
  pub t : Seg
  pub first : slice_get segs p.first ≡ Some s
  pub second : slice_get segs p.second ≡ Some t
  pub is : pair_of s t ≡ Some x

stand_by : (segs : List Seg) (p : Places) (x : Pair) (o o' : Option Seg) → slice_get segs p.first ≡ o → slice_get segs p.second ≡ o' → option_and_then (λ s. option_and_then (pair_of s) o') o ≡ Some x → StandAt segs p x
stand_by segs p x None o' e f g = absurd (cc g)
stand_by segs p x (Some s) None e f g = absurd (cc g)
stand_by segs p x (Some s) (Some t) e f g = record { s = s; t = t; first = e; second = f; is = g }

stand_at : (segs : List Seg) (p : Places) (x : Pair) → pair_at segs p ≡ Some x → StandAt segs p x
unfolding pair_at
stand_at segs p x e = stand_by segs p x (slice_get segs p.first) (slice_get segs p.second) refl refl e

pub clear_at_places : (segs : List Seg) (p : Places) (s t : Seg) → slice_get segs p.first ≡ Some s → slice_get segs p.second ≡ Some t → conflict_of s t ≡ None → pair_at segs p ≡ None
unfolding pair_of
clear_at_places segs p s t e f none = pair-at_both segs p s t e f ∙ ap (option_map {U = Pair} (λ k. record { kind = k; first = s; second = t })) none

pub kind_at_places : (segs : List Seg) (p : Places) (s t : Seg) (k : Kind) → slice_get segs p.first ≡ Some s → slice_get segs p.second ≡ Some t → conflict_of s t ≡ Some k → pair_at segs p ≡ Some (record { kind = k; first = s; second = t })
unfolding pair_of
kind_at_places segs p s t k e f some = pair-at_both segs p s t e f ∙ ap (option_map {U = Pair} (λ k. record { kind = k; first = s; second = t })) some

-- ---- the conflicts of a list by their places
pub record StandsIn (segs : List Seg) (x : Pair) : Type 0 where
  pub first : ℕ
  pub second : ℕ
  pub ordered : first < second
  pub is : pair_at segs (record { first = first; second = second }) ≡ Some x

one_later : (s : Seg) (ts : List Seg) (i j : ℕ) → pair_at (s ∷ ts) (record { first = suc i; second = suc j }) ≡ pair_at ts (record { first = i; second = j })
unfolding pair_at
one_later s ts i j = refl

pub place_of_conflict : (segs : List Seg) (x : Pair) → Contains (conflicts_of segs) x → StandsIn segs x
place_of_conflict [] x c = absurd (no_member x c)
place_of_conflict (s ∷ ts) x c =
    ⊎_elim
    (λ (k : Contains (filter_map (pair_of s) ts) x). with_first (from_filter_map (pair_of s) ts x k))
    (λ (k : Contains (conflicts_of ts) x). let f = place_of_conflict ts x k in record {
      first = suc f.first;
      second = suc f.second;
      ordered = (let l = f.ordered in omega arith);
      is = one_later s ts f.first f.second ∙ f.is;
    })
    (Contains-append_cases (filter_map (pair_of s) ts) (conflicts_of ts) x c)
  where
    with_first : Gives (pair_of s) ts x → StandsIn (s ∷ ts) x
    with_first g =
        let m = g.member in let k = m.0 in
        record {
          first = 0;
          second = suc k;
          ordered = omega arith;
          is = pair-at_both (s ∷ ts) (record { first = 0; second = suc k }) s g.item refl (slice_get-get_or ts k g.item m.1 ∙ ap Some m.2) ∙ g.gives;
        }

pub conflict_at_places : (segs : List Seg) (i j : ℕ) (x : Pair) → i < j → pair_at segs (record { first = i; second = j }) ≡ Some x → Contains (conflicts_of segs) x
conflict_at_places [] i j x l e = let h = stand_at [] (record { first = i; second = j }) x e in let n = slice_get_within [] i h.s h.first in absurd (omega arith)
conflict_at_places (s ∷ ts) i zero x l e = absurd (omega arith)
conflict_at_places (s ∷ ts) zero (suc j) x l e =
    let h = stand_at (s ∷ ts) (record { first = 0; second = suc j }) x e in
    let same : s ≡ h.s = some_is s h.s h.first in
    let member : Contains ts h.t = (j, slice_get_within ts j h.t h.second, get_or_from_slice_get ts j h.t h.t h.second) in
    Contains-append_left (filter_map (pair_of s) ts) (conflicts_of ts) x (in_filter_map (pair_of s) ts h.t x member (ap (λ u. pair_of u h.t) same ∙ h.is))
  where
    some_is : (a b : Seg) → Some a ≡ Some b → a ≡ b
    some_is a b e = cc
conflict_at_places (s ∷ ts) (suc i) (suc j) x l e =
    Contains-append_right (filter_map (pair_of s) ts) (conflicts_of ts) x (conflict_at_places ts i j x (omega arith) (sym (one_later s ts i j) ∙ e))

-- ---- in order
nat_less : (x y : ℕ) → nat_cmp x y ≡ Less → x < y
nat_less x y e = grind (arith, nat_tests)

nat_same : (x y : ℕ) → nat_cmp x y ≡ Equal → x ≡ y
nat_same x y e = grind (arith, nat_tests)

by_places : (a b c d : ℕ) → ordering_then (nat_cmp a b) (nat_cmp c d) ≡ Less → (a < b) ⊎ ((a ≡ b) × (c < d))
by_places a b c d e = by (nat_cmp a b) refl e
  where
    by : (o : Ordering) → nat_cmp a b ≡ o → ordering_then o (nat_cmp c d) ≡ Less → (a < b) ⊎ ((a ≡ b) × (c < d))
    by Less h e = inl (nat_less a b h)
    by Equal h e = inr (nat_same a b h, nat_less c d e)
    by Greater h e = absurd (cc e)

module _ (segs : List Seg) (rising : IsRising seg_cmp segs) where
  rises_at : (i j : ℕ) (s t : Seg) → i < j → slice_get segs i ≡ Some s → slice_get segs j ≡ Some t → seg_cmp s t ≡ Less
  rises_at i j s t l e f =
      subst (λ (u : Seg). seg_cmp u t ≡ Less) (get_or_from_slice_get segs i s s e)
      (subst (λ (u : Seg). seg_cmp (get_or segs i s) u ≡ Less) (get_or_from_slice_get segs j t s f) (rising i j s l (slice_get_within segs j t f)))

  pair_before : (p q : Places) (x y : Pair) → places_cmp p q ≡ Less → pair_at segs p ≡ Some x → pair_at segs q ≡ Some y → pair_cmp x y ≡ Less
  pair_before p q x y less e f =
      let h = stand_at segs p x e in let k = stand_at segs q y f in
      let of_x = pair_is h.s h.t x h.is in let of_y = pair_is k.s k.t y k.is in
      ⊎_elim
      (λ (l : p.first < q.first). before_by_first x y h.s of_x.first (subst (λ (u : Seg). seg_cmp h.s u ≡ Less) (sym of_y.first) (rises_at p.first q.first h.s k.s l h.first k.first)))
      (λ (b : (p.first ≡ q.first) × (p.second < q.second)).
      let one : h.s ≡ k.s = some_is h.s k.s (sym h.first ∙ (ap (slice_get segs) b.0 ∙ k.first)) in
      before_by_second x y h.s h.t of_x (of_y.first ∙ sym one) (subst (λ (u : Seg). seg_cmp h.t u ≡ Less) (sym of_y.second) (rises_at p.second q.second h.t k.t b.1 h.second k.second)))
      (by_places p.first q.first p.second q.second less)
    where
      some_is : (a b : Seg) → Some a ≡ Some b → a ≡ b
      some_is a b e = cc

  pairs_in_order : (ps : List Places) → ((p : Places) → Contains ps p → IsConflictAt segs p) → IsRising places_cmp ps → IsRising pair_cmp (filter_map (pair_at segs) ps)
  pairs_in_order [] sound up = none_rise
    where
      none_rise : IsRising pair_cmp []
      none_rise i j d h l = absurd (omega arith)
  pairs_in_order (p ∷ ps) sound up = by (pair_at segs p) refl (pairs_in_order ps (λ q c. sound q (later_member p q ps c)) (λ i j d h l. up (suc i) (suc j) d (omega arith) (omega arith)))
    where
      by : (o : Option Pair) → pair_at segs p ≡ o → IsRising pair_cmp (filter_map (pair_at segs) ps) → IsRising pair_cmp (cons_option o (filter_map (pair_at segs) ps))
      by None e later = later
      by (Some x) e later =
          AllPairs-cons (λ (a b : Pair). pair_cmp a b ≡ Less) x (filter_map (pair_at segs) ps)
          (all_by_members (λ (y : Pair). pair_cmp x y ≡ Less) (filter_map (pair_at segs) ps)
          (λ y c. let g = from_filter_map (pair_at segs) ps y c in let m = g.member in
          pair_before p g.item x y (subst (λ (q : Places). places_cmp p q ≡ Less) m.2 (up 0 (suc m.0) g.item (omega arith) (let h = m.1 in omega arith))) e g.gives))
          later

-- ---- all of them
-- a segment has no conflict with itself
own_none : (s : Seg) (x : Pair) → pair_of s s ≡ Some x → ⊥
unfolding pair_of
own_none s x e = none_by (seg_cmp s s) (tied_itself seg_total s) e
  where
    none_by : (o : Ordering) → o ≡ Equal → option_map {U = Pair} (λ k. record { kind = k; first = s; second = s }) (cond (is_eq o) None (cond (are_overlapping s s) (Some Overlap) (cond (are_crossing s s) (Some Crossing) None))) ≡ Some x → ⊥
    none_by Equal h e = cc e
    none_by Less h e = cc h
    none_by Greater h e = cc h

pub own_kind : (s t : Seg) → s ≡ t → conflict_of s t ≡ None
own_kind s t e = subst (λ u. conflict_of s u ≡ None) e (none_by (seg_cmp s s) (tied_itself seg_total s))
  where
    none_by : (o : Ordering) → o ≡ Equal → cond (is_eq o) None (cond (are_overlapping s s) (Some Overlap) (cond (are_crossing s s) (Some Crossing) None)) ≡ None
    none_by Equal h = refl
    none_by Less h = cc h
    none_by Greater h = cc h

pub own_place : (segs : List Seg) (i : ℕ) (x : Pair) → pair_at segs (record { first = i; second = i }) ≡ Some x → ⊥
own_place segs i x e =
    let h = stand_at segs (record { first = i; second = i }) x e in
    own_none h.s x (ap (pair_of h.s) (some_is h.s h.t (sym h.first ∙ h.second)) ∙ h.is)
  where
    some_is : (a b : Seg) → Some a ≡ Some b → a ≡ b
    some_is a b e = cc

pair_back_by : (s t : Seg) (k l : Option Kind) → k ≡ l → option_map {U = Pair} (λ k. record { kind = k; first = t; second = s }) l ≡ None → option_map {U = Pair} (λ k. record { kind = k; first = s; second = t }) k ≡ None
pair_back_by s t None l e h = refl
pair_back_by s t (Some z) None e h = cc e
pair_back_by s t (Some z) (Some w) e h = cc h

pair_back : ConflictIsSymmetric → (s t : Seg) → pair_of t s ≡ None → pair_of s t ≡ None
unfolding pair_of
pair_back alike s t none = pair_back_by s t (conflict_of s t) (conflict_of t s) (alike s t) none

no_pair_back : ConflictIsSymmetric → (segs : List Seg) (i j : ℕ) (x : Pair) → pair_at segs (record { first = i; second = j }) ≡ Some x → pair_at segs (record { first = j; second = i }) ≡ None → ⊥
no_pair_back alike segs i j x e none =
    let h = stand_at segs (record { first = i; second = j }) x e in
    let n = pair_back alike h.s h.t (sym (pair-at_both segs (record { first = j; second = i }) h.t h.s h.second h.first) ∙ none) in
    cc (sym n ∙ h.is)

module _ (alike : ConflictIsSymmetric) (segs : List Seg) (rising : IsRising seg_cmp segs) (start told v : List Places) (empty : start ≡ []) (grown : IsGrown segs start told) (all : AreToldOrClear segs told)
    (kept : (p : Places) → Contains told p → Contains v p) (known : (p : Places) → Contains v p → Contains told p) (up : IsRising places_cmp v) where
  sound_told : (p : Places) → Contains told p → IsConflictAt segs p
  sound_told p c = ⊎_elim (λ (i : Contains start p). absurd (no_member p (subst (λ ps. Contains ps p) empty i))) (λ (k : IsConflictAt segs p). k) (grown.known p c)

  sound : (p : Places) → Contains v p → IsConflictAt segs p
  sound p c = sound_told p (known p c)

  whole_by : (i j : ℕ) (x : Pair) → i < j → pair_at segs (record { first = i; second = j }) ≡ Some x → IsTried segs told i j ⊎ (pair_at segs (record { first = i; second = j }) ≡ None) → Contains told (record { first = i; second = j })
  whole_by i j x l e (inl (inl (inl c))) = c
  whole_by i j x l e (inl (inl (inr none))) = absurd (cc (sym e ∙ none))
  whole_by i j x l e (inl (inr (inl c))) = let h = (sound_told (record { first = j; second = i }) c).ordered in absurd (omega arith)
  whole_by i j x l e (inl (inr (inr none))) = absurd (no_pair_back alike segs i j x e none)
  whole_by i j x l e (inr none) = absurd (cc (sym e ∙ none))

  whole : (i j : ℕ) (x : Pair) → i < j → pair_at segs (record { first = i; second = j }) ≡ Some x → Contains v (record { first = i; second = j })
  whole i j x l e =
      let h = stand_at segs (record { first = i; second = j }) x e in
      kept (record { first = i; second = j }) (whole_by i j x l e (all i j l (slice_get_within segs j h.t h.second)))

  into : (x : Pair) → Contains (filter_map (pair_at segs) v) x → Contains (conflicts_of segs) x
  into x c = let g = from_filter_map (pair_at segs) v x c in let p = g.item in conflict_at_places segs p.first p.second x (sound p g.member).ordered g.gives

  back : (x : Pair) → Contains (conflicts_of segs) x → Contains (filter_map (pair_at segs) v) x
  back x c = let f = place_of_conflict segs x c in in_filter_map (pair_at segs) v (record { first = f.first; second = f.second }) x (whole f.first f.second x f.ordered f.is) f.is

  pub places_are : CountsDetermine cmp-value.it → AreConflictPlaces segs v
  places_are determine =
      let xs = filter_map (pair_at segs) v in let goal = conflicts_of segs in
      let up_xs = rising_whole xs (pairs_in_order segs rising v sound up) in
      let up_goal = rising_whole goal (conflicts_rising segs rising) in
      all_kept (pair_at segs) v (λ p c. let h = sound p c in (h.pair, h.is))
      ∙ ap (map Some) (determine pair_exact xs goal up_xs up_goal (λ x. omega (arith, same_once pair_itself pair_exact xs goal up_goal into back x, stands_once pair_itself pair_exact x xs up_xs)))

pub as_many : (segs : List Seg) (v : List Places) → AreConflictPlaces segs v → length v ≡ length (conflicts_of segs)
as_many segs v are = sym (length-map v (pair_at segs)) ∙ (ap length are ∙ length-map (conflicts_of segs) Some)

pub empty_by : {X : Type 0} (xs : List X) → length xs ≡ 0 → xs ≡ []
empty_by [] e = refl
empty_by (x ∷ xs) e = absurd (omega arith)

pub shown : (segs : List Seg) (p : Places) (x : Pair) → p.first < p.second → pair_at segs p ≡ Some x → conflicts_of segs ≡ [] → ⊥
shown segs p x l is none = no_member x (subst (λ xs. Contains xs x) none (conflict_at_places segs p.first p.second x l is))
