-- Objects found by kind and id: those in order by halves, the others where they are told to stand.
use Rattle.std.proofs.Common.{◌≡◌, ◌∙◌, refl, sym, ap, subst, ℕ, suc, zero, ◌+◌, ◌-◌, ◌<◌, ◌≤◌, Bool, true, false, List, [], ◌∷◌, ◌++◌, length, get_or, take, drop, slice_get, All, Option, None, Some, Result, Ok, Err, MatchOption, true≢false, ⊎_elim, arith}
use Rattle.std.specs.BTreeMap.{BTreeMap, get, IsUnchanged, Updates}
use Rattle.std.specs.Map.{lookup}
use Rattle.std.specs.Cmp.{IsTotalOrder}
use Rattle.std.specs.List.{AllWithin, HoldsAt, find}
use Rattle.std.specs.List.Sorted.{IsBinarySearchResult, IsSearchInRange, IsSortedByKey}
use Rattle.std.specs.Option.{IfNone}
use Rattle.std.specs.Ordering.{is_eq, is_lt, ordering_index}
use Rattle.std.specs.Result.{OnErr, OnOk, result_ok}
use Rattle.std.specs.declared.cmp.Ordering.{Ordering}
use Rattle.std.specs.declared.cmp.Ordering.TheVariants.{Less, Equal, Greater}
use Rattle.std.proofs.lemmas.Bool.{cases_lt, false_from_ne_true}
use Rattle.std.proofs.lemmas.List.{get_or_append_left, get_or-append_right, get_or-take, length-drop, length-take-le, length_push, take-append-le, take_all}
use Rattle.std.proofs.lemmas.List.Kept.{IsSortedBy-push}
use Rattle.std.proofs.lemmas.List.MinMax.{ranks_by}
use Rattle.std.proofs.lemmas.List.Sorted.{searchable_from_sorted}
use Rattle.std.proofs.lemmas.Option.{get_or_from_slice_get, same_Some, slice_get-get_or}
use Rattle.osm_elements.specs.declared.object.ObjectRef.{ObjectRef}
use Rattle.osm_elements.specs.contracts.object.ObjectRefOrd.TheImpl.Laws.{total-law, matches_eq-law}
use Rattle.osm_objects.specs.declared.held.Placed.{Placed}
use Rattle.osm_objects.specs.Others.{object_held, ref_held, is_held_at, ref_cmp, TellPlaces}
use Rattle.osm_objects.proofs.StoreLemmas.{eq-is}
use Rattle.osm_objects.proofs.FoundLemmas.{is_at-itself, passes, same_either_way, same_ref}

-- ---- the order

by_ref : IsTotalOrder ref_cmp
by_ref = total-law

-- what has a kind and id ties with it
tied : (of : ObjectRef) (p : Placed) → is_eq (ref_cmp of (ref_held p)) ≡ is_held_at of p
tied of p = sym (matches_eq-law of (ref_held p)) ∙ eq-is of (ref_held p)

tied_back : (of : ObjectRef) (p : Placed) → is_eq (ref_cmp (ref_held p) of) ≡ is_held_at of p
tied_back of p = sym (matches_eq-law (ref_held p) of) ∙ eq-is (ref_held p) of ∙ same_either_way (ref_held p) of

-- what stands at its own kind and id
held_itself : (of : ObjectRef) (p : Placed) → ref_held p ≡ of → is_held_at of p ≡ true
held_itself of p e = subst (λ (r : ObjectRef). is_held_at r p ≡ true) e (is_at-itself (object_held p))

pub held_from : (of : ObjectRef) (p : Placed) → is_held_at of p ≡ true → of ≡ ref_held p
held_from of p is = same_ref of (object_held p) is

-- ---- those in order

module _ (sorted : List Placed) (of : ObjectRef) (up : IsSortedByKey ref_held ref_cmp sorted) where
  not_level : (r s : Ordering) → ordering_index r ≤ ordering_index s → is_lt s ≡ true → is_eq r ≡ false
  not_level Less s le lt = refl
  not_level Greater s le lt = refl
  not_level Equal Less le lt = absurd (omega (arith, le))
  not_level Equal Equal le lt = absurd (cc)
  not_level Equal Greater le lt = absurd (cc)

  last_is : (last : Placed) → Some last ≡ slice_get sorted (length sorted - 1) → (d : Placed) → get_or sorted (length sorted - 1) d ≡ last
  last_is last is d = get_or_from_slice_get sorted (length sorted - 1) last d (sym is)

  -- above the last there is none
  pub none_beyond_last : (last : Placed) → Some last ≡ slice_get sorted (length sorted - 1) → is_lt (ref_cmp (ref_held last) of) ≡ true → All (λ p. is_held_at of p ≡ false) sorted
  none_beyond_last last is lt k d inside =
      let rise = searchable_from_sorted by_ref ref_held sorted of up k (length sorted - 1) d (omega arith) (omega arith) in
      let low : is_lt (ref_cmp (ref_held (get_or sorted (length sorted - 1) d)) of) ≡ true = subst (λ (p : Placed). is_lt (ref_cmp (ref_held p) of) ≡ true) (sym (last_is last is d)) lt in
      sym (tied_back of (get_or sorted k d)) ∙ not_level (ref_cmp (ref_held (get_or sorted k d)) of) _ rise low

  -- one above the last comes in order
  pub one_beyond_last : (last : Placed) → Some last ≡ slice_get sorted (length sorted - 1) → is_lt (ref_cmp (ref_held last) of) ≡ true → (p : Placed) → ref_held p ≡ of → IsSortedByKey ref_held ref_cmp (sorted ++ p ∷ [])
  one_beyond_last last is lt p e =
      let below : is_lt (ref_cmp (ref_held last) (ref_held p)) ≡ true = subst (λ (r : ObjectRef). is_lt (ref_cmp (ref_held last) r) ≡ true) (sym e) lt in
      IsSortedBy-push (λ a b. is_lt (ref_cmp (ref_held a) (ref_held b))) sorted p up
      (λ d some. subst (λ (q : Placed). is_lt (ref_cmp (ref_held p) (ref_held q)) ≡ false) (sym (last_is last is d)) ((ranks_by by_ref ref_held).one_way last p below))

  -- what a search by halves finds
  pub place_found : (r : Result ℕ ℕ) → IsSearchInRange r (length sorted) → IsBinarySearchResult (λ p. ref_cmp (ref_held p) of) sorted r →
      MatchOption (result_ok r) (All (λ p. is_held_at of p ≡ false) sorted) (λ place. (place < length sorted) × HoldsAt (λ p. is_held_at of p ≡ true) sorted place)
  place_found (Ok place) inside found = (inside, λ d. sym (tied_back of (get_or sorted place d)) ∙ ap is_eq (found d))
  place_found (Err place) inside parted =
      let cut = parted (searchable_from_sorted by_ref ref_held sorted of up) in
      λ k d within. ⊎_elim
      (λ before. sym (tied_back of (get_or sorted k d)) ∙ ap is_eq (cut.0 k d (omega arith) before))
      (λ from. sym (tied_back of (get_or sorted k d)) ∙ ap is_eq (cut.1 k d from within))
      (cases_lt k place)

some_none : {A : Type 0} {x : A} → None ≡ Some x → ⊥
some_none h = absurd (cc)

-- of none the last isn't there
pub none_last : (list : List Placed) → None ≡ slice_get list (length list - 1) → list ≡ []
none_last [] none = refl
none_last (p ∷ list) none = absurd (some_none (none ∙ slice_get-get_or (p ∷ list) (length (p ∷ list) - 1) p (omega arith)))

-- ---- the others

-- none is there at which the map's answer fails
module _ (list : List Placed) (of : ObjectRef) (map_tells : ObjectRef → Option ℕ) where
  abbrev pub FailsFrom : Type 0
  FailsFrom = (from : ℕ) → TellPlaces map_tells from list → AllWithin (λ p. is_held_at of p ≡ false) list from (length list)

  told_at : (from k : ℕ) (d : Placed) → TellPlaces map_tells from list → from ≤ k → k < length list → is_held_at of (get_or list k d) ≡ true → map_tells of ≡ Some k
  told_at from k d tell low high is = ap map_tells (held_from of (get_or list k d) is) ∙ tell k d low high

  pub none_untold : map_tells of ≡ None → FailsFrom
  none_untold none from tell k d low high = false_from_ne_true (is_held_at of (get_or list k d)) (λ is. some_none (sym none ∙ told_at from k d tell low high is))

  pub none_outside : (j : ℕ) → map_tells of ≡ Some j → length list ≤ j → FailsFrom
  none_outside j e beyond from tell k d low high = false_from_ne_true (is_held_at of (get_or list k d)) (λ is.
      let same : k ≡ j = same_Some k j (sym (told_at from k d tell low high is) ∙ e) in
      omega arith)

  pub none_there : (j : ℕ) (p : Placed) → map_tells of ≡ Some j → ((d : Placed) → p ≡ get_or list j d) → is_held_at of p ≡ false → FailsFrom
  none_there j p e there fails from tell k d low high = false_from_ne_true (is_held_at of (get_or list k d)) (λ is.
      let same : k ≡ j = same_Some k j (sym (told_at from k d tell low high is) ∙ e) in
      let here : get_or list k d ≡ p = ap (λ (n : ℕ). get_or list n d) same ∙ sym (there d) in
      true≢false (sym is ∙ ap (is_held_at of) here ∙ fails))

pub if_none : {A : Type 0} {P : Type 0} (r : Option A) → P → IfNone r P
if_none None h = h
if_none (Some x) h = tt

pub if_none_too : {A : Type 0} {P Q : Type 0} (r : Option A) → (P → Q) → IfNone r P → IfNone r Q
if_none_too None f h = f h
if_none_too (Some x) f h = tt

-- ---- in the whole list

pub find_none : {A : Type 0} (p : A → Bool) (xs : List A) → All (λ x. p x ≡ false) xs → find p xs ≡ None
find_none p [] all = refl
find_none p (x ∷ xs) all = rw (all zero x (omega arith)) (find_none p xs (λ k d inside. all (suc k) d (omega arith)))

pub none_of : {A : Type 0} (p : A → Bool) (xs : List A) → find p xs ≡ None → All (λ x. p x ≡ false) xs
none_of p [] none k d inside = absurd (omega arith)
none_of p (x ∷ xs) none zero d inside = (passes (p x) x (find p xs) none).0
none_of p (x ∷ xs) none (suc k) d inside = none_of p xs (passes (p x) x (find p xs) none).1 k d (omega arith)

module _ (list : List Placed) (of : ObjectRef) (n : ℕ) (most : n ≤ length list) where
  -- neither among those in order nor among the others
  pub none_among : All (λ p. is_held_at of p ≡ false) (take n list) → AllWithin (λ p. is_held_at of p ≡ false) list n (length list) → find (is_held_at of) list ≡ None
  none_among front behind = find_none (is_held_at of) list (λ k d inside. ⊎_elim
      (λ before. subst (λ (p : Placed). is_held_at of p ≡ false) (get_or-take n list k d before) (front k d (omega (arith, length-take-le n list most))))
      (λ from. behind k d from inside)
      (cases_lt k n))

-- ---- one more

abbrev pub AreKept : ℕ → BTreeMap ObjectRef ℕ → List Placed → Type 0
AreKept n places list = (n ≤ length list) × IsSortedByKey ref_held ref_cmp (take n list) × TellPlaces (get ref_cmp places) n list

-- in order
pub goes_on : (list : List Placed) (p : Placed) (n : ℕ) → n ≤ length list → length (drop n list) ≡ 0 → IsSortedByKey ref_held ref_cmp (take n list ++ p ∷ []) →
    (n ≡ length list) × IsSortedByKey ref_held ref_cmp (take (n + 1) (list ++ p ∷ []))
goes_on list p n most none up =
    let long = length_push list p in
    let cut : length list - n ≡ 0 = sym (length-drop n list) ∙ none in
    let all : take n list ≡ list = take_all n list (omega arith) in
    let also : take (n + 1) (list ++ p ∷ []) ≡ list ++ p ∷ [] = take_all (n + 1) (list ++ p ∷ []) (omega arith) in
    (omega arith, subst (IsSortedByKey ref_held ref_cmp) (ap (λ (front : List Placed). front ++ p ∷ []) all ∙ sym also) up)

pub one_in_order : (list : List Placed) (p : Placed) (n : ℕ) (places : BTreeMap ObjectRef ℕ) → (n ≡ length list) × IsSortedByKey ref_held ref_cmp (take (n + 1) (list ++ p ∷ [])) →
    AreKept (n + 1) places (list ++ p ∷ [])
one_in_order list p n places (all, up) = let long = length_push list p in (omega arith, up, λ j d low high. absurd (omega arith))

-- where nothing more is told
pub kept_same : (n : ℕ) (old new : BTreeMap ObjectRef ℕ) (list : List Placed) → IsUnchanged old new → AreKept n old list → AreKept n new list
kept_same n old new list same kept =
    (kept.0, kept.1, subst (λ (es : List (ObjectRef × ℕ)). TellPlaces (λ q. lookup (λ k. is_eq (ref_cmp q k)) es) n list) (sym same) kept.2)

module _ (list : List Placed) (of : ObjectRef) (n : ℕ) (old new : BTreeMap ObjectRef ℕ) (none : find (is_held_at of) list ≡ None) (updates : Updates ref_cmp old new of (Some (length list))) where
  -- where the others stand is told as before
  told_still : TellPlaces (get ref_cmp old) n list → TellPlaces (get ref_cmp new) n list
  told_still tell j d low high =
      updates.2 (ref_held (get_or list j d)) (tied of (get_or list j d) ∙ none_of (is_held_at of) list none j d high) ∙ tell j d low high

  pub kept_still : AreKept n old list → AreKept n new list
  kept_still kept = (kept.0, kept.1, told_still kept.2)

  pub one_told : (p : Placed) → ref_held p ≡ of → AreKept n old list → AreKept n new (list ++ p ∷ [])
  one_told p e kept =
      let long = length_push list p in (
        omega (arith, kept.0),
        subst (IsSortedByKey ref_held ref_cmp) (sym (take-append-le n list (p ∷ []) kept.0)) kept.1,
        λ j d low high. ⊎_elim
            (λ before. subst (λ (q : Placed). get ref_cmp new (ref_held q) ≡ Some j) (sym (get_or_append_left list (p ∷ []) d j before)) (told_still kept.2 j d low before))
            (λ from.
            let is : length list ≡ j = omega arith in
            let there : get_or (list ++ p ∷ []) j d ≡ p = get_or-append_right list (p ∷ []) (length list) j d refl from ∙ ap (λ (k : ℕ). get_or (p ∷ []) k d) {x = j - length list} {y = 0} (omega arith) in
            ap (λ (q : Placed). get ref_cmp new (ref_held q)) there ∙ ap (get ref_cmp new) e ∙ updates.1 ∙ ap Some is)
            (cases_lt j (length list)),
      )

  -- as the list is after a call
  pub kept_after : (p : Placed) → ref_held p ≡ of → {T E : Type 0} (r : Result T E) (after : List Placed) → OnOk r (after ≡ list ++ p ∷ []) → OnErr r (after ≡ list) → AreKept n old list → AreKept n new after
  kept_after p e (Ok x) after done same kept = subst (AreKept n new) (sym done) (one_told p e kept)
  kept_after p e (Err x) after done same kept = subst (AreKept n new) (sym same) (kept_still kept)
