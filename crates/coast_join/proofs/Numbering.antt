-- Locations with how often each stands before, and what goes on to what by that.
use Rattle.std.proofs.Common.{◌≡◌, ◌↔◌, ℕ, zero, suc, ◌+◌, ◌<◌, ◌≤◌, Bool, true, false, cond, List, [], ◌∷◌, ◌++◌, length, take, map, get_or, Option, Some, None, option_map, unwrap_or, refl, sym, ap, subst, ◌∙◌, arith, ⊎_elim}
use Rattle.std.specs.declared.cmp.Ordering.{Ordering}
use Rattle.std.specs.declared.cmp.Ordering.TheVariants.{Less, Equal, Greater}
use Rattle.std.specs.Ordering.{is_eq, nat_cmp, ordering_then}
use Rattle.std.specs.Cmp.{IsTotalOrder}
use Rattle.std.specs.List.{slice_get}
use Rattle.std.proofs.lemmas.Bool.{cases_lt, false≢true}
use Rattle.std.proofs.lemmas.Cmp.{tied_itself, int_cmp_total, on_total, then_total, nat_cmp_total, ranked}
use Rattle.std.proofs.lemmas.List.{take-append-le, take_all, length_push, take-take, length-map}
use Rattle.std.proofs.lemmas.List.Sums.{sum_by_push, sum_by-take-le, sum_by_more}
use Rattle.std.proofs.lemmas.Option.{slice_get_past, slice_get_within, same_Some, slice_get-get_or}
use Rattle.osm_lattice.specs.declared.loc.Loc.{Loc}
use Rattle.osm_lattice.specs.Loc.{loc_cmp}
use Rattle.osm_lattice.specs.OrderLaws.{LocationOrderTellsApart}
use Rattle.lists.specs.Rising.{count_of}
use Rattle.orbits.specs.Orbits.{after, IsOneToOne}
use Rattle.coast_join.specs.Links.{count_before, AreNumbered, AreNextWays, GoesOnTo, key_cmp}

-- ---- places of a list

pub get_old : {X : Type 0} (xs : List X) (y : X) (k : ℕ) → k < length xs → slice_get (xs ++ y ∷ []) k ≡ slice_get xs k
get_old [] y k h = absurd (omega arith)
get_old (x ∷ xs) y zero h = refl
get_old (x ∷ xs) y (suc k) h = get_old xs y k (omega arith)

pub get_new : {X : Type 0} (xs : List X) (y : X) (k : ℕ) → k ≡ length xs → slice_get (xs ++ y ∷ []) k ≡ Some y
get_new [] y zero h = refl
get_new [] y (suc k) h = absurd (omega arith)
get_new (x ∷ xs) y zero h = absurd (omega arith)
get_new (x ∷ xs) y (suc k) h = get_new xs y k (omega arith)

pub get_beyond : {X : Type 0} (xs : List X) (y : X) (k : ℕ) → length xs < k → slice_get (xs ++ y ∷ []) k ≡ None
get_beyond xs y k h = let n = length_push xs y in slice_get_past (xs ++ y ∷ []) k (omega arith)

-- ---- the order of locations

pub loc_cmp_total : IsTotalOrder loc_cmp
loc_cmp_total = then_total (on_total (λ (p : Loc). p.y) int_cmp_total) (on_total (λ (p : Loc). p.x) int_cmp_total)

pub tied : (p : Loc) → is_eq (loc_cmp p p) ≡ true
tied p = rw (tied_itself loc_cmp_total p) refl

-- ---- counts

pub before_push : (p q : Loc) (xs : List Loc) (k : ℕ) → k ≤ length xs → count_before p (xs ++ q ∷ []) k ≡ count_before p xs k
before_push p q xs k h = ap (λ ys. count_of loc_cmp p ys) (take-append-le k xs (q ∷ []) h)

pub before_all : (p : Loc) (xs : List Loc) (k : ℕ) → length xs ≤ k → count_before p xs k ≡ count_of loc_cmp p xs
before_all p xs k h = ap (λ ys. count_of loc_cmp p ys) (take_all k xs h)

pub count_push : (p q : Loc) (xs : List Loc) → count_of loc_cmp p (xs ++ q ∷ []) ≡ count_of loc_cmp p xs + cond {A = ℕ} (is_eq (loc_cmp q p)) 1 0
count_push p q xs = sum_by_push (λ y. cond {A = ℕ} (is_eq (loc_cmp y p)) 1 0) xs q

-- what stands at a place stands there once more than before it
pub before_less : (p : Loc) (xs : List Loc) (i j : ℕ) → i < j → slice_get xs i ≡ Some p → count_before p xs i < count_before p xs j
before_less p xs i j h e =
    let inside = slice_get_within xs i p e in
    let f : Loc → ℕ = λ y. cond {A = ℕ} (is_eq (loc_cmp y p)) 1 0 in
    let is : get_or xs i p ≡ p = same_Some _ _ (sym (slice_get-get_or xs i p inside) ∙ e) in
    let one : f (get_or xs i p) ≡ 1 = ap f is ∙ ap (λ b. cond {A = ℕ} b 1 0) (tied p) in
    let more = sum_by_more f xs i p inside in
    let shorter : take (i + 1) (take j xs) ≡ take (i + 1) xs = take-take (i + 1) j xs (omega arith) in
    let most = sum_by-take-le f (take j xs) (i + 1) in
    let same = ap (λ ys. count_of loc_cmp p ys) shorter in
    omega arith

-- ---- numbered

pub numbered_none : AreNumbered [] []
numbered_none k = refl

pub numbered_push : (xs : List Loc) (v : List (Loc × ℕ)) (p : Loc) (n : ℕ) → length v ≡ length xs → n ≡ count_of loc_cmp p xs → AreNumbered xs v → AreNumbered (xs ++ p ∷ []) (v ++ (p, n) ∷ [])
numbered_push xs v p n sized counted h k = ⊎_elim
    (λ l. let lv : k < length v = omega arith in
    get_old v (p, n) k lv ∙ (h k ∙ (old (slice_get xs k) (λ q. sym (before_push q p xs k (omega arith))) ∙ ap (option_map (λ q. (q, count_before q (xs ++ p ∷ []) k))) (sym (get_old xs p k l)))))
    (λ l. ⊎_elim
    (λ b. get_beyond v (p, n) k (omega arith) ∙ ap (option_map (λ q. (q, count_before q (xs ++ p ∷ []) k))) (sym (get_beyond xs p k b)))
    (λ b. let is : k ≡ length xs = omega arith in
    get_new v (p, n) k (omega arith) ∙ (ap (λ m. Some (p, m)) (counted ∙ sym (before_push p p xs k (omega arith) ∙ before_all p xs k l)) ∙ ap (option_map (λ q. (q, count_before q (xs ++ p ∷ []) k))) (sym (get_new xs p k is))))
    (cases_lt (length xs) k))
    (cases_lt k (length xs))
  where
    old : (o : Option Loc) → ((q : Loc) → count_before q xs k ≡ count_before q (xs ++ p ∷ []) k) → ◌≡◌ {A = Option (Loc × ℕ)} (option_map (λ q. (q, count_before q xs k)) o) (option_map (λ q. (q, count_before q (xs ++ p ∷ []) k)) o)
    old None same = refl
    old (Some q) same = ap (λ m. Some (q, m)) (same q)

alike_sized : {A B : Type 0} (xs : List A) (ys : List B) (f : ℕ → A → B) → ((k : ℕ) → slice_get ys k ≡ option_map (f k) (slice_get xs k)) → length ys ≡ length xs
alike_sized [] [] f h = refl
alike_sized [] (y ∷ ys) f h = let e = h 0 in absurd (cc)
alike_sized (x ∷ xs) [] f h = let e = h 0 in absurd (cc)
alike_sized (x ∷ xs) (y ∷ ys) f h = ap (λ n. suc n) (alike_sized xs ys (λ k. f (suc k)) (λ k. h (suc k)))

pub numbered_sized : (xs : List Loc) (v : List (Loc × ℕ)) → AreNumbered xs v → length v ≡ length xs
numbered_sized xs v h = alike_sized xs v (λ k p. (p, count_before p xs k)) h

pub numbered_at : (xs : List Loc) (v : List (Loc × ℕ)) (i : ℕ) (k : Loc × ℕ) → AreNumbered xs v → slice_get v i ≡ Some k → (slice_get xs i ≡ Some k.0) × (k.1 ≡ count_before k.0 xs i)
numbered_at xs v i k h e = by (slice_get xs i) refl (sym e ∙ h i)
  where
    by : (o : Option Loc) → slice_get xs i ≡ o → ◌≡◌ {A = Option (Loc × ℕ)} (Some k) (option_map (λ p. (p, count_before p xs i)) o) → (slice_get xs i ≡ Some k.0) × (k.1 ≡ count_before k.0 xs i)
    by None n t = absurd (cc)
    by (Some p) n t =
        let pair : k ≡ (p, count_before p xs i) = same_Some k (p, count_before p xs i) t in
        let first : k.0 ≡ p = ap (λ (q : Loc × ℕ). q.0) pair in
        (n ∙ ap Some (sym first), ap (λ (q : Loc × ℕ). q.1) pair ∙ ap (λ q. count_before q xs i) (sym first))

-- ---- the map from location and number to place

abbrev pub ArePlaces : List Loc → (Loc × ℕ → Option ℕ) → Type 0
ArePlaces xs f = (p : Loc) (r j : ℕ) → (f (p, r) ≡ Some j) ↔ ((slice_get xs j ≡ Some p) × (count_before p xs j ≡ r))

pub places_none : (f : Loc × ℕ → Option ℕ) → ((k : Loc × ℕ) → f k ≡ None) → ArePlaces [] f
places_none f none p r j = ((λ e. let n = none (p, r) in absurd (cc)), (λ (e, m). absurd (cc)))

same_key : LocationOrderTellsApart → (a b : Loc × ℕ) → is_eq (key_cmp a b) ≡ true → (a.0 ≡ b.0) × (a.1 ≡ b.1)
same_key exact a b e = by (loc_cmp a.0 b.0) refl e
  where
    numbers : (o : Ordering) → nat_cmp a.1 b.1 ≡ o → is_eq o ≡ true → a.1 ≡ b.1
    numbers Less e t = absurd (false≢true t)
    numbers Equal e t = ranked a.1 b.1 Equal (sym e)
    numbers Greater e t = absurd (false≢true t)

    by : (o : Ordering) → loc_cmp a.0 b.0 ≡ o → is_eq (ordering_then o (nat_cmp a.1 b.1)) ≡ true → (a.0 ≡ b.0) × (a.1 ≡ b.1)
    by Less e t = absurd (false≢true t)
    by Equal e t = ((exact a.0 b.0).0 e, numbers (nat_cmp a.1 b.1) refl t)
    by Greater e t = absurd (false≢true t)

key_tied : (a b : Loc × ℕ) → a.0 ≡ b.0 → a.1 ≡ b.1 → is_eq (key_cmp a b) ≡ true
key_tied a b p n = subst (λ (q : Loc). is_eq (ordering_then (loc_cmp a.0 q) (nat_cmp a.1 b.1)) ≡ true) p (subst (λ (m : ℕ). is_eq (ordering_then (loc_cmp a.0 a.0) (nat_cmp a.1 m)) ≡ true) n (rw (tied_itself loc_cmp_total a.0, tied_itself nat_cmp_total a.1) refl))

pub places_push : LocationOrderTellsApart → (xs : List Loc) (f g : Loc × ℕ → Option ℕ) (k : Loc × ℕ) (n : ℕ) → n ≡ length xs → k.1 ≡ count_of loc_cmp k.0 xs → ArePlaces xs f → ((q : Loc × ℕ) → g q ≡ cond (is_eq (key_cmp k q)) (Some n) (f q)) → ArePlaces (xs ++ k.0 ∷ []) g
places_push exact xs f g k n here counted h update p r j = by (is_eq (key_cmp k (p, r))) refl
  where
    ys : List Loc
    ys = xs ++ k.0 ∷ []

    by : (b : Bool) → is_eq (key_cmp k (p, r)) ≡ b → (g (p, r) ≡ Some j) ↔ ((slice_get (xs ++ k.0 ∷ []) j ≡ Some p) × (count_before p (xs ++ k.0 ∷ []) j ≡ r))
    by true e =
        let is = same_key exact k (p, r) e in
        let gives : g (p, r) ≡ Some n = update (p, r) ∙ ap (λ b. cond b (Some n) (f (p, r))) e in (
          (λ t. let nj : n ≡ j = same_Some n j (sym gives ∙ t) in
              let last : j ≡ length xs = omega arith in (
                get_new xs k.0 j last ∙ ap Some is.0,
                before_push p k.0 xs j (omega arith) ∙ (before_all p xs j (omega arith) ∙ (ap (λ q. count_of loc_cmp q xs) (sym is.0) ∙ (sym counted ∙ is.1))),
              )),
          (λ (at, num). ⊎_elim
              (λ l. let old : slice_get xs j ≡ Some p = sym (get_old xs k.0 j l) ∙ at in
              let less = before_less p xs j (length xs) l old in
              let whole = before_all p xs (length xs) (omega arith) in
              let same = before_push p k.0 xs j (omega arith) in
              let r_is : r ≡ count_of loc_cmp p xs = sym is.1 ∙ (counted ∙ ap (λ q. count_of loc_cmp q xs) is.0) in
              absurd (omega arith))
              (λ l. let inside = slice_get_within (xs ++ k.0 ∷ []) j p at in
              let long = length_push xs k.0 in
              gives ∙ ap Some (omega arith))
              (cases_lt j (length xs))),
        )
    by false e =
        let keeps : g (p, r) ≡ f (p, r) = update (p, r) ∙ ap (λ b. cond b (Some n) (f (p, r))) e in (
          (λ t. let was = (h p r j).0 (sym keeps ∙ t) in
              let l = slice_get_within xs j p was.0 in
              (get_old xs k.0 j l ∙ was.0, before_push p k.0 xs j (omega arith) ∙ was.1)),
          (λ (at, num). ⊎_elim
              (λ l. keeps ∙ (h p r j).1 (sym (get_old xs k.0 j l) ∙ at, sym (before_push p k.0 xs j (omega arith)) ∙ num))
              (λ l. let inside = slice_get_within (xs ++ k.0 ∷ []) j p at in
              let long = length_push xs k.0 in
              let last : j ≡ length xs = omega arith in
              let p_is : k.0 ≡ p = same_Some k.0 p (sym (get_new xs k.0 j last) ∙ at) in
              let r_is : k.1 ≡ r = counted ∙ (ap (λ q. count_of loc_cmp q xs) p_is ∙ (sym (before_push p k.0 xs j (omega arith) ∙ before_all p xs j (omega arith)) ∙ num)) in
              absurd (false≢true (sym e ∙ key_tied k (p, r) p_is r_is)))
              (cases_lt j (length xs))),
        )

-- ---- counting in a map

pub counted_push : LocationOrderTellsApart → (xs : List Loc) (f g : Loc → Option ℕ) (p : Loc) (n : ℕ) → ((q : Loc) → unwrap_or (f q) 0 ≡ count_of loc_cmp q xs) → n ≡ unwrap_or (f p) 0 → ((q : Loc) → g q ≡ cond (is_eq (loc_cmp p q)) (Some (n + 1)) (f q)) → (q : Loc) → unwrap_or (g q) 0 ≡ count_of loc_cmp q (xs ++ p ∷ [])
counted_push exact xs f g p n h here update q = ap (λ o. unwrap_or o 0) (update q) ∙ (by (loc_cmp p q) refl ∙ sym (count_push q p xs))
  where
    by : (o : Ordering) → loc_cmp p q ≡ o → unwrap_or (cond (is_eq (loc_cmp p q)) (Some (n + 1)) (f q)) 0 ≡ count_of loc_cmp q xs + cond {A = ℕ} (is_eq (loc_cmp p q)) 1 0
    by Less e = rw e (let old = h q in omega arith)
    by Equal e =
        let same : p ≡ q = (exact p q).0 e in
        let count : count_of loc_cmp p xs ≡ count_of loc_cmp q xs = ap (λ r. count_of loc_cmp r xs) same in
        rw e (let old = h p in omega arith)
    by Greater e = rw e (let old = h q in omega arith)

-- ---- links

module _ (f : Loc × ℕ → Option ℕ) where
  reads : (ks : List (Loc × ℕ)) (i : ℕ) (k : Loc × ℕ) → slice_get ks i ≡ Some k → after (map f ks) i ≡ f k
  reads [] i k e = absurd (cc)
  reads (x ∷ ks) zero k e = ap f (same_Some x k e)
  reads (x ∷ ks) (suc i) k e = reads ks i k e

  reads_none : (ks : List (Loc × ℕ)) (i : ℕ) → slice_get ks i ≡ None → after (map f ks) i ≡ None
  reads_none [] i e = refl
  reads_none (x ∷ ks) zero e = absurd (cc)
  reads_none (x ∷ ks) (suc i) e = reads_none ks i e

  pub links_are : (ends starts : List Loc) (keys : List (Loc × ℕ)) → length keys ≡ length ends → AreNumbered ends keys → ArePlaces starts f → AreNextWays ends starts (map f keys)
  links_are ends starts keys sized numbered places = record {
    sized = length-map keys f ∙ sized;
    exact = λ i j. ((λ e. forth i j (slice_get ends i) refl e), back i j);
  }
    where
      forth : (i j : ℕ) (o : Option Loc) → slice_get ends i ≡ o → after (map f keys) i ≡ Some j → GoesOnTo ends starts i j
      forth i j None e t = let gone = reads_none keys i (numbered i ∙ ap (option_map (λ q. (q, count_before q ends i))) e) in absurd (cc)
      forth i j (Some p) e t =
          let key = reads keys i (p, count_before p ends i) (numbered i ∙ ap (option_map (λ q. (q, count_before q ends i))) e) in
          let at = (places p (count_before p ends i) j).0 (sym key ∙ t) in
          record { place = p; ends_there = e; starts_there = at.0; alike = sym at.1 }

      back : (i j : ℕ) → GoesOnTo ends starts i j → after (map f keys) i ≡ Some j
      back i j g =
          reads keys i (g.place, count_before g.place ends i) (numbered i ∙ ap (option_map (λ q. (q, count_before q ends i))) g.ends_there)
          ∙ (places g.place (count_before g.place ends i) j).1 (g.starts_there, sym g.alike)

pub one_to_one : (ends starts : List Loc) (next : List (Option ℕ)) → length starts ≡ length ends → AreNextWays ends starts next → IsOneToOne next
one_to_one ends starts next sized links = record {
  within = λ i j e. let g = (links.exact i j).0 e in let l = slice_get_within starts j g.place g.starts_there in let n = links.sized in omega arith;
  one = λ i k j e d. one i k j ((links.exact i j).0 e) ((links.exact k j).0 d);
}
  where
    one : (i k j : ℕ) → GoesOnTo ends starts i j → GoesOnTo ends starts k j → i ≡ k
    one i k j g h =
        let same : g.place ≡ h.place = same_Some _ _ (sym g.starts_there ∙ h.starts_there) in
        let hk : slice_get ends k ≡ Some g.place = h.ends_there ∙ ap Some (sym same) in
        let hb : count_before g.place ends k ≡ count_before g.place starts j = subst (λ (p : Loc). count_before p ends k ≡ count_before p starts j) (sym same) h.alike in
        let gb = g.alike in
        ⊎_elim (λ l. let less = before_less g.place ends i k l g.ends_there in absurd (omega arith))
        (λ l. ⊎_elim (λ m. let less = before_less g.place ends k i m hk in absurd (omega arith)) (λ m. omega arith) (cases_lt k i))
        (cases_lt i k)
