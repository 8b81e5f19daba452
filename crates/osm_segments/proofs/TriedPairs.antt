-- Pairs that were tried one by one, and locations that aren't lower than others.
use Rattle.std.proofs.Common.{Contains, List, Err, Ok, Option, Result, Some, None, ap, arith, false, get_or, inl, inr, length, refl, subst, sym, true, ⊎_elim, ℕ, ◌++◌, ◌-ℤ◌, ◌<◌, ◌≤ℤ◌, ◌∙◌, ◌∷◌, [], ◌≡◌, ◌≢◌, ◌≤◌, ◌⊎◌}
use borrow.Author.Differences.{ints}
use Rattle.std.specs.Ordering.{is_lt}
use Rattle.std.specs.Option.{is_some}
use Rattle.std.specs.Prelude.{OnOk}
use Rattle.std.proofs.lemmas.Bool.{cases_eq, cases_lt}
use Rattle.std.proofs.lemmas.Option.{slice_get-get_or}
use Rattle.std.proofs.lemmas.List.Elements.{Contains-append_cases, Contains-append_left}
use Rattle.lists.proofs.ListsKit.{member_cases, no_member, same_get}
use Rattle.plane.specs.Order.{order}
use Rattle.plane.specs.Sign.{Minus, Null, Plus, Sign}
use Rattle.plane.proofs.SignKit.{says-at}
use Rattle.osm_lattice.specs.declared.loc.Loc.{Loc}
use Rattle.osm_lattice.specs.declared.seg.Seg.{Seg}
use Rattle.osm_lattice.specs.Conflict.{conflict_of}
use Rattle.osm_lattice.specs.Loc.{loc_cmp, vector_of}
use Rattle.osm_lattice.proofs.LatticeKit.{loc_cmp-is}
use Rattle.osm_segments.specs.declared.pairs.Pair.{Pair}
use Rattle.osm_segments.specs.declared.places.Places.{Places}
use Rattle.osm_segments.specs.declared.ranges.strips.SegAt.{SegAt}
use Rattle.osm_segments.specs.declared.ranges.strips.Strip.{Strip}
use Rattle.osm_segments.specs.Places.{pair_at}
use Rattle.osm_segments.specs.Sweep.{AreInTheWay, IsNotBefore}
use Rattle.osm_segments.specs.Ranges.{AreSettled, AreToldOrClear, IsConflictAt, IsGrown, IsSettled, IsTried, height}
use Rattle.osm_segments.proofs.SettledPairs.{turned_settled}
use Rattle.osm_segments.proofs.Sweeps.{none_below}
use Rattle.osm_segments.proofs.StripOrders.{clear_everywhere}
use Rattle.osm_segments.proofs.TiltedEdges.{height-tilted}
use Rattle.osm_segments.proofs.ToldPlaces.{clear_at_places, own_place}

pub not_lower : (p q : Loc) → is_lt (loc_cmp p q) ≡ false → height q ≤ℤ height p
not_lower p q h = by (order (vector_of p) (vector_of q)) refl
  where
    by : (s : Sign) → order (vector_of p) (vector_of q) ≡ s → height q ≤ℤ height p
    by Plus e = let f = loc_cmp-is p q in absurd (cc (sym (rw (f, e) at h)))
    by Null e = let f = says-at Null (height q -ℤ height p) (height-tilted p q ∙ e) in omega (arith, ints)
    by Minus e = let f = says-at Minus (height q -ℤ height p) (height-tilted p q ∙ e) in omega (arith, ints)

pub OnOk-both : {X E : Type 0} (r : Result X E) (P Q S : Type 0) → (P → Q → S) → OnOk r P → OnOk r Q → OnOk r S
OnOk-both (Ok x) P Q S f p q = f p q
OnOk-both (Err e) P Q S f p q = tt

pub some_of : (o : Option Pair) → is_some o ≡ true → (x : Pair) × (o ≡ Some x)
some_of None e = absurd (cc e)
some_of (Some x) e = (x, refl)

-- one more pair of places was told
pub told_more : (segs : List Seg) (old new : List Places) (p : Places) (i j : ℕ) (x : Pair) → new ≡ old ++ p ∷ [] → pair_at segs p ≡ Some x → ((p ≡ record { first = i; second = j }) × (i < j)) ⊎ ((p ≡ record { first = j; second = i }) × (j ≤ i)) → IsGrown segs old new
told_more segs old new p i j x e some order =
    record {
      kept = λ q c. subst (λ ps. Contains ps q) (sym e) (Contains-append_left old (p ∷ []) q c);
      known = λ q c. ⊎_elim
          (λ (k : Contains old q). inl k)
          (λ (k : Contains (p ∷ []) q). ⊎_elim (λ (s : p ≡ q). inr (subst (IsConflictAt segs) s here)) (λ (n : Contains [] q). absurd (no_member q n)) (member_cases p q [] k))
          (Contains-append_cases old (p ∷ []) q (subst (λ ps. Contains ps q) e c));
    }
  where
    less : ((p ≡ record { first = i; second = j }) × (i < j)) ⊎ ((p ≡ record { first = j; second = i }) × (j ≤ i)) → p.first < p.second
    less (inl h) = subst (λ (q : Places). q.first < q.second) (sym h.0) h.1
    less (inr h) =
        subst (λ (q : Places). q.first < q.second) (sym h.0)
        (⊎_elim
        (λ (s : j ≡ i). absurd (own_place segs i x (ap (λ (k : ℕ). pair_at segs (record { first = k; second = i })) (sym s) ∙ (ap (pair_at segs) (sym h.0) ∙ some))))
        (λ (n : j ≢ i). let l = h.1 in omega (arith, n))
        (cases_eq j i))

    here : IsConflictAt segs p
    here = record { ordered = less order; pair = x; is = some }

-- each two of a list were tried
pub settled_by_tries : (segs : List Seg) (told : List Places) (strip : Strip) (all : List SegAt) → ((j k : ℕ) (d : SegAt) → j < k → k < length all → IsTried segs told (get_or all j d).place (get_or all k d).place) → AreSettled segs told strip all
settled_by_tries segs told strip all tries s t (i, hi, ei) (j, hj, ej) =
    ⊎_elim
    (λ (e : i ≡ j). inl (ap (λ (u : SegAt). u.place) (sym ei ∙ (same_get all i s t hi ∙ (ap (λ k. get_or all k t) e ∙ ej)))))
    (λ (n : i ≢ j). ⊎_elim
    (λ (l : i < j). inr (inl (tried s t i j l hj ei ej)))
    (λ (l : j ≤ i). turned_settled segs told strip t s (inr (inl (tried t s j i (omega (arith, n)) hi ej ei))))
    (cases_lt i j))
    (cases_eq i j)
  where
    tried : (s t : SegAt) (i j : ℕ) → i < j → j < length all → get_or all i s ≡ s → get_or all j t ≡ t → IsTried segs told s.place t.place
    tried s t i j l hj ei ej =
        subst (λ (u : SegAt). IsTried segs told u.place t.place) ei
        (subst (λ (u : SegAt). IsTried segs told (get_or all i s).place u.place) (same_get all j s t hj ∙ ej) (tries i j s l hj))

-- all of a list, with their places, were settled over all of the plane
module _ (s0 : Seg) (ss : List Seg) (told : List Places) (strip : Strip) (all : List SegAt) (low : (p : Loc) → height strip.low ≤ℤ height p) (high : (p : Loc) → height p ≤ℤ height strip.high)
    (each : (k : ℕ) (d : SegAt) → k < length (s0 ∷ ss) → get_or all k d ≡ record { seg = get_or (s0 ∷ ss) k d.seg; place = k }) (i j : ℕ) (l : i < j) (h : j < length (s0 ∷ ss)) where
  abbrev some : SegAt
  some = record { seg = s0; place = 0 }

  abbrev s : SegAt
  s = get_or all i some

  abbrev t : SegAt
  t = get_or all j some

  s-is : s ≡ record { seg = get_or (s0 ∷ ss) i s0; place = i }
  s-is = each i some (omega arith)

  t-is : t ≡ record { seg = get_or (s0 ∷ ss) j s0; place = j }
  t-is = each j some h

  none_there : conflict_of s.seg t.seg ≡ None → pair_at (s0 ∷ ss) (record { first = i; second = j }) ≡ None
  none_there none =
      clear_at_places (s0 ∷ ss) (record { first = i; second = j }) s.seg t.seg
      (slice_get-get_or (s0 ∷ ss) i s0 (omega arith) ∙ ap Some (sym (ap (λ (u : SegAt). u.seg) s-is)))
      (slice_get-get_or (s0 ∷ ss) j s0 h ∙ ap Some (sym (ap (λ (u : SegAt). u.seg) t-is)))
      none

  by_settled : IsSettled (s0 ∷ ss) told strip s t → IsTried (s0 ∷ ss) told i j ⊎ (pair_at (s0 ∷ ss) (record { first = i; second = j }) ≡ None)
  by_settled (inl e) = let f : i ≡ j = sym (ap (λ (u : SegAt). u.place) s-is) ∙ (e ∙ ap (λ (u : SegAt). u.place) t-is) in absurd (omega arith)
  by_settled (inr (inl tried)) = inl (subst (λ (u : SegAt). IsTried (s0 ∷ ss) told u.place j) s-is (subst (λ (u : SegAt). IsTried (s0 ∷ ss) told s.place u.place) t-is tried))
  by_settled (inr (inr (inl clear))) = inr (none_there (clear_everywhere strip low high s.seg t.seg clear))
  by_settled (inr (inr (inr none))) = inr (none_there none.0)

pub told_or_clear : (segs : List Seg) (told : List Places) (strip : Strip) (all : List SegAt) → ((p : Loc) → height strip.low ≤ℤ height p) → ((p : Loc) → height p ≤ℤ height strip.high) → length all ≡ length segs →
    ((k : ℕ) (d : SegAt) → k < length segs → get_or all k d ≡ record { seg = get_or segs k d.seg; place = k }) → AreSettled segs told strip all → AreToldOrClear segs told
told_or_clear [] told strip all low high long each settled i j l h = absurd (omega arith)
told_or_clear (s0 ∷ ss) told strip all low high long each settled i j l h =
    let d : SegAt = record { seg = s0; place = 0 } in let s : SegAt = get_or all i d in let t : SegAt = get_or all j d in
    by_settled s0 ss told strip all low high each i j l h (settled s t (i, omega (arith, long), same_get all i s d (omega (arith, long))) (j, omega (arith, long), same_get all j t d (omega (arith, long))))

-- one that lies below another, or above it, counts as tried with it
module _ (segs : List Seg) (told : List Places) (i j : ℕ) (s t : Seg) (first : i < length segs) (second : j < length segs) (s-is : get_or segs i s ≡ s) (t-is : get_or segs j t ≡ t) where
  pub tried_below : IsNotBefore s.b t.a → IsTried segs told i j
  tried_below h = inl (inr (clear_at_places segs (record { first = i; second = j }) s t (slice_get-get_or segs i s first ∙ ap Some s-is) (slice_get-get_or segs j t second ∙ ap Some t-is) (none_below s t h)))

  pub tried_above : IsNotBefore t.b s.a → IsTried segs told i j
  tried_above h = inr (inr (clear_at_places segs (record { first = j; second = i }) t s (slice_get-get_or segs j t second ∙ ap Some t-is) (slice_get-get_or segs i s first ∙ ap Some s-is) (none_below t s h)))

-- few were tried with all, and of each two others that conflict there is none
pub told_by_few : (segs aside sorted : List Seg) (few : List ℕ) (told : List Places) (count : ℕ) → count ≡ length segs → AreInTheWay segs aside → ((s : Seg) → Contains aside s → Contains sorted s) →
    ((i : ℕ) (d : Seg) → i < count → Contains sorted (get_or segs i d) → Contains few i) → ((i j : ℕ) → Contains few i → j < count → IsTried segs told i j) → AreToldOrClear segs told
told_by_few [] aside sorted few told count long others moved among tried i j l h = absurd (omega arith)
told_by_few (s0 ∷ ss) aside sorted few told count long others moved among tried i j l h =
    let segs = s0 ∷ ss in let s = get_or segs i s0 in let t = get_or segs j s0 in
    ⊎_elim
    (λ (none : conflict_of s t ≡ None). inr (clear_at_places segs (record { first = i; second = j }) s t (slice_get-get_or segs i s0 (omega arith)) (slice_get-get_or segs j s0 h) none))
    (λ (k : Contains aside s ⊎ Contains aside t). inl (⊎_elim
    (λ (a : Contains aside s). tried i j (among i s0 (omega (arith, long)) (moved s a)) (omega (arith, long)))
    (λ (a : Contains aside t). back (tried j i (among j s0 (omega (arith, long)) (moved t a)) (omega (arith, long)))) k))
    (others s t (i, omega arith, same_get segs i s s0 (omega arith)) (j, h, same_get segs j t s0 h))
  where
    back : IsTried (s0 ∷ ss) told j i → IsTried (s0 ∷ ss) told i j
    back (inl x) = inr x
    back (inr x) = inl x
