-- The nodes of a side, each once and in order.
use Rattle.std.proofs.Common.{◌≡◌, ◌⊎◌, inl, inr, ⊎_elim, ℕ, pos, neg_ℤ, zero, suc, ◌+◌, ◌-◌, ◌<◌, Bool, true, false, cond, min, List, [], ◌∷◌, ◌++◌, length, filter, take, get_or, Contains, refl, sym, ap, subst, ◌∙◌, arith}
use Rattle.std.specs.declared.cmp.Ordering.TheVariants.{Less}
use Rattle.std.proofs.lemmas.Bool.{cases_lt}
use Rattle.std.proofs.lemmas.Int.{ints}
use Rattle.std.proofs.lemmas.List.{append_assoc, flat_map_more, get_or_default, take_more}
use Rattle.std.proofs.lemmas.List.Elements.{All-contains, Contains-get_or, filter-append, filter_passes}
use Rattle.lists.proofs.ListsKit.{count_some, count_stands, int_eq-true, min_some, some_min}
use Rattle.osm_lattice.proofs.LatticeKit.{before_where}
use Rattle.osm_lattice.specs.declared.loc.Loc.{Loc}
use Rattle.osm_lattice.specs.declared.seg.Seg.{Seg}
use Rattle.osm_lattice.specs.Loc.{loc_cmp}
use Rattle.osm_lattice.specs.OrderLaws.{LocationOrderTellsApart}
use Rattle.lists.specs.Rising.{IsRising, count_of}
use Rattle.osm_segments.specs.Counts.{ends_of}
use Rattle.coast_rings.specs.Corners.{south_east, south_west}
use Rattle.coast_rings.specs.Line.{first_location, last_location, origin}
use Rattle.coast_sides.specs.Water.{IsSide, north_east, north_west}
use Rattle.coast_sides.specs.declared.side_nodes.WorldSide.{WorldSide}
use Rattle.coast_sides.specs.declared.side_nodes.WorldSide.TheVariants.{East, North, South, West}
use Rattle.coast_sides.specs.WorldSides.{greater_corner, lesser_corner, on_side}
use Rattle.coast_sides.proofs.ClearSides.{within_abs}
use Rattle.coast_sides.proofs.EvenRings.{loc_cmp_total}

stands : LocationOrderTellsApart → (p : Loc) (xs : List Loc) → 0 < count_of loc_cmp p xs → Contains xs p
stands exact = count_stands loc_cmp (λ p q. (exact p q).0)

-- what a filter keeps
kept_in : (on : Loc → Bool) (xs : List Loc) (p : Loc) → on p ≡ true → Contains xs p → Contains (filter on xs) p
kept_in on [] p h (k, l, e) = absurd (omega arith)
kept_in on (q ∷ xs) p h (zero, l, e) = subst (λ (b : Bool). Contains (cond b (q ∷ filter on xs) (filter on xs)) p) (sym (ap on e ∙ h)) (0, omega arith, e)
kept_in on (q ∷ xs) p h (suc k, l, e) = by (on q) (kept_in on xs p h (k, omega arith, e))
  where
    by : (b : Bool) → Contains (filter on xs) p → Contains (cond b (q ∷ filter on xs) (filter on xs)) p
    by true (j, m, d) = (suc j, omega arith, d)
    by false c = c

kept_out : (on : Loc → Bool) (xs : List Loc) (p : Loc) → Contains (filter on xs) p → Contains xs p
kept_out on [] p (k, l, e) = absurd (omega arith)
kept_out on (q ∷ xs) p c = by (on q) c (kept_out on xs p)
  where
    later : Contains xs p → Contains (q ∷ xs) p
    later (j, m, d) = (suc j, omega arith, d)

    by : (b : Bool) → Contains (cond b (q ∷ filter on xs) (filter on xs)) p → (Contains (filter on xs) p → Contains xs p) → Contains (q ∷ xs) p
    by true (zero, l, e) rest = (0, omega arith, e)
    by true (suc k, l, e) rest = later (rest (k, omega arith, e))
    by false c rest = later (rest c)

-- ---- a corner is the first or the last

abbrev pub IsLeastOn : (Loc → Bool) → Loc → Type 0
IsLeastOn on c = (on c ≡ true) × ((q : Loc) → on q ≡ true → loc_cmp q c ≡ Less → ⊥)

abbrev pub IsGreatestOn : (Loc → Bool) → Loc → Type 0
IsGreatestOn on c = (on c ≡ true) × ((q : Loc) → on q ≡ true → loc_cmp c q ≡ Less → ⊥)

module _ (exact : LocationOrderTellsApart) (on : Loc → Bool) (from to : Loc) (least : IsLeastOn on from) (greatest : IsGreatestOn on to) (land : List Seg) (nodes : List Loc) (rising : IsRising loc_cmp nodes) (once : (p : Loc) → count_of loc_cmp p nodes ≡ min 1 (count_of loc_cmp p (from ∷ (to ∷ filter on (ends_of land))))) where
  goes_in : (p : Loc) → Contains (from ∷ (to ∷ filter on (ends_of land))) p → Contains nodes p
  goes_in p (k, l, e) = stands exact p nodes (some_min _ _ (once p) (count_some loc_cmp_total p (from ∷ (to ∷ filter on (ends_of land))) k l e))

  comes_from : (p : Loc) → Contains nodes p → Contains (from ∷ (to ∷ filter on (ends_of land))) p
  comes_from p (k, l, e) = stands exact p (from ∷ (to ∷ filter on (ends_of land))) (min_some _ _ (once p) (count_some loc_cmp_total p nodes k l e))

  part : (p : Loc) → Contains (from ∷ (to ∷ filter on (ends_of land))) p → ((p ≡ from) ⊎ (p ≡ to)) ⊎ Contains (filter on (ends_of land)) p
  part p (zero, l, e) = inl (inl (sym e))
  part p (suc zero, l, e) = inl (inr (sym e))
  part p (suc (suc k), l, e) = inr (k, omega arith, e)

  on_all : (p : Loc) → Contains nodes p → on p ≡ true
  on_all p c = ⊎_elim (λ corner. ⊎_elim (λ a. ap on a ∙ least.0) (λ b. ap on b ∙ greatest.0) corner) (λ k. All-contains (λ q. on q ≡ true) (filter on (ends_of land)) p (filter_passes on (ends_of land)) k) (part p (comes_from p c))

  from_in : Contains nodes from
  from_in = goes_in from (0, omega arith, refl)

  to_in : Contains nodes to
  to_in = goes_in to (1, omega arith, refl)

  some_node : 0 < length nodes
  some_node = let l = from_in.1 in omega arith

  begins : first_location nodes ≡ from
  begins = by from_in
    where
      by : Contains nodes from → first_location nodes ≡ from
      by (zero, l, e) = get_or_default nodes 0 origin from l ∙ e
      by (suc k, l, e) =
          let here = Contains-get_or nodes 0 from (omega arith) in
          let less = subst (λ (q : Loc). loc_cmp (get_or nodes 0 from) q ≡ Less) e (rising 0 (suc k) from (omega arith) l) in
          absurd (least.1 (get_or nodes 0 from) (on_all (get_or nodes 0 from) here) less)

  ends : last_location nodes ≡ to
  ends = by to_in
    where
      by : Contains nodes to → last_location nodes ≡ to
      by (k, l, e) = ⊎_elim
          (λ before. let here = Contains-get_or nodes (length nodes - 1) to (omega arith) in
          let less = subst (λ (q : Loc). loc_cmp q (get_or nodes (length nodes - 1) to) ≡ Less) e (rising k (length nodes - 1) to before (omega arith)) in
          absurd (greatest.1 (get_or nodes (length nodes - 1) to) (on_all (get_or nodes (length nodes - 1) to) here) less))
          (λ last. let is : length nodes - 1 ≡ k = omega arith in get_or_default nodes (length nodes - 1) origin to (omega arith) ∙ (ap (λ m. get_or nodes m to) is ∙ e))
          (cases_lt k (length nodes - 1))

  pub is_side : IsSide on from to land nodes
  is_side = record {
    some = some_node;
    rising = rising;
    begins = begins;
    ends = ends;
    within = λ k d h. on_all (get_or nodes k d) (Contains-get_or nodes k d h);
    cut = λ p h c. goes_in p (let r = kept_in on (ends_of land) p h c in (suc (suc r.0), (let l = r.1 in omega arith), r.2));
    only = λ k d h. ⊎_elim (λ corner. inl corner) (λ c. inr (kept_out on (ends_of land) (get_or nodes k d) c)) (part (get_or nodes k d) (comes_from (get_or nodes k d) (Contains-get_or nodes k d h)));
  }

-- ---- the corners of the four sides

pub least_on : (side : WorldSide) → IsLeastOn (on_side side) (lesser_corner side)
least_on South = (refl, λ q h e. let y = int_eq-true q.y (neg_ℤ (pos 900000000)) h in let w = within_abs q.x 1800000000 q.x_in in let w1 = w.1 in ⊎_elim (λ l. omega (arith, ints)) (λ l. let l1 = l.1 in omega (arith, ints)) (before_where q south_west e))
least_on East = (refl, λ q h e. let x = int_eq-true q.x (pos 1800000000) h in let w = within_abs q.y 900000000 q.y_in in let w1 = w.1 in ⊎_elim (λ l. omega (arith, ints)) (λ l. let l1 = l.1 in omega (arith, ints)) (before_where q south_east e))
least_on North = (refl, λ q h e. let y = int_eq-true q.y (pos 900000000) h in let w = within_abs q.x 1800000000 q.x_in in let w1 = w.1 in ⊎_elim (λ l. omega (arith, ints)) (λ l. let l1 = l.1 in omega (arith, ints)) (before_where q north_west e))
least_on West = (refl, λ q h e. let x = int_eq-true q.x (neg_ℤ (pos 1800000000)) h in let w = within_abs q.y 900000000 q.y_in in let w1 = w.1 in ⊎_elim (λ l. omega (arith, ints)) (λ l. let l1 = l.1 in omega (arith, ints)) (before_where q south_west e))

pub greatest_on : (side : WorldSide) → IsGreatestOn (on_side side) (greater_corner side)
greatest_on South = (refl, λ q h e. let y = int_eq-true q.y (neg_ℤ (pos 900000000)) h in let w = within_abs q.x 1800000000 q.x_in in let w0 = w.0 in ⊎_elim (λ l. omega (arith, ints)) (λ l. let l1 = l.1 in omega (arith, ints)) (before_where south_east q e))
greatest_on East = (refl, λ q h e. let x = int_eq-true q.x (pos 1800000000) h in let w = within_abs q.y 900000000 q.y_in in let w0 = w.0 in ⊎_elim (λ l. omega (arith, ints)) (λ l. let l1 = l.1 in omega (arith, ints)) (before_where north_east q e))
greatest_on North = (refl, λ q h e. let y = int_eq-true q.y (pos 900000000) h in let w = within_abs q.x 1800000000 q.x_in in let w0 = w.0 in ⊎_elim (λ l. omega (arith, ints)) (λ l. let l1 = l.1 in omega (arith, ints)) (before_where north_east q e))
greatest_on West = (refl, λ q h e. let x = int_eq-true q.x (neg_ℤ (pos 1800000000)) h in let w = within_abs q.y 900000000 q.y_in in let w0 = w.0 in ⊎_elim (λ l. omega (arith, ints)) (λ l. let l1 = l.1 in omega (arith, ints)) (before_where north_west q e))

-- ---- steps

pub more_ends : (on : Loc → Bool) (land : List Seg) (i : ℕ) (s : Seg) (old now one two : List Loc) → i < length land → s ≡ get_or land i s → now ≡ old ++ filter on (ends_of (take i land)) → one ≡ now ++ filter on (s.a ∷ []) → two ≡ one ++ filter on (s.b ∷ []) → two ≡ old ++ filter on (ends_of (take (i + 1) land))
more_ends on land i s old now one two h e was first second =
    let taken : take (i + 1) land ≡ take i land ++ s ∷ [] = take_more land i s h ∙ ap (λ (t : Seg). take i land ++ t ∷ []) (sym e) in
    let ends : ends_of (take (i + 1) land) ≡ ends_of (take i land) ++ (s.a ∷ (s.b ∷ [])) = ap ends_of taken ∙ sym (flat_map_more (λ (t : Seg). t.a ∷ (t.b ∷ [])) [] (take i land) s) in
    let pair : filter on (s.a ∷ (s.b ∷ [])) ≡ filter on (s.a ∷ []) ++ filter on (s.b ∷ []) = filter-append on (s.a ∷ []) (s.b ∷ []) in
    let kept : filter on (ends_of (take (i + 1) land)) ≡ filter on (ends_of (take i land)) ++ (filter on (s.a ∷ []) ++ filter on (s.b ∷ [])) = ap (filter on) ends ∙ (filter-append on (ends_of (take i land)) (s.a ∷ (s.b ∷ [])) ∙ ap (λ (ps : List Loc). filter on (ends_of (take i land)) ++ ps) pair) in
    second ∙ (ap (λ (ps : List Loc). ps ++ filter on (s.b ∷ [])) (first ∙ ap (λ (ps : List Loc). ps ++ filter on (s.a ∷ [])) was)
    ∙ (append_assoc (old ++ filter on (ends_of (take i land))) (filter on (s.a ∷ [])) (filter on (s.b ∷ [])) ∙ (append_assoc old (filter on (ends_of (take i land))) (filter on (s.a ∷ []) ++ filter on (s.b ∷ [])) ∙ ap (λ (ps : List Loc). old ++ ps) (sym kept))))

pub gathered : (from to : Loc) (rest none one two three lent : List Loc) (p q : Loc) → none ≡ [] → one ≡ none ++ p ∷ [] → two ≡ one ++ q ∷ [] → three ≡ two ++ rest → lent ≡ three → p ≡ from → q ≡ to → lent ≡ from ∷ (to ∷ rest)
gathered from to rest none one two three lent p q n a b c d e f =
    d ∙ (c ∙ ap (λ (ps : List Loc). ps ++ rest) (b ∙ (ap (λ (ps : List Loc). ps ++ q ∷ []) (a ∙ ap (λ (ps : List Loc). ps ++ p ∷ []) n) ∙ (ap (λ (x : Loc). x ∷ (q ∷ [])) e ∙ ap (λ (y : Loc). from ∷ (y ∷ [])) f))))
