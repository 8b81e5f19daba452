-- Where a point stands among points in order.
use Rattle.std.proofs.Common.{Contains, Equal, Greater, Less, List, Ordering, ap, arith, false, get_or, length, map, refl, true, ℕ, ⊎_elim, ◌<◌, ◌∙◌, ◌≡◌, ◌≤◌}
use Rattle.std.specs.List.Sorted.{IsNonDecreasingBy, IsPartitionPoint, IsPartitionedBy, IsSorted}
use Rattle.std.specs.Ordering.{is_lt, ordering_index, ordering_reverse}
use Rattle.std.proofs.lemmas.Bool.{cases_lt}
use Rattle.std.proofs.lemmas.List.{get_or-map, get_or_default}
use Rattle.std.proofs.lemmas.List.Sorted.{searchable_from_sorted}
use Rattle.lists.proofs.ListsKit.{clash}
use Rattle.osm_lattice.specs.declared.loc.Loc.{Loc}
use Rattle.osm_lattice.specs.Loc.{loc_cmp}
use Rattle.osm_lattice.proofs.LatticeKit.{loc_same, loc_total}
use Rattle.area_locate.specs.declared.found.Hit.{Hit}

itself_by : (r : Ordering) → r ≡ ordering_reverse r → r ≡ Equal
itself_by Less e = cc
itself_by Equal e = refl
itself_by Greater e = cc

itself : (p : Loc) → loc_cmp p p ≡ Equal
itself p = itself_by (loc_cmp p p) (loc_total.antisymm p p)

less_too : (r s : Ordering) → ordering_index r ≤ ordering_index s → is_lt s ≡ true → is_lt r ≡ true
less_too Less s h k = refl
less_too Equal Less h k = absurd (omega (arith, h))
less_too Greater Less h k = absurd (omega (arith, h))
less_too Equal Equal h k = k
less_too Equal Greater h k = absurd (cc k)
less_too Greater Equal h k = absurd (cc k)
less_too Greater Greater h k = k

equal_too : (r : Ordering) → ordering_index r ≤ 1 → is_lt r ≡ false → r ≡ Equal
equal_too Less h k = absurd (cc k)
equal_too Equal h k = refl
equal_too Greater h k = absurd (omega (arith, h))

module _ (points : List Loc) (sorted : IsSorted loc_cmp points) (p : Loc) where
  rise : IsNonDecreasingBy (λ q. ordering_index (loc_cmp q p)) points
  rise = searchable_from_sorted loc_total (λ (q : Loc). q) points p sorted

  pub before_parts : IsPartitionedBy (λ q. is_lt (loc_cmp q p)) points
  before_parts i j d h l k = less_too (loc_cmp (get_or points i d) p) (loc_cmp (get_or points j d) p) (rise i j d h l) k

  module _ (there : Contains points p) (place : ℕ) (point : IsPartitionPoint (λ q. is_lt (loc_cmp q p) ≡ true) (λ q. is_lt (loc_cmp q p) ≡ false) points place) where
    not_before : place ≤ there.0
    not_before = ⊎_elim
        (λ (before : there.0 < place). absurd (clash (is_lt (loc_cmp (get_or points there.0 p) p)) (point.0 there.0 p (omega arith) before) (ap (λ q. is_lt (loc_cmp q p)) there.2 ∙ ap is_lt (itself p))))
        (λ (after : place ≤ there.0). after)
        (cases_lt there.0 place)

    pub place_inside : place < length points
    place_inside = let a = not_before in let b = there.1 in omega (arith, a, b)

    pub stands_at : (d : Loc) → get_or points place d ≡ p
    stands_at d =
        let last : ordering_index (loc_cmp (get_or points there.0 d) p) ≡ 1 = ap (λ q. ordering_index (loc_cmp q p)) (get_or_default points there.0 d p there.1 ∙ there.2) ∙ ap ordering_index (itself p) in
        let up = rise place there.0 d not_before there.1 in
        let at_most : ordering_index (loc_cmp (get_or points place d) p) ≤ 1 = omega (arith, last, up) in
        loc_same (get_or points place d) p (equal_too (loc_cmp (get_or points place d) p) at_most (point.1 place d (omega arith) place_inside))

    pub hits_read : (hits : List (List Hit)) (f : Loc → List Hit) (d : List Hit) → hits ≡ map f points → get_or hits place d ≡ f p
    hits_read hits f d are = ap (λ (hs : List (List Hit)). get_or hs place d) are ∙ get_or-map f points place p d place_inside ∙ ap f (stands_at p)
