-- What the place of a location among survivors tells: whether they have it on them, or it is in the area that they bound.
use Rattle.std.proofs.Common.{Bool, true, false, not, cond, List, [], ◌∷◌, ℕ, ◌+◌, ◌%◌, ◌==◌, ◌<◌, ◌≡◌, ◌∙◌, refl, sym, ap, arith, inl, inr, nat_lt}
use Rattle.std.proofs.lemmas.Bool.{eq-eqb, eqb-true, lt-ltb, ltb-true}
use Rattle.plane.specs.RayCrossing.{is_off}
use Rattle.lists.specs.Member.{In}
use Rattle.lists.proofs.ListsKit.{count_by-cons, not-true-out}
use Rattle.osm_lattice.specs.declared.loc.Loc.{Loc}
use Rattle.osm_lattice.specs.declared.seg.Seg.{Seg}
use Rattle.osm_lattice.specs.Loc.{vector_of}
use Rattle.osm_lattice.specs.Seg.{edge_of}
use Rattle.osm_sides.specs.declared.places.Place.TheVariants.{Off}
use Rattle.area_locate.specs.Hits.{IsIn, IsOn}
use Rattle.osm_sides.specs.PointPlaces.{lies_on, on_count, place_among, place_by_parity}
use Rattle.osm_sides.specs.SideTests.{left_count}
use Rattle.area_locate.proofs.OutsideSides.{IsApart, left_crosses}

module _ (p : Loc) where
  pub apart_place : (sides : List Seg) → IsApart p sides → place_among p sides ≡ Off
  apart_place sides apart =
      ap (λ n. place_by_parity (nat_lt 0 n) (left_count p sides % 2 == 1)) apart.none_on
      ∙ ap (λ n. place_by_parity false (n == 1)) apart.even_left

  -- ---- on survivors
  on_first : (s : Seg) → lies_on p s ≡ true → is_off (vector_of p) (edge_of s) ≡ false
  unfolding lies_on
  on_first s on = not-true-out (is_off (vector_of p) (edge_of s)) on

  first_on : (s : Seg) → is_off (vector_of p) (edge_of s) ≡ false → lies_on p s ≡ true
  unfolding lies_on
  first_on s on = ap not on

  some_on : (ss : List Seg) → 0 < on_count p ss → IsOn p ss
  some_on [] some = absurd (omega (arith, some))
  some_on (s ∷ ss) some = by (lies_on p s) refl (some_on ss)
    where
      by : (b : Bool) → lies_on p s ≡ b → (0 < on_count p ss → IsOn p ss) → IsOn p (s ∷ ss)
      by true on rest = (s, inl refl, on_first s on)
      by false off rest =
          let count : on_count p (s ∷ ss) ≡ 0 + on_count p ss = count_by-cons (lies_on p) s ss ∙ ap (λ b. cond {A = ℕ} b 1 0 + on_count p ss) off in
          let later = rest (omega (arith, count, some)) in
          (later.0, inr later.1, later.2)

  on_counts : (ss : List Seg) (s : Seg) → In s ss → lies_on p s ≡ true → 0 < on_count p ss
  on_counts [] s i on = absurd i
  on_counts (t ∷ ss) s (inl here) on =
      let count : on_count p (t ∷ ss) ≡ 1 + on_count p ss = count_by-cons (lies_on p) t ss ∙ ap (λ b. cond {A = ℕ} b 1 0 + on_count p ss) (ap (lies_on p) (sym here) ∙ on) in
      omega (arith, count)
  on_counts (t ∷ ss) s (inr later) on =
      let count = count_by-cons (lies_on p) t ss in
      let some = on_counts ss s later on in omega (arith, count, some)

  pub on_where : (ss : List Seg) → nat_lt 0 (on_count p ss) ≡ true → IsOn p ss
  on_where ss some = some_on ss (ltb-true 0 (on_count p ss) some)

  pub off_where : (ss : List Seg) → nat_lt 0 (on_count p ss) ≡ false → IsOn p ss → ⊥
  off_where ss none on = let some = lt-ltb 0 (on_count p ss) (on_counts ss on.0 on.1 (first_on on.0 on.2)) in cc (sym some ∙ none)

  -- ---- in the area
  pub in_where : (ss : List Seg) → nat_lt 0 (on_count p ss) ≡ false → (left_count p ss % 2 == 1) ≡ true → IsIn p ss
  in_where ss none odd = (off_where ss none, ap (λ n. n % 2) (left_crosses p ss) ∙ eqb-true (left_count p ss % 2) 1 odd)

  pub out_where : (ss : List Seg) → (left_count p ss % 2 == 1) ≡ false → IsIn p ss → ⊥
  out_where ss even inside =
      let odd = eq-eqb (left_count p ss % 2) 1 (ap (λ n. n % 2) (sym (left_crosses p ss)) ∙ inside.1) in cc (sym odd ∙ even)
