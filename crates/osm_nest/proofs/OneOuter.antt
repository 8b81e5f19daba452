-- Where one ring alone is outer, it directly encloses each inner one.
use Rattle.std.proofs.Common.{Bool, List, None, Option, Some, [], ap, arith, false, get_or, length, nat_eq, not, refl, subst, suc, sym, true, zero, ℕ, ◌++◌, ◌+◌, ◌<◌, ◌∙◌, ◌∷◌, ◌≡◌, ⊎_elim}
use Rattle.std.specs.Bool.{then_some}
use Rattle.std.proofs.lemmas.Bool.{cases_lt, eq-eqb, eqb-true}
use Rattle.plane_lists.specs.Rings.Nesting.{EnclosesDirectly}
use Rattle.lists.proofs.ListsKit.{clash}
use Rattle.osm_geom.specs.InPlane.Multiple.{product_of_denominators}
use Rattle.osm_geom.specs.declared.edge.Edge.{Edge}
use Rattle.osm_geom.specs.Edge.{runs_up}
use Rattle.osm_nest.specs.Enclosers.{AreDirectEnclosers, IsDirectEncloser, segments_at}
use Rattle.osm_nest.specs.OneOuter.{AreInnerBetween, IsFirstOuter, IsOnlyOuter, encloser_under, enclosers_under}
use Rattle.osm_nest.specs.Outer.{IsInner, IsOuter}
use Rattle.osm_nest.specs.RingLists.{AreRings, all_edges}
use Rattle.osm_nest.proofs.DirectEnclosers.{clear-at, inner-encloser, nest, outer-encloser, segments-at, some-direct}
use Rattle.osm_nest.proofs.InPlane.{segments_times}
use Rattle.osm_nest.proofs.LoneRing.{lone-outer}
use Rattle.osm_nest.proofs.RingAnchors.{inner-by, outer-by}

pub between-more : (rs : List (List Edge)) (from n : ℕ) → IsInner (get_or rs n []) → AreInnerBetween rs from n → AreInnerBetween rs from (n + 1)
between-more rs from n inner so_far k late early = ⊎_elim
    (λ below. so_far k late below)
    (λ not_below. let same : k ≡ n = omega arith in subst (λ j. IsInner (get_or rs j [])) (sym same) inner)
    (cases_lt k n)

-- the first outer ring is the only one, where none is after it
pub only-of : (rs : List (List Edge)) (place : ℕ) → IsFirstOuter rs place → AreInnerBetween rs (place + 1) (length rs) → IsOnlyOuter rs place
only-of rs place first after = record {
  inside = first.inside;
  outer = first.outer;
  others = λ k h apart. ⊎_elim
      (λ below. first.before k (omega arith) below)
      (λ from. ⊎_elim
      (λ above. after k (omega arith) h)
      (λ upto. let same : k ≡ place = omega arith in absurd (apart same))
      (cases_lt place k))
      (cases_lt k place);
}

pub lone-only : (rs : List (List Edge)) → AreRings rs → length rs ≡ 1 → IsOnlyOuter rs 0
lone-only rs are one = record {
  inside = omega (arith, one);
  outer = lone-outer rs are one;
  others = λ k h apart. let first : k ≡ 0 = omega (arith, one, h) in absurd (apart first);
}

-- ---- the list of enclosers
pub length-under : (only n m : ℕ) → length (enclosers_under only n m) ≡ m
length-under only n zero = refl
length-under only n (suc m) = ap (λ k. suc k) (length-under only (suc n) m)

pub at-under : (only n m k : ℕ) (d : Option ℕ) → k < m → get_or (enclosers_under only n m) k d ≡ encloser_under only (n + k)
at-under only n zero k d h = absurd (omega arith)
at-under only n (suc m) zero d h = ap (encloser_under only) (let e : n ≡ n + 0 = omega arith in e)
at-under only n (suc m) (suc k) d h = at-under only (suc n) m k d (omega arith) ∙ ap (encloser_under only) (let e : suc n + k ≡ n + suc k = omega arith in e)

under-longer : (only n m : ℕ) → enclosers_under only n (suc m) ≡ enclosers_under only n m ++ encloser_under only (n + m) ∷ []
under-longer only n zero = ap (λ k. encloser_under only k ∷ []) (let e : n ≡ n + 0 = omega arith in e)
under-longer only n (suc m) = ap (λ xs. encloser_under only n ∷ xs) (under-longer only (suc n) m ∙ ap (λ k. enclosers_under only (suc n) m ++ encloser_under only k ∷ []) (let e : suc n + m ≡ n + suc m = omega arith in e))

pub under-more : (only m : ℕ) (xs after : List (Option ℕ)) (o : Option ℕ) → after ≡ xs ++ o ∷ [] → o ≡ encloser_under only m → xs ≡ enclosers_under only 0 m → after ≡ enclosers_under only 0 (m + 1)
under-more only m xs after o made is so_far =
    let one : suc m ≡ m + 1 = omega arith in
    made ∙ ap (λ x. xs ++ x ∷ []) is ∙ ap (λ ys. ys ++ encloser_under only m ∷ []) so_far ∙ ap (λ k. enclosers_under only 0 m ++ encloser_under only k ∷ []) (let e : m ≡ 0 + m = omega arith in e) ∙ sym (under-longer only 0 m) ∙ ap (enclosers_under only 0) one

module _ (rs : List (List Edge)) (are : AreRings rs) (only : ℕ) (one : IsOnlyOuter rs only) where
  -- no ring is outer and inner
  not-both : (k : ℕ) → k < length rs → IsOuter (get_or rs k []) → IsInner (get_or rs k []) → ⊥
  not-both k h outer inner =
      let r = get_or rs k [] in
      let clear = clear-at rs are k h in
      clash (not (runs_up inner.anchor)) ((outer-by r clear inner.anchor inner.is_anchor).1 outer) ((inner-by r clear inner.anchor inner.is_anchor).1 inner)

  -- an outer ring is the only one
  is-only : (k : ℕ) → k < length rs → IsOuter (get_or rs k []) → k ≡ only
  is-only k h outer = by (nat_eq k only) refl
    where
      by : (b : Bool) → nat_eq k only ≡ b → k ≡ only
      by true e = eqb-true k only e
      by false e = absurd (not-both k h outer (one.others k h (λ same. clash (nat_eq k only) (eq-eqb k only same) e)))

  under-only : (place : ℕ) → place < length rs → IsInner (get_or rs place []) → IsDirectEncloser rs place (Some only)
  under-only place h inner =
      let d = some-direct rs are place h inner.anchor inner.is_anchor inner in
      let there = subst (EnclosesDirectly (nest rs are) (segments_times (product_of_denominators (all_edges rs)) (get_or rs d.0 []))) (sym (segments-at rs are place h)) d.3 in
      let direct = subst (λ g. EnclosesDirectly (nest rs are) g (segments_at rs place)) (sym (segments-at rs are d.0 d.1)) there in (
        one.inside,
        inner-encloser rs are place h inner,
        subst (λ k. EnclosesDirectly (nest rs are) (segments_at rs k) (segments_at rs place)) (is-only d.0 d.1 d.2) direct,
      )

  one-direct : (place : ℕ) → place < length rs → IsDirectEncloser rs place (encloser_under only place)
  one-direct place h = by (nat_eq place only) refl
    where
      by : (b : Bool) → nat_eq place only ≡ b → IsDirectEncloser rs place (then_some (not b) only)
      by true e = outer-encloser rs are place h (subst (λ k. IsOuter (get_or rs k [])) (sym (eqb-true place only e)) one.outer)
      by false e = under-only place h (one.others place h (λ same. clash (nat_eq place only) (eq-eqb place only same) e))

  pub all-direct : (count : ℕ) → count ≡ length rs → AreDirectEnclosers rs (enclosers_under only 0 count)
  all-direct count all = record {
    sized = length-under only 0 count ∙ all;
    right = λ place h. subst (IsDirectEncloser rs place) (sym (at-under only 0 count place None (omega arith) ∙ ap (encloser_under only) (let e : 0 + place ≡ place = omega arith in e))) (one-direct place h);
  }
