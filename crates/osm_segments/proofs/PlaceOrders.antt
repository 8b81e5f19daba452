-- The order of places, and the test whether two are one.
use Rattle.std.proofs.Common.{Bool, nat_eq, refl, sym, true, ◌&&◌, ◌∙◌, ◌≡◌}
use Rattle.std.specs.declared.cmp.Ordering.{Ordering}
use Rattle.std.specs.declared.cmp.Ordering.TheVariants.{Equal, Greater, Less}
use Rattle.std.specs.Cmp.{IsEquivalence, IsTotalOrder, unsigned_ties}
use Rattle.std.specs.Ordering.{eq_by_cmp, is_eq, nat_cmp, ordering_then}
use Rattle.std.proofs.lemmas.Cmp.{eq_by_cmp_equiv, nat_cmp_total, on_total, then_total}
use Rattle.std.proofs.lemmas.Bool.{eqb-true}
use Rattle.lists.proofs.ListsKit.{and-left, and-right}
use Rattle.osm_segments.specs.declared.places.Places.{Places}
use Rattle.osm_segments.specs.Ranges.{places_cmp}

abbrev same_places : Places → Places → Bool
same_places p q = nat_eq p.first q.first && nat_eq p.second q.second

pub places_total : IsTotalOrder places_cmp
places_total = then_total (on_total (λ (p : Places). p.first) nat_cmp_total) (on_total (λ (p : Places). p.second) nat_cmp_total)

both_equal : (o r : Ordering) → is_eq o && is_eq r ≡ is_eq (ordering_then o r)
both_equal Less r = refl
both_equal Equal r = refl
both_equal Greater r = refl

pub places_ties : (p q : Places) → same_places p q ≡ eq_by_cmp places_cmp p q
places_ties p q = (λ i. unsigned_ties p.first q.first i && unsigned_ties p.second q.second i) ∙ both_equal (nat_cmp p.first q.first) (nat_cmp p.second q.second)

pub places_equal : IsEquivalence same_places
places_equal =
    let e = eq_by_cmp_equiv places_total in record {
      refl = λ x. places_ties x x ∙ e.refl x;
      symm = λ x y. places_ties x y ∙ (e.symm x y ∙ sym (places_ties y x));
      congr = λ x y z h. places_ties x z ∙ (e.congr x y z (sym (places_ties x y) ∙ h) ∙ sym (places_ties y z));
    }

pub one_by_test : (p q : Places) → same_places p q ≡ true → p ≡ q
one_by_test p q h =
    let e = eqb-true p.first q.first (and-left (nat_eq p.first q.first) (nat_eq p.second q.second) h) in
    let f = eqb-true p.second q.second (and-right (nat_eq p.first q.first) (nat_eq p.second q.second) h) in
    λ i. record { first = e i; second = f i }
