-- Rings begun at their least nodes, in the order of the list.
use Rattle.std.proofs.Common.{All, List, [], ap, arith, get_or, length, refl, subst, suc, sym, zero, ℕ, ◌++◌, ◌+◌, ◌<◌, ◌∙◌, ◌∷◌, ◌≡◌, ◌≢◌, ◌≤◌, ⊎_elim}
use Rattle.std.proofs.Math.ListN.{set}
use Rattle.std.proofs.lemmas.Bool.{cases_lt}
use Rattle.std.proofs.lemmas.List.{get_or-set_other, get_or-set_same, get_or_default, length-set}
use Rattle.osm_geom.specs.declared.edge.Edge.{Edge}
use Rattle.osm_nest.specs.declared.rings_from_least.RingFromLeast.{RingFromLeast}
use Rattle.osm_nest.specs.Grouped.{AreListed, AreTurned, IsFromLeastAt, placed_from}
use Rattle.osm_nest.specs.Nested.{IsFromLeast}
use Rattle.lists.specs.Rotated.{IsRotated}
use Rattle.lists.proofs.ListsKit.{all-in, in-all, rotated-in}

-- and what holds of all of them holds still
pub turned_all : (P : Edge → Type 0) (p q : List Edge) → IsRotated p q → All P p → All P q
turned_all P p q t all = all-in P q (λ e i. in-all P p e all (rotated-in p q t e i))

-- ---- turned one after the other
pub record AreTurnedUpTo (rs : List (List Edge)) (n : ℕ) (now : List (List Edge)) : Type 0 where
  pub sized : length now ≡ length rs
  pub done : (k : ℕ) → k < n → IsFromLeast (get_or rs k []) (get_or now k [])
  pub later : (k : ℕ) → n ≤ k → get_or now k [] ≡ get_or rs k []

pub none-turned : (rs : List (List Edge)) → AreTurnedUpTo rs 0 rs
none-turned rs = record { sized = refl; done = λ k h. absurd (omega arith); later = λ k h. refl }

pub one-turned : (rs now : List (List Edge)) (n : ℕ) (old new : List Edge) → n < length now → old ≡ get_or now n old → IsFromLeast old new → AreTurnedUpTo rs n now → AreTurnedUpTo rs (n + 1) (set now n new)
one-turned rs now n old new inside here is so_far = record {
  sized = length-set now n new ∙ so_far.sized;
  done = λ k h. ⊎_elim
      (λ (l : k < n). subst (IsFromLeast (get_or rs k [])) (sym (get_or-set_other now n k new [] (let e : k ≢ n = λ q. absurd (omega arith) in e))) (so_far.done k l))
      (λ (m : n ≤ k).
      let same : n ≡ k = omega arith in
      let was : old ≡ get_or rs n [] = here ∙ get_or_default now n old [] inside ∙ so_far.later n (omega arith) in
      subst (λ j. IsFromLeast (get_or rs j []) (get_or (set now n new) j [])) same
      (subst (IsFromLeast (get_or rs n [])) (sym (get_or-set_same now n new [] inside)) (subst (λ r. IsFromLeast r new) was is)))
      (cases_lt k n);
  later = λ k h. get_or-set_other now n k new [] (let e : k ≢ n = λ q. absurd (omega arith) in e) ∙ so_far.later k (omega arith);
}

pub all-turned : (rs now : List (List Edge)) (n : ℕ) → n ≡ length rs → AreTurnedUpTo rs n now → AreTurned rs now
all-turned rs now n all is = record { sized = is.sized; each = λ place h. is.done place (omega arith) }

-- ---- rings with their places
pub placed-size : (n : ℕ) (rs : List (List Edge)) → length (placed_from n rs) ≡ length rs
placed-size n [] = refl
placed-size n (r ∷ rs) = ap (λ m. suc m) (placed-size (suc n) rs)

pub placed-at : (n : ℕ) (rs : List (List Edge)) (k : ℕ) (d : RingFromLeast) → k < length rs → get_or (placed_from n rs) k d ≡ record { place = n + k; ring = get_or rs k [] }
placed-at n [] k d h = absurd (omega arith)
placed-at n (r ∷ rs) zero d h = ap (λ m. record { place = m; ring = r }) (let e : n ≡ n + 0 = omega arith in e)
placed-at n (r ∷ rs) (suc k) d h = placed-at (suc n) rs k d (omega arith) ∙ ap (λ m. record { place = m; ring = get_or rs k [] }) (let e : suc n + k ≡ n + suc k = omega arith in e)

placed-longer : (n : ℕ) (rs : List (List Edge)) (r : List Edge) → placed_from n (rs ++ r ∷ []) ≡ placed_from n rs ++ (record { place = n + length rs; ring = r }) ∷ []
placed-longer n [] r = ap (λ m. record { place = m; ring = r } ∷ []) (let e : n ≡ n + 0 = omega arith in e)
placed-longer n (x ∷ rs) r = ap (λ bs. record { place = n; ring = x } ∷ bs) (placed-longer (suc n) rs r ∙ ap (λ m. placed_from (suc n) rs ++ (record { place = m; ring = r }) ∷ []) (let e : suc n + length rs ≡ n + suc (length rs) = omega arith in e))

pub placed-more : (passed : List (List Edge)) (r : List Edge) (bs after : List RingFromLeast) (b : RingFromLeast) → after ≡ bs ++ b ∷ [] → b.place ≡ length bs → b.ring ≡ r → bs ≡ placed_from 0 passed → after ≡ placed_from 0 (passed ++ r ∷ [])
placed-more passed r bs after b made here is so_far =
    let size : b.place ≡ length passed = here ∙ ap length so_far ∙ placed-size 0 passed in
    made ∙ ap (λ (x : RingFromLeast). bs ++ x ∷ []) (ap (λ m. record { place = m; ring = b.ring }) size ∙ ap (λ s. record { place = length passed; ring = s }) is)
    ∙ ap (λ xs. xs ++ (record { place = length passed; ring = r }) ∷ []) so_far
    ∙ ap (λ m. placed_from 0 passed ++ (record { place = m; ring = r }) ∷ []) (let e : length passed ≡ 0 + length passed = omega arith in e)
    ∙ sym (placed-longer 0 passed r)

pub turned-listed : (rs begun : List (List Edge)) → AreTurned rs begun → AreListed rs (length rs) (placed_from 0 begun)
turned-listed rs begun is = record {
  sized = placed-size 0 begun ∙ is.sized;
  each = λ place d h.
      let s = is.sized in
      subst (IsFromLeastAt (get_or rs place []) place) (sym (placed-at 0 begun place d (omega arith)))
      (record { here = (let e : 0 + place ≡ place = omega arith in e); turned = is.each place h });
}
