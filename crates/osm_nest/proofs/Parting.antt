-- Rings parted into outer ones and those that stand under each place.
use Rattle.std.proofs.Common.{All, List, Option, [], ap, arith, get_or, length, map, refl, subst, suc, sym, zero, ℕ, ◌++◌, ◌<◌, ◌∙◌, ◌∷◌, ◌≡◌, ◌≢◌}
use Rattle.std.specs.List.{filter}
use Rattle.std.proofs.lemmas.List.{map-append}
use Rattle.std.proofs.lemmas.List.Elements.{All-filter, filter-append}
use Rattle.std.proofs.lemmas.List.Kept.{AllPairs-filter}
use Rattle.osm_geom.specs.declared.edge.Edge.{Edge}
use Rattle.osm_nest.specs.declared.rings_from_least.RingFromLeast.{RingFromLeast}
use Rattle.osm_nest.specs.Grouped.{ArePlaced, polygons_of, polygon_at, rings_under, stands_first, stands_under, with_under}

pub record AreParted (enclosers : List (Option ℕ)) (passed outers : List RingFromLeast) (under : List (List (List Edge))) : Type 0 where
  pub outer : outers ≡ filter (stands_first enclosers) passed
  pub sized : length under ≡ length enclosers
  pub inner : (place : ℕ) → get_or under place [] ≡ rings_under enclosers passed place

pub all-empty : (xs : List (List (List Edge))) → All (λ (under : List (List Edge)). under ≡ []) xs → (place : ℕ) → get_or xs place [] ≡ []
all-empty [] h place = refl
all-empty (x ∷ xs) h zero = h 0 x (omega arith)
all-empty (x ∷ xs) h (suc place) = all-empty xs (λ k d l. h (suc k) d (omega arith)) place

pub parted-more : (enclosers : List (Option ℕ)) (passed outers outers' : List RingFromLeast) (under under' : List (List (List Edge))) (b : RingFromLeast) →
    outers' ≡ outers ++ filter (stands_first enclosers) (b ∷ []) → length under' ≡ length enclosers →
    ((place : ℕ) → get_or under' place [] ≡ get_or under place [] ++ rings_under enclosers (b ∷ []) place) →
    AreParted enclosers passed outers under → AreParted enclosers (passed ++ b ∷ []) outers' under'
parted-more enclosers passed outers outers' under under' b first size more inv = record {
  outer = first ∙ (ap (λ bs. bs ++ filter (stands_first enclosers) (b ∷ [])) inv.outer ∙ sym (filter-append (stands_first enclosers) passed (b ∷ [])));
  sized = size;
  inner = λ place.
      more place
      ∙ (ap (λ rs. rs ++ rings_under enclosers (b ∷ []) place) (inv.inner place)
      ∙ (sym (map-append (λ (b : RingFromLeast). b.ring) (filter (stands_under enclosers place) passed) (filter (stands_under enclosers place) (b ∷ [])))
      ∙ ap (map (λ (b : RingFromLeast). b.ring)) (sym (filter-append (stands_under enclosers place) passed (b ∷ [])))));
}

map-same : {X Y : Type 0} (f g : X → Y) → ((x : X) → f x ≡ g x) → (xs : List X) → map f xs ≡ map g xs
map-same f g h [] = refl
map-same f g h (x ∷ xs) = ap (λ y. y ∷ map f xs) (h x) ∙ ap (λ ys. g x ∷ ys) (map-same f g h xs)

-- once all rings are parted, outer ones and what stands under them are the polygons
pub parted-all : (enclosers : List (Option ℕ)) (bs outers : List RingFromLeast) (under : List (List (List Edge))) → AreParted enclosers bs outers under → map (with_under under) outers ≡ polygons_of enclosers bs
parted-all enclosers bs outers under inv =
    ap (map (with_under under)) inv.outer
    ∙ map-same (with_under under) (polygon_at enclosers bs) (λ b. ap (λ rs. record { outer = b.ring; inners = rs }) (inv.inner b.place)) (filter (stands_first enclosers) bs)

-- outer rings stand at places of their own, as all rings do
pub parted-placed : (enclosers : List (Option ℕ)) (bs passed outers : List RingFromLeast) (under : List (List (List Edge))) → passed ≡ bs → ArePlaced (length enclosers) bs → AreParted enclosers passed outers under → ArePlaced (length under) outers
parted-placed enclosers bs passed outers under all placed inv =
    let is : outers ≡ filter (stands_first enclosers) bs = inv.outer ∙ ap (filter (stands_first enclosers)) all in
    subst (ArePlaced (length under)) (sym is) (record {
      within = subst (λ n. All (λ (b : RingFromLeast). b.place < n) (filter (stands_first enclosers) bs)) (sym inv.sized) (All-filter (stands_first enclosers) (λ (b : RingFromLeast). b.place < length enclosers) bs placed.within);
      once = AllPairs-filter (λ (b c : RingFromLeast). b.place ≢ c.place) (stands_first enclosers) bs placed.once;
    })
