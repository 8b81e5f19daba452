-- The pieces of walks, one after the other.
use Rattle.std.proofs.Common.{◌≡◌, ◌≢◌, ℕ, ◌+◌, ◌<◌, List, [], ◌∷◌, ◌++◌, length, get_or, map, take, All, Some, Bool, true, false, refl, sym, ap, subst, ◌∙◌, arith}
use Rattle.std.specs.List.{concat}
use Rattle.std.proofs.lemmas.List.{append-nil, append_assoc, length-map, map-append, take_more}
use Rattle.std.proofs.lemmas.List.Folds.{concat-append}
use Rattle.orbits.specs.Along.{AreOrbitsAlong, StandAlong}
use Rattle.orbits.specs.Cutting.{AreCutOff}
use Rattle.orbits.specs.Once.{HoldEachOnce}
use Rattle.orbits.specs.Orbits.{total_map}
use Rattle.orbits.specs.declared.passing.ClosedWalks.{ClosedWalks}
pub use Rattle.orbits.proofs.Members.{held_distinct}
pub use Rattle.orbits.proofs.Sums.{all_below}
use Rattle.osm_rings.specs.Pieces.{AreAdded, AreAllCut, AreCutAlong, AreWalksBelow, HaveOwnNumbers}
use Rattle.osm_rings.proofs.Placed.{all-cut-more}

-- one more list behind those that stand one after the other
pub stand-more : (xss : List (List ℕ)) (ys places sizes : List ℕ) → StandAlong xss places sizes → StandAlong (xss ++ ys ∷ []) (places ++ ys) (sizes ++ length ys ∷ [])
stand-more xss ys places sizes before = record {
  joined = concat-append xss (ys ∷ []) ∙ (ap (λ zs. zs ++ concat (ys ∷ [])) before.joined ∙ ap (λ zs. places ++ zs) (append-nil ys));
  sized = map-append length xss (ys ∷ []) ∙ ap (λ ns. ns ++ length ys ∷ []) before.sized;
}

one-more-of : {X : Type 0} (f : X → List ℕ) (xs : List X) (k : ℕ) (x : X) → k < length xs → x ≡ get_or xs k x → map f (take k xs) ++ f x ∷ [] ≡ map f (take (k + 1) xs)
one-more-of f xs k x h is = sym (ap (map f) (take_more xs k x h) ∙ (map-append f (take k xs) (get_or xs k x ∷ []) ∙ ap (λ y. map f (take k xs) ++ f y ∷ []) (sym is)))

pub one-more : {X : Type 0} (f : X → List ℕ) (xs : List X) (k : ℕ) (x : X) → k < length xs → x ≡ get_or xs k x → (before : List (List ℕ)) → (before ++ map f (take k xs)) ++ f x ∷ [] ≡ before ++ map f (take (k + 1) xs)
one-more f xs k x h is before = append_assoc before (map f (take k xs)) (f x ∷ []) ∙ ap (λ ys. before ++ ys) (one-more-of f xs k x h is)

-- a walk whose items all have numbers of their own, none of them twice, is its own piece
pub apart-walk : (numbers walk : List ℕ) (marks : List Bool) → HaveOwnNumbers numbers marks → All (λ i. i < length numbers) walk → 0 < length walk → ((i j : ℕ) → i < j → j < length walk → get_or walk i 0 ≢ get_or walk j 0) → All (λ i. get_or marks i true ≡ false) walk → AreCutOff numbers walk (walk ∷ [])
apart-walk numbers walk marks own within some once apart = (
  [],
  [],
  sym (append-nil walk),
  record {
    some = some;
    simple = λ i j l h same. once i j l h (own (get_or walk i 0) (get_or walk j 0) (within i 0 (omega arith)) (within j 0 h) (apart i 0 (omega arith)) same);
    closed = refl;
  },
  refl,
)

-- the walks of successors, of places of the edges
pub walks-below : (next : List ℕ) (n : ℕ) (places sizes at by : List ℕ) → length next ≡ n → places ≡ at → sizes ≡ by → (are : AreOrbitsAlong (total_map next) at by) → AreWalksBelow n are.orbits places sizes
walks-below next n places sizes at by sized same_places same_sizes are =
    let once : HoldEachOnce n are.orbits = subst (λ m. HoldEachOnce m are.orbits) (length-map next Some ∙ sized) are.are.once in
    record {
      along = subst (λ ps. StandAlong are.orbits ps sizes) (sym same_places) (subst (StandAlong are.orbits at) (sym same_sizes) are.along);
      within = all_below n are.orbits once;
      some = λ k d l. (are.are.each k d l).some;
      once = held_distinct n are.orbits once;
    }

pub none-cut : (numbers : List ℕ) (walks : List (List ℕ)) (places sizes : List ℕ) → StandAlong [] places sizes → AreCutAlong numbers (take 0 walks) places sizes
none-cut numbers walks places sizes along = record { pieces = []; cut = refl; along = along }

module _ (numbers : List ℕ) (walks : List (List ℕ)) (old new : ClosedWalks) where
  -- the pieces of one more walk
  pub cut-more : (k : ℕ) → k < length walks → AreCutAlong numbers (take k walks) old.places.items old.sizes.items → AreAdded numbers (get_or walks k []) old new → AreCutAlong numbers (take (k + 1) walks) new.places.items new.sizes.items
  cut-more k inside before added = record {
    pieces = before.pieces ++ added.pieces;
    cut = subst (λ ws. AreAllCut numbers ws (before.pieces ++ added.pieces)) (sym (take_more walks k [] inside)) (all-cut-more numbers (take k walks) before.pieces (get_or walks k []) added.pieces before.cut added.cut);
    along = added.along before.pieces before.along;
  }
