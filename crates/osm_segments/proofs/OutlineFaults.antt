-- Faults of segments, of which there are none or some.
use Rattle.std.proofs.Common.{Bool, List, [], arith, false, length, not, refl, subst, suc, sym, ℕ, ◌==◌, ◌∙◌, ◌∷◌, ◌≡◌}
use Rattle.std.specs.Prelude.{◌↔◌}
use Rattle.std.proofs.lemmas.Bool.Decides.{nat_tests}
use Rattle.lists.proofs.ListsKit.{same_rising}
use Rattle.osm_lattice.specs.declared.loc.Loc.{Loc}
use Rattle.osm_lattice.specs.declared.seg.Seg.{Seg}
use Rattle.osm_lattice.proofs.LatticeKit.{loc_same, loc_total}
use Rattle.osm_segments.specs.Counts.{AreOddNodes, HasEvenNodes}

-- whether there are any is told by their number
pub none_found : {X : Type 0} (xs : List X) (n : ℕ) (empty : Bool) → length xs ≡ n → empty ≡ (n == 0) → (not empty ≡ false) ↔ (xs ≡ [])
none_found [] n empty e is = ((λ _. refl), (λ _. none_by n empty e is))
  where
    none_by : (n : ℕ) (empty : Bool) → 0 ≡ n → empty ≡ (n == 0) → not empty ≡ false
    none_by n empty e is = grind (arith, nat_tests)
none_found (x ∷ xs) n empty e is = ((λ h. absurd (some_by (length xs) n empty e is h)), (λ none. cc))
  where
    some_by : (m n : ℕ) (empty : Bool) → suc m ≡ n → empty ≡ (n == 0) → not empty ≡ false → ⊥
    some_by m n empty e is h = grind (arith, nat_tests)

pub odd-nodes-one : (segs : List Seg) (a b : List Loc) → AreOddNodes segs a → AreOddNodes segs b → a ≡ b
odd-nodes-one segs a b s t = same_rising loc_total loc_same a b s.rising t.rising (λ z. s.odd z ∙ sym (t.odd z))

-- where no odd node was found each location is even
pub even_found : (segs : List Seg) (nodes : List Loc) (found : Bool) → AreOddNodes segs nodes → (found ≡ false) ↔ (nodes ≡ []) → (found ≡ false) ↔ HasEvenNodes segs
even_found segs nodes found odd told = ((λ h. subst (AreOddNodes segs) (told.0 h) odd), (λ even. told.1 (odd-nodes-one segs nodes [] odd even)))
