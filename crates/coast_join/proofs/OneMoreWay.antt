-- One more way of those at places.
use Rattle.std.proofs.Common.{◌≡◌, ℕ, ◌+◌, ◌<◌, List, [], ◌∷◌, ◌++◌, length, take, map, get_or, sym, ap, ◌∙◌}
use Rattle.std.proofs.lemmas.List.{map-append, take_more}
use Rattle.coast_join.specs.declared.way.CoastWay.{CoastWay}
use Rattle.coast_join.specs.Chains.{WayPath, way_path_of}
use Rattle.coast_join.specs.ChainSteps.{member, ways_at}
use Rattle.coast_join.proofs.Joining.{member_read}

-- what is taken of each way at places
module _ {A : Type 0} (h : WayPath → A) (ways : List CoastWay) (places : List ℕ) where
  pub way_more : (i : ℕ) (w : CoastWay) (now new : List A) → i < length places → get_or places i 0 < length ways → w ≡ get_or ways (get_or places i 0) w → now ≡ map h (ways_at ways (take i places)) → new ≡ now ++ h (way_path_of w) ∷ [] → new ≡ map h (ways_at ways (take (i + 1) places))
  way_more i w now new l inside e was is =
      let one : member ways (get_or places i 0) ≡ way_path_of w = member_read ways (get_or places i 0) w inside e in
      let split : map h (ways_at ways (take i places ++ get_or places i 0 ∷ [])) ≡ map h (ways_at ways (take i places)) ++ h (member ways (get_or places i 0)) ∷ [] =
      ap (map h) (map-append (member ways) (take i places) (get_or places i 0 ∷ [])) ∙ map-append h (ways_at ways (take i places)) (member ways (get_or places i 0) ∷ []) in
      is
      ∙ (ap (λ (xs : List A). xs ++ h (way_path_of w) ∷ []) was
      ∙ (ap (λ (x : WayPath). map h (ways_at ways (take i places)) ++ h x ∷ []) (sym one)
      ∙ (sym split ∙ ap (λ (ps : List ℕ). map h (ways_at ways ps)) (sym (take_more places i 0 l)))))
