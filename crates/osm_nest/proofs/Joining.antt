-- Outer rings joined, one after the other, with what stands under them, which is taken away.
use Rattle.std.proofs.Common.{All, AllPairs, List, [], ap, arith, get_or, length, map, refl, subst, sym, ℕ, ◌++◌, ◌<◌, ◌∙◌, ◌∷◌, ◌≡◌, ◌≢◌, ◌≤◌}
use Rattle.std.proofs.Math.ListN.{set}
use Rattle.std.proofs.lemmas.List.{get_or-set_other, get_or_default, length-append, length-set, map-append}
use Rattle.osm_geom.specs.declared.edge.Edge.{Edge}
use Rattle.osm_nest.specs.declared.rings_from_least.RingFromLeast.{RingFromLeast}
use Rattle.osm_nest.specs.declared.polygon.Polygon.{Polygon}
use Rattle.osm_nest.specs.Grouped.{with_under}

pub record AreJoined (under : List (List (List Edge))) (outers passed : List RingFromLeast) (left : List (List (List Edge))) (polygons : List Polygon) : Type 0 where
  pub made : polygons ≡ map (with_under under) passed
  pub sized : length left ≡ length under
  pub intact : (k : ℕ) (d : RingFromLeast) → length passed ≤ k → k < length outers → get_or left (get_or outers k d).place [] ≡ get_or under (get_or outers k d).place []

pub joined-none : (under : List (List (List Edge))) (outers : List RingFromLeast) → AreJoined under outers [] under []
joined-none under outers = record { made = refl; sized = refl; intact = λ k d h l. refl }

module _ (under : List (List (List Edge))) (outers : List RingFromLeast) (within : All (λ b. b.place < length under) outers) (once : AllPairs (λ b c. b.place ≢ c.place) outers) where
  pub joined-more : (passed : List RingFromLeast) (left : List (List (List Edge))) (polygons : List Polygon) (b : RingFromLeast) → length passed < length outers → b ≡ get_or outers (length passed) b →
      AreJoined under outers passed left polygons → AreJoined under outers (passed ++ b ∷ []) (set left b.place []) (polygons ++ (record { outer = b.ring; inners = get_or left b.place [] }) ∷ [])
  joined-more passed left polygons b l is inv =
      let size = length-append passed (b ∷ []) in
      let n = length passed in
      let here : get_or left b.place [] ≡ get_or under b.place [] = subst (λ x. get_or left x.place [] ≡ get_or under x.place []) (sym is) (inv.intact n b (omega arith) l) in
      record {
        made =
            ap (λ xs. xs ++ (record { outer = b.ring; inners = get_or left b.place [] }) ∷ []) inv.made
            ∙ (ap (λ rs. map (with_under under) passed ++ (record { outer = b.ring; inners = rs }) ∷ []) here ∙ sym (map-append (with_under under) passed (b ∷ [])));
        sized = length-set left b.place [] ∙ inv.sized;
        intact = λ k d h m.
            let x = get_or outers k d in
            let first : get_or outers n d ≡ b = get_or_default outers n d b l ∙ sym is in
            let apart : x.place ≢ b.place = λ e. once n k d (omega arith) m (ap (λ y. y.place) first ∙ sym e) in
            get_or-set_other left b.place x.place [] [] apart ∙ inv.intact k d (omega arith) m;
      }

  pub joined-step : (passed : List RingFromLeast) (left : List (List (List Edge))) (polygons after : List Polygon) (b : RingFromLeast) (inners new other : List (List Edge)) → length passed < length outers → b ≡ get_or outers (length passed) b →
      new ≡ [] → inners ≡ get_or left b.place other → after ≡ polygons ++ (record { outer = b.ring; inners = inners }) ∷ [] →
      AreJoined under outers passed left polygons → AreJoined under outers (passed ++ b ∷ []) (set left b.place new) after
  joined-step passed left polygons after b inners new other l is empty taken made inv =
      let sized = inv.sized in
      let inside : b.place < length under = subst (λ x. x.place < length under) (sym is) (within (length passed) b l) in
      let all = taken ∙ get_or_default left b.place other [] (omega arith) in
      subst (λ rs. AreJoined under outers (passed ++ b ∷ []) (set left b.place rs) after) (sym empty)
      (subst (AreJoined under outers (passed ++ b ∷ []) (set left b.place [])) (sym (made ∙ ap (λ rs. polygons ++ (record { outer = b.ring; inners = rs }) ∷ []) all))
      (joined-more passed left polygons b l is inv))
