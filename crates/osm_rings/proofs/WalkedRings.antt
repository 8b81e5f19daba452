-- Walks one after the other, taken off the places of all.
use Rattle.std.proofs.Common.{◌≡◌, ℕ, ◌+◌, ◌<◌, ◌≤◌, List, [], ◌∷◌, ◌++◌, length, get_or, map, take, drop, sym, ap, ◌∙◌, arith}
use Rattle.std.specs.List.{concat}
use Rattle.std.proofs.Math.Seq.{drop-append_seam, take-append_seam}
use Rattle.std.proofs.lemmas.List.{drop_more, get_or-map, length-append, length-map, map-append, take_more}
use Rattle.lists.proofs.ListsKit.{at-in, in-map}
use Rattle.lists.specs.Member.{In}
use Rattle.orbits.specs.Along.{StandAlong}
use Rattle.osm_geom.specs.declared.edge.Edge.{Edge}
use Rattle.osm_rings.specs.Pieces.{edges_at}

module _ (ws : List (List ℕ)) (places sizes : List ℕ) (along : StandAlong ws places sizes) where
  pub as-many : length ws ≡ length sizes
  as-many = sym (length-map ws length) ∙ ap length along.sized

  module _ (k : ℕ) (inside : k < length sizes) where
    abbrev walk : List ℕ
    walk = get_or ws k []

    pub in-walks : k < length ws
    in-walks = let same = as-many in omega arith

    long : get_or sizes k 0 ≡ length walk
    long = ap (λ xs. get_or xs k 0) (sym along.sized) ∙ get_or-map length ws k [] 0 in-walks

    -- the rings of the walks up to it, as edges
    pub rings-more : (es : List Edge) (rings : List (List Edge)) → rings ≡ map (edges_at es) (take k ws) → rings ++ edges_at es walk ∷ [] ≡ map (edges_at es) (take (k + 1) ws)
    rings-more es rings so_far =
        ap (λ rs. rs ++ edges_at es walk ∷ []) so_far
        ∙ (sym (map-append (edges_at es) (take k ws) (walk ∷ [])) ∙ ap (map (edges_at es)) (sym (take_more ws k [] in-walks)))

    -- its ring is among those of the walks
    pub ring-there : (es : List Edge) → In (edges_at es walk) (map (edges_at es) ws)
    ring-there es = in-map (edges_at es) ws walk (at-in ws k [] in-walks)

    module _ (left : List ℕ) (left_is : left ≡ concat (drop k ws)) where
      parted : left ≡ walk ++ concat (drop (k + 1) ws)
      parted = left_is ∙ ap concat (drop_more ws k [] in-walks)

      pub walk-fits : get_or sizes k 0 ≤ length left
      walk-fits =
          let whole = ap length parted in
          let parts = length-append walk (concat (drop (k + 1) ws)) in
          let same = long in
          omega arith

      pub walk-is : take (get_or sizes k 0) left ≡ walk
      walk-is = ap (λ n. take n left) long ∙ (ap (take (length walk)) parted ∙ take-append_seam walk (concat (drop (k + 1) ws)))

      pub rest-is : drop (get_or sizes k 0) left ≡ concat (drop (k + 1) ws)
      rest-is = ap (λ n. drop n left) long ∙ (ap (drop (length walk)) parted ∙ drop-append_seam walk (concat (drop (k + 1) ws)))
