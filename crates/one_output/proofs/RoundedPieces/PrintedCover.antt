-- The print of some polygon of some leaf covers a point that is far from the borders of the leaves exactly where some leaf does.
use Rattle.std.proofs.Common.{All, Bool, List, [], ap, arith, cond, false, inl, inr, refl, subst, sym, true, ℕ, ℤ, ◌%◌, ◌+◌, ◌↔◌, ◌∙◌, ◌∷◌, ◌≡◌, ◌≤◌}
use Rattle.std.specs.List.{count_by}
use Rattle.lists.specs.Member.{In}
use Rattle.lists.proofs.ListsKit.{all-in, count_by-cons, in-all, in-map, in-map-out}
use Rattle.coast_split.specs.SplitTree.{Covers, IsOffList}
use Rattle.coast_split.specs.declared.leaves.Leaf.{Leaf}
use Rattle.job_coastline.specs.Pieces.{AreTiles, Tile}
use Rattle.one_output.specs.OneCoast.Cover.{SomeLeafCovers}
use Rattle.plane.specs.Sign.{Plus, sign}
use Rattle.plane.specs.Vector.{Vector}
use Rattle.osm_geom.specs.InPlane.Multiple.{product_of_denominators, whole_edges}
use Rattle.osm_geom.specs.InPlane.Sided.{count_at}
use Rattle.osm_geom.proofs.EdgesKit.{common_is_common}
use Rattle.plane_lists.proofs.RoundedKit.{beyond-off}
use Rattle.one_output.specs.RoundedPieces.Cover.{SomePrintCovers}
use Rattle.one_output.specs.RoundedPieces.Laws.{IsTilePrintedRight}
use Rattle.one_output.specs.RoundedPieces.Printed.{print_covers}
use Rattle.one_output.specs.RoundedPieces.Tiles.{IsBeyondLeaf}

-- ---- an item that passes, where some are counted
module _ {X : Type 0} (f : X → Bool) where
  some-by : (x : X) (xs : List X) (b : Bool) → f x ≡ b → 1 ≤ cond {A = ℕ} b 1 0 + count_by f xs → (1 ≤ count_by f xs → (y : X) × In y xs × (f y ≡ true)) → (y : X) × In y (x ∷ xs) × (f y ≡ true)
  some-by x xs true e h more = (x, inl refl, e)
  some-by x xs false e h more = let w = more (omega arith) in (w.0, inr w.1, w.2)

  some-passes : (xs : List X) → 1 ≤ count_by f xs → (y : X) × In y xs × (f y ≡ true)
  some-passes [] h = absurd (omega arith)
  some-passes (x ∷ xs) h = some-by x xs (f x) refl (subst (λ n. 1 ≤ n) (count_by-cons f x xs) h) (some-passes xs)

  passing-counts : (xs : List X) (y : X) → In y xs → f y ≡ true → 1 ≤ count_by f xs
  passing-counts [] y i e = absurd i
  passing-counts (x ∷ xs) y (inl h) e =
      let c = count_by-cons f x xs in let one = ap (λ b. cond {A = ℕ} b 1 0) (ap f (sym h) ∙ e) in omega arith
  passing-counts (x ∷ xs) y (inr i) e = let c = count_by-cons f x xs in let r = passing-counts xs y i e in omega arith

module _ (q : ℤ) (plus : sign q ≡ Plus) (p : Vector) (leaves : List Leaf) (tiles : List Tile) (are : AreTiles leaves tiles) (right : All IsTilePrintedRight tiles) (far : All (IsBeyondLeaf q p) leaves) where
  leaf-of : (tile : Tile) → In tile tiles → In tile.leaf leaves
  leaf-of tile i = subst (In tile.leaf) are.of_leaves (in-map (λ (t : Tile). t.leaf) tiles tile i)

  counted : (tile : Tile) → In tile tiles → count_by (print_covers q p) tile.polygons ≡ count_at q p tile.leaf.edges % 2
  counted tile i = (in-all IsTilePrintedRight tiles tile right i).together q plus p (in-all (IsBeyondLeaf q p) leaves tile.leaf far (leaf-of tile i))

  from-leaf : SomeLeafCovers q p leaves → SomePrintCovers q p tiles
  from-leaf c =
      let w = in-map-out (λ (t : Tile). t.leaf) tiles c.leaf (subst (In c.leaf) (sym are.of_leaves) c.member) in
      let odd : count_at q p w.0.leaf.edges % 2 ≡ 1 = subst (λ (l : Leaf). Covers q p l.edges) w.2 c.covers in
      let n = counted w.0 w.1 in
      let g = some-passes (print_covers q p) w.0.polygons (omega arith) in
      record { tile = w.0; member = w.1; polygon = g.0; of_tile = g.1; covers = g.2 }

  to-leaf : SomePrintCovers q p tiles → SomeLeafCovers q p leaves
  to-leaf c =
      let some = passing-counts (print_covers q p) c.tile.polygons c.polygon c.of_tile c.covers in
      let n = counted c.tile c.member in
      record { leaf = c.tile.leaf; member = leaf-of c.tile c.member; covers = (let odd : count_at q p c.tile.leaf.edges % 2 ≡ 1 = omega arith in odd) }

  pub prints-cover : SomePrintCovers q p tiles ↔ SomeLeafCovers q p leaves
  prints-cover = (to-leaf, from-leaf)

-- a point that is far from the borders of leaves is on none of their edges
pub far-off : (q : ℤ) → sign q ≡ Plus → (p : Vector) (leaves : List Leaf) → All (IsBeyondLeaf q p) leaves → All (λ (leaf : Leaf). IsOffList q p leaf.edges) leaves
far-off q plus p leaves far =
    all-in (λ (leaf : Leaf). IsOffList q p leaf.edges) leaves (λ leaf i.
    beyond-off (product_of_denominators leaf.edges) (common_is_common leaf.edges).some (whole_edges leaf.edges) q plus p (in-all (IsBeyondLeaf q p) leaves leaf far i))
