-- The leaves of polygons are one list, sided, and the polygons that they make are one list each.
use Rattle.std.proofs.Common.{All, List, [], ap, ap₂, get_or, map, subst, sym, ◌++◌, ◌∙◌, ◌∷◌, ◌≡◌}
use Rattle.std.proofs.lemmas.List.Elements.{All-append, All-head, All-map, All-nil, All-tail}
use Rattle.coast_split.specs.HalfLaws.{LeavesAreSided, TreeIsOne}
use Rattle.coast_split.specs.SplitTree.{AreLeaves, Tree, leaf_of, leaves_of}
use Rattle.coast_split.specs.declared.leaves.Leaf.{Leaf}
use Rattle.lists.proofs.ListsKit.{all-in}
use Rattle.osm_nest.specs.Cover.{AreSided}
use Rattle.osm_nest.specs.Polygons.{edges_in}
use Rattle.osm_nest.specs.declared.polygon.Polygon.{Polygon}
use Rattle.osm_words.specs.Job.{CoastlineSettings}
use Rattle.osm_geom.specs.InPlane.Sided.{IsSided}
use Rattle.job_coastline.specs.Pieces.{AreLeavesOf, AreTiles, IsTile, Tile}
use Rattle.osm_nest.specs.OneNesting.{PolygonsAreOne}
use Rattle.one_output.proofs.OneCoast.PolygonsOne.{polygons_one}

abbrev pub AreSidedLeaves : List Leaf → Type 0
AreSidedLeaves leaves = All (λ (leaf : Leaf). IsSided leaf.edges) leaves

module _ (settings : CoastlineSettings) where
  abbrev LeavesOfOne : Polygon → List Leaf → Type 0
  LeavesOfOne polygon leaves = AreLeaves settings.max_points settings.bbox_overlap (edges_in polygon) leaves

  -- ---- leaves are one
  module _ (tree_one : TreeIsOne) where
    one_leaves_one : (polygon : Polygon) (a b : List Leaf) → LeavesOfOne polygon a → LeavesOfOne polygon b → a ≡ b
    one_leaves_one polygon a b s t =
        s.leaves ∙ ap (λ (tree : Tree). map (leaf_of settings.max_points) (leaves_of (edges_in polygon) tree)) (tree_one settings.max_points settings.bbox_overlap (edges_in polygon) s.tree t.tree s.is_tree t.is_tree) ∙ sym t.leaves

    pub leaves_one : (polygons : List Polygon) (a b : List Leaf) → AreLeavesOf settings polygons a → AreLeavesOf settings polygons b → a ≡ b
    leaves_one [] a b s t = s ∙ sym t
    leaves_one (polygon ∷ polygons) a b s t =
        s.4 ∙ ap₂ (λ (x y : List Leaf). x ++ y) (one_leaves_one polygon s.0 t.0 s.2 t.2) (leaves_one polygons s.1 t.1 s.3 t.3) ∙ sym t.4

  -- ---- and sided
  module _ (sided : LeavesAreSided) where
    one_leaves_sided : (polygon : Polygon) → IsSided (edges_in polygon) → (leaves : List Leaf) → LeavesOfOne polygon leaves → AreSidedLeaves leaves
    one_leaves_sided polygon is leaves are =
        let parts = leaves_of (edges_in polygon) are.tree in
        let all : All IsSided parts = all-in IsSided parts (λ part member. sided settings.max_points settings.bbox_overlap (edges_in polygon) are.tree are.is_tree is part member) in
        subst AreSidedLeaves (sym are.leaves) (All-map (λ (leaf : Leaf). IsSided leaf.edges) (leaf_of settings.max_points) parts (λ k d lt. all k d lt))

    pub leaves_sided : (polygons : List Polygon) → AreSided polygons → (leaves : List Leaf) → AreLeavesOf settings polygons leaves → AreSidedLeaves leaves
    leaves_sided [] are leaves none = subst AreSidedLeaves (sym none) (All-nil (λ (leaf : Leaf). IsSided leaf.edges))
    leaves_sided (polygon ∷ polygons) are leaves split =
        subst AreSidedLeaves (sym split.4)
        (All-append (λ (leaf : Leaf). IsSided leaf.edges) split.0 split.1
        (one_leaves_sided polygon (All-head (λ (p : Polygon). IsSided (edges_in p)) polygon polygons are) split.0 split.2)
        (leaves_sided polygons (All-tail (λ (p : Polygon). IsSided (edges_in p)) polygon polygons are) split.1 split.3))

-- ---- what they make is one

tile_same : (s t : Tile) → s.leaf ≡ t.leaf → s.polygons ≡ t.polygons → s ≡ t
tile_same s t p q = λ i. record { leaf = p i; polygons = q i }

module _ (one : PolygonsAreOne) where
  tile_one : (s t : Tile) → s.leaf ≡ t.leaf → IsSided s.leaf.edges → IsTile s → IsTile t → s ≡ t
  tile_one s t same sided a b =
      tile_same s t same (polygons_one one s.leaf.edges sided s.polygons t.polygons a (subst (λ (leaf : Leaf). IsTile (record { leaf = leaf; polygons = t.polygons })) (sym same) b))

  abbrev leaves_in : List Tile → List Leaf
  leaves_in tiles = map (λ (tile : Tile). tile.leaf) tiles

  first_leaf : Leaf → List Leaf → Leaf
  first_leaf none leaves = get_or leaves 0 none

  by_leaves : (a b : List Tile) → leaves_in a ≡ leaves_in b → AreSidedLeaves (leaves_in a) → All IsTile a → All IsTile b → a ≡ b
  by_leaves [] [] h sided s t = cc
  by_leaves [] (y ∷ b) h sided s t = cc
  by_leaves (x ∷ a) [] h sided s t = cc
  by_leaves (x ∷ a) (y ∷ b) h sided s t =
      let first : x.leaf ≡ y.leaf = ap (λ (leaves : List Leaf). get_or leaves 0 x.leaf) h in
      let same : x ≡ y = tile_one x y first (All-head (λ (leaf : Leaf). IsSided leaf.edges) x.leaf (leaves_in a) sided) (All-head IsTile x a s) (All-head IsTile y b t) in
      ap₂ (λ (z : Tile) (zs : List Tile). z ∷ zs) same
      (by_leaves a b (cc h) (All-tail (λ (leaf : Leaf). IsSided leaf.edges) x.leaf (leaves_in a) sided) (All-tail IsTile x a s) (All-tail IsTile y b t))

  pub tiles_one : (leaves : List Leaf) → AreSidedLeaves leaves → (a b : List Tile) → AreTiles leaves a → AreTiles leaves b → a ≡ b
  tiles_one leaves sided a b s t = by_leaves a b (s.of_leaves ∙ sym t.of_leaves) (subst AreSidedLeaves (sym s.of_leaves) sided) s.made t.made
