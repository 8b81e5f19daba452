-- What is to come of a list that is cut is to come of its halves; a list that isn't cut is the next leaf.
use Rattle.std.proofs.Common.{List, [], ap, false, map, refl, subst, sym, true, ℕ, ◌&&◌, ◌++◌, ◌∙◌, ◌∷◌, ◌≡◌}
use Rattle.std.proofs.lemmas.List.{append_assoc, map-append}
use Rattle.osm_geom.specs.declared.cut.Side.TheVariants.{Low, High}
use Rattle.osm_geom.specs.declared.edge.Edge.{Edge}
use Rattle.osm_geom.specs.InPlane.Sided.{IsSided}
use Rattle.coast_split.specs.declared.leaves.Leaf.{Leaf}
use Rattle.coast_split.specs.Half.{IsHalf}
use Rattle.coast_split.specs.LeavesLeft.{IsNextLeaf}
use Rattle.coast_split.specs.SplitTree.{AreLeaves, IsTree, Tree, high_cut, is_large, is_split, is_wide, leaf_of, leaves_of, longer_of, low_cut, middle_of, width_of}
use Rattle.coast_split.specs.SplitTree.Tree.{Fork, Whole}
use Rattle.coast_split.specs.Splitting.{HaveSameLeaves}
use Rattle.coast_split.proofs.OneHalf.{one-half}
use Rattle.lists.proofs.ListsKit.{clash}

-- ---- a list that is cut
-- the halves of a list that is cut
pub record AreSidedHalves (m o : ℕ) (es low high : List Edge) : Type 0 where
  pub is_cut : is_split m o es ≡ true
  pub low_half : IsHalf (low_cut (middle_of es) o) Low es low
  pub high_half : IsHalf (high_cut (middle_of es) o) High es high
  pub low_sided : IsSided low
  pub high_sided : IsSided high

module _ (m o : ℕ) (es low high : List Edge) (h : AreSidedHalves m o es low high) where
  fork-leaves : (a b : List Leaf) → AreLeaves m o low a → AreLeaves m o high b → AreLeaves m o es (a ++ b)
  fork-leaves a b x y = record {
    tree = Fork low high x.tree y.tree;
    is_tree = (h.is_cut, h.low_half, h.high_half, x.is_tree, y.is_tree);
    leaves =
        ap (λ v. v ++ b) x.leaves ∙ ap (λ v. map (leaf_of m) (leaves_of low x.tree) ++ v) y.leaves
        ∙ sym (map-append (leaf_of m) (leaves_of low x.tree) (leaves_of high y.tree));
  }

  abbrev AreParts : List Leaf → Type 0
  AreParts ls = (a : List Leaf) × (b : List Leaf) × AreLeaves m o low a × AreLeaves m o high b × (ls ≡ a ++ b)

  tree-parts : (t : Tree) → IsTree m o es t → (ls : List Leaf) → ls ≡ map (leaf_of m) (leaves_of es t) → AreParts ls
  tree-parts Whole k ls e = absurd (clash (is_split m o es) h.is_cut k)
  tree-parts (Fork low' high' s t) k ls e =
      let l : low' ≡ low = one-half (low_cut (middle_of es) o) Low es low' low k.1 h.low_half in
      let r : high' ≡ high = one-half (high_cut (middle_of es) o) High es high' high k.2 h.high_half in
      let i = subst (λ x. IsTree m o x s) l k.3 in let j = subst (λ x. IsTree m o x t) r k.4 in
      let v : ls ≡ map (leaf_of m) (leaves_of low s ++ leaves_of high t) =
      e ∙ ap (λ x. map (leaf_of m) (leaves_of x s ++ leaves_of high' t)) l ∙ ap (λ x. map (leaf_of m) (leaves_of low s ++ leaves_of x t)) r in (
        map (leaf_of m) (leaves_of low s),
        map (leaf_of m) (leaves_of high t),
        record { tree = s; is_tree = i; leaves = refl },
        record { tree = t; is_tree = j; leaves = refl },
        v ∙ map-append (leaf_of m) (leaves_of low s) (leaves_of high t),
      )

  leaf-parts : (ls : List Leaf) → AreLeaves m o es ls → AreParts ls
  leaf-parts ls k = tree-parts k.tree k.is_tree ls k.leaves

  pub cut-same : (rest : List (List Edge)) → HaveSameLeaves m o (es ∷ rest) (low ∷ high ∷ rest)
  cut-same rest ls = (
    λ k. let p = leaf-parts k.0 k.2 in (p.0, p.1 ++ k.1, p.2, (p.1, k.1, p.3, k.3, refl), k.4 ∙ ap (λ v. v ++ k.1) p.4 ∙ append_assoc p.0 p.1 k.1),
    λ k. let g = k.3 in (k.0 ++ g.0, g.1, fork-leaves k.0 g.0 k.2 g.2, g.3, k.4 ∙ ap (λ v. k.0 ++ v) g.4 ∙ sym (append_assoc k.0 g.0 g.1)),
  )

-- ---- a list that isn't cut
pub not-split : (m o : ℕ) (es : List Edge) → is_large m es ≡ false → is_split m o es ≡ false
not-split m o es h = ap (λ b. b && is_wide o (width_of (longer_of es) es)) h

module _ (m o : ℕ) (es : List Edge) (h : is_split m o es ≡ false) where
  whole-by : (t : Tree) → IsTree m o es t → map (leaf_of m) (leaves_of es t) ≡ leaf_of m es ∷ []
  whole-by Whole k = refl
  whole-by (Fork low high s t) k = absurd (clash (is_split m o es) k.0 h)

  pub one-leaf : AreLeaves m o es (leaf_of m es ∷ [])
  one-leaf = record { tree = Whole; is_tree = h; leaves = refl }

  pub whole-next : (rest : List (List Edge)) → IsNextLeaf m o (es ∷ rest) (leaf_of m es) rest
  whole-next rest = record {
    parts = λ ls k. (k.1, k.3, k.4 ∙ ap (λ v. v ++ k.1) (k.2.leaves ∙ whole-by k.2.tree k.2.is_tree));
    joins = λ later k. (leaf_of m es ∷ [], later, one-leaf, k, refl);
  }

-- ---- lists with the same leaves
module _ (m o : ℕ) where
  pub same-self : (before : List (List Edge)) → HaveSameLeaves m o before before
  same-self before ls = (λ k. k, λ k. k)

  pub same-trans : (before mid after : List (List Edge)) → HaveSameLeaves m o before mid → HaveSameLeaves m o mid after → HaveSameLeaves m o before after
  same-trans before mid after h g ls = (λ k. (g ls).0 ((h ls).0 k), λ k. (h ls).1 ((g ls).1 k))

  pub same-next : (before mid after : List (List Edge)) (leaf : Leaf) → HaveSameLeaves m o before mid → IsNextLeaf m o mid leaf after → IsNextLeaf m o before leaf after
  same-next before mid after leaf h g = record { parts = λ ls k. g.parts ls ((h ls).0 k); joins = λ later k. (h (leaf ∷ later)).1 (g.joins later k) }
