-- How many leaves have come, and what that says of all.
use Rattle.std.proofs.Common.{List, [], ap, arith, length, map, refl, subst, sym, ℕ, ◌+◌, ◌++◌, ◌<◌, ◌∙◌, ◌∷◌, ◌≡◌, false}
use Rattle.std.proofs.lemmas.List.{append_assoc, append-nil, length-append, length-map}
use Rattle.osm_geom.specs.declared.edge.Edge.{Edge}
use Rattle.coast_split.specs.declared.leaves.Leaf.{Leaf}
use Rattle.coast_split.specs.LeavesLeft.{AreLeft, IsNextLeaf}
use Rattle.coast_split.specs.SplitTree.{AreLeaves, HasMoreLeaves, is_split, leaf_of, leaves_of}
use Rattle.coast_split.specs.SplitTree.Tree.{Whole}
use Rattle.coast_split.specs.Splitting.{HaveMoreLeft, HaveSameLeaves}
use Rattle.coast_split.specs.TreeLaws.{SplitTreesExist}

module _ (m o : ℕ) where
  pub left-exist : SplitTreesExist → (lists : List (List Edge)) → (ls : List Leaf) × AreLeft m o lists ls
  left-exist exist [] = ([], refl)
  left-exist exist (es ∷ rest) =
      let t = exist m o es in let r = left-exist exist rest in let f = map (leaf_of m) (leaves_of es t.0) in
      (f ++ r.0, (f, r.0, record { tree = t.0; is_tree = t.1; leaves = refl }, r.1, refl))

  module _ (start : List (List Edge)) where
    -- n leaves came before those that are to come of these lists
    abbrev pub HaveCome : ℕ → List (List Edge) → Type 0
    HaveCome n now = (done : List Leaf) × (length done ≡ n) × ((later : List Leaf) → AreLeft m o now later → AreLeft m o start (done ++ later))

    pub none-came : HaveCome 0 start
    none-came = ([], refl, λ later k. k)

    pub one-came : (n : ℕ) (now after : List (List Edge)) (leaf : Leaf) → HaveCome n now → IsNextLeaf m o now leaf after → HaveCome (n + 1) after
    one-came n now after leaf h g =
        let l = length-append h.0 (leaf ∷ []) in let d = h.1 in
        (h.0 ++ leaf ∷ [], omega arith, λ later k. subst (AreLeft m o start) (sym (append_assoc h.0 (leaf ∷ []) later)) (h.2 (leaf ∷ later) (g.joins later k)))

    pub all-came : (n : ℕ) (now : List (List Edge)) → HaveCome n now → now ≡ [] → (ls : List Leaf) × AreLeft m o start ls × (n ≡ length ls)
    all-came n now h e = (h.0, subst (AreLeft m o start) (append-nil h.0) (h.2 [] (subst (λ v. AreLeft m o v []) (sym e) refl)), sym h.1)

    pub more-come : SplitTreesExist → (n : ℕ) (now after : List (List Edge)) (leaf : Leaf) → HaveCome n now → IsNextLeaf m o now leaf after → HaveMoreLeft m o n start
    more-come exist n now after leaf h g =
        let l = left-exist exist after in let d = h.1 in let e = length-append h.0 (leaf ∷ l.0) in
        record { leaves = h.0 ++ leaf ∷ l.0; are_left = h.2 (leaf ∷ l.0) (g.joins l.0 l.1); more = omega arith }

  -- ---- of one list
  pub left-of-one : (es : List Edge) (ls : List Leaf) → AreLeft m o (es ∷ []) ls → AreLeaves m o es ls
  left-of-one es ls k = subst (AreLeaves m o es) (sym (k.4 ∙ ap (λ v. k.0 ++ v) k.3 ∙ append-nil k.0)) k.2

  pub more-of-one : (es : List Edge) (most : ℕ) (lists : List (List Edge)) → HaveSameLeaves m o (es ∷ []) lists → HaveMoreLeft m o most lists → HasMoreLeaves m o most es
  more-of-one es most lists h g =
      let k = left-of-one es g.leaves ((h g.leaves).1 g.are_left) in let e = ap length k.leaves in let i = length-map (leaves_of es k.tree) (leaf_of m) in let j = g.more in
      record { tree = k.tree; is_tree = k.is_tree; more = omega arith }

  pub left-as : (m' o' : ℕ) (lists : List (List Edge)) (ls : List Leaf) → m' ≡ m → o' ≡ o → AreLeft m' o' lists ls → AreLeft m o lists ls
  left-as m' o' lists ls e f h = subst (λ a. AreLeft a o lists ls) e (subst (λ b. AreLeft m' b lists ls) f h)

  pub more-as : (m' o' most : ℕ) (lists : List (List Edge)) → m' ≡ m → o' ≡ o → HaveMoreLeft m' o' most lists → HaveMoreLeft m o most lists
  more-as m' o' most lists e f h = record { leaves = h.leaves; are_left = left-as m' o' lists h.leaves e f h.are_left; more = h.more }

  pub next-as : (m' o' : ℕ) (before after : List (List Edge)) (leaf : Leaf) → m' ≡ m → o' ≡ o → IsNextLeaf m' o' before leaf after → IsNextLeaf m o before leaf after
  next-as m' o' before after leaf e f h = subst (λ a. IsNextLeaf a o before leaf after) e (subst (λ b. IsNextLeaf m' b before leaf after) f h)

  pub more-than-none : (es : List Edge) (most : ℕ) → is_split m o es ≡ false → most < 1 → HasMoreLeaves m o most es
  more-than-none es most h g = record { tree = Whole; is_tree = h; more = g }
