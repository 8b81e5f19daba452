-- The leaves that lists have, one list after the other.
use Rattle.std.proofs.Common.{◌≡◌, ◌∙◌, refl, sym, ap, subst, ℕ, ◌+◌, ◌-◌, ◌<◌, ◌≤◌, List, [], ◌∷◌, ◌++◌, length, take, drop, get_or, append-nil, append_assoc, map, arith, IfNone, IfSome, None, Option, Some}
use Rattle.std.proofs.lemmas.List.{length-append, length-map, take_all, take_more, take-append-drop}
use Rattle.coast_split.specs.LeavesLeft.{AreLeft, IsNextLeaf}
use Rattle.coast_split.specs.SplitTree.{AreLeaves, HasMoreLeaves, leaf_of, leaves_of}
use Rattle.coast_split.specs.ToCut.{ToCut}
use Rattle.coast_split.specs.TreeLaws.{SplitTreesExist}
use Rattle.coast_split.specs.declared.leaves.Leaf.{Leaf}
use Rattle.osm_geom.specs.declared.edge.Edge.{Edge}
use Rattle.osm_nest.specs.Polygons.{edges_in}
use Rattle.osm_nest.specs.declared.polygon.Polygon.{Polygon}
use Rattle.osm_words.specs.Job.{CoastlineSettings}
use Rattle.job_coastline.specs.OutlineSteps.{AreEdgesOf, HaveLeaves, HaveMoreLeaves}
use Rattle.job_coastline.specs.Pieces.{AreLeavesOf}

module _ (m o : ℕ) where
  pub left_both : (xs ys : List (List Edge)) (a b : List Leaf) → AreLeft m o xs a → AreLeft m o ys b → AreLeft m o (xs ++ ys) (a ++ b)
  left_both [] ys a b none more = subst (λ (ls : List Leaf). AreLeft m o ys ls) (ap (λ (ls : List Leaf). ls ++ b) (sym none)) more
  left_both (es ∷ xs) ys a b first more =
      (first.0, first.1 ++ b, first.2, left_both xs ys first.1 b first.3 more, ap (λ (ls : List Leaf). ls ++ b) first.4 ∙ append_assoc first.0 first.1 b)

  -- the leaves of lists, and those of lists behind them
  pub record AreParted (xs ys : List (List Edge)) (all : List Leaf) : Type 0 where
    pub first : List Leaf
    pub first_are : AreLeft m o xs first
    pub rest : List Leaf
    pub rest_are : AreLeft m o ys rest
    pub whole : all ≡ first ++ rest

  pub left_parted : (xs ys : List (List Edge)) (all : List Leaf) → AreLeft m o (xs ++ ys) all → AreParted xs ys all
  left_parted [] ys all are = record { first = []; first_are = refl; rest = all; rest_are = are; whole = refl }
  left_parted (es ∷ xs) ys all are =
      let parts = left_parted xs ys are.1 are.3 in
      record {
        first = are.0 ++ parts.first;
        first_are = (are.0, parts.first, are.2, parts.first_are, refl);
        rest = parts.rest;
        rest_are = parts.rest_are;
        whole = are.4 ∙ ap (λ (ls : List Leaf). are.0 ++ ls) parts.whole ∙ sym (append_assoc are.0 parts.first parts.rest);
      }

  -- of one list
  pub one_left : (es : List Edge) (ls : List Leaf) → AreLeaves m o es ls → AreLeft m o (es ∷ []) ls
  one_left es ls are = (ls, [], are, refl, sym (append-nil ls))

  leaves_by : (es : List Edge) → SplitTreesExist → (ls : List Leaf) × AreLeaves m o es ls
  leaves_by es trees =
      let tree = trees m o es in
      (map (leaf_of m) (leaves_of es tree.0), record { tree = tree.0; is_tree = tree.1; leaves = refl })

  -- some leaves are left of lists
  pub record HasLeaves (lists : List (List Edge)) : Type 0 where
    pub leaves : List Leaf
    pub are : AreLeft m o lists leaves

  pub left_there : SplitTreesExist → (lists : List (List Edge)) → HasLeaves lists
  left_there trees [] = record { leaves = []; are = refl }
  left_there trees (es ∷ lists) =
      let first = leaves_by es trees in let rest = left_there trees lists in
      record { leaves = first.0 ++ rest.leaves; are = (first.0, rest.leaves, first.1, rest.are, refl) }

-- the leaf that was handed out
pub next_leaf : (m o m' o' : ℕ) (before after : List (List Edge)) (answer : Option Leaf) (leaf : Leaf) → m' ≡ m → o' ≡ o → IfSome answer (λ (next : Leaf). IsNextLeaf m' o' before next after) → answer ≡ Some leaf →
    IsNextLeaf m o before leaf after
next_leaf m o m' o' before after answer leaf same_most same_overlap some is =
    subst (λ (k : ℕ). IsNextLeaf k o before leaf after) same_most
    (subst (λ (k : ℕ). IsNextLeaf m' k before leaf after) same_overlap
    (subst (λ (found : Option Leaf). IfSome found (λ (next : Leaf). IsNextLeaf m' o' before next after)) is some))

pub none_waiting : (waiting : List (List Edge)) (answer : Option Leaf) → IfNone answer (waiting ≡ []) → answer ≡ None → waiting ≡ []
none_waiting waiting answer none is = subst (λ (found : Option Leaf). IfNone found (waiting ≡ [])) is none

-- what is left of a list, as it is handed out
pub left_from : {m o : ℕ} {lists : List (List Edge)} {leaves : ToCut} → leaves ≡ record { most_points = m; overlap = o; waiting = lists } → (list : List Leaf) → AreLeft leaves.most_points leaves.overlap leaves.waiting list →
    AreLeft m o lists list
left_from is list are = subst (λ (l : ToCut). AreLeft l.most_points l.overlap l.waiting list) is are

-- ---- counting

module _ (settings : CoastlineSettings) where
  abbrev Left : List (List Edge) → List Leaf → Type 0
  Left lists ls = AreLeft settings.max_points settings.bbox_overlap lists ls

  pub no_leaves : (most : ℕ) → HaveLeaves settings most [] 0
  no_leaves most = record { leaves = []; are = refl; counted = refl; few = omega arith }

  left_next : (lists : List (List Edge)) (k : ℕ) (es : List Edge) → k < length lists → es ≡ get_or lists k es → (a b : List Leaf) → Left (take k lists) a → Left (es ∷ []) b → Left (take (k + 1) lists) (a ++ b)
  left_next lists k es lt is a b first one =
      subst (λ (xs : List (List Edge)). Left xs (a ++ b)) (ap (λ (x : List Edge). take k lists ++ x ∷ []) is ∙ sym (take_more lists k es lt))
      (left_both settings.max_points settings.bbox_overlap (take k lists) (es ∷ []) a b first one)

  -- one list more
  pub counted_next : (lists : List (List Edge)) (k : ℕ) (es : List Edge) → k < length lists → es ≡ get_or lists k es → (most count more : ℕ) → HaveLeaves settings most (take k lists) count →
      (ls : List Leaf) → AreLeaves settings.max_points settings.bbox_overlap es ls → more ≡ length ls → more ≤ most - count → HaveLeaves settings most (take (k + 1) lists) (count + more)
  counted_next lists k es lt is most count more have ls are counted few = record {
    leaves = have.leaves ++ ls;
    are = left_next lists k es lt is have.leaves ls have.are (one_left settings.max_points settings.bbox_overlap es ls are);
    counted = let a = have.counted in let n = length-append have.leaves ls in omega arith;
    few = let f = have.few in omega arith;
  }

  pub all_counted : (lists : List (List Edge)) (n most count : ℕ) → length lists ≤ n → HaveLeaves settings most (take n lists) count → HaveLeaves settings most lists count
  all_counted lists n most count all have = subst (λ (xs : List (List Edge)). HaveLeaves settings most xs count) (take_all n lists all) have

  -- one list has too many behind the others
  pub too_many_left : SplitTreesExist → (lists : List (List Edge)) (k : ℕ) (es : List Edge) → k < length lists → es ≡ get_or lists k es → (most count : ℕ) → HaveLeaves settings most (take k lists) count →
      HasMoreLeaves settings.max_points settings.bbox_overlap (most - count) es → HaveMoreLeaves settings most lists
  too_many_left trees lists k es lt is most count have more =
      let b = map (leaf_of settings.max_points) (leaves_of es more.tree) in
      let a = have.leaves in
      let so_far = left_next lists k es lt is a b have.are (one_left settings.max_points settings.bbox_overlap es b (record { tree = more.tree; is_tree = more.is_tree; leaves = refl })) in
      let rest = left_there settings.max_points settings.bbox_overlap trees (drop (k + 1) lists) in
      record {
        leaves = (a ++ b) ++ rest.leaves;
        are = subst (λ (xs : List (List Edge)). Left xs ((a ++ b) ++ rest.leaves)) (take-append-drop (k + 1) lists)
            (left_both settings.max_points settings.bbox_overlap (take (k + 1) lists) (drop (k + 1) lists) (a ++ b) rest.leaves so_far rest.are);
        more = longer (length (leaves_of es more.tree)) most count (length b) (length a) (length (a ++ b)) (length rest.leaves) (length ((a ++ b) ++ rest.leaves)) (length-map (leaves_of es more.tree) (leaf_of settings.max_points)) (length-append a b) (length-append (a ++ b) rest.leaves) have.counted have.few more.more;
      }
    where
      longer : (n m c b a ab r all : ℕ) → b ≡ n → ab ≡ a + b → all ≡ ab + r → c ≡ a → c ≤ m → m - c < n → m < all
      longer n m c b a ab r all p q s t few more = omega arith

  -- ---- as leaves of polygons

  left_of_polygons : (polygons : List Polygon) (ls : List Leaf) → Left (map edges_in polygons) ls → AreLeavesOf settings polygons ls
  left_of_polygons [] ls are = are
  left_of_polygons (p ∷ polygons) ls are = (are.0, are.1, are.2, left_of_polygons polygons are.1 are.3, are.4)

  pub leaves_of_outlines : (polygons : List Polygon) (lists : List (List Edge)) → AreEdgesOf polygons lists → (ls : List Leaf) → Left lists ls → AreLeavesOf settings polygons ls
  leaves_of_outlines polygons lists edges ls are = left_of_polygons polygons ls (subst (λ (xs : List (List Edge)). Left xs ls) edges.are are)
