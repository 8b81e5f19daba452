-- What leaves make, counted one after the other.
use Rattle.std.proofs.Common.{◌≡◌, ◌∙◌, cond, refl, sym, ap, subst, arith, ℕ, ◌+◌, ◌<◌, ◌≤◌, Bool, List, [], ◌∷◌, ◌++◌, length, append-nil, append_assoc, get_or, not, take}
use Rattle.std.proofs.lemmas.List.{take_all, take_more}
use Rattle.std.specs.List.{count_by, flat_map}
use Rattle.std.proofs.lemmas.List.Sums.{sum_by-append}
use Rattle.std.proofs.lemmas.Grind.{flat_map-append}
use Rattle.coast_split.specs.LeavesLeft.{AreLeft, IsNextLeaf}
use Rattle.coast_split.specs.declared.leaves.Leaf.{Leaf}
use Rattle.osm_geom.specs.declared.edge.Edge.{Edge}
use Rattle.osm_text.specs.Coast.{is_error}
use Rattle.osm_text.specs.declared.coast.CoastLine.{CoastLine}
use Rattle.osm_text.specs.declared.piece.PieceKind.{PieceKind}
use Rattle.osm_text.specs.declared.piece.PieceKind.TheVariants as kinds
use Rattle.osm_words.specs.Job.{CoastlineSettings}
use Rattle.job_coastline.specs.CountSteps.{CountsLeaves, CountsLists, CountsOutlines, warnings_among}
use Rattle.job_coastline.specs.PieceSteps.{ArePiecesOf}
use Rattle.job_coastline.specs.Pieces.{tile_count, tile_lines}
use Rattle.job_coastline.specs.declared.counts.Tally.{Tally}
use Rattle.job_coastline.specs.declared.outlines.Outlines.{Outlines}
use Rattle.job_coastline.specs.declared.pieces.Pieces.{Pieces}
use Rattle.job_coastline.proofs.Left.{left_both}
use Rattle.job_coastline.proofs.Tiles.{no_tiles, one_tile, tiles_both}

same_sum : (n : ℕ) → n ≡ n + 0
same_sum n = omega arith

sum_behind_none : (n : ℕ) → n ≡ 0 + n
sum_behind_none n = omega arith

count_by-append : (p : CoastLine → Bool) (xs ys : List CoastLine) → count_by p (xs ++ ys) ≡ count_by p xs + count_by p ys
count_by-append p xs ys = sum_by-append (λ line. cond {A = ℕ} (p line) 1 0) xs ys

module _ (kind : PieceKind) where
  pub nothing_counted : (tally : Tally) → CountsLeaves kind [] tally tally
  nothing_counted tally = record { tiles = []; made = no_tiles; pieces = same_sum tally.pieces; warnings = same_sum tally.warnings; errors = same_sum tally.errors }

  pub leaf_counted : (leaf : Leaf) (pieces : Pieces) → ArePiecesOf kind leaf pieces → (before after : Tally) → after.pieces ≡ before.pieces + length pieces.texts.items →
      after.warnings ≡ before.warnings + warnings_among pieces.lines.items → after.errors ≡ before.errors + count_by is_error pieces.lines.items → CountsLeaves kind (leaf ∷ []) before after
  leaf_counted leaf pieces are before after printed warned wrong =
      let lines : pieces.lines.items ≡ flat_map tile_lines (are.tile ∷ []) = are.told ∙ sym (append-nil (tile_lines are.tile)) in
      record {
        tiles = are.tile ∷ [];
        made = one_tile leaf are.tile are.of_leaf are.made;
        pieces = printed ∙ ap (λ (n : ℕ). before.pieces + n) (are.printed ∙ sum_behind_none (tile_count kind are.tile));
        warnings = warned ∙ ap (λ (ls : List CoastLine). before.warnings + warnings_among ls) lines;
        errors = wrong ∙ ap (λ (ls : List CoastLine). before.errors + count_by is_error ls) lines;
      }

  pub counted_both : (a b : List Leaf) (x y z : Tally) → CountsLeaves kind a x y → CountsLeaves kind b y z → CountsLeaves kind (a ++ b) x z
  counted_both a b x y z first then =
      let lines = flat_map-append tile_lines first.tiles then.tiles in
      let l = flat_map tile_lines first.tiles in
      let m = flat_map tile_lines then.tiles in
      record {
        tiles = first.tiles ++ then.tiles;
        made = tiles_both a b first.tiles then.tiles first.made then.made;
        pieces = let p = first.pieces in let q = then.pieces in let n = sum_by-append (tile_count kind) first.tiles then.tiles in omega arith;
        warnings = add x.warnings (warnings_among l) (warnings_among m) y.warnings z.warnings _ first.warnings then.warnings (ap warnings_among lines ∙ count_by-append (λ line. not (is_error line)) l m);
        errors = add x.errors (count_by is_error l) (count_by is_error m) y.errors z.errors _ first.errors then.errors (ap (count_by is_error) lines ∙ count_by-append is_error l m);
      }
    where
      add : (x l m y z n : ℕ) → y ≡ x + l → z ≡ y + m → n ≡ l + m → z ≡ x + n
      add x l m y z n p q r = omega arith

  -- ---- leaves, of which some are counted

  module _ (m o : ℕ) (begun : List (List Edge)) (start : Tally) where
    pub record CountedFirst (waiting : List (List Edge)) (now : Tally) : Type 0 where
      pub done : List Leaf
      pub joins : (later : List Leaf) → AreLeft m o waiting later → AreLeft m o begun (done ++ later)
      pub counts : CountsLeaves kind done start now

    pub none_counted : CountedFirst begun start
    none_counted = record { done = []; joins = λ later are. are; counts = nothing_counted start }

    pub next_counted : (waiting : List (List Edge)) (now : Tally) → CountedFirst waiting now → (leaf : Leaf) (after : List (List Edge)) → IsNextLeaf m o waiting leaf after → (next : Tally) → CountsLeaves kind (leaf ∷ []) now next → CountedFirst after next
    next_counted waiting now so_far leaf after is next counts = record {
      done = so_far.done ++ leaf ∷ [];
      joins = λ later are. subst (λ (ls : List Leaf). AreLeft m o begun ls) (sym (append_assoc so_far.done (leaf ∷ []) later)) (so_far.joins (leaf ∷ later) (is.joins later are));
      counts = counted_both so_far.done (leaf ∷ []) start now next so_far.counts counts;
    }

    pub all_counted : (waiting : List (List Edge)) (now : Tally) → CountedFirst waiting now → waiting ≡ [] → (list : List Leaf) × AreLeft m o begun list × CountsLeaves kind list start now
    all_counted waiting now so_far none = (
      so_far.done,
      subst (λ (ls : List Leaf). AreLeft m o begun ls) (append-nil so_far.done) (so_far.joins [] (subst (λ (lists : List (List Edge)). AreLeft m o lists []) (sym none) refl)),
      so_far.counts,
    )

  -- ---- lists

  module _ (settings : CoastlineSettings) where
    pub no_lists : (tally : Tally) → CountsLists settings kind [] tally tally
    no_lists tally = record { leaves = []; are = refl; counts = nothing_counted tally }

    pub next_lists : (xs ys : List (List Edge)) (x y z : Tally) → CountsLists settings kind xs x y → CountsLists settings kind ys y z → CountsLists settings kind (xs ++ ys) x z
    next_lists xs ys x y z first then = record {
      leaves = first.leaves ++ then.leaves;
      are = left_both settings.max_points settings.bbox_overlap xs ys first.leaves then.leaves first.are then.are;
      counts = counted_both first.leaves then.leaves x y z first.counts then.counts;
    }

    pub lists_counted : (lists : List (List Edge)) (k : ℕ) (es : List Edge) → k < length lists → es ≡ get_or lists k es → (n : ℕ) → n ≡ k + 1 → (x y z : Tally) → CountsLists settings kind (take k lists) x y →
        CountsLists settings kind (es ∷ []) y z → CountsLists settings kind (take n lists) x z
    lists_counted lists k es lt is n is_n x y z first then =
        subst (λ (xs : List (List Edge)). CountsLists settings kind xs x z)
        (sym (ap (λ (i : ℕ). take i lists) is_n ∙ take_more lists k es lt ∙ ap (λ (e : List Edge). take k lists ++ e ∷ []) (sym is)))
        (next_lists (take k lists) (es ∷ []) x y z first then)

    pub all_lists_counted : (lists : List (List Edge)) (n : ℕ) → length lists ≤ n → (x y : Tally) → CountsLists settings kind (take n lists) x y → CountsLists settings kind lists x y
    all_lists_counted lists n all x y counts = subst (λ (xs : List (List Edge)). CountsLists settings kind xs x y) (take_all n lists all) counts

-- ---- land and water

sum_up : (p : CoastLine → Bool) (o l w : List CoastLine) (a b c d : ℕ) → a ≡ count_by p o → b ≡ a + count_by p l → c ≡ b → d ≡ c + count_by p w → d ≡ count_by p (o ++ (l ++ w))
sum_up p o l w a b c d e f g h = let n = count_by-append p o (l ++ w) in let m = count_by-append p l w in omega arith

module _ (settings : CoastlineSettings) (outlines : Outlines) (coast land none water : Tally) where
  pub outlines_counted : coast.pieces ≡ 0 → coast.warnings ≡ warnings_among outlines.lines.items → coast.errors ≡ count_by is_error outlines.lines.items →
      CountsLists settings kinds.Land outlines.land.items coast land → none.pieces ≡ 0 → none.warnings ≡ land.warnings → none.errors ≡ land.errors →
      CountsLists settings kinds.Water outlines.water.items none water →
      CountsOutlines settings outlines (record { land = land.pieces; water = water.pieces; warnings = water.warnings; errors = water.errors })
  outlines_counted no_pieces warned wrong first none_pieces same_warned same_wrong then = record {
    land_leaves = first.leaves;
    land_are = first.are;
    land = first.counts.tiles;
    land_made = first.counts.made;
    water_leaves = then.leaves;
    water_are = then.are;
    water = then.counts.tiles;
    water_made = then.counts.made;
    land_pieces = let p = first.counts.pieces in omega (arith, p, no_pieces);
    water_pieces = let p = then.counts.pieces in omega (arith, p, none_pieces);
    warnings = sum_up (λ line. not (is_error line)) outlines.lines.items (flat_map tile_lines first.counts.tiles) (flat_map tile_lines then.counts.tiles) coast.warnings land.warnings none.warnings water.warnings warned first.counts.warnings same_warned then.counts.warnings;
    errors = sum_up is_error outlines.lines.items (flat_map tile_lines first.counts.tiles) (flat_map tile_lines then.counts.tiles) coast.errors land.errors none.errors water.errors wrong first.counts.errors same_wrong then.counts.errors;
  }
