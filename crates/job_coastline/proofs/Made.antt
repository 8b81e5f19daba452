-- What leaves make, written one behind the other, until a run is broken off.
use Rattle.std.proofs.Common.{◌≡◌, ◌∙◌, refl, sym, ap, ap₂, subst, arith, ℕ, ◌+◌, ◌<◌, ◌≤◌, List, [], ◌∷◌, ◌++◌, All, append-nil, append_assoc, length, drop, get_or, map, take, OnOk, Result, Ok, Err}
use Rattle.std.specs.List.{flat_map}
use Rattle.std.proofs.lemmas.List.{length-append, map-append, take_all, take-append-drop, take_more}
use Rattle.std.proofs.lemmas.List.Elements.{All-cons, All-drop, All-nil, All-tail}
use Rattle.std.proofs.lemmas.Grind.{flat_map-append}
use Rattle.coast_split.specs.LeavesLeft.{AreLeft, IsNextLeaf}
use Rattle.coast_split.specs.ToCut.{ToCut}
use Rattle.coast_split.specs.declared.leaves.Leaf.{Leaf}
use Rattle.osm_geom.specs.declared.edge.Edge.{Edge}
use Rattle.osm_geom.specs.InPlane.Sided.{IsSided}
use Rattle.osm_host.specs.Outside.{Outside}
use Rattle.osm_host.specs.declared.host.Failed.{Failed}
use Rattle.osm_job.specs.Sent.{Sent, lines_text, to_output, to_report}
use Rattle.osm_job.specs.Writes.{Wrote}
use Rattle.osm_text.specs.Coast.{HasItsKind, IsCoastLine}
use Rattle.osm_text.specs.declared.coast.CoastLine.{CoastLine}
use Rattle.osm_text.specs.declared.piece.PieceKind.{PieceKind}
use Rattle.job_coastline.specs.Coastline.{most_leaves}
use Rattle.job_coastline.specs.PieceLaws.{HaveSidedEdges, LeftAreSided, ReportExists, TilesExist}
use Rattle.job_coastline.specs.PieceSteps.{ArePiecesOf}
use Rattle.job_coastline.specs.Pieces.{pieces_text, tile_lines, tile_text}
use Rattle.job_coastline.specs.Report.{ArePrinted}
use Rattle.job_coastline.specs.WriteSteps.{AreMade, Sends, WroteLeaves, WroteReport}
use Rattle.job_coastline.specs.declared.pieces.Pieces.{Pieces}
use Rattle.job_coastline.specs.declared.writing.BrokenOff.{BrokenOff}
use Rattle.job_coastline.specs.declared.writing.BrokenOff.TheVariants.{WriteFault, OutOfMemory}
use Rattle.job_coastline.proofs.Left.{left_parted}
use Rattle.job_coastline.proofs.Sending.{sends_answered, sends_both, sends_failed, sends_longer, sends_none_of, sends_nothing, sends_then_none}
use Rattle.job_coastline.proofs.Tiles.{no_tiles, one_tile, tiles_both}

module _ (kind : PieceKind) where
  nothing_made : AreMade kind [] [] []
  nothing_made = record { tiles = []; made = no_tiles; written = refl; told = refl }

  made_both : (a b : List Leaf) (t u : List ℕ) (k l : List CoastLine) → AreMade kind a t k → AreMade kind b u l → AreMade kind (a ++ b) (t ++ u) (k ++ l)
  made_both a b t u k l first then = record {
    tiles = first.tiles ++ then.tiles;
    made = tiles_both a b first.tiles then.tiles first.made then.made;
    written = ap₂ (λ (xs ys : List ℕ). xs ++ ys) first.written then.written ∙ sym (flat_map-append (tile_text kind) first.tiles then.tiles);
    told = ap₂ (λ (xs ys : List CoastLine). xs ++ ys) first.told then.told ∙ sym (flat_map-append tile_lines first.tiles then.tiles);
  }

  -- sided leaves make something
  pub record MakeSome (leaves : List Leaf) : Type 0 where
    pub text : List ℕ
    pub more : List CoastLine
    pub made : AreMade kind leaves text more

  pub some_made : TilesExist → (leaves : List Leaf) → HaveSidedEdges leaves → MakeSome leaves
  some_made exist leaves sided =
      let tiles = exist leaves sided in
      record { text = pieces_text kind tiles.0; more = flat_map tile_lines tiles.0; made = record { tiles = tiles.0; made = tiles.1; written = refl; told = refl } }

  -- ---- one behind the other

  pub wrote_no_leaves : (lines : List CoastLine) (o : Outside) → WroteLeaves {T = Unit {0}} kind [] lines lines o o (Ok tt)
  wrote_no_leaves lines o = record { text = []; more = []; made = nothing_made; sends = sends_nothing o; told = sym (append-nil lines) }

  told_both : {T : Type 0} (r : Result T BrokenOff) (k l before middle after : List CoastLine) → middle ≡ before ++ k → OnOk r (after ≡ middle ++ l) → OnOk r (after ≡ before ++ (k ++ l))
  told_both (Ok done) k l before middle after first then = then ∙ ap (λ (ls : List CoastLine). ls ++ l) first ∙ append_assoc before k l
  told_both (Err broken) k l before middle after first then = tt

  pub wrote_both : {T : Type 0} (a b : List Leaf) (before_lines middle_lines lines : List CoastLine) (before middle after : Outside) (r : Result T BrokenOff) →
      WroteLeaves {T = Unit {0}} kind a before_lines middle_lines before middle (Ok tt) → WroteLeaves kind b middle_lines lines middle after r →
      WroteLeaves kind (a ++ b) before_lines lines before after r
  wrote_both {T} a b before_lines middle_lines lines before middle after r first then = record {
    text = first.text ++ then.text;
    more = first.more ++ then.more;
    made = made_both a b first.text then.text first.more then.more first.made then.made;
    sends = subst (λ (all : List Sent). Sends all before after r) (sym (map-append to_output first.text then.text))
        (sends_both (map to_output first.text) (map to_output then.text) before middle after r first.sends then.sends);
    told = told_both r first.more then.more before_lines middle_lines lines first.told then.told;
  }

  -- a run that is broken off has a prefix of what more leaves make, too
  pub wrote_longer : {T T' : Type 0} (a b : List Leaf) (before_lines lines : List CoastLine) (before after : Outside) (broken : BrokenOff) → MakeSome b →
      WroteLeaves {T = T} kind a before_lines lines before after (Err broken) → WroteLeaves {T = T'} kind (a ++ b) before_lines lines before after (Err broken)
  wrote_longer {T} {T'} a b before_lines lines before after broken rest wrote = record {
    text = wrote.text ++ rest.text;
    more = wrote.more ++ rest.more;
    made = made_both a b wrote.text rest.text wrote.more rest.more wrote.made rest.made;
    sends = subst (λ (all : List Sent). Sends {T = T'} all before after (Err broken)) (sym (map-append to_output wrote.text rest.text))
        (sends_longer {T = T} {T' = T'} (map to_output wrote.text) (map to_output rest.text) before after broken wrote.sends);
    told = tt;
  }

  -- memory ran out before any of it
  pub wrote_none_of : {T : Type 0} (a : List Leaf) (before_lines lines : List CoastLine) (o : Outside) → MakeSome a → WroteLeaves {T = T} kind a before_lines lines o o (Err OutOfMemory)
  wrote_none_of {T} a before_lines lines o some =
      record { text = some.text; more = some.more; made = some.made; sends = sends_none_of {T = T} (map to_output some.text) o; told = tt }

  -- ---- a leaf

  module _ (leaf : Leaf) (pieces : Pieces) (are : ArePiecesOf kind leaf pieces) (before after : Outside) where
    leaf_made : AreMade kind (leaf ∷ []) (lines_text pieces.texts.items) pieces.lines.items
    leaf_made = record {
      tiles = are.tile ∷ [];
      made = one_tile leaf are.tile are.of_leaf are.made;
      written = are.written ∙ sym (append-nil (tile_text kind are.tile));
      told = are.told ∙ sym (append-nil (tile_lines are.tile));
    }

    pub leaf_failed : (lines now : List CoastLine) (failed : Failed) → Wrote {T = Unit {0}} {E = Failed} (map to_output (lines_text pieces.texts.items)) before after (Err failed) →
        WroteLeaves {T = Unit {0}} kind (leaf ∷ []) lines now before after (Err WriteFault)
    leaf_failed lines now failed wrote = record {
      text = lines_text pieces.texts.items;
      more = pieces.lines.items;
      made = leaf_made;
      sends = sends_failed (map to_output (lines_text pieces.texts.items)) before after failed wrote;
      told = tt;
    }

    pub leaf_written : (lines now : List CoastLine) → Wrote {T = Unit {0}} {E = Failed} (map to_output (lines_text pieces.texts.items)) before after (Ok tt) → now ≡ lines ++ pieces.lines.items →
        WroteLeaves {T = Unit {0}} kind (leaf ∷ []) lines now before after (Ok tt)
    leaf_written lines now wrote told = record {
      text = lines_text pieces.texts.items;
      more = pieces.lines.items;
      made = leaf_made;
      sends = sends_answered (map to_output (lines_text pieces.texts.items)) before after wrote;
      told = told;
    }

    pub leaf_not_told : (lines now : List CoastLine) → Wrote {T = Unit {0}} {E = Failed} (map to_output (lines_text pieces.texts.items)) before after (Ok tt) →
        WroteLeaves {T = Unit {0}} kind (leaf ∷ []) lines now before after (Err OutOfMemory)
    leaf_not_told lines now wrote = record {
      text = lines_text pieces.texts.items;
      more = pieces.lines.items;
      made = leaf_made;
      sends = sends_then_none {T = Unit {0}} (map to_output (lines_text pieces.texts.items)) before after (sends_answered (map to_output (lines_text pieces.texts.items)) before after wrote);
      told = tt;
    }

  pub no_pieces : TilesExist → (leaf : Leaf) → IsSided leaf.edges → (lines now : List CoastLine) (o : Outside) → WroteLeaves {T = Unit {0}} kind (leaf ∷ []) lines now o o (Err OutOfMemory)
  no_pieces exist leaf sided lines now o =
      wrote_none_of {T = Unit {0}} (leaf ∷ []) lines now o (some_made exist (leaf ∷ []) (All-cons (λ (l : Leaf). IsSided l.edges) leaf [] sided (All-nil (λ (l : Leaf). IsSided l.edges))))

  sided_behind : (first rest all : List Leaf) → all ≡ first ++ rest → HaveSidedEdges all → HaveSidedEdges rest
  sided_behind first rest all whole sided = All-of-append first rest (subst HaveSidedEdges whole sided)
    where
      All-of-append : (xs ys : List Leaf) → HaveSidedEdges (xs ++ ys) → HaveSidedEdges ys
      All-of-append [] ys h = h
      All-of-append (x ∷ xs) ys h = All-of-append xs ys (All-tail (λ (l : Leaf). IsSided l.edges) x (xs ++ ys) h)

  -- ---- leaves, of which some are written

  module _ (m o : ℕ) (begun : List (List Edge)) (first_lines : List CoastLine) (first : Outside) where
    -- of the leaves of begun, so many were written, and those of waiting are left
    pub record WroteFirst (all : List Leaf) (count : ℕ) (waiting : List (List Edge)) (lines : List CoastLine) (now : Outside) : Type 0 where
      pub done : List Leaf
      pub later : List Leaf
      pub are_left : AreLeft m o waiting later
      pub parts : all ≡ done ++ later
      pub counted : length done ≡ count
      pub wrote : WroteLeaves {T = Unit {0}} kind done first_lines lines first now (Ok tt)

    pub none_first : (all : List Leaf) → AreLeft m o begun all → WroteFirst all 0 begun first_lines first
    none_first all are = record { done = []; later = all; are_left = are; parts = refl; counted = refl; wrote = wrote_no_leaves first_lines first }

    module _ (all : List Leaf) (count : ℕ) (waiting : List (List Edge)) (lines : List CoastLine) (now : Outside) (so_far : WroteFirst all count waiting lines now) where
      -- memory ran out before the next leaf
      pub next_not_cut : TilesExist → HaveSidedEdges all → WroteLeaves {T = Unit {0}} kind all first_lines lines first now (Err OutOfMemory)
      next_not_cut exist sided =
          subst (λ (ls : List Leaf). WroteLeaves {T = Unit {0}} kind ls first_lines lines first now (Err OutOfMemory)) (sym so_far.parts)
          (wrote_both {T = Unit {0}} so_far.done so_far.later first_lines lines lines first now now (Err OutOfMemory) so_far.wrote
          (wrote_none_of {T = Unit {0}} so_far.later lines lines now (some_made exist so_far.later (sided_behind so_far.done so_far.later all so_far.parts sided))))

      -- none is left
      pub all_first : so_far.later ≡ [] → WroteLeaves {T = Unit {0}} kind all first_lines lines first now (Ok tt)
      all_first none =
          subst (λ (ls : List Leaf). WroteLeaves {T = Unit {0}} kind ls first_lines lines first now (Ok tt))
          (sym (so_far.parts ∙ ap (λ (ls : List Leaf). so_far.done ++ ls) none ∙ append-nil so_far.done)) so_far.wrote

      pub none_waits : waiting ≡ [] → WroteLeaves {T = Unit {0}} kind all first_lines lines first now (Ok tt)
      none_waits none = all_first (subst (λ (lists : List (List Edge)). AreLeft m o lists so_far.later) none so_far.are_left)

      pub none_more : length all ≤ most_leaves → count ≡ most_leaves → WroteLeaves {T = Unit {0}} kind all first_lines lines first now (Ok tt)
      none_more few many = all_first (empty so_far.later (short (length all) (length so_far.done) (length so_far.later) (ap length so_far.parts ∙ length-append so_far.done so_far.later) (so_far.counted ∙ many) few))
        where
          short : (n d l : ℕ) → n ≡ d + l → d ≡ most_leaves → n ≤ most_leaves → l ≡ 0
          short n d l a b c = omega arith

          empty : (ls : List Leaf) → length ls ≡ 0 → ls ≡ []
          empty [] is = refl
          empty (x ∷ ls) is = absurd (omega (arith, is))

      module _ (leaf : Leaf) (after : List (List Edge)) (next : IsNextLeaf m o waiting leaf after) (more_lines : List CoastLine) (last : Outside) where
        abbrev rest : List Leaf
        rest = (next.parts so_far.later so_far.are_left).0

        rest_left : AreLeft m o after rest
        rest_left = (next.parts so_far.later so_far.are_left).1

        whole : all ≡ (so_far.done ++ leaf ∷ []) ++ rest
        whole = so_far.parts ∙ ap (λ (ls : List Leaf). so_far.done ++ ls) (next.parts so_far.later so_far.are_left).2 ∙ sym (append_assoc so_far.done (leaf ∷ []) rest)

        -- one leaf more is written
        pub next_first : WroteLeaves {T = Unit {0}} kind (leaf ∷ []) lines more_lines now last (Ok tt) → WroteFirst all (count + 1) after more_lines last
        next_first wrote = record {
          done = so_far.done ++ leaf ∷ [];
          later = rest;
          are_left = rest_left;
          parts = whole;
          counted = let n = length-append so_far.done (leaf ∷ []) in let k = so_far.counted in omega arith;
          wrote = wrote_both {T = Unit {0}} so_far.done (leaf ∷ []) first_lines lines more_lines first now last (Ok tt) so_far.wrote wrote;
        }

        -- the run is broken off there
        pub next_broken : TilesExist → HaveSidedEdges all → (broken : BrokenOff) → WroteLeaves {T = Unit {0}} kind (leaf ∷ []) lines more_lines now last (Err broken) →
            WroteLeaves {T = Unit {0}} kind all first_lines more_lines first last (Err broken)
        next_broken exist sided broken wrote =
            subst (λ (ls : List Leaf). WroteLeaves {T = Unit {0}} kind ls first_lines more_lines first last (Err broken)) (sym whole)
            (wrote_longer {T = Unit {0}} {T' = Unit {0}} (so_far.done ++ leaf ∷ []) rest first_lines more_lines first last broken (some_made exist rest (sided_behind (so_far.done ++ leaf ∷ []) rest all whole sided))
            (wrote_both {T = Unit {0}} so_far.done (leaf ∷ []) first_lines lines more_lines first now last (Err broken) so_far.wrote wrote))

  -- ---- lists

  module _ (m o : ℕ) (xs ys : List (List Edge)) (es : List Edge) (before_lines lines more_lines : List CoastLine) (before now last : Outside) where
    abbrev WroteList : {T : Type 0} → List (List Edge) → List CoastLine → List CoastLine → Outside → Outside → Result T BrokenOff → Type 0
    WroteList lists from to start end r = (list : List Leaf) → AreLeft m o lists list → length list ≤ most_leaves → WroteLeaves kind list from to start end r

    fewer : (a b all : List Leaf) → all ≡ a ++ b → length all ≤ most_leaves → (length a ≤ most_leaves) × (length b ≤ most_leaves)
    fewer a b all whole few = let n : length all ≡ length a + length b = ap length whole ∙ length-append a b in (omega arith, omega arith)

    -- one list more is written
    pub next_list : WroteList {T = Unit {0}} xs before_lines lines before now (Ok tt) → WroteList {T = Unit {0}} (es ∷ []) lines more_lines now last (Ok tt) →
        WroteList {T = Unit {0}} (xs ++ es ∷ []) before_lines more_lines before last (Ok tt)
    next_list first then list are few =
        let parts = left_parted m o xs (es ∷ []) list are in
        let both = fewer parts.first parts.rest list parts.whole few in
        subst (λ (ls : List Leaf). WroteLeaves {T = Unit {0}} kind ls before_lines more_lines before last (Ok tt)) (sym parts.whole)
        (wrote_both {T = Unit {0}} parts.first parts.rest before_lines lines more_lines before now last (Ok tt) (first parts.first parts.first_are both.0) (then parts.rest parts.rest_are both.1))

    -- the run is broken off in it
    pub list_broken : TilesExist → LeftAreSided → All IsSided ys → (broken : BrokenOff) → WroteList {T = Unit {0}} xs before_lines lines before now (Ok tt) →
        WroteList {T = Unit {0}} (es ∷ []) lines more_lines now last (Err broken) → WroteList {T = Unit {0}} (xs ++ es ∷ ys) before_lines more_lines before last (Err broken)
    list_broken exist are_sided sided broken first then list are few =
        let parts = left_parted m o xs (es ∷ ys) list are in
        let both = fewer parts.first parts.rest list parts.whole few in
        let more = left_parted m o (es ∷ []) ys parts.rest parts.rest_are in
        let two = fewer more.first more.rest parts.rest more.whole both.1 in
        subst (λ (ls : List Leaf). WroteLeaves {T = Unit {0}} kind ls before_lines more_lines before last (Err broken)) (sym (parts.whole ∙ ap (λ (ls : List Leaf). parts.first ++ ls) more.whole))
        (wrote_both {T = Unit {0}} parts.first (more.first ++ more.rest) before_lines lines more_lines before now last (Err broken) (first parts.first parts.first_are both.0)
        (wrote_longer {T = Unit {0}} {T' = Unit {0}} more.first more.rest lines more_lines now last broken (some_made exist more.rest (are_sided m o ys sided more.rest more.rest_are))
        (then more.first more.first_are two.0)))

  pub no_lists_written : (m o : ℕ) (lists : List (List Edge)) (lines : List CoastLine) (here : Outside) (list : List Leaf) → AreLeft m o (take 0 lists) list → length list ≤ most_leaves →
      WroteLeaves {T = Unit {0}} kind list lines lines here here (Ok tt)
  no_lists_written m o lists lines here list none few =
      subst (λ (ls : List Leaf). WroteLeaves {T = Unit {0}} kind ls lines lines here here (Ok tt)) (sym none) (wrote_no_leaves lines here)

  pub lists_written : (m o : ℕ) (lists : List (List Edge)) (n : ℕ) → n ≡ length lists → (from to : List CoastLine) (start end : Outside) →
      ((list : List Leaf) → AreLeft m o (take n lists) list → length list ≤ most_leaves → WroteLeaves {T = Unit {0}} kind list from to start end (Ok tt)) →
      (list : List Leaf) → AreLeft m o lists list → length list ≤ most_leaves → WroteLeaves {T = Unit {0}} kind list from to start end (Ok tt)
  lists_written m o lists n is from to start end wrote list are few =
      wrote list (subst (λ (xs : List (List Edge)). AreLeft m o xs list) (sym (take_all n lists (omega (arith, is)))) are) few

  -- a list of lists, of which the first k are written
  module _ (m o : ℕ) (lists : List (List Edge)) (k : ℕ) (es : List Edge) (lt : k < length lists) (is : es ≡ get_or lists k es) (before_lines lines more_lines : List CoastLine) (before now last : Outside) where
    abbrev Writes : {T : Type 0} → List (List Edge) → List CoastLine → List CoastLine → Outside → Outside → Result T BrokenOff → Type 0
    Writes some from to start end r = (list : List Leaf) → AreLeft m o some list → length list ≤ most_leaves → WroteLeaves kind list from to start end r

    one_more : take (k + 1) lists ≡ take k lists ++ es ∷ []
    one_more = take_more lists k es lt ∙ ap (λ (x : List Edge). take k lists ++ x ∷ []) (sym is)

    all_lists : lists ≡ take k lists ++ es ∷ drop (k + 1) lists
    all_lists = sym (take-append-drop (k + 1) lists) ∙ ap (λ (xs : List (List Edge)). xs ++ drop (k + 1) lists) one_more ∙ append_assoc (take k lists) (es ∷ []) (drop (k + 1) lists)

    pub lists_next : (n : ℕ) → n ≡ k + 1 → Writes {T = Unit {0}} (take k lists) before_lines lines before now (Ok tt) → Writes {T = Unit {0}} (es ∷ []) lines more_lines now last (Ok tt) →
        Writes {T = Unit {0}} (take n lists) before_lines more_lines before last (Ok tt)
    lists_next n is_n first then =
        subst (λ (xs : List (List Edge)). Writes {T = Unit {0}} xs before_lines more_lines before last (Ok tt)) (sym (ap (λ (i : ℕ). take i lists) is_n ∙ one_more))
        (next_list m o (take k lists) [] es before_lines lines more_lines before now last first then)

    pub lists_broken : TilesExist → LeftAreSided → All IsSided lists → (broken : BrokenOff) → Writes {T = Unit {0}} (take k lists) before_lines lines before now (Ok tt) →
        Writes {T = Unit {0}} (es ∷ []) lines more_lines now last (Err broken) → Writes {T = Unit {0}} lists before_lines more_lines before last (Err broken)
    lists_broken exist are_sided sided broken first then =
        subst (λ (xs : List (List Edge)). Writes {T = Unit {0}} xs before_lines more_lines before last (Err broken)) (sym all_lists)
        (list_broken m o (take k lists) (drop (k + 1) lists) es before_lines lines more_lines before now last exist are_sided (All-drop IsSided (k + 1) lists sided) broken first then)

-- what is left of a list, as it is handed out
pub left_by : {m o : ℕ} {lists : List (List Edge)} {leaves : ToCut} → leaves ≡ record { most_points = m; overlap = o; waiting = lists } → (list : List Leaf) → AreLeft m o lists list →
    AreLeft leaves.most_points leaves.overlap leaves.waiting list
left_by is list are = subst (λ (l : ToCut). AreLeft l.most_points l.overlap l.waiting list) (sym is) are

-- ---- the report

pub no_report : (o : Outside) → WroteReport {T = Unit {0}} [] o o (Ok tt)
no_report o = record { report = []; printed = refl; sends = sends_nothing o }

printed_both : (k l : List CoastLine) (t u : List ℕ) → ArePrinted k t → ArePrinted l u → ArePrinted (k ++ l) (t ++ u)
printed_both [] l t u none more = subst (λ (text : List ℕ). ArePrinted l text) (ap (λ (xs : List ℕ). xs ++ u) (sym none)) more
printed_both (line ∷ k) l t u first more =
    (first.0, first.1 ++ u, first.2, printed_both k l first.1 u first.3 more, ap (λ (xs : List ℕ). xs ++ u) first.4 ∙ append_assoc first.0 first.1 u)

pub report_both : {T : Type 0} (k l : List CoastLine) (before middle after : Outside) (r : Result T BrokenOff) → WroteReport {T = Unit {0}} k before middle (Ok tt) → WroteReport l middle after r → WroteReport (k ++ l) before after r
report_both k l before middle after r first then = record {
  report = first.report ++ then.report;
  printed = printed_both k l first.report then.report first.printed then.printed;
  sends = subst (λ (all : List Sent). Sends all before after r) (sym (map-append to_report first.report then.report))
      (sends_both (map to_report first.report) (map to_report then.report) before middle after r first.sends then.sends);
}

pub report_longer : {T T' : Type 0} (k l : List CoastLine) (before after : Outside) (broken : BrokenOff) → ReportExists → All HasItsKind l → WroteReport {T = T} k before after (Err broken) → WroteReport {T = T'} (k ++ l) before after (Err broken)
report_longer {T} {T'} k l before after broken exist kinds wrote =
    let rest = exist l kinds in
    record {
      report = wrote.report ++ rest.0;
      printed = printed_both k l wrote.report rest.0 wrote.printed rest.1;
      sends = subst (λ (all : List Sent). Sends {T = T'} all before after (Err broken)) (sym (map-append to_report wrote.report rest.0))
          (sends_longer {T = T} {T' = T'} (map to_report wrote.report) (map to_report rest.0) before after broken wrote.sends);
    }

-- one line

one_printed : (line : CoastLine) (text : List ℕ) → IsCoastLine line text → ArePrinted (line ∷ []) text
one_printed line text is = (text, [], is, refl, sym (append-nil text))

pub line_written : (line : CoastLine) (text : List ℕ) (before after : Outside) → IsCoastLine line text → Wrote {T = Unit {0}} {E = Failed} (map to_report text) before after (Ok tt) → WroteReport {T = Unit {0}} (line ∷ []) before after (Ok tt)
line_written line text before after is wrote = record { report = text; printed = one_printed line text is; sends = sends_answered (map to_report text) before after wrote }

pub line_failed : (line : CoastLine) (text : List ℕ) (before after : Outside) (failed : Failed) → IsCoastLine line text → Wrote {T = Unit {0}} {E = Failed} (map to_report text) before after (Err failed) → WroteReport {T = Unit {0}} (line ∷ []) before after (Err WriteFault)
line_failed line text before after failed is wrote = record { report = text; printed = one_printed line text is; sends = sends_failed (map to_report text) before after failed wrote }

pub line_not_printed : {T : Type 0} (lines : List CoastLine) (o : Outside) → ReportExists → All HasItsKind lines → WroteReport {T = T} lines o o (Err OutOfMemory)
line_not_printed {T} lines o exist kinds = let text = exist lines kinds in record { report = text.0; printed = text.1; sends = sends_none_of {T = T} (map to_report text.0) o }

module _ (lines : List CoastLine) (k : ℕ) (line : CoastLine) (lt : k < length lines) (is : line ≡ get_or lines k line) (before now last : Outside) where
  one_line_more : take (k + 1) lines ≡ take k lines ++ line ∷ []
  one_line_more = take_more lines k line lt ∙ ap (λ (l : CoastLine). take k lines ++ l ∷ []) (sym is)

  pub next_line : WroteReport {T = Unit {0}} (take k lines) before now (Ok tt) → WroteReport {T = Unit {0}} (line ∷ []) now last (Ok tt) → WroteReport {T = Unit {0}} (take (k + 1) lines) before last (Ok tt)
  next_line first then =
      subst (λ (ls : List CoastLine). WroteReport {T = Unit {0}} ls before last (Ok tt)) (sym one_line_more) (report_both {T = Unit {0}} (take k lines) (line ∷ []) before now last (Ok tt) first then)

  pub next_line_broken : ReportExists → All HasItsKind lines → (broken : BrokenOff) → WroteReport {T = Unit {0}} (take k lines) before now (Ok tt) → WroteReport {T = Unit {0}} (line ∷ []) now last (Err broken) →
      WroteReport {T = Unit {0}} lines before last (Err broken)
  next_line_broken exist kinds broken first then =
      subst (λ (ls : List CoastLine). WroteReport {T = Unit {0}} ls before last (Err broken))
      (ap (λ (ls : List CoastLine). ls ++ drop (k + 1) lines) (sym one_line_more) ∙ take-append-drop (k + 1) lines)
      (report_longer {T = Unit {0}} {T' = Unit {0}} (take k lines ++ line ∷ []) (drop (k + 1) lines) before last broken exist (All-drop HasItsKind (k + 1) lines kinds)
      (report_both {T = Unit {0}} (take k lines) (line ∷ []) before now last (Err broken) first then))
