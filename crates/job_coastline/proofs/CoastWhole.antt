-- Land, water and the report together: what is written is right, and what isn't written is there all the same.
use Rattle.std.proofs.Common.{◌≡◌, ◌∙◌, refl, sym, ap, ap₂, subst, arith, Bool, true, false, if◌then◌else◌, ℕ, ◌≤◌, ◌+◌, ◌-◌, not, All, List, ◌++◌, length, ◌==◌, map, append_assoc, inl, inr, Result, Ok, Err}
use Rattle.std.specs.List.{count_by, flat_map, list_any}
use Rattle.std.proofs.lemmas.List.Elements.{All-append}
use Rattle.osm_elements.specs.declared.object.Object.{Object}
use Rattle.osm_geom.specs.declared.edge.Edge.{Edge}
use Rattle.osm_geom.specs.InPlane.Sided.{IsSided}
use Rattle.osm_host.specs.Laws.{StreamsAppend}
use Rattle.osm_host.specs.Outside.{Opened, Outside}
use Rattle.osm_job.proofs.InputThenOutput.{no_memory, too_many}
use Rattle.osm_job.specs.InputRead.{HasInput}
use Rattle.osm_job.specs.Cause.{Cause, by_itself, cause_of}
use Rattle.osm_job.specs.Faults.{writes_failed}
use Rattle.osm_job.specs.Sent.{Sent, to_output, to_report}
use Rattle.osm_job.specs.Whole.{Whole, silent}
use Rattle.osm_job.specs.Worked.{IsBegun, IsWrittenOver, ReadThenWrote, WroteOver}
use Rattle.osm_job.specs.declared.ended.Ended.{Ended}
use Rattle.osm_job.specs.declared.ended.Ended.TheVariants as ended
use Rattle.osm_text.specs.Coast.{HasItsKind, is_error}
use Rattle.osm_text.specs.declared.coast.CoastLine.{CoastLine}
use Rattle.osm_text.specs.declared.piece.PieceKind.{PieceKind}
use Rattle.osm_text.specs.declared.piece.PieceKind.TheVariants as kind
use Rattle.osm_words.specs.Job.{CoastlineSettings}
use Rattle.coast_join.specs.declared.input.CoastInput.{CoastInput}
use Rattle.coast_split.specs.LeavesLeft.{AreLeft}
use Rattle.coast_split.specs.declared.leaves.Leaf.{Leaf}
use Rattle.coast_split.specs.declared.leaves.SplitError.{SplitError}
use Rattle.coast_split.specs.declared.leaves.SplitError.TheVariants.{TooManyPieces, OutOfMemory}
use Rattle.coast_split.specs.TreeLaws.{SplitTreesExist}
use Rattle.job_coastline.specs.Coast.{IsCoast}
use Rattle.job_coastline.specs.CoastSteps.{IsInputOf}
use Rattle.job_coastline.specs.Coastline.{AreCoastAreas, AreWritten, Areas, IsCoastline, all_lines, most_leaves}
use Rattle.job_coastline.specs.Counts.{AreCoastCounts}
use Rattle.job_coastline.specs.CountSteps.{CountsOutlines}
use Rattle.job_coastline.specs.OutlineSteps.{AreOutlinesOf, HaveFewTogether, HaveLeaves, HaveMoreLeaves, HaveMoreTogether, whole_error}
use Rattle.job_coastline.specs.PieceLaws.{LeftAreSided, ReportExists, TilesExist}
use Rattle.job_coastline.specs.Pieces.{Tile, tile_lines}
use Rattle.job_coastline.specs.Report.{ArePrinted, ending_of}
use Rattle.job_coastline.specs.WriteSteps.{AreMade, BreaksBy, WroteLeaves, WroteOutlines, WroteReport, ended_after, ended_unsplit}
use Rattle.job_coastline.specs.declared.counts.CoastCounts.{CoastCounts}
use Rattle.job_coastline.specs.declared.outlines.Outlines.{Outlines}
use Rattle.job_coastline.specs.declared.writing.BrokenOff.{BrokenOff}
use Rattle.job_coastline.specs.declared.writing.BrokenOff.TheVariants as off
use Rattle.job_coastline.proofs.Left.{leaves_of_outlines, left_there}
use Rattle.job_coastline.proofs.LineKinds.{tiles_of_kind}
use Rattle.job_coastline.proofs.Made.{MakeSome, some_made, wrote_none_of}
use Rattle.job_coastline.proofs.Sending.{sends_both, sends_longer}

-- ---- too many leaves

most_told : SplitError → ℕ
most_told (TooManyPieces most) = most
most_told OutOfMemory = 0

-- the error of a part tells of too many pieces only where that part has more than it may
pub whole_many : (e : SplitError) (Part All : Type 0) → ((m : ℕ) → e ≡ TooManyPieces m → Part) → (Part → All) → (m : ℕ) → whole_error e ≡ TooManyPieces m → (m ≡ most_leaves) × All
unfolding most_told
whole_many (TooManyPieces k) Part All part all m is = (sym (ap most_told is), all (part k refl))
whole_many OutOfMemory Part All part all m is = absurd (cc)

module _ (settings : CoastlineSettings) (land water : List (List Edge)) where
  pub more_of_land : SplitTreesExist → HaveMoreLeaves settings most_leaves land → HaveMoreTogether settings land water
  more_of_land trees more =
      let rest = left_there settings.max_points settings.bbox_overlap trees water in
      record { land_leaves = more.leaves; land_are = more.are; water_leaves = rest.leaves; water_are = rest.are; more = let m = more.more in omega arith }

  pub more_of_water : (count : ℕ) → HaveLeaves settings most_leaves land count → HaveMoreLeaves settings (most_leaves - count) water → HaveMoreTogether settings land water
  more_of_water count have more =
      record { land_leaves = have.leaves; land_are = have.are; water_leaves = more.leaves; water_are = more.are; more = let m = more.more in let n = have.counted in omega arith }

  pub few_of_both : (count other : ℕ) → HaveLeaves settings most_leaves land count → HaveLeaves settings (most_leaves - count) water other → HaveFewTogether settings land water
  few_of_both count other have more =
      record { land_leaves = have.leaves; land_are = have.are; water_leaves = more.leaves; water_are = more.are; few = let a = have.counted in let b = more.counted in let f = have.few in let g = more.few in omega arith }

-- ---- how the run ends

by_cases : (errors none : Bool) → cause_of (if errors then ended.Errors else if none then ended.Done else ended.Warnings) ≡ by_itself
by_cases true none = refl
by_cases false true = refl
by_cases false false = refl

ends_by_itself : (lines : List CoastLine) → cause_of (ending_of lines) ≡ by_itself
ends_by_itself lines = by_cases (list_any is_error lines) (length lines == 0)

-- ---- one part behind the other

pub fewer_land : (land water : List Leaf) → length land + length water ≤ most_leaves → length land ≤ most_leaves
fewer_land land water few = omega (arith, few)

pub fewer_water : (land water : List Leaf) → length land + length water ≤ most_leaves → length water ≤ most_leaves
fewer_water land water few = omega (arith, few)

made_of_kind : (kind : PieceKind) (leaves : List Leaf) (text : List ℕ) (lines : List CoastLine) → AreMade kind leaves text lines → All HasItsKind lines
made_of_kind kind leaves text lines made = subst (λ (ls : List CoastLine). All HasItsKind ls) (sym made.told) (tiles_of_kind made.tiles)

module _ (tiles : TilesExist) (are_sided : LeftAreSided) (reports : ReportExists) (settings : CoastlineSettings) (outlines : Outlines) (leaves : HaveFewTogether settings outlines.land.items outlines.water.items)
    (water_sided : All IsSided outlines.water.items) (kinds : All HasItsKind outlines.lines.items) where
  abbrev start : List CoastLine
  start = outlines.lines.items

  some_water : MakeSome kind.Water leaves.water_leaves
  some_water = some_made kind.Water tiles leaves.water_leaves (are_sided settings.max_points settings.bbox_overlap outlines.water.items water_sided leaves.water_leaves leaves.water_are)

  all_kinds : (land_text water_text : List ℕ) (land_lines water_lines : List CoastLine) → AreMade kind.Land leaves.land_leaves land_text land_lines → AreMade kind.Water leaves.water_leaves water_text water_lines →
      All HasItsKind (start ++ (land_lines ++ water_lines))
  all_kinds land_text water_text land_lines water_lines land water =
      All-append HasItsKind start (land_lines ++ water_lines) kinds
      (All-append HasItsKind land_lines water_lines (made_of_kind kind.Land leaves.land_leaves land_text land_lines land) (made_of_kind kind.Water leaves.water_leaves water_text water_lines water))

  -- the run is broken off in land
  pub land_broken : (lines : List CoastLine) (before after : Outside) (broken : BrokenOff) → WroteLeaves {T = Unit {0}} kind.Land leaves.land_leaves start lines before after (Err broken) →
      WroteOutlines settings outlines before after (Err broken)
  land_broken lines before after broken land =
      let report = reports (start ++ (land.more ++ some_water.more)) (all_kinds land.text some_water.text land.more some_water.more land.made some_water.made) in
      record {
        leaves = leaves;
        land_text = land.text;
        land_lines = land.more;
        land_made = land.made;
        water_text = some_water.text;
        water_lines = some_water.more;
        water_made = some_water.made;
        report = report.0;
        printed = report.1;
        sends = sends_longer {T = Unit {0}} {T' = Ended} (map to_output land.text) (map to_output some_water.text ++ map to_report report.0) before after broken land.sends;
        ended = tt;
      }

  module _ (land_lines : List CoastLine) (before middle : Outside) (land : WroteLeaves {T = Unit {0}} kind.Land leaves.land_leaves start land_lines before middle (Ok tt)) where
    -- in water
    pub water_broken : (lines : List CoastLine) (after : Outside) (broken : BrokenOff) → WroteLeaves {T = Unit {0}} kind.Water leaves.water_leaves land_lines lines middle after (Err broken) →
        WroteOutlines settings outlines before after (Err broken)
    water_broken lines after broken water =
        let report = reports (start ++ (land.more ++ water.more)) (all_kinds land.text water.text land.more water.more land.made water.made) in
        record {
          leaves = leaves;
          land_text = land.text;
          land_lines = land.more;
          land_made = land.made;
          water_text = water.text;
          water_lines = water.more;
          water_made = water.made;
          report = report.0;
          printed = report.1;
          sends = sends_both {T = Ended} (map to_output land.text) (map to_output water.text ++ map to_report report.0) before middle after (Err broken) land.sends
              (sends_longer {T = Unit {0}} {T' = Ended} (map to_output water.text) (map to_report report.0) middle after broken water.sends);
          ended = tt;
        }

    module _ (lines : List CoastLine) (next : Outside) (water : WroteLeaves {T = Unit {0}} kind.Water leaves.water_leaves land_lines lines middle next (Ok tt)) where
      lines_are : lines ≡ start ++ (land.more ++ water.more)
      lines_are = water.told ∙ ap (λ (ls : List CoastLine). ls ++ water.more) land.told ∙ append_assoc start land.more water.more

      pub lines_of_both : All HasItsKind lines
      lines_of_both = subst (λ (ls : List CoastLine). All HasItsKind ls) (sym lines_are) (all_kinds land.text water.text land.more water.more land.made water.made)

      -- in the report
      pub report_broken : (after : Outside) (broken : BrokenOff) → WroteReport {T = Unit {0}} lines next after (Err broken) → WroteOutlines settings outlines before after (Err broken)
      report_broken after broken wrote = record {
        leaves = leaves;
        land_text = land.text;
        land_lines = land.more;
        land_made = land.made;
        water_text = water.text;
        water_lines = water.more;
        water_made = water.made;
        report = wrote.report;
        printed = subst (λ (ls : List CoastLine). ArePrinted ls wrote.report) lines_are wrote.printed;
        sends = sends_both {T = Ended} (map to_output land.text) (map to_output water.text ++ map to_report wrote.report) before middle after (Err broken) land.sends
            (sends_both {T = Ended} (map to_output water.text) (map to_report wrote.report) middle next after (Err broken) water.sends
            (record { written = wrote.sends.written; sent = wrote.sends.sent; added = wrote.sends.added; cause = same_cause broken wrote.sends.cause }));
        ended = tt;
      }
        where
          same_cause : (b : BrokenOff) → BreaksBy {T = Unit {0}} next after (Err b) → BreaksBy {T = Ended} next after (Err b)
          same_cause off.WriteFault cause = cause
          same_cause off.OutOfMemory cause = cause

      -- nowhere
      pub all_written : (after : Outside) (ended : Ended) → ended ≡ ending_of lines → WroteReport {T = Unit {0}} lines next after (Ok tt) → WroteOutlines settings outlines before after (Ok ended)
      all_written after ended is wrote = record {
        leaves = leaves;
        land_text = land.text;
        land_lines = land.more;
        land_made = land.made;
        water_text = water.text;
        water_lines = water.more;
        water_made = water.made;
        report = wrote.report;
        printed = subst (λ (ls : List CoastLine). ArePrinted ls wrote.report) lines_are wrote.printed;
        sends = sends_both {T = Ended} (map to_output land.text) (map to_output water.text ++ map to_report wrote.report) before middle after (Ok ended) land.sends
            (sends_both {T = Ended} (map to_output water.text) (map to_report wrote.report) middle next after (Ok ended) water.sends
            (record { written = wrote.sends.written; sent = wrote.sends.sent; added = wrote.sends.added; cause = wrote.sends.cause }));
        ended = is ∙ ap ending_of lines_are;
      }

-- ---- what is right

module _ (settings : CoastlineSettings) (objects : List Object) (input : CoastInput) (is_input : IsInputOf objects input) (outlines : Outlines) (are : AreOutlinesOf settings input outlines) where
  is_coast : IsCoast settings objects are.coast
  is_coast = record {
    ways = input.ways;
    taking_part = is_input.taking_part;
    asides = are.is_coast.asides ∙ is_input.asides;
    chains = are.is_coast.chains;
    closings = are.is_coast.closings;
    joined = are.is_coast.joined;
    sorted = are.is_coast.sorted;
    land = are.is_coast.land;
  }

  abbrev split_into : List Leaf → List Leaf → Areas
  split_into land water = record { coast = are.coast; land = are.land; land_leaves = land; water = are.water; water_leaves = water }

  split_right : (land water : List Leaf) → AreLeft settings.max_points settings.bbox_overlap outlines.land.items land → AreLeft settings.max_points settings.bbox_overlap outlines.water.items water →
      AreCoastAreas settings objects (split_into land water)
  split_right land water land_are water_are = record {
    coast = is_coast;
    land = are.land_right;
    land_leaves = leaves_of_outlines settings are.land outlines.land.items are.land_edges land land_are;
    water = are.water_right;
    water_leaves = leaves_of_outlines settings are.water outlines.water.items are.water_edges water water_are;
  }

  pub too_many_right : HaveMoreTogether settings outlines.land.items outlines.water.items → (m : ℕ) → m ≡ most_leaves → IsCoastline settings objects (silent (ended.TooManyPieces m))
  too_many_right more m same = record {
    areas = split_into more.land_leaves more.water_leaves;
    right = split_right more.land_leaves more.water_leaves more.land_are more.water_are;
    written = inr (more.more, ap (λ (n : ℕ). silent (ended.TooManyPieces n)) same);
  }

  told_lines : (land water : List Tile) (l w : List CoastLine) → l ≡ flat_map tile_lines land → w ≡ flat_map tile_lines water → outlines.lines.items ++ (l ++ w) ≡ all_lines are.coast land water
  told_lines land water l w a b = ap₂ (λ (xs ys : List CoastLine). xs ++ ys) are.told (ap₂ (λ (xs ys : List CoastLine). xs ++ ys) a b)

  module _ (before after : Outside) (result : Result Ended BrokenOff) (wrote : WroteOutlines settings outlines before after result) where
    abbrev the_lines : List CoastLine
    the_lines = outlines.lines.items ++ (wrote.land_lines ++ wrote.water_lines)

    abbrev the_sent : List Sent
    the_sent = map to_output wrote.land_text ++ (map to_output wrote.water_text ++ map to_report wrote.report)

    abbrev the_whole : Whole
    the_whole = record { written = the_sent; ended = ending_of the_lines }

    same_lines : the_lines ≡ all_lines are.coast wrote.land_made.tiles wrote.water_made.tiles
    same_lines = told_lines wrote.land_made.tiles wrote.water_made.tiles wrote.land_lines wrote.water_lines wrote.land_made.told wrote.water_made.told

    whole_written : AreWritten are.coast wrote.leaves.land_leaves wrote.leaves.water_leaves the_whole
    whole_written = record {
      land_tiles = wrote.land_made.tiles;
      land_made = wrote.land_made.made;
      water_tiles = wrote.water_made.tiles;
      water_made = wrote.water_made.made;
      report = wrote.report;
      printed = subst (λ (ls : List CoastLine). ArePrinted ls wrote.report) same_lines wrote.printed;
      written = ap₂ (λ (a b : List ℕ). map to_output a ++ (map to_output b ++ map to_report wrote.report)) wrote.land_made.written wrote.water_made.written;
      ended = ap ending_of same_lines;
    }

    pub whole_right : IsCoastline settings objects the_whole
    whole_right = record {
      areas = split_into wrote.leaves.land_leaves wrote.leaves.water_leaves;
      right = split_right wrote.leaves.land_leaves wrote.leaves.water_leaves wrote.leaves.land_are wrote.leaves.water_are;
      written = inl (wrote.leaves.few, whole_written);
    }

  begun : (before after : Outside) (broken : BrokenOff) (wrote : WroteOutlines settings outlines before after (Err broken)) → IsBegun (IsCoastline settings objects) wrote.sends.written
  begun before after broken wrote =
      (the_whole before after (Err broken) wrote, whole_right before after (Err broken) wrote, ends_by_itself (the_lines before after (Err broken) wrote), wrote.sends.sent)

  pub wrote_over : (before after : Outside) (result : Result Ended BrokenOff) → WroteOutlines settings outlines before after result → WroteOver (IsCoastline settings objects) (ended_after result) before after
  wrote_over before after (Ok ended) wrote =
      let lines = the_lines before after (Ok ended) wrote in
      let itself : cause_of ended ≡ by_itself = ap cause_of wrote.ended ∙ ends_by_itself lines in
      let right : IsCoastline settings objects (record { written = wrote.sends.written; ended = ended }) =
      subst (λ (e : Ended). IsCoastline settings objects (record { written = wrote.sends.written; ended = e })) (sym wrote.ended)
      (subst (λ (xs : List Sent). IsCoastline settings objects (record { written = xs; ended = ending_of lines })) (sym wrote.sends.sent) (whole_right before after (Ok ended) wrote)) in
      record {
        written = wrote.sends.written;
        right = subst (λ (c : Cause). IsWrittenOver (IsCoastline settings objects) c ended wrote.sends.written) (sym itself) right;
        added = wrote.sends.added;
        counts = subst (λ (c : Cause). after.write_faults ≡ writes_failed c before.write_faults) (sym itself) wrote.sends.cause;
      }
  wrote_over before after (Err off.WriteFault) wrote =
      record { written = wrote.sends.written; right = begun before after off.WriteFault wrote; added = wrote.sends.added; counts = wrote.sends.cause }
  wrote_over before after (Err off.OutOfMemory) wrote =
      record { written = wrote.sends.written; right = begun before after off.OutOfMemory wrote; added = wrote.sends.added; counts = wrote.sends.cause }

  -- there is something that goes out
  pub goes_out : TilesExist → LeftAreSided → ReportExists → HaveFewTogether settings outlines.land.items outlines.water.items → (o : Outside) →
      (whole : Whole) × IsCoastline settings objects whole × (cause_of whole.ended ≡ by_itself)
  goes_out tiles are_sided reports leaves o =
      let land = some_made kind.Land tiles leaves.land_leaves (are_sided settings.max_points settings.bbox_overlap outlines.land.items are.land_edges.sided leaves.land_leaves leaves.land_are) in
      let wrote = land_broken tiles are_sided reports settings outlines leaves are.water_edges.sided are.kinds outlines.lines.items o o off.OutOfMemory
      (wrote_none_of kind.Land {T = Unit {0}} leaves.land_leaves outlines.lines.items outlines.lines.items o land) in
      (the_whole o o (Err off.OutOfMemory) wrote, whole_right o o (Err off.OutOfMemory) wrote, ends_by_itself (the_lines o o (Err off.OutOfMemory) wrote))

  -- ---- counts

  pub counts_right : (counts : CoastCounts) → CountsOutlines settings outlines counts → AreCoastCounts settings objects counts
  counts_right counts are_counted = record {
    areas = split_into are_counted.land_leaves are_counted.water_leaves;
    right = split_right are_counted.land_leaves are_counted.water_leaves are_counted.land_are are_counted.water_are;
    land = are_counted.land;
    land_made = are_counted.land_made;
    water = are_counted.water;
    water_made = are_counted.water_made;
    counted =
        let lines = told_lines are_counted.land are_counted.water (flat_map tile_lines are_counted.land) (flat_map tile_lines are_counted.water) refl refl in
        λ i. record {
          land = are_counted.land_pieces i;
          water = are_counted.water_pieces i;
          warnings = (are_counted.warnings ∙ ap (λ (ls : List CoastLine). count_by (λ line. not (is_error line)) ls) lines) i;
          errors = (are_counted.errors ∙ ap (count_by is_error) lines) i;
        };
  }

-- ---- no output is opened

pub not_split : StreamsAppend → (settings : CoastlineSettings) (name : List ℕ) (opened : Opened) (before : Outside) (objects : List Object) (now : Outside) → HasInput name objects before now → (error : SplitError) →
    ((m : ℕ) → error ≡ TooManyPieces m → IsCoastline settings objects (silent (ended.TooManyPieces m))) → ReadThenWrote name opened (IsCoastline settings) (ended_unsplit error) before now
not_split law settings name opened before objects now has (TooManyPieces m) many = too_many law name opened (IsCoastline settings) before objects now has m (many m refl)
not_split law settings name opened before objects now has OutOfMemory many = no_memory law name opened (IsCoastline settings) before objects now has
