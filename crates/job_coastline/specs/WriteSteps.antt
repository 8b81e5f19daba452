-- Words of private clauses on what a coastline job writes, leaf by leaf. No public contract cites it.
use Rattle.std.specs.Prelude.{◌≡◌, ◌++◌, IfOk, ℕ, List, OnOk, Result, Ok, Err, map}
use Rattle.std.specs.List.{flat_map}
use Rattle.coast_split.specs.declared.leaves.Leaf.{Leaf}
use Rattle.coast_split.specs.declared.leaves.SplitError.{SplitError}
use Rattle.coast_split.specs.declared.leaves.SplitError.TheVariants as split
use Rattle.osm_host.specs.Outside.{Outside, risen}
use Rattle.osm_job.specs.declared.ended.Ended.{Ended}
use Rattle.osm_job.specs.declared.ended.Ended.TheVariants as ended
use Rattle.osm_job.specs.Sent.{Sent, to_output, to_report}
use Rattle.osm_job.specs.Writes.{Added, IsSent}
use Rattle.osm_text.specs.declared.coast.CoastLine.{CoastLine}
use Rattle.osm_text.specs.declared.piece.PieceKind.{PieceKind}
use Rattle.osm_text.specs.declared.piece.PieceKind.TheVariants as kind
use Rattle.osm_words.specs.Job.{CoastlineSettings}
use Rattle.job_coastline.specs.OutlineSteps.{HaveFewTogether}
use Rattle.job_coastline.specs.Pieces.{AreTiles, Tile, pieces_text, tile_lines}
use Rattle.job_coastline.specs.Report.{ArePrinted, ending_of}
use Rattle.job_coastline.specs.declared.outlines.Outlines.{Outlines}
use Rattle.job_coastline.specs.declared.writing.BrokenOff.{BrokenOff}
use Rattle.job_coastline.specs.declared.writing.BrokenOff.TheVariants.{WriteFault, OutOfMemory}

-- A write failed, one alone, where that is answered, and only there.
abbrev pub BreaksBy : {T : Type 0} → Outside → Outside → Result T BrokenOff → Type 0
BreaksBy before after (Ok done) = after.write_faults ≡ before.write_faults
BreaksBy before after (Err WriteFault) = after.write_faults ≡ risen before.write_faults
BreaksBy before after (Err OutOfMemory) = after.write_faults ≡ before.write_faults

-- All of this was written, or a prefix of it where the run is broken off.
pub record Sends {T : Type 0} (all : List Sent) (before after : Outside) (result : Result T BrokenOff) : Type 0 where
  pub written : List Sent
  pub sent : IsSent all written result
  pub added : Added written before after
  pub cause : BreaksBy before after result

-- These leaves are written as this text, and told as these report lines.
pub record AreMade (kind : PieceKind) (leaves : List Leaf) (text : List ℕ) (lines : List CoastLine) : Type 0 where
  pub tiles : List Tile
  pub made : AreTiles leaves tiles
  pub written : text ≡ pieces_text kind tiles
  pub told : lines ≡ flat_map tile_lines tiles

-- What these leaves make was written, and their report lines come after earlier ones.
-- Or what was written is a prefix of what they make, if the run stopped early.
pub record WroteLeaves {T : Type 0} (kind : PieceKind) (leaves : List Leaf) (before_lines lines : List CoastLine) (before after : Outside)
    (result : Result T BrokenOff) : Type 0 where
  pub text : List ℕ
  pub more : List CoastLine
  pub made : AreMade kind leaves text more
  pub sends : Sends (map to_output text) before after result
  pub told : OnOk result (lines ≡ before_lines ++ more)

-- The report of these lines was written, or a prefix of it.
pub record WroteReport {T : Type 0} (lines : List CoastLine) (before after : Outside) (result : Result T BrokenOff) : Type 0 where
  pub report : List ℕ
  pub printed : ArePrinted lines report
  pub sends : Sends (map to_report report) before after result

-- What leaves of the outlines make was written, of land and then of water, followed by the report; or a prefix of that.
-- The report begins with the lines of the coast, and determines how the run ends.
pub record WroteOutlines (settings : CoastlineSettings) (outlines : Outlines) (before after : Outside) (result : Result Ended BrokenOff) : Type 0 where
  pub leaves : HaveFewTogether settings outlines.land.items outlines.water.items
  pub land_text : List ℕ
  pub land_lines : List CoastLine
  pub land_made : AreMade kind.Land leaves.land_leaves land_text land_lines
  pub water_text : List ℕ
  pub water_lines : List CoastLine
  pub water_made : AreMade kind.Water leaves.water_leaves water_text water_lines
  pub report : List ℕ
  pub printed : ArePrinted (outlines.lines.items ++ (land_lines ++ water_lines)) report
  pub sends : Sends (map to_output land_text ++ (map to_output water_text ++ map to_report report)) before after result
  pub ended : IfOk result (λ ended. ended ≡ ending_of (outlines.lines.items ++ (land_lines ++ water_lines)))

-- how a run ends whose polygons aren't split
abbrev pub ended_unsplit : SplitError → Ended
ended_unsplit (split.TooManyPieces most) = ended.TooManyPieces most
ended_unsplit split.OutOfMemory = ended.OutOfMemory

-- how a run ends whose output was opened
abbrev pub ended_after : Result Ended BrokenOff → Ended
ended_after (Ok ended) = ended
ended_after (Err WriteFault) = ended.WriteFault
ended_after (Err OutOfMemory) = ended.OutOfMemory
