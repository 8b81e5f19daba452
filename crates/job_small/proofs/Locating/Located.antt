-- A locate job whose inputs are read, by how it ends.
use Rattle.std.proofs.Common.{◌≡◌, refl, ap, subst, ℕ, List, [], ◌∷◌}
use Rattle.osm_elements.specs.declared.object.Object.{Object}
use Rattle.osm_lattice.specs.declared.loc.Loc.{Loc}
use Rattle.osm_host.specs.Laws.{StreamsAppend}
use Rattle.osm_host.specs.Outside.{Outside, output}
use Rattle.osm_words.specs.Job.{LocateSettings}
use Rattle.osm_job.proofs.BothThenOutput.{no_memory_both, verdict_both}
use Rattle.osm_job.specs.declared.ended.Ended.TheVariants as ended
use Rattle.osm_job.specs.InputRead.{HasBoth}
use Rattle.osm_job.specs.TextWhole.{whole_of_text}
use Rattle.osm_input.specs.declared.points.reading.PointsError.{PointsError}
use Rattle.osm_input.specs.declared.points.reading.PointsError.TheVariants.{BadPoint, OutOfMemory}
use Rattle.osm_input.specs.PointLines.Errors.{IsErrorOf}
use Rattle.osm_input.specs.PointLines.Points.{ArePoints}
use Rattle.area_locate.specs.Hits.{AreFound}
use Rattle.job_small.specs.Locating.Locate.{IsLocate, Locates, choice_of, points, bad}
use Rattle.job_small.specs.Locating.WorkSteps.{TellsPoints, points_ended}

module _ (law : StreamsAppend) (settings : LocateSettings) (before : Outside) (objects : List Object) (content : List ℕ) (now : Outside)
    (has : HasBoth settings.file settings.points objects content before now) where
  -- memory ran out before the output was asked for
  pub ran_out_read : Locates settings ended.OutOfMemory before now
  ran_out_read =
      no_memory_both law settings.file settings.points (output settings.output settings.overwrite ∷ []) (IsLocate settings) before objects content now has

  -- the text has no points
  pub no_points : (error : PointsError) → IsErrorOf content error → Locates settings (points_ended error) before now
  no_points (BadPoint line) is =
      verdict_both law settings.file settings.points (output settings.output settings.overwrite ∷ []) (IsLocate settings) before objects content now has
      (ended.BadPoint line) refl (bad line is refl)
  no_points OutOfMemory is = ran_out_read

-- the lines of the points of the text, found, are what is right
pub text_right : (settings : LocateSettings) (objects : List Object) (content text : List ℕ) (ps qs : List Loc) (lines : List ℕ) → text ≡ content → ArePoints text ps → qs ≡ ps →
    TellsPoints (choice_of settings) objects qs lines → IsLocate settings objects content (whole_of_text lines)
text_right settings objects content text ps qs lines same told also tells =
    points ps tells.found (subst (λ (t : List ℕ). ArePoints t ps) same told) (subst (λ (at : List Loc). AreFound (choice_of settings) objects at tells.found) also tells.right)
    (ap whole_of_text tells.told)
