-- What an export must write in all, and how it must end.
use Rattle.std.specs.Prelude.{◌≡◌, false, true, List, [], ◌∷◌, ◌++◌, map, All}
use Rattle.osm_elements.specs.declared.object.Object.{Object}
use Rattle.osm_elements.specs.declared.object.ObjectRef.{ObjectRef}
use Rattle.osm_host.specs.Outside.{Outside, output}
use Rattle.osm_objects.specs.Candidates.{candidates}
use Rattle.job_export.specs.Choice.{choice_of}
use Rattle.osm_words.specs.Job.{ExportSettings}
use Rattle.osm_job.specs.declared.ended.Ended.{Ended}
use Rattle.osm_job.specs.declared.ended.Ended.TheVariants as ended
use Rattle.osm_job.specs.Sent.{to_output}
use Rattle.osm_job.specs.Whole.{Whole}
use Rattle.osm_job.specs.Worked.{ReadThenWrote}
use Rattle.job_export.specs.Entry.{Entry, IsEntry, has_area, entries_sent}
use Rattle.job_export.specs.Framing.{footer, header}

-- the header, what each entry adds, and the footer
abbrev pub finished_whole : ExportSettings → List Object → List Entry → Whole
finished_whole settings objects entries = record {
  written =
      map to_output (header settings.format) ++ entries_sent settings objects 0 entries
      ++ map to_output (footer settings.format);
  ended = ended.Done;
}

-- the header and what each entry adds, up to the last one, the first with problems
abbrev pub stopped_whole : ExportSettings → List Object → List Entry → Entry → Whole
stopped_whole settings objects entries last = record {
  written = map to_output (header settings.format) ++ entries_sent settings objects 0 (entries ++ last ∷ []);
  ended = ended.Stopped last.candidate;
}

abbrev pub HaveAreas : List Entry → Type 0
HaveAreas entries = All (λ entry. has_area entry ≡ true) entries

-- Each candidate has its entry, in order; or the run must stop at the first candidate with problems.
pub data IsExport (settings : ExportSettings) (objects : List Object) (whole : Whole) : Type 0 where
  finished : (entries : List Entry) →
      map (λ entry. entry.candidate) entries ≡ candidates (choice_of settings) objects →
      All (IsEntry settings.show_errors objects) entries →
      (settings.stop_on_error ≡ true → HaveAreas entries) →
      whole ≡ finished_whole settings objects entries → IsExport settings objects whole
  stopped : (entries : List Entry) (last : Entry) (later : List ObjectRef) → settings.stop_on_error ≡ true →
      candidates (choice_of settings) objects ≡ map (λ entry. entry.candidate) entries ++ last.candidate ∷ later →
      All (IsEntry settings.show_errors objects) entries → IsEntry settings.show_errors objects last →
      HaveAreas entries → has_area last ≡ false →
      whole ≡ stopped_whole settings objects entries last → IsExport settings objects whole

-- An export ended like this: it reads its input, opens its output, and writes what is right for the objects of the input.
abbrev pub Exports : ExportSettings → Ended → Outside → Outside → Type 0
Exports settings ended before after =
    ReadThenWrote settings.file (output settings.output settings.overwrite) (IsExport settings) ended before after
