-- What a call that reads words answers. Want of memory is free.
use Rattle.std.specs.Prelude.{◌≡◌, ℕ, List, Option, Some, None, Result, Ok, Err, ⊤}
use Rattle.std.specs.Borrow.{Bor}
use Rattle.opl_reader.specs.Keys.{keys_said}
use Rattle.osm_words.specs.Job.{CertifySettings, CoastlineSettings, ExportSettings, FilterSettings, Job, LocateSettings}
use Rattle.osm_words.specs.Job.{certify, coastline, export, filter, locate, sample}
use Rattle.osm_words.specs.declared.settings.CertifySettings.{CertifySettings as CodeCertify}
use Rattle.osm_words.specs.declared.settings.CoastlineSettings.{CoastlineSettings as CodeCoastline}
use Rattle.osm_words.specs.declared.settings.ExportSettings.{ExportSettings as CodeSettings}
use Rattle.osm_words.specs.declared.settings.FilterSettings.{FilterSettings as CodeFilter}
use Rattle.osm_words.specs.declared.settings.Job.{Job as CodeJob}
use Rattle.osm_words.specs.declared.settings.Job.TheVariants.{Coastline as code_coastline, Export as code_export, Filter as code_filter, Sample as code_sample}
use Rattle.osm_words.specs.declared.settings.Job.TheVariants.{Certify as code_certify, Locate as code_locate}
use Rattle.osm_words.specs.declared.settings.LocateSettings.{LocateSettings as CodeLocate}
use Rattle.osm_words.specs.declared.settings.SampleSettings.{SampleSettings as CodeSample}
use Rattle.osm_words.specs.declared.fault.WordsFault.{WordsFault}
use Rattle.osm_words.specs.declared.fault.WordsError.{WordsError}
use Rattle.osm_words.specs.declared.fault.WordsError.TheVariants.{BadWords, OutOfMemory}

-- the keys that are written so; a text that isn't KEYS counts as no list, and no words give one
abbrev pub keys_seen : Option (Bor (List ℕ)) → Option (List (List ℕ))
keys_seen None = None
keys_seen (Some written) = keys_said written.now

-- what was read, without where it lies in memory
abbrev pub settings_seen : CodeSettings → ExportSettings
settings_seen s = record {
  file = s.file.now;
  format = s.format;
  output = s.output.now;
  overwrite = s.overwrite;
  keep_untagged = s.keep_untagged;
  ids = s.ids;
  omit_rs = s.omit_rs;
  show_errors = s.show_errors;
  stop_on_error = s.stop_on_error;
  area_keys = keys_seen s.area_keys;
  linear_keys = keys_seen s.linear_keys;
}

abbrev pub coastline_seen : CodeCoastline → CoastlineSettings
coastline_seen s = record {
  file = s.file.now;
  output = s.output.now;
  overwrite = s.overwrite;
  close_distance = s.close_distance;
  max_points = s.max_points;
  bbox_overlap = s.bbox_overlap;
  polygons = s.polygons;
  cut_crossings = s.cut_crossings;
}

abbrev pub sample_seen : CodeSample → ℕ
sample_seen s = s.count

abbrev pub filter_seen : CodeFilter → FilterSettings
filter_seen s = record { file = s.file.now; output = s.output.now; overwrite = s.overwrite }

abbrev pub certify_seen : CodeCertify → CertifySettings
certify_seen s = record {
  file = s.file.now;
  text = s.text.now;
  keep_untagged = s.keep_untagged;
  ids = s.ids;
  area_keys = keys_seen s.area_keys;
  linear_keys = keys_seen s.linear_keys;
}

abbrev pub locate_seen : CodeLocate → LocateSettings
locate_seen s = record {
  file = s.file.now;
  points = s.points.now;
  output = s.output.now;
  overwrite = s.overwrite;
  keep_untagged = s.keep_untagged;
  area_keys = keys_seen s.area_keys;
  linear_keys = keys_seen s.linear_keys;
}

abbrev pub job_seen : CodeJob → Job
job_seen (code_export settings) = export (settings_seen settings)
job_seen (code_coastline settings) = coastline (coastline_seen settings)
job_seen (code_sample settings) = sample (sample_seen settings)
job_seen (code_filter settings) = filter (filter_seen settings)
job_seen (code_certify settings) = certify (certify_seen settings)
job_seen (code_locate settings) = locate (locate_seen settings)

-- the answer is what was asked
abbrev pub AnswersWords : Result Job WordsFault → Result CodeJob WordsError → Type 0
AnswersWords asked (Ok job) = asked ≡ Ok (job_seen job)
AnswersWords asked (Err (BadWords cause)) = asked ≡ Err cause
AnswersWords asked (Err OutOfMemory) = ⊤

-- the answer is this job
abbrev pub AnswersJob : Job → Result CodeJob WordsError → Type 0
AnswersJob asked (Ok job) = job_seen job ≡ asked
AnswersJob asked (Err error) = error ≡ OutOfMemory
