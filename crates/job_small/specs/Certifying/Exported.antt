-- The export whose output a certifying job expects in its text.
use Rattle.std.specs.Prelude.{false, codes}
use Rattle.osm_words.specs.Job.{CertifySettings, ExportSettings}
use Rattle.osm_words.specs.declared.settings.Format.TheVariants.{Text}

-- An export of the same input in format text, of the same candidates and with the same ids, that reports nothing and doesn't
-- stop at problems.
abbrev pub export_of : CertifySettings → ExportSettings
export_of settings = record {
  file = settings.file;
  format = Text;
  output = codes "-";
  overwrite = false;
  keep_untagged = settings.keep_untagged;
  ids = settings.ids;
  omit_rs = false;
  show_errors = false;
  stop_on_error = false;
  area_keys = settings.area_keys;
  linear_keys = settings.linear_keys;
}
