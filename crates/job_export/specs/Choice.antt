-- Which objects the settings of an export take for candidates.
use Rattle.osm_objects.specs.declared.choice.Choice.{Choice}
use Rattle.osm_words.specs.Job.{ExportSettings}

abbrev pub choice_of : ExportSettings → Choice
choice_of settings = record {
  keep_untagged = settings.keep_untagged;
  area_keys = settings.area_keys;
  linear_keys = settings.linear_keys;
}
