-- What a certifying job must write in all, and how it must end.
use Rattle.std.specs.Prelude.{◌≡◌, ℕ, List, []}
use Rattle.osm_elements.specs.declared.object.Object.{Object}
use Rattle.osm_host.specs.Outside.{Outside}
use Rattle.osm_objects.specs.declared.choice.Choice.{Choice}
use Rattle.osm_words.specs.Job.{CertifySettings}
use Rattle.osm_job.specs.declared.ended.Ended.{Ended}
use Rattle.osm_job.specs.declared.ended.Ended.TheVariants as ended
use Rattle.osm_job.specs.Whole.{Whole, silent}
use Rattle.osm_job.specs.Worked.{ReadBoth}
use Rattle.area_certify.specs.FirstWrong.{HasNoWrongLine, IsFirstWrongLine}

-- which objects the settings take for candidates
abbrev pub choice_of : CertifySettings → Choice
choice_of settings = record {
  keep_untagged = settings.keep_untagged;
  area_keys = settings.area_keys;
  linear_keys = settings.linear_keys;
}

-- The text has no wrong line for the objects, or this line is the first wrong one, which the ending names.
-- Either way, only the last line of the report is written.
pub data IsCertify (settings : CertifySettings) (objects : List Object) (text : List ℕ) (whole : Whole) : Type 0 where
  right : HasNoWrongLine (choice_of settings) settings.ids objects text → whole ≡ silent ended.Done →
      IsCertify settings objects text whole
  wrong : (line : ℕ) → IsFirstWrongLine (choice_of settings) settings.ids objects text line →
      whole ≡ silent (ended.Refuted line) → IsCertify settings objects text whole

-- A certifying job ended like this: it reads its input and then its text, opens no output, and ends as is right for both.
abbrev pub Certifies : CertifySettings → Ended → Outside → Outside → Type 0
Certifies settings ended before after = ReadBoth settings.file settings.text [] (IsCertify settings) ended before after
