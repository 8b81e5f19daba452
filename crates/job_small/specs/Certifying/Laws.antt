-- Laws of what a certifying job must do, as statements.
use Rattle.std.specs.Prelude.{◌≡◌, ◌↔◌, ℕ, List}
use Rattle.osm_elements.specs.declared.object.Object.{Object}
use Rattle.osm_words.specs.Job.{CertifySettings}
use Rattle.osm_job.specs.Sent.{output_of}
use Rattle.osm_job.specs.Whole.{Whole}
use Rattle.area_certify.specs.FirstWrong.{HasNoWrongLine}
use Rattle.job_export.specs.Export.{IsExport}
use Rattle.job_small.specs.Certifying.Certify.{IsCertify, choice_of}
use Rattle.job_small.specs.Certifying.Exported.{export_of}

-- for all settings, objects and texts there is a right ending
abbrev pub CertifyExists : Type 0
CertifyExists = (settings : CertifySettings) (objects : List Object) (text : List ℕ) → (whole : Whole) × IsCertify settings objects text whole

-- there is at most one right ending
abbrev pub CertifyIsOne : Type 0
CertifyIsOne =
    (settings : CertifySettings) (objects : List Object) (text : List ℕ) (v w : Whole) →
    IsCertify settings objects text v → IsCertify settings objects text w → v ≡ w

-- A text has no wrong line exactly if it is the whole output of the export over the same objects.
abbrev pub CertifiedTextsAreExports : Type 0
CertifiedTextsAreExports =
    (settings : CertifySettings) (objects : List Object) (text : List ℕ) →
    HasNoWrongLine (choice_of settings) settings.ids objects text
    ↔ ((whole : Whole) × IsExport (export_of settings) objects whole × (output_of whole.written ≡ text))
