-- A certifying job has a right ending, and one alone.
use Rattle.std.proofs.Common.{◌≡◌, ◌∙◌, refl, sym, ap, subst, ℕ, ◌⊎◌, List, [], inl, inr}
use Rattle.osm_elements.specs.declared.object.Object.{Object}
use Rattle.osm_objects.specs.declared.choice.Choice.{Choice}
use Rattle.osm_words.specs.Job.{CertifySettings}
use Rattle.osm_host.specs.Laws.{StreamsAppend}
use Rattle.osm_host.specs.Outside.{Outside}
use Rattle.osm_job.proofs.BothThenOutput.{done_both, verdict_both}
use Rattle.osm_job.specs.InputRead.{HasBoth}
use Rattle.osm_job.specs.declared.ended.Ended.{Ended}
use Rattle.osm_job.specs.declared.ended.Ended.TheVariants as variant
use Rattle.osm_job.specs.Whole.{Whole, silent}
use Rattle.area_certify.specs.FirstWrong.{HasNoWrongLine, IsFirstWrongLine}
use Rattle.area_certify.specs.Laws.{FirstWrongLineIsOne, TextsHaveAVerdict, VerdictsExclude}
use Rattle.job_small.specs.Certifying.Certify.{Certifies, IsCertify, choice_of, right, wrong}
use Rattle.job_small.specs.Certifying.Laws.{CertifyExists, CertifyIsOne}

module _ (settings : CertifySettings) (objects : List Object) (text : List ℕ) where
  abbrev IsRight : Type 0
  IsRight = HasNoWrongLine (choice_of settings) settings.ids objects text

  abbrev IsWrong : ℕ → Type 0
  IsWrong line = IsFirstWrongLine (choice_of settings) settings.ids objects text line

  from_verdict : IsRight ⊎ ((line : ℕ) × IsWrong line) → (whole : Whole) × IsCertify settings objects text whole
  from_verdict (inl none) = (silent variant.Done, right none refl)
  from_verdict (inr first) = (silent (variant.Refuted first.0), wrong first.0 first.1 refl)

  one_ending : FirstWrongLineIsOne → VerdictsExclude → (v w : Whole) → IsCertify settings objects text v → IsCertify settings objects text w → v ≡ w
  one_ending one exclude v w (right none is) (right none_too also) = is ∙ sym also
  one_ending one exclude v w (right none is) (wrong line first also) =
      absurd (exclude (choice_of settings) settings.ids objects text line none first)
  one_ending one exclude v w (wrong line first is) (right none also) =
      absurd (exclude (choice_of settings) settings.ids objects text line none first)
  one_ending one exclude v w (wrong m first is) (wrong n first_too also) =
      is ∙ ap (λ (line : ℕ). silent (variant.Refuted line)) (one (choice_of settings) settings.ids objects text m n first first_too) ∙ sym also

  -- ---- the verdict of a certifier

  module _ (choice : Choice) (same : choice ≡ choice_of settings) where
    pub says_wrong : (line : ℕ) → IsFirstWrongLine choice settings.ids objects text line → IsCertify settings objects text (silent (variant.Refuted line))
    says_wrong line first = wrong line (subst (λ (c : Choice). IsFirstWrongLine c settings.ids objects text line) same first) refl

-- ---- the job

-- the input and the text are read, and the ending is right for them
module _ (law : StreamsAppend) (settings : CertifySettings) (objects : List Object) (text : List ℕ) (before now : Outside)
    (has : HasBoth settings.file settings.text objects text before now) where
  pub judged : (ended : Ended) → IsCertify settings objects text (silent ended) → Certifies settings ended before now
  judged ended (right none is) =
      subst (λ (e : Ended). Certifies settings e before now) (sym (ap (λ (w : Whole). w.ended) is))
      (done_both law settings.file settings.text (IsCertify settings) before objects text now has (right none refl))
  judged ended (wrong line first is) =
      subst (λ (e : Ended). Certifies settings e before now) (sym (ap (λ (w : Whole). w.ended) is))
      (verdict_both law settings.file settings.text [] (IsCertify settings) before objects text now has (variant.Refuted line) refl (wrong line first refl))

-- ---- laws

pub certify_there : TextsHaveAVerdict → CertifyExists
certify_there verdict settings objects text = from_verdict settings objects text (verdict (choice_of settings) settings.ids objects text)

pub certify_one : FirstWrongLineIsOne → VerdictsExclude → CertifyIsOne
certify_one one exclude settings objects text v w s t = one_ending settings objects text one exclude v w s t
