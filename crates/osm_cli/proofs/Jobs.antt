-- A run but for its last line: of a job, and of words that aren't taken.
use Rattle.std.proofs.Common.{◌≡◌, ◌∙◌, refl, sym, subst, ℕ, [], ◌∷◌, arith, Result, Ok, Err, inl, inr}
use Rattle.osm_host.specs.Laws.{StreamsAppend}
use Rattle.osm_host.specs.Outside.{Outside}
use Rattle.osm_words.specs.declared.fault.WordsFault.{WordsFault}
use Rattle.osm_words.specs.declared.fault.WordsError.{WordsError}
use Rattle.osm_words.specs.declared.fault.WordsError.TheVariants as words
use Rattle.osm_words.specs.Answers.{AnswersWords}
use Rattle.osm_words.specs.Job.{CertifySettings, CoastlineSettings, ExportSettings, FilterSettings, Job, LocateSettings, certify, coastline, export, filter, locate, sample}
use Rattle.osm_job.proofs.Keeping.{nothing_changed}
use Rattle.osm_job.specs.declared.ended.Ended.{Ended}
use Rattle.osm_job.specs.declared.ended.Ended.TheVariants.{BadWords, OutOfMemory}
use Rattle.osm_job.specs.Cause.{Cause}
use Rattle.osm_job.specs.Spared.{SparesOutput}
use Rattle.osm_job.specs.Taken.{TookNothing}
use Rattle.osm_job.specs.Texts.{told_texts}
use Rattle.osm_job.specs.Worked.{Worked}
use Rattle.osm_job.specs.Written.{IsWrittenBy}
use Rattle.osm_job.proofs.Taken.{both_kept, input_kept}
use Rattle.job_coastline.specs.Coastline.{Coastlines}
use Rattle.job_export.specs.Export.{Exports}
use Rattle.job_small.specs.Certifying.Certify.{Certifies}
use Rattle.job_small.specs.Filtering.Filter.{Filters}
use Rattle.job_small.specs.Locating.Locate.{Locates}
use Rattle.job_small.specs.Sampling.Sample.{Samples}
use Rattle.osm_cli.specs.Job.{TookAll, inputs_of, outputs_of}
use Rattle.osm_cli.specs.Run.{Spares}
use Rattle.osm_cli.specs.RunSteps.{Works, words_ended}
use Rattle.osm_cli.specs.Whole.{IsWhole}

-- ---- a job

-- nothing was taken behind calls that touch no input, where nothing was before
pub nothing_kept : (before middle now : Outside) → now.left ≡ middle.left → now.bytes_read ≡ middle.bytes_read → TookNothing before middle → TookNothing before now
nothing_kept before middle now same counted took = record { left = same ∙ took.left; bytes_read = counted ∙ took.bytes_read }

-- what all inputs were taken for stays so behind such calls
pub all_kept : (job : Job) (before middle now : Outside) → now.left ≡ middle.left → now.bytes_read ≡ middle.bytes_read → TookAll job before middle → TookAll job before now
all_kept (export settings) before middle now same counted took = input_kept middle now same counted before settings.file took
all_kept (coastline settings) before middle now same counted took = input_kept middle now same counted before settings.file took
all_kept (sample count) before middle now same counted took = nothing_kept before middle now same counted took
all_kept (filter settings) before middle now same counted took = input_kept middle now same counted before settings.file took
all_kept (certify settings) before middle now same counted took = both_kept middle now same counted before settings.file settings.text took
all_kept (locate settings) before middle now same counted took = both_kept middle now same counted before settings.file settings.points took

of_job : (job : Job) (ended : Ended) (before after : Outside) → Worked (inputs_of job) (outputs_of job) (IsWhole job) (TookAll job) ended before after → Spares (Ok job) ended before after → Works (Ok job) ended before after
of_job job ended before after w spares = record {
  written = w.written;
  out = w.out;
  report = w.report;
  right = w.right;
  judged = λ is. subst (λ (c : Cause). IsWrittenBy (IsWhole job) c (told_texts before.named (inputs_of job)) ended w.written) is w.right;
  judged_input = (w.refused, w.took, w.untouched);
  opens = w.opens;
  spares = spares;
  faults = w.faults;
  write_faults = w.write_faults;
  keeps = w.keeps;
}

pub of_export : (settings : ExportSettings) (ended : Ended) (before after : Outside) → Exports settings ended before after → Works (Ok (export settings)) ended before after
of_export settings ended before after exported = of_job (export settings) ended before after exported (λ first. absurd (cc))

pub of_coastline : (settings : CoastlineSettings) (ended : Ended) (before after : Outside) → Coastlines settings ended before after → Works (Ok (coastline settings)) ended before after
of_coastline settings ended before after done = of_job (coastline settings) ended before after done (λ first. absurd (cc))

pub of_sample : (count : ℕ) (ended : Ended) (before after : Outside) → Samples count ended before after → SparesOutput [] ended before after → Works (Ok (sample count)) ended before after
of_sample count ended before after done spares = of_job (sample count) ended before after done (λ first. spares)

pub of_filter : (settings : FilterSettings) (ended : Ended) (before after : Outside) → Filters settings ended before after → SparesOutput (settings.file ∷ []) ended before after → Works (Ok (filter settings)) ended before after
of_filter settings ended before after done spares = of_job (filter settings) ended before after done (λ first. spares)

pub of_certify : (settings : CertifySettings) (ended : Ended) (before after : Outside) → Certifies settings ended before after → Works (Ok (certify settings)) ended before after
of_certify settings ended before after done = of_job (certify settings) ended before after done (λ first. absurd (cc))

pub of_locate : (settings : LocateSettings) (ended : Ended) (before after : Outside) → Locates settings ended before after → SparesOutput (settings.file ∷ settings.points ∷ []) ended before after → Works (Ok (locate settings)) ended before after
of_locate settings ended before after done spares = of_job (locate settings) ended before after done (λ first. spares)

-- of words that ask for the same
pub works_alike : (x y : Result Job WordsFault) (ended : Ended) (before now : Outside) → Works x ended before now → x ≡ y → Works y ended before now
works_alike x y ended before now works same = subst (λ (words : Result Job WordsFault). Works words ended before now) same works

-- ---- words that aren't taken

module _ (law : StreamsAppend) (o : Outside) where
  nothing_taken : TookNothing o o
  nothing_taken = record { left = refl; bytes_read = refl }

  refused : (cause : WordsFault) → Works (Err cause) (BadWords cause) o o
  refused cause = record {
    written = [];
    out = sym (law.no_bytes o.out);
    report = sym (law.no_bytes o.report);
    right = (inr refl, refl);
    judged = inr refl;
    judged_input = nothing_taken;
    opens = refl;
    spares = tt;
    faults = record { opens = refl; reads = refl };
    write_faults = refl;
    keeps = nothing_changed o;
  }

  -- there was no memory to read the words
  no_memory_for_words : (words : Result Job WordsFault) → Works words OutOfMemory o o
  no_memory_for_words (Ok job) = record {
    written = [];
    out = sym (law.no_bytes o.out);
    report = sym (law.no_bytes o.report);
    right = inl refl;
    judged = λ is. absurd (cc);
    judged_input = (tt, tt, λ none. nothing_taken);
    opens = (0, (sym (law.no_opens o.opens), λ more. absurd (omega arith), λ two. absurd (omega arith)));
    spares = λ first is. record { opened = 0; opens = sym (law.no_opens o.opens); out = refl };
    faults = record { opens = refl; reads = refl };
    write_faults = refl;
    keeps = nothing_changed o;
  }
  no_memory_for_words (Err fault) = record {
    written = [];
    out = sym (law.no_bytes o.out);
    report = sym (law.no_bytes o.report);
    right = (inl refl, refl);
    judged = inl refl;
    judged_input = nothing_taken;
    opens = refl;
    spares = tt;
    faults = record { opens = refl; reads = refl };
    write_faults = refl;
    keeps = nothing_changed o;
  }

  pub not_taken : (asked_for : Result Job WordsFault) (error : WordsError) → AnswersWords asked_for (Err error) → Works asked_for (words_ended error) o o
  not_taken asked_for (words.BadWords cause) asked = subst (λ (w : Result Job WordsFault). Works w (BadWords cause) o o) (sym asked) (refused cause)
  not_taken asked_for words.OutOfMemory asked = no_memory_for_words asked_for
