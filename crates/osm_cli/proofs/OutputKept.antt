-- A run whose output is kept once its job came to its end.
use Rattle.std.proofs.Common.{◌≡◌, ◌∙◌, refl, sym, ap, subst, true, List, [], length, append-nil, arith, Option, None, Some, Ok}
use Rattle.osm_host.specs.Outside.{Outside, risen, OnlyWritesOut}
use Rattle.osm_words.specs.Job.{Job, certify, coastline, export, filter, locate, sample}
use Rattle.osm_job.proofs.Keeping.{keeps_both, write_keeps}
use Rattle.osm_job.specs.declared.ended.Ended.{Ended}
use Rattle.osm_job.specs.declared.ended.Ended.TheVariants.{Done, Warnings, Errors, Stopped, BadWords, BadInput, TooMuchInput, TooManyPieces, Refuted, BadPoint}
use Rattle.osm_job.specs.declared.ended.Ended.TheVariants.{OpenFault, ReadFault, WriteFault, OutOfMemory}
use Rattle.osm_job.specs.Cause.{Cause, by_itself, by_words, by_input, by_verdict, by_open, by_read, by_write, by_memory, cause_of}
use Rattle.osm_job.specs.Faults.{ReadsFailed, opens_failed, writes_failed}
use Rattle.osm_job.specs.Sent.{Sent}
use Rattle.osm_job.specs.Taken.{TookBy}
use Rattle.osm_job.specs.Texts.{told_texts}
use Rattle.osm_job.specs.Whole.{Whole}
use Rattle.osm_job.specs.Written.{IsWrittenBy, WroteAll, WrotePrefix}
use Rattle.osm_cli.specs.Job.{TookAll, inputs_of, outputs_of}
use Rattle.osm_cli.specs.Run.{Opens}
use Rattle.osm_cli.specs.RunSteps.{KeepsOutput, OnlyCounts, Works, has_output, is_by_itself, kept, lost}
use Rattle.osm_cli.specs.Whole.{IsWhole}
use Rattle.osm_cli.proofs.Jobs.{all_kept, nothing_kept}

-- nothing changed where no count did
pub nothing_else : (before after : Outside) → after.out ≡ before.out → OnlyWritesOut before after → after.write_faults ≡ before.write_faults → after ≡ before
nothing_else before after out rest counts = λ i. record {
  named = rest.named i;
  left = rest.left i;
  out = out i;
  report = rest.report i;
  opens = rest.opens i;
  open_faults = rest.open_faults i;
  read_faults = rest.read_faults i;
  write_faults = counts i;
  read_failed = rest.read_failed i;
  at_end = rest.at_end i;
  bytes_read = rest.bytes_read i;
}

pub some_output : (job : Job) → has_output job ≡ true → outputs_of job ≡ [] → ⊥
some_output (export settings) has none = omega (arith, ap length none)
some_output (coastline settings) has none = omega (arith, ap length none)
some_output (sample count) has none = omega (arith, ap length none)
some_output (filter settings) has none = omega (arith, ap length none)
some_output (certify settings) has none = absurd (cc)
some_output (locate settings) has none = omega (arith, ap length none)

pub by_itself_alone : (cause : Cause) → is_by_itself cause ≡ true → cause ≡ by_itself
by_itself_alone by_itself is = refl
by_itself_alone by_words is = absurd (cc)
by_itself_alone by_input is = absurd (cc)
by_itself_alone by_verdict is = absurd (cc)
by_itself_alone by_open is = absurd (cc)
by_itself_alone by_read is = absurd (cc)
by_itself_alone by_write is = absurd (cc)
by_itself_alone by_memory is = absurd (cc)

reads_none : (ended : Ended) (before after : Outside) → cause_of ended ≡ by_itself → ReadsFailed ended before after → after.read_faults ≡ before.read_faults
reads_none Done before after is reads = reads
reads_none Warnings before after is reads = reads
reads_none Errors before after is reads = reads
reads_none (Stopped candidate) before after is reads = reads
reads_none (BadWords cause) before after is reads = reads
reads_none (BadInput line fault) before after is reads = reads
reads_none (TooMuchInput limit) before after is reads = reads
reads_none (TooManyPieces most) before after is reads = reads
reads_none (Refuted line) before after is reads = reads
reads_none (BadPoint line) before after is reads = reads
reads_none OpenFault before after is reads = reads
reads_none ReadFault before after is reads = absurd (cc)
reads_none WriteFault before after is reads = reads
reads_none OutOfMemory before after is reads = reads

-- all is a prefix of all
as_prefix : {T : Type 0} (IsRight : T → Whole → Type 0) (told : Option T) (ended : Ended) (written : List Sent) → cause_of ended ≡ by_itself → WroteAll IsRight told ended written →
    WrotePrefix IsRight told written
as_prefix IsRight None ended written is wrote = tt
as_prefix IsRight (Some texts) ended written is wrote =
    (record { written = written; ended = ended }, wrote, is, record { rest = []; whole = sym (append-nil written) })

module _ (job : Job) (ended : Ended) (before middle now : Outside) (works : Works (Ok job) ended before middle) where
  -- it isn't kept
  not_kept : (outputs_of job ≡ [] → ⊥) → cause_of ended ≡ by_itself → OnlyCounts middle now → now.write_faults ≡ risen middle.write_faults → Works (Ok job) WriteFault before now
  not_kept some is only counts =
      let rest = only.rest in
      let took : TookAll job before middle = subst (λ (c : Cause). TookBy (TookAll job) c before middle) is works.judged_input.1 in
      record {
        written = works.written;
        out = only.out ∙ works.out;
        report = rest.report ∙ works.report;
        right = as_prefix (IsWhole job) (told_texts before.named (inputs_of job)) ended works.written is
            (subst (λ (c : Cause). IsWrittenBy (IsWhole job) c (told_texts before.named (inputs_of job)) ended works.written) is works.right);
        judged = λ words. absurd (cc);
        judged_input = (tt, all_kept job before middle now rest.left rest.bytes_read took, λ none. nothing_kept before middle now rest.left rest.bytes_read (works.judged_input.2 none));
        opens = (some, rest.opens ∙ subst (λ (c : Cause). Opens (Ok job) c before middle) is works.opens);
        spares = λ first memory. absurd (cc);
        faults = record {
          opens = rest.open_faults ∙ (works.faults.opens ∙ ap (λ (c : Cause). opens_failed c before.open_faults) is);
          reads = rest.read_faults ∙ reads_none ended before middle is works.faults.reads;
        };
        write_faults = counts ∙ ap risen (works.write_faults ∙ ap (λ (c : Cause). writes_failed c before.write_faults) is);
        keeps = keeps_both before middle now works.keeps (write_keeps middle now rest.named rest.left rest.open_faults rest.read_faults only.never_falls);
      }

  -- the run but for its last line is that of the job, or its output isn't kept
  pub with_output_kept : (outputs_of job ≡ [] → ⊥) → (result : Ended) → KeepsOutput ended result middle now → Works (Ok job) result before now
  with_output_kept some result (kept same still) =
      subst (λ (e : Ended). Works (Ok job) e before now) (sym same) (subst (λ (o : Outside). Works (Ok job) ended before o) (sym still) works)
  with_output_kept some result (lost is same only counts) = subst (λ (e : Ended). Works (Ok job) e before now) (sym same) (not_kept some is only counts)
