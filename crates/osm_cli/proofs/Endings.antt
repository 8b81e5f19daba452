-- A run with its last line.
use Rattle.osm_host.specs.declared.host.Failed.{Failed}
use Rattle.std.proofs.Common.{◌≡◌, ◌∙◌, refl, ap, subst, ◌<◌, ℕ, List, length, take, arith, OnOk, OnErr, inl, inr, Option, None, Some, IfSome, Result, Ok, Err}
use Rattle.osm_host.specs.Outside.{Outside, appended, risen, Counts, HasRisen, OnlyWritesReport}
use Rattle.osm_host.specs.Laws.{StreamsAppend}
use Rattle.osm_words.specs.declared.fault.WordsFault.{WordsFault}
use Rattle.osm_job.specs.declared.ended.Ended.{Ended}
use Rattle.osm_job.specs.declared.ended.Ended.TheVariants.{Done, Warnings, Errors, BadWords, BadInput, Stopped, TooMuchInput, TooManyPieces, Refuted, BadPoint, OpenFault, ReadFault, WriteFault, OutOfMemory}
use Rattle.osm_words.specs.Job.{Job}
use Rattle.osm_job.specs.Cause.{Cause, by_itself, by_words, by_input, by_verdict, by_open, by_read, by_write, by_memory, cause_of}
use Rattle.osm_input.specs.ReadFaults.{LastReadFailed}
use Rattle.osm_job.specs.Faults.{ReadsFailed, NoFault, CountsFaults}
use Rattle.osm_job.specs.Texts.{Texts}
use Rattle.osm_cli.specs.Job.{TookAll, inputs_of}
use Rattle.osm_cli.specs.LastLine.{last_line}
use Rattle.osm_job.specs.Sent.{Sent, report_of}
use Rattle.osm_job.specs.Whole.{Whole}
use Rattle.osm_cli.specs.Whole.{IsWhole}
use Rattle.osm_job.specs.Prefix.{IsPrefix}
use Rattle.osm_job.specs.Written.{WroteAll}
use Rattle.osm_job.specs.Taken.{read_error}
use Rattle.osm_cli.specs.Run.{IsLastLine, stands, is_cut, Writes, JudgesInput, Opens, Spares, Completes, Ran}
use Rattle.osm_cli.specs.RunSteps.{Works}
use Rattle.osm_job.proofs.Keeping.{keeps_both, write_keeps}
use Rattle.osm_job.proofs.Taken.{taken_kept, stopped_kept}
use Rattle.osm_cli.proofs.Jobs.{all_kept, nothing_kept}
use Rattle.osm_job.proofs.Prefixes.{take_is_prefix}

module _ (law : StreamsAppend) (words : Result Job WordsFault) (ended : Ended) (before middle now : Outside) (works : Works words ended before middle) (only : OnlyWritesReport middle now) where
  -- the last line or a prefix of it stands behind what was reported
  writes : (line : List ℕ) (r : Result (Unit {0}) Failed) → line ≡ last_line ended → OnOk r (now.report ≡ appended middle.report line) →
      OnErr r ((n : ℕ) × (now.report ≡ appended middle.report (take n line))) → OnErr r (0 < length line) → Counts middle.write_faults now.write_faults r → Writes words ended before now
  writes line (Ok done) is all front some counts = record {
    written = works.written;
    last = line;
    out = only.out ∙ works.out;
    report = all ∙ ap (λ (o : Option (List ℕ)). appended o line) works.report ∙ law.bytes before.report (report_of works.written) line;
    right = works.right;
    line = stands is (counts.answered ∙ works.write_faults);
  }
  writes line (Err failed) is all front some counts = record {
    written = works.written;
    last = take front.0 line;
    out = only.out ∙ works.out;
    report = front.1 ∙ ap (λ (o : Option (List ℕ)). appended o (take front.0 line)) works.report ∙ law.bytes before.report (report_of works.written) (take front.0 line);
    right = works.right;
    line = is_cut (subst (λ (xs : List ℕ). IsPrefix (take front.0 line) xs) is (take_is_prefix front.0 line)) (subst (λ (xs : List ℕ). 0 < length xs) is some) (counts.failed ∙ ap risen works.write_faults);
  }

opens_so_far : (words : Result Job WordsFault) (cause : Cause) (before middle now : Outside) → OnlyWritesReport middle now → Opens words cause before middle → Opens words cause before now
opens_so_far (Err fault) cause before middle now only opens = only.opens ∙ opens
opens_so_far (Ok job) by_itself before middle now only opens = only.opens ∙ opens
opens_so_far (Ok job) by_words before middle now only opens = opens
opens_so_far (Ok job) by_input before middle now only opens = (opens.0, opens.1, opens.2, only.opens ∙ opens.3)
opens_so_far (Ok job) by_verdict before middle now only opens = only.opens ∙ opens
opens_so_far (Ok job) by_open before middle now only opens = (opens.0, (only.opens ∙ opens.1.0, λ more. (all_kept job before middle now only.left only.bytes_read (opens.1.1 more).0, (opens.1.1 more).1), opens.1.2))
opens_so_far (Ok job) by_read before middle now only opens = (opens.0, opens.1, opens.2, only.opens ∙ opens.3)
opens_so_far (Ok job) by_write before middle now only opens = (opens.0, only.opens ∙ opens.1)
opens_so_far (Ok job) by_memory before middle now only opens = (opens.0, (only.opens ∙ opens.1.0, λ more. (all_kept job before middle now only.left only.bytes_read (opens.1.1 more).0, (opens.1.1 more).1), opens.1.2))

spares_still : (words : Result Job WordsFault) (ended : Ended) (before middle now : Outside) → OnlyWritesReport middle now → Spares words ended before middle → Spares words ended before now
spares_still (Err fault) ended before middle now only spares = tt
spares_still (Ok job) ended before middle now only spares = λ first is. let spared = spares first is in record { opened = spared.opened; opens = only.opens ∙ spared.opens; out = only.out ∙ spared.out }

input_so_far : (words : Result Job WordsFault) (ended : Ended) (before middle now : Outside) → OnlyWritesReport middle now → JudgesInput words ended before middle → JudgesInput words ended before now
input_so_far (Err fault) ended before middle now only input = nothing_kept before middle now only.left only.bytes_read input
input_so_far (Ok job) ended before middle now only input = (
  stopped_kept middle now only.left only.bytes_read before (inputs_of job) (read_error ended) only.opens input.0,
  taken_kept (TookAll job) before middle now (all_kept job before middle now only.left only.bytes_read) (cause_of ended) input.1,
  λ none. nothing_kept before middle now only.left only.bytes_read (input.2 none),
)

reads_still : (ended : Ended) (before middle now : Outside) → now.read_faults ≡ middle.read_faults → now.read_failed ≡ middle.read_failed → ReadsFailed ended before middle → ReadsFailed ended before now
reads_still OpenFault before middle now same failed reads = same ∙ reads
reads_still ReadFault before middle now same failed reads = (same ∙ reads.0, failed ∙ reads.1)
reads_still WriteFault before middle now same failed reads = same ∙ reads
reads_still Done before middle now same failed reads = same ∙ reads
reads_still Warnings before middle now same failed reads = same ∙ reads
reads_still Errors before middle now same failed reads = same ∙ reads
reads_still OutOfMemory before middle now same failed reads = same ∙ reads
reads_still (BadWords fault) before middle now same failed reads = same ∙ reads
reads_still (BadInput line fault) before middle now same failed reads = same ∙ reads
reads_still (Stopped candidate) before middle now same failed reads = same ∙ reads
reads_still (TooMuchInput limit) before middle now same failed reads = same ∙ reads
reads_still (TooManyPieces most) before middle now same failed reads = same ∙ reads
reads_still (Refuted line) before middle now same failed reads = same ∙ reads
reads_still (BadPoint line) before middle now same failed reads = same ∙ reads

faults_still : (ended : Ended) (before middle now : Outside) → OnlyWritesReport middle now → CountsFaults ended before middle → CountsFaults ended before now
faults_still ended before middle now only faults = record {
  opens = only.open_faults ∙ faults.opens;
  reads = reads_still ended before middle now only.read_faults only.read_failed faults.reads;
}

whole_of_all : (job : Job) (told : Option (Texts (inputs_of job))) (ended : Ended) (written : List Sent) → WroteAll (IsWhole job) told ended written → IfSome told (λ texts. (whole : Whole) × IsWhole job texts whole × (ended ≡ whole.ended))
whole_of_all job None ended written wrote = tt
whole_of_all job (Some texts) ended written wrote = (record { written = written; ended = ended }, wrote, refl)

write_rose : (last : List ℕ) (before after : ℕ) → IsLastLine WriteFault last before after → HasRisen before after
write_rose last before after (stands is counted) = let one : after ≡ risen before = counted in omega arith
write_rose last before after (is_cut front some counted) = let two : after ≡ risen (risen before) = counted in omega arith

-- without a fault of the host, what was written is all that is right
completes : (words : Result Job WordsFault) (ended : Ended) (before now : Outside) (writes : Writes words ended before now) → CountsFaults ended before now → NoFault before now → Completes words before ended
completes (Err fault) ended before now writes faults none = writes.right.0
completes (Ok job) Done before now writes faults none = inr (whole_of_all job _ Done writes.written writes.right)
completes (Ok job) Warnings before now writes faults none = inr (whole_of_all job _ Warnings writes.written writes.right)
completes (Ok job) Errors before now writes faults none = inr (whole_of_all job _ Errors writes.written writes.right)
completes (Ok job) (Stopped candidate) before now writes faults none = inr (whole_of_all job _ (Stopped candidate) writes.written writes.right)
completes (Ok job) (BadWords cause) before now writes faults none = absurd writes.right
completes (Ok job) (BadInput line fault) before now writes faults none = inr (whole_of_all job _ (BadInput line fault) writes.written writes.right.1)
completes (Ok job) (TooMuchInput limit) before now writes faults none = inr (whole_of_all job _ (TooMuchInput limit) writes.written writes.right.1)
completes (Ok job) (TooManyPieces most) before now writes faults none = inr (whole_of_all job _ (TooManyPieces most) writes.written writes.right.1)
completes (Ok job) (Refuted line) before now writes faults none = inr (whole_of_all job _ (Refuted line) writes.written writes.right.1)
completes (Ok job) (BadPoint line) before now writes faults none = inr (whole_of_all job _ (BadPoint line) writes.written writes.right.1)
completes (Ok job) OpenFault before now writes faults none = absurd (none.opens (let one : now.open_faults ≡ risen before.open_faults = faults.opens in omega arith))
completes (Ok job) ReadFault before now writes faults none = absurd (none.reads (let last : LastReadFailed before now = faults.reads in let one : now.read_faults ≡ risen before.read_faults = last.0 in omega arith))
completes (Ok job) WriteFault before now writes faults none = absurd (none.writes (write_rose writes.last before.write_faults now.write_faults writes.line))
completes (Ok job) OutOfMemory before now writes faults none = inl refl

-- ---- the whole run

pub ran : (law : StreamsAppend) (words : Result Job WordsFault) (ended : Ended) (before middle now : Outside) → Works words ended before middle → OnlyWritesReport middle now → (line : List ℕ) (r : Result (Unit {0}) Failed) → line ≡ last_line ended →
    OnOk r (now.report ≡ appended middle.report line) → OnErr r ((n : ℕ) × (now.report ≡ appended middle.report (take n line))) → OnErr r (0 < length line) → Counts middle.write_faults now.write_faults r → Ran words ended before now
ran law words ended before middle now works only line r is all front some counts =
    let wrote : Writes words ended before now = writes law words ended before middle now works only line r is all front some counts in
    let faults : CountsFaults ended before now = faults_still ended before middle now only works.faults in
    record {
      writes = wrote;
      judges = works.judged;
      reads = input_so_far words ended before middle now only works.judged_input;
      opens = opens_so_far words (cause_of ended) before middle now only works.opens;
      spares = spares_still words ended before middle now only works.spares;
      faults = faults;
      complete = λ none. completes words ended before now wrote faults none;
      keeps = keeps_both before middle now works.keeps (write_keeps middle now only.named only.left only.open_faults only.read_faults counts.never_falls);
    }
