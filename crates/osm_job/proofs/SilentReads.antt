-- Calls that write nothing, one behind the other, and which of their reads failed.
use Rattle.std.proofs.Common.{◌≡◌, ◌∙◌, ap, ◌≤◌, is_some}
use Rattle.osm_host.specs.Outside.{Outside, risen, OnlyOpens, OnlyReads}
use Rattle.osm_input.specs.Keeps.{KeepsNames}
use Rattle.osm_input.specs.ReadFaults.{LastReadFailed}
use Rattle.osm_job.specs.InputRead.{IsSilent}
use Rattle.osm_job.proofs.Keeping.{keeps_both, open_keeps}

pub opening_silent : (before now : Outside) → OnlyOpens before now → is_some now.left ≡ is_some before.left → before.open_faults ≤ now.open_faults → IsSilent before now
opening_silent before now only told rises = record {
  out = only.out;
  report = only.report;
  write_faults = only.write_faults;
  keeps = open_keeps before now only told rises;
}

pub reading_silent : (before now : Outside) → OnlyReads before now → KeepsNames before now → IsSilent before now
reading_silent before now only keeps = record { out = only.out; report = only.report; write_faults = only.write_faults; keeps = keeps }

module _ (before middle now : Outside) where
  pub silent_both : IsSilent before middle → IsSilent middle now → IsSilent before now
  silent_both first behind = record {
    out = behind.out ∙ first.out;
    report = behind.report ∙ first.report;
    write_faults = behind.write_faults ∙ first.write_faults;
    keeps = keeps_both before middle now first.keeps behind.keeps;
  }

  module _ (none_failed : middle.read_faults ≡ before.read_faults) where
    pub last_failed : LastReadFailed middle now → LastReadFailed before now
    last_failed last = (last.0 ∙ ap risen none_failed, last.1)
