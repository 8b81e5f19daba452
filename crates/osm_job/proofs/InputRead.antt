-- An input that is opened and read: what was taken off it.
use Rattle.std.proofs.Common.{◌≡◌, ◌∙◌, sym, ap, subst, ℕ, ◌≤◌, ◌⊎◌, List, [], ◌∷◌, length, Option, IfSome, is_some, Result, Ok, Err}
use Rattle.osm_elements.specs.declared.object.Object.{Object}
use Rattle.osm_host.specs.Outside.{Outside, input, appended, grown, risen, OnlyOpens, OnlyReads}
use Rattle.osm_input.specs.declared.reading.ReadError.{ReadError}
use Rattle.osm_input.specs.declared.reading.ReadError.TheVariants as read
use Rattle.osm_input.specs.Keeps.{KeepsNames}
use Rattle.osm_input.specs.Reading.{IsReadAs, IsReadOf, Reads, Took, ReadsOnce}
use Rattle.osm_job.specs.declared.ended.Ended.TheVariants.{OpenFault}
use Rattle.osm_job.specs.InputRead.{IsSilent, OpensOne, HasInput, RefusesInput, LacksInput}
use Rattle.osm_job.specs.Taken.{TookOff, IsFileStopped}
use Rattle.osm_job.specs.Whole.{ending_of_read, input_limit, longest_line}
use Rattle.osm_job.proofs.SilentReads.{last_failed, opening_silent, reading_silent, silent_both}

module _ (name : List ℕ) (before middle : Outside) (only : OnlyOpens before middle) (told_still : is_some middle.left ≡ is_some before.left)
    (rises : before.open_faults ≤ middle.open_faults) where
  opened : IsSilent before middle
  opened = opening_silent before middle only told_still rises

  -- it isn't opened
  pub input_not_opened : middle.open_faults ≡ risen before.open_faults →
      ((middle.opens ≡ appended before.opens (input name ∷ [])) ⊎ (middle.opens ≡ before.opens)) → LacksInput name OpenFault before middle
  input_not_opened failed listed_or_not = record {
    lack = listed_or_not;
    faults = record { opens = failed; reads = only.read_faults };
    silent = opened;
  }

  module _ (listed : middle.opens ≡ appended before.opens (input name ∷ [])) (begins : middle.left ≡ before.named name) (none_read : middle.bytes_read ≡ 0)
      (answered : middle.open_faults ≡ before.open_faults)
      (now : Outside) (reads_only : OnlyReads middle now) (read_keeps : KeepsNames middle now) where
    silent_since : IsSilent before now
    silent_since = silent_both before middle now opened (reading_silent middle now reads_only read_keeps)

    opens_one : OpensOne name before now
    opens_one = reads_only.opens ∙ listed

    took_off : (result : Result (List Object) ReadError) → Took input_limit longest_line middle now result → TookOff name result before now
    took_off result took = record {
      taken = took.taken;
      left = sym begins ∙ took.left;
      counted = took.counted ∙ ap (λ (n : ℕ). grown n (length took.taken)) none_read;
      answer = took.answer;
    }

    is_stopped : (error : ReadError) → Took input_limit longest_line middle now (Err error) → IsFileStopped name error before now
    unfolding took_off
    is_stopped error took = (took_off (Err error) took, opens_one)

    of_named : (result : Result (List Object) ReadError) → IfSome middle.left (λ bytes. IsReadAs input_limit longest_line bytes result) →
        IfSome (before.named name) (λ bytes. IsReadAs input_limit longest_line bytes result)
    of_named result told = subst (λ (o : Option (List ℕ)). IfSome o (λ bytes. IsReadAs input_limit longest_line bytes result)) begins told

    -- it is read
    pub input_read : (objects : List Object) → Reads input_limit longest_line middle now (Ok objects) →
        IfSome middle.left (λ bytes. IsReadOf input_limit longest_line bytes (Ok objects)) →
        ReadsOnce middle now (Ok objects) → HasInput name objects before now
    input_read objects reads told once = record {
      right = of_named (Ok objects) told;
      took = took_off (Ok objects) reads;
      opens = opens_one;
      open_faults = reads_only.open_faults ∙ answered;
      read_faults = once ∙ only.read_faults;
      silent = silent_since;
    }

    refuses : (error : ReadError) → IfSome middle.left (λ bytes. IsReadAs input_limit longest_line bytes (Err error)) →
        Took input_limit longest_line middle now (Err error) → RefusesInput name error before now
    refuses error told took = record { right = of_named (Err error) told; stopped = is_stopped error took; opens = opens_one }

    -- it isn't read
    pub input_not_read : (error : ReadError) → Reads input_limit longest_line middle now (Err error) →
        IfSome middle.left (λ bytes. IsReadOf input_limit longest_line bytes (Err error)) →
        ReadsOnce middle now (Err error) → LacksInput name (ending_of_read error) before now
    input_not_read (read.BadInput line fault) reads told once = record {
      lack = refuses (read.BadInput line fault) told reads;
      faults = record { opens = reads_only.open_faults ∙ answered; reads = once ∙ only.read_faults };
      silent = silent_since;
    }
    input_not_read (read.TooMuchInput limit) reads told once = record {
      lack = refuses (read.TooMuchInput limit) told reads;
      faults = record { opens = reads_only.open_faults ∙ answered; reads = once ∙ only.read_faults };
      silent = silent_since;
    }
    input_not_read read.ReadFault reads told once = record {
      lack = (is_stopped read.ReadFault reads, opens_one);
      faults = record { opens = reads_only.open_faults ∙ answered; reads = last_failed before middle now only.read_faults once };
      silent = silent_since;
    }
    input_not_read read.OutOfMemory reads told once = record {
      lack = opens_one;
      faults = record { opens = reads_only.open_faults ∙ answered; reads = once ∙ only.read_faults };
      silent = silent_since;
    }
