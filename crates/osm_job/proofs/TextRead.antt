-- A text that is opened and read: what was taken off it.
use Rattle.std.proofs.Common.{◌≡◌, ◌∙◌, sym, ap, subst, ℕ, ◌≤◌, ◌⊎◌, List, [], ◌∷◌, length, Option, IfSome, is_some, Result, Ok, Err}
use Rattle.osm_host.specs.Outside.{Outside, input, appended, grown, risen, OnlyOpens, OnlyReads}
use Rattle.osm_input.specs.declared.text.TextError.{TextError}
use Rattle.osm_input.specs.declared.text.TextError.TheVariants as text_fault
use Rattle.osm_input.specs.Keeps.{KeepsNames}
use Rattle.osm_input.specs.Text.{IsTextAs, IsTextOf, ReadsText, TookWhole, ReadsTextOnce}
use Rattle.osm_job.specs.declared.ended.Ended.TheVariants.{OpenFault}
use Rattle.osm_job.specs.InputRead.{IsSilent, OpensOne}
use Rattle.osm_job.specs.Taken.{TookText}
use Rattle.osm_job.specs.TextRead.{HasContent, LacksContent}
use Rattle.osm_job.specs.Whole.{text_ended, input_limit}
use Rattle.osm_job.proofs.SilentReads.{last_failed, opening_silent, reading_silent, silent_both}

module _ (name : List ℕ) (before middle : Outside) (only : OnlyOpens before middle) (told_still : is_some middle.left ≡ is_some before.left)
    (rises : before.open_faults ≤ middle.open_faults) where
  opened : IsSilent before middle
  opened = opening_silent before middle only told_still rises

  -- it isn't opened
  pub text_not_opened : middle.open_faults ≡ risen before.open_faults →
      ((middle.opens ≡ appended before.opens (input name ∷ [])) ⊎ (middle.opens ≡ before.opens)) → LacksContent name OpenFault before middle
  text_not_opened failed listed_or_not = record {
    lack = listed_or_not;
    faults = record { opens = failed; reads = only.read_faults };
    silent = opened;
  }

  module _ (listed : middle.opens ≡ appended before.opens (input name ∷ [])) (begins : middle.left ≡ before.named name) (none_read : middle.bytes_read ≡ 0)
      (answered : middle.open_faults ≡ before.open_faults)
      (now : Outside) (reads_only : OnlyReads middle now) (read_keeps : KeepsNames middle now) where
    silent_since : IsSilent before now
    silent_since = silent_both before middle now opened (reading_silent middle now reads_only read_keeps)

    opens_one : OpensOne name before now
    opens_one = reads_only.opens ∙ listed

    took_text : (result : Result (List ℕ) TextError) → TookWhole input_limit middle now result → TookText name result before now
    took_text result took = record {
      taken = took.taken;
      left = sym begins ∙ took.left;
      counted = took.counted ∙ ap (λ (n : ℕ). grown n (length took.taken)) none_read;
      answer = took.answer;
    }

    of_named : (result : Result (List ℕ) TextError) → IfSome middle.left (λ bytes. IsTextAs input_limit bytes result) →
        IfSome (before.named name) (λ bytes. IsTextAs input_limit bytes result)
    of_named result told = subst (λ (o : Option (List ℕ)). IfSome o (λ bytes. IsTextAs input_limit bytes result)) begins told

    -- it is read
    pub text_is_read : (content : List ℕ) → ReadsText input_limit middle now (Ok content) →
        IfSome middle.left (λ bytes. IsTextOf input_limit bytes (Ok content)) →
        ReadsTextOnce middle now (Ok content) → HasContent name content before now
    text_is_read content reads told once = record {
      right = of_named (Ok content) told;
      took = took_text (Ok content) reads;
      opens = opens_one;
      open_faults = reads_only.open_faults ∙ answered;
      read_faults = once ∙ only.read_faults;
      silent = silent_since;
    }

    -- it isn't read
    pub text_not_read : (error : TextError) → ReadsText input_limit middle now (Err error) →
        IfSome middle.left (λ bytes. IsTextOf input_limit bytes (Err error)) →
        ReadsTextOnce middle now (Err error) → LacksContent name (text_ended error) before now
    text_not_read (text_fault.TooMuchInput limit) reads told once = record {
      lack = record {
        right = of_named (Err (text_fault.TooMuchInput limit)) told;
        took = took_text (Err (text_fault.TooMuchInput limit)) reads;
        opens =
            opens_one;
      };
      faults = record { opens = reads_only.open_faults ∙ answered; reads = once ∙ only.read_faults };
      silent = silent_since;
    }
    text_not_read text_fault.ReadFault reads told once = record {
      lack = (took_text (Err text_fault.ReadFault) reads, opens_one);
      faults = record { opens = reads_only.open_faults ∙ answered; reads = last_failed before middle now only.read_faults once };
      silent = silent_since;
    }
    text_not_read text_fault.OutOfMemory reads told once = record {
      lack = opens_one;
      faults = record { opens = reads_only.open_faults ∙ answered; reads = once ∙ only.read_faults };
      silent = silent_since;
    }
