-- An input that is read, and behind it a text: what was taken off both.
use Rattle.std.proofs.Common.{◌≡◌, ◌∙◌, refl, sym, ap, subst, ℕ, List, [], ◌∷◌, Option, Some, IfSome, Result, Ok, Err, inl, inr}
use Rattle.osm_elements.specs.declared.object.Object.{Object}
use Rattle.osm_host.specs.Laws.{StreamsAppend}
use Rattle.osm_host.specs.Outside.{Outside, Opened, input, appended, risen}
use Rattle.osm_input.specs.declared.reading.ReadError.{ReadError}
use Rattle.osm_input.specs.declared.reading.ReadError.TheVariants as read
use Rattle.osm_input.specs.declared.text.TextError.{TextError}
use Rattle.osm_input.specs.declared.text.TextError.TheVariants as text_fault
use Rattle.osm_input.specs.Text.{IsTextAs}
use Rattle.osm_job.specs.declared.ended.Ended.{Ended}
use Rattle.osm_job.specs.declared.ended.Ended.TheVariants.{Done, Warnings, Errors, Stopped, BadWords, BadInput, TooMuchInput, TooManyPieces, Refuted, BadPoint}
use Rattle.osm_job.specs.declared.ended.Ended.TheVariants.{OpenFault, ReadFault, WriteFault, OutOfMemory}
use Rattle.osm_job.specs.InputRead.{IsSilent, OpensOne, OpensBoth, HasInput, HasBoth, LacksText}
use Rattle.osm_job.specs.Taken.{TookText, IsReadableInput, IsTextStopped, text_error}
use Rattle.osm_job.specs.TextRead.{HasContent, LacksContent}
use Rattle.osm_job.specs.Whole.{input_limit}
use Rattle.osm_job.proofs.SilentReads.{last_failed, silent_both}

module _ (law : StreamsAppend) (file name : List ℕ) (objects : List Object) (before middle : Outside) (has : HasInput file objects before middle)
    (now : Outside) where
  all_silent : IsSilent middle now → IsSilent before now
  all_silent behind = silent_both before middle now has.silent behind

  opens_both : OpensOne name middle now → OpensBoth file name before now
  opens_both one = one ∙ ap (λ (o : Option (List Opened)). appended o (input name ∷ [])) has.opens ∙ law.opens before.opens (input file ∷ []) (input name ∷ [])

  named_same : middle.named name ≡ before.named name
  named_same = ap (λ (f : List ℕ → Option (List ℕ)). f name) has.silent.keeps.named

  took_text : (result : Result (List ℕ) TextError) → TookText name result middle now → TookText name result before now
  took_text result took = record { taken = took.taken; left = sym named_same ∙ took.left; counted = took.counted; answer = took.answer }

  of_named : (result : Result (List ℕ) TextError) → IfSome (middle.named name) (λ bytes. IsTextAs input_limit bytes result) →
      IfSome (before.named name) (λ bytes. IsTextAs input_limit bytes result)
  of_named result told = subst (λ (o : Option (List ℕ)). IfSome o (λ bytes. IsTextAs input_limit bytes result)) named_same told

  is_readable : IsReadableInput file before
  is_readable = (objects, has.right)

  stopped_by : (error : ReadError) (found : TextError) → text_error error ≡ Some found → TookText name (Err found) middle now → OpensOne name middle now →
      IsTextStopped file name error before now
  stopped_by error found is took one = (is_readable, found, is, took_text (Err found) took, opens_both one)

  -- both are read
  pub both_read : (content : List ℕ) → HasContent name content middle now → HasBoth file name objects content before now
  both_read content c = record {
    right = has.right;
    right_text = of_named (Ok content) c.right;
    took = took_text (Ok content) c.took;
    opens = opens_both c.opens;
    open_faults = c.open_faults ∙ has.open_faults;
    read_faults = c.read_faults ∙ has.read_faults;
    silent = all_silent c.silent;
  }

  -- the text isn't opened, isn't read, or has too many bytes
  pub no_text : (ended : Ended) → LacksContent name ended middle now → LacksText file name ended before now
  no_text Done l = absurd l.lack
  no_text Warnings l = absurd l.lack
  no_text Errors l = absurd l.lack
  no_text (Stopped candidate) l = absurd l.lack
  no_text (BadWords cause) l = absurd l.lack
  no_text (BadInput line fault) l = absurd l.lack
  no_text (TooMuchInput limit) l = record {
    readable = is_readable;
    lack = record {
      right = of_named (Err (text_fault.TooMuchInput limit)) l.lack.right;
      stopped = stopped_by (read.TooMuchInput limit) (text_fault.TooMuchInput limit) refl l.lack.took l.lack.opens;
      opens = opens_both l.lack.opens;
    };
    faults = record { opens = l.faults.opens ∙ has.open_faults; reads = l.faults.reads ∙ has.read_faults };
    silent = all_silent l.silent;
  }
  no_text (TooManyPieces most) l = absurd l.lack
  no_text (Refuted line) l = absurd l.lack
  no_text (BadPoint line) l = absurd l.lack
  no_text OpenFault l = record {
    readable = is_readable;
    lack = elim l.lack [
      | inl one ↦ inl (opens_both one)
      | inr none ↦ inr (none ∙ has.opens)
    ];
    faults = record { opens = l.faults.opens ∙ ap risen has.open_faults; reads = l.faults.reads ∙ has.read_faults };
    silent = all_silent l.silent;
  }
  no_text ReadFault l = record {
    readable = is_readable;
    lack = (stopped_by read.ReadFault text_fault.ReadFault refl l.lack.0 l.lack.1, opens_both l.lack.1);
    faults = record { opens = l.faults.opens ∙ has.open_faults; reads = last_failed before middle now has.read_faults l.faults.reads };
    silent = all_silent l.silent;
  }
  no_text WriteFault l = absurd l.lack
  no_text OutOfMemory l = record {
    readable = is_readable;
    lack = opens_both l.lack;
    faults = record { opens = l.faults.opens ∙ has.open_faults; reads = l.faults.reads ∙ has.read_faults };
    silent = all_silent l.silent;
  }
