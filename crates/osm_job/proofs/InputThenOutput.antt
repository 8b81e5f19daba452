-- A job that reads one input and then writes one output: each way in which it ends.
use Rattle.std.proofs.Common.{◌≡◌, refl, ℕ, ◌≤◌, ◌⊎◌, List, [], ◌∷◌, Option, None, Some, IfSome, Ok, Err}
use Rattle.osm_elements.specs.declared.object.Object.{Object}
use Rattle.osm_host.specs.Laws.{StreamsAppend}
use Rattle.osm_host.specs.Outside.{Outside, Opened, appended, risen, OnlyOpens}
use Rattle.osm_input.specs.declared.reading.ReadError.{ReadError}
use Rattle.osm_input.specs.Reading.{IsReadAs}
use Rattle.osm_job.proofs.InputLacks.{lacks_first, some_input}
use Rattle.osm_job.proofs.OnceRead as once
use Rattle.osm_job.proofs.Taken.{took_kept}
use Rattle.osm_job.specs.declared.ended.Ended.{Ended}
use Rattle.osm_job.specs.declared.ended.Ended.TheVariants.{TooManyPieces, OpenFault, OutOfMemory}
use Rattle.osm_job.specs.Cause.{by_itself, cause_of}
use Rattle.osm_job.specs.InputRead.{HasInput, LacksInput}
use Rattle.osm_job.specs.Taken.{TookInput}
use Rattle.osm_job.specs.Texts.{Texts, both}
use Rattle.osm_job.specs.Whole.{Whole, ending_of_read, silent, input_limit, longest_line}
use Rattle.osm_job.specs.Worked.{OverOne, ReadThenWrote, WroteOver}

module _ (law : StreamsAppend) (name : List ℕ) (second : Opened) (IsRight : List Object → Whole → Type 0) (before : Outside) where
  abbrev Right : Texts (name ∷ []) → Whole → Type 0
  Right = OverOne IsRight name

  abbrev Does : Ended → Outside → Type 0
  Does ended now = ReadThenWrote name second IsRight ended before now

  refused : (told : Option (List ℕ)) (error : ReadError) → IfSome told (λ bytes. IsReadAs input_limit longest_line bytes (Err error)) →
      IfSome (both told (Some tt)) (λ texts. Right texts (silent (ending_of_read error)))
  refused None error is = tt
  refused (Some bytes) error is = record { read = Err error; is_read = is; after = refl }

  -- the input isn't opened, isn't read, or is refused
  pub lacks_input : (ended : Ended) (now : Outside) → LacksInput name ended before now → Does ended now
  lacks_input ended now lacks =
      lacks_first law name [] (second ∷ []) Right (TookInput name) before now (λ error is. refused (before.named name) error is) (λ error stopped. stopped)
      ended lacks

  module _ (objects : List Object) (now : Outside) (has : HasInput name objects before now) where
    right_told : (told : Option (List ℕ)) → IfSome told (λ bytes. IsReadAs input_limit longest_line bytes (Ok objects)) → (whole : Whole) →
        IsRight objects whole →
        IfSome (both told (Some tt)) (λ texts. Right texts whole)
    right_told None is whole right = tt
    right_told (Some bytes) is whole right = record { read = Ok objects; is_read = is; after = right }

    has_read : once.HasRead (name ∷ []) Right (TookInput name) (IsRight objects) before now
    has_read = record {
      silent = has.silent;
      opens = has.opens;
      open_faults = has.open_faults;
      read_faults = has.read_faults;
      took = λ later left counted. (objects, took_kept now later left counted before name (Ok objects) has.took);
      untouched = λ none. absurd (some_input name [] none);
      first = tt;
      right = λ whole right. right_told (before.named name) has.right whole right;
    }

    -- memory ran out behind the reading
    pub no_memory : Does OutOfMemory now
    no_memory = once.no_memory law (name ∷ []) (second ∷ []) Right (TookInput name) before (IsRight objects) now has_read

    -- there are too many pieces
    pub too_many : (most : ℕ) → IsRight objects (silent (TooManyPieces most)) → Does (TooManyPieces most) now
    too_many most right = once.verdict law (name ∷ []) (second ∷ []) Right (TookInput name) before (IsRight objects) now has_read (TooManyPieces most) refl
        right

    -- ---- the output is asked for

    module _ (opened : Outside) (opens_only : OnlyOpens now opened) (still_left : opened.left ≡ now.left) (rises : now.open_faults ≤ opened.open_faults)
        (still_counted : opened.bytes_read ≡ now.bytes_read) where
      -- it isn't opened
      pub output_not_opened : (whole : Whole) × IsRight objects whole × (cause_of whole.ended ≡ by_itself) → opened.open_faults ≡ risen now.open_faults →
          ((opened.opens ≡ appended now.opens (second ∷ [])) ⊎ (opened.opens ≡ now.opens)) → Does OpenFault opened
      output_not_opened goes failed listed_or_not =
          once.output_not_opened law (name ∷ []) second Right (TookInput name) before (IsRight objects) now has_read opened opens_only still_left rises
          still_counted goes failed listed_or_not

      -- it was written, as far as the job came
      pub output_written : (lists : opened.opens ≡ appended now.opens (second ∷ [])) (same : opened.open_faults ≡ now.open_faults) (last : Outside)
          (ended : Ended) →
          WroteOver (IsRight objects) ended opened last → Does ended last
      output_written lists same last ended wrote =
          once.output_written law (name ∷ []) second Right (TookInput name) before (IsRight objects) now has_read opened opens_only still_left rises
          still_counted lists same last ended wrote
