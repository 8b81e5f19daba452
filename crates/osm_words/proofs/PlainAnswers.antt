-- What a call answers to plain words, and what values and names say. No public contract cites it.
use Rattle.std.proofs.Common.{◌≡◌, ◌&&◌, ◌∙◌, Bool, true, false, Option, Some, Result, Ok, Err, codes, refl, sym, ap, true≢false, List}
use Rattle.std.specs.Option.{option_map_or}
use Rattle.std.specs.Str.{bytes_eq}
use Rattle.std.proofs.lemmas.Slice.Eq.{bytes_eq-Decides}
use Rattle.std.specs.Prelude.{unwrap_or}
use Rattle.clap.specs.Words.{Row, Shape, Text, first_of}
use Rattle.osm_words.specs.Job.{Job}
use Rattle.osm_words.specs.Answers.{AnswersJob, AnswersWords}
use Rattle.osm_words.specs.PlainExport.{ids_text}
use Rattle.osm_words.specs.Ranges.{are_both_dashes, ids_said}
use Rattle.osm_words.specs.declared.fault.WordsFault.{WordsFault}
use Rattle.osm_words.specs.declared.fault.WordsError.{WordsError}
use Rattle.osm_words.specs.declared.fault.WordsError.TheVariants.{BadWords, OutOfMemory}
use Rattle.osm_words.specs.declared.settings.Job.{Job as CodeJob}
use Rattle.osm_objects.specs.declared.area.UniqueId.{UniqueId}
use Rattle.osm_objects.specs.declared.area.UniqueId.TheVariants.{Counter, TypeId}
use Rattle.osm_words.specs.Parsed.{is_set}
use Rattle.osm_words.proofs.Taken.{value_in}

abbrev pub flag_said : Option Text → Bool
flag_said value = option_map_or (λ word. bytes_eq word (codes "true")) value false

-- what rows say by a name: a text, where none stands this one, and a flag
abbrev pub SaysText : Shape → List Row → Text → Text → Text → Type 0
SaysText s rows name default word = unwrap_or (value_in s name rows) default ≡ word

abbrev pub SaysFlag : Shape → List Row → Text → Bool → Type 0
SaysFlag s rows name flag = flag_said (value_in s name rows) ≡ flag

-- rows in which each name has the value of `found` say what `found` says
module _ (s : Shape) (rows found : List Row) (same : (name : Text) → first_of name rows ≡ value_in s name found) where
  pub text_read : (name default word : Text) → SaysText s found name default word → unwrap_or (first_of name rows) default ≡ word
  text_read name default word says = ap (λ (o : Option Text). unwrap_or o default) (same name) ∙ says

  pub flag_read : (name : Text) (flag : Bool) → SaysFlag s found name flag → is_set name rows ≡ flag
  flag_read name flag says = ap flag_said (same name) ∙ says

pub ids_read : (i : UniqueId) → ids_said (Some (ids_text i)) ≡ Some (Some i)
ids_read Counter = refl
ids_read TypeId = refl

-- two names that aren't both a lone dash, as the test sees them
pub not_both_dashes : (file second : Text) → ¬ ((file ≡ codes "-") × (second ≡ codes "-")) → are_both_dashes file second ≡ false
not_both_dashes file second not_both = go (bytes_eq file (codes "-")) (bytes_eq second (codes "-")) refl refl
  where
    go : (a b : Bool) → bytes_eq file (codes "-") ≡ a → bytes_eq second (codes "-") ≡ b → (a && b) ≡ false
    go true true first other = absurd (not_both ((bytes_eq-Decides file (codes "-")).0 first, (bytes_eq-Decides second (codes "-")).0 other))
    go true false first other = refl
    go false b first other = refl

abbrev job_or : Job → Result Job WordsFault → Job
job_or job (Ok given) = given
job_or job (Err fault) = job

abbrev is_job : Result Job WordsFault → Bool
is_job (Ok given) = true
is_job (Err fault) = false

-- an answer that is what was asked gives the job, where a job was asked
pub answers_give : (asked : Result Job WordsFault) (job : Job) (r : Result CodeJob WordsError) → asked ≡ Ok job → AnswersWords asked r → AnswersJob job r
answers_give asked job (Ok found) is answers = ap (job_or job) (sym answers ∙ is)
answers_give asked job (Err OutOfMemory) is answers = refl
answers_give asked job (Err (BadWords fault)) is answers = absurd (true≢false (ap is_job (sym is ∙ answers)))
