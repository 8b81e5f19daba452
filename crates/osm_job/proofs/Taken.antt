-- What was taken off the inputs, seen behind calls that touch none.
use Rattle.std.proofs.Common.{◌≡◌, ◌∙◌, sym, ap, subst, ℕ, List, [], ◌∷◌, inl, inr, Option, None, Some, IfSome, Result, Ok, Err}
use Rattle.osm_elements.specs.declared.object.Object.{Object}
use Rattle.osm_host.specs.Outside.{Outside, preceded}
use Rattle.osm_input.specs.declared.reading.ReadError.{ReadError}
use Rattle.osm_input.specs.declared.reading.ReadError.TheVariants as read
use Rattle.osm_input.specs.declared.text.TextError.{TextError}
use Rattle.osm_input.specs.declared.text.TextError.TheVariants as text_fault
use Rattle.osm_job.specs.Cause.{Cause, by_itself, by_words, by_input, by_verdict, by_open, by_read, by_write, by_memory}
use Rattle.osm_input.specs.Reading.{IsAnswerOfReading}
use Rattle.osm_input.specs.Text.{IsTextAnswer}
use Rattle.osm_job.specs.Taken.{TookOff, TookText, IsStopped, TookInput, TookBoth, TookBy}
use Rattle.osm_job.specs.Whole.{input_limit, longest_line}

module _ (middle now : Outside) (same : now.left ≡ middle.left) where
  nothing_left : IfSome middle.left (λ left. left ≡ []) → IfSome now.left (λ left. left ≡ [])
  nothing_left ended = subst (λ (o : Option (List ℕ)). IfSome o (λ left. left ≡ [])) (sym same) ended

  answer_kept : (limit longest : ℕ) (taken : List ℕ) (result : Result (List Object) ReadError) → IsAnswerOfReading limit longest taken middle result →
      IsAnswerOfReading limit longest taken now result
  answer_kept limit longest taken (Ok objects) answer = (nothing_left answer.0, answer.1)
  answer_kept limit longest taken (Err (read.BadInput line fault)) answer = (
    elim answer.0 [
      | inl bad ↦ inl bad
      | inr bad ↦ inr (nothing_left bad.0, bad.1, bad.2)
    ],
    answer.1,
  )
  answer_kept limit longest taken (Err (read.TooMuchInput most)) answer = answer
  answer_kept limit longest taken (Err read.ReadFault) answer = answer
  answer_kept limit longest taken (Err read.OutOfMemory) answer = tt

  text_answer_kept : (limit : ℕ) (taken : List ℕ) (result : Result (List ℕ) TextError) → IsTextAnswer limit taken middle result →
      IsTextAnswer limit taken now result
  text_answer_kept limit taken (Ok bytes) answer = (nothing_left answer.0, answer.1)
  text_answer_kept limit taken (Err (text_fault.TooMuchInput most)) answer = answer
  text_answer_kept limit taken (Err text_fault.ReadFault) answer = answer
  text_answer_kept limit taken (Err text_fault.OutOfMemory) answer = tt

  module _ (counted : now.bytes_read ≡ middle.bytes_read) (before : Outside) where
    pub took_kept : (name : List ℕ) (result : Result (List Object) ReadError) → TookOff name result before middle → TookOff name result before now
    took_kept name result took = record {
      taken = took.taken;
      left = took.left ∙ ap (λ (o : Option (List ℕ)). preceded took.taken o) (sym same);
      counted = counted ∙ took.counted;
      answer = answer_kept input_limit longest_line took.taken result took.answer;
    }

    pub text_kept : (name : List ℕ) (result : Result (List ℕ) TextError) → TookText name result before middle → TookText name result before now
    text_kept name result took = record {
      taken = took.taken;
      left = took.left ∙ ap (λ (o : Option (List ℕ)). preceded took.taken o) (sym same);
      counted = counted ∙ took.counted;
      answer = text_answer_kept input_limit took.taken result took.answer;
    }

    pub input_kept : (name : List ℕ) → TookInput name before middle → TookInput name before now
    input_kept name took = (took.0, took_kept name (Ok took.0) took.1)

    pub both_kept : (file other : List ℕ) → TookBoth file other before middle → TookBoth file other before now
    both_kept file other took = (took.0, took.1, text_kept other (Ok took.1) took.2)

    stop_kept : (inputs : List (List ℕ)) (error : ReadError) → now.opens ≡ middle.opens → IsStopped inputs error before middle →
        IsStopped inputs error before now
    stop_kept [] error opens stopped = stopped
    stop_kept (file ∷ []) error opens stopped = (took_kept file (Err error) stopped.0, opens ∙ stopped.1)
    stop_kept (file ∷ other ∷ more) error opens (inl stopped) = inl (took_kept file (Err error) stopped.0, opens ∙ stopped.1)
    stop_kept (file ∷ other ∷ more) error opens (inr stopped) =
        inr (stopped.0, stopped.1, stopped.2, text_kept other (Err stopped.1) stopped.3, opens ∙ stopped.4)

    pub stopped_kept : (inputs : List (List ℕ)) (error : Option ReadError) → now.opens ≡ middle.opens → IfSome error (λ e. IsStopped inputs e before middle) →
        IfSome error (λ e. IsStopped inputs e before now)
    stopped_kept inputs None opens stopped = tt
    stopped_kept inputs (Some error) opens stopped = stop_kept inputs error opens stopped

-- where all inputs are taken still, they are so by each cause
pub taken_kept : (TookAll : Outside → Outside → Type 0) (before middle now : Outside) → (TookAll before middle → TookAll before now) → (cause : Cause) →
    TookBy TookAll cause before middle → TookBy TookAll cause before now
taken_kept TookAll before middle now still by_itself took = still took
taken_kept TookAll before middle now still by_words took = took
taken_kept TookAll before middle now still by_input took = tt
taken_kept TookAll before middle now still by_verdict took = still took
taken_kept TookAll before middle now still by_open took = tt
taken_kept TookAll before middle now still by_read took = tt
taken_kept TookAll before middle now still by_write took = still took
taken_kept TookAll before middle now still by_memory took = tt
