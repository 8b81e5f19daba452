-- What a sample job is to write is one, and is there.
use Rattle.std.proofs.Common.{All, List, [], ap, false, map, pos, refl, subst, sym, ℕ, ℤ, ◌*◌, ◌++◌, ◌+◌, ◌∙◌, ◌∷◌, ◌≡◌}
use Rattle.std.specs.List.{IsDistinct}
use Rattle.std.specs.Ordering.{int_eq}
use Rattle.std.proofs.lemmas.List.Elements.{All-cons, All-head, All-nil, All-tail}
use Rattle.osm_elements.specs.declared.object.Object.{Object}
use Rattle.osm_elements.specs.declared.object.ObjectRef.{ObjectRef}
use Rattle.osm_area.specs.Outcome.{IsOutcome, OutcomeExists}
use Rattle.osm_objects.specs.Candidates.{candidates, without_lists}
use Rattle.osm_objects.specs.CoastWays.{coast_ways}
use Rattle.osm_job.specs.Sent.{to_output}
use Rattle.osm_job.specs.Whole.{Whole}
use Rattle.osm_job.specs.declared.ended.Ended.TheVariants as ended
use Rattle.osm_sample.specs.Input.{sample_objects}
use Rattle.osm_sample.specs.Laws.{SampleHasOneCoast}
use Rattle.job_small.specs.Sampling.Sample.{IsSample}
use Rattle.job_small.specs.Sampling.Summary.{AreAssembled, Assembled, IsAssembled, IsSummary, coast_settings, summary_of}
use Rattle.job_small.specs.Sampling.SummaryLines.{area_line, coast_line}
use Rattle.job_small.specs.declared.sample.summary.Summary.{Summary}
use Rattle.osm_area.specs.OneOutcome.{OutcomeIsOne}
use Rattle.one_output.specs.OneCoast.Laws.{CoastCountsAreOne, CoastCountsExist}

abbrev named : List Assembled → List ObjectRef
named all = map (λ (one : Assembled). one.candidate) all

-- ---- it is one

module _ (outcome_one : OutcomeIsOne) (objects : List Object) where
  abbrev Is : Assembled → Type 0
  Is a = IsAssembled objects a

  assembled_one : (a b : Assembled) → a.candidate ≡ b.candidate → Is a → Is b → a ≡ b
  assembled_one a b q s t =
      let same = outcome_one objects a.candidate a.outcome b.outcome s (subst (λ (c : ObjectRef). IsOutcome objects c b.outcome) (sym q) t) in
      λ i. record { candidate = q i; outcome = same i }

  all_assembled_one : (xs ys : List Assembled) → named xs ≡ named ys → All Is xs → All Is ys → xs ≡ ys
  all_assembled_one [] [] h s t = refl
  all_assembled_one [] (y ∷ ys) h s t = cc
  all_assembled_one (x ∷ xs) [] h s t = cc
  all_assembled_one (x ∷ xs) (y ∷ ys) h s t =
      ap (λ (a : Assembled). a ∷ xs) (assembled_one x y (cc) (All-head Is x xs s) (All-head Is y ys t))
      ∙ ap (λ (l : List Assembled). y ∷ l) (all_assembled_one xs ys (cc) (All-tail Is x xs s) (All-tail Is y ys t))

module _ (outcome_one : OutcomeIsOne) (counts_one : CoastCountsAreOne) where
  summary_one : (objects : List Object) (a b : Summary) → IsSummary objects a → IsSummary objects b → a ≡ b
  summary_one objects a b s t =
      let all = all_assembled_one outcome_one objects s.all t.all (s.assembled.in_order ∙ sym t.assembled.in_order) s.assembled.right t.assembled.right in
      let coast = counts_one coast_settings objects s.coast t.coast s.coast_right t.coast_right in
      s.counted ∙ ap (λ (xs : List Assembled). summary_of xs s.coast) all ∙ ap (summary_of t.all) coast ∙ sym t.counted

  pub sample_one : (count : ℕ) (v w : Whole) → IsSample count v → IsSample count w → v ≡ w
  sample_one count v w s t =
      let summary = summary_one (sample_objects count) s.summary t.summary s.right t.right in
      let written = s.written ∙ ap (λ (m : Summary). map to_output (area_line m ++ coast_line m)) summary ∙ sym t.written in
      let ended = s.ended ∙ sym t.ended in
      λ i. record { written = written i; ended = ended i }

-- ---- it is there

assembled_there : OutcomeExists → (objects : List Object) (chosen : List ObjectRef) → (all : List Assembled) × AreAssembled objects chosen all
assembled_there exists objects [] = ([], record { in_order = refl; right = All-nil (IsAssembled objects) })
assembled_there exists objects (c ∷ cs) =
    let outcome = exists objects c in
    let rest = assembled_there exists objects cs in
    let first : Assembled = record { candidate = c; outcome = outcome.0 } in (
      first ∷ rest.0,
      record { in_order = ap (λ (l : List ObjectRef). c ∷ l) rest.1.in_order; right = All-cons (IsAssembled objects) first rest.0 outcome.1 rest.1.right },
    )

one_is_distinct : (x : ℤ) → IsDistinct int_eq (x ∷ [])
unfolding IsDistinct
one_is_distinct x = (tt, tt)

module _ (outcome_exists : OutcomeExists) (counts_exist : CoastCountsExist) (one_coast : SampleHasOneCoast) where
  ways_apart : (count : ℕ) → IsDistinct int_eq (coast_ways (sample_objects count))
  ways_apart count = subst (IsDistinct int_eq) (sym (one_coast count)) (one_is_distinct (pos (2 * (count * count) + 1)))

  pub sample_there : (count : ℕ) → (w : Whole) × IsSample count w
  sample_there count =
      let all = assembled_there outcome_exists (sample_objects count) (candidates (without_lists false) (sample_objects count)) in
      let coast = counts_exist coast_settings (sample_objects count) (ways_apart count) in
      let summary = summary_of all.0 coast.0 in (
        record { written = map to_output (area_line summary ++ coast_line summary); ended = ended.Done },
        record {
          summary = summary;
          right = record { all = all.0; assembled = all.1; coast = coast.0; coast_right = coast.1; counted = refl };
          written = refl;
          ended = refl;
        },
      )
