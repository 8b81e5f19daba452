-- The verdict on a text: it is there, and there is one alone.
use Rattle.std.proofs.Common.{◌≡◌, ◌∙◌, refl, sym, ap, subst, ℕ, ◌+◌, ◌<◌, Bool, true, false, List, [], ◌∷◌, ◌++◌, ◌⊎◌, inl, inr, ⊎_elim, length, Some, slice_get, append_assoc, append-nil, length-append, bytes_eq, arith, Option}
use Rattle.std.proofs.lemmas.Bool.{cases_lt}
use Rattle.std.proofs.lemmas.Option.{slice_get_within}
use Rattle.std.proofs.lemmas.Slice.Eq.{bytes_eq-Decides}
use Rattle.osm_elements.specs.declared.object.Object.{Object}
use Rattle.osm_elements.specs.declared.object.ObjectRef.{ObjectRef}
use Rattle.osm_objects.specs.Objects.{object_at}
use Rattle.osm_objects.specs.declared.problem.Note.{Note}
use Rattle.osm_objects.specs.declared.problem.Problem.{Problem}
use Rattle.osm_objects.specs.Candidates.{candidates}
use Rattle.osm_area.specs.Outcome.{HasAreaExactly, IsOutcome, OutcomeExists}
use Rattle.osm_area.specs.Sound.{IsSound}
use Rattle.osm_area.specs.declared.outcome.Outcome.{Outcome}
use Rattle.osm_area.specs.declared.outcome.Outcome.TheVariants.{Area, Problems}
use Rattle.osm_nest.specs.declared.polygon.Polygon.{Polygon}
use Rattle.osm_text.specs.Feature.{feature_text}
use Rattle.osm_text.specs.Paths.{paths_of}
use Rattle.osm_area.specs.OneOutcome.{OutcomeIsOne}
use Rattle.osm_objects.specs.declared.area.UniqueId.{UniqueId}
use Rattle.area_certify.specs.declared.verdict.Verdict.TheVariants.{Yes, No}
use Rattle.area_certify.specs.Areas.{AreThoseWithAreas}
use Rattle.area_certify.specs.FirstWrong.{AreRight, HasNoWrong, IsFeature, IsFirstWrong, IsRightLine, lacking, not_right}
use Rattle.osm_text.specs.Id.{feature_id}
use Rattle.osm_area.specs.Feature.{feature_tags}
use Rattle.area_certify.specs.Laws.{FirstWrongLineIsOne, TextsHaveAVerdict, VerdictsExclude}
use Rattle.area_certify.specs.Lines.{text_lines}
use Rattle.area_certify.specs.Telling.{IsVerdict}
use Rattle.area_certify.proofs.ChosenItems.{those_append, those_exist, those_same}
use Rattle.area_certify.proofs.RightLines.{IsSeen, area_seen, get_middle, its_feature, no_area_seen, none_seen, right_in_more}

-- ---- one alone

module _ (ids : Option UniqueId) (objects : List Object) (areas : List ObjectRef) (lines : List (List ℕ)) where
  -- a line within the right ones is right
  clash : (count k : ℕ) (line : List ℕ) → AreRight ids objects areas lines count → k < count → slice_get lines k ≡ Some line →
      (IsRightLine ids objects areas k line → ⊥) → ⊥
  clash count k line right lt got wrong = wrong (right k line lt got)

  same_number : (m n : ℕ) → IsFirstWrong ids objects areas lines m → IsFirstWrong ids objects areas lines n → m ≡ n
  same_number m n (not_right j line at wrong right is) (not_right k other got false_too right_too is_too) =
      ⊎_elim (λ below. absurd (clash k j line right_too below at wrong))
      (λ above. ⊎_elim (λ below. absurd (clash j k other right below got false_too)) (λ over. omega arith) (cases_lt k j))
      (cases_lt j k)
  same_number m n (not_right j line at wrong right is) (lacking right_too fewer is_too) = absurd (clash (length lines) j line right_too
      (slice_get_within lines j line at) at wrong)
  same_number m n (lacking right fewer is) (not_right k other got false_too right_too is_too) = absurd (clash (length lines) k other right
      (slice_get_within lines k other got) got false_too)
  same_number m n (lacking right fewer is) (lacking right_too fewer_too is_too) = is ∙ sym is_too

  exclude : (n : ℕ) → HasNoWrong ids objects areas lines → IsFirstWrong ids objects areas lines n → ⊥
  exclude n none (not_right k line got wrong right is) = clash (length lines) k line none.right (slice_get_within lines k line got) got wrong
  exclude n none (lacking right fewer is) = let many = none.as_many in omega arith

pub one_number : FirstWrongLineIsOne
one_number choice ids objects text m n a b =
    let same : b.0 ≡ a.0 = those_same (IsSound objects) (candidates choice objects) b.0 a.0 b.1 a.1 in
    same_number ids objects a.0 (text_lines text) m n a.2 (subst (λ (areas : List ObjectRef). IsFirstWrong ids objects areas (text_lines text) n) same b.2)

pub not_both : VerdictsExclude
not_both choice ids objects text n a b =
    let same : b.0 ≡ a.0 = those_same (IsSound objects) (candidates choice objects) b.0 a.0 b.1 a.1 in
    exclude ids objects a.0 (text_lines text) n a.2 (subst (λ (areas : List ObjectRef). IsFirstWrong ids objects areas (text_lines text) n) same b.2)

-- ---- how it ends

module _ (ids : Option UniqueId) (objects : List Object) (lines : List (List ℕ)) (count : ℕ) where
  module _ (first later : List ObjectRef) (c : ObjectRef) (sound : IsSound objects c) (others : (areas : List ObjectRef) × AreThoseWithAreas objects later areas) where
    all_areas : (rest : List (List ℕ)) (s : IsSeen ids objects first lines rest count) → AreThoseWithAreas objects (first ++ c ∷ later) (s.areas ++ c ∷ others.0)
    all_areas rest s = those_append (IsSound objects) first (c ∷ later) s.areas (c ∷ others.0) s.those (inl (sound, others.0, others.1, refl))

    -- The next line isn't the feature of the next candidate with an area, or there is none.
    pub stops : (rest : List (List ℕ)) → IsSeen ids objects first lines rest count → ((line : List ℕ) (left : List (List ℕ)) → rest ≡ line ∷ left →
        IsFeature ids objects (count + 1) c line → ⊥) →
        IsVerdict ids objects (first ++ c ∷ later) lines (No (count + 1))
    stops [] s wrong =
        let whole : length lines ≡ count = ap length (s.parted ∙ append-nil s.seen) ∙ s.counted in
        let many = s.as_many in (
          s.areas ++ c ∷ others.0,
          all_areas [] s,
          lacking (right_in_more ids objects s.areas (c ∷ others.0) lines (length lines) (subst (λ (n : ℕ). AreRight ids objects s.areas lines n)
              (sym whole) s.right))
              (let sum = length-append s.areas (c ∷ others.0) in omega arith) (omega arith),
        )
    stops (line ∷ left) s wrong = (
      s.areas ++ c ∷ others.0,
      all_areas (line ∷ left) s,
      not_right count line (ap (λ ls. slice_get ls count) s.parted ∙ get_middle s.seen left line count s.counted)
          (λ right. wrong line left refl (its_feature ids objects s.areas others.0 c count line s.as_many right))
          (right_in_more ids objects s.areas (c ∷ others.0) lines count s.right) refl,
    )

  -- No candidate is left.
  pub line_too_many : (all : List ObjectRef) (line : List ℕ) (left : List (List ℕ)) → IsSeen ids objects all lines (line ∷ left) count →
      IsVerdict ids objects all lines (No (count + 1))
  line_too_many all line left s = (
    s.areas,
    s.those,
    not_right count line (ap (λ ls. slice_get ls count) s.parted ∙ get_middle s.seen left line count s.counted)
        (λ right. let within = slice_get_within s.areas count right.candidate right.place in let many = s.as_many in absurd (omega arith))
        s.right refl,
  )

  pub all_right : (all : List ObjectRef) → IsSeen ids objects all lines [] count → IsVerdict ids objects all lines Yes
  all_right all s =
      let whole : length lines ≡ count = ap length (s.parted ∙ append-nil s.seen) ∙ s.counted in
      (s.areas, s.those, record { right = subst (λ (n : ℕ). AreRight ids objects s.areas lines n) (sym whole) s.right; as_many = whole ∙ sym s.as_many })

-- ---- by the laws of outcomes

sound_by : (exactly : HasAreaExactly) (objects : List Object) (c : ObjectRef) (outcome : Outcome) → IsOutcome objects c outcome →
    IsSound objects c ⊎ (IsSound objects c → ⊥)
sound_by exactly objects c (Area polygons notes) right = inl ((exactly objects c (Area polygons notes) right).0 refl)
sound_by exactly objects c (Problems list notes) right = inr (λ sound. right.1 ((exactly objects c (Problems list notes) right).1 sound))

sound_or_not : OutcomeExists → HasAreaExactly → (objects : List Object) (c : ObjectRef) → IsSound objects c ⊎ (IsSound objects c → ⊥)
sound_or_not exists exactly objects c = let found = exists objects c in sound_by exactly objects c found.0 found.1

pub later_areas : OutcomeExists → HasAreaExactly → (objects : List Object) (later : List ObjectRef) → (areas : List ObjectRef) × AreThoseWithAreas objects later areas
later_areas exists exactly objects later = those_exist (IsSound objects) (sound_or_not exists exactly objects) later

-- a line is the feature over these polygons, or over none
pub is_feature_by : OutcomeIsOne → (ids : Option UniqueId) (objects : List Object) (counter : ℕ) (c : ObjectRef) (polygons : List Polygon) (notes : List Note)
    (line : List ℕ) →
    IsOutcome objects c (Area polygons notes) →
    (bytes_eq line (feature_text (feature_id ids counter c) (paths_of polygons) (feature_tags (object_at objects c))) ≡ true → IsFeature ids objects counter c line)
    × (bytes_eq line (feature_text (feature_id ids counter c) (paths_of polygons) (feature_tags (object_at objects c))) ≡ false →
    IsFeature ids objects counter c line → ⊥)
is_feature_by one ids objects counter c polygons notes line right = (
  (λ same. record { polygons = polygons; notes = notes; right = right; whole = (bytes_eq-Decides line _).0 same }),
  (λ other feature.
      let same : Area feature.polygons feature.notes ≡ Area polygons notes = one objects c (Area feature.polygons feature.notes)
      (Area polygons notes) feature.right right in
      let rings : feature.polygons ≡ polygons = cc in
      let is : line ≡ feature_text (feature_id ids counter c) (paths_of polygons) (feature_tags (object_at objects c)) =
      feature.whole ∙ ap (λ ps. feature_text (feature_id ids counter c) (paths_of ps) (feature_tags (object_at objects c))) rings in
      let equal : bytes_eq line (feature_text (feature_id ids counter c) (paths_of polygons) (feature_tags (object_at objects c))) ≡ true =
      (bytes_eq-Decides line _).1 is in
      absurd (cc)),
)

-- ---- the verdict

module _ (exists : OutcomeExists) (exactly : HasAreaExactly) (one : OutcomeIsOne) (ids : Option UniqueId) (objects : List Object) (lines : List (List ℕ)) where
  abbrev HasVerdict : List ObjectRef → Type 0
  HasVerdict all = IsVerdict ids objects all lines Yes ⊎ ((n : ℕ) × IsVerdict ids objects all lines (No n))

  -- a candidate with an area, where lines are left or not
  module _ (first later : List ObjectRef) (c : ObjectRef) (count : ℕ) (sound : IsSound objects c)
      (go_on : (rest : List (List ℕ)) (n : ℕ) → IsSeen ids objects (first ++ c ∷ []) lines rest n → HasVerdict ((first ++ c ∷ []) ++ later)) where
    longer : HasVerdict ((first ++ c ∷ []) ++ later) → HasVerdict (first ++ c ∷ later)
    longer = subst HasVerdict (append_assoc first (c ∷ []) later)

    by_line : (line : List ℕ) (left : List (List ℕ)) (polygons : List Polygon) (notes : List Note) → IsOutcome objects c (Area polygons notes) →
        (b : Bool) → bytes_eq line (feature_text (feature_id ids (count + 1) c) (paths_of polygons) (feature_tags (object_at objects c))) ≡ b →
        IsSeen ids objects first lines (line ∷ left) count → HasVerdict (first ++ c ∷ later)
    by_line line left polygons notes right true same s =
        longer (go_on left (count + 1) (area_seen ids objects first c lines left count line s sound ((is_feature_by one ids objects
        (count + 1) c polygons notes line right).0 same)))
    by_line line left polygons notes right false other s =
        inr (
          count + 1,
          stops ids objects lines count first later c sound (later_areas exists exactly objects later) (line ∷ left) s
              (λ l rest is feature. (is_feature_by one ids objects (count + 1) c polygons notes line right).1 other
              (let e : l ≡ line = cc in subst (IsFeature ids objects (count + 1) c) e feature)),
        )

    by_lines : (rest : List (List ℕ)) (polygons : List Polygon) (notes : List Note) → IsOutcome objects c (Area polygons notes) →
        IsSeen ids objects first lines rest count → HasVerdict (first ++ c ∷ later)
    by_lines [] polygons notes right s =
        inr (count + 1, stops ids objects lines count first later c sound (later_areas exists exactly objects later) [] s (λ l left is feature. absurd (cc)))
    by_lines (line ∷ left) polygons notes right s = by_line line left polygons notes right (bytes_eq line (feature_text (feature_id ids (count + 1) c)
        (paths_of polygons) (feature_tags (object_at objects c)))) refl s

  by_outcome : (first later : List ObjectRef) (c : ObjectRef) (outcome : Outcome) → IsOutcome objects c outcome → (rest : List (List ℕ)) (count : ℕ) →
      ((left : List (List ℕ)) (n : ℕ) → IsSeen ids objects (first ++ c ∷ []) lines left n → HasVerdict ((first ++ c ∷ []) ++ later)) →
      IsSeen ids objects first lines rest count → HasVerdict (first ++ c ∷ later)
  by_outcome first later c (Area polygons notes) right rest count go_on s =
      by_lines first later c count ((exactly objects c (Area polygons notes) right).0 refl) go_on rest polygons notes right s
  by_outcome first later c (Problems list notes) right rest count go_on s =
      subst HasVerdict (append_assoc first (c ∷ []) later)
      (go_on rest count (no_area_seen ids objects first c lines rest count s (λ sound. right.1 ((exactly objects c (Problems list notes) right).1 sound))))

  at_the_end : (first : List ObjectRef) (rest : List (List ℕ)) (count : ℕ) → IsSeen ids objects first lines rest count → HasVerdict first
  at_the_end first [] count s = inl (all_right ids objects lines count first s)
  at_the_end first (line ∷ left) count s = inr (count + 1, line_too_many ids objects lines count first line left s)

  judged : (first later : List ObjectRef) (rest : List (List ℕ)) (count : ℕ) → IsSeen ids objects first lines rest count → HasVerdict (first ++ later)
  judged first [] rest count s = subst HasVerdict (sym (append-nil first)) (at_the_end first rest count s)
  judged first (c ∷ later) rest count s =
      let found = exists objects c in
      by_outcome first later c found.0 found.1 rest count (λ left n more. judged (first ++ c ∷ []) later left n more) s

pub a_verdict : OutcomeExists → HasAreaExactly → OutcomeIsOne → TextsHaveAVerdict
a_verdict exists exactly one choice ids objects text =
    judged exists exactly one ids objects (text_lines text) [] (candidates choice objects) (text_lines text) 0 (none_seen ids objects (text_lines text))
