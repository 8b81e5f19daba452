-- A text without a wrong line is the features of the candidates with an area.
use Rattle.std.proofs.Common.{◌≡◌, ◌∙◌, refl, sym, ap, subst, ℕ, zero, suc, ◌+◌, ◌==◌, nat_lt, Bool, true, false, if◌then◌else◌, inl, inr, List, [], ◌∷◌, ◌++◌, length, Some, slice_get, arith, eqb-true, ltb-true, Option}
use Rattle.std.proofs.lemmas.Bool.{false_from_ne_true}
use Rattle.std.specs.List.{concat, onto_first}
use Rattle.std.proofs.lemmas.Option.{same_Some, slice_get_within}
use Rattle.lists.proofs.ListsKit.{and-left, and-right}
use Rattle.osm_elements.specs.declared.object.Object.{Object}
use Rattle.osm_elements.specs.declared.object.ObjectRef.{ObjectRef}
use Rattle.osm_area.specs.Outcome.{HasAreaExactly, IsOutcome, OutcomeExists}
use Rattle.osm_area.specs.Sound.{IsSound}
use Rattle.osm_area.specs.declared.outcome.Outcome.{Outcome}
use Rattle.osm_area.specs.declared.outcome.Outcome.TheVariants.{Area, Problems}
use Rattle.osm_objects.specs.Candidates.{candidates}
use Rattle.osm_objects.specs.Objects.{object_at}
use Rattle.osm_text.specs.Feature.{feature_text, id_before, tags_text}
use Rattle.osm_text.specs.Paths.{paths_of}
use Rattle.osm_text.specs.Wkt.{multipolygon_wkt}
use Rattle.osm_objects.specs.declared.area.UniqueId.{UniqueId}
use Rattle.area_certify.specs.Areas.{AreThose}
use Rattle.area_certify.specs.FirstWrong.{HasNoWrong, IsFeature}
use Rattle.osm_text.specs.Id.{feature_id}
use Rattle.osm_area.specs.Feature.{feature_tags}
use Rattle.area_certify.specs.Lines.{text_lines}
use Rattle.area_certify.specs.RightTexts.{AreFeatures, RightTextsAreFeatures, RightTextsExist}
use Rattle.area_certify.proofs.ClearTexts.{clear_feature, is_clear}
use Rattle.area_certify.proofs.LineCuts.{unless}
use Rattle.area_certify.proofs.RightLines.{ends_in_newline}
use Rattle.area_certify.proofs.Verdicts.{later_areas}

-- ---- lines in a row

joined_first : (byte : ℕ) (lines : List (List ℕ)) → concat (onto_first byte lines) ≡ byte ∷ concat lines
joined_first byte [] = refl
joined_first byte (line ∷ lines) = refl

joined_choice : (b : Bool) (byte : ℕ) (text : List ℕ) → concat (text_lines text) ≡ text → concat (if b then
    (byte ∷ []) ∷ text_lines text else onto_first byte (text_lines text)) ≡ byte ∷ text
joined_choice true byte text is = ap (λ t. byte ∷ t) is
joined_choice false byte text is = joined_first byte (text_lines text) ∙ ap (λ t. byte ∷ t) is

-- the lines of a text, one behind the other, are the text
lines_joined : (text : List ℕ) → concat (text_lines text) ≡ text
lines_joined [] = refl
lines_joined (byte ∷ text) = joined_choice (byte == 10) byte text (lines_joined text)

-- a text that begins with clear bytes and LF
first_clear : (front rest : List ℕ) → is_clear front ≡ true → text_lines ((front ++ 10 ∷ []) ++ rest) ≡ (front ++ 10 ∷ []) ∷ text_lines rest
first_clear [] rest clear = refl
first_clear (byte ∷ front) rest clear =
    let above = ltb-true 10 byte (and-left (nat_lt 10 byte) (is_clear front) clear) in
    let other : (byte == 10) ≡ false = false_from_ne_true (byte == 10) (λ is. let e = eqb-true byte 10 is in absurd (omega arith)) in
    unless (byte == 10) ((byte ∷ []) ∷ text_lines ((front ++ 10 ∷ []) ++ rest)) (onto_first byte (text_lines ((front ++ 10 ∷ []) ++ rest))) other
    ∙ ap (onto_first byte) (first_clear front rest (and-right (nat_lt 10 byte) (is_clear front) clear))

-- ---- line by line

module _ (ids : Option UniqueId) (objects : List Object) where
  -- as many lines as candidates, each the feature of its own, with so many features before them
  abbrev AreLines : ℕ → List ObjectRef → List (List ℕ) → Type 0
  AreLines earlier [] [] = Unit {0}
  AreLines earlier [] (line ∷ lines) = ⊥
  AreLines earlier (c ∷ areas) [] = ⊥
  AreLines earlier (c ∷ areas) (line ∷ lines) = IsFeature ids objects (earlier + 1) c line × AreLines (earlier + 1) areas lines

  -- at place k of the candidates stands the one whose feature the line is
  abbrev StandsAt : ℕ → List ObjectRef → ℕ → List ℕ → Type 0
  StandsAt counter areas k line = (c : ObjectRef) × (slice_get areas k ≡ Some c) × IsFeature ids objects counter c line

  counted_so : (m n : ℕ) (areas : List ObjectRef) (k : ℕ) (line : List ℕ) → m ≡ n → StandsAt m areas k line → StandsAt n areas k line
  counted_so m n areas k line is stands = subst (λ (counter : ℕ). StandsAt counter areas k line) is stands

  by_places : (earlier : ℕ) (areas : List ObjectRef) (lines : List (List ℕ)) → ((k : ℕ) (line : List ℕ) → slice_get lines k ≡ Some line →
      StandsAt (earlier + k + 1) areas k line) →
      length lines ≡ length areas → AreLines earlier areas lines
  by_places earlier [] [] stands same = tt
  by_places earlier [] (line ∷ lines) stands same = absurd (omega arith)
  by_places earlier (c ∷ areas) [] stands same = absurd (omega arith)
  by_places earlier (c ∷ areas) (line ∷ lines) stands same =
      let first = counted_so (earlier + 0 + 1) (earlier + 1) (c ∷ areas) 0 line (omega arith) (stands 0 line refl) in (
        subst (λ (d : ObjectRef). IsFeature ids objects (earlier + 1) d line) (same_Some first.0 c (sym first.1)) first.2,
        by_places (earlier + 1) areas lines
            (λ k other got. let later = counted_so (earlier + suc k + 1) (earlier + 1 + k + 1) (c ∷ areas) (suc k) other (omega arith) (stands
            (suc k) other got) in (later.0, later.1, later.2))
            (omega arith),
      )

  to_places : (earlier : ℕ) (areas : List ObjectRef) (lines : List (List ℕ)) → AreLines earlier areas lines → (k : ℕ) (line : List ℕ) →
      slice_get lines k ≡ Some line → StandsAt (earlier + k + 1) areas k line
  to_places earlier [] [] are k line got = absurd (cc)
  to_places earlier [] (other ∷ lines) are k line got = absurd are
  to_places earlier (c ∷ areas) [] are k line got = absurd are
  to_places earlier (c ∷ areas) (other ∷ lines) are zero line got =
      counted_so (earlier + 1) (earlier + 0 + 1) (c ∷ areas) 0 line (omega arith) (
        c,
        refl,
        subst (IsFeature ids objects (earlier + 1) c)
            (same_Some other line got) are.0,
      )
  to_places earlier (c ∷ areas) (other ∷ lines) are (suc k) line got =
      let later = to_places (earlier + 1) areas lines are.1 k line got in
      counted_so (earlier + 1 + k + 1) (earlier + suc k + 1) (c ∷ areas) (suc k) line (omega arith) (later.0, later.1, later.2)

  as_many : (earlier : ℕ) (areas : List ObjectRef) (lines : List (List ℕ)) → AreLines earlier areas lines → length lines ≡ length areas
  as_many earlier [] [] are = refl
  as_many earlier [] (line ∷ lines) are = absurd are
  as_many earlier (c ∷ areas) [] are = absurd are
  as_many earlier (c ∷ areas) (line ∷ lines) are = ap suc (as_many (earlier + 1) areas lines are.1)

  features_joined : (earlier : ℕ) (areas : List ObjectRef) (lines : List (List ℕ)) → AreLines earlier areas lines →
      AreFeatures ids objects (earlier + 1) areas (concat lines)
  features_joined earlier [] [] are = refl
  features_joined earlier [] (line ∷ lines) are = absurd are
  features_joined earlier (c ∷ areas) [] are = absurd are
  features_joined earlier (c ∷ areas) (line ∷ lines) are = (line, concat lines, are.0, features_joined (earlier + 1) areas lines are.1, refl)

  -- a feature is a line, whatever stands behind it
  one_line : (counter : ℕ) (c : ObjectRef) (feature rest : List ℕ) → IsFeature ids objects counter c feature →
      text_lines (feature ++ rest) ≡ feature ∷ text_lines rest
  one_line counter c feature rest is =
      let id = feature_id ids counter c in
      let tags = feature_tags (object_at objects c) in
      subst (λ (line : List ℕ). text_lines (line ++ rest) ≡ line ∷ text_lines rest) (sym is.whole)
      (first_clear (id_before id ++ multipolygon_wkt (paths_of is.polygons) ++ tags_text tags) rest (clear_feature id (paths_of is.polygons) tags))

  features_lines : (earlier : ℕ) (areas : List ObjectRef) (text : List ℕ) → AreFeatures ids objects (earlier + 1) areas text →
      AreLines earlier areas (text_lines text)
  features_lines earlier [] text are = subst (λ (t : List ℕ). AreLines earlier [] (text_lines t)) (sym are) tt
  features_lines earlier (c ∷ areas) text are =
      let feature = are.0 in
      let rest = are.1 in
      let lines : text_lines text ≡ feature ∷ text_lines rest = ap text_lines are.4 ∙ one_line (earlier + 1) c feature rest are.2 in
      subst (AreLines earlier (c ∷ areas)) (sym lines) (are.2, features_lines (earlier + 1) areas rest are.3)

  -- ---- the whole

  pub from_features : (areas : List ObjectRef) (text : List ℕ) → AreFeatures ids objects 1 areas text → HasNoWrong ids objects areas (text_lines text)
  from_features areas text are =
      let lines = features_lines 0 areas text are in
      record {
        right = λ k line lt got.
            let stands = counted_so (0 + k + 1) (k + 1) areas k line (omega arith) (to_places 0 areas (text_lines text) lines k line got) in
            record { candidate = stands.0; place = stands.1; ended = ends_in_newline ids objects (k + 1) stands.0 line stands.2; feature = stands.2 };
        as_many = as_many 0 areas (text_lines text) lines;
      }

  pub to_features : (areas : List ObjectRef) (text : List ℕ) → HasNoWrong ids objects areas (text_lines text) → AreFeatures ids objects 1 areas text
  to_features areas text none =
      let lines = by_places 0 areas (text_lines text)
      (λ k line got. let right = none.right k line (slice_get_within (text_lines text) k line got) got in
      counted_so (k + 1) (0 + k + 1) areas k line (omega arith) (right.candidate, right.place, right.feature))
      none.as_many in
      subst (AreFeatures ids objects 1 areas) (lines_joined text) (features_joined 0 areas (text_lines text) lines)

pub right_texts : RightTextsAreFeatures
right_texts choice ids objects text = (
  (λ none. (none.0, none.1, to_features ids objects none.0 text none.2)),
  (λ right. (right.0, right.1, from_features ids objects right.0 text right.2)),
)

-- ---- there is one

module _ (exists : OutcomeExists) (exactly : HasAreaExactly) (ids : Option UniqueId) (objects : List Object) where
  with_feature : (counter : ℕ) (c : ObjectRef) (areas : List ObjectRef) (outcome : Outcome) → IsOutcome objects c outcome → IsSound objects c →
      ((text : List ℕ) × AreFeatures ids objects (counter + 1) areas text) → (text : List ℕ) × AreFeatures ids objects counter (c ∷ areas) text
  with_feature counter c areas (Area polygons notes) right sound others =
      let feature = feature_text (feature_id ids counter c) (paths_of polygons) (feature_tags (object_at objects c)) in
      (feature ++ others.0, (feature, others.0, record { polygons = polygons; notes = notes; right = right; whole = refl }, others.1, refl))
  with_feature counter c areas (Problems list notes) right sound others = absurd (right.1 ((exactly objects c (Problems list notes) right).1 sound))

  text_of : (counter : ℕ) (cs areas : List ObjectRef) → AreThose (IsSound objects) cs areas → (text : List ℕ) × AreFeatures ids objects counter areas text
  text_of counter [] areas none = ([], rw none refl)
  text_of counter (c ∷ cs) areas (inl some) =
      let found = exists objects c in
      let more = with_feature counter c some.1 found.0 found.1 some.0 (text_of (counter + 1) cs some.1 some.2) in
      subst (λ (list : List ObjectRef). (text : List ℕ) × AreFeatures ids objects counter list text) (sym some.3) more
  text_of counter (c ∷ cs) areas (inr none) = text_of counter cs areas none.1

pub right_text : OutcomeExists → HasAreaExactly → RightTextsExist
right_text exists exactly choice ids objects =
    let areas = later_areas exists exactly objects (candidates choice objects) in
    let text = text_of exists exactly ids objects 1 (candidates choice objects) areas.0 areas.1 in
    (text.0, (areas.0, areas.1, from_features ids objects areas.0 text.0 text.1))
