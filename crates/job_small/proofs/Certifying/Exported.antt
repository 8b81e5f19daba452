-- A text without a wrong line is what an export in format text puts out, and the other way round.
use Rattle.std.proofs.Common.{◌≡◌, ◌∙◌, refl, sym, ap, ap₂, subst, ℕ, ◌+◌, false, true, List, [], ◌∷◌, ◌++◌, map, All, append-nil, arith, Option, inl, inr}
use Rattle.std.proofs.lemmas.List.Elements.{All-cons, All-head, All-nil, All-tail}
use Rattle.osm_elements.specs.declared.object.Object.{Object}
use Rattle.osm_elements.specs.declared.object.ObjectRef.{ObjectRef}
use Rattle.osm_area.specs.Outcome.{HasAreaExactly, IsOutcome, OutcomeExists}
use Rattle.osm_area.specs.Sound.{IsSound}
use Rattle.osm_area.specs.declared.outcome.Outcome.{Outcome}
use Rattle.osm_area.specs.declared.outcome.Outcome.TheVariants.{Area, Problems}
use Rattle.osm_nest.specs.declared.polygon.Polygon.{Polygon}
use Rattle.osm_objects.specs.Candidates.{candidates}
use Rattle.osm_objects.specs.Objects.{object_at}
use Rattle.osm_objects.specs.declared.problem.Note.{Note}
use Rattle.osm_text.specs.Feature.{feature_text}
use Rattle.osm_text.specs.Paths.{paths_of}
use Rattle.osm_text.specs.Id.{feature_id}
use Rattle.osm_words.specs.Job.{CertifySettings, ExportSettings}
use Rattle.osm_objects.specs.declared.area.UniqueId.{UniqueId}
use Rattle.osm_job.specs.Sent.{output_of}
use Rattle.osm_job.specs.Whole.{Whole}
use Rattle.osm_job.proofs.Writes.{piece_out}
use Rattle.area_certify.specs.Areas.{AreThose, AreThoseWithAreas}
use Rattle.area_certify.specs.FirstWrong.{IsFeature}
use Rattle.area_certify.specs.RightTexts.{AreFeatures, IsRightText, RightTextsAreFeatures}
use Rattle.job_export.specs.Entry.{Entry, IsEntry, entries_sent, features_in, framed_feature}
use Rattle.osm_area.specs.Feature.{feature_tags}
use Rattle.job_export.specs.Export.{IsExport, finished, finished_whole, stopped}
use Rattle.job_small.specs.Certifying.Certify.{choice_of}
use Rattle.job_small.specs.Certifying.Exported.{export_of}
use Rattle.job_small.specs.Certifying.Laws.{CertifiedTextsAreExports}

-- ---- what goes out

never : false ≡ true → ⊥
never h = cc

-- ---- one feature

module _ (settings : CertifySettings) (objects : List Object) where
  abbrev exported : ExportSettings
  exported = export_of settings

  abbrev ids : Option UniqueId
  ids = settings.ids

  -- what entries put out
  abbrev out : ℕ → List Entry → List ℕ
  out earlier entries = output_of (entries_sent exported objects earlier entries)

  -- the piece of an area is its feature
  piece_is : (earlier : ℕ) (c : ObjectRef) (polygons : List Polygon) (notes : List Note) →
      framed_feature exported objects earlier c (Area polygons notes)
      ≡ feature_text (feature_id ids (earlier + 1) c) (paths_of polygons) (feature_tags (object_at objects c))
  piece_is earlier c polygons notes =
      append-nil (feature_text (feature_id settings.ids (earlier + 1) c) (paths_of polygons) (feature_tags (object_at objects c)))

  area_out : (earlier : ℕ) (c : ObjectRef) (polygons : List Polygon) (notes : List Note) (report : List ℕ) (es : List Entry) →
      out earlier (record { candidate = c; outcome = Area polygons notes; report = report } ∷ es)
      ≡ feature_text (feature_id ids (earlier + 1) c) (paths_of polygons) (feature_tags (object_at objects c)) ++ out (earlier + 1) es
  area_out earlier c polygons notes report es =
      piece_out (framed_feature exported objects earlier c (Area polygons notes)) report (entries_sent exported objects (earlier + 1) es)
      ∙ ap (λ (xs : List ℕ). xs ++ out (earlier + 1) es) (piece_is earlier c polygons notes)

  no_area_out : (earlier : ℕ) (e : Entry) (es : List Entry) → features_in e.outcome ≡ 0 → framed_feature exported objects earlier e.candidate e.outcome ≡ [] →
      out earlier (e ∷ es) ≡ out earlier es
  no_area_out earlier e es none nothing =
      let same : earlier + features_in e.outcome ≡ earlier = omega (arith, none) in
      piece_out (framed_feature exported objects earlier e.candidate e.outcome) e.report (entries_sent exported objects (earlier + features_in e.outcome) es)
      ∙ ap₂ (λ (piece : List ℕ) (n : ℕ). piece ++ out n es) nothing same

  abbrev AreEntries : List ObjectRef → List Entry → Type 0
  AreEntries cs es = (map (λ (e : Entry). e.candidate) es ≡ cs) × All (IsEntry false objects) es

  module _ (exists : OutcomeExists) (exactly : HasAreaExactly) where
    -- ---- from entries to a right text

    -- these candidates have areas, whose features the text is, with so many before them
    abbrev HaveFeatures : ℕ → List ObjectRef → List ℕ → Type 0
    HaveFeatures earlier cs text = (areas : List ObjectRef) × AreThoseWithAreas objects cs areas × AreFeatures ids objects (earlier + 1) areas text

    with_area : (earlier : ℕ) (c : ObjectRef) (cs : List ObjectRef) (polygons : List Polygon) (notes : List Note) (rest text : List ℕ) →
        IsOutcome objects c (Area polygons notes) →
        text ≡ feature_text (feature_id ids (earlier + 1) c) (paths_of polygons) (feature_tags (object_at objects c)) ++ rest →
        HaveFeatures (earlier + 1) cs rest → HaveFeatures earlier (c ∷ cs) text
    with_area earlier c cs polygons notes rest text right is more = (
      c ∷ more.0,
      inl ((exactly objects c (Area polygons notes) right).0 refl, more.0, more.1, refl),
      (
        feature_text (feature_id ids (earlier + 1) c) (paths_of polygons) (feature_tags (object_at objects c)),
        rest,
        record { polygons = polygons; notes = notes; right = right; whole = refl },
        more.2,
        is,
      ),
    )

    without_area : (earlier : ℕ) (c : ObjectRef) (cs : List ObjectRef) (text : List ℕ) → (IsSound objects c → ⊥) → HaveFeatures earlier cs text →
        HaveFeatures earlier (c ∷ cs) text
    without_area earlier c cs text none more = (more.0, inr (none, more.1), more.2)

    entry_features : (earlier : ℕ) (c : ObjectRef) (outcome : Outcome) (report : List ℕ) (es : List Entry) (cs : List ObjectRef) → IsOutcome objects c outcome →
        ((n : ℕ) → HaveFeatures n cs (out n es)) →
        HaveFeatures earlier (c ∷ cs) (out earlier (record { candidate = c; outcome = outcome; report = report } ∷ es))
    entry_features earlier c (Area polygons notes) report es cs right more =
        with_area earlier c cs polygons notes (out (earlier + 1) es) _ right (area_out earlier c polygons notes report es) (more (earlier + 1))
    entry_features earlier c (Problems list notes) report es cs right more =
        without_area earlier c cs _ (λ sound. right.1 ((exactly objects c (Problems list notes) right).1 sound))
        (subst (HaveFeatures earlier cs) (sym (no_area_out earlier (record { candidate = c; outcome = Problems list notes; report = report }) es refl refl))
        (more earlier))

    features_of : (es : List Entry) → All (IsEntry false objects) es → (earlier : ℕ) →
        HaveFeatures earlier (map (λ (e : Entry). e.candidate) es) (out earlier es)
    features_of [] right earlier = ([], refl, refl)
    features_of (e ∷ es) right earlier =
        entry_features earlier e.candidate e.outcome e.report es (map (λ (x : Entry). x.candidate) es) (All-head (IsEntry false objects) e es right).right
        (features_of es (All-tail (IsEntry false objects) e es right))

    -- ---- from a right text to entries

    -- there are entries of these candidates that put the text out
    abbrev HaveEntries : ℕ → List ObjectRef → List ℕ → Type 0
    HaveEntries earlier cs text = (es : List Entry) × AreEntries cs es × (out earlier es ≡ text)

    one_more : (earlier n : ℕ) (c : ObjectRef) (cs : List ObjectRef) (outcome : Outcome) (rest text : List ℕ) → IsOutcome objects c outcome →
        ((es : List Entry) → out n es ≡ rest → out earlier (record { candidate = c; outcome = outcome; report = [] } ∷ es) ≡ text) → HaveEntries n cs rest →
        HaveEntries earlier (c ∷ cs) text
    one_more earlier n c cs outcome rest text right is more =
        let first : Entry = record { candidate = c; outcome = outcome; report = [] } in (
          first ∷ more.0,
          (ap (λ (xs : List ObjectRef). c ∷ xs) more.1.0, All-cons (IsEntry false objects) first more.0 (record { right = right; reported = refl }) more.1.1),
          is more.0 more.2,
        )

    none_more : (earlier : ℕ) (c : ObjectRef) (cs : List ObjectRef) (text : List ℕ) (outcome : Outcome) → IsOutcome objects c outcome →
        (IsSound objects c → ⊥) → HaveEntries earlier cs text →
        HaveEntries earlier (c ∷ cs) text
    none_more earlier c cs text (Area polygons notes) right none more = absurd (none ((exactly objects c (Area polygons notes) right).0 refl))
    none_more earlier c cs text (Problems list notes) right none more =
        one_more earlier earlier c cs (Problems list notes) text text right
        (λ es is. no_area_out earlier (record { candidate = c; outcome = Problems list notes; report = [] }) es refl refl ∙ is) more

    feature_more : (earlier : ℕ) (c : ObjectRef) (cs : List ObjectRef) (feature rest text : List ℕ) → IsFeature ids objects (earlier + 1) c feature →
        text ≡ feature ++ rest →
        HaveEntries (earlier + 1) cs rest → HaveEntries earlier (c ∷ cs) text
    feature_more earlier c cs feature rest text is whole more =
        one_more earlier (earlier + 1) c cs (Area is.polygons is.notes) rest text is.right
        (λ es same. area_out earlier c is.polygons is.notes [] es ∙ ap₂ (λ (xs ys : List ℕ). xs ++ ys) (sym is.whole) same ∙ sym whole) more

    entries_of : (cs areas : List ObjectRef) → AreThose (IsSound objects) cs areas → (earlier : ℕ) (text : List ℕ) →
        AreFeatures ids objects (earlier + 1) areas text → HaveEntries earlier cs text
    entries_of [] areas none earlier text are =
        let nothing : AreFeatures ids objects (earlier + 1) [] text =
        subst (λ (list : List ObjectRef). AreFeatures ids objects (earlier + 1) list text) none are in
        ([], (refl, All-nil (IsEntry false objects)), sym nothing)
    entries_of (c ∷ cs) areas (inl some) earlier text are =
        let all : AreFeatures ids objects (earlier + 1) (c ∷ some.1) text =
        subst (λ (list : List ObjectRef). AreFeatures ids objects (earlier + 1) list text) some.3 are in
        feature_more earlier c cs all.0 all.1 text all.2 all.4 (entries_of cs some.1 some.2 (earlier + 1) all.1 all.3)
    entries_of (c ∷ cs) areas (inr none) earlier text are =
        let found = exists objects c in none_more earlier c cs text found.0 found.1 none.0 (entries_of cs areas none.1 earlier text are)

    -- ---- the whole

    abbrev IsOutput : List ℕ → Type 0
    IsOutput text = (whole : Whole) × IsExport exported objects whole × (output_of whole.written ≡ text)

    finished_out : (es : List Entry) → output_of (finished_whole exported objects es).written ≡ out 0 es
    finished_out es = ap output_of (append-nil (entries_sent exported objects 0 es))

    from_export : (text : List ℕ) (whole : Whole) → IsExport exported objects whole → output_of whole.written ≡ text →
        IsRightText (choice_of settings) ids objects text
    from_export text whole (finished es order right go_on is) same =
        let out_is : out 0 es ≡ text = sym (ap (λ (w : Whole). output_of w.written) is ∙ finished_out es) ∙ same in
        subst (λ (cs : List ObjectRef). HaveFeatures 0 cs text) order
        (subst (HaveFeatures 0 (map (λ (e : Entry). e.candidate) es)) out_is (features_of es right 0))
    from_export text whole (stopped es last later stops order right last_right areas none is) same = absurd (never stops)

    to_export : (text : List ℕ) → IsRightText (choice_of settings) ids objects text → IsOutput text
    to_export text right =
        let es = entries_of (candidates (choice_of settings) objects) right.0 right.1 0 text right.2 in
        (finished_whole exported objects es.0, finished es.0 es.1.0 es.1.1 (λ stops. absurd (never stops)) refl, finished_out es.0 ∙ es.2)

pub certified_are_exports : OutcomeExists → HasAreaExactly → RightTextsAreFeatures → CertifiedTextsAreExports
certified_are_exports exists exactly right_texts settings objects text =
    let both = right_texts (choice_of settings) settings.ids objects text in (
      λ right. to_export settings objects exists exactly text (both.0 right),
      λ found. both.1 (from_export settings objects exists exactly text found.0 found.1 found.2),
    )
