-- What an export puts out: the features of its entries, each with what stands around it.
use Rattle.std.proofs.Common.{All, Err, List, None, Ok, Option, Result, Some, [], ap, ap₂, append-nil, append_assoc, arith, inl, inr, map, refl, sym, ℕ, ◌+◌, ◌++◌, ◌∙◌, ◌∷◌, ◌≡◌, ◌⊎◌}
use Rattle.std.specs.List.{AllZip, filter}
use Rattle.std.proofs.lemmas.List.Elements.{All-append, All-cons, All-head, All-nil, All-tail}
use Rattle.std.proofs.lemmas.List.{map-append}
use Rattle.osm_elements.specs.declared.object.Object.{Object}
use Rattle.osm_elements.specs.declared.object.ObjectRef.{ObjectRef}
use Rattle.osm_area.specs.Outcome.{IsOutcome}
use Rattle.osm_area.specs.declared.outcome.Outcome.{Outcome}
use Rattle.osm_area.specs.declared.outcome.Outcome.TheVariants.{Area, Problems}
use Rattle.osm_job.specs.Sent.{Sent, output_of, to_output}
use Rattle.osm_cli.specs.Job.{inputs_of}
use Rattle.osm_cli.specs.Whole.{IsWhole}
use Rattle.osm_input.specs.declared.reading.ReadError.{ReadError}
use Rattle.osm_job.specs.Cause.{Cause, by_input, by_itself, by_memory, by_open, by_read, by_verdict, by_words, by_write, cause_of}
use Rattle.osm_job.specs.Texts.{Texts, told_texts}
use Rattle.osm_job.specs.Whole.{IsReadThen, IsRightAfterReading, Whole}
use Rattle.osm_job.specs.Written.{IsWrittenBy, WroteAll, WrotePrefix}
use Rattle.osm_job.specs.declared.ended.Ended.{Ended}
use Rattle.osm_job.proofs.Writes.{output_of-append, output_of_output, piece_out}
use Rattle.osm_objects.specs.Objects.{object_at}
use Rattle.osm_words.specs.Job.{ExportSettings, export}
use Rattle.job_export.specs.Entry.{Entry, IsEntry, entries_sent, feature_in, features_in, has_area}
use Rattle.osm_area.specs.Feature.{feature_tags}
use Rattle.osm_text.specs.Id.{feature_id}
use Rattle.job_export.specs.Export.{IsExport, finished, stopped}
use Rattle.job_export.specs.Framing.{footer, framed, header}
use Rattle.one_output.specs.ValidAreas.Exported.{HasValidFeatures, IsFeatureOf, framed_features}
use Rattle.one_output.specs.ValidAreas.Exported as exported
use Rattle.one_output.specs.ValidAreas.Laws.{AreasAreValid, ExportedFeaturesAreValid, RightFeaturesAreValid, WrittenFeaturesAreValid}
use Rattle.one_output.proofs.ValidAreas.Features.{feature-of}

module _ (valid : AreasAreValid) (settings : ExportSettings) (objects : List Object) where
  -- the features of entries, and that they are what goes out, with what stands around them
  record AreOut (earlier : ℕ) (entries : List Entry) : Type 0 where
    features : List (List ℕ)
    each : AllZip (IsFeatureOf settings.format) (filter has_area entries) features
    out : output_of (entries_sent settings objects earlier entries) ≡ framed_features settings earlier features

  one-more : (earlier : ℕ) (candidate : ObjectRef) (outcome : Outcome) (report : List ℕ) (entries : List Entry) → IsOutcome objects candidate outcome →
      AreOut (earlier + features_in outcome) entries → AreOut earlier (record { candidate = candidate; outcome = outcome; report = report } ∷ entries)
  one-more earlier candidate (Area polygons notes) report entries right rest =
      let feature = feature_in settings.format (feature_id settings.ids (earlier + 1) candidate) polygons (feature_tags (object_at objects candidate)) in
      record {
        features = feature ∷ rest.features;
        each = (
          feature-of settings.format (feature_id settings.ids (earlier + 1) candidate) (feature_tags (object_at objects candidate))
              (record { candidate = candidate; outcome = Area polygons notes; report = report }) right.1.1.1.some (valid objects candidate (Area polygons notes) right),
          rest.each,
        );
        out =
            piece_out (framed settings earlier feature) report (entries_sent settings objects (earlier + 1) entries)
            ∙ ap (λ (bytes : List ℕ). framed settings earlier feature ++ bytes) rest.out;
      }
  one-more earlier candidate (Problems list notes) report entries right rest =
      let same : earlier + 0 ≡ earlier = omega arith in
      record {
        features = rest.features;
        each = rest.each;
        out =
            piece_out [] report (entries_sent settings objects (earlier + 0) entries) ∙ rest.out ∙ ap (λ (n : ℕ). framed_features settings n rest.features) same;
      }

  are-out : (earlier : ℕ) (entries : List Entry) → All (IsEntry settings.show_errors objects) entries → AreOut earlier entries
  are-out earlier [] right = record { features = []; each = tt; out = refl }
  are-out earlier (entry ∷ entries) right =
      one-more earlier entry.candidate entry.outcome entry.report entries (All-head (IsEntry settings.show_errors objects) entry entries right).right
      (are-out (earlier + features_in entry.outcome) entries (All-tail (IsEntry settings.show_errors objects) entry entries right))

  -- behind the header, and before the end
  whole-out : (entries : List Entry) (a : AreOut 0 entries) (end : List ℕ) →
      output_of (map to_output (header settings.format) ++ entries_sent settings objects 0 entries ++ map to_output end) ≡ header settings.format ++ framed_features settings 0 a.features ++ end
  whole-out entries a end =
      output_of-append (map to_output (header settings.format) ++ entries_sent settings objects 0 entries) (map to_output end)
      ∙ ap₂ (λ (front back : List ℕ). front ++ back)
      (output_of-append (map to_output (header settings.format)) (entries_sent settings objects 0 entries) ∙ ap₂ (λ (a b : List ℕ). a ++ b) (output_of_output (header settings.format)) a.out)
      (output_of_output end)

  has-valid : (whole : Whole) → IsExport settings objects whole → HasValidFeatures settings objects whole
  has-valid whole (finished entries all right go_on is) =
      let a = are-out 0 entries right in
      record {
        entries = entries;
        right = right;
        features = a.features;
        each = a.each;
        end = footer settings.format;
        ends = exported.finished (ap (λ (w : Whole). w.ended) is) all refl;
        output = ap (λ (w : Whole). output_of w.written) is ∙ whole-out entries a (footer settings.format);
      }
  has-valid whole (stopped entries last later stops all right last_right areas problems is) =
      let each = All-append (IsEntry settings.show_errors objects) entries (last ∷ []) right (All-cons (IsEntry settings.show_errors objects) last [] last_right (All-nil (IsEntry settings.show_errors objects))) in
      let a = are-out 0 (entries ++ last ∷ []) each in
      let sent = map to_output (header settings.format) ++ entries_sent settings objects 0 (entries ++ last ∷ []) in
      record {
        entries = entries ++ last ∷ [];
        right = each;
        features = a.features;
        each = a.each;
        end = [];
        ends = exported.stopped last.candidate (ap (λ (w : Whole). w.ended) is) stops (record {
          rest = later;
          whole =
              all ∙ sym (append_assoc (map (λ (e : Entry). e.candidate) entries) (last.candidate ∷ []) later)
              ∙ ap (λ (cs : List ObjectRef). cs ++ later) (sym (map-append (λ (e : Entry). e.candidate) entries (last ∷ [])));
        }) refl;
        output = ap (λ (w : Whole). output_of w.written) is ∙ ap output_of (sym (append-nil sent)) ∙ whole-out (entries ++ last ∷ []) a [];
      }

pub exported-valid : AreasAreValid → ExportedFeaturesAreValid
exported-valid valid settings objects whole is = has-valid valid settings objects whole is

after-valid : AreasAreValid → (settings : ExportSettings) → (read : Result (List Object) ReadError) (whole : Whole) → IsRightAfterReading (IsExport settings) read whole → IsRightAfterReading (HasValidFeatures settings) read whole
after-valid valid settings (Ok objects) whole is = has-valid valid settings objects whole is
after-valid valid settings (Err error) whole is = is

pub right-valid : AreasAreValid → RightFeaturesAreValid
right-valid valid settings texts whole is = record { read = is.read; is_read = is.is_read; after = after-valid valid settings is.read whole is.after }

-- what is written of a right whole is written of one of which more is known
module _ {T : Type 0} (P Q : T → Whole → Type 0) (more : (texts : T) (whole : Whole) → P texts whole → Q texts whole) where
  all-of : (told : Option T) (ended : Ended) (written : List Sent) → WroteAll P told ended written → WroteAll Q told ended written
  all-of None ended written is = is
  all-of (Some texts) ended written is = more texts (record { written = written; ended = ended }) is

  prefix-of : (told : Option T) (written : List Sent) → WrotePrefix P told written → WrotePrefix Q told written
  prefix-of None written is = is
  prefix-of (Some texts) written is = (is.0, more texts is.0 is.1, is.2, is.3)

  nothing-or-prefix : (told : Option T) (written : List Sent) → (written ≡ []) ⊎ WrotePrefix P told written → (written ≡ []) ⊎ WrotePrefix Q told written
  nothing-or-prefix told written (inl none) = inl none
  nothing-or-prefix told written (inr is) = inr (prefix-of told written is)

  written-of : (cause : Cause) (told : Option T) (ended : Ended) (written : List Sent) → IsWrittenBy P cause told ended written → IsWrittenBy Q cause told ended written
  written-of by_itself told ended written is = all-of told ended written is
  written-of by_words told ended written is = is
  written-of by_input told ended written is = (is.0, all-of told ended written is.1)
  written-of by_verdict told ended written is = (is.0, all-of told ended written is.1)
  written-of by_open told ended written is = is
  written-of by_read told ended written is = is
  written-of by_write told ended written is = prefix-of told written is
  written-of by_memory told ended written is = nothing-or-prefix told written is

pub written-valid : AreasAreValid → WrittenFeaturesAreValid
written-valid valid settings ended before after run =
    written-of (IsWhole (export settings)) (λ (texts : Texts (inputs_of (export settings))). IsReadThen (HasValidFeatures settings) texts.0) (right-valid valid settings)
    (cause_of ended) (told_texts before.named (inputs_of (export settings))) ended run.written run.right
