-- An export is one whole.
use Rattle.std.proofs.Common.{All, List, [], ap, false, map, refl, sym, true, ◌++◌, ◌∙◌, ◌∷◌, ◌≡◌}
use Rattle.std.proofs.lemmas.List.Elements.{All-head, All-tail}
use Rattle.osm_elements.specs.declared.object.Object.{Object}
use Rattle.osm_elements.specs.declared.object.ObjectRef.{ObjectRef}
use Rattle.osm_words.specs.Job.{ExportSettings}
use Rattle.job_export.specs.Entry.{Entry, IsEntry, has_area}
use Rattle.osm_job.specs.Whole.{Whole}
use Rattle.job_export.specs.Export.{HaveAreas, IsExport, finished, finished_whole, stopped, stopped_whole}
use Rattle.osm_text.specs.Report.{ProblemLineIsOne}
use Rattle.one_output.proofs.EntryOne.{entry-one}

abbrev named : List Entry → List ObjectRef
named es = map (λ (entry : Entry). entry.candidate) es

module _ (line : ProblemLineIsOne) (settings : ExportSettings) (objects : List Object) where
  abbrev Is : Entry → Type 0
  Is e = IsEntry settings.show_errors objects e

  abbrev HasArea : Entry → Type 0
  HasArea e = has_area e ≡ true

  one : (e f : Entry) → e.candidate ≡ f.candidate → Is e → Is f → e ≡ f
  one e f q s t = entry-one line settings.show_errors objects e f q s t

  -- the entries of all candidates
  all-one : (es fs : List Entry) → named es ≡ named fs → All Is es → All Is fs → es ≡ fs
  all-one [] [] h s t = refl
  all-one [] (f ∷ fs) h s t = cc
  all-one (e ∷ es) [] h s t = cc
  all-one (e ∷ es) (f ∷ fs) h s t =
      ap (λ x. x ∷ es) (one e f (cc) (All-head Is e es s) (All-head Is f fs t)) ∙ ap (λ l. f ∷ l) (all-one es fs (cc) (All-tail Is e es s) (All-tail Is f fs t))

  -- two runs that stop, stop at one entry
  stops-one : (es fs : List Entry) (x y : Entry) (l m : List ObjectRef) → named es ++ x.candidate ∷ l ≡ named fs ++ y.candidate ∷ m → All Is es → All Is fs → Is x → Is y →
      HaveAreas es → HaveAreas fs → has_area x ≡ false → has_area y ≡ false → (es ≡ fs) × (x ≡ y)
  stops-one [] [] x y l m h s t ix iy a b nx ny = (refl, one x y (cc) ix iy)
  stops-one [] (f ∷ fs) x y l m h s t ix iy a b nx ny =
      let q = one x f (cc) ix (All-head Is f fs t) in
      absurd (cc (sym nx ∙ ap has_area q ∙ All-head HasArea f fs b))
  stops-one (e ∷ es) [] x y l m h s t ix iy a b nx ny =
      let q = one e y (cc) (All-head Is e es s) iy in
      absurd (cc (sym ny ∙ ap has_area (sym q) ∙ All-head HasArea e es a))
  stops-one (e ∷ es) (f ∷ fs) x y l m h s t ix iy a b nx ny =
      let q = one e f (cc) (All-head Is e es s) (All-head Is f fs t) in
      let r = stops-one es fs x y l m (cc) (All-tail Is e es s) (All-tail Is f fs t) ix iy (All-tail HasArea e es a) (All-tail HasArea f fs b) nx ny in
      (ap (λ x. x ∷ es) q ∙ ap (λ l. f ∷ l) r.0, r.1)

  -- a run doesn't stop where all have areas
  goes-on : (es fs : List Entry) (y : Entry) (m : List ObjectRef) → named es ≡ named fs ++ y.candidate ∷ m → All Is es → Is y → HaveAreas es → has_area y ≡ false → ⊥
  goes-on [] [] y m h s iy a ny = cc h
  goes-on [] (f ∷ fs) y m h s iy a ny = cc h
  goes-on (e ∷ es) [] y m h s iy a ny =
      let q = one e y (cc) (All-head Is e es s) iy in cc (sym ny ∙ ap has_area (sym q) ∙ All-head HasArea e es a)
  goes-on (e ∷ es) (f ∷ fs) y m h s iy a ny = goes-on es fs y m (cc) (All-tail Is e es s) iy (All-tail HasArea e es a) ny

  pub export-one : (v w : Whole) → IsExport settings objects v → IsExport settings objects w → v ≡ w
  export-one v w (finished es c s g p) (finished fs d t k q) = p ∙ ap (finished_whole settings objects) (all-one es fs (c ∙ sym d) s t) ∙ sym q
  export-one v w (finished es c s g p) (stopped fs y m k d t ty b ny q) = absurd (goes-on es fs y m (c ∙ d) s ty (g k) ny)
  export-one v w (stopped es x l k c s sx a nx p) (finished fs d t g q) = absurd (goes-on fs es x l (d ∙ c) t sx (g k) nx)
  export-one v w (stopped es x l k c s sx a nx p) (stopped fs y m j d t ty b ny q) =
      let r = stops-one es fs x y l m (sym c ∙ d) s t sx ty a b nx ny in
      p ∙ ap (λ (z : List Entry). stopped_whole settings objects z x) r.0 ∙ ap (stopped_whole settings objects fs) r.1 ∙ sym q
