-- What a locate job is to write is there, and it is one.
use Rattle.std.proofs.Common.{◌≡◌, ◌∙◌, refl, sym, ap, subst, ℕ, List, ◌⊎◌, inl, inr}
use Rattle.osm_lattice.specs.declared.loc.Loc.{Loc}
use Rattle.osm_elements.specs.declared.object.Object.{Object}
use Rattle.osm_words.specs.Job.{LocateSettings}
use Rattle.osm_job.specs.declared.ended.Ended.TheVariants as ended
use Rattle.osm_job.specs.Whole.{Whole, silent}
use Rattle.osm_input.specs.PointLines.Laws.{FirstBadLineIsOne, PointsExcludeABadLine, TextsHavePointsOrABadLine}
use Rattle.osm_input.specs.PointLines.Points.{ArePoints, IsBadPoint}
use Rattle.area_locate.specs.declared.found.Found.{Found}
use Rattle.area_locate.specs.Hits.{AreFound}
use Rattle.area_locate.specs.Laws.{FoundExists, FoundIsOne}
use Rattle.job_small.specs.Locating.Locate.{IsLocate, choice_of, whole_of_points, points, bad}

module _ (there : FoundExists) (parted : TextsHavePointsOrABadLine) (settings : LocateSettings) (objects : List Object) (text : List ℕ) where
  by_text : ((ps : List Loc) × ArePoints text ps) ⊎ ((line : ℕ) × IsBadPoint text line) → (whole : Whole) × IsLocate settings objects text whole
  by_text (inl told) = let found = there (choice_of settings) objects told.0 in (whole_of_points found.0, points told.0 found.0 told.1 found.1 refl)
  by_text (inr line) = (silent (ended.BadPoint line.0), bad line.0 line.1 refl)

  pub locate_there : (whole : Whole) × IsLocate settings objects text whole
  locate_there = by_text (parted text)

module _ (one : FoundIsOne) (first : FirstBadLineIsOne) (exclude : PointsExcludeABadLine) (settings : LocateSettings) (objects : List Object) (text : List ℕ) where
  same_found : (ps qs : List Loc) (f g : List Found) → ArePoints text ps → ArePoints text qs → AreFound (choice_of settings) objects ps f → AreFound (choice_of settings) objects qs g → f ≡ g
  same_found ps qs f g told also found among =
      one (choice_of settings) objects ps f g found (subst (λ (at : List Loc). AreFound (choice_of settings) objects at g) (also.told ∙ sym told.told) among)

  pub one_locate : (v w : Whole) → IsLocate settings objects text v → IsLocate settings objects text w → v ≡ w
  one_locate v w (points ps f told found is) (points qs g also among so) = is ∙ ap whole_of_points (same_found ps qs f g told also found among) ∙ sym so
  one_locate v w (points ps f told found is) (bad line broken so) = absurd (exclude text ps line told broken)
  one_locate v w (bad line broken is) (points qs g also among so) = absurd (exclude text qs line also broken)
  one_locate v w (bad line broken is) (bad other also so) = is ∙ ap (λ (n : ℕ). silent (ended.BadPoint n)) (first text line other broken also) ∙ sym so
