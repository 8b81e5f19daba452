-- The summary of objects: what export and coastline make of them, counted.
use Rattle.std.specs.Prelude.{◌≡◌, ℕ, false, List, All, codes, length, map}
use Rattle.std.specs.List.{sum_by}
use Rattle.osm_elements.specs.declared.object.Object.{Object}
use Rattle.osm_elements.specs.declared.object.ObjectRef.{ObjectRef}
use Rattle.osm_area.specs.Outcome.{IsOutcome, polygons_in}
use Rattle.osm_area.specs.declared.outcome.Outcome.{Outcome}
use Rattle.osm_area.specs.declared.outcome.Outcome.TheVariants.{Area, Problems}
use Rattle.osm_nest.specs.Polygons.{rings_of}
use Rattle.osm_objects.specs.Candidates.{candidates, without_lists}
use Rattle.osm_words.specs.Job.{CoastlineSettings}
use Rattle.osm_words.specs.declared.settings.OutputPolygons.TheVariants.{Both}
use Rattle.job_coastline.specs.Counts.{AreCoastCounts}
use Rattle.job_coastline.specs.declared.counts.CoastCounts.{CoastCounts}
use Rattle.job_small.specs.declared.sample.summary.Summary.{Summary}

-- ---- areas

-- a candidate with its outcome
pub record Assembled : Type 0 where
  pub candidate : ObjectRef
  pub outcome : Outcome

abbrev pub IsAssembled : List Object → Assembled → Type 0
IsAssembled objects one = IsOutcome objects one.candidate one.outcome

-- These candidates with their outcomes, in order.
pub record AreAssembled (objects : List Object) (chosen : List ObjectRef) (all : List Assembled) : Type 0 where
  pub in_order : map (λ one. one.candidate) all ≡ chosen
  pub right : All (IsAssembled objects) all

-- a candidate has an area
abbrev pub area_count : Outcome → ℕ
area_count (Area polygons notes) = 1
area_count (Problems list notes) = 0

-- or problems
abbrev pub problem_count : Outcome → ℕ
problem_count (Area polygons notes) = 0
problem_count (Problems list notes) = 1

abbrev pub polygon_count : Outcome → ℕ
polygon_count outcome = length (polygons_in outcome)

abbrev pub ring_count : Outcome → ℕ
ring_count outcome = length (rings_of (polygons_in outcome))

abbrev pub sum_of : (Outcome → ℕ) → List Assembled → ℕ
sum_of count all = sum_by (λ one. count one.outcome) all

-- ---- the summary

-- coastline -p both -m 100 -b 0.0001
abbrev pub coast_settings : CoastlineSettings
coast_settings = record {
  file = codes "-";
  output = codes "-";
  overwrite = false;
  close_distance = 10_000_000;
  max_points = 100;
  bbox_overlap = 1_000;
  polygons = Both;
  cut_crossings = false;
}

abbrev pub summary_of : List Assembled → CoastCounts → Summary
summary_of all coast = record {
  areas = sum_of area_count all;
  polygons = sum_of polygon_count all;
  rings = sum_of ring_count all;
  problems = sum_of problem_count all;
  land = coast.land;
  water = coast.water;
  warnings = coast.warnings;
  errors = coast.errors;
}

-- It counts the outcomes of the candidates of these objects, without those that have no tags, and the lines of coastline over the objects.
pub record IsSummary (objects : List Object) (summary : Summary) : Type 0 where
  pub all : List Assembled
  pub assembled : AreAssembled objects (candidates (without_lists false) objects) all
  pub coast : CoastCounts
  pub coast_right : AreCoastCounts coast_settings objects coast
  pub counted : summary ≡ summary_of all coast
