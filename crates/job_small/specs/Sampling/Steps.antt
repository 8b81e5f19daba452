-- Words of private clauses on the counts of areas. No public contract cites them.
use Rattle.std.specs.Prelude.{◌≡◌, ◌+◌, List}
use Rattle.osm_elements.specs.declared.object.Object.{Object}
use Rattle.osm_elements.specs.declared.object.ObjectRef.{ObjectRef}
use Rattle.osm_area.specs.Outcome.{IsOutcome}
use Rattle.osm_area.specs.declared.outcome.Outcome.{Outcome}
use Rattle.job_small.specs.Sampling.Summary.{AreAssembled, Assembled, area_count, polygon_count, problem_count, ring_count, sum_of}
use Rattle.job_small.specs.declared.sample.areas.AreaCounts.{AreaCounts}

-- the counts of one candidate
abbrev pub area_counts_of : Outcome → AreaCounts
area_counts_of outcome =
    record { areas = area_count outcome; polygons = polygon_count outcome; rings = ring_count outcome; problems = problem_count outcome }

abbrev pub together : AreaCounts → AreaCounts → AreaCounts
together a b =
    record { areas = a.areas + b.areas; polygons = a.polygons + b.polygons; rings = a.rings + b.rings; problems = a.problems + b.problems }

abbrev pub total : List Assembled → AreaCounts
total all = record {
  areas = sum_of area_count all;
  polygons = sum_of polygon_count all;
  rings = sum_of ring_count all;
  problems = sum_of problem_count all;
}

-- These are the counts of the outcomes of these candidates.
pub record AreAreaCounts (objects : List Object) (chosen : List ObjectRef) (counts : AreaCounts) : Type 0 where
  pub all : List Assembled
  pub assembled : AreAssembled objects chosen all
  pub counted : counts ≡ total all

-- One more candidate was counted.
abbrev pub AddsCandidate : List Object → ObjectRef → AreaCounts → AreaCounts → Type 0
AddsCandidate objects candidate before after = (outcome : Outcome) × IsOutcome objects candidate outcome × (after ≡ together before (area_counts_of outcome))
