use Rattle.coast_sides.specs.Segments.{all_segments}
use Rattle.job_coastline.proofs.LineKinds.{all_of_kind, pairs_told}
use Rattle.job_coastline.proofs.line_laws.lines_have_kinds.Goals as goal

pub returns : goal.returns
returns c settings objects coast is land water = all_of_kind (all_segments coast.joined.rings) coast
    (pairs_told settings.cut_crossings coast.joined.rings coast.sorted is.sorted) land water
