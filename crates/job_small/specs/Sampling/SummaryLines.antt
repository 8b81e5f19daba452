-- How a summary is printed.
use Rattle.std.specs.Prelude.{ℕ, List, ◌++◌, codes, decimal}
use Rattle.job_small.specs.declared.sample.summary.Summary.{Summary}

abbrev pub area_line : Summary → List ℕ
area_line summary =
    codes "areas " ++ decimal summary.areas ++ codes " polygons " ++ decimal summary.polygons
    ++ codes " rings " ++ decimal summary.rings ++ codes " problems " ++ decimal summary.problems ++ codes "\n"

abbrev pub coast_line : Summary → List ℕ
coast_line summary =
    codes "land " ++ decimal summary.land ++ codes " water " ++ decimal summary.water
    ++ codes " warnings " ++ decimal summary.warnings ++ codes " errors " ++ decimal summary.errors ++ codes "\n"
