-- The lines of a coastline's report, and the ending that they tell.
use Rattle.std.specs.Prelude.{◌≡◌, ℕ, ℤ, List, [], ◌∷◌, ◌++◌, if◌then◌else◌, length, ◌==◌, map, Option, Some, None, option_map}
use Rattle.std.specs.List.{filter_map, list_any, slice_get}
use Rattle.osm_segments.specs.declared.counts.Repeat.{Repeat}
use Rattle.osm_segments.specs.declared.pairs.Pair.{Pair}
use Rattle.osm_job.specs.declared.ended.Ended.{Ended}
use Rattle.osm_job.specs.declared.ended.Ended.TheVariants as ended
use Rattle.osm_text.specs.Coast.{IsCoastLine, is_error}
use Rattle.osm_text.specs.declared.coast.CoastLine.{CoastLine}
use Rattle.osm_text.specs.declared.coast.CoastLine.TheVariants as line
use Rattle.coast_rings.specs.Line.{first_location, last_location}
use Rattle.coast_join.specs.declared.chain.Chain.{Chain}
use Rattle.coast_join.specs.declared.gap.Gap.{Gap}
use Rattle.coast_rings.specs.declared.ring.CoastRing.{CoastRing}
use Rattle.coast_join.specs.declared.way.Aside.{Aside}
use Rattle.coast_join.specs.declared.way.Aside.TheVariants.{Missing, Short}
use Rattle.coast_sides.specs.declared.cut.Cut.{Cut}
use Rattle.job_coastline.specs.Coast.{Coast}

-- ---- one line

abbrev pub aside_line : Aside → CoastLine
aside_line (Missing way node) = line.Missing way node
aside_line (Short way) = line.Short way

-- By law of closings the chains that these lines name are among those that were told.
abbrev pub antarctica_line : List Chain → ℕ → Option CoastLine
antarctica_line chains place = option_map (λ (chain : Chain). line.Antarctica chain.name) (slice_get chains place)

-- from the end of a chain to the start of one
abbrev pub gap_line_between : Option Chain → Option Chain → Option CoastLine
gap_line_between (Some from) (Some to) = Some (line.Gap (last_location from.path) (first_location to.path))
gap_line_between (Some from) None = None
gap_line_between None to = None

abbrev pub gap_line : List Chain → Gap → Option CoastLine
gap_line chains gap = gap_line_between (slice_get chains gap.from_chain) (slice_get chains gap.to_chain)

abbrev pub unclosed_line : Chain → CoastLine
unclosed_line chain = line.Unclosed chain.name (first_location chain.path) (last_location chain.path)

abbrev pub cut_line : Cut → CoastLine
cut_line cut = line.Cut cut.ring cut.from cut.to

abbrev pub left_out_line : CoastRing → CoastLine
left_out_line ring = line.LeftOut ring.name

abbrev pub conflict_line : Pair → CoastLine
conflict_line pair = line.Conflict pair.kind pair.first pair.second

abbrev pub repeated_line : Repeat → CoastLine
repeated_line repeat = line.Repeated repeat.seg repeat.times

abbrev pub wrong_way_line : ℤ → CoastLine
wrong_way_line ring = line.WrongWay ring

-- ---- all lines

-- The lines of the report, in order:
-- - ways set aside, Antarctica and gaps
-- - chains that are still unclosed, and what was cut out of rings
-- - rings that are left out, and conflicts
-- - segments that occur more than once, and rings that run the wrong way
abbrev pub coast_lines : Coast → List CoastLine
coast_lines coast =
    map aside_line coast.asides
    ++ (filter_map (antarctica_line coast.chains) coast.closings.antarctica
    ++ (filter_map (gap_line coast.chains) coast.closings.gaps
    ++ (map unclosed_line coast.joined.unclosed
    ++ (map cut_line coast.sorted.cuts
    ++ (map left_out_line coast.sorted.left_out
    ++ (map conflict_line coast.sorted.pairs
    ++ (map repeated_line coast.land.repeats
    ++ map wrong_way_line coast.land.wrong_way)))))))

-- how they are printed, one after the other
abbrev pub ArePrinted : List CoastLine → List ℕ → Type 0
ArePrinted [] text = text ≡ []
ArePrinted (line ∷ lines) text =
    (first : List ℕ) × (rest : List ℕ) × IsCoastLine line first × ArePrinted lines rest × (text ≡ first ++ rest)

-- with errors, with warnings alone, or without both
abbrev pub ending_of : List CoastLine → Ended
ending_of lines =
    if list_any is_error lines then ended.Errors else if length lines == 0 then ended.Done else ended.Warnings
