-- The segments that occur at least twice in a list.
use Rattle.std.specs.Prelude.{◌≡◌, List, All, map, nat_le, if◌then◌else◌}
use Rattle.osm_lattice.specs.declared.seg.Seg.{Seg}
use Rattle.osm_lattice.specs.Seg.{seg_cmp}
use Rattle.lists.specs.Rising.{IsRising, count_of}
use Rattle.lists.specs.declared.tally.Tally.{Tally}
use Rattle.osm_segments.specs.declared.counts.Repeat.{Repeat}

abbrev pub segs_of : List Repeat → List Seg
segs_of repeats = map (λ r. r.seg) repeats

-- the segments that occur at least twice in a list, each once and with its number
pub record AreRepeats (segs : List Seg) (repeats : List Repeat) : Type 0 where
  pub twice : (s : Seg) → count_of seg_cmp s (segs_of repeats) ≡ (if nat_le 2 (count_of seg_cmp s segs) then 1 else 0)
  pub times : All (λ r. r.times ≡ count_of seg_cmp r.seg segs) repeats
  pub rising : IsRising seg_cmp (segs_of repeats)

-- a tally of segments
abbrev pub repeat_of : Tally Seg → Repeat
repeat_of t = record { seg = t.item; times = t.times }
