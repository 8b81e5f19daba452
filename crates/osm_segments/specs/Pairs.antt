-- The conflicts among segments.
use Rattle.std.specs.Prelude.{List, [], ◌∷◌, ◌++◌, ◌≡◌, Option, Some, option_map}
use Rattle.std.specs.List.{filter_map}
use Rattle.std.specs.declared.cmp.Ordering.{Ordering}
use Rattle.std.specs.Ordering.{on, then_cmp}
use Rattle.osm_lattice.specs.declared.seg.Seg.{Seg}
use Rattle.osm_lattice.specs.Seg.{seg_cmp}
use Rattle.osm_lattice.specs.Conflict.{conflict_of}
use Rattle.osm_segments.specs.declared.pairs.Pair.{Pair}

-- two segments, if they conflict
unfoldable pub pair_of : Seg → Seg → Option Pair
pair_of s t = option_map (λ k. record { kind = k; first = s; second = t }) (conflict_of s t)

-- each segment with each later one that it conflicts with
abbrev pub conflicts_of : List Seg → List Pair
conflicts_of [] = []
conflicts_of (s ∷ ts) = filter_map (pair_of s) ts ++ conflicts_of ts

-- the kind of a pair is that of its segments
abbrev pub IsPairOfItsKind : Pair → Type 0
IsPairOfItsKind p = conflict_of p.first p.second ≡ Some p.kind

-- the order of pairs: by the first segment, then by the second
abbrev pub pair_cmp : Pair → Pair → Ordering
pair_cmp = then_cmp (on (λ p. p.first) seg_cmp) (on (λ p. p.second) seg_cmp)
