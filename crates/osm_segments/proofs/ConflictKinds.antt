-- Each conflict among segments is of the kind that its two segments have.
use Rattle.std.proofs.Common.{All, List, None, Option, Some, [], refl, ◌∷◌, ◌≡◌}
use Rattle.std.specs.List.{filter_map}
use Rattle.std.proofs.lemmas.List.Elements.{All-append, All-cons, All-nil}
use Rattle.osm_lattice.specs.declared.conflicts.Kind.{Kind}
use Rattle.osm_lattice.specs.declared.seg.Seg.{Seg}
use Rattle.osm_lattice.specs.Conflict.{conflict_of}
use Rattle.osm_segments.specs.Laws.{ConflictsHaveTheirKind}
use Rattle.osm_segments.specs.Pairs.{IsPairOfItsKind, conflicts_of, pair_of}

pair_first : (s t : Seg) (ts : List Seg) (found : Option Kind) → conflict_of s t ≡ found → All IsPairOfItsKind (filter_map (pair_of s) ts) → All IsPairOfItsKind (filter_map (pair_of s) (t ∷ ts))
unfolding pair_of
pair_first s t ts None is all = rw is all
pair_first s t ts (Some kind) is all = rw is (All-cons IsPairOfItsKind (record { kind = kind; first = s; second = t }) (filter_map (pair_of s) ts) is all)

pairs_of_kind : (s : Seg) (ts : List Seg) → All IsPairOfItsKind (filter_map (pair_of s) ts)
pairs_of_kind s [] = All-nil IsPairOfItsKind
pairs_of_kind s (t ∷ ts) = pair_first s t ts (conflict_of s t) refl (pairs_of_kind s ts)

pub conflicts_of_kind : ConflictsHaveTheirKind
conflicts_of_kind [] = All-nil IsPairOfItsKind
conflicts_of_kind (s ∷ ss) = All-append IsPairOfItsKind (filter_map (pair_of s) ss) (conflicts_of ss) (pairs_of_kind s ss) (conflicts_of_kind ss)
