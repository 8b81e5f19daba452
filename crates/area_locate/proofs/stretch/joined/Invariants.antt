-- The entries of the parts so far.
use Rattle.std.proofs.Common.{All, List}
use Rattle.osm_lattice.specs.declared.loc.Loc.{Loc}
use Rattle.area_locate.specs.Index.{AreEntries, IsStretch}
use Rattle.area_locate.proofs.stretch.joined.Given as goal

abbrev pub invariant-loop-part : goal.invariant-loop-part
invariant-loop-part l = (points : List Loc) → All (IsStretch points) l.parts → AreEntries points l.first l.end l.entries.items
