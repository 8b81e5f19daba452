use Rattle.std.proofs.Common.{sym, ◌∙◌}
use Rattle.osm_lattice.specs.contracts.seg.SegOrd.TheImpl.Laws.{matches_eq-law}
use Rattle.osm_lattice.proofs.ConflictCases.{none_where_equal}
use Rattle.osm_lattice.proofs.conflicts.conflict_of_near.Goals as goal

pub returns-then-eq : goal.returns-then-eq
returns-then-eq c = none_where_equal c.args.s c.args.t (sym (matches_eq-law c.args.s c.args.t) ∙ (sym c.eq.ensures ∙ c.if-eq.true))
