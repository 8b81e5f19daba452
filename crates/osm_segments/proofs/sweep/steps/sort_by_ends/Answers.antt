use Rattle.std.proofs.Common.{rules, ◌≡◌}
use Rattle.std.specs.Ordering.{is_lt}
use Rattle.std.proofs.lemmas.Fn.{always_returns_same}
use Rattle.std.proofs.lemmas.List.MinMax.{ranks_by}
use Rattle.osm_lattice.specs.declared.seg.Seg.{Seg}
use Rattle.osm_lattice.specs.Loc.{loc_cmp}
use Rattle.osm_lattice.proofs.LatticeKit.{loc_total}
use Rattle.osm_segments.proofs.Sweeps.{ends-rise}
use Rattle.osm_segments.proofs.sweep.steps.sort_by_ends.Goals as goal

pub returns-clause-rise : goal.returns-clause-rise
returns-clause-rise c =
    ends-rise c.sort_unstable_by.new.self
    (c.sort_unstable_by.ensures.sorted (λ s t. is_lt (loc_cmp s.b t.b)) (ranks_by loc_total (λ (s : Seg). s.b))
    (always_returns_same _ (λ a r. is_lt r ≡ is_lt (loc_cmp a.0.now.b a.1.0.now.b)) _ (λ a r f' k. search rules)))
