-- Busy nodes and the ends of repeats, in order.
use Rattle.std.proofs.Common.{Contains, List, ap, subst, sym, ◌∙◌, ◌<◌}
use Rattle.osm_lattice.specs.declared.loc.Loc.{Loc}
use Rattle.osm_lattice.specs.declared.seg.Seg.{Seg}
use Rattle.osm_lattice.specs.Loc.{loc_cmp}
use Rattle.lists.specs.Rising.{count_of}
use Rattle.osm_segments.specs.Counts.{ends_of}
use Rattle.osm_segments.specs.Repeats.{segs_of}
use Rattle.osm_segments.specs.declared.counts.Repeat.{Repeat}
use Rattle.coast_sides.specs.Junctions.{is_one_of}
use Rattle.coast_sides.proofs.PassedEnds.{one_of_first, one_of_second, one_sorted}
use Rattle.coast_sides.proofs.junctions.junctions.Goals as goal

pub returns-clause-busy : goal.returns-clause-busy
returns-clause-busy c p many =
    let added = c.add_ends.new.nodes.items in
    one_sorted added c.sort_unstable.new.self.items p c.sort_unstable.ensures.permutation
    (ap (λ (nodes : List Loc). is_one_of nodes p) c.in_ok-add_ends.ensures ∙ one_of_first c.in_ok-nodes.nodes.items (ends_of (segs_of c.deref-2.result.now)) p (c.in_ok-nodes.ensures p (subst (λ (segs : List Seg). 2 < count_of loc_cmp p (ends_of segs)) (sym c.deref.ensures.value) many)))

pub returns-clause-repeated : goal.returns-clause-repeated
returns-clause-repeated c p there =
    let added = c.add_ends.new.nodes.items in
    one_sorted added c.sort_unstable.new.self.items p c.sort_unstable.ensures.permutation
    (ap (λ (nodes : List Loc). is_one_of nodes p) c.in_ok-add_ends.ensures ∙ one_of_second c.in_ok-nodes.nodes.items (ends_of (segs_of c.deref-2.result.now)) p (subst (λ (repeats : List Repeat). Contains (ends_of (segs_of repeats)) p) (sym c.deref-2.ensures.value) there))
