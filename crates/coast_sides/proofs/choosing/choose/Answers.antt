-- The ring is kept where none of its segments is blocked.
use Rattle.std.proofs.Common.{◌≡◌, ◌++◌, All, Contains, true, not, List, ap, subst, sym, ◌∙◌}
use Rattle.std.proofs.lemmas.Result.{on_ok_weaker}
use Rattle.std.specs.BTreeSet.{contains}
use Rattle.std.specs.List.{list_any}
use Rattle.osm_lattice.specs.declared.seg.Seg.{Seg}
use Rattle.osm_lattice.specs.Seg.{seg_cmp}
use Rattle.coast_sides.specs.ChoiceSteps.{AreBlocked, is_free, knows}
use Rattle.coast_sides.specs.Segments.{segments_round}
use Rattle.coast_sides.proofs.Blocking.{free_round}
use Rattle.coast_sides.proofs.choosing.choose.Goals as goal

pub returns-clause-blocked : goal.returns-clause-blocked
returns-clause-blocked c =
    let blocked = contains seg_cmp c.args.blocked.now in
    let path = c.args.ring.now.path in
    let round = c.deref.ensures.value ∙ (c.in_ok-round.ensures ∙ ap segments_round c.as_slice.ensures) in
    let lent = c.deref-2.ensures.value ∙ (c.in_ok-round.ensures ∙ ap segments_round c.as_slice.ensures) in
    let free : is_free blocked c.args.ring.now ≡ true = ap not (sym (c.any_among.ensures ∙ ap (list_any blocked) round) ∙ c.if-any_among.false) in
    let known_then = knows c.block_round.new.foes in
    let blocked_then = contains seg_cmp c.block_round.new.blocked in
    on_ok_weaker c.block_round.result
    (λ told segs held all are. free_round segs held (segments_round path) (is_free blocked c.args.ring.now) known_then blocked_then free
    (subst (λ (ss : List Seg). AreBlocked segs (held ++ ss) known_then blocked_then) lent (told segs held (subst (All (Contains segs)) (sym lent) all) are)))
    c.block_round.ensures
