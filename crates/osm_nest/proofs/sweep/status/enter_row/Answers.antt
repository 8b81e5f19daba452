-- One more was put.
use Rattle.std.proofs.Common.{arith, ap, filter, inl, inr, refl, get_or, length, subst, suc, sym, take, true, ◌+◌, ◌<◌, ◌≡◌, ◌∙◌, ⊎_elim}
use Rattle.lists.specs.Member.{In}
use Rattle.osm_nest.specs.declared.sweep.ring_edge.RingEdge.{RingEdge}
use Rattle.osm_nest.specs.SweptEdges.{is_within}
use Rattle.osm_nest.proofs.FilteredLists.{in-sooner, next-taken}
use Rattle.osm_nest.proofs.sweep.status.enter_row.Goals as goal

pub loop-status-init : goal.loop-status-init
loop-status-init c = (c.requires, 0, omega arith, refl, λ e i. inl i)

pub enter-requires : goal.enter-requires
enter-requires c = let i = c.index-edges-next.result in subst (λ (t : RingEdge). is_within c.args.at.now t ≡ true) (sym c.index-edges-next.is) (c.goes_on.ensures.within c.loop-status-test.true i)

pub loop-status-preserved : goal.loop-status-preserved
loop-status-preserved c =
    let edges = c.args.edges.now in let next = c.loop-status.next in let i = c.index-edges-next.result in let n = c.loop-status.invariant.1 in
    let inside : next < length edges = c.goes_on.ensures.inside c.loop-status-test.true in
    let within : is_within c.args.at.now i ≡ true = subst (λ (t : RingEdge). is_within c.args.at.now t ≡ true) (sym c.index-edges-next.is) (c.goes_on.ensures.within c.loop-status-test.true i) in
    let at : i ≡ get_or edges (c.args.from + n) i = c.index-edges-next.is ∙ ap (λ m. get_or edges m i) c.loop-status.invariant.2 in (
      omega arith,
      suc n,
      (let e = c.loop-status.invariant.2 in omega (arith, e)),
      (filter (is_within c.args.at.now) c.loop-status.status, i, at, within, c.loop-status.invariant.3, c.in_ok-enter.ensures.put c.if-not-branch.false),
      λ e j. ⊎_elim
          (λ (k : In e c.loop-status.status). ⊎_elim inl (λ (l : In e (take next edges)). inr (in-sooner edges next (next + 1) e (omega arith) l)) (c.loop-status.invariant.4 e k))
          (λ (q : e ≡ i). inr (next-taken edges next e inside (q ∙ c.index-edges-next.is ∙ ap (get_or edges next) (sym q))))
          (c.in_ok-enter.ensures.members e j),
    )

pub returns-clause-put : goal.returns-clause-put
returns-clause-put c = record {
  within = c.loop-status.invariant.0;
  size = c.loop-status.invariant.1;
  up_to = c.loop-status.invariant.2;
  put = c.loop-status.invariant.3;
  ended = λ d h. c.goes_on.ensures.ended c.loop-status-test.false d h;
}

pub returns-clause-members : goal.returns-clause-members
returns-clause-members c = c.loop-status.invariant.4
