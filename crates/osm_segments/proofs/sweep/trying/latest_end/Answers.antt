use Rattle.std.proofs.Common.{ap, arith, get_or, length, subst, sym, ⊎_elim, ◌<◌, ◌∙◌, ◌≡◌, ◌≢◌}
use Rattle.std.proofs.lemmas.List.{get_or_default}
use Rattle.std.proofs.lemmas.Bool.{cases_eq}
use Rattle.osm_lattice.specs.declared.seg.Seg.{Seg}
use Rattle.osm_segments.specs.Sweep.{IsNotBefore}
use Rattle.osm_segments.proofs.Sweeps.{after-chain, after-own, not-after, plus-after}
use Rattle.osm_segments.proofs.sweep.trying.latest_end.Goals as goal
use Rattle.osm_segments.proofs.sweep.trying.latest_end.Goals.{then-is_before, else-is_before}

pub loop-j-preserved : goal.loop-j-preserved
loop-j-preserved c k d a l =
    let segs = c.args.segs.now in let j = c.loop-j.j in let latest = c.loop-j.latest in let s = get_or segs j c.index-segs-j.result in
    let inside : j < length segs = omega arith in
    let at : k ≡ j → get_or segs k d ≡ s = λ e. ap (λ m. get_or segs m d) e ∙ get_or_default segs j d c.index-segs-j.result inside in
    elim c.if-is_before.branch [
      | then-is_before w ↦ subst (IsNotBefore (get_or segs k d).b) (sym w.latest-is)
          (⊎_elim
          (λ (e : k ≡ j). subst (λ (u : Seg). IsNotBefore u.b s.b) (sym (at e)) (after-own s.b))
          (λ (n : k ≢ j). after-chain (get_or segs k d).b latest s.b (c.loop-j.invariant k d a (omega (arith, n))) (plus-after latest s.b (sym c.is_before.ensures ∙ w.if-is_before.true)))
          (cases_eq k j))
      | else-is_before w ↦ subst (IsNotBefore (get_or segs k d).b) (sym w.latest-is)
          (⊎_elim
          (λ (e : k ≡ j). subst (λ (u : Seg). IsNotBefore u.b latest) (sym (at e)) (not-after latest s.b (sym c.is_before.ensures ∙ w.if-is_before.false)))
          (λ (n : k ≢ j). c.loop-j.invariant k d a (omega (arith, n)))
          (cases_eq k j))
    ]
