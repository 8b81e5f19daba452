use Rattle.std.proofs.Common.{Contains, ap, inl, inr, subst, sym, ⊎_elim, ◌++◌, ◌∙◌, ◌∷◌, [], ◌≡◌}
use Rattle.osm_segments.proofs.SettledPairs.{all_taken, went_first, went_second}
use Rattle.osm_segments.proofs.ranges.rows.part_each.Goals as goal
use Rattle.osm_segments.proofs.ranges.rows.part_each.Goals.{then-runs_through+in_ok-push, else-runs_through+in_ok-push-2}

pub loop-s-preserved : goal.loop-s-preserved
loop-s-preserved c t k =
    let all = c.args.all.now in let i = c.loop-s.s-index in let s = c.s-item.result in let through = c.loop-s.through.items in let others = c.loop-s.others.items in
    elim c.if-runs_through.branch [
      | then-runs_through+in_ok-push w ↦
          let first : c.if-runs_through.through.items ≡ through ++ s ∷ [] = ap (λ v. v.items) w.through-is ∙ w.in_ok-push.ensures.items in
          let second : c.if-runs_through.others.items ≡ others = ap (λ v. v.items) w.others-is in
          ⊎_elim (λ (m : Contains (through ++ s ∷ []) t). inl (subst (λ xs. Contains xs t) (sym first) m)) (λ (m : Contains others t). inr (subst (λ xs. Contains xs t) (sym second) m))
          (went_first all through others i s c.loop-s-test.true c.s-item.is c.loop-s.invariant t k)
      | else-runs_through+in_ok-push-2 w ↦
          let first : c.if-runs_through.through.items ≡ through = ap (λ v. v.items) w.through-is in
          let second : c.if-runs_through.others.items ≡ others ++ s ∷ [] = ap (λ v. v.items) w.others-is ∙ w.in_ok-push-2.ensures.items in
          ⊎_elim (λ (m : Contains through t). inl (subst (λ xs. Contains xs t) (sym first) m)) (λ (m : Contains (others ++ s ∷ []) t). inr (subst (λ xs. Contains xs t) (sym second) m))
          (went_second all through others i s c.loop-s-test.true c.s-item.is c.loop-s.invariant t k)
    ]

pub returns : goal.returns
returns c s k = c.loop-s.invariant s (all_taken c.args.all.now c.loop-s.s-index s c.loop-s-test.false k)
