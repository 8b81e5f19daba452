use Rattle.std.proofs.Common.{Contains, List, ap, arith, get_or, inl, inr, length, length-append, subst, sym, ⊎_elim, ◌++◌, ◌-◌, ◌<◌, ◌∙◌, ◌∷◌, [], ◌≡◌}
use Rattle.osm_segments.specs.declared.ranges.strips.SegAt.{SegAt}
use Rattle.osm_segments.specs.Ranges.{RunsLeft, StandInRow}
use Rattle.osm_segments.proofs.SettledPairs.{all_taken, longer_row, went_first, went_second}
use Rattle.osm_segments.proofs.ranges.rows.row_of.Goals as goal
use Rattle.osm_segments.proofs.ranges.rows.row_of.Goals.{then-follows+in_ok-push, else-follows+in_ok-push-2}

pub loop-s-preserved : goal.loop-s-preserved
loop-s-preserved c =
    let all = c.args.all.now in let i = c.loop-s.s-index in let s = c.s-item.result in let row = c.loop-s.row.items in let left = c.loop-s.rest.items in let strip = c.args.strip in
    let so_far = c.loop-s.invariant in
    elim c.if-follows.branch [
      | then-follows+in_ok-push w ↦
          let first : c.if-follows.row.items ≡ row ++ s ∷ [] = ap (λ v. v.items) w.row-is ∙ w.in_ok-push.ensures.items in
          let second : c.if-follows.rest.items ≡ left = ap (λ v. v.items) w.rest-is in
          let after = subst (λ (xs : List SegAt). (d : SegAt) → 0 < length xs → RunsLeft strip.low strip.high (get_or xs (length xs - 1) d).seg s.seg) c.deref.ensures.value (c.follows.ensures.after w.if-follows.true) in
          let long = ap length first in let same = ap length second in let more = length-append row (s ∷ []) in (
            subst (StandInRow strip) (sym first) (longer_row strip row s so_far.0 after),
            λ t k. ⊎_elim (λ (m : Contains (row ++ s ∷ []) t). inl (subst (λ xs. Contains xs t) (sym first) m)) (λ (m : Contains left t). inr (subst (λ xs. Contains xs t) (sym second) m))
                (went_first all row left i s c.loop-s-test.true c.s-item.is so_far.1 t k),
            omega (arith, so_far.2),
            λ h. omega arith,
          )
      | else-follows+in_ok-push-2 w ↦
          let first : c.if-follows.row.items ≡ row = ap (λ v. v.items) w.row-is in
          let second : c.if-follows.rest.items ≡ left ++ s ∷ [] = ap (λ v. v.items) w.rest-is ∙ w.in_ok-push-2.ensures.items in
          let some = c.follows.ensures.first w.if-follows.false in
          let same = ap length c.deref.ensures.value in
          let long = ap length first in let longer = ap length second in let more = length-append left (s ∷ []) in (
            subst (StandInRow strip) (sym first) so_far.0,
            λ t k. ⊎_elim (λ (m : Contains row t). inl (subst (λ xs. Contains xs t) (sym first) m)) (λ (m : Contains (left ++ s ∷ []) t). inr (subst (λ xs. Contains xs t) (sym second) m))
                (went_second all row left i s c.loop-s-test.true c.s-item.is so_far.1 t k),
            omega (arith, so_far.2),
            λ h. omega arith,
          )
    ]

pub returns-clause-whole : goal.returns-clause-whole
returns-clause-whole c s k = c.loop-s.invariant.1 s (all_taken c.args.all.now c.loop-s.s-index s c.loop-s-test.false k)
