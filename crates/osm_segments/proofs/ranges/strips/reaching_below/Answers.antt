use Rattle.std.proofs.Common.{Contains, ap, inl, inr, subst, sym, ⊎_elim, ◌++◌, ◌∙◌, ◌≤ℤ◌, ◌∷◌, [], ◌≡◌}
use Rattle.std.proofs.lemmas.List.Elements.{Contains-append_left}
use Rattle.osm_segments.specs.declared.ranges.strips.SegAt.{SegAt}
use Rattle.osm_segments.specs.Ranges.{height}
use Rattle.osm_segments.proofs.SettledPairs.{all_taken, last_in, one_more_in}
use Rattle.osm_segments.proofs.TriedPairs.{not_lower}
use Rattle.osm_segments.proofs.ranges.strips.reaching_below.Goals as goal
use Rattle.osm_segments.proofs.ranges.strips.reaching_below.Goals.{then-is_lower+in_ok-push, else-is_lower}

pub loop-s-preserved : goal.loop-s-preserved
loop-s-preserved c t k =
    let all = c.args.all.now in let i = c.loop-s.s-index in let s = c.s-item.result in let old = c.loop-s.below.items in
    let next = one_more_in all i s c.loop-s-test.true c.s-item.is t k in
    elim c.if-is_lower.branch [
      | then-is_lower+in_ok-push w ↦
          let first : c.if-is_lower.below.items ≡ old ++ s ∷ [] = ap (λ v. v.items) w.below-is ∙ w.in_ok-push.ensures.items in
          ⊎_elim
          (λ m. ⊎_elim (λ (h : Contains old t). inl (subst (λ xs. Contains xs t) (sym first) (Contains-append_left old (s ∷ []) t h))) (λ h. inr h) (c.loop-s.invariant t m))
          (λ (e : s ≡ t). inl (subst (λ xs. Contains xs t) (sym first) (subst (Contains (old ++ s ∷ [])) e (last_in old s))))
          next
      | else-is_lower w ↦
          let first : c.if-is_lower.below.items ≡ old = ap (λ v. v.items) w.below-is in
          ⊎_elim
          (λ m. ⊎_elim (λ (h : Contains old t). inl (subst (λ xs. Contains xs t) (sym first) h)) (λ h. inr h) (c.loop-s.invariant t m))
          (λ (e : s ≡ t). inr (subst (λ (x : SegAt). height c.args.middle ≤ℤ height x.seg.a) e (not_lower s.seg.a c.args.middle (sym c.is_lower.ensures ∙ w.if-is_lower.false))))
          next
    ]

pub returns : goal.returns
returns c s k = c.loop-s.invariant s (all_taken c.args.all.now c.loop-s.s-index s c.loop-s-test.false k)
