use Rattle.std.proofs.Common.{ap, arith, get_or, length, sym, ◌++◌, ◌-◌, ◌<◌, ◌∙◌, ◌∷◌, [], ◌≡◌}
use Rattle.std.proofs.lemmas.List.{get_or_default, take_all}
use Rattle.std.specs.Ordering.{is_lt}
use Rattle.lists.specs.Rising.{count_of}
use Rattle.osm_lattice.specs.Seg.{seg_cmp}
use Rattle.osm_segments.proofs.RepeatSteps.{equal_more, first_alone, other_more}
use Rattle.osm_segments.proofs.counts.equal_to_last.Goals as goal
use Rattle.osm_segments.proofs.counts.equal_to_last.Goals.{then-not-comes_before+in_ok-push, else-not-comes_before}

pub loop-place-init : goal.loop-place-init
loop-place-init c s = ap (count_of seg_cmp s) c.new-equal.ensures.items ∙ first_alone s c.args.sorted.now

pub loop-place-preserved : goal.loop-place-preserved
loop-place-preserved c s =
    let xs = c.args.sorted.now in let place = c.loop-place.place in let found = c.loop-place.equal.items in
    let d = c.index-sorted-place.result in let e = c.index-sorted-place-in-loop-place.result in
    let some : 0 < place = omega arith in let inside : place < length xs = omega arith in
    let told : is_lt (seg_cmp (get_or xs (place - 1) d) (get_or xs place d)) ≡ c.comes_before.result = ap (λ t. is_lt (seg_cmp t (get_or xs place d))) (sym c.index-sorted-place.is) ∙ (ap (λ t. is_lt (seg_cmp d t)) (get_or_default xs place d e inside ∙ sym c.index-sorted-place-in-loop-place.is) ∙ sym c.comes_before.ensures) in
    elim c.if-not-comes_before.branch [
      | then-not-comes_before+in_ok-push w ↦
          let y = w.index-sorted-place-then-not-comes_before.result in
          let same : y ≡ get_or xs place d = w.index-sorted-place-then-not-comes_before.is ∙ get_or_default xs place y d inside in
          ap (λ v. count_of seg_cmp s v.items) w.equal-is ∙ ap (count_of seg_cmp s) w.in_ok-push.ensures.items ∙ ap (λ z. count_of seg_cmp s (found ++ z ∷ [])) same
          ∙ equal_more xs c.requires place some inside d s found (told ∙ w.if-not-comes_before.true) (c.loop-place.invariant s)
      | else-not-comes_before w ↦
          ap (λ v. count_of seg_cmp s v.items) w.equal-is ∙ other_more xs c.requires place some inside d s found (told ∙ w.if-not-comes_before.false) (c.loop-place.invariant s)
    ]

pub returns : goal.returns
returns c s = c.loop-place.invariant s ∙ ap (λ xs. count_of seg_cmp s xs - 1) (take_all c.loop-place.place c.args.sorted.now c.loop-place-test.false)
