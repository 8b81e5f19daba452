use Rattle.std.proofs.Common.{ap, arith, cond, length, min, subst, sym, ◌+◌, ◌-◌, ◌∙◌, ◌≡◌}
use Rattle.std.proofs.lemmas.Bool.Decides.{nat_tests}
use Rattle.std.proofs.lemmas.List.Sums.{sum_by-append}
use Rattle.std.proofs.lemmas.Result.{IfOk-weaker}
use Rattle.std.specs.Ordering.{is_eq}
use Rattle.lists.specs.Rising.{count_of}
use Rattle.osm_lattice.specs.declared.seg.Seg.{Seg}
use Rattle.osm_lattice.specs.Seg.{seg_cmp}
use Rattle.osm_segments.specs.Repeats.{AreRepeats}
use Rattle.osm_segments.proofs.RepeatSteps.{no_repeats, repeats_from_copies}
use Rattle.osm_segments.proofs.counts.repeats_along.Goals as goal

pub returns-then-is_empty : goal.returns-then-is_empty
returns-then-is_empty c =
    let copies = c.in_ok-copies.copies.items in
    let none : length copies ≡ 0 = (let h = sym c.is_empty.ensures ∙ c.if-is_empty.true in grind (arith, nat_tests, h)) in
    subst (AreRepeats c.args.sorted.now) (sym c.new.ensures.items) (no_repeats c.args.sorted.now copies none c.in_ok-copies.ensures)

pub returns : goal.returns
returns c =
    let xs = c.args.sorted.now in let copies = c.in_ok-copies.copies.items in let once = c.in_ok-once.once.items in
    let counts : (s : Seg) → count_of seg_cmp s c.deref-3.result.now ≡ count_of seg_cmp s xs - 1 + min 1 (count_of seg_cmp s xs - 1) = λ s.
    let first = c.in_ok-copies.ensures s in
    let second : count_of seg_cmp s once ≡ min 1 (count_of seg_cmp s copies) = c.in_ok-once.ensures.once s ∙ ap (λ ys. min 1 (count_of seg_cmp s ys)) c.deref.ensures.value in
    ap (count_of seg_cmp s) (c.deref-3.ensures.value ∙ c.in_ok-extend_from_slice.ensures.items)
    ∙ (sum_by-append (λ q. cond (is_eq (seg_cmp q s)) 1 0) copies c.deref-2.result.now
    ∙ (ap (λ ys. count_of seg_cmp s copies + count_of seg_cmp s ys) c.deref-2.ensures.value
    ∙ (ap (λ n. count_of seg_cmp s copies + n) second ∙ ap (λ n. n + min 1 n) first))) in
    IfOk-weaker c.repeated.result _ _ (λ v are. repeats_from_copies xs c.deref-3.result.now v.items counts are) c.repeated.ensures
