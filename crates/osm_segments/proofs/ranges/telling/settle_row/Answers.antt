use Rattle.std.proofs.Common.{Contains, subst, sym, ◌≡◌}
use Rattle.osm_segments.specs.declared.ranges.strips.SegAt.{SegAt}
use Rattle.osm_segments.specs.Ranges.{IsSettled}
use Rattle.osm_segments.proofs.SettledPairs.{row_out, settled_still}
use Rattle.osm_segments.proofs.ranges.telling.settle_row.Goals as goal

pub returns-clause-reduced : goal.returns-clause-reduced
returns-clause-reduced c =
    let segs = c.args.segs.now in let strip = c.args.strip in let all = c.args.all.now in let others = c.args.others.now in
    let row = c.in_ok-row.field-0.row.items in let rest = c.in_ok-row.field-0.rest.items in
    let mid = c.settle_all.new.told.items in let new = c.settle_all-2.new.told.items in
    let row_is = c.in_ok-row.row-is in let rest_is = c.in_ok-row.rest-is in
    let row_value = c.deref.ensures.value in let rest_value = c.deref-2.ensures.value in let again_value = c.deref-3.ensures.value in
    let row_now : c.deref.result.now ≡ row = cc in
    let rest_now : c.deref-2.result.now ≡ rest = cc in
    let row_again : c.deref-3.result.now ≡ row = cc in
    let grown = c.in_ok-settle_all-2.ensures.grown in
    let with_rest : (s t : SegAt) → Contains row s → Contains rest t → IsSettled segs new strip s t =
    λ s t a b. settled_still segs mid new strip s t grown.kept (c.in_ok-settle_all.ensures.settled s t (subst (λ xs. Contains xs s) (sym row_now) a) (subst (λ xs. Contains xs t) (sym rest_now) b)) in
    let with_others : (s t : SegAt) → Contains row s → Contains others t → IsSettled segs new strip s t = λ s t a b. c.in_ok-settle_all-2.ensures.settled s t (subst (λ xs. Contains xs s) (sym row_again) a) b in
    row_out segs strip new row rest others all c.in_ok-row.ensures.whole c.in_ok-row.ensures.linked with_rest with_others
