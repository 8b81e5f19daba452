use Rattle.std.proofs.Common.{Contains, ap, arith, get_or, length, subst, sym, ◌++◌, ◌+◌, ◌<◌, ◌∙◌, ◌∷◌, [], ◌≡◌}
use Rattle.std.proofs.lemmas.List.{get_or_default}
use Rattle.std.proofs.lemmas.Bool.Decides.{nat_tests}
use Rattle.std.proofs.lemmas.List.Edits.{length-insert, length-remove}
use Rattle.std.proofs.lemmas.List.Sorted.{Contains-permutation}
use Rattle.std.proofs.lemmas.Map.Views.{Contains-from_any}
use Rattle.plane.specs.Order.{order}
use Rattle.plane.specs.Sign.{Plus}
use Rattle.osm_lattice.specs.declared.seg.Seg.{Seg}
use Rattle.osm_lattice.specs.Loc.{vector_of}
use Rattle.osm_segments.specs.Sweep.{IsFollowed, IsNotBefore}
use Rattle.osm_segments.proofs.SegmentTests.{seg_by_tests}
use Rattle.osm_segments.proofs.Sweeps.{IsSwept, all_swept, from-contains, has_ended, has_entered, has_left, has_made_way, has_stepped_aside, none_swept, to-contains}
use Rattle.osm_segments.proofs.sweep.clear.in_the_way.Goals as goal
use Rattle.osm_segments.proofs.sweep.clear.in_the_way.Goals.{then-not-branch+in_ok-push, else-not-branch, then-loop-left-test+else-len-most, else-loop-left-test}

pub loop-left-init : goal.loop-left-init
loop-left-init c =
    let segs = c.args.segs.now in let ends = c.args.ends.now in
    (omega arith, subst (IsSwept segs ends c.new-aside.result.items 0 0) (sym c.new-status.ensures) (subst (λ xs. IsSwept segs ends xs 0 0 []) (sym c.new-aside.ensures.items) (none_swept segs ends)))

pub loop-left-preserved-then-next_enters : goal.loop-left-preserved-then-next_enters
loop-left-preserved-then-next_enters c =
    let segs = c.args.segs.now in let ends = c.args.ends.now in let aside = c.loop-left.aside.items in let next = c.loop-left.next in let left = c.loop-left.left in let s = c.index-segs-next.result in
    let old = c.loop-left.status in let new = c.enter.new.status in let swept = c.loop-left.invariant.1 in
    let inside : next < length segs = c.next_enters.ensures.inside c.if-next_enters.true in
    let some : left < length ends = omega arith in (
      omega arith,
      elim c.if-not-branch.branch [
        | then-not-branch+in_ok-push w ↦
            let t = w.index-segs-next-then-not-branch.result in
            let kept : new ≡ old = c.in_ok-enter.ensures.kept w.if-not-branch.true in
            let more : c.if-not-branch.aside.items ≡ aside ++ t ∷ [] = ap (λ v. v.items) w.aside-is ∙ w.in_ok-push.ensures.items in
            subst (λ xs. IsSwept segs ends xs (next + 1) left new) (sym more) (subst (IsSwept segs ends (aside ++ t ∷ []) (next + 1) left) (sym kept)
            (has_stepped_aside segs ends aside c.requires.rising next left old swept t w.index-segs-next-then-not-branch.is inside))
        | else-not-branch w ↦
            let end : c.index-ends-left.result ≡ get_or ends left s = c.index-ends-left.is ∙ get_or_default ends left c.index-ends-left.result s some in
            let first : order (vector_of s.a) (vector_of (get_or ends left s).b) ≡ Plus =
            subst (λ (t : Seg). order (vector_of s.a) (vector_of t.b) ≡ Plus) end (subst (λ (t : Seg). order (vector_of t.a) (vector_of c.index-ends-left.result.b) ≡ Plus) (sym c.index-segs-next.is) (c.next_enters.ensures.enters c.if-next_enters.true s)) in
            let same : c.if-not-branch.aside.items ≡ aside = ap (λ v. v.items) w.aside-is in
            subst (λ xs. IsSwept segs ends xs (next + 1) left new) (sym same)
            (has_entered segs ends aside c.requires.rising c.requires.rise next left old new swept s (c.in_ok-enter.ensures.put w.if-not-branch.false) c.index-segs-next.is inside some first
            (λ x i. from-contains ends x (Contains-permutation segs ends x c.requires.moved (to-contains segs x i))))
      ],
    )

pub loop-left-preserved-then-follow : goal.loop-left-preserved-then-follow
loop-left-preserved-then-follow c =
    let segs = c.args.segs.now in let ends = c.args.ends.now in let aside = c.loop-left.aside.items in let next = c.loop-left.next in let left = c.loop-left.left in
    let d = c.index-ends-left.result in let t = get_or ends left d in let s = get_or segs next d in
    let inside : next < length segs = c.follow.ensures.inside c.if-follow.true in
    let more : left + 1 < length ends = c.follow.ensures.some c.if-follow.true in
    let some : left < length ends = omega (arith, more) in
    let changed : IsFollowed t s c.loop-left.status c.follow.new.status = c.follow.ensures.followed c.if-follow.true d in
    let first : order (vector_of s.a) (vector_of (get_or ends (left + 1) s).b) ≡ Plus =
    subst (λ (u : Seg). order (vector_of s.a) (vector_of u.b) ≡ Plus) (get_or_default ends (left + 1) d s more) (c.follow.ensures.enters c.if-follow.true d) in
    let gone = has_left segs ends aside c.requires.rise next left c.loop-left.status changed.between c.loop-left.invariant.1 t changed.left (get_or_default ends left d t some) some
    (λ i e h l. subst (λ (u : Seg). IsNotBefore u.b (get_or segs i e).a) c.index-ends-left.is (c.next_enters.ensures.leaves c.if-next_enters.false i e h l)) in (
      omega arith,
      has_entered segs ends aside c.requires.rising c.requires.rise next (left + 1) changed.between c.follow.new.status gone s changed.entered (get_or_default segs next d s inside) inside more first
          (λ x i. from-contains ends x (Contains-permutation segs ends x c.requires.moved (to-contains segs x i))),
    )

pub loop-left-preserved-then-leave : goal.loop-left-preserved-then-leave
loop-left-preserved-then-leave c =
    let segs = c.args.segs.now in let ends = c.args.ends.now in let aside = c.loop-left.aside.items in let next = c.loop-left.next in let left = c.loop-left.left in let t = c.index-ends-left-else-follow.result in
    let some : left < length ends = omega arith in
    let same : c.index-ends-left.result ≡ t = c.index-ends-left.is ∙ get_or_default ends left c.index-ends-left.result t some ∙ sym c.index-ends-left-else-follow.is in
    let swept = subst (IsSwept segs ends aside next left) (sym (c.follow.ensures.kept c.if-follow.false)) c.loop-left.invariant.1 in (
      c.loop-left.invariant.0,
      has_left segs ends aside c.requires.rise next left c.follow.new.status c.leave.new.status swept t (c.leave.ensures.left c.if-leave.true) c.index-ends-left-else-follow.is some
          (λ i d h l. subst (λ (u : Seg). IsNotBefore u.b (get_or segs i d).a) same (c.next_enters.ensures.leaves c.if-next_enters.false i d h l)),
    )

pub loop-left-preserved-then-contains : goal.loop-left-preserved-then-contains
loop-left-preserved-then-contains c =
    let segs = c.args.segs.now in let ends = c.args.ends.now in let aside = c.loop-left.aside.items in let next = c.loop-left.next in let left = c.loop-left.left in let t = c.index-ends-left-else-leave.result in
    let some : left < length ends = omega arith in
    let same : c.index-ends-left.result ≡ t = c.index-ends-left.is ∙ get_or_default ends left c.index-ends-left.result t some ∙ sym c.index-ends-left-else-leave.is in
    let kept : c.leave.new.status ≡ c.loop-left.status = c.leave.ensures.kept c.if-leave.false ∙ c.follow.ensures.kept c.if-follow.false in
    let swept = subst (IsSwept segs ends aside next left) (sym kept) c.loop-left.invariant.1 in
    let among : Contains c.deref.result.now t = Contains-from_any (λ x y e. sym (seg_by_tests y x e)) t c.deref.result.now (sym c.contains.ensures.value ∙ c.if-contains.true) in (
      c.loop-left.invariant.0,
      has_ended segs ends aside next left c.leave.new.status swept t (from-contains aside t (subst (λ xs. Contains xs t) c.deref.ensures.value among)) c.index-ends-left-else-leave.is some
          (λ i d h l. subst (λ (u : Seg). IsNotBefore u.b (get_or segs i d).a) same (c.next_enters.ensures.leaves c.if-next_enters.false i d h l)),
    )

pub loop-left-preserved : goal.loop-left-preserved
loop-left-preserved c =
    let segs = c.args.segs.now in let ends = c.args.ends.now in let aside = c.loop-left.aside.items in let next = c.loop-left.next in let left = c.loop-left.left in let t = c.in-Some.behind in
    let kept : c.leave.new.status ≡ c.loop-left.status = c.leave.ensures.kept c.if-leave.false ∙ c.follow.ensures.kept c.if-follow.false in
    let swept = subst (IsSwept segs ends aside next left) (sym kept) c.loop-left.invariant.1 in (
      c.loop-left.invariant.0,
      subst (λ xs. IsSwept segs ends xs next left c.make_way.new.status) (sym c.in_ok-push-2.ensures.items)
          (has_made_way segs ends aside next left c.leave.new.status c.make_way.new.status swept t c.in-Some.ensures),
    )

pub loop-left-smaller-then-follow : goal.loop-left-smaller-then-follow
loop-left-smaller-then-follow c =
    let d = c.index-ends-left.result in let next = c.loop-left.next in let old = c.loop-left.status in let new = c.follow.new.status in
    let inside : next < length c.args.segs.now = c.follow.ensures.inside c.if-follow.true in
    let changed = c.follow.ensures.followed c.if-follow.true d in
    let out : length changed.between + 1 ≡ length old = (let e = ap length changed.left.is in let r = length-remove old changed.left.place changed.left.inside in let l = changed.left.inside in omega (arith, e, r, l)) in
    let put : length new ≡ length changed.between + 1 = (let e = ap length changed.entered.is in let r = length-insert changed.between changed.entered.place (get_or c.args.segs.now next d) changed.entered.within in omega (arith, e, r)) in
    omega (arith, inside, out, put)

pub loop-left-smaller : goal.loop-left-smaller
loop-left-smaller c =
    let old = c.leave.new.status in
    let kept : length old ≡ length c.loop-left.status = ap length (c.leave.ensures.kept c.if-leave.false ∙ c.follow.ensures.kept c.if-follow.false) in
    let out = c.in-Some.ensures in
    let less : length c.make_way.new.status + 1 ≡ length old = (let e = ap length out.is in let r = length-remove old out.place out.inside in let l = out.inside in omega (arith, e, r, l)) in
    omega (arith, kept, less)

pub returns-clause-others : goal.returns-clause-others
returns-clause-others c =
    let none : length c.loop-left.status ≡ 0 = (let h = sym c.is_empty.ensures ∙ c.if-not-is_empty.false in grind (arith, nat_tests, h)) in
    all_swept c.args.segs.now c.args.ends.now c.loop-left.aside.items c.loop-left.next c.loop-left.left c.loop-left.status c.if-next-segs.false none c.loop-left.invariant.1
