use Rattle.std.proofs.Common.{◌∙◌, ◌+◌, List, Ok, ap, length, subst, sym}
use Rattle.std.specs.Option.{option_copied}
use Rattle.std.proofs.lemmas.Result.{err_from_is_err_and}
use Rattle.osm_elements.specs.declared.object.Member.{Member}
use Rattle.opl_reader.specs.ItemReading.{member_at, members_at}
use Rattle.opl_reader.proofs.ItemLemmas.{ItemsTo, begins-all, goes_on, fails, is_read}
use Rattle.opl_reader.proofs.MemberLemmas.{added_from, not_added}
use Rattle.opl_reader.proofs.items.read_members.Goals as goal

pub loop-left-init : goal.loop-left-init
loop-left-init c = rw c.in_ok-members.ensures (begins-all member_at c.args.place c.args.text.now c.all_items-left.result c.all_items-left.ensures.value c.all_items-left.ensures.utf8)

pub loop-left-preserved : goal.loop-left-preserved
loop-left-preserved c =
    let added = added_from (member_at c.loop-left.at c.next_item.result.0.now) c.loop-left.members c.add_member.new.members c.in_ok-add_member.ensures in
    let next = goes_on member_at c.loop-left.members c.loop-left.at c.in-Some.rest c.next_item.result.0.now c.next_item.result.1 added.0 c.args.place c.args.text.now c.next_item.ensures.parts c.next_item.ensures.len c.next_item.ensures.utf8 added.1 (rw c.in-Some.is at c.loop-left.invariant) in
    subst (λ (members : List Member). ItemsTo member_at members (c.loop-left.at + (length c.next_item.result.0.now + 1)) c.next_item.result.1 c.args.place c.args.text.now) added.2 next

pub returns-in_err-add_member : goal.returns-in_err-add_member
unfolding members_at
returns-in_err-add_member c =
    let p = err_from_is_err_and c.from_residual-in_err-add_member.result c.from_residual-in_err-add_member.ensures.1 in
    rw (p.1, p.2) (fails member_at c.loop-left.members c.loop-left.at c.in-Some.rest c.next_item.result.0.now (option_copied c.next_item.result.1) c.in_err-add_member.field-0.0 c.args.place c.args.text.now c.next_item.ensures.parts (not_added (member_at c.loop-left.at c.next_item.result.0.now) c.loop-left.members c.in_err-add_member.field-0.0 c.in_err-add_member.ensures) (rw c.in-Some.is at c.loop-left.invariant))

pub returns : goal.returns
unfolding members_at
returns c = is_read member_at c.loop-left.members c.loop-left.at c.args.place c.args.text.now (rw c.in_default.is at c.loop-left.invariant) ∙ ap (λ (members : List Member). Ok members) (sym c.in_ok-copy.ensures)
