use Rattle.std.proofs.Common.{◌∙◌, List, Ok, sym, ap}
use Rattle.osm_elements.specs.declared.object.Member.{Member}
use Rattle.opl_reader.proofs.MemberLemmas.{plain_added}
use Rattle.opl_reader.proofs.items.add_member.Goals as goal

pub returns-then-is_plain : goal.returns-then-is_plain
returns-then-is_plain c =
    plain_added c.args.members.now c.args.place c.args.item.now c.in-Some.target.now c.in-Some.role.now c.in-Some-read_target.target c.in-Some.ensures.halves c.in-Some-read_target.ensures (c.is_plain.ensures c.if-is_plain.true)
    ∙ ap (λ (members : List Member). Ok members) (sym c.in_ok-push.ensures.ok)
