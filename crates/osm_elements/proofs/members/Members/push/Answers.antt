use Rattle.osm_elements.proofs.PackedLemmas.{pushed_role, pushed_member}
use Rattle.osm_elements.proofs.members.Members.push.Goals as goal

pub invariant_of-self-in_default : goal.invariant_of-self-in_default
invariant_of-self-in_default c = pushed_role c.self.inside.targets.items c.push.new.self.items c.args.target c.self.inside.roles c.push_text.new.texts c.args.role.now c.utf8.role c.self.invariant c.in_ok-push.ensures.items c.in_default.ensures.ok

pub returns-clause-ok : goal.returns-clause-ok
returns-clause-ok c = pushed_member c.self.inside.targets.items c.push.new.self.items c.args.target c.self.inside.roles c.push_text.new.texts c.args.role.now c.args.self.now c.self.invariant c.in_ok-push.ensures.items c.in_default.ensures.ok c.self.view_is
