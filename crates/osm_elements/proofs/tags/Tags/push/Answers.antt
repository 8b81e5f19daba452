use Rattle.std.proofs.Common.{rules, ◌≡◌, suc}
use Rattle.osm_elements.proofs.PackedLemmas.{pushed_fits, pushed_tag}
use Rattle.osm_elements.proofs.tags.Tags.push.Goals as goal

pub invariant_of-self-2 : goal.invariant_of-self-2
invariant_of-self-2 c =
    let next : c.in-Some.count ≡ suc c.self.inside.count = search rules in
    pushed_fits c.self.inside.count c.in-Some.count c.self.inside.texts c.push_both.new.texts c.args.key.now c.args.value.now c.utf8.key c.utf8.value c.self.invariant next c.in_ok-push_both.ensures.ok

pub returns-clause-ok : goal.returns-clause-ok
returns-clause-ok c =
    let next : c.in-Some.count ≡ suc c.self.inside.count = search rules in
    pushed_tag c.self.inside.count c.in-Some.count c.self.inside.texts c.push_both.new.texts c.args.key.now c.args.value.now c.args.self.now c.self.invariant next c.in_ok-push_both.ensures.ok c.self.view_is
