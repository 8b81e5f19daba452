use Rattle.std.proofs.Common.{rules, ◌≡◌, ◌++◌, [], ◌∷◌, length, arith, refl, length-append}
use Rattle.std.proofs.lemmas.Grind.{common_steps}
use Rattle.tests_host.proofs.OpenLemmas.{opens_of-more, names_len-more}
use Rattle.tests_host.proofs.opens.note_open.Goals as goal

pub returns-clause-opens : goal.returns-clause-opens
returns-clause-opens c =
    let pushed : c.push.new.self.items ≡ c.args.entries.now.items ++ record { kind = c.args.kind; len = length c.args.name.now } ∷ [] = search rules in
    let more = opens_of-more c.args.entries.now.items c.args.names.now.items (record { kind = c.args.kind; len = length c.args.name.now }) c.args.name.now c.requires.all_names refl in
    grind (arith, common_steps, more, pushed, c.add_within.ensures.items)

pub returns-clause-all_names_stays : goal.returns-clause-all_names_stays
returns-clause-all_names_stays c =
    let pushed : c.push.new.self.items ≡ c.args.entries.now.items ++ record { kind = c.args.kind; len = length c.args.name.now } ∷ [] = search rules in
    let more = names_len-more c.args.entries.now.items (record { kind = c.args.kind; len = length c.args.name.now }) in
    grind (arith, common_steps, more, pushed, c.add_within.ensures.items, length-append)
