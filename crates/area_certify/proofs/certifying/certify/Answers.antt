use Rattle.std.proofs.Common.{◌∙◌}
use Rattle.area_certify.proofs.ToldLemmas.{all_no, all_yes}
use Rattle.area_certify.proofs.certifying.certify.Goals as goal

pub returns-clause-yes : goal.returns-clause-yes
returns-clause-yes c =
    all_yes c.first_wrong_line_is_one.ensures c.verdicts_exclude.ensures c.args.choice.now c.args.ids c.args.store.now c.args.text.now c.deref.result.now
    (c.deref.ensures.value ∙ c.in_ok-candidates.ensures.list) c.compare.result c.compare.ensures

pub returns-clause-no : goal.returns-clause-no
returns-clause-no c =
    all_no c.first_wrong_line_is_one.ensures c.verdicts_exclude.ensures c.args.choice.now c.args.ids c.args.store.now c.args.text.now c.deref.result.now
    (c.deref.ensures.value ∙ c.in_ok-candidates.ensures.list) c.compare.result c.compare.ensures
