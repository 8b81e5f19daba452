use Rattle.osm_input.proofs.Steps.{may_refuse_last, last_refused, last_again, all_read}
use Rattle.osm_input.proofs.pieces.finish.Goals as goal

pub refusal-requires : goal.refusal-requires
refusal-requires c = may_refuse_last c.args.lines c.finish.new.self c.in-Err.error c.requires c.in-Err.ensures.answer

pub returns-in-Err : goal.returns-in-Err
returns-in-Err c =
    λ longest bytes h. last_refused longest bytes c.args.lines c.args.store h c.in-Err.error c.finish.new.self c.refusal.result c.in-Err.ensures.answer c.refusal.ensures

pub returns-in-Ok-add_told : goal.returns-in-Ok-add_told
returns-in-Ok-add_told c =
    λ longest bytes h. all_read longest bytes c.args.lines c.args.store h c.in-Ok.object c.finish.new.self c.add_told.new.store c.in-Ok.ensures.answer
    c.in-Ok-add_told.ensures.added c.in-Ok-add_told.ensures.good

pub returns : goal.returns
returns c =
    λ longest bytes h. last_again longest bytes c.args.lines c.args.store h c.in-Ok.object c.finish.new.self c.line.result c.in-Err-add_told.error c.in-Ok.ensures.answer
    c.line.ensures c.in-Err-add_told.ensures.bad
