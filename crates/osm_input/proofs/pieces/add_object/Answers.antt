use Rattle.osm_input.proofs.Steps.{may_refuse, line_refused, object_refused, holds_more}
use Rattle.osm_input.proofs.pieces.add_object.Goals as goal

pub refusal-requires : goal.refusal-requires
refusal-requires c = may_refuse c.args.lines.now c.feed.new.self c.args.piece.now c.in-Err.error c.requires.goes_on c.in-Err.ensures.answer

pub returns-in-Err-clause-holds : goal.returns-in-Err-clause-holds
returns-in-Err-clause-holds c =
    λ longest bytes h. line_refused longest bytes c.args.lines.now c.args.store.now h c.args.piece.now c.in-Err.error c.feed.new.self c.refusal.result c.in-Err.ensures.answer c.refusal.ensures

pub returns-in-Ok-add_told-clause-holds : goal.returns-in-Ok-add_told-clause-holds
returns-in-Ok-add_told-clause-holds c =
    λ longest bytes h. holds_more longest bytes c.args.lines.now c.args.store.now h c.args.piece.now c.in-Ok.fed c.feed.new.self c.add_told.new.store c.in-Ok.ensures.answer
    c.in-Ok-add_told.ensures.added c.in-Ok-add_told.ensures.good

pub returns-in-Err-add_told-clause-holds : goal.returns-in-Err-add_told-clause-holds
returns-in-Err-add_told-clause-holds c =
    λ longest bytes h. object_refused longest bytes c.args.lines.now c.args.store.now h c.args.piece.now c.in-Ok.fed c.feed.new.self c.line.result c.in-Err-add_told.error c.in-Ok.ensures.answer
    c.line.ensures c.in-Err-add_told.ensures.bad
