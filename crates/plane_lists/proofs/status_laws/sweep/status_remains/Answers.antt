use Rattle.plane_lists.proofs.Statuses.Leaving.{all_are_taken_out, all_remain, next_is_taken_out, those_that_stay_remain}
use Rattle.plane_lists.proofs.status_laws.sweep.status_remains.Goals as goal

pub returns-clause-first : goal.returns-clause-first
returns-clause-first g c edge p xs status stays ends place is whole low = all_remain edge p xs status stays ends place is whole low

pub returns-clause-next : goal.returns-clause-next
returns-clause-next g c stays ends place old status x at is some next ended inside stands = next_is_taken_out stays ends place old status x is some next ended at inside stands

pub returns-clause-all : goal.returns-clause-all
returns-clause-all g c stays ends place old status x is some next ended = all_are_taken_out stays ends place old status x is some next ended

pub returns-clause-last : goal.returns-clause-last
returns-clause-last g c stays ends place old status is high = those_that_stay_remain stays ends place old status is high
