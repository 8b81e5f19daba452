use Rattle.opl_reader.proofs.AnswerLaws.{is_answer, an_answer, no_other}
use Rattle.opl_reader.proofs.line.lines_have_one_answer.Goals as goal

pub returns-clause-reading : goal.returns-clause-reading
returns-clause-reading c = is_answer

pub returns-clause-some : goal.returns-clause-some
returns-clause-some c = an_answer

pub returns-clause-one : goal.returns-clause-one
returns-clause-one c = no_other
