use Rattle.opl_writer.specs.Written.{object_line}
use Rattle.opl_writer.proofs.LineLemmas.{object_is_written, no_newline, printed_is_utf8}
use Rattle.opl_writer.proofs.laws.written_lines_read_back.Goals as goal

pub returns-clause-object : goal.returns-clause-object
returns-clause-object c = λ o h. (object_is_written o h).spelled

pub returns-clause-reading : goal.returns-clause-reading
returns-clause-reading c = λ o h. ((c.lines_have_one_answer.ensures.reading (object_line o)).object o).1 (object_is_written o h).spelled

pub returns-clause-one_line : goal.returns-clause-one_line
returns-clause-one_line c = no_newline

pub returns-clause-utf8 : goal.returns-clause-utf8
returns-clause-utf8 c = λ o h. printed_is_utf8 (object_line o) (object_is_written o h).printed
