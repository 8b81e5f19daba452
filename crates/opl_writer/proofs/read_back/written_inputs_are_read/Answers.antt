-- By the laws of lines that are written.
use Rattle.opl_writer.proofs.ReadBack.ReadBack.{inputs_read, only_long}
use Rattle.opl_writer.proofs.read_back.written_inputs_are_read.Goals as goal

pub returns-clause-read : goal.returns-clause-read
returns-clause-read c = inputs_read c.written_lines_read_back.ensures.reading c.written_texts_read_back.ensures.lines

pub returns-clause-bad : goal.returns-clause-bad
returns-clause-bad c = only_long c.written_lines_read_back.ensures.reading c.written_texts_read_back.ensures.lines
