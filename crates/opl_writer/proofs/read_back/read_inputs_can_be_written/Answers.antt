-- By the laws of lines, of what they spell, and of the limit.
use Rattle.opl_writer.proofs.ReadBack.ReadAlone.{read_alone}
use Rattle.opl_writer.proofs.ReadBack.ReadSound.{read_sound}
use Rattle.opl_writer.proofs.read_back.read_inputs_can_be_written.Goals as goal

pub returns-clause-written : goal.returns-clause-written
returns-clause-written c = read_sound c.lines_have_one_answer.ensures.reading c.spelled_objects_are_sound.ensures

pub returns-clause-alone : goal.returns-clause-alone
returns-clause-alone c = read_alone c.limit_decides_the_lines.ensures
