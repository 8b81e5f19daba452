-- By the law of what lines spell.
use Rattle.opl_writer.proofs.ReadBack.ReadSound.{spelled_can}
use Rattle.opl_writer.proofs.read_back.spelled_objects_can_be_written.Goals as goal

pub returns : goal.returns
returns c = spelled_can c.spelled_objects_are_sound.ensures
