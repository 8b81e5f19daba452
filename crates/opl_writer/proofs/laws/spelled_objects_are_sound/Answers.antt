use Rattle.opl_writer.proofs.SoundLemmas.{spelled_is_sound}
use Rattle.opl_writer.proofs.laws.spelled_objects_are_sound.Goals as goal

pub returns : goal.returns
returns c = spelled_is_sound
