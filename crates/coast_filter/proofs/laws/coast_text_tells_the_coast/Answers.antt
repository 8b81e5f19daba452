-- By the laws of the coast part, and of objects that are written.
use Rattle.coast_filter.proofs.Told.{text_tells}
use Rattle.coast_filter.proofs.laws.coast_text_tells_the_coast.Goals as goal

pub returns : goal.returns
returns c = text_tells c.coast_input_stays.ensures c.coast_part_is_sound.ensures.apart c.coast_part_is_sound.ensures.writable c.written_inputs_are_read.ensures.bad
