-- By the laws of the coast part, and of objects that are written and read.
use Rattle.job_small.proofs.Filtering.Coastlines.{filter_there}
use Rattle.job_small.proofs.filter.laws.filters_exist.Goals as goal

pub returns : goal.returns
returns c =
    filter_there c.coast_input_stays.ensures c.coast_part_is_sound.ensures.apart c.coast_part_is_sound.ensures.writable c.written_texts_read_back.ensures.lines c.written_inputs_are_read.ensures.read
    c.read_inputs_can_be_written.ensures.alone c.read_inputs_can_be_written.ensures.written
