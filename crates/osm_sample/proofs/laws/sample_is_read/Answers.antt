-- By the law of inputs that are written.
use Rattle.osm_sample.proofs.Good.{sample_read}
use Rattle.osm_sample.proofs.laws.sample_is_read.Goals as goal

pub returns : goal.returns
returns c = sample_read c.written_inputs_are_read.ensures.read
