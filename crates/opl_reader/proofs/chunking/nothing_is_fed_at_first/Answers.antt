use Rattle.opl_reader.proofs.ChunkLaws.{nothing_fed}
use Rattle.opl_reader.proofs.chunking.nothing_is_fed_at_first.Goals as goal

pub returns : goal.returns
returns c = nothing_fed
