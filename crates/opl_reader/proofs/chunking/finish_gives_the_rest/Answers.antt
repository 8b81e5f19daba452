use Rattle.opl_reader.proofs.ChunkLaws.{finish_gives_the_rest}
use Rattle.opl_reader.proofs.chunking.finish_gives_the_rest.Goals as goal

pub returns : goal.returns
returns c = finish_gives_the_rest
