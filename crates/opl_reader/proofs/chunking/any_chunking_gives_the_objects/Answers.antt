use Rattle.opl_reader.proofs.ChunkLaws.{any_chunking}
use Rattle.opl_reader.proofs.chunking.any_chunking_gives_the_objects.Goals as goal

pub returns : goal.returns
returns c = any_chunking
