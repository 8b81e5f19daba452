use Rattle.opl_reader.proofs.ChunkLaws.{one_more_piece}
use Rattle.opl_reader.proofs.chunking.one_more_piece_is_read.Goals as goal

pub returns : goal.returns
returns c = one_more_piece
