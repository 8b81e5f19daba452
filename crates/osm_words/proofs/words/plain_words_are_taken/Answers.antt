use Rattle.osm_words.proofs.PlainExport.{plain_words_asked}
use Rattle.osm_words.proofs.words.plain_words_are_taken.Goals as goal

pub returns : goal.returns
returns c = plain_words_asked
