use Rattle.osm_words.proofs.PlainSample.{plain_sample_asked}
use Rattle.osm_words.proofs.words.plain_sample_words_are_taken.Goals as goal

pub returns : goal.returns
returns c = plain_sample_asked
