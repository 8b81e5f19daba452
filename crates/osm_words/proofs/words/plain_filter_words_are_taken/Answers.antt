use Rattle.osm_words.proofs.PlainFilter.{plain_filter_asked}
use Rattle.osm_words.proofs.words.plain_filter_words_are_taken.Goals as goal

pub returns : goal.returns
returns c = plain_filter_asked
