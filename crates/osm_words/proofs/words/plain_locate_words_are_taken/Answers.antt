-- Plain words of `locate` are taken.
use Rattle.osm_words.proofs.PlainLocate.{plain_locate_asked}
use Rattle.osm_words.proofs.words.plain_locate_words_are_taken.Goals as goal

pub returns : goal.returns
returns c = plain_locate_asked
