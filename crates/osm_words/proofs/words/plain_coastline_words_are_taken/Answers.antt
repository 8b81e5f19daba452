use Rattle.osm_words.proofs.PlainCoastline.{plain_coastline_asked}
use Rattle.osm_words.proofs.words.plain_coastline_words_are_taken.Goals as goal

pub returns : goal.returns
returns c = plain_coastline_asked
