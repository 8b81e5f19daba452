-- Plain words of `certify` are taken.
use Rattle.osm_words.proofs.PlainCertify.{plain_certify_asked}
use Rattle.osm_words.proofs.words.plain_certify_words_are_taken.Goals as goal

pub returns : goal.returns
returns c = plain_certify_asked
