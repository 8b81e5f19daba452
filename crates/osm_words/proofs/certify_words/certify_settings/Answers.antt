-- That words which `clap` refuses are refused with its kind.
use Rattle.std.proofs.Common.{map, refl, string_bytes}
use Rattle.clap.specs.Words.{matches_of}
use Rattle.osm_words.specs.Answers.{certify_seen}
use Rattle.osm_words.specs.CertifyCommand.{certify_app}
use Rattle.osm_words.specs.CertifyWords.{settings_said}
use Rattle.osm_words.proofs.OneKind.{refuses_by}
use Rattle.osm_words.proofs.certify_words.certify_settings.Goals as goal

pub returns : goal.returns
returns c =
    let words = map string_bytes c.args.words.now in
    refuses_by certify_seen certify_app words (settings_said (matches_of certify_app words)) c.in-Err.error c.kind.result c.refusal.result refl refl
    c.in-Err.ensures.kinds c.kind.ensures c.refusal.ensures
