use Rattle.std.proofs.Common.{map, refl, string_bytes, Ok}
use Rattle.clap.specs.Words.{matches_of}
use Rattle.osm_words.specs.Answers.{filter_seen}
use Rattle.osm_words.specs.FilterCommand.{filter_app}
use Rattle.osm_words.specs.FilterWords.{settings_said}
use Rattle.osm_words.proofs.OneKind.{refuses_by}
use Rattle.osm_words.proofs.filter_words.filter_settings.Goals as goal

pub returns-in-Err : goal.returns-in-Err
returns-in-Err c =
    let words = map string_bytes c.args.words.now in
    refuses_by filter_seen filter_app words (Ok (settings_said (matches_of filter_app words))) c.in-Err.error c.kind.result c.refusal.result refl refl
    c.in-Err.ensures.kinds c.kind.ensures c.refusal.ensures
