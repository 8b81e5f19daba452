use Rattle.std.proofs.Common.{map, refl, string_bytes}
use Rattle.clap.specs.Words.{matches_of}
use Rattle.osm_words.specs.Answers.{coastline_seen}
use Rattle.osm_words.specs.CoastlineCommand.{coastline_app}
use Rattle.osm_words.specs.CoastlineWords.{settings_said}
use Rattle.osm_words.proofs.OneKind.{refuses_by}
use Rattle.osm_words.proofs.coastline_words.coastline_settings.Goals as goal

pub returns : goal.returns
returns c =
    let words = map string_bytes c.args.words.now in
    refuses_by coastline_seen coastline_app words (settings_said (matches_of coastline_app words)) c.in-Err.error c.kind.result c.refusal.result refl refl
    c.in-Err.ensures.kinds c.kind.ensures c.refusal.ensures
