use Rattle.std.proofs.Common.{map, refl, string_bytes}
use Rattle.clap.specs.Words.{matches_of}
use Rattle.osm_words.specs.Answers.{sample_seen}
use Rattle.osm_words.specs.SampleCommand.{sample_app}
use Rattle.osm_words.specs.SampleWords.{count_said}
use Rattle.osm_words.proofs.OneKind.{refuses_by}
use Rattle.osm_words.proofs.sample_words.sample_settings.Goals as goal

pub returns : goal.returns
returns c =
    let words = map string_bytes c.args.words.now in
    refuses_by sample_seen sample_app words (count_said (matches_of sample_app words)) c.in-Err.error c.kind.result c.refusal.result refl refl
    c.in-Err.ensures.kinds c.kind.ensures c.refusal.ensures
