use Rattle.osm_host.proofs.Streams.{appended_twice, appended_nothing, preceded_twice}
use Rattle.osm_host.proofs.laws.streams_append.Goals as goal

pub returns : goal.returns
returns c = record { bytes = appended_twice; opens = appended_twice; no_bytes = appended_nothing; no_opens = appended_nothing; taken = preceded_twice }
