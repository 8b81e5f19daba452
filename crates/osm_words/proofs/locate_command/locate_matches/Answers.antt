-- What a parse by the command gives, said of the command that is told.
use Rattle.std.proofs.Common.{ap, map, string_bytes, subst, refl}
use Rattle.clap.specs.Words.{App, FailsBy, fault_of, is_simple_and_free}
use Rattle.osm_words.specs.LocateCommand.{locate_app}
use Rattle.osm_words.proofs.Rows.{rows_by}
use Rattle.osm_words.proofs.locate_command.locate_matches.Goals as goal

pub returns-clause-kinds : goal.returns-clause-kinds
returns-clause-kinds c =
    subst (λ (a : App). FailsBy (fault_of a (map string_bytes c.args.words.now)) c.try_get_matches_from.result) c.in_ok-command.ensures
    (c.try_get_matches_from.ensures.kinds (ap is_simple_and_free c.in_ok-command.ensures))

pub returns-clause-rows : goal.returns-clause-rows
returns-clause-rows c =
    rows_by _ locate_app (map string_bytes c.args.words.now) c.try_get_matches_from.result c.in_ok-command.ensures refl
    c.try_get_matches_from.ensures.matches
