-- Lines of OPL, their keys and their places: what crates above take of the lemmas on them.
pub use Rattle.opl_reader.proofs.ChunkLaws.{all_lines, ended_parts, kept_parts, nothing_fed, one_more_piece}
pub use Rattle.opl_reader.proofs.CutLemmas.{parts-none, parts-some}
pub use Rattle.opl_reader.proofs.DecimalLaws.{abs_neg}
pub use Rattle.opl_reader.proofs.FeedSteps.{Finished, Step, empty, ended, finished_of, kept, last_refused_of, one_more, refused_of, step_of, too_long_of}
pub use Rattle.opl_reader.proofs.FieldLemmas.{letter_ascii}
pub use Rattle.opl_reader.proofs.KeyLaws.{first_differ}
pub use Rattle.opl_reader.proofs.LineSplits.{IsOneLine, all_before, at_most_all, cut_piece, ends_with, front_is_one, lines_with_rest, newline_ends, one_line, rest_is_one, some_part, split_behind, used_is, with_last-cons, with_last_behind}
