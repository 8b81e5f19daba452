use Rattle.std.proofs.Common.{◌∙◌, ap}
use Rattle.std.specs.List.{filter_map}
use Rattle.opl_reader.specs.Told.{object_told}
use Rattle.opl_writer.proofs.TextLemmas.{lines_are, objects_are}
use Rattle.opl_writer.proofs.laws.written_texts_read_back.Goals as goal

pub returns-clause-lines : goal.returns-clause-lines
returns-clause-lines c = lines_are c.written_lines_read_back.ensures.one_line

pub returns-clause-objects : goal.returns-clause-objects
returns-clause-objects c = λ objects h.
    ap (filter_map object_told) (lines_are c.written_lines_read_back.ensures.one_line objects h) ∙ objects_are c.written_lines_read_back.ensures.reading objects h
