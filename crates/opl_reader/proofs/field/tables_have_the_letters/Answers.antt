use Rattle.opl_reader.proofs.LetterLaws.{by_table}
use Rattle.opl_reader.proofs.field.tables_have_the_letters.Goals as goal

pub returns : goal.returns
returns c = by_table
