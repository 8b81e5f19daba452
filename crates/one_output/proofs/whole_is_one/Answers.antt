use Rattle.one_output.proofs.whole_is_one.Goals as goal
use Rattle.one_output.proofs.EntryOne.{entry-one}
use Rattle.one_output.proofs.ExportOne.{export-one}
use Rattle.one_output.proofs.ReadingOne.{reading-one}
use Rattle.one_output.proofs.WholeOne.{objects-tell, whole-one}

pub returns-clause-reading : goal.returns-clause-reading
returns-clause-reading c = reading-one c.limit_decides_the_lines.ensures

pub returns-clause-entry : goal.returns-clause-entry
returns-clause-entry c = entry-one c.problem_line_is_one.ensures

pub returns-clause-export : goal.returns-clause-export
returns-clause-export c = export-one c.problem_line_is_one.ensures

pub returns-clause-whole : goal.returns-clause-whole
returns-clause-whole c = whole-one c.limit_decides_the_lines.ensures c.problem_line_is_one.ensures c.coastline_is_one.ensures c.filter_is_one.ensures c.certify_is_one.ensures c.locate_is_one.ensures c.outcome_is_one.ensures c.coast_counts_are_one.ensures

pub returns-clause-objects : goal.returns-clause-objects
returns-clause-objects c = objects-tell c.limit_decides_the_lines.ensures c.problem_line_is_one.ensures c.coastline_is_one.ensures c.filter_is_one.ensures c.certify_is_one.ensures c.locate_is_one.ensures c.outcome_is_one.ensures c.coast_counts_are_one.ensures
