-- By the law of the text of a coast part.
use Rattle.std.proofs.Common.{◌≡◌, sym, subst, Result, Ok, Err, IfOk, ℕ, List}
use Rattle.coast_filter.specs.Laws.{TellsCoastOf}
use Rattle.coast_filter.proofs.Told.{told_if}
use Rattle.coast_filter.proofs.filtering.filter.Goals as goal

pub returns-clause-coast : goal.returns-clause-coast
returns-clause-coast c spelled =
    let objects = c.args.store.now in
    told_if objects c.coast_lines.result c.coast_lines.ensures.text
    (c.coast_text_tells_the_coast.ensures objects (c.spelled_objects_can_be_written.ensures objects spelled c.one_of_each.ensures.live c.one_of_each.ensures.apart))
