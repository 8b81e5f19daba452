use Rattle.job_export.proofs.writing.write_last.Goals as goal

pub returns-in-Ok : goal.returns-in-Ok
returns-in-Ok g c = record { written = c.in-Ok.ensures.written; sent = c.in-Ok.ensures.sent; added = c.in-Ok.ensures.added; cause = c.in-Ok.ensures.counts.answered }

pub returns-in-Err : goal.returns-in-Err
returns-in-Err g c = record { written = c.in-Err.ensures.written; sent = c.in-Err.ensures.sent; added = c.in-Err.ensures.added; cause = c.in-Err.ensures.counts.failed }
