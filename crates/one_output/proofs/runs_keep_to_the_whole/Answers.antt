use Rattle.one_output.proofs.runs_keep_to_the_whole.Goals as goal
use Rattle.one_output.proofs.RunOne.{keep-to-the-whole}

pub returns : goal.returns
returns c =
    keep-to-the-whole c.whole_is_one.ensures.whole c.limit_decides_the_lines.ensures (record {
      exports = c.export_exists.ensures;
      coastlines = c.coastline_exists.ensures;
      filters = c.filters_exist.ensures;
      verdicts = c.certify_exists.ensures;
      locates = c.locates_exist.ensures;
      read = c.read_inputs_can_be_written.ensures.written;
      outcomes = c.outcome_exists.ensures;
      counts = c.coast_counts_exist.ensures;
      one_coast = c.sample_has_one_coast.ensures;
    })
