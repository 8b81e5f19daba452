use Rattle.coast_split.proofs.Walks.{on-cut}
use Rattle.coast_split.proofs.halves.link.Goals as goal

pub invariant_of-result : goal.invariant_of-result
invariant_of-result c = record {
  from_on = on-cut c.args.cut c.args.z c.line_carrier.result c.line_carrier.ensures c.requires.z_end.on_line;
  to_on = on-cut c.args.cut c.args.w c.line_carrier.result c.line_carrier.ensures c.requires.w_end.on_line;
  apart = c.requires.apart;
  from_in = c.requires.z_end.in_world;
  to_in = c.requires.w_end.in_world;
}
