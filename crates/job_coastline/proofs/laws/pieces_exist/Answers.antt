use Rattle.job_coastline.proofs.There.{left_are_sided, polygons_there, report_there, tiles_there}
use Rattle.job_coastline.proofs.laws.pieces_exist.Goals as goal

pub returns-clause-polygons : goal.returns-clause-polygons
returns-clause-polygons c = polygons_there c.ring_list_of_edges_exists.ensures c.rings_may_be_nested.ensures.nested c.nesting_exists.ensures

pub returns-clause-sided : goal.returns-clause-sided
returns-clause-sided c = left_are_sided c.leaves_cover_as_list.ensures.sided

pub returns-clause-tiles : goal.returns-clause-tiles
returns-clause-tiles c = tiles_there c.ring_list_of_edges_exists.ensures c.rings_may_be_nested.ensures.nested c.nesting_exists.ensures

pub returns-clause-report : goal.returns-clause-report
returns-clause-report c = report_there c.coast_line_exists.ensures
