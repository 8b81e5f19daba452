use Rattle.job_coastline.proofs.coast.land_of.Goals as goal

pub returns : goal.returns
returns c = c.sorted_land.ensures
