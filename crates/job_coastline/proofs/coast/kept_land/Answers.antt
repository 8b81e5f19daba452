-- Land, and what is told of it.
use Rattle.std.proofs.Common.{refl}
use Rattle.job_coastline.proofs.coast.kept_land.Goals as goal

pub returns : goal.returns
returns c = record { land = c.in_ok-land.land; is_land = c.in_ok-land.ensures; has = refl; told = c.in_ok-add_land.ensures }
