-- Which reads failed, by the counts.
use Rattle.std.specs.Prelude.{◌≡◌, true}
use Rattle.osm_host.specs.Outside.{Outside, risen}

-- One read failed, and it was the last read.
abbrev pub LastReadFailed : Outside → Outside → Type 0
LastReadFailed before now = (now.read_faults ≡ risen before.read_faults) × (now.read_failed ≡ true)
