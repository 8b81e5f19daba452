-- What no run changes in its host.
use Rattle.std.specs.Prelude.{◌≡◌, ◌≤◌, is_some}
use Rattle.osm_host.specs.Outside.{Outside}

-- The contents behind names don't change, nor does whether the rest of the input is known. No count of faults falls.
pub record KeepsNames (before after : Outside) : Type 0 where
  pub named : after.named ≡ before.named
  pub told : is_some after.left ≡ is_some before.left
  pub opens : before.open_faults ≤ after.open_faults
  pub reads : before.read_faults ≤ after.read_faults
  pub writes : before.write_faults ≤ after.write_faults
