-- What calls on a host keep of it.
use Rattle.std.proofs.Common.{◌≡◌, ◌∙◌, refl, ap, ◌≤◌, ℕ, List, Option, is_some, arith}
use Rattle.osm_host.specs.Outside.{Outside, OnlyOpens}
use Rattle.osm_input.specs.Keeps.{KeepsNames}

pub nothing_changed : (o : Outside) → KeepsNames o o
nothing_changed o = record { named = refl; told = refl; opens = omega arith; reads = omega arith; writes = omega arith }

pub keeps_both : (before middle now : Outside) → KeepsNames before middle → KeepsNames middle now → KeepsNames before now
keeps_both before middle now first then = record {
  named = then.named ∙ first.named;
  told = then.told ∙ first.told;
  opens = let a = first.opens in let b = then.opens in omega arith;
  reads = let a = first.reads in let b = then.reads in omega arith;
  writes = let a = first.writes in let b = then.writes in omega arith;
}

pub open_keeps : (before now : Outside) → OnlyOpens before now → is_some now.left ≡ is_some before.left → before.open_faults ≤ now.open_faults → KeepsNames before now
open_keeps before now only told rises = record {
  named = only.named;
  told = told;
  opens = rises;
  reads = let a = only.read_faults in omega arith;
  writes = let a = only.write_faults in omega arith;
}

pub write_keeps : (before now : Outside) → now.named ≡ before.named → now.left ≡ before.left → now.open_faults ≡ before.open_faults → now.read_faults ≡ before.read_faults → before.write_faults ≤ now.write_faults → KeepsNames before now
write_keeps before now named left opens reads rises = record {
  named = named;
  told = ap (λ (o : Option (List ℕ)). is_some o) left;
  opens = omega arith;
  reads = omega arith;
  writes = rises;
}
