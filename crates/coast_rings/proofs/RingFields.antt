-- A ring is made by its name and its path.
use Rattle.std.proofs.Common.{◌≡◌, List}
use Rattle.std.proofs.Props.{props}
use Rattle.osm_lattice.specs.declared.loc.Loc.{Loc}
use Rattle.coast_rings.specs.Round.{IsRound}
use Rattle.coast_rings.specs.declared.ring.CoastRing.{CoastRing}
use mathlib.Core.HLevel.{is_prop→PathP}

round_prop : (path : List Loc) → IsProp (IsRound path)
round_prop path = hlevel props

pub ring_from_fields : (r s : CoastRing) → r.name ≡ s.name → r.path ≡ s.path → r ≡ s
ring_from_fields r s n p = λ i. record {
  name = n i;
  path = p i;
  round = is_prop→PathP (λ j. IsRound (p j)) (λ j. round_prop (p j)) r.round s.round i;
}
