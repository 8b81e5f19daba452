-- The rectangles that areas lie in. No public contract cites it.
use Rattle.std.specs.Prelude.{All, Bool, List, ◌||◌, ◌≤ℤ◌}
use lib.Signed.{lt_z}
use Rattle.osm_lattice.specs.declared.loc.Loc.{Loc}
use Rattle.osm_lattice.specs.declared.seg.Seg.{Seg}
use Rattle.area_locate.specs.declared.envelope.Envelope.{Envelope}

pub record IsInEnvelope (e : Envelope) (p : Loc) : Type 0 where
  pub left : e.left ≤ℤ p.x
  pub right : p.x ≤ℤ e.right
  pub low : e.low ≤ℤ p.y
  pub high : p.y ≤ℤ e.high

-- both ends of each segment are within
abbrev pub Encloses : Envelope → List Seg → Type 0
Encloses e sides = All (λ s. IsInEnvelope e s.a × IsInEnvelope e s.b) sides

-- p is outside
abbrev pub lacks : Envelope → Loc → Bool
lacks e p = lt_z p.x e.left || (lt_z e.right p.x || (lt_z p.y e.low || lt_z e.high p.y))
