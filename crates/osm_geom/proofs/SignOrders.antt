-- Orders that answer by a sign: how they reverse, chain and tie where the signs are those of x, y and x + y.
use Rattle.std.proofs.Common.{◌≡◌, true, refl}
use Rattle.std.specs.declared.cmp.Ordering.TheVariants.{Less, Equal}
use Rattle.std.specs.Ordering.{ordering_reverse}
use Rattle.plane.specs.Sign.{Sign, Plus, Null, Minus, negated}
use Rattle.plane.proofs.SignKit.{agree}
use Rattle.osm_lattice.specs.OrderLaws.{ordering_of}

pub reverses : (s : Sign) → ordering_of (negated s) ≡ ordering_reverse (ordering_of s)
reverses Plus = refl
reverses Null = refl
reverses Minus = refl

pub chains : (s t u : Sign) → agree s t u ≡ true → ordering_of s ≡ Less → ordering_of t ≡ Less → ordering_of u ≡ Less
chains Plus Plus Plus h k l = refl
chains Plus Plus Null h k l = absurd (cc h)
chains Plus Plus Minus h k l = absurd (cc h)
chains Plus Null u h k l = cc
chains Plus Minus u h k l = cc
chains Null t u h k l = cc
chains Minus t u h k l = cc

pub ties_alike : (s t u : Sign) → agree s t u ≡ true → ordering_of s ≡ Equal → ordering_of u ≡ ordering_of t
ties_alike Null Null Null h k = refl
ties_alike Null Plus Plus h k = refl
ties_alike Null Minus Minus h k = refl
ties_alike Null Null Plus h k = absurd (cc h)
ties_alike Null Null Minus h k = absurd (cc h)
ties_alike Null Plus Null h k = absurd (cc h)
ties_alike Null Plus Minus h k = absurd (cc h)
ties_alike Null Minus Null h k = absurd (cc h)
ties_alike Null Minus Plus h k = absurd (cc h)
ties_alike Plus t u h k = cc
ties_alike Minus t u h k = cc
