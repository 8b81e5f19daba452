-- The distance to a rectangle is at most that to a location in it.
use Rattle.std.proofs.Common.{ℕ, ◌*◌, ◌+◌, ◌-ℤ◌, ◌≤◌, unsigned_abs, arith}
use Rattle.std.proofs.lemmas.Nat.{mul-le}
use Rattle.coast_join.proofs.bounds.square_to.Goals as goal

both : (w h a b x y : ℕ) → w ≤ a * a → h ≤ b * b → a ≤ x → b ≤ y → w + h ≤ x * x + y * y
both w h a b x y p q r s = let m = mul-le a a x x r r in let n = mul-le b b y y s s in omega arith

pub returns : goal.returns
returns c s b =
    let p : c.square-wide.result ≤ c.outside_across-across.result * c.outside_across-across.result = omega (arith, c.square-wide.ensures.value) in
    let q : c.square-high.result ≤ c.outside_along-along.result * c.outside_along-along.result = omega (arith, c.square-high.ensures.value) in
    both c.square-wide.result c.square-high.result c.outside_across-across.result c.outside_along-along.result (unsigned_abs (c.args.at.x -ℤ s.at.x)) (unsigned_abs (c.args.at.y -ℤ s.at.y)) p q
    (c.outside_across-across.ensures s.at.x b.west b.east)
    (c.outside_along-along.ensures s.at.y b.south b.north)
