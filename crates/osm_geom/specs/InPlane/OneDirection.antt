-- Vectors that point in one direction.
use Rattle.std.specs.Prelude.{ℤ, ◌≡◌}
use Rattle.plane.specs.Scale.{scaled_point}
use Rattle.plane.specs.Sign.{Plus, sign}
use Rattle.plane.specs.Vector.{Vector}

-- multiplied by positive numbers, v and w are one vector
pub record HaveOneDirection (v w : Vector) : Type 0 where
  pub m : ℤ
  pub n : ℤ
  pub m_positive : sign m ≡ Plus
  pub n_positive : sign n ≡ Plus
  pub same : scaled_point m v ≡ scaled_point n w
