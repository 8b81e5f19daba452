-- A whole is what is written and how it ends.
use Rattle.std.proofs.Common.{◌≡◌}
use Rattle.osm_job.specs.Whole.{Whole}

pub whole_same : (v w : Whole) → v.written ≡ w.written → v.ended ≡ w.ended → v ≡ w
whole_same v w p q = λ i. record { written = p i; ended = q i }
