-- What was there stays in front where a call fails that adds what comes next.
use Rattle.std.proofs.Common.{List, OnErr, Result, ℕ, ◌++◌, ◌≡◌}
use Rattle.osm_notation.proofs.KeptTexts.{kept_at_fault, kept_through}
pub use Rattle.osm_notation.proofs.KeptTexts.{kept_further}
use Rattle.osm_notation.specs.Kept.{KeepsFront}

-- first by one call, then something was added, and then by a call that fails
pub kept_behind : {T E : Type 0} (r : Result T E) (before between more mark now : List ℕ) → KeepsFront before between → mark ≡ between ++ more → KeepsFront mark now → OnErr r (KeepsFront before now)
kept_behind r before between more mark now first is then =
    kept_at_fault r before now (kept_through before mark now (kept_further before between more mark first is) then)
