-- Words of private clauses on an input that is taken piece by piece. No public contract cites them.
use Rattle.std.specs.Prelude.{◌≡◌, ◌≤◌, ℕ, List, length}
use Rattle.opl_reader.specs.Reader.{Reader}
use Rattle.osm_elements.specs.declared.object.Object.{Object}
use Rattle.osm_host.specs.Outside.{Outside, preceded, grown}
use Rattle.osm_input.specs.LineSteps.{HasReadLines}
use Rattle.osm_input.specs.Reading.{HasReachedEnd}

-- The whole input was taken, no more than the limit, and its whole lines were read. A last line without a newline is left.
pub record HasTakenAll (limit longest : ℕ) (before now : Outside) (r : Reader) (objects : List Object) : Type 0 where
  pub bytes : List ℕ
  pub holds : HasReadLines longest bytes r objects
  pub size : length bytes ≤ limit
  pub left : before.left ≡ preceded bytes now.left
  pub counted : now.bytes_read ≡ grown before.bytes_read (length bytes)
  pub ended : HasReachedEnd now
