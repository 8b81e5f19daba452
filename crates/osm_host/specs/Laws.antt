-- What additions after a stream, or before it, add up to, as statements.
use Rattle.std.specs.Prelude.{◌≡◌, ℕ, List, [], ◌++◌, Option}
use Rattle.osm_host.specs.Outside.{Opened, appended, preceded}

-- two pieces, one appended after the other, are appended as one
abbrev pub AppendsInTurn : Type 0 → Type 0
AppendsInTurn A = (stream : Option (List A)) (first second : List A) → appended (appended stream first) second ≡ appended stream (first ++ second)

-- nothing appended changes nothing
abbrev pub AppendsNothing : Type 0 → Type 0
AppendsNothing A = (stream : Option (List A)) → appended stream [] ≡ stream

-- two pieces, one taken after the other, are taken as one
abbrev pub PrecedesInTurn : Type 0 → Type 0
PrecedesInTurn A = (first second : List A) (stream : Option (List A)) → preceded first (preceded second stream) ≡ preceded (first ++ second) stream

-- bytes and opens add up in this way
pub record StreamsAppend : Type 0 where
  pub bytes : AppendsInTurn ℕ
  pub opens : AppendsInTurn Opened
  pub no_bytes : AppendsNothing ℕ
  pub no_opens : AppendsNothing Opened
  pub taken : PrecedesInTurn ℕ
