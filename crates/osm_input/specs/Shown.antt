-- How soon a refusal of an input comes, by the bytes that were taken.
use Rattle.std.specs.Prelude.{◌≡◌, ◌+◌, ◌<◌, ◌≤◌, ℕ, List, ◌++◌, length}
use Rattle.osm_input.specs.Lines.{lines_begun}

-- The byte that shows the line of this number is among the last 65,536 bytes that were taken.
-- It is the newline that ends the line, or the byte that makes it too long. So fewer than 65,536 bytes were taken beyond
-- that byte.
abbrev pub IsShownLast : ℕ → List ℕ → ℕ → Type 0
IsShownLast longest taken number =
    (front behind : List ℕ) → taken ≡ front ++ behind → 65536 ≤ length behind → length (lines_begun longest front) < number

-- No more than 65,536 bytes were taken beyond the limit.
abbrev pub PassesLast : ℕ → List ℕ → Type 0
PassesLast limit taken = length taken ≤ limit + 65536
