-- Which unclosed chains are closed.
use Rattle.std.specs.Prelude.{◌≡◌, ℕ, ℤ, map, ◌+◌, ◌*◌, pos, neg_ℤ, ◌-ℤ◌, unsigned_abs, Bool, not, ◌&&◌, nat_lt, int_lt, if◌then◌else◌, List, Option, None, Some}
use Rattle.std.specs.List.{enumerate_from, filter_map, flat_map}
use Rattle.std.specs.Ordering.{int_eq}
use Rattle.osm_lattice.specs.declared.loc.Loc.{Loc}
use Rattle.coast_join.specs.declared.chain.Chain.{Chain}
use Rattle.coast_join.specs.declared.gap.Gap.{Gap}
use Rattle.coast_join.specs.declared.gap.Closings.{Closings}
use Rattle.coast_join.specs.declared.closing.OpenEnds.{OpenEnds}
use Rattle.coast_rings.specs.Line.{first_location, last_location}
use Rattle.coast_join.specs.Taken.{AreTaken, named_gap_cmp}

-- the places of a list at which a test holds, in order
abbrev pub places_where : {X : Type 0} → (X → Bool) → List X → List ℕ
places_where p xs = filter_map (λ e. if p e.1 then Some e.0 else None) (enumerate_from 0 xs)

-- an unclosed chain that runs from the eastern edge of the world to the western one, both ends below 60 degrees south
unfoldable pub is_antarctic : Chain → Bool
is_antarctic c =
    not c.closed && (int_eq (first_location c.path).x (pos 1800000000) && int_eq (last_location c.path).x (neg_ℤ (pos 1800000000)))
    && (int_lt (first_location c.path).y (neg_ℤ (pos 600000000)) && int_lt (last_location c.path).y (neg_ℤ (pos 600000000)))

-- an unclosed chain that takes part in gaps
abbrev pub is_open : Chain → Bool
is_open c = not c.closed && not (is_antarctic c)

-- where the chain at a place starts and ends, if it takes part in gaps
abbrev pub open_ends_at : ℕ → Chain → Option OpenEnds
open_ends_at place c = if is_open c then Some (record { chain = place; start = first_location c.path; end = last_location c.path }) else None

abbrev pub open_ends : List Chain → List OpenEnds
open_ends chains = filter_map (λ e. open_ends_at e.0 e.1) (enumerate_from 0 chains)

-- the square of the distance
abbrev pub square_between : Loc → Loc → ℕ
square_between p q = unsigned_abs (p.x -ℤ q.x) * unsigned_abs (p.x -ℤ q.x) + unsigned_abs (p.y -ℤ q.y) * unsigned_abs (p.y -ℤ q.y)

-- the pair of the end of one chain and the start of one, if they are nearer than the limit
unfoldable pub gap_between : ℕ → OpenEnds → OpenEnds → Option Gap
gap_between limit from to =
    if nat_lt (square_between from.end to.start) (limit * limit) then Some (record { square = square_between from.end to.start; from_chain = from.chain; to_chain = to.chain }) else None

-- all pairs of the end of an unclosed chain and the start of the same or another one that are nearer than the limit
abbrev pub near_pairs : ℕ → List OpenEnds → List Gap
near_pairs limit ends = flat_map (λ from. filter_map (gap_between limit from) ends) ends

abbrev pub names_of : List Chain → List ℤ
names_of chains = map (λ c. c.name) chains

-- the chains round Antarctica, and of the other unclosed ones the near pairs that are taken
pub record AreClosings (chains : List Chain) (limit : ℕ) (closings : Closings) : Type 0 where
  pub antarctica : closings.antarctica ≡ places_where is_antarctic chains
  pub gaps : AreTaken (named_gap_cmp (names_of chains)) (near_pairs limit (open_ends chains)) closings.gaps
