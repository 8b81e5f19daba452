-- Rounds of shortcuts, until no ring conflicts with itself.
use Rattle.std.specs.Prelude.{◌≡◌, ◌⊎◌, ◌<◌, ◌++◌, ◌∷◌, [], ℤ, Bool, true, false, List, map, length}
use Rattle.std.specs.List.{flat_map, list_any}
use Rattle.osm_lattice.specs.declared.loc.Loc.{Loc}
use Rattle.coast_rings.specs.declared.ring.CoastRing.{CoastRing}
use Rattle.coast_sides.specs.declared.cut.Cut.{Cut}
use Rattle.coast_sides.specs.Segments.{segments_round}
use Rattle.coast_sides.specs.Shortcuts.{marked, runs, shortened}
use Rattle.coast_sides.specs.Sorting.{conflicts_with}

-- two segments of a closed line conflict
abbrev pub conflicts_itself : List Loc → Bool
conflicts_itself path = list_any (conflicts_with (segments_round path)) (segments_round path)

-- the lines that are shortened, one after the other, from this one on; behind them stands the last, which doesn't conflict with itself
abbrev pub AreRounds : List Loc → List (List Loc) → List Loc → Type 0
AreRounds path [] last = (conflicts_itself path ≡ false) × (last ≡ path)
AreRounds path (first ∷ rounds) last = (conflicts_itself path ≡ true) × (first ≡ path) × AreRounds (shortened path) rounds last

-- what is told of a round: each run that is cut out of the ring of this name
abbrev pub round_cuts : ℤ → List Loc → List Cut
round_cuts name path = map (λ run. record { ring = name; from = run.0; to = run.1 }) (runs (marked path))

-- what is left of a ring whose path is cut down to this: nothing of fewer than two locations
abbrev pub IsLeft : CoastRing → List Loc → List CoastRing → Type 0
IsLeft ring path left =
    ((length path < 2) × (left ≡ []))
    ⊎ ((r : CoastRing) × (r.name ≡ ring.name) × (r.path ≡ path) × (left ≡ r ∷ []))

-- what is left of rings, in order, and all runs that are cut out of them, ring by ring and round by round
abbrev pub AreCutDown : List CoastRing → List CoastRing → List Cut → Type 0
AreCutDown [] left cuts = (left ≡ []) × (cuts ≡ [])
AreCutDown (ring ∷ rings) left cuts =
    (rounds : List (List Loc)) × (last : List Loc) × AreRounds ring.path rounds last
    × (first : List CoastRing) × IsLeft ring last first
    × (others : List CoastRing) × (more : List Cut) × AreCutDown rings others more
    × (left ≡ first ++ others) × (cuts ≡ flat_map (round_cuts ring.name) rounds ++ more)
