-- Steps by the segments along which they run, and how far what is cut out behind each step reaches. No public contract cites it.
use Rattle.std.specs.Prelude.{◌≡◌, ◌⊎◌, ◌&&◌, ◌||◌, ◌∷◌, [], ◌+◌, ◌-◌, ◌*◌, ◌<◌, ◌≤◌, ℕ, ℤ, Bool, false, not, if◌then◌else◌, Contains, IsPermutation, List, None, Option, Some, filter, length, map, nat_le, nat_lt, option_map, slice_index, slice_index_or}
use Rattle.std.specs.List.{enumerate_from, filter_map, list_any}
use Rattle.std.specs.List.Sorted.{IsNonDecreasingBy, IsSorted}
use Rattle.std.specs.declared.cmp.Ordering.{Ordering}
use Rattle.std.specs.Ordering.{is_eq, nat_cmp, on, then_cmp}
use Rattle.osm_lattice.specs.declared.loc.Loc.{Loc}
use Rattle.osm_lattice.specs.declared.seg.Seg.{Seg}
use Rattle.osm_lattice.specs.Seg.{seg_cmp, segment_between}
use Rattle.osm_segments.specs.declared.pairs.Pair.{Pair}
use Rattle.coast_sides.specs.declared.cut.Cut.{Cut}
use Rattle.coast_sides.specs.declared.steps_along.StepAlong.{StepAlong}
use Rattle.coast_sides.specs.Segments.{steps_round}
use Rattle.coast_sides.specs.Shortcuts.{is_among_fewer, is_cut_out}

-- ---- steps along segments

-- the step of this place, if it runs along a segment
abbrev pub step_along : ℕ × (Loc × Loc) → Option StepAlong
step_along step = option_map (λ s. record { seg = s; place = step.0 }) (segment_between step.1.0 step.1.1)

-- the steps of a closed line that run along segments
abbrev pub steps_along : List Loc → List StepAlong
steps_along path = filter_map step_along (enumerate_from 0 (steps_round path))

-- the order of steps: by segment, then by place
abbrev pub step_along_cmp : StepAlong → StepAlong → Ordering
step_along_cmp = then_cmp (on (λ t. t.seg) seg_cmp) (on (λ t. t.place) nat_cmp)

-- the steps of a closed line in that order
pub record AreStepsAlong (path : List Loc) (steps : List StepAlong) : Type 0 where
  pub moved : IsPermutation (steps_along path) steps
  pub sorted : IsSorted step_along_cmp steps

-- the steps along one segment, in order of places
pub record AreAlong (steps : List StepAlong) (seg : Seg) (part : List StepAlong) : Type 0 where
  pub among : (t : StepAlong) → Contains part t → Contains steps t × (t.seg ≡ seg)
  pub all : (t : StepAlong) → Contains steps t → t.seg ≡ seg → Contains part t
  pub rise : IsNonDecreasingBy (λ (t : StepAlong). t.place) part

-- ---- what is cut out between two steps

-- of n locations round, the k-th is among the fewer between the steps a and b, whichever comes first
abbrev pub lies_between : ℕ → ℕ → ℕ → ℕ → Bool
lies_between n a b k = (nat_lt a b && is_among_fewer n a b k) || (nat_lt b a && is_among_fewer n b a k)

-- the steps run along the first and the second segment of a pair
abbrev pub run_along_pair : Pair → StepAlong → StepAlong → Bool
run_along_pair pair a b = is_eq (seg_cmp a.seg pair.first) && is_eq (seg_cmp b.seg pair.second)

-- two of the steps, along the segments of a pair, cut the k-th location out
abbrev pub pair_cuts_out : ℕ → ℕ → List StepAlong → Pair → Bool
pair_cuts_out n k steps pair = list_any (λ a. list_any (λ b. run_along_pair pair a b && lies_between n a.place b.place k) steps) steps

-- such a pair, if there is one
abbrev pub told_cuts_out : ℕ → ℕ → List StepAlong → Option Pair → Bool
told_cuts_out n k steps None = false
told_cuts_out n k steps (Some pair) = pair_cuts_out n k steps pair

-- ---- stretches

-- of n locations round, the k-th is among so many behind a step
abbrev pub is_on_stretch : ℕ → ℕ → ℕ → ℕ → Bool
is_on_stretch n from count k = (nat_lt from k && nat_le k (from + count)) || (nat_le k from && nat_le (k + n) (from + count))

-- the k-th location is among those that are reached behind some step
abbrev pub is_reached : List ℕ → ℕ → Bool
is_reached reach k = list_any (λ r. is_on_stretch (length reach) r.0 r.1 k) (enumerate_from 0 reach)

-- what is reached behind the steps of a closed line is what is cut out of it
pub record AreReaches (path : List Loc) (reach : List ℕ) : Type 0 where
  pub long : length reach ≡ length path
  pub exact : (k : ℕ) → k < length path → is_reached reach k ≡ is_cut_out path k

-- of n locations round, how many lie between the step a and another one, b, from a on
abbrev pub ahead : ℕ → ℕ → ℕ → ℕ
ahead n a b = if nat_lt a b then b - a else b + n - a

-- those are the fewer between the two
abbrev pub IsShorter : ℕ → ℕ → ℕ → Type 0
IsShorter n a b = ((a < b) × (2 * (b - a) ≤ n)) ⊎ ((b < a) × (n < 2 * (a - b)))

-- how far away the farthest of some steps is; 0 where there is none
pub record IsFarthest (IsOne : ℕ → Type 0) (far : ℕ → ℕ) (steps : List StepAlong) (farthest : ℕ) : Type 0 where
  pub none_farther : (t : StepAlong) → Contains steps t → IsOne t.place → far t.place ≤ farthest
  pub is : (farthest ≡ 0) ⊎ ((t : StepAlong) × Contains steps t × IsOne t.place × (far t.place ≡ farthest))

-- of n locations round, the place so many before another
abbrev pub place_before : ℕ → ℕ → ℕ → ℕ
place_before n at count = if nat_le count at then at - count else at + n - count

-- of n locations round, the place behind this one
abbrev pub place_after : ℕ → ℕ → ℕ
place_after n place = if nat_lt (place + 1) n then place + 1 else 0

-- the last place of steps up to a limit
pub record IsLastPlaceUpTo (steps : List StepAlong) (limit place : ℕ) : Type 0 where
  pub up_to : place ≤ limit
  pub step : StepAlong
  pub there : Contains steps step
  pub is : step.place ≡ place
  pub last : (t : StepAlong) → Contains steps t → t.place ≤ limit → t.place ≤ place

-- the first place of steps from a limit on
pub record IsFirstPlaceFrom (steps : List StepAlong) (limit place : ℕ) : Type 0 where
  pub from : limit ≤ place
  pub step : StepAlong
  pub there : Contains steps step
  pub is : step.place ≡ place
  pub first : (t : StepAlong) → Contains steps t → limit ≤ t.place → place ≤ t.place

-- ---- a walk along the stretches

-- what is reached behind the first steps of a second walk, and behind all steps in the first, goes on for so many locations
pub record IsCarriedRound (reach : List ℕ) (k left : ℕ) : Type 0 where
  pub before : (i : ℕ) → i < k → slice_index reach i + i < left + k
  pub round : (i : ℕ) → i < length reach → slice_index reach i + i < left + k + length reach
  pub is :
      (left ≡ 0)
      ⊎ (((i : ℕ) × (i < k) × (left + k ≡ slice_index reach i + i + 1))
      ⊎ ((i : ℕ) × (i < length reach) × (left + k + length reach ≡ slice_index reach i + i + 1)))

-- ---- runs

-- what is told of runs that are cut out of a ring
abbrev pub cuts_of : ℤ → List (Loc × Loc) → List Cut
cuts_of ring runs = map (λ run. record { ring = ring; from = run.0; to = run.1 }) runs

-- the places of the locations that remain
abbrev pub places_left : List (Loc × Bool) → List ℕ
places_left marks = map (λ m. m.0) (filter (λ m. not m.1.1) (enumerate_from 0 marks))

-- the run behind a location, if the next one is cut out, up to another location
abbrev pub run_to : Loc × Bool → List (Loc × Bool) → ℕ → ℕ → List (Loc × Loc)
run_to d marks place next =
    if (slice_index_or marks (place_after (length marks) place) d).1 then ((slice_index_or marks place d).0, (slice_index_or marks next d).0) ∷ [] else []
