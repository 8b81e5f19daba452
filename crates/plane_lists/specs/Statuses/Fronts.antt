-- The status of the first items of a list, and of all, as statements.
use Rattle.std.specs.Prelude.{List, false, insert, length, map, slice_index_or, take, true, ℕ, ◌+◌, ◌<◌, ◌≡◌, ◌≤◌}
use Rattle.std.specs.List.{AllWithin}
use Rattle.plane.specs.Edge.{Edge}
use Rattle.plane.specs.Height.{is_in_span, is_right_above}
use Rattle.plane.specs.Vector.{Vector}
use Rattle.plane_lists.specs.Lists.ConflictFree.{IsConflictFree}
use Rattle.plane_lists.specs.Statuses.Status.{IsStatus}

-- if the next item spans the height, it goes before those that are right of it, which come last
abbrev pub NextEnters : Type 0 → Type 0
NextEnters X =
    (edge : X → Edge) (p : Vector) (xs status : List X) (k : ℕ) (x : X) (place : ℕ) → IsConflictFree (map edge xs) →
    IsStatus edge p (take k xs) status → k < length xs → ((d : X) → slice_index_or xs k d ≡ x) →
    is_in_span p (edge x) ≡ true → place ≤ length status →
    AllWithin (λ (t : X). is_right_above p (edge x) (edge t) ≡ false) status 0 place →
    AllWithin (λ (t : X). is_right_above p (edge x) (edge t) ≡ true) status place (length status) →
    IsStatus edge p (take (k + 1) xs) (insert status place x)

-- if it doesn't span the height, it stays away
abbrev pub NextPasses : Type 0 → Type 0
NextPasses X =
    (edge : X → Edge) (p : Vector) (xs status : List X) (k : ℕ) (x : X) → IsStatus edge p (take k xs) status →
    k < length xs → ((d : X) → slice_index_or xs k d ≡ x) → is_in_span p (edge x) ≡ false →
    IsStatus edge p (take (k + 1) xs) status

-- if no later item spans the height, the status of the first ones is that of all
abbrev pub FrontIsAll : Type 0 → Type 0
FrontIsAll X =
    (edge : X → Edge) (p : Vector) (xs status : List X) (k : ℕ) →
    AllWithin (λ (x : X). is_in_span p (edge x) ≡ false) xs k (length xs) →
    IsStatus edge p (take k xs) status → IsStatus edge p xs status

-- then the status of all is also that of the first ones
abbrev pub AllIsFront : Type 0 → Type 0
AllIsFront X =
    (edge : X → Edge) (p : Vector) (xs status : List X) (k : ℕ) →
    AllWithin (λ (x : X). is_in_span p (edge x) ≡ false) xs k (length xs) →
    IsStatus edge p xs status → IsStatus edge p (take k xs) status
