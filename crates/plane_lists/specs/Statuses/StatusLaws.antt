-- What changes a status and what it shows, as statements.
use Rattle.std.specs.Prelude.{Bool, List, false, filter, insert, length, map, not, remove, slice_index_or, true, ℕ, ◌++◌, ◌+◌, ◌-◌, ◌<◌, ◌∷◌, ◌≡◌, ◌≤◌, ◌⊎◌}
use Rattle.std.specs.List.{AllWithin, count_by}
use Rattle.std.specs.List.Sorted.{IsPartitionedBy}
use Rattle.plane.specs.Edge.{Edge}
use Rattle.plane.specs.Height.{is_in_span, is_right_above}
use Rattle.plane.specs.Vector.{Vector}
use Rattle.plane_lists.specs.Lists.ConflictFree.{IsConflictFree}
use Rattle.lists.specs.Member.{In}
use Rattle.plane_lists.specs.Statuses.Status.{IsRightJustAbove, IsStatus}

-- an item that spans the height goes before those that are right of it, which come last
abbrev pub ItemEnters : Type 0 → Type 0
ItemEnters X =
    (edge : X → Edge) (p : Vector) (xs status : List X) (x : X) (place : ℕ) → IsConflictFree (map edge (x ∷ xs)) →
    IsStatus edge p xs status → is_in_span p (edge x) ≡ true → place ≤ length status →
    AllWithin (λ (t : X). is_right_above p (edge x) (edge t) ≡ false) status 0 place →
    AllWithin (λ (t : X). is_right_above p (edge x) (edge t) ≡ true) status place (length status) →
    IsStatus edge p (x ∷ xs) (insert status place x)

abbrev pub ItemPasses : Type 0 → Type 0
ItemPasses X =
    (edge : X → Edge) (p : Vector) (xs status : List X) (x : X) → IsStatus edge p xs status →
    is_in_span p (edge x) ≡ false → IsStatus edge p (x ∷ xs) status

-- if all items that span a second height also span a first one, those that span the second are left of the first one's status
abbrev pub StatusRises : Type 0 → Type 0
StatusRises X =
    (edge : X → Edge) (p q : Vector) (xs status : List X) → IsConflictFree (map edge xs) → IsStatus edge p xs status →
    ((x : X) → In x xs → is_in_span q (edge x) ≡ true → is_in_span p (edge x) ≡ true) →
    IsStatus edge q xs (filter (λ (x : X). is_in_span q (edge x)) status)

abbrev pub StatusCounts : Type 0 → Type 0
StatusCounts X =
    (edge : X → Edge) (p : Vector) (xs status : List X) → IsStatus edge p xs status → (test : X → Bool) →
    ((x : X) → test x ≡ true → is_in_span p (edge x) ≡ true) → count_by test status ≡ count_by test xs

-- an item right of the first of two neighbours is the second, or right of it
abbrev pub NeighboursAreNearest : Type 0 → Type 0
NeighboursAreNearest X =
    (edge : X → Edge) (p : Vector) (xs status : List X) → IsStatus edge p xs status → (i : ℕ) (d : X) → i + 1 < length status →
    (f : X) → In f xs → is_right_above p (edge (slice_index_or status i d)) (edge f) ≡ true →
    (edge f ≡ edge (slice_index_or status (i + 1) d)) ⊎ IsRightJustAbove edge p (slice_index_or status (i + 1) d) f

-- those right of an item that spans the height come last
abbrev pub ItemsRightStandLast : Type 0 → Type 0
ItemsRightStandLast X =
    (edge : X → Edge) (p : Vector) (xs status : List X) → IsStatus edge p xs status → (x : X) → is_in_span p (edge x) ≡ true →
    IsPartitionedBy (λ (t : X). not (is_right_above p (edge x) (edge t))) status

-- an item that spans the height goes between two that are left and right of it; the list may have conflicts
abbrev pub ItemFits : Type 0 → Type 0
ItemFits X =
    (edge : X → Edge) (p : Vector) (xs status : List X) (x : X) (place : ℕ) → IsStatus edge p xs status → is_in_span p (edge x) ≡ true → place ≤ length status →
    ((d : X) → 0 < place → IsRightJustAbove edge p (slice_index_or status (place - 1) d) x) →
    ((d : X) → place < length status → IsRightJustAbove edge p x (slice_index_or status place d)) →
    IsStatus edge p (x ∷ xs) (insert status place x)

-- an item of the status is taken out of it and of the list
abbrev pub ItemLeaves : Type 0 → Type 0
ItemLeaves X =
    (edge : X → Edge) (p : Vector) (front back status : List X) (x : X) (place : ℕ) → IsStatus edge p (front ++ x ∷ back) status → place < length status →
    ((d : X) → slice_index_or status place d ≡ x) → IsStatus edge p (front ++ back) (remove status place)

-- if the items of the list span two heights alike, both have the same status; their edges are of a list without conflicts
abbrev pub StatusClimbs : Type 0 → Type 0
StatusClimbs X =
    (edge : X → Edge) (p q : Vector) (xs status : List X) (es : List Edge) → IsConflictFree es → ((x : X) → In x xs → In (edge x) es) → IsStatus edge p xs status →
    ((x : X) → In x xs → is_in_span p (edge x) ≡ is_in_span q (edge x)) → IsStatus edge q xs status
