-- Items that end, taken out of a status one after the other in the order of a list: what remains, and its laws as statements.
use Rattle.std.specs.Prelude.{All, AllPairs, Bool, List, drop, false, filter, length, remove, slice_index_or, true, ℕ, ◌+◌, ◌<◌, ◌≡◌, ◌≢◌}
use Rattle.std.specs.List.{AllWithin}
use Rattle.plane.specs.Edge.{Edge}
use Rattle.plane.specs.Height.{is_in_span}
use Rattle.plane.specs.Vector.{Vector}
use Rattle.lists.specs.Member.{In}
use Rattle.plane_lists.specs.Statuses.Status.{IsStatus}

-- What remains of a status: it has the items of old that stay, each of its items once, and none of those before a place of the list.
pub record Remains {X : Type 0} (stays : X → Bool) (ends : List X) (place : ℕ) (old status : List X) : Type 0 where
  pub kept : filter stays status ≡ filter stays old
  pub once : AllPairs (λ (x y : X). x ≢ y) status
  pub among : All (λ (x : X). In x (drop place ends)) status

-- at first the whole status remains, if the list has all items that span the height, and those before the place don't
abbrev pub AllRemain : Type 0 → Type 0
AllRemain X =
    (edge : X → Edge) (p : Vector) (xs status : List X) (stays : X → Bool) (ends : List X) (place : ℕ) → IsStatus edge p xs status →
    ((x : X) → In x xs → is_in_span p (edge x) ≡ true → In x ends) →
    AllWithin (λ (x : X). is_in_span p (edge x) ≡ false) ends 0 place →
    Remains stays ends place status status

-- the next one that ends is taken out at its place
abbrev pub NextIsTakenOut : Type 0 → Type 0
NextIsTakenOut X =
    (stays : X → Bool) (ends : List X) (place : ℕ) (old status : List X) (x : X) (at : ℕ) → Remains stays ends place old status →
    place < length ends → ((d : X) → slice_index_or ends place d ≡ x) → stays x ≡ false →
    at < length status → ((d : X) → slice_index_or status at d ≡ x) →
    Remains stays ends (place + 1) old (remove status at)

-- or all that end are taken out, if the next one isn't found
abbrev pub AllAreTakenOut : Type 0 → Type 0
AllAreTakenOut X =
    (stays : X → Bool) (ends : List X) (place : ℕ) (old status : List X) (x : X) → Remains stays ends place old status →
    place < length ends → ((d : X) → slice_index_or ends place d ≡ x) → stays x ≡ false →
    Remains stays ends (place + 1) old (filter stays status)

-- at last only those that stay remain, if those from the place on stay
abbrev pub ThoseThatStayRemain : Type 0 → Type 0
ThoseThatStayRemain X =
    (stays : X → Bool) (ends : List X) (place : ℕ) (old status : List X) → Remains stays ends place old status →
    AllWithin (λ (x : X). stays x ≡ true) ends place (length ends) →
    status ≡ filter stays old
