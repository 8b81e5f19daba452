-- Lists that don't cross, as statements.
use Rattle.std.specs.Prelude.{List, false, true, ◌≡◌}
use Rattle.plane_lists.specs.Rings.Cover.{AreClear, AreClearTogether, DoNotCross, covers, covers_edge}
use Rattle.plane.specs.Edge.{Edge}
use Rattle.plane.specs.Vector.{Vector}
use Rattle.plane_lists.specs.Lists.ConflictFree.{IsConflictFree}
use Rattle.plane_lists.specs.Lists.EdgeList.{IsEvenAtPoints}
use Rattle.lists.specs.Member.{In}
use Rattle.plane_lists.specs.Lists.Ring.{IsRing, segments_of}

-- a list that a ring doesn't cross covers all edges of the ring or none
abbrev pub CoverIsOneAlongRing : Type 0
CoverIsOneAlongRing =
    (rs : List Edge) → IsRing rs → (es : List Edge) → IsConflictFree (segments_of rs) → IsConflictFree es →
    IsEvenAtPoints es → AreClear (segments_of rs) es → DoNotCross (segments_of rs) es → (s t : Edge) →
    In s (segments_of rs) → In t (segments_of rs) → covers_edge es s ≡ covers_edge es t

-- two lists don't both cover all edges of the other
abbrev pub NotEachCoversOther : Type 0
NotEachCoversOther =
    (ss es : List Edge) → AreClearTogether ss es → (x : Edge) → In x ss →
    ((s : Edge) → In s ss → covers_edge es s ≡ true) → ((t : Edge) → In t es → covers_edge ss t ≡ true) → ⊥

-- a list that covers all edges of another one covers what the other covers
abbrev pub CoverOfEdgesIsCover : Type 0
CoverOfEdgesIsCover =
    (ss es : List Edge) → AreClearTogether ss es → (p : Vector) →
    ((s : Edge) → In s ss → covers_edge es s ≡ true) →
    ((s t : Edge) → In s es → In t es → covers_edge ss s ≡ covers_edge ss t) → covers ss p ≡ true →
    covers es p ≡ true

-- two lists neither of which covers an edge of the other cover no point in common
abbrev pub ApartCoverNothingInCommon : Type 0
ApartCoverNothingInCommon =
    (ss es : List Edge) → AreClearTogether ss es → (p : Vector) →
    ((s : Edge) → In s ss → covers_edge es s ≡ false) → ((t : Edge) → In t es → covers_edge ss t ≡ false) →
    covers ss p ≡ true → covers es p ≡ true → ⊥
