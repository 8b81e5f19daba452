-- What a list of edges covers, and lists that don't cross.
use Rattle.std.specs.Prelude.{Bool, List, not, true, ◌%◌, ◌≡◌}
use Rattle.plane.specs.Conflict.{IsClearOf}
use Rattle.plane.specs.Edge.{Edge, ends_at, other_end}
use Rattle.plane.specs.Vector.{Vector, east, from_to}
use Rattle.plane_lists.specs.Lists.ConflictFree.{IsConflictFree}
use Rattle.plane_lists.specs.Lists.EdgeList.{IsEvenAtPoints, crossing_count}
use Rattle.lists.specs.Member.{In}
use Rattle.plane_lists.specs.Lists.Node.{away, spokes_in}
use Rattle.plane_lists.specs.Lists.Parity.{is_even}

-- the parity of the list at p is odd
abbrev pub covers : List Edge → Vector → Bool
covers es p = not (is_even (crossing_count east p es))

-- the parity of the list along the inside of the edge t is odd, by the ray along t from its first end, past the edges that end there
abbrev pub covers_edge : List Edge → Edge → Bool
covers_edge es t = not (is_even (crossing_count (from_to t.from t.to) t.from (away t.from es)))

-- at each point, an even number of edges of one list lie between two edges of the other
abbrev pub DoNotCross : List Edge → List Edge → Type 0
DoNotCross ss es =
    (v : Vector) (s t : Edge) → In s ss → In t ss → ends_at v s ≡ true → ends_at v t ≡ true →
    spokes_in (from_to v (other_end v s)) (from_to v (other_end v t)) v es % 2 ≡ 0

-- no edge of one list conflicts with one of the other
abbrev pub AreClear : List Edge → List Edge → Type 0
AreClear ss es = (s t : Edge) → In s ss → In t es → IsClearOf s t

-- two conflict-free lists that are clear of each other, each even at points
pub record AreClearTogether (ss es : List Edge) : Type 0 where
  pub plain_s : IsConflictFree ss
  pub plain : IsConflictFree es
  pub even_s : IsEvenAtPoints ss
  pub even : IsEvenAtPoints es
  pub clear : AreClear ss es
