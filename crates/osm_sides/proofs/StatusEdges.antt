-- The test at the lower end of an edge is the order just above its height, among the edges of a conflict-free list.
use Rattle.std.proofs.Common.{Bool, List, ap, false, not, refl, sym, true, ◌&&◌, ◌∙◌, ◌≡◌}
use lib.IntN.{◌-ℤ◌}
use Rattle.plane.specs.Edge.{Edge, same_edge}
use Rattle.plane.specs.Height.{is_in_span, is_right_above, starts_left_of}
use Rattle.plane.specs.Sign.{Null, Plus, sign}
use Rattle.plane.specs.Vector.{Vector}
use Rattle.std.proofs.lemmas.Bool.{and_right}
use Rattle.plane.proofs.PlaneKit.{same_edge-true, right_itself, right_of}
use Rattle.plane.proofs.SignKit.{bit-same}
use Rattle.plane_lists.specs.Lists.ConflictFree.{IsConflictFree}
use Rattle.lists.specs.Member.{In}
use Rattle.plane_lists.proofs.WindingKit.{right-level}

module _ (p : Vector) (es : List Edge) (free : IsConflictFree es) (e : Edge) (i : In e es) (low : sign (e.from.y -ℤ p.y) ≡ Null) (high : sign (e.to.y -ℤ p.y) ≡ Plus) where
  counts-by : (t : Edge) → In t es → (b : Bool) → same_edge e t ≡ b → (not b && starts_left_of e t) ≡ is_right_above p e t
  counts-by t j false h = bit-same (starts_left_of e t) (is_right_above p e t) (right-level p e es free i low high t j)
  counts-by t j true h = sym (and_right (is_in_span p t) (right_of p e t) (ap (λ u. right_of p e u) (sym (same_edge-true e t h)) ∙ right_itself p e))

  pub counts-is : (t : Edge) → In t es → (not (same_edge e t) && starts_left_of e t) ≡ is_right_above p e t
  counts-is t j = counts-by t j (same_edge e t) refl
