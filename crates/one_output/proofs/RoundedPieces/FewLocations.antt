-- Fewer than three locations go round nothing: two there and back, or one, or none.
use Rattle.std.proofs.Common.{List, [], arith, length, pos, refl, ℕ, ℤ, ◌%◌, ◌<◌, ◌∷◌, ◌≡◌}
use borrow.Author.Differences.{ints}
use Rattle.osm_lattice.specs.declared.loc.Loc.{Loc}
use Rattle.plane.specs.Edge as plane
use Rattle.plane.specs.Scale.{scaled_edge}
use Rattle.plane.specs.Vector.{Vector, east, from_to}
use Rattle.plane.proofs.PlaneKit.{down_seen, up_seen}
use Rattle.plane_lists.specs.Lists.ScaledEdges.{scaled_edges}
use Rattle.plane_lists.specs.Lists.EdgeList.{crossing_count, down_count, up_count, winding_number}
use Rattle.lists.proofs.ListsKit.{total, total-is}
use Rattle.plane_lists.proofs.WindingKit.{count-is, reversed-crossings}
use Rattle.one_output.specs.RoundedPieces.Printed.{edge_between, edges_round}

module _ (q : ℤ) (p : Vector) where
  abbrev round : List Loc → List plane.Edge
  round ps = scaled_edges q (edges_round ps)

  abbrev up : plane.Edge → ℕ
  up e = up_seen east (from_to p) e

  abbrev down : plane.Edge → ℕ
  down e = down_seen east (from_to p) e

  -- as often up as down
  few-alike : (ps : List Loc) → length ps < 3 → total up (round ps) ≡ total down (round ps)
  few-alike [] h = refl
  few-alike (a ∷ []) h = let r = reversed-crossings east (from_to p) (scaled_edge q (edge_between (a, a))) in let x = r.0 in omega (arith, x)
  few-alike (a ∷ (b ∷ [])) h = let r = reversed-crossings east (from_to p) (scaled_edge q (edge_between (a, b))) in let x = r.0 in let y = r.1 in omega (arith, x, y)
  few-alike (a ∷ (b ∷ (c ∷ ps))) h = absurd (omega arith)

  pub few-wind : (ps : List Loc) → length ps < 3 → winding_number east p (round ps) ≡ pos 0
  few-wind ps h =
      let s = few-alike ps h in let x = total-is up (round ps) in let y = total-is down (round ps) in
      let e : up_count east p (round ps) ≡ down_count east p (round ps) = omega (arith, s, x, y) in omega (arith, ints)

  pub few-even : (ps : List Loc) → length ps < 3 → crossing_count east p (round ps) % 2 ≡ 0
  few-even ps h = let s = few-alike ps h in let n = count-is east (from_to p) (round ps) in omega (arith, s, n)
