-- Twice a number of 62 bits fits.
use Rattle.std.proofs.Common.{ap, of_z, pos, rules, to_z, w32, w64, ◌*ℤ◌, ◌+ℤ◌, ◌∙◌, ◌≡◌}
use Rattle.std.proofs.lemmas.Int.{to_z-of_z}
use Rattle.osm_rings.specs.Ranks.{rank_at}
use Rattle.osm_rings.proofs.RankOrder.{number, sum, twice}
use Rattle.osm_rings.proofs.ranks.rank_at.Goals as goal

pub overflow_add-result : goal.overflow_add-result
overflow_add-result c =
    let x = c.args.x in let y = c.args.y in let low = c.requires.row.0 in let high = c.requires.row.1 in
    let rounded = c.args.rounded in let from = c.requires.rounded.0 in let to = c.requires.rounded.1 in
    let at = to_z-of_z w32 x (search rules) in let by = to_z-of_z w32 y (search rules) in
    let is : c.floor_rank.result ≡ rank_at x y = c.floor_rank.ensures ∙ (ap (λ z. rank_at z (to_z w32 (of_z w32 y))) at ∙ ap (rank_at x) by) in
    let read = to_z-of_z w64 (rank_at x y) (number x y rounded c.ranges.x low high from to) in
    let doubled = to_z-of_z w64 (pos 2 *ℤ rank_at x y) (twice x y rounded c.ranges.x low high from to) in
    let last = to_z-of_z w64 rounded (search rules) in
    rw (is, read, doubled, last) (sum x y rounded c.ranges.x low high from to)

pub returns : goal.returns
returns c =
    let x = c.args.x in let y = c.args.y in let low = c.requires.row.0 in let high = c.requires.row.1 in
    let rounded = c.args.rounded in let from = c.requires.rounded.0 in let to = c.requires.rounded.1 in
    let at = to_z-of_z w32 x (search rules) in let by = to_z-of_z w32 y (search rules) in
    let is : c.floor_rank.result ≡ rank_at x y = c.floor_rank.ensures ∙ (ap (λ z. rank_at z (to_z w32 (of_z w32 y))) at ∙ ap (rank_at x) by) in
    let read = to_z-of_z w64 (rank_at x y) (number x y rounded c.ranges.x low high from to) in
    let doubled = to_z-of_z w64 (pos 2 *ℤ rank_at x y) (twice x y rounded c.ranges.x low high from to) in
    let last = to_z-of_z w64 rounded (search rules) in
    rw (is, read, doubled, last) (to_z-of_z w64 (pos 2 *ℤ rank_at x y +ℤ rounded) (sum x y rounded c.ranges.x low high from to))
