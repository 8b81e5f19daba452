-- The prints cover what the leaves do, which is what the coast does.
use Rattle.std.proofs.Common.{pos, refl}
use Rattle.one_output.proofs.RoundedPieces.PrintedCover.{far-off}
use Rattle.one_output.proofs.rounded_pieces.printed_coast_is_coast.Goals as goal

pub returns-clause-land : goal.returns-clause-land
returns-clause-land c = λ settings objects whole right asked tiles are q plus p far.
    let prints = c.printed_coast_covers.ensures.land settings objects whole right tiles are q plus p far in
    let leaves = c.leaves_cover_the_coast.ensures.land settings objects whole right asked q plus p (far-off q plus p right.areas.land_leaves far) in
    (λ s. leaves.0 (prints.0 s), λ h. prints.1 (leaves.1 h))

pub returns-clause-water : goal.returns-clause-water
returns-clause-water c = λ settings objects whole right asked tiles are p within far.
    let prints = c.printed_coast_covers.ensures.water settings objects whole right tiles are (pos 1) refl p far in
    let leaves = c.leaves_cover_the_coast.ensures.water settings objects whole right asked p within (far-off (pos 1) refl p right.areas.water_leaves far) in
    (λ s. leaves.0 (prints.0 s), λ h. prints.1 (leaves.1 h))
