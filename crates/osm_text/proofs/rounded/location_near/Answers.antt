use Rattle.std.proofs.Common.{◌∙◌, rules}
use Rattle.std.specs.Int.{w32}
use Rattle.std.proofs.lemmas.Int.{to_z-of_z}
use Rattle.osm_lattice.proofs.LatticeKit.{loc_from_fields}
use Rattle.osm_text.proofs.rounded.location_near.Goals as goal

pub returns : goal.returns
returns c = λ inside.
    loc_from_fields _ _ (to_z-of_z w32 c.x_near.result (search rules) ∙ c.x_near.ensures) (to_z-of_z w32 c.y_near.result (search rules) ∙ c.y_near.ensures)
