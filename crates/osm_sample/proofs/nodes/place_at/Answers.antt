use Rattle.std.proofs.Common.{◌∙◌, ap₂, ℤ, of_z, rules, to_z, w64}
use Rattle.std.proofs.lemmas.Int.{to_z-of_z}
use Rattle.osm_sample.specs.Objects.{place_at}
use Rattle.osm_elements.proofs.ElementsKit.{placed}
use Rattle.osm_sample.proofs.nodes.place_at.Goals as goal

pub returns : goal.returns
returns c =
    placed (to_z w64 (of_z w64 c.args.x)) (to_z w64 (of_z w64 c.args.y)) c.new.result c.new.ensures.valid c.new.ensures.value
    ∙ ap₂ (λ (x y : ℤ). place_at x y) (to_z-of_z w64 c.args.x (search rules)) (to_z-of_z w64 c.args.y (search rules))
