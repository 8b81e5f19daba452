-- By the tests on either side.
use Rattle.std.proofs.Common.{rules, FitsSigned, subst, sym}
use Rattle.std.specs.Int.{w32, w64}
use Rattle.std.proofs.lemmas.Int.{to_z-of_z}
use Rattle.osm_geom.specs.declared.cut.Side.TheVariants.{High, Low}
use Rattle.coast_split.specs.Batches.{AreAt}
use Rattle.coast_split.proofs.Placings.{placed-high-by, placed-low-by}
use Rattle.coast_split.proofs.envelope.Envelope.placing.Goals as goal

pub returns-in-Low : goal.returns-in-Low
returns-in-Low c =
    let at_fits : FitsSigned w32 c.args.cut.at = search rules in let low_fits : FitsSigned w64 c.low-low.result = search rules in let high_fits : FitsSigned w64 c.high-high.result = search rules in let fits : FitsSigned w64 c.from-at.result = search rules in
    let at = simp to_z-of_z at c.from-at.ensures in let k = simp to_z-of_z at c.is_less.ensures in let b = simp to_z-of_z at c.is_less-in-Low.ensures in
    λ es e. subst (λ s. AreAt c.args.cut s c.placing_by.result es) (sym c.in-Low.is) (subst (λ p. AreAt c.args.cut Low p es) (sym c.placing_by.ensures)
    (placed-low-by c.args.cut es c.args.self.now c.low-low.result c.high-high.result c.from-at.result c.is_less.result c.is_less-in-Low.result e c.low-low.ensures c.high-high.ensures at k b))

pub returns-in-High : goal.returns-in-High
returns-in-High c =
    let at_fits : FitsSigned w32 c.args.cut.at = search rules in let low_fits : FitsSigned w64 c.low-low.result = search rules in let high_fits : FitsSigned w64 c.high-high.result = search rules in let fits : FitsSigned w64 c.from-at.result = search rules in
    let at = simp to_z-of_z at c.from-at.ensures in let k = simp to_z-of_z at c.is_less-in-High.ensures in let b = simp to_z-of_z at c.is_less-in-High-2.ensures in
    λ es e. subst (λ s. AreAt c.args.cut s c.placing_by-in-High.result es) (sym c.in-High.is) (subst (λ p. AreAt c.args.cut High p es) (sym c.placing_by-in-High.ensures)
    (placed-high-by c.args.cut es c.args.self.now c.low-low.result c.high-high.result c.from-at.result c.is_less-in-High.result c.is_less-in-High-2.result e c.low-low.ensures c.high-high.ensures at k b))
