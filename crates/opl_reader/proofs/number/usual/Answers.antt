use Rattle.std.proofs.Common.{arith}
use Rattle.opl_reader.proofs.NumberLemmas.{usual_units}
use Rattle.opl_reader.proofs.number.usual.Goals as goal

pub returns-clause-units : goal.returns-clause-units
returns-clause-units c =
    let lead = c.leading_digits-degrees in
    usual_units c.args.text.now c.split_at.result.1.now lead.result.1 lead.result.0 c.in_ok-fraction.fraction (omega arith) (omega arith) lead.ensures.digits (omega arith) c.split_at.ensures.back c.in_ok-fraction.ensures.value
