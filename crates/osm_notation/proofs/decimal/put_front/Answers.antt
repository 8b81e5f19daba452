use Rattle.std.proofs.Common.{take, arith}
use Rattle.std.proofs.lemmas.List.{length-take-le}
use Rattle.osm_notation.proofs.DecimalLemmas.{front_stands}
use Rattle.osm_notation.proofs.decimal.put_front.Goals as goal

pub returns-clause-text : goal.returns-clause-text
returns-clause-text c =
    front_stands c.put.new.buf (take c.args.at c.args.buf.now) c.args.decimals c.args.at c.args.len c.put.result c.put.ensures.text c.put.ensures.end (length-take-le c.args.at c.args.buf.now (omega arith)) (omega arith)
