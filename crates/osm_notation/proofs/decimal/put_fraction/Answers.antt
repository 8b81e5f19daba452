use Rattle.std.proofs.Common.{take, arith}
use Rattle.osm_notation.proofs.DecimalLemmas.{fraction-put}
use Rattle.osm_notation.proofs.decimal.put_fraction.Goals as goal

pub returns-clause-text : goal.returns-clause-text
returns-clause-text c =
    let len = c.len_without_end_zeros-len in
    fraction-put c.args.rest c.decimals-decimals.result len.result (take c.args.at c.args.buf.now) (take c.put_byte-point.result c.put_byte-point.new.buf) (take c.put_front.result c.put_front.new.buf)
    (omega arith) c.decimals-decimals.ensures len.ensures.bound len.ensures.same len.ensures.stops c.put_byte-point.ensures.text c.put_front.ensures.text
