use Rattle.std.proofs.Common.{rules, ◌++◌, refl}
use Rattle.osm_input.proofs.Steps.{refused_in_rest, some_more, all_within}
use Rattle.osm_input.proofs.pieces.read_piece.Goals as goal

pub returns-in-Err : goal.returns-in-Err
returns-in-Err c =
    let w = c.loop-rest.invariant.read in
    record {
      holds = λ longest bytes h. refused_in_rest longest bytes w.front c.loop-rest.rest.now c.args.piece.now c.in-Err.error w.cut (c.in-Err.ensures.holds longest (bytes ++ w.front) (w.holds longest bytes h));
    }

pub loop-rest-preserved : goal.loop-rest-preserved
loop-rest-preserved c = record {
  goes_on = c.in-Ok.ensures.still;
  read = some_more c.args.lines.now c.loop-rest.lines c.add_object.new.lines c.args.store.now c.loop-rest.store c.add_object.new.store c.args.piece.now c.loop-rest.rest.now c.in-Ok.used _
      c.loop-rest.invariant.read c.in-Ok.ensures.holds c.in-Ok.ensures.used.1 c.in-Ok.ensures.used.2 refl;
}

pub returns : goal.returns
returns c = record {
  holds = all_within c.args.lines.now c.loop-rest.lines c.args.store.now c.loop-rest.store c.args.piece.now c.loop-rest.rest.now c.loop-rest.invariant.read (search rules);
}
