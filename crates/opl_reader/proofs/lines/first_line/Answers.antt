use Rattle.std.proofs.Common.{sym, refl, length, arith, length-take}
use Rattle.std.proofs.lemmas.Bool.{lt-ltb, le-ltb}
use Rattle.std.proofs.lemmas.List.{take_all}
use Rattle.opl_reader.specs.Lines.{is_newline}
use Rattle.opl_reader.proofs.CutLemmas.{first_some, first_none}
use Rattle.opl_reader.proofs.lines.first_line.Goals as goal

pub returns-in-Some-clause-front : goal.returns-in-Some-clause-front
returns-in-Some-clause-front c = rw (first_some is_newline c.args.piece.now c.in-Some.end c.in-Some.ensures.0 c.in-Some.ensures.1) refl

pub returns-in-Some-clause-is_ended : goal.returns-in-Some-clause-is_ended
returns-in-Some-clause-is_ended c =
    rw (first_some is_newline c.args.piece.now c.in-Some.end c.in-Some.ensures.0 c.in-Some.ensures.1) (sym (lt-ltb c.in-Some.end (length c.args.piece.now) c.in-Some.ensures.0.high))

pub returns-in-Some-clause-place : goal.returns-in-Some-clause-place
returns-in-Some-clause-place c =
    let high = c.in-Some.ensures.0.high in
    rw (first_some is_newline c.args.piece.now c.in-Some.end c.in-Some.ensures.0 c.in-Some.ensures.1) (omega (arith, length-take c.in-Some.end c.args.piece.now))

pub returns-in-None-clause-front : goal.returns-in-None-clause-front
returns-in-None-clause-front c = rw (first_none is_newline c.args.piece.now c.in-None.ensures) (sym (take_all (length c.args.piece.now) c.args.piece.now (omega arith)))

pub returns-in-None-clause-is_ended : goal.returns-in-None-clause-is_ended
returns-in-None-clause-is_ended c = rw (first_none is_newline c.args.piece.now c.in-None.ensures) (sym (le-ltb (length c.args.piece.now) (length c.args.piece.now) (omega arith)))

pub returns-in-None-clause-place : goal.returns-in-None-clause-place
returns-in-None-clause-place c = sym (first_none is_newline c.args.piece.now c.in-None.ensures)
