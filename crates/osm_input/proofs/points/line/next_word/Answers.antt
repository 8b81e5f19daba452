use Rattle.std.proofs.Common.{sym}
use Rattle.std.proofs.lemmas.Bool.{eqb-false}
use Rattle.osm_input.proofs.PointLines.Words.{all_left, at_word, next_at}
use Rattle.osm_input.proofs.points.line.next_word.Goals as goal

pub returns-in-Some : goal.returns-in-Some
returns-in-Some c =
    at_word c.args.text.now c.from_word-text.result.now c.split_at.result.0.now c.split_at.result.1.now c.from_word-text.ensures.words
    (next_at c.from_word-text.result.now c.split_at.result.0.now c.split_at.result.1.now c.in-Some.end c.from_word-text.ensures.first
    c.in-Some.ensures.0 c.in-Some.ensures.1 c.split_at.ensures.front c.split_at.ensures.back)

pub returns-in-None : goal.returns-in-None
returns-in-None c =
    at_word c.args.text.now c.from_word-text.result.now c.split_at-in-None.result.0.now c.split_at-in-None.result.1.now c.from_word-text.ensures.words
    (all_left c.from_word-text.result.now c.split_at-in-None.result.0.now c.split_at-in-None.result.1.now (eqb-false _ _ (sym c.if-is_empty.ensures))
    c.in-None.ensures c.split_at-in-None.ensures.front c.split_at-in-None.ensures.back)
