use Rattle.std.proofs.Common.{◌≡◌, ◌∙◌, length, sym, ap, arith, is_some}
use Rattle.std.proofs.lemmas.Bool.{eqb-false, eqb-true, and_left, and_right, le-ltb}
use Rattle.opl_reader.proofs.KeysRead.{no-key, key-string}
use Rattle.opl_reader.proofs.keys.is_key.Goals as goal

pub returns-then-is_empty : goal.returns-then-is_empty
returns-then-is_empty c =
    let empty : length c.args.written.now ≡ 0 = eqb-true _ _ (sym c.is_empty.ensures ∙ c.if-is_empty.true) in
    no-key c.args.written.now (and_left _ _ (le-ltb 0 (length c.args.written.now) (omega arith)))

pub returns-then-not-is_one_word : goal.returns-then-not-is_one_word
returns-then-not-is_one_word c = no-key c.args.written.now (and_right _ _ (sym c.is_one_word.ensures ∙ c.if-not-is_one_word.true))

pub returns : goal.returns
returns c =
    let some : length c.args.written.now ≡ 0 → ⊥ = eqb-false _ _ (sym c.is_empty.ensures ∙ c.if-is_empty.false) in
    c.is_string.ensures ∙ ap is_some (key-string c.args.written.now (omega arith) (sym c.is_one_word.ensures ∙ c.if-not-is_one_word.false))
