-- std reads what is tested.
use Rattle.std.proofs.Common.{◌≡◌, ◌∙◌, ◌<◌, ◌≤◌, length, true, sym, ap, arith}
use Rattle.std.specs.Char.{is_ascii_digit}
use Rattle.std.specs.List.{list_all}
use Rattle.std.specs.Result.{result_ok}
use Rattle.std.proofs.lemmas.Grind.{common_steps}
use Rattle.osm_words.proofs.Numbers.{number_is, number_parsed}
use Rattle.osm_words.proofs.number.number_named.Goals as goal

pub returns : goal.returns
returns c =
    let some : 0 < length c.args.word.now = grind (arith, common_steps, c.is_empty.ensures, c.if-is_empty.false, c.as_bytes-digits.ensures.value) in
    let short : length c.args.word.now ≤ 7 = grind (arith, common_steps, c.if-digits-gt-MOST_DIGITS.false, c.as_bytes-digits.ensures.value) in
    let all : list_all is_ascii_digit c.args.word.now ≡ true = ap (list_all is_ascii_digit) (sym c.as_bytes-digits.ensures.value) ∙ sym c.are_digits.ensures ∙ c.if-not-are_digits.false in
    let read = number_parsed c.args.word.now c.parse.result c.parse.ensures.value.0 all some short in
    c.ok.ensures.value ∙ ap result_ok read ∙ sym (number_is c.args.word.now all some short)
