use Rattle.std.proofs.Common.{◌∙◌, Some, sym, ap, arith}
use Rattle.std.specs.Char.{is_ascii_digit}
use Rattle.std.specs.List.{list_all}
use Rattle.std.specs.Str.Parse.{digits_value}
use Rattle.std.proofs.lemmas.Bool.{cond-true}
use Rattle.opl_reader.proofs.NumberLemmas.{some_if, few_units, few_bound}
use Rattle.opl_reader.proofs.number.few_decimals.Goals as goal

pub overflow_mul-result : goal.overflow_mul-result
overflow_mul-result c =
    let s = some_if (list_all is_ascii_digit c.args.decimals.now) (digits_value 10 c.args.decimals.now) c.in_ok-value.value c.in_ok-value.ensures in
    record { fits = omega (arith, few_bound c.args.decimals.now c.in_ok-value.value c.requires s.0 s.1) }

pub returns-clause-value : goal.returns-clause-value
returns-clause-value c =
    let s = some_if (list_all is_ascii_digit c.args.decimals.now) (digits_value 10 c.args.decimals.now) c.in_ok-value.value c.in_ok-value.ensures in
    ap (λ n. Some n) (sym (few_units c.args.decimals.now c.in_ok-value.value c.requires s.1)) ∙ sym (cond-true _ _ _ s.0)

pub returns-clause-bound : goal.returns-clause-bound
returns-clause-bound c =
    let s = some_if (list_all is_ascii_digit c.args.decimals.now) (digits_value 10 c.args.decimals.now) c.in_ok-value.value c.in_ok-value.ensures in
    few_bound c.args.decimals.now c.in_ok-value.value c.requires s.0 s.1
