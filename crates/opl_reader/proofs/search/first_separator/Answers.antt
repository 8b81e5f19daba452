use Rattle.std.proofs.Common.{◌∙◌, sym, arith}
use Rattle.std.specs.List.{position_or_len}
use Rattle.opl_reader.specs.LineReading.{is_separator}
use Rattle.opl_reader.proofs.SearchLemmas.{one_more, stops_here, ends, skips_low}
use Rattle.opl_reader.proofs.search.first_separator.Goals as goal

pub returns-then-low-text-clause-value : goal.returns-then-low-text-clause-value
returns-then-low-text-clause-value c =
    let text = c.args.text.now in
    let low = c.low_by_fours-low in
    let found = position_or_len is_separator text in
    let so_far = skips_low text c.loop-place.place low.result found low.ensures.bound low.ensures.value c.loop-place.invariant in
    c.if-low-text.true ∙ ends is_separator text low.result found (omega arith) so_far

pub returns-then-is_separator-clause-value : goal.returns-then-is_separator-clause-value
returns-then-is_separator-clause-value c =
    let text = c.args.text.now in
    let low = c.low_by_fours-low in
    let found = position_or_len is_separator text in
    let so_far = skips_low text c.loop-place.place low.result found low.ensures.bound low.ensures.value c.loop-place.invariant in
    stops_here is_separator text low.result found (omega arith) (sym c.is_separator.ensures ∙ c.if-is_separator.true) so_far

pub loop-place-preserved : goal.loop-place-preserved
loop-place-preserved c =
    let text = c.args.text.now in
    let low = c.low_by_fours-low in
    let found = position_or_len is_separator text in
    let so_far = skips_low text c.loop-place.place low.result found low.ensures.bound low.ensures.value c.loop-place.invariant in
    one_more is_separator text low.result found (omega arith) (sym c.is_separator.ensures ∙ c.if-is_separator.false) so_far
