use Rattle.std.proofs.Common.{◌≡◌, ◌∙◌, ◌<◌, length, get_or, sym, arith}
use Rattle.std.specs.List.{position_or_len}
use Rattle.std.proofs.lemmas.Str.{IsCharBoundary-before_ascii, IsCharBoundary-after_ascii}
use Rattle.opl_reader.specs.LineReading.{is_separator}
use Rattle.opl_reader.proofs.CutLemmas.{passes-at, split-none, split-some, front-is}
use Rattle.opl_reader.proofs.LineLemmas.{separator_ascii, fields-cut, fields-last}
use Rattle.opl_reader.proofs.line.next_part.Goals as goal
use Rattle.opl_reader.proofs.line.next_part.Goals.{Else-len-text}

-- the place found is within the text, and an ASCII character stands there
found : (c : Else-len-text) → (c.first_separator-len.result < length c.args.text.now) × (get_or c.args.text.now c.first_separator-len.result 0 < 128) × (c.first_separator-len.result ≡ position_or_len is_separator c.args.text.now)
found c =
    let text = c.args.text.now in
    let k = c.first_separator-len.result in
    let at : k ≡ position_or_len is_separator text = rw c.as_bytes.ensures.value at c.first_separator-len.ensures.value in
    let bound = rw c.as_bytes.ensures.value at c.first_separator-len.ensures.bound in
    let lt : k < length text = omega (arith, bound, c.if-len-text.false) in
    (lt, separator_ascii (get_or text k 0) (passes-at is_separator text k at lt), at)

pub range-requires-clause-end_boundary : goal.range-requires-clause-end_boundary
range-requires-clause-end_boundary c =
    let f = found (goal.at.range-requires-clause-end_boundary c).Else-len-text in
    IsCharBoundary-before_ascii c.args.text.now c.first_separator-len.result f.0 f.1

pub range_from-requires : goal.range_from-requires
range_from-requires c =
    let f = found (goal.at.range_from-requires c).Else-len-text in
    λ _. IsCharBoundary-after_ascii c.args.text.now c.first_separator-len.result c.utf8.text f.0 f.1

pub returns-then-len-text-clause-fields : goal.returns-then-len-text-clause-fields
returns-then-len-text-clause-fields c place =
    fields-last place c.args.text.now (split-none is_separator c.args.text.now (sym (rw c.as_bytes.ensures.value at c.first_separator-len.ensures.value) ∙ c.if-len-text.true))

pub returns-clause-fields : goal.returns-clause-fields
returns-clause-fields c place =
    let f = found (goal.at.returns-clause-fields c).Else-len-text in
    fields-cut place c.args.text.now c.range.result.now c.range_from.result.now (split-some is_separator c.args.text.now c.range.result.now c.range_from.result.now c.first_separator-len.result f.2 f.0 (c.range.ensures.value ∙ front-is c.args.text.now c.first_separator-len.result) c.range_from.ensures.value)
