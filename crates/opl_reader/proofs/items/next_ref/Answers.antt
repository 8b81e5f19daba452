use Rattle.std.proofs.Common.{◌<◌, length, arith}
use Rattle.std.specs.Option.{option_copied}
use Rattle.std.proofs.lemmas.Str.{IsCharBoundary-after_ascii}
use Rattle.opl_reader.specs.Steps.{BeginsWithRef}
use Rattle.opl_reader.proofs.ItemLemmas.{usual_last, usual_more, any_ref, comma_ascii}
use Rattle.opl_reader.proofs.items.next_ref.Goals as goal

pub returns-then-len-rest-clause-first : goal.returns-then-len-rest-clause-first
returns-then-len-rest-clause-first c =
    let rest = c.args.rest.now in
    let begins : BeginsWithRef rest c.in-Some.reference c.in-Some.len = rw c.as_bytes.ensures.value at c.in-Some.ensures in
    usual_last rest c.in-Some.reference c.in-Some.len begins c.if-len-rest.true

pub range_from-requires : goal.range_from-requires
range_from-requires c =
    let rest = c.args.rest.now in
    let begins : BeginsWithRef rest c.in-Some.reference c.in-Some.len = rw c.as_bytes.ensures.value at c.in-Some.ensures in
    let inside = begins.inside in
    let lt : c.in-Some.len < length rest = omega (arith, c.if-len-rest.false) in
    λ _. IsCharBoundary-after_ascii rest c.in-Some.len c.utf8.rest lt (comma_ascii rest c.in-Some.reference c.in-Some.len begins lt)

pub returns-in-Some-clause-first : goal.returns-in-Some-clause-first
returns-in-Some-clause-first c =
    let rest = c.args.rest.now in
    let begins : BeginsWithRef rest c.in-Some.reference c.in-Some.len = rw c.as_bytes.ensures.value at c.in-Some.ensures in
    let inside = begins.inside in
    let lt : c.in-Some.len < length rest = omega (arith, c.if-len-rest.false) in
    usual_more rest c.range_from.result.now c.in-Some.reference c.in-Some.len begins lt c.range_from.ensures.value

pub returns-clause-first : goal.returns-clause-first
returns-clause-first c = rw (c.read_ref.ensures, c.as_bytes-2.ensures.value) (any_ref c.args.rest.now c.next_item.result.0.now (option_copied c.next_item.result.1) c.next_item.ensures.parts c.next_item.ensures.len)
