use Rattle.std.proofs.Common.{◌<◌, get_or}
use Rattle.std.proofs.lemmas.Str.{IsCharBoundary-after_ascii}
use Rattle.opl_reader.proofs.FieldLemmas.{letter_ascii}
use Rattle.opl_reader.proofs.line.add_field.Goals as goal

pub range_from-requires : goal.range_from-requires
range_from-requires c =
    let ascii : get_or c.args.field.now 0 0 < 128 = letter_ascii c.args.kind (get_or c.args.field.now 0 0) c.in-Some.meaning (rw c.as_bytes.ensures.value at c.in-Some.ensures) in
    λ _. IsCharBoundary-after_ascii c.args.field.now 0 c.utf8.field c.requires.some ascii
