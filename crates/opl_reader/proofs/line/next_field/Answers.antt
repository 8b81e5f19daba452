use Rattle.std.proofs.Common.{◌≡◌, ◌∙◌, [], sym, ap}
use Rattle.std.proofs.lemmas.Bool.{eqb-true}
use Rattle.std.proofs.lemmas.List.{nil_from_length}
use Rattle.opl_reader.specs.LineReading.{fields_from}
use Rattle.opl_reader.proofs.LineLemmas.{fields-none}
use Rattle.opl_reader.proofs.line.next_field.Goals as goal

pub returns-clause-fields : goal.returns-clause-fields
returns-clause-fields c =
    let empty : c.loop-left.left.now ≡ [] = nil_from_length _ (eqb-true _ _ (sym c.loop-left-test.ensures)) in
    sym c.loop-left.invariant.so_far ∙ ap (fields_from c.loop-left.at) empty ∙ fields-none c.loop-left.at
