use Rattle.std.proofs.Common.{◌≡◌, ◌∙◌, true, false, refl, get_or}
use Rattle.std.proofs.lemmas.Bool.{eq-eqb, ne_eqb, or_left, or_right}
use Rattle.opl_reader.specs.LineReading.{is_separator}
use Rattle.opl_reader.proofs.LineLemmas.{passes-on, stops-here, at-end, letter-first, letter-second}
use Rattle.opl_reader.proofs.line.is_passed_over.Goals as goal
use Rattle.opl_reader.proofs.line.is_passed_over.Goals.{then-byte-eq35, else-byte-eq35, else-byte-ne32-via-then-byte-ne32+else-byte-ne9, else-byte-ne32-via-else-byte-ne32}

pub returns-then-byte-ne9 : goal.returns-then-byte-ne9
returns-then-byte-ne9 c =
    let b = get_or c.args.text.now c.loop-byte.byte-index 0 in
    let no : is_separator b ≡ false = rw (ne_eqb b 32 c.if-byte-ne32.true, ne_eqb b 9 c.if-byte-ne9.true) refl in
    let is = stops-here c.args.text.now c.loop-byte.byte-index c.loop-byte-test.true no c.loop-byte.invariant in
    elim c.if-byte-eq35.branch [
      | then-byte-eq35 w ↦ w.result-is ∙ eq-eqb b 35 w.if-byte-eq35.true ∙ letter-first b w.if-byte-eq35.true ∙ is
      | else-byte-eq35 w ↦ w.result-is ∙ letter-second b w.if-byte-eq35.false ∙ is
    ]

pub loop-byte-preserved : goal.loop-byte-preserved
loop-byte-preserved c =
    let b = get_or c.args.text.now c.loop-byte.byte-index 0 in
    let yes_is : is_separator b ≡ true =
    elim c.else-byte-ne32.branch [
      | else-byte-ne32-via-then-byte-ne32+else-byte-ne9 w ↦ or_right _ _ (eq-eqb b 9 w.if-byte-ne9.false)
      | else-byte-ne32-via-else-byte-ne32 w ↦ or_left _ _ (eq-eqb b 32 w.if-byte-ne32.false)
    ] in
    passes-on c.args.text.now c.loop-byte.byte-index c.loop-byte-test.true yes_is c.loop-byte.invariant

pub returns : goal.returns
returns c = at-end c.args.text.now c.loop-byte.byte-index c.loop-byte-test.false c.loop-byte.invariant
