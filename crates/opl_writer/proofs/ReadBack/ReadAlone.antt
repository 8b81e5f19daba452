-- What is read as objects has no bad place, and keeps the limit.
use Rattle.std.proofs.Common.{◌∙◌, sym, ap, subst, arith, Ok, Err}
use Rattle.opl_reader.specs.Lines.{lines_of}
use Rattle.osm_input.specs.Input.{IsBadPlace}
use Rattle.osm_input.specs.Laws.{LinesCount}
use Rattle.osm_input.specs.declared.reading.ReadError.TheVariants.{BadInput, OutOfMemory, ReadFault, TooMuchInput}
use Rattle.osm_input.proofs.InputKit.{good_not_bad}
use Rattle.opl_writer.specs.ReadBack.Laws.{ReadAloneAsObjects}

pub read_alone : LinesCount → ReadAloneAsObjects
read_alone count limit longest bytes objects (Ok others) read other = ap Ok (other.2 ∙ sym read.2)
read_alone count limit longest bytes objects (Err (BadInput number fault)) read other =
    absurd (good_not_bad longest (lines_of bytes) number fault read.1 (subst (λ lines. IsBadPlace longest lines number fault) ((count limit longest bytes).within read.0) other))
read_alone count limit longest bytes objects (Err (TooMuchInput most)) read other = let few = read.0 in let many = other.1 in absurd (omega arith)
read_alone count limit longest bytes objects (Err ReadFault) read other = absurd other
read_alone count limit longest bytes objects (Err OutOfMemory) read other = absurd other
