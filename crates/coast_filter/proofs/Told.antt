-- What the text of the coast part tells.
use Rattle.std.proofs.Common.{◌≡◌, subst, sym, ℕ, List, Result, Ok, Err, IfOk}
use Rattle.std.specs.Prelude.{Vec}
use Rattle.std.specs.declared.alloc.Global.{Global}
use Rattle.osm_elements.specs.declared.object.Object.{Object}
use Rattle.opl_writer.specs.Written.{objects_text}
use Rattle.opl_writer.specs.ReadBack.Laws.{CanBeInput, OnlyLongLinesAreBad}
use Rattle.coast_filter.specs.CoastPart.{coast_part}
use Rattle.coast_filter.specs.Laws.{CoastInputStays, CoastPartIsApart, CoastPartIsWritable, CoastTextTellsCoast, HaveOneCoastInput, TellsCoastOf}

pub text_tells : CoastInputStays → CoastPartIsApart → CoastPartIsWritable → OnlyLongLinesAreBad → CoastTextTellsCoast
text_tells stays apart writable only objects can =
    let part : CanBeInput (coast_part objects) = record { writable = writable objects can.writable; apart = apart objects can.apart } in record {
      told = (only 0 (coast_part objects) part).told;
      bad = λ longest. (only longest (coast_part objects) part).bad;
      input = subst (λ (os : List Object). HaveOneCoastInput os objects) (sym (only 0 (coast_part objects) part).told) (stays objects can.apart);
    }

-- the text that is made, if memory lasts
pub told_if : {E : Type 0} (objects : List Object) (r : Result (Vec ℕ Global) E) → IfOk r (λ text. text.items ≡ objects_text (coast_part objects)) → TellsCoastOf objects (objects_text (coast_part objects)) →
    IfOk r (λ text. TellsCoastOf objects text.items)
told_if objects (Ok text) is tells = subst (TellsCoastOf objects) (sym is) tells
told_if objects (Err e) is tells = tt
