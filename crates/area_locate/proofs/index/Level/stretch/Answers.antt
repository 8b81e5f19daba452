-- It is one of the level.
use Rattle.std.proofs.Common.{All, length, subst, sym}
use Rattle.std.proofs.lemmas.Bool.{ltb-true}
use Rattle.area_locate.specs.Index.{IsStretch}
use Rattle.area_locate.proofs.index.Level.stretch.Goals as goal

pub returns-then-stretch-to : goal.returns-then-stretch-to
returns-then-stretch-to c points level =
    let all = subst (All (IsStretch points)) (sym c.deref.ensures.value) level in let read = c.in_ok-stretch.ensures.lookup in let i = c.in_ok-checked_div.field-0 in record {
      right = subst (IsStretch points) (sym read.1) (all i c.in_ok-stretch.stretch.now (ltb-true i (length c.deref.result.now) (sym read.0)));
      first = c.if-stretch-place.true;
      long = c.if-place-stretch.true;
      end = c.if-stretch-to.true;
    }
