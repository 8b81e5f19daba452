use Rattle.std.proofs.Common.{refl, arith}
use Rattle.osm_lattice.specs.Frac.{rounded}
use Rattle.osm_notation.specs.Coordinates.{xy_text}
use Rattle.osm_text.proofs.phrases.put_meeting.Goals as goal

pub put_rounded-requires : goal.put_rounded-requires
put_rounded-requires c = record { x_in = omega (arith, c.meeting.ensures.x_in); y_in = omega (arith, c.meeting.ensures.y_in) }

pub returns : goal.returns
returns c =
    let x = c.meeting.result.0 in
    let y = c.meeting.result.1 in (
      xy_text (rounded x.num x.den) (rounded y.num y.den),
      record {
        x = x;
        y = y;
        on_first = c.meeting.ensures.first;
        on_second = c.meeting.ensures.second;
        text_is = refl;
      },
      c.in_ok-put_rounded.ensures,
    )
