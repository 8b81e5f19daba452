use Rattle.std.proofs.Common.{rules, ◌<◌, length, arith}
use Rattle.osm_elements.proofs.PackedLemmas.{some_head}
use Rattle.osm_elements.proofs.packed.split_text.Goals as goal

pub bounds-bytes-0 : goal.bounds-bytes-0
bounds-bytes-0 c =
    let head = some_head c.args.bytes.now in
    let room = c.requires.room in
    let some : 0 < length c.args.bytes.now = omega arith in
    search rules
