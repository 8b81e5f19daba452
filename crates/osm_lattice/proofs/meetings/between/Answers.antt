use Rattle.std.proofs.Common.{◌<◌, ◌^◌, lit<, arith, rules}
use Rattle.osm_lattice.proofs.Exact.{from_i32, from_unsigned, times, plus, plus_fits, held_is, held_within}
use Rattle.osm_lattice.proofs.meetings.between.Goals as goal

pub overflow_add-result : goal.overflow_add-result
overflow_add-result c =
    let den_fits : c.args.at.den < 2 ^ 64 = search rules in
    let start = from_i32 _ c.args.start 1_800_000_000 c.from.ensures c.requires.start_in (lit< tt) in
    let rest = from_unsigned _ _ 18_446_744_073_709_551_615 c.from-2.ensures (omega arith) (lit< tt) in
    let end = from_i32 _ c.args.end 1_800_000_000 c.from-3.ensures c.requires.end_in (lit< tt) in
    let above = from_unsigned _ _ 18_446_744_073_709_551_615 c.from-4.ensures (omega (arith, c.args.at.is_share.1)) (lit< tt) in
    plus_fits (times start rest (lit< tt)) (times end above (lit< tt)) (lit< tt)

pub returns-clause-value : goal.returns-clause-value
returns-clause-value c =
    let den_fits : c.args.at.den < 2 ^ 64 = search rules in
    let start = from_i32 _ c.args.start 1_800_000_000 c.from.ensures c.requires.start_in (lit< tt) in
    let rest = from_unsigned _ _ 18_446_744_073_709_551_615 c.from-2.ensures (omega arith) (lit< tt) in
    let end = from_i32 _ c.args.end 1_800_000_000 c.from-3.ensures c.requires.end_in (lit< tt) in
    let above = from_unsigned _ _ 18_446_744_073_709_551_615 c.from-4.ensures (omega (arith, c.args.at.is_share.1)) (lit< tt) in
    held_is (plus (times start rest (lit< tt)) (times end above (lit< tt)) (lit< tt))

pub returns-clause-small : goal.returns-clause-small
returns-clause-small c =
    let den_fits : c.args.at.den < 2 ^ 64 = search rules in
    let start = from_i32 _ c.args.start 1_800_000_000 c.from.ensures c.requires.start_in (lit< tt) in
    let rest = from_unsigned _ _ 18_446_744_073_709_551_615 c.from-2.ensures (omega arith) (lit< tt) in
    let end = from_i32 _ c.args.end 1_800_000_000 c.from-3.ensures c.requires.end_in (lit< tt) in
    let above = from_unsigned _ _ 18_446_744_073_709_551_615 c.from-4.ensures (omega (arith, c.args.at.is_share.1)) (lit< tt) in
    let size = held_within (plus (times start rest (lit< tt)) (times end above (lit< tt)) (lit< tt)) in
    omega arith
