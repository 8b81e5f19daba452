-- Names that are all left by cancelling stand once each.
use Rattle.std.proofs.Common.{◌≡◌, arith, length}
use Rattle.std.proofs.lemmas.Bool.Decides.{Decides-eqb}
use Rattle.osm_area.proofs.FewNames.{once-differ}
use Rattle.osm_area.proofs.names.all_differ.Goals as goal

pub returns : goal.returns
returns c same =
    let told = c.len.ensures in let whole = c.in_ok-odd.odd.ok in
    let as_many : c.len.result ≡ length c.args.names.now = (Decides-eqb c.len.result (length c.args.names.now)).0 same in
    let all : length c.in_ok-odd.odd.items ≡ length c.args.names.now = omega arith in
    once-differ c.args.names.now (c.in_ok-odd.ensures.once all)
