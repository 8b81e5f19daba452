-- The map has the place of each start.
use Rattle.std.proofs.Common.{List, map, sym, subst, ap, ◌∙◌, Option, ℕ}
use Rattle.std.specs.BTreeMap.{get}
use Rattle.std.proofs.lemmas.Result.{IfOk-weaker}
use Rattle.coast_join.specs.Links.{key_cmp, AreNextWays}
use Rattle.coast_join.proofs.Numbering.{numbered_sized, links_are}
use Rattle.coast_join.proofs.links.links.Goals as goal

pub returns : goal.returns
returns c =
    let keys = c.in_ok-keys.keys.items in
    let f = get key_cmp c.in_ok-places.places in
    IfOk-weaker c.found.result _ _ (λ v e. subst (λ (next : List (Option ℕ)). AreNextWays c.args.ends.now c.args.starts.now next) (sym (e ∙ ap (map f) c.deref.ensures.value))
    (links_are f c.args.ends.now c.args.starts.now keys (numbered_sized c.args.ends.now keys c.in_ok-keys.ensures) c.in_ok-keys.ensures c.in_ok-places.ensures)) c.found.ensures
