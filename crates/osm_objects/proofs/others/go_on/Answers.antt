use Rattle.std.proofs.Common.{◌≡◌, ◌∙◌, ◌++◌, ◌∷◌, [], List, ap, arith, drop, length, subst, sym}
use Rattle.std.proofs.lemmas.Grind.{common_steps}
use Rattle.std.specs.List.Sorted.{IsSortedByKey}
use Rattle.osm_objects.specs.declared.held.Placed.{Placed}
use Rattle.osm_objects.specs.Others.{ref_held, ref_cmp}
use Rattle.osm_objects.proofs.OthersLemmas.{goes_on}
use Rattle.osm_objects.proofs.others.go_on.Goals as goal

pub returns-then-is_empty : goal.returns-then-is_empty
returns-then-is_empty c = λ is placed e.
    let list = c.args.list.now in
    let n = c.args.in_order in
    let short : length c.split_at.result.1.now ≡ 0 = grind (arith, common_steps, c.is_empty.ensures, c.if-is_empty.true) in
    let none : length (drop n list) ≡ 0 = sym (ap length c.split_at.ensures.back) ∙ short in
    let up = subst (λ (front : List Placed). IsSortedByKey ref_held ref_cmp (front ++ placed ∷ [])) c.split_at.ensures.front (c.lies_above.ensures.rises is placed e) in
    goes_on list placed n c.requires.within none up
