use Rattle.std.proofs.Common.{◌≡◌, ◌∙◌, ◌++◌, ◌∷◌, ◌+◌, [], ap, sym, arith, rules, take, drop, List, ℤ}
use Rattle.std.proofs.lemmas.List.{drop_all, drop_more}
use Rattle.osm_objects.specs.declared.held.Placed.{Placed}
use Rattle.osm_objects.specs.Nodes.{node_ids}
use Rattle.osm_objects.specs.Held.{others_from}
use Rattle.osm_objects.specs.Merged.{merged}
use Rattle.osm_objects.specs.Others.{object_held}
use Rattle.osm_objects.specs.Plain.{nodes_from}
use Rattle.osm_objects.proofs.NodeLemmas.{walked_on, walked_out, still_fit}
use Rattle.osm_objects.proofs.store.Store.nodes.Goals as goal

pub loop-placed-preserved : goal.loop-placed-preserved
loop-placed-preserved c =
    let k = c.loop-placed.placed-index in
    let others = c.as_slice-others.result.now in
    let e : Placed = c.placed-item.result in
    let is : drop k others ≡ e ∷ drop (k + 1) others = drop_more others k e c.loop-placed-test.true ∙ ap (λ (p : Placed). p ∷ drop (k + 1) others) (sym (c.placed-item.is)) in
    let front : c.split_at.result.0.now ≡ take e.gap c.loop-placed.plain.now = search rules in
    let back : c.split_at.result.1.now ≡ drop e.gap c.loop-placed.plain.now = search rules in
    record {
      listed = ap (λ (ids : List ℤ). ids ++ node_ids (merged (nodes_from c.split_at.result.1.now) (others_from (drop (k + 1) others)))) (c.in_ok-push_id.ensures ∙ ap (λ (ids : List ℤ). ids ++ node_ids (object_held e ∷ [])) c.in_ok-push_ids.ensures)
          ∙ walked_on c.loop-placed.ids.items c.loop-placed.plain.now c.split_at.result.0.now c.split_at.result.1.now (drop k others) e (drop (k + 1) others) (node_ids c.args.self.now) is front back c.loop-placed.invariant.listed;
      fit = still_fit c.loop-placed.ids.items c.loop-placed.plain.now c.split_at.result.0.now c.split_at.result.1.now (drop k others) e (drop (k + 1) others) (node_ids c.args.self.now) is back c.loop-placed.invariant.fit;
    }

pub returns : goal.returns
returns c =
    let others = c.as_slice-others.result.now in
    let k = c.loop-placed.placed-index in
    let none : drop k others ≡ [] = drop_all k others (omega (arith, c.loop-placed-test.false)) in
    c.in_ok-push_ids-2.ensures ∙ walked_out c.loop-placed.ids.items c.loop-placed.plain.now (drop k others) (node_ids c.args.self.now) none c.loop-placed.invariant.listed
