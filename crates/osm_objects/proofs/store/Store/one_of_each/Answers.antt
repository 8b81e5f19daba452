use Rattle.std.proofs.Common.{◌≡◌, true, Some, option_map, List, IsTrue, subst}
use Rattle.std.proofs.lemmas.List.Elements.{All-from_recursion}
use Rattle.std.specs.Prelude.{All}
use Rattle.osm_elements.specs.declared.object.Object.{Object}
use Rattle.osm_objects.specs.Object.{is_live, ref_of}
use Rattle.osm_objects.specs.Objects.{object_at, AreApart}
use Rattle.osm_objects.specs.Candidates.{candidates, is_candidate}
use Rattle.osm_objects.specs.Held.{others_from}
use Rattle.osm_objects.specs.Plain.{nodes_from}
use Rattle.osm_objects.specs.Merged.{merged}
use Rattle.osm_objects.proofs.LookupLemmas.{all_merged_live}
use Rattle.osm_objects.proofs.ChoiceLemmas.{widest}
use Rattle.osm_objects.proofs.FoundLemmas.{all_found, filter-found}
use Rattle.osm_objects.proofs.store.Store.one_of_each.Goals as goal

pub returns-clause-live : goal.returns-clause-live
returns-clause-live c =
    let AllLive : List Object → Type 0 = λ objects. All (λ o. IsTrue (is_live o)) objects in
    let nodes = c.self.inside.nodes.items in
    let others = c.self.inside.others in
    subst AllLive c.self.view_is (All-from_recursion (λ o. IsTrue (is_live o)) (merged (nodes_from nodes) (others_from others)) (all_merged_live nodes others))

pub returns-clause-found : goal.returns-clause-found
returns-clause-found c =
    let objects = c.args.self.now in
    All-from_recursion (λ o. object_at objects (ref_of o) ≡ Some o) objects (all_found objects (subst AreApart c.self.view_is c.self.invariant.2))

pub returns-clause-candidates : goal.returns-clause-candidates
returns-clause-candidates c choice =
    let objects = c.args.self.now in
    let found = all_found objects (subst AreApart c.self.view_is c.self.invariant.2) in
    All-from_recursion (λ of. option_map (is_candidate choice) (object_at objects of) ≡ Some true) (candidates choice objects)
    (filter-found (is_candidate choice) objects objects found)

pub returns-clause-widest : goal.returns-clause-widest
returns-clause-widest c choice = widest choice c.args.self.now
