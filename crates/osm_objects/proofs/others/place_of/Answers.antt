-- By what a search by halves answers.
use Rattle.std.proofs.Common.{rules}
use Rattle.std.proofs.lemmas.List.Sorted.{answers_always}
use Rattle.osm_objects.specs.Others.{ref_held}
use Rattle.osm_objects.proofs.OthersLemmas.{place_found}
use Rattle.osm_objects.proofs.others.place_of.Goals as goal

pub returns : goal.returns
returns c =
    let facts = c.binary_search_by_key.ensures in
    rw c.ok.ensures.value (place_found c.args.sorted.now c.args.of c.requires c.binary_search_by_key.result facts.bound (facts.position ref_held (answers_always _ _ _ (λ f a r g called. search rules))))
