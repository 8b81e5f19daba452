-- The key of each call is the ring's name.
use Rattle.std.proofs.Common.{◌≡◌, rules}
use Rattle.std.proofs.lemmas.List.Sorted.{answers_always}
use Rattle.coast_rings.specs.declared.ring.CoastRing.{CoastRing}
use Rattle.coast_join.proofs.regained.by_name.Goals as goal

pub returns-clause-by_name : goal.returns-clause-by_name
returns-clause-by_name c = rw c.from_vec.ensures (c.in_ok-sort_by_key.ensures.sorted (λ (r : CoastRing). r.name) (answers_always _ (λ a r. r ≡ a.0.now.name) _ (λ f a r q k. search rules)))
