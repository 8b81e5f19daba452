-- Where the items that pass a test end, told by the items on both sides of the place.
use Rattle.std.proofs.Common.{arith, Bool, List, ◌-◌, ◌≡◌, ◌≤◌, false, length, slice_index_or, true, ℕ}
use Rattle.std.proofs.Math.Path.{sym, ◌∙◌}
use Rattle.std.specs.List.Sorted.{IsPartitionPoint, IsPartitionedBy}
use Rattle.chunked_list.specs.Parted.{IsParted}
use Rattle.std.proofs.lemmas.Bool.{false_from_ne_true, false≢true}

pub found : {X : Type 0} (p : X → Bool) (xs : List X) (place : ℕ) → IsPartitionedBy p xs → IsParted p xs place → place ≤ length xs → IsPartitionPoint (λ x. p x ≡ true) (λ x. p x ≡ false) xs place
found p xs place parted told within = (
  λ k d from below. parted k (place - 1) d (omega arith) (omega arith) ((told d).0 (omega arith)),
  λ k d from below. false_from_ne_true (p (slice_index_or xs k d)) (λ passes.
      false≢true (sym ((told d).1 (omega arith)) ∙ parted place k d (omega arith) below passes)),
)
