-- An entry between the two x stands between the two places.
use Rattle.std.proofs.Common.{Contains, List, drop, false, length, not, rules, subst, sym, take, true, ℕ, ◌-◌, ◌≡◌}
use lib.Signed.{lt_z}
use Rattle.std.specs.List.{AllWithin}
use Rattle.std.proofs.lemmas.List.Sorted.{IsPartitionPoint-from_clause}
use Rattle.area_locate.specs.declared.stretch.Entry.{Entry}
use Rattle.area_locate.specs.Index.{XNeverFalls}
use Rattle.area_locate.proofs.EntryLists.{left_parts, right_parts, stands_between}
use Rattle.area_locate.proofs.stretch.Stretch.between.Goals as goal

pub returns-clause-whole : goal.returns-clause-whole
returns-clause-whole c e some l r =
    let entries = c.args.self.now.by_x.items in let left = c.args.left in let right = c.args.right in let from = c.partition_point-from.result in let to = c.partition_point-to.result in
    let before = IsPartitionPoint-from_clause (λ (f : Entry). lt_z f.x left) c.deref.result.now from c.partition_point-from.ensures.partitioned (left_parts c.deref.result.now (subst XNeverFalls (sym c.deref.ensures.value) c.requires) left) (λ a r f' k. search rules) in
    let behind = IsPartitionPoint-from_clause (λ (f : Entry). not (lt_z right f.x)) c.deref-2.result.now to c.partition_point-to.ensures.partitioned (right_parts c.deref-2.result.now (subst XNeverFalls (sym c.deref-2.ensures.value) c.requires) right) (λ a r f' k. search rules) in
    let stands = stands_between entries left right from to (subst (λ (es : List Entry). AllWithin (λ (f : Entry). lt_z f.x left ≡ true) es 0 from) c.deref.ensures.value before.0) (subst (λ (es : List Entry). AllWithin (λ (f : Entry). not (lt_z right f.x) ≡ false) es to (length es)) c.deref-2.ensures.value behind.1) e some l r in
    subst (λ (es : List Entry). Contains (take (c.max.result - from) (drop from es)) e) (sym c.deref-3.ensures.value) (subst (λ (n : ℕ). Contains (take (n - from) (drop from entries)) e) (sym c.max.ensures) stands)
