use Rattle.std.proofs.lemmas.List.Filters.{dedup_is}
use Rattle.std.proofs.lemmas.List.Kept.{Contains-dedup, Contains-from_dedup, IsStrictlySortedBy-dedup}
use Rattle.std.proofs.lemmas.List.Sorted.{Contains-permutation, IsPermutation-sym}
use Rattle.std.proofs.lemmas.Map.Keys.{Less-from_sorted}
use Rattle.osm_segments.specs.Ranges.{places_cmp}
use Rattle.osm_segments.proofs.PlaceOrders.{one_by_test, places_equal, places_ties, places_total}
use Rattle.osm_segments.proofs.ranges.division.each_once.Goals as goal

pub returns-clause-kept : goal.returns-clause-kept
returns-clause-kept c p h =
    let is = dedup_is _ _ _ c.dedup.ensures.filtered in
    rw is (Contains-dedup places_equal one_by_test _ p (Contains-permutation _ _ p c.sort_unstable.ensures.permutation h))

pub returns-clause-known : goal.returns-clause-known
returns-clause-known c p h =
    let is = dedup_is _ _ _ c.dedup.ensures.filtered in
    Contains-permutation _ _ p (IsPermutation-sym _ _ c.sort_unstable.ensures.permutation) (Contains-from_dedup _ _ p (rw is at h))

pub returns-clause-rising : goal.returns-clause-rising
returns-clause-rising c i j d l h =
    let is = dedup_is _ _ _ c.dedup.ensures.filtered in
    let sorted = IsStrictlySortedBy-dedup places_total places_ties _ c.sort_unstable.ensures.sorted in
    Less-from_sorted places_cmp c.dedup.new.self.items i j d (rw is sorted) l h
