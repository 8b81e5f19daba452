-- Lists, sums, orders and truth values: what crates above take of the lemmas on them.
pub use Rattle.lists.proofs.Bools.{and-left, and-right, clash, false_from_not, not-false-out, not-not, not-same, not-true-out, or-out, true_from_not}
pub use Rattle.lists.proofs.Counts.{count-cons, count_below, count_by-cons, count_some, count_stands, less_both, less_itself}
pub use Rattle.lists.proofs.EachOnce.{any-counted}
pub use Rattle.lists.proofs.Insertions.{all_insert, pairs_insert}
pub use Rattle.lists.proofs.Integers.{below_from, floor_above, floor_below, int_eq-same, int_eq-true, least_trans, less_nothing, product_not_below, rest_nothing, same_from_difference, same_from_least, sum_none}
pub use Rattle.lists.proofs.Items.{at-in, in-at, in-take, item-in, same_get, some_member, taken_more}
pub use Rattle.lists.proofs.Maps.{map-map, map-same}
pub use Rattle.lists.proofs.Members.{all-either, all-in, from-map, in-all, in-either, in-filter, in-left, in-map, in-map-out, in-passes, in-right, into-filter, pairs-across, pairs-append, pairs-each, pairs-filter, pairs-into-map, pairs-left, pairs-map, pairs-out-of-map, pairs-right, pairs-weaker, total-below, total-filter, total-less, total-same, total_none}
pub use Rattle.lists.proofs.Numbers.{even_or_odd, min_some, none_or_one, odd_sum, some_min}
pub use Rattle.lists.proofs.Options.{is_some-map, none_from, some_not_none}
pub use Rattle.lists.proofs.Orderings.{equal_from, less_from}
pub use Rattle.lists.proofs.PickedItems.{count-picked, picked, rising-picked}
pub use Rattle.lists.proofs.Picks.{odd_once, twice_once}
pub use Rattle.lists.proofs.RisingLists.{same_rising, sorted_from_rising, stands_once}
pub use Rattle.lists.proofs.Contained.{first_member, later_member, member_cases, no_member}
pub use Rattle.lists.proofs.Rotations.{in-rotated, rotated-back, rotated-in}
pub use Rattle.lists.proofs.Sums.{both_conds, cond-+, cond-total, cond_by, cond_none, none-sum, swap-sums, total, total-*, total-+, total-++, total-is, total-map}
