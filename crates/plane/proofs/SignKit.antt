-- Signs, statements about all signs, truth values as numbers, identities of integers: what crates above take of them.
pub use Rattle.plane.proofs.Bits.{bit-and_no, bit-no, bit-same, bit-yes}
pub use Rattle.plane.proofs.Identities.{Split, apart, lift, minus_zeros, rises_sum, same, ◌⊞◌, ◌⊟◌, ◌⊠◌}
pub use Rattle.plane.proofs.Signs.{Says, agree, agree-back, agree-products, agree-sum, all, all-out, all2, all2-out, all3-out, all4, all4-out, both, difference_turned, imp, imp-out, is_minus-true, is_null-true, is_plus-true, left-out, less_one, minus-is, minus-not-null, minus-not-plus, more_one, negated-not-plus, negated-then, neither-plus, not-minus-back, not-minus-by, not-null-by, not-null-negated, null-first, null-is, null-not-plus, null-plus, null-zero, plus-behind, plus-is, plus-not-minus, plus-null, plus-plus, plus-sum, plus-times, right-out, same-out, same-sign-is, same_bool, same_bool-is, same_bool-refl, same_bool-true, same_sign, same_sign-refl, same_sign-true, says, says-at, self-diff, sign-*, sign-from, sign-pos, sign-reversed, sum-not-minus, sum-not-plus, sum-with-plus, sum-zero-left, times, times-back, times-plus, weighted-agree}
