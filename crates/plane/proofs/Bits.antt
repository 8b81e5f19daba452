-- Truth values as numbers.
use Rattle.std.proofs.Common.{Bool, ap, arith, false, not, refl, true, ◌&&◌, ◌≡◌}
use Rattle.plane.specs.Bit.{bit}

pub bit-same : (p q : Bool) → bit p ≡ bit q → p ≡ q
bit-same true true h = refl
bit-same false false h = refl
bit-same true false h = absurd (omega arith)
bit-same false true h = absurd (omega arith)

pub bit-no : (p : Bool) → not p ≡ true → bit p ≡ 0
bit-no false h = refl
bit-no true h = absurd (cc h)

pub bit-yes : (p : Bool) → bit (not p) ≡ 0 → p ≡ true
bit-yes true h = refl
bit-yes false h = absurd (omega arith)

pub bit-and_no : (p q : Bool) → q ≡ false → bit (p && q) ≡ 0
bit-and_no true q h = ap bit h
bit-and_no false q h = refl
