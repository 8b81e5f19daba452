-- What the tests of an ordering say of it.
use Rattle.std.proofs.Common.{Ordering, Less, Equal, Greater, false, is_eq, is_gt, is_lt, refl, true, ◌≡◌}

pub less_from : (o : Ordering) → is_lt o ≡ true → o ≡ Less
less_from Less h = refl
less_from Equal h = cc
less_from Greater h = cc

pub equal_from : (o : Ordering) → is_eq o ≡ true → o ≡ Equal
equal_from Less h = cc
equal_from Equal h = refl
equal_from Greater h = cc

pub less_from_others : (o : Ordering) → is_gt o ≡ false → is_eq o ≡ false → o ≡ Less
less_from_others Less g e = refl
less_from_others Equal g e = cc
less_from_others Greater g e = cc
