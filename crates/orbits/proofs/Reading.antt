-- What stands at a place of a list.
use Rattle.std.proofs.Common.{◌≡◌, ℕ, Some, ◌+◌, ◌<◌, List, [], ◌∷◌, ◌++◌, length, get_or, take, drop, arith}
use Rattle.std.proofs.lemmas.List.{length-append, get_or-take, get_or-drop, get_or_append_left}
use Rattle.std.proofs.Math.Seq.{get_or-append_seam}

-- what stands at a place of a front, of a rest and of a longer list
pub at_take : (xs : List ℕ) (d i : ℕ) → i < d → get_or (take d xs) i 0 ≡ get_or xs i 0
at_take xs d i h = get_or-take d xs i 0 h

pub at_drop : (xs : List ℕ) (d i : ℕ) → get_or (drop d xs) i 0 ≡ get_or xs (d + i) 0
at_drop xs d i = get_or-drop d xs i 0

pub at_old : (xs : List ℕ) (y i : ℕ) → i < length xs → get_or (xs ++ y ∷ []) i 0 ≡ get_or xs i 0
at_old xs y i h = get_or_append_left xs (y ∷ []) 0 i h

pub at_new : (xs : List ℕ) (y i : ℕ) → i ≡ length xs → get_or (xs ++ y ∷ []) i 0 ≡ y
at_new xs y i e = rw e (get_or-append_seam xs y [] 0)

pub length_push : (xs : List ℕ) (y : ℕ) → length (xs ++ y ∷ []) ≡ length xs + 1
length_push xs y = omega (arith, length-append xs (y ∷ []))

pub unwrap : (x y : ℕ) → Some x ≡ Some y → x ≡ y
unwrap x y p = cc
