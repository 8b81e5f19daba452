-- What cutting a closed walk does with each item. No public contract cites this.
use Rattle.std.specs.Prelude.{◌≡◌, ℕ, ◌++◌, ◌∷◌, [], ◌&&◌, nat_eq, nat_lt, List, length, take, drop, Bool, slice_index, slice_set, if◌then◌else◌}

-- the stack has an item at this depth that leaves this key
abbrev pub has_key_at : List ℕ → List ℕ → ℕ → ℕ → Bool
has_key_at keys stack depth key = nat_lt depth (length stack) && nat_eq (slice_index keys (slice_index stack depth)) key

-- What an item leaves of the stack: if the stack has the item's key at the depth noted for it, everything below that depth.
abbrev pub left_by : List ℕ → ℕ → List ℕ → List ℕ → List ℕ
left_by keys item depths stack =
    if has_key_at keys stack (slice_index depths (slice_index keys item)) (slice_index keys item)
    then take (slice_index depths (slice_index keys item)) stack
    else stack

-- the pieces, with what an item cuts off the stack
abbrev pub pieces_by : List ℕ → ℕ → List ℕ → List ℕ → List (List ℕ) → List (List ℕ)
pieces_by keys item depths stack pieces =
    if has_key_at keys stack (slice_index depths (slice_index keys item)) (slice_index keys item)
    then pieces ++ drop (slice_index depths (slice_index keys item)) stack ∷ []
    else pieces

-- an item was taken: it is on top of what it left of the stack, and its key is noted there
pub record IsTaken (keys : List ℕ) (item : ℕ) (depths depths_after stack stack_after : List ℕ) (pieces pieces_after : List (List ℕ)) : Type 0 where
  pub stack_is : stack_after ≡ left_by keys item depths stack ++ item ∷ []
  pub depths_are : depths_after ≡ slice_set depths (slice_index keys item) (length (left_by keys item depths stack))
  pub pieces_are : pieces_after ≡ pieces_by keys item depths stack pieces
