-- The bytes that are taken off an input, piece by piece.
use Rattle.std.proofs.Common.{◌≡◌, ◌∙◌, refl, sym, ap, ℕ, ◌+◌, ◌≤◌, ◌&&◌, nat_eq, nat_lt, false, List, [], ◌++◌, length, take, length-append, length-take, arith, Option, None, Some}
use Rattle.std.proofs.lemmas.Bool.{ne_eqb}
use Rattle.osm_host.specs.Laws.{PrecedesInTurn}
use Rattle.osm_host.specs.Outside.{Outside, preceded, grown}

-- These bytes were taken off the input.
pub record AreTaken (before now : Outside) (bytes : List ℕ) : Type 0 where
  pub left : before.left ≡ preceded bytes now.left
  pub counted : now.bytes_read ≡ grown before.bytes_read (length bytes)

grown_twice : (first a b c middle now : ℕ) → middle ≡ grown first a → now ≡ grown middle b → c ≡ a + b → now ≡ grown first c
grown_twice first a b c middle now was is sum = omega arith

-- no bytes before a stream change nothing
nothing_preceded : (stream : Option (List ℕ)) → preceded [] stream ≡ stream
nothing_preceded None = refl
nothing_preceded (Some bytes) = refl

pub none_taken : (now : Outside) → AreTaken now now []
none_taken now = record { left = sym (nothing_preceded now.left); counted = omega arith }

-- a read that gave something didn't find the end
pub no_end : (count size : ℕ) → (count ≡ 0 → ⊥) → nat_eq count 0 && nat_lt 0 size ≡ false
no_end count size some = rw (ne_eqb count 0 some) refl

-- with so many bytes of a buffer behind them
pub piece_size : (bytes buffer : List ℕ) (count : ℕ) → count ≤ length buffer → length (bytes ++ take count buffer) ≡ length bytes + count
piece_size bytes buffer count in_buffer = omega (arith, length-append bytes (take count buffer), length-take count buffer)

module _ (before middle : Outside) (bytes : List ℕ) (t : AreTaken before middle bytes) (now : Outside) where
  -- a read failed
  pub as_before : now.left ≡ middle.left → now.bytes_read ≡ middle.bytes_read → AreTaken before now bytes
  as_before left counted = record { left = t.left ∙ ap (preceded bytes) (sym left); counted = counted ∙ t.counted }

  module _ (buffer : List ℕ) (count : ℕ) (left : middle.left ≡ preceded (take count buffer) now.left) (counted : now.bytes_read ≡ grown middle.bytes_read count)
    where
      -- the input ended
      pub still_left : count ≡ 0 → middle.left ≡ now.left
      still_left none = left ∙ (ap (λ (n : ℕ). preceded (take n buffer) now.left) none ∙ nothing_preceded now.left)

      pub at_end : count ≡ 0 → AreTaken before now bytes
      at_end none = record {
        left = t.left ∙ ap (preceded bytes) (still_left none);
        counted = grown_twice before.bytes_read (length bytes) count (length bytes) _ _ t.counted counted (omega arith);
      }

      -- a piece was taken
      pub with_piece : count ≤ length buffer → PrecedesInTurn ℕ → AreTaken before now (bytes ++ take count buffer)
      with_piece in_buffer in_turn = record {
        left = t.left ∙ (ap (preceded bytes) left ∙ in_turn bytes (take count buffer) now.left);
        counted = grown_twice before.bytes_read (length bytes) count (length (bytes ++ take count buffer)) _ _ t.counted counted (piece_size bytes buffer count in_buffer);
      }
