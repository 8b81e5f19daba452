-- The bytes that are taken off an input as one text, piece by piece, and what is answered of them.
use Rattle.std.proofs.Common.{◌≡◌, refl, sym, subst, ℕ, ◌+◌, ◌-◌, ◌<◌, ◌≤◌}
use Rattle.std.proofs.Common.{List, [], ◌++◌, length, take, arith, Option, IfSome, Ok, Err}
use Rattle.osm_host.specs.Outside.{Outside, preceded, grown}
use Rattle.osm_host.specs.Laws.{PrecedesInTurn}
use Rattle.osm_input.specs.declared.text.TextError.TheVariants.{TooMuchInput, ReadFault}
use Rattle.osm_input.specs.Text.{TookWhole}
use Rattle.osm_input.proofs.BytesTaken.{AreTaken, as_before, at_end, none_taken, piece_size, still_left, with_piece}

-- These bytes were taken off the input, no more than the limit.
pub record TextTaken (limit : ℕ) (before now : Outside) (bytes : List ℕ) (room : ℕ) : Type 0 where
  pub size : length bytes + room ≡ limit
  pub are : AreTaken before now bytes

no_bytes_taken : (limit : ℕ) (now : Outside) → TextTaken limit now now [] limit
no_bytes_taken limit now = record { size = omega arith; are = none_taken now }

pub no_text_taken : (limit : ℕ) (now : Outside) (bytes : List ℕ) → bytes ≡ [] → TextTaken limit now now bytes limit
no_text_taken limit now bytes none = subst (λ (xs : List ℕ). TextTaken limit now now xs limit) (sym none) (no_bytes_taken limit now)

module _ (limit : ℕ) (before middle : Outside) (bytes : List ℕ) (room : ℕ) (t : TextTaken limit before middle bytes room) (now : Outside) where
  -- a read failed
  pub text_failed : now.left ≡ middle.left → now.bytes_read ≡ middle.bytes_read → TookWhole limit before now (Err ReadFault)
  text_failed left counted =
      let size = t.size in
      let are = as_before before middle bytes t.are now left counted in
      record { taken = bytes; left = are.left; counted = are.counted; answer = omega arith }

  module _ (buffer : List ℕ) (count : ℕ) (left : middle.left ≡ preceded (take count buffer) now.left) (counted : now.bytes_read ≡ grown middle.bytes_read count)
    where
      -- the input ended
      pub text_whole : count ≡ 0 → IfSome middle.left (λ left. left ≡ []) → TookWhole limit before now (Ok bytes)
      text_whole none nothing =
          let size = t.size in
          let still = still_left before middle bytes t.are now buffer count left counted none in
          let are = at_end before middle bytes t.are now buffer count left counted none in
          record {
            taken = bytes;
            left = are.left;
            counted = are.counted;
            answer = (subst (λ (o : Option (List ℕ)). IfSome o (λ left. left ≡ [])) still nothing, (omega arith, refl));
          }

      -- ---- a piece was taken

      module _ (in_buffer : count ≤ length buffer) (in_turn : PrecedesInTurn ℕ) where
        abbrev all_taken : List ℕ
        all_taken = bytes ++ take count buffer

        are_taken : AreTaken before now all_taken
        are_taken = with_piece before middle bytes t.are now buffer count left counted in_buffer in_turn

        -- there is more than the limit
        pub text_passed : count ≤ 65536 → room < count → TookWhole limit before now (Err (TooMuchInput limit))
        text_passed few less =
            let size = t.size in
            let sum = piece_size bytes buffer count in_buffer in
            let are = are_taken in
            record { taken = all_taken; left = are.left; counted = are.counted; answer = ((refl, omega arith), omega arith) }

        -- all of it is within the limit
        pub text_more : (longer : List ℕ) (rest : ℕ) → longer ≡ all_taken → count ≤ room → rest ≡ room - count → TextTaken limit before now longer rest
        text_more longer rest same within is =
            let size = t.size in
            let sum = piece_size bytes buffer count in_buffer in
            subst (λ (xs : List ℕ). TextTaken limit before now xs rest) (sym same) (record { size = omega arith; are = are_taken })
