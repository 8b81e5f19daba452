-- The bytes that are taken off an input, piece by piece, and what is answered of them.
use Rattle.std.proofs.Common.{◌≡◌, ◌∙◌, refl, sym, ap, subst, ℕ, ◌+◌, ◌-◌, ◌<◌, ◌≤◌, min, List, [], ◌++◌, length, take, append-nil, length-append, length-take, arith, Option, IfSome, Result, Ok, Err, inl, inr}
use Rattle.std.proofs.lemmas.Bool.{cases_lt}
use Rattle.std.proofs.lemmas.List.{take_all, take-take, take-append-le}
use Rattle.std.proofs.Math.Seq.{take-append-add}
use Rattle.osm_elements.specs.declared.object.Object.{Object}
use Rattle.opl_reader.specs.Lines.{whole_lines}
use Rattle.opl_reader.specs.Reader.{Reader, new_reader}
use Rattle.osm_host.specs.Outside.{Outside, preceded, grown, OnlyReads}
use Rattle.osm_host.specs.Laws.{PrecedesInTurn}
use Rattle.osm_input.specs.declared.fault.InputFault.{InputFault}
use Rattle.osm_input.specs.declared.reading.ReadError.{ReadError}
use Rattle.osm_input.specs.declared.reading.ReadError.TheVariants.{BadInput, TooMuchInput, ReadFault, OutOfMemory}
use Rattle.osm_input.specs.Input.{AreGood, IsBadPlace}
use Rattle.osm_input.specs.Keeps.{KeepsNames}
use Rattle.osm_input.specs.Lines.{lines_begun}
use Rattle.osm_input.specs.LineSteps.{HasReadLines, IsRefusedBy, ReadsAll}
use Rattle.osm_input.specs.PieceSteps.{HasTakenAll}
use Rattle.osm_input.specs.Reading.{HasReachedEnd, IsAnswerOfReading, Took, Reads, ReadsOnce}
use Rattle.osm_input.specs.Shown.{IsShownLast}
use Rattle.osm_input.proofs.Begun.{begun_whole, fewer_before}
use Rattle.osm_input.proofs.Steps.{nothing_read}
use Rattle.osm_input.proofs.BytesTaken.{AreTaken, as_before, at_end, none_taken, piece_size, still_left, with_piece}

-- These bytes were taken off the input, no more than the limit, and are read.
pub record Taken (limit longest : ℕ) (before now : Outside) (r : Reader) (objects : List Object) (room : ℕ) : Type 0 where
  pub bytes : List ℕ
  pub holds : HasReadLines longest bytes r objects
  pub size : length bytes + room ≡ limit
  pub are : AreTaken before now bytes

pub nothing_taken : (limit longest : ℕ) (now : Outside) (r : Reader) (objects : List Object) → r ≡ new_reader longest → objects ≡ [] → Taken limit longest now now r objects limit
nothing_taken limit longest now r objects new none = record {
  bytes = [];
  holds = subst (λ (z : Reader). HasReadLines longest [] z objects) (sym new) (subst (λ (os : List Object). HasReadLines longest [] (new_reader longest) os) (sym none) (nothing_read longest));
  size = omega arith;
  are = none_taken now;
}

pub keeps_all : (now : Outside) → KeepsNames now now
keeps_all now = record { named = refl; told = refl; opens = omega arith; reads = omega arith; writes = omega arith }

pub no_reads : (now : Outside) → OnlyReads now now
no_reads now = record { named = refl; out = refl; report = refl; opens = refl; open_faults = refl; write_faults = refl }

none_begun : (longest : ℕ) (bytes : List ℕ) (r : Reader) (objects : List Object) → HasReadLines longest bytes r objects → lines_begun longest bytes ≡ whole_lines bytes
none_begun longest bytes r objects h = begun_whole longest bytes (subst (λ (zs : List ℕ). length zs ≤ longest) h.fed.unfinished h.fed.short)

-- what is left of two lists that are one, where the second part of the one isn't longer than that of the other
front_of : (front behind bytes piece : List ℕ) → bytes ++ piece ≡ front ++ behind → length piece ≤ length behind → (more : List ℕ) × (bytes ≡ front ++ more)
front_of front behind bytes piece is less =
    let n : ℕ = length bytes - length front in
    let sizes : length (bytes ++ piece) ≡ length (front ++ behind) = ap length is in
    let sum : length front + n ≡ length bytes = omega (arith, length-append bytes piece, length-append front behind) in (
      take n behind,
      sym (take_all (length bytes) bytes (omega arith))
          ∙ (sym (take-append-le (length bytes) bytes piece (omega arith))
          ∙ (ap (take (length bytes)) is
          ∙ subst (λ (m : ℕ). take m (front ++ behind) ≡ front ++ take n behind) sum (take-append-add front behind n))),
    )

-- a line that the bytes before the last piece don't have is shown by that piece
shown_last : (longest : ℕ) (bytes piece : List ℕ) (number : ℕ) → length (lines_begun longest bytes) < number → length piece ≤ 65536 → IsShownLast longest (bytes ++ piece) number
shown_last longest bytes piece number new most front behind is many =
    let more = front_of front behind bytes piece is (omega arith) in
    let fewer : length (lines_begun longest front) ≤ length (lines_begun longest bytes) =
    subst (λ (zs : List ℕ). length (lines_begun longest front) ≤ length (lines_begun longest zs)) (sym more.1) (fewer_before longest front more.0) in
    omega arith

module _ (limit longest : ℕ) (before middle : Outside) (r : Reader) (objects : List Object) (room : ℕ) (t : Taken limit longest before middle r objects room) (now : Outside) where
  -- ---- a read failed

  pub read_failed : now.left ≡ middle.left → now.bytes_read ≡ middle.bytes_read → Took limit longest before now (Err ReadFault)
  read_failed left counted =
      let size = t.size in
      let all : take limit t.bytes ≡ t.bytes = take_all limit t.bytes (omega arith) in
      let are = as_before before middle t.bytes t.are now left counted in
      record {
        taken = t.bytes;
        left = are.left;
        counted = are.counted;
        answer = (omega arith, subst (λ (ls : List (List ℕ)). AreGood longest ls) (sym (ap (lines_begun longest) all ∙ none_begun longest t.bytes r objects t.holds)) t.holds.good);
      }

  -- ---- the input ended

  module _ (buffer : List ℕ) (count : ℕ) (none : count ≡ 0) (left : middle.left ≡ preceded (take count buffer) now.left) (counted : now.bytes_read ≡ grown middle.bytes_read count)
      (nothing : IfSome middle.left (λ left. left ≡ [])) where
    has_ended : HasReachedEnd now
    has_ended =
        subst (λ (o : Option (List ℕ)). IfSome o (λ left. left ≡ []))
        (still_left before middle t.bytes t.are now buffer count left counted none) nothing

    pub whole_taken : HasTakenAll limit longest before now r objects
    whole_taken =
        let size = t.size in
        let are = at_end before middle t.bytes t.are now buffer count left counted none in
        record { bytes = t.bytes; holds = t.holds; size = omega arith; left = are.left; counted = are.counted; ended = has_ended }

  -- ---- a piece was taken

  module _ (buffer : List ℕ) (count within : ℕ) (in_buffer : count ≤ length buffer) (left : middle.left ≡ preceded (take count buffer) now.left)
      (counted : now.bytes_read ≡ grown middle.bytes_read count) (in_turn : PrecedesInTurn ℕ) (least : within ≡ min room count) where
    abbrev all_taken : List ℕ
    all_taken = t.bytes ++ take count buffer

    are_taken : AreTaken before now all_taken
    are_taken = with_piece before middle t.bytes t.are now buffer count left counted in_buffer in_turn

    took_piece : (e : ReadError) → IsAnswerOfReading limit longest all_taken now (Err e) → Took limit longest before now (Err e)
    took_piece e answer =
        let are = are_taken in
        record { taken = all_taken; left = are.left; counted = are.counted; answer = answer }

    -- what of them is within the limit
    room_taken : take room (take count buffer) ≡ take within buffer
    room_taken = elim (cases_lt room count) [
      | inl less ↦
          let same : room ≡ within = omega arith in
          take-take room count buffer (omega arith) ∙ ap (λ (n : ℕ). take n buffer) same
      | inr more ↦
          let same : count ≡ within = omega arith in
          take_all room (take count buffer) (omega (arith, length-take count buffer)) ∙ ap (λ (n : ℕ). take n buffer) same
    ]

    within_limit : take limit all_taken ≡ t.bytes ++ take within buffer
    within_limit =
        subst (λ (n : ℕ). take n all_taken ≡ t.bytes ++ take within buffer) t.size
        (take-append-add t.bytes (take count buffer) room ∙ ap (λ (xs : List ℕ). t.bytes ++ xs) room_taken)

    bad_answer : (line : ℕ) (fault : InputFault) → IsBadPlace longest (lines_begun longest (t.bytes ++ take within buffer)) line fault →
        IsShownLast longest all_taken line → Took limit longest before now (Err (BadInput line fault))
    bad_answer line fault bad shown =
        took_piece (BadInput line fault)
        (inl (subst (λ (zs : List ℕ). IsBadPlace longest (lines_begun longest zs) line fault) (sym within_limit) bad), shown)

    -- it is refused
    pub piece_reads : count ≤ 65536 → (e : ReadError) → IsRefusedBy longest t.bytes (take within buffer) e → Reads limit longest before now (Err e)
    piece_reads few (BadInput line fault) refused =
        bad_answer line fault refused.bad
        (shown_last longest t.bytes (take count buffer) line refused.behind (omega (arith, length-take count buffer)))
    piece_reads few (TooMuchInput most) refused = absurd refused
    piece_reads few ReadFault refused = absurd refused
    piece_reads few OutOfMemory refused = tt

    pub piece_at_once : (e : ReadError) → IsRefusedBy longest t.bytes (take within buffer) e → now.read_faults ≡ before.read_faults → ReadsOnce before now (Err e)
    piece_at_once (BadInput line fault) refused same = same
    piece_at_once (TooMuchInput most) refused same = absurd refused
    piece_at_once ReadFault refused same = absurd refused
    piece_at_once OutOfMemory refused same = same

    module _ (next : Reader) (more : List Object) (holds : HasReadLines longest (t.bytes ++ take within buffer) next more) where
      -- there is more than the limit
      pub limit_passed : count ≤ 65536 → within < count → Took limit longest before now (Err (TooMuchInput limit))
      limit_passed few less =
          let size = t.size in
          let sum = piece_size t.bytes buffer count in_buffer in
          let lines : lines_begun longest (take limit all_taken) ≡ whole_lines (t.bytes ++ take within buffer) =
          ap (lines_begun longest) within_limit ∙ none_begun longest (t.bytes ++ take within buffer) next more holds in
          took_piece (TooMuchInput limit) ((refl, omega arith, subst (λ (ls : List (List ℕ)). AreGood longest ls) (sym lines) holds.good), omega arith)

      -- all of it is within the limit
      pub piece_taken : (rest : ℕ) → count ≤ within → rest ≡ room - within → Taken limit longest before now next more rest
      piece_taken rest all is =
          let size = t.size in
          let sum = piece_size t.bytes buffer count in_buffer in
          let same : within ≡ count = omega arith in
          record {
            bytes = all_taken;
            holds = subst (λ (n : ℕ). HasReadLines longest (t.bytes ++ take n buffer) next more) same holds;
            size = omega arith;
            are = are_taken;
          }

-- ---- what is answered at the end

module _ (limit longest : ℕ) (before now : Outside) (r : Reader) (objects : List Object) (t : HasTakenAll limit longest before now r objects) where
  took_all : (result : Result (List Object) ReadError) → IsAnswerOfReading limit longest t.bytes now result → Took limit longest before now result
  took_all result answer = record { taken = t.bytes; left = t.left; counted = t.counted; answer = answer }

  pub end_reads : (result : Result (List Object) ReadError) → ReadsAll longest t.bytes result → Reads limit longest before now result
  end_reads (Ok all) read = took_all (Ok all) (t.ended, (t.size, read.0, read.1))
  end_reads (Err (BadInput line fault)) read =
      took_all (Err (BadInput line fault)) (
        inr (t.ended, t.size, read.0),
        subst (λ (zs : List ℕ). IsShownLast longest zs line) (append-nil t.bytes) (shown_last longest t.bytes [] line read.1 (omega arith)),
      )
  end_reads (Err (TooMuchInput most)) read = absurd read
  end_reads (Err ReadFault) read = absurd read
  end_reads (Err OutOfMemory) read = tt

pub end_at_once : (longest : ℕ) (bytes : List ℕ) (before now : Outside) (result : Result (List Object) ReadError) → ReadsAll longest bytes result → now.read_faults ≡ before.read_faults → ReadsOnce before now result
end_at_once longest bytes before now (Ok all) read same = same
end_at_once longest bytes before now (Err (BadInput line fault)) read same = same
end_at_once longest bytes before now (Err (TooMuchInput most)) read same = absurd read
end_at_once longest bytes before now (Err ReadFault) read same = absurd read
end_at_once longest bytes before now (Err OutOfMemory) read same = same
