-- What was there stays in front.
use Rattle.std.proofs.Common.{Err, List, Ok, OnErr, Result, ap, arith, length, sym, take, ℕ, ◌++◌, ◌∙◌, ◌≡◌, ◌≤◌}
use Rattle.std.proofs.Math.Seq.{take-append_seam, take-length}
use Rattle.std.proofs.lemmas.List.{length-take, take-take}
use Rattle.osm_notation.specs.Kept.{KeepsFront}

-- where nothing was added
pub kept_as_is : (before now : List ℕ) → now ≡ before → KeepsFront before now
kept_as_is before now is = ap (take (length before)) is ∙ take-length before

-- where something was added
pub kept_added : (before more now : List ℕ) → now ≡ before ++ more → KeepsFront before now
kept_added before more now is = ap (take (length before)) is ∙ take-append_seam before more

-- first by one call and then by the next
pub kept_through : (before between now : List ℕ) → KeepsFront before between → KeepsFront between now → KeepsFront before now
kept_through before between now first then =
    let shorter : length before ≤ length between = omega (arith, ap length first, length-take (length before) between) in
    sym (take-take (length before) (length between) now shorter) ∙ ap (take (length before)) then ∙ first

-- first by one call, and then something was added
pub kept_further : (before between more now : List ℕ) → KeepsFront before between → now ≡ between ++ more → KeepsFront before now
kept_further before between more now first is = kept_through before between now first (kept_added between more now is)

-- first by one call, and then by the last one where it fails
pub kept_to_the_last : {T E : Type 0} (r : Result T E) (before between now : List ℕ) → KeepsFront before between → OnErr r (KeepsFront between now) → OnErr r (KeepsFront before now)
kept_to_the_last (Ok x) before between now first then = tt
kept_to_the_last (Err e) before between now first then = kept_through before between now first then

-- where a call failed
pub kept_at_fault : {T E : Type 0} (r : Result T E) (before now : List ℕ) → KeepsFront before now → OnErr r (KeepsFront before now)
kept_at_fault (Ok x) before now kept = tt
kept_at_fault (Err e) before now kept = kept
