-- Parts are added to a text one after the other: what was there stays in front, wherever a call fails.
use Rattle.std.proofs.Common.{◌≡◌, ◌++◌, List, OnErr, Result, ℕ}
use Rattle.osm_notation.specs.Kept.{KeepsFront}
use Rattle.osm_notation.proofs.KeptTexts.{kept_added, kept_as_is, kept_at_fault, kept_further, kept_through, kept_to_the_last}

module _ {T E : Type 0} (r : Result T E) (text : List ℕ) where
  -- the first call, which adds nothing then
  pub none_added : (now : List ℕ) → now ≡ text → OnErr r (KeepsFront text now)
  none_added now same = kept_at_fault r text now (kept_as_is text now same)

  module _ (first a : List ℕ) (one : first ≡ text ++ a) where
    -- the second call
    pub one_added : (now : List ℕ) → KeepsFront first now → OnErr r (KeepsFront text now)
    one_added now then = kept_at_fault r text now (kept_through text first now (kept_added text a first one) then)

    module _ (second b : List ℕ) (two : second ≡ first ++ b) where
      kept_by_two : KeepsFront text second
      kept_by_two = kept_further text first b second (kept_added text a first one) two

      -- the third call, which adds nothing then
      pub two_added : (now : List ℕ) → now ≡ second → OnErr r (KeepsFront text now)
      two_added now same = kept_at_fault r text now (kept_through text second now kept_by_two (kept_as_is second now same))

      -- the third call, if it is the last
      pub last_of_three : (now : List ℕ) → OnErr r (KeepsFront second now) → OnErr r (KeepsFront text now)
      last_of_three now then = kept_to_the_last r text second now kept_by_two then

      -- the fourth call, if it is the last
      pub last_of_four : (third c : List ℕ) → third ≡ second ++ c → (now : List ℕ) → OnErr r (KeepsFront third now) → OnErr r (KeepsFront text now)
      last_of_four third c three now then = kept_to_the_last r text third now (kept_further text second c third kept_by_two three) then
