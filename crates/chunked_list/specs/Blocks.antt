-- Numbers in blocks of 64, each as the sum of its block's number and one of its own. No public contract cites it.
use Rattle.std.specs.Prelude.{◌≡◌, ◌<◌, ◌≤◌, ◌+◌, ◌-◌, ◌*◌, ◌/◌, ◌%◌, ◌^◌, List, [], ◌∷◌, length, slice_index_or, suc, ℕ}

-- the sums from the i-th number on
abbrev pub sums_from : List ℕ → ℕ → List ℕ → List ℕ
sums_from blocks i [] = []
sums_from blocks i (n ∷ ns) = (slice_index_or blocks (i / 64) 0 + n) ∷ sums_from blocks (suc i) ns

-- The number of a block's first is the block's own. That of the first block is 0, and isn't listed.
pub record AreBlocks (blocks within : List ℕ) : Type 0 where
  pub few : 64 * length blocks ≤ length within - 1
  pub enough : length within ≤ 64 * length blocks + 64
  pub first : (k : ℕ) → slice_index_or within (64 * k) 0 ≡ 0
  pub fits : (k : ℕ) → k < length within → slice_index_or (0 ∷ blocks) (k / 64) 0 + slice_index_or within k 0 < 2 ^ 64

-- numbers are changed from one place up to another, and nowhere else
pub record AreChanged (change : ℕ → ℕ) (from to : ℕ) (old new : List ℕ) : Type 0 where
  pub long : length new ≡ length old
  pub below : (k : ℕ) → k < from → slice_index_or new k 0 ≡ slice_index_or old k 0
  pub there : (k : ℕ) → from ≤ k → k < to → slice_index_or new k 0 ≡ change (slice_index_or old k 0)
  pub above : (k : ℕ) → to ≤ k → slice_index_or new k 0 ≡ slice_index_or old k 0

-- a block but the first begins at a place
pub record Begins (place : ℕ) : Type 0 where
  pub some : 0 < place
  pub whole : place % 64 ≡ 0

-- the places up to the end are those of one block with a place, or before it
pub record IsEndOfBlock (place all end : ℕ) : Type 0 where
  pub behind : place < end
  pub most : end ≤ all
  pub block : end ≤ 64 * (place / 64) + 64
  pub last : (k : ℕ) → end ≤ k → k < all → 64 * (place / 64) + 64 ≤ k

-- a place has a number as its sum; what stands before it is as it was
pub record IsSummed (place count : ℕ) (blocks within blocks' within' : List ℕ) : Type 0 where
  pub blocks_long : length blocks' ≡ length blocks
  pub within_long : length within' ≡ length within
  pub sum : slice_index_or (0 ∷ blocks') (place / 64) 0 + slice_index_or within' place 0 ≡ count
  pub first : Begins place → slice_index_or within' place 0 ≡ 0
  pub others : (k : ℕ) → k < place → slice_index_or (0 ∷ blocks') (k / 64) 0 ≡ slice_index_or (0 ∷ blocks) (k / 64) 0
  pub others_within : (k : ℕ) → k < place → slice_index_or within' k 0 ≡ slice_index_or within k 0
