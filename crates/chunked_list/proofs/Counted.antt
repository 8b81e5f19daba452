-- How many items stand before each chunk, counted one after another.
use Rattle.std.proofs.Common.{arith, length, List, ◌+◌, ◌-◌, ◌*◌, ◌/◌, ◌%◌, ◌∷◌, ◌<◌, ◌≡◌, ◌≤◌, ◌^◌, suc, take, zero, ℕ, ⊎_elim}
use Rattle.std.proofs.Math.ListN.{get_or}
use Rattle.std.proofs.Math.Path.{ap, sym, ◌∙◌}
use Rattle.std.specs.List.{flat_map}
use Rattle.std.proofs.lemmas.Bool.{cases_eq, cases_lt}
use Rattle.std.proofs.lemmas.List.{ext_get_or, get_or_past}
use Rattle.chunked_list.specs.Blocks.{AreBlocks, Begins, IsSummed, sums_from}
use Rattle.chunked_list.specs.Starts.{starts_from}
use Rattle.chunked_list.proofs.Fronts.{front-rises, front-within, length-starts, next-front, start-at}
use Rattle.chunked_list.proofs.Summed.{at, base, length-sums, long, sum-at}

-- the chunks before one have their numbers; so many items stand before it
pub record IsCounted {X C : Type 0} (f : C → List X) (cs : List C) (bs ws : List ℕ) (i count : ℕ) : Type 0 where
  pub few : 64 * length bs ≤ length ws - 1
  pub enough : length ws ≤ 64 * length bs + 64
  pub long : length cs ≡ length ws
  pub first : (k : ℕ) → 64 * k < i → get_or ws (64 * k) 0 ≡ 0
  pub here : count ≡ length (flat_map f (take i cs))
  pub sums : (k : ℕ) → k < i → base bs k + get_or ws k 0 ≡ length (flat_map f (take k cs))

module _ {X C : Type 0} (f : C → List X) (cs : List C) (bs ws : List ℕ) where
  -- fewer items stand before a chunk's block than before the chunk
  pub base_below : (i count : ℕ) → IsCounted f cs bs ws i count → (Begins i → ⊥) → base bs i ≤ count
  base_below zero count are begins = omega arith
  base_below (suc i) count are begins = ⊎_elim
      (λ (whole : suc i % 64 ≡ 0). absurd (begins (record { some = omega arith; whole = whole })))
      (λ (rest : suc i % 64 ≡ 0 → ⊥).
      let same : suc i / 64 ≡ i / 64 = ⊎_elim (λ (e : i % 64 ≡ 63). absurd (rest (omega arith))) (λ (e : i % 64 ≡ 63 → ⊥). omega arith) (cases_eq (i % 64) 63) in
      let one : base bs (suc i) ≡ base bs i = ap (λ j. get_or (0 ∷ bs) j 0) same in
      let two = are.sums i (omega arith) in let three = are.here in
      omega (arith, one, two, three, front-rises f cs i (suc i) (omega arith)))
      (cases_eq (suc i % 64) 0)

  pub counted_more : (new_bs new_ws : List ℕ) (i count size : ℕ) (c : C) → i < length cs → size ≡ length (f (get_or cs i c)) → IsCounted f cs bs ws i count → IsSummed i count bs ws new_bs new_ws → IsCounted f cs new_bs new_ws (i + 1) (count + size)
  counted_more new_bs new_ws i count size c inside own are noted =
      let blocks = noted.blocks_long in let within = noted.within_long in let here = are.here in
      let next : i + 1 ≡ suc i = omega arith in
      let sum = noted.sum in
      record {
        few = let few = are.few in omega arith;
        enough = let enough = are.enough in omega arith;
        long = let long = are.long in omega arith;
        first = λ k below. ⊎_elim
            (λ (at : 64 * k ≡ i). ap (λ j. get_or new_ws j 0) at ∙ first_here k at)
            (λ (at : 64 * k ≡ i → ⊥). noted.others_within (64 * k) (omega arith) ∙ are.first k (omega arith))
            (cases_eq (64 * k) i);
        here = omega (arith, next-front f cs i c inside, ap (λ j. length (flat_map f (take j cs))) next);
        sums = λ k below. ⊎_elim
            (λ (before : k < i). let one = noted.others k before in let two = noted.others_within k before in let three = are.sums k before in omega arith)
            (λ (at : i ≤ k). let same : k ≡ i = omega arith in ap (λ j. base new_bs j + get_or new_ws j 0) same ∙ sum ∙ here ∙ ap (λ j. length (flat_map f (take j cs))) (sym same))
            (cases_lt k i);
      }
    where
      first_here : (k : ℕ) → 64 * k ≡ i → get_or new_ws i 0 ≡ 0
      first_here zero at = let none : i ≡ 0 = omega arith in let sum = noted.sum in let here = are.here in omega (arith, sum, here, ap (λ j. length (flat_map f (take j cs))) none)
      first_here (suc k) at = noted.first (record { some = omega arith; whole = omega arith })

  pub count_fits : (i count size : ℕ) (c : C) → i < length cs → size ≡ length (f (get_or cs i c)) → IsCounted f cs bs ws i count → count + size ≤ length (flat_map f cs)
  count_fits i count size c inside own are = let here = are.here in omega (arith, own, here, next-front f cs i c inside, front-within f cs (suc i))

  -- the first ones are known to be counted
  pub begin_counting : (ss : List ℕ) (from count : ℕ) → sums_from (0 ∷ bs) 0 ws ≡ ss → AreBlocks bs ws → length cs ≡ length ss → from ≤ length cs → count ≡ length (flat_map f (take from cs)) →
      ((k : ℕ) → k < from → get_or ss k 0 ≡ length (flat_map f (take k cs))) → IsCounted f cs bs ws from count
  begin_counting ss from count is blocks many inside here counted =
      let size = long bs ws ss is in
      record {
        few = blocks.few;
        enough = blocks.enough;
        long = omega arith;
        first = λ k below. blocks.first k;
        here = here;
        sums = λ k below. sym (at bs ws ss is k 0 (omega arith)) ∙ counted k below;
      }

  module _ (i count : ℕ) (are : IsCounted f cs bs ws i count) (all : length cs ≤ i) where
    pub counted_all : sums_from (0 ∷ bs) 0 ws ≡ starts_from f 0 cs
    counted_all =
        let one = length-sums (0 ∷ bs) 0 ws in let two = length-starts f 0 cs in let long = are.long in
        ext_get_or 0 (sums_from (0 ∷ bs) 0 ws) (starts_from f 0 cs) (omega arith) (λ k inside.
        sum-at (0 ∷ bs) ws k 0 (omega arith) ∙ are.sums k (omega arith) ∙ sym (let start = start-at f 0 cs k 0 (omega arith) in let same : get_or (starts_from f 0 cs) k 0 ≡ length (flat_map f (take k cs)) = omega (arith, start) in same))

    pub blocks_counted : length (flat_map f cs) < 2 ^ 64 → AreBlocks bs ws
    blocks_counted fits = record {
      few = are.few;
      enough = are.enough;
      first = λ k. ⊎_elim
          (λ (inside : 64 * k < i). are.first k inside)
          (λ (past : i ≤ 64 * k). get_or_past ws (64 * k) 0 (let long = are.long in omega arith))
          (cases_lt (64 * k) i);
      fits = λ k inside. let sum = are.sums k (let long = are.long in omega arith) in omega (arith, sum, fits, front-within f cs k);
    }
