-- Numbers in blocks: one more at the end, which is 0, or one fewer.
use Rattle.std.proofs.Common.{arith, length, List, [], ◌++◌, ◌+◌, ◌-◌, ◌*◌, ◌/◌, ◌%◌, ◌∷◌, ◌<◌, ◌≡◌, ◌≤◌, ◌^◌, suc, take, zero, ℕ, ⊎_elim}
use Rattle.std.proofs.Math.ListN.{get_or}
use Rattle.std.proofs.Math.Path.{ap, refl, ◌∙◌}
use Rattle.std.proofs.lemmas.Bool.{cases_eq, cases_lt}
use Rattle.std.proofs.lemmas.List.{get_or-take, get_or_past, length-take-le, length_push}
use Rattle.chunked_list.specs.Blocks.{AreBlocks, Begins, sums_from}
use Rattle.chunked_list.proofs.Summed.{at, base, length-sums, long, sum-at}

push_zero : (ns : List ℕ) (k : ℕ) → get_or (ns ++ 0 ∷ []) k 0 ≡ get_or ns k 0
push_zero [] zero = refl
push_zero [] (suc k) = refl
push_zero (n ∷ ns) zero = refl
push_zero (n ∷ ns) (suc k) = push_zero ns k

base_push : (bs : List ℕ) (j : ℕ) → get_or (0 ∷ (bs ++ 0 ∷ [])) j 0 ≡ get_or (0 ∷ bs) j 0
base_push bs zero = refl
base_push bs (suc j) = push_zero bs j

base_take : (bs : List ℕ) (n j : ℕ) → j ≤ n → get_or (0 ∷ take n bs) j 0 ≡ get_or (0 ∷ bs) j 0
base_take bs n zero up = refl
base_take bs n (suc j) up = get_or-take n bs j 0 (omega arith)

module _ (bs ws ss : List ℕ) (is : sums_from (0 ∷ bs) 0 ws ≡ ss) (bs' ws' : List ℕ) where
  pub long_grown : ws' ≡ ws ++ 0 ∷ [] → length (sums_from (0 ∷ bs') 0 ws') ≡ length ss + 1
  long_grown pushed = let size = long bs ws ss is in omega (arith, length-sums (0 ∷ bs') 0 ws', ap length pushed, length_push ws 0)

  pub others_grown : ws' ≡ ws ++ 0 ∷ [] → ((k : ℕ) → base bs' k ≡ base bs k) → (k : ℕ) → k < length ss → get_or (sums_from (0 ∷ bs') 0 ws') k 0 ≡ get_or ss k 0
  others_grown pushed same k inside =
      let size = long bs ws ss is in let longer = ap length pushed ∙ length_push ws 0 in
      let one = sum-at (0 ∷ bs') ws' k 0 (omega arith) in let two = at bs ws ss is k 0 (omega arith) in
      let three = ap (λ xs. get_or xs k 0) pushed ∙ push_zero ws k in let four = same k in omega arith

  pub long_shrunk : 0 < length ss → ws' ≡ take (length ws - 1) ws → length (sums_from (0 ∷ bs') 0 ws') + 1 ≡ length ss
  long_shrunk some popped =
      let size = long bs ws ss is in let one = length-sums (0 ∷ bs') 0 ws' in let two = ap length popped in let three = length-take-le (length ws - 1) ws (omega arith) in omega arith

  pub others_shrunk : 0 < length ss → ws' ≡ take (length ws - 1) ws → ((k : ℕ) → k < length ws - 1 → base bs' k ≡ base bs k) → (k : ℕ) → k < length (sums_from (0 ∷ bs') 0 ws') → get_or (sums_from (0 ∷ bs') 0 ws') k 0 ≡ get_or ss k 0
  others_shrunk some popped same k inside =
      let size = long bs ws ss is in let shorter = long_shrunk some popped in
      let within = length-sums (0 ∷ bs') 0 ws' in
      let one = sum-at (0 ∷ bs') ws' k 0 (omega arith) in let two = at bs ws ss is k 0 (omega arith) in
      let three = ap (λ xs. get_or xs k 0) popped ∙ get_or-take (length ws - 1) ws k 0 (omega arith) in let four = same k (omega arith) in omega arith

pub same_base_pushed : (bs bs' : List ℕ) → bs' ≡ bs ++ 0 ∷ [] → (k : ℕ) → base bs' k ≡ base bs k
same_base_pushed bs bs' pushed k = ap (λ xs. get_or (0 ∷ xs) (k / 64) 0) pushed ∙ base_push bs (k / 64)

-- the last block goes with its only number
pub same_base_popped : (bs ws bs' : List ℕ) → AreBlocks bs ws → Begins (length ws - 1) → bs' ≡ take (length bs - 1) bs → (k : ℕ) → k < length ws - 1 → base bs' k ≡ base bs k
same_base_popped bs ws bs' blocks begins popped k below =
    let few = blocks.few in let enough = blocks.enough in let some = begins.some in let whole = begins.whole in
    ap (λ xs. get_or (0 ∷ xs) (k / 64) 0) popped ∙ base_take bs (length bs - 1) (k / 64) (omega arith)

-- the number of the block of the next place, which doesn't begin one, is that of its first place
next_fits : (bs ws : List ℕ) → AreBlocks bs ws → (Begins (length ws) → ⊥) → base bs (length ws) < 2 ^ 64
next_fits bs ws blocks goes_on = ⊎_elim
    (λ (none : length ws ≡ 0). let here : length ws / 64 ≡ 0 = omega arith in let same : base bs (length ws) ≡ 0 = ap (λ j. get_or (0 ∷ bs) j 0) here in omega arith)
    (λ (some : length ws ≡ 0 → ⊥). ⊎_elim
    (λ (whole : length ws % 64 ≡ 0). absurd (goes_on (record { some = omega arith; whole = whole })))
    (λ (rest : length ws % 64 ≡ 0 → ⊥).
    let same : 64 * (length ws / 64) / 64 ≡ length ws / 64 = omega arith in
    let fits = blocks.fits (64 * (length ws / 64)) (omega arith) in
    let one : base bs (64 * (length ws / 64)) ≡ base bs (length ws) = ap (λ j. get_or (0 ∷ bs) j 0) same in omega arith)
    (cases_eq (length ws % 64) 0))
    (cases_eq (length ws) 0)

pub blocks_grown : (bs ws ws' : List ℕ) → AreBlocks bs ws → (Begins (length ws) → ⊥) → ws' ≡ ws ++ 0 ∷ [] → AreBlocks bs ws'
blocks_grown bs ws ws' blocks goes_on pushed =
    let longer = ap length pushed ∙ length_push ws 0 in
    let number : (k : ℕ) → get_or ws' k 0 ≡ get_or ws k 0 = λ k. ap (λ xs. get_or xs k 0) pushed ∙ push_zero ws k in
    let few = blocks.few in let enough = blocks.enough in
    record {
      few = omega arith;
      enough = ⊎_elim
          (λ (full : length ws ≡ 64 * length bs + 64). absurd (goes_on (record { some = omega arith; whole = omega arith })))
          (λ (room : length ws ≡ 64 * length bs + 64 → ⊥). omega arith)
          (cases_eq (length ws) (64 * length bs + 64));
      first = λ k. number (64 * k) ∙ blocks.first k;
      fits = λ k inside. ⊎_elim
          (λ (old : k < length ws). let fit = blocks.fits k old in let same = number k in omega arith)
          (λ (new : length ws ≤ k).
          let here : k ≡ length ws = omega arith in
          let next = next_fits bs ws blocks goes_on in let same : base bs k ≡ base bs (length ws) = ap (λ j. base bs j) here in
          let zero_there = number k ∙ get_or_past ws k 0 new in omega arith)
          (cases_lt k (length ws));
    }

pub blocks_grown_by_block : (bs ws bs' ws' : List ℕ) → AreBlocks bs ws → Begins (length ws) → bs' ≡ bs ++ 0 ∷ [] → ws' ≡ ws ++ 0 ∷ [] → AreBlocks bs' ws'
blocks_grown_by_block bs ws bs' ws' blocks begins pushed_block pushed =
    let longer = ap length pushed ∙ length_push ws 0 in let more = ap length pushed_block ∙ length_push bs 0 in
    let number : (k : ℕ) → get_or ws' k 0 ≡ get_or ws k 0 = λ k. ap (λ xs. get_or xs k 0) pushed ∙ push_zero ws k in
    let few = blocks.few in let enough = blocks.enough in let some = begins.some in let whole = begins.whole in
    record {
      few = omega arith;
      enough = omega arith;
      first = λ k. number (64 * k) ∙ blocks.first k;
      fits = λ k inside. let base_same = same_base_pushed bs bs' pushed_block k in let same = number k in ⊎_elim
          (λ (old : k < length ws). let fit = blocks.fits k old in omega arith)
          (λ (new : length ws ≤ k).
          let zero_there = get_or_past ws k 0 new in
          let block_zero : get_or (0 ∷ bs) (k / 64) 0 ≡ 0 = get_or_past (0 ∷ bs) (k / 64) 0 (omega arith) in omega arith)
          (cases_lt k (length ws));
    }
