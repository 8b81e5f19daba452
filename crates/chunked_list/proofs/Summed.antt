-- Numbers in blocks, each as the sum of its block's number and one of its own.
use Rattle.std.proofs.Common.{All, arith, drop, length, map, List, [], ◌++◌, ◌+◌, ◌-◌, ◌*◌, ◌/◌, ◌∷◌, ◌<◌, ◌≡◌, ◌≤◌, ◌^◌, suc, take, zero, ℕ, ⊎_elim}
use Rattle.std.proofs.Math.ListN.{get_or}
use Rattle.std.proofs.Math.Path.{ap, refl, subst, sym, ◌∙◌}
use Rattle.std.proofs.lemmas.Bool.{cases_lt}
use Rattle.std.proofs.lemmas.List.{ext_get_or, get_or_append_left, get_or-append_right, get_or-drop, get_or-map, get_or-take, length-append, length-drop, length-map, length-take-le}
use Rattle.chunked_list.specs.Blocks.{AreBlocks, AreChanged, IsEndOfBlock, sums_from}

module _ (bs : List ℕ) where
  pub length-sums : (i : ℕ) (ws : List ℕ) → length (sums_from bs i ws) ≡ length ws
  length-sums i [] = refl
  length-sums i (w ∷ ws) = ap suc (length-sums (suc i) ws)

  sum-from : (i : ℕ) (ws : List ℕ) (k d : ℕ) → k < length ws → get_or (sums_from bs i ws) k d ≡ get_or bs ((i + k) / 64) 0 + get_or ws k 0
  sum-from i [] k d inside = absurd (omega arith)
  sum-from i (w ∷ ws) zero d inside = let here : i ≡ i + 0 = omega arith in ap (λ j. get_or bs (j / 64) 0 + w) here
  sum-from i (w ∷ ws) (suc k) d inside =
      let next : suc i + k ≡ i + suc k = omega arith in
      sum-from (suc i) ws k d (omega arith) ∙ ap (λ j. get_or bs (j / 64) 0 + get_or ws k 0) next

  pub sum-at : (ws : List ℕ) (k d : ℕ) → k < length ws → get_or (sums_from bs 0 ws) k d ≡ get_or bs (k / 64) 0 + get_or ws k 0
  sum-at ws k d inside = let here : 0 + k ≡ k = omega arith in sum-from 0 ws k d inside ∙ ap (λ j. get_or bs (j / 64) 0 + get_or ws k 0) here

-- a list that is changed from a place on
changed_from : (f : ℕ → ℕ) (n : ℕ) (xs ys : List ℕ) → n ≤ length xs → length ys ≡ length xs → ((k : ℕ) → k < n → get_or ys k 0 ≡ get_or xs k 0) →
    ((k : ℕ) → n ≤ k → k < length xs → get_or ys k 0 ≡ f (get_or xs k 0)) → ys ≡ take n xs ++ map f (drop n xs)
changed_from f n xs ys inside long same changed =
    let front : length (take n xs) ≡ n = length-take-le n xs inside in
    let back : length (map f (drop n xs)) ≡ length xs - n = length-map (drop n xs) f ∙ length-drop n xs in
    let whole : length ys ≡ length (take n xs ++ map f (drop n xs)) = omega (arith, long, front, back, length-append (take n xs) (map f (drop n xs))) in
    ext_get_or 0 ys (take n xs ++ map f (drop n xs)) whole (λ k within. ⊎_elim
    (λ (below : k < n). same k below ∙ sym (get_or_append_left (take n xs) (map f (drop n xs)) 0 k (omega arith) ∙ get_or-take n xs k 0 below))
    (λ (behind : n ≤ k).
    let there : k - n < length (drop n xs) = omega (arith, length-drop n xs) in
    let at : n + (k - n) ≡ k = omega arith in
    changed k behind (omega arith)
    ∙ sym (get_or-append_right (take n xs) (map f (drop n xs)) n k 0 front behind ∙ get_or-map f (drop n xs) (k - n) 0 0 there ∙ ap f (get_or-drop n xs (k - n) 0 ∙ ap (λ j. get_or xs j 0) at)))
    (cases_lt k n))

-- the number of the block of a place
abbrev pub base : List ℕ → ℕ → ℕ
base bs k = get_or (0 ∷ bs) (k / 64) 0

module _ (f : ℕ → ℕ) (from : ℕ) (bs new : List ℕ) (are : AreChanged f from (length bs) bs new) where
  same_base : (j : ℕ) → j ≤ from → get_or (0 ∷ new) j 0 ≡ get_or (0 ∷ bs) j 0
  same_base zero up = refl
  same_base (suc j) up = are.below j (omega arith)

  changed_base : (j : ℕ) → from < j → j ≤ length bs → get_or (0 ∷ new) j 0 ≡ f (get_or (0 ∷ bs) j 0)
  changed_base zero up within = absurd (omega arith)
  changed_base (suc j) up within = are.there j (omega arith) (omega arith)

-- those of one block are changed from a place on, and the numbers of the later blocks
module _ (f : ℕ → ℕ) (place end : ℕ) (bs ws bs' ws' : List ℕ)
    (blocks : AreBlocks bs ws) (ends : IsEndOfBlock place (length ws) end)
    (ws_are : AreChanged f (place + 1) end ws ws') (bs_are : AreChanged f (place / 64) (length bs) bs bs')
    (own : (k : ℕ) → place < k → k < end → base bs k + f (get_or ws k 0) ≡ f (base bs k + get_or ws k 0))
    (all : (k : ℕ) → end ≤ k → k < length ws → f (base bs k) + get_or ws k 0 ≡ f (base bs k + get_or ws k 0)) where
  same_sum : (k : ℕ) → k ≤ place → base bs' k + get_or ws' k 0 ≡ base bs k + get_or ws k 0
  same_sum k up = let one = same_base f (place / 64) bs bs' bs_are (k / 64) (omega arith) in let two = ws_are.below k (omega arith) in omega (arith, one, two)

  changed_sum : (k : ℕ) → place < k → k < length ws → base bs' k + get_or ws' k 0 ≡ f (base bs k + get_or ws k 0)
  changed_sum k behind inside = ⊎_elim
      (λ (here : k < end).
      let one = same_base f (place / 64) bs bs' bs_are (k / 64) (let most = ends.block in omega arith) in
      ap (λ b. b + get_or ws' k 0) one ∙ ap (λ w. base bs k + w) (ws_are.there k (omega arith) here) ∙ own k behind here)
      (λ (past : end ≤ k).
      let later = ends.last k past inside in
      let one = changed_base f (place / 64) bs bs' bs_are (k / 64) (omega arith) (let most = blocks.enough in omega arith) in
      ap (λ b. b + get_or ws' k 0) one ∙ ap (λ w. f (base bs k) + w) (ws_are.above k past) ∙ all k past inside)
      (cases_lt k end)

  pub sums_changed : sums_from (0 ∷ bs') 0 ws' ≡ take (place + 1) (sums_from (0 ∷ bs) 0 ws) ++ map f (drop (place + 1) (sums_from (0 ∷ bs) 0 ws))
  sums_changed =
      let old = sums_from (0 ∷ bs) 0 ws in
      let new = sums_from (0 ∷ bs') 0 ws' in
      let size : length old ≡ length ws = length-sums (0 ∷ bs) 0 ws in
      let long : length new ≡ length ws = length-sums (0 ∷ bs') 0 ws' ∙ ws_are.long in
      let behind = ends.behind in let most = ends.most in
      changed_from f (place + 1) old new (omega arith) (omega arith)
      (λ k below. sum-at (0 ∷ bs') ws' k 0 (let same = ws_are.long in omega arith) ∙ same_sum k (omega arith) ∙ sym (sum-at (0 ∷ bs) ws k 0 (omega arith)))
      (λ k up inside. sum-at (0 ∷ bs') ws' k 0 (let same = ws_are.long in omega arith) ∙ changed_sum k (omega arith) (omega arith) ∙ ap f (sym (sum-at (0 ∷ bs) ws k 0 (omega arith))))

  pub blocks_changed : ((k : ℕ) → k < length ws → f (base bs k + get_or ws k 0) < 2 ^ 64) → AreBlocks bs' ws'
  blocks_changed fit = record {
    few = let few = blocks.few in let one = ws_are.long in let two = bs_are.long in omega arith;
    enough = let enough = blocks.enough in let one = ws_are.long in let two = bs_are.long in omega arith;
    first = λ k. ⊎_elim
        (λ (up : 64 * k < place + 1). ws_are.below (64 * k) up ∙ blocks.first k)
        (λ (behind : place + 1 ≤ 64 * k). ws_are.above (64 * k) (let most = ends.block in omega arith) ∙ blocks.first k)
        (cases_lt (64 * k) (place + 1));
    fits = λ k inside.
        let there : k < length ws = (let one = ws_are.long in omega arith) in
        ⊎_elim
        (λ (up : k < place + 1). let same = same_sum k (omega arith) in let old = blocks.fits k there in omega arith)
        (λ (behind : place + 1 ≤ k). let new = changed_sum k (omega arith) there in let old = fit k there in omega arith)
        (cases_lt k (place + 1));
  }

-- the first of a later block has its block's number
pub first_of_block : (bs ws : List ℕ) → AreBlocks bs ws → (j : ℕ) → j < length bs → (64 * suc j < length ws) × (base bs (64 * suc j) + get_or ws (64 * suc j) 0 ≡ get_or bs j 0)
first_of_block bs ws blocks j inside =
    let block : 64 * suc j / 64 ≡ suc j = omega arith in
    let first = blocks.first (suc j) in
    let same : base bs (64 * suc j) ≡ get_or bs j 0 = ap (λ i. get_or (0 ∷ bs) i 0) block in
    (let few = blocks.few in omega arith, omega arith)

-- a list that is known to be the sums
module _ (bs ws ss : List ℕ) (is : sums_from (0 ∷ bs) 0 ws ≡ ss) where
  pub long : length ss ≡ length ws
  long = ap length (sym is) ∙ length-sums (0 ∷ bs) 0 ws

  pub at : (k d : ℕ) → k < length ws → get_or ss k d ≡ base bs k + get_or ws k 0
  at k d inside = ap (λ (xs : List ℕ). get_or xs k d) (sym is) ∙ sum-at (0 ∷ bs) ws k d inside

module _ (bs ws ss : List ℕ) (is : sums_from (0 ∷ bs) 0 ws ≡ ss) (blocks : AreBlocks bs ws) where
  -- the start of a later block's first chunk
  begun : (j : ℕ) → j < length bs → (64 * suc j < length ss) × (get_or ss (64 * suc j) 0 ≡ get_or bs j 0)
  begun j inside =
      let (there, sum) = first_of_block bs ws blocks j inside in
      (let size = long bs ws ss is in omega arith, at bs ws ss is (64 * suc j) 0 there ∙ sum)

  module _ (fits : All (λ s. s + 1 < 2 ^ 64) ss) where
    pub within_fit : (k : ℕ) → k < length ws → get_or ws k 0 + 1 < 2 ^ 64
    within_fit k inside = let size = long bs ws ss is in let sum = at bs ws ss is k 0 inside in let fit = fits k 0 (omega arith) in omega arith

    pub blocks_fit : (j : ℕ) → j < length bs → get_or bs j 0 + 1 < 2 ^ 64
    blocks_fit j inside = let (there, same) = begun j inside in let fit = fits (64 * suc j) 0 there in omega arith

    pub sums_fit : (k : ℕ) → k < length ws → base bs k + get_or ws k 0 + 1 < 2 ^ 64
    sums_fit k inside = let size = long bs ws ss is in let sum = at bs ws ss is k 0 inside in let fit = fits k 0 (omega arith) in omega arith

  -- more stands before each chunk behind one than before that one
  module _ (place end : ℕ) (ends : IsEndOfBlock place (length ws) end) (some : All (λ s. get_or ss place 0 < s) (drop (place + 1) ss)) where
    more : (k : ℕ) → place < k → k < length ss → get_or ss place 0 < get_or ss k 0
    more k behind inside =
        let rest : k - (place + 1) < length (drop (place + 1) ss) = omega (arith, length-drop (place + 1) ss) in
        let here : place + 1 + (k - (place + 1)) ≡ k = omega arith in
        let one = some (k - (place + 1)) 0 rest in
        let two = get_or-drop (place + 1) ss (k - (place + 1)) 0 ∙ ap (λ j. get_or ss j 0) here in omega arith

    pub within_some : (k : ℕ) → place < k → k < end → 0 < get_or ws k 0
    within_some k behind below =
        let size = long bs ws ss is in let most = ends.most in let block = ends.block in
        let one = at bs ws ss is k 0 (omega arith) in let two = at bs ws ss is place 0 (omega arith) in
        let same : k / 64 ≡ place / 64 = omega arith in
        let base_same : base bs k ≡ base bs place = ap (λ j. get_or (0 ∷ bs) j 0) same in
        let rise = more k behind (omega arith) in omega arith

    pub blocks_some : (j : ℕ) → place / 64 ≤ j → j < length bs → 0 < get_or bs j 0
    blocks_some j up inside = let (there, same) = begun j inside in let rise = more (64 * suc j) (omega arith) there in omega arith

    later_some : (j : ℕ) → place / 64 < j → j ≤ length bs → 0 < get_or (0 ∷ bs) j 0
    later_some zero behind within = absurd (omega arith)
    later_some (suc j) behind within = blocks_some j (omega arith) (omega arith)

    pub base_some : (k : ℕ) → end ≤ k → k < length ws → 0 < base bs k
    base_some k past inside = let later = ends.last k past inside in later_some (k / 64) (omega arith) (let most = blocks.enough in omega arith)

-- a fact about two lists holds of equal ones
pub of_both : (P : List ℕ → List ℕ → Type 0) (xs xs' ys ys' : List ℕ) → xs ≡ xs' → ys ≡ ys' → P xs' ys' → P xs ys
of_both P xs xs' ys ys' one two holds = subst (λ zs. P zs ys) (sym one) (subst (λ zs. P xs' zs) (sym two) holds)
