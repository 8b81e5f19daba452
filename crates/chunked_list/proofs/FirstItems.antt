-- Where the first items of lists that stand one after the other end.
use Rattle.std.proofs.Common.{All, arith, drop, length, List, ◌+◌, ◌-◌, ◌<◌, ◌^◌, ◌∙◌, ◌≡◌, ◌≤◌, suc, take, ℕ, ⊎_elim}
use Rattle.std.proofs.Math.ListN.{get_or}
use Rattle.std.proofs.Math.Path.{ap, subst, sym}
use Rattle.std.specs.List.{flat_map}
use Rattle.std.proofs.lemmas.Bool.{cases_lt}
use Rattle.std.proofs.lemmas.List.{get_or-drop, length-drop, take-take, take_all}
use Rattle.chunked_list.specs.Starts.{ItemsEnd, starts_from}
use Rattle.chunked_list.proofs.Fronts.{front-rises, front-within, length-starts, next-front, start-at}

module _ {X C : Type 0} (f : C → List X) (cs : List C) (ss : List ℕ) (starts : ss ≡ starts_from f 0 cs) where
  pub long : length ss ≡ length cs
  long = ap length starts ∙ length-starts f 0 cs

  pub start : (i d : ℕ) → i < length cs → get_or ss i d ≡ length (flat_map f (take i cs))
  start i d inside = let same = ap (λ (xs : List ℕ). get_or xs i d) starts in let at = start-at f 0 cs i d inside in omega (arith, same, at)

  -- all items stand before a place behind the last list
  whole-front : (i : ℕ) → length cs ≤ i → length (flat_map f (take i cs)) ≡ length (flat_map f cs)
  whole-front i behind = ap (λ ds. length (flat_map f ds)) (take_all i cs behind)

  pub end_here : (i count : ℕ) → i < length cs → get_or ss i 0 < count → ((d : C) → count - get_or ss i 0 ≤ length (f (get_or cs i d))) → ItemsEnd f cs i (count - get_or ss i 0) count
  end_here i count inside below reach =
      record { inside = inside; front = omega (arith, start i 0 inside); some = λ more. omega arith; reach = reach }

  -- nothing stands before the first list
  first_end : (i count : ℕ) → i ≡ 0 → i < length cs → ((d : C) → count - get_or ss i 0 ≤ length (f (get_or cs i d))) → ItemsEnd f cs i (count - get_or ss i 0) count
  first_end i count first inside reach =
      let none : get_or ss i 0 ≡ 0 = start i 0 inside ∙ ap (λ j. length (flat_map f (take j cs))) first in
      record { inside = inside; front = omega (arith, none, start i 0 inside); some = λ more. omega (arith, none); reach = reach }

  -- fewer items stand before a list, unless it is the first, and no fewer before the next
  pub end_by_halves : (count i : ℕ) → i < length cs → count ≤ length (flat_map f cs) → (0 < i → get_or ss i 0 < count) → (suc i < length cs → count ≤ get_or ss (suc i) 0) → ItemsEnd f cs i (count - get_or ss i 0) count
  end_by_halves count i here within fewer next =
      let is = start i 0 here in
      let reach : (d : C) → count - get_or ss i 0 ≤ length (f (get_or cs i d)) = λ d. ⊎_elim
      (λ (more : suc i < length cs). let other = next more in omega (arith, is, other, start (suc i) 0 more, next-front f cs i d here))
      (λ (last : length cs ≤ suc i). omega (arith, is, within, whole-front (suc i) last, next-front f cs i d here))
      (cases_lt (suc i) (length cs))
      in
      ⊎_elim
      (λ (some : 0 < i). end_here i count here (fewer some) reach)
      (λ (none : i ≤ 0). let first : i ≡ 0 = omega arith in first_end i count first here reach)
      (cases_lt 0 i)

  pub start_below : (i count : ℕ) → ItemsEnd f cs i (count - get_or ss i 0) count → get_or ss i 0 ≤ count
  start_below i count end = omega (arith, start i 0 end.inside, end.front)

  -- ---- one item more or fewer

  pub starts_fit : length (flat_map f cs) + 1 < 2 ^ 64 → All (λ s. s + 1 < 2 ^ 64) ss
  starts_fit fits k d inside = omega (arith, long, start k d (omega (arith, long)), front-within f cs k)

  -- more items stand before each list behind one that has an item than before that one
  pub starts_behind : (i within count : ℕ) (b : C) → ItemsEnd f cs i within count → 0 < within → All (λ s. get_or ss i 0 < s) (drop (i + 1) ss)
  starts_behind i within count b end some k d inside =
      let behind : i + 1 + k < length ss = omega (arith, inside, length-drop (i + 1) ss) in
      let is = start (i + 1 + k) d (omega (arith, long)) in
      let more = front-rises f cs (suc i) (i + 1 + k) (omega arith) in
      let first : get_or ss i 0 < get_or ss (i + 1 + k) d = omega (arith, is, start i 0 end.inside, more, next-front f cs i b end.inside, end.reach b) in
      subst (λ s. get_or ss i 0 < s) (sym (get_or-drop (i + 1) ss k d)) first

  -- ---- the lists before one are as they were

  pub count_alike : (new : List C) (i : ℕ) → take i new ≡ take i cs → i < length cs → get_or ss i 0 ≡ length (flat_map f (take i new))
  count_alike new i alike inside = start i 0 inside ∙ ap (λ ds. length (flat_map f ds)) (sym alike)

  pub counted_alike : (new : List C) (i : ℕ) (ts : List ℕ) → take i new ≡ take i cs → i ≤ length cs → ((k : ℕ) → k < i → get_or ts k 0 ≡ get_or ss k 0) → (k : ℕ) → k < i → get_or ts k 0 ≡ length (flat_map f (take k new))
  counted_alike new i ts alike within same k below =
      let front : take k new ≡ take k cs = sym (take-take k i new (omega arith)) ∙ ap (take k) alike ∙ take-take k i cs (omega arith) in
      same k below ∙ start k 0 (omega arith) ∙ ap (λ ds. length (flat_map f ds)) (sym front)
