-- Two lists merged from their ends: what is left of the first, what is left of the second, and what stands behind both.
use Rattle.std.proofs.Common.{List, [], ap, arith, drop, get_or, length, set, subst, sym, take, ℕ, ◌++◌, ◌+◌, ◌<◌, ◌∙◌, ◌∷◌, ◌≡◌, ◌≤◌}
use Rattle.std.specs.List.Sorted.{IsPermutation}
use Rattle.std.proofs.lemmas.List.{append-nil, append_assoc, drop-set, drop_all, length-append, length-set, take-append-drop, take-append-le, take-set-le, take_all, take_more}
use Rattle.std.proofs.lemmas.List.Sorted.{IsPermutation-append_comm, IsPermutation-append_left, IsPermutation-append_right, IsPermutation-refl, IsPermutation-trans}

-- with so many left of each, they are all items in another order
pub record AreMerging {X : Type 0} (all others items : List X) (left rest : ℕ) : Type 0 where
  pub within : left + rest ≤ length items
  pub inside : rest ≤ length others
  pub moved : IsPermutation all (take left items ++ (take rest others ++ drop (left + rest) items))

one-behind : {X : Type 0} (front middle back : List X) (x : X) → IsPermutation ((front ++ x ∷ []) ++ (middle ++ back)) (front ++ (middle ++ x ∷ back))
one-behind front middle back x =
    subst (λ xs. IsPermutation xs (front ++ (middle ++ x ∷ back))) (sym (append_assoc front (x ∷ []) (middle ++ back)))
    (IsPermutation-append_right front (x ∷ (middle ++ back)) (middle ++ x ∷ back)
    (subst (IsPermutation (x ∷ (middle ++ back))) (append_assoc middle (x ∷ []) back)
    (IsPermutation-append_left back (x ∷ middle) (middle ++ x ∷ []) (IsPermutation-append_comm (x ∷ []) middle))))

module _ {X : Type 0} (all others items : List X) where
  pub merging-begun : (first : List X) → all ≡ first ++ others → items ≡ first ++ others → AreMerging all others items (length first) (length others)
  merging-begun first is same = subst (λ xs. AreMerging all others xs (length first) (length others)) (sym same) record {
    within = omega (arith, length-append first others);
    inside = omega arith;
    moved =
        let front : take (length first) (first ++ others) ≡ first = take-append-le (length first) first others (omega arith) ∙ take_all (length first) first (omega arith) in
        let back : drop (length first + length others) (first ++ others) ≡ [] = drop_all (length first + length others) (first ++ others) (omega (arith, length-append first others)) in
        rw (is, front, take_all (length others) others (omega arith), back, append-nil others) (IsPermutation-refl (first ++ others));
  }

  pub one-of-first : (left l rest : ℕ) (x : X) → left ≡ l + 1 → 0 < rest → x ≡ get_or items l x → AreMerging all others items left rest → AreMerging all others (set items (l + rest) x) l rest
  one-of-first left l rest x is some at m =
      let front : take left items ≡ take l items ++ x ∷ [] = ap (λ n. take n items) is ∙ take_more items l x (omega arith) ∙ ap (λ y. take l items ++ y ∷ []) (sym at) in
      let stands = drop-set items (l + rest) x (omega arith) in
      let behind : drop (left + rest) items ≡ drop (l + rest + 1) items = ap (λ n. drop n items) (omega arith) in
      record {
        within = omega (arith, length-set items (l + rest) x);
        inside = m.inside;
        moved = rw (take-set-le l items (l + rest) x (omega arith), stands)
            (IsPermutation-trans all (take left items ++ (take rest others ++ drop (left + rest) items)) (take l items ++ (take rest others ++ x ∷ drop (l + rest + 1) items)) m.moved
            (rw (front, behind) (one-behind (take l items) (take rest others) (drop (l + rest + 1) items) x)));
      }

  pub one-of-others : (left rest r : ℕ) (x : X) → rest ≡ r + 1 → x ≡ get_or others r x → AreMerging all others items left rest → AreMerging all others (set items (left + r) x) left r
  one-of-others left rest r x is at m =
      let last : take rest others ≡ take r others ++ x ∷ [] = ap (λ n. take n others) is ∙ take_more others r x (omega arith) ∙ ap (λ y. take r others ++ y ∷ []) (sym at) in
      let behind : drop (left + rest) items ≡ drop (left + r + 1) items = ap (λ n. drop n items) (omega arith) in
      record {
        within = omega (arith, length-set items (left + r) x);
        inside = omega arith;
        moved = rw (take-set-le left items (left + r) x (omega arith), drop-set items (left + r) x (omega arith))
            (subst (IsPermutation all) (ap (λ xs. take left items ++ (xs ++ drop (left + rest) items)) last ∙ ap (λ xs. take left items ++ ((take r others ++ x ∷ []) ++ xs)) behind ∙ ap (λ xs. take left items ++ xs) (append_assoc (take r others) (x ∷ []) (drop (left + r + 1) items))) m.moved);
      }

  pub merging-ended : (left : ℕ) → AreMerging all others items left 0 → IsPermutation all items
  merging-ended left m =
      subst (IsPermutation all) (ap (λ n. take left items ++ drop n items) (let e : left + 0 ≡ left = omega arith in e) ∙ take-append-drop left items) m.moved
