-- The steps of cutting a closed walk with a stack.
use Rattle.std.proofs.Common.{◌≡◌, ◌≢◌, ℕ, ◌+◌, ◌-◌, ◌<◌, ◌≤◌, List, [], ◌∷◌, ◌++◌, length, get_or, take, drop, set, All, refl, sym, ap, ◌∙◌, arith, ⊎_elim}
use Rattle.std.proofs.lemmas.List.{append_assoc, append-nil, drop_more, get_or-set_same, get_or-set_other, length-take-le, length-drop, take-append-drop}
use Rattle.std.proofs.lemmas.List.Elements.{All-push, All-take}
use Rattle.std.proofs.lemmas.Bool.{cases_lt, cases_Bool, cond-true, cond-false, and_parts, and_cases, ltb-true, ltb-false, eqb-true, eqb-false}
use Rattle.orbits.specs.Cutting.{IsPiece, AreCutOff, first_key}
use Rattle.orbits.specs.Taking.{has_key_at, left_by, IsTaken}
use Rattle.orbits.proofs.Reading.{at_take, at_drop, at_old, at_new, length_push}

-- the stack, what has been cut off, and what is left of the walk: whatever is cut off the stack and the rest comes after what has been cut off
pub record IsStack (keys walk depths : List ℕ) (place : ℕ) (pieces : List (List ℕ)) (stack : List ℕ) : Type 0 where
  pub leads : (ps : List (List ℕ)) → AreCutOff keys (stack ++ drop place walk) ps → AreCutOff keys walk (pieces ++ ps)
  pub keyed : All (λ i. i < length keys) stack
  pub simple : (i j : ℕ) → i < j → j < length stack → get_or keys (get_or stack i 0) 0 ≢ get_or keys (get_or stack j 0) 0
  pub found : (k : ℕ) → k < length stack → get_or depths (get_or keys (get_or stack k 0) 0) 0 ≡ k

pub stack_empty : (keys walk depths : List ℕ) → IsStack keys walk depths 0 [] []
stack_empty keys walk depths = record {
  leads = λ ps cut. cut;
  keyed = λ k d h. absurd (omega arith);
  simple = λ i j h m. absurd (omega arith);
  found = λ k h. absurd (omega arith);
}

module _ (keys walk depths : List ℕ) (place : ℕ) (pieces : List (List ℕ)) (stack : List ℕ) (inv : IsStack keys walk depths place pieces stack) where
  module _ (item : ℕ) (l : place < length walk) (is : item ≡ get_or walk place 0) (keyed : item < length keys) where
    rest_is : drop place walk ≡ item ∷ drop (place + 1) walk
    rest_is = rw is (drop_more walk place 0 l)

    push_stack : get_or keys item 0 < length depths → ((k : ℕ) → k < length stack → get_or keys (get_or stack k 0) 0 ≢ get_or keys item 0) → IsStack keys walk (set depths (get_or keys item 0) (length stack)) (place + 1) pieces (stack ++ item ∷ [])
    push_stack fits new =
        let long = length_push stack item in
        record {
          leads = λ ps cut.
              let same : (stack ++ item ∷ []) ++ drop (place + 1) walk ≡ stack ++ drop place walk = append_assoc stack (item ∷ []) (drop (place + 1) walk) ∙ ap (λ r. stack ++ r) (sym rest_is) in
              inv.leads ps (rw (← same) cut);
          keyed = All-push (λ i. i < length keys) stack item inv.keyed keyed;
          simple = λ i j h m.
              rw (at_old stack item i (omega arith)) (⊎_elim (λ n. rw (at_old stack item j n) (inv.simple i j h n))
              (λ n. rw (at_new stack item j (omega arith)) (new i (omega arith)))
              (cases_lt j (length stack)));
          found = λ k h. ⊎_elim
              (λ m. let e : get_or (stack ++ item ∷ []) k 0 ≡ get_or stack k 0 = at_old stack item k m in
              rw e (get_or-set_other depths (get_or keys item 0) (get_or keys (get_or stack k 0) 0) (length stack) 0 (new k m) ∙ inv.found k m))
              (λ m. let last : k ≡ length stack = omega arith in
              let e : get_or (stack ++ item ∷ []) k 0 ≡ item = at_new stack item k last in
              rw e (get_or-set_same depths (get_or keys item 0) (length stack) 0 fits ∙ sym last))
              (cases_lt k (length stack));
        }

    -- a key that the stack does not have where its depth says is not on it
    pub step_past : (m : ℕ) (after : List ℕ) → get_or keys item 0 < length depths → length stack ≤ get_or depths (get_or keys item 0) 0 → m ≡ length stack → after ≡ stack ++ item ∷ [] → IsStack keys walk (set depths (get_or keys item 0) m) (place + 1) pieces after
    step_past m after fits past e f = rw (e, f) (push_stack fits (λ k h same.
        let at_k : get_or depths (get_or keys item 0) 0 ≡ k = ap (λ x. get_or depths x 0) (sym same) ∙ inv.found k h in
        absurd (omega arith)))

    pub step_other : (m : ℕ) (after : List ℕ) → get_or keys item 0 < length depths → get_or keys (get_or stack (get_or depths (get_or keys item 0) 0) 0) 0 ≢ get_or keys item 0 → m ≡ length stack → after ≡ stack ++ item ∷ [] → IsStack keys walk (set depths (get_or keys item 0) m) (place + 1) pieces after
    step_other m after fits other e f = rw (e, f) (push_stack fits (λ k h same.
        let at_k : get_or depths (get_or keys item 0) 0 ≡ k = ap (λ x. get_or depths x 0) (sym same) ∙ inv.found k h in
        other (ap (λ x. get_or keys (get_or stack x 0) 0) at_k ∙ same)))

  -- the part of the stack from a place on is a piece where what comes next begins at its key
  piece_on_stack : (d : ℕ) (rest : List ℕ) → d < length stack → first_key keys (rest ++ drop d stack) ≡ get_or keys (get_or stack d 0) 0 → IsPiece keys (drop d stack) rest
  piece_on_stack d rest l same =
      let long : length (drop d stack) ≡ length stack - d = length-drop d stack in
      let head : get_or (drop d stack) 0 0 ≡ get_or stack d 0 = at_drop stack d 0 ∙ ap (λ k. get_or stack k 0) (omega arith) in
      record {
        some = omega arith;
        simple = λ i j h m. rw (at_drop stack d i, at_drop stack d j) (inv.simple (d + i) (d + j) (omega arith) (omega arith));
        closed = same ∙ ap (λ i. get_or keys i 0) (sym head);
      }

  -- it is cut off
  pub cut_stack : (item d : ℕ) → place < length walk → item ≡ get_or walk place 0 → d < length stack → get_or keys (get_or stack d 0) 0 ≡ get_or keys item 0 → IsStack keys walk depths place (pieces ++ drop d stack ∷ []) (take d stack)
  cut_stack item d l is h same =
      let short : length (take d stack) ≡ d = length-take-le d stack (omega arith) in
      let rest : drop place walk ≡ item ∷ drop (place + 1) walk = rw is (drop_more walk place 0 l) in
      record {
        leads = λ ps cut.
            let parts : stack ++ drop place walk ≡ take d stack ++ (drop d stack ++ drop place walk) = ap (λ s. s ++ drop place walk) (sym (take-append-drop d stack)) ∙ append_assoc (take d stack) (drop d stack) (drop place walk) in
            let piece : IsPiece keys (drop d stack) (drop place walk ++ take d stack) = piece_on_stack d (drop place walk ++ take d stack) h (rw rest (sym same)) in
            rw (append_assoc pieces (drop d stack ∷ []) ps) (inv.leads (drop d stack ∷ ps) (take d stack, drop place walk, parts, piece, cut));
        keyed = All-take (λ i. i < length keys) d stack inv.keyed;
        simple = λ i j m n. rw (at_take stack d i (omega arith), at_take stack d j (omega arith)) (inv.simple i j m (omega arith));
        found = λ k m. rw (at_take stack d k (omega arith)) (inv.found k (omega arith));
      }

  pub left_is_new : (item d : ℕ) → d < length stack → get_or keys (get_or stack d 0) 0 ≡ get_or keys item 0 → (k : ℕ) → k < length (take d stack) → get_or keys (get_or (take d stack) k 0) 0 ≢ get_or keys item 0
  left_is_new item d h same k m e =
      let short : length (take d stack) ≡ d = length-take-le d stack (omega arith) in
      let here : get_or (take d stack) k 0 ≡ get_or stack k 0 = at_take stack d k (omega arith) in
      inv.simple k d (omega arith) h (ap (λ x. get_or keys x 0) (sym here) ∙ (e ∙ sym same))

  -- what is left on the stack at the end is the last piece
  pub cut_rest : drop place walk ≡ [] → 0 < length stack → AreCutOff keys walk (pieces ++ stack ∷ [])
  cut_rest none some =
      let piece : IsPiece keys stack [] = record { some = some; simple = inv.simple; closed = refl } in
      inv.leads (stack ∷ []) ([], [], ap (λ r. stack ++ r) none, piece, refl)

  pub cut_all : drop place walk ≡ [] → length stack ≡ 0 → AreCutOff keys walk pieces
  cut_all none empty = rw (append-nil pieces) at (inv.leads [] (rw none (no_items stack empty)))
    where
      no_items : (xs : List ℕ) → length xs ≡ 0 → xs ++ [] ≡ []
      no_items [] e = refl
      no_items (x ∷ xs) e = absurd (omega arith)

module _ (keys walk depths : List ℕ) (place : ℕ) (pieces : List (List ℕ)) (stack : List ℕ) (inv : IsStack keys walk depths place pieces stack) where
  -- it is cut off, and the item goes on the stack
  pub step_cut : (item d m : ℕ) (pieces_after : List (List ℕ)) (left after : List ℕ) → place < length walk → item ≡ get_or walk place 0 → item < length keys → get_or keys item 0 < length depths → d < length stack → get_or keys (get_or stack d 0) 0 ≡ get_or keys item 0 → pieces_after ≡ pieces ++ drop d stack ∷ [] → left ≡ take d stack → m ≡ length left → after ≡ left ++ item ∷ [] → IsStack keys walk (set depths (get_or keys item 0) m) (place + 1) pieces_after after
  step_cut item d m pieces_after left after l is keyed fits h same p q e f =
      rw (p, f, e, q) (push_stack keys walk depths place (pieces ++ drop d stack ∷ []) (take d stack) (cut_stack keys walk depths place pieces stack inv item d l is h same) item l is keyed fits (left_is_new keys walk depths place pieces stack inv item d h same))

  -- whether or not it cuts something off, the item goes on the stack
  pub step_taken : (item : ℕ) (depths_after stack_after : List ℕ) (pieces_after : List (List ℕ)) → place < length walk → item ≡ get_or walk place 0 → item < length keys → get_or keys item 0 < length depths → IsTaken keys item depths depths_after stack stack_after pieces pieces_after → IsStack keys walk depths_after (place + 1) pieces_after stack_after
  step_taken item depths_after stack_after pieces_after l is keyed fits t =
      let key = get_or keys item 0 in
      let depth = get_or depths key 0 in
      let has = has_key_at keys stack depth key in
      rw t.depths_are (⊎_elim
      (λ e.
      let both = and_parts _ _ e in
      let inside : depth < length stack = ltb-true depth (length stack) both.0 in
      let same : get_or keys (get_or stack depth 0) 0 ≡ key = eqb-true (get_or keys (get_or stack depth 0) 0) key both.1 in
      let left_is : left_by keys item depths stack ≡ take depth stack = cond-true has (take depth stack) stack e in
      let cut_is : pieces_after ≡ pieces ++ drop depth stack ∷ [] = t.pieces_are ∙ cond-true has (pieces ++ drop depth stack ∷ []) pieces e in
      step_cut item depth (length (left_by keys item depths stack)) pieces_after (left_by keys item depths stack) stack_after l is keyed fits inside same cut_is left_is refl t.stack_is)
      (λ e.
      let left_is : left_by keys item depths stack ≡ stack = cond-false has (take depth stack) stack e in
      let whole : pieces_after ≡ pieces = t.pieces_are ∙ cond-false has (pieces ++ drop depth stack ∷ []) pieces e in
      let long : length (left_by keys item depths stack) ≡ length stack = ap length left_is in
      let after_is : stack_after ≡ stack ++ item ∷ [] = t.stack_is ∙ ap (λ s. s ++ item ∷ []) left_is in
      rw whole (⊎_elim
      (λ past. step_past keys walk depths place pieces stack inv item l is keyed (length (left_by keys item depths stack)) stack_after fits (ltb-false depth (length stack) past) long after_is)
      (λ other. step_other keys walk depths place pieces stack inv item l is keyed (length (left_by keys item depths stack)) stack_after fits (eqb-false (get_or keys (get_or stack depth 0) 0) key other) long after_is)
      (and_cases _ _ e)))
      (cases_Bool has))
