-- The status of the first items of a list.
use Rattle.std.proofs.Common.{All, Bool, List, [], ap, arith, cond, drop, false, filter, get_or, inl, length, map, refl, subst, suc, sym, take, true, ℕ, ⊎_elim, ◌++◌, ◌+◌, ◌<◌, ◌∙◌, ◌∷◌, ◌≡◌, ◌≤◌}
use Rattle.std.specs.List.{AllWithin, insert, sum_by}
use Rattle.std.proofs.Math.Seq.{drop-cons}
use Rattle.std.proofs.lemmas.List.{append-nil, get_or-drop, length-drop, map-append, take-append-drop, take_more}
use Rattle.std.proofs.lemmas.List.Elements.{All-cons, All-head, All-tail, filter-append}
use Rattle.std.proofs.lemmas.List.Sums.{sum_by-append, sum_by-cons}
use Rattle.plane.specs.Conflict.{IsClearOf}
use Rattle.plane.specs.Edge.{Edge, IsRisingEdge}
use Rattle.plane.specs.Height.{is_in_span, is_right_above}
use Rattle.plane.specs.Vector.{Vector}
use Rattle.plane.proofs.PlaneKit.{clear_back}
use Rattle.plane_lists.specs.Lists.ConflictFree.{IsConflictFree}
use Rattle.lists.specs.Member.{EachPair, In}
use Rattle.plane_lists.proofs.WindingKit.{rising_in}
use Rattle.lists.proofs.ListsKit.{all-in, in-filter, in-left, in-map, in-passes, in-right, into-filter, pairs-across, pairs-left}
use Rattle.plane_lists.specs.Statuses.Status.{IsStatus, spanning}
use Rattle.plane_lists.proofs.Statuses.Statuses.{enters, passes}

module _ {X : Type 0} (edge : X → Edge) where
  -- a status is told by the items that span the height
  pub same_spanning : (p : Vector) (xs ys status : List X) → spanning edge p xs ≡ spanning edge p ys → IsStatus edge p xs status → IsStatus edge p ys status
  same_spanning p xs ys status e is = record { order = is.order; whole = λ f. is.whole f ∙ ap (sum_by f) e; members = λ k d h. subst (In (get_or status k d)) e (is.members k d h) }

  -- an item at the end of the list instead of its front
  pub to_end : (p : Vector) (xs status : List X) (x : X) → IsStatus edge p (x ∷ xs) status → IsStatus edge p (xs ++ x ∷ []) status
  to_end p xs status x is =
      let sp = λ (t : X). is_in_span p (edge t) in
      record {
        order = is.order;
        whole = λ f. is.whole f ∙ moved f (sp x) refl;
        members = λ k d h.
            let t = get_or status k d in let i = is.members k d h in
            into-filter sp (xs ++ x ∷ []) t (⊎_elim (λ (e : t ≡ x). in-right xs (x ∷ []) t (inl e)) (λ (j : In t xs). in-left xs (x ∷ []) t j) (in-filter sp (x ∷ xs) t i)) (in-passes sp (x ∷ xs) t i);
      }
    where
      turned : (m n : ℕ) → m + n ≡ n + m
      turned m n = omega arith

      moved : (f : X → ℕ) (b : Bool) → is_in_span p (edge x) ≡ b → sum_by f (spanning edge p (x ∷ xs)) ≡ sum_by f (spanning edge p (xs ++ x ∷ []))
      moved f b e =
          let sp = λ (t : X). is_in_span p (edge t) in
          sum-front f b e ∙ sym (ap (sum_by f) (filter-append sp xs (x ∷ [])) ∙ sum_by-append f (filter sp xs) (filter sp (x ∷ [])) ∙ ap (λ n. sum_by f (filter sp xs) + n) (sum-one f b e))
        where
          sum-front : (f : X → ℕ) (b : Bool) → is_in_span p (edge x) ≡ b → sum_by f (spanning edge p (x ∷ xs)) ≡ sum_by f (spanning edge p xs) + cond b (f x) 0
          sum-front f true e = ap (λ b. sum_by f (cond b (x ∷ spanning edge p xs) (spanning edge p xs))) e ∙ sum_by-cons f x (spanning edge p xs) ∙ turned (f x) (sum_by f (spanning edge p xs))
          sum-front f false e = ap (λ b. sum_by f (cond b (x ∷ spanning edge p xs) (spanning edge p xs))) e ∙ omega arith

          sum-one : (f : X → ℕ) (b : Bool) → is_in_span p (edge x) ≡ b → sum_by f (spanning edge p (x ∷ [])) ≡ cond b (f x) 0
          sum-one f true e = ap (λ b. sum_by f (cond b (x ∷ []) [])) e ∙ sum_by-cons f x [] ∙ omega arith
          sum-one f false e = ap (λ b. sum_by f (cond b (x ∷ []) [])) e

  module _ (xs : List X) (k : ℕ) (x : X) (inside : k < length xs) (next : (d : X) → get_or xs k d ≡ x) where
    -- the first items and the next one
    more : take k xs ++ x ∷ [] ≡ take (k + 1) xs
    more = sym (take_more xs k x inside ∙ ap (λ t. take k xs ++ t ∷ []) (next x))

    free_more : IsConflictFree (map edge xs) → IsConflictFree (map edge (x ∷ take k xs))
    free_more free =
        let front = map edge (take k xs) in let back = map edge (drop k xs) in
        let parts : map edge xs ≡ front ++ back = ap (map edge) (sym (take-append-drop k xs)) ∙ map-append edge (take k xs) (drop k xs) in
        let clear = subst (EachPair IsClearOf) parts free.clear in
        let here : In x (drop k xs) = subst (In x) (sym (drop-cons xs k x inside ∙ ap (λ t. t ∷ drop (suc k) xs) (next x))) (inl refl) in
        let among = λ (e : Edge) (i : In e (front ++ back)). rising_in (map edge xs) e free (subst (In e) (sym parts) i) in
        record {
          rising = All-cons IsRisingEdge (edge x) front (among (edge x) (in-right front back (edge x) (in-map edge (drop k xs) x here))) (all-in IsRisingEdge front (λ e i. among e (in-left front back e i)));
          clear = (
            all-in (IsClearOf (edge x)) front (λ e i. clear_back e (edge x) (pairs-across IsClearOf front back e (edge x) clear i (in-map edge (drop k xs) x here))),
            pairs-left IsClearOf front back clear,
          );
        }

    pub next_enters : (p : Vector) (status : List X) (place : ℕ) → IsConflictFree (map edge xs) → IsStatus edge p (take k xs) status → is_in_span p (edge x) ≡ true → place ≤ length status →
        AllWithin (λ (t : X). is_right_above p (edge x) (edge t) ≡ false) status 0 place → AllWithin (λ (t : X). is_right_above p (edge x) (edge t) ≡ true) status place (length status) → IsStatus edge p (take (k + 1) xs) (insert status place x)
    next_enters p status place free is spans within before after =
        subst (λ ys. IsStatus edge p ys (insert status place x)) more (to_end p (take k xs) (insert status place x) x (enters edge p (take k xs) status x place (free_more free) is spans within before after))

    pub next_passes : (p : Vector) (status : List X) → IsStatus edge p (take k xs) status → is_in_span p (edge x) ≡ false → IsStatus edge p (take (k + 1) xs) status
    next_passes p status is away = subst (λ ys. IsStatus edge p ys status) more (to_end p (take k xs) status x (passes edge p (take k xs) status x is away))

  module _ (p : Vector) (xs : List X) (k : ℕ) (none : AllWithin (λ (x : X). is_in_span p (edge x) ≡ false) xs k (length xs)) where
    none-spans : (ys : List X) → All (λ (x : X). is_in_span p (edge x) ≡ false) ys → spanning edge p ys ≡ []
    none-spans [] all = refl
    none-spans (y ∷ ys) all =
        ap (λ b. cond b (y ∷ spanning edge p ys) (spanning edge p ys)) (All-head (λ (x : X). is_in_span p (edge x) ≡ false) y ys all) ∙ none-spans ys (All-tail (λ (x : X). is_in_span p (edge x) ≡ false) y ys all)

    front-spans : spanning edge p (take k xs) ≡ spanning edge p xs
    front-spans =
        let sp = λ (x : X). is_in_span p (edge x) in
        let rest : spanning edge p (drop k xs) ≡ [] =
        none-spans (drop k xs) (λ i d h. subst (λ t. is_in_span p (edge t) ≡ false) (sym (get_or-drop k xs i d)) (none (k + i) d (omega arith) (omega (arith, length-drop k xs)))) in
        sym (append-nil (filter sp (take k xs))) ∙ ap (λ ys. filter sp (take k xs) ++ ys) (sym rest) ∙ sym (filter-append sp (take k xs) (drop k xs)) ∙ ap (filter sp) (take-append-drop k xs)

    pub front_is_all : (status : List X) → IsStatus edge p (take k xs) status → IsStatus edge p xs status
    front_is_all status is = same_spanning p (take k xs) xs status front-spans is

    pub all_is_front : (status : List X) → IsStatus edge p xs status → IsStatus edge p (take k xs) status
    all_is_front status is = same_spanning p xs (take k xs) status (sym front-spans) is
