-- Items that end leave a status one after the other.
use Rattle.std.proofs.Common.{All, Bool, List, [], ap, arith, cond, drop, false, filter, get_or, length, refl, remove, subst, suc, sym, take, true, zero, ℕ, ⊎_elim, ◌++◌, ◌+◌, ◌<◌, ◌∙◌, ◌∷◌, ◌≡◌, ◌≢◌, ◌≤◌, inl, inr}
use Rattle.std.specs.List.{AllWithin}
use Rattle.std.proofs.Math.Seq.{drop-cons}
use Rattle.std.proofs.lemmas.Bool.{cases_lt}
use Rattle.std.proofs.lemmas.List.{get_or-drop, length-drop, take-append-drop}
use Rattle.std.proofs.lemmas.List.Edits.{get_or-remove_above, get_or-remove_below, length-remove}
use Rattle.std.proofs.lemmas.List.Elements.{All-filter, All-head, All-tail, filter-append, filter_passes}
use Rattle.std.proofs.lemmas.List.Kept.{AllPairs-filter}
use Rattle.std.proofs.lemmas.List.Quantifiers.{all_pairs_remove}
use Rattle.plane.specs.Edge.{Edge}
use Rattle.plane.specs.Height.{is_in_span}
use Rattle.plane.specs.Vector.{Vector}
use Rattle.plane.proofs.PlaneKit.{right_itself, right_of}
use Rattle.lists.specs.Member.{In}
use Rattle.lists.proofs.ListsKit.{in-either, in-filter, in-passes}
use Rattle.plane_lists.specs.Statuses.Leaving.{Remains}
use Rattle.plane_lists.specs.Statuses.Status.{IsStatus}

unlike : {b : Bool} → b ≡ true → b ≡ false → ⊥
unlike h k = cc (sym h ∙ k)

module _ {X : Type 0} where
  -- what holds of the first items of a list holds of their members
  pub in-front : (P : X → Type 0) (xs : List X) (place : ℕ) → AllWithin P xs 0 place → (x : X) → In x (take place xs) → P x
  in-front P xs zero all x i = absurd i
  in-front P [] (suc place) all x i = absurd i
  in-front P (y ∷ ys) (suc place) all x (inl e) = subst P (sym e) (all 0 y (omega arith) (omega arith))
  in-front P (y ∷ ys) (suc place) all x (inr i) = in-front P ys place (λ k d h l. all (suc k) d (omega arith) (omega arith)) x i

  filter-whole : (test : X → Bool) (xs : List X) → All (λ x. test x ≡ true) xs → filter test xs ≡ xs
  filter-whole test [] all = refl
  filter-whole test (x ∷ xs) all =
      ap (λ b. cond b (x ∷ filter test xs) (filter test xs)) (All-head (λ x. test x ≡ true) x xs all) ∙ ap (λ ys. x ∷ ys) (filter-whole test xs (All-tail (λ x. test x ≡ true) x xs all))

  -- taking out one that fails a test leaves what passes as it is
  pub filter-remove : (test : X → Bool) (xs : List X) (at : ℕ) (x : X) → at < length xs → get_or xs at x ≡ x → test x ≡ false → filter test (remove xs at) ≡ filter test xs
  filter-remove test xs at x inside is fails =
      let back = drop (suc at) xs in
      let passes : filter test (x ∷ back) ≡ filter test back = ap (λ b. cond b (x ∷ filter test back) (filter test back)) fails in
      filter-append test (take at xs) back ∙ ap (λ ys. filter test (take at xs) ++ ys) (sym passes) ∙ sym (filter-append test (take at xs) (x ∷ back))
      ∙ ap (λ ys. filter test (take at xs ++ ys)) (sym (drop-cons xs at x inside ∙ ap (λ t. t ∷ back) is)) ∙ ap (filter test) (take-append-drop at xs)

  pub all_remain : (edge : X → Edge) (p : Vector) (xs status : List X) (stays : X → Bool) (ends : List X) (place : ℕ) → IsStatus edge p xs status → ((x : X) → In x xs → is_in_span p (edge x) ≡ true → In x ends) →
      AllWithin (λ (x : X). is_in_span p (edge x) ≡ false) ends 0 place → Remains stays ends place status status
  all_remain edge p xs status stays ends place is whole low = record {
    kept = refl;
    once = λ i j d h l e. let r = subst (λ t. right_of p (edge t) (edge (get_or status j d)) ≡ true) e (is.order i j d h l) in unlike r (right_itself p (edge (get_or status j d)));
    among = λ k d h. behind (get_or status k d) (is.members k d h);
  }
    where
      behind : (x : X) → In x (filter (λ (x : X). is_in_span p (edge x)) xs) → In x (drop place ends)
      behind x i =
          let spans = in-passes (λ (x : X). is_in_span p (edge x)) xs x i in
          ⊎_elim
          (λ j. absurd (unlike spans (in-front (λ (x : X). is_in_span p (edge x) ≡ false) ends place low x j)))
          (λ j. j)
          (in-either (take place ends) (drop place ends) x (subst (In x) (sym (take-append-drop place ends)) (whole x (in-filter (λ (x : X). is_in_span p (edge x)) xs x i) spans)))

  module _ (stays : X → Bool) (ends : List X) (place : ℕ) (old status : List X) (x : X) (is : Remains stays ends place old status)
      (some : place < length ends) (next : (d : X) → get_or ends place d ≡ x) (ends-here : stays x ≡ false) where
    -- another item than the next one is among those behind it
    behind_next : (y : X) → In y (drop place ends) → y ≢ x → In y (drop (place + 1) ends)
    behind_next y i other =
        let here : drop place ends ≡ x ∷ drop (suc place) ends = drop-cons ends place x some ∙ ap (λ t. t ∷ drop (suc place) ends) (next x) in
        subst (λ k. In y (drop k ends)) (let e : suc place ≡ place + 1 = omega arith in e) (⊎_elim (λ e. absurd (other e)) (λ j. j) (subst (In y) here i))

    pub next_is_taken_out : (at : ℕ) → at < length status → ((d : X) → get_or status at d ≡ x) → Remains stays ends (place + 1) old (remove status at)
    next_is_taken_out at inside stands = record {
      kept = filter-remove stays status at x inside (stands x) ends-here ∙ is.kept;
      once = all_pairs_remove (λ x y. x ≢ y) status at inside is.once;
      among = λ k d h.
          let len = length-remove status at inside in
          ⊎_elim
          (λ (low : k < at). moved k k d (omega arith) (λ e. omega (arith, e, low)) (get_or-remove_below status at d k low inside))
          (λ (high : at ≤ k). moved k (k + 1) d (omega (arith, len, h)) (λ e. omega (arith, e, high)) (get_or-remove_above status at d k high inside))
          (cases_lt k at);
    }
      where
        apart : (m : ℕ) (d : X) → m < length status → m ≢ at → get_or status m d ≢ x
        apart m d h other e = ⊎_elim
            (λ (low : m < at). is.once m at d low inside (e ∙ sym (stands d)))
            (λ (high : at ≤ m). is.once at m d (omega (arith, other, high)) h (stands d ∙ sym e))
            (cases_lt m at)

        moved : (k m : ℕ) (d : X) → m < length status → m ≢ at → get_or (remove status at) k d ≡ get_or status m d → In (get_or (remove status at) k d) (drop (place + 1) ends)
        moved k m d h other e = subst (λ t. In t (drop (place + 1) ends)) (sym e) (behind_next (get_or status m d) (is.among m d h) (apart m d h other))

    pub all_are_taken_out : Remains stays ends (place + 1) old (filter stays status)
    all_are_taken_out = record {
      kept = filter-whole stays (filter stays status) (filter_passes stays status) ∙ is.kept;
      once = AllPairs-filter (λ x y. x ≢ y) stays status is.once;
      among = λ k d h.
          let y = get_or (filter stays status) k d in
          behind_next y (All-filter stays (λ t. In t (drop place ends)) status is.among k d h) (λ e. unlike (filter_passes stays status k d h) (ap stays e ∙ ends-here));
    }

  pub those_that_stay_remain : (stays : X → Bool) (ends : List X) (place : ℕ) (old status : List X) → Remains stays ends place old status → AllWithin (λ x. stays x ≡ true) ends place (length ends) → status ≡ filter stays old
  those_that_stay_remain stays ends place old status is high = sym (filter-whole stays status (λ k d h. passes (get_or status k d) (is.among k d h))) ∙ is.kept
    where
      among-by : (ys : List X) → All (λ x. stays x ≡ true) ys → (x : X) → In x ys → stays x ≡ true
      among-by [] all x i = absurd i
      among-by (y ∷ ys) all x (inl e) = subst (λ t. stays t ≡ true) (sym e) (All-head (λ x. stays x ≡ true) y ys all)
      among-by (y ∷ ys) all x (inr i) = among-by ys (All-tail (λ x. stays x ≡ true) y ys all) x i

      passes : (x : X) → In x (drop place ends) → stays x ≡ true
      passes x i = among-by (drop place ends) (λ k d h. subst (λ t. stays t ≡ true) (sym (get_or-drop place ends k d)) (high (place + k) d (omega arith) (omega (arith, length-drop place ends)))) x i
