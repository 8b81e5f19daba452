-- Lists filled place by place: the answers whether rings are outer, and their enclosers.
use Rattle.std.proofs.Common.{Bool, List, [], ap, arith, false, get_or, length, subst, sym, true, ℕ, ◌++◌, ◌+◌, ◌<◌, ◌∙◌, ◌∷◌, ◌≡◌, ◌↔◌, ⊎_elim}
use Rattle.std.proofs.lemmas.Bool.{cases_lt}
use Rattle.std.proofs.lemmas.List.{get_or_append_left, get_or_default, length-append}
use Rattle.std.proofs.Math.Seq.{get_or-append_seam}
use Rattle.osm_geom.specs.declared.edge.Edge.{Edge}
use Rattle.osm_nest.specs.Enclosers.{TellOuter, TellsOuter}
use Rattle.osm_nest.specs.Outer.{IsInner, IsOuter}

module _ {X : Type 0} (P : ℕ → X → Type 0) (d : X) where
  -- the list has n items, and P holds of each at its place
  abbrev pub IsFilled : ℕ → List X → Type 0
  IsFilled n xs = (length xs ≡ n) × ((place : ℕ) → place < n → P place (get_or xs place d))

  one-more : (n : ℕ) (xs : List X) (x : X) → P n x → IsFilled n xs → IsFilled (n + 1) (xs ++ x ∷ [])
  one-more n xs x one are =
      let sized = are.0 in (
        (let s = length-append xs (x ∷ []) in omega arith),
        λ place h. ⊎_elim
            (λ l. subst (P place) (sym (get_or_append_left xs (x ∷ []) d place (omega arith))) (are.1 place l))
            (λ m. let same : place ≡ n = omega arith in
            let last : get_or (xs ++ x ∷ []) place d ≡ x = ap (λ j. get_or (xs ++ x ∷ []) j d) (same ∙ sym sized) ∙ get_or-append_seam xs x [] d in
            subst (P place) (sym last) (subst (λ j. P j x) (sym same) one))
            (cases_lt place n),
      )

  pub filled-step : (n : ℕ) (xs after : List X) (x : X) → after ≡ xs ++ x ∷ [] → P n x → IsFilled n xs → IsFilled (n + 1) after
  filled-step n xs after x made one are = subst (IsFilled (n + 1)) (sym made) (one-more n xs x one are)

-- ---- whether rings are outer
abbrev pub tells_at : List (List Edge) → ℕ → Bool → Type 0
tells_at rs place outer = TellsOuter outer (get_or rs place [])

pub told-step : (rs : List (List Edge)) (n : ℕ) (outer after : List Bool) (r : List Edge) (b : Bool) → n < length rs → r ≡ get_or rs n r → after ≡ outer ++ b ∷ [] →
    (b ≡ true) ↔ IsOuter r → (b ≡ false) ↔ IsInner r → IsFilled (tells_at rs) false n outer → IsFilled (tells_at rs) false (n + 1) after
told-step rs n outer after r b h is made out inn are =
    filled-step (tells_at rs) false n outer after b made (subst (TellsOuter b) (is ∙ get_or_default rs n r [] h) (out, inn)) are

-- the answers for all rings
pub all-told : (rs : List (List Edge)) (n : ℕ) (outer : List Bool) → n ≡ length rs → IsFilled (tells_at rs) false n outer → TellOuter rs outer
all-told rs n outer all are place h = are.1 place (omega arith)
