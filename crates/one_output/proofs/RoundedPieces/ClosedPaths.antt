-- Closed paths: they are told by the points that their edges leave, and stay closed where points are moved or left out.
use Rattle.std.proofs.Common.{Bool, List, [], ap, cond, drop, false, map, not, refl, subst, sym, take, true, ◌++◌, ◌∙◌, ◌∷◌, ◌≡◌}
use Rattle.std.specs.List.{zip}
use Rattle.plane.specs.Edge.{Edge}
use Rattle.plane.specs.Vector.{Vector, same_point}
use Rattle.plane.proofs.PlaneKit.{same_point-true}
use Rattle.plane_lists.specs.Rounded.Square.{moved_edges}
use Rattle.plane_lists.specs.Rounded.Steps.{steps}
use Rattle.plane_lists.specs.Lists.Ring.{IsPath}

-- the points that edges leave
abbrev pub starts : List Edge → List Vector
starts es = map (λ (e : Edge). e.from) es

abbrev pub joined : Vector × Vector → Edge
joined step = record { from = step.0; to = step.1 }

abbrev pub round : List Vector → List Edge
round vs = map joined (zip vs (drop 1 vs ++ take 1 vs))

-- ---- told by its starts
path-told : (a b : Vector) (es : List Edge) → IsPath a es b → es ≡ map joined (zip (starts es) (drop 1 (starts es) ++ b ∷ []))
path-told a b [] h = refl
path-told a b (e ∷ []) h = ap (λ (v : Vector). joined (e.from, v) ∷ []) h.1
path-told a b (e ∷ (f ∷ es)) h =
    let first : e ≡ joined (e.from, f.from) = ap (λ (v : Vector). joined (e.from, v)) (sym h.1.0) in
    let rest = path-told e.to b (f ∷ es) h.1 in (λ i. first i ∷ rest i)

pub closed-told : (a : Vector) (es : List Edge) → IsPath a es a → es ≡ round (starts es)
closed-told a [] h = refl
closed-told a (e ∷ es) h = path-told a e.from (e ∷ es) (subst (λ (v : Vector). IsPath a (e ∷ es) v) (sym h.0) h)

-- ---- kept
pub moved-path : (f : Vector → Vector) (a b : Vector) (es : List Edge) → IsPath a es b → IsPath (f a) (moved_edges f es) (f b)
moved-path f a b [] h = ap f h
moved-path f a b (e ∷ es) h = (ap f h.0, moved-path f e.to b es h.1)

step-by : (a b : Vector) (e : Edge) (es : List Edge) → e.from ≡ a → IsPath e.to es b → (c : Bool) → same_point e.from e.to ≡ c → IsPath a (cond (not c) (e ∷ es) es) b
step-by a b e es first rest false h = (first, rest)
step-by a b e es first rest true h = subst (λ (v : Vector). IsPath v es b) (sym (same_point-true e.from e.to h) ∙ first) rest

pub steps-path : (a b : Vector) (es : List Edge) → IsPath a es b → IsPath a (steps es) b
steps-path a b [] h = h
steps-path a b (e ∷ es) h = step-by a b e (steps es) h.0 (steps-path e.to b es h.1) (same_point e.from e.to) refl
