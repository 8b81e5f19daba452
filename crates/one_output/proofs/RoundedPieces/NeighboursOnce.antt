-- Equal neighbours of a ring once: its edges are those that are more than a point.
use Rattle.std.proofs.Common.{Bool, List, [], ap, cond, drop, false, inl, inr, map, not, refl, sym, take, true, ◌++◌, ◌∙◌, ◌∷◌, ◌≡◌}
use Rattle.std.proofs.lemmas.List.{map-append}
use Rattle.std.specs.List.{zip}
use Rattle.lists.specs.Member.{In}
use Rattle.osm_lattice.specs.declared.loc.Loc.{Loc}
use Rattle.osm_lattice.specs.Loc.{vector_of}
use Rattle.osm_text.specs.Rounded.{is_same, neighbours_once, unlike}
use Rattle.plane.specs.Edge as plane
use Rattle.plane.specs.Vector.{Vector}
use Rattle.plane_lists.specs.Rounded.Steps.{steps}
use Rattle.plane_lists.specs.Lists.Ring.{IsPath}
use Rattle.one_output.specs.RoundedPieces.Printed.{edge_between, edges_round}
use Rattle.one_output.proofs.RoundedPieces.ClosedPaths.{closed-told, joined, round, starts, steps-path}

-- ---- in points of the plane
in-plane : (ps qs : List Loc) → map joined (zip (map vector_of ps) (map vector_of qs)) ≡ map edge_between (zip ps qs)
in-plane [] qs = refl
in-plane (p ∷ ps) [] = refl
in-plane (p ∷ ps) (q ∷ qs) = ap (λ (es : List plane.Edge). edge_between (p, q) ∷ es) (in-plane ps qs)

pub round-is : (ps : List Loc) → round (map vector_of ps) ≡ edges_round ps
round-is [] = refl
round-is (p ∷ ps) =
    ap (λ (vs : List Vector). map joined (zip (map vector_of (p ∷ ps)) vs)) (sym (map-append vector_of ps (p ∷ []))) ∙ in-plane (p ∷ ps) (ps ++ p ∷ [])

-- ---- from each location to the next, and at last to one
pub path-to : (p : Loc) (ps : List Loc) (last : Loc) → IsPath (vector_of p) (map edge_between (zip (p ∷ ps) (ps ++ last ∷ []))) (vector_of last)
path-to p [] last = (refl, refl)
path-to p (q ∷ ps) last = (refl, path-to q ps last)

start-by : (b : Bool) (p q : Loc) (es : List plane.Edge) (ls : List Loc) → starts es ≡ map vector_of ls →
    starts (cond (not b) (edge_between (p, q) ∷ es) es) ≡ map vector_of (cond b ls (p ∷ ls))
start-by true p q es ls h = h
start-by false p q es ls h = ap (λ (vs : List Vector). vector_of p ∷ vs) h

starts-left : (p : Loc) (ps : List Loc) (last : Loc) → starts (steps (map edge_between (zip (p ∷ ps) (ps ++ last ∷ [])))) ≡ map vector_of (unlike (p ∷ ps) (ps ++ last ∷ []))
starts-left p [] last = start-by (is_same p last) p last [] [] refl
starts-left p (q ∷ ps) last =
    start-by (is_same p q) p q (steps (map edge_between (zip (q ∷ ps) (ps ++ last ∷ [])))) (unlike (q ∷ ps) (ps ++ last ∷ [])) (starts-left q ps last)

pub once-steps : (ps : List Loc) → steps (edges_round ps) ≡ edges_round (neighbours_once ps)
once-steps [] = refl
once-steps (p ∷ ps) =
    closed-told (vector_of p) (steps (edges_round (p ∷ ps))) (steps-path (vector_of p) (vector_of p) (edges_round (p ∷ ps)) (path-to p ps p))
    ∙ ap round (starts-left p ps p) ∙ round-is (neighbours_once (p ∷ ps))

-- ---- it has no locations but those of the ring
kept-by : (b : Bool) (p at : Loc) (ls ps : List Loc) → In at (cond b ls (p ∷ ls)) → (In at ls → In at ps) → In at (p ∷ ps)
kept-by true p at ls ps i h = inr (h i)
kept-by false p at ls ps (inl e) h = inl e
kept-by false p at ls ps (inr i) h = inr (h i)

kept-in : (ps qs : List Loc) (at : Loc) → In at (unlike ps qs) → In at ps
kept-in [] qs at i = i
kept-in (p ∷ ps) [] at i = i
kept-in (p ∷ ps) (q ∷ qs) at i = kept-by (is_same p q) p at (unlike ps qs) ps i (kept-in ps qs at)

pub once-in : (ps : List Loc) (at : Loc) → In at (neighbours_once ps) → In at ps
once-in ps at i = kept-in ps (drop 1 ps ++ take 1 ps) at i
