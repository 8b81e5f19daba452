-- Two edges, each with its lower end below its upper one: where they begin and end beside each other tells that they don't conflict, and the other way round.
use Rattle.std.proofs.Common.{Bool, not, refl, subst, true, ◌&&◌, ◌∙◌, ◌≡◌}
use Rattle.plane.specs.Conflict.{IsClearOf}
use Rattle.plane.specs.Edge.{Edge}
use Rattle.plane.specs.Order.{order}
use Rattle.plane.specs.Sign.{Minus, Null, Plus, Sign, is_null, negated, sign}
use Rattle.plane.specs.Vector.{cross, from_to, orient}
use Rattle.plane.proofs.PlaneKit.{conflict_by, conflicts-by, step_of, cross-chain, cross-negated}
use Rattle.plane.proofs.SignKit.{agree, agree-sum, all, all-out, all4, all4-out, imp, imp-out, same_sign}
use Rattle.lists.proofs.ListsKit.{not-true-out}

-- how e turns into f: Plus where f turns right of e on its way up
abbrev pub fans : Edge → Edge → Sign
fans e f = sign (cross (step_of f) (step_of e))

-- ---- the side of the upper end follows from that of the lower end and from the turn
pub turn-first : (e f : Edge) → agree (orient e.from e.to f.from) (negated (fans e f)) (orient e.from e.to f.to) ≡ true
turn-first e f =
    subst (λ s. agree (orient e.from e.to f.from) s (orient e.from e.to f.to) ≡ true) (cross-negated (step_of f) (step_of e))
    (agree-sum (cross (from_to e.from e.to) (from_to e.from f.from)) (cross (from_to e.from e.to) (from_to f.from f.to)) (cross (from_to e.from e.to) (from_to e.from f.to)) (cross-chain (from_to e.from e.to) e.from f.from f.to))

pub turn-second : (e f : Edge) → agree (orient f.from f.to e.from) (fans e f) (orient f.from f.to e.to) ≡ true
turn-second e f = agree-sum (cross (from_to f.from f.to) (from_to f.from e.from)) (cross (from_to f.from f.to) (from_to e.from e.to)) (cross (from_to f.from f.to) (from_to f.from e.to)) (cross-chain (from_to f.from f.to) f.from e.from e.to)

-- ---- beside each other
-- h: which begins first; a: the side of e on which f begins, c: the side of f on which e begins, s: the turn. The later one begins beside the other, e on the left
abbrev pub begin_by : Sign → Sign → Sign → Sign → Bool
begin_by Plus a c s = same_sign a Minus
begin_by Minus a c s = same_sign c Plus
begin_by Null a c s = same_sign s Plus && (is_null a && is_null c)

abbrev pub end_by : Sign → Sign → Sign → Bool
end_by Plus b d = same_sign d Plus
end_by Minus b d = same_sign b Minus
end_by Null b d = is_null b && is_null d

-- the later of the two begins beside the other, or both begin at one point; e is on the left
pub record BeginsLeft (e f : Edge) : Type 0 where
  pub begins : begin_by (order e.from f.from) (orient e.from e.to f.from) (orient f.from f.to e.from) (fans e f) ≡ true

-- the first of the two to end does so beside the other, or both end at one point; e is on the left
pub record EndsLeft (e f : Edge) : Type 0 where
  pub ends : end_by (order e.to f.to) (orient e.from e.to f.to) (orient f.from f.to e.to) ≡ true

abbrev two_ends_3 : Sign → Sign → Sign → Sign → Sign → Sign → Sign → Sign → Sign → Bool
two_ends_3 a b c d s h k m n =
    imp (begin_by h a c s) λ _. imp (end_by n b d) λ _. not (conflict_by a b c d h k m n)

abbrev two_ends_2 : Sign → Sign → Sign → Sign → Sign → Bool
two_ends_2 s a b c d = imp (agree a (negated s) b) λ _. imp (agree c s d) λ _. all4 (two_ends_3 a b c d s)

abbrev two_ends_1 : Sign → Bool
two_ends_1 s = all4 (two_ends_2 s)

two_ends_compute : all two_ends_1 ≡ true
two_ends_compute = refl

-- edges that begin and end beside each other don't conflict
pub two_ends : (e f : Edge) → BeginsLeft e f → EndsLeft e f → IsClearOf e f
two_ends e f begins ends =
    let a = orient e.from e.to f.from in let b = orient e.from e.to f.to in let c = orient f.from f.to e.from in let d = orient f.from f.to e.to in let s = fans e f in
    let t = all4-out (two_ends_2 s) (all-out two_ends_1 two_ends_compute s) a b c d in
    let u = all4-out (two_ends_3 a b c d s) (imp-out _ _ (imp-out _ _ t (turn-first e f)) (turn-second e f)) (order e.from f.from) (order e.from f.to) (order e.to f.from) (order e.to f.to) in
    conflicts-by e f ∙ not-true-out _ (imp-out _ _ (imp-out _ _ u begins.begins) ends.ends)
