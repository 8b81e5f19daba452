-- Two edges without conflict, each with its lower end below its upper one: at a height that both reach they are beside each other, or have a common end there.
use Rattle.std.proofs.Common.{ap, arith, not, refl, subst, sym, true, ◌∙◌, ◌≡◌}
use borrow.Author.Differences.{ints}
use lib.IntN.{pos, ℤ, ◌*ℤ◌, ◌-ℤ◌}
use Rattle.plane.specs.Conflict.{IsClearOf}
use Rattle.plane.specs.Edge.{Edge}
use Rattle.plane.specs.Height.{distance_right}
use Rattle.plane.specs.Order.{order}
use Rattle.plane.specs.Sign.{Minus, Null, Plus, Sign, is_minus, is_null, is_plus, negated, sign, then_sign}
use Rattle.plane.specs.Vector.{Vector, cross, from_to, orient}
use Rattle.plane.proofs.PlaneKit.{conflict_by, conflicts-by, same_vector, side-there, zero-end, at-first-from, at-first-to, at-second-from, at-second-to, change-agrees, no_swap}
use Rattle.plane.proofs.SignKit.{agree, all, all-out, all2-out, all4-out, imp, imp-out, null-zero, same_sign, same_sign-true, says-at, sign-*, sign-from, sign-reversed, times, times-back, times-plus, not-null-negated}
use Rattle.osm_segments.proofs.EdgePairs.{fans}

-- ---- signs
pub agree-null : (t u : Sign) → agree Null t u ≡ true → u ≡ t
agree-null t u h = same_sign-true u t (imp-out _ _ (all2-out (λ t u. imp (agree Null t u) λ _. same_sign u t) refl t u) h)

times-minus : (s : Sign) → times Minus s ≡ negated s
times-minus Plus = refl
times-minus Null = refl
times-minus Minus = refl

negated-twice : (s : Sign) → s ≡ negated (negated s)
negated-twice Plus = refl
negated-twice Null = refl
negated-twice Minus = refl

touch-a : (b c d k n : Sign) → conflict_by Null b c d Plus k Minus n ≡ true
touch-a b c d k n = all-out (λ n. conflict_by Null b c d Plus k Minus n) (all4-out (λ b c d k. all (λ n. conflict_by Null b c d Plus k Minus n)) refl b c d k) n

touch-b : (a c d h m : Sign) → conflict_by a Null c d h Plus m Minus ≡ true
touch-b a c d h m = all-out (λ m. conflict_by a Null c d h Plus m Minus) (all4-out (λ a c d h. all (λ m. conflict_by a Null c d h Plus m Minus)) refl a c d h) m

touch-c : (a b d m n : Sign) → conflict_by a b Null d Minus Plus m n ≡ true
touch-c a b d m n = all-out (λ n. conflict_by a b Null d Minus Plus m n) (all4-out (λ a b d m. all (λ n. conflict_by a b Null d Minus Plus m n)) refl a b d m) n

touch-d : (a b c h k : Sign) → conflict_by a b c Null h k Minus Plus ≡ true
touch-d a b c h k = all-out (λ k. conflict_by a b c Null h k Minus Plus) (all4-out (λ a b c h. all (λ k. conflict_by a b c Null h k Minus Plus)) refl a b c h) k

-- ---- heights
pub order-up : (u v : Vector) → sign (v.y -ℤ u.y) ≡ Plus → order u v ≡ Plus
order-up u v h = ap (λ s. then_sign s (sign (v.x -ℤ u.x))) h

pub order-down : (u v : Vector) → sign (u.y -ℤ v.y) ≡ Plus → order u v ≡ Minus
order-down u v h = ap (λ s. then_sign s (sign (v.x -ℤ u.x))) (sign-reversed (u.y -ℤ v.y) (v.y -ℤ u.y) (omega (arith, ints)) ∙ ap negated h)

pub low-to : (a b w : ℤ) → sign (a -ℤ w) ≡ Minus → sign (b -ℤ w) ≡ Null → sign (b -ℤ a) ≡ Plus
low-to a b w h k = let x = says-at Minus (a -ℤ w) h in let y = says-at Null (b -ℤ w) k in sign-from Plus (b -ℤ a) (omega (arith, ints))

pub to-high : (a b w : ℤ) → sign (a -ℤ w) ≡ Null → sign (b -ℤ w) ≡ Plus → sign (b -ℤ a) ≡ Plus
to-high a b w h k = let x = says-at Null (a -ℤ w) h in let y = says-at Plus (b -ℤ w) k in sign-from Plus (b -ℤ a) (omega (arith, ints))

one-height : (a b w : ℤ) → sign (a -ℤ w) ≡ Null → sign (b -ℤ w) ≡ Null → a ≡ b
one-height a b w h k = let x = says-at Null (a -ℤ w) h in let y = says-at Null (b -ℤ w) k in omega (arith, ints)

-- a point on the line of an upright step, at the height of a point of the line, is that point
one-point : (d b w : Vector) → sign d.y ≡ Plus → w.y ≡ b.y → sign (cross d (from_to b w)) ≡ Null → w ≡ b
one-point d b w tall level on =
    let z : w.y -ℤ b.y ≡ pos 0 = omega (arith, ints) in
    let g : sign ((w.x -ℤ b.x) *ℤ d.y) ≡ Null =
    sign-reversed (pos 0 -ℤ (w.x -ℤ b.x) *ℤ d.y) ((w.x -ℤ b.x) *ℤ d.y) (omega (arith, ints)) ∙ ap negated (ap sign (sym (zero-end d.x d.y (w.y -ℤ b.y) (w.x -ℤ b.x) (pos 0) z)) ∙ on) in
    let x : sign (w.x -ℤ b.x) ≡ Null = sym (times-back-plus (sign (w.x -ℤ b.x)) (sign d.y) tall) ∙ sym (sign-* (w.x -ℤ b.x) d.y) ∙ g in
    let n = null-zero (w.x -ℤ b.x) x in
    same_vector w.x w.y b.x b.y (omega (arith, ints)) level
  where
    times-back-plus : (s t : Sign) → t ≡ Plus → times s t ≡ s
    times-back-plus s t h = ap (times s) h ∙ times-back s Plus ∙ times-plus s

module _ (e f : Edge) (he : sign (e.to.y -ℤ e.from.y) ≡ Plus) (hf : sign (f.to.y -ℤ f.from.y) ≡ Plus) where
  abbrev pub distance_at : Vector → Sign
  distance_at w = sign (cross (distance_right w e) (distance_right w f))

  module _ (clear : IsClearOf e f) where
    abbrev a' : Sign
    a' = orient e.from e.to f.from

    abbrev b' : Sign
    b' = orient e.from e.to f.to

    abbrev c' : Sign
    c' = orient f.from f.to e.from

    abbrev d' : Sign
    d' = orient f.from f.to e.to

    never : conflict_by a' b' c' d' (order e.from f.from) (order e.from f.to) (order e.to f.from) (order e.to f.to) ≡ true → ⊥
    never h = let g = conflicts-by e f ∙ h in cc (sym clear ∙ g)

    -- no end of one lies inside the other
    never-a : a' ≡ Null → order e.from f.from ≡ Plus → order e.to f.from ≡ Minus → ⊥
    never-a x y z = never
        (ap (λ s. conflict_by s b' c' d' (order e.from f.from) (order e.from f.to) (order e.to f.from) (order e.to f.to)) x
        ∙ ap (λ s. conflict_by Null b' c' d' s (order e.from f.to) (order e.to f.from) (order e.to f.to)) y
        ∙ ap (λ s. conflict_by Null b' c' d' Plus (order e.from f.to) s (order e.to f.to)) z ∙ touch-a b' c' d' (order e.from f.to) (order e.to f.to))

    never-b : b' ≡ Null → order e.from f.to ≡ Plus → order e.to f.to ≡ Minus → ⊥
    never-b x y z = never
        (ap (λ s. conflict_by a' s c' d' (order e.from f.from) (order e.from f.to) (order e.to f.from) (order e.to f.to)) x
        ∙ ap (λ s. conflict_by a' Null c' d' (order e.from f.from) s (order e.to f.from) (order e.to f.to)) y
        ∙ ap (λ s. conflict_by a' Null c' d' (order e.from f.from) Plus (order e.to f.from) s) z ∙ touch-b a' c' d' (order e.from f.from) (order e.to f.from))

    never-c : c' ≡ Null → order e.from f.from ≡ Minus → order e.from f.to ≡ Plus → ⊥
    never-c x y z = never
        (ap (λ s. conflict_by a' b' s d' (order e.from f.from) (order e.from f.to) (order e.to f.from) (order e.to f.to)) x
        ∙ ap (λ s. conflict_by a' b' Null d' s (order e.from f.to) (order e.to f.from) (order e.to f.to)) y
        ∙ ap (λ s. conflict_by a' b' Null d' Minus s (order e.to f.from) (order e.to f.to)) z ∙ touch-c a' b' d' (order e.to f.from) (order e.to f.to))

    never-d : d' ≡ Null → order e.to f.from ≡ Minus → order e.to f.to ≡ Plus → ⊥
    never-d x y z = never
        (ap (λ s. conflict_by a' b' c' s (order e.from f.from) (order e.from f.to) (order e.to f.from) (order e.to f.to)) x
        ∙ ap (λ s. conflict_by a' b' c' Null (order e.from f.from) (order e.from f.to) s (order e.to f.to)) y
        ∙ ap (λ s. conflict_by a' b' c' Null (order e.from f.from) (order e.from f.to) Minus s) z ∙ touch-d a' b' c' (order e.from f.from) (order e.from f.to))

    module _ (w : Vector) (null : distance_at w ≡ Null) (turns : not (is_null (fans e f)) ≡ true) where
      at-end : (v : Vector) (g : Sign) → sign (v.y -ℤ w.y) ≡ g → distance_at v ≡ times g (fans e f)
      at-end v g h = agree-null (times g (fans e f)) (distance_at v)
          (subst (λ g. agree Null (times g (fans e f)) (distance_at v) ≡ true) h (subst (λ s. agree s (times (sign (v.y -ℤ w.y)) (fans e f)) (distance_at v) ≡ true) null (change-agrees e f he hf w v)))

      not-both : sign (e.from.y -ℤ w.y) ≡ Minus → sign (e.to.y -ℤ w.y) ≡ Plus → sign (f.from.y -ℤ w.y) ≡ Minus → sign (f.to.y -ℤ w.y) ≡ Plus → ⊥
      not-both x y z u =
          let s = fans e f in
          no_swap e f he hf clear (negated s) (not-null-negated s turns) (at-end e.from Minus x ∙ times-minus s) (at-end f.from Minus z ∙ times-minus s) (at-end e.to Plus y ∙ times-plus s ∙ negated-twice s) (at-end f.to Plus u ∙ times-plus s ∙ negated-twice s)

      -- both begin below: at the height both end, in one point
      pub tops-by : (g h : Sign) → sign (e.to.y -ℤ w.y) ≡ g → sign (f.to.y -ℤ w.y) ≡ h → not (is_minus g) ≡ true → not (is_minus h) ≡ true → sign (e.from.y -ℤ w.y) ≡ Minus → sign (f.from.y -ℤ w.y) ≡ Minus →
          (e.to ≡ f.to) × (sign (e.to.y -ℤ w.y) ≡ Null)
      tops-by Minus h x y k l z u = absurd (cc k)
      tops-by Plus Minus x y k l z u = absurd (cc l)
      tops-by Null Minus x y k l z u = absurd (cc l)
      tops-by Plus Plus x y k l z u = absurd (not-both z x u y)
      tops-by Plus Null x y k l z u = absurd (never-b (at-second-to e f he hf ∙ ap negated (at-end f.to Null y)) (order-up e.from f.to (low-to e.from.y f.to.y w.y z y)) (order-down e.to f.to (to-high f.to.y e.to.y w.y y x)))
      tops-by Null Plus x y k l z u = absurd (never-d (sym (at-first-to e f he hf) ∙ at-end e.to Null x) (order-down e.to f.from (low-to f.from.y e.to.y w.y u x)) (order-up e.to f.to (to-high e.to.y f.to.y w.y x y)))
      tops-by Null Null x y k l z u =
          (one-point (from_to f.from f.to) f.to e.to hf (one-height e.to.y f.to.y w.y x y) (ap sign (side-there f.from f.to e.to) ∙ sym (at-first-to e f he hf) ∙ at-end e.to Null x), x)

      -- both end above: at the height both begin, in one point
      pub bottoms-by : (g h : Sign) → sign (e.from.y -ℤ w.y) ≡ g → sign (f.from.y -ℤ w.y) ≡ h → not (is_plus g) ≡ true → not (is_plus h) ≡ true → sign (e.to.y -ℤ w.y) ≡ Plus → sign (f.to.y -ℤ w.y) ≡ Plus →
          (e.from ≡ f.from) × (sign (e.from.y -ℤ w.y) ≡ Null)
      bottoms-by Plus h x y k l z u = absurd (cc k)
      bottoms-by Minus Plus x y k l z u = absurd (cc l)
      bottoms-by Null Plus x y k l z u = absurd (cc l)
      bottoms-by Minus Minus x y k l z u = absurd (not-both x z y u)
      bottoms-by Minus Null x y k l z u = absurd (never-a (at-second-from e f he hf ∙ ap negated (at-end f.from Null y)) (order-up e.from f.from (low-to e.from.y f.from.y w.y x y)) (order-down e.to f.from (to-high f.from.y e.to.y w.y y z)))
      bottoms-by Null Minus x y k l z u = absurd (never-c (sym (at-first-from e f he hf) ∙ at-end e.from Null x) (order-down e.from f.from (low-to f.from.y e.from.y w.y y x)) (order-up e.from f.to (to-high e.from.y f.to.y w.y x u)))
      bottoms-by Null Null x y k l z u =
          (one-point (from_to f.from f.to) f.from e.from hf (one-height e.from.y f.from.y w.y x y) (sym (at-first-from e f he hf) ∙ at-end e.from Null x), x)
