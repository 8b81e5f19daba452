-- Points one unit aside on both axes: off all cut lines, and left of a direction.
use Rattle.std.proofs.Common.{ap, arith, inl, inr, pos, refl, subst, suc, sym, true, zero, Bool, List, ℕ, ℤ, ◌*◌, ◌*ℤ◌, ◌+ℤ◌, ◌-ℤ◌, ◌∙◌, ◌<◌, ◌≡◌, ◌≤◌, ◌⊎◌}
use borrow.Author.Differences.{ints}
use lib.IntN.{negsuc}
use Rattle.plane_lists.specs.Paths.Near.{near}
use Rattle.plane.specs.Sign.{Minus, Null, Plus, Sign, sign}
use Rattle.plane.specs.Vector.{IsNonZero, Vector, cross, dot}
use Rattle.plane_lists.specs.Halves.Line.{scaled_line, side}
use Rattle.osm_geom.specs.declared.cut.Axis.{Axis}
use Rattle.osm_geom.specs.declared.cut.Axis.TheVariants.{X, Y}
use Rattle.osm_geom.specs.declared.cut.Cut.{Cut}
use Rattle.osm_geom.specs.declared.cut.Side.{Side}
use Rattle.osm_geom.specs.declared.cut.Side.TheVariants.{Low, High}
use Rattle.osm_geom.specs.declared.edge.Edge.{Edge}
use Rattle.coast_split.specs.Half.{line_by}
use Rattle.coast_split.specs.SplitTree.{IsOffCuts, Tree, high_cut, low_cut, middle_of}
use Rattle.coast_split.specs.SplitTree.Tree.{Fork, Whole}
use Rattle.plane.proofs.PlaneKit.{cross-agree}
use Rattle.plane.proofs.SignKit.{agree, agree-sum, all3-out, imp, imp-out, lift, null-zero, plus-times, same, same_sign, same_sign-true, sign-*, sign-pos, times, ◌⊞◌, ◌⊟◌, ◌⊠◌}
use Rattle.coast_split.proofs.CutLines.{high-x, high-y, low-x, low-y}

-- ---- close to a point, off all cut lines
abbrev pub IsUnit : ℤ → Type 0
IsUnit w = (w ≡ pos 1) ⊎ (w ≡ pos 0 -ℤ pos 1)

no-multiple : (k : ℕ) → 1 < k → (z : ℤ) → pos k *ℤ z ≡ pos 1 → ⊥
no-multiple k l (pos zero) h = absurd (omega (arith, ints))
no-multiple k l (pos (suc n)) h = let e : k ≤ k * suc n = omega arith in absurd (omega (arith, ints))
no-multiple k l (negsuc n) h = let s = sym (plus-times (pos k) (negsuc n) (sign-pos k (omega arith))) ∙ ap sign h in absurd (cc s)

turned-product : (k z : ℤ) → k *ℤ (pos 0 -ℤ z) ≡ pos 0 -ℤ k *ℤ z
turned-product k z = same (lift k ⊠ (lift (pos 0) ⊟ lift z)) (lift (pos 0) ⊟ lift k ⊠ lift z) (omega arith)

not-unit : (k : ℕ) → 1 < k → (z w : ℤ) → IsUnit w → pos k *ℤ z ≡ w → ⊥
not-unit k l z w (inl e) h = no-multiple k l z (h ∙ e)
not-unit k l z w (inr e) h = no-multiple k l (pos 0 -ℤ z) (turned-product (pos k) z ∙ ap (λ v. pos 0 -ℤ v) (h ∙ e))

difference-none : (x w : ℤ) → sign (x -ℤ w) ≡ Null → x ≡ w
difference-none x w h = let e = null-zero (x -ℤ w) h in omega (arith, ints)

before-near : (k q a x d : ℤ) → (k *ℤ q) *ℤ a -ℤ (k *ℤ x +ℤ d) ≡ k *ℤ (q *ℤ a -ℤ x) -ℤ d
before-near k q a x d =
    same ((lift k ⊠ lift q) ⊠ lift a ⊟ (lift k ⊠ lift x ⊞ lift d)) (lift k ⊠ (lift q ⊠ lift a ⊟ lift x) ⊟ lift d) (omega arith)

behind-near : (k q a x d : ℤ) → (k *ℤ x +ℤ d) -ℤ (k *ℤ q) *ℤ a ≡ d -ℤ k *ℤ (q *ℤ a -ℤ x)
behind-near k q a x d =
    same ((lift k ⊠ lift x ⊞ lift d) ⊟ (lift k ⊠ lift q) ⊠ lift a) (lift d ⊟ lift k ⊠ (lift q ⊠ lift a ⊟ lift x)) (omega arith)

module _ (q : ℤ) (p u : Vector) (ux : IsUnit u.x) (uy : IsUnit u.y) (k : ℕ) (l : 1 < k) where
  abbrev r : ℤ
  r = pos k *ℤ q

  abbrev P : Vector
  P = near (pos k) p u

  -- a unit isn't a multiple of k
  low-apart : (a x d : ℤ) → IsUnit d → sign (r *ℤ a -ℤ (pos k *ℤ x +ℤ d)) ≡ Null → ⊥
  low-apart a x d hd h = not-unit k l (q *ℤ a -ℤ x) d hd (difference-none (pos k *ℤ (q *ℤ a -ℤ x)) d (ap sign (sym (before-near (pos k) q a x d)) ∙ h))

  high-apart : (a x d : ℤ) → IsUnit d → sign ((pos k *ℤ x +ℤ d) -ℤ r *ℤ a) ≡ Null → ⊥
  high-apart a x d hd h = not-unit k l (q *ℤ a -ℤ x) d hd (sym (difference-none d (pos k *ℤ (q *ℤ a -ℤ x)) (ap sign (sym (behind-near (pos k) q a x d)) ∙ h)))

  off-line : (axis : Axis) (s : Side) (cut : Cut) → side (scaled_line r (line_by axis s cut)) P ≡ Null → ⊥
  off-line X Low cut h = low-apart cut.at p.x u.x ux (sym (ap sign (low-x r cut.at P.x P.y)) ∙ h)
  off-line X High cut h = high-apart cut.at p.x u.x ux (sym (ap sign (high-x r cut.at P.x P.y)) ∙ h)
  off-line Y Low cut h = low-apart cut.at p.y u.y uy (sym (ap sign (low-y r cut.at P.x P.y)) ∙ h)
  off-line Y High cut h = high-apart cut.at p.y u.y uy (sym (ap sign (high-y r cut.at P.x P.y)) ∙ h)

  pub off-cuts : (o : ℕ) (es : List Edge) (t : Tree) → IsOffCuts o r P es t
  off-cuts o es Whole = tt
  off-cuts o es (Fork low high s t) =
      let x = middle_of es in (λ h. off-line x.axis Low (low_cut x o) h, λ h. off-line x.axis High (high_cut x o) h, off-cuts o low s, off-cuts o high t)

-- ---- to the left of a direction
abbrev aside_x : Sign → Sign
aside_x Plus = Minus
aside_x s = Plus

abbrev aside_y : Sign → Sign
aside_y Minus = Minus
aside_y s = Plus

abbrev unit : Sign → ℤ
unit Plus = pos 1
unit Null = pos 0
unit Minus = pos 0 -ℤ pos 1

abbrev pub aside : Vector → Vector
aside d = record { x = unit (aside_x (sign d.y)); y = unit (aside_y (sign d.x)) }

sign-unit : (s : Sign) → sign (unit s) ≡ s
sign-unit Plus = refl
sign-unit Null = refl
sign-unit Minus = refl

pub unit-x : (s : Sign) → IsUnit (unit (aside_x s))
unit-x Plus = inr refl
unit-x Null = inl refl
unit-x Minus = inl refl

pub unit-y : (s : Sign) → IsUnit (unit (aside_y s))
unit-y Plus = inl refl
unit-y Null = inl refl
unit-y Minus = inr refl

pub unit-back : (w : ℤ) → IsUnit w → IsUnit (pos 0 -ℤ w)
unit-back w (inl e) = inr (ap (λ z. pos 0 -ℤ z) e)
unit-back w (inr e) = inl (ap (λ z. pos 0 -ℤ z) e)

agree-square : (d : Vector) → agree (times (sign d.x) (sign d.x)) (times (sign d.y) (sign d.y)) (sign (dot d d)) ≡ true
agree-square d = let h = agree-sum (d.x *ℤ d.x) (d.y *ℤ d.y) (dot d d) refl in rw (sign-* d.x d.x, sign-* d.y d.y) at h

abbrev turns_left : Sign → Sign → Sign → Bool
turns_left x y c = imp (agree (times x x) (times y y) Plus) λ _. imp (agree c (times y (aside_x y)) (times x (aside_y x))) λ _. same_sign c Plus

pub aside-left : (d : Vector) → IsNonZero d → sign (cross d (aside d)) ≡ Plus
aside-left d h =
    let x = sign d.x in let y = sign d.y in let c = sign (cross d (aside d)) in
    let square = subst (λ s. agree (times x x) (times y y) s ≡ true) h (agree-square d) in
    let product = subst (λ s. agree c (times y s) (times x (aside_y x)) ≡ true) (sign-unit (aside_x y)) (subst (λ s. agree c (times y (sign (aside d).x)) (times x s) ≡ true) (sign-unit (aside_y x)) (cross-agree d (aside d))) in
    same_sign-true c Plus (imp-out _ _ (imp-out _ _ (all3-out turns_left refl x y c) square) product)
