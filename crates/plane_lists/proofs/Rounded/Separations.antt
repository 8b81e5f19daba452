-- An edge of which no point is in a square is kept apart from it by a straight line: an upright one, a level one, or one along the edge.
use Rattle.std.proofs.Common.{arith, inl, inr, refl, ◌≡◌, ◌⊎◌}
use borrow.Author.Differences.{ints}
use lib.IntN.{negsuc, pos, ℤ, ◌*ℤ◌, ◌+ℤ◌, ◌-ℤ◌}
use lib.Signed.{◌<ℤ◌, ◌≤ℤ◌}
use Rattle.plane.proofs.SignKit.{lift, same, ◌⊞◌, ◌⊟◌, ◌⊠◌}
use Rattle.lists.proofs.ListsKit.{product_not_below}

-- ---- comparing
by-difference : (x y z : ℤ) → y -ℤ x ≡ z → (x ≤ℤ y) ⊎ (y <ℤ x)
by-difference x y (pos n) e = inl (omega (arith, ints))
by-difference x y (negsuc n) e = inr (omega (arith, ints))

pub at-most : (x y : ℤ) → (x ≤ℤ y) ⊎ (y <ℤ x)
at-most x y = by-difference x y (y -ℤ x) refl

-- ---- in numbers: u and v are the ends, seen from the middle of the square

-- no point between them is in the square
abbrev pub AreFar : ℤ → ℤ → ℤ → ℤ → ℤ → Type 0
AreFar h ux uy vx vy =
    (a b : ℤ) → pos 0 ≤ℤ a → pos 0 ≤ℤ b → pos 0 <ℤ (a +ℤ b) →
    (a *ℤ ux +ℤ b *ℤ vx) ≤ℤ ((a +ℤ b) *ℤ h) → (pos 0 -ℤ (a +ℤ b) *ℤ h) ≤ℤ (a *ℤ ux +ℤ b *ℤ vx) →
    (a *ℤ uy +ℤ b *ℤ vy) ≤ℤ ((a +ℤ b) *ℤ h) → (pos 0 -ℤ (a +ℤ b) *ℤ h) ≤ℤ (a *ℤ uy +ℤ b *ℤ vy) → ⊥

-- k is more than the sum of s and t, whatever their signs
pub record IsMore (k s t : ℤ) : Type 0 where
  pub both : (s +ℤ t) <ℤ k
  pub first : (s -ℤ t) <ℤ k
  pub second : (t -ℤ s) <ℤ k
  pub none : (pos 0 -ℤ s -ℤ t) <ℤ k

-- where the square is, seen along the edge
abbrev pub turn : ℤ → ℤ → ℤ → ℤ → ℤ
turn ux uy vx vy = vx *ℤ uy -ℤ vy *ℤ ux

pub data Parting (h ux uy vx vy : ℤ) : Type 0 where
  Right : h <ℤ ux → h <ℤ vx → Parting h ux uy vx vy
  Left : h <ℤ (pos 0 -ℤ ux) → h <ℤ (pos 0 -ℤ vx) → Parting h ux uy vx vy
  Upper : h <ℤ uy → h <ℤ vy → Parting h ux uy vx vy
  Lower : h <ℤ (pos 0 -ℤ uy) → h <ℤ (pos 0 -ℤ vy) → Parting h ux uy vx vy
  Along : IsMore (turn ux uy vx vy) ((vx -ℤ ux) *ℤ h) ((vy -ℤ uy) *ℤ h) → Parting h ux uy vx vy
  Back : IsMore (pos 0 -ℤ turn ux uy vx vy) ((vx -ℤ ux) *ℤ h) ((vy -ℤ uy) *ℤ h) → Parting h ux uy vx vy

-- ---- an edge that runs to the right and up
module _ (h ux uy vx vy : ℤ) (some : pos 0 ≤ℤ h) (right : ux ≤ℤ vx) (up : uy ≤ℤ vy) (far : AreFar h ux uy vx vy) where
  first-out : ux ≤ℤ h → (pos 0 -ℤ h) ≤ℤ ux → uy ≤ℤ h → (pos 0 -ℤ h) ≤ℤ uy → ⊥
  first-out a b c d = far (pos 1) (pos 0) (omega (arith, ints)) (omega (arith, ints)) (omega (arith, ints)) (omega (arith, ints)) (omega (arith, ints)) (omega (arith, ints)) (omega (arith, ints))

  last-out : vx ≤ℤ h → (pos 0 -ℤ h) ≤ℤ vx → vy ≤ℤ h → (pos 0 -ℤ h) ≤ℤ vy → ⊥
  last-out a b c d = far (pos 0) (pos 1) (omega (arith, ints)) (omega (arith, ints)) (omega (arith, ints)) (omega (arith, ints)) (omega (arith, ints)) (omega (arith, ints)) (omega (arith, ints))

  -- it begins above the falling diagonal
  above : pos 0 <ℤ (ux +ℤ uy) → (ux ≤ℤ h) ⊎ (h <ℤ ux) → (uy ≤ℤ h) ⊎ (h <ℤ uy) → Parting h ux uy vx vy
  above s (inr x) y = Right x (omega (arith, ints))
  above s (inl x) (inr y) = Upper y (omega (arith, ints))
  above s (inl x) (inl y) = absurd (first-out x (omega (arith, ints)) y (omega (arith, ints)))

  -- it ends below it
  below : (vx +ℤ vy) <ℤ pos 0 → ((pos 0 -ℤ vx) ≤ℤ h) ⊎ (h <ℤ (pos 0 -ℤ vx)) → ((pos 0 -ℤ vy) ≤ℤ h) ⊎ (h <ℤ (pos 0 -ℤ vy)) → Parting h ux uy vx vy
  below s (inr x) y = Left (omega (arith, ints)) x
  below s (inl x) (inr y) = Lower (omega (arith, ints)) y
  below s (inl x) (inl y) = absurd (last-out (omega (arith, ints)) (omega (arith, ints)) (omega (arith, ints)) (omega (arith, ints)))

  -- it is a point on it
  on : ux +ℤ uy ≡ pos 0 → vx ≡ ux → (ux ≤ℤ h) ⊎ (h <ℤ ux) → ((pos 0 -ℤ ux) ≤ℤ h) ⊎ (h <ℤ (pos 0 -ℤ ux)) → Parting h ux uy vx vy
  on s e (inr x) y = Right x (omega (arith, ints))
  on s e (inl x) (inr y) = Left y (omega (arith, ints))
  on s e (inl x) (inl y) = absurd (first-out x (omega (arith, ints)) (omega (arith, ints)) (omega (arith, ints)))

  -- it crosses it, at a point with both coordinates k / n
  abbrev k : ℤ
  k = turn ux uy vx vy

  abbrev n : ℤ
  n = (vx +ℤ vy) +ℤ (pos 0 -ℤ (ux +ℤ uy))

  abbrev s : ℤ
  s = (vx -ℤ ux) *ℤ h

  abbrev t : ℤ
  t = (vy -ℤ uy) *ℤ h

  s-some : pos 0 ≤ℤ s
  s-some = product_not_below (vx -ℤ ux) h (omega (arith, ints)) some

  t-some : pos 0 ≤ℤ t
  t-some = product_not_below (vy -ℤ uy) h (omega (arith, ints)) some

  size : n *ℤ h ≡ s +ℤ t
  size =
      let h' = lift h in let a = lift ux in let b = lift uy in let c = lift vx in let d = lift vy in
      same (((c ⊞ d) ⊞ (lift (pos 0) ⊟ (a ⊞ b))) ⊠ h') ((c ⊟ a) ⊠ h' ⊞ (d ⊟ b) ⊠ h') (omega arith)

  at-x : (vx +ℤ vy) *ℤ ux +ℤ (pos 0 -ℤ (ux +ℤ uy)) *ℤ vx ≡ pos 0 -ℤ k
  at-x =
      let a = lift ux in let b = lift uy in let c = lift vx in let d = lift vy in
      same ((c ⊞ d) ⊠ a ⊞ (lift (pos 0) ⊟ (a ⊞ b)) ⊠ c) (lift (pos 0) ⊟ (c ⊠ b ⊟ d ⊠ a)) (omega arith)

  at-y : (vx +ℤ vy) *ℤ uy +ℤ (pos 0 -ℤ (ux +ℤ uy)) *ℤ vy ≡ k
  at-y =
      let a = lift ux in let b = lift uy in let c = lift vx in let d = lift vy in
      same ((c ⊞ d) ⊠ b ⊞ (lift (pos 0) ⊟ (a ⊞ b)) ⊠ d) (c ⊠ b ⊟ d ⊠ a) (omega arith)

  more : (z x y : ℤ) → pos 0 ≤ℤ x → pos 0 ≤ℤ y → (x +ℤ y) <ℤ z → IsMore z x y
  more z x y a b l = record { both = l; first = omega (arith, ints); second = omega (arith, ints); none = omega (arith, ints) }

  crossing : (ux +ℤ uy) ≤ℤ pos 0 → pos 0 ≤ℤ (vx +ℤ vy) → pos 0 <ℤ n → (k ≤ℤ (s +ℤ t)) ⊎ ((s +ℤ t) <ℤ k) → ((pos 0 -ℤ k) ≤ℤ (s +ℤ t)) ⊎ ((s +ℤ t) <ℤ (pos 0 -ℤ k)) → Parting h ux uy vx vy
  crossing a b c (inr x) y = Along (more k s t s-some t-some x)
  crossing a b c (inl x) (inr y) = Back (more (pos 0 -ℤ k) s t s-some t-some y)
  crossing a b c (inl x) (inl y) =
      let e = at-x in let f = at-y in let g = size in
      absurd (far (vx +ℤ vy) (pos 0 -ℤ (ux +ℤ uy)) b (omega (arith, ints)) c (omega (arith, ints)) (omega (arith, ints)) (omega (arith, ints)) (omega (arith, ints)))

  meeting : (ux +ℤ uy) ≤ℤ pos 0 → pos 0 ≤ℤ (vx +ℤ vy) → (n ≤ℤ pos 0) ⊎ (pos 0 <ℤ n) → Parting h ux uy vx vy
  meeting a b (inl z) = on (omega (arith, ints)) (omega (arith, ints)) (at-most ux h) (at-most (pos 0 -ℤ ux) h)
  meeting a b (inr c) = crossing a b c (at-most k (s +ℤ t)) (at-most (pos 0 -ℤ k) (s +ℤ t))

  by-diagonal : ((ux +ℤ uy) ≤ℤ pos 0) ⊎ (pos 0 <ℤ (ux +ℤ uy)) → (pos 0 ≤ℤ (vx +ℤ vy)) ⊎ ((vx +ℤ vy) <ℤ pos 0) → Parting h ux uy vx vy
  by-diagonal (inr a) b = above a (at-most ux h) (at-most uy h)
  by-diagonal (inl a) (inr b) = below b (at-most (pos 0 -ℤ vx) h) (at-most (pos 0 -ℤ vy) h)
  by-diagonal (inl a) (inl b) = meeting a b (at-most n (pos 0))

  right-up : Parting h ux uy vx vy
  right-up = by-diagonal (at-most (ux +ℤ uy) (pos 0)) (at-most (pos 0) (vx +ℤ vy))

-- ---- mirrored, and turned round
module _ (h ux uy vx vy : ℤ) where
  mirrored-far : AreFar h ux uy vx vy → AreFar h ux (pos 0 -ℤ uy) vx (pos 0 -ℤ vy)
  mirrored-far far a b na nb c xh xl yh yl =
      let e : a *ℤ (pos 0 -ℤ uy) +ℤ b *ℤ (pos 0 -ℤ vy) ≡ pos 0 -ℤ (a *ℤ uy +ℤ b *ℤ vy) = same (lift a ⊠ (lift (pos 0) ⊟ lift uy) ⊞ lift b ⊠ (lift (pos 0) ⊟ lift vy)) (lift (pos 0) ⊟ (lift a ⊠ lift uy ⊞ lift b ⊠ lift vy)) (omega arith) in
      far a b na nb c xh xl (omega (arith, ints)) (omega (arith, ints))

  mirrored-turn : turn ux (pos 0 -ℤ uy) vx (pos 0 -ℤ vy) ≡ pos 0 -ℤ turn ux uy vx vy
  mirrored-turn = same (lift vx ⊠ (lift (pos 0) ⊟ lift uy) ⊟ (lift (pos 0) ⊟ lift vy) ⊠ lift ux) (lift (pos 0) ⊟ (lift vx ⊠ lift uy ⊟ lift vy ⊠ lift ux)) (omega arith)

  mirrored-rise : ((pos 0 -ℤ vy) -ℤ (pos 0 -ℤ uy)) *ℤ h ≡ pos 0 -ℤ (vy -ℤ uy) *ℤ h
  mirrored-rise = same (((lift (pos 0) ⊟ lift vy) ⊟ (lift (pos 0) ⊟ lift uy)) ⊠ lift h) (lift (pos 0) ⊟ (lift vy ⊟ lift uy) ⊠ lift h) (omega arith)

  mirrored-more : (k l s t r : ℤ) → l ≡ k → r ≡ pos 0 -ℤ t → IsMore k s r → IsMore l s t
  mirrored-more k l s t r e f m =
      let a = m.both in let b = m.first in let c = m.second in let d = m.none in
      record { both = omega (arith, ints); first = omega (arith, ints); second = omega (arith, ints); none = omega (arith, ints) }

  mirrored : Parting h ux (pos 0 -ℤ uy) vx (pos 0 -ℤ vy) → Parting h ux uy vx vy
  mirrored (Right a b) = Right a b
  mirrored (Left a b) = Left a b
  mirrored (Upper a b) = Lower a b
  mirrored (Lower a b) = Upper (omega (arith, ints)) (omega (arith, ints))
  mirrored (Along m) =
      Back (mirrored-more _ _ _ _ _ (let e = mirrored-turn in omega (arith, ints)) mirrored-rise m)
  mirrored (Back m) =
      Along (mirrored-more _ _ _ _ _ (let e = mirrored-turn in omega (arith, ints)) mirrored-rise m)

  turned-far : AreFar h ux uy vx vy → AreFar h vx vy ux uy
  turned-far far a b na nb c xh xl yh yl =
      let e : (b +ℤ a) *ℤ h ≡ (a +ℤ b) *ℤ h = same ((lift b ⊞ lift a) ⊠ lift h) ((lift a ⊞ lift b) ⊠ lift h) (omega arith) in
      far b a nb na (omega (arith, ints)) (omega (arith, ints)) (omega (arith, ints)) (omega (arith, ints)) (omega (arith, ints))

  turned-turn : turn vx vy ux uy ≡ pos 0 -ℤ turn ux uy vx vy
  turned-turn = same (lift ux ⊠ lift vy ⊟ lift uy ⊠ lift vx) (lift (pos 0) ⊟ (lift vx ⊠ lift uy ⊟ lift vy ⊠ lift ux)) (omega arith)

  pub turned-step : (x y : ℤ) → (x -ℤ y) *ℤ h ≡ pos 0 -ℤ (y -ℤ x) *ℤ h
  turned-step x y = same ((lift x ⊟ lift y) ⊠ lift h) (lift (pos 0) ⊟ (lift y ⊟ lift x) ⊠ lift h) (omega arith)

  pub turned-more : (k l s t q r : ℤ) → l ≡ k → q ≡ pos 0 -ℤ s → r ≡ pos 0 -ℤ t → IsMore k q r → IsMore l s t
  turned-more k l s t q r e f g m =
      let a = m.both in let b = m.first in let c = m.second in let d = m.none in
      record { both = omega (arith, ints); first = omega (arith, ints); second = omega (arith, ints); none = omega (arith, ints) }

  turned-round : Parting h vx vy ux uy → Parting h ux uy vx vy
  turned-round (Right a b) = Right b a
  turned-round (Left a b) = Left b a
  turned-round (Upper a b) = Upper b a
  turned-round (Lower a b) = Lower b a
  turned-round (Along m) = Back (turned-more _ _ _ _ _ _ (let e = turned-turn in omega (arith, ints)) (turned-step ux vx) (turned-step uy vy) m)
  turned-round (Back m) = Along (turned-more _ _ _ _ _ _ (let e = turned-turn in omega (arith, ints)) (turned-step ux vx) (turned-step uy vy) m)

to-right : (h ux uy vx vy : ℤ) → pos 0 ≤ℤ h → ux ≤ℤ vx → AreFar h ux uy vx vy → (uy ≤ℤ vy) ⊎ (vy <ℤ uy) → Parting h ux uy vx vy
to-right h ux uy vx vy some right far (inl up) = right-up h ux uy vx vy some right up far
to-right h ux uy vx vy some right far (inr down) =
    mirrored h ux uy vx vy (right-up h ux (pos 0 -ℤ uy) vx (pos 0 -ℤ vy) some right (omega (arith, ints)) (mirrored-far h ux uy vx vy far))

pub parted : (h ux uy vx vy : ℤ) → pos 0 ≤ℤ h → AreFar h ux uy vx vy → (ux ≤ℤ vx) ⊎ (vx <ℤ ux) → Parting h ux uy vx vy
parted h ux uy vx vy some far (inl right) = to-right h ux uy vx vy some right far (at-most uy vy)
parted h ux uy vx vy some far (inr left) =
    turned-round h ux uy vx vy (to-right h vx vy ux uy some (omega (arith, ints)) (turned-far h ux uy vx vy far) (at-most vy uy))
