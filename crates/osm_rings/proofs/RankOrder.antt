-- A point of a lesser rank comes before one of a greater rank.
use Rattle.std.proofs.Common.{FitsSigned, ap, arith, negsuc, pos, subst, w32, w64, ⊎_elim, inl, inr, refl, sym, unsigned_abs, zero, suc, ℕ, ℤ, ◌*◌, ◌*ℤ◌, ◌+ℤ◌, ◌-ℤ◌, ◌<◌, ◌<ℤ◌, ◌≤ℤ◌, ◌∙◌, ◌≡◌, ◌≤◌, ◌⊎◌}
use Rattle.std.proofs.lemmas.Int.{ints}
use Rattle.std.specs.Ordering.{ordering_then}
use Rattle.std.specs.declared.cmp.Ordering.TheVariants.{Equal, Less}
use Rattle.plane.specs.Sign.{Minus, Null, Plus, Sign, sign}
use Rattle.plane.proofs.SignKit.{Says, lift, plus-is, same, says, ◌⊞◌, ◌⊟◌, ◌⊠◌}
use Rattle.lists.proofs.ListsKit.{product_not_below}
use Rattle.osm_lattice.proofs.LatticeKit.{int_cmp-is, signed}
use Rattle.osm_lattice.specs.OrderLaws.{ordering_of}
use Rattle.osm_geom.specs.declared.point.Part.{Part}
use Rattle.osm_geom.specs.declared.point.Point.{Point}
use Rattle.osm_geom.specs.declared.point.Point.TheVariants.{Lattice, OnHorizontal, OnVertical}
use Rattle.osm_geom.specs.Part.{part_num}
use Rattle.osm_geom.specs.Point.{Fraction, IsInWorld, fraction_in, point_cmp, whole, x_of, y_of}
use Rattle.osm_geom.specs.RatioOrder.{fraction_cmp}
use Rattle.osm_geom.proofs.GeometryKit.{part_whole, point_cmp_is}
use Rattle.osm_rings.specs.Ranks.{above_floor, floor_rank, point_rank, rank_at}

-- ---- fractions by their floors
-- a fraction is q and r of its parts, which are fewer than one whole
abbrev IsFloored : Fraction → ℤ → ℕ → Type 0
IsFloored f q r = (f.num ≡ q *ℤ pos f.den +ℤ pos r) × (r < f.den)

whole-floored : (n : ℤ) → IsFloored (whole n) n 0
whole-floored n = (omega (arith, ints), omega arith)

part-floored : (p : Part) → IsFloored (fraction_in p) p.floor p.above
part-floored p = (refl, p.above_in)

apart : (q u k l r s : ℤ) → (u *ℤ l +ℤ s) *ℤ k -ℤ (q *ℤ k +ℤ r) *ℤ l ≡ (((u -ℤ q) -ℤ pos 1) *ℤ (k *ℤ l) +ℤ ((k -ℤ r) -ℤ pos 1) *ℤ l) +ℤ (l +ℤ s *ℤ k)
apart q u k l r s =
    let q' = lift q in let u' = lift u in let k' = lift k in let l' = lift l in let r' = lift r in let s' = lift s in let one = lift (pos 1) in
    same ((u' ⊠ l' ⊞ s') ⊠ k' ⊟ (q' ⊠ k' ⊞ r') ⊠ l') ((((u' ⊟ q') ⊟ one) ⊠ (k' ⊠ l') ⊞ ((k' ⊟ r') ⊟ one) ⊠ l') ⊞ (l' ⊞ s' ⊠ k')) (omega arith)

-- of two fractions the one with the lesser floor is less
less-by-floors : (f g : Fraction) (q u : ℤ) (r s : ℕ) → IsFloored f q r → IsFloored g u s → q <ℤ u → fraction_cmp f g ≡ Less
less-by-floors f g q u r s first second h =
    let k = pos f.den in let l = pos g.den in
    let below = first.1 in let other = second.1 in
    let a = product_not_below ((u -ℤ q) -ℤ pos 1) (k *ℤ l) (omega (arith, ints)) (product_not_below k l (omega (arith, ints)) (omega (arith, ints))) in
    let b = product_not_below ((k -ℤ pos r) -ℤ pos 1) l (omega (arith, ints)) (omega (arith, ints)) in
    let c = product_not_below (pos s) k (omega (arith, ints)) (omega (arith, ints)) in
    let d = apart q u k l (pos r) (pos s) in
    let more : pos 0 <ℤ ((u *ℤ l +ℤ pos s) *ℤ k -ℤ (q *ℤ k +ℤ pos r) *ℤ l) = omega (arith, ints) in
    int_cmp-is (f.num *ℤ l) (g.num *ℤ k)
    ∙ ap (λ z. ordering_of (sign (z *ℤ k -ℤ f.num *ℤ l))) second.0 ∙ ap (λ z. ordering_of (sign ((u *ℤ l +ℤ pos s) *ℤ k -ℤ z *ℤ l))) first.0
    ∙ ap ordering_of ((plus-is _).1 more)

same-whole : (n m : ℤ) → n ≡ m → fraction_cmp (whole n) (whole m) ≡ Equal
same-whole n m e = int_cmp-is (n *ℤ pos 1) (m *ℤ pos 1) ∙ ap (λ z. ordering_of (sign (z *ℤ pos 1 -ℤ n *ℤ pos 1))) (sym e) ∙ ap (λ z. ordering_of (sign z)) (let none : n *ℤ pos 1 -ℤ n *ℤ pos 1 ≡ pos 0 = omega (arith, ints) in none)

-- a whole number is less than a part of which it is the floor
less-than-part : (n : ℤ) (p : Part) → n ≡ p.floor → fraction_cmp (whole n) (fraction_in p) ≡ Less
less-than-part n p e = by p.above refl
  where
    by : (a : ℕ) → p.above ≡ a → fraction_cmp (whole n) (fraction_in p) ≡ Less
    by zero none = absurd (part_whole p.floor p (no-rest p.floor (pos p.den) p.above none))
      where
        no-rest : (f d : ℤ) (a : ℕ) → a ≡ 0 → f *ℤ d ≡ (f *ℤ d +ℤ pos a) *ℤ pos 1
        no-rest f d a h = omega (arith, ints)
    by (suc a) some =
        int_cmp-is (n *ℤ pos p.den) (part_num p.floor p.above p.den *ℤ pos 1)
        ∙ ap (λ z. ordering_of (sign (part_num p.floor p.above p.den *ℤ pos 1 -ℤ z *ℤ pos p.den))) e
        ∙ ap ordering_of ((plus-is _).1 (let more : pos 0 <ℤ (part_num p.floor p.above p.den *ℤ pos 1 -ℤ p.floor *ℤ pos p.den) = omega (arith, ints, some) in more))

-- ---- rows and columns
abbrev IsColumn : ℤ → Type 0
IsColumn x = ((pos 0 -ℤ pos 2_147_483_648) ≤ℤ x) × (x ≤ℤ pos 2_147_483_647)

abbrev ComesFirst : ℤ → ℤ → ℤ → ℤ → Type 0
ComesFirst x y x' y' = (y <ℤ y') ⊎ ((y ≡ y') × (x <ℤ x'))

first-by : (s : Sign) (x y x' y' : ℤ) → Says s (y' -ℤ y) → IsColumn x → IsColumn x' → rank_at x y <ℤ rank_at x' y' → ComesFirst x y x' y'
first-by Plus x y x' y' h c d less = inl (omega (arith, ints))
first-by Null x y x' y' h c d less = inr (omega (arith, ints), omega (arith, ints))
first-by Minus x y x' y' h c d less = absurd (omega (arith, ints))

comes-first : (x y x' y' : ℤ) → IsColumn x → IsColumn x' → rank_at x y <ℤ rank_at x' y' → ComesFirst x y x' y'
comes-first x y x' y' c d less = first-by (sign (y' -ℤ y)) x y x' y' (says (y' -ℤ y)) c d less

-- a fraction that is at most b away from zero has such a floor, or the one below it
module _ (b : ℕ) (q : ℤ) (r k : ℕ) (below : r < k) (world : unsigned_abs (q *ℤ pos k +ℤ pos r) ≤ b * k) where
  bound-times : pos (b * k) ≡ pos b *ℤ pos k
  bound-times = refl

  too_high : (pos 0 ≤ℤ ((q -ℤ pos b) -ℤ pos 1)) → ⊥
  too_high h = let a = subst (λ z. pos 0 ≤ℤ z) (same (((lift q ⊟ lift (pos b)) ⊟ lift (pos 1)) ⊠ lift (pos k)) ((lift q ⊠ lift (pos k) ⊟ lift (pos b) ⊠ lift (pos k)) ⊟ lift (pos k)) (omega arith)) (product_not_below ((q -ℤ pos b) -ℤ pos 1) (pos k) h (omega (arith, ints))) in omega (arith, signed, a, below, world, bound-times)

  too_low : (pos 0 ≤ℤ (((pos 0 -ℤ pos b) -ℤ pos 2) -ℤ q)) → ⊥
  too_low h = let a = subst (λ z. pos 0 ≤ℤ z) (same ((((lift (pos 0) ⊟ lift (pos b)) ⊟ lift (pos 2)) ⊟ lift q) ⊠ lift (pos k)) (((lift (pos 0) ⊟ lift (pos b) ⊠ lift (pos k)) ⊟ lift (pos 2) ⊠ lift (pos k)) ⊟ lift q ⊠ lift (pos k)) (omega arith)) (product_not_below (((pos 0 -ℤ pos b) -ℤ pos 2) -ℤ q) (pos k) h (omega (arith, ints))) in omega (arith, signed, a, below, world, bound-times)

  high-by : (s : Sign) → Says s ((q -ℤ pos b) -ℤ pos 1) → q ≤ℤ pos b
  high-by Minus h = omega (arith, ints)
  high-by Null h = absurd (too_high (omega (arith, ints)))
  high-by Plus h = absurd (too_high (omega (arith, ints)))

  low-by : (s : Sign) → Says s (((pos 0 -ℤ pos b) -ℤ pos 2) -ℤ q) → ((pos 0 -ℤ pos b) -ℤ pos 1) ≤ℤ q
  low-by Minus h = omega (arith, ints)
  low-by Null h = absurd (too_low (omega (arith, ints)))
  low-by Plus h = absurd (too_low (omega (arith, ints)))

  floor-within : (((pos 0 -ℤ pos b) -ℤ pos 1) ≤ℤ q) × (q ≤ℤ pos b)
  floor-within = (low-by (sign (((pos 0 -ℤ pos b) -ℤ pos 2) -ℤ q)) (says (((pos 0 -ℤ pos b) -ℤ pos 2) -ℤ q)), high-by (sign ((q -ℤ pos b) -ℤ pos 1)) (says ((q -ℤ pos b) -ℤ pos 1)))

-- the floor of a latitude
pub row-within : (y : Part) → unsigned_abs (fraction_in y).num ≤ 900_000_000 * y.den → ((pos 0 -ℤ pos 1_000_000_000) ≤ℤ y.floor) × (y.floor ≤ℤ pos 1_000_000_000)
row-within y world = let within = floor-within 900_000_000 y.floor y.above y.den y.above_in world in let low = within.0 in let high = within.1 in (omega (arith, ints, low), omega (arith, ints, high))

abbrev column : Point → ℤ
column (Lattice p) = p.x
column (OnVertical c y) = pos 2_147_483_647
column (OnHorizontal x d) = x.floor

abbrev row : Point → ℤ
row (Lattice p) = p.y
row (OnVertical c y) = y.floor
row (OnHorizontal x d) = d

rank-is : (p : Point) → floor_rank p ≡ rank_at (column p) (row p)
rank-is (Lattice p) = refl
rank-is (OnVertical c y) = refl
rank-is (OnHorizontal x d) = refl

column-in : (p : Point) → IsInWorld p → IsColumn (column p)
column-in (Lattice p) world = let small = world.0 in (omega (arith, signed, small), omega (arith, signed, small))
column-in (OnVertical c y) world = (omega (arith, ints), omega (arith, ints))
column-in (OnHorizontal x d) world = let within = floor-within 1_800_000_000 x.floor x.above x.den x.above_in x.num_in in let low = within.0 in let high = within.1 in (omega (arith, ints, low), omega (arith, ints, high))

-- how far a point is above its row
abbrev rest : Point → ℕ
rest (Lattice p) = 0
rest (OnVertical c y) = y.above
rest (OnHorizontal x d) = 0

row-floored : (p : Point) → IsFloored (y_of p) (row p) (rest p)
row-floored (Lattice p) = whole-floored p.y
row-floored (OnVertical c y) = part-floored y
row-floored (OnHorizontal x d) = whole-floored d

by-y : (p q : Point) → fraction_cmp (y_of p) (y_of q) ≡ Less → point_cmp p q ≡ Less
by-y p q h = sym (point_cmp_is p q) ∙ ap (λ o. ordering_then o (fraction_cmp (x_of p) (x_of q))) h

by-x : (p q : Point) → fraction_cmp (y_of p) (y_of q) ≡ Equal → fraction_cmp (x_of p) (x_of q) ≡ Less → point_cmp p q ≡ Less
by-x p q e h = sym (point_cmp_is p q) ∙ ap (λ o. ordering_then o (fraction_cmp (x_of p) (x_of q))) e ∙ h

in-row : (p q : Point) → IsColumn (column q) → row p ≡ row q → column p <ℤ column q → point_cmp p q ≡ Less
in-row (Lattice p) (Lattice q) c e h = by-x (Lattice p) (Lattice q) (same-whole p.y q.y e) (less-by-floors (whole p.x) (whole q.x) p.x q.x 0 0 (whole-floored p.x) (whole-floored q.x) h)
in-row (Lattice p) (OnHorizontal x d) c e h = by-x (Lattice p) (OnHorizontal x d) (same-whole p.y d e) (less-by-floors (whole p.x) (fraction_in x) p.x x.floor 0 x.above (whole-floored p.x) (part-floored x) h)
in-row (Lattice p) (OnVertical v y) c e h = by-y (Lattice p) (OnVertical v y) (less-than-part p.y y e)
in-row (OnHorizontal x d) (Lattice q) c e h = by-x (OnHorizontal x d) (Lattice q) (same-whole d q.y e) (less-by-floors (fraction_in x) (whole q.x) x.floor q.x x.above 0 (part-floored x) (whole-floored q.x) h)
in-row (OnHorizontal x d) (OnHorizontal w b) c e h = by-x (OnHorizontal x d) (OnHorizontal w b) (same-whole d b e) (less-by-floors (fraction_in x) (fraction_in w) x.floor w.floor x.above w.above (part-floored x) (part-floored w) h)
in-row (OnHorizontal x d) (OnVertical v y) c e h = by-y (OnHorizontal x d) (OnVertical v y) (less-than-part d y e)
in-row (OnVertical v y) q c e h = let most = c.1 in absurd (omega (arith, ints, most, h))

floor-tells : (p q : Point) → IsInWorld p → IsInWorld q → floor_rank p <ℤ floor_rank q → point_cmp p q ≡ Less
floor-tells p q world other less =
    ⊎_elim (λ (low : row p <ℤ row q). by-y p q (less-by-floors (y_of p) (y_of q) (row p) (row q) (rest p) (rest q) (row-floored p) (row-floored q) low))
    (λ (level : (row p ≡ row q) × (column p <ℤ column q)). in-row p q (column-in q other) level.0 level.1)
    (comes-first (column p) (row p) (column q) (row q) (column-in p world) (column-in q other) (subst (λ z. z <ℤ rank_at (column q) (row q)) (rank-is p) (subst (λ z. floor_rank p <ℤ z) (rank-is q) less)))

-- ---- locations, and points between them
one-place : (s : Sign) (x y x' y' : ℤ) → Says s (y' -ℤ y) → IsColumn x → IsColumn x' → rank_at x y ≡ rank_at x' y' → (x ≡ x') × (y ≡ y')
one-place Plus x y x' y' h c d same = absurd (omega (arith, ints))
one-place Null x y x' y' h c d same = (omega (arith, ints), omega (arith, ints))
one-place Minus x y x' y' h c d same = absurd (omega (arith, ints))

same-place : (p q : Point) → IsInWorld p → IsInWorld q → floor_rank p ≡ floor_rank q → (column p ≡ column q) × (row p ≡ row q)
same-place p q world other same =
    one-place (sign (row q -ℤ row p)) (column p) (row p) (column q) (row q) (says (row q -ℤ row p)) (column-in p world) (column-in q other) (sym (rank-is p) ∙ (same ∙ rank-is q))

above-small : (p : Point) → (pos 0 ≤ℤ above_floor p) × (above_floor p ≤ℤ pos 1)
above-small (Lattice p) = (omega (arith, ints), omega (arith, ints))
above-small (OnVertical c y) = (omega (arith, ints), omega (arith, ints))
above-small (OnHorizontal x d) = (omega (arith, ints), omega (arith, ints))

-- a location comes before the other points of its number
location-first : (p q : Point) → IsInWorld p → IsInWorld q → floor_rank p ≡ floor_rank q → above_floor p <ℤ above_floor q → point_cmp p q ≡ Less
location-first (Lattice p) (Lattice q) world other same less = absurd (omega (arith, ints))
location-first (Lattice p) (OnVertical c y) world other same less =
    let at = same-place (Lattice p) (OnVertical c y) world other same in
    let beyond : p.x ≡ pos 2_147_483_647 = at.0 in
    let small = world.0 in absurd (omega (arith, signed, small))
location-first (Lattice p) (OnHorizontal x d) world other same less =
    let at = same-place (Lattice p) (OnHorizontal x d) world other same in
    by-x (Lattice p) (OnHorizontal x d) (same-whole p.y d at.1) (less-than-part p.x x at.0)
location-first (OnVertical c y) q world other same less = let small = (above-small q).1 in absurd (omega (arith, ints, small, less))
location-first (OnHorizontal x d) q world other same less = let small = (above-small q).1 in absurd (omega (arith, ints, small, less))

pub rank-tells : (p q : Point) → IsInWorld p → IsInWorld q → point_rank p <ℤ point_rank q → point_cmp p q ≡ Less
rank-tells p q world other less = by (sign (floor_rank q -ℤ floor_rank p)) (says (floor_rank q -ℤ floor_rank p))
  where
    by : (s : Sign) → Says s (floor_rank q -ℤ floor_rank p) → point_cmp p q ≡ Less
    by Plus h = floor-tells p q world other (omega (arith, ints))
    by Null h = location-first p q world other (omega (arith, ints)) (let same : floor_rank p ≡ floor_rank q = omega (arith, ints) in omega (arith, ints, less))
    by Minus h = let a = (above-small p).0 in let b = (above-small q).1 in absurd (omega (arith, ints, a, b, less))

-- an even rank is that of one location
pub even-is-one : (p q : Point) → IsInWorld p → IsInWorld q → (half : ℤ) → point_rank p ≡ half *ℤ pos 2 → point_rank p ≡ point_rank q → point_cmp p q ≡ Equal
even-is-one (Lattice p) (Lattice q) world other half even same =
    let at = same-place (Lattice p) (Lattice q) world other (omega (arith, ints)) in
    sym (point_cmp_is (Lattice p) (Lattice q)) ∙ (ap (λ o. ordering_then o (fraction_cmp (whole p.x) (whole q.x))) (same-whole p.y q.y at.1) ∙ same-whole p.x q.x at.0)
even-is-one (Lattice p) (OnVertical c y) world other half even same = absurd (omega (arith, ints))
even-is-one (Lattice p) (OnHorizontal x d) world other half even same = absurd (omega (arith, ints))
even-is-one (OnVertical c y) q world other half even same = absurd (omega (arith, ints))
even-is-one (OnHorizontal x d) q world other half even same = absurd (omega (arith, ints))

-- ---- ranks fit 64 bits
fits : (z : ℤ) → (pos 0 -ℤ pos 9_000_000_000_000_000_000) ≤ℤ z → z ≤ℤ pos 9_000_000_000_000_000_000 → FitsSigned w64 z
fits (pos n) low high = record { sfits = omega (arith, signed, low, high) }
fits (negsuc n) low high = record { sfits = omega (arith, signed, low, high) }

-- the rank of a column and a row, and what it is made of
module _ (x y rounded : ℤ) (column : FitsSigned w32 x) (low : (pos 0 -ℤ pos 1_000_000_000) ≤ℤ y) (high : y ≤ℤ pos 1_000_000_000) (from : pos 0 ≤ℤ rounded) (to : rounded ≤ℤ pos 1) where
  left : (pos 0 -ℤ pos 2_147_483_648) ≤ℤ x
  left = let small = column.sfits in omega (arith, signed, small)

  right : x ≤ℤ pos 2_147_483_647
  right = let small = column.sfits in omega (arith, signed, small)

  pub number : FitsSigned w64 (rank_at x y)
  number = let a = left in let b = right in fits (rank_at x y) (omega (arith, ints, a, b, low, high)) (omega (arith, ints, a, b, low, high))

  pub twice : FitsSigned w64 (pos 2 *ℤ rank_at x y)
  twice = let a = left in let b = right in fits (pos 2 *ℤ rank_at x y) (omega (arith, ints, a, b, low, high)) (omega (arith, ints, a, b, low, high))

  pub sum : FitsSigned w64 (pos 2 *ℤ rank_at x y +ℤ rounded)
  sum = let a = left in let b = right in fits (pos 2 *ℤ rank_at x y +ℤ rounded) (omega (arith, ints, a, b, low, high, from, to)) (omega (arith, ints, a, b, low, high, from, to))
