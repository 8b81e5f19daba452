-- The point in which two crossing segments meet: it lies on both, no other does, and there is one.
use Rattle.std.proofs.Common.{◌≡◌, ◌≢◌, ℕ, zero, suc, ◌-◌, ◌≤◌, ℤ, pos, negsuc, ◌-ℤ◌, ◌+ℤ◌, ◌*ℤ◌, unsigned_abs, refl, ap, ◌∙◌, arith, Some}
use Rattle.osm_lattice.specs.declared.seg.Seg.{Seg}
use Rattle.osm_lattice.specs.declared.frac.Frac.{Frac}
use Rattle.osm_lattice.specs.declared.conflicts.Kind.TheVariants.{Crossing}
use Rattle.osm_lattice.specs.Seg.{edge_of}
use Rattle.osm_lattice.specs.Loc.{orientation, step}
use Rattle.osm_lattice.specs.Conflict.{conflict_of}
use Rattle.osm_lattice.specs.Meeting.{CommonPoint, IsOnSegment, slant}
use Rattle.osm_lattice.proofs.Fractions.{frac_of}
use Rattle.osm_lattice.proofs.LocationOrder.{rising_edge}
use Rattle.osm_lattice.proofs.LowestTerms.{frac_same}
use Rattle.osm_lattice.proofs.MeetingPoint.{on_segment, along_x, along_y, one_point}
use Rattle.osm_lattice.proofs.Sizes.{signed}
use Rattle.osm_lattice.proofs.Shares.{part_of_first, part_of_second, slant_turned}

some_abs : (z : ℤ) → 1 ≤ unsigned_abs z → z ≢ pos 0
some_abs (pos zero) h e = absurd (omega arith)
some_abs (pos (suc n)) h e = cc
some_abs (negsuc n) h e = cc

-- the point w of d parts along s lies on s
pub on_first : (s : Seg) (x y : Frac) (d w : ℕ) → 1 ≤ d → w ≤ d → x.num *ℤ pos d ≡ (s.a.x *ℤ pos (d - w) +ℤ s.b.x *ℤ pos w) *ℤ pos x.den → y.num *ℤ pos d ≡ (s.a.y *ℤ pos (d - w) +ℤ s.b.y *ℤ pos w) *ℤ pos y.den → IsOnSegment s x y
on_first s x y d w some le hx hy = on_segment (edge_of s) x.num y.num x.den y.den d w (rising_edge s) x.den_in y.den_in some le hx hy

-- how far along each of two crossing segments their meeting point lies: w of d parts, and w' of them
pub record AreAlike (s t : Seg) (d w w' : ℕ) : Type 0 where
  pub some : 1 ≤ d
  pub first : w ≤ d
  pub second : w' ≤ d
  pub xs : s.a.x *ℤ pos (d - w) +ℤ s.b.x *ℤ pos w ≡ t.a.x *ℤ pos (d - w') +ℤ t.b.x *ℤ pos w'
  pub ys : s.a.y *ℤ pos (d - w) +ℤ s.b.y *ℤ pos w ≡ t.a.y *ℤ pos (d - w') +ℤ t.b.y *ℤ pos w'

pub are_alike : (s t : Seg) → conflict_of s t ≡ Some Crossing → AreAlike s t (unsigned_abs (slant s t)) (unsigned_abs (orientation t.a t.b s.a)) (unsigned_abs (orientation s.a s.b t.a))
unfolding orientation slant step
are_alike s t crossing =
    let w = unsigned_abs (orientation t.a t.b s.a) in
    let w' = unsigned_abs (orientation s.a s.b t.a) in
    let d = unsigned_abs (slant s t) in
    let first = part_of_first s t crossing in let second = part_of_second s t crossing in
    let turned = slant_turned s t in
    let same_size : unsigned_abs (slant t s) ≡ d = ap unsigned_abs turned ∙ abs-turned (slant s t) in
    let le' : w' ≤ d = rw (← same_size) second.at_most in
    let ratio' : pos w' *ℤ (pos 0 -ℤ slant s t) ≡ orientation s.a s.b t.a *ℤ pos d = rw (← turned, ← same_size) second.ratio in
    let nonzero = some_abs (slant s t) first.den_some in
    record {
      some = first.den_some;
      first = first.at_most;
      second = le';
      xs = along_x (edge_of s) (edge_of t) d w w' nonzero first.at_most le' first.ratio ratio';
      ys = along_y (edge_of s) (edge_of t) d w w' nonzero first.at_most le' first.ratio ratio';
    }
  where
    abs-turned : (z : ℤ) → unsigned_abs (pos 0 -ℤ z) ≡ unsigned_abs z
    abs-turned z = omega (arith, signed)

-- and on t, where they cross
pub on_second : (s t : Seg) (x y : Frac) (d w : ℕ) → conflict_of s t ≡ Some Crossing → w ≡ unsigned_abs (orientation t.a t.b s.a) → d ≡ unsigned_abs (slant s t) →
    x.num *ℤ pos d ≡ (s.a.x *ℤ pos (d - w) +ℤ s.b.x *ℤ pos w) *ℤ pos x.den → y.num *ℤ pos d ≡ (s.a.y *ℤ pos (d - w) +ℤ s.b.y *ℤ pos w) *ℤ pos y.den → IsOnSegment t x y
on_second s t x y d w crossing ew ed hx hy =
    let w' = unsigned_abs (orientation s.a s.b t.a) in
    let alike : AreAlike s t d w w' = rw (ew, ed) (are_alike s t crossing) in
    on_segment (edge_of t) x.num y.num x.den y.den d w' (rising_edge t) x.den_in y.den_in alike.some alike.second (hx ∙ ap (λ z. z *ℤ pos x.den) alike.xs) (hy ∙ ap (λ z. z *ℤ pos y.den) alike.ys)

pub only_point : (s t : Seg) (x y x' y' : Frac) → conflict_of s t ≡ Some Crossing → IsOnSegment s x y → IsOnSegment t x y → IsOnSegment s x' y' → IsOnSegment t x' y' → (x ≡ x') × (y ≡ y')
unfolding slant step
only_point s t x y x' y' crossing on_s on_t on_s' on_t' =
    let nonzero = some_abs (slant s t) (part_of_first s t crossing).den_some in
    let both = one_point (edge_of s) (edge_of t) x.num y.num x.den y.den x'.num y'.num x'.den y'.den nonzero x.den_in y.den_in x'.den_in y'.den_in on_s on_t on_s' on_t' in
    (frac_same x x' both.0, frac_same y y' both.1)

-- the fractions of the numbers that `meeting` computes
pub meeting_exists : (s t : Seg) → conflict_of s t ≡ Some Crossing → CommonPoint s t
meeting_exists s t crossing =
    let w = unsigned_abs (orientation t.a t.b s.a) in
    let d = unsigned_abs (slant s t) in
    let part = part_of_first s t crossing in
    let x = frac_of (s.a.x *ℤ pos (d - w) +ℤ s.b.x *ℤ pos w) d part.den_some in
    let y = frac_of (s.a.y *ℤ pos (d - w) +ℤ s.b.y *ℤ pos w) d part.den_some in
    record {
      x = x.frac;
      y = y.frac;
      on_first = on_first s x.frac y.frac d w part.den_some part.at_most x.value y.value;
      on_second = on_second s t x.frac y.frac d w crossing refl refl x.value y.value;
    }
