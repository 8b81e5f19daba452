-- Steps between points strictly inside a segment, and edges that keep clear of it.
use Rattle.std.proofs.Common.{Bool, List, ap, arith, cond, false, not, refl, sym, true, ◌&&◌, ◌∙◌, ◌≡◌, ◌⊎◌, inl, inr}
use lib.IntN.{pos, ◌+ℤ◌}
use Rattle.lists.specs.Member.{In}
use Rattle.plane_lists.specs.Paths.Line.{IsApart}
use Rattle.plane.specs.Edge.{Edge, reversed, same_edge, segment_of}
use Rattle.plane.specs.FreeSegment.{IsBetween, Misses, misses_by}
use Rattle.plane.specs.Order.{order}
use Rattle.plane.specs.Sign.{Minus, Null, Plus, Sign, are_opposite, is_minus, is_null, is_plus, negated, sign}
use Rattle.plane.specs.Vector.{Vector, cross, dot, from_to}
use Rattle.plane_lists.specs.Lists.Sided.{IsSided}
use Rattle.lists.proofs.ListsKit.{and-left, and-right, or-out}
use Rattle.plane_lists.proofs.NestingKit.{clear-two, rise}
use Rattle.plane.proofs.PlaneKit.{View, clear_misses, cross-chain, cross-negated, cross2, dot-reversed, dot2, from_to2, lift2, reversed-side, side-moves, view_at}
use Rattle.plane.proofs.SignKit.{agree, agree-sum, all, all-out, all2-out, all4-out, imp, imp-out, lift, plus-behind, plus-not-minus, same, same_sign, same_sign-true, sign-reversed, times, ◌⊞◌}
use Rattle.plane_lists.proofs.Paths.Steps.{back-from, back-to, cross-turned, turned}

way-sum : (s t w : Vector) → cross (from_to s t) w +ℤ cross (from_to t s) w ≡ pos 0
way-sum s t w =
    let s' = lift2 s in let t' = lift2 t in let w' = lift2 w in
    same (cross2 (from_to2 s' t') w' ⊞ cross2 (from_to2 t' s') w') (lift (pos 0)) (omega arith)

-- the direction the other way
pub way-back : (s t w : Vector) → sign (cross (from_to t s) w) ≡ negated (sign (cross (from_to s t) w))
way-back s t w = sign-reversed (cross (from_to s t) w) (cross (from_to t s) w) (way-sum s t w)

-- two points on one side of the line of an edge
pub apart-by-side : (r q : Vector) (e : Edge) (s : Sign) → sign (cross (from_to r e.from) (from_to r e.to)) ≡ s → sign (cross (from_to q e.from) (from_to q e.to)) ≡ s → (s ≡ Null → ⊥) → IsApart r q e
apart-by-side r q e Plus h k n = record {
  along = from_to e.to e.from;
  first_from = ap sign (back-from r e.from e.to) ∙ h;
  first_to = ap sign (back-to r e.from e.to) ∙ h;
  last_from = ap sign (back-from q e.from e.to) ∙ k;
  last_to = ap sign (back-to q e.from e.to) ∙ k;
}
apart-by-side r q e Minus h k n = record {
  along = from_to e.from e.to;
  first_from = ap sign (back-to r e.to e.from) ∙ cross-negated (from_to r e.from) (from_to r e.to) ∙ ap negated h;
  first_to = ap sign (back-from r e.to e.from) ∙ cross-negated (from_to r e.from) (from_to r e.to) ∙ ap negated h;
  last_from = ap sign (back-to q e.to e.from) ∙ cross-negated (from_to q e.from) (from_to q e.to) ∙ ap negated k;
  last_to = ap sign (back-from q e.to e.from) ∙ cross-negated (from_to q e.from) (from_to q e.to) ∙ ap negated k;
}
apart-by-side r q e Null h k n = absurd (n refl)

abbrev mean : Sign → Sign → Sign
mean Null t = t
mean s t = s

mean-is : (cs ct cp : Sign) → not (are_opposite cs ct) ≡ true → agree (times Plus cs) (times Plus ct) (times Plus cp) ≡ true → cp ≡ mean cs ct
mean-is cs ct cp h k =
    same_sign-true cp (mean cs ct) (imp-out _ _ (imp-out _ _ (all-out (λ cp. imp (not (are_opposite cs ct)) λ _. imp (agree (times Plus cs) (times Plus ct) (times Plus cp)) λ _. same_sign cp (mean cs ct))
    (all2-out (λ cs ct. all λ cp. imp (not (are_opposite cs ct)) λ _. imp (agree (times Plus cs) (times Plus ct) (times Plus cp)) λ _. same_sign cp (mean cs ct)) refl cs ct) cp) h) k)

abbrev set_1 : Sign → Sign → Sign → Sign → Bool
set_1 a b cs ct = all λ d. imp (not (same_sign a b)) λ _. imp (agree a d b) λ _. imp (agree ct d cs) λ _. not (is_null (mean cs ct))

mean-set : (a b cs ct d : Sign) → not (same_sign a b) ≡ true → agree a d b ≡ true → agree ct d cs ≡ true → not (is_null (mean cs ct)) ≡ true
mean-set a b cs ct d n h k =
    imp-out _ _ (imp-out _ _ (imp-out _ _ (all-out (λ d. imp (not (same_sign a b)) λ _. imp (agree a d b) λ _. imp (agree ct d cs) λ _. not (is_null (mean cs ct))) (all4-out set_1 refl a b cs ct) d) n) h) k

set-not : (s : Sign) → not (is_null s) ≡ true → s ≡ Null → ⊥
set-not s h e = let g = ap (λ t. not (is_null t)) e in cc (sym h ∙ g)

pub not-minus-not : (s : Sign) → not (is_minus s) ≡ true → s ≡ Minus → ⊥
not-minus-not s h e = let g = ap (λ t. not (is_minus t)) e in cc (sym h ∙ g)

module _ (s t r q : Vector) (e : Edge) (i : IsBetween s t r) (j : IsBetween s t q) where
  abbrev L : Vector
  L = from_to s t

  abbrev V : View s t (from_to r)
  V = view_at s t r i

  abbrev W : View s t (from_to q)
  W = view_at s t q j

  beside-left : sign (cross L (from_to s e.from)) ≡ Plus → sign (cross L (from_to s e.to)) ≡ Plus → IsApart r q e
  beside-left h k = record {
    along = L;
    first_from = V.side e.from ∙ h;
    first_to = V.side e.to ∙ k;
    last_from = W.side e.from ∙ h;
    last_to = W.side e.to ∙ k;
  }

  beside-right : sign (cross L (from_to s e.from)) ≡ Minus → sign (cross L (from_to s e.to)) ≡ Minus → IsApart r q e
  beside-right h k = record {
    along = from_to t s;
    first_from = way-back s t (from_to r e.from) ∙ ap negated (V.side e.from ∙ h);
    first_to = way-back s t (from_to r e.to) ∙ ap negated (V.side e.to ∙ k);
    last_from = way-back s t (from_to q e.from) ∙ ap negated (W.side e.from ∙ h);
    last_to = way-back s t (from_to q e.to) ∙ ap negated (W.side e.to ∙ k);
  }

  behind : (x w : Vector) → (v : View s t (from_to x)) → not (is_plus (sign (dot L (from_to s w)))) ≡ true → sign (cross (turned (from_to t s)) (from_to x w)) ≡ Plus
  behind x w v h =
      ap sign (cross-turned (from_to t s) (from_to x w)) ∙ dot-reversed s t x w ∙ ap negated (plus-behind Plus (sign (dot L (from_to x w))) (sign (dot L (from_to s w))) (v.past_s w) refl h)

  ahead : (x w : Vector) → (v : View s t (from_to x)) → not (is_minus (sign (dot L (from_to t w)))) ≡ true → sign (cross (turned L) (from_to x w)) ≡ Plus
  ahead x w v h =
      ap sign (cross-turned L (from_to x w)) ∙ plus-not-minus Plus (sign (dot L (from_to t w))) (sign (dot L (from_to x w))) (v.before_t w) refl (not-minus-not (sign (dot L (from_to t w))) h)

  along-line : ((not (is_plus (sign (dot L (from_to s e.from)))) && not (is_plus (sign (dot L (from_to s e.to))))) ≡ true) ⊎ ((not (is_minus (sign (dot L (from_to t e.from)))) && not (is_minus (sign (dot L (from_to t e.to))))) ≡ true) → IsApart r q e
  along-line (inl h) =
      let a = and-left _ _ h in let b = and-right (not (is_plus (sign (dot L (from_to s e.from))))) _ h in
      record { along = turned (from_to t s); first_from = behind r e.from V a; first_to = behind r e.to V b; last_from = behind q e.from W a; last_to = behind q e.to W b }
  along-line (inr h) =
      let a = and-left _ _ h in let b = and-right (not (is_minus (sign (dot L (from_to t e.from))))) _ h in
      record { along = turned L; first_from = ahead r e.from V a; first_to = ahead r e.to V b; last_from = ahead q e.from W a; last_to = ahead q e.to W b }

  abbrev cs : Sign
  cs = sign (cross (from_to s e.from) (from_to s e.to))

  abbrev ct : Sign
  ct = sign (cross (from_to t e.from) (from_to t e.to))

  one-side : not (same_sign (sign (cross L (from_to s e.from))) (sign (cross L (from_to s e.to)))) ≡ true → not (are_opposite cs ct) ≡ true → IsApart r q e
  one-side n o =
      let f = e.from in let g = e.to in
      let x = agree-sum (cross L (from_to s f)) (cross L (from_to f g)) (cross L (from_to s g)) (cross-chain L s f g) in
      let y = agree-sum (cross (from_to t f) (from_to t g)) (cross L (from_to f g)) (cross (from_to s f) (from_to s g)) (side-moves s t f g) in
      let z = mean-set (sign (cross L (from_to s f))) (sign (cross L (from_to s g))) cs ct (sign (cross L (from_to f g))) n x y in
      apart-by-side r q e (mean cs ct) (mean-is cs ct (sign (cross (from_to r f) (from_to r g))) o (V.mixed f g)) (mean-is cs ct (sign (cross (from_to q f) (from_to q g))) o (W.mixed f g)) (set-not (mean cs ct) z)

  apart-cases : (a b : Sign) → sign (cross L (from_to s e.from)) ≡ a → sign (cross L (from_to s e.to)) ≡ b →
      misses_by a b cs ct (sign (dot L (from_to s e.from))) (sign (dot L (from_to s e.to))) (sign (dot L (from_to t e.from))) (sign (dot L (from_to t e.to))) ≡ true → IsApart r q e
  apart-cases Plus Plus h k m = beside-left h k
  apart-cases Minus Minus h k m = beside-right h k
  apart-cases Null Null h k m = along-line (or-out _ _ m)
  apart-cases Plus Null h k m = one-side (ap (λ a. not (same_sign a (sign (cross L (from_to s e.to))))) h ∙ ap (λ b. not (same_sign Plus b)) k) m
  apart-cases Plus Minus h k m = one-side (ap (λ a. not (same_sign a (sign (cross L (from_to s e.to))))) h ∙ ap (λ b. not (same_sign Plus b)) k) m
  apart-cases Null Plus h k m = one-side (ap (λ a. not (same_sign a (sign (cross L (from_to s e.to))))) h ∙ ap (λ b. not (same_sign Null b)) k) m
  apart-cases Null Minus h k m = one-side (ap (λ a. not (same_sign a (sign (cross L (from_to s e.to))))) h ∙ ap (λ b. not (same_sign Null b)) k) m
  apart-cases Minus Plus h k m = one-side (ap (λ a. not (same_sign a (sign (cross L (from_to s e.to))))) h ∙ ap (λ b. not (same_sign Minus b)) k) m
  apart-cases Minus Null h k m = one-side (ap (λ a. not (same_sign a (sign (cross L (from_to s e.to))))) h ∙ ap (λ b. not (same_sign Minus b)) k) m

  pub apart-inside : Misses s t e → IsApart r q e
  apart-inside m = apart-cases (sign (cross L (from_to s e.from))) (sign (cross L (from_to s e.to))) refl refl m

-- ---- edges either way round
there-back : (s t u p w : Vector) → dot (from_to t s) (from_to t p) ≡ dot (from_to s t) (from_to p t)
there-back s t u p w =
    let s' = lift2 s in let t' = lift2 t in let p' = lift2 p in
    same (dot2 (from_to2 t' s') (from_to2 t' p')) (dot2 (from_to2 s' t') (from_to2 p' t')) (omega arith)

back-there : (s t p : Vector) → dot (from_to t s) (from_to p s) ≡ dot (from_to s t) (from_to s p)
back-there s t p =
    let s' = lift2 s in let t' = lift2 t in let p' = lift2 p in
    same (dot2 (from_to2 t' s') (from_to2 p' s')) (dot2 (from_to2 s' t') (from_to2 s' p')) (omega arith)

pub between-back : (s t p : Vector) → IsBetween s t p → IsBetween t s p
between-back s t p i = record {
  on_line = sign-reversed (cross (from_to s t) (from_to s p)) (cross (from_to t s) (from_to t p)) (reversed-side s t p) ∙ ap negated i.on_line;
  after_s = ap sign (there-back s t s p s) ∙ i.before_t;
  before_t = ap sign (back-there s t p) ∙ i.after_s;
}

between-by : (b : Bool) (e : Edge) (p : Vector) → IsBetween e.from e.to p → IsBetween (cond b e (reversed e)).from (cond b e (reversed e)).to p
between-by true e p i = i
between-by false e p i = between-back e.from e.to p i

pub between-segment : (e : Edge) (p : Vector) → IsBetween e.from e.to p → IsBetween (segment_of e).from (segment_of e).to p
between-segment e p i = between-by (is_plus (order e.from e.to)) e p i

unturned-by : (b : Bool) (p q : Vector) (e : Edge) → IsApart p q (cond b e (reversed e)) → IsApart p q e
unturned-by true p q e a = a
unturned-by false p q e a = record { along = a.along; first_from = a.first_to; first_to = a.first_from; last_from = a.last_to; last_to = a.last_from }

pub apart-unturned : (p q : Vector) (e : Edge) → IsApart p q (segment_of e) → IsApart p q e
apart-unturned p q e a = unturned-by (is_plus (order e.from e.to)) p q e a

-- steps inside an edge of a sided list meet no other edge
pub inside-apart : (es : List Edge) → IsSided es → (e f : Edge) → In e es → In f es → same_edge e f ≡ false → (r q : Vector) → IsBetween e.from e.to r → IsBetween e.from e.to q → IsApart r q f
inside-apart es sd e f i j n r q hr hq =
    let s = segment_of e in let t = segment_of f in
    apart-unturned r q f (apart-inside s.from s.to r q t (between-segment e r hr) (between-segment e q hq) (clear_misses s t (rise es sd e i) (rise es sd f j) (clear-two es sd e f i j n)))
