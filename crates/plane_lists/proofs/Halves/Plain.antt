-- No two edges of a half share a point that isn't an end of both.
use Rattle.std.proofs.Common.{All, Bool, List, [], ap, cond, false, inl, inr, not, refl, subst, sym, true, ◌++◌, ◌&&◌, ◌||◌, ◌∙◌, ◌∷◌, ◌≡◌, ◌⊎◌}
use Rattle.plane.specs.Conflict.{IsClearOf}
use Rattle.plane.specs.Edge.{Edge, IsRisingEdge, reversed, segment_of}
use Rattle.plane.specs.FreeSegment.{Misses, misses_by}
use Rattle.plane.specs.Order.{order}
use Rattle.plane.specs.Sign.{Minus, Null, Plus, Sign, are_opposite, is_minus, is_null, is_plus, negated, sign}
use Rattle.plane.specs.Vector.{IsNonZero, Vector, cross, dot, from_to}
use Rattle.plane_lists.specs.Lists.ConflictFree.{IsConflictFree}
use Rattle.lists.specs.Member.{EachPair, In}
use Rattle.plane_lists.specs.Lists.Parity.{is_even}
use Rattle.plane_lists.specs.Lists.Ring.{segments_of}
use Rattle.plane_lists.specs.Lists.Sided.{IsSided}
use Rattle.plane_lists.specs.Halves.Half.{AreMeetings, Cutting, IsCut, closing, closing_from, cut_edges, ends_up_to, half, parts, wholes}
use Rattle.plane_lists.specs.Halves.Line.{Line, has_part, order_along, side}
use Rattle.plane.proofs.PlaneKit.{ends_at-from, ends_at-to, order-null, order-reversed, rising-direction, direction-back, frame-agree, frame-dot-agree, orient-round, side-there}
use Rattle.plane.proofs.SignKit.{agree, all4, all4-out, imp, imp-out, same_sign, same_sign-true, times, all3-out, negated-not-plus, null-first}
use Rattle.plane_lists.proofs.WindingKit.{rising_in}
use Rattle.lists.proofs.ListsKit.{all-in, in-all, in-either, in-filter, in-map, in-map-out, in-passes, pairs-append, pairs-filter, pairs-into-map, pairs-out-of-map, pairs-weaker}
use Rattle.plane_lists.proofs.Halves.AlongLine.{IsApart, along-negated, along-self, along-sum, rise-null}
use Rattle.plane_lists.proofs.Halves.Balance.{AreKept, IsAfter, IsPlaced, kept-part, placed-apart, placed-next}
use Rattle.plane_lists.proofs.Halves.Clears.{AreClear, both-segments, clear-of, clear-swap, from-segments, of-clear, part-clear}
use Rattle.plane_lists.proofs.Halves.Counts.{in-parts}
use Rattle.plane_lists.proofs.Halves.Sides.{IsCutFrom, IsCutTo, IsWholePart, kinds, rise, side-sum}

-- ---- edges with two ends
rising-by : (e : Edge) (s : Sign) → order e.from e.to ≡ s → not (is_null s) ≡ true → IsRisingEdge (segment_of e)
rising-by e Plus h n = subst IsRisingEdge (sym (ap (λ x. cond (is_plus x) e (reversed e)) h)) h
rising-by e Minus h n = subst IsRisingEdge (sym (ap (λ x. cond (is_plus x) e (reversed e)) h)) (order-reversed e.from e.to ∙ ap negated h)
rising-by e Null h n = absurd (cc n)

rising-of : (e : Edge) → not (is_null (order e.from e.to)) ≡ true → IsRisingEdge (segment_of e)
rising-of e n = rising-by e (order e.from e.to) refl n

two-ends-by : (e : Edge) (s : Sign) → order e.from e.to ≡ s → IsRisingEdge (segment_of e) → not (is_null s) ≡ true
two-ends-by e Plus h r = refl
two-ends-by e Minus h r = refl
two-ends-by e Null h r =
    let a = subst IsRisingEdge (ap (λ x. cond (is_plus x) e (reversed e)) h) r in
    let b = order-reversed e.from e.to ∙ ap negated h in absurd (cc (sym a ∙ b))

two-ends : (e : Edge) → IsRisingEdge (segment_of e) → not (is_null (order e.from e.to)) ≡ true
two-ends e r = two-ends-by e (order e.from e.to) refl r

direction-by : (p q : Vector) (s : Sign) → order p q ≡ s → not (is_null s) ≡ true → IsNonZero (from_to p q)
direction-by p q Plus h n = rising-direction p q h
direction-by p q Minus h n = direction-back q p (rising-direction q p (order-reversed p q ∙ ap negated h))
direction-by p q Null h n = absurd (cc n)

direction-of : (e : Edge) → not (is_null (order e.from e.to)) ≡ true → IsNonZero (from_to e.from e.to)
direction-of e n = direction-by e.from e.to (order e.from e.to) refl n

nonnull-by : (p q : Vector) (s : Sign) → order p q ≡ s → (p ≡ q → ⊥) → not (is_null s) ≡ true
nonnull-by p q Plus h n = refl
nonnull-by p q Minus h n = refl
nonnull-by p q Null h n = absurd (n (order-null p q h))

part-ends-kind : (l : Line) (e t : Edge) → not (is_null (order e.from e.to)) ≡ true → IsWholePart l e t ⊎ (IsCutFrom l e t ⊎ IsCutTo l e t) → not (is_null (order t.from t.to)) ≡ true
part-ends-kind l e t n (inl w) = ap (λ x. not (is_null (order x t.to))) w.from ∙ ap (λ x. not (is_null (order e.from x))) w.to ∙ n
part-ends-kind l e t n (inr (inl w)) = nonnull-by t.from t.to (order t.from t.to) refl (λ e'. cc (sym w.on ∙ ap (side l) e' ∙ ap (side l) w.to ∙ w.kept))
part-ends-kind l e t n (inr (inr w)) = nonnull-by t.from t.to (order t.from t.to) refl (λ e'. cc (sym w.kept ∙ ap (side l) (sym w.from) ∙ ap (side l) e' ∙ w.on))

-- ---- an edge on the line
abbrev across_1 : Sign → Sign → Sign → Bool
across_1 c y b = imp (agree (times Plus c) (times y Null) (times Plus b)) λ _. same_sign c b

abbrev along_1 : Sign → Sign → Sign → Bool
along_1 s y b = imp (agree (times Plus y) (times Null b) (times Plus s)) λ _. same_sign s y

abbrev begins_1 : Sign → Sign → Sign → Bool
begins_1 c y x = imp (agree (times Plus c) (times y Null) (times x Plus)) λ _. same_sign c x

abbrev stops_1 : Sign → Sign → Sign → Bool
stops_1 c y x = imp (agree (times Plus c) (times y Plus) (times x Null)) λ _. same_sign c (negated y)

apart-signs : (o p : Sign) → is_plus o ≡ not (is_minus p) → not (are_opposite o p) ≡ true
apart-signs Plus Minus h = absurd (cc h)
apart-signs Plus Null h = refl
apart-signs Plus Plus h = refl
apart-signs Null p h = refl
apart-signs Minus Plus h = absurd (cc h)
apart-signs Minus Null h = refl
apart-signs Minus Minus h = refl

apart-negated : (o p : Sign) → is_plus o ≡ not (is_minus p) → not (are_opposite (negated o) (negated p)) ≡ true
apart-negated Plus Minus h = absurd (cc h)
apart-negated Plus Null h = refl
apart-negated Plus Plus h = refl
apart-negated Null p h = refl
apart-negated Minus Plus h = absurd (cc h)
apart-negated Minus Null h = refl
apart-negated Minus Minus h = refl

abbrev line_2 : Sign → Sign → Sign → Sign → Sign → Sign → Sign → Sign → Bool
line_2 a b cs ct us vs ut vt =
    imp (agree (times Plus cs) (times vs a) (times us b)) λ _.
    imp (agree (times Plus ct) (times vt a) (times ut b)) λ _.
    misses_by a b cs ct us vs ut vt

abbrev line_1 : Sign → Sign → Sign → Sign → Bool
line_1 a b cs ct =
    imp (not (is_minus cs)) λ _.
    imp (not (is_minus ct)) λ _.
    imp (is_plus cs || is_plus ct) λ _.
    all4 (line_2 a b cs ct)

line_computes : all4 line_1 ≡ true
line_computes = refl

-- a link of the line: an edge on it, along it
pub record IsLink (l : Line) (e : Edge) : Type 0 where
  pub from_on : side l e.from ≡ Null
  pub to_on : side l e.to ≡ Null
  pub forward : order_along l e.from e.to ≡ Plus

module _ (l : Line) (d : IsNonZero l.along) (e : Edge) (i : IsLink l e) where
  abbrev z : Vector
  z = e.from

  abbrev w : Vector
  w = e.to

  abbrev u : Vector
  u = l.along

  link-rise : rise l z w ≡ Null
  link-rise = rise-null l z w i.from_on i.to_on

  pub link-cross : (x : Vector) → sign (cross (from_to z w) x) ≡ sign (cross u x)
  link-cross x =
      let f = subst (λ o. agree (times Plus (sign (cross (from_to z w) x))) (times (sign (dot u x)) (rise l z w)) (times o (sign (cross u x))) ≡ true) i.forward (frame-agree u (from_to z w) x d) in
      let g = subst (λ r. agree (times Plus (sign (cross (from_to z w) x))) (times (sign (dot u x)) r) (times Plus (sign (cross u x))) ≡ true) link-rise f in
      same_sign-true _ _ (imp-out _ _ (all3-out across_1 refl (sign (cross (from_to z w) x)) (sign (dot u x)) (sign (cross u x))) g)

  pub link-dot : (x : Vector) → sign (dot (from_to z w) x) ≡ sign (dot u x)
  link-dot x =
      let f = subst (λ o. agree (times o (sign (dot u x))) (times (rise l z w) (sign (cross u x))) (times Plus (sign (dot (from_to z w) x))) ≡ true) i.forward (frame-dot-agree u (from_to z w) x d) in
      let g = subst (λ r. agree (times Plus (sign (dot u x))) (times r (sign (cross u x))) (times Plus (sign (dot (from_to z w) x))) ≡ true) link-rise f in
      same_sign-true _ _ (imp-out _ _ (all3-out along_1 refl (sign (dot (from_to z w) x)) (sign (dot u x)) (sign (cross u x))) g)

  rise-of : (p v : Vector) → side l p ≡ Null → rise l p v ≡ side l v
  rise-of p v hp = null-first (side l p) (rise l p v) (side l v) (side-sum l p v) hp

  link-side : (v : Vector) → sign (cross (from_to z w) (from_to z v)) ≡ side l v
  link-side v = link-cross (from_to z v) ∙ rise-of z v i.from_on

  -- ---- with a part
  module _ (t : Edge) (k : AreKept l t) (td : IsNonZero (from_to t.from t.to)) (from_apart : side l t.from ≡ Null → IsApart l z w t.from) (to_apart : side l t.to ≡ Null → IsApart l z w t.to) where
    abbrev turn : Vector → Sign
    turn p = sign (cross (from_to p t.from) (from_to p t.to))

    turn-agree : (p : Vector) (a b : Sign) → side l p ≡ Null → side l t.from ≡ a → side l t.to ≡ b → agree (times Plus (turn p)) (times (order_along l p t.to) a) (times (order_along l p t.from) b) ≡ true
    turn-agree p a b hp ha hb =
        let f = frame-agree u (from_to p t.from) (from_to p t.to) d in
        subst (λ y. agree (times Plus (turn p)) (times (order_along l p t.to) a) (times (order_along l p t.from) y) ≡ true) (rise-of p t.to hp ∙ hb)
        (subst (λ x. agree (times Plus (turn p)) (times (order_along l p t.to) x) (times (order_along l p t.from) (rise l p t.to)) ≡ true) (rise-of p t.from hp ∙ ha) f)

    begins : (p : Vector) → side l p ≡ Null → side l t.from ≡ Null → side l t.to ≡ Plus → turn p ≡ order_along l p t.from
    begins p hp ha hb = same_sign-true (turn p) (order_along l p t.from) (imp-out _ _ (all3-out begins_1 refl (turn p) (order_along l p t.to) (order_along l p t.from)) (turn-agree p Null Plus hp ha hb))

    stops : (p : Vector) → side l p ≡ Null → side l t.from ≡ Plus → side l t.to ≡ Null → turn p ≡ negated (order_along l p t.to)
    stops p hp ha hb = same_sign-true (turn p) (negated (order_along l p t.to)) (imp-out _ _ (all3-out stops_1 refl (turn p) (order_along l p t.to) (order_along l p t.from)) (turn-agree p Plus Null hp ha hb))

    link-by : (a b : Sign) → side l t.from ≡ a → side l t.to ≡ b → not (is_minus a) ≡ true → not (is_minus b) ≡ true → (is_plus a || is_plus b) ≡ true → (us vs ut vt : Sign) → misses_by a b (turn z) (turn w) us vs ut vt ≡ true
    link-by Plus Plus ha hb na nb h us vs ut vt = refl
    link-by Null Plus ha hb na nb h us vs ut vt =
        ap (λ c. not (are_opposite c (turn w))) (begins z i.from_on ha hb) ∙ ap (λ c. not (are_opposite (order_along l z t.from) c)) (begins w i.to_on ha hb) ∙ apart-signs _ _ (from_apart ha)
    link-by Plus Null ha hb na nb h us vs ut vt =
        ap (λ c. not (are_opposite c (turn w))) (stops z i.from_on ha hb) ∙ ap (λ c. not (are_opposite (negated (order_along l z t.to)) c)) (stops w i.to_on ha hb) ∙ apart-negated _ _ (to_apart hb)
    link-by Null Null ha hb na nb h us vs ut vt = absurd (cc h)
    link-by Minus b ha hb na nb h us vs ut vt = absurd (cc na)
    link-by Null Minus ha hb na nb h us vs ut vt = absurd (cc nb)
    link-by Plus Minus ha hb na nb h us vs ut vt = absurd (cc nb)

    link-misses : Misses z w t
    link-misses =
        rw (link-side t.from, link-side t.to)
        (link-by (side l t.from) (side l t.to) refl refl k.from k.to k.some (sign (dot (from_to z w) (from_to z t.from))) (sign (dot (from_to z w) (from_to z t.to))) (sign (dot (from_to z w) (from_to w t.from))) (sign (dot (from_to z w) (from_to w t.to))))

    part-misses : Misses t.from t.to e
    part-misses =
        let ft = from_to t.from t.to in let a = sign (cross ft (from_to t.from z)) in let b = sign (cross ft (from_to t.from w)) in
        let us = sign (dot ft (from_to t.from z)) in let vs = sign (dot ft (from_to t.from w)) in let ut = sign (dot ft (from_to t.to z)) in let vt = sign (dot ft (from_to t.to w)) in
        let cs : sign (cross (from_to t.from z) (from_to t.from w)) ≡ side l t.from = ap sign (sym (orient-round t.from z w)) ∙ link-side t.from in
        let ct : sign (cross (from_to t.to z) (from_to t.to w)) ≡ side l t.to = ap sign (sym (orient-round t.to z w)) ∙ link-side t.to in
        let f1 = subst (λ c. agree (times Plus c) (times vs a) (times us b) ≡ true) cs (frame-agree ft (from_to t.from z) (from_to t.from w) td) in
        let f2 = subst (λ c. agree (times Plus c) (times vt a) (times ut b) ≡ true) ct (rw (side-there t.from t.to z, side-there t.from t.to w) at (frame-agree ft (from_to t.to z) (from_to t.to w) td)) in
        let g = all4-out (line_2 a b (side l t.from) (side l t.to)) (imp-out _ _ (imp-out _ _ (imp-out _ _ (all4-out line_1 line_computes a b (side l t.from) (side l t.to)) k.from) k.to) k.some) us vs ut vt in
        rw (cs, ct) (imp-out _ _ (imp-out _ _ g f1) f2)

    pub part-link-clear : AreClear t e
    part-link-clear = record { first = part-misses; second = link-misses }

-- ---- two links, one after the other
null-case : (a b cs ct us vs ut vt : Sign) → a ≡ Null → b ≡ Null → ((not (is_plus us) && not (is_plus vs)) || (not (is_minus ut) && not (is_minus vt))) ≡ true → misses_by a b cs ct us vs ut vt ≡ true
null-case Null Null cs ct us vs ut vt ha hb h = h
null-case Plus b cs ct us vs ut vt ha hb h = absurd (cc ha)
null-case Minus b cs ct us vs ut vt ha hb h = absurd (cc ha)
null-case Null Plus cs ct us vs ut vt ha hb h = absurd (cc hb)
null-case Null Minus cs ct us vs ut vt ha hb h = absurd (cc hb)

first-way : (a b c : Bool) → a ≡ true → b ≡ true → ((a && b) || c) ≡ true
first-way true true c h k = refl
first-way false b c h k = absurd (cc h)
first-way true false c h k = absurd (cc k)

second-way : (c a b : Bool) → a ≡ true → b ≡ true → (c || (a && b)) ≡ true
second-way true a b h k = refl
second-way false true true h k = refl
second-way false false b h k = absurd (cc h)
second-way false true false h k = absurd (cc k)

later-sign : (x y z : Sign) → agree x y z ≡ true → not (is_minus x) ≡ true → y ≡ Plus → not (is_minus z) ≡ true
later-sign x y z h n e = imp-out _ _ (imp-out _ _ (imp-out _ _ (all3-out (λ x y z. imp (agree x y z) λ _. imp (not (is_minus x)) λ _. imp (is_plus y) λ _. not (is_minus z)) refl x y z) h) n) (ap is_plus e)

earlier-sign : (x y z : Sign) → agree x y z ≡ true → not (is_plus x) ≡ true → y ≡ Minus → not (is_plus z) ≡ true
earlier-sign x y z h n e = imp-out _ _ (imp-out _ _ (imp-out _ _ (all3-out (λ x y z. imp (agree x y z) λ _. imp (not (is_plus x)) λ _. imp (is_minus y) λ _. not (is_plus z)) refl x y z) h) n) (ap is_minus e)

links-clear : (l : Line) → IsNonZero l.along → (e f : Edge) → IsLink l e → IsLink l f → not (is_minus (order_along l e.to f.from)) ≡ true → AreClear e f
links-clear l d e f i j n =
    let z = e.from in let w = e.to in let x = f.from in let y = f.to in
    let xw = ap (λ s. not (is_plus s)) (along-negated l w x) ∙ negated-not-plus _ n in
    let wz : order_along l w z ≡ Minus = along-negated l z w ∙ ap negated i.forward in
    record {
      first =
          null-case (sign (cross (from_to z w) (from_to z x))) (sign (cross (from_to z w) (from_to z y))) (sign (cross (from_to z x) (from_to z y))) (sign (cross (from_to w x) (from_to w y)))
          (sign (dot (from_to z w) (from_to z x))) (sign (dot (from_to z w) (from_to z y))) (sign (dot (from_to z w) (from_to w x))) (sign (dot (from_to z w) (from_to w y)))
          (link-side l d e i x ∙ j.from_on) (link-side l d e i y ∙ j.to_on)
          (second-way (not (is_plus (sign (dot (from_to z w) (from_to z x)))) && not (is_plus (sign (dot (from_to z w) (from_to z y))))) _ _
          (ap (λ s. not (is_minus s)) (link-dot l d e i (from_to w x)) ∙ n)
          (ap (λ s. not (is_minus s)) (link-dot l d e i (from_to w y)) ∙ later-sign (order_along l w x) (order_along l x y) (order_along l w y) (along-sum l w x y) n j.forward));
      second =
          null-case (sign (cross (from_to x y) (from_to x z))) (sign (cross (from_to x y) (from_to x w))) (sign (cross (from_to x z) (from_to x w))) (sign (cross (from_to y z) (from_to y w)))
          (sign (dot (from_to x y) (from_to x z))) (sign (dot (from_to x y) (from_to x w))) (sign (dot (from_to x y) (from_to y z))) (sign (dot (from_to x y) (from_to y w)))
          (link-side l d f j z ∙ i.from_on) (link-side l d f j w ∙ i.to_on)
          (first-way _ _ (not (is_minus (sign (dot (from_to x y) (from_to y z)))) && not (is_minus (sign (dot (from_to x y) (from_to y w)))))
          (ap (λ s. not (is_plus s)) (link-dot l d f j (from_to x z)) ∙ earlier-sign (order_along l x w) (order_along l w z) (order_along l x z) (along-sum l x w z) xw wz)
          (ap (λ s. not (is_plus s)) (link-dot l d f j (from_to x w)) ∙ xw));
    }

-- ---- the edges on the line
abbrev pub AllPlaced : Line → List Edge → Vector → List Vector → Type 0
AllPlaced l ts z rest = (t : Edge) → In t ts → (side l t.from ≡ Null → IsPlaced l z rest t.from) × (side l t.to ≡ Null → IsPlaced l z rest t.to)

-- a link between neighbours, not before p
pub record IsStep (l : Line) (ts : List Edge) (p : Vector) (e : Edge) : Type 0 where
  pub link : IsLink l e
  pub apart : (t : Edge) → In t ts → (side l t.from ≡ Null → IsApart l e.from e.to t.from) × (side l t.to ≡ Null → IsApart l e.from e.to t.to)
  pub later : not (is_minus (order_along l p e.from)) ≡ true

earlier-by : (x y z : Sign) → agree x y z ≡ true → x ≡ Plus → not (is_minus y) ≡ true → not (is_minus z) ≡ true
earlier-by x y z h e n = imp-out _ _ (imp-out _ _ (imp-out _ _ (all3-out (λ x y z. imp (agree x y z) λ _. imp (is_plus x) λ _. imp (not (is_minus y)) λ _. not (is_minus z)) refl x y z) h) (ap is_plus e)) n

module _ (l : Line) (d : IsNonZero l.along) (ts : List Edge) where
  earlier : (z w : Vector) (e : Edge) → IsAfter l z w → IsStep l ts w e → IsStep l ts z e
  earlier z w e h s = record { link = s.link; apart = s.apart; later = earlier-by (order_along l z w) (order_along l w e.from) (order_along l z e.from) (along-sum l z w e.from) h s.later }

  step-cond : (b : Bool) (z w : Vector) (es : List Edge) → IsStep l ts z (record { from = z; to = w }) → ((e : Edge) → In e es → IsStep l ts z e) → (e : Edge) → In e (cond b es (record { from = z; to = w } ∷ es)) → IsStep l ts z e
  step-cond true z w es s h e i = h e i
  step-cond false z w es s h e (inl k) = subst (IsStep l ts z) (sym k) s
  step-cond false z w es s h e (inr i) = h e i

  pub first-step : (z w : Vector) (r : List Vector) → side l z ≡ Null → side l w ≡ Null → EachPair (IsAfter l) (z ∷ (w ∷ r)) → AllPlaced l ts z (w ∷ r) → IsStep l ts z (record { from = z; to = w })
  first-step z w r hz hw rising placed =
      let hzw = in-all (IsAfter l z) (w ∷ r) w rising.0 (inl refl) in
      record {
        link = record { from_on = hz; to_on = hw; forward = hzw };
        apart = λ t i. let k = placed t i in (
          (λ h. placed-apart l z w r hzw rising.0 rising.1.0 t.from (k.0 h)),
          (λ h. placed-apart l z w r hzw rising.0 rising.1.0 t.to (k.1 h)),
        );
        later = ap (λ s. not (is_minus s)) (along-self l z);
      }

  pub next-placed : (z w : Vector) (r : List Vector) → EachPair (IsAfter l) (z ∷ (w ∷ r)) → AllPlaced l ts z (w ∷ r) → AllPlaced l ts w r
  next-placed z w r rising placed =
      let hzw = in-all (IsAfter l z) (w ∷ r) w rising.0 (inl refl) in
      λ t i. let k = placed t i in (
        (λ h. placed-next l z w r hzw rising.0 rising.1.0 t.from (k.0 h)),
        (λ h. placed-next l z w r hzw rising.0 rising.1.0 t.to (k.1 h)),
      )

  steps : (z : Vector) (rest : List Vector) → side l z ≡ Null → ((w : Vector) → In w rest → side l w ≡ Null) → EachPair (IsAfter l) (z ∷ rest) → AllPlaced l ts z rest →
      (e : Edge) → In e (closing_from l ts z rest) → IsStep l ts z e
  steps z [] hz hr rising placed e i = absurd i
  steps z (w ∷ r) hz hr rising placed e i =
      let hw = hr w (inl refl) in
      let hzw = in-all (IsAfter l z) (w ∷ r) w rising.0 (inl refl) in
      step-cond (is_even (ends_up_to l ts z)) z w (closing_from l ts w r) (first-step z w r hz hw rising placed)
      (λ e i. earlier z w e hzw (steps w r hw (λ x j. hr x (inr j)) rising.1 (next-placed z w r rising placed) e i)) e i

  pairs-cond : (b : Bool) (z w : Vector) (es : List Edge) → All (AreClear (record { from = z; to = w })) es → EachPair AreClear es → EachPair AreClear (cond b es (record { from = z; to = w } ∷ es))
  pairs-cond true z w es h k = k
  pairs-cond false z w es h k = (h, k)

  step-pairs : (z : Vector) (rest : List Vector) → side l z ≡ Null → ((w : Vector) → In w rest → side l w ≡ Null) → EachPair (IsAfter l) (z ∷ rest) → AllPlaced l ts z rest → EachPair AreClear (closing_from l ts z rest)
  step-pairs z [] hz hr rising placed = tt
  step-pairs z (w ∷ r) hz hr rising placed =
      let hw = hr w (inl refl) in
      let s = first-step z w r hz hw rising placed in
      let next = next-placed z w r rising placed in
      pairs-cond (is_even (ends_up_to l ts z)) z w (closing_from l ts w r)
      (all-in (AreClear (record { from = z; to = w })) (closing_from l ts w r) (λ e i.
      let t = steps w r hw (λ x j. hr x (inr j)) rising.1 next e i in links-clear l d (record { from = z; to = w }) e s.link t.link t.later))
      (step-pairs w r hw (λ x j. hr x (inr j)) rising.1 next)

-- ---- the half
-- what the edges on the line are to a list of parts
record IsClosed (ts C : List Edge) : Type 0 where
  pub two_ends : (e : Edge) → In e C → not (is_null (order e.from e.to)) ≡ true
  pub pairs : EachPair AreClear C
  pub across : (t e : Edge) → In t ts → In e C → AreClear t e

module _ (l : Line) (d : IsNonZero l.along) (cs : List Cutting) (cut : IsCut l cs) (sd : IsSided (wholes cs)) where
  abbrev T : List Edge
  T = parts l cs

  has-rising : (c : Cutting) → In c cs → IsRisingEdge (segment_of c.whole)
  has-rising c i = rising_in (segments_of (wholes cs)) (segment_of c.whole) sd.plain (in-map segment_of (wholes cs) c.whole (in-map (λ (c : Cutting). c.whole) cs c i))

  whole-ends : (c : Cutting) → In c cs → not (is_null (order c.whole.from c.whole.to)) ≡ true
  whole-ends c i = two-ends c.whole (has-rising c i)

  kind : (c : Cutting) → In c cs → has_part l c.whole ≡ true → IsWholePart l c.whole c.part ⊎ (IsCutFrom l c.whole c.part ⊎ IsCutTo l c.whole c.part)
  kind c i h = kinds l c.whole c.part (cut c i h) h

  part-two-ends : (t : Edge) → In t T → not (is_null (order t.from t.to)) ≡ true
  part-two-ends t i =
      let r = in-parts l cs t i in
      subst (λ (x : Edge). not (is_null (order x.from x.to)) ≡ true) (sym r.3) (part-ends-kind l r.0.whole r.0.part (whole-ends r.0 r.1) (kind r.0 r.1 r.2))

  parts-pair : (c e : Cutting) → In c (cut_edges l cs) → In e (cut_edges l cs) → IsClearOf (segment_of c.whole) (segment_of e.whole) → AreClear c.part e.part
  parts-pair c e i j h =
      let ci = in-filter (λ (c : Cutting). has_part l c.whole) cs c i in let ej = in-filter (λ (c : Cutting). has_part l c.whole) cs e j in
      let cp = in-passes (λ (c : Cutting). has_part l c.whole) cs c i in let ep = in-passes (λ (c : Cutting). has_part l c.whole) cs e j in
      let a = from-segments c.whole e.whole (of-clear (segment_of c.whole) (segment_of e.whole) (has-rising c ci) (has-rising e ej) h) in
      let b = part-clear l c.whole c.part e.whole (direction-of c.whole (whole-ends c ci)) (kind c ci cp) a in
      clear-swap e.part c.part (part-clear l e.whole e.part c.part (direction-of e.whole (whole-ends e ej)) (kind e ej ep) (clear-swap c.part e.whole b))

  parts-pairs : EachPair AreClear T
  parts-pairs =
      let a = pairs-out-of-map (λ s t. IsClearOf (segment_of s) (segment_of t)) (λ (c : Cutting). c.whole) cs (pairs-out-of-map IsClearOf segment_of (wholes cs) sd.plain.clear) in
      let b = pairs-filter (λ c e. IsClearOf (segment_of c.whole) (segment_of e.whole)) (λ (c : Cutting). has_part l c.whole) cs a in
      pairs-into-map AreClear (λ (c : Cutting). c.part) (cut_edges l cs)
      (pairs-weaker (λ c e. IsClearOf (segment_of c.whole) (segment_of e.whole)) (λ c e. AreClear c.part e.part) (cut_edges l cs) (λ c e i j h. parts-pair c e i j h) b)

  -- ---- with the links
  pub placed-or : (z : Vector) (rest : List Vector) (v : Vector) → In v (z ∷ rest) → IsPlaced l z rest v
  placed-or z rest v (inl e) = inl (ap (λ s. not (is_plus s)) (ap (order_along l z) e ∙ along-self l z))
  placed-or z rest v (inr i) = inr i

  pub all-placed : (z : Vector) (rest : List Vector) → AreMeetings l T (z ∷ rest) → AllPlaced l T z rest
  all-placed z rest mt = λ t i. ((λ h. placed-or z rest t.from (mt.whole t i t.from (ends_at-from t) h)), (λ h. placed-or z rest t.to (mt.whole t i t.to (ends_at-to t) h)))

  pub link-two-ends : (e : Edge) → IsLink l e → not (is_null (order e.from e.to)) ≡ true
  link-two-ends e i = nonnull-by e.from e.to (order e.from e.to) refl (λ h. cc (sym i.forward ∙ ap (order_along l e.from) (sym h) ∙ along-self l e.from))

  closed : (zs : List Vector) → AreMeetings l T zs → IsClosed T (closing l T zs)
  closed [] mt = record { two_ends = λ e i. absurd i; pairs = tt; across = λ t e i j. absurd j }
  closed (z ∷ rest) mt =
      let hz = mt.on_line z (inl refl) in let hr = λ (w : Vector) (i : In w rest). mt.on_line w (inr i) in
      let s = steps l d T z rest hz hr mt.rising (all-placed z rest mt) in
      record {
        two_ends = λ e i. link-two-ends e (s e i).link;
        pairs = step-pairs l d T z rest hz hr mt.rising (all-placed z rest mt);
        across = λ t e i j.
            let p = s e j in let a = p.apart t i in
            part-link-clear l d e p.link t (kept-part l cs cut t i) (direction-of t (part-two-ends t i)) a.0 a.1;
      }

  two-ends-either : (C : List Edge) → IsClosed T C → (e : Edge) → (In e T) ⊎ (In e C) → not (is_null (order e.from e.to)) ≡ true
  two-ends-either C k e (inl i) = part-two-ends e i
  two-ends-either C k e (inr i) = k.two_ends e i

  plain-with : (C : List Edge) → IsClosed T C → IsConflictFree (segments_of (T ++ C))
  plain-with C k =
      let rising = λ (e : Edge) (i : In e (T ++ C)). rising-of e (two-ends-either C k e (in-either T C e i)) in
      record {
        rising = all-in IsRisingEdge (segments_of (T ++ C)) (λ s i. let r = in-map-out segment_of (T ++ C) s i in subst IsRisingEdge (sym r.2) (rising r.0 r.1));
        clear = pairs-into-map IsClearOf segment_of (T ++ C)
            (pairs-weaker AreClear (λ s t. IsClearOf (segment_of s) (segment_of t)) (T ++ C)
            (λ s t i j h. clear-of (segment_of s) (segment_of t) (rising s i) (rising t j) (both-segments s t h))
            (pairs-append AreClear T C parts-pairs k.pairs k.across));
      }

  pub half-plain : (zs : List Vector) → AreMeetings l T zs → IsConflictFree (segments_of (half l cs zs))
  half-plain zs mt = plain-with (closing l T zs) (closed zs mt)
