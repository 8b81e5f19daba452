-- Successors in a sided list.
use Rattle.std.proofs.Common.{Bool, List, ap, arith, cond, eqb, eqb-true, false, not, refl, subst, sym, true, ℕ, ◌&&◌, ◌||◌, ◌∙◌, ◌≡◌}
use Rattle.plane_lists.specs.Rings.Cover.{covers_edge}
use Rattle.plane_lists.specs.Rings.Walk.{IsNextClockwise, IsSuccessor}
use Rattle.plane.specs.Conflict.{IsClearOf}
use Rattle.plane.specs.Edge.{Edge, IsRisingEdge, ends_at, other_end, reversed, same_edge, segment_of}
use Rattle.plane.specs.Order.{order}
use Rattle.plane.specs.Sector.{in_sector, sector_by}
use Rattle.plane.specs.Sign.{Null, Plus, Sign, is_null, is_plus, negated, sign}
use Rattle.plane.specs.Vector.{IsNonZero, Vector, cross, dot, from_to, one_at, same_point}
use Rattle.plane_lists.specs.Lists.ConflictFree.{IsConflictFree, others}
use Rattle.plane_lists.specs.Lists.EdgeList.{IsEvenAtPoints}
use Rattle.lists.specs.Member.{In}
use Rattle.plane_lists.specs.Lists.Node.{spokes_in}
use Rattle.plane_lists.specs.Lists.OddSide.{directed_edge}
use Rattle.plane_lists.specs.Lists.Parity.{is_even}
use Rattle.plane_lists.specs.Lists.Ring.{segments_of}
use Rattle.plane_lists.specs.Lists.Sided.{IsSided}
use Rattle.plane_lists.proofs.Rings.CoveredEdges.{or-swap, same_in, segment-ends-by}
use Rattle.lists.proofs.ListsKit.{all-in, in-filter, in-map, in-map-out, in-passes, none-sum, not-not, not-true-out, total-same}
use Rattle.plane.proofs.PlaneKit.{ends_at-to, same_edge-refl, same_edge-true, same_point-refl, same_point-true, cross-negated, cross-self, frame-dot-agree}
use Rattle.plane.proofs.SignKit.{agree, all, all-out, all2-out, all4-out, imp, imp-out, times, bit-same}
use Rattle.plane_lists.proofs.WindingKit.{leaves, no-loop, out_count, way, way-direction, ways_apart, clear_pair, off_away, split_off, differ-parity, spokes-is, odds, parity_round_node, sided-even, sided_direct, segment-rises}

abbrev pub is_some : Sign → Sign → Bool
is_some x y = agree (times x x) (times y y) Plus

pub some-signs : (a b : Vector) → IsNonZero a → IsNonZero b → is_some (sign (dot a b)) (sign (cross a b)) ≡ true
some-signs a b pa pb = subst (λ n. agree (times (sign (dot a b)) (sign (dot a b))) (times (sign (cross a b)) (sign (cross a b))) (times Plus n) ≡ true) pb (frame-dot-agree a b b pa)

-- the sector holds its last direction
pub sector-own : (a b : Vector) → IsNonZero a → IsNonZero b → in_sector a b b ≡ 1
sector-own a b pa pb =
    let c = all2-out (λ x y. imp (is_some x y) λ _. eqb (sector_by x y x y Null) 1) refl (sign (dot a b)) (sign (cross a b)) in
    ap (λ z. sector_by (sign (dot a b)) (sign (cross a b)) (sign (dot a b)) (sign (cross a b)) (sign z)) (cross-self b) ∙ eqb-true _ _ (imp-out _ _ c (some-signs a b pa pb))

-- and not its first
pub sector-first : (a b : Vector) → IsNonZero a → IsNonZero b → not (is_null (sign (cross a b)) && is_plus (sign (dot a b))) ≡ true → in_sector a b a ≡ 0
sector-first a b pa pb n =
    let c = all2-out (λ t k. imp (is_some t k) λ _. imp (not (is_null k && is_plus t)) λ _. eqb (sector_by Plus Null t k (negated k)) 0) refl (sign (dot a b)) (sign (cross a b)) in
    let t = sign (dot a b) in let k = sign (cross a b) in
    ap (λ s. sector_by s (sign (cross a a)) t k (sign (cross b a))) pa ∙ ap (λ z. sector_by Plus (sign z) t k (sign (cross b a))) (cross-self a)
    ∙ ap (λ s. sector_by Plus Null t k s) (cross-negated a b) ∙ eqb-true _ _ (imp-out _ _ (imp-out _ _ c (some-signs a b pa pb)) n)

-- of two directions one comes first
pub sector-either : (a b c : Vector) → IsNonZero a → IsNonZero b → IsNonZero c → in_sector a b c ≡ 0 → in_sector a c b ≡ 1
sector-either a b c pa pb pc h =
    let s = sign (dot a c) in let p = sign (cross a c) in let t = sign (dot a b) in let q = sign (cross a b) in let e = sign (cross b c) in
    let g = all-out (λ e. imp (is_some s p) λ _. imp (is_some t q) λ _. imp (eqb (sector_by s p t q e) 0) λ _. eqb (sector_by t q s p (negated e)) 1)
    (all4-out (λ s p t q. all λ e. imp (is_some s p) λ _. imp (is_some t q) λ _. imp (eqb (sector_by s p t q e) 0) λ _. eqb (sector_by t q s p (negated e)) 1) refl s p t q) e in
    ap (λ k. sector_by t q s p k) (cross-negated b c) ∙ eqb-true _ _ (imp-out _ _ (imp-out _ _ (imp-out _ _ g (some-signs a c pa pc)) (some-signs a b pa pb)) (ap (λ n. eqb n 0) h))

-- ---- an edge with its lower end first
segment-back-by : (v : Vector) (b : Bool) (g : Edge) → ends_at v (cond b g (reversed g)) ≡ true → ends_at v g ≡ true
segment-back-by v true g h = h
segment-back-by v false g h = or-swap (same_point v g.to) (same_point v g.from) h

pub segment-back : (v : Vector) (g : Edge) → ends_at v (segment_of g) ≡ true → ends_at v g ≡ true
segment-back v g h = segment-back-by v (is_plus (order g.from g.to)) g h

pub segment-ends : (v : Vector) (g : Edge) → ends_at v g ≡ true → ends_at v (segment_of g) ≡ true
segment-ends v g h = segment-ends-by v (is_plus (order g.from g.to)) g h

loop-by : (v : Vector) (b : Bool) (g : Edge) → same_point v g.from ≡ true → same_point v g.to ≡ true → IsRisingEdge (cond b g (reversed g)) → ⊥
loop-by v true g h k r = no-loop v g h k r
loop-by v false g h k r = no-loop v (reversed g) k h r

pub no-loop-segments : (v : Vector) (g : Edge) → same_point v g.from ≡ true → same_point v g.to ≡ true → IsRisingEdge (segment_of g) → ⊥
no-loop-segments v g h k r = loop-by v (is_plus (order g.from g.to)) g h k r

other-by : (v : Vector) (b p q : Bool) (g : Edge) → same_point v g.from ≡ p → same_point v g.to ≡ q → (p || q) ≡ true → IsRisingEdge (cond b g (reversed g)) → other_end v (cond b g (reversed g)) ≡ cond p g.to g.from
other-by v true p q g h k o r = ap (λ z. cond z g.to g.from) h
other-by v false true true g h k o r = absurd (loop-by v false g h k r)
other-by v false true false g h k o r = ap (λ z. cond z g.from g.to) k
other-by v false false true g h k o r = ap (λ z. cond z g.from g.to) k
other-by v false false false g h k o r = absurd (cc o)

pub way-segment : (v : Vector) (g : Edge) → ends_at v g ≡ true → IsRisingEdge (segment_of g) → way v (segment_of g) ≡ from_to v (other_end v g)
way-segment v g h r = ap (λ w. from_to v w) (other-by v (is_plus (order g.from g.to)) (same_point v g.from) (same_point v g.to) g refl refl h r)

differ-by : (e g : Edge) (P : Edge → Edge) → same_edge e g ≡ false → (P e ≡ P g → e ≡ g) → (b : Bool) → same_edge (P e) (P g) ≡ b → b ≡ false
differ-by e g P n inj false h = refl
differ-by e g P n inj true h = let k = inj (same_edge-true (P e) (P g) h) in absurd (cc (sym (same_edge-refl g) ∙ ap (λ w. same_edge w g) (sym k) ∙ n))

pub sym-differs-by : (e g : Edge) → same_edge e g ≡ false → (b : Bool) → same_edge g e ≡ b → b ≡ false
sym-differs-by e g n false h = refl
sym-differs-by e g n true h = let k = same_edge-true g e h in absurd (cc (sym (same_edge-refl g) ∙ ap (λ w. same_edge w g) k ∙ n))

-- the other way round
pub sym-differs : (g e : Edge) → same_edge e g ≡ false → same_edge g e ≡ false
sym-differs g e n = sym-differs-by e g n (same_edge g e) refl

pub unraised : (e g : Edge) → same_edge (segment_of e) (segment_of g) ≡ false → (b : Bool) → same_edge e g ≡ b → b ≡ false
unraised e g n false h = refl
unraised e g n true h = let k = same_edge-true e g h in absurd (cc (sym (same_edge-refl (segment_of g)) ∙ ap (λ w. same_edge (segment_of w) (segment_of g)) (sym k) ∙ n))

pub not-member : (e g : Edge) (rs : List Edge) → (In e rs → ⊥) → In g rs → (b : Bool) → same_edge e g ≡ b → b ≡ false
not-member e g rs n i false h = refl
not-member e g rs n i true h = absurd (n (subst (λ w. In w rs) (sym (same_edge-true e g h)) i))

module _ (es : List Edge) (sd : IsSided es) where
  pub rise : (g : Edge) → In g es → IsRisingEdge (segment_of g)
  rise = segment-rises es sd.plain

  pub up-even : IsEvenAtPoints (segments_of es)
  up-even = sided-even es sd.balanced

  pub segment-one : (e g : Edge) → In e es → In g es → segment_of e ≡ segment_of g → e ≡ g
  segment-one e g i j q = sym (sided_direct es sd e i) ∙ ap (directed_edge (segments_of es)) q ∙ sided_direct es sd g j

  pub segment-differs : (e g : Edge) → In e es → In g es → same_edge e g ≡ false → same_edge (segment_of e) (segment_of g) ≡ false
  segment-differs e g i j n = differ-by e g segment_of n (segment-one e g i j) (same_edge (segment_of e) (segment_of g)) refl

  pub clear-two : (e g : Edge) → In e es → In g es → same_edge e g ≡ false → IsClearOf (segment_of e) (segment_of g)
  clear-two e g i j n = clear_pair (segment_of e) (segment_of g) (segments_of es) sd.plain (in-map segment_of es e i) (in-map segment_of es g j) (segment-differs e g i j n)

  -- an edge leaves v exactly where the ray along it from v hits an odd number of the edges that do not end there
  pub leaves_where : (v : Vector) (g : Edge) → In g es → ends_at v g ≡ true → same_point v g.from ≡ not (is_even (out_count v (segments_of es) (segment_of g)))
  leaves_where v g i h =
      let k = ap (λ (e : Edge). one_at v e.from) (sym (sided_direct es sd g i)) ∙ (leaves v (segment_of g) (segments_of es) sd.plain up-even (in-map segment_of es g i)).0
      ∙ ap (λ b. cond b (odds (out_count v (segments_of es) (segment_of g))) 0) (segment-ends v g h) in
      bit-same (same_point v g.from) (not (is_even (out_count v (segments_of es) (segment_of g)))) k

  module _ (v : Vector) (e f : Edge) (i : In e es) (h : ends_at v e ≡ true) (n : IsNextClockwise v e f es) where
    abbrev we : Vector
    we = way v (segment_of e)

    abbrev wf : Vector
    wf = way v (segment_of f)

    pub e-way : IsNonZero we
    e-way = way-direction v (segment_of e) (segment-ends v e h) (rise e i)

    pub f-way : IsNonZero wf
    f-way = way-direction v (segment_of f) (segment-ends v f n.meets) (rise f n.member)

    first-out : in_sector wf we wf ≡ 0
    first-out = sector-first wf we f-way e-way (ways_apart v (segment_of f) (segment_of e) (segment-ends v f n.meets) (segment-ends v e h) (rise f n.member) (rise e i) (clear-two f e n.member i (sym-differs f e n.other)))

    abbrev F : Edge → ℕ
    F t = cond (ends_at v t) (in_sector wf we (way v t)) 0

    pub none-between : (g : Edge) → In g es → same_edge e g ≡ false → same_edge f g ≡ false → ends_at v (segment_of g) ≡ true → in_sector wf we (way v (segment_of g)) ≡ 0
    none-between g j x y k =
        let m = segment-back v g k in
        ap (λ w. in_sector w we (way v (segment_of g))) (way-segment v f n.meets (rise f n.member))
        ∙ ap (λ w. in_sector (from_to v (other_end v f)) w (way v (segment_of g))) (way-segment v e h (rise e i))
        ∙ ap (λ w. in_sector (from_to v (other_end v f)) (from_to v (other_end v e)) w) (way-segment v g m (rise g j)) ∙ n.first g j m x y

    F-by : (g : Edge) → In g es → same_edge e g ≡ false → same_edge f g ≡ false → (b : Bool) → ends_at v (segment_of g) ≡ b → cond b (in_sector wf we (way v (segment_of g))) 0 ≡ 0
    F-by g j x y true k = none-between g j x y k
    F-by g j x y false k = refl

    pub F-none : (g : Edge) → In g es → same_edge e g ≡ false → same_edge f g ≡ false → F (segment_of g) ≡ 0
    F-none g j x y = F-by g j x y (ends_at v (segment_of g)) refl

    F-first : F (segment_of f) ≡ 0
    F-first = ap (λ b. cond b (in_sector wf we wf) 0) (segment-ends v f n.meets) ∙ first-out

    F-other-by : (g : Edge) → In g es → same_edge e g ≡ false → (b : Bool) → same_edge f g ≡ b → F (segment_of g) ≡ 0
    F-other-by g j x true k = subst (λ w. F (segment_of w) ≡ 0) (same_edge-true f g k) F-first
    F-other-by g j x false k = F-none g j x k

    F-other : (t : Edge) → In t (others (segment_of e) (segments_of es)) → F t ≡ 0
    F-other t j =
        let r = in-map-out segment_of es t (in-filter (λ (t : Edge). not (same_edge (segment_of e) t)) (segments_of es) t j) in
        let d = not-true-out (same_edge (segment_of e) t) (in-passes (λ (t : Edge). not (same_edge (segment_of e) t)) (segments_of es) t j) in
        let x = unraised e r.0 (subst (λ w. same_edge (segment_of e) w ≡ false) r.2 d) (same_edge e r.0) refl in
        subst (λ w. F w ≡ 0) (sym r.2) (F-other-by r.0 r.1 x (same_edge f r.0) refl)

    -- one edge is in the sector, e itself
    pub one_between : spokes_in wf we v (segments_of es) ≡ 1
    one_between =
        let a = spokes-is wf we v (segments_of es) in let b = split_off F (segment_of e) (segments_of es) sd.plain (in-map segment_of es e i) in
        let c : F (segment_of e) ≡ 1 = ap (λ b. cond b (in_sector wf we we) 0) (segment-ends v e h) ∙ sector-own wf we f-way e-way in
        let d = total-same F (λ t. 0) (others (segment_of e) (segments_of es)) F-other in let z = none-sum (others (segment_of e) (segments_of es)) in omega arith

    -- round a point edges enter and leave by turns
    pub by_turns : same_point v f.from ≡ not (same_point v e.from)
    by_turns =
        let b = parity_round_node wf we v (segments_of es) f-way e-way up-even (off_away v (segment_of e) (segments_of es) sd.plain (in-map segment_of es e i) (segment-ends v e h)) in
        let o = one_between in
        let d = differ-parity (out_count v (segments_of es) (segment_of f)) (out_count v (segments_of es) (segment_of e)) (omega arith) in
        leaves_where v f n.member n.meets ∙ ap not d ∙ not-not _ ∙ sym (not-not _) ∙ ap not (sym (leaves_where v e i h))

    -- a list that holds neither of two neighbours has one parity on both
    pub first_same : (rs : List Edge) → ((x : Edge) → In x rs → In x es) → IsConflictFree (segments_of rs) → IsEvenAtPoints (segments_of rs) → (In e rs → ⊥) → (In f rs → ⊥) → covers_edge (segments_of rs) (segment_of e) ≡ covers_edge (segments_of rs) (segment_of f)
    first_same rs sub pl even ne nf =
        let zero = λ (t : Edge) (j : In t (segments_of rs)). (
        let r = in-map-out segment_of rs t j in
        subst (λ w. F w ≡ 0) (sym r.2) (F-none r.0 (sub r.0 r.1) (not-member e r.0 rs ne r.1 (same_edge e r.0) refl) (not-member f r.0 rs nf r.1 (same_edge f r.0) refl))) in
        let a = spokes-is wf we v (segments_of rs) in let d = total-same F (λ t. 0) (segments_of rs) zero in let z = none-sum (segments_of rs) in
        let clear = λ (s : Edge) (is : In s es) (ns : In s rs → ⊥). all-in (IsClearOf (segment_of s)) (segments_of rs) (λ t j.
        let r = in-map-out segment_of rs t j in subst (IsClearOf (segment_of s)) (sym r.2) (clear-two s r.0 is (sub r.0 r.1) (not-member s r.0 rs ns r.1 (same_edge s r.0) refl))) in
        sym (same_in v (segment_of f) (segment_of e) (segments_of rs) (rise f n.member) (rise e i) pl even (clear f n.member nf) (clear e i ne) (segment-ends v f n.meets) (segment-ends v e h) (omega arith))

  next-by : (e f : Edge) → In e es → IsSuccessor es e f → (b : Bool) → same_point e.to e.from ≡ b → e.to ≡ f.from
  next-by e f i n true k = absurd (no-loop-segments e.to e k (same_point-refl e.to) (rise e i))
  next-by e f i n false k = same_point-true e.to f.from (by_turns e.to e f i (ends_at-to e) n ∙ ap not k)

  -- the successor leaves the point that its edge enters
  pub next_leaves : (e f : Edge) → In e es → IsSuccessor es e f → e.to ≡ f.from
  next_leaves e f i n = next-by e f i n (same_point e.to e.from) refl

  -- no edge is the first of two
  first-one-by : (v : Vector) (d e f : Edge) → In d es → In e es → ends_at v d ≡ true → ends_at v e ≡ true → IsNextClockwise v d f es → IsNextClockwise v e f es → (b : Bool) → same_edge d e ≡ b → d ≡ e
  first-one-by v d e f i j hd he m n true k = same_edge-true d e k
  first-one-by v d e f i j hd he m n false k =
      let x = none-between v d f i hd m e j k (sym-differs f e n.other) (segment-ends v e he) in
      let y = none-between v e f j he n d i (sym-differs e d k) (sym-differs f d m.other) (segment-ends v d hd) in
      let z = sector-either (way v (segment_of f)) (way v (segment_of d)) (way v (segment_of e)) (f-way v d f i hd m) (e-way v d f i hd m) (e-way v e f j he n) x in
      absurd (omega arith)

  pub first_one : (v : Vector) (d e f : Edge) → In d es → In e es → ends_at v d ≡ true → ends_at v e ≡ true → IsNextClockwise v d f es → IsNextClockwise v e f es → d ≡ e
  first_one v d e f i j hd he m n = first-one-by v d e f i j hd he m n (same_edge d e) refl

  -- successors are one to one
  pub next_one : (d e f : Edge) → In d es → In e es → IsSuccessor es d f → IsSuccessor es e f → d ≡ e
  next_one d e f i j m n =
      let q = next_leaves d f i m ∙ sym (next_leaves e f j n) in
      first_one e.to d e f i j (subst (λ w. ends_at w d ≡ true) q (ends_at-to d)) (ends_at-to e) (subst (λ w. IsNextClockwise w d f es) q m) n
