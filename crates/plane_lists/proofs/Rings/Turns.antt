-- Each edge has a successor, and one alone.
use Rattle.std.proofs.Common.{Bool, List, ap, arith, eqb, eqb-true, false, inl, inr, not, refl, subst, sym, true, ℕ, ◌&&◌, ◌+◌, ◌∙◌, ◌≡◌, ◌⊎◌}
use Rattle.std.specs.List.{filter}
use Rattle.plane_lists.specs.Rings.Walk.{IsNextClockwise, IsSuccessor}
use Rattle.plane.specs.Bit.{bit}
use Rattle.plane.specs.Edge.{Edge, ends_at, other_end, same_edge, segment_of}
use Rattle.plane.specs.Sector.{in_sector, sector_by}
use Rattle.plane.specs.Sign.{Sign, is_null, is_plus, negated, sign, then_sign}
use Rattle.plane.specs.Vector.{IsNonZero, Vector, cross, dot, from_to}
use Rattle.plane_lists.specs.Lists.ConflictFree.{others}
use Rattle.lists.specs.Member.{In}
use Rattle.plane_lists.specs.Lists.Node.{spokes}
use Rattle.plane_lists.specs.Lists.Rank.{IsOrder}
use Rattle.plane_lists.specs.Lists.Ring.{segments_of}
use Rattle.plane_lists.specs.Lists.Sided.{IsSided}
use Rattle.plane_lists.proofs.Rings.Parts.{differ, sided-once}
use Rattle.plane_lists.proofs.Rings.Successors.{clear-two, is_some, none-between, rise, sector-either, sector-own, segment-back, segment-ends, some-signs, sym-differs, unraised, up-even, way-segment}
use Rattle.std.proofs.lemmas.Bool.{and_parts}
use Rattle.lists.proofs.ListsKit.{in-filter, in-map, in-map-out, in-passes, into-filter, not-true-out, pairs-filter, pairs-weaker, total, total-filter}
use Rattle.plane.proofs.PlaneKit.{ends_at-to, same_edge-refl, same_edge-true, cross-negated, plucker-agree, plucker-dot-agree, dot-swap}
use Rattle.plane.proofs.SignKit.{agree, all, all-out, all2, all2-out, all4, all4-out, imp, imp-out, same_bool-true, times}
use Rattle.plane_lists.proofs.WindingKit.{some_odd, crossed-at, dot-at, chain_signs, crossed, degree-even, either_2, either_computes, length-total, way, way-direction, ways_apart, split_off, first_exists, odd-is}

-- a and b do not point the same way
abbrev pub apart : Vector → Vector → Bool
apart a b = not (is_null (sign (cross a b)) && is_plus (sign (dot a b)))

-- ---- seen from any direction d
set-at : (d a : Vector) → IsNonZero d → IsNonZero a → not (is_null (then_sign (sign (cross d a)) (sign (dot d a)))) ≡ true
set-at d a pd pa = imp-out _ _ (all2-out (λ x y. imp (is_some x y) λ _. not (is_null (then_sign y x))) refl (sign (dot d a)) (sign (cross d a))) (some-signs d a pd pa)

pub one-eqb : (n : ℕ) → n ≡ 1 → eqb n 1 ≡ true
one-eqb n h = ap (λ n. eqb n 1) h

pub sector-chain : (d a b c : Vector) → IsNonZero d → IsNonZero b → in_sector d a b ≡ 1 → in_sector d b c ≡ 1 → in_sector d a c ≡ 1
sector-chain d a b c pd pb h g =
    eqb-true _ _ (chain_signs (sign (dot d a)) (sign (cross d a)) (sign (dot d b)) (sign (cross d b)) (sign (dot d c)) (sign (cross d c)) (sign (cross a b)) (sign (cross b c)) (sign (cross a c))
    (crossed-at d a b pd) (crossed-at d b c pd) (crossed-at d a c pd) (plucker-agree d a b c) (plucker-dot-agree d a b c) (set-at d b pd pb) (one-eqb _ h) (one-eqb _ g))

-- of two directions apart exactly one comes first
pub sector-one : (d a b : Vector) → IsNonZero d → IsNonZero a → IsNonZero b → apart a b ≡ true → eqb (in_sector d a b) 1 ≡ not (eqb (in_sector d b a) 1)
sector-one d a b pd pa pb n =
    let c = all2-out (either_2 (sign (dot d a)) (sign (cross d a)) (sign (dot d b)) (sign (cross d b))) (all4-out (λ ax ay bx by. all2 (either_2 ax ay bx by)) either_computes (sign (dot d a)) (sign (cross d a)) (sign (dot d b)) (sign (cross d b))) (sign (cross a b)) (sign (dot a b)) in
    let e = same_bool-true _ _ (imp-out _ _ (imp-out _ _ (imp-out _ _ (imp-out _ _ (imp-out _ _ c (crossed-at d a b pd)) (dot-at d a b pd)) n) (set-at d a pd pa)) (set-at d b pd pb)) in
    e ∙ ap (λ s. not (eqb (sector_by (sign (dot d a)) (sign (cross d a)) (sign (dot d b)) (sign (cross d b)) s) 1)) (sym (cross-negated a b))

abbrev rest_2 : Sign → Sign → Sign → Sign → Sign → Sign → Bool
rest_2 x y t q e g =
    imp (is_some x y) λ _. imp (is_some t q) λ _.
    imp (crossed t q x y e) λ _. imp (agree (times t x) (times q y) g) λ _.
    imp (not (is_null q && is_plus t)) λ _.
    eqb (sector_by x y t q e + sector_by g e t (negated q) y) 1

rest_computes : all4 (λ x y t q. all2 (rest_2 x y t q)) ≡ true
rest_computes = refl

-- the rest of the turn
pub sector-rest : (d m y : Vector) → IsNonZero d → IsNonZero m → IsNonZero y → apart d m ≡ true → in_sector d m y + in_sector m d y ≡ 1
sector-rest d m y pd pm py n =
    let x1 = sign (dot d y) in let y1 = sign (cross d y) in let t = sign (dot d m) in let q = sign (cross d m) in let e = sign (cross m y) in let g = sign (dot m y) in
    let c = all2-out (rest_2 x1 y1 t q) (all4-out (λ x y t q. all2 (rest_2 x y t q)) rest_computes x1 y1 t q) e g in
    let r = eqb-true _ _ (imp-out _ _ (imp-out _ _ (imp-out _ _ (imp-out _ _ (imp-out _ _ c (some-signs d y pd py)) (some-signs d m pd pm)) (crossed-at d m y pd)) (dot-at d m y pd)) n) in
    ap (λ s. in_sector d m y + sector_by g e s (sign (cross m d)) y1) (ap sign (dot-swap d m)) ∙ ap (λ s. in_sector d m y + sector_by g e t s y1) (cross-negated d m) ∙ r

abbrev zero_one : Sign → Sign → Sign → Sign → Bool
zero_one s b t c = all λ e. eqb (bit (eqb (sector_by s b t c e) 1)) (sector_by s b t c e)

pub zero-of : (d a b : Vector) → eqb (in_sector d a b) 1 ≡ false → in_sector d a b ≡ 0
zero-of d a b h =
    let z = all-out (λ e. eqb (bit (eqb (sector_by (sign (dot d b)) (sign (cross d b)) (sign (dot d a)) (sign (cross d a)) e) 1)) (sector_by (sign (dot d b)) (sign (cross d b)) (sign (dot d a)) (sign (cross d a)) e))
    (all4-out zero_one refl (sign (dot d b)) (sign (cross d b)) (sign (dot d a)) (sign (cross d a))) (sign (cross a b)) in
    sym (eqb-true _ _ z) ∙ ap bit h

both-so : (a b : Bool) → a ≡ true → b ≡ false → (a && not b) ≡ true
both-so true false h k = refl
both-so false b h k = absurd (cc h)
both-so true true h k = absurd (cc k)

module _ (es : List Edge) (sd : IsSided es) (v : Vector) where
  abbrev w : Edge → Vector
  w g = way v (segment_of g)

  w-way : (g : Edge) → In g es → ends_at v g ≡ true → IsNonZero (w g)
  w-way g i h = way-direction v (segment_of g) (segment-ends v g h) (rise es sd g i)

  w-apart : (f g : Edge) → In f es → In g es → ends_at v f ≡ true → ends_at v g ≡ true → same_edge f g ≡ false → apart (w f) (w g) ≡ true
  w-apart f g i j hf hg n = ways_apart v (segment_of f) (segment_of g) (segment-ends v f hf) (segment-ends v g hg) (rise es sd f i) (rise es sd g j) (clear-two es sd f g i j n)

  -- ---- one alone
  alone-by : (e f g : Edge) → In e es → ends_at v e ≡ true → IsNextClockwise v e f es → IsNextClockwise v e g es → (b : Bool) → same_edge f g ≡ b → f ≡ g
  alone-by e f g i h m n true k = same_edge-true f g k
  alone-by e f g i h m n false k =
      let x = none-between es sd v e f i h m g n.member n.other k (segment-ends v g n.meets) in
      let y = none-between es sd v e g i h n f m.member m.other (sym-differs g f k) (segment-ends v f m.meets) in
      let a = sector-rest (w e) (w f) (w g) (w-way e i h) (w-way f m.member m.meets) (w-way g n.member n.meets) (w-apart e f i m.member h m.meets m.other) in
      let b = sector-rest (w e) (w g) (w f) (w-way e i h) (w-way g n.member n.meets) (w-way f m.member m.meets) (w-apart e g i n.member h n.meets n.other) in
      let c = sector-one (w e) (w f) (w g) (w-way e i h) (w-way f m.member m.meets) (w-way g n.member n.meets) (w-apart f g m.member n.member m.meets n.meets k) in
      let p : in_sector (w e) (w f) (w g) ≡ 1 = omega arith in let q : in_sector (w e) (w g) (w f) ≡ 1 = omega arith in
      absurd (cc (sym (one-eqb _ p) ∙ c ∙ ap not (one-eqb _ q)))

  pub first_alone : (e f g : Edge) → In e es → ends_at v e ≡ true → IsNextClockwise v e f es → IsNextClockwise v e g es → f ≡ g
  first_alone e f g i h m n = alone-by e f g i h m n (same_edge f g) refl

  -- ---- there is one
  module _ (e : Edge) (i : In e es) (h : ends_at v e ≡ true) where
    abbrev is_other : Edge → Bool
    is_other g = ends_at v g && not (same_edge e g)

    abbrev rest : List Edge
    rest = filter is_other es

    abbrev ahead_of : Edge → Edge → Bool
    ahead_of x y = not (eqb (in_sector (w e) (w y) (w x)) 1)

    rest-in : (g : Edge) → In g rest → In g es
    rest-in g j = in-filter is_other es g j

    rest-is : (g : Edge) → In g rest → (ends_at v g ≡ true) × (not (same_edge e g) ≡ true)
    rest-is g j = and_parts (ends_at v g) (not (same_edge e g)) (in-passes is_other es g j)

    rest-way : (g : Edge) → In g rest → IsNonZero (w g)
    rest-way g j = w-way g (rest-in g j) (rest-is g j).0

    behind : (x y : Edge) → In x rest → In y rest → ahead_of x y ≡ true → in_sector (w e) (w x) (w y) ≡ 1
    behind x y j k o =
        sector-either (w e) (w y) (w x) (w-way e i h) (rest-way y k) (rest-way x j) (zero-of (w e) (w y) (w x) (not-true-out (eqb (in_sector (w e) (w y) (w x)) 1) o))

    chain-by : (x y z : Edge) → In x rest → In y rest → In z rest → ahead_of x y ≡ true → ahead_of y z ≡ true → (b : Bool) → eqb (in_sector (w e) (w z) (w x)) 1 ≡ b → not b ≡ true
    chain-by x y z jx jy jz p q false o = refl
    chain-by x y z jx jy jz p q true o =
        let c = sector-chain (w e) (w y) (w z) (w x) (w-way e i h) (rest-way z jz) (behind y z jy jz q) (eqb-true _ _ o) in
        absurd (cc (sym (one-eqb _ c) ∙ not-true-out (eqb (in_sector (w e) (w y) (w x)) 1) p))

    rest-order : IsOrder false ahead_of rest
    rest-order = record {
      itself = λ x j. ap not (one-eqb _ (sector-own (w e) (w x) (w-way e i h) (rest-way x j)));
      chain = λ x y z jx jy jz p q. chain-by x y z jx jy jz p q (eqb (in_sector (w e) (w z) (w x)) 1) refl;
      either = pairs-weaker (λ (x y : Edge). x ≡ y → ⊥) (λ x y. ahead_of x y ≡ not (ahead_of y x)) rest
          (λ x y j k n. ap not (sector-one (w e) (w y) (w x) (w-way e i h) (rest-way y k) (rest-way x j)
          (w-apart y x (rest-in y k) (rest-in x j) (rest-is y k).0 (rest-is x j).0 (sym-differs y x (differ x y n)))))
          (pairs-filter (λ (x y : Edge). x ≡ y → ⊥) is_other es (sided-once es sd));
    }

    some-other : (g : Edge) × In g rest
    some-other =
        let s = segment_of e in let up = segments_of es in let j = in-map segment_of es e i in
        let d = degree-even v up sd.plain (up-even es sd) in
        let a = length-total (spokes v up) in let b = total-filter (ends_at v) (λ t. 1) up in
        let c = split_off (λ t. bit (ends_at v t)) s up sd.plain j in
        let o : bit (ends_at v s) ≡ 1 = ap bit (segment-ends v e h) in
        let t = some_odd (ends_at v) (others s up) (odd-is (total (λ t. bit (ends_at v t)) (others s up)) (omega arith)) in
        let r = in-map-out segment_of es t.0 (in-filter (λ (t : Edge). not (same_edge s t)) up t.0 t.1) in
        let n = not-true-out (same_edge s t.0) (in-passes (λ (t : Edge). not (same_edge s t)) up t.0 t.1) in
        let m = unraised e r.0 (subst (λ w. same_edge s w ≡ false) r.2 n) (same_edge e r.0) refl in
        let k = segment-back v r.0 (subst (λ w. ends_at v w ≡ true) r.2 t.2) in
        (r.0, into-filter is_other es r.0 r.1 (let x = k in let y = m in both-so (ends_at v r.0) (same_edge e r.0) x y))

    before-by : (m g : Edge) → In m rest → In g rest → same_edge m g ≡ false → (g ≡ m) ⊎ (ahead_of m g ≡ true) → in_sector (w m) (w e) (w g) ≡ 0
    before-by m g jm jg n (inl q) = absurd (cc (sym (same_edge-refl g) ∙ ap (λ u. same_edge u g) q ∙ n))
    before-by m g jm jg n (inr o) =
        let a = behind m g jm jg o in
        let b = sector-rest (w e) (w m) (w g) (w-way e i h) (rest-way m jm) (rest-way g jg) (w-apart e m i (rest-in m jm) h (rest-is m jm).0 (not-true-out (same_edge e m) (rest-is m jm).1)) in
        omega arith

    pub first_there : (f : Edge) × IsNextClockwise v e f es
    first_there =
        let s = some-other in let m = first_exists ahead_of rest s.0 s.1 rest-order in
        let f = m.0 in let j = m.1.here in let hf = (rest-is f j).0 in (
          f,
          record {
            member = rest-in f j;
            meets = hf;
            other = not-true-out (same_edge e f) (rest-is f j).1;
            first = λ g k hg n l.
                let jg = into-filter is_other es g k (both-so (ends_at v g) (same_edge e g) hg n) in
                ap (λ u. in_sector u (from_to v (other_end v e)) (from_to v (other_end v g))) (sym (way-segment v f hf (rise es sd f (rest-in f j))))
                ∙ ap (λ u. in_sector (w f) u (from_to v (other_end v g))) (sym (way-segment v e h (rise es sd e i)))
                ∙ ap (λ u. in_sector (w f) (w e) u) (sym (way-segment v g hg (rise es sd g k)))
                ∙ before-by f g j jg l (m.1.first g jg);
          },
        )

-- each edge has a successor
pub next_there : (es : List Edge) → IsSided es → (e : Edge) → In e es → (f : Edge) × IsSuccessor es e f
next_there es sd e i = first_there es sd e.to e i (ends_at-to e)

pub next_alone : (es : List Edge) → IsSided es → (e f g : Edge) → In e es → IsSuccessor es e f → IsSuccessor es e g → f ≡ g
next_alone es sd e f g i m n = first_alone es sd e.to e f g i (ends_at-to e) m n
