-- Two closed parts of a walk share one point.
use Rattle.std.proofs.Common.{Bool, List, [], ap, arith, cond, false, inl, inr, refl, subst, sym, true, ℕ, ◌%◌, ◌++◌, ◌+◌, ◌||◌, ◌∙◌, ◌∷◌, ◌≡◌, ◌⊎◌}
use Rattle.plane_lists.specs.Rings.Walk.{Follow, IsNextClockwise, IsSuccessor, IsWalk, last}
use Rattle.plane.specs.Bit.{bit}
use Rattle.plane.specs.Edge.{Edge, ends_at, same_edge, segment_of}
use Rattle.plane.specs.Sector.{in_sector}
use Rattle.plane.specs.Vector.{IsNonZero, Vector, same_point}
use Rattle.plane_lists.specs.Lists.ConflictFree.{IsConflictFree}
use Rattle.plane_lists.specs.Lists.EdgeList.{IsEvenAtPoints, crossing_count}
use Rattle.lists.specs.Member.{In}
use Rattle.plane_lists.specs.Lists.Node.{away}
use Rattle.plane_lists.specs.Lists.Parity.{is_even}
use Rattle.plane_lists.specs.Lists.Ring.{IsPath, segments_of}
use Rattle.plane_lists.specs.Lists.Sided.{IsSided}
use Rattle.plane_lists.proofs.NestingKit.{Once, differ, once-apart, plain-of, clear-two, next_leaves, no-loop-segments, none-between, rise, sector-either, sector-first, segment-back, segment-ends, sym-differs, apart, follow-left}
use Rattle.std.proofs.lemmas.Bool.{false_from_ne_true, or_right}
use Rattle.plane.proofs.PlaneKit.{same_edge-refl, same_edge-true, same_point-refl, same_point-true}
use Rattle.plane_lists.proofs.WindingKit.{way, way-direction, ways_apart, spokes-is, even-is, odd-is, parity_round_node, sided-even, closed-balanced}
use Rattle.lists.proofs.ListsKit.{even_or_odd, in-all, in-left, in-right, pairs-left, total, total-map, total-same}
use Rattle.plane_lists.proofs.OneRingList.Cyclic.{both_or_none}
use Rattle.plane_lists.proofs.OneRingList.Sees.{off, walk_sees, way-from}

same-even : (m n : ℕ) → is_even m ≡ is_even n → (m % 2 ≡ 0) ⊎ (m % 2 ≡ 1) → (n % 2 ≡ 0) ⊎ (n % 2 ≡ 1) → (m + n) % 2 ≡ 0
same-even m n h (inl a) (inl b) = omega arith
same-even m n h (inr a) (inr b) = omega arith
same-even m n h (inl a) (inr b) = let x = even-is m a in let y = odd-is n b in absurd (cc (sym x ∙ h ∙ y))
same-even m n h (inr a) (inl b) = let x = odd-is m a in let y = even-is n b in absurd (cc (sym x ∙ h ∙ y))

pub at-point : (p q : Vector) → p ≡ q → same_point p q ≡ true
at-point p q h = ap (same_point p) (sym h) ∙ same_point-refl p

pub same-edge-of : (x y : Edge) → x ≡ y → same_edge x y ≡ true
same-edge-of x y h = ap (same_edge x) (sym h) ∙ same_edge-refl x

none-here : (f : Edge) (xs : List Edge) → ((x : Edge) → In x xs → f ≡ x → ⊥) → total (λ (x : Edge). bit (same_edge f x)) xs ≡ 0
none-here f [] h = refl
none-here f (x ∷ xs) h =
    let a = ap bit (differ f x (h x (inl refl))) in let b = none-here f xs (λ y i. h y (inr i)) in omega arith

-- a member of a list that has no edge twice stands there once
pub count-one : (f : Edge) (xs : List Edge) → Once xs → In f xs → total (λ (x : Edge). bit (same_edge f x)) xs ≡ 1
count-one f [] o i = absurd i
count-one f (x ∷ xs) o (inl e) =
    let a = ap bit (same-edge-of f x e) in let b = none-here f xs (λ y j q. in-all (λ (y : Edge). x ≡ y → ⊥) xs y o.0 j (sym e ∙ q)) in omega arith
count-one f (x ∷ xs) o (inr i) =
    let a = ap bit (differ f x (λ q. in-all (λ (y : Edge). x ≡ y → ⊥) xs f o.0 i (sym q))) in let b = count-one f xs o.1 i in omega arith

pub path-last : (a b : Vector) (c : Edge) (cs : List Edge) → IsPath a (c ∷ cs) b → (last c cs).to ≡ b
path-last a b c [] p = p.1
path-last a b c (d ∷ cs) p = path-last c.to b d cs p.1

module _ (es : List Edge) (sd : IsSided es) (P : Vector) (f g : Edge) (fi : In f es) (gi : In g es) (qf : P ≡ f.from) (qg : P ≡ g.from) (fg : same_edge f g ≡ false) where
  abbrev w : Edge → Vector
  w x = way P (segment_of x)

  abbrev S : Edge → ℕ
  S x = in_sector (w f) (w g) (w x)

  abbrev A : Edge → ℕ
  A x = cond (same_point P x.from) (S x) 0

  abbrev B : Edge → ℕ
  B x = cond (same_point P x.to) (S x) 0

  abbrev H : Edge → ℕ
  H t = cond (ends_at P t) (in_sector (w f) (w g) (way P t)) 0

  w-way : (x : Edge) → In x es → ends_at P x ≡ true → IsNonZero (w x)
  w-way x i h = way-direction P (segment_of x) (segment-ends P x h) (rise es sd x i)

  w-apart : (x y : Edge) → In x es → In y es → ends_at P x ≡ true → ends_at P y ≡ true → same_edge x y ≡ false → apart (w x) (w y) ≡ true
  w-apart x y i j hx hy n = ways_apart P (segment_of x) (segment_of y) (segment-ends P x hx) (segment-ends P y hy) (rise es sd x i) (rise es sd y j) (clear-two es sd x y i j n)

  from-ends : (x : Edge) → P ≡ x.from → ends_at P x ≡ true
  from-ends x q = ap (λ b. b || same_point P x.to) (at-point P x.from q)

  to-ends : (x : Edge) → P ≡ x.to → ends_at P x ≡ true
  to-ends x q = or_right (same_point P x.from) (same_point P x.to) (at-point P x.to q)

  hf : ends_at P f ≡ true
  hf = from-ends f qf

  hg : ends_at P g ≡ true
  hg = from-ends g qg

  parts-by : (x : Edge) → In x es → (b c : Bool) → same_point P x.from ≡ b → same_point P x.to ≡ c → H (segment_of x) ≡ cond {A = ℕ} b (S x) 0 + cond {A = ℕ} c (S x) 0
  parts-by x i true true h k = absurd (no-loop-segments P x h k (rise es sd x i))
  parts-by x i true false h k =
      let e = segment-ends P x (ap (λ b. b || same_point P x.to) h) in
      let s : H (segment_of x) ≡ S x = ap (λ b. cond b (S x) 0) e in omega arith
  parts-by x i false true h k =
      let e = segment-ends P x (or_right (same_point P x.from) (same_point P x.to) k) in
      let s : H (segment_of x) ≡ S x = ap (λ b. cond b (S x) 0) e in omega arith
  parts-by x i false false h k =
      let n = false_from_ne_true (ends_at P (segment_of x)) (λ t. cc (sym (ap (λ b. b || same_point P x.to) h ∙ k) ∙ segment-back P x t)) in
      let s : H (segment_of x) ≡ 0 = ap (λ b. cond b (S x) 0) n in omega arith

  parts : (x : Edge) → In x es → H (segment_of x) ≡ A x + B x
  parts x i = parts-by x i (same_point P x.from) (same_point P x.to) refl refl

  -- ---- an edge that enters P, and its successor
  module _ (z x : Edge) (zi : In z es) (n : IsSuccessor es z x) (zg : same_edge z g ≡ false) (xg : same_edge x g ≡ false) where
    at-next : P ≡ z.to → IsNextClockwise P z x es
    at-next q = subst (λ v. IsNextClockwise v z x es) (sym q) n

    zf : P ≡ z.to → same_edge z f ≡ false
    zf q = false_from_ne_true (same_edge z f) (λ t.
        no-loop-segments P z (at-point P z.from (qf ∙ ap (λ (e : Edge). e.from) (sym (same_edge-true z f t)))) (at-point P z.to q) (rise es sd z zi))

    step-own : P ≡ z.to → same_edge f x ≡ true → S x + S z ≡ 1
    step-own q t =
        let e = same_edge-true f x t in
        let hz = to-ends z q in
        let m = none-between es sd P z x zi hz (at-next q) g gi zg xg (segment-ends P g hg) in
        let m' : in_sector (w f) (w z) (w g) ≡ 0 = subst (λ y. in_sector (w y) (w z) (w g) ≡ 0) (sym e) m in
        let k = sector-either (w f) (w z) (w g) (w-way f fi hf) (w-way z zi hz) (w-way g gi hg) m' in
        let o = sector-first (w f) (w g) (w-way f fi hf) (w-way g gi hg) (w-apart f g fi gi hf hg fg) in
        let o' : S x ≡ 0 = subst (λ y. S y ≡ 0) e o in omega arith

    step-other : P ≡ z.to → same_edge f x ≡ false → S z ≡ S x
    step-other q t =
        let hz = to-ends z q in let nx = at-next q in let hx = nx.meets in let xi = nx.member in
        let xf = sym-differs x f t in
        let fz = sym-differs f z (zf q) in
        both_or_none (w f) (w g) (w x) (w z) (record {
          a-way = w-way f fi hf;
          b-way = w-way g gi hg;
          x-way = w-way x xi hx;
          z-way = w-way z zi hz;
          ab = w-apart f g fi gi hf hg fg;
          ax = w-apart f x fi xi hf hx t;
          az = w-apart f z fi zi hf hz fz;
          bx = w-apart g x gi xi hg hx (sym-differs g x xg);
          bz = w-apart g z gi zi hg hz (sym-differs g z zg);
          xz = w-apart x z xi zi hx hz (sym-differs x z nx.other);
        }) (none-between es sd P z x zi hz nx f fi (zf q) xf (segment-ends P f hf)) (none-between es sd P z x zi hz nx g gi zg xg (segment-ends P g hg))

    step-here : P ≡ z.to → (b : Bool) → same_edge f x ≡ b → (S x + S z + bit b) % 2 ≡ 0
    step-here q true t = let k = step-own q t in omega arith
    step-here q false t = let k = step-other q t in omega arith

    step-by : (b : Bool) → same_point P z.to ≡ b → (A x + B z + bit (same_edge f x)) % 2 ≡ 0
    step-by true h =
        let q = same_point-true P z.to h in
        let k = step-here q (same_edge f x) refl in
        let a : A x ≡ S x = ap (λ b. cond b (S x) 0) (at-point P x.from (q ∙ next_leaves es sd z x zi n)) in
        let b : B z ≡ S z = ap (λ b. cond b (S z) 0) h in omega arith
    step-by false h =
        let l = next_leaves es sd z x zi n in
        let a : A x ≡ 0 = ap (λ b. cond b (S x) 0) (ap (same_point P) (sym l) ∙ h) in
        let b : B z ≡ 0 = ap (λ b. cond b (S z) 0) h in
        let c = ap bit (differ f x (λ q. cc (sym (at-point P z.to (qf ∙ ap (λ (e : Edge). e.from) q ∙ sym l)) ∙ h))) in omega arith

    step : (A x + B z + bit (same_edge f x)) % 2 ≡ 0
    step = step-by (same_point P z.to) refl

  abbrev count : List Edge → ℕ
  count xs = total (λ (x : Edge). bit (same_edge f x)) xs

  path-sum : (z : Edge) (xs : List Edge) → ((x : Edge) → In x (z ∷ xs) → In x es) → ((x : Edge) → In x (z ∷ xs) → same_edge x g ≡ false) → Follow (IsSuccessor es) z xs →
      (B z + total (λ (x : Edge). A x + B x) xs + count xs + B (last z xs)) % 2 ≡ 0
  path-sum z [] i n h = omega arith
  path-sum z (x ∷ xs) i n h =
      let a = path-sum x xs (λ y j. i y (inr j)) (λ y j. n y (inr j)) h.1 in
      let b = step z x (i z (inl refl)) h.0 (n z (inl refl)) (n x (inr (inl refl))) in omega arith

  -- a closed path of successors from another point, that holds f and not g
  odd-sum : (a : Vector) (c : Edge) (cs : List Edge) → ((x : Edge) → In x (c ∷ cs) → In x es) → ((x : Edge) → In x (c ∷ cs) → same_edge x g ≡ false) → Follow (IsSuccessor es) c cs → Once (c ∷ cs) →
      IsPath a (c ∷ cs) a → same_point P a ≡ false → In f (c ∷ cs) → (total (λ (x : Edge). A x + B x) (c ∷ cs)) % 2 ≡ 1
  odd-sum a c cs i n h o p na fm =
      let s = path-sum c cs i n h in
      let x : A c ≡ 0 = ap (λ b. cond b (S c) 0) (ap (same_point P) p.0 ∙ na) in
      let y : B (last c cs) ≡ 0 = ap (λ b. cond b (S (last c cs)) 0) (ap (same_point P) (path-last a a c cs p) ∙ na) in
      let k = count-one f (c ∷ cs) o fm in
      let d = ap bit (differ f c (λ q. cc (sym (at-point P a (qf ∙ ap (λ (e : Edge). e.from) q ∙ p.0)) ∙ na))) in omega arith

  module _ (a : Vector) (c : Edge) (cs q : List Edge) (walk : IsWalk es ((c ∷ cs) ++ q)) (o : Once ((c ∷ cs) ++ q)) (path : IsPath a (c ∷ cs) a) (fm : In f (c ∷ cs)) (gm : In g q) (na : same_point P a ≡ false) where
    abbrev p : List Edge
    p = c ∷ cs

    sub : (x : Edge) → In x p → In x es
    sub x i = walk.here x (in-left p q x i)

    p-once : Once p
    p-once = pairs-left (λ (x y : Edge). x ≡ y → ⊥) p q o

    plain : IsConflictFree (segments_of p)
    plain = plain-of es sd p sub p-once

    even : IsEvenAtPoints (segments_of p)
    even = sided-even p (closed-balanced a p path)

    abbrev X : List Edge
    X = segments_of p

    sees : is_even (crossing_count (w f) P (away P X)) ≡ is_even (crossing_count (w g) P (away P X))
    sees =
        ap (λ u. is_even (crossing_count (way u (segment_of f)) u (away u X))) qf
        ∙ ap (λ u. is_even (crossing_count u f.from (away f.from X))) (way-from es sd f fi)
        ∙ walk_sees es sd p sub plain even (p ++ q) walk f g (in-left p q f fm) (in-right p q g gm)
        ∙ ap (λ u. is_even (crossing_count u g.from (away g.from X))) (sym (way-from es sd g gi))
        ∙ ap (λ u. is_even (crossing_count (way u (segment_of g)) u (away u X))) (sym qg)

    not-shared : ⊥
    not-shared =
        let b = parity_round_node (w f) (w g) P X (w-way f fi hf) (w-way g gi hg) even (off es sd p sub plain even P f fi hf) in
        let m = crossing_count (w f) P (away P X) in let n = crossing_count (w g) P (away P X) in
        let e = same-even m n sees (even_or_odd m) (even_or_odd n) in
        let s = spokes-is (w f) (w g) P X in
        let t = total-map H segment_of p in
        let u = total-same (λ (x : Edge). H (segment_of x)) (λ (x : Edge). A x + B x) p (λ x i. parts x (sub x i)) in
        let v = odd-sum a c cs sub (λ x i. differ x g (λ q'. once-apart p q o x i (subst (λ y. In y q) (sym q') gm))) (follow-left (IsSuccessor es) c cs q walk.cycle.steps.1) p-once path na fm in
        absurd (omega arith)

share-by : (es : List Edge) → IsSided es → (p q : List Edge) → IsWalk es (p ++ q) → Once (p ++ q) → (a : Vector) → IsPath a p a → (e f : Edge) → In e p → In f q → e.from ≡ f.from → (b : Bool) → same_point e.from a ≡ b → e.from ≡ a
share-by es sd p q k o a path e f i j h true t = same_point-true e.from a t
share-by es sd [] q k o a path e f i j h false t = absurd i
share-by es sd (c ∷ cs) q k o a path e f i j h false t =
    absurd (not-shared es sd e.from e f (k.here e (in-left (c ∷ cs) q e i)) (k.here f (in-right (c ∷ cs) q f j)) refl h
    (differ e f (λ g. once-apart (c ∷ cs) q o e i (subst (λ y. In y q) (sym g) j))) a c cs q k o path i j t)

-- a walk that comes back to a point is parted there into two closed parts, which share no other point
pub share_one_point : (es : List Edge) → IsSided es → (p q : List Edge) → IsWalk es (p ++ q) → Once (p ++ q) → (a : Vector) → IsPath a p a → (e f : Edge) → In e p → In f q → e.from ≡ f.from → e.from ≡ a
share_one_point es sd p q k o a path e f i j h = share-by es sd p q k o a path e f i j h (same_point e.from a) refl
