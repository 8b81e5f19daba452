-- Of the rings that enclose an outer ring as many are outer as inner; of those that enclose an inner ring one outer ring more.
use Rattle.std.proofs.Common.{Bool, List, [], ap, arith, cond, false, inl, inr, not, refl, suc, sym, true, zero, ℕ, ◌&&◌, ◌+◌, ◌∙◌, ◌∷◌, ◌≡◌, ◌≤◌, ◌⊎◌}
use Rattle.std.specs.List.{count_by, filter}
use Rattle.plane_lists.specs.Rings.Nesting.{IsNest, TellsOuterRings, depth, edges_of, encloses, has_edge}
use Rattle.plane.specs.Bit.{bit}
use Rattle.plane.specs.Edge.{Edge}
use Rattle.plane.specs.Height.{is_right_above}
use Rattle.lists.specs.Member.{In}
use Rattle.plane_lists.specs.Lists.Ring.{IsAnchor}
use Rattle.plane_lists.proofs.Rings.DirectEnclosure.{e-span, in-edges-out, plain-chosen}
use Rattle.plane_lists.proofs.Rings.Nests.{alternate, cond-out, cond-times, depth-at, depth-total, depth_same, depth_step, encloses_same, has_once, in-edges, nearest_exists, outer_depth, same-ring}
use Rattle.plane_lists.proofs.Rings.OuterTests.{HasAnchors}
use Rattle.plane.proofs.PlaneKit.{right_of}
use Rattle.lists.proofs.ListsKit.{in-filter, in-passes, total, total-+, total-is, total-same}
use Rattle.plane_lists.proofs.WindingKit.{First, even-is}

any-step : {X : Type 0} (q : X → Bool) (x : X) (xs : List X) → (b : Bool) → q x ≡ b → ((y : X) × In y xs × (q y ≡ true)) ⊎ (total (λ x. bit (q x)) xs ≡ 0) → ((y : X) × In y (x ∷ xs) × (q y ≡ true)) ⊎ (bit b + total (λ x. bit (q x)) xs ≡ 0)
any-step q x xs true h k = inl (x, inl refl, h)
any-step q x xs false h (inl r) = inl (r.0, inr r.1, r.2)
any-step q x xs false h (inr z) = inr (omega arith)

any-or-none : {X : Type 0} (q : X → Bool) (xs : List X) → ((y : X) × In y xs × (q y ≡ true)) ⊎ (total (λ x. bit (q x)) xs ≡ 0)
any-or-none q [] = inr refl
any-or-none q (x ∷ xs) = any-step q x xs (q x) refl (any-or-none q xs)

zero-cond : (b : Bool) (n : ℕ) → bit b ≡ 0 → cond b n 0 ≡ 0
zero-cond true n h = absurd (omega arith)
zero-cond false n h = refl

none-cond : {X : Type 0} (q : X → Bool) (w : X → ℕ) (xs : List X) → total (λ x. bit (q x)) xs ≡ 0 → total (λ x. cond (q x) (w x) 0) xs ≡ 0
none-cond q w [] h = refl
none-cond q w (x ∷ xs) h =
    let a = none-cond q w xs (omega arith) in let b = zero-cond (q x) (w x) (omega arith) in omega arith

cond-sum : (a b c : Bool) (n : ℕ) → bit a ≡ bit b + bit c → cond a n 0 ≡ cond b n 0 + cond c n 0
cond-sum false false false n h = refl
cond-sum true true false n h = omega arith
cond-sum true false true n h = omega arith
cond-sum true true true n h = absurd (omega arith)
cond-sum true false false n h = absurd (omega arith)
cond-sum false true c n h = absurd (omega arith)
cond-sum false false true n h = absurd (omega arith)

own-cond : (b : Bool) (n m : ℕ) → (b ≡ true → n ≡ m) → cond b n 0 ≡ cond b m 0
own-cond true n m h = h refl
own-cond false n m h = refl

and-cond : (a b : Bool) → bit (a && b) ≡ cond a (bit b) 0
and-cond true b = refl
and-cond false b = refl

outer-balance : (b : Bool) (a : Bool) (o i : ℕ) → a ≡ not b → o ≡ i + bit (not a) → bit a + o ≡ (bit (not a) + i) + bit (not b)
outer-balance true true o i h k = absurd (cc h)
outer-balance true false o i h k = omega arith
outer-balance false true o i h k = omega arith
outer-balance false false o i h k = absurd (cc h)

module _ (gs : List (List Edge)) (n : IsNest gs) (outer : List Edge → Bool) (tells : TellsOuterRings gs outer) (anchors : HasAnchors gs) where
  abbrev outers : Edge → ℕ
  outers e = total (λ g. cond (encloses g e) (bit (outer g)) 0) gs

  abbrev inners : Edge → ℕ
  inners e = total (λ g. cond (encloses g e) (bit (not (outer g))) 0) gs

  same-sum : (w : List Edge → ℕ) (h : List Edge) (s t : Edge) → In h gs → In s h → In t h → total (λ g. cond (encloses g s) (w g) 0) gs ≡ total (λ g. cond (encloses g t) (w g) 0) gs
  same-sum w h s t j k l = total-same (λ g. cond (encloses g s) (w g) 0) (λ g. cond (encloses g t) (w g) 0) gs (λ g i. ap (λ b. cond b (w g) 0) (encloses_same gs n g h s t i j k l))

  has-sum : (w : List Edge → Bool) (t : List Edge) (m : Edge) → In t gs → In m t → total (λ g. cond (has_edge g m) (bit (w g)) 0) gs ≡ bit (w t)
  has-sum w t m it im =
      total-same (λ g. cond (has_edge g m) (bit (w g)) 0) (λ g. cond (w t) (bit (has_edge g m)) 0) gs
      (λ g i. own-cond (has_edge g m) (bit (w g)) (bit (w t)) (λ e. ap (λ l. bit (w l)) (same-ring gs n t g m it i im e)) ∙ cond-times (w t) (has_edge g m))
      ∙ cond-out (w t) (λ g. has_edge g m) gs ∙ ap (λ k. cond (w t) k 0) (has_once gs m n.plain (in-edges gs t m it im))

  balance-none : (h : List Edge) → In h gs → (e : Edge) → IsAnchor e h → total (λ g. bit (encloses g e)) gs ≡ 0 → outers e ≡ inners e + bit (not (outer h))
  balance-none h ih e a z =
      let x = none-cond (λ g. encloses g e) (λ g. bit (outer g)) gs z in let y = none-cond (λ g. encloses g e) (λ g. bit (not (outer g))) gs z in
      let d : depth gs e ≡ 0 = depth-total gs e ∙ z in
      let o = ap (λ b. bit (not b)) (tells h ih e a ∙ outer_depth gs n h e ih a ∙ even-is (depth gs e) (let q = d in omega arith)) in omega arith

  -- one step inward, given the sums for the innermost ring that encloses e
  balance-step : (h : List Edge) → (ih : In h gs) → (e : Edge) → (a : IsAnchor e h) → (m : Edge) → (fm : First (right_of e.from) m (filter (is_right_above e.from e) (edges_of (filter (λ g. encloses g e) gs)))) →
      (t : List Edge) → (it : In t gs) → (im : In m t) → (ct : encloses t e ≡ true) → (outers (anchors t it).0 ≡ inners (anchors t it).0 + bit (not (outer t))) → outers e ≡ inners e + bit (not (outer h))
  balance-step h ih e a m fm t it im ct r =
      let b = anchors t it in let se = e-span gs n outer tells anchors h ih e a in
      let split = λ (w : List Edge → Bool). total-same (λ g. cond (encloses g e) (bit (w g)) 0) (λ g. cond (has_edge g m) (bit (w g)) 0 + cond (encloses g m) (bit (w g)) 0) gs
      (λ g i. cond-sum (encloses g e) (has_edge g m) (encloses g m) (bit (w g)) (depth-at gs n h ih e a.member e.from se m fm t it im ct g i (has_edge g m) refl)) in
      let o1 = split outer in let o2 = total-+ (λ g. cond (has_edge g m) (bit (outer g)) 0) (λ g. cond (encloses g m) (bit (outer g)) 0) gs in
      let i1 = split (λ g. not (outer g)) in let i2 = total-+ (λ g. cond (has_edge g m) (bit (not (outer g))) 0) (λ g. cond (encloses g m) (bit (not (outer g))) 0) gs in
      let o3 = has-sum outer t m it im in let i3 = has-sum (λ g. not (outer g)) t m it im in
      let o4 = same-sum (λ g. bit (outer g)) t m b.0 it im b.1.member in let i4 = same-sum (λ g. bit (not (outer g))) t m b.0 it im b.1.member in
      let k = tells t it b.0 b.1 ∙ alternate gs n h ih e a.member e.from se m fm t it im ct e a b.0 b.1 ∙ ap not (sym (tells h ih e a)) in
      let z = outer-balance (outer h) (outer t) (outers b.0) (inners b.0) k r in omega arith

  balance-by : (f : ℕ) (h : List Edge) → (ih : In h gs) → (e : Edge) → (a : IsAnchor e h) → depth gs e ≤ f → ((g : List Edge) × In g gs × (encloses g e ≡ true)) ⊎ (total (λ g. bit (encloses g e)) gs ≡ 0) → outers e ≡ inners e + bit (not (outer h))
  balance-by f h ih e a l (inr z) = balance-none h ih e a z
  balance-by zero h ih e a l (inl g) =
      let d = depth-total gs e in
      let z : total (λ g. bit (encloses g e)) gs ≡ 0 = omega arith in balance-none h ih e a z
  balance-by (suc f) h ih e a l (inl g) =
      let se = e-span gs n outer tells anchors h ih e a in
      let m = nearest_exists gs n h ih e a.member e.from se (λ g. encloses g e) (λ g i c. c) g.0 g.1 g.2 (plain-chosen (λ g. encloses g e) gs n.plain) in
      let t = in-edges-out (filter (λ g. encloses g e) gs) m.0 (in-filter (is_right_above e.from e) (edges_of (filter (λ g. encloses g e) gs)) m.0 m.1.here) in
      let it = in-filter (λ g. encloses g e) gs t.0 t.1 in let ct = in-passes (λ g. encloses g e) gs t.0 t.1 in
      let b = anchors t.0 it in
      let d = depth_step gs n h ih e a.member e.from se m.0 m.1 t.0 it t.2 ct in let q = depth_same gs n t.0 m.0 b.0 it t.2 b.1.member in
      balance-step h ih e a m.0 m.1 t.0 it t.2 ct (balance-by f t.0 it b.0 b.1 (omega arith) (any-or-none (λ g. encloses g b.0) gs))

  -- the sums beside a ring
  pub enclosing_sums : (h : List Edge) → In h gs → (e : Edge) → IsAnchor e h → count_by (λ g. encloses g e && outer g) gs ≡ count_by (λ g. encloses g e && not (outer g)) gs + bit (not (outer h))
  enclosing_sums h ih e a =
      let r = balance-by (depth gs e) h ih e a (omega arith) (any-or-none (λ g. encloses g e) gs) in
      let x = sym (total-is (λ g. bit (encloses g e && outer g)) gs) ∙ total-same (λ g. bit (encloses g e && outer g)) (λ g. cond (encloses g e) (bit (outer g)) 0) gs (λ g i. and-cond (encloses g e) (outer g)) in
      let y = sym (total-is (λ g. bit (encloses g e && not (outer g))) gs) ∙ total-same (λ g. bit (encloses g e && not (outer g))) (λ g. cond (encloses g e) (bit (not (outer g))) 0) gs (λ g i. and-cond (encloses g e) (not (outer g))) in
      omega arith
