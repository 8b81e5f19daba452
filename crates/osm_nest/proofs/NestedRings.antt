-- The rings of a list of edges: they run along whole segments where the list does, and have its common denominator.
use Rattle.std.proofs.Common.{All, Bool, ◌+◌, List, [], ap, arith, cond, false, inl, inr, map, nat_eq, not, refl, subst, sym, true, ℕ, ◌&&◌, ◌*◌, ◌++◌, ◌||◌, ◌∙◌, ◌∷◌, ◌≡◌, ◌≤◌, ◌⊎◌}
use Rattle.std.specs.List.{sum_by}
use Rattle.std.proofs.Math.Nat.{mul_assoc, mul_left_comm}
use Rattle.std.proofs.lemmas.Bool.{eq-eqb, eqb-true, and_from, and_parts, or_left, or_right}
use Rattle.plane_lists.specs.Rings.RingList.{IsRingList}
use Rattle.plane.specs.Bit.{bit}
use Rattle.plane.specs.Vector.{same_point}
use Rattle.plane.proofs.PlaneKit.{same_point-refl, same_point-true}
use Rattle.lists.specs.Member.{In}
use Rattle.lists.proofs.ListsKit.{all-in, in-all, or-out, total, total-++, total-is, total_none}
use Rattle.osm_geom.specs.declared.edge.Carrier.{Carrier}
use Rattle.osm_geom.specs.declared.edge.Carrier.TheVariants.{OfSeg, Vertical, Horizontal}
use Rattle.osm_geom.specs.declared.edge.Edge.{Edge}
use Rattle.osm_lattice.specs.declared.loc.Loc.{Loc}
use Rattle.osm_geom.specs.declared.point.Point.{Point}
use Rattle.osm_geom.specs.declared.point.Point.TheVariants.{Lattice, OnHorizontal, OnVertical}
use Rattle.osm_lattice.specs.Loc.{vector_of}
use Rattle.osm_geom.specs.Point.{den_of}
use Rattle.osm_geom.specs.InPlane.Multiple.{edges_times, product_of_denominators}
use Rattle.osm_geom.specs.InPlane.Sided.{IsSided}
use Rattle.osm_geom.specs.WholeSegment.{IsWholeSegment}
use Rattle.osm_rings.specs.Laws.{RingsOfEdgesDoNotCross}
use Rattle.osm_rings.specs.RingList.{AreRingsOf}
use Rattle.osm_lattice.proofs.LatticeKit.{loc_from_vectors}
use Rattle.osm_nest.specs.RingLists.{AreRings, all_edges}
use Rattle.plane.proofs.SignKit.{bit-yes}

-- ---- whether an edge runs along a whole segment, as a test
abbrev is_at : Point → Loc → Bool
is_at (Lattice p) q = same_point (vector_of p) (vector_of q)
is_at (OnVertical c y) q = false
is_at (OnHorizontal x d) q = false

at-own : (q : Loc) → is_at (Lattice q) q ≡ true
at-own q = same_point-refl (vector_of q)

at-out : (p : Point) (q : Loc) → is_at p q ≡ true → p ≡ Lattice q
at-out (Lattice p) q h = ap (λ l. Lattice l) (loc_from_vectors p q (same_point-true (vector_of p) (vector_of q) h))
at-out (OnVertical c y) q h = cc
at-out (OnHorizontal x d) q h = cc

abbrev is_along : Carrier → Point → Point → Bool
is_along (OfSeg s) p q = (is_at p s.a && is_at q s.b) || (is_at p s.b && is_at q s.a)
is_along (Vertical c) p q = false
is_along (Horizontal d) p q = false

abbrev is_whole : Edge → Bool
is_whole e = is_along e.carrier e.from e.to

whole-test : (e : Edge) → IsWholeSegment e → is_whole e ≡ true
whole-test e w = rw (w.carrier, w.from, w.to) (by w.forward)
  where
    by : (f : Bool) → is_along (OfSeg w.segment) (cond f (Lattice w.segment.a) (Lattice w.segment.b)) (cond f (Lattice w.segment.b) (Lattice w.segment.a)) ≡ true
    by true = or_left _ _ (and_from _ _ (at-own w.segment.a) (at-own w.segment.b))
    by false = or_right (is_at (Lattice w.segment.b) w.segment.a && is_at (Lattice w.segment.a) w.segment.b) _ (and_from _ _ (at-own w.segment.b) (at-own w.segment.a))

test-whole : (e : Edge) → (c : Carrier) → e.carrier ≡ c → is_along c e.from e.to ≡ true → IsWholeSegment e
test-whole e (Vertical c) is h = cc
test-whole e (Horizontal d) is h = cc
test-whole e (OfSeg s) is h = by (or-out (is_at e.from s.a && is_at e.to s.b) (is_at e.from s.b && is_at e.to s.a) h)
  where
    by : ((is_at e.from s.a && is_at e.to s.b) ≡ true) ⊎ ((is_at e.from s.b && is_at e.to s.a) ≡ true) → IsWholeSegment e
    by (inl k) = let b = and_parts (is_at e.from s.a) (is_at e.to s.b) k in record { segment = s; forward = true; carrier = is; from = at-out e.from s.a b.0; to = at-out e.to s.b b.1 }
    by (inr k) = let b = and_parts (is_at e.from s.b) (is_at e.to s.a) k in record { segment = s; forward = false; carrier = is; from = at-out e.from s.b b.0; to = at-out e.to s.a b.1 }

-- ---- the edges of the rings are those of the list
abbrev is_part : Edge → ℕ
is_part e = bit (not (is_whole e))

pub none-out : {X : Type 0} (f : X → ℕ) (xs : List X) (x : X) → total f xs ≡ 0 → In x xs → f x ≡ 0
none-out f [] x h i = absurd i
none-out f (y ∷ ys) x h (inl e) = ap f e ∙ (let n : f y ≡ 0 = omega arith in n)
none-out f (y ∷ ys) x h (inr i) = none-out f ys x (omega arith) i

pub ring-edge : (es : List Edge) (rs : List (List Edge)) → All IsWholeSegment es → ((f : Edge → ℕ) → sum_by (λ r. sum_by f r) rs ≡ sum_by f es) → (r : List Edge) → In r rs → (e : Edge) → In e r → IsWholeSegment e
ring-edge es rs whole sums r i e j =
    let none : sum_by is_part es ≡ 0 = sym (total-is is_part es) ∙ total_none is_part es (λ x k. ap (λ b. bit (not b)) (whole-test x (in-all IsWholeSegment es x whole k))) in
    let all : total (λ r. sum_by is_part r) rs ≡ 0 = total-is (λ r. sum_by is_part r) rs ∙ sums is_part ∙ none in
    let here : total is_part r ≡ 0 = total-is is_part r ∙ none-out (λ r. sum_by is_part r) rs r all i in
    test-whole e e.carrier refl (bit-yes (is_whole e) (none-out is_part r e here j))

pub rings-whole : (es : List Edge) (rs : List (List Edge)) → All IsWholeSegment es → AreRingsOf es rs → All (λ r. All IsWholeSegment r) rs
rings-whole es rs whole are = all-in (λ r. All IsWholeSegment r) rs (λ r i. all-in IsWholeSegment r (λ e j. ring-edge es rs whole are.edges r i e j))

-- ---- lists over which all sums are equal have equal products
module _ {X : Type 0} (w : X → ℕ) where
  abbrev product : List X → ℕ
  product [] = 1
  product (x ∷ xs) = w x * product xs

  product-append : (xs ys : List X) → product (xs ++ ys) ≡ product xs * product ys
  product-append [] ys = let e : 1 * product ys ≡ product ys = omega arith in sym e
  product-append (x ∷ xs) ys = ap (λ n. w x * n) (product-append xs ys) ∙ sym (mul_assoc (w x) (product xs) (product ys))

  abbrev is_by : ℕ → ℕ → ℕ
  is_by n m = bit (nat_eq n m)

  found-by : (n : ℕ) (y : X) (ys : List X) → (b : Bool) → nat_eq n (w y) ≡ b → 1 ≤ bit b + total (λ (x : X). is_by n (w x)) ys →
      (1 ≤ total (λ (x : X). is_by n (w x)) ys → (us : List X) × (x : X) × (vs : List X) × (ys ≡ us ++ x ∷ vs) × (w x ≡ n)) →
      (us : List X) × (x : X) × (vs : List X) × (y ∷ ys ≡ us ++ x ∷ vs) × (w x ≡ n)
  found-by n y ys true e h more = ([], y, ys, refl, sym (eqb-true n (w y) e))
  found-by n y ys false e h more = let r = more (omega arith) in (y ∷ r.0, r.1, r.2, ap (λ l. y ∷ l) r.3, r.4)

  -- a value that is counted stands somewhere
  found : (n : ℕ) (ys : List X) → 1 ≤ total (λ (x : X). is_by n (w x)) ys → (us : List X) × (x : X) × (vs : List X) × (ys ≡ us ++ x ∷ vs) × (w x ≡ n)
  found n [] h = absurd (omega arith)
  found n (y ∷ ys) h = found-by n y ys (nat_eq n (w y)) refl h (found n ys)

  none-left : (ys : List X) → 0 ≡ total (λ (x : X). 1) ys → product ys ≡ 1
  none-left [] h = refl
  none-left (y ∷ ys) h = absurd (omega arith)

  same-product : (xs ys : List X) → ((f : ℕ → ℕ) → total (λ x. f (w x)) xs ≡ total (λ x. f (w x)) ys) → product xs ≡ product ys
  same-product [] ys h = sym (none-left ys (h (λ n. 1)))
  same-product (x ∷ xs) ys h =
      let n = w x in
      let own : is_by n n ≡ 1 = ap bit (eq-eqb n n refl) in
      let count = h (is_by n) in
      let s = found n ys (omega arith) in
      let us = s.0 in let y = s.1 in let vs = s.2 in
      let rest : (f : ℕ → ℕ) → total (λ x. f (w x)) xs ≡ total (λ x. f (w x)) (us ++ vs) = λ f.
      let a = h f in
      let b = ap (total (λ x. f (w x))) s.3 in
      let c = total-++ (λ x. f (w x)) us (y ∷ vs) in
      let d = total-++ (λ x. f (w x)) us vs in
      let e = ap f s.4 in omega arith in
      ap (λ m. n * m) (same-product xs (us ++ vs) rest ∙ product-append us vs)
      ∙ mul_left_comm n (product us) (product vs)
      ∙ ap (λ m. product us * (m * product vs)) (sym s.4)
      ∙ sym (product-append us (y ∷ vs)) ∙ ap product (sym s.3)

abbrev dens : Edge → ℕ
dens e = den_of e.from * den_of e.to

common-is : (es : List Edge) → product_of_denominators es ≡ product dens es
common-is [] = refl
common-is (e ∷ es) = ap (λ n. den_of e.from * den_of e.to * n) (common-is es)

pub all-sum : (f : Edge → ℕ) (rs : List (List Edge)) → total f (all_edges rs) ≡ total (λ r. sum_by f r) rs
all-sum f [] = refl
all-sum f (r ∷ rs) = let a = total-++ f r (all_edges rs) in let b = total-is f r in let c = all-sum f rs in omega arith

pub same-common : (es : List Edge) (rs : List (List Edge)) → AreRingsOf es rs → product_of_denominators es ≡ product_of_denominators (all_edges rs)
same-common es rs are =
    common-is es
    ∙ same-product dens es (all_edges rs) (λ f. let g = λ (e : Edge). f (dens e) in total-is g es ∙ sym (are.edges g) ∙ sym (total-is (λ r. sum_by g r) rs) ∙ sym (all-sum g rs))
    ∙ sym (common-is (all_edges rs))

pub may-be-nested : RingsOfEdgesDoNotCross → (es : List Edge) (rs : List (List Edge)) → IsSided es → AreRingsOf es rs → AreRings rs
may-be-nested uncrossed es rs s are = record { ring_list = subst (λ k. IsRingList (map (edges_times k) rs)) (same-common es rs are) (uncrossed es s rs are) }
