-- A test of edges for being one, and lists over which all sums are equal have the same members.
use Rattle.std.proofs.Common.{Bool, List, [], ap, arith, false, inl, inr, refl, subst, sym, true, ℕ, ◌&&◌, ◌+◌, ◌∙◌, ◌∷◌, ◌≡◌, ◌≤◌}
use Rattle.std.specs.Ordering.{int_eq, is_eq}
use Rattle.std.proofs.lemmas.Cmp.{tied_itself}
use Rattle.plane.specs.Bit.{bit}
use Rattle.std.proofs.lemmas.Bool.{and_from, and_parts}
use Rattle.lists.proofs.ListsKit.{equal_from, int_eq-same, int_eq-true, total}
use Rattle.lists.specs.Member.{In}
use Rattle.plane_lists.proofs.WindingKit.{total-member}
use Rattle.osm_geom.specs.Point.{point_cmp}
use Rattle.osm_lattice.specs.Seg.{seg_cmp}
use Rattle.osm_geom.specs.declared.edge.Carrier.{Carrier}
use Rattle.osm_geom.specs.declared.edge.Carrier.TheVariants.{Horizontal, OfSeg, Vertical}
use Rattle.osm_geom.specs.declared.edge.Edge.{Edge}
use Rattle.osm_lattice.proofs.LatticeKit.{seg_total, seg_same}
use Rattle.osm_geom.proofs.GeometryKit.{edge-from-fields, point_same, point_total}
use Rattle.osm_rings.specs.Packed.{IsPackedAs}
use Rattle.osm_rings.specs.declared.packed.Packed.{Packed}

abbrev pub same_carrier : Carrier → Carrier → Bool
same_carrier (OfSeg s) (OfSeg t) = is_eq (seg_cmp s t)
same_carrier (Vertical c) (Vertical d) = int_eq c d
same_carrier (Horizontal c) (Horizontal d) = int_eq c d
same_carrier _ _ = false

carrier-out : (c d : Carrier) → same_carrier c d ≡ true → c ≡ d
carrier-out (OfSeg s) (OfSeg t) h = ap OfSeg (seg_same s t (equal_from (seg_cmp s t) h))
carrier-out (OfSeg s) (Vertical d) h = cc
carrier-out (OfSeg s) (Horizontal d) h = cc
carrier-out (Vertical c) (OfSeg t) h = cc
carrier-out (Vertical c) (Vertical d) h = ap Vertical (int_eq-true c d h)
carrier-out (Vertical c) (Horizontal d) h = cc
carrier-out (Horizontal c) (OfSeg t) h = cc
carrier-out (Horizontal c) (Vertical d) h = cc
carrier-out (Horizontal c) (Horizontal d) h = ap Horizontal (int_eq-true c d h)

carrier-own : (c : Carrier) → same_carrier c c ≡ true
carrier-own (OfSeg s) = ap is_eq (tied_itself seg_total s)
carrier-own (Vertical c) = int_eq-same c c refl
carrier-own (Horizontal c) = int_eq-same c c refl

-- edges that are packed alike are one
pub same-packed : (e f : Edge) (p : Packed) → IsPackedAs e p → IsPackedAs f p → e ≡ f
same-packed e f p a b = edge-from-fields e f (a.from ∙ sym b.from) (a.to ∙ sym b.to) (a.carrier ∙ sym b.carrier)

abbrev pub same_exact : Edge → Edge → Bool
same_exact e f = is_eq (point_cmp e.from f.from) && (is_eq (point_cmp e.to f.to) && same_carrier e.carrier f.carrier)

pub exact-out : (e f : Edge) → same_exact e f ≡ true → e ≡ f
exact-out e f h =
    let a = and_parts (is_eq (point_cmp e.from f.from)) (is_eq (point_cmp e.to f.to) && same_carrier e.carrier f.carrier) h in
    let b = and_parts (is_eq (point_cmp e.to f.to)) (same_carrier e.carrier f.carrier) a.1 in
    edge-from-fields e f (point_same e.from f.from (equal_from (point_cmp e.from f.from) a.0)) (point_same e.to f.to (equal_from (point_cmp e.to f.to) b.0)) (carrier-out e.carrier f.carrier b.1)

pub exact-own : (e : Edge) → same_exact e e ≡ true
exact-own e =
    and_from (is_eq (point_cmp e.from e.from)) (is_eq (point_cmp e.to e.to) && same_carrier e.carrier e.carrier) (ap is_eq (tied_itself point_total e.from))
    (and_from (is_eq (point_cmp e.to e.to)) (same_carrier e.carrier e.carrier) (ap is_eq (tied_itself point_total e.to)) (carrier-own e.carrier))

-- ---- the same list, as a test
abbrev pub same_list : {X : Type 0} → (X → X → Bool) → List X → List X → Bool
same_list eq [] [] = true
same_list eq [] (y ∷ ys) = false
same_list eq (x ∷ xs) [] = false
same_list eq (x ∷ xs) (y ∷ ys) = eq x y && same_list eq xs ys

module _ {X : Type 0} (eq : X → X → Bool) (exact : (x y : X) → eq x y ≡ true → x ≡ y) (own : (x : X) → eq x x ≡ true) where
  pub list-out : (xs ys : List X) → same_list eq xs ys ≡ true → xs ≡ ys
  list-out [] [] h = refl
  list-out [] (y ∷ ys) h = cc
  list-out (x ∷ xs) [] h = cc
  list-out (x ∷ xs) (y ∷ ys) h = let a = and_parts (eq x y) (same_list eq xs ys) h in ap (λ z. z ∷ xs) (exact x y a.0) ∙ ap (λ l. y ∷ l) (list-out xs ys a.1)

  pub list-own : (xs : List X) → same_list eq xs xs ≡ true
  list-own [] = refl
  list-own (x ∷ xs) = and_from (eq x x) (same_list eq xs xs) (own x) (list-own xs)

  some-by : (p : X → Bool) (x : X) (xs : List X) → (b : Bool) → p x ≡ b → 1 ≤ bit b + total (λ y. bit (p y)) xs → (1 ≤ total (λ y. bit (p y)) xs → (y : X) × In y xs × (p y ≡ true)) → (y : X) × In y (x ∷ xs) × (p y ≡ true)
  some-by p x xs true e h k = (x, inl refl, e)
  some-by p x xs false e h k = let r = k (omega arith) in (r.0, inr r.1, r.2)

  some-of : (p : X → Bool) (xs : List X) → 1 ≤ total (λ y. bit (p y)) xs → (y : X) × In y xs × (p y ≡ true)
  some-of p [] h = absurd (omega arith)
  some-of p (x ∷ xs) h = some-by p x xs (p x) refl h (some-of p xs)

  -- a member of some count
  pub counted-in : (x : X) (ys : List X) → 1 ≤ total (λ (y : X). bit (eq x y)) ys → In x ys
  counted-in x ys h = let r = some-of (eq x) ys h in subst (λ w. In w ys) (sym (exact x r.0 r.2)) r.1

  pub count-of-member : (x : X) (xs : List X) → In x xs → 1 ≤ total (λ (y : X). bit (eq x y)) xs
  count-of-member x xs i = let a = total-member (λ (y : X). bit (eq x y)) xs x i in let b = ap bit (own x) in omega arith

  pub sum-in : (xs ys : List X) → ((f : X → ℕ) → total f xs ≡ total f ys) → (x : X) → In x xs → In x ys
  sum-in xs ys h x i = counted-in x ys (let a = h (λ (y : X). bit (eq x y)) in let b = count-of-member x xs i in omega arith)
