-- What a nest covers at points with fractions.
use Rattle.std.proofs.Common.{Bool, List, ap, cond, false, not, refl, subst, sym, true, ℕ, ◌+◌, ◌||◌, ◌∙◌, ◌≡◌}
use lib.IntN.{ℤ}
use Rattle.plane_lists.specs.Rings.Cover.{AreClear, covers, covers_edge}
use Rattle.plane_lists.specs.Rings.Nesting.{IsNest, TellsOuterRings, encloses, has_edge}
use Rattle.plane.specs.Conflict.{IsClearOf}
use Rattle.plane.specs.Edge.{Edge, ends_at}
use Rattle.plane.specs.RayCrossing.{down_by, up_by}
use Rattle.plane.specs.Scale.{scaled_edge, scaled_point}
use Rattle.plane.specs.Sign.{Plus, sign}
use Rattle.plane.specs.Vector.{Vector, cross, from_to, same_point}
use Rattle.plane_lists.specs.Lists.ConflictFree.{IsConflictFree}
use Rattle.plane_lists.specs.Lists.EdgeList.{IsEvenAtPoints}
use Rattle.lists.specs.Member.{In}
use Rattle.plane_lists.specs.Lists.Parity.{is_even}
use Rattle.plane_lists.specs.Lists.ScaledEdges.{scaled_edges}
use Rattle.plane_lists.proofs.Rings.DirectEnclosure.{out-of}
use Rattle.plane_lists.proofs.Rings.Nests.{clear_rings, encloses-in, encloses-not, has-not-by, plain-part}
use Rattle.plane_lists.proofs.Rings.OuterTests.{HasAnchors}
use Rattle.plane_lists.proofs.Rings.TwoLists.{clear-reversed, contained, disjoint}
use Rattle.plane.proofs.PlaneKit.{crossings_at, conflicts-scaled, cross-scaled, point-scaled}
use Rattle.lists.proofs.ListsKit.{in-map-out, total-map, total-same}
use Rattle.plane_lists.proofs.WindingKit.{beyond, crossings-away, even_scaled, plain_scaled}

module _ (k : ℤ) (hk : sign k ≡ Plus) where
  beyond-by : (b c : Bool) (m n : ℕ) → b ≡ c → m ≡ n → cond (not b) m 0 ≡ cond (not c) n 0
  beyond-by b c m n h e = ap (λ x. cond (not x) m 0) h ∙ ap (λ y. cond (not c) y 0) e

  pub ends-scaled : (v : Vector) (t : Edge) → ends_at (scaled_point k v) (scaled_edge k t) ≡ ends_at v t
  ends-scaled v t = ap (λ b. b || same_point (scaled_point k v) (scaled_point k t.to)) (point-scaled k hk v t.from) ∙ ap (λ b. same_point v t.from || b) (point-scaled k hk v t.to)

  crossings-scaled : (a b v : Vector) (t : Edge) → crossings_at (from_to (scaled_point k a) (scaled_point k b)) (from_to (scaled_point k v)) (scaled_edge k t) ≡ crossings_at (from_to a b) (from_to v) t
  crossings-scaled a b v t =
      let x = sign (cross (from_to (scaled_point k a) (scaled_point k b)) (from_to (scaled_point k v) (scaled_point k t.from))) in
      let y = sign (cross (from_to (scaled_point k a) (scaled_point k b)) (from_to (scaled_point k v) (scaled_point k t.to))) in
      let z = sign (cross (from_to (scaled_point k v) (scaled_point k t.from)) (from_to (scaled_point k v) (scaled_point k t.to))) in
      ap (λ s. up_by s y z + down_by s y z) (cross-scaled k hk a b v t.from)
      ∙ ap (λ s. up_by (sign (cross (from_to a b) (from_to v t.from))) s z + down_by (sign (cross (from_to a b) (from_to v t.from))) s z) (cross-scaled k hk a b v t.to)
      ∙ ap (λ s. up_by (sign (cross (from_to a b) (from_to v t.from))) (sign (cross (from_to a b) (from_to v t.to))) s + down_by (sign (cross (from_to a b) (from_to v t.from))) (sign (cross (from_to a b) (from_to v t.to))) s) (cross-scaled k hk v t.from v t.to)

  -- whether an edge is in a list does not change
  pub in_scaled : (es : List Edge) (t : Edge) → covers_edge (scaled_edges k es) (scaled_edge k t) ≡ covers_edge es t
  in_scaled es t =
      let d = from_to t.from t.to in let d' = from_to (scaled_point k t.from) (scaled_point k t.to) in
      ap (λ n. not (is_even n))
      (crossings-away d' (scaled_point k t.from) (scaled_edges k es) ∙ total-map (beyond d' (scaled_point k t.from)) (scaled_edge k) es
      ∙ total-same (λ s. beyond d' (scaled_point k t.from) (scaled_edge k s)) (beyond d t.from) es
      (λ s i. beyond-by (ends_at (scaled_point k t.from) (scaled_edge k s)) (ends_at t.from s) (crossings_at d' (from_to (scaled_point k t.from)) (scaled_edge k s)) (crossings_at d (from_to t.from) s) (ends-scaled t.from s) (crossings-scaled t.from t.to t.from s))
      ∙ sym (crossings-away d t.from es))

  clear-scaled : (ss es : List Edge) → AreClear ss es → AreClear (scaled_edges k ss) (scaled_edges k es)
  clear-scaled ss es c s t i j =
      let r = in-map-out (scaled_edge k) ss s i in let q = in-map-out (scaled_edge k) es t j in
      subst (λ w. IsClearOf w t) (sym r.2) (subst (λ w. IsClearOf (scaled_edge k r.0) w) (sym q.2) (conflicts-scaled k hk r.0 q.0 ∙ c r.0 q.0 r.1 q.1))

  in-all-scaled : (ss es : List Edge) (b : Bool) → ((s : Edge) → In s ss → covers_edge es s ≡ b) → (s : Edge) → In s (scaled_edges k ss) → covers_edge (scaled_edges k es) s ≡ b
  in-all-scaled ss es b h s i = let r = in-map-out (scaled_edge k) ss s i in subst (λ w. covers_edge (scaled_edges k es) w ≡ b) (sym r.2) (in_scaled es r.0 ∙ h r.0 r.1)

  in-same-scaled : (ss es : List Edge) → ((s t : Edge) → In s ss → In t ss → covers_edge es s ≡ covers_edge es t) → (s t : Edge) → In s (scaled_edges k ss) → In t (scaled_edges k ss) → covers_edge (scaled_edges k es) s ≡ covers_edge (scaled_edges k es) t
  in-same-scaled ss es h s t i j =
      let r = in-map-out (scaled_edge k) ss s i in let q = in-map-out (scaled_edge k) ss t j in
      subst (λ w. covers_edge (scaled_edges k es) w ≡ covers_edge (scaled_edges k es) t) (sym r.2) (subst (λ w. covers_edge (scaled_edges k es) (scaled_edge k r.0) ≡ covers_edge (scaled_edges k es) w) (sym q.2)
      (in_scaled es r.0 ∙ h r.0 q.0 r.1 q.1 ∙ sym (in_scaled es q.0)))

  module _ (gs : List (List Edge)) (n : IsNest gs) (outer : List Edge → Bool) (tells : TellsOuterRings gs outer) (anchors : HasAnchors gs) (p : Vector) where
    abbrev around : List Edge → Bool
    around g = covers (scaled_edges k g) p

    plain-of : (g : List Edge) → In g gs → IsConflictFree (scaled_edges k g)
    plain-of g i = plain_scaled k hk g (plain-part gs g n.plain i)

    even-of : (g : List Edge) → In g gs → IsEvenAtPoints (scaled_edges k g)
    even-of g i = even_scaled k hk g (n.even g i)

    pub inside-at : (g h : List Edge) → In g gs → In h gs → (e : Edge) → In e h → encloses g e ≡ true → around h ≡ true → around g ≡ true
    inside-at g h ig ih e ie c o =
        let ne = encloses-not gs n g e c in
        let gh = clear_rings gs g h e n.plain ig ih ie ne in let hg = clear-reversed g h gh in
        contained (scaled_edges k h) (scaled_edges k g) (plain-of h ih) (plain-of g ig) (even-of h ih) (even-of g ig) (clear-scaled h g hg) p
        (in-all-scaled h g true (λ s i. n.constant g h ig ih s e i ie (has-not-by g h s (plain-part gs g n.plain ig) gh i (has_edge g s) refl) ∙ encloses-in gs n g e c))
        (in-same-scaled g h (λ s t i j. n.constant h g ih ig s t i j (has-not-by h g s (plain-part gs h n.plain ih) hg i (has_edge h s) refl))) o

    pub apart-at : (h j : List Edge) → In h gs → In j gs → AreClear h j → (e f : Edge) → In e h → In f j → encloses j e ≡ false → encloses h f ≡ false → around h ≡ true → around j ≡ true → ⊥
    apart-at h j ih ij c e f ie if' x y o u =
        disjoint (scaled_edges k h) (scaled_edges k j) (plain-of h ih) (plain-of j ij) (even-of h ih) (even-of j ij) (clear-scaled h j c) p
        (in-all-scaled h j false (out-of gs n outer tells anchors h j ih ij e ie (clear-reversed h j c) x)) (in-all-scaled j h false (out-of gs n outer tells anchors j h ij ih f if' c y)) o u
