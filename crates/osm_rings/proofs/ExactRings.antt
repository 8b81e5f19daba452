-- The rings of a list of exact edges are the one ring list of the plane, and so one list themselves.
use Rattle.std.proofs.Common.{List, [], ap, map, refl, subst, sym, ℕ, ◌++◌, ◌∙◌, ◌∷◌, ◌≡◌, ◌⊎◌, inl, inr}
use Rattle.plane_lists.proofs.NestingKit.{pairs-unmap, sided-once, pairs-of}
use Rattle.plane_lists.proofs.OneRingListKit.{Found, found}
use Rattle.plane.specs.Edge as plane
use Rattle.lists.specs.Member.{In}
use Rattle.lists.proofs.ListsKit.{in-either, in-left, in-map, in-map-out, in-right}
use Rattle.osm_geom.specs.declared.edge.Edge.{Edge}
use Rattle.osm_rings.specs.RingList.{AreRingsOf}
use Rattle.lists.specs.Rotated.{IsRotated}
use Rattle.osm_rings.proofs.UncrossedRings.{Within, held-within, in_plane, plane-list}
use Rattle.osm_geom.specs.InPlane.Multiple.{edge_times, edges_times, product_of_denominators, whole_edges}
use Rattle.osm_geom.specs.InPlane.Sided.{IsSided}
use Rattle.std.proofs.lemmas.List.{map-append}

map-split : {X Y : Type 0} (f : X → Y) (xs : List X) (a b : List Y) → map f xs ≡ a ++ b → (c : List X) × (d : List X) × (xs ≡ c ++ d) × (map f c ≡ a) × (map f d ≡ b)
map-split f xs [] b h = ([], xs, refl, refl, h)
map-split f [] (y ∷ a) b h = cc
map-split f (x ∷ xs) (y ∷ a) b h =
    let r = map-split f xs a b (cc) in
    (x ∷ r.0, r.1, ap (λ l. x ∷ l) r.2, ap (λ l. f x ∷ l) r.3 ∙ ap (λ z. z ∷ a) (cc), r.4)

module _ (es : List Edge) (sd : IsSided es) where
  abbrev K : ℕ
  K = product_of_denominators es

  -- the plane tells the edges of the list apart
  apart-by : (e f : Edge) → edge_times K e ≡ edge_times K f → (e ≡ f) ⊎ ((edge_times K e ≡ edge_times K f → ⊥) ⊎ (edge_times K f ≡ edge_times K e → ⊥)) → e ≡ f
  apart-by e f q (inl s) = s
  apart-by e f q (inr (inl n)) = absurd (n q)
  apart-by e f q (inr (inr n)) = absurd (n (sym q))

  pub one-edge : (e f : Edge) → In e es → In f es → edge_times K e ≡ edge_times K f → e ≡ f
  one-edge e f i j q =
      apart-by e f q (pairs-of (λ (x y : Edge). edge_times K x ≡ edge_times K y → ⊥) es e f (pairs-unmap (edge_times K) (λ (x y : plane.Edge). x ≡ y → ⊥) es (sided-once (whole_edges es) sd)) i j)

  pub one-list : (r q : List Edge) → Within es r → Within es q → edges_times K r ≡ edges_times K q → r ≡ q
  one-list [] [] i j h = refl
  one-list [] (y ∷ q) i j h = cc
  one-list (x ∷ r) [] i j h = cc
  one-list (x ∷ r) (y ∷ q) i j h =
      let a = one-edge x y (i x (inl refl)) (j y (inl refl)) (cc) in
      ap (λ z. z ∷ r) a ∙ ap (λ l. y ∷ l) (one-list r q (λ e k. i e (inr k)) (λ e k. j e (inr k)) (cc))

  unrotated : (r q : List Edge) → Within es r → Within es q → IsRotated (edges_times K r) (edges_times K q) → IsRotated r q
  unrotated r q i j t =
      let s = map-split (edge_times K) r t.front t.back t.old in
      let c = s.0 in let d = s.1 in
      let m : Within es (d ++ c) = λ e k. i e (subst (λ l. In e l) (sym s.2) (back c d e (in-either d c e k))) in
      record {
        front = c;
        back = d;
        old = s.2;
        new = one-list q (d ++ c) j m (t.new ∙ ap (λ l. l ++ t.front) (sym s.4) ∙ ap (λ l. edges_times K d ++ l) (sym s.3) ∙ sym (map-append (edge_times K) d c));
      }
    where
      back : (c d : List Edge) (e : Edge) → (In e d) ⊎ (In e c) → In e (c ++ d)
      back c d e (inl k) = in-right c d e k
      back c d e (inr k) = in-left c d e k

  pub rings-found : (rs qs : List (List Edge)) → AreRingsOf es rs → AreRingsOf es qs → Found (in_plane es rs) (in_plane es qs)
  rings-found rs qs a b = found (whole_edges es) sd (in_plane es rs) (in_plane es qs) (plane-list es rs a) (plane-list es qs b)

  -- a sided list of exact edges has one ring list
  pub ring-turned : (rs qs : List (List Edge)) → AreRingsOf es rs → AreRingsOf es qs → (r : List Edge) → In r rs → (q : List Edge) × In q qs × IsRotated r q × IsRotated (edges_times K r) (edges_times K q)
  ring-turned rs qs a b r i =
      let f = rings-found rs qs a b (edges_times K r) (in-map (edges_times K) rs r i) in
      let q = in-map-out (edges_times K) qs f.0 f.1 in
      let t = subst (IsRotated (edges_times K r)) q.2 f.2 in
      (q.0, q.1, unrotated r q.0 (held-within es rs a.edges r i) (held-within es qs b.edges q.0 q.1) t, t)
