-- A ring falls at two of its nodes into two parts, one from the first to the second and one back.
use Rattle.std.proofs.Common.{Bool, List, [], false, inl, inr, refl, subst, sym, true, ◌++◌, ◌∙◌, ◌∷◌, ◌≡◌}
use Rattle.lists.specs.Member.{EachPair, In}
use Rattle.plane.specs.Edge.{Edge}
use Rattle.plane.specs.Vector.{Vector, same_point}
use Rattle.plane_lists.specs.Lists.Ring.{IsPath, IsRing}
use Rattle.lists.proofs.ListsKit.{in-left, in-right, pairs-across}
use Rattle.plane_lists.proofs.NestingKit.{ring-turn, take}
use Rattle.plane_lists.proofs.OneRingListKit.{in-turned}
use Rattle.plane.proofs.PlaneKit.{same_point-true}
use Rattle.plane_lists.proofs.WindingKit.{path-split}

abbrev Apart : Edge → Edge → Type 0
Apart x y = same_point x.from y.from ≡ false

-- no edge of the one part leaves a point that one of the other leaves
pub record RingParts (h : List Edge) (u v : Vector) : Type 0 where
  pub there : List Edge
  pub back : List Edge
  pub path_there : IsPath u there v
  pub path_back : IsPath v back u
  pub of_there : (x : Edge) → In x there → In x h
  pub of_back : (x : Edge) → In x back → In x h
  pub apart : (x y : Edge) → In x there → In y back → same_point x.from y.from ≡ false

module _ (h : List Edge) (ring : IsRing h) (a b : Edge) (i : In a h) (j : In b h) where
  pub ring_parts : RingParts h a.from b.from
  ring_parts =
      let s = take a h i in let before = s.0 in let after = a ∷ s.1 in
      let turned = after ++ before in let r = ring-turn before after (subst IsRing s.2 ring) in
      let path : IsPath a.from turned a.from = subst (λ w. IsPath w turned w) (sym r.path.0) r.path in
      let back-in : (x : Edge) → In x turned → In x h = λ x k. subst (λ l. In x l) (sym s.2) (in-turned after before x k) in
      let t = take b turned (in-turned before after b (subst (λ l. In b l) s.2 j)) in
      let there = t.0 in let back = b ∷ t.1 in
      let q = path-split a.from a.from there back (subst (λ l. IsPath a.from l a.from) t.2 path) in
      record {
        there = there;
        back = back;
        path_there = subst (λ w. IsPath a.from there w) (sym q.2.0) q.1;
        path_back = subst (λ w. IsPath w back a.from) (sym q.2.0) q.2;
        of_there = λ x k. back-in x (subst (λ l. In x l) (sym t.2) (in-left there back x k));
        of_back = λ x k. back-in x (subst (λ l. In x l) (sym t.2) (in-right there back x k));
        apart = λ x y k l. pairs-across Apart there back x y (subst (EachPair Apart) t.2 r.once) k l;
      }

-- a path that doesn't end where it begins has an edge that doesn't
pub moves : (u v : Vector) (xs : List Edge) → IsPath u xs v → (u ≡ v → ⊥) → (e : Edge) × In e xs × (same_point e.from e.to ≡ false)
moves u v [] p n = absurd (n p)
moves u v (x ∷ xs) p n = by (same_point x.from x.to) refl (λ k. moves x.to v xs p.1 (λ q. n (sym p.0 ∙ k ∙ q)))
  where
    by : (b : Bool) → same_point x.from x.to ≡ b → (x.from ≡ x.to → (e : Edge) × In e xs × (same_point e.from e.to ≡ false)) → (e : Edge) × In e (x ∷ xs) × (same_point e.from e.to ≡ false)
    by false h f = (x, inl refl, h)
    by true h f = let r = f (same_point-true x.from x.to h) in (r.0, inr r.1, r.2)

-- ---- the edge after an edge of a ring
first-edge : (u v : Vector) (xs : List Edge) → IsPath u xs v → (e : Edge) → In e xs → (f : Edge) × In f xs × (f.from ≡ u)
first-edge u v [] p e i = absurd i
first-edge u v (x ∷ xs) p e i = (x, inl refl, p.0)

next-by : (h : List Edge) (u v : Vector) (xs : List Edge) → IsPath u xs v → ((x : Edge) → In x xs → In x h) → (f : Edge) × In f h × (f.from ≡ v) → (f : Edge) × In f h × (f.from ≡ u)
next-by h u v [] p sub f = (f.0, f.1, f.2 ∙ sym p)
next-by h u v (x ∷ xs) p sub f = (x, sub x (inl refl), p.0)

pub next_edge : (h : List Edge) → IsRing h → (e : Edge) → In e h → (f : Edge) × In f h × (f.from ≡ e.to)
next_edge h ring e i =
    let s = take e h i in
    let p = path-split ring.start ring.start s.0 (e ∷ s.1) (subst (λ l. IsPath ring.start l ring.start) s.2 ring.path) in
    next-by h e.to ring.start s.1 p.2.1 (λ x k. subst (λ l. In x l) (sym s.2) (in-right s.0 (e ∷ s.1) x (inr k))) (first-edge ring.start ring.start h ring.path e i)
