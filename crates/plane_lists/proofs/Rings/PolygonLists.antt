-- Every ring list has its polygons.
use Rattle.std.proofs.Common.{Bool, List, [], ap, arith, cond, false, inl, inr, map, refl, subst, sym, true, ℕ, ◌&&◌, ◌*◌, ◌+◌, ◌∙◌, ◌∷◌, ◌≡◌}
use Rattle.std.specs.List.{filter}
use Rattle.plane_lists.specs.Rings.Cover.{AreClear}
use Rattle.plane_lists.specs.Rings.Nesting.{EnclosesDirectly, IsInnerRing, edges_of}
use Rattle.plane_lists.specs.Rings.Polygon.{ArePolygonsOfRings, IsPolygon, Polygon, polygon_edges}
use Rattle.plane_lists.specs.Rings.RingList.{IsRingList}
use Rattle.plane_lists.specs.Rings.Walk.{HasSameEdges}
use Rattle.plane.specs.Bit.{bit}
use Rattle.plane.specs.Edge.{Edge, same_edge}
use Rattle.lists.specs.Member.{EachPair, In}
use Rattle.plane_lists.specs.Lists.Ring.{segments_of}
use Rattle.plane_lists.proofs.Rings.DirectEnclosure.{clear-pairs}
use Rattle.plane_lists.proofs.Rings.DirectRings.{clear-rings, encloser_exists, is_outer_by, outer-in, outer-out, pairs-unmap, ring-plain, rings, rings-anchors, rings-tell}
use Rattle.plane_lists.proofs.Rings.Nests.{total-edges}
use Rattle.plane_lists.proofs.Rings.RingLists.{nest-plain}
use Rattle.std.proofs.lemmas.Bool.{and_from, false_from_ne_true}
use Rattle.lists.proofs.ListsKit.{all-in, and-left, and-right, both_conds, cond-+, cond-total, cond_none, in-all, in-filter, in-map, in-map-out, in-passes, pairs-filter, pairs-weaker, swap-sums, total, total-*, total-+, total-++, total-filter, total-is, total-map, total-same, total_none}
use Rattle.plane.proofs.PlaneKit.{self_conflicts, same_edge-refl, same_edge-true}
use Rattle.plane_lists.proofs.WindingKit.{rising_in}

abbrev same_list : List Edge → List Edge → Bool
same_list [] [] = true
same_list [] (y ∷ ys) = false
same_list (x ∷ xs) [] = false
same_list (x ∷ xs) (y ∷ ys) = same_edge x y && same_list xs ys

join-lists : (x y : Edge) (xs ys : List Edge) → x ≡ y → xs ≡ ys → x ∷ xs ≡ y ∷ ys
join-lists x y xs ys h k = ap (λ z. z ∷ xs) h ∙ ap (λ zs. y ∷ zs) k

same_list-true : (xs ys : List Edge) → same_list xs ys ≡ true → xs ≡ ys
same_list-true [] [] h = refl
same_list-true [] (y ∷ ys) h = absurd (cc h)
same_list-true (x ∷ xs) [] h = absurd (cc h)
same_list-true (x ∷ xs) (y ∷ ys) h =
    join-lists x y xs ys (same_edge-true x y (and-left (same_edge x y) (same_list xs ys) h)) (same_list-true xs ys (and-right (same_edge x y) (same_list xs ys) h))

same_list-refl : (xs : List Edge) → same_list xs xs ≡ true
same_list-refl [] = refl
same_list-refl (x ∷ xs) = and_from (same_edge x x) (same_list xs xs) (same_edge-refl x) (same_list-refl xs)

abbrev Distinct : List Edge → List Edge → Type 0
Distinct x y = same_list x y ≡ false

distinct-back : (x y : List Edge) → Distinct x y → same_list y x ≡ false
distinct-back x y n = false_from_ne_true (same_list y x) (λ z.
    let e = same_list-true y x z in let k = ap (λ (w : List Edge). same_list x w) e in let r = same_list-refl x in cc (sym r ∙ sym k ∙ n))

-- a member of a list without repeats stands there once
count-one : (q : List Edge) (xs : List (List Edge)) → EachPair Distinct xs → In q xs → total (λ (r : List Edge). bit (same_list q r)) xs ≡ 1
count-one q [] d i = absurd i
count-one q (x ∷ xs) d (inl e) =
    let a : bit (same_list q x) ≡ 1 = ap (λ (w : List Edge). bit (same_list w x)) e ∙ ap bit (same_list-refl x) in
    let b = total_none (λ (r : List Edge). bit (same_list q r)) xs (λ y i. ap (λ (w : List Edge). bit (same_list w y)) e ∙ ap bit (in-all (Distinct x) xs y d.0 i)) in omega arith
count-one q (x ∷ xs) d (inr i) =
    let a : bit (same_list q x) ≡ 0 = ap bit (distinct-back x q (in-all (Distinct x) xs q d.0 i)) in
    let b = count-one q xs d.1 i in omega arith

factor-by : (a b : Bool) (n : ℕ) → cond a (cond b n 0) 0 ≡ cond a (bit b) 0 * n
factor-by true true n = omega arith
factor-by true false n = omega arith
factor-by false b n = omega arith

one-factor : (n : ℕ) → 1 * n ≡ n
one-factor n = omega arith

-- an inner ring with the outer ring that directly encloses it
record Link : Type 0 where
  inner : List Edge
  outer : List Edge

module _ (rs : List (List Edge)) (l : IsRingList rs) where
  record IsLink (p : Link) : Type 0 where
    inner_in : In p.inner rs
    outer_in : In p.outer rs
    is_inner : IsInnerRing (rings rs l) (segments_of p.inner)
    enclosed : EnclosesDirectly (rings rs l) (segments_of p.outer) (segments_of p.inner)

  abbrev out : List Edge → Bool
  out r = is_outer_by rs l (segments_of r)

  member-of : (r : List Edge) → In r rs → In (segments_of r) (rings rs l)
  member-of r i = in-map segments_of rs r i

  inner-ring : (h : List Edge) → In h rs → out h ≡ false → IsInnerRing (rings rs l) (segments_of h)
  inner-ring h i e =
      let a = rings-anchors rs l (segments_of h) (member-of h i) in
      record { anchor = a.0; anchors = a.1; up = sym (rings-tell rs l (segments_of h) (member-of h i) a.0 a.1) ∙ e }

  abbrev link-of : (h : List Edge) → (i : In h rs) → out h ≡ false → (p : Link) × (p.inner ≡ h) × IsLink p
  link-of h i e =
      let o = inner-ring h i e in let d = encloser_exists rs l h i o in
      (record { inner = h; outer = d.0 }, refl, record { inner_in = i; outer_in = d.1; is_inner = o; enclosed = d.2 })

  abbrev add-link : (h : List Edge) → In h rs → (b : Bool) → out h ≡ b → List Link → List Link
  add-link h i true e ps = ps
  add-link h i false e ps = (link-of h i e).0 ∷ ps

  abbrev links : (xs : List (List Edge)) → ((x : List Edge) → In x xs → In x rs) → List Link
  links [] k = []
  links (h ∷ hs) k = add-link h (k h (inl refl)) (out h) refl (links hs (λ x i. k x (inr i)))

  add-sum : (f : List Edge → ℕ) (h : List Edge) → (i : In h rs) → (b : Bool) → (e : out h ≡ b) → (ps : List Link) → total (λ (p : Link). f p.inner) (add-link h i b e ps) ≡ cond b 0 (f h) + total (λ (p : Link). f p.inner) ps
  add-sum f h i true e ps = omega arith
  add-sum f h i false e ps = refl

  links-sum : (f : List Edge → ℕ) (xs : List (List Edge)) → (k : (x : List Edge) → In x xs → In x rs) → total (λ (p : Link). f p.inner) (links xs k) ≡ total (λ (h : List Edge). cond (out h) 0 (f h)) xs
  links-sum f [] k = refl
  links-sum f (h ∷ hs) k =
      let a = add-sum f h (k h (inl refl)) (out h) refl (links hs (λ x i. k x (inr i))) in let b = links-sum f hs (λ x i. k x (inr i)) in omega arith

  add-is : (h : List Edge) → (i : In h rs) → (b : Bool) → (e : out h ≡ b) → (ps : List Link) → (hs : List (List Edge)) → ((p : Link) → In p ps → IsLink p × In p.inner hs) → (p : Link) → In p (add-link h i b e ps) → IsLink p × In p.inner (h ∷ hs)
  add-is h i true e ps hs k p j = let r = k p j in (r.0, inr r.1)
  add-is h i false e ps hs k p (inl q) = (subst IsLink (sym q) (link-of h i e).2, inl (ap (λ (p : Link). p.inner) q))
  add-is h i false e ps hs k p (inr j) = let r = k p j in (r.0, inr r.1)

  links-are : (xs : List (List Edge)) → (k : (x : List Edge) → In x xs → In x rs) → (p : Link) → In p (links xs k) → IsLink p × In p.inner xs
  links-are [] k p i = absurd i
  links-are (h ∷ hs) k p i = add-is h (k h (inl refl)) (out h) refl (links hs (λ x i. k x (inr i))) hs (links-are hs (λ x i. k x (inr i))) p i

  abbrev Apart : Link → Link → Type 0
  Apart p q = Distinct p.inner q.inner

  add-apart : (h : List Edge) → (i : In h rs) → (b : Bool) → (e : out h ≡ b) → (ps : List Link) → ((p : Link) → In p ps → Distinct h p.inner) → EachPair Apart ps → EachPair Apart (add-link h i b e ps)
  add-apart h i true e ps n d = d
  add-apart h i false e ps n d = (all-in (Apart (link-of h i e).0) ps n, d)

  links-apart : (xs : List (List Edge)) → (k : (x : List Edge) → In x xs → In x rs) → EachPair Distinct xs → EachPair Apart (links xs k)
  links-apart [] k d = tt
  links-apart (h ∷ hs) k d =
      add-apart h (k h (inl refl)) (out h) refl (links hs (λ x i. k x (inr i))) (λ p j. in-all (Distinct h) hs p.inner d.0 (links-are hs (λ x i. k x (inr i)) p j).1) (links-apart hs (λ x i. k x (inr i)) d.1)

  -- rings of a ring list are different
  not-clear : (r : List Edge) → In r rs → clear-rings r r → ⊥
  not-clear r i c =
      let a = rings-anchors rs l (segments_of r) (member-of r i) in let e = a.0 in
      let k = self_conflicts e (rising_in (segments_of r) e (ring-plain rs l r i) a.1.member) in cc (sym k ∙ c e e a.1.member a.1.member)

  all-distinct : EachPair Distinct rs
  all-distinct =
      pairs-weaker clear-rings Distinct rs (λ x y i j c. false_from_ne_true (same_list x y) (λ z. let e = same_list-true x y z in not-clear x i (subst (λ (w : List Edge). clear-rings x w) (sym e) c)))
      (pairs-unmap segments_of AreClear rs (clear-pairs (rings rs l) (nest-plain rs l)))

  abbrev all_links : List Link
  all_links = links rs (λ x i. i)

  abbrev under : List Edge → Link → Bool
  under r p = same_list p.outer r

  abbrev polygon_of : List Edge → Polygon
  polygon_of r = record { outer = r; inner = map (λ (p : Link). p.inner) (filter (under r) all_links) }

  abbrev polygons_of : List (List Edge) → List Polygon
  polygons_of [] = []
  polygons_of (r ∷ xs) = cond (out r) (polygon_of r ∷ polygons_of xs) (polygons_of xs)

  -- ---- sums
  abbrev under_sum : (Edge → ℕ) → List Edge → ℕ
  under_sum f r = total (λ (p : Link). cond (under r p) (total f p.inner) 0) all_links

  one-sum : (f : Edge → ℕ) (r : List Edge) → total f (polygon_edges (polygon_of r)) ≡ total f r + under_sum f r
  one-sum f r =
      let a = total-++ f r (edges_of (map (λ (p : Link). p.inner) (filter (under r) all_links))) in
      let b = total-edges f (map (λ (p : Link). p.inner) (filter (under r) all_links)) in
      let c = total-map (λ (h : List Edge). total f h) (λ (p : Link). p.inner) (filter (under r) all_links) in
      let d = total-filter (under r) (λ (p : Link). total f p.inner) all_links in omega arith

  step-sum : (f : Edge → ℕ) (r : List Edge) (gs : List Polygon) (b : Bool) → total f (edges_of (map polygon_edges (cond b (polygon_of r ∷ gs) gs))) ≡ cond b (total f r + under_sum f r) 0 + total f (edges_of (map polygon_edges gs))
  step-sum f r gs true = let a = total-++ f (polygon_edges (polygon_of r)) (edges_of (map polygon_edges gs)) in let b = one-sum f r in omega arith
  step-sum f r gs false = omega arith

  polygons-sum : (f : Edge → ℕ) (xs : List (List Edge)) → total f (edges_of (map polygon_edges (polygons_of xs))) ≡ total (λ (r : List Edge). cond (out r) (total f r + under_sum f r) 0) xs
  polygons-sum f [] = refl
  polygons-sum f (r ∷ xs) = let a = step-sum f r (polygons_of xs) (out r) in let b = polygons-sum f xs in omega arith

  outer-one-by : (r e : List Edge) (b : Bool) → same_list e r ≡ b → out e ≡ true → cond (out r) (bit b) 0 ≡ bit b
  outer-one-by r e true h o = let q = same_list-true e r h in ap (λ c. cond c 1 0) (sym (ap out q) ∙ o)
  outer-one-by r e false h o = cond_none (out r)

  -- each inner ring stands under one outer ring
  under-one : (p : Link) → IsLink p → total (λ (r : List Edge). cond (out r) (bit (under r p)) 0) rs ≡ 1
  under-one p k =
      let o = outer-out rs l (segments_of p.outer) (member-of p.outer k.outer_in) k.enclosed.outer in
      total-same (λ (r : List Edge). cond (out r) (bit (under r p)) 0) (λ (r : List Edge). bit (same_list p.outer r)) rs (λ r i. outer-one-by r p.outer (same_list p.outer r) refl o)
      ∙ count-one p.outer rs all-distinct k.outer_in

  all-under : (f : Edge → ℕ) → total (λ (r : List Edge). cond (out r) (under_sum f r) 0) rs ≡ total (λ (p : Link). total f p.inner) all_links
  all-under f =
      total-same (λ (r : List Edge). cond (out r) (under_sum f r) 0) (λ (r : List Edge). total (λ (p : Link). cond (out r) (bit (under r p)) 0 * total f p.inner) all_links) rs
      (λ r i. cond-total (out r) (λ (p : Link). cond (under r p) (total f p.inner) 0) all_links
      ∙ total-same (λ (p : Link). cond (out r) (cond (under r p) (total f p.inner) 0) 0) (λ (p : Link). cond (out r) (bit (under r p)) 0 * total f p.inner) all_links (λ p j. factor-by (out r) (under r p) (total f p.inner)))
      ∙ swap-sums (λ (r : List Edge) (p : Link). cond (out r) (bit (under r p)) 0 * total f p.inner) rs all_links
      ∙ total-same (λ (p : Link). total (λ (r : List Edge). cond (out r) (bit (under r p)) 0 * total f p.inner) rs) (λ (p : Link). total f p.inner) all_links
      (λ p j. let u = under-one p (links-are rs (λ x i. i) p j).0 in total-* (λ (r : List Edge). cond (out r) (bit (under r p)) 0) (total f p.inner) rs ∙ ap (λ n. n * total f p.inner) u ∙ one-factor (total f p.inner))

  polygons-whole : HasSameEdges (edges_of (map polygon_edges (polygons_of rs))) (edges_of rs)
  polygons-whole f =
      let a = total-is f (edges_of (map polygon_edges (polygons_of rs))) in let b = total-is f (edges_of rs) in
      let c = polygons-sum f rs in
      let d = total-same (λ (r : List Edge). cond (out r) (total f r + under_sum f r) 0) (λ (r : List Edge). cond (out r) (total f r) 0 + cond (out r) (under_sum f r) 0) rs (λ r i. cond-+ (out r) (total f r) (under_sum f r)) in
      let e = total-+ (λ (r : List Edge). cond (out r) (total f r) 0) (λ (r : List Edge). cond (out r) (under_sum f r) 0) rs in
      let g = all-under f in let h = links-sum (total f) rs (λ x i. i) in
      let k = total-same (λ (r : List Edge). cond (out r) (total f r) 0 + cond (out r) 0 (total f r)) (total f) rs (λ r i. both_conds (out r) (total f r)) in
      let m = total-+ (λ (r : List Edge). cond (out r) (total f r) 0) (λ (r : List Edge). cond (out r) 0 (total f r)) rs in
      let n = total-edges f rs in omega arith

  -- ---- each is a polygon
  of-inner : (r h : List Edge) → In h (polygon_of r).inner → (p : Link) × IsLink p × (h ≡ p.inner) × (p.outer ≡ r)
  of-inner r h i =
      let q = in-map-out (λ (p : Link). p.inner) (filter (under r) all_links) h i in
      (q.0, (links-are rs (λ x i. i) q.0 (in-filter (under r) all_links q.0 q.1)).0, q.2, same_list-true q.0.outer r (in-passes (under r) all_links q.0 q.1))

  pairs-map-inner : (ps : List Link) → EachPair Apart ps → EachPair (λ (h k : List Edge). h ≡ k → ⊥) (map (λ (p : Link). p.inner) ps)
  pairs-map-inner [] d = tt
  pairs-map-inner (p ∷ ps) d = (
    all-in (λ (k : List Edge). p.inner ≡ k → ⊥) (map (λ (p : Link). p.inner) ps) (λ k i e.
        let q = in-map-out (λ (p : Link). p.inner) ps k i in let n = in-all (Apart p) ps q.0 d.0 q.1 in
        let s = ap (λ (w : List Edge). same_list p.inner w) (e ∙ q.2) in cc (sym (same_list-refl p.inner) ∙ s ∙ n)),
    pairs-map-inner ps d.1,
  )

  polygon-is : (r : List Edge) → In r rs → out r ≡ true → IsPolygon rs (polygon_of r)
  polygon-is r i o = record {
    member = i;
    is_outer_ring = outer-in rs l (segments_of r) (member-of r i) o;
    inner_members = λ h j. let q = of-inner r h j in subst (λ (w : List Edge). In w rs) (sym q.2) q.1.inner_in;
    are_inner_rings = λ h j. let q = of-inner r h j in subst (λ (w : List Edge). IsInnerRing (rings rs l) (segments_of w)) (sym q.2) q.1.is_inner;
    enclosed = λ h j.
        let q = of-inner r h j in
        subst (λ (w : List Edge). EnclosesDirectly (rings rs l) (segments_of w) (segments_of h)) q.3 (subst (λ (w : List Edge). EnclosesDirectly (rings rs l) (segments_of q.0.outer) (segments_of w)) (sym q.2) q.1.enclosed);
    once = pairs-map-inner (filter (under r) all_links) (pairs-filter Apart (under r) all_links (links-apart rs (λ x i. i) all-distinct));
  }

  each-step : (r : List Edge) → In r rs → (gs : List Polygon) → ((g : Polygon) → In g gs → IsPolygon rs g) → (b : Bool) → out r ≡ b → (g : Polygon) → In g (cond b (polygon_of r ∷ gs) gs) → IsPolygon rs g
  each-step r i gs h true e g (inl q) = subst (IsPolygon rs) (sym q) (polygon-is r i e)
  each-step r i gs h true e g (inr j) = h g j
  each-step r i gs h false e g j = h g j

  each-of : (xs : List (List Edge)) → ((x : List Edge) → In x xs → In x rs) → (g : Polygon) → In g (polygons_of xs) → IsPolygon rs g
  each-of [] k g i = absurd i
  each-of (r ∷ xs) k g i = each-step r (k r (inl refl)) (polygons_of xs) (each-of xs (λ x i. k x (inr i))) (out r) refl g i

  pub polygons_exist : (gs : List Polygon) × ArePolygonsOfRings rs gs
  polygons_exist = (polygons_of rs, record { each = each-of rs (λ x i. i); whole = polygons-whole })
