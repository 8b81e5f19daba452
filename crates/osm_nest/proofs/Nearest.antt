-- Looking for the nearest edge right of an anchor, in one ring and among rings.
use Rattle.std.proofs.Common.{◌≡◌, inl, inr, ◌⊎◌, Bool, true, false, not, ℕ, ◌+◌, ◌<◌, List, [], ◌∷◌, ◌++◌, length, get_or, take, Option, Some, None, IfSome, cond, refl, sym, ap, subst, ◌∙◌, ◌↔◌, arith, ⊎_elim}
use Rattle.std.proofs.lemmas.Bool.{cases_lt, false_from_ne_true}
use Rattle.std.proofs.lemmas.List.{get_or_default, take_more}
use Rattle.plane.specs.Bit.{bit}
use Rattle.plane.specs.Edge as plane
use Rattle.plane.specs.Height.{is_right_above}
use Rattle.plane.specs.Vector.{Vector}
use Rattle.plane.proofs.PlaneKit.{right_of}
use Rattle.plane_lists.specs.Lists.ConflictFree.{IsConflictFree}
use Rattle.lists.specs.Member.{In}
use Rattle.plane_lists.specs.Lists.Parity.{is_even}
use Rattle.lists.proofs.ListsKit.{clash, in-either, in-left, in-map, in-right, into-filter, not-false-out, total-is, total_none}
use Rattle.plane_lists.proofs.NestingKit.{beyond-order, pairs-of}
use Rattle.std.specs.List.{count_by, filter}
use Rattle.osm_geom.specs.declared.edge.Edge.{Edge}
use Rattle.osm_nest.specs.declared.few.search.Encloser.{Encloser}
use Rattle.osm_nest.specs.Beside.{IsBestUpTo, IsEncloser, IsEncloserAt, IsEncloserBy, IsNearest, IsNearestRight, IsNearestUpTo, IsRightOf, nearer_encloser, nearest_so_far, is_around, is_nearer, is_right_of_lower_end, nearer_edge}
use Rattle.osm_nest.specs.Outer.{AreConflictFree, IsOuter}
use Rattle.osm_nest.proofs.Beside.{nearer-at, nearer-chain, not-nearer, not-nearer-itself, right-at}
use Rattle.osm_nest.proofs.Further.{one-more, plain-further}
use Rattle.osm_nest.proofs.InPlane.{segment_at, segments_times, whole-at}
use Rattle.osm_nest.proofs.RingAnchors.{plain-along, same-along}
use Rattle.osm_geom.specs.InPlane.Multiple.{IsWholeAt, product_of_denominators}

-- ---- in one ring
in-more : (es : List Edge) (x f : Edge) → In f (es ++ x ∷ []) → (In f es) ⊎ (f ≡ x)
in-more es x f i = ⊎_elim (λ a. inl a) (λ b. ⊎_elim (λ e. inr e) (λ n. absurd n) b) (in-either es (x ∷ []) f i)

last-in : (es : List Edge) (x : Edge) → In x (es ++ x ∷ [])
last-in es x = in-right es (x ∷ []) x (inl refl)

module _ (a : Edge) (es : List Edge) (x : Edge) where
  abbrev more : List Edge
  more = es ++ x ∷ []

  skipped : (best : Option Edge) → is_right_of_lower_end a x ≡ false → IsNearestRight a es best → IsNearestRight a more best
  skipped None n inv = λ f i. ⊎_elim (λ j. inv f j) (λ e. ap (is_right_of_lower_end a) e ∙ n) (in-more es x f i)
  skipped (Some e) n inv = record {
    member = in-left es (x ∷ []) e inv.member;
    right = inv.right;
    nearest = λ f i r. ⊎_elim (λ j. inv.nearest f j r) (λ s. absurd (clash (is_right_of_lower_end a f) r (ap (is_right_of_lower_end a) s ∙ n))) (in-more es x f i);
  }

  closer-by : (e : Edge) (b : Bool) → is_nearer a x e ≡ b → is_right_of_lower_end a x ≡ true → IsNearest a es e → IsNearest a more (cond b x e)
  closer-by e true m r inv = record {
    member = last-in es x;
    right = r;
    nearest = λ f i s. ⊎_elim
        (λ j. not-nearer a f e x s inv.right r (inv.nearest f j s) m)
        (λ q. subst (λ g. is_nearer a g x ≡ false) (sym q) (not-nearer-itself a x))
        (in-more es x f i);
  }
  closer-by e false m r inv = record {
    member = in-left es (x ∷ []) e inv.member;
    right = inv.right;
    nearest = λ f i s. ⊎_elim
        (λ j. inv.nearest f j s)
        (λ q. subst (λ g. is_nearer a g e ≡ false) (sym q) m)
        (in-more es x f i);
  }

  taken : (best : Option Edge) → is_right_of_lower_end a x ≡ true → IsNearestRight a es best → IsNearest a more (nearest_so_far a best x)
  taken None r inv = record {
    member = last-in es x;
    right = r;
    nearest = λ f i s. ⊎_elim
        (λ j. absurd (clash (is_right_of_lower_end a f) s (inv f j)))
        (λ q. subst (λ g. is_nearer a g x ≡ false) (sym q) (not-nearer-itself a x))
        (in-more es x f i);
  }
  taken (Some e) r inv = closer-by e (is_nearer a x e) refl r inv

  nearest-by : (best : Option Edge) (b : Bool) → is_right_of_lower_end a x ≡ b → IsNearestRight a es best → IsNearestRight a more (cond b (Some (nearest_so_far a best x)) best)
  nearest-by best true r inv = taken best r inv
  nearest-by best false r inv = skipped best r inv

pub nearest-step : (a : Edge) (es : List Edge) (n : ℕ) (best next : Option Edge) (x : Edge) → n < length es → x ≡ get_or es n x → next ≡ nearer_edge a best x → IsNearestRight a (take n es) best → IsNearestRight a (take (n + 1) es) next
nearest-step a es n best next x h is be inv =
    let same : take (n + 1) es ≡ take n es ++ x ∷ [] = take_more es n x h ∙ ap (λ y. take n es ++ y ∷ []) (sym is) in
    subst (λ o. IsNearestRight a (take (n + 1) es) o) (sym be)
    (subst (λ l. IsNearestRight a l (nearer_edge a best x)) (sym same) (nearest-by a (take n es) x best (is_right_of_lower_end a x) refl inv))

pub found-right : (a : Edge) (es : List Edge) (n : ℕ) (best : Option Edge) → IsNearestRight a (take n es) best → IfSome best (λ e. IsRightOf a e)
found-right a es n None inv = tt
found-right a es n (Some e) inv = inv.right

-- ---- two edges of one ring right of an anchor
module _ (k : ℕ) (a f g : Edge) (wa : IsWholeAt k a) (wf : IsWholeAt k f) (wg : IsWholeAt k g) where
  abbrev p : Vector
  p = (segment_at k a).from

  either-by : (s t : plane.Edge) → (s ≡ t) ⊎ ((right_of p s t ≡ not (right_of p t s)) ⊎ (right_of p t s ≡ not (right_of p s t))) → right_of p s t ≡ false → (s ≡ t) ⊎ (right_of p t s ≡ true)
  either-by s t (inl e) n = inl e
  either-by s t (inr (inr h)) n = inr (h ∙ ap not n)
  either-by s t (inr (inl h)) n = inr (not-false-out (right_of p t s) (sym h ∙ n))

  back : (segment_at k f ≡ segment_at k g) ⊎ (right_of p (segment_at k g) (segment_at k f) ≡ true) → (segment_at k f ≡ segment_at k g) ⊎ (is_nearer a g f ≡ true)
  back (inl e) = inl e
  back (inr n) = inr (nearer-at k a g f wa wg wf ∙ n)

  -- of edges without conflict right of an anchor: one that isn't nearer than another is along that one, or the other is nearer
  pub nearer-either : (all : List plane.Edge) → IsConflictFree all → In (segment_at k f) all → In (segment_at k g) all → is_right_of_lower_end a f ≡ true → is_right_of_lower_end a g ≡ true → is_nearer a f g ≡ false → (segment_at k f ≡ segment_at k g) ⊎ (is_nearer a g f ≡ true)
  nearer-either all plain i j rf rg n =
      let e = segment_at k a in
      let order = beyond-order p e all plain in
      back (either-by (segment_at k f) (segment_at k g) (pairs-of (λ x y. right_of p x y ≡ not (right_of p y x)) (filter (is_right_above p e) all) (segment_at k f) (segment_at k g) order.either
      (into-filter (is_right_above p e) all (segment_at k f) i (sym (right-at k a f wa wf) ∙ rf)) (into-filter (is_right_above p e) all (segment_at k g) j (sym (right-at k a g wa wg) ∙ rg)))
      (sym (nearer-at k a f g wa wf wg) ∙ n))

-- the same in one ring
module _ (a : Edge) (es : List Edge) (clear : AreConflictFree es) (f g : Edge) (i : In f es) (j : In g es) where
  abbrev at_all : ℕ
  at_all = product_of_denominators (a ∷ es)

  plain-all : IsConflictFree (segments_times at_all es)
  plain-all = let m = one-more a es in subst (λ k. IsConflictFree (segments_times k es)) (sym m.2) (plain-further es m.0 m.1 (plain-along es clear))

  one-edge : (segment_at at_all f ≡ segment_at at_all g) ⊎ (is_nearer a g f ≡ true) → (f ≡ g) ⊎ (is_nearer a g f ≡ true)
  one-edge (inl e) = inl (same-along at_all es plain-all f g i j e)
  one-edge (inr n) = inr n

  in-ring : is_right_of_lower_end a f ≡ true → is_right_of_lower_end a g ≡ true → is_nearer a f g ≡ false → (f ≡ g) ⊎ (is_nearer a g f ≡ true)
  in-ring rf rg n =
      let list = a ∷ es in
      one-edge (nearer-either at_all a f g (whole-at list a (inl refl)) (whole-at list f (inr i)) (whole-at list g (inr j)) (segments_times at_all es) plain-all
      (in-map (segment_at at_all) es f i) (in-map (segment_at at_all) es g j) rf rg n)

-- ---- among rings
module _ (rs : List (List Edge)) (a : Edge) (n : ℕ) where
  none-more : ((k : ℕ) → k < n → IsEncloser rs a k → ⊥) → (IsEncloser rs a n → ⊥) → (k : ℕ) → k < n + 1 → IsEncloser rs a k → ⊥
  none-more none here k h c = ⊎_elim (λ m. none k m c) (λ m. let e : k ≡ n = omega arith in here (subst (λ j. IsEncloser rs a j) e c)) (cases_lt k n)

  first-candidate : (c : Encloser) → ((k : ℕ) → k < n → IsEncloser rs a k → ⊥) → c.place ≡ n → IsEncloserBy rs a c → IsNearestUpTo rs a (n + 1) c
  first-candidate c none at by = record {
    is = by;
    nearest = λ k h d f i r. ⊎_elim
        (λ m. absurd (none k m d))
        (λ m. let e : k ≡ c.place = (let q : k ≡ n = omega arith in q) ∙ sym at in by.edge.nearest f (subst (λ j. In f (get_or rs j [])) e i) r)
        (cases_lt k n);
  }

  kept : (b : Encloser) → IsNearestUpTo rs a n b → (IsEncloser rs a n → ⊥) → IsNearestUpTo rs a (n + 1) b
  kept b inv here = record {
    is = inv.is;
    nearest = λ k h d f i r. ⊎_elim
        (λ m. inv.nearest k m d f i r)
        (λ m. let e : k ≡ n = omega arith in absurd (here (subst (λ j. IsEncloser rs a j) e d)))
        (cases_lt k n);
  }

  behind-by : (b c : Encloser) (f : Edge) → IsEncloserBy rs a b → IsEncloserBy rs a c → is_right_of_lower_end a f ≡ true → is_nearer a c.edge b.edge ≡ false → (f ≡ c.edge) ⊎ (is_nearer a c.edge f ≡ true) → is_nearer a f b.edge ≡ false
  behind-by b c f ib ic r n (inl e) = ap (λ x. is_nearer a x b.edge) e ∙ n
  behind-by b c f ib ic r n (inr m) =
      false_from_ne_true (is_nearer a f b.edge) (λ k. clash (is_nearer a c.edge b.edge) (nearer-chain a c.edge f b.edge ic.edge.right r ib.edge.right m k) n)

  module _ (clear : AreConflictFree (get_or rs n [])) where
    behind : (b c : Encloser) (f : Edge) → IsEncloserBy rs a b → c.place ≡ n → IsEncloserBy rs a c → In f (get_or rs n []) → is_right_of_lower_end a f ≡ true → is_nearer a c.edge b.edge ≡ false → is_nearer a f b.edge ≡ false
    behind b c f ib at ic i r m =
        let ring = get_or rs c.place [] in
        let j : In f ring = subst (λ k. In f (get_or rs k [])) (sym at) i in
        let clear_c : AreConflictFree ring = subst (λ k. AreConflictFree (get_or rs k [])) (sym at) clear in
        behind-by b c f ib ic r m (in-ring a ring clear_c f c.edge j ic.edge.member r ic.edge.right (ic.edge.nearest f j r))

    chosen : (b c : Encloser) (d : Bool) → is_nearer a c.edge b.edge ≡ d → IsNearestUpTo rs a n b → c.place ≡ n → IsEncloserBy rs a c → IsBestUpTo rs a (n + 1) (cond d (Some c) (Some b))
    chosen b c true m inv at by = record {
      is = by;
      nearest = λ k h d f i r. ⊎_elim
          (λ l. not-nearer a f b.edge c.edge r inv.is.edge.right by.edge.right (inv.nearest k l d f i r) m)
          (λ l. let e : k ≡ c.place = (let q : k ≡ n = omega arith in q) ∙ sym at in by.edge.nearest f (subst (λ j. In f (get_or rs j [])) e i) r)
          (cases_lt k n);
    }
    chosen b c false m inv at by = record {
      is = inv.is;
      nearest = λ k h d f i r. ⊎_elim
          (λ l. inv.nearest k l d f i r)
          (λ l. let e : k ≡ n = omega arith in behind b c f inv.is at by (subst (λ j. In f (get_or rs j [])) e i) r m)
          (cases_lt k n);
    }

    pub better-step : (best next : Option Encloser) → IsBestUpTo rs a n best → IsEncloserAt rs a n next → IsBestUpTo rs a (n + 1) (nearer_encloser a best next)
    better-step None None inv at = none-more inv at
    better-step None (Some c) inv at = first-candidate c inv at.0 at.1
    better-step (Some b) None inv at = kept b inv at
    better-step (Some b) (Some c) inv at = chosen b c (is_nearer a c.edge b.edge) refl inv at.0 at.1

pub best-right : (rs : List (List Edge)) (a : Edge) (n : ℕ) (best : Option Encloser) → IsBestUpTo rs a n best → IfSome best (λ c. IsRightOf a c.edge)
best-right rs a n None inv = tt
best-right rs a n (Some c) inv = inv.is.edge.right

pub next-right : (rs : List (List Edge)) (a : Edge) (n : ℕ) (next : Option Encloser) → IsEncloserAt rs a n next → IfSome next (λ c. IsRightOf a c.edge)
next-right rs a n None at = tt
next-right rs a n (Some c) at = at.1.edge.right

-- ---- a candidate
none-around : (a : Edge) (es : List Edge) → ((f : Edge) → In f es → is_right_of_lower_end a f ≡ false) → is_around a es ≡ false
none-around a es h =
    let n : count_by (is_right_of_lower_end a) es ≡ 0 = sym (total-is (λ f. bit (is_right_of_lower_end a f)) es) ∙ total_none (λ f. bit (is_right_of_lower_end a f)) es (λ f i. ap bit (h f i)) in
    ap (λ k. not (is_even k)) n

pub encloser-by : (rs : List (List Edge)) (a : Edge) (k : ℕ) (r : List Edge) (e : Edge) → k < length rs → r ≡ get_or rs k r → IsOuter (get_or rs k []) → is_around a r ≡ true → IsNearest a r e → (k ≡ k) × IsEncloserBy rs a (record { place = k; edge = e })
encloser-by rs a k r e h is o odd n =
    let own : r ≡ get_or rs k [] = is ∙ get_or_default rs k r [] h in
    (refl, record { candidate = record { inside = h; outer = o; odd = subst (λ l. is_around a l ≡ true) own odd }; edge = subst (λ l. IsNearest a l e) own n })

pub not-outer : (rs : List (List Edge)) (a : Edge) (k : ℕ) (b : Bool) → (b ≡ true) ↔ IsOuter (get_or rs k []) → b ≡ false → IsEncloser rs a k → ⊥
not-outer rs a k b tells n c = clash b (tells.1 c.outer) n

pub no-encloser : (rs : List (List Edge)) (a : Edge) (k : ℕ) (r : List Edge) → k < length rs → r ≡ get_or rs k r → ((f : Edge) → In f r → is_right_of_lower_end a f ≡ false) → IsEncloser rs a k → ⊥
no-encloser rs a k r h is none c =
    let own : r ≡ get_or rs k [] = is ∙ get_or_default rs k r [] h in
    clash (is_around a (get_or rs k [])) c.odd (subst (λ l. is_around a l ≡ false) own (none-around a r none))
