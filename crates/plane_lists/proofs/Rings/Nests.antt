-- Rings that do not cross: outer and inner rings, and the innermost ring round another one.
use Rattle.std.proofs.Common.{Bool, List, [], ap, arith, cond, false, inl, inr, not, refl, subst, suc, sym, true, ℕ, ◌%◌, ◌&&◌, ◌++◌, ◌+◌, ◌||◌, ◌∙◌, ◌∷◌, ◌≡◌, ◌⊎◌}
use Rattle.std.specs.List.{filter}
use Rattle.plane_lists.specs.Rings.Cover.{AreClear, covers_edge}
use Rattle.plane_lists.specs.Rings.Nesting.{IsNest, depth, edges_of, encloses, has_edge, is_outer}
use Rattle.plane.specs.Bit.{bit}
use Rattle.plane.specs.Conflict.{IsClearOf}
use Rattle.plane.specs.Edge.{Edge, IsRisingEdge, same_edge}
use Rattle.plane.specs.Height.{is_in_span, is_right_above}
use Rattle.plane.specs.Vector.{Vector, from_to, one_at}
use Rattle.plane_lists.specs.Lists.ConflictFree.{IsConflictFree}
use Rattle.plane_lists.specs.Lists.EdgeList.{IsEvenAtPoints, crossing_count}
use Rattle.lists.specs.Member.{In}
use Rattle.plane_lists.specs.Lists.Node.{away}
use Rattle.plane_lists.specs.Lists.Parity.{is_even}
use Rattle.plane_lists.specs.Lists.Ring.{IsAnchor}
use Rattle.plane_lists.proofs.Rings.CoveredEdges.{IsClearOfAll}
use Rattle.plane_lists.proofs.Rings.Nearest.{beyond-order, bit-both, same_beside, some_beyond, through}
use Rattle.plane_lists.proofs.Rings.TwoLists.{clear-list, clear-reversed, differ-lists, first-right, not_both_in}
use Rattle.std.proofs.lemmas.Bool.{and_parts, or_right}
use Rattle.lists.proofs.ListsKit.{all-in, clash, even_or_odd, in-all, in-either, in-left, in-passes, in-right, into-filter, none-sum, not-not, not-true-out, pairs-across, pairs-left, pairs-right, total, total-+, total-++, total-is, total-same}
use Rattle.plane.proofs.PlaneKit.{clear_back, same_edge-refl, same_edge-true, right_of}
use Rattle.plane_lists.proofs.WindingKit.{anchor_runs, rising_in, runs_from, same-parity, beyond, crossings-away, First, even-is, even-next, first_exists, odd-is}

pub plain-left : (xs ys : List Edge) → IsConflictFree (xs ++ ys) → IsConflictFree xs
plain-left xs ys p = record { rising = all-in IsRisingEdge xs (λ t i. rising_in (xs ++ ys) t p (in-left xs ys t i)); clear = pairs-left IsClearOf xs ys p.clear }

pub plain-right : (xs ys : List Edge) → IsConflictFree (xs ++ ys) → IsConflictFree ys
plain-right xs ys p = record { rising = all-in IsRisingEdge ys (λ t i. rising_in (xs ++ ys) t p (in-right xs ys t i)); clear = pairs-right IsClearOf xs ys p.clear }

pub in-edges : (gs : List (List Edge)) (g : List Edge) (s : Edge) → In g gs → In s g → In s (edges_of gs)
in-edges [] g s i j = absurd i
in-edges (h ∷ hs) g s (inl e) j = in-left h (edges_of hs) s (subst (λ l. In s l) e j)
in-edges (h ∷ hs) g s (inr i) j = in-right h (edges_of hs) s (in-edges hs g s i j)

pub plain-part : (gs : List (List Edge)) (g : List Edge) → IsConflictFree (edges_of gs) → In g gs → IsConflictFree g
plain-part [] g p i = absurd i
plain-part (h ∷ hs) g p (inl e) = subst IsConflictFree (sym e) (plain-left h (edges_of hs) p)
plain-part (h ∷ hs) g p (inr i) = plain-part hs g (plain-right h (edges_of hs) p) i

pub clear_or_same : (gs : List (List Edge)) (g h : List Edge) → IsConflictFree (edges_of gs) → In g gs → In h gs → (AreClear g h) ⊎ (g ≡ h)
clear_or_same [] g h p i j = absurd i
clear_or_same (k ∷ ks) g h p (inl e) (inl f) = inr (e ∙ sym f)
clear_or_same (k ∷ ks) g h p (inl e) (inr j) = inl (λ s t a b. pairs-across IsClearOf k (edges_of ks) s t p.clear (subst (λ l. In s l) e a) (in-edges ks h t j b))
clear_or_same (k ∷ ks) g h p (inr i) (inl f) = inl (λ s t a b. clear_back t s (pairs-across IsClearOf k (edges_of ks) t s p.clear (subst (λ l. In t l) f b) (in-edges ks g s i a)))
clear_or_same (k ∷ ks) g h p (inr i) (inr j) = clear_or_same ks g h (plain-right k (edges_of ks) p) i j

pub has-in : (g : List Edge) (s : Edge) → In s g → has_edge g s ≡ true
has-in [] s i = absurd i
has-in (x ∷ xs) s (inl e) = ap (λ b. b || has_edge xs s) (ap (λ w. same_edge x w) e ∙ same_edge-refl x)
has-in (x ∷ xs) s (inr i) = or_right (same_edge x s) (has_edge xs s) (has-in xs s i)

in-has-by : (x s : Edge) (xs : List Edge) (b : Bool) → same_edge x s ≡ b → (b || has_edge xs s) ≡ true → (has_edge xs s ≡ true → In s xs) → In s (x ∷ xs)
in-has-by x s xs true h k r = inl (sym (same_edge-true x s h))
in-has-by x s xs false h k r = inr (r k)

pub in-has : (g : List Edge) (s : Edge) → has_edge g s ≡ true → In s g
in-has [] s h = absurd (cc h)
in-has (x ∷ xs) s h = in-has-by x s xs (same_edge x s) refl h (in-has xs s)

-- a ring that does not have an edge of another is clear of it
clear-by : (g h : List Edge) (s : Edge) → In s h → has_edge g s ≡ false → (AreClear g h) ⊎ (g ≡ h) → AreClear g h
clear-by g h s i n (inl c) = c
clear-by g h s i n (inr e) = absurd (clash (has_edge g s) (has-in g s (subst (λ l. In s l) (sym e) i)) n)

pub clear_rings : (gs : List (List Edge)) (g h : List Edge) (s : Edge) → IsConflictFree (edges_of gs) → In g gs → In h gs → In s h → has_edge g s ≡ false → AreClear g h
clear_rings gs g h s p i j k n = clear-by g h s k n (clear_or_same gs g h p i j)

-- and so it has no other edge of that ring
pub has-not-by : (g h : List Edge) (t : Edge) → IsConflictFree g → AreClear g h → In t h → (b : Bool) → has_edge g t ≡ b → b ≡ false
has-not-by g h t p c j false e = refl
has-not-by g h t p c j true e = let i = in-has g t e in absurd (differ-lists t t (rising_in g t p i) (c t t i j) refl)

pub has_same : (gs : List (List Edge)) (g h : List Edge) (s t : Edge) → IsConflictFree (edges_of gs) → In g gs → In h gs → In s h → In t h → has_edge g s ≡ false → has_edge g t ≡ false
has_same gs g h s t p i j k l n = has-not-by g h t (plain-part gs g p i) (clear_rings gs g h s p i j k n) l (has_edge g t) refl

none-rings : (gs : List (List Edge)) → total (λ g. 0) gs ≡ 0
none-rings gs = none-sum gs

one-by : (gs : List (List Edge)) (s : Edge) (b : Bool) (h : List Edge) → has_edge h s ≡ b → IsConflictFree (h ++ edges_of gs) → (b ≡ false → In s (edges_of gs)) → (In s (edges_of gs) → total (λ g. bit (has_edge g s)) gs ≡ 1) →
    ((g : List Edge) → In g gs → b ≡ true → has_edge g s ≡ false) → bit b + total (λ g. bit (has_edge g s)) gs ≡ 1
one-by gs s true h e p k r n = let a = total-same (λ g. bit (has_edge g s)) (λ g. 0) gs (λ g i. ap bit (n g i refl)) in let z = none-rings gs in omega arith
one-by gs s false h e p k r n = let a = r (k refl) in omega arith

pick-or : {P : Type 0} (s : Edge) (h : List Edge) → has_edge h s ≡ false → (In s h) ⊎ P → P
pick-or s h n (inl i) = absurd (clash (has_edge h s) (has-in h s i) n)
pick-or s h n (inr x) = x

pub has_once : (gs : List (List Edge)) (s : Edge) → IsConflictFree (edges_of gs) → In s (edges_of gs) → total (λ g. bit (has_edge g s)) gs ≡ 1
has_once [] s p i = absurd i
has_once (h ∷ hs) s p i =
    one-by hs s (has_edge h s) h refl p (λ n. pick-or s h n (in-either h (edges_of hs) s i)) (has_once hs s (plain-right h (edges_of hs) p))
    (λ g j e. has-not-by g h s (plain-part hs g (plain-right h (edges_of hs) p) j)
    (λ a b k l. clear_back b a (pairs-across IsClearOf h (edges_of hs) b a p.clear l (in-edges hs g a j k))) (in-has h s e) (has_edge g s) refl)

pub total-edges : (f : Edge → ℕ) (gs : List (List Edge)) → total f (edges_of gs) ≡ total (λ g. total f g) gs
total-edges f [] = refl
total-edges f (g ∷ gs) = let a = total-++ f g (edges_of gs) in let b = total-edges f gs in omega arith

odd-by : (n : ℕ) → (n % 2 ≡ 0) ⊎ (n % 2 ≡ 1) → n % 2 ≡ bit (not (is_even n))
odd-by n (inl h) = h ∙ sym (ap (λ b. bit (not b)) (even-is n h))
odd-by n (inr h) = h ∙ sym (ap (λ b. bit (not b)) (odd-is n h))

pub odd-bit : (n : ℕ) → n % 2 ≡ bit (not (is_even n))
odd-bit n = odd-by n (even_or_odd n)

parity-sum : {X : Type 0} (f : X → ℕ) (xs : List X) → total f xs % 2 ≡ total (λ x. bit (not (is_even (f x)))) xs % 2
parity-sum f [] = refl
parity-sum f (x ∷ xs) = let a = parity-sum f xs in let b = odd-bit (f x) in omega arith

-- the parity of all along an edge is that of the number of rings whose parity along it is odd
pub in_edges : (gs : List (List Edge)) (s : Edge) → is_even (crossing_count (from_to s.from s.to) s.from (away s.from (edges_of gs))) ≡ is_even (total (λ g. bit (covers_edge g s)) gs)
in_edges gs s =
    let d = from_to s.from s.to in let v = s.from in
    let a = crossings-away d v (edges_of gs) ∙ total-edges (beyond d v) gs in
    let b = parity-sum (λ g. total (beyond d v) g) gs in
    let c = total-same (λ g. bit (not (is_even (total (beyond d v) g)))) (λ g. bit (covers_edge g s)) gs (λ g i. ap (λ n. bit (not (is_even n))) (sym (crossings-away d v g))) in
    same-parity (crossing_count d v (away v (edges_of gs))) (total (λ g. bit (covers_edge g s)) gs) (omega arith)

apart-bit : (h i : Bool) → bit i ≡ bit (not h && i) + cond h (bit i) 0
apart-bit true i = omega arith
apart-bit false i = omega arith

own-bit : (x b : Bool) (n : ℕ) → (b ≡ true → n ≡ bit x) → cond b n 0 ≡ cond b (bit x) 0
own-bit x true n h = h refl
own-bit x false n h = refl

pub cond-times : (x b : Bool) → cond b (bit x) 0 ≡ cond x (bit b) 0
cond-times true true = refl
cond-times true false = refl
cond-times false true = refl
cond-times false false = refl

pub cond-out : {X : Type 0} (x : Bool) (f : X → Bool) (xs : List X) → total (λ g. cond x (bit (f g)) 0) xs ≡ cond x (total (λ g. bit (f g)) xs) 0
cond-out true f xs = refl
cond-out false f xs = none-sum xs

pub depth-total : (gs : List (List Edge)) (s : Edge) → depth gs s ≡ total (λ g. bit (encloses g s)) gs
depth-total gs s = sym (total-is (λ g. bit (encloses g s)) gs)

pub and-make : (x y : Bool) → x ≡ false → y ≡ true → (not x && y) ≡ true
and-make false y h k = k
and-make true y h k = absurd (cc h)

evens-sum : {X : Type 0} (f : X → ℕ) (xs : List X) → ((x : X) → In x xs → f x % 2 ≡ 0) → total f xs % 2 ≡ 0
evens-sum f [] h = refl
evens-sum f (x ∷ xs) h = let a = h x (inl refl) in let b = evens-sum f xs (λ y i. h y (inr i)) in omega arith

same-ring-by : (gs : List (List Edge)) (g h : List Edge) (s : Edge) → IsConflictFree g → In s h → has_edge g s ≡ true → (AreClear g h) ⊎ (g ≡ h) → g ≡ h
same-ring-by gs g h s p k e (inl c) = let i = in-has g s e in absurd (differ-lists s s (rising_in g s p i) (c s s i k) refl)
same-ring-by gs g h s p k e (inr q) = q

module _ (gs : List (List Edge)) (n : IsNest gs) where
  pub part : (g : List Edge) → In g gs → IsConflictFree g
  part g i = plain-part gs g n.plain i

  pub same-ring : (h g : List Edge) (s : Edge) → In h gs → In g gs → In s h → has_edge g s ≡ true → g ≡ h
  same-ring h g s i j k e = same-ring-by gs g h s (part g j) k e (clear_or_same gs g h n.plain j i)

  -- ---- depth and direction
  own-sum : (h : List Edge) (s : Edge) → In h gs → In s h → total (λ g. cond (has_edge g s) (bit (covers_edge g s)) 0) gs ≡ bit (covers_edge h s)
  own-sum h s i k =
      let a = total-same (λ g. cond (has_edge g s) (bit (covers_edge g s)) 0) (λ g. cond (covers_edge h s) (bit (has_edge g s)) 0) gs
      (λ g j. own-bit (covers_edge h s) (has_edge g s) (bit (covers_edge g s)) (λ e. ap (λ l. bit (covers_edge l s)) (same-ring h g s i j k e)) ∙ cond-times (covers_edge h s) (has_edge g s)) in
      let b = cond-out (covers_edge h s) (λ g. has_edge g s) gs in
      let c = has_once gs s n.plain (in-edges gs h s i k) in
      a ∙ b ∙ ap (λ m. cond (covers_edge h s) m 0) c

  sum_in : (h : List Edge) (s : Edge) → In h gs → In s h → total (λ g. bit (covers_edge g s)) gs ≡ total (λ g. bit (encloses g s)) gs + bit (covers_edge h s)
  sum_in h s i k =
      let a = total-same (λ g. bit (covers_edge g s)) (λ g. bit (encloses g s) + cond (has_edge g s) (bit (covers_edge g s)) 0) gs (λ g j. apart-bit (has_edge g s) (covers_edge g s)) in
      let b = total-+ (λ g. bit (encloses g s)) (λ g. cond (has_edge g s) (bit (covers_edge g s)) 0) gs in
      let c = own-sum h s i k in omega arith

  pub edges-even : IsEvenAtPoints (edges_of gs)
  edges-even v =
      let f = λ (e : Edge). one_at v e.from + one_at v e.to in
      let a = sym (total-is f (edges_of gs)) ∙ total-edges f gs in
      let b = evens-sum (λ g. total f g) gs (λ g i. let c = total-is f g in let d = n.even g i v in omega arith) in
      omega arith

  anchor-out-own : (h : List Edge) (s : Edge) → In h gs → IsAnchor s h → covers_edge h s ≡ false
  anchor-out-own h s i a = sym (runs_from s h (part h i) (n.even h i) a.member) ∙ anchor_runs s h (part h i) (n.even h i) a

  -- a ring is outer where an even number of rings enclose it
  pub outer_depth : (h : List Edge) (s : Edge) → In h gs → IsAnchor s h → is_outer gs s ≡ is_even (depth gs s)
  outer_depth h s i a =
      let r = runs_from s (edges_of gs) n.plain edges-even (in-edges gs h s i a.member) in
      let b = sum_in h s i a.member in let c = ap bit (anchor-out-own h s i a) in let d = depth-total gs s in
      let e : total (λ g. bit (covers_edge g s)) gs ≡ depth gs s = omega arith in
      ap not r ∙ not-not (is_even (crossing_count (from_to s.from s.to) s.from (away s.from (edges_of gs)))) ∙ in_edges gs s ∙ ap is_even e

  pub encloses-not : (g : List Edge) (s : Edge) → encloses g s ≡ true → has_edge g s ≡ false
  encloses-not g s h = not-true-out (has_edge g s) (and_parts (not (has_edge g s)) (covers_edge g s) h).0

  pub encloses-in : (g : List Edge) (s : Edge) → encloses g s ≡ true → covers_edge g s ≡ true
  encloses-in g s h = (and_parts (not (has_edge g s)) (covers_edge g s) h).1

  pub clear-of : (g h : List Edge) (s : Edge) → In g gs → In h gs → In s h → has_edge g s ≡ false → IsClearOfAll s g
  clear-of g h s i j k m = clear-list h g (clear-reversed g h (clear_rings gs g h s n.plain i j k m)) s k

  encloses-same-by : (g h : List Edge) (s t : Edge) → In g gs → In h gs → In s h → In t h → (b c : Bool) → has_edge g s ≡ b → has_edge g t ≡ c → (not b && covers_edge g s) ≡ (not c && covers_edge g t)
  encloses-same-by g h s t i j k l false false e f = n.constant g h i j s t k l e
  encloses-same-by g h s t i j k l true true e f = refl
  encloses-same-by g h s t i j k l false true e f = absurd (clash (has_edge g t) f (has_same gs g h s t n.plain i j k l e))
  encloses-same-by g h s t i j k l true false e f = absurd (clash (has_edge g s) e (has_same gs g h t s n.plain i j l k f))

  pub encloses_same : (g h : List Edge) (s t : Edge) → In g gs → In h gs → In s h → In t h → encloses g s ≡ encloses g t
  encloses_same g h s t i j k l = encloses-same-by g h s t i j k l (has_edge g s) (has_edge g t) refl refl

  pub depth_same : (h : List Edge) (s t : Edge) → In h gs → In s h → In t h → depth gs s ≡ depth gs t
  depth_same h s t j k l = depth-total gs s ∙ total-same (λ g. bit (encloses g s)) (λ g. bit (encloses g t)) gs (λ g i. ap bit (encloses_same g h s t i j k l)) ∙ sym (depth-total gs t)

  -- two rings, the one in the other: not the other way round
  pub not-both : (g h : List Edge) (s t : Edge) → In g gs → In h gs → In s h → In t g → encloses g s ≡ true → encloses h t ≡ true → ⊥
  not-both g h s t i j k l a b =
      not_both_in h g (part h j) (part g i) (n.even h j) (n.even g i) (clear-reversed g h (clear_rings gs g h s n.plain i j k (encloses-not g s a))) s k
      (λ x m. n.constant g h i j x s m k (has_same gs g h s x n.plain i j k m (encloses-not g s a)) ∙ encloses-in g s a)
      (λ x m. n.constant h g j i x t m l (has_same gs h g t x n.plain j i l m (encloses-not h t b)) ∙ encloses-in h t b)

  -- ---- the nearest edge, among rings of a choice that enclose e
  module _ (h : List Edge) (ih : In h gs) (e : Edge) (ie : In e h) (p : Vector) (se : is_in_span p e ≡ true) (sel : List Edge → Bool) (chosen : (g : List Edge) → In g gs → sel g ≡ true → encloses g e ≡ true) where
    re : IsRisingEdge e
    re = rising_in h e (part h ih) ie

    abbrev pub beyonds : List Edge
    beyonds = filter (is_right_above p e) (edges_of (filter sel gs))

    -- along the nearest edge m each other chosen ring has odd parity
    pub nearest_in : (m : Edge) → First (right_of p) m beyonds → (t : List Edge) → In t gs → In m t → (g : List Edge) → In g gs → sel g ≡ true → has_edge g m ≡ false → covers_edge g m ≡ covers_edge g e
    nearest_in m f t it im g ig sg nm =
        let rm = rising_in t m (part t it) im in
        let ce = clear-of g h e ig ih ie (encloses-not g e (chosen g ig sg)) in
        let cm = clear-of g t m ig it im nm in
        same_beside p e m g re rm (part g ig) (n.even g ig) ce cm se (in-passes (is_right_above p e) (edges_of (filter sel gs)) m f.here)
        (λ u i b. first-right p m u rm (in-all (IsClearOf m) g u cm i)
        (f.first u (into-filter (is_right_above p e) (edges_of (filter sel gs)) u (in-edges (filter sel gs) g u (into-filter sel gs g ig sg) i) b)))

    -- there is one, where a ring is chosen
    pub nearest_exists : (g : List Edge) → In g gs → sel g ≡ true → IsConflictFree (edges_of (filter sel gs)) → (m : Edge) × First (right_of p) m beyonds
    nearest_exists g ig sg pl =
        let ce = clear-of g h e ig ih ie (encloses-not g e (chosen g ig sg)) in
        let s = some_beyond p e g re (part g ig) (n.even g ig) ce se (encloses-in g e (chosen g ig sg)) in
        first_exists (right_of p) beyonds s.0 (into-filter (is_right_above p e) (edges_of (filter sel gs)) s.0 (in-edges (filter sel gs) g s.0 (into-filter sel gs g ig sg) s.1) s.2) (beyond-order p e (edges_of (filter sel gs)) pl)

  -- ---- the innermost ring that encloses e: the one with the nearest edge
  module _ (h : List Edge) (ih : In h gs) (e : Edge) (ie : In e h) (p : Vector) (se : is_in_span p e ≡ true) where
    abbrev pub enclosing : List Edge → Bool
    enclosing g = encloses g e

    abbrev pub nearest : Edge → Type 0
    nearest m = First (right_of p) m (beyonds h ih e ie p se enclosing (λ g i c. c))

    module _ (m : Edge) (f : nearest m) (t : List Edge) (it : In t gs) (im : In m t) (ct : encloses t e ≡ true) where
      -- it lies in each other ring that encloses e
      pub innermost : (g : List Edge) → In g gs → encloses g e ≡ true → has_edge g m ≡ false → encloses g m ≡ true
      innermost g ig c n' = and-make (has_edge g m) (covers_edge g m) n' (nearest_in h ih e ie p se enclosing (λ g i c. c) m f t it im g ig c n' ∙ encloses-in g e c)

      -- and what encloses it encloses e
      has-not-e : (g : List Edge) → In g gs → encloses g m ≡ true → (b : Bool) → has_edge g e ≡ b → b ≡ false
      has-not-e g ig c false r = refl
      has-not-e g ig c true r =
          let q = same-ring h g e ih ig ie r in
          absurd (not-both t h e m it ih ie im ct (subst (λ l. encloses l m ≡ true) q c))

      pub outward : (g : List Edge) → In g gs → encloses g m ≡ true → encloses g e ≡ true
      outward g ig c =
          let nm = encloses-not g m c in
          let ne = has-not-e g ig c (has_edge g e) refl in
          let gt = clear_rings gs g t m n.plain ig it im nm in
          let tg = clear-reversed g t gt in
          let ca = clear-of t h e it ih ie (encloses-not t e ct) in let cb = clear-of g h e ig ih ie ne in
          and-make (has_edge g e) (covers_edge g e) ne
          (through p e t g (rising_in h e (part h ih) ie) se (part t it) (part g ig) (n.even t it) (n.even g ig) tg ca cb
          (λ x i. n.constant g t ig it x m i im (has-not-by g t x (part g ig) gt i (has_edge g x) refl) ∙ encloses-in g m c)
          (λ x y i j. n.constant t g it ig x y i j (has-not-by t g x (part t it) tg i (has_edge t x) refl))
          (encloses-in t e ct))

      pub depth-at : (g : List Edge) → In g gs → (b : Bool) → has_edge g m ≡ b → bit (encloses g e) ≡ bit b + bit (not b && covers_edge g m)
      depth-at g ig true r = let q = same-ring t g m it ig im r in ap (λ l. bit (encloses l e)) q ∙ ap bit ct
      depth-at g ig false r =
          let k = bit-both (encloses g e) (covers_edge g m) (λ c. encloses-in g m (innermost g ig c r)) (λ c. outward g ig (and-make (has_edge g m) (covers_edge g m) r c)) in omega arith

      -- one ring fewer encloses it
      pub depth_step : depth gs e ≡ 1 + depth gs m
      depth_step =
          let a = depth-total gs e in let b = depth-total gs m in
          let c = total-same (λ g. bit (encloses g e)) (λ g. bit (has_edge g m) + bit (encloses g m)) gs (λ g i. depth-at g i (has_edge g m) refl) in
          let d = total-+ (λ g. bit (has_edge g m)) (λ g. bit (encloses g m)) gs in
          let o = has_once gs m n.plain (in-edges gs t m it im) in omega arith

      -- so of e's ring and the innermost ring that encloses it, one is outer and one is inner
      pub alternate : (a : Edge) → IsAnchor a h → (b : Edge) → IsAnchor b t → is_outer gs b ≡ not (is_outer gs a)
      alternate a aa b ab =
          let x = outer_depth h a ih aa in let y = outer_depth t b it ab in
          let u = depth_same h e a ih ie aa.member in let v = depth_same t m b it im ab.member in
          let w = depth_step in
          let z : depth gs a ≡ suc (depth gs b) = omega arith in
          y ∙ sym (not-not (is_even (depth gs b))) ∙ ap not (sym (ap is_even z ∙ even-next (depth gs b))) ∙ ap not (sym x)
