-- Two lists that do not cross: not each in the other; if one is in the other, what it covers is; if neither is, they cover nothing in common.
use Rattle.std.proofs.Common.{Bool, List, [], ap, arith, cond, false, inl, inr, length, not, refl, subst, sym, true, ◌++◌, ◌∙◌, ◌∷◌, ◌≡◌, ◌⊎◌}
use Rattle.plane_lists.specs.Rings.Cover.{AreClear, covers, covers_edge}
use Rattle.plane.specs.Bit.{bit}
use Rattle.plane.specs.Conflict.{IsClearOf}
use Rattle.plane.specs.Edge.{Edge, IsRisingEdge, same_edge}
use Rattle.plane.specs.Height.{is_in_span, is_left_of}
use Rattle.plane.specs.Vector.{Vector, east, from_to}
use Rattle.plane_lists.specs.Lists.ConflictFree.{IsConflictFree}
use Rattle.plane_lists.specs.Lists.EdgeList.{IsEvenAtPoints, crossing_count}
use Rattle.lists.specs.Member.{In}
use Rattle.plane_lists.specs.Lists.Node.{away}
use Rattle.plane_lists.specs.Lists.Parity.{is_even}
use Rattle.plane_lists.specs.Lists.Ring.{IsAnchor}
use Rattle.plane_lists.proofs.Rings.CoveredEdges.{IsClearOfAll, beside, off-list}
use Rattle.lists.proofs.ListsKit.{all-either, all-in, in-either, in-filter, in-left, in-passes, in-right, into-filter, not-not, pairs-append, total, total-filter, total-same}
use Rattle.plane.proofs.PlaneKit.{clear_back, clear_differs, ends_at-from, same_edge-refl, right_of, rising-direction}
use Rattle.plane_lists.proofs.WindingKit.{all-right, anchor_right, some-anchor, west, west-direction, west-none, degree-even, length-total, rising_in, crossing-order, crossing_by, kept-by, left-span, right_left, to_right, covers-crossings, First, even-is, first_exists, parity_round_node}

pub plain-append : (cs bs : List Edge) → IsConflictFree cs → IsConflictFree bs → AreClear cs bs → IsConflictFree (cs ++ bs)
plain-append cs bs p q c = record {
  rising = all-in IsRisingEdge (cs ++ bs) (λ t i. all-either IsRisingEdge cs bs t (λ y j. rising_in cs y p j) (λ y j. rising_in bs y q j) (in-either cs bs t i));
  clear = pairs-append IsClearOf cs bs p.clear q.clear c;
}

pub clear-list : (cs bs : List Edge) → AreClear cs bs → (s : Edge) → In s cs → IsClearOfAll s bs
clear-list cs bs c s i = all-in (IsClearOf s) bs (λ t j. c s t i j)

pub clear-reversed : (cs bs : List Edge) → AreClear cs bs → AreClear bs cs
clear-reversed cs bs c s t i j = clear_back t s (c t s j i)

-- ---- the anchor of both is not in the list that it is not of
pub anchor-out : (s : Edge) (all es : List Edge) → IsConflictFree all → IsAnchor s all → IsConflictFree es → IsEvenAtPoints es → ((t : Edge) → In t es → In t all) → IsClearOfAll s es → covers_edge es s ≡ false
anchor-out s all es pa a pl even sub c =
    let v = s.from in let d = from_to s.from s.to in let rs = rising_in all s pa a.member in
    let b = parity_round_node west d v es west-direction (rising-direction s.from s.to rs) even (off-list v s es rs pl c (ends_at-from s)) in
    let n = west-none v es (λ t i. rising_in es t pl i) (λ t i. a.least t (sub t i)) in
    let m = all-right v d es rs (λ t i. rising_in es t pl i) (λ t i. a.least t (sub t i)) (λ t i q. anchor_right s t all a (sub t i) q) in
    let e = degree-even v es pl even in
    ap not (even-is (crossing_count d v (away v es)) (omega arith))

one-out-by : (cs bs : List Edge) → IsConflictFree cs → IsConflictFree bs → IsEvenAtPoints cs → IsEvenAtPoints bs → AreClear cs bs → (m : Edge) → IsAnchor m (cs ++ bs) → (In m cs) ⊎ (In m bs) →
    ((s : Edge) → In s cs → covers_edge bs s ≡ true) → ((t : Edge) → In t bs → covers_edge cs t ≡ true) → ⊥
one-out-by cs bs pa pb ea eb c m a (inl i) h k =
    let f = anchor-out m (cs ++ bs) bs (plain-append cs bs pa pb c) a pb eb (λ t j. in-right cs bs t j) (clear-list cs bs c m i) in cc (sym f ∙ h m i)
one-out-by cs bs pa pb ea eb c m a (inr i) h k =
    let f = anchor-out m (cs ++ bs) cs (plain-append cs bs pa pb c) a pa ea (λ t j. in-left cs bs t j) (clear-list bs cs (clear-reversed cs bs c) m i) in cc (sym f ∙ k m i)

-- not each of two lists is in the other
pub not_both_in : (cs bs : List Edge) → IsConflictFree cs → IsConflictFree bs → IsEvenAtPoints cs → IsEvenAtPoints bs → AreClear cs bs → (x : Edge) → In x cs →
    ((s : Edge) → In s cs → covers_edge bs s ≡ true) → ((t : Edge) → In t bs → covers_edge cs t ≡ true) → ⊥
not_both_in cs bs pa pb ea eb c x i h k =
    let m = some-anchor (cs ++ bs) x (in-left cs bs x i) (plain-append cs bs pa pb c) in
    one-out-by cs bs pa pb ea eb c m.0 m.1 (in-either cs bs m.0 m.1.member) h k

crossing-exists : (p : Vector) (es : List Edge) → IsConflictFree es → covers es p ≡ true → (hs : List Edge) → crossing_by p es ≡ hs → (t : Edge) × In t (crossing_by p es)
crossing-exists p es pl h [] e =
    let a = covers-crossings p es pl in let b = total-filter (is_left_of p) (λ t. 1) es in let c = length-total (crossing_by p es) in let d = ap length e in
    let z : crossing_count east p es ≡ 0 = omega arith in
    let f = ap (λ n. not (is_even n)) z in absurd (cc (sym f ∙ h))
crossing-exists p es pl h (t ∷ ts) e = (t, subst (λ l. In t l) (sym e) (inl refl))

past-bit : (x r : Bool) → (x ≡ true → r ≡ true) → cond x (bit r) 0 ≡ bit x
past-bit true r h = ap bit (h refl)
past-bit false r h = refl

-- where all edges of the list right of p are right of t too
pub covers_first : (p : Vector) (t : Edge) (es : List Edge) → IsRisingEdge t → IsConflictFree es → IsEvenAtPoints es → IsClearOfAll t es → is_left_of p t ≡ true →
    ((f : Edge) → In f es → is_left_of p f ≡ true → right_of p t f ≡ true) → covers es p ≡ covers_edge es t
covers_first p t es rt pl even c l h =
    let a = total-same (λ f. cond (is_left_of p f) (bit (right_of p t f)) 0) (to_right p t) es (λ f j. kept-by (is_left_of p f) (is_in_span p f) (right_of p t f) (left-span p f) (λ s r. right_left p t f l s r)) in
    let b = total-same (λ f. cond (is_left_of p f) (bit (right_of p t f)) 0) (λ f. bit (is_left_of p f)) es (λ f j. past-bit (is_left_of p f) (right_of p t f) (h f j)) in
    let e : crossing_count east p es ≡ total (to_right p t) es = covers-crossings p es pl ∙ sym b ∙ a in
    ap (λ n. not (is_even n)) e ∙ ap not (beside p t es rt pl even c (left-span p t l)) ∙ not-not (covers_edge es t)

pub differ-lists : (s t : Edge) → IsRisingEdge s → IsClearOf s t → t ≡ s → ⊥
differ-lists s t r c e = let d = clear_differs s t r c in let g = ap (λ w. same_edge s w) e in cc (sym (same_edge-refl s) ∙ sym g ∙ d)

pub first-right : (p : Vector) (m f : Edge) → IsRisingEdge m → IsClearOf m f → (f ≡ m) ⊎ (right_of p m f ≡ true) → right_of p m f ≡ true
first-right p m f r c (inl e) = absurd (differ-lists m f r c e)
first-right p m f r c (inr h) = h

module _ (cs bs : List Edge) (pa : IsConflictFree cs) (pb : IsConflictFree bs) (ea : IsEvenAtPoints cs) (eb : IsEvenAtPoints bs) (c : AreClear cs bs) (p : Vector) where
  -- the first edge right of p is of the one list: there the parity of the other is that at p
  first-a : (m : Edge) → First (right_of p) m (crossing_by p (cs ++ bs)) → In m cs → covers bs p ≡ covers_edge bs m
  first-a m f i =
      let rm = rising_in cs m pa i in let l = in-passes (is_left_of p) (cs ++ bs) m f.here in
      covers_first p m bs rm pb eb (clear-list cs bs c m i) l
      (λ t j h. first-right p m t rm (c m t i j) (f.first t (into-filter (is_left_of p) (cs ++ bs) t (in-right cs bs t j) h)))

  first-b : (m : Edge) → First (right_of p) m (crossing_by p (cs ++ bs)) → In m bs → covers cs p ≡ covers_edge cs m
  first-b m f i =
      let rm = rising_in bs m pb i in let l = in-passes (is_left_of p) (cs ++ bs) m f.here in
      covers_first p m cs rm pa ea (clear-list bs cs (clear-reversed cs bs c) m i) l
      (λ t j h. first-right p m t rm (clear_back t m (c t m j i)) (f.first t (into-filter (is_left_of p) (cs ++ bs) t (in-left cs bs t j) h)))

  first-of-both : covers cs p ≡ true → (m : Edge) × First (right_of p) m (crossing_by p (cs ++ bs))
  first-of-both h =
      let t = crossing-exists p cs pa h (crossing_by p cs) refl in
      let i = in-filter (is_left_of p) cs t.0 t.1 in
      first_exists (right_of p) (crossing_by p (cs ++ bs)) t.0 (into-filter (is_left_of p) (cs ++ bs) t.0 (in-left cs bs t.0 i) (in-passes (is_left_of p) cs t.0 t.1)) (crossing-order p (cs ++ bs) (plain-append cs bs pa pb c))

  contained-by : (m : Edge) → First (right_of p) m (crossing_by p (cs ++ bs)) → (In m cs) ⊎ (In m bs) → ((s : Edge) → In s cs → covers_edge bs s ≡ true) → ((s t : Edge) → In s bs → In t bs → covers_edge cs s ≡ covers_edge cs t) → covers cs p ≡ true → covers bs p ≡ true
  contained-by m f (inl i) h k o = first-a m f i ∙ h m i
  contained-by m f (inr i) h k o =
      let t = crossing-exists p cs pa o (crossing_by p cs) refl in
      let g = first-b m f i in
      absurd (not_both_in cs bs pa pb ea eb c t.0 (in-filter (is_left_of p) cs t.0 t.1) h (λ t j. k t m j i ∙ sym g ∙ o))

  disjoint-by : (m : Edge) → First (right_of p) m (crossing_by p (cs ++ bs)) → (In m cs) ⊎ (In m bs) → ((s : Edge) → In s cs → covers_edge bs s ≡ false) → ((s : Edge) → In s bs → covers_edge cs s ≡ false) → covers cs p ≡ true → covers bs p ≡ true → ⊥
  disjoint-by m f (inl i) h k o u = let g = first-a m f i in let n = h m i in cc (sym n ∙ sym g ∙ u)
  disjoint-by m f (inr i) h k o u = let g = first-b m f i in let n = k m i in cc (sym n ∙ sym g ∙ o)

  -- where the one list is in the other, so is its inside
  pub contained : ((s : Edge) → In s cs → covers_edge bs s ≡ true) → ((s t : Edge) → In s bs → In t bs → covers_edge cs s ≡ covers_edge cs t) → covers cs p ≡ true → covers bs p ≡ true
  contained h k o = let m = first-of-both o in contained-by m.0 m.1 (in-either cs bs m.0 (in-filter (is_left_of p) (cs ++ bs) m.0 m.1.here)) h k o

  -- where neither is in the other, no point is inside both
  pub disjoint : ((s : Edge) → In s cs → covers_edge bs s ≡ false) → ((s : Edge) → In s bs → covers_edge cs s ≡ false) → covers cs p ≡ true → covers bs p ≡ true → ⊥
  disjoint h k o u = let m = first-of-both o in disjoint-by m.0 m.1 (in-either cs bs m.0 (in-filter (is_left_of p) (cs ++ bs) m.0 m.1.here)) h k o u
