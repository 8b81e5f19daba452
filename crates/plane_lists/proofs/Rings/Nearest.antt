-- The nearest edge right of an edge.
use Rattle.std.proofs.Common.{Bool, List, ap, false, inl, inr, not, refl, sym, true, ◌++◌, ◌∙◌, ◌≡◌, ◌⊎◌}
use Rattle.std.specs.List.{filter}
use Rattle.plane_lists.specs.Rings.Cover.{AreClear, covers_edge}
use Rattle.plane.specs.Bit.{bit}
use Rattle.plane.specs.Conflict.{IsClearOf}
use Rattle.plane.specs.Edge.{Edge, IsRisingEdge}
use Rattle.plane.specs.Height.{is_in_span, is_right_above}
use Rattle.plane.specs.Vector.{Vector}
use Rattle.plane_lists.specs.Lists.ConflictFree.{IsConflictFree}
use Rattle.plane_lists.specs.Lists.EdgeList.{IsEvenAtPoints}
use Rattle.lists.specs.Member.{In}
use Rattle.plane_lists.specs.Lists.Parity.{is_even}
use Rattle.plane_lists.specs.Lists.Rank.{IsOrder}
use Rattle.plane_lists.proofs.Rings.CoveredEdges.{IsClearOfAll, beside}
use Rattle.plane_lists.proofs.Rings.TwoLists.{clear-list, clear-reversed, first-right, not_both_in, plain-append}
use Rattle.std.proofs.lemmas.Bool.{and_from, and_parts}
use Rattle.lists.proofs.ListsKit.{in-either, in-filter, in-left, in-passes, in-right, into-filter, not-same, pairs-filter, pairs-weaker, total-same}
use Rattle.plane.proofs.PlaneKit.{clear_back, right_chain, right_either, right_itself, right_of}
use Rattle.plane_lists.proofs.WindingKit.{some_odd, rising_in, right_apart, to_right, First, first_exists}

pub beyond-span : (p : Vector) (e f : Edge) → is_right_above p e f ≡ true → is_in_span p f ≡ true
beyond-span p e f h = (and_parts (is_in_span p f) (right_of p e f) h).0

pub beyond-right : (p : Vector) (e f : Edge) → is_right_above p e f ≡ true → right_of p e f ≡ true
beyond-right p e f h = (and_parts (is_in_span p f) (right_of p e f) h).1

-- the edges right of e are in order
pub beyond-order : (p : Vector) (e : Edge) (es : List Edge) → IsConflictFree es → IsOrder false (right_of p) (filter (is_right_above p e) es)
beyond-order p e es pl =
    let s = λ (t : Edge) (i : In t (filter (is_right_above p e) es)). beyond-span p e t (in-passes (is_right_above p e) es t i) in
    record {
      itself = λ t i. right_itself p t;
      chain = λ a b c i j k h g. right_chain p a b c (s a i) (s b j) (s c k) h g;
      either = pairs-weaker IsClearOf (λ a b. right_of p a b ≡ not (right_of p b a)) (filter (is_right_above p e) es)
          (λ a b i j n. right_either p a b (right_apart p a b es pl (in-filter (is_right_above p e) es a i) (in-filter (is_right_above p e) es b j) n (s b j) (s a i)))
          (pairs-filter IsClearOf (is_right_above p e) es pl.clear);
    }

pub bit-both : (a b : Bool) → (a ≡ true → b ≡ true) → (b ≡ true → a ≡ true) → bit a ≡ bit b
bit-both true true h k = refl
bit-both false false h k = refl
bit-both true false h k = absurd (cc (h refl))
bit-both false true h k = absurd (cc (k refl))

-- t is right of e, and all edges of the list right of e are right of t: the parity of the list is the same at both
pub same_beside : (p : Vector) (e t : Edge) (es : List Edge) → IsRisingEdge e → IsRisingEdge t → IsConflictFree es → IsEvenAtPoints es → IsClearOfAll e es → IsClearOfAll t es → is_in_span p e ≡ true → is_right_above p e t ≡ true →
    ((f : Edge) → In f es → is_right_above p e f ≡ true → right_of p t f ≡ true) → covers_edge es t ≡ covers_edge es e
same_beside p e t es re rt pl even ce ct se b h =
    let st = beyond-span p e t b in
    let x = beside p e es re pl even ce se in let y = beside p t es rt pl even ct st in
    let w = total-same (to_right p t) (to_right p e) es (λ f i. bit-both (is_right_above p t f) (is_right_above p e f)
    (λ k. and_from (is_in_span p f) (right_of p e f) (beyond-span p t f k) (right_chain p e t f se st (beyond-span p t f k) (beyond-right p e t b) (beyond-right p t f k)))
    (λ k. and_from (is_in_span p f) (right_of p t f) (beyond-span p e f k) (h f i k))) in
    not-same (covers_edge es t) (covers_edge es e) (sym y ∙ ap is_even w ∙ x)

pub some_beyond : (p : Vector) (e : Edge) (es : List Edge) → IsRisingEdge e → IsConflictFree es → IsEvenAtPoints es → IsClearOfAll e es → is_in_span p e ≡ true → covers_edge es e ≡ true → (f : Edge) × In f es × (is_right_above p e f ≡ true)
some_beyond p e es re pl even c s h = some_odd (is_right_above p e) es (beside p e es re pl even c s ∙ ap not h)

-- ---- two lists beside an edge that is in the one
pub record Meets (e : Edge) (cs bs : List Edge) : Type 0 where
  pub edge : Edge
  pub of : (In edge cs × (covers_edge bs edge ≡ covers_edge bs e)) ⊎ (In edge bs × (covers_edge cs edge ≡ covers_edge cs e))

module _ (p : Vector) (e : Edge) (cs bs : List Edge) (re : IsRisingEdge e) (s : is_in_span p e ≡ true) (pa : IsConflictFree cs) (pb : IsConflictFree bs) (ea : IsEvenAtPoints cs) (eb : IsEvenAtPoints bs)
    (c : AreClear cs bs) (ca : IsClearOfAll e cs) (cb : IsClearOfAll e bs) where
  meets-by : (m : Edge) → First (right_of p) m (filter (is_right_above p e) (cs ++ bs)) → (In m cs) ⊎ (In m bs) → Meets e cs bs
  meets-by m f (inl i) =
      let rm = rising_in cs m pa i in
      record {
        edge = m;
        of = inl (
          i,
          same_beside p e m bs re rm pb eb cb (clear-list cs bs c m i) s (in-passes (is_right_above p e) (cs ++ bs) m f.here)
              (λ t j h. first-right p m t rm (c m t i j) (f.first t (into-filter (is_right_above p e) (cs ++ bs) t (in-right cs bs t j) h))),
        );
      }
  meets-by m f (inr i) =
      let rm = rising_in bs m pb i in
      record {
        edge = m;
        of = inr (
          i,
          same_beside p e m cs re rm pa ea ca (clear-list bs cs (clear-reversed cs bs c) m i) s (in-passes (is_right_above p e) (cs ++ bs) m f.here)
              (λ t j h. first-right p m t rm (clear_back t m (c t m j i)) (f.first t (into-filter (is_right_above p e) (cs ++ bs) t (in-left cs bs t j) h))),
        );
      }

  pub meets : covers_edge cs e ≡ true → Meets e cs bs
  meets h =
      let t = some_beyond p e cs re pa ea ca s h in
      let m = first_exists (right_of p) (filter (is_right_above p e) (cs ++ bs)) t.0 (into-filter (is_right_above p e) (cs ++ bs) t.0 (in-left cs bs t.0 t.1) t.2) (beyond-order p e (cs ++ bs) (plain-append cs bs pa pb c)) in
      meets-by m.0 m.1 (in-either cs bs m.0 (in-filter (is_right_above p e) (cs ++ bs) m.0 m.1.here))

  through-by : ((x : Edge) → In x cs → covers_edge bs x ≡ true) → ((x y : Edge) → In x bs → In y bs → covers_edge cs x ≡ covers_edge cs y) → covers_edge cs e ≡ true → (m : Edge) → (In m cs × (covers_edge bs m ≡ covers_edge bs e)) ⊎ (In m bs × (covers_edge cs m ≡ covers_edge cs e)) → covers_edge bs e ≡ true
  through-by h k o m (inl i) = sym i.1 ∙ h m i.0
  through-by h k o m (inr i) =
      let t = some_beyond p e cs re pa ea ca s o in
      absurd (not_both_in cs bs pa pb ea eb c t.0 t.1 h (λ x j. k x m j i.0 ∙ i.1 ∙ o))

  -- e is in the first list and that is in the second: e is in the second
  pub through : ((x : Edge) → In x cs → covers_edge bs x ≡ true) → ((x y : Edge) → In x bs → In y bs → covers_edge cs x ≡ covers_edge cs y) → covers_edge cs e ≡ true → covers_edge bs e ≡ true
  through h k o = let m = meets o in through-by h k o m.edge m.of

  ordered-by : ((x y : Edge) → In x cs → In y cs → covers_edge bs x ≡ covers_edge bs y) → ((x y : Edge) → In x bs → In y bs → covers_edge cs x ≡ covers_edge cs y) → covers_edge cs e ≡ true → covers_edge bs e ≡ true →
      (m : Edge) → (In m cs × (covers_edge bs m ≡ covers_edge bs e)) ⊎ (In m bs × (covers_edge cs m ≡ covers_edge cs e)) → ((x : Edge) → In x cs → covers_edge bs x ≡ true) ⊎ ((x : Edge) → In x bs → covers_edge cs x ≡ true)
  ordered-by h k o u m (inl i) = inl (λ x j. h x m j i.0 ∙ i.1 ∙ u)
  ordered-by h k o u m (inr i) = inr (λ x j. k x m j i.0 ∙ i.1 ∙ o)

  -- e is in both: one is in the other
  pub ordered : ((x y : Edge) → In x cs → In y cs → covers_edge bs x ≡ covers_edge bs y) → ((x y : Edge) → In x bs → In y bs → covers_edge cs x ≡ covers_edge cs y) → covers_edge cs e ≡ true → covers_edge bs e ≡ true →
      ((x : Edge) → In x cs → covers_edge bs x ≡ true) ⊎ ((x : Edge) → In x bs → covers_edge cs x ≡ true)
  ordered h k o u = let m = meets o in ordered-by h k o u m.edge m.of
