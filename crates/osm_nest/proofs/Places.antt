-- RingFromLeast rings, each with a place of its own; and rings at different places of a ring list, which share no edge.
use Rattle.std.proofs.Common.{All, AllPairs, List, [], ap, arith, get_or, length, refl, subst, suc, sym, zero, ℕ, ◌+◌, ◌<◌, ◌∙◌, ◌∷◌, ◌≡◌, ◌≢◌, ◌≤◌, ⊎_elim, nat_eq, Bool, true, false}
use Rattle.std.specs.List.Sorted.{IsPermutation}
use Rattle.std.proofs.lemmas.Bool.{cases_lt, eq-eqb, eqb-true}
use Rattle.std.proofs.lemmas.List.{length-map}
use Rattle.std.proofs.lemmas.List.Kept.{AllPairs-cons}
use Rattle.std.proofs.lemmas.List.Sorted.{All-permutation, sum_by-IsPermutation}
use Rattle.plane_lists.specs.Rings.Nesting.{edges_of}
use Rattle.plane_lists.proofs.NestingKit.{Once, once-apart}
use Rattle.plane.specs.Bit.{bit}
use Rattle.plane.specs.Edge as plane
use Rattle.lists.specs.Member.{In}
use Rattle.lists.proofs.ListsKit.{all-in, at-in, in-left, in-right, pairs-right, total, total-is}
use Rattle.plane_lists.proofs.WindingKit.{total-member}
use Rattle.osm_geom.specs.declared.edge.Edge.{Edge}
use Rattle.osm_nest.specs.declared.rings_from_least.RingFromLeast.{RingFromLeast}
use Rattle.osm_nest.specs.Grouped.{AreListed, ArePlaced, IsFromLeastAt}
use Rattle.osm_nest.specs.RingLists.{all_edges, whole_rings}
use Rattle.osm_geom.specs.InPlane.Multiple.{edges_times, product_of_denominators}

-- ---- rings at different places
edges-at : (gs : List (List plane.Edge)) (j : ℕ) (x : plane.Edge) → j < length gs → In x (get_or gs j []) → In x (edges_of gs)
edges-at [] j x h i = absurd (omega arith)
edges-at (g ∷ gs) zero x h i = in-left g (edges_of gs) x i
edges-at (g ∷ gs) (suc j) x h i = in-right g (edges_of gs) x (edges-at gs j x (omega arith) i)

before-apart : (gs : List (List plane.Edge)) → Once (edges_of gs) → (i j : ℕ) (x : plane.Edge) → i < j → j < length gs → In x (get_or gs i []) → In x (get_or gs j []) → ⊥
before-apart [] o i j x h l m n = absurd (omega arith)
before-apart (g ∷ gs) o i zero x h l m n = absurd (omega arith)
before-apart (g ∷ gs) o zero (suc j) x h l m n = once-apart g (edges_of gs) o x m (edges-at gs j x (omega arith) n)
before-apart (g ∷ gs) o (suc i) (suc j) x h l m n = before-apart gs (pairs-right (λ (x y : plane.Edge). x ≡ y → ⊥) g (edges_of gs) o) i j x (omega arith) (omega arith) m n

-- an edge stands in one ring
pub rings-apart : (gs : List (List plane.Edge)) → Once (edges_of gs) → (i j : ℕ) (x : plane.Edge) → i ≢ j → i < length gs → j < length gs → In x (get_or gs i []) → In x (get_or gs j []) → ⊥
rings-apart gs o i j x n h l m r = ⊎_elim
    (λ a. before-apart gs o i j x a l m r)
    (λ a. ⊎_elim
    (λ b. before-apart gs o j i x b h r m)
    (λ b. n (omega arith))
    (cases_lt j i))
    (cases_lt i j)

-- a ring in the multiplied plane is one of the list
pub ring-at : (rs : List (List Edge)) (n : ℕ) → n < length rs → In (get_or (whole_rings rs) n []) (whole_rings rs)
ring-at rs n h = let s = length-map rs (edges_times (product_of_denominators (all_edges rs))) in at-in (whole_rings rs) n [] (omega arith)

-- ---- sums over places
abbrev pub Numbered : ℕ → List RingFromLeast → Type 0
Numbered n [] = Unit {0}
Numbered n (b ∷ bs) = (b.place ≡ n) × Numbered (suc n) bs

numbered-by : (n : ℕ) (bs : List RingFromLeast) → ((k : ℕ) (d : RingFromLeast) → k < length bs → (get_or bs k d).place ≡ n + k) → Numbered n bs
numbered-by n [] h = tt
numbered-by n (b ∷ bs) h = (
  (let e = h 0 b (omega arith) in omega arith),
  numbered-by (suc n) bs (λ k d l. let e = h (suc k) d (omega arith) in omega arith),
)

-- of a sum over places only one term is left
none-sum-at : (n : ℕ) (bs : List RingFromLeast) (G : ℕ → ℕ) (h : ℕ) → Numbered n bs → ((p : ℕ) → p ≢ h → G p ≡ 0) → h < n → total (λ (b : RingFromLeast). G b.place) bs ≡ 0
none-sum-at n [] G h are none l = refl
none-sum-at n (b ∷ bs) G h are none l =
    let e = are.0 in
    let a = none b.place (λ q. absurd (omega arith)) in let c = none-sum-at (suc n) bs G h are.1 none (omega arith) in omega arith

one-sum-at : (n : ℕ) (bs : List RingFromLeast) (G : ℕ → ℕ) (h : ℕ) → Numbered n bs → ((p : ℕ) → p ≢ h → G p ≡ 0) → n ≤ h → h < n + length bs → total (λ (b : RingFromLeast). G b.place) bs ≡ G h
one-sum-at n [] G h are none l m = absurd (omega arith)
one-sum-at n (b ∷ bs) G h are none l m = ⊎_elim
    (λ (k : n < h).
    let e = are.0 in
    let a = none b.place (λ q. absurd (omega arith)) in let c = one-sum-at (suc n) bs G h are.1 none (omega arith) (omega arith) in omega arith)
    (λ (k : h ≤ n).
    let e : b.place ≡ h = let p = are.0 in omega arith in
    let a = ap G e in let c = none-sum-at (suc n) bs G h are.1 none (omega arith) in omega arith)
    (cases_lt n h)

most-sum-at : (n : ℕ) (bs : List RingFromLeast) (G : ℕ → ℕ) (h : ℕ) → Numbered n bs → ((p : ℕ) → p ≢ h → G p ≡ 0) → total (λ (b : RingFromLeast). G b.place) bs ≤ G h
most-sum-at n [] G h are none = omega arith
most-sum-at n (b ∷ bs) G h are none = ⊎_elim
    (λ (k : n < h).
    let e = are.0 in
    let a = none b.place (λ q. absurd (omega arith)) in let c = most-sum-at (suc n) bs G h are.1 none in omega arith)
    (λ (k : h ≤ n). ⊎_elim
    (λ (m : h < n). let a = none-sum-at n (b ∷ bs) G h are none m in omega arith)
    (λ (m : n ≤ h).
    let e : b.place ≡ h = let p = are.0 in omega arith in
    let a = ap G e in let c = none-sum-at (suc n) bs G h are.1 none (omega arith) in omega arith)
    (cases_lt h n))
    (cases_lt n h)

all-sum-at : {X : Type 0} (f : X → ℕ) (d : X) (rs : List X) (n : ℕ) (bs : List RingFromLeast) (H : ℕ → ℕ) → Numbered n bs → length bs ≡ length rs → ((k : ℕ) → k < length rs → H (n + k) ≡ f (get_or rs k d)) → total (λ (b : RingFromLeast). H b.place) bs ≡ total f rs
all-sum-at f d [] n [] H are size h = refl
all-sum-at f d [] n (b ∷ bs) H are size h = absurd (omega arith)
all-sum-at f d (r ∷ rs) n [] H are size h = absurd (omega arith)
all-sum-at f d (r ∷ rs) n (b ∷ bs) H are size h =
    let a : H b.place ≡ f r = ap H (let p = are.0 in let e : b.place ≡ n + 0 = omega arith in e) ∙ h 0 (omega arith) in
    let c = all-sum-at f d rs (suc n) bs H are.1 (omega arith) (λ k l. ap H (let e : suc n + k ≡ n + suc k = omega arith in e) ∙ h (suc k) (omega arith)) in
    omega arith

-- ---- a list in another order than that of the places
module _ (rs : List (List Edge)) (listed bs : List RingFromLeast) (are : AreListed rs (length rs) listed) (moved : IsPermutation listed bs) where
  numbered : Numbered 0 listed
  numbered = numbered-by 0 listed (λ k d l. let s = are.sized in let e = (are.each k d (omega arith)).here in omega arith)

  abbrev Stands : RingFromLeast → Type 0
  Stands b = (b.place < length rs) × IsFromLeastAt (get_or rs b.place []) b.place b

  pub stand : All Stands bs
  stand = All-permutation Stands listed bs moved (λ k d l.
      let s = are.sized in
      let b = get_or listed k d in
      let is = are.each k d (omega arith) in
      let here : b.place ≡ k = is.here in
      (omega arith, subst (λ n. IsFromLeastAt (get_or rs n []) n b) (sym here) is))

  same-sum : (G : RingFromLeast → ℕ) → total G bs ≡ total G listed
  same-sum G = total-is G bs ∙ (sum_by-IsPermutation G listed bs moved ∙ sym (total-is G listed))

  pub sum-one : (G : ℕ → ℕ) (h : ℕ) → ((p : ℕ) → p ≢ h → G p ≡ 0) → h < length rs → total (λ (b : RingFromLeast). G b.place) bs ≡ G h
  sum-one G h none l = let s = are.sized in same-sum (λ (b : RingFromLeast). G b.place) ∙ one-sum-at 0 listed G h numbered none (omega arith) (omega arith)

  pub sum-all : (f : List Edge → ℕ) → total (λ (b : RingFromLeast). f (get_or rs b.place [])) bs ≡ total f rs
  sum-all f = same-sum (λ (b : RingFromLeast). f (get_or rs b.place [])) ∙ all-sum-at f [] rs 0 listed (λ n. f (get_or rs n [])) numbered are.sized (λ k l. ap (λ n. f (get_or rs n [])) (let e : 0 + k ≡ k = omega arith in e))

  abbrev is_at : ℕ → ℕ → ℕ
  is_at h p = bit (nat_eq h p)

  not-at : (h p : ℕ) → p ≢ h → is_at h p ≡ 0
  not-at h p n = by (nat_eq h p) refl
    where
      by : (b : Bool) → nat_eq h p ≡ b → bit (nat_eq h p) ≡ 0
      by true e = absurd (n (sym (eqb-true h p e)))
      by false e = ap bit e

  at-itself : (h : ℕ) → is_at h h ≡ 1
  at-itself h = ap bit (eq-eqb h h refl)

  once-by : (cs : List RingFromLeast) → ((h : ℕ) → total (λ (b : RingFromLeast). is_at h b.place) cs ≤ 1) → AllPairs (λ (b c : RingFromLeast). b.place ≢ c.place) cs
  once-by [] most = λ i j d l m. absurd (omega arith)
  once-by (b ∷ cs) most = AllPairs-cons (λ (b c : RingFromLeast). b.place ≢ c.place) b cs
      (all-in (λ (c : RingFromLeast). b.place ≢ c.place) cs (λ c i e.
      let a = at-itself b.place in
      let s : is_at b.place c.place ≡ 1 = ap (is_at b.place) (sym e) ∙ a in
      let t = total-member (λ (x : RingFromLeast). is_at b.place x.place) cs c i in
      let u = most b.place in absurd (omega arith)))
      (once-by cs (λ h. let u = most h in omega arith))

  pub placed : ArePlaced (length rs) bs
  placed = record {
    within = λ k d l. (stand k d l).0;
    once = once-by bs (λ h.
        let a = same-sum (λ (b : RingFromLeast). is_at h b.place) in
        let m = most-sum-at 0 listed (is_at h) h numbered (not-at h) in
        let s = at-itself h in omega arith);
  }
