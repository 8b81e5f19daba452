-- Lists parted, and cyclic lists begun elsewhere.
use Rattle.std.proofs.Common.{List, [], ap, inl, inr, refl, subst, sym, ◌++◌, ◌∙◌, ◌∷◌, ◌≡◌, ◌⊎◌}
use Rattle.plane_lists.specs.Rings.Walk.{Follow, IsCycle, last}
use Rattle.lists.specs.Member.{EachPair, In}
use Rattle.plane_lists.proofs.NestingKit.{take, follow-join, follow-left, follow-right, last-append, append-assoc}
use Rattle.lists.proofs.ListsKit.{in-either, in-left, in-right, pairs-across, pairs-append, pairs-left, pairs-right}

-- the list, parted at two members
abbrev pub Parted : {X : Type 0} → X → X → List X → Type 0
Parted {X} x y l = (a : List X) × (b : List X) × (c : List X) × (l ≡ (a ++ (x ∷ b)) ++ (y ∷ c))

later : {X : Type 0} (x y z : X) (l : List X) → (Parted x y l) ⊎ (Parted y x l) → (Parted x y (z ∷ l)) ⊎ (Parted y x (z ∷ l))
later x y z l (inl p) = inl (z ∷ p.0, p.1, p.2, ap (λ k. z ∷ k) p.3)
later x y z l (inr p) = inr (z ∷ p.0, p.1, p.2, ap (λ k. z ∷ k) p.3)

pub part-two : {X : Type 0} (x y : X) (l : List X) → (x ≡ y → ⊥) → In x l → In y l → (Parted x y l) ⊎ (Parted y x l)
part-two x y [] n i j = absurd i
part-two x y (z ∷ l) n (inl p) (inl q) = absurd (n (p ∙ sym q))
part-two x y (z ∷ l) n (inl p) (inr j) = let r = take y l j in inl ([], r.0, r.1, ap (λ k. k ∷ l) (sym p) ∙ ap (λ k. x ∷ k) r.2)
part-two x y (z ∷ l) n (inr i) (inl q) = let r = take x l i in inr ([], r.0, r.1, ap (λ k. k ∷ l) (sym q) ∙ ap (λ k. y ∷ k) r.2)
part-two x y (z ∷ l) n (inr i) (inr j) = later x y z l (part-two x y l n i j)

-- a cycle begun elsewhere
pub cycle-turned : {X : Type 0} (T : X → X → Type 0) (a b : List X) → IsCycle T (a ++ b) → IsCycle T (b ++ a)
cycle-turned T a b k =
    let z = k.end in let u = last z a in let q : last u b ≡ z = sym (last-append z a b) ∙ k.closed in
    record {
      end = u;
      closed = last-append u b a ∙ ap (λ y. last y a) q;
      steps = follow-join T u b a (follow-right T z a b k.steps) (subst (λ y. Follow T y a) (sym q) (follow-left T z a b k.steps));
    }

pub pairs-turned : {X : Type 0} (R : X → X → Type 0) → ((x y : X) → R x y → R y x) → (a b : List X) → EachPair R (a ++ b) → EachPair R (b ++ a)
pairs-turned R s a b p = pairs-append R b a (pairs-right R a b p) (pairs-left R a b p) (λ x y i j. s y x (pairs-across R a b y x p j i))

in-turned-by : {X : Type 0} (a b : List X) (x : X) → (In x a) ⊎ (In x b) → In x (b ++ a)
in-turned-by a b x (inl i) = in-right b a x i
in-turned-by a b x (inr i) = in-left b a x i

pub in-turned : {X : Type 0} (a b : List X) (x : X) → In x (a ++ b) → In x (b ++ a)
in-turned a b x i = in-turned-by a b x (in-either a b x i)

-- ---- two lists that are one, parted at two places
pub record Overlap {X : Type 0} (a b c d : List X) : Type 0 where
  pub middle : List X
  pub longer : c ≡ a ++ middle
  pub shorter : b ≡ middle ++ d

cons-head : {X : Type 0} (x y : X) (xs ys : List X) → x ∷ xs ≡ y ∷ ys → x ≡ y
cons-head x y xs ys h = cc h

cons-tail : {X : Type 0} (x y : X) (xs ys : List X) → x ∷ xs ≡ y ∷ ys → xs ≡ ys
cons-tail x y xs ys h = cc h

overlap-more : {X : Type 0} (x y : X) (a b c d : List X) → x ≡ y → (Overlap a b c d) ⊎ (Overlap c d a b) → (Overlap (x ∷ a) b (y ∷ c) d) ⊎ (Overlap (y ∷ c) d (x ∷ a) b)
overlap-more x y a b c d q (inl o) = inl (record { middle = o.middle; longer = ap (λ k. y ∷ k) o.longer ∙ ap (λ k. k ∷ (a ++ o.middle)) (sym q); shorter = o.shorter })
overlap-more x y a b c d q (inr o) = inr (record { middle = o.middle; longer = ap (λ k. x ∷ k) o.longer ∙ ap (λ k. k ∷ (c ++ o.middle)) q; shorter = o.shorter })

pub overlap : {X : Type 0} (a b c d : List X) → a ++ b ≡ c ++ d → (Overlap a b c d) ⊎ (Overlap c d a b)
overlap [] b c d h = inl (record { middle = c; longer = refl; shorter = h })
overlap (x ∷ a) b [] d h = inr (record { middle = x ∷ a; longer = refl; shorter = sym h })
overlap (x ∷ a) b (y ∷ c) d h = overlap-more x y a b c d (cons-head x y (a ++ b) (c ++ d) h) (overlap a b c d (cons-tail x y (a ++ b) (c ++ d) h))

-- ---- two lists that follow one map
module _ {X : Type 0} (T : X → X → Type 0) (one : (z x y : X) → T z x → T z y → x ≡ y) (e : X) where
  -- up to e, which stands in each at the end alone
  pub same-following : (z : X) (xs ys : List X) → (In e xs → ⊥) → (In e ys → ⊥) → Follow T z (xs ++ (e ∷ [])) → Follow T z (ys ++ (e ∷ [])) → xs ≡ ys
  same-following z [] [] n m h k = refl
  same-following z [] (y ∷ ys) n m h k = absurd (m (inl (one z e y h.0 k.0)))
  same-following z (x ∷ xs) [] n m h k = absurd (n (inl (one z e x k.0 h.0)))
  same-following z (x ∷ xs) (y ∷ ys) n m h k =
      let q = one z x y h.0 k.0 in
      ap (λ w. w ∷ xs) q ∙ ap (λ l. y ∷ l) (same-following y xs ys (λ i. n (inr i)) (λ i. m (inr i)) (subst (λ w. Follow T w (xs ++ (e ∷ []))) q h.1) k.1)

-- ---- begun elsewhere, twice
abbrev pub Turned : {X : Type 0} → List X → List X → Type 0
Turned {X} p q = (a : List X) × (b : List X) × (p ≡ a ++ b) × (q ≡ b ++ a)

turned-by : {X : Type 0} (p q a b c d : List X) → p ≡ a ++ b → q ≡ c ++ d → (Overlap b a d c) ⊎ (Overlap d c b a) → Turned p q
turned-by p q a b c d h k (inl o) = (
  o.middle,
  c ++ b,
  h ∙ ap (λ l. l ++ b) o.shorter ∙ sym (append-assoc o.middle c b),
  k ∙ ap (λ l. c ++ l) o.longer ∙ append-assoc c b o.middle,
)
turned-by p q a b c d h k (inr o) = (
  a ++ d,
  o.middle,
  h ∙ ap (λ l. a ++ l) o.longer ∙ append-assoc a d o.middle,
  k ∙ ap (λ l. l ++ d) o.shorter ∙ sym (append-assoc o.middle a d),
)

pub turned-through : {X : Type 0} (p q a b c d : List X) → p ≡ a ++ b → q ≡ c ++ d → b ++ a ≡ d ++ c → Turned p q
turned-through p q a b c d h k e = turned-by p q a b c d h k (overlap b a d c e)

-- ---- a list begun after one of its elements
abbrev pub EndsAt : {X : Type 0} → X → List X → Type 0
EndsAt {X} x l = (a : List X) × (b : List X) × (l ≡ (a ++ (x ∷ [])) ++ b)

pub ends-at : {X : Type 0} (x : X) (l : List X) → In x l → EndsAt x l
ends-at x l i = let r = take x l i in (r.0, r.1, r.2 ∙ append-assoc r.0 (x ∷ []) r.1)
