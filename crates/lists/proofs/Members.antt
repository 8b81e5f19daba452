-- Members of a list, and sums over them.
use Rattle.std.proofs.Common.{All, AllPairs, Bool, List, [], ap, arith, cond, false, inl, inr, map, refl, subst, suc, sym, true, ℕ, ◌++◌, ◌+◌, ◌<◌, ◌∷◌, ◌≡◌, ◌≤◌, ◌⊎◌}
use Rattle.std.proofs.lemmas.List.Elements.{All-cons, All-head, All-nil, All-tail}
use Rattle.std.specs.List.{filter}
use Rattle.lists.specs.Member.{EachPair, In}
use Rattle.lists.proofs.Sums.{total}

pub in-all : {X : Type 0} (P : X → Type 0) (xs : List X) (y : X) → All P xs → In y xs → P y
in-all P [] y h i = absurd i
in-all P (x ∷ xs) y h (inl e) = subst P (sym e) (All-head P x xs h)
in-all P (x ∷ xs) y h (inr i) = in-all P xs y (All-tail P x xs h) i

pub all-in : {X : Type 0} (P : X → Type 0) (xs : List X) → ((y : X) → In y xs → P y) → All P xs
all-in P [] h = All-nil P
all-in P (x ∷ xs) h = All-cons P x xs (h x (inl refl)) (all-in P xs (λ y i. h y (inr i)))

pub total-same : {X : Type 0} (f g : X → ℕ) (xs : List X) → ((y : X) → In y xs → f y ≡ g y) → total f xs ≡ total g xs
total-same f g [] h = refl
total-same f g (x ∷ xs) h = let a = h x (inl refl) in let b = total-same f g xs (λ y i. h y (inr i)) in omega arith

pub total-less : {X : Type 0} (f g : X → ℕ) (xs : List X) → ((y : X) → In y xs → f y ≤ g y) → total f xs ≤ total g xs
total-less f g [] h = omega arith
total-less f g (x ∷ xs) h = let a = h x (inl refl) in let b = total-less f g xs (λ y i. h y (inr i)) in omega arith

pub total-below : {X : Type 0} (f g : X → ℕ) (xs : List X) (z : X) → ((y : X) → In y xs → f y ≤ g y) → In z xs → f z < g z → total f xs < total g xs
total-below f g [] z h i l = absurd i
total-below f g (x ∷ xs) z h (inl e) l =
    let a : f x < g x = subst (λ u. f u < g u) e l in let b = total-less f g xs (λ y i. h y (inr i)) in omega arith
total-below f g (x ∷ xs) z h (inr i) l = let a = h x (inl refl) in let b = total-below f g xs z (λ y j. h y (inr j)) i l in omega arith

pub total_none : {X : Type 0} (f : X → ℕ) (xs : List X) → ((y : X) → In y xs → f y ≡ 0) → total f xs ≡ 0
total_none f [] h = refl
total_none f (x ∷ xs) h = let a = h x (inl refl) in let b = total_none f xs (λ y i. h y (inr i)) in omega arith

-- a sum over what a filter keeps
filter-step : {X : Type 0} (f : X → ℕ) (x : X) (ys : List X) (b : Bool) → total f (cond b (x ∷ ys) ys) ≡ cond b (f x) 0 + total f ys
filter-step f x ys true = refl
filter-step f x ys false = omega arith

pub total-filter : {X : Type 0} (p : X → Bool) (f : X → ℕ) (xs : List X) → total f (filter p xs) ≡ total (λ x. cond (p x) (f x) 0) xs
total-filter p f [] = refl
total-filter p f (x ∷ xs) = let a = filter-step f x (filter p xs) (p x) in let b = total-filter p f xs in omega arith

in-cons : {X : Type 0} (y x : X) (xs ys : List X) (b : Bool) → In y (cond b (x ∷ ys) ys) → (In y ys → In y xs) → In y (x ∷ xs)
in-cons y x xs ys true (inl e) k = inl e
in-cons y x xs ys true (inr i) k = inr (k i)
in-cons y x xs ys false i k = inr (k i)

pub in-filter : {X : Type 0} (p : X → Bool) (xs : List X) (y : X) → In y (filter p xs) → In y xs
in-filter p [] y i = i
in-filter p (x ∷ xs) y i = in-cons y x xs (filter p xs) (p x) i (in-filter p xs y)

passes-step : {X : Type 0} (p : X → Bool) (y x : X) (ys : List X) (b : Bool) → p x ≡ b → (In y ys → p y ≡ true) → In y (cond b (x ∷ ys) ys) → p y ≡ true
passes-step p y x ys true h k (inl e) = subst (λ u. p u ≡ true) (sym e) h
passes-step p y x ys true h k (inr i) = k i
passes-step p y x ys false h k i = k i

pub in-passes : {X : Type 0} (p : X → Bool) (xs : List X) (y : X) → In y (filter p xs) → p y ≡ true
in-passes p [] y i = absurd i
in-passes p (x ∷ xs) y i = passes-step p y x (filter p xs) (p x) refl (in-passes p xs y) i

into-step : {X : Type 0} (p : X → Bool) (y x : X) (ys : List X) (b : Bool) → p x ≡ b → p y ≡ true → (y ≡ x) ⊎ (In y ys) → In y (cond b (x ∷ ys) ys)
into-step p y x ys true h k (inl e) = inl e
into-step p y x ys true h k (inr i) = inr i
into-step p y x ys false h k (inl e) = let g = ap p e in absurd (cc g)
into-step p y x ys false h k (inr i) = i

pub into-filter : {X : Type 0} (p : X → Bool) (xs : List X) (y : X) → In y xs → p y ≡ true → In y (filter p xs)
into-filter p [] y i h = i
into-filter p (x ∷ xs) y (inl e) h = into-step p y x (filter p xs) (p x) refl h (inl e)
into-filter p (x ∷ xs) y (inr i) h = into-step p y x (filter p xs) (p x) refl h (inr (into-filter p xs y i h))

pairs-step : {X : Type 0} (R : X → X → Type 0) (x : X) (ys : List X) (b : Bool) → All (R x) ys → EachPair R ys → EachPair R (cond b (x ∷ ys) ys)
pairs-step R x ys true h k = (h, k)
pairs-step R x ys false h k = k

pub pairs-filter : {X : Type 0} (R : X → X → Type 0) (p : X → Bool) (xs : List X) → EachPair R xs → EachPair R (filter p xs)
pairs-filter R p [] h = tt
pairs-filter R p (x ∷ xs) h =
    pairs-step R x (filter p xs) (p x) (all-in (R x) (filter p xs) (λ y i. in-all (R x) xs y h.0 (in-filter p xs y i))) (pairs-filter R p xs h.1)

pub pairs-weaker : {X : Type 0} (R S : X → X → Type 0) (xs : List X) → ((x y : X) → In x xs → In y xs → R x y → S x y) → EachPair R xs → EachPair S xs
pairs-weaker R S [] h k = tt
pairs-weaker R S (x ∷ xs) h k =
    (all-in (S x) xs (λ y i. h x y (inl refl) (inr i) (in-all (R x) xs y k.0 i)), pairs-weaker R S xs (λ a b i j. h a b (inr i) (inr j)) k.1)

pub in-map-out : {X Y : Type 0} (f : X → Y) (xs : List X) (y : Y) → In y (map f xs) → (x : X) × In x xs × (y ≡ f x)
in-map-out f [] y i = absurd i
in-map-out f (x ∷ xs) y (inl e) = (x, inl refl, e)
in-map-out f (x ∷ xs) y (inr i) = let r = in-map-out f xs y i in (r.0, inr r.1, r.2)

pub in-map : {X Y : Type 0} (f : X → Y) (xs : List X) (x : X) → In x xs → In (f x) (map f xs)
in-map f [] x i = i
in-map f (y ∷ ys) x (inl e) = inl (ap f e)
in-map f (y ∷ ys) x (inr i) = inr (in-map f ys x i)

pub from-map : {X Y : Type 0} (P : Y → Type 0) (f : X → Y) (xs : List X) → ((x : X) → In x xs → P (f x)) → (y : Y) → In y (map f xs) → P y
from-map P f [] h y i = absurd i
from-map P f (x ∷ xs) h y (inl e) = subst P (sym e) (h x (inl refl))
from-map P f (x ∷ xs) h y (inr i) = from-map P f xs (λ z j. h z (inr j)) y i

-- ---- two lists as one
pub in-left : {X : Type 0} (xs ys : List X) (x : X) → In x xs → In x (xs ++ ys)
in-left [] ys x i = absurd i
in-left (z ∷ zs) ys x (inl e) = inl e
in-left (z ∷ zs) ys x (inr i) = inr (in-left zs ys x i)

pub in-right : {X : Type 0} (xs ys : List X) (x : X) → In x ys → In x (xs ++ ys)
in-right [] ys x i = i
in-right (z ∷ zs) ys x i = inr (in-right zs ys x i)

later : {X : Type 0} (z x : X) (zs ys : List X) → (In x zs) ⊎ (In x ys) → (In x (z ∷ zs)) ⊎ (In x ys)
later z x zs ys (inl i) = inl (inr i)
later z x zs ys (inr i) = inr i

pub in-either : {X : Type 0} (xs ys : List X) (x : X) → In x (xs ++ ys) → (In x xs) ⊎ (In x ys)
in-either [] ys x i = inr i
in-either (z ∷ zs) ys x (inl e) = inl (inl e)
in-either (z ∷ zs) ys x (inr i) = later z x zs ys (in-either zs ys x i)

pub all-either : {X : Type 0} (P : X → Type 0) (xs ys : List X) (x : X) → ((y : X) → In y xs → P y) → ((y : X) → In y ys → P y) → (In x xs) ⊎ (In x ys) → P x
all-either P xs ys x h k (inl i) = h x i
all-either P xs ys x h k (inr i) = k x i

pub pairs-append : {X : Type 0} (R : X → X → Type 0) (xs ys : List X) → EachPair R xs → EachPair R ys → ((x y : X) → In x xs → In y ys → R x y) → EachPair R (xs ++ ys)
pairs-append R [] ys h k c = k
pairs-append R (x ∷ xs) ys h k c = (
  all-in (R x) (xs ++ ys) (λ y i. all-either (R x) xs ys y (λ z j. in-all (R x) xs z h.0 j) (λ z j. c x z (inl refl) j) (in-either xs ys y i)),
  pairs-append R xs ys h.1 k (λ a b i j. c a b (inr i) j),
)

-- ---- parts of a list
pub pairs-left : {X : Type 0} (R : X → X → Type 0) (xs ys : List X) → EachPair R (xs ++ ys) → EachPair R xs
pairs-left R [] ys h = tt
pairs-left R (x ∷ xs) ys h = (all-in (R x) xs (λ y i. in-all (R x) (xs ++ ys) y h.0 (in-left xs ys y i)), pairs-left R xs ys h.1)

pub pairs-right : {X : Type 0} (R : X → X → Type 0) (xs ys : List X) → EachPair R (xs ++ ys) → EachPair R ys
pairs-right R [] ys h = h
pairs-right R (x ∷ xs) ys h = pairs-right R xs ys h.1

pub pairs-across : {X : Type 0} (R : X → X → Type 0) (xs ys : List X) (x y : X) → EachPair R (xs ++ ys) → In x xs → In y ys → R x y
pairs-across R [] ys x y h i j = absurd i
pairs-across R (z ∷ zs) ys x y h (inl e) j = subst (λ w. R w y) (sym e) (in-all (R z) (zs ++ ys) y h.0 (in-right zs ys y j))
pairs-across R (z ∷ zs) ys x y h (inr i) j = pairs-across R zs ys x y h.1 i j

-- ---- pairs of what stands in a list, and of what a function makes of it
pub pairs-each : {X : Type 0} (R : X → X → Type 0) (xs : List X) → AllPairs R xs → EachPair R xs
pairs-each R [] h = tt
pairs-each R (x ∷ xs) h = ((λ k d l. h 0 (suc k) d (omega arith) (omega arith)), pairs-each R xs (λ i j d l m. h (suc i) (suc j) d (omega arith) (omega arith)))

pub pairs-map : {X Y : Type 0} (f : X → Y) (R : X → X → Type 0) (S : Y → Y → Type 0) (xs : List X) → ((x y : X) → R x y → S (f x) (f y)) → EachPair R xs → EachPair S (map f xs)
pairs-map f R S [] h p = tt
pairs-map f R S (x ∷ xs) h p =
    (all-in (S (f x)) (map f xs) (λ y i. let r = in-map-out f xs y i in subst (λ w. S (f x) w) (sym r.2) (h x r.0 (in-all (R x) xs r.0 p.0 r.1))), pairs-map f R S xs h p.1)

pub pairs-into-map : {X Y : Type 0} (R : Y → Y → Type 0) (f : X → Y) (xs : List X) → EachPair (λ x y. R (f x) (f y)) xs → EachPair R (map f xs)
pairs-into-map R f xs h = pairs-map f (λ x y. R (f x) (f y)) R xs (λ x y r. r) h

pub pairs-out-of-map : {X Y : Type 0} (R : Y → Y → Type 0) (f : X → Y) (xs : List X) → EachPair R (map f xs) → EachPair (λ x y. R (f x) (f y)) xs
pairs-out-of-map R f [] h = tt
pairs-out-of-map R f (x ∷ xs) h =
    (all-in (λ y. R (f x) (f y)) xs (λ y i. in-all (R (f x)) (map f xs) (f y) h.0 (in-map f xs y i)), pairs-out-of-map R f xs h.1)
